use Rattle.std.proofs.Common.{sym, ◌∙◌}
use Rattle.snow_plain.proofs.Alone.{decides_final, decides_open}
use Rattle.snow_plain.proofs.only_child.OnlyChild.decides.Goals as goal

pub returns-then-is_final : goal.returns-then-is_final
returns-then-is_final c =
    let only_child = c.args.self.now in
    c.is.ensures ∙ sym (decides_final only_child.counter only_child.child c.args.id.now (sym c.is_final.ensures ∙ c.if-is_final.true))

pub returns-else-is_final : goal.returns-else-is_final
returns-else-is_final c =
    let only_child = c.args.self.now in
    c.if-is_final.false ∙ sym (decides_open only_child.counter only_child.child c.args.id.now (sym c.is_final.ensures ∙ c.if-is_final.false))
