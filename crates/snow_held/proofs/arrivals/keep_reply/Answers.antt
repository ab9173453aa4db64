use Rattle.std.proofs.Common.{true, cond, ◌&&◌, ap, ◌∙◌}
use Rattle.std.specs.BTreeMap.{is_at}
use Rattle.std.specs.Ordering.{nat_cmp}
use Rattle.snow_held.specs.Kept.Arrivals.{names}
use Rattle.snow_held.proofs.Stocked.{number_itself}
use Rattle.snow_held.proofs.Numbered.{node_itself}
use Rattle.snow_held.proofs.arrivals.keep_reply.Goals as goal

pub returns-clause-named : goal.returns-clause-named
returns-clause-named c =
    let id = c.args.kept.now.reply.id in
    let a = c.args.arrival in
    c.in_ok-name.ensures.ok id a
    ∙ ap (λ b. cond (b && is_at (nat_cmp a) a) true (names c.args.blocks.now id a)) (node_itself id)
    ∙ ap (λ b. cond b true (names c.args.blocks.now id a)) (number_itself a)
