-- The identifier comes last, or is there.
use Rattle.std.proofs.Common.{◌≡◌, true, false, not, ◌++◌, ◌∷◌, [], bytes_eq, if◌then◌else◌, sym, ap, subst, ◌∙◌}
use Rattle.std.specs.List.{list_any}
use Rattle.std.proofs.lemmas.Bool.{not-true, not-false}
use Rattle.snow_boot.specs.Model.Electing.{collected}
use Rattle.snow_boot.specs.Kept.Surveying.{AreListed}
use Rattle.snow_boot.proofs.Elected.{was_collected, listed_more}
use Rattle.snow_boot.proofs.candidates.Candidates.collect.Goals as goal

none : (c : goal.After-push_reserved) → list_any (bytes_eq c.args.id) c.self.inside.ids ≡ false
none c = not-true (list_any (bytes_eq c.args.id) c.self.inside.ids) (sym c.in_ok-insert.ensures.is_new ∙ c.if-branch.true)

pub invariant_of-self-then-branch : goal.invariant_of-self-then-branch
invariant_of-self-then-branch c =
    let ids = c.self.inside.ids in
    let last = c.in_ok-insert.ensures.ids ∙ ap (λ b. if b then ids else ids ++ c.args.id ∷ []) (none c) in
    let list = c.push_reserved.ensures.items ∙ ap (λ l. l ++ record { id = c.args.id; weight = 0 } ∷ []) c.in_ok-reserve.ensures.items in
    subst (AreListed c.insert.new.self) (sym list) (listed_more c.self.inside.list.items ids c.insert.new.self c.args.id c.self.invariant (none c) last)

pub returns-then-branch-clause-ok : goal.returns-then-branch-clause-ok
returns-then-branch-clause-ok c =
    c.push_reserved.ensures.items ∙ ap (λ l. l ++ record { id = c.args.id; weight = 0 } ∷ []) c.in_ok-reserve.ensures.items
    ∙ sym (was_collected c.self.inside.list.items c.self.inside.ids c.args.id false c.self.invariant.same (none c)) ∙ ap (λ l. collected l c.args.id) c.self.view_is

pub returns-else-branch-clause-ok : goal.returns-else-branch-clause-ok
returns-else-branch-clause-ok c =
    let there = not-false (list_any (bytes_eq c.args.id) c.self.inside.ids) (sym c.in_ok-insert.ensures.is_new ∙ c.if-branch.false) in
    c.in_ok-reserve.ensures.items
    ∙ sym (was_collected c.self.inside.list.items c.self.inside.ids c.args.id true c.self.invariant.same there) ∙ ap (λ l. collected l c.args.id) c.self.view_is
