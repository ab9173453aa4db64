use Rattle.std.proofs.Common.{cond, None, bytes_eq, sym, ap, ap₂, subst, ◌∙◌}
use Rattle.std.specs.List.{IsDistinct}
use Rattle.std.specs.Map.{keys_of}
use Rattle.std.proofs.lemmas.Map.Text.{is_eq-slice_cmp}
use Rattle.snow_map.specs.Clauses.Entries.{value_of, HasAt}
use Rattle.snow_map.proofs.Kept.{noted_without}
use Rattle.snow_map.proofs.Lists.{in_order, once_in_order}
use Rattle.snow_map.proofs.far.Far.take.Given as given
use Rattle.snow_map.proofs.far.Far.take.Goals as goal

-- what stood there, by its equality in place of its order
taken : (g : given.Over) (c : goal.After-remove-value g) → HasAt c.self.inside.entries.entries c.remove-value.new.self.entries c.args.id.now None
taken g c q =
    sym (in_order c.remove-value.new.self.entries q) ∙ c.remove-value.ensures.updates.0 q
    ∙ ap₂ (λ b o. cond b None o) (is_eq-slice_cmp c.args.id.now q) (in_order c.self.inside.entries.entries q)

pub invariant_of-self : goal.invariant_of-self
invariant_of-self g c = record {
  once = once_in_order (keys_of c.remove-value.new.self.entries) c.remove-value.ensures.ordered;
  noted = noted_without c.self.inside.marks.items c.self.inside.entries.entries c.remove-value.new.self.entries c.args.id.now c.self.invariant (taken g c);
}

pub returns-clause-value : goal.returns-clause-value
returns-clause-value g c =
    c.remove-value.ensures.value ∙ in_order c.self.inside.entries.entries c.args.id.now ∙ ap (λ l. value_of l c.args.id.now) c.self.view_is

pub returns-clause-updates : goal.returns-clause-updates
returns-clause-updates g c q =
    ap (λ l. value_of l q) c.clear_marks.ensures ∙ taken g c.before.before q ∙ ap (λ l. cond (bytes_eq c.args.id.now q) None (value_of l q)) c.self.view_is

pub returns-clause-once : goal.returns-clause-once
returns-clause-once g c = subst (λ l. IsDistinct bytes_eq (keys_of l)) (sym c.clear_marks.ensures) (once_in_order (keys_of c.remove-value.new.self.entries) c.remove-value.ensures.ordered)
