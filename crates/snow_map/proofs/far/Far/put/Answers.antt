use Rattle.std.proofs.Common.{cond, Some, bytes_eq, sym, ap, ap₂, ◌∙◌}
use Rattle.std.specs.Map.{keys_of}
use Rattle.std.proofs.lemmas.Map.Text.{is_eq-slice_cmp}
use Rattle.snow_map.specs.Clauses.Entries.{value_of, HasAt}
use Rattle.snow_map.proofs.Kept.{noted_with}
use Rattle.snow_map.proofs.Lists.{in_order, once_in_order, when_err}
use Rattle.snow_map.proofs.far.Far.put.Given as given
use Rattle.snow_map.proofs.far.Far.put.Goals as goal

-- what stood there, by its equality in place of its order
pub returns-in_err-before-clause-absent : goal.returns-in_err-before-clause-absent
returns-in_err-before-clause-absent g c =
    when_err c.from_residual-in_err-before.result
    (ap (λ l. value_of l c.args.id) (sym c.self.view_is) ∙ sym (in_order c.self.inside.entries.entries c.args.id) ∙ c.in_err-before.ensures.absent)

puts : (g : given.Over) (c : goal.In_ok-before g) → HasAt c.self.inside.entries.entries c.insert.new.self.entries c.args.id (Some c.args.value)
puts g c q =
    sym (in_order c.insert.new.self.entries q) ∙ c.in_ok-before.ensures.updates.0 q
    ∙ ap₂ (λ b o. cond b (Some c.args.value) o) (is_eq-slice_cmp c.args.id q) (in_order c.self.inside.entries.entries q)

pub invariant_of-self-2 : goal.invariant_of-self-2
invariant_of-self-2 g c = record {
  once = once_in_order (keys_of c.insert.new.self.entries) c.in_ok-before.ensures.ordered;
  noted = noted_with c.self.inside.marks.items c.mark.new.marks.items c.self.inside.entries.entries c.insert.new.self.entries c.args.id c.args.value c.self.invariant
      c.in_ok-mark.ensures.ok (puts g c);
}

pub returns-clause-before : goal.returns-clause-before
returns-clause-before g c =
    c.in_ok-before.ensures.old ∙ in_order c.self.inside.entries.entries c.args.id ∙ ap (λ l. value_of l c.args.id) c.self.view_is

pub returns-clause-updates : goal.returns-clause-updates
returns-clause-updates g c q = puts g c q ∙ ap (λ l. cond (bytes_eq c.args.id q) (Some c.args.value) (value_of l q)) c.self.view_is

pub returns-clause-once : goal.returns-clause-once
returns-clause-once g c = once_in_order (keys_of c.insert.new.self.entries) c.in_ok-before.ensures.ordered
