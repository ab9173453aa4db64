use Rattle.std.proofs.Common.{None, sym, ap, subst, ◌∙◌, bytes_eq}
use Rattle.std.specs.List.Sorted.{IsPermutation}
use Rattle.std.specs.Map.{remove_entry}
use Rattle.snow_map.specs.Clauses.Entries.{value_of, HasAt}
use Rattle.snow_map.specs.Kept.Placed.{entries_of}
use Rattle.snow_map.proofs.Kept.{left, near_value, other_value, near_take, far_take}
use Rattle.snow_map.proofs.id_map.IdMap.remove.Goals as goal

pub invariant_of-self : goal.invariant_of-self
invariant_of-self g c =
    (near_take c.self.inside.near.entries c.self.inside.far c.args.id.now c.self.invariant c.take.new.near.entries (sym c.has.ensures ∙ c.if-has.true) c.take.ensures.updates.0 c.take.ensures.unique).kept

pub invariant_of-self-else-has : goal.invariant_of-self-else-has
invariant_of-self-else-has g c =
    let take = c.take-else-has in
    (far_take c.self.inside.near.entries c.self.inside.far c.args.id.now c.self.invariant take.new.self (sym c.has.ensures ∙ c.if-has.false) take.ensures.updates take.ensures.once).kept

pub returns-then-has-clause-value : goal.returns-then-has-clause-value
returns-then-has-clause-value g c =
    c.take.ensures.value ∙ sym (near_value c.self.inside.near.entries c.self.inside.far c.args.id.now c.self.invariant (sym c.has.ensures ∙ c.if-has.true))
    ∙ ap (λ l. value_of l c.args.id.now) c.self.view_is

pub returns-then-has-clause-updates : goal.returns-then-has-clause-updates
returns-then-has-clause-updates g c =
    let near = c.self.inside.near.entries in
    let far = c.self.inside.far in
    subst (λ l. HasAt l (entries_of c.take.new.near.entries far) c.args.id.now None) c.self.view_is
    (near_take near far c.args.id.now c.self.invariant c.take.new.near.entries (sym c.has.ensures ∙ c.if-has.true) c.take.ensures.updates.0 c.take.ensures.unique).has

pub returns-then-has-clause-left : goal.returns-then-has-clause-left
returns-then-has-clause-left g c =
    let near = c.self.inside.near.entries in
    let far = c.self.inside.far in
    subst (λ l. IsPermutation (remove_entry (bytes_eq c.args.id.now) l) (entries_of c.take.new.near.entries far)) c.self.view_is
    (left near far c.args.id.now c.self.invariant c.take.new.near.entries far
    (near_take near far c.args.id.now c.self.invariant c.take.new.near.entries (sym c.has.ensures ∙ c.if-has.true) c.take.ensures.updates.0 c.take.ensures.unique))

pub returns-else-has-clause-value : goal.returns-else-has-clause-value
returns-else-has-clause-value g c =
    let take = c.take-else-has in
    take.ensures.value ∙ sym (other_value c.self.inside.near.entries c.self.inside.far c.args.id.now c.self.invariant (sym c.has.ensures ∙ c.if-has.false))
    ∙ ap (λ l. value_of l c.args.id.now) c.self.view_is

pub returns-else-has-clause-updates : goal.returns-else-has-clause-updates
returns-else-has-clause-updates g c =
    let near = c.self.inside.near.entries in
    let far = c.self.inside.far in
    let take = c.take-else-has in
    subst (λ l. HasAt l (entries_of near take.new.self) c.args.id.now None) c.self.view_is
    (far_take near far c.args.id.now c.self.invariant take.new.self (sym c.has.ensures ∙ c.if-has.false) take.ensures.updates take.ensures.once).has

pub returns-else-has-clause-left : goal.returns-else-has-clause-left
returns-else-has-clause-left g c =
    let near = c.self.inside.near.entries in
    let far = c.self.inside.far in
    let take = c.take-else-has in
    subst (λ l. IsPermutation (remove_entry (bytes_eq c.args.id.now) l) (entries_of near take.new.self)) c.self.view_is
    (left near far c.args.id.now c.self.invariant near take.new.self
    (far_take near far c.args.id.now c.self.invariant take.new.self (sym c.has.ensures ∙ c.if-has.false) take.ensures.updates take.ensures.once))
