use Rattle.std.proofs.Common.{nat_eq, None, Some, sym, ap, subst, ◌∙◌, ◌≡◌, ◌∷◌}
use Rattle.std.specs.List.Sorted.{IsPermutation}
use Rattle.snow_map.specs.Clauses.Entries.{value_of, HasAt}
use Rattle.std.specs.Map.{lookup}
use Rattle.std.specs.Option.{IsSome}
use Rattle.snow_map.specs.Kept.Placed.{place_of, entries_of}
use Rattle.snow_map.proofs.Kept.{added, own_value, far_value, near_put, near_put_kept, far_put, far_put_kept, when_ok, when_ok_with, must_succeed, some_within}
use Rattle.snow_map.proofs.id_map.IdMap.insert.Goals as goal

pub invariant_of-self : goal.invariant_of-self
invariant_of-self g c =
    far_put_kept c.self.inside.near.entries c.self.inside.far c.args.id c.self.invariant c.put.result c.put.new.self c.args.value (sym c.is_far.ensures ∙ c.if-is_far.true) c.put.ensures.updates c.put.ensures.err c.put.ensures.once

pub invariant_of-self-else-is_far : goal.invariant_of-self-else-is_far
invariant_of-self-else-is_far g c =
    let put = c.put-else-is_far in
    near_put_kept c.self.inside.near.entries c.self.inside.far c.args.id c.self.invariant put.result put.new.near.entries c.args.value (sym c.is_far.ensures ∙ c.if-is_far.false) (when_ok put.result put.ensures.updates (λ u. u.0)) put.ensures.err put.ensures.unique

pub returns-then-is_far-clause-before : goal.returns-then-is_far-clause-before
returns-then-is_far-clause-before g c =
    let near = c.self.inside.near.entries in
    let far = c.self.inside.far in
    when_ok_with c.put.result c.put.ensures.before (λ before is. is ∙ sym (far_value near far c.args.id c.self.invariant (sym c.is_far.ensures ∙ c.if-is_far.true)) ∙ ap (λ l. value_of l c.args.id) c.self.view_is)

pub returns-then-is_far-clause-updates : goal.returns-then-is_far-clause-updates
returns-then-is_far-clause-updates g c =
    let near = c.self.inside.near.entries in
    let far = c.self.inside.far in
    when_ok c.put.result c.put.ensures.updates
    (λ puts. subst (λ l. HasAt l (entries_of near c.put.new.self) c.args.id (Some c.args.value)) c.self.view_is
    (far_put near far c.args.id c.self.invariant c.put.new.self c.args.value (sym c.is_far.ensures ∙ c.if-is_far.true) puts c.put.ensures.once).has)

pub returns-then-is_far-clause-added : goal.returns-then-is_far-clause-added
returns-then-is_far-clause-added g c =
    let near = c.self.inside.near.entries in
    let far = c.self.inside.far in
    when_ok c.put.result c.put.ensures.updates
    (λ puts. subst (λ l. value_of l c.args.id ≡ None → IsPermutation ((c.args.id, c.args.value) ∷ l) (entries_of near c.put.new.self)) c.self.view_is
    (added near far c.args.id c.self.invariant near c.put.new.self c.args.value
    (far_put near far c.args.id c.self.invariant c.put.new.self c.args.value (sym c.is_far.ensures ∙ c.if-is_far.true) puts c.put.ensures.once)))

pub returns-then-is_far-clause-succeeds : goal.returns-then-is_far-clause-succeeds
returns-then-is_far-clause-succeeds g c some =
    let near = c.self.inside.near.entries in
    let far = c.self.inside.far in
    must_succeed c.put.result (value_of far c.args.id) c.put.ensures.absent
    (subst IsSome (ap (λ l. value_of l c.args.id) (sym c.self.view_is) ∙ far_value near far c.args.id c.self.invariant (sym c.is_far.ensures ∙ c.if-is_far.true)) some)

pub returns-else-is_far-clause-before : goal.returns-else-is_far-clause-before
returns-else-is_far-clause-before g c =
    let near = c.self.inside.near.entries in
    let far = c.self.inside.far in
    let put = c.put-else-is_far in
    when_ok_with put.result put.ensures.before (λ before is. is ∙ sym (own_value near far c.args.id c.self.invariant (sym c.is_far.ensures ∙ c.if-is_far.false)) ∙ ap (λ l. value_of l c.args.id) c.self.view_is)

pub returns-else-is_far-clause-updates : goal.returns-else-is_far-clause-updates
returns-else-is_far-clause-updates g c =
    let near = c.self.inside.near.entries in
    let far = c.self.inside.far in
    let put = c.put-else-is_far in
    when_ok put.result put.ensures.updates
    (λ puts. subst (λ l. HasAt l (entries_of put.new.near.entries far) c.args.id (Some c.args.value)) c.self.view_is
    (near_put near far c.args.id c.self.invariant put.new.near.entries c.args.value (sym c.is_far.ensures ∙ c.if-is_far.false) puts.0 put.ensures.unique).has)

pub returns-else-is_far-clause-added : goal.returns-else-is_far-clause-added
returns-else-is_far-clause-added g c =
    let near = c.self.inside.near.entries in
    let far = c.self.inside.far in
    let put = c.put-else-is_far in
    when_ok put.result put.ensures.updates
    (λ puts. subst (λ l. value_of l c.args.id ≡ None → IsPermutation ((c.args.id, c.args.value) ∷ l) (entries_of put.new.near.entries far)) c.self.view_is
    (added near far c.args.id c.self.invariant put.new.near.entries far c.args.value
    (near_put near far c.args.id c.self.invariant put.new.near.entries c.args.value (sym c.is_far.ensures ∙ c.if-is_far.false) puts.0 put.ensures.unique)))

pub returns-else-is_far-clause-succeeds : goal.returns-else-is_far-clause-succeeds
returns-else-is_far-clause-succeeds g c some =
    let near = c.self.inside.near.entries in
    let far = c.self.inside.far in
    let put = c.put-else-is_far in
    must_succeed put.result (lookup (nat_eq (place_of c.args.id)) near) put.ensures.absent
    (some_within (lookup (nat_eq (place_of c.args.id)) near) (subst IsSome (ap (λ l. value_of l c.args.id) (sym c.self.view_is) ∙ own_value near far c.args.id c.self.invariant (sym c.is_far.ensures ∙ c.if-is_far.false)) some))
