-- The place of the reply is left.
use Rattle.std.proofs.Common.{◌≡◌, true, length, set, refl, sym, ap, ◌∙◌, subst, arith}
use Rattle.std.specs.BTreeMap.{is_at}
use Rattle.std.specs.List.Sorted.{IsStrictlySortedBy}
use Rattle.std.specs.Map.{keys_of, remove_entry}
use Rattle.std.specs.Ordering.{nat_cmp}
use Rattle.snow_held.specs.declared.roll.Place.{Place}
use Rattle.snow_held.specs.Kept.Arrivals.{Entries, at_arrival}
use Rattle.snow_held.specs.Kept.Roll.{entries_of, Rises}
use Rattle.snow_held.proofs.Ranged.{taken, none_taken, one_fewer, rises_still, in_order}
use Rattle.snow_held.proofs.roll.Roll.take.Goals as goal
use Rattle.snow_held.proofs.roll.Roll.take.Goals.{After-index_mut}

pub returns-in_err-at-clause-rest : goal.returns-in_err-at-clause-rest
returns-in_err-at-clause-rest c =
    none_taken c.args.self.now c.args.arrival (ap (λ (l : Entries). at_arrival l c.args.arrival) (sym c.self.view_is) ∙ (rw c.deref.ensures.value at c.in_err-at.ensures.none))

pub returns-in_err-at-clause-sorted : goal.returns-in_err-at-clause-sorted
returns-in_err-at-clause-sorted c =
    subst (λ (l : Entries). IsStrictlySortedBy nat_cmp (keys_of l)) c.self.view_is (in_order c.self.inside.places.items c.self.invariant.rises)

left : (c : After-index_mut) → entries_of (set c.self.inside.places.items c.in_ok-at.at (record c.index_mut.result.now { left = true })) ≡ remove_entry (is_at (nat_cmp c.args.arrival)) (entries_of c.self.inside.places.items)
left c =
    let p = c.index_mut.result.now in
    taken c.self.inside.places.items c.in_ok-at.at p c.self.invariant.rises (rw c.deref.ensures.value at c.in_ok-at.ensures.there) c.index_mut.ensures.value
    (ap (λ (q : Place). q.left) c.index_mut.ensures.value ∙ (rw c.deref.ensures.value at (c.in_ok-at.ensures.here p)))
    ∙ ap (λ a. remove_entry (is_at (nat_cmp a)) (entries_of c.self.inside.places.items)) (ap (λ (q : Place). q.arrival) c.index_mut.ensures.value ∙ (rw c.deref.ensures.value at (c.in_ok-at.ensures.at p)))

rising : (c : After-index_mut) → Rises (set c.self.inside.places.items c.in_ok-at.at (record c.index_mut.result.now { left = true }))
rising c =
    rises_still c.self.inside.places.items c.in_ok-at.at c.index_mut.result.now (record c.index_mut.result.now { left = true }) c.self.invariant.rises
    (rw c.deref.ensures.value at c.in_ok-at.ensures.there) c.index_mut.ensures.value refl

pub invariant_of-self : goal.invariant_of-self
invariant_of-self c =
    let es = entries_of c.self.inside.places.items in
    let now = (goal.at.invariant_of-self c).After-index_mut in
    record {
      rises = rising now;
      count =
          let fewer = one_fewer es c.args.arrival _ (rw c.deref.ensures.value at (c.in_ok-at.ensures.value c.index_mut.result.now)) in
          let same = ap length (left now) in
          let count = c.self.invariant.count in
          omega (arith, fewer, same, count);
    }

pub returns-clause-rest : goal.returns-clause-rest
returns-clause-rest c =
    left (goal.at.returns-clause-rest c).After-index_mut ∙ ap (remove_entry (is_at (nat_cmp c.args.arrival))) c.self.view_is

pub returns-clause-sorted : goal.returns-clause-sorted
returns-clause-sorted c = in_order _ (rising (goal.at.returns-clause-sorted c).After-index_mut)
