-- The new place stands behind all others.
use Rattle.std.proofs.Common.{false, List, length, sym, ap, subst, arith}
use Rattle.std.proofs.lemmas.List.{length_push}
use Rattle.snow_held.specs.declared.roll.Place.{Place}
use Rattle.snow_held.specs.Kept.Roll.{entries_of, Rises}
use Rattle.snow_held.proofs.Ranged.{one_more, rises_more, in_order, few}
use Rattle.snow_held.proofs.roll.Roll.push.Goals as goal
use Rattle.snow_held.proofs.roll.Roll.push.Goals.{In_ok-push}

pub returns-in_err-push-clause-sorted : goal.returns-in_err-push-clause-sorted
returns-in_err-push-clause-sorted c = in_order _ (subst Rises (sym c.in_err-push.ensures.items) c.tidy.ensures.rises)

pub overflow_add-self : goal.overflow_add-self
overflow_add-self c = omega (arith, c.self.invariant.count, few c.self.inside.places.items, c.self.inside.places.ok.0)

new : (c : In_ok-push) → Rises c.push.new.self.items
new c = subst Rises (sym c.in_ok-push.ensures.items) (rises_more c.tidy.new.places.items (record { arrival = c.args.arrival; kept = c.args.kept; left = false }) c.tidy.ensures.rises c.tidy.ensures.below)

pub invariant_of-self-2 : goal.invariant_of-self-2
invariant_of-self-2 c = record {
  rises = new (goal.at.invariant_of-self-2 c).In_ok-push;
  count =
      let more = ap (λ (l : List Place). length (entries_of l)) c.in_ok-push.ensures.items in
      let one = ap length (one_more c.tidy.new.places.items c.args.arrival c.args.kept) in
      let long = length_push (entries_of c.tidy.new.places.items) (c.args.arrival, c.args.kept) in
      let same = ap length c.tidy.ensures.same in
      let count = c.self.invariant.count in
      omega (arith, more, one, long, same, count);
}

pub returns-clause-sorted : goal.returns-clause-sorted
returns-clause-sorted c = in_order _ (new (goal.at.returns-clause-sorted c).In_ok-push)
