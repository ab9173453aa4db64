-- The place keeps its number, and its reply is another one.
use Rattle.std.proofs.Common.{◌≡◌, length, set, refl, sym, ap, ◌∙◌}
use Rattle.std.specs.BTreeMap.{is_at}
use Rattle.std.specs.Map.{set_value}
use Rattle.std.specs.Ordering.{nat_cmp}
use Rattle.std.proofs.lemmas.Map.{length-set_value}
use Rattle.snow_held.specs.declared.roll.Place.{Place}
use Rattle.snow_held.specs.Kept.Arrivals.{Entries}
use Rattle.snow_held.specs.Kept.Roll.{entries_of}
use Rattle.snow_held.proofs.Ranged.{changed, rises_still}
use Rattle.snow_held.proofs.roll.Roll.set.Goals as goal
use Rattle.snow_held.proofs.roll.Roll.set.Goals.{After-index_mut}

after : (c : After-index_mut) → entries_of (set c.self.inside.places.items c.in-Some.at (record c.index_mut.result.now { kept = c.args.kept })) ≡ set_value (is_at (nat_cmp c.args.arrival)) (entries_of c.self.inside.places.items) c.args.kept
after c =
    let p = c.index_mut.result.now in
    let es = entries_of c.self.inside.places.items in
    changed c.self.inside.places.items c.in-Some.at p c.args.kept c.self.invariant.rises (rw c.deref.ensures.value at c.in-Some.ensures.there) c.index_mut.ensures.value
    (ap (λ (q : Place). q.left) c.index_mut.ensures.value ∙ (rw c.deref.ensures.value at (c.in-Some.ensures.here p)))
    ∙ ap (λ a. set_value (is_at (nat_cmp a)) es c.args.kept) (ap (λ (q : Place). q.arrival) c.index_mut.ensures.value ∙ (rw c.deref.ensures.value at (c.in-Some.ensures.at p)))

pub invariant_of-self : goal.invariant_of-self
invariant_of-self c = record {
  rises = rises_still c.self.inside.places.items c.in-Some.at c.index_mut.result.now (record c.index_mut.result.now { kept = c.args.kept }) c.self.invariant.rises
      (rw c.deref.ensures.value at c.in-Some.ensures.there) c.index_mut.ensures.value refl;
  count = c.self.invariant.count ∙ sym (length-set_value (is_at (nat_cmp c.args.arrival)) (entries_of c.self.inside.places.items) c.args.kept)
      ∙ ap length (sym (after (goal.at.invariant_of-self c).After-index_mut));
}

pub returns-in-Some : goal.returns-in-Some
returns-in-Some c =
    after (goal.at.returns-in-Some c).After-index_mut ∙ ap (λ (l : Entries). set_value (is_at (nat_cmp c.args.arrival)) l c.args.kept) c.self.view_is
