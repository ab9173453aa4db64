-- A quiet reply that names the block is woken, and its number comes to the heap.
use Rattle.std.proofs.Common.{◌≡◌, Bool, true, false, ◌&&◌, cond, ◌∷◌, [], map, refl, sym, ap, ◌∙◌, subst}
use Rattle.std.specs.BinaryHeap.{heap_items, heap_len, heap_capacity}
use Rattle.std.specs.BTreeMap.{is_at}
use Rattle.std.specs.Map.{set_value}
use Rattle.std.specs.Option.{is_some}
use Rattle.std.specs.Ordering.{nat_cmp}
use Rattle.std.specs.Str.{bytes_eq}
use Rattle.std.proofs.lemmas.Bool.{and_parts}
use Rattle.snow_held.specs.declared.backlog.Kept.{Kept}
use Rattle.snow_held.specs.Kept.Arrivals.{Entries, IsBacklog, at_arrival, loud, woken_among}
use Rattle.snow_held.proofs.Stocked.{stocked_woken, room_for, missing_woken, woken_there, woken_same, changed_there}
use Rattle.snow_held.proofs.backlog.Backlog.wake.Goals as goal

pub returns-in_default : goal.returns-in_default
returns-in_default c = record {
  woken = missing_woken c.args.self.now c.args.arrival c.args.id.now (ap (λ (l : Entries). at_arrival l c.args.arrival) (sym c.self.view_is) ∙ sym c.in_default.ensures);
}

-- what is awake, or names another block, isn't changed
stays : (k : Kept) (b : Bool) → false ≡ (k.quiet && b) → k ≡ cond b (loud k) k
stays k false h = refl
stays k true h =
    let Goal : Bool → Type 0 = λ q. false ≡ (q && true) → k.quiet ≡ q → k ≡ loud k in
    elim k.quiet as Goal [
      | true ↦ λ h e. absurd cc
      | false ↦ λ h e. ap (λ q. record k { quiet = q }) e
    ] h refl

pub returns-then-not-waits_for : goal.returns-then-not-waits_for
returns-then-not-waits_for c =
    let k = c.in-Some.kept in
    record {
      woken = subst (λ (l : Entries). l ≡ map (woken_among (c.args.arrival ∷ []) c.args.id.now) l) c.self.view_is
          (woken_same c.self.inside.items c.args.arrival k c.args.id.now c.self.invariant.sorted (sym c.in-Some.ensures) (stays k (bytes_eq c.args.id.now k.reply.id) c.if-not-waits_for.ensures));
    }

pub note-requires : goal.note-requires
note-requires c =
    let inside = c.self.inside in
    let k = c.in-Some.kept in
    room_for inside.items (heap_items inside.fresh) (heap_len inside.fresh) (heap_capacity inside.fresh) c.args.arrival k c.self.invariant (sym c.in-Some.ensures)
    (and_parts k.quiet (bytes_eq c.args.id.now k.reply.id) (sym c.if-not-waits_for.ensures)).0

pub invariant_of-self : goal.invariant_of-self
invariant_of-self c =
    let inside = c.self.inside in
    let k = c.in-Some.kept in
    let after = c.note.new.fresh in
    let now = c.set.new.self in
    let there = sym c.in-Some.ensures in
    subst (λ n. IsBacklog now (heap_items after) n (heap_capacity after)) (sym c.note.ensures.len)
    (stocked_woken inside.items now (heap_items inside.fresh) (heap_items after) (heap_len inside.fresh) (heap_capacity inside.fresh) (heap_capacity after) c.args.arrival k
    c.self.invariant there (and_parts k.quiet (bytes_eq c.args.id.now k.reply.id) (sym c.if-not-waits_for.ensures)).0
    c.set.ensures (λ q. ap (λ (l : Entries). at_arrival l q) c.set.ensures ∙ changed_there inside.items c.args.arrival (loud k) (ap is_some there) q)
    c.note.ensures.order c.note.ensures.noted c.note.ensures.others c.note.ensures.room)

pub returns : goal.returns
returns c =
    let inside = c.self.inside in
    let k = c.in-Some.kept in
    record {
      woken = c.set.ensures
          ∙ ap (λ b. set_value (is_at (nat_cmp c.args.arrival)) inside.items (cond b (loud k) k)) (sym (and_parts k.quiet (bytes_eq c.args.id.now k.reply.id) (sym c.if-not-waits_for.ensures)).1)
          ∙ woken_there inside.items c.args.arrival k c.args.id.now c.self.invariant.sorted (sym c.in-Some.ensures)
          ∙ ap (map (woken_among (c.args.arrival ∷ []) c.args.id.now)) c.self.view_is;
    }
