use Rattle.std.proofs.Common.{◌≡◌, ℕ, ◌<◌, List, ◌++◌, map, sym, ap, ◌∙◌, subst}
use Rattle.std.specs.Option.{option_to_list}
use Rattle.std.specs.Str.{bytes_eq}
use Rattle.std.proofs.lemmas.List.{with_items_is}
use Rattle.snow_lineup.specs.declared.lineup.Slot.{Slot}
use Rattle.snow_lineup.specs.Kept.Index.{IsIndexed, tag_of, seat_of, woken, woken_at, row_of, has_place}
use Rattle.snow_lineup.specs.Kept.Windows.{AreWithin}
use Rattle.snow_lineup.proofs.Placed.{Rises, tags_woken, row_wakes}
use Rattle.snow_lineup.proofs.Tagged.{All_unmap, AllPairs_unmap}
use Rattle.snow_lineup.proofs.lineup.Lineup.wake_several.Goals as goal

pub wake_row-requires-clause-rising : goal.wake_row-requires-clause-rising
wake_row-requires-clause-rising g c =
    subst Rises (sym c.deref_mut.ensures.value) (AllPairs_unmap (λ (a b : ℕ × List ℕ). a.0 < b.0) (tag_of g.T.Keyed.key) c.self.inside.slots.items c.self.invariant.0.rising)

pub wake_row-requires-clause-within : goal.wake_row-requires-clause-within
wake_row-requires-clause-within g c =
    subst (λ (l : List (Slot _)). AreWithin (map seat_of l) c.self.inside.windows) (sym c.deref_mut.ensures.value) c.self.invariant.1

pub invariant_of-self : goal.invariant_of-self
invariant_of-self g c =
    let inside = c.self.inside in
    let items = inside.slots.items in
    let same = with_items_is inside.slots c.wake_row.new.slots (c.wake_row.auto.slots ∙ c.deref_mut.ensures.len) in
    let left = same ∙ c.wake_row.ensures.slots ∙ ap (map (woken_at (c.of-places.result.0.now ++ option_to_list c.of-places.result.1))) c.deref_mut.ensures.value in (
      subst (λ (l : List (Slot _)). IsIndexed (map (tag_of g.T.Keyed.key) l) inside.rows.rows inside.next) (sym left) (rw (tags_woken g.T.Keyed.key items (c.of-places.result.0.now ++ option_to_list c.of-places.result.1)) c.self.invariant.0),
      subst (λ (l : List (Slot _)). AreWithin (map seat_of l) c.wake_row.new.windows) (sym same) c.wake_row.ensures.within,
    )

pub returns : goal.returns
returns g c =
    let inside = c.self.inside in
    let items = inside.slots.items in
    let key = g.T.Keyed.key in
    let left = with_items_is inside.slots c.wake_row.new.slots (c.wake_row.auto.slots ∙ c.deref_mut.ensures.len) ∙ c.wake_row.ensures.slots
    ∙ ap (map (woken_at (c.of-places.result.0.now ++ option_to_list c.of-places.result.1))) c.deref_mut.ensures.value in
    let found = All_unmap (λ (t : ℕ × List ℕ). (id : List ℕ) → has_place t.0 (row_of inside.rows.rows id) ≡ bytes_eq id t.1) (tag_of key) items c.self.invariant.0.found in
    ap (map seat_of) left ∙ ap (λ row. map seat_of (map (woken_at row) items)) c.of-places.ensures
    ∙ row_wakes key items (row_of inside.rows.rows c.args.key.now) c.args.key.now (λ k d within. found k d within c.args.key.now)
    ∙ ap (map (woken key c.args.key.now)) c.self.view_is
