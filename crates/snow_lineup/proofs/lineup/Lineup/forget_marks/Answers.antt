use Rattle.std.proofs.Common.{◌≡◌, List, map, length, sym, ap, ◌∙◌, subst}
use Rattle.std.proofs.lemmas.List.{length-map, with_items_is}
use Rattle.snow_lineup.specs.declared.lineup.Slot.{Slot}
use Rattle.snow_lineup.specs.Kept.Index.{IsIndexed, tag_of, seat_of, reset, forgotten}
use Rattle.snow_lineup.specs.Kept.Windows.{AreWithin}
use Rattle.snow_lineup.proofs.Placed.{tags_reset, seats_reset}
use Rattle.snow_lineup.proofs.Windowed.{within_forgotten}
use Rattle.snow_lineup.proofs.lineup.Lineup.forget_marks.Goals as goal

pub invariant_of-self : goal.invariant_of-self
invariant_of-self g c =
    let inside = c.self.inside in
    let items = inside.slots.items in
    let left = with_items_is inside.slots c.forget_all.new.slots (c.forget_all.auto.slots ∙ c.deref_mut.ensures.len) ∙ c.forget_all.ensures ∙ ap (map reset) c.deref_mut.ensures.value in
    let len : c.len.result ≡ length (map seat_of items) = c.len.ensures ∙ sym c.deref_mut.ensures.len ∙ ap (λ l. length l) c.deref_mut.ensures.value ∙ sym (length-map items seat_of) in (
      subst (λ (l : List (Slot _)). IsIndexed (map (tag_of g.T.Keyed.key) l) inside.rows.rows inside.next) (sym left) (rw (tags_reset g.T.Keyed.key items) c.self.invariant.0),
      subst (λ (l : List (Slot _)). AreWithin (map seat_of l) c.all_fresh-self-inside.result) (sym left)
          (rw (seats_reset items, c.all_fresh-self-inside.ensures, len) (within_forgotten (map seat_of items))),
    )

pub returns : goal.returns
returns g c =
    let inside = c.self.inside in
    let left = with_items_is inside.slots c.forget_all.new.slots (c.forget_all.auto.slots ∙ c.deref_mut.ensures.len) ∙ c.forget_all.ensures ∙ ap (map reset) c.deref_mut.ensures.value in
    ap (map seat_of) left ∙ seats_reset inside.slots.items ∙ ap (map forgotten) c.self.view_is
