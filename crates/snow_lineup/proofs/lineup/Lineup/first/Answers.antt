use Rattle.std.proofs.Common.{◌≡◌, map, length, sym, ap, ◌∙◌}
use Rattle.std.proofs.lemmas.List.{length-map}
use Rattle.std.specs.List.{position_or_len}
use Rattle.snow_lineup.specs.Kept.Marks.{has}
use Rattle.snow_lineup.specs.Kept.Index.{seat_of}
use Rattle.snow_lineup.proofs.Windowed.{within_narrowed}
use Rattle.snow_lineup.proofs.lineup.Lineup.first.Goals as goal

pub invariant_of-self : goal.invariant_of-self
invariant_of-self g c =
    let items = c.self.inside.slots.items in
    let seats = map seat_of items in
    let len : c.len-len.result ≡ length seats = c.len-len.ensures ∙ sym c.as_slice.ensures.len ∙ ap (λ l. length l) c.as_slice.ensures.value ∙ sym (length-map items seat_of) in
    let at = c.first_in-at.ensures ∙ ap (λ l. position_or_len (has c.args.mark) (map seat_of l)) c.as_slice.ensures.value in (
      c.self.invariant.0,
      rw (c.narrowed-self-inside.ensures, len) (within_narrowed c.args.mark seats c.self.inside.windows c.first_in-at.result c.self.invariant.1 at),
    )
