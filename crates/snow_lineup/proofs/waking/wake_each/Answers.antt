use Rattle.std.proofs.Common.{[], ◌∷◌, map, take, sym, ap, ◌∙◌, subst, slice_index}
use Rattle.std.proofs.lemmas.List.{take_more}
use Rattle.snow_lineup.specs.Kept.Index.{woken_at}
use Rattle.snow_lineup.proofs.Placed.{rises_woken, woken_more, woken_by_none, Rises}
use Rattle.snow_lineup.proofs.waking.wake_each.Goals as goal

pub loop-place-init : goal.loop-place-init
loop-place-init g c = (woken_by_none c.args.slots.now, c.requires.within)

pub wake_one-requires-clause-rising : goal.wake_one-requires-clause-rising
wake_one-requires-clause-rising g c = subst Rises (sym c.loop-place.invariant.0) (rises_woken c.args.slots.now (take c.loop-place.place-index c.args.places.now) c.requires.rising)

pub loop-place-preserved : goal.loop-place-preserved
loop-place-preserved g c =
    let places = c.args.places.now in
    let at = c.loop-place.place-index in
    let place = slice_index places at in (
      c.wake_one.ensures.slots ∙ ap (map (woken_at (place ∷ []))) c.loop-place.invariant.0 ∙ woken_more c.args.slots.now (take at places) place
          ∙ ap (λ l. map (woken_at l) c.args.slots.now) (sym (take_more places at 0 c.loop-place-test.true)),
      c.wake_one.ensures.within,
    )
