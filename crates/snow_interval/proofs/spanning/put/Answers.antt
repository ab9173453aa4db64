-- What touches the height is known.
use Rattle.std.proofs.Common.{sym}
use Rattle.snow_interval.proofs.Apart.{first_above}
use Rattle.snow_interval.proofs.Growing.{frees, ends_before}
use Rattle.snow_interval.proofs.spanning.put.Goals as goal

pub end_at-requires-clause-above : goal.end_at-requires-clause-above
end_at-requires-clause-above c =
    let before = c.as_slice-before.result.now in
    rw (← c.as_slice-before.ensures.value)
    (frees before c.place_of-place.result c.args.height (first_above before c.place_of-place.result c.args.height c.place_of-place.ensures.place.1) (sym c.in-true-false.ensures'))

pub begin_at-requires-clause-below : goal.begin_at-requires-clause-below
begin_at-requires-clause-below c =
    let before = c.as_slice-before.result.now in
    rw (← c.as_slice-before.ensures.value)
    (ends_before before c.place_of-place.result c.args.height (rw c.as_slice-before.ensures.value c.requires.apart) c.place_of-place.ensures.within c.place_of-place.ensures.place
    (rw c.as_slice-before.ensures.value c.requires.new) (sym c.in-false-true.ensures))

pub put_alone-requires-clause-below : goal.put_alone-requires-clause-below
put_alone-requires-clause-below c =
    let before = c.as_slice-before.result.now in
    rw (← c.as_slice-before.ensures.value)
    (ends_before before c.place_of-place.result c.args.height (rw c.as_slice-before.ensures.value c.requires.apart) c.place_of-place.ensures.within c.place_of-place.ensures.place
    (rw c.as_slice-before.ensures.value c.requires.new) (sym c.in-false-false.ensures))

pub put_alone-requires-clause-above : goal.put_alone-requires-clause-above
put_alone-requires-clause-above c =
    let before = c.as_slice-before.result.now in
    rw (← c.as_slice-before.ensures.value)
    (frees before c.place_of-place.result c.args.height (first_above before c.place_of-place.result c.args.height c.place_of-place.ensures.place.1) (sym c.in-false-false.ensures'))
