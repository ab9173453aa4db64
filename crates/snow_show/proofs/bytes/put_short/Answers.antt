use Rattle.std.proofs.Common.{slice_index, drop}
use Rattle.std.proofs.lemmas.List.{take_rest}
use Rattle.snow_show.proofs.Putting.{going_ends, going_on}
use Rattle.snow_show.proofs.Shortened.{runs_next, runs_none}
use Rattle.snow_show.proofs.bytes.put_short.Goals as goal

pub loop-rest-preserved : goal.loop-rest-preserved
loop-rest-preserved c =
    let rest = c.loop-rest.rest.now in
    let times = c.first_run_of-times.result in
    let split = runs_next c.loop-rest.last rest (drop times rest) (slice_index rest 0, times) c.first_run_of-times.ensures.runs in
    let on = going_on _ _ _ _ _ _ _ c.loop-rest.invariant c.in_ok-last.ensures.text split in
    rw (take_rest, c.in_ok-last.ensures.last) on

pub returns : goal.returns
returns c = going_ends _ _ _ _ c.loop-rest.invariant (runs_none _ _ c.loop-rest-test.false)
