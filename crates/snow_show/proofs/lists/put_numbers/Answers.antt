use Rattle.std.proofs.Common.{map}
use Rattle.byteorder.specs.Endian.{big_number}
use Rattle.std.proofs.lemmas.List.{length-map}
use Rattle.snow_show.proofs.Putting.{going_ends, going_on}
use Rattle.snow_show.proofs.Itemed.{numbers_next, times_end}
use Rattle.snow_show.proofs.lists.put_numbers.Goals as goal

pub loop-rest-preserved : goal.loop-rest-preserved
loop-rest-preserved c =
    going_on _ _ _ _ _ _ _ c.loop-rest.invariant c.in_ok-put_marked_run.ensures
    (numbers_next c.loop-rest.before.now c.args.gap.now c.loop-rest.rest.now _ c.read_u64.result c.first_run_of-times.result c.first_run_of-times.ensures.runs c.read_u64.ensures c.loop-rest-test.true c.split_at.ensures.back)

pub returns : goal.returns
returns c =
    let none = c.loop-rest-test.false in
    going_ends _ _ _ _ c.loop-rest.invariant (times_end _ _ (map (big_number 8) c.loop-rest.rest.now) (rw (length-map c.loop-rest.rest.now (big_number 8)) none))
