use Rattle.std.proofs.Common.{map, refl}
use Rattle.byteorder.specs.Endian.{big_number}
use Rattle.std.proofs.lemmas.List.{length-map}
use Rattle.snow_show.proofs.Shortened.{first_of_runs}
use Rattle.snow_show.proofs.lists.first_run_of.Goals as goal

pub returns-clause-runs : goal.returns-clause-runs
returns-clause-runs c =
    let some = c.requires in
    first_of_runs (map (big_number 8) c.args.numbers.now) c.times_of.result _ (rw (length-map c.args.numbers.now (big_number 8)) some) c.times_of.ensures.times refl
