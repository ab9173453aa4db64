-- The walk ends at the unit's place.
use Rattle.std.proofs.Common.{◌≡◌, ◌/◌, ◌^◌, get_or, arith}
use Rattle.std.proofs.lemmas.List.{get_or_read}
use Rattle.snow_sample.proofs.Guiding.{AreBefore, run_within, start_before, walk_ends}
use Rattle.snow_sample.proofs.guide.Guide.place.Goals as goal

pub returns-else-next-start-clause-place : goal.returns-else-next-start-clause-place
returns-else-next-start-clause-place c =
    let ends = c.args.ends.now in
    let starts = c.args.self.now.starts.items in
    let shift = c.args.self.now.shift in
    let unit = c.args.unit in
    let read : c.index.result.now ≡ get_or starts (unit / 2 ^ shift) 0 =
    get_or_read starts (unit / 2 ^ shift) c.index.result.now (omega (arith, run_within ends starts unit shift c.requires.guide)) c.index.ensures 0 in
    let before : AreBefore ends unit c.index.result.now = rw read (start_before ends starts unit shift c.requires.guide) in
    walk_ends ends unit c.index.result.now c.skip.result before c.skip.ensures.within c.skip.ensures.passed c.skip.ensures.stops c.requires.ends
