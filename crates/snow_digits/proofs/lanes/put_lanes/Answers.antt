use Rattle.std.proofs.Common.{◌∙◌, sym}
use Rattle.std.proofs.lemmas.Simd.{put_chunk_whole}
use Rattle.snow_digits.proofs.lanes.put_lanes.Goals as goal

pub returns : goal.returns
returns c = put_chunk_whole c.args.place.now c.args.lanes (c.requires ∙ sym c.fits-lanes.0)
