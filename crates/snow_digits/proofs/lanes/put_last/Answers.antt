use Rattle.std.proofs.Common.{◌∙◌}
use Rattle.std.proofs.lemmas.Simd.{put_chunk_whole}
use Rattle.snow_digits.proofs.Sixteen.{last_eight}
use Rattle.snow_digits.proofs.lanes.put_last.Goals as goal

pub returns : goal.returns
returns c = put_chunk_whole c.args.place.now _ c.requires ∙ last_eight c.args.lanes c.fits-lanes.0
