use Rattle.snow_wire.proofs.Pieces.{pieces}
use Rattle.snow_wire.proofs.Streams.{are_frames, only_frames, apart}
use Rattle.snow_wire.proofs.laws.one_reading.Goals as goal

pub returns-clause-found : goal.returns-clause-found
returns-clause-found c = are_frames

pub returns-clause-only : goal.returns-clause-only
returns-clause-only c = only_frames

pub returns-clause-apart : goal.returns-clause-apart
returns-clause-apart c = apart

pub returns-clause-pieces : goal.returns-clause-pieces
returns-clause-pieces c = pieces
