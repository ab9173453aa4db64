-- what is told of the identifiers so far
use Rattle.std.proofs.Common.{◌≡◌, take}
use Rattle.snow_getter.specs.Model.Answer.{accepted_among}
use Rattle.snow_getter.proofs.getter.Getter.accepted_among.Given as goal

abbrev pub invariant-loop-bytes : goal.invariant-loop-bytes
invariant-loop-bytes l = l.told ≡ accepted_among l.self (take l.bytes-index l.ids)
