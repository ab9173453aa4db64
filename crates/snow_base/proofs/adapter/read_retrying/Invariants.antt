use Rattle.std.specs.Io.KnownBytes.{Keeps}
use Rattle.snow_base.proofs.adapter.read_retrying.Given as goal

-- no byte was read yet
abbrev pub invariant-loop : goal.invariant-loop
invariant-loop g l = Keeps (g.R.Read.remaining l.initial.reader) (g.R.Read.remaining l.reader)
