use Rattle.std.specs.Io.KnownBytes.{Keeps}
use Rattle.snow_base.proofs.adapter.write_retrying.Given as goal

-- no byte was written yet
abbrev pub invariant-loop : goal.invariant-loop
invariant-loop g l = Keeps (g.W.Write.contents l.initial.writer) (g.W.Write.contents l.writer)
