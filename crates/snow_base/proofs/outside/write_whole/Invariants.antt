use Rattle.std.proofs.Common.{◌≡◌, ℕ, ◌≤◌, List, ◌++◌, Option, length}
use Rattle.std.specs.Io.KnownBytes.{Appends}
use Rattle.snow_base.proofs.outside.write_whole.Given as goal

-- a front of the bytes is written, and the rest is left
pub record SoFar (before now : Option (List ℕ)) (faults_before faults : ℕ) (bytes rest : List ℕ) : Type 0 where
  pub front : List ℕ
  pub all : front ++ rest ≡ bytes
  pub text : Appends before now front
  pub later : faults_before ≤ faults

abbrev pub invariant-loop-rest : goal.invariant-loop-rest
invariant-loop-rest g l =
    SoFar (g.K.Sink.written l.initial.sink) (g.K.Sink.written l.sink) (g.K.Sink.faults l.initial.sink) (g.K.Sink.faults l.sink) l.bytes l.rest

abbrev pub decreases-loop-rest : goal.decreases-loop-rest
decreases-loop-rest g l = length l.rest
