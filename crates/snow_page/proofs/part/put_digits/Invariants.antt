use Rattle.std.proofs.Common.{◌≡◌, ℕ, ◌≤◌, List, ◌++◌, Option, length}
use Rattle.hex.specs.Hex.{encode_lower}
use Rattle.snow_page.specs.Kept.Gathered.{Gathers}
use Rattle.snow_page.proofs.part.put_digits.Given as goal

-- the digits of a front were written or wait, and the other bytes are left
pub record SoFar (before : Option (List ℕ)) (held : List ℕ) (now : Option (List ℕ)) (waiting : List ℕ) (faults_before faults : ℕ) (bytes rest : List ℕ) : Type 0 where
  pub front : List ℕ
  pub all : front ++ rest ≡ bytes
  pub text : Gathers before held now waiting (encode_lower front)
  pub later : faults_before ≤ faults

abbrev pub invariant-loop-rest : goal.invariant-loop-rest
invariant-loop-rest g l =
    SoFar (g.K.Sink.written l.initial.sink) (g.G.Gather.waiting l.initial.out) (g.K.Sink.written l.sink) (g.G.Gather.waiting l.out) (g.K.Sink.faults l.initial.sink) (g.K.Sink.faults l.sink) l.bytes l.rest

abbrev pub decreases-loop-rest : goal.decreases-loop-rest
decreases-loop-rest g l = length l.rest
