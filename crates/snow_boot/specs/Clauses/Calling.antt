-- What the calls of a node that bootstraps need and owe.
use Rattle.std.specs.Prelude.{◌≡◌, ℕ, ◌≤◌, Bool, true, List, [], ◌∷◌, ◌++◌, Option, Some, None, Result, Ok, Err, ⊤}
use Rattle.snow_chain.specs.Kept.Alone.{IsAlone, last_state}
use Rattle.snow_chain.specs.Model.Chain.{Held}
use Rattle.snow_gets.specs.declared.gets.Get.{Get}
use Rattle.snow_lines.specs.declared.line.Line.{Line}
use Rattle.snow_store.specs.declared.stop.BootStop.{BootStop}
use Rattle.snow_store.specs.declared.stop.BootStop.TheVariants as stop
use Rattle.snow_boot.specs.declared.boot.Stage.{Stage}
use Rattle.snow_boot.specs.declared.boot.Stage.TheVariants as stage
use Rattle.snow_boot.specs.Model.Booting.{Boot, Next, Going, Done}

-- a node that bootstraps, and whether it goes on: no stop came, and it isn't done
pub record Course : Type 0 where
  pub goes_on : Bool
  pub boot : Boot

-- the number of each open request was drawn
abbrev pub AreDrawn : List Get → ℕ → Type 0
AreDrawn [] drawn = ⊤
AreDrawn (r ∷ requests) drawn = (r.number ≤ drawn) × AreDrawn requests drawn

-- What a call needs. Bootstrapping goes on. The chain's last accepted block is the one from which it began, and the chain holds its state
-- alone. The number of each open request was drawn.
pub record MayGoOn (course : Course) (held : Held) (number : ℕ) : Type 0 where
  pub goes_on : course.goes_on ≡ true
  pub last : held.last ≡ course.boot.store.last
  pub alone : IsAlone held
  pub drawn : AreDrawn course.boot.requests number

-- where bootstrapping goes on, this holds
abbrev pub OnGoing : Result Stage BootStop → Type 0 → Type 0
OnGoing (Ok stage.Going) P = P
OnGoing result P = ⊤

-- where bootstrapping is done, this holds
abbrev pub OnDone : Result Stage BootStop → Type 0 → Type 0
OnDone (Ok (stage.Done last height)) P = P
OnDone result P = ⊤

-- what is expected came: bootstrapping goes on so, or is done with the state that the chain holds, or stopped; want of memory may
-- come in place of anything
abbrev pub Brings : Result Stage BootStop → Boot → ℕ → Held → Result Next BootStop → Type 0
Brings (Ok stage.Going) boot drawn held expected = expected ≡ Ok (Going boot drawn)
Brings (Ok (stage.Done last height)) boot drawn held expected = expected ≡ Ok (Done last height (last_state held))
Brings (Err stop.Memory) boot drawn held expected = ⊤
Brings (Err why) boot drawn held expected = expected ≡ Err why

-- bootstrapping began so, or stopped; want of memory may come in place of either
abbrev pub Begins : Result Course BootStop → ℕ → Result Next BootStop → Type 0
Begins (Ok course) drawn expected = expected ≡ Ok (Going course.boot drawn)
Begins (Err stop.Memory) drawn expected = ⊤
Begins (Err why) drawn expected = expected ≡ Err why

-- a front of these lines was appended
pub record LogsFront (before after lines : List Line) : Type 0 where
  pub front : List Line
  pub rest : List Line
  pub whole : front ++ rest ≡ lines
  pub grown : after ≡ before ++ front

-- why a call stopped, if it did
abbrev pub stop_of : {T : Type 0} → Result T BootStop → Option BootStop
stop_of (Ok x) = None
stop_of (Err why) = Some why

-- these lines were appended, or a front of them where memory ran out
abbrev pub LogsUpTo : Option BootStop → List Line → List Line → List Line → Type 0
LogsUpTo (Some stop.Memory) before after lines = LogsFront before after lines
LogsUpTo why before after lines = after ≡ before ++ lines

abbrev pub Logs : {T : Type 0} → Result T BootStop → List Line → List Line → List Line → Type 0
Logs result before after lines = LogsUpTo (stop_of result) before after lines

-- what the chain holds then: where bootstrapping goes on what it held, and where it is done the state of the block that was accepted
-- last, and no other
abbrev pub Leaves : Result Stage BootStop → Held → Held → Type 0
Leaves (Ok stage.Going) before after = after ≡ before
Leaves (Ok (stage.Done last height)) before after = (after.last ≡ last) × IsAlone after
Leaves (Err why) before after = ⊤
