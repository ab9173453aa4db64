-- The parts of a node that bootstraps, and what an event makes of them.
use Rattle.std.specs.Prelude.{◌≡◌, ℕ, Bool, true, false, List, ◌++◌, Result, Ok, Err}
use Rattle.snow_chain.specs.Model.Chain.{Held}
use Rattle.snow_gets.specs.declared.gets.Get.{Get}
use Rattle.snow_lines.specs.declared.line.Line.{Line}
use Rattle.snow_boot.specs.declared.question.Question.TheVariants as question
use Rattle.snow_boot.specs.declared.boot.Stage.{Stage}
use Rattle.snow_boot.specs.declared.boot.Stage.TheVariants as stage
use Rattle.snow_store.specs.declared.stop.BootStop.{BootStop}
use Rattle.snow_store.specs.declared.stop.BootStop.TheVariants as stop
use Rattle.snow_boot.specs.Model.Booting.{Boot, Going, Done, Outcome}
use Rattle.snow_chain.specs.Kept.Alone.{IsAlone, last_state}
use Rattle.snow_boot.specs.Clauses.Calling.{Course, AreDrawn, LogsFront}
use Rattle.snow_boot.specs.Kept.Fetching.{Hunt}
use Rattle.snow_boot.specs.Laws.OutcomeLaw.{AreAsked, IsEnd}
use Rattle.snow_boot.specs.Clauses.Promising.{AcceptsBelow}
use Rattle.snow_store.specs.Model.Paths.{Fetch, is_whole}
use Rattle.snow_boot.specs.Kept.Surveying.{Surveyed}

-- the parts, put together
abbrev pub boot_of : Surveyed → Fetch → List Get → Boot
boot_of s f requests = record {
  store = f.store;
  nodes = s.nodes;
  question = s.question;
  number = s.number;
  awaited = s.awaited;
  candidates = s.candidates;
  targets = f.targets;
  found = f.found;
  requests = requests;
}

-- and whether it goes on
abbrev pub course_of : Bool → Surveyed → Fetch → List Get → Course
course_of goes_on s f requests = record { goes_on = goes_on; boot = boot_of s f requests }

-- one of the targets misses a block, and each identifier that one of them misses is named by an open request
pub record IsSettled (f : Fetch) (requests : List Get) : Type 0 where
  pub missing : is_whole f ≡ false
  pub asked : AreAsked f f.targets requests

-- all is kept as it should be, and where the targets are known, what they miss is asked for
pub record IsCourse (s : Surveyed) (hunt : Hunt) (requests : List Get) : Type 0 where
  pub whole : hunt.whole ≡ true
  pub settled : s.question ≡ question.Nothing → IsSettled hunt.fetch requests

-- what asking and executing need: all is kept as it should be, the chain's last accepted block is the one from which bootstrapping
-- began, and the number of each open request was drawn
abbrev pub MayAsk : Hunt → List Get → Held → ℕ → Type 0
MayAsk hunt requests held drawn = (hunt.whole ≡ true) × (held.last ≡ hunt.fetch.store.last) × AreDrawn requests drawn

-- what an event needs: the same, and no other state is held
abbrev pub MayHear : Surveyed → Hunt → List Get → Held → ℕ → Type 0
MayHear s hunt requests held drawn = IsCourse s hunt requests × IsAlone held × (held.last ≡ hunt.fetch.store.last) × AreDrawn requests drawn

-- what is expected came: its lines, and then bootstrapping goes on with these parts, or is done with the state that the chain holds
-- and no other and the whole path executed, or it stopped; where a block is refused what is below it was accepted, and where memory
-- ran out a front of the lines came
abbrev pub Comes : Result Stage BootStop → List Line → List Line → Surveyed → Hunt → List Get → ℕ → ℕ → Held → Held → Outcome → Type 0
Comes (Ok stage.Going) before after s hunt requests first last old new expected =
    (after ≡ before ++ expected.0) × (expected.1 ≡ Ok (Going (boot_of s hunt.fetch requests) last)) × (new ≡ old) × IsCourse s hunt requests × AreDrawn requests last
    × (new.last ≡ hunt.fetch.store.last)
Comes (Ok (stage.Done id height)) before after s hunt requests first last old new expected =
    (after ≡ before ++ expected.0) × (expected.1 ≡ Ok (Done id height (last_state new))) × (new.last ≡ id) × IsAlone new × (last ≡ first)
    × IsEnd (boot_of s hunt.fetch requests) expected
Comes (Err stop.Memory) before after s hunt requests first last old new expected = LogsFront before after expected.0
Comes (Err (stop.Refused id)) before after s hunt requests first last old new expected =
    (after ≡ before ++ expected.0) × (expected.1 ≡ Err (stop.Refused id)) × AcceptsBelow before after (boot_of s hunt.fetch requests) id
Comes (Err why) before after s hunt requests first last old new expected = (after ≡ before ++ expected.0) × (expected.1 ≡ Err why)

-- whether bootstrapping goes on
abbrev pub is_going : Result Stage BootStop → Bool
is_going (Ok stage.Going) = true
is_going (Ok (stage.Done last height)) = false
is_going (Err why) = false
