-- What the code of a drill keeps, beside the drill of the definitions.
use Rattle.std.specs.Prelude.{◌≡◌, ℕ, List, [], ◌∷◌, ◌++◌, Option, Some, None, Ok, Err, ⊤}
use Rattle.std.specs.Io.KnownBytes.{Appends}
use Rattle.sha2.specs.declared.Sha256.{Sha256}
use Rattle.sha2.specs.Hashers.{Holds256}
use Rattle.snow_base.specs.Clauses.Outside.{AppendsFront, Rose}
use Rattle.snow_lines.specs.declared.line.Line.{Line}
use Rattle.snow_lines.specs.Model.Text.{texts}
use Rattle.snow_engine.specs.declared.end.End.{End}
use Rattle.snow_engine.specs.declared.end.End.TheVariants as end
use Rattle.snow_engine.specs.Kept.Staging.{Comes}
use Rattle.snow_drill.specs.declared.account.Account.{Account}
use Rattle.snow_drill.specs.declared.player.Player.{Player}
use Rattle.snow_drill.specs.declared.tally.Asked.{Asked}
use Rattle.snow_drill.specs.Kept.Told.{Told, answering}
use Rattle.snow_drill.specs.Model.Drill.{Drill, opened}

-- the oldest query was taken, if there is one
abbrev pub Takes : Option Asked → Told → Told → Type 0
Takes None before after = (before.asked ≡ []) × (after ≡ before)
Takes (Some query) before after = (later : List Asked) × (before.asked ≡ query ∷ later) × (after ≡ answering before later)

-- this text was digested, but for its end, which waits
pub record DigestsBut (hasher : Sha256) (waiting text : List ℕ) : Type 0 where
  pub digested : List ℕ
  pub holds : Holds256 hasher digested
  pub whole : digested ++ waiting ≡ text

-- the text of these lines was digested, but for what waits on the page
abbrev pub Digests : Account → List Line → Type 0
Digests account lines = DigestsBut account.hasher account.page (texts lines) × (account.scratch.bytes ≡ [])

module _ {N : Type 0} where
  -- a player is where a drill is
  pub record Plays (player : Player N) (d : Drill N) : Type 0 where
    pub node : player.node ≡ d.node
    pub frame : player.frame ≡ d.frame
    pub x : player.generator ≡ d.x
    pub made : player.made ≡ d.made
    pub told : player.account.tally ≡ d.told
    pub digest : Digests player.account d.lines

  -- a player is where a drill is that begins with what came of its Start
  abbrev pub Opens : Player N → ℕ → Comes N → Type 0
  Opens player seed (lines, Ok node) = Plays player (opened seed lines node)
  Opens player seed (lines, Err stop) = ⊥

  -- what happened to a player happens to the drill where it is
  abbrev pub Follows : Player N → Player N → (Drill N → Drill N) → Type 0
  Follows before after change = (d : Drill N) → Plays before d → Plays after (change d)

-- the summary was written, or a front of it where the sink failed, or nothing where memory ran out; there is no other end
abbrev pub Wrote : End → Option (List ℕ) → Option (List ℕ) → List ℕ → Type 0
Wrote end.Done before after text = Appends before after text
Wrote end.SinkFault before after text = AppendsFront before after text
Wrote end.Memory before after text = after ≡ before
Wrote other before after text = ⊥

-- a sink fault is told only where the sink's count of faults rose or stands at its last value
abbrev pub HasFault : End → ℕ → ℕ → Type 0
HasFault end.SinkFault before after = Rose before after
HasFault other before after = ⊤
