-- What each call of a node that bootstraps promises: what it asks for while it goes on, and what it has executed when it is done.
use Rattle.std.specs.Prelude.{◌≡◌, ℕ, true, false, List, [], ◌∷◌, ◌++◌, Result, Ok, Err, ⊤, ◌⊎◌}
use Rattle.std.specs.List.{list_any}
use Rattle.snow_lines.specs.declared.line.Line.{Line}
use Rattle.snow_lines.specs.declared.line.Line.TheVariants as line
use Rattle.snow_boot.specs.declared.question.Question.TheVariants as question
use Rattle.snow_boot.specs.declared.boot.Stage.{Stage}
use Rattle.snow_boot.specs.declared.boot.Stage.TheVariants as stage
use Rattle.snow_store.specs.declared.store.KeptBlock.{KeptBlock}
use Rattle.snow_store.specs.declared.stop.BootStop.{BootStop}
use Rattle.snow_store.specs.declared.stop.BootStop.TheVariants as stop
use Rattle.snow_boot.specs.Model.Booting.{Boot, fetch_of, height_or}
use Rattle.snow_boot.specs.Laws.OutcomeLaw.{AreAsked, accepts, accept_lines, last_above, whole_path_of}
use Rattle.snow_store.specs.Model.Paths.{is_whole, highest_target}

-- where the targets are known, one of them misses a block, and each identifier that one of them misses is named by an open request
abbrev pub IsFetching : Boot → Type 0
IsFetching boot = boot.question ≡ question.Nothing → (is_whole (fetch_of boot) ≡ false) × AreAsked (fetch_of boot) boot.targets boot.requests

-- the lines that came accept no block
abbrev pub AcceptsNone : List Line → List Line → Type 0
AcceptsNone before after = (lines : List Line) × (after ≡ before ++ lines) × (list_any accepts lines ≡ false)

-- no target misses a block; the lines that came accept just the blocks of the path of the highest kept target, upwards, and tell the
-- end; and the last of these blocks is the last accepted one
abbrev pub AcceptsPath : List Line → List Line → Boot → List ℕ → ℕ → Type 0
AcceptsPath before after boot last height =
    (is_whole (fetch_of boot) ≡ true)
    × (after ≡ before ++ (accept_lines (whole_path_of boot) ++ line.Bootstrapped last height ∷ []))
    × (last ≡ last_above boot.store.last (whole_path_of boot))
    × (height ≡ height_or boot.store.height (highest_target boot.store.kept boot.targets))

-- the blocks of a path below the one with an identifier
pub record AreBelow (path front : List KeptBlock) (id : List ℕ) : Type 0 where
  pub refused : KeptBlock
  pub above : List KeptBlock
  pub whole : path ≡ front ++ refused ∷ above
  pub named : refused.header.id ≡ id

-- the lines that came accept just the blocks below a refused one on the path of the highest kept target, upwards, where no target
-- misses a block; or there are none, since it is a kept child of a block that came, at a wrong height
abbrev pub AcceptsBelow : List Line → List Line → Boot → List ℕ → Type 0
AcceptsBelow before after boot id =
    (after ≡ before)
    ⊎ ((front : List KeptBlock) × (after ≡ before ++ accept_lines front) × AreBelow (whole_path_of boot) front id × (is_whole (fetch_of boot) ≡ true))

-- while it goes on, all that is missed is asked for and nothing was accepted; at the end exactly the whole path was; and where a block
-- is refused, exactly what is below it
abbrev pub Promises : Result Stage BootStop → List Line → List Line → Boot → Type 0
Promises (Ok stage.Going) before after boot = IsFetching boot × AcceptsNone before after
Promises (Ok (stage.Done last height)) before after boot = AcceptsPath before after boot last height
Promises (Err (stop.Refused id)) before after boot = AcceptsBelow before after boot id
Promises (Err why) before after boot = ⊤
