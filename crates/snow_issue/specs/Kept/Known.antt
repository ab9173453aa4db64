-- What the queue remembers of its waiting blocks, and when that is true of a board.
use Rattle.std.specs.Prelude.{◌≡◌, ℕ, true, false, ◌||◌, List, map, All, Option, Some, None, bytes_eq, if◌then◌else◌}
use Rattle.snow_base.specs.declared.block.Header.{Header}
use Rattle.snow_board.specs.Model.Board.{Board}
use Rattle.snow_issue.specs.declared.work.Waiting.{Waiting}
use Rattle.snow_gets.specs.declared.gets.Get.{Get}
use Rattle.snow_held.specs.declared.held.Held.{Held}
use Rattle.snow_issue.specs.declared.work.Work.{Work}
use Rattle.snow_issue.specs.declared.work.Work.TheVariants as work
use Rattle.snow_issue.specs.declared.gone.Gone.{Gone}
use Rattle.snow_lineup.specs.declared.marks.Mark.{Mark}
use Rattle.snow_lineup.specs.declared.marks.Mark.TheVariants.{New, Quiet, Ripe}
use Rattle.snow_lineup.specs.Kept.Marks.{has}
use Rattle.snow_gets.specs.Model.Gets.{asked_in}
use Rattle.snow_issue.specs.Model.Lists.{Lists, waits_below, AreWithinLimits}
use Rattle.snow_issue.specs.Model.Offering.{is_on}
use Rattle.snow_issue.specs.Model.Settling.{work_of, after}

-- the lists of a queue, with what it remembers of each waiting block
pub record Seen : Type 0 where
  pub seats : List (Waiting × Mark)
  pub gets : List Get
  pub held : List Held
  pub gone : List Gone

-- what waits, without what is remembered of it
abbrev pub items_of : {T : Type 0} → List (T × Mark) → List T
items_of seats = map (λ s. s.0) seats

abbrev pub lists_of : Seen → Lists
lists_of s = record { waiting = items_of s.seats; gets = s.gets; held = s.held; gone = s.gone }

-- what a look at a waiting block tells: its parent is on the board, or it can wait on; nothing where it is hopeless
abbrev pub sight : List Waiting → List Get → Board → Header → Option Mark
sight waiting gets board block =
    if is_on board block.parent then Some Ripe
    else (if asked_in gets block.parent || waits_below waiting block then Some Quiet else None)

-- what is remembered of a block is what a look tells
abbrev pub Tells : List Waiting → List Get → Board → Waiting × Mark → Type 0
Tells waiting gets board (w, New) = Unit {0}
Tells waiting gets board (w, Quiet) = sight waiting gets board w.header ≡ Some Quiet
Tells waiting gets board (w, Ripe) = sight waiting gets board w.header ≡ Some Ripe

-- what is remembered of each waiting block is true of this board
abbrev pub Knows : Seen → Board → Type 0
Knows s board = All (Tells (items_of s.seats) s.gets board) s.seats

-- nothing is remembered of the children of a block
abbrev pub ForgetsChildren : List ℕ → List (Waiting × Mark) → Type 0
ForgetsChildren id seats = All (λ s. bytes_eq s.0.header.parent id ≡ true → s.1 ≡ New) seats

-- something is remembered of each
abbrev pub NoneNew : List (Waiting × Mark) → Type 0
NoneNew seats = All (λ s. has New s ≡ false) seats

-- no waiting block is remembered to be ready
abbrev pub NoneRipe : List (Waiting × Mark) → Type 0
NoneRipe seats = All (λ s. has Ripe s ≡ false) seats

-- what a step leaves: a ready block may be issued, and where no block was ready a poll may be recorded
abbrev pub MarksAfter : Option Work → List (Waiting × Mark) → Type 0
MarksAfter None seats = NoneRipe seats
MarksAfter (Some (work.Hopeless w)) seats = Unit {0}
MarksAfter (Some (work.Ready w)) seats = ForgetsChildren w.header.id seats
MarksAfter (Some (work.Vote h)) seats = NoneRipe seats

-- the step that applies is taken: its block or reply goes, and what is remembered stays true
pub record TakesStep (before now : Seen) (board : Board) (taken : Option Work) : Type 0 where
  pub work : taken ≡ work_of (lists_of before) board
  pub lists : lists_of now ≡ after (lists_of before) board taken
  pub knows : Knows now board
  pub marks : MarksAfter taken now.seats
  pub limits : AreWithinLimits (lists_of now)
