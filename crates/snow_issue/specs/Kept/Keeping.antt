-- What a queue keeps: its limits, and that no held reply it calls quiet is free.
use Rattle.std.specs.Prelude.{◌≡◌, ◌≤◌, false, List, [], All, length}
use Rattle.snow_base.specs.declared.limits.TheConstants.{MOST_WAITING, MOST_GETS, MOST_GONE}
use Rattle.snow_issue.specs.declared.work.Waiting.{Waiting}
use Rattle.snow_gets.specs.declared.gets.Get.{Get}
use Rattle.snow_held.specs.declared.held.Held.{Held}
use Rattle.snow_issue.specs.declared.gone.Gone.{Gone}
use Rattle.snow_lineup.specs.declared.marks.Mark.{Mark}
use Rattle.snow_lineup.specs.declared.marks.Mark.TheVariants.{New, Quiet, Ripe}
use Rattle.snow_issue.specs.Model.Lists.{Lists}
use Rattle.snow_issue.specs.Model.Settling.{is_free_by}
use Rattle.snow_issue.specs.Kept.Known.{items_of}

-- the lists without the held replies, of which offering asks nothing
abbrev pub parts : List (Waiting × Mark) → List Get → List Gone → Lists
parts seats gets gone = record { waiting = items_of seats; gets = gets; held = []; gone = gone }

-- a reply that is quiet isn't free
abbrev pub StaysQuiet : List Waiting → List Get → Held × Mark → Type 0
StaysQuiet waiting gets (h, New) = Unit {0}
StaysQuiet waiting gets (h, Quiet) = is_free_by waiting gets h ≡ false
StaysQuiet waiting gets (h, Ripe) = is_free_by waiting gets h ≡ false

-- a walk over held replies: they are the same, and none is free of which something is remembered
pub record IsWalked (before now : List (Held × Mark)) (waiting : List Waiting) (gets : List Get) : Type 0 where
  pub same : items_of now ≡ items_of before
  pub quiet : All (StaysQuiet waiting gets) now

pub record IsKept (seats : List (Waiting × Mark)) (gets : List Get) (replies : List (Held × Mark)) (gone : List Gone) : Type 0 where
  pub quiet : All (StaysQuiet (items_of seats) gets) replies
  pub few_waiting : length seats ≤ MOST_WAITING
  pub few_gets : length gets ≤ MOST_GETS
  pub few_gone : length gone ≤ MOST_GONE
