-- The lists of a queue, and what they say of an identifier.
use Rattle.std.specs.Prelude.{ℕ, ◌+◌, ◌≤◌, Bool, not, ◌&&◌, ◌==◌, List, [], ◌∷◌, ◌++◌, length, filter, bytes_eq, None}
use Rattle.std.specs.List.{list_any}
use Rattle.snow_base.specs.declared.limits.TheConstants.{MOST_WAITING, MOST_GETS, MOST_GONE}
use Rattle.snow_base.specs.declared.block.Header.{Header}
use Rattle.snow_issue.specs.declared.work.Waiting.{Waiting}
use Rattle.snow_gets.specs.declared.gets.Get.{Get}
use Rattle.snow_gets.specs.Model.Gets.{asked_in, is_get, with_get, without}
use Rattle.snow_held.specs.declared.held.Held.{Held}
use Rattle.snow_issue.specs.declared.gone.Gone.{Gone}
use Rattle.snow_issue.specs.Model.Gone.{with_gone}

-- the waiting blocks in order of arrival, the open gets in order of number, the held replies in order of arrival, and the gone list
pub record Lists : Type 0 where
  pub waiting : List Waiting
  pub gets : List Get
  pub held : List Held
  pub gone : List Gone

-- the lists of a node that begins to run above this block
abbrev pub begun : List ℕ → Lists
begun last = record { waiting = []; gets = []; held = []; gone = record { id = last; parent = None } ∷ [] }

-- whether a block waits
abbrev pub waits_among : List Waiting → List ℕ → Bool
waits_among waiting id = list_any (λ w. bytes_eq w.header.id id) waiting

abbrev pub waits : Lists → List ℕ → Bool
waits q id = waits_among q.waiting id

-- whether the parent of a block waits, at the height right below it
abbrev pub waits_below : List Waiting → Header → Bool
waits_below waiting child = list_any (λ w. bytes_eq w.header.id child.parent && (w.header.height + 1 == child.height)) waiting

abbrev pub is_asked : Lists → List ℕ → Bool
is_asked q id = asked_in q.gets id

abbrev pub with_waiting : Lists → Waiting → Lists
with_waiting q w = record q { waiting = q.waiting ++ w ∷ [] }

-- a get is opened
abbrev pub after_asked : Lists → Get → Lists
after_asked q get = record q { gets = with_get q.gets get }

-- a get is closed
abbrev pub after_closed : Lists → ℕ → List ℕ → Lists
after_closed q number node = record q { gets = without (is_get number node) q.gets }

-- a reply is held
abbrev pub after_held : Lists → Held → Lists
after_held q reply = record q { held = q.held ++ reply ∷ [] }

-- a block goes
abbrev pub after_gone : Lists → Gone → Lists
after_gone q entry = record q { gone = with_gone q.gone entry }

-- a poll leaves, and its replies with it
abbrev pub after_forgotten : Lists → ℕ → Lists
after_forgotten q number = record q { held = filter (λ h. not (h.number == number)) q.held }

-- the most that the lists hold
pub record AreWithinLimits (q : Lists) : Type 0 where
  pub few_waiting : length q.waiting ≤ MOST_WAITING
  pub few_gets : length q.gets ≤ MOST_GETS
  pub few_gone : length q.gone ≤ MOST_GONE
