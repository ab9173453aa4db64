-- How far a held reply's vote goes down: as far as gone blocks lead, and no further for more steps.
use Rattle.std.specs.Prelude.{◌≡◌, ℕ, ◌≤◌, List}
use Rattle.snow_base.specs.declared.limits.TheConstants.{MOST_GONE}
use Rattle.snow_board.specs.Model.Board.{Board}
use Rattle.snow_issue.specs.Model.Lists.{Lists, AreWithinLimits}
use Rattle.snow_issue.specs.Model.Bubbling.{bubbled_in, bubbled}

-- on lists within their limits more replacements than 8,192 give the same vote, or none
abbrev pub BubblingLaw : Type 0
BubblingLaw = (q : Lists) (board : Board) (id : List ℕ) (n : ℕ) → AreWithinLimits q → MOST_GONE ≤ n → bubbled_in n q.gone board id ≡ bubbled q board id
