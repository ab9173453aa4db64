-- The vote that a held reply gives: gone blocks are replaced by their parents.
use Rattle.std.specs.Prelude.{ℕ, zero, suc, Bool, not, ◌&&◌, ◌||◌, List, bytes_eq, Option, Some, None, if◌then◌else◌}
use Rattle.std.specs.Option.{option_and_then}
use Rattle.snow_base.specs.declared.limits.TheConstants.{MOST_GONE}
use Rattle.snow_board.specs.Model.Board.{Board, is_pending}
use Rattle.snow_issue.specs.declared.gone.Gone.{Gone}
use Rattle.snow_issue.specs.Model.Gone.{stands_for}
use Rattle.snow_issue.specs.Model.Lists.{Lists, waits, is_asked}
use Rattle.snow_issue.specs.Model.Offering.{wanted}

-- a pending block is itself, the last accepted one gives no vote, and any other is replaced by the parent that stands for it, at most n times
unfoldable pub bubbled_in : ℕ → List Gone → Board → List ℕ → Option (List ℕ)
bubbled_in zero gone board id = if is_pending board id then Some id else None
bubbled_in (suc n) gone board id =
    if is_pending board id then Some id
    else (if bytes_eq board.last id then None else option_and_then (bubbled_in n gone board) (stands_for gone id))

abbrev pub bubbled : Lists → Board → List ℕ → Option (List ℕ)
bubbled q board id = bubbled_in MOST_GONE q.gone board id

-- the vote that a reply gives as it comes; none where its block waits, is asked for, or is to be asked for
abbrev pub vote_at_once : Lists → Board → List ℕ → Option (Option (List ℕ))
vote_at_once q board id = if waits q id || (is_asked q id || wanted q board id) then None else Some (bubbled q board id)

-- whether a reply's block is itself its vote as it comes: it is pending, and neither waits nor is asked for
abbrev pub is_own_vote : Lists → Board → List ℕ → Bool
is_own_vote q board id = is_pending board id && not (waits q id || is_asked q id)
