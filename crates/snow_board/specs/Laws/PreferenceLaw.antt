-- Where the preference ends: at a block without pending children.
use Rattle.std.specs.Prelude.{◌≡◌, Bool, false}
use Rattle.snow_flake.specs.Model.Rule.{Answer}
use Rattle.snow_board.specs.Model.Board.{Board}
use Rattle.snow_board.specs.Model.Preference.{preferred}
use Rattle.snow_board.specs.Kept.Ending.{has_pending_child}
use Rattle.snow_board.specs.Laws.Reached.{Reached}

-- by a rule that answers the bit on which preference and flake agree, no pending block of a board that can be reached is a child of the preference
abbrev pub PreferenceEndsLaw : Type 0
PreferenceEndsLaw = (answer : Answer) (board : Board) → ((bit : Bool) → answer bit bit ≡ bit) → Reached board
    → has_pending_child board.pending (preferred answer board) ≡ false
