-- What votes leave that are alike: the same board and the same decisions.
use Rattle.std.specs.Prelude.{◌≡◌, ◌≤◌, List}
use Rattle.snow_base.specs.declared.block.Vote.{Vote}
use Rattle.snow_base.specs.Model.Votes.{total_count}
use Rattle.snow_flake.specs.Laws.Alike.{AreAlike}
use Rattle.snow_board.specs.declared.board.Decision.{Decision}
use Rattle.snow_board.specs.Model.Board.{Board}
use Rattle.snow_board.specs.Model.Poll.{poll}

-- what is left is what a poll with each multiset gives that is alike to these votes and has at most K
abbrev pub GivesAll : Board → List Vote → Board → List Decision → Type 0
GivesAll before votes after decisions =
    (others : List Vote) → AreAlike before.parameters votes others → total_count others ≤ before.parameters.k
    → (after ≡ (poll before others).0) × (decisions ≡ (poll before others).1)

-- polls with alike votes leave the same board and make the same decisions
abbrev pub AlikeLaw : Type 0
AlikeLaw = (board : Board) (votes others : List Vote) → AreAlike board.parameters votes others → poll board votes ≡ poll board others
