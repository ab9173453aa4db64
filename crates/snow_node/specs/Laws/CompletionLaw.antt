-- A poll that is closed early leaves the very board that each of its completions would leave.
use Rattle.std.specs.Prelude.{◌≡◌, List}
use Rattle.snow_base.specs.declared.block.Vote.{Vote}
use Rattle.snow_board.specs.declared.board.Decision.{Decision}
use Rattle.snow_board.specs.Laws.Alike.{GivesAll}
use Rattle.snow_board.specs.Model.Board.{Board}
use Rattle.snow_board.specs.Model.Poll.{poll}
use Rattle.snow_poll.specs.Laws.Completion.{Choice, completed, StandsForAll}
use Rattle.snow_poll.specs.Model.Poll.{Poll}

-- where votes stand for those of each completion of a poll, what a board makes of them it makes of each completion
abbrev pub CompletionLaw : Type 0
CompletionLaw =
    (closed : Poll) (before after : Board) (votes : List Vote) (decisions : List Decision)
    → StandsForAll before.parameters closed votes → GivesAll before votes after decisions → (choice : Choice)
    → (after ≡ (poll before (completed closed choice)).0) × (decisions ≡ (poll before (completed closed choice)).1)
