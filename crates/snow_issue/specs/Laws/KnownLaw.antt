-- What is remembered stays true: laws of issuing a block and of recording a poll.
use Rattle.std.specs.Prelude.{List}
use Rattle.snow_base.specs.declared.block.Header.{Header}
use Rattle.snow_base.specs.declared.block.Vote.{Vote}
use Rattle.snow_board.specs.Model.Board.{Board, issued}
use Rattle.snow_board.specs.Model.Poll.{poll}
use Rattle.snow_issue.specs.Kept.Known.{Seen, Knows, ForgetsChildren, NoneRipe}

-- a block may be issued where nothing is remembered of its children
abbrev pub StaysKnownAtIssue : Type 0
StaysKnownAtIssue = (s : Seen) (board : Board) (child : Header) → Knows s board → ForgetsChildren child.id s.seats → Knows s (issued board child)

-- a poll may be recorded where no block is remembered to be ready
abbrev pub StaysKnownAtPoll : Type 0
StaysKnownAtPoll = (s : Seen) (board : Board) (votes : List Vote) → Knows s board → NoneRipe s.seats → Knows s (poll board votes).0
