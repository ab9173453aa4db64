-- What a poll leaves, where its decisions were told.
use Rattle.std.proofs.Common.{◌≡◌, ◌≤◌, List, sym, ◌∙◌, ap, subst}
use Rattle.snow_base.specs.declared.block.Vote.{Vote}
use Rattle.snow_base.specs.Model.Votes.{total_count}
use Rattle.snow_board.specs.declared.board.Decision.{Decision}
use Rattle.snow_board.specs.Model.Board.{Board}
use Rattle.snow_board.specs.Model.Poll.{poll}
use Rattle.snow_chain.specs.Model.Chain.{Held}
use Rattle.snow_node.specs.Clauses.Matching.{IsSteady, MayFollow}
use Rattle.snow_node.specs.Model.Telling.{with_decisions}
use Rattle.snow_node.proofs.Follows.{poll_follows}
use Rattle.snow_node.proofs.Offers.{steady_as}

-- the decisions of a poll may be told
pub may_be_told : (board : Board) (held : Held) (votes : List Vote) (decisions : List Decision) → IsSteady board held → total_count votes ≤ board.parameters.k
    → decisions ≡ (poll board votes).1 → MayFollow held decisions
may_be_told board held votes decisions steady few e = subst (λ (ds : List Decision). MayFollow held ds) (sym e) (poll_follows board held votes steady few).0

-- a board after a poll, and a chain that was told
pub steady_told : (board b : Board) (held h : Held) (votes : List Vote) (decisions : List Decision) → IsSteady board held → total_count votes ≤ board.parameters.k
    → decisions ≡ (poll board votes).1 → b ≡ (poll board votes).0 → h ≡ with_decisions held decisions → IsSteady b h
steady_told board b held h votes decisions steady few e polled told =
    steady_as b (poll board votes).0 h (with_decisions held (poll board votes).1) polled (told ∙ ap (with_decisions held) e) (poll_follows board held votes steady few).1
