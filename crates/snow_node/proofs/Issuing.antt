-- A block that was issued: what ties the node is kept, and its lines are told.
use Rattle.std.proofs.Common.{◌≡◌, ℕ, Bool, true, false, cond, List, [], ◌++◌, append-nil, map, Option, Some, None, Ok, Err, refl, sym, ap, ◌∙◌, subst}
use Rattle.snow_base.specs.declared.block.Header.{Header}
use Rattle.snow_flake.specs.Model.Parameters.{Parameters}
use Rattle.snow_flake.specs.Model.Rule.{Answer}
use Rattle.snow_board.specs.declared.board.Decision.{Decision}
use Rattle.snow_board.specs.Model.Board.{Board, issued}
use Rattle.snow_board.specs.Model.Preference.{preferred, is_preferred}
use Rattle.snow_chain.specs.Model.Chain.{Held, with_state}
use Rattle.snow_lines.specs.declared.line.Line.{Line}
use Rattle.snow_lines.specs.declared.why.DropWhy.{DropWhy}
use Rattle.snow_poll.specs.Model.Table.{Table}
use Rattle.snow_getter.specs.Model.Serving.{Serving}
use Rattle.snow_issue.specs.Kept.Known.{Seen, lists_of}
use Rattle.snow_node.specs.declared.stop.Halt.{Halt}
use Rattle.snow_node.specs.Kept.Tied.{IsApart, IsKept}
use Rattle.snow_node.specs.Clauses.Matching.{IsSteady, Admits}
use Rattle.snow_node.specs.declared.running.queue_state.QueueState.{QueueState}
use Rattle.snow_node.specs.Kept.QueueState.{IsInState, when_issued}
use Rattle.snow_node.specs.Model.Outcome.{Comes, quietly, after_lines, then_comes}
use Rattle.snow_node.specs.Model.Running.{Running}
use Rattle.snow_node.specs.Model.Querying.{queried}
use Rattle.snow_node.specs.Model.Settling.{placed_by, asked_on_the_way}
use Rattle.snow_node.specs.Clauses.Stepping.{Tells, LogsFront, HaltsAs}
use Rattle.snow_node.specs.Model.Supplying.{with_issued, if_issued}
use Rattle.snow_node.specs.Model.Telling.{decision_line, preference_line}
use Rattle.snow_node.proofs.Keeping.{kept_issued}
use Rattle.snow_node.proofs.QueueState.{kept_at_issue}
use Rattle.snow_node.proofs.Logs.{logs_front_of_more}
use Rattle.snow_node.proofs.Sequel.{lines_first, lines_then, logs_behind}

-- a block that was admitted has a state
record HasState (board : Board) (held : Held) (board_now : Board) (held_now : Held) (decisions : List Decision) (block : Header) (o : Option (List ℕ)) : Type 0 where
  state : List ℕ
  is : o ≡ Some state
  board_is : board_now ≡ issued board block
  held_is : held_now ≡ with_state held block.id state
  none_decided : decisions ≡ []

admitted : (valid : Bool) (board : Board) (held : Held) (board_now : Board) (held_now : Held) (decisions : List Decision) (block : Header) (o : Option (List ℕ))
    → valid ≡ true → Admits valid board held board_now held_now decisions block o → HasState board held board_now held_now decisions block o
admitted true board held board_now held_now decisions block (Some state) v a =
    record { state = state; is = refl; board_is = a.0; held_is = a.1; none_decided = a.2 }
admitted true board held board_now held_now decisions block None v a = absurd a
admitted false board held board_now held_now decisions block o v a = absurd cc

-- what ties the node, and what is known of the queue's memory
pub kept_admitted : (p : Parameters) (board : Board) (held : Held) (table : Table) (seen : Seen) (last : ℕ) (k : QueueState) → IsKept p board held table (lists_of seen) last → IsInState board seen k
    → (valid : Bool) (board_now : Board) (held_now : Held) (decisions : List Decision) (block : Header) (o : Option (List ℕ))
    → valid ≡ true → Admits valid board held board_now held_now decisions block o → IsSteady board_now held_now → IsApart board (lists_of seen).waiting block.id
    → IsKept p board_now held_now table (lists_of seen) last × IsInState board_now seen (when_issued k block.id)
kept_admitted p board held table seen last k kept state valid board_now held_now decisions block o v a steady apart =
    let has = admitted valid board held board_now held_now decisions block o v a in (
      kept_issued p board held table (lists_of seen) last kept board_now held_now block has.state steady has.board_is has.held_is apart,
      kept_at_issue board board_now seen k block has.board_is state,
    )

-- what an issue tells, and then what comes of a query
told_and_asked : (answer : Answer) (node : Running) (block : Header) (bytes state before : List ℕ) (board_now : Board) (held_now : Held) (served_now : Serving) (decisions : List Decision)
    (o : Option (List ℕ)) (against : Option DropWhy) → o ≡ Some state → against ≡ None → board_now ≡ issued node.board block → held_now ≡ with_state node.chain block.id state
    → served_now ≡ with_issued node.served block bytes → decisions ≡ [] → before ≡ preferred answer node.board
    → after_lines (map decision_line decisions ++ preference_line before (preferred answer board_now))
    (asked_on_the_way answer block.id (record node { board = board_now; chain = held_now; served = served_now }))
    ≡ placed_by answer node block bytes o against
told_and_asked answer node block bytes state before board_now held_now served_now decisions o against a f b c s d e = rw (a, f, b, c, s, d, e) refl

-- that is all where a block was admitted against which nothing stands
pub placed_is : (answer : Answer) (node : Running) (valid : Bool) (board_now : Board) (held_now : Held) (served_now : Serving) (decisions : List Decision) (block : Header) (bytes : List ℕ)
    (o : Option (List ℕ)) (against : Option DropWhy) (before : List ℕ) → against ≡ None → valid ≡ true → Admits valid node.board node.chain board_now held_now decisions block o
    → served_now ≡ if_issued node.served valid block bytes → before ≡ preferred answer node.board
    → after_lines (map decision_line decisions ++ preference_line before (preferred answer board_now))
    (asked_on_the_way answer block.id (record node { board = board_now; chain = held_now; served = served_now }))
    ≡ placed_by answer node block bytes o against
placed_is answer node valid board_now held_now served_now decisions block bytes o against before free v a s preference =
    let has = admitted valid node.board node.chain board_now held_now decisions block o v a in
    told_and_asked answer node block bytes has.state before board_now held_now served_now decisions o against has.is free has.board_is has.held_is
    (s ∙ ap (λ (b : Bool). if_issued node.served b block bytes) v) has.none_decided preference

module _ (answer : Answer) (id : List ℕ) (after : Running) (told : List Line) (all : Comes Running) (is : after_lines told (asked_on_the_way answer id after) ≡ all) where
  -- memory ran out before the query
  pub told_front : (log now : List Line) → LogsFront log now told → LogsFront log now all.0
  told_front log now l = logs_front_of_more log now told (asked_on_the_way answer id after).0 all.0 l (ap (λ (c : Comes Running). c.0) is)

  module _ (on : is_preferred answer after.board id ≡ true) (log mid : List Line) (m : mid ≡ log ++ told) where
    abbrev query : Comes (Running × Bool)
    query = queried answer after

    abbrev next : Running × Bool → Comes Running
    next sent = quietly sent.0

    asks : after_lines told (then_comes query next) ≡ all
    asks = ap (λ (b : Bool). after_lines told (cond b (then_comes query next) (quietly after))) (sym on) ∙ is

    -- the query came to a stop
    pub lines_stopped : (s : Halt) (now : List Line) → HaltsAs s query.1 → Tells {T = Bool} (Err s) mid now query.0 → Tells {T = Unit {0}} (Err s) log now all.0
    lines_stopped s now h l =
        subst (λ (c : Comes Running). Tells {T = Unit {0}} (Err s) log now c.0) asks
        (logs_behind (Unit {0}) (Err s) log mid now told (then_comes query next).0 m
        (lines_first (Running × Bool) Running query next Bool (Unit {0}) s mid now h l))

    -- the query was made, or dropped
    pub lines_asked : (sent : Running × Bool) (now : List Line) → query.1 ≡ Ok sent → now ≡ mid ++ query.0 → now ≡ log ++ all.0
    lines_asked sent now h l =
        subst (λ (c : Comes Running). now ≡ log ++ c.0) asks
        (logs_behind (Unit {0}) (Ok tt) log mid now told (then_comes query next).0 m
        (lines_then (Running × Bool) Running query next (Unit {0}) (Ok tt) sent mid now now h l (sym (append-nil now))))
