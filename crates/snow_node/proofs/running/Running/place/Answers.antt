-- A block that was admitted is told of, and asked about where it is on the way to the preference.
use Rattle.std.proofs.Common.{◌≡◌, true, List, ◌++◌, map, sym, ◌∙◌, subst}
use Rattle.std.proofs.lemmas.Result.{err_from_is_err_and}
use Rattle.snow_lines.specs.declared.line.Line.{Line}
use Rattle.snow_board.specs.Model.Board.{height_of}
use Rattle.snow_board.specs.Model.Preference.{preferred, is_preferred}
use Rattle.snow_chain.specs.Model.Chain.{next_on}
use Rattle.snow_issue.specs.Kept.Known.{lists_of}
use Rattle.snow_node.specs.Kept.Tied.{IsApart, IsKept}
use Rattle.snow_node.specs.Kept.QueueState.{IsInState}
use Rattle.snow_node.specs.declared.running.queue_state.QueueState.{QueueState}
use Rattle.snow_node.specs.Model.Outcome.{after_lines}
use Rattle.snow_node.specs.Model.Placing.{opposed}
use Rattle.snow_node.specs.Model.Running.{Running}
use Rattle.snow_node.specs.Model.Settling.{placed_by, asked_on_the_way}
use Rattle.snow_node.specs.Model.Supplying.{Serves}
use Rattle.snow_node.specs.Model.Telling.{decision_line, preference_line}
use Rattle.snow_node.proofs.Issuing.{kept_admitted, placed_is, told_front, lines_stopped, lines_asked}
use Rattle.snow_node.proofs.Preferred.{preference_leads}
use Rattle.snow_node.proofs.running.Running.place.Given as given
use Rattle.snow_node.proofs.running.Running.place.Goals as goal
use Rattle.snow_node.proofs.running.Running.place.Goals.{After-issued-self-inside, After-query, then-eq-via-then-eq, then-eq-via-else-eq+then-is_preferred}

-- what the node keeps once the block is on the board
kept : (g : given.Over) (c : After-issued-self-inside g)
    → IsKept c.self.inside.params (g.B.Board.board c.verify_and_issue.new.board) (g.C.Chain.held c.verify_and_issue.new.chain) c.self.inside.polls (lists_of c.self.inside.queue) c.self.inside.numbers
    × IsInState (g.B.Board.board c.verify_and_issue.new.board) c.self.inside.queue c.issued-self-inside.result
    × Serves (g.B.Board.board c.verify_and_issue.new.board) c.verify_and_issue.new.served
kept g c =
    let board = g.B.Board.board c.verify_and_issue.new.board in
    let k = kept_admitted c.self.inside.params (g.B.Board.board c.self.inside.board) (g.C.Chain.held c.self.inside.chain) c.self.inside.polls c.self.inside.queue c.self.inside.numbers c.self.inside.queue_state
    c.self.invariant.0 c.self.invariant.1 c.in_ok-verify_and_issue.field-0 board (g.C.Chain.held c.verify_and_issue.new.chain) (g.B.Board.decided c.verify_and_issue.new.board) c.args.block.now
    (next_on g.C.Chain.rules (g.C.Chain.held c.self.inside.chain) c.args.block.now.parent c.args.bytes)
    c.if-not-branch.false c.in_ok-verify_and_issue.ensures.admits c.verify_and_issue.ensures.steady
    (subst (λ (n : Running). IsApart n.board n.queue.waiting c.args.block.now.id) (sym c.self.view_is) c.requires) in
    (k.0, subst (λ (q : QueueState). IsInState board c.self.inside.queue q) (sym c.issued-self-inside.ensures) k.1, c.verify_and_issue.ensures.serves)

-- the lines that it logs before the query
abbrev told : (g : given.Over) (c : After-issued-self-inside g) → List Line
told g c = map decision_line (g.B.Board.decided c.verify_and_issue.new.board)
    ++ preference_line c.preference-before.result (preferred g.B.Board.answer (g.B.Board.board c.verify_and_issue.new.board))

-- the node then
abbrev after : (g : given.Over) (c : After-issued-self-inside g) → Running
after g c = record {
  board = g.B.Board.board c.verify_and_issue.new.board;
  chain = g.C.Chain.held c.verify_and_issue.new.chain;
  served = c.verify_and_issue.new.served;
  roster = c.self.inside.roster;
  polls = c.self.inside.polls;
  queue = lists_of c.self.inside.queue;
  words = c.self.inside.words;
  last = c.self.inside.numbers;
  recorded = c.self.inside.recorded;
}

-- what it does is all that placing the block comes to
placed : (g : given.Over) (c : After-issued-self-inside g)
    → after_lines (told g c) (asked_on_the_way g.B.Board.answer c.args.block.now.id (after g c))
    ≡ placed_by g.B.Board.answer c.args.self.now c.args.block.now c.args.bytes (next_on g.C.Chain.rules c.args.self.now.chain c.args.block.now.parent c.args.bytes)
    (opposed c.args.self.now.board c.args.block.now (height_of c.args.self.now.board c.args.block.now.parent))
placed g c =
    subst (λ (n : Running). after_lines (told g c) (asked_on_the_way g.B.Board.answer c.args.block.now.id (after g c))
    ≡ placed_by g.B.Board.answer n c.args.block.now c.args.bytes (next_on g.C.Chain.rules n.chain c.args.block.now.parent c.args.bytes) (opposed n.board c.args.block.now (height_of n.board c.args.block.now.parent)))
    c.self.view_is
    (placed_is g.B.Board.answer
    (record (after g c) { board = g.B.Board.board c.self.inside.board; chain = g.C.Chain.held c.self.inside.chain; served = c.self.inside.served })
    c.in_ok-verify_and_issue.field-0 (g.B.Board.board c.verify_and_issue.new.board) (g.C.Chain.held c.verify_and_issue.new.chain) c.verify_and_issue.new.served
    (g.B.Board.decided c.verify_and_issue.new.board) c.args.block.now c.args.bytes
    (next_on g.C.Chain.rules (g.C.Chain.held c.self.inside.chain) c.args.block.now.parent c.args.bytes)
    (opposed (g.B.Board.board c.self.inside.board) c.args.block.now (height_of (g.B.Board.board c.self.inside.board) c.args.block.now.parent)) c.preference-before.result
    (sym c.opposition.ensures.why ∙ c.in-None.is) c.if-not-branch.false c.in_ok-verify_and_issue.ensures.admits c.in_ok-verify_and_issue.ensures.served c.preference-before.ensures)

-- the block is on the way to the preference
leads : (g : given.Over) (c : After-query g) → is_preferred g.B.Board.answer (g.B.Board.board c.verify_and_issue.new.board) c.args.block.now.id ≡ true
leads g c =
    let board = g.B.Board.board c.verify_and_issue.new.board in
    elim c.then-eq.branch [
      | then-eq-via-then-eq w ↦ preference_leads g.B.Board.answer board c.args.block.now.id (rw (sym c.preference.ensures) (sym c.eq.ensures ∙ w.if-eq.true))
      | then-eq-via-else-eq+then-is_preferred w ↦ sym w.is_preferred.ensures ∙ w.if-is_preferred.true
    ]

pub invariant_of-self-in_err-tell : goal.invariant_of-self-in_err-tell
invariant_of-self-in_err-tell g c = kept g (goal.at.invariant_of-self-in_err-tell g c).After-issued-self-inside

pub invariant_of-self-else-is_preferred : goal.invariant_of-self-else-is_preferred
invariant_of-self-else-is_preferred g c = kept g (goal.at.invariant_of-self-else-is_preferred g c).After-issued-self-inside

pub invariant_of-self-then-eq : goal.invariant_of-self-then-eq
invariant_of-self-then-eq g c = kept g (goal.at.invariant_of-self-then-eq g c).After-issued-self-inside

pub returns-in_err-tell-clause-lines : goal.returns-in_err-tell-clause-lines
returns-in_err-tell-clause-lines g c =
    let at = (goal.at.returns-in_err-tell-clause-lines g c).After-issued-self-inside in
    let p = err_from_is_err_and c.from_residual-in_err-tell.result c.from_residual-in_err-tell.ensures.1 in
    rw (p.1, p.2) (told_front g.B.Board.answer c.args.block.now.id (after g at) (told g at) _ (placed g at) c.args.log.now c.tell.new.log c.in_err-tell.ensures.err)

pub returns-in_err-query-clause-lines : goal.returns-in_err-query-clause-lines
returns-in_err-query-clause-lines g c =
    let steps = goal.at.returns-in_err-query-clause-lines g c in
    let at = steps.After-issued-self-inside in
    let p = err_from_is_err_and c.from_residual-in_err-query.result c.from_residual-in_err-query.ensures.1 in
    rw (p.1, p.2) (lines_stopped g.B.Board.answer c.args.block.now.id (after g at) (told g at) _ (placed g at) (leads g steps.After-query) c.args.log.now c.tell.new.log c.in_ok-tell.ensures.ok
    c.in_err-query.field-0.0 c.query.new.log c.in_err-query.ensures.answer c.in_err-query.ensures.lines)

pub returns-in_ok-query-clause-lines : goal.returns-in_ok-query-clause-lines
returns-in_ok-query-clause-lines g c =
    let steps = goal.at.returns-in_ok-query-clause-lines g c in
    let at = steps.After-issued-self-inside in
    lines_asked g.B.Board.answer c.args.block.now.id (after g at) (told g at) _ (placed g at) (leads g steps.After-query) c.args.log.now c.tell.new.log c.in_ok-tell.ensures.ok
    (c.query.new.self, c.in_ok-query.field-0) c.query.new.log c.in_ok-query.ensures.answer c.in_ok-query.ensures.lines
