-- The number is new, and no poll has a greater one.
use Rattle.snow_issue.specs.Kept.Known.{lists_of}
use Rattle.snow_node.proofs.Keeping.{kept_begun, kept_unbegun, new_to_polls}
use Rattle.snow_node.proofs.running.Running.query.Goals as goal

pub begin-requires-clause-number : goal.begin-requires-clause-number
begin-requires-clause-number g c = new_to_polls c.self.inside.params (g.B.Board.board c.self.inside.board) (g.C.Chain.held c.self.inside.chain) c.self.inside.polls (lists_of c.self.inside.queue) c.self.inside.numbers c.self.invariant.0 c.in-Some.number c.draw.new.self c.in-Some.ensures.number c.draw.ensures.last

pub invariant_of-self-in_err-push : goal.invariant_of-self-in_err-push
invariant_of-self-in_err-push g c = (
  kept_begun c.self.inside.params (g.B.Board.board c.self.inside.board) (g.C.Chain.held c.self.inside.chain) c.self.inside.polls (lists_of c.self.inside.queue) c.self.inside.numbers c.self.invariant.0 c.in-Some.number c.draw.new.self c.sample.new.out c.begin.new.self
      c.in-Some.ensures.number c.draw.ensures.last c.in_default-begin.ensures.ok,
  c.self.invariant.1,
  c.self.invariant.2,
)

pub invariant_of-self-2 : goal.invariant_of-self-2
invariant_of-self-2 g c = (
  kept_begun c.self.inside.params (g.B.Board.board c.self.inside.board) (g.C.Chain.held c.self.inside.chain) c.self.inside.polls (lists_of c.self.inside.queue) c.self.inside.numbers c.self.invariant.0 c.in-Some.number c.draw.new.self c.sample.new.out c.begin.new.self
      c.in-Some.ensures.number c.draw.ensures.last c.in_default-begin.ensures.ok,
  c.self.invariant.1,
  c.self.invariant.2,
)

pub invariant_of-self-in-Err : goal.invariant_of-self-in-Err
invariant_of-self-in-Err g c = (kept_unbegun c.self.inside.params (g.B.Board.board c.self.inside.board) (g.C.Chain.held c.self.inside.chain) c.self.inside.polls (lists_of c.self.inside.queue) c.self.inside.numbers c.self.invariant.0 c.draw.new.self c.begin.new.self c.draw.ensures.last c.in-Err.ensures.err, c.self.invariant.1, c.self.invariant.2)
