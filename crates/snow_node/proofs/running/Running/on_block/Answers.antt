-- Bytes of no block are passed over, and a block that wasn't asked for too. Any other is placed where that is the first thing to do, and else offered.
use Rattle.std.proofs.Common.{◌≡◌, ◌==◌, ℕ, Bool, false, cond, List, Option, Some, None, Err, refl, ap, sym, subst, ◌∙◌, arith}
use Rattle.std.proofs.lemmas.Bool.Decides.{nat_tests}
use Rattle.std.proofs.lemmas.Result.{err_from_is_err_and}
use Rattle.snow_base.specs.declared.block.Header.{Header}
use Rattle.snow_flake.specs.Model.Rule.{Answer}
use Rattle.snow_chain.specs.Model.Chain.{Rules}
use Rattle.snow_lines.specs.declared.line.Line.TheVariants as line
use Rattle.snow_lines.specs.declared.why.SkipKind.TheVariants as kind
use Rattle.snow_issue.specs.declared.work.Waiting.{Waiting}
use Rattle.snow_issue.specs.Kept.Known.{lists_of}
use Rattle.snow_node.specs.declared.running.queue_state.QueueState.{QueueState}
use Rattle.snow_node.specs.Kept.QueueState.{IsInState}
use Rattle.snow_node.specs.Model.Outcome.{Comes, quietly, with_line, then_comes}
use Rattle.snow_node.specs.Model.Running.{Running}
use Rattle.snow_node.specs.Model.Hearing.{is_other, brought, block_brings, read_as, block_read, asked_by, without_get, block_answers, block_came}
use Rattle.snow_node.specs.Model.Settling.{placed, settled}
use Rattle.snow_node.specs.Clauses.Stepping.{HaltsAs, Tells, Turns}
use Rattle.snow_node.proofs.AtOnce.{placed_at_once}
use Rattle.snow_node.proofs.Keeping.{kept_same, same_lists}
use Rattle.snow_node.proofs.QueueState.{kept_next}
use Rattle.snow_node.proofs.Sequel.{stop_first, lines_first, then_is, lines_then}
use Rattle.snow_node.proofs.running.Running.on_block.Given as given
use Rattle.snow_node.proofs.running.Running.on_block.Goals as goal
use Rattle.snow_node.proofs.running.Running.on_block.Goals.{After-parse, After-is_next, After-forget_children, then-block-eq0, else-block-eq0+in_default}

-- ---- what comes of the bytes

-- nobody was asked for the block
unasked : (rules : Rules) (answer : Answer) (node : Running) (frame : ℕ) (peer : List ℕ) (number : ℕ) (bytes : List ℕ) → number ≡ 0
    → block_read rules answer node frame peer bytes None ≡ block_came rules answer node frame peer number bytes
unasked rules answer node frame peer number bytes e = ap (λ (n : ℕ). block_came rules answer node frame peer n bytes) (sym e)

-- a get asked for it
answered : (rules : Rules) (answer : Answer) (node now : Running) (frame : ℕ) (peer : List ℕ) (number : ℕ) (bytes : List ℕ) (asked : Option (List ℕ)) → (number ≡ 0 → ⊥)
    → asked ≡ asked_by node.queue number peer → (asked ≡ None → ⊥) → now ≡ without_get node number peer
    → block_read rules answer now frame peer bytes asked ≡ block_came rules answer node frame peer number bytes
answered rules answer node now frame peer number bytes None other found some is = absurd (some refl)
answered rules answer node now frame peer number bytes (Some id) other found some is =
    ap (λ (n : Running). block_read rules answer n frame peer bytes (Some id)) is
    ∙ ap (block_answers rules answer node frame peer number bytes) found
    ∙ ap (λ (b : Bool). cond b (block_read rules answer node frame peer bytes None) (block_answers rules answer node frame peer number bytes (asked_by node.queue number peer))) (sym unlike)
  where
    unlike : (number == 0) ≡ false
    unlike = grind (arith, nat_tests)

came : (g : given.Over) (c : After-parse g)
    → block_read g.C.Chain.rules g.B.Board.answer c.if-block-eq0.self c.args.frame c.from_bytes-peer.result c.args.block.bytes.now c.if-block-eq0.asked
    ≡ block_came g.C.Chain.rules g.B.Board.answer c.args.self.now c.args.frame c.args.block.node.now c.args.block.request c.args.block.bytes.now
came g c =
    rw (sym c.from_bytes-peer.ensures)
    (elim c.if-block-eq0.branch [
      | then-block-eq0 w ↦
          rw (w.self-is, w.asked-is)
          (unasked g.C.Chain.rules g.B.Board.answer c.args.self.now c.args.frame c.from_bytes-peer.result c.args.block.request c.args.block.bytes.now w.if-block-eq0.true)
      | else-block-eq0+in_default w ↦
          rw (w.self-is, w.asked-is)
          (answered g.C.Chain.rules g.B.Board.answer c.args.self.now w.close_get.new.self c.args.frame c.from_bytes-peer.result c.args.block.request c.args.block.bytes.now w.close_get.result
          w.if-block-eq0.false w.close_get.ensures.found w.in_default.not-None w.close_get.ensures.node)
    ])

-- these bytes are no block's
read_none : (rules : Rules) (answer : Answer) (node : Running) (frame : ℕ) (peer bytes : List ℕ) (asked : Option (List ℕ)) → None ≡ rules.header_of bytes
    → then_comes (with_line (line.Skip frame kind.Block) node) (settled rules answer) ≡ block_read rules answer node frame peer bytes asked
read_none rules answer node frame peer bytes asked e =
    ap (λ (h : Option Header). then_comes (read_as node frame peer bytes asked h) (settled rules answer)) e

-- they are those of the block that was asked for, or of any where none was
read_some : (rules : Rules) (answer : Answer) (node : Running) (frame : ℕ) (peer bytes : List ℕ) (asked : Option (List ℕ)) (block : Header) → Some block ≡ rules.header_of bytes
    → false ≡ is_other asked block.id
    → block_brings rules answer node (record { node = peer; header = block; bytes = bytes }) ≡ block_read rules answer node frame peer bytes asked
read_some rules answer node frame peer bytes asked block e same =
    ap (λ (b : Bool). then_comes (cond b (quietly node) (brought node (record { node = peer; header = block; bytes = bytes }))) (settled rules answer)) same
    ∙ ap (λ (h : Option Header). then_comes (read_as node frame peer bytes asked h) (settled rules answer)) e

-- the block as it came
abbrev block : (g : given.Over) (c : After-is_next g) → Waiting
block g c = record { node = c.from_bytes-peer.result; header = c.in-Some.header; bytes = c.args.block.bytes.now }

brings : (g : given.Over) (c : After-is_next g)
    → block_brings g.C.Chain.rules g.B.Board.answer c.if-block-eq0.self (block g c)
    ≡ block_read g.C.Chain.rules g.B.Board.answer c.if-block-eq0.self c.args.frame c.from_bytes-peer.result c.args.block.bytes.now c.if-block-eq0.asked
brings g c =
    read_some g.C.Chain.rules g.B.Board.answer c.if-block-eq0.self c.args.frame c.from_bytes-peer.result c.args.block.bytes.now c.if-block-eq0.asked c.in-Some.header
    (sym c.in-Some.is ∙ c.parse.ensures) (sym c.if-is_other.false ∙ c.is_other.ensures)

-- ---- it is placed at once

-- the node, and the block's bytes in a list of its own
abbrev ready : (g : given.Over) (c : After-forget_children g) → Running
ready g c = record {
  board = g.B.Board.board c.self.inside.board;
  chain = g.C.Chain.held c.self.inside.chain;
  served = c.self.inside.served;
  roster = c.self.inside.roster;
  polls = c.self.inside.polls;
  queue = lists_of c.forget_children.new.self;
  words = c.self.inside.words;
  last = c.self.inside.numbers;
  recorded = c.self.inside.recorded;
}

same_placed : (rules : Rules) (answer : Answer) (after node : Running) (block : Header) (own bytes : List ℕ) → after ≡ node → own ≡ bytes
    → then_comes (placed rules answer after block own) (settled rules answer) ≡ then_comes (placed rules answer node block bytes) (settled rules answer)
same_placed rules answer after node block own bytes e f =
    ap (λ (n : Running). then_comes (placed rules answer n block own) (settled rules answer)) e
    ∙ ap (λ (b : List ℕ). then_comes (placed rules answer node block b) (settled rules answer)) f

places : (g : given.Over) (c : After-forget_children g)
    → then_comes (placed g.C.Chain.rules g.B.Board.answer (ready g c) c.in-Some.header c.in_ok-bytes.bytes) (settled g.C.Chain.rules g.B.Board.answer)
    ≡ block_brings g.C.Chain.rules g.B.Board.answer c.if-block-eq0.self (record { node = c.from_bytes-peer.result; header = c.in-Some.header; bytes = c.args.block.bytes.now })
places g c =
    same_placed g.C.Chain.rules g.B.Board.answer (ready g c) c.if-block-eq0.self c.in-Some.header c.in_ok-bytes.bytes c.args.block.bytes.now (same_lists c.forget_children.ensures.lists c.self.view_is) c.in_ok-bytes.ensures
    ∙ sym (placed_at_once g.C.Chain.rules g.B.Board.answer c.if-block-eq0.self (record { node = c.from_bytes-peer.result; header = c.in-Some.header; bytes = c.args.block.bytes.now }) (c.is_next.ensures c.if-is_next.true))

pub invariant_of-self-then-is_next : goal.invariant_of-self-then-is_next
invariant_of-self-then-is_next g c = (
  kept_same c.self.inside.params (g.B.Board.board c.self.inside.board) (g.C.Chain.held c.self.inside.chain) c.self.inside.polls (lists_of c.self.inside.queue) c.self.inside.numbers c.self.invariant.0 (lists_of c.forget_children.new.self) c.forget_children.ensures.lists,
  subst (λ (k : QueueState). IsInState (g.B.Board.board c.self.inside.board) c.forget_children.new.self k) (sym c.next-self-inside.ensures)
      (kept_next (g.B.Board.board c.self.inside.board) c.self.inside.queue c.forget_children.new.self c.self.inside.queue_state c.in-Some.header.id c.forget_children.ensures.knows c.forget_children.ensures.forgets c.self.invariant.1),
  c.self.invariant.2,
)

pub returns-in_err-place-clause-answer : goal.returns-in_err-place-clause-answer
returns-in_err-place-clause-answer g c =
    let at = goal.at.returns-in_err-place-clause-answer g c in
    let p = err_from_is_err_and c.from_residual-in_err-place.result c.from_residual-in_err-place.ensures.1 in
    let s = c.in_err-place.field-0.0 in
    rw (p.1, p.2) (subst (λ (all : Comes Running). HaltsAs s all.1) (places g at.After-forget_children ∙ brings g at.After-is_next ∙ came g at.After-parse)
    (stop_first Running Running (placed g.C.Chain.rules g.B.Board.answer (ready g at.After-forget_children) c.in-Some.header c.in_ok-bytes.bytes) (settled g.C.Chain.rules g.B.Board.answer) s c.in_err-place.ensures.answer))

pub returns-in_err-place-clause-lines : goal.returns-in_err-place-clause-lines
returns-in_err-place-clause-lines g c =
    let at = goal.at.returns-in_err-place-clause-lines g c in
    let p = err_from_is_err_and c.from_residual-in_err-place.result c.from_residual-in_err-place.ensures.1 in
    let s = c.in_err-place.field-0.0 in
    rw (p.1, p.2) (subst (λ (all : Comes Running). Tells {T = Unit {0}} (Err s) c.args.log.now c.place.new.log all.0) (places g at.After-forget_children ∙ brings g at.After-is_next ∙ came g at.After-parse)
    (lines_first Running Running (placed g.C.Chain.rules g.B.Board.answer (ready g at.After-forget_children) c.in-Some.header c.in_ok-bytes.bytes) (settled g.C.Chain.rules g.B.Board.answer) (Unit {0}) (Unit {0}) s
    c.args.log.now c.place.new.log c.in_err-place.ensures.answer c.in_err-place.ensures.lines))

pub returns-then-is_next-clause-answer : goal.returns-then-is_next-clause-answer
returns-then-is_next-clause-answer g c =
    let at = goal.at.returns-then-is_next-clause-answer g c in
    subst (λ (all : Comes Running). Turns c.settle-then-is_next.result c.settle-then-is_next.new.self all.1)
    (sym (then_is Running Running (placed g.C.Chain.rules g.B.Board.answer (ready g at.After-forget_children) c.in-Some.header c.in_ok-bytes.bytes) (settled g.C.Chain.rules g.B.Board.answer) c.place.new.self c.in_ok-place.ensures.answer)
    ∙ places g at.After-forget_children ∙ brings g at.After-is_next ∙ came g at.After-parse)
    c.settle-then-is_next.ensures.answer

pub returns-then-is_next-clause-lines : goal.returns-then-is_next-clause-lines
returns-then-is_next-clause-lines g c =
    let at = goal.at.returns-then-is_next-clause-lines g c in
    subst (λ (all : Comes Running). Tells c.settle-then-is_next.result c.args.log.now c.settle-then-is_next.new.log all.0) (places g at.After-forget_children ∙ brings g at.After-is_next ∙ came g at.After-parse)
    (lines_then Running Running (placed g.C.Chain.rules g.B.Board.answer (ready g at.After-forget_children) c.in-Some.header c.in_ok-bytes.bytes) (settled g.C.Chain.rules g.B.Board.answer) (Unit {0}) c.settle-then-is_next.result c.place.new.self
    c.args.log.now c.place.new.log c.settle-then-is_next.new.log c.in_ok-place.ensures.answer c.in_ok-place.ensures.lines c.settle-then-is_next.ensures.lines)

-- ---- it is passed over, or offered

pub returns-in_default-parse-clause-lines : goal.returns-in_default-parse-clause-lines
returns-in_default-parse-clause-lines g c =
    let at = goal.at.returns-in_default-parse-clause-lines g c in
    subst (λ (all : Comes Running). Tells c.settle.result c.args.log.now c.settle.new.log all.0)
    (read_none g.C.Chain.rules g.B.Board.answer c.if-block-eq0.self c.args.frame c.from_bytes-peer.result c.args.block.bytes.now c.if-block-eq0.asked (sym c.in_default-parse.is ∙ c.parse.ensures) ∙ came g at.After-parse)
    (lines_then Running Running (with_line (line.Skip c.args.frame kind.Block) c.if-block-eq0.self) (settled g.C.Chain.rules g.B.Board.answer) (Unit {0}) c.settle.result c.if-block-eq0.self
    c.args.log.now c.write.new.log c.settle.new.log refl c.in_ok-write.ensures.lines c.settle.ensures.lines)

pub returns-in_err-offer-clause-answer : goal.returns-in_err-offer-clause-answer
returns-in_err-offer-clause-answer g c =
    let at = goal.at.returns-in_err-offer-clause-answer g c in
    let p = err_from_is_err_and c.from_residual-in_err-offer.result c.from_residual-in_err-offer.ensures.1 in
    let s = c.in_err-offer.field-0.0 in
    rw (p.1, p.2) (subst (λ (all : Comes Running). HaltsAs s all.1) (brings g at.After-is_next ∙ came g at.After-parse)
    (stop_first Running Running (brought c.if-block-eq0.self (block g at.After-is_next)) (settled g.C.Chain.rules g.B.Board.answer) s c.in_err-offer.ensures.answer))

pub returns-in_err-offer-clause-lines : goal.returns-in_err-offer-clause-lines
returns-in_err-offer-clause-lines g c =
    let at = goal.at.returns-in_err-offer-clause-lines g c in
    let p = err_from_is_err_and c.from_residual-in_err-offer.result c.from_residual-in_err-offer.ensures.1 in
    let s = c.in_err-offer.field-0.0 in
    rw (p.1, p.2) (subst (λ (all : Comes Running). Tells {T = Unit {0}} (Err s) c.args.log.now c.offer.new.log all.0) (brings g at.After-is_next ∙ came g at.After-parse)
    (lines_first Running Running (brought c.if-block-eq0.self (block g at.After-is_next)) (settled g.C.Chain.rules g.B.Board.answer) (Unit {0}) (Unit {0}) s c.args.log.now c.offer.new.log
    c.in_err-offer.ensures.answer c.in_err-offer.ensures.lines))

pub returns-clause-answer : goal.returns-clause-answer
returns-clause-answer g c =
    let at = goal.at.returns-clause-answer g c in
    subst (λ (all : Comes Running). Turns c.settle-2.result c.settle-2.new.self all.1)
    (sym (then_is Running Running (brought c.if-block-eq0.self (block g at.After-is_next)) (settled g.C.Chain.rules g.B.Board.answer) c.offer.new.self c.in_ok-offer.ensures.answer)
    ∙ brings g at.After-is_next ∙ came g at.After-parse)
    c.settle-2.ensures.answer

pub returns-clause-lines : goal.returns-clause-lines
returns-clause-lines g c =
    let at = goal.at.returns-clause-lines g c in
    subst (λ (all : Comes Running). Tells c.settle-2.result c.args.log.now c.settle-2.new.log all.0) (brings g at.After-is_next ∙ came g at.After-parse)
    (lines_then Running Running (brought c.if-block-eq0.self (block g at.After-is_next)) (settled g.C.Chain.rules g.B.Board.answer) (Unit {0}) c.settle-2.result c.offer.new.self
    c.args.log.now c.offer.new.log c.settle-2.new.log c.in_ok-offer.ensures.answer c.in_ok-offer.ensures.lines c.settle-2.ensures.lines)
