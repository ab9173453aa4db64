-- The first places of a hopeless and of a ready block tell the step.
use Rattle.std.proofs.Common.{◌≡◌, ◌≤◌, None, length, find, sym, ap, ◌∙◌, subst, arith}
use Rattle.snow_issue.specs.Model.Lists.{Lists}
use Rattle.snow_issue.specs.Model.Settling.{is_hopeless, is_ready, work_of, after}
use Rattle.snow_issue.specs.Kept.Known.{Seen, Knows, lists_of, items_of}
use Rattle.snow_issue.proofs.Stepped.{none_first, at_end, vote_step}
use Rattle.snow_issue.proofs.queue.Queue.next_step.Goals as goal
use Rattle.snow_issue.proofs.queue.Queue.next_step.Goals.{After-first_ready-ready}

-- ---- a hopeless block

pub returns-then-lost-blocks : goal.returns-then-lost-blocks
returns-then-lost-blocks g c =
    let board = g.B.Board.board c.args.board.now in
    let same = c.first_hopeless-lost.ensures.lists in
    record {
      work = c.take_hopeless.ensures.work ∙ ap (λ (q : Lists). work_of q board) same;
      lists = c.take_hopeless.ensures.lists ∙ ap (λ (q : Lists). after q board c.take_hopeless.result) same;
      knows = c.take_hopeless.ensures.knows;
      marks = c.take_hopeless.ensures.marks;
      limits = c.take_hopeless.ensures.limits;
    }

-- ---- none is hopeless

pub first_ready-ready-requires-clause-seen : goal.first_ready-ready-requires-clause-seen
first_ready-ready-requires-clause-seen g c =
    let s = c.first_hopeless-lost.new.self in
    c.first_hopeless-lost.ensures.seen
    (at_end (is_hopeless (lists_of s) (g.B.Board.board c.args.board.now)) s c.first_hopeless-lost.result c.first_hopeless-lost.ensures.first
    (omega (arith, c.if-lost-blocks.false, c.blocks-2.ensures)))

-- none is hopeless, what is remembered is true, and the lists are the same
no_lost : (g : _) (c : After-first_ready-ready g)
    → None ≡ find (is_hopeless (lists_of c.first_ready-ready.new.self) (g.B.Board.board c.args.board.now)) (items_of c.first_ready-ready.new.self.seats)
no_lost g c =
    let board = g.B.Board.board c.args.board.now in
    let s = c.first_hopeless-lost.new.self in
    none_first (is_hopeless (lists_of s) board) s c.first_hopeless-lost.result c.first_hopeless-lost.ensures.first (omega (arith, c.if-lost-blocks.false, c.blocks-2.ensures))
    ∙ ap (λ (s : Seen). find (is_hopeless (lists_of s) board) (items_of s.seats)) (sym c.first_ready-ready.ensures.same)

knows : (g : _) (c : After-first_ready-ready g) → Knows c.first_ready-ready.new.self (g.B.Board.board c.args.board.now)
knows g c = subst (λ (s : Seen). Knows s (g.B.Board.board c.args.board.now)) (sym c.first_ready-ready.ensures.same) c.first_hopeless-lost.ensures.knows

same : (g : _) (c : After-first_ready-ready g) → lists_of c.first_ready-ready.new.self ≡ lists_of c.args.self.now
same g c = ap lists_of c.first_ready-ready.ensures.same ∙ c.first_hopeless-lost.ensures.lists

-- ---- a ready block

pub take_ready-requires-clause-none : goal.take_ready-requires-clause-none
take_ready-requires-clause-none g c = sym (no_lost g (goal.at.take_ready-requires-clause-none g c).After-first_ready-ready)

pub take_ready-requires-clause-knows : goal.take_ready-requires-clause-knows
take_ready-requires-clause-knows g c = knows g (goal.at.take_ready-requires-clause-knows g c).After-first_ready-ready

pub returns-then-ready-blocks : goal.returns-then-ready-blocks
returns-then-ready-blocks g c =
    let board = g.B.Board.board c.args.board.now in
    let unchanged = same g (goal.at.returns-then-ready-blocks g c).After-first_ready-ready in
    record {
      work = c.take_ready.ensures.work ∙ ap (λ (q : Lists). work_of q board) unchanged;
      lists = c.take_ready.ensures.lists ∙ ap (λ (q : Lists). after q board c.take_ready.result) unchanged;
      knows = c.take_ready.ensures.knows;
      marks = c.take_ready.ensures.marks;
      limits = c.take_ready.ensures.limits;
    }

-- ---- a reply

pub returns : goal.returns
returns g c =
    let at = (goal.at.returns g c).After-first_ready-ready in
    let board = g.B.Board.board c.args.board.now in
    let s = c.first_ready-ready.new.self in
    let past : length s.seats ≤ c.first_ready-ready.result = omega (arith, c.if-ready-blocks.false, c.blocks-3.ensures) in
    record {
      work = c.next_vote.ensures.work
          ∙ vote_step (lists_of s) board (no_lost g at) (none_first (is_ready board) s c.first_ready-ready.result c.first_ready-ready.ensures.first past)
          ∙ ap (λ (q : Lists). work_of q board) (same g at);
      lists = c.next_vote.ensures.lists board ∙ ap (λ (q : Lists). after q board c.next_vote.result) (same g at);
      knows = c.next_vote.ensures.knows board (knows g at);
      marks = c.next_vote.ensures.marks (c.first_ready-ready.ensures.none past);
      limits = c.next_vote.ensures.limits;
    }
