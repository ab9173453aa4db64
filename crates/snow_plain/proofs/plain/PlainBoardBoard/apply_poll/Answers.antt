use Rattle.std.proofs.Common.{◌≡◌, ◌++◌, length, sym, ap, ◌∙◌, true≢false, arith}
use Rattle.snow_base.specs.Model.Votes.{total_count}
use Rattle.snow_flake.specs.Model.Parameters.{Parameters}
use Rattle.snow_board.specs.Model.Board.{Board}
use Rattle.snow_board.specs.Model.Poll.{counted, settled, poll}
use Rattle.snow_board.specs.Clauses.Shown.{Shown}
use Rattle.snow_board.proofs.Same.{gives_all}
use Rattle.snow_board.proofs.Polled.{few_votes, counted_length, poll_is, settled_counted}
use Rattle.snow_plain.proofs.plain.PlainBoardBoard.apply_poll.Given as given
use Rattle.snow_plain.proofs.plain.PlainBoardBoard.apply_poll.Goals as goal
use Rattle.snow_plain.proofs.plain.PlainBoardBoard.apply_poll.Goals.{After-self-1}

pub count-requires-clause-room : goal.count-requires-clause-room
count-requires-clause-room g c =
    omega (
      arith,
      few_votes c.entries.result.now c.entries.ensures.counts,
      ap total_count c.entries.ensures.list,
      c.requires,
      ap (λ (s : Shown). s.board.parameters.k) c.self.view_is,
      c.self.invariant.0.counts,
    )

pub count-requires-clause-places : goal.count-requires-clause-places
count-requires-clause-places g c =
    omega (
      arith,
      few_votes c.entries.result.now c.entries.ensures.counts,
      ap total_count c.entries.ensures.list,
      c.requires,
      ap (λ (s : Shown). s.board.parameters.k) c.self.view_is,
      c.self.invariant.0.gathers,
    )

pub settle-requires : goal.settle-requires
settle-requires g c =
    omega (
      arith,
      c.clear.ensures.len,
      c.clear.ensures.capacity,
      c.self.invariant.0.decides,
      ap (λ (b : Board). length b.pending) c.count.ensures.board,
      counted_length c.self.inside.state c.entries.result.now,
    )

-- counting, and then acceptance
whole : (g : given.Over) (c : After-self-1 g) → settled (length c.count.new.self.pending) c.count.new.self ≡ poll c.args.self.now.board c.args.votes.now.list
whole g c =
    ap (λ (b : Board). settled (length b.pending) b) c.count.ensures.board
    ∙ poll_is c.self.inside.state c.entries.result.now
    ∙ ap (λ (s : Shown). poll s.board c.entries.result.now) c.self.view_is
    ∙ ap (poll c.args.self.now.board) c.entries.ensures.list

pub invariant_of-self : goal.invariant_of-self
invariant_of-self g c =
    let count = c.count.ensures in
    let settle = c.settle.ensures in
    let same : c.settle.new.self.parameters ≡ c.self.inside.state.parameters =
    ap (λ (b : Board). b.parameters) settle.board
    ∙ ap (λ (b : Board). (settled (length b.pending) b).0.parameters) count.board
    ∙ settled_counted c.self.inside.state c.entries.result.now (length (counted c.self.inside.state c.entries.result.now).pending)
    in
    let k = ap (λ (p : Parameters). p.k) same in (
      record {
        decides =
            omega (
              arith,
              settle.fewer,
              settle.room,
              c.clear.ensures.len,
              c.clear.ensures.capacity,
              c.self.invariant.0.decides,
              ap (λ (b : Board). length b.pending) count.board,
              counted_length c.self.inside.state c.entries.result.now,
            );
        counts = omega (arith, k, count.room, c.self.invariant.0.counts);
        gathers = omega (arith, k, count.places, c.self.invariant.0.gathers);
      },
      record { block = c.preference.ensures; top = λ is. absurd (true≢false (sym is)) },
    )

pub returns-clause-board : goal.returns-clause-board
returns-clause-board g c = c.settle.ensures.board ∙ ap (λ r. r.0) (whole g c)

pub returns-clause-decided : goal.returns-clause-decided
returns-clause-decided g c =
    c.settle.ensures.told
    ∙ ap (λ l. l ++ (settled (length c.count.new.self.pending) c.count.new.self).1) c.clear.ensures.items
    ∙ ap (λ r. r.1) (whole g c)

pub returns-clause-alike : goal.returns-clause-alike
returns-clause-alike g c =
    gives_all c.args.self.now.board c.args.votes.now.list c.settle.new.self c.settle.new.decisions.items
    (returns-clause-board g c) (returns-clause-decided g c)
