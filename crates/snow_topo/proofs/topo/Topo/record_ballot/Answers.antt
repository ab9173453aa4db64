use Rattle.std.proofs.Common.{◌≡◌, ◌+◌, ◌≤◌, false, ◌++◌, length, reverse, sym, ap, ◌∙◌, arith}
use Rattle.std.proofs.lemmas.List.{length-map}
use Rattle.snow_board.specs.Model.Board.{Board, blocks_of}
use Rattle.snow_board.specs.Model.Poll.{settled, poll}
use Rattle.snow_board.specs.Model.Preference.{preferred}
use Rattle.snow_board.specs.Clauses.Shown.{Shown}
use Rattle.snow_board.specs.Kept.Grown.{IsGrown}
use Rattle.snow_board.proofs.Same.{same_board}
use Rattle.snow_tree.specs.Kept.Held.{Held, blocks_in}
use Rattle.snow_topo.specs.Clauses.Ballot.{votes_of}
use Rattle.snow_topo.specs.Laws.Costs.{most_steps}
use Rattle.snow_topo.specs.Kept.Children.{Kept}
use Rattle.snow_topo.specs.Kept.Recording.{recording}
use Rattle.snow_topo.specs.Kept.View.{view}
use Rattle.snow_topo.specs.Kept.Walking.{AreNamed}
use Rattle.snow_topo.proofs.Advancing.{preferred_settled}
use Rattle.snow_topo.proofs.Costing.{fewer_steps}
use Rattle.snow_topo.proofs.Counted.{blocks_seen}
use Rattle.snow_topo.proofs.Polls.{polled}
use Rattle.snow_topo.proofs.Standings.{view_length, names_seen, names_kept, names_polled, bounded}
use Rattle.snow_topo.proofs.Steady.{preferred_same}
use Rattle.snow_topo.proofs.topo.Topo.record_ballot.Given as given
use Rattle.snow_topo.proofs.topo.Topo.record_ballot.Goals as goal
use Rattle.snow_topo.proofs.topo.Topo.record_ballot.Goals.{After-renew_if_full-before, After-count_votes-moved, After-settle, then-moved, else-moved}

-- the board stays where the numbers of polls begin anew
anew : (g : given.Over) (c : After-renew_if_full-before g) → view c.self.inside.params c.renew_if_full-before.result c.renew_if_full-before.new.root c.renew_if_full-before.new.tree ≡ view c.self.inside.params c.self.inside.polls c.self.inside.root c.self.inside.tree
anew g c = c.renew_if_full-before.ensures.board c.self.inside.params c.self.invariant.fit

-- as many blocks are pending
long : (g : given.Over) (c : After-renew_if_full-before g) → length c.renew_if_full-before.new.tree.pending ≡ length c.self.inside.tree.pending
long g c =
    omega (
      arith,
      ap (λ (b : Board). length b.pending) (anew g c),
      view_length c.self.inside.params c.renew_if_full-before.result c.renew_if_full-before.new.root c.renew_if_full-before.new.tree,
      view_length c.self.inside.params c.self.inside.polls c.self.inside.root c.self.inside.tree,
    )

-- counting takes no block out
same_long : (g : given.Over) (c : After-count_votes-moved g) → length c.count_votes-moved.new.tree.pending ≡ length c.renew_if_full-before.new.tree.pending
same_long g c =
    omega (
      arith,
      ap length c.count_votes-moved.ensures.counted.1.blocks,
      length-map c.count_votes-moved.new.tree.pending (λ e. e.block),
      length-map c.renew_if_full-before.new.tree.pending (λ e. e.block),
    )

-- what acceptance makes of the board is what the poll makes
settled_all : (g : given.Over) (c : After-settle g)
    → settled (length (view c.self.inside.params (c.renew_if_full-before.result + 1) c.count_votes-moved.new.root c.count_votes-moved.new.tree).pending) (view c.self.inside.params (c.renew_if_full-before.result + 1) c.count_votes-moved.new.root c.count_votes-moved.new.tree)
    ≡ poll (view c.self.inside.params c.self.inside.polls c.self.inside.root c.self.inside.tree) c.count_votes-moved.ensures.counted.0
settled_all g c =
    let p = c.self.inside.params in
    let first = view p c.renew_if_full-before.result c.renew_if_full-before.new.root c.renew_if_full-before.new.tree in
    let next = view p (c.renew_if_full-before.result + 1) c.count_votes-moved.new.root c.count_votes-moved.new.tree in
    let counted = c.count_votes-moved.ensures.counted in
    polled first next counted.0 counted.1.board ∙ ap (λ b. poll b counted.0) (c.renew_if_full-before.ensures.board p c.self.invariant.fit)

-- the identifiers after the poll
names : (g : given.Over) (c : After-settle g) → AreNamed (blocks_in c.settle.new.tree.pending)
names g c =
    let p = c.self.inside.params in
    let before = view p c.self.inside.polls c.self.inside.root c.self.inside.tree in
    let votes = c.count_votes-moved.ensures.counted.0 in
    names_kept p (c.renew_if_full-before.result + 1) c.settle.new.root c.settle.new.tree (poll before votes).0 (c.settle.ensures.board ∙ ap (λ r. r.0) (settled_all g c))
    (names_polled before votes (names_seen p c.self.inside.polls c.self.inside.tree c.self.invariant.named))

pub preference_of-self-inside-requires-clause-named : goal.preference_of-self-inside-requires-clause-named
preference_of-self-inside-requires-clause-named g c = names g (goal.at.preference_of-self-inside-requires-clause-named g c).After-settle

pub returns-clause-board : goal.returns-clause-board
returns-clause-board g c =
    let a = c.self.inside in
    let all = votes_of c.args.ballot in
    let counted = c.count_votes-moved.ensures.counted in
    c.settle.ensures.board
    ∙ ap (λ r. r.0) (settled_all g (goal.at.returns-clause-board g c).After-settle ∙ same_board (view a.params a.polls a.root a.tree) counted.0 all counted.2.alike)
    ∙ ap (λ (s : Shown). (poll s.board all).0) c.self.view_is

pub returns-clause-decided : goal.returns-clause-decided
returns-clause-decided g c =
    let a = c.self.inside in
    let all = votes_of c.args.ballot in
    let counted = c.count_votes-moved.ensures.counted in
    let next = view a.params (c.renew_if_full-before.result + 1) c.count_votes-moved.new.root c.count_votes-moved.new.tree in
    c.settle.ensures.told
    ∙ ap (λ l. l ++ (settled (length next.pending) next).1) c.clear.ensures.items
    ∙ ap (λ r. r.1) (settled_all g (goal.at.returns-clause-decided g c).After-settle ∙ same_board (view a.params a.polls a.root a.tree) counted.0 all counted.2.alike)
    ∙ ap (λ (s : Shown). (poll s.board all).1) c.self.view_is

-- where nothing moved the board prefers what it preferred
steady : (g : given.Over) (c : After-settle g) → c.count_votes-moved.result ≡ false
    → preferred g.R.Rule.answer (view c.self.inside.params (c.renew_if_full-before.result + 1) c.settle.new.root c.settle.new.tree) ≡ preferred g.R.Rule.answer (view c.self.inside.params c.renew_if_full-before.result c.renew_if_full-before.new.root c.renew_if_full-before.new.tree)
steady g c s =
    let p = c.self.inside.params in
    let polls = c.renew_if_full-before.result in
    let first = c.renew_if_full-before.new in
    let answer = g.R.Rule.answer in
    let root = c.count_votes-moved.new.root in
    let tree = c.count_votes-moved.new.tree in
    let counted = c.count_votes-moved.ensures.counted.1 in
    let next = view p (polls + 1) root tree in
    let last : tree.last ≡ first.tree.last = ap (λ (t : Held Kept). t.last) counted.rest in
    let grown : IsGrown tree.last (reverse (blocks_of next.pending)) = rw (last, blocks_seen p (polls + 1) tree.pending, counted.blocks) c.last-last.ensures.grown in
    ap (preferred answer) c.settle.ensures.board ∙ preferred_settled answer (length next.pending) next grown
    ∙ preferred_same answer p (polls + 1) polls root first.root tree first.tree c.k-k.ensures.good last (counted.root s) (counted.leads s)

pub invariant_of-self : goal.invariant_of-self
invariant_of-self g c =
    let at = goal.at.invariant_of-self g c in
    let p = c.self.inside.params in
    let stood = c.self.invariant in
    let room = c.count_votes-moved.ensures.ladder in
    let fewer : length c.settle.new.tree.pending ≤ length c.self.inside.tree.pending =
    omega (arith, c.settle.ensures.fewer, ap length c.clear.ensures.items, same_long g at.After-count_votes-moved, long g at.After-renew_if_full-before)
    in
    record {
      fit = c.settle.ensures.fit;
      named = names g at.After-settle;
      preference =
          elim c.if-moved.branch [
            | then-moved w ↦ w.self-is ∙ w.preference_of-self-inside.ensures
            | else-moved w ↦ w.self-is ∙ stood.preference ∙ ap (preferred g.R.Rule.answer) (sym (anew g at.After-renew_if_full-before)) ∙ sym (steady g at.After-settle w.if-moved.false)
          ];
      room = record {
        decides =
            omega (
              arith,
              fewer,
              view_length p c.self.inside.polls c.self.inside.root c.self.inside.tree,
              view_length p (c.renew_if_full-before.result + 1) c.settle.new.root c.settle.new.tree,
              c.settle.ensures.room,
              c.clear.ensures.capacity,
              stood.room.decides,
            );
        counts = omega (arith, room.votes, stood.room.counts);
        gathers = omega (arith, c.count_votes-moved.ensures.places, stood.room.gathers);
      };
      ready = record {
        low = c.count_votes-moved.ensures.low;
        most = omega (arith, fewer, room.most, room.votes, stood.ready.most);
        rungs = omega (arith, fewer, room.rungs, stood.ready.rungs);
      };
    }

pub returns-clause-steps : goal.returns-clause-steps
returns-clause-steps g c =
    let at = goal.at.returns-clause-steps g c in
    let a = c.self.inside in
    let p = a.params in
    let all = votes_of c.args.ballot in
    let counted = c.count_votes-moved.ensures.counted in
    let votes = counted.0 in
    let tree = c.renew_if_full-before.new.tree in
    let board = view p a.polls a.root a.tree in
    let same : recording p tree.last (blocks_in tree.pending) votes ≡ recording board.parameters board.last (blocks_of board.pending) votes =
    ap (λ l. recording p tree.last l votes) (sym (blocks_seen p c.renew_if_full-before.result tree.pending))
    ∙ ap (λ (b : Board). recording b.parameters b.last (blocks_of b.pending) votes) (anew g at.After-renew_if_full-before)
    in
    omega (
      arith,
      counted.3,
      same,
      bounded board votes,
      fewer_steps board votes all counted.2.fewer,
      ap (λ (s : Shown). most_steps s.board all) c.self.view_is,
    )
