use Rattle.std.proofs.Common.{◌≡◌, ◌+◌, true, false, length, bytes_eq, refl, sym, ap, subst, ◌∙◌, arith}
use Rattle.std.proofs.lemmas.Grind.{common_steps}
use Rattle.snow_base.specs.declared.block.Header.{Header}
use Rattle.snow_flake.specs.Model.Rule.{Answer}
use Rattle.snow_board.specs.declared.board.Leading.{Leading}
use Rattle.snow_board.specs.Model.Board.{Board, issued}
use Rattle.snow_board.specs.Kept.Grown.{is_on}
use Rattle.snow_board.specs.Kept.Ending.{IsLeading, leading_after}
use Rattle.snow_board.specs.Model.Preference.{preferred}
use Rattle.snow_board.specs.Laws.Reached.{MayIssue}
use Rattle.snow_board.specs.Clauses.Shown.{Shown}
use Rattle.snow_board.proofs.Cases.{id_itself}
use Rattle.snow_board.proofs.Ended.{latest_alone, leading_issued}
use Rattle.snow_tree.specs.Kept.Held.{blocks_in}
use Rattle.snow_climb.specs.Kept.Ladder.{IsReady}
use Rattle.snow_topo.specs.Kept.View.{view}
use Rattle.snow_topo.proofs.Standings.{issue_unknown, issue_follows, grown_seen, issued_length, view_length, names_issued, names_seen, names_kept}
use Rattle.snow_topo.proofs.topo.TopoBoard.issue.Given as given
use Rattle.snow_topo.proofs.topo.TopoBoard.issue.Goals as goal
use Rattle.snow_topo.proofs.topo.TopoBoard.issue.Goals.{After-last-last, then-on_top, else-on_top+then-eq, else-on_top+else-eq}

-- a child of the preference, above which no block stood, is the preference
moves : (answer : Answer) (leading : Leading) (board : Board) (child : Header) → leading.is_top ≡ true → leading.block ≡ child.parent → (leading_after answer leading board child).block ≡ child.id
moves answer leading board child top same = rw (same, id_itself child.parent, top) refl

-- a block that is no child of it leaves it
stays : (answer : Answer) (leading : Leading) (board : Board) (child : Header) → bytes_eq child.parent leading.block ≡ false → leading.block ≡ (leading_after answer leading board child).block
stays answer leading board child other = rw other refl

pub issue-requires-clause-unknown : goal.issue-requires-clause-unknown
issue-requires-clause-unknown g c =
    let a = c.self.inside in
    let child : Header = record { id = c.args.id; parent = c.args.parent; height = c.args.height } in
    let may : MayIssue (view a.params a.polls a.root a.tree) child = subst (λ (s : Shown). MayIssue s.board child) (sym c.self.view_is) c.requires in
    issue_unknown a.params a.polls a.root a.tree c.args.id may.unknown

-- the parent is on the board
parent_on : (g : given.Over) (c : After-last-last g) → is_on c.self.inside.tree.last (blocks_in c.self.inside.tree.pending) c.args.parent ≡ true
parent_on g c =
    let a = c.self.inside in
    let child : Header = record { id = c.args.id; parent = c.args.parent; height = c.args.height } in
    let may : MayIssue (view a.params a.polls a.root a.tree) child = subst (λ (s : Shown). MayIssue s.board child) (sym c.self.view_is) c.requires in
    issue_follows a.params a.polls a.root a.tree c.args.parent may.follows.0 may.follows.1

pub is_top-on_top-requires-clause-on : goal.is_top-on_top-requires-clause-on
is_top-on_top-requires-clause-on g c = parent_on g (goal.at.is_top-on_top-requires-clause-on g c).After-last-last

pub issue-requires-clause-follows : goal.issue-requires-clause-follows
issue-requires-clause-follows g c = parent_on g (goal.at.issue-requires-clause-follows g c).After-last-last

pub preference_of-requires-clause-named : goal.preference_of-requires-clause-named
preference_of-requires-clause-named g c =
    let a = c.self.inside in
    let child : Header = record { id = c.args.id; parent = c.args.parent; height = c.args.height } in
    let old = view a.params a.polls a.root a.tree in
    names_kept a.params a.polls c.issue.new.root c.issue.new.tree (issued old child) (c.in_ok-issue.ensures.board a.polls)
    (names_issued old child (names_seen a.params a.polls a.tree c.self.invariant.named) c.named.ensures)

pub preference_of-requires-clause-fit : goal.preference_of-requires-clause-fit
preference_of-requires-clause-fit g c = c.in_ok-issue.ensures.fit c.self.inside.polls c.self.invariant.fit

pub invariant_of-self-2 : goal.invariant_of-self-2
invariant_of-self-2 g c =
    let a = c.self.inside in
    let answer = g.R.Rule.answer in
    let child : Header = record { id = c.args.id; parent = c.args.parent; height = c.args.height } in
    let old = view a.params a.polls a.root a.tree in
    let new : view a.params a.polls c.issue.new.root c.issue.new.tree ≡ issued old child = c.in_ok-issue.ensures.board a.polls in
    let may : MayIssue old child = subst (λ (s : Shown). MayIssue s.board child) (sym c.self.view_is) c.requires in
    let leading : Leading = record { block = a.preference; is_top = c.is_top-on_top.result } in
    let was : IsLeading answer old leading = record { block = c.self.invariant.preference; top = c.is_top-on_top.ensures.top } in
    let alone = latest_alone old child may (grown_seen a.params a.polls a.tree.last a.tree c.last-last.ensures.grown) in
    let after = leading_issued answer g.met.R.Rule.agrees old child leading may.unknown alone was in
    let longer = ap (λ (b : Board). length b.pending) new ∙ issued_length old child in
    record {
      fit = c.in_ok-issue.ensures.fit a.polls c.self.invariant.fit;
      named =
          names_kept a.params a.polls c.issue.new.root c.issue.new.tree (issued old child) new
          (names_issued old child (names_seen a.params a.polls a.tree c.self.invariant.named) c.named.ensures);
      preference =
          elim c.if-on_top.branch [
            | then-on_top w ↦
                w.self-is ∙ sym (moves answer leading (issued old child) child w.if-on_top.true (c.is_top-on_top.ensures.same w.if-on_top.true)) ∙ after.block ∙ ap (preferred answer) (sym new)
            | else-on_top+then-eq w ↦ w.self-is ∙ w.preference_of.ensures
            | else-on_top+else-eq w ↦ w.self-is ∙ stays answer leading (issued old child) child (sym w.eq.ensures ∙ w.if-eq.false) ∙ after.block ∙ ap (preferred answer) (sym new)
          ];
      room = record {
        decides = let before = view_length a.params a.polls a.root a.tree in grind (arith, common_steps);
        counts = omega (arith, c.make_room.ensures.votes, c.self.invariant.room.counts);
        gathers = c.self.invariant.room.gathers;
      };
      ready =
          let size : c.len-pending.result + 1 ≡ length c.issue.new.tree.pending =
          omega (arith, c.len-pending.ensures, longer, view_length a.params a.polls a.root a.tree, view_length a.params a.polls c.issue.new.root c.issue.new.tree)
          in
          subst (λ n. IsReady n c.make_room.new.self) size c.in_ok-make_room.ensures.ok;
    }
