use Rattle.std.proofs.Common.{◌≡◌, ℕ, ◌-◌, ◌<◌, ◌≤◌, List, [], ◌∷◌, length, get_or, sym, subst, ◌∙◌, arith}
use Rattle.snow_board.proofs.Gathered.{ok_then}
use Rattle.snow_tree.specs.Kept.Held.{Entry}
use Rattle.snow_base.specs.declared.block.Vote.{Vote}
use Rattle.snow_climb.specs.declared.climber.Climber.{Climber}
use Rattle.snow_climb.specs.declared.ladder.Link.{Link}
use Rattle.snow_climb.specs.Kept.Ladder.{no_link, chain, AreLinked}
use Rattle.snow_climb.proofs.Chains.{chain_next, next_falls}
use Rattle.snow_climb.proofs.Climbers.{child_seen, child_there}
use Rattle.snow_climb.proofs.Gatherings.{AreGathered, is_among, none_gathered, more_gathered, total_left, short_left, all_votes, all_counts}
use Rattle.snow_climb.proofs.gathering.gather.Goals as goal

-- what is left begins with the one at hand
at_hand : {T : Type 0} (pending : List (Entry T)) (came : List Climber) (links : List Link) (number : ℕ) (list : List Vote) → AreLinked links → 0 < number → number ≤ length links → AreGathered pending came (chain links number) list
    → AreGathered pending came ((get_or links (number - 1) no_link).climber ∷ chain links (get_or links (number - 1) no_link).next) list
at_hand pending came links number list linked some within so_far = subst (λ l. AreGathered pending came l list) (chain_next links number linked some within) so_far

-- at the end nothing is left
at_end : {T : Type 0} (pending : List (Entry T)) (came : List Climber) (links : List Link) (number : ℕ) (list : List Vote) → number ≤ 0 → AreGathered pending came (chain links number) list → AreGathered pending came [] list
at_end pending came links number list none so_far =
    let zero_left : number ≡ 0 = omega (arith, none) in
    subst (λ n. AreGathered pending came (chain links n) list) zero_left so_far

pub loop-left-init : goal.loop-left-init
loop-left-init g c = record {
  within = c.came-last.ensures.within;
  gathered =
      subst (λ l. AreGathered c.args.tree.now.pending c.args.ladder.now.came l c.clear.new.self.list) (sym c.came-last.ensures.all)
      (none_gathered c.args.tree.now.pending c.args.ladder.now.came c.clear.new.self.list c.clear.ensures.list);
  places = omega (arith, c.clear.ensures.room);
}

pub add-requires-clause-some : goal.add-requires-clause-some
add-requires-clause-some g c =
    let links = c.came-last.result.0.now in
    let came = c.args.ladder.now.came in
    let inv = c.loop-left.invariant in
    let x = get_or links (c.loop-left.left - 1) no_link in
    let hand = at_hand c.args.tree.now.pending came links c.loop-left.left c.loop-left.children.list c.came-last.ensures.linked c.loop-left-test.true inv.within inv.gathered in
    is_among (λ c. 0 < c.count) came (chain links x.next) hand.at x.climber hand.left c.requires.counts

pub add-requires-clause-total : goal.add-requires-clause-total
add-requires-clause-total g c =
    let links = c.came-last.result.0.now in
    let came = c.args.ladder.now.came in
    let inv = c.loop-left.invariant in
    let x = get_or links (c.loop-left.left - 1) no_link in
    let hand = at_hand c.args.tree.now.pending came links c.loop-left.left c.loop-left.children.list c.came-last.ensures.linked c.loop-left-test.true inv.within inv.gathered in
    omega (arith, total_left c.args.tree.now.pending came (chain links x.next) x.climber c.loop-left.children.list hand, c.requires.total)

pub loop-left-smaller-in-Some : goal.loop-left-smaller-in-Some
loop-left-smaller-in-Some g c = next_falls c.came-last.result.0.now c.loop-left.left c.came-last.ensures.linked c.loop-left-test.true c.loop-left.invariant.within

pub loop-left-preserved-in-Some : goal.loop-left-preserved-in-Some
loop-left-preserved-in-Some g c =
    let pending = c.args.tree.now.pending in
    let links = c.came-last.result.0.now in
    let came = c.args.ladder.now.came in
    let inv = c.loop-left.invariant in
    let list = c.loop-left.children.list in
    let x = get_or links (c.loop-left.left - 1) no_link in
    let hand = at_hand pending came links c.loop-left.left list c.came-last.ensures.linked c.loop-left-test.true inv.within inv.gathered in
    let child = c.in-Some.child in
    let room : 0 < c.loop-left.children.room = omega (arith, inv.places, short_left pending came (chain links x.next) x.climber list hand, c.requires.places) in
    let added = ok_then c.add.result (c.add.ensures.fits room) c.add.ensures.ok in
    let is = child_seen pending x.climber child (sym c.at.ensures ∙ c.in-Some.is) in
    record {
      within = omega (arith, inv.within, next_falls links c.loop-left.left c.came-last.ensures.linked c.loop-left-test.true inv.within);
      gathered = subst (AreGathered pending came (chain links x.next)) (sym added) (more_gathered pending came (chain links x.next) x.climber child list is hand);
      places = omega (arith, c.add.ensures.places, inv.places);
    }

pub loop-left-smaller : goal.loop-left-smaller
loop-left-smaller g c = next_falls c.came-last.result.0.now c.loop-left.left c.came-last.ensures.linked c.loop-left-test.true c.loop-left.invariant.within

pub loop-left-preserved : goal.loop-left-preserved
loop-left-preserved g c =
    let pending = c.args.tree.now.pending in
    let links = c.came-last.result.0.now in
    let came = c.args.ladder.now.came in
    let inv = c.loop-left.invariant in
    let x = get_or links (c.loop-left.left - 1) no_link in
    let hand = at_hand pending came links c.loop-left.left c.loop-left.children.list c.came-last.ensures.linked c.loop-left-test.true inv.within inv.gathered in
    absurd (child_there pending x.climber.passed (is_among (λ c. c.passed < length pending) came (chain links x.next) hand.at x.climber hand.left c.requires.placed) (sym c.at.ensures ∙ c.in_default.is))

pub returns-clause-votes : goal.returns-clause-votes
returns-clause-votes g c =
    λ parent come.
    let came = c.args.ladder.now.came in
    let end = at_end c.args.tree.now.pending came c.came-last.result.0.now c.loop-left.left c.loop-left.children.list (omega (arith, c.loop-left-test.false)) c.loop-left.invariant.gathered in
    all_votes c.args.tree.now.pending came c.loop-left.children.list parent end come

pub returns-clause-among : goal.returns-clause-among
returns-clause-among g c = λ parent come. c.loop-left.invariant.gathered.among parent come

pub returns-clause-total : goal.returns-clause-total
returns-clause-total g c =
    all_counts c.args.tree.now.pending c.args.ladder.now.came (chain c.came-last.result.0.now c.loop-left.left) c.loop-left.children.list c.loop-left.invariant.gathered
