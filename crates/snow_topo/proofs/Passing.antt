-- Lemmas on votes that came to a block and go on to its parent.
use Rattle.std.proofs.Common.{◌≡◌, ℕ, ◌+◌, ◌≤◌, false, List, [], length, reverse, bytes_eq, All, IsPermutation, Some, slice_get, ap, ◌∙◌, arith}
use Rattle.std.proofs.lemmas.List.{length-map}
use Rattle.std.proofs.lemmas.List.Sorted.{length_permutation}
use Rattle.std.proofs.lemmas.Option.{slice_get_within}
use Rattle.snow_base.specs.declared.block.Vote.{Vote}
use Rattle.snow_flake.specs.Model.Parameters.{Parameters}
use Rattle.snow_board.specs.Kept.Cursors.{votes_at}
use Rattle.snow_board.specs.Kept.Grown.{IsGrown}
use Rattle.snow_tree.specs.Kept.Held.{Entry, blocks_in}
use Rattle.snow_climb.specs.declared.climber.Climber.{Climber}
use Rattle.snow_climb.specs.Kept.Climbing.{climber_total, cursor_of, cursors_of, merged, ArePlaced, HasCome}
use Rattle.snow_climb.specs.Kept.Ladder.{under, up_from}
use Rattle.snow_climb.specs.Kept.Rising.{AreClimbing}
use Rattle.snow_climb.proofs.Climbers.{same_total, votes_of_group, passed_on, merged_on, placed_on}
use Rattle.snow_climb.proofs.Merged.{all_came, fewer_merged}
use Rattle.snow_topo.specs.Kept.Children.{Kept}
use Rattle.snow_topo.proofs.Climbs.{block_at, group_come, group_others}

-- of those that climb a group came to a block, and went on
pub record HavePassed (first : List (Entry Kept)) (e : Entry Kept) (climbers came new : List Climber) : Type 0 where
  -- the group came by the block's children
  pub come : All (HasCome (blocks_in first) e.block.id) (cursors_of (blocks_in first) came)
  -- it has all votes at the block
  pub votes : votes_at (cursors_of (blocks_in first) climbers) e.block.id ≡ votes_at (cursors_of (blocks_in first) came) e.block.id
  pub total : votes_at (cursors_of (blocks_in first) climbers) e.block.id [] ≡ climber_total came
  -- these went on together
  pub same : IsPermutation (merged e.block (cursors_of (blocks_in first) climbers)) (cursors_of (blocks_in first) new)
  pub placed : ArePlaced (blocks_in first) new
  pub short : length new ≤ length climbers

-- those that look for the block at a place pass it
pub have_passed : (p : Parameters) (votes : List Vote) (last : List ℕ) (first : List (Entry Kept)) (at : ℕ) (e : Entry Kept) (climbers came new : List Climber) → IsGrown last (reverse (blocks_in first))
    → slice_get first at ≡ Some e → AreClimbing p votes (blocks_in first) (at + 1) (cursors_of (blocks_in first) climbers) → ArePlaced (blocks_in first) climbers
    → IsPermutation (up_from (at + 1) climbers) came → IsPermutation (passed_on (blocks_in first) at (under (at + 1) climbers) came) new
    → HavePassed first e climbers came new
have_passed p votes last first at e climbers came new g there climbing placed told stand =
    let bs = blocks_in first in
    let others : All (λ x. bytes_eq x.sought e.block.id ≡ false) (cursors_of bs (under (at + 1) climbers)) = group_others last first at e climbers g there placed in
    let come = group_come p votes last first at e climbers came g there climbing placed told in
    let all = votes_of_group bs e.block (at + 1) climbers came told others in
    let same = merged_on bs e.block at climbers came new (block_at first at e there) others come told stand in
    record {
      come = come;
      votes = all;
      total = ap (λ f. f []) all ∙ all_came bs e.block.id (cursors_of bs came) come ∙ same_total bs came;
      same = same;
      placed = placed_on bs at climbers came new (omega (arith, slice_get_within first at e there, length-map first (λ x. x.block))) placed stand;
      short = omega (
        arith,
        length_permutation (merged e.block (cursors_of bs climbers)) (cursors_of bs new) same,
        fewer_merged e.block (cursors_of bs climbers),
        length-map new (cursor_of bs),
        length-map climbers (cursor_of bs),
      );
    }
