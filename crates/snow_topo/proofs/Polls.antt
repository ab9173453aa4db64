-- Lemmas on a whole poll: the bit step, and then acceptance.
use Rattle.std.proofs.Common.{◌≡◌, List, length, ap, ◌∙◌}
use Rattle.std.proofs.lemmas.List.{length-map}
use Rattle.snow_base.specs.declared.block.Vote.{Vote}
use Rattle.snow_board.specs.Model.Board.{Board, blocks_of, with_counters}
use Rattle.snow_board.specs.Model.Poll.{with_votes, counted, settled, poll}

-- what acceptance makes of the board after the bit step is what the poll makes
pub polled : (old new : Board) (votes : List Vote) → new ≡ counted old votes → settled (length new.pending) new ≡ poll old votes
unfolding counted poll
polled old new votes is =
    ap (λ (b : Board). settled (length b.pending) b) is
    ∙ ap (λ n. settled n (counted old votes)) (length-map old.pending (with_counters (with_votes old.parameters (blocks_of old.pending) votes)))
