-- Lemmas on a whole poll: how many votes it has, what it leaves of the parameters, and that it is counting and then acceptance.
use Rattle.std.proofs.Common.{◌≡◌, ℕ, ◌<◌, ◌≤◌, List, [], ◌∷◌, length, All, refl, sym, ap, ◌∙◌, arith}
use Rattle.std.proofs.lemmas.List.{length-map}
use Rattle.std.proofs.lemmas.List.Elements.{All-head, All-tail}
use Rattle.std.proofs.lemmas.List.Sums.{sum_by-cons}
use Rattle.snow_base.specs.declared.block.Vote.{Vote}
use Rattle.snow_base.specs.Model.Votes.{total_count}
use Rattle.snow_board.specs.Model.Board.{Board, blocks_of, with_counters}
use Rattle.snow_board.specs.Model.Poll.{with_votes, counted, settled, poll}
use Rattle.snow_board.proofs.Settled.{settled_parameters}

-- there are no more entries than votes
pub few_votes : (votes : List Vote) → All (λ v. 0 < v.count) votes → length votes ≤ total_count votes
few_votes [] all = omega arith
few_votes (v ∷ votes) all =
    omega (arith, sum_by-cons (λ v. v.count) v votes, All-head (λ v. 0 < v.count) v votes all, few_votes votes (All-tail (λ v. 0 < v.count) v votes all))

-- counting leaves as many pending blocks
pub counted_length : (board : Board) (votes : List Vote) → length (counted board votes).pending ≡ length board.pending
unfolding counted
counted_length board votes = length-map board.pending (with_counters (with_votes board.parameters (blocks_of board.pending) votes))

-- and the parameters
counted_parameters : (board : Board) (votes : List Vote) → (counted board votes).parameters ≡ board.parameters
unfolding counted
counted_parameters board votes = refl

-- acceptance after counting is the poll
pub poll_is : (board : Board) (votes : List Vote) → settled (length (counted board votes).pending) (counted board votes) ≡ poll board votes
unfolding poll
poll_is board votes = ap (λ n. settled n (counted board votes)) (counted_length board votes)

-- a poll leaves the parameters as they are
pub settled_counted : (board : Board) (votes : List Vote) (n : ℕ) → (settled n (counted board votes)).0.parameters ≡ board.parameters
settled_counted board votes n = settled_parameters n (counted board votes) ∙ counted_parameters board votes

-- the same of the whole
pub poll_parameters : (board : Board) (votes : List Vote) → (poll board votes).0.parameters ≡ board.parameters
poll_parameters board votes =
    ap (λ r. r.0.parameters) (sym (poll_is board votes)) ∙ settled_counted board votes (length (counted board votes).pending)
