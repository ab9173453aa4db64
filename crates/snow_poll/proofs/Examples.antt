-- Worked examples, computed on the definitions.
use Rattle.std.proofs.Common.{◌≡◌, ℕ, true, false, Bool, List, [], ◌∷◌, map, replicate, refl, None, Some}
use Rattle.snow_base.specs.declared.block.Vote.{Vote}
use Rattle.snow_base.specs.Model.Identifier.{bits}
use Rattle.snow_base.specs.Model.Votes.{added}
use Rattle.snow_flake.specs.Laws.Alike.{votes_for}
use Rattle.snow_flake.specs.Model.Counter.{class, Middle, High}
use Rattle.snow_flake.specs.Model.Parameters.{Parameters}
use Rattle.snow_sample.specs.declared.draws.Draw.{Draw}
use Rattle.snow_poll.specs.declared.polls.Answered.TheVariants.{NotAwaited}
use Rattle.snow_poll.specs.Model.Poll.{Poll, with_reply, votes_of, received, outstanding}
use Rattle.snow_poll.specs.Model.Closing.{is_answered, cannot_reach_preference, has_preference_alone, has_confidence}
use Rattle.snow_poll.specs.Laws.Completion.{completed}
use Rattle.snow_poll.specs.Model.Table.{Table, no_polls, new_poll, begun, voted, answer, finished, shortened}

-- an identifier and a node, by the first byte
abbrev block : ℕ → List ℕ
block n = n ∷ replicate 31 0

abbrev node : ℕ → List ℕ
node n = n ∷ replicate 19 0

abbrev draw : ℕ → ℕ → Draw
draw n count = record { node = node n; count = count }

abbrev votes : ℕ → ℕ → Vote
votes n count = record { id = block n; count = count }

abbrev parameters : ℕ → ℕ → ℕ → Parameters
parameters k preference confidence =
    record { k = k; alpha_preference = preference; alpha_confidence = confidence; beta = 1; repolls = 1 }

-- received, outstanding, and which of the four cases close a poll
abbrev state : Parameters → Poll → ℕ × ℕ × List Bool
state p q = (received q, outstanding q, is_answered q ∷ cannot_reach_preference p q ∷ has_preference_alone p q ∷ has_confidence p q ∷ [])

-- ---- five nodes, quorums 3 and 5

abbrev p35 : Parameters
p35 = parameters 5 3 5

abbrev five : Poll
five = new_poll 1 (draw 1 1 ∷ draw 2 1 ∷ draw 3 1 ∷ draw 4 1 ∷ draw 5 1 ∷ [])

abbrev three_given : Poll
three_given = with_reply (with_reply (with_reply five (node 1) (Some (block 1))) (node 2) (Some (block 1))) (node 3) (Some (block 1))

-- three votes, and two that would make five
three-open : state p35 three_given ≡ (3, 2, false ∷ false ∷ false ∷ false ∷ [])
unfolding added bits
three-open = refl

-- so it stays open: the completion in which both vote for the block is of another class
three-now : class p35 (votes_for (block 1 ∷ []) (votes_of three_given)) ≡ Middle
unfolding added bits
three-now = refl

three-later : class p35 (votes_for (block 1 ∷ []) (completed three_given (λ n. Some (block 1)))) ≡ High
unfolding added bits
three-later = refl

-- a fourth node gives no vote: five can no longer be reached
fourth-drops : state p35 (with_reply three_given (node 4) None) ≡ (3, 1, false ∷ false ∷ true ∷ false ∷ [])
unfolding added bits
fourth-drops = refl

-- two nodes give no vote, and three that are left would make three
two-dropped : state p35 (with_reply (with_reply five (node 1) None) (node 2) None) ≡ (0, 3, false ∷ false ∷ false ∷ false ∷ [])
unfolding added bits
two-dropped = refl

-- a third drops: three can no longer be reached
three-dropped : state p35 (with_reply (with_reply (with_reply five (node 1) None) (node 2) None) (node 3) None) ≡ (0, 2, false ∷ true ∷ false ∷ false ∷ [])
unfolding added bits
three-dropped = refl

-- a fourth node votes for another: five are still given or outstanding
fourth-for-another : state p35 (with_reply three_given (node 4) (Some (block 2))) ≡ (4, 1, false ∷ false ∷ false ∷ false ∷ [])
unfolding added bits
fourth-for-another = refl

-- ---- five nodes, quorums 3 and 4: the fourth case

abbrev p34 : Parameters
p34 = parameters 5 3 4

four-given : state p34 (with_reply three_given (node 5) (Some (block 1))) ≡ (4, 1, false ∷ false ∷ false ∷ true ∷ [])
unfolding added bits
four-given = refl

-- ---- a node that was drawn twice

abbrev twice : Poll
twice = new_poll 7 (draw 1 2 ∷ draw 2 1 ∷ [])

abbrev p22 : Parameters
p22 = parameters 3 2 3

twice-begun : state p22 twice ≡ (0, 3, false ∷ false ∷ false ∷ false ∷ [])
unfolding added bits
twice-begun = refl

-- its reply counts twice
twice-voted : votes_of (with_reply twice (node 1) (Some (block 9))) ≡ votes 9 2 ∷ []
unfolding added bits
twice-voted = refl

-- where it gives no vote, both are lost
twice-dropped : state p22 (with_reply twice (node 1) None) ≡ (0, 1, false ∷ true ∷ false ∷ false ∷ [])
unfolding added bits
twice-dropped = refl

-- what it would have given stands in the completion
twice-completed : completed (with_reply twice (node 2) (Some (block 9))) (λ n. Some (block 3)) ≡ votes 9 1 ∷ votes 3 2 ∷ []
unfolding added bits
twice-completed = refl

-- ---- a table of two polls of one node each

abbrev p11 : Parameters
p11 = parameters 1 1 1

abbrev two : Table
two = begun (begun (no_polls p11) 1 (draw 1 1 ∷ [])) 2 (draw 1 1 ∷ [])

-- the second closes first, and waits for the first
abbrev behind : Table
behind = voted two 2 (node 1) (Some (block 5))

behind-waits : finished p11 behind.polls ≡ None
unfolding added bits
behind-waits = refl

behind-answers : map (answer behind.polls 2) (node 1 ∷ node 2 ∷ []) ≡ NotAwaited ∷ NotAwaited ∷ []
behind-answers = refl

-- the first closes, and they leave in order of beginning
abbrev both : Table
both = voted behind 1 (node 1) None

both-first : finished p11 both.polls ≡ Some (1, [])
unfolding added bits
both-first = refl

both-second : finished p11 (shortened both).polls ≡ Some (2, votes 5 1 ∷ [])
unfolding added bits
both-second = refl

both-last : (shortened (shortened both)).polls ≡ []
unfolding added bits
both-last = refl
