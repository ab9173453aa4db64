-- The counters of one conflict: those of a block, for the bits of its children.
use Rattle.std.specs.Prelude.{ℕ, Bool, true, false, List, [], ◌∷◌, Option, Some, None, sum_by, if◌then◌else◌}
use Rattle.std.specs.Option.{option_map, option_map_or}
use Rattle.std.specs.Bool.{beq}
use Rattle.std.specs.List.{starts_with}
use Rattle.std.specs.Cmp.Lexicographic.{pointwise}
use Rattle.snow_base.specs.declared.block.Vote.{Vote}
use Rattle.snow_base.specs.Model.Identifier.{bits}
use Rattle.snow_flake.specs.Model.Parameters.{Parameters}
use Rattle.snow_flake.specs.Model.Counter.{Counter, Decided, Undecided, fresh, stepped, admits}
use Rattle.snow_flake.specs.Model.Rule.{Answer, answer_of}
use Rattle.snow_board.specs.declared.board.Pending.{Pending as Entry}

-- a map from bit lists to counters: the counter at the empty list, and the maps under 0 and under 1
pub data Counters : Type 0 where
  Blank : Counters
  At : (counter : Counter) → (below_zero below_one : Counters) → Counters

-- a pending block, with the counters of its children
abbrev pub Pending : Type 0
Pending = Entry Counters

-- the counter at a bit list
abbrev pub counter_at : Counters → List Bool → Option Counter
counter_at Blank front = None
counter_at (At c z o) [] = Some c
counter_at (At c z o) (false ∷ front) = counter_at z front
counter_at (At c z o) (true ∷ front) = counter_at o front

-- a child with these bits was issued: fresh counters stand where none stood, but behind no decided
-- counter of the other bit
unfoldable pub with_child : List Bool → Counters → Counters
with_child [] counters = counters
with_child (false ∷ rest) Blank = At (fresh false) (with_child rest Blank) Blank
with_child (true ∷ rest) Blank = At (fresh true) Blank (with_child rest Blank)
with_child (false ∷ rest) (At c z o) = At c (if admits c false then with_child rest z else z) o
with_child (true ∷ rest) (At c z o) = At c z (if admits c true then with_child rest o else o)

-- every counter takes the bit step with its own votes, all at once; those behind a decided counter
-- of the other bit go. The votes at a bit list are those for children whose bits begin so.
unfoldable pub all_polled : Parameters → (List Bool → ℕ) → Counters → Counters
all_polled p votes Blank = Blank
all_polled p votes (At c z o) =
    let next = stepped p c (votes (false ∷ [])) (votes (true ∷ [])) in
    At next
    (if admits next false then all_polled p (λ front. votes (false ∷ front)) z else Blank)
    (if admits next true then all_polled p (λ front. votes (true ∷ front)) o else Blank)

-- the bits to which the counters lead by their answers
unfoldable pub chosen : Answer → Counters → List Bool
chosen answer Blank = []
chosen answer (At c z o) = if answer_of answer c then true ∷ chosen answer o else false ∷ chosen answer z

-- whether the counters lead to this identifier by their answers
abbrev pub leads_to : Answer → Counters → List ℕ → Bool
leads_to answer counters id = pointwise beq (chosen answer counters) (bits id)

-- the bits to which the counters lead, where each counter on the way is decided
unfoldable pub decided_path : Counters → Option (List Bool)
decided_path Blank = Some []
decided_path (At (Undecided s) z o) = None
decided_path (At (Decided false) z o) = option_map (λ path. false ∷ path) (decided_path z)
decided_path (At (Decided true) z o) = option_map (λ path. true ∷ path) (decided_path o)

-- whether decided counters alone lead to this identifier
abbrev pub decides : Counters → List ℕ → Bool
decides counters id = option_map_or (λ path. pointwise beq path (bits id)) (decided_path counters) false

-- how many of these votes are for identifiers whose bits begin so
abbrev pub votes_on : List Vote → List Bool → ℕ
votes_on votes front = sum_by (λ v. if starts_with beq (bits v.id) front then v.count else 0) votes
