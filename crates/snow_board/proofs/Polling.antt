-- Lemmas on a poll of the counters of a conflict: how the votes split at a counter.
use Rattle.std.proofs.Common.{◌≡◌, ℕ, ◌+◌, ◌<◌, Bool, true, false, not, List, [], ◌∷◌, length, take, drop, if◌then◌else◌, refl, sym, ◌∙◌, add-zero, zero-add}
use Rattle.std.specs.Bool.{beq}
use Rattle.std.specs.List.{starts_with}
use Rattle.std.proofs.lemmas.List.Elements.{All-head, All-tail}
use Rattle.std.proofs.lemmas.List.Sums.{sum_by-cons, sum_by-take-drop}
use Rattle.snow_base.specs.declared.block.Vote.{Vote}
use Rattle.snow_base.specs.Model.Identifier.{bit, bits}
use Rattle.snow_base.specs.Kept.Split.{HaveBit}
use Rattle.snow_base.specs.Model.Votes.{total_count}
use Rattle.snow_base.proofs.Bits.{drop-bits}
use Rattle.snow_flake.specs.Model.Parameters.{Parameters}
use Rattle.snow_flake.specs.Model.Counter.{Counter, stepped, admits}
use Rattle.snow_board.specs.Model.Conflict.{Counters, Blank, At, all_polled}
use Rattle.snow_board.specs.Kept.Walk.{votes_from}
use Rattle.snow_board.proofs.Walking.{same_first, other_first}

-- the count of a vote for an identifier whose bits from bit n on begin so
abbrev counted_from : ℕ → List Bool → Vote → ℕ
counted_from n front v = if starts_with beq (drop n (bits v.id)) front then v.count else 0

-- a bit is the same as itself
same_bit : (b : Bool) → beq b b ≡ true
same_bit true = refl
same_bit false = refl

-- and differs from the other one
other_bit : (b : Bool) → beq b (not b) ≡ false
other_bit true = refl
other_bit false = refl

-- with this bit next, the bits begin so where those behind it begin with the rest
begins_same : (n : ℕ) (side : Bool) (front : List Bool) (id : List ℕ) → n < 256 → bit id n ≡ side
    → starts_with beq (drop n (bits id)) (side ∷ front) ≡ starts_with beq (drop (n + 1) (bits id)) front
begins_same n side front id h is =
    rw (drop-bits id n h, is) (same_first side side front (take (length front) (drop (n + 1) (bits id))) (same_bit side))

-- with the other bit next, they don't
begins_other : (n : ℕ) (side : Bool) (front : List Bool) (id : List ℕ) → n < 256 → bit id n ≡ not side
    → starts_with beq (drop n (bits id)) (side ∷ front) ≡ false
begins_other n side front id h is =
    rw (drop-bits id n h, is) (other_first side (not side) front (take (length front) (drop (n + 1) (bits id))) (other_bit side))

-- votes with the bit: one bit less is to be looked at
pub votes_same : (n : ℕ) (side : Bool) (votes : List Vote) (front : List Bool) → n < 256 → HaveBit n side votes
    → votes_from n votes (side ∷ front) ≡ votes_from (n + 1) votes front
votes_same n side [] front h have = refl
votes_same n side (v ∷ votes) front h have =
    let rest = votes_same n side votes front h (All-tail (λ w. bit w.id n ≡ side) v votes have) in
    let here = begins_same n side front v.id h (All-head (λ w. bit w.id n ≡ side) v votes have) in
    sum_by-cons (counted_from n (side ∷ front)) v votes
    ∙ (λ i. (if here i then v.count else 0) + rest i)
    ∙ sym (sum_by-cons (counted_from (n + 1) front) v votes)

-- votes with the other bit: none of them counts
pub votes_other : (n : ℕ) (side : Bool) (votes : List Vote) (front : List Bool) → n < 256 → HaveBit n (not side) votes
    → votes_from n votes (side ∷ front) ≡ 0
votes_other n side [] front h have = refl
votes_other n side (v ∷ votes) front h have =
    let rest = votes_other n side votes front h (All-tail (λ w. bit w.id n ≡ not side) v votes have) in
    let here = begins_other n side front v.id h (All-head (λ w. bit w.id n ≡ not side) v votes have) in
    sum_by-cons (counted_from n (side ∷ front)) v votes ∙ (λ i. (if here i then v.count else 0) + rest i)

-- the votes below a 0 are those in front of the split
pub below_zero : (n at : ℕ) (votes : List Vote) (front : List Bool) → n < 256 → HaveBit n false (take at votes) → HaveBit n true (drop at votes)
    → votes_from n votes (false ∷ front) ≡ votes_from (n + 1) (take at votes) front
below_zero n at votes front h zeros ones =
    sym (sum_by-take-drop (counted_from n (false ∷ front)) votes at)
    ∙ (λ i. votes_same n false (take at votes) front h zeros i + votes_other n false (drop at votes) front h ones i)
    ∙ add-zero _

-- those below a 1 are those behind it
pub below_one : (n at : ℕ) (votes : List Vote) (front : List Bool) → n < 256 → HaveBit n false (take at votes) → HaveBit n true (drop at votes)
    → votes_from n votes (true ∷ front) ≡ votes_from (n + 1) (drop at votes) front
below_one n at votes front h zeros ones =
    sym (sum_by-take-drop (counted_from n (true ∷ front)) votes at)
    ∙ (λ i. votes_other n true (take at votes) front h zeros i + votes_same n true (drop at votes) front h ones i)
    ∙ zero-add _

-- the counters below one side after a poll
abbrev pub side_polled : Bool → Parameters → ℕ → List Vote → Counters → Counters
side_polled is_open p n votes counters = if is_open then all_polled p (votes_from n votes) counters else Blank

-- a poll of a counter and of what is below it is the bit step, and a poll of each side with its votes
pub polled_at : (p : Parameters) (n at : ℕ) (votes : List Vote) (c : Counter) (z o : Counters) → n < 256
    → HaveBit n false (take at votes) → HaveBit n true (drop at votes)
    → let next = stepped p c (total_count (take at votes)) (total_count (drop at votes)) in
    At next (side_polled (admits next false) p (n + 1) (take at votes) z) (side_polled (admits next true) p (n + 1) (drop at votes) o)
    ≡ all_polled p (votes_from n votes) (At c z o)
unfolding all_polled
polled_at p n at votes c z o h zeros ones =
    let in_front : (front : List Bool) → votes_from (n + 1) (take at votes) front ≡ votes_from n votes (false ∷ front) = λ front. sym (below_zero n at votes front h zeros ones) in
    let behind : (front : List Bool) → votes_from (n + 1) (drop at votes) front ≡ votes_from n votes (true ∷ front) = λ front. sym (below_one n at votes front h zeros ones) in
    λ i.
    let next = stepped p c (in_front [] i) (behind [] i) in
    At next (if admits next false then all_polled p (λ front. in_front front i) z else Blank) (if admits next true then all_polled p (λ front. behind front i) o else Blank)

-- the same where each part is known by an equation
pub polled_fork : (p : Parameters) (n at : ℕ) (votes front behind : List Vote) (c next : Counter) (z o zeros ones : Counters) → n < 256
    → HaveBit n false (take at votes) → HaveBit n true (drop at votes) → front ≡ take at votes → behind ≡ drop at votes
    → next ≡ stepped p c (total_count front) (total_count behind)
    → zeros ≡ side_polled (admits next false) p (n + 1) front z → ones ≡ side_polled (admits next true) p (n + 1) behind o
    → At next zeros ones ≡ all_polled p (votes_from n votes) (At c z o)
polled_fork p n at votes front behind c next z o zeros ones h low high f b is below_z below_o =
    rw (below_z, below_o, is, f, b) (polled_at p n at votes c z o h low high)
