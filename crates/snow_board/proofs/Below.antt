-- Lemmas on how many votes are below a block at a bit list.
use Rattle.std.proofs.Common.{◌≡◌, ℕ, ◌+◌, ◌≤◌, Bool, true, false, List, [], ◌∷◌, ◌++◌, reverse, filter, find, sum_by, bytes_eq, Option, Some, None, if◌then◌else◌, refl, sym, ap, ◌∙◌, arith}
use Rattle.std.specs.Bool.{beq}
use Rattle.std.specs.List.{starts_with}
use Rattle.std.proofs.lemmas.List.Sums.{sum_by-cons, sum_by-le-sum_by}
use Rattle.std.proofs.lemmas.Option.{none-some}
use Rattle.snow_base.specs.declared.block.Header.{Header}
use Rattle.snow_base.specs.declared.block.Vote.{Vote}
use Rattle.snow_base.specs.Model.Votes.{total_count}
use Rattle.snow_base.specs.Model.Identifier.{bits}
use Rattle.snow_base.specs.Model.Ancestry.{line_in, begins_with, is_below, votes_below}
use Rattle.snow_board.specs.Kept.Grown.{IsGrown}
use Rattle.snow_board.proofs.Cases.{split_on, clash, same_id}
use Rattle.snow_board.proofs.Lines.{child_in, through}

-- ---- fronts

-- bits that begin with a list begin with its fronts
pub starts_front : (bits front more : List Bool) → starts_with beq bits (front ++ more) ≡ true → starts_with beq bits front ≡ true
starts_front bits [] more h = refl
starts_front [] (a ∷ front) more h = cc
starts_front (b ∷ bits) (a ∷ front) more h =
    split_on (beq a b)
    (λ t. let k = rw t at h in rw t (starts_front bits front more k))
    (λ t. let k = rw t at h in cc)

-- they don't go on with both bits
pub one_side : (bits front : List Bool) → starts_with beq bits (front ++ false ∷ []) ≡ true → starts_with beq bits (front ++ true ∷ []) ≡ false
one_side [] [] h = cc
one_side (true ∷ bits) [] h = cc
one_side (false ∷ bits) [] h = refl
one_side [] (a ∷ front) h = cc
one_side (b ∷ bits) (a ∷ front) h =
    split_on (beq a b)
    (λ t. let k = rw t at h in rw t (one_side bits front k))
    (λ t. rw t refl)

-- a block below a list is below its fronts
pub begins_front : (o : Option Header) (front more : List Bool) → begins_with (front ++ more) o ≡ true → begins_with front o ≡ true
begins_front None front more h = h
begins_front (Some b) front more h = starts_front (bits b.id) front more h

-- and not below both sides of one
begins_one : (o : Option Header) (front : List Bool) → begins_with (front ++ false ∷ []) o ≡ true → begins_with (front ++ true ∷ []) o ≡ false
begins_one None front h = refl
begins_one (Some b) front h = one_side (bits b.id) front h

-- ---- counts

-- the count of a vote where a test holds
abbrev counted_if : Bool → ℕ → ℕ
counted_if test n = if test then n else 0

-- a test that holds more often counts more
counts_more : (x y : Bool) (n : ℕ) → (x ≡ true → y ≡ true) → counted_if x n ≤ counted_if y n
counts_more true y n h = rw (h refl) (omega arith)
counts_more false y n h = omega arith

-- two tests that don't hold together count no more than there is
counts_apart : (x y : Bool) (n : ℕ) → (x ≡ true → y ≡ false) → counted_if x n + counted_if y n ≤ n
counts_apart true y n h = rw (h refl) (omega arith)
counts_apart false true n h = omega arith
counts_apart false false n h = omega arith

-- so do the sums
pub counted_apart : (test other : Vote → Bool) (votes : List Vote) → ((v : Vote) → test v ≡ true → other v ≡ false)
    → sum_by (λ v. if test v then v.count else 0) votes + sum_by (λ v. if other v then v.count else 0) votes ≤ total_count votes
counted_apart test other [] h = omega arith
counted_apart test other (v ∷ votes) h =
    omega (
      arith,
      counted_apart test other votes h,
      counts_apart (test v) (other v) v.count (h v),
      sum_by-cons (λ v. if test v then v.count else 0) v votes,
      sum_by-cons (λ v. if other v then v.count else 0) v votes,
      sum_by-cons (λ v. v.count) v votes,
    )

-- a test that holds more often has more votes
pub counted_more : (test other : Vote → Bool) (votes : List Vote) → ((v : Vote) → test v ≡ true → other v ≡ true)
    → sum_by (λ v. if test v then v.count else 0) votes ≤ sum_by (λ v. if other v then v.count else 0) votes
counted_more test other votes h =
    sum_by-le-sum_by (λ v. if test v then v.count else 0) (λ v. if other v then v.count else 0) votes (λ v. counts_more (test v) (other v) v.count (h v))

-- both sides together have no more votes than there are
pub both_sides : (blocks : List Header) (votes : List Vote) (id : List ℕ) (front : List Bool)
    → votes_below blocks votes id (front ++ false ∷ []) + votes_below blocks votes id (front ++ true ∷ []) ≤ total_count votes
both_sides blocks votes id front =
    counted_apart (λ v. is_below blocks id (front ++ false ∷ []) v.id) (λ v. is_below blocks id (front ++ true ∷ []) v.id) votes
    (λ v. begins_one (child_in (reverse blocks) id v.id) front)

-- a longer list has fewer votes
pub fewer_front : (blocks : List Header) (votes : List Vote) (id : List ℕ) (front more : List Bool) → votes_below blocks votes id (front ++ more) ≤ votes_below blocks votes id front
fewer_front blocks votes id front more =
    counted_more (λ v. is_below blocks id (front ++ more) v.id) (λ v. is_below blocks id front v.id) votes
    (λ v. begins_front (child_in (reverse blocks) id v.id) front more)

-- a block that is below another has no more votes, at any list, than that one has where it is below
pub fewer_below : (last : List ℕ) (blocks : List Header) (votes : List Vote) (top middle : List ℕ) (front place : List Bool) → IsGrown last (reverse blocks)
    → is_below blocks top front middle ≡ true → votes_below blocks votes middle place ≤ votes_below blocks votes top front
fewer_below last blocks votes top middle front place g h =
    counted_more (λ v. is_below blocks middle place v.id) (λ v. is_below blocks top front v.id) votes
    (λ v. goes_on (child_in (reverse blocks) middle v.id) (child_in (reverse blocks) top middle) v.id refl refl h)
  where
    goes_on : (low high : Option Header) (id : List ℕ) → child_in (reverse blocks) middle id ≡ low → child_in (reverse blocks) top middle ≡ high
        → begins_with front high ≡ true → begins_with place low ≡ true → begins_with front (child_in (reverse blocks) top id) ≡ true
    goes_on None high id low_is high_is above below = cc
    goes_on (Some x) None id low_is high_is above below = cc
    goes_on (Some x) (Some c) id low_is high_is above below = ap (begins_with front) (through last (reverse blocks) top middle id x c g low_is high_is) ∙ above

-- ---- after an acceptance

-- what isn't kept has no line among those kept
no_kept_line : (f : List ℕ → Bool) (blocks : List Header) (id : List ℕ) → f id ≡ false → line_in (filter (λ b. f b.id) blocks) id ≡ []
no_kept_line f [] id h = refl
no_kept_line f (b ∷ earlier) id h =
    split_on (f b.id)
    (λ t. split_on (bytes_eq b.id id)
    (λ s. clash (f id) (ap f (sym (same_id b.id id s)) ∙ t) h)
    (λ s. rw (t, s) (no_kept_line f earlier id h)))
    (λ t. rw t (no_kept_line f earlier id h))

-- the line of a block that is kept is a front of the line that it had
pub kept_line : (f : List ℕ → Bool) (blocks : List Header) (parent id : List ℕ) (c : Header) → child_in (filter (λ b. f b.id) blocks) parent id ≡ Some c
    → child_in blocks parent id ≡ Some c
kept_line f [] parent id c h = h
kept_line f (b ∷ earlier) parent id c h =
    split_on (f b.id)
    (λ t. let k = rw t at h in
    split_on (bytes_eq b.id id)
    (λ s. let m = rw s at k in
    rw s (split_on (bytes_eq b.parent parent)
    (λ u. let n = rw u at m in rw u n)
    (λ u. let n = rw u at m in rw u (kept_line f earlier parent b.parent c n))))
    (λ s. let m = rw s at k in rw s (kept_line f earlier parent id c m)))
    (λ t. let k = rw t at h in
    split_on (bytes_eq b.id id)
    (λ s. absurd (none-some c (sym (ap (find (λ b. bytes_eq b.parent parent)) (no_kept_line f earlier id (ap f (sym (same_id b.id id s)) ∙ t))) ∙ k)))
    (λ s. rw s (kept_line f earlier parent id c k)))
