-- Lemmas on where the answers of a block's counters lead: to a child, where it has one.
use Rattle.std.proofs.Common.{◌≡◌, ℕ, ◌≤◌, Bool, true, false, not, ◌&&◌, List, [], ◌∷◌, ◌++◌, length, bytes_eq, Option, Some, None, is_some, nat_lt, refl, sym, ap, ◌∙◌, arith, append_assoc, append-nil}
use Rattle.std.specs.Bool.{beq}
use Rattle.std.specs.Cmp.{booleans_Decides}
use Rattle.std.specs.Cmp.Lexicographic.{pointwise}
use Rattle.std.specs.List.{list_any, starts_with}
use Rattle.std.proofs.lemmas.Bool.{or_parts, or_from, or_left, or_right, and_parts, ltb-false}
use Rattle.snow_base.specs.declared.block.Header.{Header}
use Rattle.snow_base.specs.Model.Identifier.{bits}
use Rattle.snow_base.proofs.Bits.{length-bits}
use Rattle.snow_flake.specs.Model.Counter.{Counter, Decided, Undecided, admits}
use Rattle.snow_flake.specs.Model.Rule.{Answer, answer_of}
use Rattle.snow_board.specs.Model.Conflict.{Counters, Blank, At, counter_at, chosen}
use Rattle.snow_board.specs.Laws.Excluded.{lets, is_excluded}
use Rattle.snow_board.specs.Laws.StandingLaw.{has_child_from}
use Rattle.snow_board.proofs.Cases.{split_on}
use Rattle.snow_board.proofs.Standing.{StandIn}
use Rattle.snow_board.proofs.Backing.{answer_backed, BackedIn}

-- whether a block has a child with just these bits
abbrev pub has_child_at : List Header → List ℕ → List Bool → Bool
has_child_at blocks parent path = list_any (λ b. bytes_eq b.parent parent && pointwise beq path (bits b.id)) blocks

-- a weaker test
pub any_weaker : {X : Type 0} (p q : X → Bool) (xs : List X) → ((x : X) → p x ≡ true → q x ≡ true) → list_any p xs ≡ true → list_any q xs ≡ true
any_weaker p q [] up h = h
any_weaker p q (x ∷ xs) up h =
    split_on (p x)
    (λ t. or_left (q x) (list_any q xs) (up x t))
    (λ t. let k = rw t at h in or_right (q x) (list_any q xs) (any_weaker p q xs up k))

-- bits that begin with a list that is as long are the list
starts_whole : (bs front : List Bool) → starts_with beq bs front ≡ true → length bs ≤ length front → pointwise beq front bs ≡ true
starts_whole [] [] h n = refl
starts_whole (b ∷ bs) [] h n = absurd (omega (arith, n))
starts_whole [] (a ∷ front) h n = cc
starts_whole (b ∷ bs) (a ∷ front) h n =
    split_on (beq a b)
    (λ t. let k = rw t at h in rw t (starts_whole bs front k (omega (arith, n))))
    (λ t. let k = rw t at h in cc)

-- a list isn't excluded by one bit more that the counter there admits
free_next : (counters : List Bool → Option Counter) (front : List Bool) (bit : Bool) → is_excluded counters front ≡ false → lets (counters front) bit ≡ true
    → is_excluded counters (front ++ bit ∷ []) ≡ false
free_next counters [] bit h k = rw k refl
free_next counters (a ∷ front) bit h k =
    let parts = or_parts (not (lets (counters []) a)) (is_excluded (λ place. counters (a ∷ place)) front) h in
    or_from (not (lets (counters []) a)) (is_excluded (λ place. counters (a ∷ place)) (front ++ bit ∷ [])) parts.0
    (free_next (λ place. counters (a ∷ place)) front bit parts.1 k)

-- a counter admits what it answers
answer_admitted : (answer : Answer) (c : Counter) → admits c (answer_of answer c) ≡ true
answer_admitted answer (Decided bit) = (booleans_Decides bit bit).1 refl
answer_admitted answer (Undecided s) = refl

-- where there is no counter but a child, and nothing is excluded, the list is long
long_case : (short child excluded : Bool) → false ≡ (short && child && not excluded) → child ≡ true → excluded ≡ false → short ≡ false
long_case false child excluded h a b = refl
long_case true true false h a b = sym h
long_case true true true h a b = cc
long_case true false excluded h a b = cc

module _ (answer : Answer) (agrees : (b : Bool) → answer b b ≡ b) (blocks : List Header) (id : List ℕ) (counters : Counters)
    (stands : StandIn blocks id counters) (backed : BackedIn blocks id counters) where
  -- a list without a counter that begins a child's bits is all of them
  whole : (front : List Bool) → counter_at counters front ≡ None → has_child_from blocks id front ≡ true → is_excluded (counter_at counters) front ≡ false
      → has_child_at blocks id front ≡ true
  whole front none child free =
      let short = nat_lt (length front) 256 in
      let long : short ≡ false =
      long_case short (has_child_from blocks id front) (is_excluded (counter_at counters) front) (sym (ap is_some none) ∙ stands front) child free in
      any_weaker (λ b. bytes_eq b.parent id && starts_with beq (bits b.id) front) (λ b. bytes_eq b.parent id && pointwise beq front (bits b.id)) blocks
      (λ b h.
      let parts = and_parts (bytes_eq b.parent id) (starts_with beq (bits b.id) front) h in
      let same : pointwise beq front (bits b.id) ≡ true = starts_whole (bits b.id) front parts.1 (omega (arith, length-bits b.id, ltb-false (length front) 256 long)) in
      rw (parts.0, same) refl)
      child

  -- the answers from a list on lead to a child, where some child's bits begin with the list
  walk : (front : List Bool) (rest : Counters) → ((place : List Bool) → counter_at counters (front ++ place) ≡ counter_at rest place)
      → has_child_from blocks id front ≡ true → is_excluded (counter_at counters) front ≡ false → has_child_at blocks id (front ++ chosen answer rest) ≡ true
  unfolding chosen
  walk front Blank same child free =
      ap (has_child_at blocks id) (append-nil front) ∙ whole front (ap (counter_at counters) (sym (append-nil front)) ∙ same []) child free
  walk front (At c z o) same child free =
      let here : counter_at counters front ≡ Some c = ap (counter_at counters) (sym (append-nil front)) ∙ same [] in
      let goes : has_child_from blocks id (front ++ answer_of answer c ∷ []) ≡ true =
      answer_backed answer agrees (λ b. has_child_from blocks id (front ++ b ∷ [])) c (backed front c here) in
      let still : is_excluded (counter_at counters) (front ++ answer_of answer c ∷ []) ≡ false =
      free_next (counter_at counters) front (answer_of answer c) free (ap (λ p. lets p (answer_of answer c)) here ∙ answer_admitted answer c) in
      split_on (answer_of answer c)
      (λ t. let k = rw t at goes in
      let m = rw t at still in
      rw t (sym (ap (has_child_at blocks id) (append_assoc front (true ∷ []) (chosen answer o)))
      ∙ walk (front ++ true ∷ []) o (λ place. ap (counter_at counters) (append_assoc front (true ∷ []) place) ∙ same (true ∷ place)) k m))
      (λ t. let k = rw t at goes in
      let m = rw t at still in
      rw t (sym (ap (has_child_at blocks id) (append_assoc front (false ∷ []) (chosen answer z)))
      ∙ walk (front ++ false ∷ []) z (λ place. ap (counter_at counters) (append_assoc front (false ∷ []) place) ∙ same (false ∷ place)) k m))

  -- the answers lead to a child, where there is one
  pub leads : has_child_from blocks id [] ≡ true → has_child_at blocks id (chosen answer counters) ≡ true
  leads child = walk [] counters (λ place. refl) child refl
