-- Lemmas on votes that are gathered from a list of identifiers: the order of the list doesn't matter.
use Rattle.std.proofs.Common.{◌≡◌, ℕ, zero, suc, ◌+◌, ◌<◌, ◌≤◌, List, [], ◌∷◌, length, get_or, set, take, All, fold, take_all, subst, refl, sym, ap, ◌∙◌, arith, Ordering, Less, Equal, Greater}
use Rattle.std.specs.List.{swap}
use Rattle.std.specs.List.Sorted.{IsPermutation}
use Rattle.std.specs.Ordering.{ordering_reverse}
use Rattle.std.proofs.lemmas.List.{take_more}
use Rattle.std.proofs.lemmas.List.Elements.{All-head, All-tail, All-push}
use Rattle.std.proofs.lemmas.List.Sums.{fold_more}
use Rattle.std.proofs.lemmas.List.Sorted.{IsPermutation-keeps, IsPermutation-swap, IsPermutation-sym, All-permutation}
use Rattle.snow_base.specs.declared.block.Vote.{Vote}
use Rattle.snow_base.specs.Model.Identifier.{bit_cmp}
use Rattle.snow_base.specs.Clauses.Gathered.{IsNamed, one_each}
use Rattle.snow_base.specs.Model.Votes.{added}
use Rattle.snow_base.proofs.Adding.{step}
use Rattle.snow_base.proofs.Bits.{bit_cmp-total, same_from_bit_cmp}

-- ---- votes for two identifiers, in either order

flip : (a b : List ℕ) (o : Ordering) → bit_cmp a b ≡ o → bit_cmp b a ≡ ordering_reverse o
flip a b o e = bit_cmp-total.antisymm b a ∙ ap ordering_reverse e

abbrev one_for : List ℕ → Vote
one_for id = record { id = id; count = 1 }

abbrev one_more : Vote → Vote
one_more v = record { id = v.id; count = v.count + 1 }

below : (v : Vote) (votes : List Vote) (id : List ℕ) → bit_cmp v.id id ≡ Less → added (v ∷ votes) id 1 ≡ v ∷ added votes id 1
unfolding added
below v votes id e = ap (λ o. step o v votes id 1) e

at : (v : Vote) (votes : List Vote) (id : List ℕ) → bit_cmp v.id id ≡ Equal → added (v ∷ votes) id 1 ≡ one_more v ∷ votes
unfolding added
at v votes id e = ap (λ o. step o v votes id 1) e

above : (v : Vote) (votes : List Vote) (id : List ℕ) → bit_cmp v.id id ≡ Greater → added (v ∷ votes) id 1 ≡ one_for id ∷ v ∷ votes
unfolding added
above v votes id e = ap (λ o. step o v votes id 1) e

first : (id : List ℕ) → added [] id 1 ≡ one_for id ∷ []
unfolding added
first id = refl

-- two new ones before the same votes
both_new : (a b : List ℕ) (votes : List Vote) → (bit_cmp a b ≡ Equal → a ≡ b) → added votes b 1 ≡ one_for b ∷ votes → added votes a 1 ≡ one_for a ∷ votes
    → (o : Ordering) → bit_cmp a b ≡ o → added (one_for a ∷ votes) b 1 ≡ added (one_for b ∷ votes) a 1
both_new a b votes exact new_b new_a Less e =
    below (one_for a) votes b e ∙ ap (λ l. one_for a ∷ l) new_b ∙ sym (above (one_for b) votes a (flip a b Less e))
both_new a b votes exact new_b new_a Equal e =
    at (one_for a) votes b e ∙ ap (λ id. one_more (one_for id) ∷ votes) (exact e) ∙ sym (at (one_for b) votes a (flip a b Equal e))
both_new a b votes exact new_b new_a Greater e =
    above (one_for a) votes b e ∙ ap (λ l. one_for b ∷ l) (sym new_a) ∙ sym (below (one_for b) votes a (flip a b Greater e))

-- one that goes behind the first vote, and one that doesn't
apart : (v : Vote) (votes : List Vote) (a b : List ℕ) → bit_cmp v.id a ≡ Less → (o : Ordering) → bit_cmp v.id b ≡ o
    → added (added votes a 1) b 1 ≡ added (added votes b 1) a 1
    → added (added (v ∷ votes) a 1) b 1 ≡ added (added (v ∷ votes) b 1) a 1
apart v votes a b la Less lb rest =
    ap (λ l. added l b 1) (below v votes a la) ∙ below v (added votes a 1) b lb ∙ ap (λ l. v ∷ l) rest
    ∙ sym (ap (λ l. added l a 1) (below v votes b lb) ∙ below v (added votes b 1) a la)
apart v votes a b la Equal lb rest =
    ap (λ l. added l b 1) (below v votes a la) ∙ at v (added votes a 1) b lb
    ∙ sym (ap (λ l. added l a 1) (at v votes b lb) ∙ below (one_more v) votes a la)
apart v votes a b la Greater lb rest =
    ap (λ l. added l b 1) (below v votes a la) ∙ above v (added votes a 1) b lb
    ∙ sym (ap (λ l. added l a 1) (above v votes b lb)
    ∙ below (one_for b) (v ∷ votes) a (bit_cmp-total.trans b v.id a (flip v.id b Greater lb) la)
    ∙ ap (λ l. one_for b ∷ l) (below v votes a la))

-- one for the first vote's identifier, and one before it
at_and_above : (v : Vote) (votes : List Vote) (a b : List ℕ) → bit_cmp v.id a ≡ Equal → bit_cmp v.id b ≡ Greater
    → added (added (v ∷ votes) a 1) b 1 ≡ added (added (v ∷ votes) b 1) a 1
at_and_above v votes a b la lb =
    ap (λ l. added l b 1) (at v votes a la) ∙ above (one_more v) votes b lb
    ∙ sym (ap (λ l. added l a 1) (above v votes b lb)
    ∙ below (one_for b) (v ∷ votes) a (flip a b Greater (sym (bit_cmp-total.congr v.id a b la) ∙ lb))
    ∙ ap (λ l. one_for b ∷ l) (at v votes a la))

either : (v : Vote) (votes : List Vote) (a b : List ℕ) → (bit_cmp a b ≡ Equal → a ≡ b) → (o p : Ordering) → bit_cmp v.id a ≡ o → bit_cmp v.id b ≡ p
    → added (added votes a 1) b 1 ≡ added (added votes b 1) a 1
    → added (added (v ∷ votes) a 1) b 1 ≡ added (added (v ∷ votes) b 1) a 1
either v votes a b exact Less p la lb rest = apart v votes a b la p lb rest
either v votes a b exact Equal Less la lb rest = sym (apart v votes b a lb Equal la (sym rest))
either v votes a b exact Equal Equal la lb rest =
    ap (λ l. added l b 1) (at v votes a la) ∙ at (one_more v) votes b lb
    ∙ sym (ap (λ l. added l a 1) (at v votes b lb) ∙ at (one_more v) votes a la)
either v votes a b exact Equal Greater la lb rest = at_and_above v votes a b la lb
either v votes a b exact Greater Less la lb rest = sym (apart v votes b a lb Greater la (sym rest))
either v votes a b exact Greater Equal la lb rest = sym (at_and_above v votes b a lb la)
either v votes a b exact Greater Greater la lb rest =
    ap (λ l. added l b 1) (above v votes a la)
    ∙ both_new a b (v ∷ votes) exact (above v votes b lb) (above v votes a la) (bit_cmp a b) refl
    ∙ sym (ap (λ l. added l a 1) (above v votes b lb))

-- votes for two identifiers may come in either order
commute : (votes : List Vote) (a b : List ℕ) → (bit_cmp a b ≡ Equal → a ≡ b) → added (added votes a 1) b 1 ≡ added (added votes b 1) a 1
commute [] a b exact =
    ap (λ l. added l b 1) (first a) ∙ both_new a b [] exact (first b) (first a) (bit_cmp a b) refl ∙ sym (ap (λ l. added l a 1) (first b))
commute (v ∷ votes) a b exact = either v votes a b exact (bit_cmp v.id a) (bit_cmp v.id b) refl refl (commute votes a b exact)

-- ---- a list in another order

exact : (a b : List ℕ) → IsNamed a → IsNamed b → bit_cmp a b ≡ Equal → a ≡ b
exact a b p q e = same_from_bit_cmp a b p.long q.long p.bytes q.bytes e

abbrev gathered : List Vote → List (List ℕ) → List Vote
gathered votes ids = fold (λ votes id. added votes id 1) votes ids

-- one identifier is taken out and another put in its place
exchanged : (votes : List Vote) (ids : List (List ℕ)) (i : ℕ) (id d : List ℕ) → All IsNamed ids → IsNamed id → i < length ids
    → gathered (added votes (get_or ids i d) 1) (set ids i id) ≡ gathered (added votes id 1) ids
exchanged votes [] i id d all one h = absurd (omega arith)
exchanged votes (x ∷ ids) zero id d all one h =
    ap (λ v. gathered v ids) (commute votes x id (exact x id (All-head IsNamed x ids all) one))
exchanged votes (x ∷ ids) (suc i) id d all one h =
    let rest = All-tail IsNamed x ids all in
    let here = All-head IsNamed x ids all in
    let other = rest i d (omega arith) in
    ap (λ v. gathered v (set ids i id)) (commute votes (get_or ids i d) x (exact (get_or ids i d) x other here))
    ∙ exchanged (added votes x 1) ids i id d rest one (omega arith)
    ∙ ap (λ v. gathered v ids) (commute votes x id (exact x id here one))

abbrev swapped : List (List ℕ) → ℕ → ℕ → List ℕ → List (List ℕ)
swapped ids i j d = set (set ids i (get_or ids j d)) j (get_or ids i d)

same_swapped : (votes : List Vote) (ids : List (List ℕ)) (i j : ℕ) (d : List ℕ) → All IsNamed ids → i < length ids → j < length ids
    → gathered votes (swapped ids i j d) ≡ gathered votes ids
same_swapped votes [] i j d all p q = absurd (omega arith)
same_swapped votes (x ∷ ids) zero zero d all p q = refl
same_swapped votes (x ∷ ids) zero (suc j) d all p q = exchanged votes ids j x d (All-tail IsNamed x ids all) (All-head IsNamed x ids all) (omega arith)
same_swapped votes (x ∷ ids) (suc i) zero d all p q = exchanged votes ids i x d (All-tail IsNamed x ids all) (All-head IsNamed x ids all) (omega arith)
same_swapped votes (x ∷ ids) (suc i) (suc j) d all p q = same_swapped (added votes x 1) ids i j d (All-tail IsNamed x ids all) (omega arith) (omega arith)

same_swap : (ids : List (List ℕ)) (i j : ℕ) → All IsNamed ids → i < length ids → j < length ids → gathered [] (swap ids i j) ≡ gathered [] ids
same_swap [] i j all p q = absurd (omega arith)
same_swap (x ∷ ids) i j all p q = same_swapped [] (x ∷ ids) i j x all p q

-- the same identifiers in another order give the same votes
permuted : (ids sorted : List (List ℕ)) → IsPermutation ids sorted → All IsNamed ids → gathered [] sorted ≡ gathered [] ids
permuted ids sorted moved all =
    (IsPermutation-keeps ids (λ l. All IsNamed l × (gathered [] l ≡ gathered [] ids)) (all, refl)
    (λ l i j p q is. (All-permutation IsNamed l (swap l i j) (IsPermutation-swap l (swap l i j) i j p q refl) is.0, same_swap l i j is.0 p q ∙ is.1))
    sorted moved).1

-- ---- votes that are gathered one after the other

-- one vote for each of the first identifiers, and one more
pub each_more : (ids : List (List ℕ)) (i : ℕ) (id : List ℕ) (votes new : List Vote) → i < length ids → id ≡ get_or ids i id
    → votes ≡ one_each (take i ids) → new ≡ added votes id 1 → new ≡ one_each (take (i + 1) ids)
each_more ids i id votes new h is before grown =
    grown ∙ ap (λ v. added v id 1) before ∙ ap (λ d. added (one_each (take i ids)) d 1) is ∙ sym (fold_more (λ v d. added v d 1) [] ids i id h)

pub named_more : (ids : List (List ℕ)) (i : ℕ) (id : List ℕ) → i < length ids → id ≡ get_or ids i id → All IsNamed (take i ids) → IsNamed id
    → All IsNamed (take (i + 1) ids)
named_more ids i id h is all one =
    subst (All IsNamed) (sym (take_more ids i id h)) (All-push IsNamed (take i ids) (get_or ids i id) all (subst IsNamed is one))

-- once all are gathered in another order they are those of the list
pub each_sorted : (ids given sorted items : List (List ℕ)) (i : ℕ) (votes : List Vote) → given ≡ ids → IsPermutation given sorted → items ≡ sorted → length items ≤ i
    → All IsNamed (take i items) → votes ≡ one_each (take i items) → votes ≡ one_each ids
each_sorted ids given sorted items i votes same moved all past named is =
    let whole : take i items ≡ sorted = take_all i items past ∙ all in
    let of_sorted : All IsNamed sorted = subst (All IsNamed) whole named in
    is ∙ ap one_each whole ∙ permuted given sorted moved (All-permutation IsNamed sorted given (IsPermutation-sym given sorted moved) of_sorted) ∙ ap one_each same
