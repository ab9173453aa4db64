-- Lemmas on the children of a block, in order of issue.
use Rattle.std.proofs.Common.{◌≡◌, ℕ, Bool, true, false, List, [], ◌∷◌, ◌++◌, reverse, map, filter, cond, bytes_eq, All, refl, sym, ap, ◌∙◌, if◌then◌else◌}
use Rattle.std.proofs.lemmas.List.{map-append, reverse-reverse}
use Rattle.std.proofs.lemmas.List.Elements.{filter-append, All-head, All-tail}
use Rattle.std.proofs.lemmas.Bool.{or_parts}
use Rattle.snow_base.specs.declared.block.Header.{Header}
use Rattle.snow_board.specs.Kept.Grown.{is_on, IsGrown}
use Rattle.snow_board.proofs.Cases.{split_on}
use Rattle.snow_board.proofs.Grown.{has_child, childless}
use Rattle.snow_board.proofs.Kept.{filter-reverse}
use Rattle.snow_tree.specs.Kept.Held.{children_of}

-- with one block more
pub children_push : (bs : List Header) (b : Header) (q : List ℕ) → children_of (bs ++ b ∷ []) q ≡ children_of bs q ++ (if bytes_eq b.parent q then b.id ∷ [] else [])
children_push bs b q =
    let of : Header → Bool = λ c. bytes_eq c.parent q in
    ap (map (λ c. c.id)) (filter-append of bs (b ∷ []))
    ∙ map-append (λ c. c.id) (filter of bs) (filter of (b ∷ []))
    ∙ ap (λ l. children_of bs q ++ l) (one (bytes_eq b.parent q))
  where
    one : (t : Bool) → map (λ c. c.id) (cond t (b ∷ []) []) ≡ (if t then b.id ∷ [] else [])
    one true = refl
    one false = refl

-- none where no block is a child
none_kept : (bs : List Header) (q : List ℕ) → has_child bs q ≡ false → filter (λ b. bytes_eq b.parent q) bs ≡ []
none_kept [] q h = refl
none_kept (b ∷ bs) q h =
    let parts = or_parts (bytes_eq b.parent q) (has_child bs q) h in
    rw parts.0 (none_kept bs q parts.1)

-- what isn't on the board has no children
pub no_children : (last : List ℕ) (bs : List Header) (id : List ℕ) → IsGrown last (reverse bs) → is_on last (reverse bs) id ≡ false → children_of bs id ≡ []
no_children last bs id g off =
    let of : Header → Bool = λ b. bytes_eq b.parent id in
    let none : reverse (filter of bs) ≡ [] = sym (filter-reverse of bs) ∙ none_kept (reverse bs) id (childless last (reverse bs) id g off) in
    ap (map (λ b. b.id)) (sym (reverse-reverse (filter of bs)) ∙ ap reverse none)

-- a filter that keeps all children keeps them
pub filter_kept : {X : Type 0} (p keep : X → Bool) (xs : List X) → All (λ x. p x ≡ true → keep x ≡ true) xs → filter p (filter keep xs) ≡ filter p xs
filter_kept p keep [] h = refl
filter_kept p keep (x ∷ xs) h =
    let rest = filter_kept p keep xs (All-tail (λ x. p x ≡ true → keep x ≡ true) x xs h) in
    split_on (keep x)
    (λ t. rw t (ap (λ l. cond (p x) (x ∷ l) l) rest))
    (λ t. rw t (split_on (p x)
    (λ s. absurd (let k = All-head (λ x. p x ≡ true → keep x ≡ true) x xs h s in cc))
    (λ s. rw s rest)))
