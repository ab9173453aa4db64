-- Blocks found by their names.
use Rattle.std.proofs.Common.{◌≡◌, ℕ, ◌+◌, ◌<◌, true, false, List, [], ◌∷◌, ◌++◌, length, take, get_or, find, reverse, Some, refl, ap, ◌∙◌, arith}
use Rattle.std.specs.Str.{bytes_eq}
use Rattle.std.proofs.lemmas.List.{reverse-append, take_all, take_more}
use Rattle.snow_text_model.specs.Model.Names.{Named}

-- a block more stands first
pub reverse_push : (blocks : List Named) (block : Named) → reverse (blocks ++ block ∷ []) ≡ block ∷ reverse blocks
reverse_push blocks block = reverse-append blocks (block ∷ [])

next_back : (blocks : List Named) (i : ℕ) (d : Named) → i < length blocks → reverse (take (i + 1) blocks) ≡ get_or blocks i d ∷ reverse (take i blocks)
next_back blocks i d h = ap reverse (take_more blocks i d h) ∙ reverse-append (take i blocks) (get_or blocks i d ∷ [])

-- the block at i has the name
pub find_here : (name : List ℕ) (blocks : List Named) (i : ℕ) (d : Named) → i < length blocks → bytes_eq (get_or blocks i d).name name ≡ true
    → find (λ n. bytes_eq n.name name) (reverse (take (i + 1) blocks)) ≡ Some (get_or blocks i d)
find_here name blocks i d h e = ap (find (λ n. bytes_eq n.name name)) (next_back blocks i d h) ∙ rw e refl

-- it has another
pub find_below : (name : List ℕ) (blocks : List Named) (i : ℕ) (d : Named) → i < length blocks → bytes_eq (get_or blocks i d).name name ≡ false
    → find (λ n. bytes_eq n.name name) (reverse (take (i + 1) blocks)) ≡ find (λ n. bytes_eq n.name name) (reverse (take i blocks))
find_below name blocks i d h e = ap (find (λ n. bytes_eq n.name name)) (next_back blocks i d h) ∙ rw e refl

-- all blocks
pub find_all : (blocks : List Named) → take (length blocks) blocks ≡ blocks
find_all blocks = take_all (length blocks) blocks (omega arith)
