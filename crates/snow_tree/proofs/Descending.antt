-- Lemmas on who descends from whom among blocks that each came after their parent.
use Rattle.std.proofs.Common.{◌≡◌, ℕ, suc, ◌<◌, true, false, ◌||◌, List, [], ◌∷◌, ◌++◌, length, get_or, take, drop, reverse, bytes_eq, sym, ap, subst, ◌∙◌, append_assoc, take-append-drop, drop-cons}
use mathlib.Core.List.{reverse-cons}
use Rattle.std.specs.List.{list_any}
use Rattle.std.proofs.lemmas.List.{reverse-append}
use Rattle.snow_base.specs.declared.block.Header.{Header}
use Rattle.snow_base.specs.Model.Ancestry.{line_in, descends}
use Rattle.snow_board.specs.Kept.Grown.{has_block, IsGrown}
use Rattle.snow_board.proofs.Grown.{grown_before, grown_parent, not_last, no_line, has_block-reverse}
use Rattle.snow_board.proofs.Lines.{line_of}

-- the latest first, around one of them
pub around : (bs : List Header) (i : ℕ) (d : Header) → i < length bs → reverse bs ≡ reverse (drop (suc i) bs) ++ get_or bs i d ∷ reverse (take i bs)
around bs i d h =
    let front = take i bs in
    let back = drop (suc i) bs in
    let b = get_or bs i d in
    ap reverse (sym (take-append-drop i bs) ∙ ap (λ l. front ++ l) (drop-cons bs i d h))
    ∙ reverse-append front (b ∷ back)
    ∙ ap (λ l. l ++ reverse front) (reverse-cons b back)
    ∙ append_assoc (reverse back) (b ∷ []) (reverse front)

-- a block's line begins with it and goes on as its parent's
pub line_at : (last : List ℕ) (bs : List Header) (i : ℕ) (d : Header) → IsGrown last (reverse bs) → i < length bs
    → line_in (reverse bs) (get_or bs i d).id ≡ get_or bs i d ∷ line_in (reverse bs) (get_or bs i d).parent
line_at last bs i d g h =
    let whole = around bs i d h in
    let b = get_or bs i d in
    subst (λ l. line_in l b.id ≡ b ∷ line_in l b.parent) (sym whole)
    (line_of last (reverse (drop (suc i) bs)) b (reverse (take i bs)) (subst (IsGrown last) whole g))

-- a block is another or descends from it where it is that one or its parent descends from it
pub descends_at : (last : List ℕ) (bs : List Header) (i : ℕ) (d : Header) (child : List ℕ) → IsGrown last (reverse bs) → i < length bs
    → descends bs child (get_or bs i d).id ≡ (bytes_eq (get_or bs i d).id child || descends bs child (get_or bs i d).parent)
descends_at last bs i d child g h = ap (list_any (λ c. bytes_eq c.id child)) (line_at last bs i d g h)

-- the last accepted block descends from none of them
pub last_descends : (last : List ℕ) (bs : List Header) (child : List ℕ) → IsGrown last (reverse bs) → descends bs child last ≡ false
last_descends last bs child g = ap (list_any (λ c. bytes_eq c.id child)) (no_line (reverse bs) last (not_last last (reverse bs) g))

-- the parent of a block is the last accepted one or stands before it
pub parent_before : (last : List ℕ) (bs : List Header) (i : ℕ) (d : Header) → IsGrown last (reverse bs) → i < length bs
    → bytes_eq last (get_or bs i d).parent ≡ false → has_block (take i bs) (get_or bs i d).parent ≡ true
parent_before last bs i d g h other =
    let b = get_or bs i d in
    let here = grown_before last (reverse (drop (suc i) bs)) (b ∷ reverse (take i bs)) (subst (IsGrown last) (around bs i d h) g) in
    sym (has_block-reverse (take i bs) b.parent) ∙ (rw other at (grown_parent here))

-- the last accepted block isn't among them
pub last_off : (last : List ℕ) (bs : List Header) → IsGrown last (reverse bs) → has_block bs last ≡ false
last_off last bs g = sym (has_block-reverse bs last) ∙ not_last last (reverse bs) g
