-- Lemmas on votes that move up by one, so that new ones fit between.
use Rattle.std.proofs.Common.{◌≡◌, ℕ, zero, suc, ◌+◌, ◌<◌, ◌≤◌, List, [], ◌∷◌, length, get_or, set, take, insert, refl, sym, ap, ◌∙◌, arith}
use Rattle.std.proofs.lemmas.List.Edits.{get_or-insert_at, get_or-insert_below}
use Rattle.snow_base.specs.declared.block.Vote.{Vote}

-- the last one stands behind the others
pub last_apart : (row : List Vote) (at : ℕ) (d : Vote) → at + 1 ≡ length row → row ≡ insert (take at row) at (get_or row at d)
last_apart [] at d h = absurd (omega arith)
last_apart (v ∷ []) zero d h = refl
last_apart (v ∷ w ∷ row) zero d h = absurd (omega arith)
last_apart (v ∷ row) (suc at) d h = ap (λ l. v ∷ l) (last_apart row at d (omega arith))

-- what was put in is replaced
put_again : (votes : List Vote) (at : ℕ) (x y : Vote) → at ≤ length votes → set (insert votes at x) at y ≡ insert votes at y
put_again [] zero x y h = refl
put_again [] (suc at) x y h = absurd (omega arith)
put_again (v ∷ votes) zero x y h = refl
put_again (v ∷ votes) (suc at) x y h = ap (λ l. v ∷ l) (put_again votes at x y (omega arith))

-- one of the votes once more, behind itself or before itself
twice : (votes : List Vote) (at : ℕ) (d : Vote) → at < length votes → insert votes (suc at) (get_or votes at d) ≡ insert votes at (get_or votes at d)
twice [] at d h = absurd (omega arith)
twice (v ∷ votes) zero d h = refl
twice (v ∷ votes) (suc at) d h = ap (λ l. v ∷ l) (twice votes at d (omega arith))

-- one more has moved up
pub moved_more : (votes row : List Vote) (free at : ℕ) (w d : Vote) → free ≡ suc at → at < length votes → row ≡ insert votes free (get_or row free d) → w ≡ get_or row at w
    → set row free w ≡ insert votes at (get_or (set row free w) at d)
moved_more votes row free at w d next h is here =
    let x = get_or row free d in
    let same : w ≡ get_or votes at w = here ∙ ap (λ l. get_or l at w) is ∙ get_or-insert_below votes free x w at (omega arith) (omega arith) in
    let put : set row free w ≡ insert votes at w =
    ap (λ l. set l free w) is ∙ put_again votes free x w (omega arith) ∙ ap (λ i. insert votes i w) next ∙ ap (λ v. insert votes (suc at) v) same
    ∙ twice votes at w h ∙ ap (λ v. insert votes at v) (sym same) in
    put ∙ ap (λ v. insert votes at v) (sym (ap (λ l. get_or l at d) put ∙ get_or-insert_at votes at w d (omega arith)))

-- the new ones are put in the free place
pub moved_all : (votes row : List Vote) (at : ℕ) (new d : Vote) → at ≤ length votes → row ≡ insert votes at (get_or row at d) → set row at new ≡ insert votes at new
moved_all votes row at new d h is = ap (λ l. set l at new) is ∙ put_again votes at (get_or row at d) new h
