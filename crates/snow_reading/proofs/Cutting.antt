-- Bytes cut at their first space, and lists read word by word.
use Rattle.std.proofs.Common.{◌≡◌, ℕ, ◌+◌, ◌<◌, ◌≤◌, ◌==◌, List, [], ◌∷◌, ◌++◌, All, length, take, drop, get_or, Option, Some, None, false, subst, refl, sym, ap, ◌∙◌, add-one, drop-cons, take-append-drop, append_assoc, append-nil, arith}
use Rattle.std.specs.Option.{option_map}
use Rattle.std.proofs.lemmas.List.{take_more, take_all}
use Rattle.std.proofs.lemmas.List.Elements.{All-nil, All-cons, All-append}
use Rattle.std.proofs.lemmas.List.Splits.{slice_split_none, slice_split_at}
use Rattle.snow_reading.specs.Model.Reading.{first, items, split, ◌>>=◌}

-- bytes without a space are one word
pub cut_none : (bytes : List ℕ) → All (λ b. b == 32 ≡ false) bytes → split bytes ≡ bytes ∷ []
cut_none bytes h = slice_split_none (λ b. b == 32) bytes h

-- the same where none was found up to the end
pub cut_end : (bytes : List ℕ) (i : ℕ) → length bytes ≤ i → All (λ b. b == 32 ≡ false) (take i bytes) → split bytes ≡ bytes ∷ []
cut_end bytes i h none = cut_none bytes (subst (All (λ b. b == 32 ≡ false)) (take_all i bytes h) none)

-- bytes with a space at i, and none before it
pub cut_at : (bytes : List ℕ) (i : ℕ) → i < length bytes → get_or bytes i 0 ≡ 32 → All (λ b. b == 32 ≡ false) (take i bytes)
    → split bytes ≡ take i bytes ∷ split (drop (i + 1) bytes)
cut_at bytes i h e none =
    let here : drop i bytes ≡ get_or bytes i 0 ∷ drop (i + 1) bytes = rw add-one (drop-cons bytes i 0 h) in
    ap split (sym (take-append-drop i bytes) ∙ ap (λ l. take i bytes ++ l) (here ∙ ap (λ c. c ∷ drop (i + 1) bytes) e))
    ∙ slice_split_at (λ b. b == 32) (take i bytes) 32 (drop (i + 1) bytes) none refl

-- a byte more that is no space
pub no_space_next : (bytes : List ℕ) (i : ℕ) → i < length bytes → get_or bytes i 0 == 32 ≡ false → All (λ b. b == 32 ≡ false) (take i bytes) → All (λ b. b == 32 ≡ false) (take (i + 1) bytes)
no_space_next bytes i h e none =
    subst (All (λ b. b == 32 ≡ false)) (sym (take_more bytes i 0 h))
    (All-append (λ b. b == 32 ≡ false) (take i bytes) (get_or bytes i 0 ∷ []) none (All-cons (λ b. b == 32 ≡ false) (get_or bytes i 0) [] e (All-nil (λ b. b == 32 ≡ false))))

-- items that stand in front of those that are read
abbrev pub onto : {A : Type 0} → List A → Option (List A) → Option (List A)
onto front read = option_map (λ xs. front ++ xs) read

-- nothing stands in front
pub onto_none : {A : Type 0} (read : Option (List A)) → onto [] read ≡ read
onto_none None = refl
onto_none (Some xs) = refl

-- one word more
more : {A : Type 0} (front : List A) (x : A) (read : Option (List A)) → onto front (read >>= (λ xs. Some (x ∷ xs))) ≡ onto (front ++ x ∷ []) read
more front x None = refl
more front x (Some xs) = ap Some (sym (append_assoc front (x ∷ []) xs))

module _ {A : Type 0} (of : List ℕ → Option A) where
  -- a word that was read
  pub items_more : (front : List A) (words : List (List ℕ)) (word : List ℕ) (x : A) → Some word ≡ first words → of word ≡ Some x
      → onto front (items of words) ≡ onto (front ++ x ∷ []) (items of (drop 1 words))
  unfolding items
  items_more front [] word x f e = cc f
  items_more front (w ∷ words) word x f e = let same : w ≡ word = cc in let here : of w ≡ Some x = ap of same ∙ e in rw here (more front x (items of words))

  -- a word that can't be read
  pub items_bad : (front : List A) (words : List (List ℕ)) (word : List ℕ) → Some word ≡ first words → of word ≡ None → onto front (items of words) ≡ None
  unfolding items
  items_bad front [] word f e = cc f
  items_bad front (w ∷ words) word f e = let same : w ≡ word = cc in let here : of w ≡ None = ap of same ∙ e in rw here refl

  -- no word is left
  pub items_end : (front : List A) (words : List (List ℕ)) → None ≡ first words → onto front (items of words) ≡ Some front
  unfolding items
  items_end front [] f = ap Some (append-nil front)
  items_end front (w ∷ words) f = cc f

-- a word that is taken leaves fewer
pub taken_shorter : (words : List (List ℕ)) (word : List ℕ) → Some word ≡ first words → length (drop 1 words) < length words
taken_shorter [] word f = cc f
taken_shorter (w ∷ words) word f = omega arith

-- what a list's reading wants
pub ruleset listing = (onto_none, items_more, items_bad, items_end, taken_shorter)
