-- Lemmas on how many gone blocks lead from a reply's block to its vote: no more than the gone list has entries, since none is passed twice.
use Rattle.std.proofs.Common.{◌≡◌, ℕ, zero, suc, ◌<◌, ◌≤◌, Bool, true, false, not, List, [], ◌∷◌, length, reverse, filter, find, bytes_eq, Option, Some, None, refl, sym, ap, ◌∙◌, subst, arith}
use Rattle.std.specs.List.{list_any}
use Rattle.std.specs.Option.{option_and_then}
use Rattle.std.proofs.lemmas.Option.{none-some, same_Some}
use Rattle.std.proofs.lemmas.Bool.{or_left, or_right}
use Rattle.snow_board.specs.Model.Board.{Board, is_pending}
use Rattle.snow_board.proofs.Cases.{split_on, clash, same_id}
use Rattle.snow_board.proofs.Standing.{any-reverse}
use Rattle.snow_issue.specs.declared.gone.Gone.{Gone}
use Rattle.snow_issue.specs.Model.Gone.{stands_for}
use Rattle.snow_issue.specs.Model.Lists.{Lists, AreWithinLimits}
use Rattle.snow_issue.specs.Model.Bubbling.{bubbled_in, bubbled}

-- ---- lists of entries

-- whether a block has an entry among these
abbrev has_entry : List Gone → List ℕ → Bool
has_entry es id = list_any (λ e. bytes_eq e.id id) es

-- the entries of all other blocks
abbrev others : List ℕ → List Gone → List Gone
others id es = filter (λ e. not (bytes_eq e.id id)) es

-- those are no more
others_le : (id : List ℕ) (es : List Gone) → length (others id es) ≤ length es
others_le id [] = omega arith
others_le id (e ∷ es) =
    let rest = others_le id es in
    split_on (bytes_eq e.id id) (λ t. rw t (omega arith)) (λ t. rw t (omega arith))

-- and fewer, where the block has one
others_less : (id : List ℕ) (es : List Gone) → has_entry es id ≡ true → length (others id es) < length es
others_less id [] h = cc
others_less id (e ∷ es) h =
    split_on (bytes_eq e.id id)
    (λ t. let rest = others_le id es in rw t (omega arith))
    (λ t. let k = rw t at h in
    let rest = others_less id es k in
    rw t (omega arith))

-- another block keeps its entries
others_keep : (id other : List ℕ) (es : List Gone) → bytes_eq id other ≡ false → has_entry es other ≡ true → has_entry (others id es) other ≡ true
others_keep id other [] differs h = h
others_keep id other (e ∷ es) differs h =
    split_on (bytes_eq e.id id)
    (λ t.
    let gone : bytes_eq e.id other ≡ false = ap (λ i. bytes_eq i other) (same_id e.id id t) ∙ differs in
    let k = rw gone at h in
    rw t (others_keep id other es differs k))
    (λ t. rw t (split_on (bytes_eq e.id other)
    (λ s. or_left (bytes_eq e.id other) (has_entry (others id es) other) s)
    (λ s. let k = rw s at h in or_right (bytes_eq e.id other) (has_entry (others id es) other) (others_keep id other es differs k))))

-- what is found is there
find_any : (p : Gone → Bool) (es : List Gone) (e : Gone) → find p es ≡ Some e → list_any p es ≡ true
find_any p [] e h = absurd (none-some e h)
find_any p (x ∷ es) e h =
    split_on (p x)
    (λ t. or_left (p x) (list_any p es) t)
    (λ t. let k = rw t at h in or_right (p x) (list_any p es) (find_any p es e k))

-- a block for which another stands has an entry
entry_of : (gone : List Gone) (id parent : List ℕ) → stands_for gone id ≡ Some parent → has_entry gone id ≡ true
entry_of gone id parent h = by (find (λ e. bytes_eq e.id id) (reverse gone)) refl h
  where
    by : (o : Option Gone) → find (λ e. bytes_eq e.id id) (reverse gone) ≡ o → option_and_then (λ e. e.parent) o ≡ Some parent → has_entry gone id ≡ true
    by None e k = absurd (none-some parent k)
    by (Some x) e k = sym (any-reverse (λ e. bytes_eq e.id id) gone) ∙ find_any (λ e. bytes_eq e.id id) (reverse gone) x e

module _ (gone : List Gone) (board : Board) where
  -- a block that is replaced by its parent
  record IsReplaced (id : List ℕ) : Type 0 where
    pub pending : is_pending board id ≡ false
    pub other : bytes_eq board.last id ≡ false
    pub parent : List ℕ
    pub stands : stands_for gone id ≡ Some parent

  -- so many replacements lead from a block to its vote
  abbrev Leads : ℕ → List ℕ → List ℕ → Type 0
  Leads zero id vote = (is_pending board id ≡ true) × (id ≡ vote)
  Leads (suc d) id vote = (r : IsReplaced id) × Leads d r.parent vote

  -- a vote that is found was led to
  led : (n : ℕ) (id vote : List ℕ) → bubbled_in n gone board id ≡ Some vote → (d : ℕ) × (d ≤ n) × Leads d id vote
  unfolding bubbled_in
  led zero id vote h =
      split_on (is_pending board id)
      (λ t. let k = rw t at h in (0, omega arith, (t, same_Some id vote k)))
      (λ t. let k = rw t at h in absurd (none-some vote k))
  led (suc n) id vote h =
      split_on (is_pending board id)
      (λ t. let k = rw t at h in (0, omega arith, (t, same_Some id vote k)))
      (λ t. let k = rw t at h in
      split_on (bytes_eq board.last id)
      (λ s. let m = rw s at k in absurd (none-some vote m))
      (λ s. let m = rw s at k in by t s (λ parent. led n parent vote) (stands_for gone id) refl m))
    where
      by : is_pending board id ≡ false → bytes_eq board.last id ≡ false
          → ((parent : List ℕ) → bubbled_in n gone board parent ≡ Some vote → (d : ℕ) × (d ≤ n) × Leads d parent vote) → (o : Option (List ℕ)) → stands_for gone id ≡ o → option_and_then (bubbled_in n gone board) o ≡ Some vote
          → (d : ℕ) × (d ≤ suc n) × Leads d id vote
      by t s rest None e m = absurd (none-some vote m)
      by t s rest (Some parent) e m =
          let way = rest parent m in
          let more : suc way.0 ≤ suc n = omega (arith, way.1) in
          (suc way.0, more, (record { pending = t; other = s; parent = parent; stands = e }, way.2))

  -- with steps enough it is found
  found : (n d : ℕ) (id vote : List ℕ) → Leads d id vote → d ≤ n → bubbled_in n gone board id ≡ Some vote
  unfolding bubbled_in
  found zero zero id vote l h = rw l.0 (ap Some l.1)
  found (suc n) zero id vote l h = rw l.0 (ap Some l.1)
  found zero (suc d) id vote l h = absurd (omega (arith, h))
  found (suc n) (suc d) id vote l h = rw (l.0.pending, l.0.other, l.0.stands) (found n d l.0.parent vote l.1 (omega (arith, h)))

  -- a block is one number of replacements from its vote
  one_way : (d e : ℕ) (id vote other : List ℕ) → Leads d id vote → Leads e id other → d ≡ e
  one_way zero zero id vote other l m = refl
  one_way zero (suc e) id vote other l m = clash (is_pending board id) l.0 m.0.pending
  one_way (suc d) zero id vote other l m = clash (is_pending board id) m.0 l.0.pending
  one_way (suc d) (suc e) id vote other l m =
      let same : m.0.parent ≡ l.0.parent = same_Some m.0.parent l.0.parent (sym m.0.stands ∙ l.0.stands) in
      ap suc (one_way d e l.0.parent vote other l.1 (subst (λ p. Leads e p other) same m.1))

  -- so it is no more than there are entries, where each block on the way has one
  few_steps : (d : ℕ) (es : List Gone) (id vote : List ℕ) → Leads d id vote → ((k : ℕ) (x : List ℕ) → k < d → Leads (suc k) x vote → has_entry es x ≡ true) → d ≤ length es
  few_steps zero es id vote l all = omega arith
  few_steps (suc d) es id vote l all =
      let less = others_less id es (all d id (omega arith) l) in
      let rest = few_steps d (others id es) l.0.parent vote l.1
      (λ k x h m. others_keep id x es (differs k x h m) (all k x (omega (arith, h)) m)) in
      omega arith
    where
      differs : (k : ℕ) (x : List ℕ) → k < d → Leads (suc k) x vote → bytes_eq id x ≡ false
      differs k x h m =
          split_on (bytes_eq id x)
          (λ t. let same = one_way (suc d) (suc k) x vote vote (subst (λ i. Leads (suc d) i vote) (same_id id x t) l) m in absurd (omega (arith, h, same)))
          (λ t. t)

  -- a vote that some number of steps finds, each number finds that is no less than there are entries
  finds_too : (n m : ℕ) (id vote : List ℕ) → length gone ≤ m → bubbled_in n gone board id ≡ Some vote → bubbled_in m gone board id ≡ Some vote
  finds_too n m id vote h e =
      let way = led n id vote e in
      let few = few_steps way.0 gone id vote way.2 (λ k x less l. entry_of gone x l.0.parent l.0.stands) in
      found m way.0 id vote way.2 (omega (arith, few, h))

  -- so two such numbers find the same
  same_found : (n m : ℕ) (id : List ℕ) → length gone ≤ n → length gone ≤ m → bubbled_in n gone board id ≡ bubbled_in m gone board id
  same_found n m id h k = by (bubbled_in n gone board id) (bubbled_in m gone board id) refl refl
    where
      by : (a b : Option (List ℕ)) → bubbled_in n gone board id ≡ a → bubbled_in m gone board id ≡ b → bubbled_in n gone board id ≡ bubbled_in m gone board id
      by None None e f = e ∙ sym f
      by None (Some vote) e f = finds_too m n id vote h f ∙ sym f
      by (Some vote) b e f = e ∙ sym (finds_too n m id vote k e)

-- more replacements than the gone list can have entries give the same
pub enough_replaced : (q : Lists) (board : Board) (id : List ℕ) (n : ℕ) → AreWithinLimits q → 8192 ≤ n → bubbled_in n q.gone board id ≡ bubbled q board id
enough_replaced q board id n limits h =
    let few = limits.few_gone in
    same_found q.gone board n 8192 id (omega arith) (omega arith)
