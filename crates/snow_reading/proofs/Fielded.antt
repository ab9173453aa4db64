-- Fields of lines, read from words and spelled as words.
use Rattle.std.proofs.Common.{◌≡◌, ℕ, ◌^◌, List, [], ◌∷◌, All, map, decimal, Option, Some, refl, sym, ap, ◌∙◌, subst, arith}
use Rattle.std.proofs.lemmas.List.Elements.{All-nil, All-cons, All-head, All-tail}
use Rattle.hex.specs.Hex.{encode_lower}
use Rattle.snow_lines.specs.declared.line.Line.{Line}
use Rattle.snow_reading.specs.Clauses.Range.{IsId, IsLong, IsNode, IsNumber}
use Rattle.snow_reading.specs.Model.Reading.{asked_at, both_at, field, id_at, items, node_at, number_at, number_of, only_at, told_at, ◌>>=◌}
use Rattle.snow_reading.proofs.Spelled.{IsField, bind_shows, bytes_field, number_field}

-- words
abbrev pub Words : Type 0
Words = List (List ℕ)

-- a number of 32 bits
pub short_field : IsField (number_of (2 ^ 32)) decimal IsNumber
short_field = number_field (2 ^ 32) (omega arith)

-- a number of 64 bits
pub long_field : IsField (number_of (2 ^ 64)) decimal IsLong
long_field = number_field (2 ^ 64) (omega arith)

-- two answers that are the same
pub unsome : {A : Type 0} (x y : A) → Some x ≡ Some y → x ≡ y
unsome x y h = cc h

module _ {A : Type 0} {of : List ℕ → Option A} {spell : A → List ℕ} {Good : A → Type 0} (f : IsField of spell Good) where
  -- what a field that was read shows
  pub field_shows : (words : Words) (r : A × Words) → field of words ≡ Some r → (words ≡ spell r.0 ∷ r.1) × Good r.0
  unfolding field
  field_shows [] r h = cc h
  field_shows (word ∷ words) r h =
      let x = bind_shows (of word) (λ y. Some (y, words)) r h in
      let same : (x.0, words) ≡ r = unsome (x.0, words) r x.2 in
      let shown = f.found word x.0 x.1 in
      subst (λ (q : A × Words). (word ∷ words ≡ spell q.0 ∷ q.1) × Good q.0) same (ap (λ w. w ∷ words) (sym shown.0), shown.1)

  -- a field that was spelled is read
  pub field_again : (x : A) (words : Words) → Good x → field of (spell x ∷ words) ≡ Some (x, words)
  unfolding field
  field_again x words h = rw (f.only x h) refl

  -- what items that were read show
  pub items_shows : (words : Words) (xs : List A) → items of words ≡ Some xs → (words ≡ map spell xs) × All Good xs
  unfolding items
  items_shows [] xs h =
      let none : [] ≡ xs = unsome [] xs h in subst (λ (ys : List A). ([] ≡ map spell ys) × All Good ys) none (refl, All-nil Good)
  items_shows (word ∷ words) xs h =
      let x = bind_shows (of word) (λ y. items of words >>= (λ ys. Some (y ∷ ys))) xs h in
      let rest = bind_shows (items of words) (λ ys. Some (x.0 ∷ ys)) xs x.2 in
      let same : x.0 ∷ rest.0 ≡ xs = unsome (x.0 ∷ rest.0) xs rest.2 in
      let shown = f.found word x.0 x.1 in
      let others = items_shows words rest.0 rest.1 in
      subst (λ (ys : List A). (word ∷ words ≡ map spell ys) × All Good ys) same
      (ap (λ w. w ∷ words) (sym shown.0) ∙ ap (λ ws. spell x.0 ∷ ws) others.0, All-cons Good x.0 rest.0 shown.1 others.1)

  -- items that were spelled are read
  pub items_again : (xs : List A) → All Good xs → items of (map spell xs) ≡ Some xs
  unfolding items
  items_again [] h = refl
  items_again (x ∷ xs) h = rw (f.only x (All-head Good x xs h), items_again xs (All-tail Good x xs h)) refl

  -- a line of one field shows it
  pub only_shows : (made : A → Line) (P : Line × Words → Type 0) (words : Words) (r : Line × Words)
      → ((x : A) (rest : Words) → Good x → words ≡ spell x ∷ rest → P (made x, rest)) → only_at of made words ≡ Some r → P r
  unfolding only_at
  only_shows made P words r k h =
      let x = bind_shows (field of words) (λ y. Some (made y.0, y.1)) r h in
      let shown = field_shows words x.0 x.1 in
      subst P (unsome (made x.0.0, x.0.1) r x.2) (k x.0.0 x.0.1 shown.1 shown.0)

  -- a line of one field is read
  pub only_again : (made : A → Line) (x : A) → Good x → only_at of made (spell x ∷ []) ≡ Some (made x, [])
  unfolding only_at
  only_again made x h = rw (field_again x [] h) refl

module _ {A B : Type 0} {of : List ℕ → Option A} {also : List ℕ → Option B} {spell : A → List ℕ} {spell_also : B → List ℕ} {Good : A → Type 0} {Fine : B → Type 0}
    (f : IsField of spell Good) (g : IsField also spell_also Fine) where
  -- a line of two fields shows them
  pub both_shows : (made : A → B → Line) (P : Line × Words → Type 0) (words : Words) (r : Line × Words)
      → ((x : A) (y : B) (rest : Words) → Good x → Fine y → words ≡ spell x ∷ spell_also y ∷ rest → P (made x y, rest)) → both_at of also made words ≡ Some r → P r
  unfolding both_at
  both_shows made P words r k h =
      let x = bind_shows (field of words) (λ x. field also x.1 >>= (λ y. Some (made x.0 y.0, y.1))) r h in
      let y = bind_shows (field also x.0.1) (λ y. Some (made x.0.0 y.0, y.1)) r x.2 in
      let one = field_shows f words x.0 x.1 in
      let other = field_shows g x.0.1 y.0 y.1 in
      subst P (unsome (made x.0.0 y.0.0, y.0.1) r y.2) (k x.0.0 y.0.0 y.0.1 one.1 other.1 (one.0 ∙ ap (λ ws. spell x.0.0 ∷ ws) other.0))

  -- a line of two fields is read
  pub both_again : (made : A → B → Line) (x : A) (y : B) → Good x → Fine y → both_at of also made (spell x ∷ spell_also y ∷ []) ≡ Some (made x y, [])
  unfolding both_at
  both_again made x y h k = rw (field_again f x (spell_also y ∷ []) h, field_again g y [] k) refl

-- a line that asks a node shows its fields
pub asked_shows : (made : ℕ → List ℕ → List ℕ → Line) (P : Line × Words → Type 0) (words : Words) (r : Line × Words)
    → ((n : ℕ) (node id : List ℕ) (rest : Words) → IsNumber n → IsNode node → IsId id → words ≡ decimal n ∷ encode_lower node ∷ encode_lower id ∷ rest → P (made n node id, rest))
    → asked_at made words ≡ Some r → P r
unfolding asked_at
asked_shows made P words r k h =
    let n = bind_shows (number_at words) (λ n. node_at n.1 >>= (λ node. id_at node.1 >>= (λ id. Some (made n.0 node.0 id.0, id.1)))) r h in
    let node = bind_shows (node_at n.0.1) (λ node. id_at node.1 >>= (λ id. Some (made n.0.0 node.0 id.0, id.1))) r n.2 in
    let id = bind_shows (id_at node.0.1) (λ id. Some (made n.0.0 node.0.0 id.0, id.1)) r node.2 in
    let a = field_shows short_field words n.0 n.1 in
    let b = field_shows (bytes_field 20) n.0.1 node.0 node.1 in
    let c = field_shows (bytes_field 32) node.0.1 id.0 id.1 in
    subst P (unsome (made n.0.0 node.0.0 id.0.0, id.0.1) r id.2)
    (k n.0.0 node.0.0 id.0.0 id.0.1 a.1 b.1 c.1 (a.0 ∙ ap (λ ws. decimal n.0.0 ∷ ws) (b.0 ∙ ap (λ ws. encode_lower node.0.0 ∷ ws) c.0)))

-- a line that asks a node is read
pub asked_again : (made : ℕ → List ℕ → List ℕ → Line) (n : ℕ) (node id : List ℕ) → IsNumber n → IsNode node → IsId id
    → asked_at made (decimal n ∷ encode_lower node ∷ encode_lower id ∷ []) ≡ Some (made n node id, [])
unfolding asked_at
asked_again made n node id a b c =
    rw (field_again short_field n (encode_lower node ∷ encode_lower id ∷ []) a, field_again (bytes_field 20) node (encode_lower id ∷ []) b, field_again (bytes_field 32) id [] c) refl

-- a node and a number that were read
pub told_shows : (words : Words) (r : (List ℕ × ℕ) × Words) → told_at words ≡ Some r → (words ≡ encode_lower r.0.0 ∷ decimal r.0.1 ∷ r.1) × IsNode r.0.0 × IsNumber r.0.1
unfolding told_at
told_shows words r h =
    let node = bind_shows (node_at words) (λ node. number_at node.1 >>= (λ n. Some ((node.0, n.0), n.1))) r h in
    let n = bind_shows (number_at node.0.1) (λ n. Some ((node.0.0, n.0), n.1)) r node.2 in
    let a = field_shows (bytes_field 20) words node.0 node.1 in
    let b = field_shows short_field node.0.1 n.0 n.1 in
    subst (λ (q : (List ℕ × ℕ) × Words). (words ≡ encode_lower q.0.0 ∷ decimal q.0.1 ∷ q.1) × IsNode q.0.0 × IsNumber q.0.1)
    (unsome ((node.0.0, n.0.0), n.0.1) r n.2) (a.0 ∙ ap (λ ws. encode_lower node.0.0 ∷ ws) b.0, a.1, b.1)

-- a node and a number are read
pub told_again : (node : List ℕ) (n : ℕ) (words : Words) → IsNode node → IsNumber n → told_at (encode_lower node ∷ decimal n ∷ words) ≡ Some ((node, n), words)
unfolding told_at
told_again node n words a b = rw (field_again (bytes_field 20) node (decimal n ∷ words) a, field_again short_field n words b) refl
