-- Lists and fields that words say, appended to others.
use Rattle.std.proofs.Common.{◌≡◌, ℕ, ◌+◌, ◌<◌, ◌≤◌, false, nat_lt, List, [], ◌∷◌, ◌++◌, length, take, drop, flat_map, subst, Some, None, Result, Ok, Err, refl, sym, ap, ◌∙◌, append_assoc, append-nil, add-one, add-zero, zero-add, arith}
use Rattle.std.proofs.lemmas.Bool.{lt-ltb}
use Rattle.std.proofs.lemmas.Bool.Decides.{nat_tests}
use Rattle.std.proofs.lemmas.Grind.{common_steps}
use Rattle.std.proofs.lemmas.List.{length-append}
use Rattle.std.proofs.lemmas.List.Concat.{flat_map-append}
use Rattle.snow_wire.specs.Model.Spelling.{number}
use Rattle.snow_text_model.specs.declared.refusal.Reason.{Reason}
use Rattle.snow_text_model.specs.declared.refusal.Reason.TheVariants as reason
use Rattle.snow_words.specs.declared.stop.Why.{Why}
use Rattle.snow_words.specs.declared.stop.Why.TheVariants as fault
use Rattle.snow_words.specs.declared.stop.Stop.{Stop}
use Rattle.snow_words.specs.declared.stop.Stop.TheVariants as stop
use Rattle.snow_text_model.specs.Model.Words.{Word, Halt, ◌>>=◌, all, all_of, at, each, one}
use Rattle.snow_text_model.specs.Model.Names.{Names}
use Rattle.snow_text_model.specs.Model.Events.{list_field, listed}
use Rattle.snow_words.specs.declared.items.Item.{Item}
use Rattle.snow_words.specs.Clauses.Cutting.{first, stopping}
use Rattle.snow_words.specs.Clauses.Making.{Reads, Tells, ahead, onto, tallied}
use Rattle.snow_words.specs.Clauses.Listing.{items_of, list_read, list_told}
use Rattle.snow_words.proofs.Cutting.{taken_shorter}
use Rattle.snow_words.proofs.Saying.{take_front}

-- ---- items one behind the other

-- items behind items
pub tallied_both : {E : Type 0} (old : List ℕ) (n : ℕ) (x : List (List ℕ)) (rest : Result (List (List ℕ)) E)
    → tallied old n (rest >>= (λ xs. Ok (x ++ xs))) ≡ tallied (old ++ flat_map (λ y. y) x) (n + length x) rest
tallied_both old n x (Ok xs) =
    ap (λ l. Ok (l, n + length (x ++ xs))) (ap (λ l. old ++ l) (flat_map-append (λ y. y) x xs) ∙ sym (append_assoc old (flat_map (λ y. y) x) (flat_map (λ y. y) xs)))
    ∙ ap (λ m. Ok ((old ++ flat_map (λ y. y) x) ++ flat_map (λ y. y) xs, m)) (omega (arith, length-append x xs))
tallied_both old n x (Err e) = refl

pub unok : {A E : Type 0} (x y : A) → ◌≡◌ {A = Result A E} (Ok x) (Ok y) → x ≡ y
unok x y h = cc h

pub unerr : {A E : Type 0} (x y : E) → ◌≡◌ {A = Result A E} (Err x) (Err y) → x ≡ y
unerr x y h = cc h

-- what was told of two values
pub ok_both : {A B E : Type 0} (x y : A × B) → ◌≡◌ {A = Result (A × B) E} (Ok x) (Ok y) → (x.0 ≡ y.0) × (x.1 ≡ y.1)
ok_both x y h = let e : x ≡ y = unok x y h in (ap (λ p. p.0) e, ap (λ p. p.1) e)

some_more : {E : Type 0} (old new : List ℕ) (n m : ℕ) (told rest : Result (List (List ℕ)) E) → tallied old n told ≡ Ok (new, m)
    → tallied old n (told >>= (λ x. rest >>= (λ xs. Ok (x ++ xs)))) ≡ tallied new m rest
some_more old new n m (Ok x) rest h =
    let e = ok_both (old ++ flat_map (λ y. y) x, n + length x) (new, m) h in
    tallied_both old n x rest ∙ ap (λ l. tallied l (n + length x) rest) e.0 ∙ ap (λ k. tallied new k rest) e.1
some_more old new n m (Err e) rest h = cc h

some_not : {E : Type 0} (old : List ℕ) (n : ℕ) (told rest : Result (List (List ℕ)) E) (e : E) → tallied old n told ≡ Err e
    → tallied old n (told >>= (λ x. rest >>= (λ xs. Ok (x ++ xs)))) ≡ Err e
some_not old n (Ok x) rest e h = cc h
some_not old n (Err f) rest e h = h

pub no_items : {E : Type 0} (old : List ℕ) (n : ℕ) → tallied {E = E} old n (Ok []) ≡ Ok (old, n)
no_items old n = ap (λ l. Ok (l, n + 0)) (append-nil old) ∙ ap (λ m. Ok (old, m)) (add-zero n)

module _ (of : Word → Result (List (List ℕ)) Reason) where
  pub part_next : (old new : List ℕ) (n m : ℕ) (ps : List Word) (p : Word) → Some p ≡ first ps → tallied old n (of p) ≡ Ok (new, m) → tallied old n (each of ps) ≡ tallied new m (each of (drop 1 ps))
  unfolding each
  part_next old new n m [] p f h = cc f
  part_next old new n m (q ∷ ps) p f h = let same : q ≡ p = cc in some_more old new n m (of q) (each of ps) (ap (λ w. tallied old n (of w)) same ∙ h)

  pub part_stop : (old : List ℕ) (n : ℕ) (ps : List Word) (p : Word) (why : Reason) → Some p ≡ first ps → tallied old n (of p) ≡ Err why → tallied old n (each of ps) ≡ Err why
  unfolding each
  part_stop old n [] p why f h = cc f
  part_stop old n (q ∷ ps) p why f h = let same : q ≡ p = cc in some_not old n (of q) (each of ps) why (ap (λ w. tallied old n (of w)) same ∙ h)

  pub part_done : (old : List ℕ) (n : ℕ) (ps : List Word) → None ≡ first ps → tallied old n (each of ps) ≡ Ok (old, n)
  unfolding each
  part_done old n [] f = no_items old n
  part_done old n (q ∷ ps) f = cc f

module _ (names : Names) (item : Item) where
  pub item_next : (old new : List ℕ) (n m : ℕ) (ps : List Word) (p : Word) → Some p ≡ first ps → tallied old n (items_of names item p) ≡ Ok (new, m)
      → tallied old n (each (items_of names item) ps) ≡ tallied new m (each (items_of names item) (drop 1 ps))
  item_next = part_next (items_of names item)

  pub item_stop : (old : List ℕ) (n : ℕ) (ps : List Word) (p : Word) (why : Reason) → Some p ≡ first ps → tallied old n (items_of names item p) ≡ Err why
      → tallied old n (each (items_of names item) ps) ≡ Err why
  item_stop = part_stop (items_of names item)

  pub item_done : (old : List ℕ) (n : ℕ) (ps : List Word) → None ≡ first ps → tallied old n (each (items_of names item) ps) ≡ Ok (old, n)
  item_done = part_done (items_of names item)

  -- an item stopped, and so do all
  pub item_failed : (old : List ℕ) (n : ℕ) (ps : List Word) (p : Word) (now later : List ℕ × ℕ) (all : Result (List ℕ × ℕ) Reason) (told : Result (Unit {0}) Why) (e : Why) → Some p ≡ first ps
      → Tells told now (tallied old n (items_of names item p)) → told ≡ Err e → tallied old n (each (items_of names item) ps) ≡ all → Tells (Err e) later all
  item_failed old n ps p now later all (Ok u) e f h k g = cc k
  item_failed old n ps p now later all (Err fault.Memory) fault.Memory f h k g = tt
  item_failed old n ps p now later all (Err fault.Memory) (fault.Not r) f h k g = cc k
  item_failed old n ps p now later all (Err (fault.Not reason)) fault.Memory f h k g = cc k
  item_failed old n ps p now later all (Err (fault.Not reason)) (fault.Not r) f h k g =
      let same : reason ≡ r = cc in sym g ∙ item_stop old n ps p reason f h ∙ ap Err same

-- what going through the parts of a list wants
pub ruleset parting = (item_next, item_done, taken_shorter)

-- what was told of the first word, where it tells where it stands
at_more : (ws : List Word) (old : List ℕ) (n : ℕ) (new : List ℕ) (m : ℕ) (told : Result (List (List ℕ)) Reason) → tallied old n told ≡ Ok (new, m) → tallied old n (at ws told) ≡ Ok (new, m)
at_more ws old n new m (Ok x) h = ap Ok (unok (old ++ flat_map (λ y. y) x, n + length x) (new, m) h)
at_more ws old n new m (Err e) h = cc h

at_not : (ws : List Word) (old : List ℕ) (n : ℕ) (told : Result (List (List ℕ)) Reason) (why : Reason) → tallied old n told ≡ Err why
    → tallied old n (at ws told) ≡ Err (record { why = why; left = length ws })
at_not ws old n (Ok x) why h = cc h
at_not ws old n (Err e) why h = let same : e ≡ why = cc in rw same refl

module _ (of : Word → Result (List (List ℕ)) Reason) where
  pub word_next : (old new : List ℕ) (n m : ℕ) (ws : List Word) (w : Word) → Some w ≡ first ws → tallied old n (of w) ≡ Ok (new, m) → tallied old n (all_of of ws) ≡ tallied new m (all_of of (drop 1 ws))
  unfolding all_of
  word_next old new n m [] w f h = cc f
  word_next old new n m (q ∷ ws) w f h =
      let same : q ≡ w = cc in some_more old new n m (at (q ∷ ws) (of q)) (all_of of ws) (at_more (q ∷ ws) old n new m (of q) (ap (λ v. tallied old n (of v)) same ∙ h))

  word_not : (old : List ℕ) (n : ℕ) (ws : List Word) (w : Word) (why : Reason) → Some w ≡ first ws → tallied old n (of w) ≡ Err why
      → tallied old n (all_of of ws) ≡ Err (record { why = why; left = length (drop 1 ws) + 1 })
  unfolding all_of
  word_not old n [] w why f h = cc f
  word_not old n (q ∷ ws) w why f h =
      let same : q ≡ w = cc in
      some_not old n (at (q ∷ ws) (of q)) (all_of of ws) (record { why = why; left = length (q ∷ ws) }) (at_not (q ∷ ws) old n (of q) why (ap (λ v. tallied old n (of v)) same ∙ h))
      ∙ ap (λ k. Err (record { why = why; left = k })) (sym (add-one (length ws)))

  -- a word that stopped
  pub word_stop : (old : List ℕ) (n : ℕ) (ws : List Word) (w : Word) (now : List ℕ × ℕ) (told : Result (Unit {0}) Why) → Some w ≡ first ws → Tells told now (tallied old n (of w))
      → (e : Stop) → stopping told (length (drop 1 ws) + 1) ≡ Err e → (later : List ℕ × ℕ) → Reads (Err e) later (tallied old n (all_of of ws))
  word_stop old n ws w now (Ok u) f h e g later = cc g
  word_stop old n ws w now (Err fault.Memory) f h stop.Memory g later = tt
  word_stop old n ws w now (Err fault.Memory) f h (stop.At r k) g later = cc g
  word_stop old n ws w now (Err (fault.Not reason)) f h stop.Memory g later = cc g
  word_stop old n ws w now (Err (fault.Not reason)) f h (stop.At r k) g later =
      let one : reason ≡ r = cc in
      let two : length (drop 1 ws) + 1 ≡ k = cc in
      word_not old n ws w reason f h ∙ rw (one, two) refl

  pub words_done : (old : List ℕ) (n : ℕ) (ws : List Word) → None ≡ first ws → tallied old n (all_of of ws) ≡ Ok (old, n)
  unfolding all_of
  words_done old n [] f = no_items old n
  words_done old n (q ∷ ws) f = cc f

pub none_left : (ws : List Word) → None ≡ first ws → ws ≡ []
none_left [] f = refl
none_left (w ∷ ws) f = cc f

module _ (names : Names) (item : Item) where
  pub items_next : (old new : List ℕ) (n m : ℕ) (ws : List Word) (w : Word) → Some w ≡ first ws → tallied old n (items_of names item w) ≡ Ok (new, m)
      → tallied old n (all_of (items_of names item) ws) ≡ tallied new m (all_of (items_of names item) (drop 1 ws))
  items_next = word_next (items_of names item)

  pub items_stop : (old : List ℕ) (n : ℕ) (ws : List Word) (w : Word) (now : List ℕ × ℕ) (told : Result (Unit {0}) Why) → Some w ≡ first ws → Tells told now (tallied old n (items_of names item w))
      → (e : Stop) → stopping told (length (drop 1 ws) + 1) ≡ Err e → (later : List ℕ × ℕ) (all : Result (List ℕ × ℕ) Halt) → tallied old n (all_of (items_of names item) ws) ≡ all → Reads (Err e) later all
  items_stop old n ws w now told f h e g later all k = subst (λ r. Reads (Err e) later r) k (word_stop (items_of names item) old n ws w now told f h e g later)

  pub items_done : (old : List ℕ) (n : ℕ) (ws : List Word) → None ≡ first ws → tallied old n (all_of (items_of names item) ws) ≡ Ok (old, n)
  items_done = words_done (items_of names item)

-- what going through the words of a list wants
pub ruleset wording = (items_next, items_stop, items_done, none_left, taken_shorter)

-- ---- a list

pub drop_front : (old more : List ℕ) → drop (length old) (old ++ more) ≡ more
drop_front old more = grind (arith, common_steps)

so_from : (old new : List ℕ) (r : Result (List ℕ) Halt) → onto old r ≡ Ok new → ahead old (r >>= (λ x. Ok (x, []))) ≡ Ok (new, [])
so_from old new (Ok x) h = ap (λ l. Ok (l, [])) (unok (old ++ x) new h)
so_from old new (Err e) h = cc h

so_not : (old : List ℕ) (r : Result (List ℕ) Halt) (halt : Halt) → onto old r ≡ Err halt → ahead old (r >>= (λ x. Ok (x, []))) ≡ Err halt
so_not old (Ok x) halt h = cc h
so_not old (Err e) halt h = ap Err (unerr e halt h)

shut : (old hole items : List ℕ) (n : ℕ) → length hole ≡ 2 → take (length old) ((old ++ hole) ++ items) ++ number 2 n ++ drop (length old + 2) ((old ++ hole) ++ items) ≡ old ++ number 2 n ++ items
shut old hole items n h =
    let front : take (length old) ((old ++ hole) ++ items) ≡ old = ap (take (length old)) (append_assoc old hole items) ∙ take_front old (hole ++ items) in
    let back : drop (length old + 2) ((old ++ hole) ++ items) ≡ items = ap (λ k. drop k ((old ++ hole) ++ items)) (ap (λ k. length old + k) (sym h) ∙ sym (length-append old hole)) ∙ drop_front (old ++ hole) items in
    rw (front, back) refl

few : (items : List (List ℕ)) → length items < 65536 → listed items ≡ Ok (number 2 (length items) ++ flat_map (λ x. x) items)
unfolding listed
few items h = rw (lt-ltb (length items) 65536 h) refl

many : (items : List (List ℕ)) → 65536 ≤ length items → listed items ≡ Err reason.Many
unfolding listed
many items h = let no : nat_lt (length items) 65536 ≡ false = grind (arith, nat_tests, h) in rw no refl

pub closed_longer : {E : Type 0} (old mid : List ℕ) (n : ℕ) (told : Result (List (List ℕ)) E) → tallied (old ++ 0 ∷ 0 ∷ []) 0 told ≡ Ok (mid, n) → length old + 2 ≤ length mid
closed_longer old mid n (Ok items) h =
    let same : (old ++ 0 ∷ 0 ∷ []) ++ flat_map (λ x. x) items ≡ mid = (ok_both ((old ++ 0 ∷ 0 ∷ []) ++ flat_map (λ x. x) items, 0 + length items) (mid, n) h).0 in
    omega (arith, length-append (old ++ 0 ∷ 0 ∷ []) (flat_map (λ x. x) items), length-append old (0 ∷ 0 ∷ []), ap length same)
closed_longer old mid n (Err e) h = cc h

closed : (old mid : List ℕ) (n : ℕ) (items : List (List ℕ)) → (old ++ 0 ∷ 0 ∷ []) ++ flat_map (λ x. x) items ≡ mid → length items ≡ n
    → old ++ (number 2 (length items) ++ flat_map (λ x. x) items) ≡ take (length old) mid ++ number 2 n ++ drop (length old + 2) mid
closed old mid n items same sum =
    sym (append_assoc old (number 2 (length items)) (flat_map (λ x. x) items))
    ∙ sym (shut old (0 ∷ 0 ∷ []) (flat_map (λ x. x) items) (length items) refl)
    ∙ ap (λ m. take (length old) m ++ number 2 (length items) ++ drop (length old + 2) m) same
    ∙ ap (λ k. take (length old) mid ++ number 2 k ++ drop (length old + 2) mid) sum

pub closed_told : (old mid : List ℕ) (n : ℕ) (told : Result (List (List ℕ)) Reason) → tallied (old ++ 0 ∷ 0 ∷ []) 0 told ≡ Ok (mid, n) → n < 65536
    → onto old (list_told told) ≡ Ok (take (length old) mid ++ number 2 n ++ drop (length old + 2) mid)
closed_told old mid n (Ok items) h k =
    let e = ok_both ((old ++ 0 ∷ 0 ∷ []) ++ flat_map (λ x. x) items, 0 + length items) (mid, n) h in
    let same : (old ++ 0 ∷ 0 ∷ []) ++ flat_map (λ x. x) items ≡ mid = e.0 in
    let sum : length items ≡ n = sym (zero-add (length items)) ∙ e.1 in
    ap (onto old) (few items (omega (arith, sum, k))) ∙ ap Ok (closed old mid n items same sum)
closed_told old mid n (Err e) h k = cc h

pub many_told : (old mid : List ℕ) (n : ℕ) (told : Result (List (List ℕ)) Reason) → tallied (old ++ 0 ∷ 0 ∷ []) 0 told ≡ Ok (mid, n) → 65536 ≤ n → onto old (list_told told) ≡ Err reason.Many
many_told old mid n (Ok items) h k =
    let e = ok_both ((old ++ 0 ∷ 0 ∷ []) ++ flat_map (λ x. x) items, 0 + length items) (mid, n) h in
    let sum : length items ≡ n = sym (zero-add (length items)) ∙ e.1 in
    ap (onto old) (many items (omega (arith, sum, k)))
many_told old mid n (Err e) h k = cc h

pub list_told_not : (old front : List ℕ) (n : ℕ) (told : Result (List (List ℕ)) Reason) (why : Reason) → tallied front n told ≡ Err why → onto old (list_told told) ≡ Err why
list_told_not old front n (Ok items) why h = cc h
list_told_not old front n (Err e) why h = ap Err (unerr e why h)

pub closed_read : (old mid : List ℕ) (n : ℕ) (told : Result (List (List ℕ)) Halt) → tallied (old ++ 0 ∷ 0 ∷ []) 0 told ≡ Ok (mid, n) → n < 65536
    → onto old (list_read told) ≡ Ok (take (length old) mid ++ number 2 n ++ drop (length old + 2) mid)
closed_read old mid n (Ok items) h k =
    let e = ok_both ((old ++ 0 ∷ 0 ∷ []) ++ flat_map (λ x. x) items, 0 + length items) (mid, n) h in
    let same : (old ++ 0 ∷ 0 ∷ []) ++ flat_map (λ x. x) items ≡ mid = e.0 in
    let sum : length items ≡ n = sym (zero-add (length items)) ∙ e.1 in
    ap (λ r. onto old (at [] r)) (few items (omega (arith, sum, k))) ∙ ap Ok (closed old mid n items same sum)
closed_read old mid n (Err e) h k = cc h

pub many_read : (old mid : List ℕ) (n : ℕ) (told : Result (List (List ℕ)) Halt) → tallied (old ++ 0 ∷ 0 ∷ []) 0 told ≡ Ok (mid, n) → 65536 ≤ n
    → onto old (list_read told) ≡ Err (record { why = reason.Many; left = 0 })
many_read old mid n (Ok items) h k =
    let e = ok_both ((old ++ 0 ∷ 0 ∷ []) ++ flat_map (λ x. x) items, 0 + length items) (mid, n) h in
    let sum : length items ≡ n = sym (zero-add (length items)) ∙ e.1 in
    ap (λ r. onto old (at [] r)) (many items (omega (arith, sum, k)))
many_read old mid n (Err e) h k = cc h

pub list_read_not : (old front : List ℕ) (n : ℕ) (told : Result (List (List ℕ)) Halt) (halt : Halt) → tallied front n told ≡ Err halt → onto old (list_read told) ≡ Err halt
list_read_not old front n (Ok items) halt h = cc h
list_read_not old front n (Err e) halt h = ap Err (unerr e halt h)

module _ (names : Names) (item : Item) where
  -- a list as a field
  pub list_so : (old new : List ℕ) (ws : List Word) → onto old (list_read (all_of (items_of names item) ws)) ≡ Ok new → ahead old (list_field (items_of names item) ws) ≡ Ok (new, [])
  unfolding all
  list_so old new ws h = so_from old new (list_read (all_of (items_of names item) ws)) h

  pub list_so_not : (old : List ℕ) (ws : List Word) (halt : Halt) → onto old (list_read (all_of (items_of names item) ws)) ≡ Err halt → ahead old (list_field (items_of names item) ws) ≡ Err halt
  unfolding all
  list_so_not old ws halt h = so_not old (list_read (all_of (items_of names item) ws)) halt h

-- what closing a list wants
pub ruleset closing = (closed_longer, closed_told, many_told, list_told_not, closed_read, many_read, list_read_not)

-- ---- fields

one_first : (old new : List ℕ) (word : Word) (more : List Word) (told : Result (Unit {0}) Why) (r : Result (List ℕ) Reason) → Tells told new (onto old r)
    → Reads (stopping told (length more + 1)) (new, more) (ahead old (at (word ∷ more) r >>= (λ x. Ok (x, more))))
one_first old new word more (Ok u) (Ok x) h = let same : old ++ x ≡ new = cc in ap (λ l. Ok (l, more)) same
one_first old new word more (Ok u) (Err e) h = cc h
one_first old new word more (Err fault.Memory) r h = tt
one_first old new word more (Err (fault.Not reason)) (Ok x) h = cc h
one_first old new word more (Err (fault.Not reason)) (Err e) h =
    let same : e ≡ reason = cc in ap (λ f. Err (record { why = f; left = length (word ∷ more) })) same ∙ ap (λ k. Err (record { why = reason; left = k })) (sym (add-one (length more)))

module _ (of : Word → Result (List ℕ) Reason) where
  -- the first word was told
  pub one_told : (old new : List ℕ) (words : List Word) (word : Word) (more : List Word) (told : Result (Unit {0}) Why) → words ≡ word ∷ more → Tells told new (onto old (of word))
      → Reads (stopping told (length more + 1)) (new, more) (ahead old (one of words))
  unfolding one
  one_told old new words word more told e h = rw e (one_first old new word more told (of word) h)

  -- none is left
  pub one_none : (old : List ℕ) (words : List Word) → words ≡ [] → ahead old (one of words) ≡ Err (record { why = reason.Missing; left = 0 })
  unfolding one
  one_none old words e = rw e refl
