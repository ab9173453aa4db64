-- Lemmas on held replies by their numbers of arrival, and on the numbers by block and by poll and node.
use Rattle.std.proofs.Common.{◌≡◌, ℕ, ◌<◌, ◌+◌, ◌==◌, Bool, true, false, not, ◌&&◌, ◌||◌, cond, List, [], ◌∷◌, map, All, Option, Some, None, Less, Equal, Greater, refl, sym, ap, ◌∙◌, arith}
use Rattle.std.specs.BTreeMap.{BTreeMap, get, is_at}
use Rattle.std.specs.Cmp.Lexicographic.{slice_cmp}
use Rattle.std.specs.List.{list_any}
use Rattle.std.specs.List.Sorted.{IsStrictlySortedBy}
use Rattle.std.specs.Map.{keys_of}
use Rattle.std.specs.Option.{option_map, is_some, is_none}
use Rattle.std.specs.Ordering.{nat_cmp, is_eq, ordering_then}
use Rattle.std.specs.Str.{bytes_eq}
use Rattle.std.specs.declared.cmp.Ordering.{Ordering}
use Rattle.std.proofs.lemmas.Bool.{false_from_ne_true, eqb-true, eq-eqb, and_parts}
use Rattle.std.proofs.lemmas.List.Elements.{All-head, All-tail}
use Rattle.std.proofs.lemmas.Map.Lookups.{CmpEqualImpliesEq, exact_bytes, exact_pairs, exact_unsigned}
use Rattle.std.proofs.lemmas.Map.Text.{is_eq-slice_cmp}
use Rattle.snow_held.specs.declared.backlog.Kept.{Kept}
use Rattle.snow_held.specs.declared.keys.NodeKey.{NodeKey}
use Rattle.snow_held.specs.declared.held.Held.{Held}
use Rattle.snow_held.specs.Kept.Keys.{key_of, key_cmp}
use Rattle.snow_held.specs.Model.Replies.{holds_in, is_reply}
use Rattle.snow_held.specs.Model.Replies.{replies_of}
use Rattle.snow_held.specs.Kept.Arrivals.{Entries, at_arrival, kept_at, seat_of, is_among, StaysNamed, IsFiled}
use Rattle.snow_held.proofs.Stocked.{same_number, number_itself, each}
use Rattle.snow_map.proofs.Booleans.{or_true}
use Rattle.snow_map.proofs.Lists.{same_id, id_itself}

abbrev pub Numbers : Type 0
Numbers = ℕ → NodeKey → Option ℕ

abbrev pub Names : Type 0
Names = List ℕ → ℕ → Bool

-- ---- a map of maps

pub equal_by : (o : Ordering) → is_eq o ≡ true → o ≡ Equal
equal_by Less h = absurd cc
equal_by Equal h = refl
equal_by Greater h = absurd cc

-- where the inner map of a key is exchanged for one that differs at some inner keys
pub nested : {K M J B : Type 0} (R : K → K → Ordering) → CmpEqualImpliesEq R → (view : Option M → J → B) (before now : BTreeMap K M) (k : K) (w : Option M) (inner : J → Bool) (new : B)
    → ((q : K) → get R now q ≡ cond (is_at (R k) q) w (get R before q))
    → ((j : J) → view w j ≡ cond (inner j) new (view (get R before k) j))
    → (n : K) (j : J) → view (get R now n) j ≡ cond (is_at (R k) n && inner j) new (view (get R before n) j)
nested R exact view before now k w inner new change step n j =
    let Goal : Bool → Type 0 = λ t. is_at (R k) n ≡ t → view (cond t w (get R before n)) j ≡ cond (t && inner j) new (view (get R before n) j) in
    ap (λ o. view o j) (change n)
    ∙ (elim (is_at (R k) n) as Goal [
      | true ↦ λ t. step j ∙ ap (λ m. cond (inner j) new (view (get R before m) j)) (exact k n (equal_by (R k n) t))
      | false ↦ λ t. refl
    ]) refl

-- where it is exchanged for one that is seen alike
pub nested_same : {K M J B : Type 0} (R : K → K → Ordering) → CmpEqualImpliesEq R → (view : Option M → J → B) (before now : BTreeMap K M) (k : K) (w : Option M)
    → ((q : K) → get R now q ≡ cond (is_at (R k) q) w (get R before q)) → ((j : J) → view w j ≡ view (get R before k) j)
    → (n : K) (j : J) → view (get R now n) j ≡ view (get R before n) j
nested_same R exact view before now k w change step n j =
    let Goal : Bool → Type 0 = λ t. is_at (R k) n ≡ t → view (cond t w (get R before n)) j ≡ view (get R before n) j in
    ap (λ o. view o j) (change n)
    ∙ (elim (is_at (R k) n) as Goal [
      | true ↦ λ t. step j ∙ ap (λ m. view (get R before m) j) (exact k n (equal_by (R k n) t))
      | false ↦ λ t. refl
    ]) refl

-- ---- keys

pub node_itself : (node : List ℕ) → is_at (slice_cmp nat_cmp node) node ≡ true
node_itself node = is_eq-slice_cmp node node ∙ id_itself node

key_itself : (key : NodeKey) → is_at (key_cmp key) key ≡ true
key_itself key = ap (λ o. is_eq (ordering_then o (slice_cmp nat_cmp key.node key.node))) (equal_by (nat_cmp key.last key.last) (number_itself key.last)) ∙ node_itself key.node

pub key_is : (key other : NodeKey) → is_at (key_cmp key) other ≡ true → key ≡ other
key_is key other t =
    let pair : NodeKey → ℕ × List ℕ = λ k. (k.last, k.node) in
    let key_from : ℕ × List ℕ → NodeKey = λ p. record { last = p.0; node = p.1 } in
    ap key_from (exact_pairs nat_cmp (slice_cmp nat_cmp) exact_unsigned exact_bytes (pair key) (pair other) (equal_by (key_cmp key other) t))

-- a number that was put in another's place, and then that one back
pub put_back : (before mid after : BTreeMap NodeKey ℕ) (key : NodeKey) (a number : ℕ) → get key_cmp before key ≡ Some number
    → ((q : NodeKey) → get key_cmp mid q ≡ cond (is_at (key_cmp key) q) (Some a) (get key_cmp before q))
    → ((q : NodeKey) → get key_cmp after q ≡ cond (is_at (key_cmp key) q) (Some number) (get key_cmp mid q))
    → (q : NodeKey) → get key_cmp after q ≡ get key_cmp before q
put_back before mid after key a number there put back q =
    let Goal : Bool → Type 0 = λ t. is_at (key_cmp key) q ≡ t → cond t (Some number) (cond t (Some a) (get key_cmp before q)) ≡ get key_cmp before q in
    back q ∙ ap (cond (is_at (key_cmp key) q) (Some number)) (put q)
    ∙ (elim (is_at (key_cmp key) q) as Goal [
      | true ↦ λ t. sym there ∙ ap (get key_cmp before) (key_is key q t)
      | false ↦ λ t. refl
    ]) refl

-- whether a poll and node are those of a reply
abbrev pub is_of : Held → ℕ → NodeKey → Bool
is_of h n key = is_at (nat_cmp h.number) n && is_at (key_cmp (key_of h.node)) key

of_parts : (h : Held) (n : ℕ) (key : NodeKey) → is_of h n key ≡ true → (h.number ≡ n) × (key_of h.node ≡ key)
of_parts h n key t =
    let parts = and_parts (is_at (nat_cmp h.number) n) (is_at (key_cmp (key_of h.node)) key) t in
    (same_number h.number n parts.0, key_is (key_of h.node) key parts.1)

of_itself : (h : Held) → is_of h h.number (key_of h.node) ≡ true
of_itself h = ap (λ b. b && is_at (key_cmp (key_of h.node)) (key_of h.node)) (number_itself h.number) ∙ key_itself (key_of h.node)

-- ---- the same replies

reply_back : (o : Option Kept) (h : Held) → option_map (λ k. k.reply) o ≡ Some h → (k : Kept) × (o ≡ Some k) × (k.reply ≡ h)
reply_back None h e = absurd cc
reply_back (Some k) h e = (k, refl, cc)

pub filed_by : (es now : Entries) (numbers : Numbers) (named : Names) (next : ℕ) → IsFiled es numbers named next → IsStrictlySortedBy nat_cmp (keys_of now)
    → ((a : ℕ) → option_map (λ k. k.reply) (at_arrival now a) ≡ option_map (λ k. k.reply) (at_arrival es a)) → IsFiled now numbers named next
filed_by es now numbers named next is sorted same =
    let back : (a : ℕ) (k : Kept) → at_arrival now a ≡ Some k → (j : Kept) × (at_arrival es a ≡ Some j) × (j.reply ≡ k.reply) =
    λ a k found. reply_back (at_arrival es a) k.reply (sym (same a) ∙ ap (option_map (λ (k : Kept). k.reply)) found) in
    record {
      sorted = sorted;
      below = λ a k found. let j = back a k found in is.below a j.0 j.1;
      found = λ a k found. let j = back a k found in ap (λ (h : Held). numbers h.number (key_of h.node)) (sym j.2) ∙ is.found a j.0 j.1;
      real = λ n key a k there found.
          let j = back a k found in
          let old = is.real n key a j.0 there j.1 in
          (ap (λ (h : Held). h.number) (sym j.2) ∙ old.0, ap (λ (h : Held). key_of h.node) (sym j.2) ∙ old.1);
      low = is.low;
      named_so = λ a k found. let j = back a k found in ap (λ (h : Held). named h.id a) (sym j.2) ∙ is.named_so a j.0 j.1;
    }

-- the same numbers by poll and node
pub filed_same : (es : Entries) (before now : Numbers) (named : Names) (next : ℕ) → IsFiled es before named next → ((n : ℕ) (key : NodeKey) → now n key ≡ before n key) → IsFiled es now named next
filed_same es before now named next is same = record {
  sorted = is.sorted;
  below = is.below;
  found = λ a k found. same k.reply.number (key_of k.reply.node) ∙ is.found a k found;
  real = λ n node a k there found. is.real n node a k (sym (same n node) ∙ there) found;
  low = λ n node a there. is.low n node a (sym (same n node) ∙ there);
  named_so = is.named_so;
}

-- numbers by block that are kept where they were
pub filed_names : (es : Entries) (numbers : Numbers) (before now : Names) (next : ℕ) → IsFiled es numbers before next → StaysNamed es before now → IsFiled es numbers now next
filed_names es numbers before now next is stays = record {
  sorted = is.sorted;
  below = is.below;
  found = is.found;
  real = is.real;
  low = is.low;
  named_so = λ a k found. stays k.reply.id a k found (is.named_so a k found);
}

pub filed_nothing : (es : Entries) (numbers : Numbers) (named : Names) (next : ℕ) → es ≡ [] → ((n : ℕ) (key : NodeKey) → numbers n key ≡ None) → IsFiled es numbers named next
unfolding IsStrictlySortedBy
filed_nothing es numbers named next empty none = record {
  sorted = rw empty tt;
  below = λ a k found. let e = ap (λ l. at_arrival l a) empty in absurd cc;
  found = λ a k found. let e = ap (λ l. at_arrival l a) empty in absurd cc;
  real = λ n node a k there found. let e = none n node in absurd cc;
  low = λ n node a there. let e = none n node in absurd cc;
  named_so = λ a k found. let e = ap (λ l. at_arrival l a) empty in absurd cc;
}

-- ---- whether a node's reply is held

holds_found : (es : Entries) (a : ℕ) (k : Kept) (n : ℕ) (node : List ℕ) → at_arrival es a ≡ Some k → is_reply n node k.reply ≡ true → holds_in (replies_of (map seat_of es)) n node ≡ true
holds_found [] a k n node found is = absurd cc
holds_found (e ∷ es) a k n node found is =
    let Goal : Bool → Type 0 = λ t. cond t (Some e.1) (at_arrival es a) ≡ Some k → (is_reply n node e.1.reply || holds_in (replies_of (map seat_of es)) n node) ≡ true in
    elim (is_at (nat_cmp a) e.0) as Goal [
      | true ↦ λ h. let same : e.1 ≡ k = cc in ap (λ (k : Kept). is_reply n node k.reply || holds_in (replies_of (map seat_of es)) n node) same ∙ ap (λ b. b || holds_in (replies_of (map seat_of es)) n node) is
      | false ↦ λ h. ap (λ b. is_reply n node e.1.reply || b) (holds_found es a k n node h is) ∙ or_true (is_reply n node e.1.reply)
    ] found

holds_none : (es : Entries) (n : ℕ) (node : List ℕ) → All (λ e. is_reply n node e.1.reply ≡ false) es → holds_in (replies_of (map seat_of es)) n node ≡ false
holds_none [] n node h = refl
holds_none (e ∷ es) n node h =
    let P : ℕ × Kept → Type 0 = λ e. is_reply n node e.1.reply ≡ false in
    ap (λ b. b || holds_in (replies_of (map seat_of es)) n node) (All-head P e es h) ∙ holds_none es n node (All-tail P e es h)

at_back : (es : Entries) (o : Option ℕ) (k : Kept) → kept_at es o ≡ Some k → (a : ℕ) × (o ≡ Some a) × (at_arrival es a ≡ Some k)
at_back es None k h = absurd cc
at_back es (Some a) k h = (a, refl, h)

pub held_by_number : (es : Entries) (numbers : Numbers) (named : Names) (next n : ℕ) (node : List ℕ) → IsFiled es numbers named next
    → is_some (kept_at es (numbers n (key_of node))) ≡ holds_in (replies_of (map seat_of es)) n node
held_by_number es numbers named next n node is =
    let Goal : Option Kept → Type 0 = λ o. kept_at es (numbers n (key_of node)) ≡ o → is_some o ≡ holds_in (replies_of (map seat_of es)) n node in
    elim (kept_at es (numbers n (key_of node))) as Goal [
      | Some k ↦ λ e.
          let a = at_back es (numbers n (key_of node)) k e in
          let real = is.real n (key_of node) a.0 k a.1 a.2 in
          let of_node : k.reply.node ≡ node = ap (λ (key : NodeKey). key.node) real.1 in
          sym (holds_found es a.0 k n node a.2 (rw (real.0, of_node, eq-eqb n n refl) (id_itself node)))
      | None ↦ λ e. sym (holds_none es n node (each (λ f. is_reply n node f.1.reply ≡ false) es is.sorted (λ a k found.
          false_from_ne_true (is_reply n node k.reply) (λ t.
          let parts = and_parts (k.reply.number == n) (bytes_eq k.reply.node node) t in
          let number : k.reply.number ≡ n = eqb-true k.reply.number n parts.0 in
          let of_node : k.reply.node ≡ node = same_id k.reply.node node parts.1 in
          let there : numbers n (key_of node) ≡ Some a = ap (λ m. numbers m (key_of node)) (sym number) ∙ ap (λ l. numbers k.reply.number (key_of l)) (sym of_node) ∙ is.found a k found in
          let kept : kept_at es (numbers n (key_of node)) ≡ Some k = ap (kept_at es) there ∙ found in
          absurd cc))))
    ] refl

pub none_from : (o : Option Kept) → true ≡ is_none o → o ≡ None
none_from None h = refl
none_from (Some k) h = absurd cc

none_is : (o : Option Kept) → is_none o ≡ not (is_some o)
none_is None = refl
none_is (Some k) = refl

-- a reply is new where none of its node is held
pub new_without : (es : Entries) (numbers : Numbers) (named : Names) (next n : ℕ) (node : List ℕ) → IsFiled es numbers named next
    → is_none (kept_at es (numbers n (key_of node))) ≡ not (holds_in (replies_of (map seat_of es)) n node)
new_without es numbers named next n node is = none_is (kept_at es (numbers n (key_of node))) ∙ ap not (held_by_number es numbers named next n node is)

-- where none is noted, all stay
pub none_noted : (b : Bool) (x y : Option ℕ) → cond (b && false) x y ≡ y
none_noted true x y = refl
none_noted false x y = refl

-- ---- one reply more

-- whatever is held is another node's, or of another poll
apart_from : (es : Entries) (before : Numbers) (named : Names) (next : ℕ) (h : Held) (a : ℕ) (k : Kept) → IsFiled es before named next → kept_at es (before h.number (key_of h.node)) ≡ None
    → at_arrival es a ≡ Some k → is_of h k.reply.number (key_of k.reply.node) ≡ false
apart_from es before named next h a k is new found =
    false_from_ne_true (is_of h k.reply.number (key_of k.reply.node)) (λ t.
    let parts = of_parts h k.reply.number (key_of k.reply.node) t in
    let there : before h.number (key_of h.node) ≡ Some a = ap (λ n. before n (key_of h.node)) parts.0 ∙ ap (before k.reply.number) parts.1 ∙ is.found a k found in
    let kept : kept_at es (before h.number (key_of h.node)) ≡ Some k = ap (kept_at es) there ∙ found in
    absurd cc)

-- its number is noted, and there is no memory for it
pub filed_stale : (es : Entries) (before after : Numbers) (named : Names) (next : ℕ) (h : Held) → IsFiled es before named next → kept_at es (before h.number (key_of h.node)) ≡ None
    → ((n : ℕ) (node : NodeKey) → after n node ≡ cond (is_of h n node) (Some next) (before n node)) → IsFiled es after named (next + 1)
filed_stale es before after named next h is new filed = record {
  sorted = is.sorted;
  below = λ a k found. let low = is.below a k found in omega (arith, low);
  found = λ a k found.
      filed k.reply.number (key_of k.reply.node) ∙ ap (λ b. cond b (Some next) (before k.reply.number (key_of k.reply.node))) (apart_from es before named next h a k is new found) ∙ is.found a k found;
  real = λ n node a k at found.
      let Goal : Bool → Type 0 = λ t. cond t (Some next) (before n node) ≡ Some a → (k.reply.number ≡ n) × (key_of k.reply.node ≡ node) in
      (elim (is_of h n node) as Goal [
        | true ↦ λ f. let same : next ≡ a = cc in let low = is.below a k found in absurd (omega (arith, same, low))
        | false ↦ λ f. is.real n node a k f found
      ]) (sym (filed n node) ∙ at);
  low = λ n node a at.
      let Goal : Bool → Type 0 = λ t. cond t (Some next) (before n node) ≡ Some a → a < next + 1 in
      (elim (is_of h n node) as Goal [
        | true ↦ λ f. let same : next ≡ a = cc in omega (arith, same)
        | false ↦ λ f. let low = is.low n node a f in omega (arith, low)
      ]) (sym (filed n node) ∙ at);
  named_so = is.named_so;
}

pub filed_pushed : (es now : Entries) (before after : Numbers) (named names : Names) (next : ℕ) (kept : Kept) → IsFiled es before named next → kept_at es (before kept.reply.number (key_of kept.reply.node)) ≡ None
    → IsStrictlySortedBy nat_cmp (keys_of now)
    → ((a : ℕ) → at_arrival now a ≡ cond (is_at (nat_cmp next) a) (Some kept) (at_arrival es a))
    → ((n : ℕ) (node : NodeKey) → after n node ≡ cond (is_of kept.reply n node) (Some next) (before n node))
    → names kept.reply.id next ≡ true → StaysNamed es named names
    → IsFiled now after names (next + 1)
filed_pushed es now before after named names next kept is new sorted there filed itself others =
    let h = kept.reply in
    let mid = filed_stale es before after named next h is new filed in
    let Either : (ℕ → Kept → Type 0) → ℕ → Kept → Type 0 = λ P a k. (next ≡ a → kept ≡ k → P a k) → (at_arrival es a ≡ Some k → P a k) → P a k in
    let cases : (P : ℕ → Kept → Type 0) (a : ℕ) (k : Kept) → at_arrival now a ≡ Some k → Either P a k =
    λ P a k found here other.
    let Goal : Bool → Type 0 = λ t. is_at (nat_cmp next) a ≡ t → cond t (Some kept) (at_arrival es a) ≡ Some k → P a k in
    (elim (is_at (nat_cmp next) a) as Goal [
      | true ↦ λ t f. here (same_number next a t) cc
      | false ↦ λ t f. other f
    ]) refl (sym (there a) ∙ found) in
    record {
      sorted = sorted;
      below = λ a k found. cases (λ a k. a < next + 1) a k found (λ at is_k. omega (arith, at)) (mid.below a k);
      found = λ a k found. cases (λ a k. after k.reply.number (key_of k.reply.node) ≡ Some a) a k found
          (λ at is_k.
          let same : h ≡ k.reply = ap (λ (k : Kept). k.reply) is_k in
          ap (λ (x : Held). after x.number (key_of x.node)) (sym same) ∙ filed h.number (key_of h.node) ∙ ap (λ b. cond b (Some next) (before h.number (key_of h.node))) (of_itself h) ∙ ap Some at)
          (mid.found a k);
      real = λ n node a k at found. cases (λ a k. after n node ≡ Some a → (k.reply.number ≡ n) × (key_of k.reply.node ≡ node)) a k found
          (λ is_a is_k e.
          let Goal : Bool → Type 0 = λ t. is_of h n node ≡ t → cond t (Some next) (before n node) ≡ Some a → (k.reply.number ≡ n) × (key_of k.reply.node ≡ node) in
          (elim (is_of h n node) as Goal [
            | true ↦ λ t f.
                let parts = of_parts h n node t in
                (ap (λ (k : Kept). k.reply.number) (sym is_k) ∙ parts.0, ap (λ (k : Kept). key_of k.reply.node) (sym is_k) ∙ parts.1)
            | false ↦ λ t f. let low = is.low n node a f in absurd (omega (arith, low, is_a))
          ]) refl (sym (filed n node) ∙ e))
          (λ f e. mid.real n node a k e f) at;
      low = mid.low;
      named_so = λ a k found. cases (λ a k. names k.reply.id a ≡ true) a k found
          (λ at is_k. ap (λ (k : Kept). names k.reply.id a) (sym is_k) ∙ ap (names h.id) (sym at) ∙ itself)
          (λ f. others k.reply.id a k f (is.named_so a k f));
    }

-- ---- one reply less

pub still : (es now : Entries) (gone a : ℕ) (k : Kept) → at_arrival now a ≡ cond (is_at (nat_cmp gone) a) None (at_arrival es a) → at_arrival now a ≡ Some k
    → (is_at (nat_cmp gone) a ≡ false) × (at_arrival es a ≡ Some k)
still es now gone a k left found =
    let Goal : Bool → Type 0 = λ t. cond t None (at_arrival es a) ≡ Some k → (t ≡ false) × (at_arrival es a ≡ Some k) in
    (elim (is_at (nat_cmp gone) a) as Goal [
      | true ↦ λ f. absurd cc
      | false ↦ λ f. (refl, f)
    ]) (sym left ∙ found)

pub filed_taken : (es now : Entries) (numbers : Numbers) (named names : Names) (next gone : ℕ) → IsFiled es numbers named next → IsStrictlySortedBy nat_cmp (keys_of now)
    → ((a : ℕ) → at_arrival now a ≡ cond (is_at (nat_cmp gone) a) None (at_arrival es a)) → StaysNamed now named names
    → IsFiled now numbers names next
filed_taken es now numbers named names next gone is sorted left others =
    let old : (a : ℕ) (k : Kept) → at_arrival now a ≡ Some k → at_arrival es a ≡ Some k = λ a k found. (still es now gone a k (left a) found).1 in
    record {
      sorted = sorted;
      below = λ a k found. is.below a k (old a k found);
      found = λ a k found. is.found a k (old a k found);
      real = λ n node a k at found. is.real n node a k at (old a k found);
      low = is.low;
      named_so = λ a k found. others k.reply.id a k found (is.named_so a k (old a k found));
    }

-- each reply that names a block is among those whose numbers are kept under it
pub all_named : (es : Entries) (numbers : Numbers) (named : Names) (next : ℕ) (row id : List ℕ) → IsFiled es numbers named next
    → ((a : ℕ) → named id a ≡ true → is_among row a ≡ true)
    → All (λ e. bytes_eq id e.1.reply.id ≡ true → list_any (is_at (nat_cmp e.0)) row ≡ true) es
all_named es numbers named next row id is among =
    each (λ e. bytes_eq id e.1.reply.id ≡ true → list_any (is_at (nat_cmp e.0)) row ≡ true) es is.sorted
    (λ a k found same. among a (ap (λ q. named q a) (same_id id k.reply.id same) ∙ is.named_so a k found))
