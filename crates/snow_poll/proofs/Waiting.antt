-- Lemmas on the nodes that are awaited: which entry of a node counts, and what an entry more and a reply leave.
use Rattle.std.proofs.Common.{◌≡◌, ℕ, zero, suc, ◌+◌, ◌-◌, ◌/◌, ◌^◌, ◌<◌, ◌≤◌, Bool, true, false, not, cond, if◌then◌else◌, List, [], ◌∷◌, ◌++◌, length, get_or, set, map, replicate, bytes_eq, bit_xor, is_some, Option, None, Some, refl, sym, subst, ap, ◌∙◌, arith, inl, inr}
use Rattle.std.specs.BTreeMap.{BTreeMap, get}
use Rattle.std.specs.Cmp.Lexicographic.{slice_cmp}
use Rattle.std.specs.Option.{unwrap_or}
use Rattle.std.specs.Ordering.{nat_cmp, is_eq}
use Rattle.std.proofs.lemmas.Map.Text.{is_eq-slice_cmp}
use Rattle.std.proofs.lemmas.Bool.{cases_Bool, cases_eq, cases_lt, cond-true, cond-false}
use Rattle.std.proofs.lemmas.List.{append_cancel_right, get_or_read, get_or-set_same, get_or-set_other, get_or_append_left, length-append, length-map, length-replicate, length-set, map-append}
use Rattle.std.proofs.lemmas.Nat.{and_le_r}
use Rattle.std.proofs.lemmas.Slice.Eq.{bytes_eq-Decides}
use Rattle.std.proofs.Math.Seq.{get_or-append_seam, map-set_same}
use Rattle.snow_sample.specs.Kept.Chains.{IsLast, AreChained}
use Rattle.snow_sample.proofs.Chains.{chained_none, chained_more}
use Rattle.snow_sample.proofs.Walks.{last_of, last_none, last_here, IsSought, sought_begins, sought_on, none_later}
use Rattle.snow_poll.specs.declared.awaited.Wait.{Wait}
use Rattle.snow_poll.specs.Kept.Awaited.{count_left, counts_at, spread_of, class_of, number_in, AreWaits, IsNumberOf}

-- whether an entry is a node's
abbrev pub is_of : List ℕ → Wait → Bool
is_of node w = bytes_eq w.node node

-- the class of an entry
abbrev class : ℕ → Wait → ℕ
class mask w = class_of mask w.node

-- the class that an entry tells
abbrev told : Wait → ℕ
told w = w.class

-- the number of the entry before
abbrev before : Wait → ℕ
before w = w.before

-- what an entry counts
abbrev count : Wait → Option ℕ
count w = count_left w

-- ---- entries in classes

-- no entry is chained to none
pub waits_none : (mask : ℕ) (lasts : List ℕ) → mask < 65536 → lasts ≡ replicate (mask + 1) 0 → AreWaits mask [] lasts
waits_none mask lasts small none =
    let nothing : ℕ = 0 in
    rw none (record { classes = length-replicate (mask + 1) nothing; small = small; told = refl; chained = chained_none (mask + 1) })

-- each node has a class
pub within_classes : (mask : ℕ) (waits : List Wait) (lasts : List ℕ) (node : List ℕ) → AreWaits mask waits lasts → class_of mask node < length lasts
within_classes mask waits lasts node are =
    omega (arith, are.classes, and_le_r (bit_xor (spread_of node / 2 ^ 48) (spread_of node / 2 ^ 54)) mask)

-- two lists with the same item behind them
one_behind : (xs ys : List ℕ) (x y : ℕ) → xs ≡ ys → x ≡ y → xs ++ x ∷ [] ≡ ys ++ y ∷ []
one_behind xs ys x y same one = rw (same, one) refl

-- an entry more
pub waits_more : (mask : ℕ) (waits : List Wait) (lasts : List ℕ) (w : Wait) → AreWaits mask waits lasts → w.before ≡ get_or lasts (class_of mask w.node) 0
    → w.class ≡ class_of mask w.node → AreWaits mask (waits ++ w ∷ []) (set lasts (class_of mask w.node) (length waits + 1))
waits_more mask waits lasts w are first tells =
    let classes = are.classes in
    let many : length (map (class mask) waits) ≡ length waits = length-map waits (class mask) in
    record {
      classes = length-set lasts (class mask w) (length waits + 1) ∙ classes;
      small = are.small;
      told = map-append told waits (w ∷ []) ∙ one_behind (map told waits) (map (class mask) waits) w.class (class mask w) are.told tells ∙ sym (map-append (class mask) waits (w ∷ []));
      chained = rw (map-append (class mask) waits (w ∷ []), map-append before waits (w ∷ []), first, ← many)
          (chained_more (map (class mask) waits) (map before waits) lasts (class mask w) are.chained (within_classes mask waits lasts w.node are));
    }

-- what is true of the last of a class among some items and one more is true without that one, where it is another
last_fewer : (classes : List ℕ) (class c many number : ℕ) → many ≤ length classes → number ≤ many → IsLast (classes ++ class ∷ []) c many number → IsLast classes c many number
last_fewer classes class c many number within few last =
    let front : (i : ℕ) → i < many → get_or (classes ++ class ∷ []) i 0 ≡ get_or classes i 0 = λ i less. get_or_append_left classes (class ∷ []) 0 i (omega arith) in
    record {
      within = few;
      same = λ some. sym (front (number - 1) (omega arith)) ∙ last.same some;
      others = λ i low high is. last.others i low high (front i high ∙ is);
    }

-- the last of some items and one more, where it isn't that one
last_before : (classes : List ℕ) (class c number : ℕ) → (c ≡ class → ⊥) → IsLast (classes ++ class ∷ []) c (length classes + 1) number → IsLast classes c (length classes) number
last_before classes class c number differ last =
    let within = last.within in
    let seam : get_or (classes ++ class ∷ []) (length classes) 0 ≡ class = get_or-append_seam classes class [] 0 in
    let few : number ≤ length classes =
    elim (cases_lt number (length classes + 1)) [
      | inl less ↦ omega arith
      | inr more ↦
          let one : number - 1 ≡ length classes = omega arith in
          absurd (differ (sym (last.same (omega arith)) ∙ ap (λ k. get_or (classes ++ class ∷ []) k 0) one ∙ seam))
    ] in
    last_fewer classes class c (length classes) number (omega arith) few
    (record { within = few; same = last.same; others = λ i low high. last.others i low (omega arith) })

-- an item less: its class has the number that it had before
chained_fewer : (classes befores lasts : List ℕ) (class old : ℕ) → AreChained (classes ++ class ∷ []) (befores ++ old ∷ []) lasts → class < length lasts
    → AreChained classes befores (set lasts class old)
chained_fewer classes befores lasts class old chained small =
    let each = chained.each in
    let long : length (classes ++ class ∷ []) ≡ length classes + 1 = length-append classes (class ∷ []) in
    let also : length (befores ++ old ∷ []) ≡ length befores + 1 = length-append befores (old ∷ []) in
    let same : length befores ≡ length classes = omega arith in
    let of : get_or (classes ++ class ∷ []) (length classes) 0 ≡ class = get_or-append_seam classes class [] 0 in
    let at : get_or (befores ++ old ∷ []) (length classes) 0 ≡ old = ap (λ k. get_or (befores ++ old ∷ []) k 0) (sym same) ∙ get_or-append_seam befores old [] 0 in
    let mine : IsLast (classes ++ class ∷ []) class (length classes) old =
    subst (λ k. IsLast (classes ++ class ∷ []) k (length classes) old) of
    (subst (λ k. IsLast (classes ++ class ∷ []) (get_or (classes ++ class ∷ []) (length classes) 0) (length classes) k) at (chained.before (length classes) (omega arith))) in
    record {
      each = same;
      last = λ c h.
          elim (cases_eq c class) [
            | inl is ↦
                let here : get_or (set lasts class old) c 0 ≡ old = ap (λ k. get_or (set lasts class old) k 0) is ∙ get_or-set_same lasts class old 0 small in
                rw (here, is) (last_fewer classes class class (length classes) old (omega arith) mine.within mine)
            | inr differ ↦
                let here : get_or (set lasts class old) c 0 ≡ get_or lasts c 0 = get_or-set_other lasts class c old 0 differ in
                rw here (last_before classes class c (get_or lasts c 0) differ (rw (← long) (chained.last c (rw (length-set lasts class old) at h))))
          ];
      before = λ i h.
          let here : get_or (classes ++ class ∷ []) i 0 ≡ get_or classes i 0 = get_or_append_left classes (class ∷ []) 0 i h in
          let there : get_or (befores ++ old ∷ []) i 0 ≡ get_or befores i 0 = get_or_append_left befores (old ∷ []) 0 i (omega arith) in
          let one : IsLast (classes ++ class ∷ []) (get_or classes i 0) i (get_or befores i 0) = rw (← here, ← there) (chained.before i (omega arith)) in
          last_fewer classes class (get_or classes i 0) i (get_or befores i 0) (omega arith) one.within one;
    }

-- an entry tells its node's class
pub tells_class : (mask : ℕ) (waits : List Wait) (lasts : List ℕ) (w : Wait) → AreWaits mask (waits ++ w ∷ []) lasts → w.class ≡ class_of mask w.node
tells_class mask waits lasts w are =
    let many : length (map told waits) ≡ length (map (class mask) waits) = length-map waits told ∙ sym (length-map waits (class mask)) in
    let same : map told waits ++ w.class ∷ [] ≡ map (class mask) waits ++ class mask w ∷ [] = sym (map-append told waits (w ∷ [])) ∙ are.told ∙ map-append (class mask) waits (w ∷ []) in
    sym (get_or-append_seam (map told waits) w.class [] 0) ∙ ap (λ l. get_or l (length (map told waits)) 0) same
    ∙ ap (λ k. get_or (map (class mask) waits ++ class mask w ∷ []) k 0) many ∙ get_or-append_seam (map (class mask) waits) (class mask w) [] 0

-- an entry less: its class has the entry before it again
pub waits_fewer : (mask : ℕ) (waits : List Wait) (lasts : List ℕ) (w : Wait) → AreWaits mask (waits ++ w ∷ []) lasts → AreWaits mask waits (set lasts (class_of mask w.node) w.before)
waits_fewer mask waits lasts w are =
    let small : class mask w < length lasts = within_classes mask (waits ++ w ∷ []) lasts w.node are in
    let same : map told waits ++ w.class ∷ [] ≡ map (class mask) waits ++ class mask w ∷ [] = sym (map-append told waits (w ∷ [])) ∙ are.told ∙ map-append (class mask) waits (w ∷ []) in
    record {
      classes = length-set lasts (class mask w) w.before ∙ are.classes;
      small = are.small;
      told = append_cancel_right (map told waits) (map (class mask) waits) (class mask w ∷ []) (ap (λ k. map told waits ++ k ∷ []) (sym (tells_class mask waits lasts w are)) ∙ same);
      chained = chained_fewer (map (class mask) waits) (map before waits) lasts (class mask w) w.before
          (rw (← map-append (class mask) waits (w ∷ []), ← map-append before waits (w ∷ [])) are.chained) small;
    }

-- an entry's count changes no class
pub waits_kept : (mask : ℕ) (waits : List Wait) (lasts : List ℕ) (i : ℕ) (w : Wait) → AreWaits mask waits lasts
    → ((d : Wait) → w.node ≡ (get_or waits i d).node) → ((d : Wait) → w.before ≡ (get_or waits i d).before) → ((d : Wait) → w.class ≡ (get_or waits i d).class) → AreWaits mask (set waits i w) lasts
waits_kept mask waits lasts i w are node number tells = record {
  classes = are.classes;
  small = are.small;
  told = map-set_same told waits i w w (tells w) ∙ are.told ∙ sym (map-set_same (class mask) waits i w w (ap (class_of mask) (node w)));
  chained = rw (map-set_same (class mask) waits i w w (ap (class_of mask) (node w)), map-set_same before waits i w w (number w)) are.chained;
}

-- ---- a walk of a node's class

-- an entry of the node is in its class
one_class : (mask : ℕ) (node : List ℕ) (w : Wait) → is_of node w ≡ true → class mask w ≡ class_of mask node
one_class mask node w is = ap (class_of mask) ((bytes_eq-Decides w.node node).0 is)

-- a walk for the entries of a node came to a number
abbrev pub IsWalkFor : ℕ → List Wait → List ℕ → ℕ → Type 0
IsWalkFor mask waits node number = IsSought (class mask) (is_of node) (class_of mask node) waits number

-- it begins
pub walk_for : (mask : ℕ) (waits : List Wait) (lasts : List ℕ) (node : List ℕ) (number : ℕ) → AreWaits mask waits lasts
    → number ≡ get_or lasts (class_of mask node) 0 → IsWalkFor mask waits node number
walk_for mask waits lasts node number are is =
    sought_begins (class mask) before (is_of node) (class_of mask node) (one_class mask node) waits lasts number are.chained
    (within_classes mask waits lasts node are) is

-- it goes on
pub walk_past : (mask : ℕ) (waits : List Wait) (lasts : List ℕ) (node : List ℕ) (number : ℕ) (w : Wait) → AreWaits mask waits lasts
    → IsWalkFor mask waits node number → 0 < number → w ≡ get_or waits (number - 1) w → bytes_eq w.node node ≡ false
    → IsWalkFor mask waits node w.before × (w.before < number)
walk_past mask waits lasts node number w are walked some is other =
    sought_on (class mask) before (is_of node) (class_of mask node) (one_class mask node) waits lasts number w are.chained walked some is other

-- it ends at the node's last entry
pub walk_ends : (mask : ℕ) (waits : List Wait) (node : List ℕ) (number : ℕ) → IsWalkFor mask waits node number
    → ((d : Wait) → 0 < number → bytes_eq (get_or waits (number - 1) d).node node ≡ true) → IsNumberOf waits node number
walk_ends mask waits node number walked here = record {
  within = omega (arith, walked.within, length-map waits (class mask));
  here = here;
  later = λ k d low high. none_later (class mask) (is_of node) (class_of mask node) waits number k d walked low high;
}

-- the entry that a walk came to
pub read_at : (mask : ℕ) (waits : List Wait) (node : List ℕ) (number : ℕ) (w d : Wait) → IsWalkFor mask waits node number → 0 < number
    → w ≡ get_or waits (number - 1) w → w ≡ get_or waits (number - 1) d
read_at mask waits node number w d walked some is =
    get_or_read waits (number - 1) w (omega (arith, walked.within, length-map waits (class mask))) is d

-- or it ends at none
pub nowhere : (mask : ℕ) (waits : List Wait) (node : List ℕ) (number : ℕ) → IsWalkFor mask waits node number → number ≤ 0 → IsNumberOf waits node 0
nowhere mask waits node number walked none = record {
  within = omega arith;
  here = λ d some. absurd (omega arith);
  later = λ k d low high. none_later (class mask) (is_of node) (class_of mask node) waits number k d walked (omega arith) high;
}

-- ---- a map that has the number of each node

-- the number of a node's last entry among the first so many
pub record IsNumberAmong (waits : List Wait) (many : ℕ) (node : List ℕ) (number : ℕ) : Type 0 where
  pub within : number ≤ many
  pub here : (d : Wait) → 0 < number → bytes_eq (get_or waits (number - 1) d).node node ≡ true
  pub later : (k : ℕ) (d : Wait) → number ≤ k → k < many → bytes_eq (get_or waits k d).node node ≡ false

-- an entry more has the number of its place, from 1
pub numbers_more : (waits : List Wait) (i : ℕ) (w : Wait) (node : List ℕ) (number more : ℕ) → i < length waits → w ≡ get_or waits i w
    → more ≡ cond (bytes_eq w.node node) (i + 1) number → IsNumberAmong waits i node number → IsNumberAmong waits (i + 1) node more
numbers_more waits i w node number more high read is among =
    let at : (d : Wait) → w ≡ get_or waits i d = λ d. get_or_read waits i w high read d in
    elim (cases_Bool (bytes_eq w.node node)) [
      | inl same ↦
          let own : more ≡ i + 1 = is ∙ cond-true (bytes_eq w.node node) (i + 1) number same in
          let back : more - 1 ≡ i = omega (arith, own) in
          record {
            within = omega (arith, own);
            here = λ d some. ap (λ k. bytes_eq (get_or waits k d).node node) back ∙ ap (is_of node) (sym (at d)) ∙ same;
            later = λ k d low less. absurd (omega (arith, own));
          }
      | inr differ ↦
          let old : more ≡ number = is ∙ cond-false (bytes_eq w.node node) (i + 1) number differ in
          let within = among.within in
          record {
            within = omega (arith, old);
            here = λ d some. ap (λ k. bytes_eq (get_or waits (k - 1) d).node node) old ∙ among.here d (omega (arith, old));
            later = λ k d low less.
                elim (cases_lt k i) [
                  | inl before ↦ among.later k d (omega (arith, old)) before
                  | inr not_before ↦
                      let here : k ≡ i = omega arith in
                      ap (λ n. bytes_eq (get_or waits n d).node node) here ∙ ap (is_of node) (sym (at d)) ∙ differ
                ];
          }
    ]

-- the number of a node in a map to which one was put
pub number_put : (numbers more : BTreeMap (List ℕ) ℕ) (key node : List ℕ) (n : ℕ)
    → get (slice_cmp nat_cmp) more node ≡ cond (is_eq (slice_cmp nat_cmp key node)) (Some n) (get (slice_cmp nat_cmp) numbers node)
    → number_in more node ≡ cond (bytes_eq key node) n (number_in numbers node)
number_put numbers more key node n put =
    ap (λ o. unwrap_or o 0) put ∙ each (is_eq (slice_cmp nat_cmp key node)) (get (slice_cmp nat_cmp) numbers node)
    ∙ ap (λ b. cond b n (number_in numbers node)) (is_eq-slice_cmp key node)
  where
    each : (b : Bool) (o : Option ℕ) → unwrap_or (cond b (Some n) o) 0 ≡ cond b n (unwrap_or o 0)
    each true o = refl
    each false o = refl

-- a node's reply changes no number
pub numbers_kept : (waits : List Wait) (i : ℕ) (w : Wait) (node : List ℕ) (number : ℕ) → ((d : Wait) → w.node ≡ (get_or waits i d).node)
    → IsNumberOf waits node number → IsNumberOf (set waits i w) node number
numbers_kept waits i w node number named is = record {
  within = omega (arith, is.within, length-set waits i w);
  here = λ d some. ap (λ n. bytes_eq n node) (same (number - 1) d (omega (arith, is.within))) ∙ is.here d some;
  later = λ k d low high.
      let less : k < length waits = omega (arith, length-set waits i w) in
      ap (λ n. bytes_eq n node) (same k d less) ∙ is.later k d low less;
}
  where
    same : (k : ℕ) (d : Wait) → k < length waits → (get_or (set waits i w) k d).node ≡ (get_or waits k d).node
    same k d less =
        elim (cases_eq k i) [
          | inl here ↦ ap (λ (n : ℕ). (get_or (set waits i w) n d).node) here
              ∙ ap (λ (v : Wait). v.node) (get_or-set_same waits i w d (omega arith)) ∙ named d ∙ ap (λ (n : ℕ). (get_or waits n d).node) (sym here)
          | inr there ↦ ap (λ (v : Wait). v.node) (get_or-set_other waits i k w d there)
        ]

-- ---- what counts

-- whether a count is left
pub count_there : (w : Wait) → not w.replied ≡ is_some (count_left w)
count_there w = each w.replied w.count
  where
    each : (b : Bool) (n : ℕ) → not b ≡ is_some (if b then None else Some n)
    each true n = refl
    each false n = refl

-- a node's last entry counts
pub counts_here : (waits : List Wait) (node : List ℕ) (number : ℕ) (w : Wait) → IsNumberOf waits node number → 0 < number → w ≡ get_or waits (number - 1) w
    → counts_at waits node ≡ count_left w
counts_here waits node number w is some read =
    let within = is.within in
    last_here (is_of node) count None waits (number - 1) w (omega arith) read (ap (is_of node) read ∙ is.here w some)
    (λ k d low high. is.later k d (omega arith) high)

-- a node without an entry isn't awaited
pub counts_none : (waits : List Wait) (node : List ℕ) (number : ℕ) → IsNumberOf waits node number → number ≤ 0 → counts_at waits node ≡ None
counts_none waits node number is none = last_none (is_of node) count None waits (λ k d high. is.later k d (omega arith) high)

-- where a node isn't awaited, awaiting it no more changes nothing
pub counts_same : (waits : List Wait) (node other : List ℕ) → counts_at waits node ≡ None
    → counts_at waits other ≡ cond (bytes_eq node other) None (counts_at waits other)
counts_same waits node other none =
    elim (cases_Bool (bytes_eq node other)) [
      | inl same ↦ ap (counts_at waits) (sym ((bytes_eq-Decides node other).0 same)) ∙ none ∙ sym (cond-true (bytes_eq node other) None (counts_at waits other) same)
      | inr differ ↦ sym (cond-false (bytes_eq node other) None (counts_at waits other) differ)
    ]

-- another entry of a node changes nothing for other nodes
other_entry : (node : List ℕ) (found : Option ℕ) (waits : List Wait) (i : ℕ) (w : Wait) → i < length waits → is_of node w ≡ false
    → ((d : Wait) → is_of node (get_or waits i d) ≡ false) → last_of (is_of node) count found (set waits i w) ≡ last_of (is_of node) count found waits
other_entry node found [] i w h new old = absurd (omega arith)
other_entry node found (v ∷ waits) zero w h new old =
    ap (λ f. last_of (is_of node) count f waits) (cond-false (is_of node w) (count w) found new ∙ sym (cond-false (is_of node v) (count v) found (old v)))
other_entry node found (v ∷ waits) (suc i) w h new old = other_entry node (cond (is_of node v) (count v) found) waits i w (omega arith) new old

-- a node's last entry that counts nothing awaits the node no more
pub counts_less : (waits : List Wait) (node : List ℕ) (number : ℕ) (w : Wait) (other : List ℕ) → IsNumberOf waits node number → 0 < number
    → ((d : Wait) → w.node ≡ (get_or waits (number - 1) d).node) → w.replied ≡ true
    → counts_at (set waits (number - 1) w) other ≡ cond (bytes_eq node other) None (counts_at waits other)
counts_less waits node number w other is some named replied =
    let i = number - 1 in
    let within = is.within in
    let own : w.node ≡ node = named w ∙ (bytes_eq-Decides (get_or waits i w).node node).0 (is.here w some) in
    elim (cases_Bool (bytes_eq node other)) [
      | inl same ↦
          let one : node ≡ other = (bytes_eq-Decides node other).0 same in
          last_here (is_of other) count None (set waits i w) i w (omega (arith, length-set waits i w)) (sym (get_or-set_same waits i w w (omega arith)))
          ((bytes_eq-Decides w.node other).1 (own ∙ one))
          (λ k d low high. ap (is_of other) (get_or-set_other waits i k w d (λ e. absurd (omega arith))) ∙ ap (λ n. is_of n (get_or waits k d)) (sym one)
          ∙ is.later k d (omega arith) (omega (arith, length-set waits i w)))
          ∙ cond-true w.replied None (Some w.count) replied ∙ sym (cond-true (bytes_eq node other) None (counts_at waits other) same)
      | inr differ ↦
          let not_it : (v : Wait) → v.node ≡ node → is_of other v ≡ false = λ v it. ap (λ n. bytes_eq n other) it ∙ differ in
          other_entry other None waits i w (omega arith) (not_it w own)
          (λ d. not_it (get_or waits i d) ((bytes_eq-Decides (get_or waits i d).node node).0 (is.here d some)))
          ∙ sym (cond-false (bytes_eq node other) None (counts_at waits other) differ)
    ]
