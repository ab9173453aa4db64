-- Lemmas on items in classes: no items, a walk of a class, and one item more.
use Rattle.std.proofs.Common.{◌≡◌, ◌≢◌, ℕ, ◌+◌, ◌-◌, ◌<◌, ◌≤◌, List, [], ◌∷◌, ◌++◌, length, get_or, set, replicate, refl, sym, ap, ◌∙◌, arith, inl, inr}
use Rattle.std.proofs.lemmas.Bool.{cases_eq, cases_lt}
use Rattle.std.proofs.lemmas.List.{get_or_append_left, get_or-replicate, get_or-set_same, get_or-set_other, length-append, length-replicate, length-set}
use Rattle.std.proofs.Math.Seq.{get_or-append_seam}
use Rattle.snow_sample.specs.Kept.Chains.{IsLast, AreChained}

-- no item is chained to none
pub chained_none : (many : ℕ) → AreChained [] [] (replicate many 0)
chained_none many = record {
  each = refl;
  last = λ class h.
      let nothing : ℕ = 0 in
      let none : get_or (replicate many nothing) class nothing ≡ nothing = get_or-replicate many class 0 0 (omega (arith, h, length-replicate many nothing)) in
      rw none (record { within = omega arith; same = λ some. absurd (omega arith); others = λ i low high. absurd (omega arith) });
  before = λ i h. absurd (omega arith);
}

-- ---- a walk of a class for the items that are sought

-- the walk came to a number: no item of a greater number is sought
pub record IsWalked (classes : List ℕ) (Sought : ℕ → Type 0) (class number : ℕ) : Type 0 where
  pub within : number ≤ length classes
  pub same : 0 < number → get_or classes (number - 1) 0 ≡ class
  pub others : (i : ℕ) → number ≤ i → i < length classes → Sought i → ⊥

-- it begins at the last item of the class
pub walk_begins : (classes befores lasts : List ℕ) (Sought : ℕ → Type 0) (class : ℕ) → AreChained classes befores lasts → class < length lasts
    → ((i : ℕ) → i < length classes → Sought i → get_or classes i 0 ≡ class) → IsWalked classes Sought class (get_or lasts class 0)
walk_begins classes befores lasts Sought class chained small one =
    let last = chained.last class small in
    record { within = last.within; same = last.same; others = λ i low high is. last.others i low high (one i high is) }

-- and goes on to the item before
pub walk_on : (classes befores lasts : List ℕ) (Sought : ℕ → Type 0) (class number : ℕ) → AreChained classes befores lasts
    → ((i : ℕ) → i < length classes → Sought i → get_or classes i 0 ≡ class) → IsWalked classes Sought class number
    → 0 < number → (Sought (number - 1) → ⊥) → IsWalked classes Sought class (get_or befores (number - 1) 0)
walk_on classes befores lasts Sought class number chained one walked some other =
    let within = walked.within in
    let last : IsLast classes class (number - 1) (get_or befores (number - 1) 0) = rw (← walked.same some) (chained.before (number - 1) (omega arith)) in
    let few = last.within in
    record {
      within = omega arith;
      same = last.same;
      others = λ i low high is.
          elim (cases_lt i (number - 1)) [
            | inl less ↦ last.others i low less (one i high is)
            | inr more ↦
                elim (cases_eq i (number - 1)) [
                  | inl here ↦ other (rw (← here) is)
                  | inr there ↦ walked.others i (omega arith) high is
                ]
          ];
    }

-- it comes closer to the first item
pub walk_shorter : (classes befores lasts : List ℕ) (number : ℕ) → AreChained classes befores lasts → 0 < number → number ≤ length classes
    → get_or befores (number - 1) 0 < number
walk_shorter classes befores lasts number chained some within =
    let few = (chained.before (number - 1) (omega arith)).within in
    omega arith

-- ---- one item more

-- the last of a class among these is still that
last_kept : (classes : List ℕ) (new class many number : ℕ) → many ≤ length classes → IsLast classes class many number
    → IsLast (classes ++ new ∷ []) class many number
last_kept classes new class many number few last =
    let within = last.within in
    record {
      within = last.within;
      same = λ some. get_or_append_left classes (new ∷ []) 0 (number - 1) (omega arith) ∙ last.same some;
      others = λ i low high is. last.others i low high (sym (get_or_append_left classes (new ∷ []) 0 i (omega arith)) ∙ is);
    }

-- an item of another class is none of this one
last_other : (classes : List ℕ) (new class number : ℕ) → new ≢ class → IsLast classes class (length classes) number
    → IsLast (classes ++ new ∷ []) class (length classes + 1) number
last_other classes new class number other last =
    let kept = last_kept classes new class (length classes) number (omega arith) last in
    let within = last.within in
    record {
      within = omega arith;
      same = kept.same;
      others = λ i low high is.
          elim (cases_lt i (length classes)) [
            | inl less ↦ kept.others i low less is
            | inr more ↦
                let here : i ≡ length classes = omega arith in
                other (sym (ap (λ k. get_or (classes ++ new ∷ []) k 0) here ∙ get_or-append_seam classes new [] 0) ∙ is)
          ];
    }

-- the item is the last one of its class
last_itself : (classes : List ℕ) (new : ℕ) → IsLast (classes ++ new ∷ []) new (length classes + 1) (length classes + 1)
last_itself classes new = record {
  within = omega arith;
  same = λ some.
      let here : length classes + 1 - 1 ≡ length classes = omega arith in
      ap (λ k. get_or (classes ++ new ∷ []) k 0) here ∙ get_or-append_seam classes new [] 0;
  others = λ i low high. absurd (omega arith);
}

-- an item more, with the number that its class had, which is then its own
pub chained_more : (classes befores lasts : List ℕ) (class : ℕ) → AreChained classes befores lasts → class < length lasts
    → AreChained (classes ++ class ∷ []) (befores ++ get_or lasts class 0 ∷ []) (set lasts class (length classes + 1))
chained_more classes befores lasts class chained small =
    let old = get_or lasts class 0 in
    let number = length classes + 1 in
    let each = chained.each in
    let long : length (classes ++ class ∷ []) ≡ number = length-append classes (class ∷ []) in
    let also : length (befores ++ old ∷ []) ≡ length befores + 1 = length-append befores (old ∷ []) in
    record {
      each = omega arith;
      last = λ c h.
          elim (cases_eq c class) [
            | inl same ↦
                let at : get_or (set lasts class number) c 0 ≡ number =
                ap (λ k. get_or (set lasts class number) k 0) same ∙ get_or-set_same lasts class number 0 small in
                rw (at, long, same) (last_itself classes class)
            | inr differ ↦
                let at : get_or (set lasts class number) c 0 ≡ get_or lasts c 0 = get_or-set_other lasts class c number 0 differ in
                rw (at, long) (last_other classes class c (get_or lasts c 0) (λ is. differ (sym is)) (chained.last c (rw (length-set lasts class number) at h)))
          ];
      before = λ i h.
          elim (cases_lt i (length classes)) [
            | inl less ↦
                let of : get_or (classes ++ class ∷ []) i 0 ≡ get_or classes i 0 = get_or_append_left classes (class ∷ []) 0 i less in
                let at : get_or (befores ++ old ∷ []) i 0 ≡ get_or befores i 0 = get_or_append_left befores (old ∷ []) 0 i (omega arith) in
                rw (of, at) (last_kept classes class (get_or classes i 0) i (get_or befores i 0) (omega arith) (chained.before i less))
            | inr more ↦
                let here : i ≡ length classes = omega arith in
                let there : i ≡ length befores = omega arith in
                let of : get_or (classes ++ class ∷ []) i 0 ≡ class = ap (λ k. get_or (classes ++ class ∷ []) k 0) here ∙ get_or-append_seam classes class [] 0 in
                let at : get_or (befores ++ old ∷ []) i 0 ≡ old = ap (λ k. get_or (befores ++ old ∷ []) k 0) there ∙ get_or-append_seam befores old [] 0 in
                rw (of, at) (last_kept classes class class i old (omega arith) (rw here (chained.last class small)))
          ];
    }
