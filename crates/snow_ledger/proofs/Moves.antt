-- One transfer, made in place: three numbers are written, and what is there then is the state after it.
use Rattle.std.proofs.Common.{◌≡◌, ◌≢◌, ℕ, ◌+◌, ◌-◌, ◌*◌, ◌^◌, ◌<◌, ◌≤◌, true, cond, List, [], ◌∷◌, length, get_or, set, refl, sym, ap, ◌∙◌, inl, inr, arith, length-set}
use Rattle.std.proofs.lemmas.Bool.{and_from, cases_eq, eq-eqb, ne_eqb}
use Rattle.std.proofs.lemmas.Grind.{get_or-set_at}
use Rattle.std.proofs.lemmas.List.{get_or-set_other}
use Rattle.snow_ledger.specs.declared.state.Transfer.{Transfer}
use Rattle.snow_ledger.specs.Model.Ledger.{accounts, held, next_in, total, is_state, sent, received, sendings, balance, sequence, after, is_good}
use Rattle.snow_ledger.proofs.Sums.{sum_next, sum_front}
use Rattle.snow_ledger.proofs.After.{same_states, accounts_after, length_after, held_after, next_after}
use Rattle.snow_ledger.proofs.Good.{facts_of, total_after, state_facts}

-- the numbers that a transfer writes
abbrev pub written : List ℕ → ℕ → ℕ → ℕ → List ℕ
written s from to amount =
    set (set (set s (2 * from) (held s from - amount)) (2 * from + 1) (next_in s from + 1)) (2 * to) (held s to + amount)

-- ---- what one transfer makes of an account

sent_one : (t : Transfer) (a : ℕ) → t.from ≡ a → sent a (t ∷ []) ≡ t.amount
sent_one t a same = ap (λ b. 0 + cond b t.amount 0) (eq-eqb t.from a same) ∙ omega arith

sent_none : (t : Transfer) (a : ℕ) → (t.from ≡ a → ⊥) → sent a (t ∷ []) ≡ 0
sent_none t a differ = ap (λ b. 0 + cond b t.amount 0) (ne_eqb t.from a differ)

received_one : (t : Transfer) (a : ℕ) → t.to ≡ a → received a (t ∷ []) ≡ t.amount
received_one t a same = ap (λ b. 0 + cond b t.amount 0) (eq-eqb t.to a same) ∙ omega arith

received_none : (t : Transfer) (a : ℕ) → (t.to ≡ a → ⊥) → received a (t ∷ []) ≡ 0
received_none t a differ = ap (λ b. 0 + cond b t.amount 0) (ne_eqb t.to a differ)

counted_one : (t : Transfer) (a : ℕ) → t.from ≡ a → sendings a (t ∷ []) ≡ 1
counted_one t a same = ap (λ b. 0 + cond b 1 0) (eq-eqb t.from a same)

counted_none : (t : Transfer) (a : ℕ) → (t.from ≡ a → ⊥) → sendings a (t ∷ []) ≡ 0
counted_none t a differ = ap (λ b. 0 + cond b 1 0) (ne_eqb t.from a differ)

-- ---- what is written is what it makes

-- a number that was written, and one beside it
at_it : (l : List ℕ) (i j x : ℕ) → j ≡ i → i < length l → get_or (set l i x) j 0 ≡ x
at_it l i j x same below = get_or-set_at l i j x 0 same below

beside_it : (l : List ℕ) (i j x : ℕ) → j ≢ i → get_or (set l i x) j 0 ≡ get_or l j 0
beside_it l i j x differ = get_or-set_other l i j x 0 differ

abbrev one : List ℕ → Transfer → List ℕ
one s t = set s (2 * t.from) (held s t.from - t.amount)

abbrev two : List ℕ → Transfer → List ℕ
two s t = set (one s t) (2 * t.from + 1) (next_in s t.from + 1)

held_written : (s : List ℕ) (t : Transfer) (a : ℕ) → length s ≡ 2 * accounts s → t.from < accounts s → t.to < accounts s
    → (t.from ≡ t.to → ⊥) → a < accounts s → held (written s t.from t.to t.amount) a ≡ balance s (t ∷ []) a
unfolding balance
held_written s t a even sender receiver apart below =
    let long : length (two s t) ≡ length s = length-set (one s t) (2 * t.from + 1) (next_in s t.from + 1) ∙ length-set s (2 * t.from) (held s t.from - t.amount) in
    elim (cases_eq t.to a) [
      | inl to ↦
          let write = at_it (two s t) (2 * t.to) (2 * a) (held s t.to + t.amount) (omega arith) (omega arith) in
          let same : held s t.to ≡ held s a = ap (held s) to in
          let other : t.from ≡ a → ⊥ = λ e. apart (e ∙ sym to) in
          write ∙ omega (arith, same, received_one t a to, sent_none t a other)
      | inr not_to ↦
          let last = beside_it (two s t) (2 * t.to) (2 * a) (held s t.to + t.amount) (λ e. not_to (omega arith)) in
          let middle = beside_it (one s t) (2 * t.from + 1) (2 * a) (next_in s t.from + 1) (λ e. omega arith) in
          let unreceived = received_none t a not_to in
          last ∙ middle ∙ elim (cases_eq t.from a) [
            | inl from ↦
                let write = at_it s (2 * t.from) (2 * a) (held s t.from - t.amount) (omega arith) (omega arith) in
                let same : held s t.from ≡ held s a = ap (held s) from in
                write ∙ omega (arith, same, unreceived, sent_one t a from)
            | inr not_from ↦
                let stays = beside_it s (2 * t.from) (2 * a) (held s t.from - t.amount) (λ e. not_from (omega arith)) in
                stays ∙ omega (arith, unreceived, sent_none t a not_from)
          ]
    ]

next_written : (s : List ℕ) (t : Transfer) (a : ℕ) → length s ≡ 2 * accounts s → t.from < accounts s → a < accounts s
    → next_in (written s t.from t.to t.amount) a ≡ sequence s (t ∷ []) a
unfolding sequence
next_written s t a even sender below =
    let long : length (one s t) ≡ length s = length-set s (2 * t.from) (held s t.from - t.amount) in
    let last = beside_it (two s t) (2 * t.to) (2 * a + 1) (held s t.to + t.amount) (λ e. omega arith) in
    last ∙ elim (cases_eq t.from a) [
      | inl from ↦
          let write = at_it (one s t) (2 * t.from + 1) (2 * a + 1) (next_in s t.from + 1) (omega arith) (omega arith) in
          let same : next_in s t.from ≡ next_in s a = ap (next_in s) from in
          write ∙ omega (arith, same, counted_one t a from)
      | inr not_from ↦
          let middle = beside_it (one s t) (2 * t.from + 1) (2 * a + 1) (next_in s t.from + 1) (λ e. not_from (omega arith)) in
          let stays = beside_it s (2 * t.from) (2 * a + 1) (held s t.from - t.amount) (λ e. omega arith) in
          middle ∙ stays ∙ omega (arith, counted_none t a not_from)
    ]

-- a good transfer, made in place
pub moved_one : (s : List ℕ) (t : Transfer) → is_state s ≡ true → is_good s [] t ≡ true → written s t.from t.to t.amount ≡ after s (t ∷ [])
moved_one s t state good =
    let even = (state_facts s state).even in
    let facts = facts_of s [] t good in
    let long : length (written s t.from t.to t.amount) ≡ 2 * accounts s =
    length-set (two s t) (2 * t.to) (held s t.to + t.amount) ∙ length-set (one s t) (2 * t.from + 1) (next_in s t.from + 1)
    ∙ length-set s (2 * t.from) (held s t.from - t.amount) ∙ even in
    same_states (written s t.from t.to t.amount) (after s (t ∷ [])) (accounts s) long (length_after s (t ∷ []))
    (λ a below. held_written s t a even facts.sender facts.receiver facts.apart below ∙ sym (held_after s (t ∷ []) a below))
    (λ a below. next_written s t a even facts.sender below ∙ sym (next_after s (t ∷ []) a below))

-- what a good transfer needs of the numbers that it reads
pub within_held : (s : List ℕ) (t : Transfer) → is_good s [] t ≡ true → t.amount ≤ held s t.from
unfolding balance
within_held s t good = let facts = facts_of s [] t good in omega (arith, facts.within)

pub counts_on : (s : List ℕ) (t : Transfer) → is_good s [] t ≡ true → next_in s t.from + 1 < 2 ^ 64
unfolding sequence
counts_on s t good = let facts = facts_of s [] t good in omega (arith, facts.in_turn, facts.counts)

-- an account holds no more than all hold together
held_within : (s : List ℕ) (a : ℕ) → a < accounts s → held s a ≤ total s
held_within s a below = omega (arith, sum_next (held s) a, sum_front (held s) (a + 1) (accounts s) (omega arith))

-- nothing passes 2^64-1, since all together stays
pub fits_receiver : (s : List ℕ) (t : Transfer) → is_state s ≡ true → is_good s [] t ≡ true → held s t.to + t.amount < 2 ^ 64
unfolding balance
fits_receiver s t state good =
    let facts = facts_of s [] t good in
    let all = total_after s (t ∷ []) (and_from (is_good s [] t) true good refl) in
    let same = accounts_after s (t ∷ []) in
    let here = held_within (after s (t ∷ [])) t.to (omega (arith, facts.receiver, same)) in
    omega (arith, all, here, held_after s (t ∷ []) t.to facts.receiver, received_one t t.to refl, sent_none t t.to facts.apart, (state_facts s state).fits)
