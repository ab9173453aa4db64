-- Lemmas on states after transfers.
use Rattle.std.proofs.Common.{◌≡◌, ℕ, zero, suc, ◌+◌, ◌*◌, ◌/◌, ◌%◌, ◌<◌, ◌≤◌, cond, List, [], ◌∷◌, ◌++◌, length, get_or, All, refl, sym, ap, ◌∙◌, inl, inr, arith}
use Rattle.std.specs.List.{sum_by, range_with_len, flat_map}
use Rattle.std.specs.Prelude.{◌==◌}
use Rattle.std.proofs.lemmas.Bool.{cases_Bool, eqb-true, eqb-false}
use Rattle.std.proofs.lemmas.List.{ext_get_or}
use Rattle.std.proofs.lemmas.List.Sums.{sum_by-append}
use Rattle.snow_ledger.specs.declared.state.Transfer.{Transfer}
use Rattle.snow_ledger.specs.Model.Ledger.{accounts, accounts_of, held, next_in, sent, received, sendings, balance, sequence, after}
use Rattle.snow_ledger.proofs.Sums.{gathered}

-- ---- pairs in a list

abbrev pub pairs : (ℕ → ℕ) → (ℕ → ℕ) → ℕ → ℕ → List ℕ
pairs f g a n = flat_map (λ k. f k ∷ g k ∷ []) (range_with_len a n)

pub length_pairs : (f g : ℕ → ℕ) (a n : ℕ) → length (pairs f g a n) ≡ 2 * n
length_pairs f g a zero = refl
length_pairs f g a (suc n) = let rest = length_pairs f g (a + 1) n in omega arith

pub first_of_pair : (f g : ℕ → ℕ) (a n i : ℕ) → i < n → get_or (pairs f g a n) (2 * i) 0 ≡ f (a + i)
first_of_pair f g a zero i below = absurd (omega arith)
first_of_pair f g a (suc n) zero below = ap f (omega arith)
first_of_pair f g a (suc n) (suc i) below =
    let rest = first_of_pair f g (a + 1) n i (omega arith) in
    let twice : 2 * suc i ≡ suc (suc (2 * i)) = omega arith in
    let next : a + 1 + i ≡ a + suc i = omega arith in
    ap (λ j. get_or (pairs f g a (suc n)) j 0) twice ∙ rest ∙ ap f next

pub second_of_pair : (f g : ℕ → ℕ) (a n i : ℕ) → i < n → get_or (pairs f g a n) (2 * i + 1) 0 ≡ g (a + i)
second_of_pair f g a zero i below = absurd (omega arith)
second_of_pair f g a (suc n) zero below = ap g (omega arith)
second_of_pair f g a (suc n) (suc i) below =
    let rest = second_of_pair f g (a + 1) n i (omega arith) in
    let twice : 2 * suc i + 1 ≡ suc (suc (2 * i + 1)) = omega arith in
    let next : a + 1 + i ≡ a + suc i = omega arith in
    ap (λ j. get_or (pairs f g a (suc n)) j 0) twice ∙ rest ∙ ap g next

-- two lists of pairs that agree in each pair are the same
pub same_states : (s u : List ℕ) (n : ℕ) → length s ≡ 2 * n → length u ≡ 2 * n
    → ((a : ℕ) → a < n → held s a ≡ held u a) → ((a : ℕ) → a < n → next_in s a ≡ next_in u a) → s ≡ u
same_states s u n of_s of_u same_held same_next = ext_get_or 0 s u (omega arith) (λ i below.
    let pair : 2 * (i / 2) + i % 2 ≡ i = omega arith in
    let either : i % 2 < 2 = omega arith in
    let low : i / 2 < n = omega arith in
    elim (cases_Bool (i % 2 == 0)) [
      | inl even ↦
          let is = eqb-true (i % 2) 0 even in let at : 2 * (i / 2) ≡ i = omega arith in
          ap (λ j. get_or s j 0) (sym at) ∙ same_held (i / 2) low ∙ ap (λ j. get_or u j 0) at
      | inr odd ↦
          let isnt = eqb-false (i % 2) 0 odd in let at : 2 * (i / 2) + 1 ≡ i = omega arith in
          ap (λ j. get_or s j 0) (sym at) ∙ same_next (i / 2) low ∙ ap (λ j. get_or u j 0) at
    ])

-- ---- what a state has after transfers

pub length_after : (s : List ℕ) (ts : List Transfer) → length (after s ts) ≡ 2 * accounts s
unfolding after
length_after s ts = length_pairs (balance s ts) (sequence s ts) 0 (accounts s)

pub accounts_after : (s : List ℕ) (ts : List Transfer) → accounts (after s ts) ≡ accounts s
accounts_after s ts = let long = length_after s ts in omega arith

pub held_after : (s : List ℕ) (ts : List Transfer) (a : ℕ) → a < accounts s → held (after s ts) a ≡ balance s ts a
unfolding after
held_after s ts a below = first_of_pair (balance s ts) (sequence s ts) 0 (accounts s) a below ∙ ap (balance s ts) (omega arith)

pub next_after : (s : List ℕ) (ts : List Transfer) (a : ℕ) → a < accounts s → next_in (after s ts) a ≡ sequence s ts a
unfolding after
next_after s ts a below = second_of_pair (balance s ts) (sequence s ts) 0 (accounts s) a below ∙ ap (sequence s ts) (omega arith)

-- no account sends more than it held and received
pub record Covers (s : List ℕ) (ts : List Transfer) : Type 0 where
  pub covers : (a : ℕ) → sent a ts ≤ held s a + received a ts

-- an amount that one side of a transfer moves
abbrev pub part : (Transfer → ℕ) → (Transfer → ℕ) → ℕ → Transfer → ℕ
part side amount a t = cond (side t == a) (amount t) 0

pub sent_append : (a : ℕ) (ts us : List Transfer) → sent a (ts ++ us) ≡ sent a ts + sent a us
sent_append a ts us = sum_by-append (part (λ t. t.from) (λ t. t.amount) a) ts us

pub received_append : (a : ℕ) (ts us : List Transfer) → received a (ts ++ us) ≡ received a ts + received a us
received_append a ts us = sum_by-append (part (λ t. t.to) (λ t. t.amount) a) ts us

pub sendings_append : (a : ℕ) (ts us : List Transfer) → sendings a (ts ++ us) ≡ sendings a ts + sendings a us
sendings_append a ts us = sum_by-append (part (λ t. t.from) (λ t. 1) a) ts us

-- balances and sequences after more transfers are those of the state after the first ones
pub balance_more : (s : List ℕ) (ts us : List Transfer) (a : ℕ) → Covers s ts → a < accounts s
    → balance (after s ts) us a ≡ balance s (ts ++ us) a
unfolding balance
balance_more s ts us a covered below =
    omega (arith, held_after s ts a below, covered.covers a, sent_append a ts us, received_append a ts us)

pub sequence_more : (s : List ℕ) (ts us : List Transfer) (a : ℕ) → a < accounts s
    → sequence (after s ts) us a ≡ sequence s (ts ++ us) a
unfolding sequence
sequence_more s ts us a below = omega (arith, next_after s ts a below, sendings_append a ts us)

-- the state after more transfers is that after all of them
pub after_after : (s : List ℕ) (ts us : List Transfer) → Covers s ts → after (after s ts) us ≡ after s (ts ++ us)
after_after s ts us covered =
    let same = accounts_after s ts in
    let twice = length_after (after s ts) us in
    same_states (after (after s ts) us) (after s (ts ++ us)) (accounts s) (omega arith) (length_after s (ts ++ us))
    (λ a below.
    held_after (after s ts) us a (omega arith) ∙ balance_more s ts us a covered below ∙ sym (held_after s (ts ++ us) a below))
    (λ a below.
    next_after (after s ts) us a (omega arith) ∙ sequence_more s ts us a below ∙ sym (next_after s (ts ++ us) a below))

-- a state is that after no transfers
pub after_none : (s : List ℕ) → length s ≡ 2 * accounts s → after s [] ≡ s
unfolding balance sequence
after_none s even = same_states (after s []) s (accounts s) (length_after s []) even
    (λ a below. held_after s [] a below ∙ omega arith)
    (λ a below. next_after s [] a below ∙ omega arith)

-- ---- what all accounts hold together

pub all_sent : (s : List ℕ) (ts : List Transfer) → All (λ t. t.from < accounts s) ts
    → sum_by (λ a. sent a ts) (accounts_of s) ≡ sum_by (λ t. t.amount) ts
all_sent s ts keys = gathered (λ t. t.from) (λ t. t.amount) (accounts s) ts keys

pub all_received : (s : List ℕ) (ts : List Transfer) → All (λ t. t.to < accounts s) ts
    → sum_by (λ a. received a ts) (accounts_of s) ≡ sum_by (λ t. t.amount) ts
all_received s ts keys = gathered (λ t. t.to) (λ t. t.amount) (accounts s) ts keys
