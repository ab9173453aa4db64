-- Lemmas on good transfers: what each of them says, and what all of them say of balances and sequences.
use Rattle.std.proofs.Common.{◌≡◌, ℕ, ◌+◌, ◌*◌, ◌<◌, ◌≤◌, Bool, true, false, cond, not, ◌&&◌, List, [], ◌∷◌, ◌++◌, length, get_or, All, refl, sym, ap, subst, ◌∙◌, inl, inr, arith, append_assoc}
use Rattle.std.specs.Prelude.{◌==◌, nat_lt, nat_le}
use Rattle.std.specs.List.{sum_by, AllPairs, range_with_len}
use Rattle.std.proofs.lemmas.Bool.{cases_Bool, and_parts, and_from, and_left, not-true, ltb-true, leb-true, le-leb, eqb-true, eqb-false, eq-eqb}
use Rattle.std.proofs.lemmas.List.{append-nil}
use Rattle.std.proofs.lemmas.List.Elements.{All-nil, All-cons}
use Rattle.std.proofs.lemmas.List.Kept.{AllPairs-cons}
use Rattle.std.proofs.lemmas.List.Sums.{sum_by_push}
use Rattle.snow_ledger.specs.declared.state.Transfer.{Transfer}
use Rattle.snow_ledger.specs.Model.Ledger.{accounts, accounts_of, held, next_in, total, is_state, sent, received, sendings, balance, sequence, after, is_between_accounts, is_covered, is_in_turn, is_good, are_good}
use Rattle.snow_ledger.specs.Laws.Law.{IsTwice}
use Rattle.snow_ledger.proofs.Sums.{sum_same, sum_same_range, sum_plus}
use Rattle.snow_ledger.proofs.After.{Covers, part, accounts_after, length_after, held_after, balance_more, sequence_more, sendings_append, all_sent, all_received}

-- ---- one transfer

-- what a good transfer says
pub record Facts (s : List ℕ) (ts : List Transfer) (t : Transfer) : Type 0 where
  pub sender : t.from < accounts s
  pub receiver : t.to < accounts s
  pub apart : t.from ≡ t.to → ⊥
  pub moves : 1 ≤ t.amount
  pub within : t.amount ≤ balance s ts t.from
  pub in_turn : t.sequence ≡ sequence s ts t.from
  pub counts : t.sequence < 18446744073709551615

pub facts_of : (s : List ℕ) (ts : List Transfer) (t : Transfer) → is_good s ts t ≡ true → Facts s ts t
unfolding is_good
facts_of s ts t good =
    let all = and_parts (is_between_accounts s t && is_covered s ts t) (is_in_turn s ts t) good in
    let front = and_parts (is_between_accounts s t) (is_covered s ts t) all.0 in
    let between = and_parts (nat_lt t.from (accounts s) && nat_lt t.to (accounts s)) (not (t.from == t.to)) front.0 in
    let ends = and_parts (nat_lt t.from (accounts s)) (nat_lt t.to (accounts s)) between.0 in
    let amounts = and_parts (nat_le 1 t.amount) (nat_le t.amount (balance s ts t.from)) front.1 in
    let turn = and_parts (t.sequence == sequence s ts t.from) (nat_lt t.sequence 18446744073709551615) all.1 in
    record {
      sender = ltb-true t.from (accounts s) ends.0;
      receiver = ltb-true t.to (accounts s) ends.1;
      apart = eqb-false t.from t.to (not-true (t.from == t.to) between.1);
      moves = leb-true 1 t.amount amounts.0;
      within = leb-true t.amount (balance s ts t.from) amounts.1;
      in_turn = eqb-true t.sequence (sequence s ts t.from) turn.0;
      counts = ltb-true t.sequence 18446744073709551615 turn.1;
    }

-- a transfer that is good after some is good in the state after the first of them
pub good_after : (s : List ℕ) (ts before : List Transfer) (t : Transfer) → Covers s ts
    → is_good (after s ts) before t ≡ is_good s (ts ++ before) t
unfolding is_good
good_after s ts before t covered =
    let between : ℕ → Bool = λ n. nat_lt t.from n && nat_lt t.to n && not (t.from == t.to) in
    let judged : Bool → ℕ → ℕ → Bool = λ b most turn. b && (nat_le 1 t.amount && nat_le t.amount most) && (t.sequence == turn && nat_lt t.sequence 18446744073709551615) in
    let same : accounts (after s ts) ≡ accounts s = accounts_after s ts in
    elim (cases_Bool (nat_lt t.from (accounts s))) [
      | inl there ↦
          let sender : t.from < accounts s = ltb-true t.from (accounts s) there in
          ap (λ n. judged (between n) (balance (after s ts) before t.from) (sequence (after s ts) before t.from)) same
          ∙ ap (λ m. judged (between (accounts s)) m (sequence (after s ts) before t.from)) (balance_more s ts before t.from covered sender)
          ∙ ap (judged (between (accounts s)) (balance s (ts ++ before) t.from)) (sequence_more s ts before t.from sender)
      | inr none ↦
          let no : (n most turn : ℕ) → nat_lt t.from n ≡ false → judged (between n) most turn ≡ false = λ n most turn e. and_left _ _ (and_left _ _ (and_left _ _ (and_left _ _ e))) in
          no (accounts (after s ts)) (balance (after s ts) before t.from) (sequence (after s ts) before t.from) (ap (nat_lt t.from) same ∙ none)
          ∙ sym (no (accounts s) (balance s (ts ++ before) t.from) (sequence s (ts ++ before) t.from) none)
    ]

-- no account sends more than it held and received, also once a good transfer comes
covers_sender : (s : List ℕ) (ts : List Transfer) (t : Transfer) → Covers s ts → t.amount ≤ balance s ts t.from
    → sent t.from (ts ++ t ∷ []) ≤ held s t.from + received t.from (ts ++ t ∷ [])
unfolding balance
covers_sender s ts t covered within =
    let itself : part (λ t. t.from) (λ t. t.amount) t.from t ≡ t.amount = ap (λ b. cond b t.amount 0) (eq-eqb t.from t.from refl) in
    omega (
      arith,
      sum_by_push (part (λ t. t.from) (λ t. t.amount) t.from) ts t,
      sum_by_push (part (λ t. t.to) (λ t. t.amount) t.from) ts t,
      itself,
      within,
      covered.covers t.from,
    )

covers_other : (s : List ℕ) (ts : List Transfer) (t : Transfer) (a : ℕ) → Covers s ts → (t.from == a) ≡ false
    → sent a (ts ++ t ∷ []) ≤ held s a + received a (ts ++ t ∷ [])
covers_other s ts t a covered other =
    let nothing : part (λ t. t.from) (λ t. t.amount) a t ≡ 0 = ap (λ b. cond b t.amount 0) other in
    omega (
      arith,
      sum_by_push (part (λ t. t.from) (λ t. t.amount) a) ts t,
      sum_by_push (part (λ t. t.to) (λ t. t.amount) a) ts t,
      nothing,
      covered.covers a,
    )

pub covers_more : (s : List ℕ) (ts : List Transfer) (t : Transfer) → Covers s ts → is_good s ts t ≡ true → Covers s (ts ++ t ∷ [])
covers_more s ts t covered good = record {
  covers = λ a. elim (cases_Bool (t.from == a)) [
    | inl same ↦ subst (λ (b : ℕ). sent b (ts ++ t ∷ []) ≤ held s b + received b (ts ++ t ∷ [])) (eqb-true t.from a same)
        (covers_sender s ts t covered (facts_of s ts t good).within)
    | inr other ↦ covers_other s ts t a covered other
  ];
}

-- ---- all transfers of a list

-- a list of good transfers, and those behind its first ones
good_head : (s : List ℕ) (before : List Transfer) (t : Transfer) (ts : List Transfer) → are_good s before (t ∷ ts) ≡ true → is_good s before t ≡ true
good_head s before t ts good = (and_parts (is_good s before t) (are_good s (before ++ t ∷ []) ts) good).0

good_tail : (s : List ℕ) (before : List Transfer) (t : Transfer) (ts : List Transfer) → are_good s before (t ∷ ts) ≡ true → are_good s (before ++ t ∷ []) ts ≡ true
good_tail s before t ts good = (and_parts (is_good s before t) (are_good s (before ++ t ∷ []) ts) good).1

covers_behind : (s : List ℕ) (before ts : List Transfer) → Covers s before → are_good s before ts ≡ true → Covers s (before ++ ts)
covers_behind s before [] covered good = subst (Covers s) (sym (append-nil before)) covered
covers_behind s before (t ∷ ts) covered good =
    subst (Covers s) (append_assoc before (t ∷ []) ts)
    (covers_behind s (before ++ t ∷ []) ts (covers_more s before t covered (good_head s before t ts good)) (good_tail s before t ts good))

pub covers_all : (s : List ℕ) (ts : List Transfer) → are_good s [] ts ≡ true → Covers s ts
covers_all s ts good = covers_behind s [] ts (record { covers = λ a. omega arith }) good

-- transfers that are good behind some are good in the state after those
pub are_good_after : (s : List ℕ) (ts before us : List Transfer) → Covers s ts → are_good (after s ts) before us ≡ are_good s (ts ++ before) us
are_good_after s ts before [] covered = refl
are_good_after s ts before (u ∷ us) covered =
    ap (λ b. b && are_good (after s ts) (before ++ u ∷ []) us) (good_after s ts before u covered)
    ∙ ap (λ b. is_good s (ts ++ before) u && b) (are_good_after s ts (before ++ u ∷ []) us covered ∙ ap (λ l. are_good s l us) (sym (append_assoc ts before (u ∷ []))))

and_grouped : (a b c : Bool) → (a && (b && c)) ≡ (a && b && c)
and_grouped true b c = refl
and_grouped false b c = refl

-- transfers in two parts are good where the parts are, one behind the other
pub are_good_more : (s : List ℕ) (before ts us : List Transfer) → are_good s before (ts ++ us) ≡ (are_good s before ts && are_good s (before ++ ts) us)
are_good_more s before [] us = ap (λ l. are_good s l us) (sym (append-nil before))
are_good_more s before (t ∷ ts) us =
    ap (λ b. is_good s before t && b) (are_good_more s (before ++ t ∷ []) ts us)
    ∙ ap (λ l. is_good s before t && (are_good s (before ++ t ∷ []) ts && are_good s l us)) (append_assoc before (t ∷ []) ts)
    ∙ and_grouped (is_good s before t) (are_good s (before ++ t ∷ []) ts) (are_good s (before ++ t ∷ ts) us)

-- the first of some good transfers are good, and each is good after those before it
pub front_good : (s : List ℕ) (before behind list : List Transfer) → list ≡ before ++ behind → are_good s [] list ≡ true → are_good s [] before ≡ true
front_good s before behind list is good =
    (and_parts (are_good s [] before) (are_good s before behind) (sym (are_good_more s [] before behind) ∙ ap (are_good s []) (sym is) ∙ good)).0

pub good_at : (s : List ℕ) (before behind list : List Transfer) (t : Transfer) → list ≡ before ++ t ∷ behind → are_good s [] list ≡ true → is_good s before t ≡ true
good_at s before behind list t is good =
    good_head s before t behind
    (and_parts (are_good s [] before) (are_good s before (t ∷ behind)) (sym (are_good_more s [] before (t ∷ behind)) ∙ ap (are_good s []) (sym is) ∙ good)).1

-- ---- what all accounts hold together

senders : (s : List ℕ) (before ts : List Transfer) → are_good s before ts ≡ true → All (λ t. t.from < accounts s) ts
senders s before [] good = All-nil (λ t. t.from < accounts s)
senders s before (t ∷ ts) good =
    All-cons (λ t. t.from < accounts s) t ts (facts_of s before t (good_head s before t ts good)).sender (senders s (before ++ t ∷ []) ts (good_tail s before t ts good))

receivers : (s : List ℕ) (before ts : List Transfer) → are_good s before ts ≡ true → All (λ t. t.to < accounts s) ts
receivers s before [] good = All-nil (λ t. t.to < accounts s)
receivers s before (t ∷ ts) good =
    All-cons (λ t. t.to < accounts s) t ts (facts_of s before t (good_head s before t ts good)).receiver (receivers s (before ++ t ∷ []) ts (good_tail s before t ts good))

-- a balance and what was sent are what was held and what was received
left_and_sent : (s : List ℕ) (ts : List Transfer) (a : ℕ) → Covers s ts → balance s ts a + sent a ts ≡ held s a + received a ts
unfolding balance
left_and_sent s ts a covered = omega (arith, covered.covers a)

-- nothing is made and nothing is lost
pub total_after : (s : List ℕ) (ts : List Transfer) → are_good s [] ts ≡ true → total (after s ts) ≡ total s
total_after s ts good =
    let all : List ℕ = accounts_of s in
    let same : total (after s ts) ≡ sum_by (held (after s ts)) all = ap (λ n. sum_by (held (after s ts)) (range_with_len 0 n)) (accounts_after s ts) in
    let kept : sum_by (held (after s ts)) all ≡ sum_by (balance s ts) all =
    sum_same_range (held (after s ts)) (balance s ts) 0 (accounts s) (λ a below. held_after s ts a (omega arith)) in
    let both : sum_by (λ a. balance s ts a + sent a ts) all ≡ sum_by (λ a. held s a + received a ts) all =
    sum_same (λ a. balance s ts a + sent a ts) (λ a. held s a + received a ts) all (λ a. left_and_sent s ts a (covers_all s ts good)) in
    let left : sum_by (λ a. balance s ts a + sent a ts) all ≡ sum_by (balance s ts) all + sum_by (λ a. sent a ts) all = sum_plus (balance s ts) (λ a. sent a ts) all in
    let right : sum_by (λ a. held s a + received a ts) all ≡ sum_by (held s) all + sum_by (λ a. received a ts) all = sum_plus (held s) (λ a. received a ts) all in
    same ∙ kept ∙ omega (arith, both, left, right, all_sent s ts (senders s [] ts good), all_received s ts (receivers s [] ts good))

-- what a state says
pub record StateFacts (s : List ℕ) : Type 0 where
  pub some : 1 ≤ accounts s
  pub even : length s ≡ 2 * accounts s
  pub fits : total s ≤ 18446744073709551615

pub state_facts : (s : List ℕ) → is_state s ≡ true → StateFacts s
unfolding is_state
state_facts s state =
    let all = and_parts (nat_le 1 (accounts s) && length s == 2 * accounts s) (nat_le (total s) 18446744073709551615) state in
    let front = and_parts (nat_le 1 (accounts s)) (length s == 2 * accounts s) all.0 in
    record {
      some = leb-true 1 (accounts s) front.0;
      even = eqb-true (length s) (2 * accounts s) front.1;
      fits = leb-true (total s) 18446744073709551615 all.1;
    }

-- what is left after good transfers is a state
pub state_after : (s : List ℕ) (ts : List Transfer) → is_state s ≡ true → are_good s [] ts ≡ true → is_state (after s ts) ≡ true
unfolding is_state
state_after s ts state good =
    let was = state_facts s state in
    let same : accounts (after s ts) ≡ accounts s = accounts_after s ts in
    let long : length (after s ts) ≡ 2 * accounts s = length_after s ts in
    let stays : total (after s ts) ≡ total s = total_after s ts good in
    and_from (nat_le 1 (accounts (after s ts)) && length (after s ts) == 2 * accounts (after s ts)) (nat_le (total (after s ts)) 18446744073709551615)
    (and_from (nat_le 1 (accounts (after s ts))) (length (after s ts) == 2 * accounts (after s ts))
    (le-leb 1 (accounts (after s ts)) (omega (arith, same, was.some)))
    (eq-eqb (length (after s ts)) (2 * accounts (after s ts)) (long ∙ ap (λ n. 2 * n) (sym same))))
    (le-leb (total (after s ts)) 18446744073709551615 (omega (arith, stays, was.fits)))

-- ---- no transfer twice

-- each sequence is one that its sender hadn't used
unused : (s : List ℕ) (before ts : List Transfer) → are_good s before ts ≡ true → All (λ u. next_in s u.from + sendings u.from before ≤ u.sequence) ts
unfolding sequence
unused s before [] good = All-nil (λ u. next_in s u.from + sendings u.from before ≤ u.sequence)
unused s before (t ∷ ts) good =
    let here = (facts_of s before t (good_head s before t ts good)).in_turn in
    All-cons (λ u. next_in s u.from + sendings u.from before ≤ u.sequence) t ts (omega (arith, here))
    (λ k d below.
    let later = unused s (before ++ t ∷ []) ts (good_tail s before t ts good) k d below in
    let more = sendings_append (get_or ts k d).from before (t ∷ []) in
    omega (arith, later, more))

-- a sender's sequences rise
used : (s : List ℕ) (before : List Transfer) (t : Transfer) → is_good s before t ≡ true → next_in s t.from + sendings t.from (before ++ t ∷ []) ≡ t.sequence + 1
unfolding sequence
used s before t good =
    let itself : part (λ t. t.from) (λ t. 1) t.from t ≡ 1 = ap (λ b. cond b 1 0) (eq-eqb t.from t.from refl) in
    omega (arith, (facts_of s before t good).in_turn, sum_by_push (part (λ t. t.from) (λ t. 1) t.from) before t, itself)

pub all_differ : (s : List ℕ) (before ts : List Transfer) → are_good s before ts ≡ true → AllPairs (λ t u. IsTwice t u → ⊥) ts
all_differ s before [] good = λ i j d early below. absurd (omega arith)
all_differ s before (t ∷ ts) good =
    AllPairs-cons (λ t u. IsTwice t u → ⊥) t ts
    (λ k d below twice.
    let u : Transfer = get_or ts k d in
    let later : next_in s u.from + sendings u.from (before ++ t ∷ []) ≤ u.sequence = unused s (before ++ t ∷ []) ts (good_tail s before t ts good) k d below in
    let again : next_in s t.from + sendings t.from (before ++ t ∷ []) ≤ u.sequence =
    subst (λ (a : ℕ). next_in s a + sendings a (before ++ t ∷ []) ≤ u.sequence) (sym twice.0) later in
    omega (arith, again, used s before t (good_head s before t ts good), twice.1))
    (all_differ s (before ++ t ∷ []) ts (good_tail s before t ts good))
