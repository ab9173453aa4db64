-- What was judged against the numbers as they are is judged against the first ones and the transfers so far.
use Rattle.std.proofs.Common.{◌≡◌, ℕ, zero, suc, ◌+◌, ◌≤◌, true, false, ◌&&◌, List, [], ◌∷◌, ◌++◌, refl, sym, ap, subst, ◌∙◌, inl, inr, arith}
use Rattle.std.proofs.lemmas.Bool.{and_left, cases_lt}
use Rattle.std.proofs.lemmas.List.{append-nil}
use Rattle.std.proofs.lemmas.List.FromFn.{map-range_with_len_more}
use Rattle.snow_ledger.specs.declared.state.Transfer.{Transfer}
use Rattle.snow_ledger.specs.Model.Blocks.{count_of, transfer_at, first_transfers}
use Rattle.snow_ledger.specs.Model.Ledger.{is_state, after, is_good, are_good}
use Rattle.snow_ledger.proofs.After.{after_after, after_none}
use Rattle.snow_ledger.proofs.Good.{covers_all, good_after, are_good_more, state_facts, state_after}
use Rattle.snow_ledger.proofs.state.move_all.Invariants.{SoFar}
use Rattle.snow_ledger.proofs.state.move_all.Goals as goal

-- one transfer more
next_one : (bytes : List ℕ) (n : ℕ) → first_transfers bytes (n + 1) ≡ first_transfers bytes n ++ transfer_at bytes n ∷ []
next_one bytes n = map-range_with_len_more (transfer_at bytes) 0 n n (omega arith)

-- whether the transfer behind good ones is good in the numbers as they are
judged : (old now : List ℕ) (ts : List Transfer) (t : Transfer) → SoFar old now ts → is_good now [] t ≡ is_good old ts t
judged old now ts t before =
    ap (λ s. is_good s [] t) before.is ∙ good_after old ts [] t (covers_all old ts before.good) ∙ ap (λ l. is_good old l t) (append-nil ts)

good_next : (old now : List ℕ) (ts : List Transfer) (t : Transfer) → SoFar old now ts → are_good old [] (ts ++ t ∷ []) ≡ (is_good now [] t && true)
good_next old now ts t before =
    are_good_more old [] ts (t ∷ []) ∙ ap (λ b. b && (is_good old ts t && true)) before.good
    ∙ ap (λ b. b && true) (sym (judged old now ts t before))

pub more : (old now new : List ℕ) (ts : List Transfer) (t : Transfer) → SoFar old now ts → is_good now [] t ≡ true → new ≡ after now (t ∷ [])
    → SoFar old new (ts ++ t ∷ [])
more old now new ts t before good is = record {
  good = good_next old now ts t before ∙ ap (λ b. b && true) good;
  is = is ∙ ap (λ s. after s (t ∷ [])) before.is ∙ after_after old ts (t ∷ []) (covers_all old ts before.good);
}

-- where one of the first transfers isn't good, not all are
cut_short : (old : List ℕ) (bytes : List ℕ) (k n : ℕ) → k ≤ n → are_good old [] (first_transfers bytes k) ≡ false → are_good old [] (first_transfers bytes n) ≡ false
cut_short old bytes k zero front bad =
    let none : k ≡ 0 = omega arith in
    ap (λ j. are_good old [] (first_transfers bytes j)) (sym none) ∙ bad
cut_short old bytes k (suc n) front bad =
    let next : suc n ≡ n + 1 = omega arith in
    elim (cases_lt k (suc n)) [
      | inl fewer ↦
          ap (λ j. are_good old [] (first_transfers bytes j)) next ∙ ap (are_good old []) (next_one bytes n)
          ∙ are_good_more old [] (first_transfers bytes n) (transfer_at bytes n ∷ [])
          ∙ and_left (are_good old [] (first_transfers bytes n)) (are_good old (first_transfers bytes n) (transfer_at bytes n ∷ []))
          (cut_short old bytes k n (omega arith) bad)
      | inr all ↦
          let same : suc n ≡ k = omega arith in
          ap (λ j. are_good old [] (first_transfers bytes j)) same ∙ bad
    ]

pub loop-place-init : goal.loop-place-init
loop-place-init c = record {
  good = refl;
  is = sym (after_none c.args.state.now (state_facts c.args.state.now c.requires.state).even);
}

pub move_one-requires : goal.move_one-requires
move_one-requires c =
    ap is_state c.loop-place.invariant.is
    ∙ state_after c.args.state.now (first_transfers c.args.bytes.now c.loop-place.place) c.requires.state c.loop-place.invariant.good

pub returns-then-not-move_one-clause-good : goal.returns-then-not-move_one-clause-good
returns-then-not-move_one-clause-good c =
    let bytes = c.args.bytes.now in
    let place = c.loop-place.place in
    let bad : is_good c.loop-place.state [] (transfer_at bytes place) ≡ false = grind (arith, c.transfer_at.ensures, c.move_one.ensures.good) in
    let within : place + 1 ≤ count_of bytes = omega (arith, c.count_of.ensures) in
    sym (cut_short c.args.state.now bytes (place + 1) (count_of bytes) within
    (ap (are_good c.args.state.now []) (next_one bytes place)
    ∙ good_next c.args.state.now c.loop-place.state (first_transfers bytes place) (transfer_at bytes place) c.loop-place.invariant
    ∙ ap (λ b. b && true) bad))

pub loop-place-preserved : goal.loop-place-preserved
loop-place-preserved c =
    let bytes = c.args.bytes.now in
    let place = c.loop-place.place in
    let good : is_good c.loop-place.state [] (transfer_at bytes place) ≡ true = grind (arith, c.transfer_at.ensures, c.move_one.ensures.good) in
    let moved : c.move_one.new.state ≡ after c.loop-place.state (transfer_at bytes place ∷ []) = grind (arith, c.transfer_at.ensures, c.move_one.ensures.good, c.move_one.ensures.after) in
    subst (λ (l : List Transfer). SoFar c.args.state.now c.move_one.new.state l) (sym (next_one bytes place))
    (more c.args.state.now c.loop-place.state c.move_one.new.state (first_transfers bytes place) (transfer_at bytes place) c.loop-place.invariant good moved)
