-- Early closing is exact: what is outstanding in a closed poll moves no list of identifiers to another class.
use Rattle.std.proofs.Common.{◌≡◌, ℕ, ◌+◌, ◌<◌, ◌≤◌, true, false, cond, ◌⊎◌, inl, inr, List, [], ◌∷◌, ◌++◌, bytes_eq, nat_le, if◌then◌else◌, None, Some, refl, sym, ap, ◌∙◌, arith}
use Rattle.std.specs.List.{list_any}
use Rattle.std.proofs.lemmas.Bool.{true≢false, or_cases, and_parts, cond-true, cond-false, lt-ltb, le-ltb, le-leb, lt-leb, ltb-true, leb-true, eqb-true}
use Rattle.std.proofs.lemmas.List.Sums.{sum_by-append, sum_by-cons}
use Rattle.snow_base.specs.declared.block.Vote.{Vote}
use Rattle.snow_base.specs.Model.Votes.{total_count}
use Rattle.snow_flake.specs.Laws.Alike.{votes_for}
use Rattle.snow_flake.specs.Model.Counter.{class, Low, Middle, High}
use Rattle.snow_flake.specs.Model.Parameters.{Parameters, AreGood}
use Rattle.snow_sample.specs.declared.draws.Draw.{Draw}
use Rattle.snow_sample.specs.Model.Sampling.{draw_count}
use Rattle.snow_poll.specs.Model.Poll.{Poll, votes_of, received, unanswered, outstanding}
use Rattle.snow_poll.specs.Model.Closing.{some_has, is_answered, cannot_reach_preference, has_preference_alone, has_confidence, is_closed}
use Rattle.snow_poll.specs.Laws.Completion.{Choice, vote_of, chosen, completed, StandsForAll}
use Rattle.snow_poll.proofs.Counting.{total_received}

-- ---- classes of numbers

is_low : (p : Parameters) (n : ℕ) → n < p.alpha_preference → class p n ≡ Low
is_low p n h = cond-true _ Low (cond (nat_le p.alpha_confidence n) High Middle) (lt-ltb n p.alpha_preference h)

is_middle : (p : Parameters) (n : ℕ) → p.alpha_preference ≤ n → n < p.alpha_confidence → class p n ≡ Middle
is_middle p n h g =
    cond-false _ Low (cond (nat_le p.alpha_confidence n) High Middle) (le-ltb n p.alpha_preference h)
    ∙ cond-false _ High Middle (lt-leb p.alpha_confidence n g)

is_high : (p : Parameters) (n : ℕ) → p.alpha_preference ≤ n → p.alpha_confidence ≤ n → class p n ≡ High
is_high p n h g =
    cond-false _ Low (cond (nat_le p.alpha_confidence n) High Middle) (le-ltb n p.alpha_preference h)
    ∙ cond-true _ High Middle (le-leb p.alpha_confidence n g)

both_low : (p : Parameters) (m n : ℕ) → m < p.alpha_preference → n < p.alpha_preference → class p m ≡ class p n
both_low p m n h g = is_low p m h ∙ sym (is_low p n g)

-- ---- votes on a list of identifiers

-- the votes on the list of one entry
abbrev on_list : List (List ℕ) → Vote → ℕ
on_list ids v = if list_any (λ id. bytes_eq id v.id) ids then v.count else 0

abbrev count : Vote → ℕ
count v = v.count

-- an entry is on the list with all its votes, or with none
whole_or_none : (ids : List (List ℕ)) (v : Vote) → (on_list ids v ≡ v.count) ⊎ (on_list ids v ≡ 0)
whole_or_none ids v =
    elim (list_any (λ id. bytes_eq id v.id) ids) as (λ b. ((if b then v.count else 0) ≡ v.count) ⊎ ((if b then v.count else 0) ≡ 0)) [
      | true ↦ inl refl
      | false ↦ inr refl
    ]

-- they are at most all votes
at_most_all : (ids : List (List ℕ)) (votes : List Vote) → votes_for ids votes ≤ total_count votes
at_most_all ids [] = omega arith
at_most_all ids (v ∷ votes) =
    elim (whole_or_none ids v) [
      | inl is ↦ omega (arith, is, at_most_all ids votes, sum_by-cons (on_list ids) v votes, sum_by-cons count v votes)
      | inr is ↦ omega (arith, is, at_most_all ids votes, sum_by-cons (on_list ids) v votes, sum_by-cons count v votes)
    ]

-- where one identifier has n votes, n are on the list, or n are not
on_or_off : (ids : List (List ℕ)) (n : ℕ) (votes : List Vote) → list_any (λ v. nat_le n v.count) votes ≡ true
    → (n ≤ votes_for ids votes) ⊎ (votes_for ids votes + n ≤ total_count votes)
on_or_off ids n [] has = absurd (true≢false (sym has))
on_or_off ids n (v ∷ votes) has =
    let head = sum_by-cons (on_list ids) v votes in
    let all = sum_by-cons count v votes in
    let few = at_most_all ids votes in
    elim (or_cases (nat_le n v.count) (list_any (λ w. nat_le n w.count) votes) has) [
      | inl here ↦
          let most = leb-true n v.count here in
          elim (whole_or_none ids v) [
            | inl is ↦ inl (omega (arith, is, head, most))
            | inr is ↦ inr (omega (arith, is, head, all, few, most))
          ]
      | inr later ↦
          elim (on_or_off ids n votes later) [
            | inl on ↦ inl (omega (arith, head, on))
            | inr off ↦ elim (whole_or_none ids v) [
              | inl is ↦ inr (omega (arith, is, head, all, off))
              | inr is ↦ inr (omega (arith, is, head, all, off))
            ]
          ]
    ]

-- what is chosen for some draws is at most as many votes as there are draws
chosen_few : (choice : Choice) (draws : List Draw) → total_count (chosen choice draws) ≤ draw_count draws
chosen_few choice [] = omega arith
chosen_few choice (d ∷ draws) =
    let times : Draw → ℕ = λ e. e.count in
    elim (choice d.node) as (λ o. total_count (vote_of d o ++ chosen choice draws) ≤ draw_count (d ∷ draws)) [
      | None ↦ omega (arith, chosen_few choice draws, sum_by-cons times d draws)
      | Some id ↦ omega (arith, chosen_few choice draws, sum_by-cons times d draws, sum_by-cons count (record { id = id; count = d.count }) (chosen choice draws))
    ]

-- ---- the four cases

-- of `got` votes m are on a list, and of at most `left` more n - m: where the poll is closed, m and n are of one class
same_class : (p : Parameters) (poll : Poll) (ids : List (List ℕ)) (n : ℕ) → AreGood p → received poll + outstanding poll ≤ p.k
    → votes_for ids (votes_of poll) ≤ n → n ≤ votes_for ids (votes_of poll) + outstanding poll → is_closed p poll ≡ true
    → class p (votes_for ids (votes_of poll)) ≡ class p n
same_class p poll ids n good few low high closed =
    let votes = votes_of poll in
    let m = votes_for ids votes in
    let majority = good.majority in
    let order = good.in_order in
    let within = at_most_all ids votes in
    let got = total_received poll in
    let sides : (q : ℕ) → some_has q poll ≡ true → (q ≤ m) ⊎ (m + q ≤ total_count votes) = λ q has. on_or_off ids q votes has in
    elim (or_cases (is_answered poll) _ closed) [
      | inl answered ↦ let same : m ≡ n = omega (arith, eqb-true (outstanding poll) 0 answered, low, high) in ap (class p) same
      | inr later ↦ elim (or_cases (cannot_reach_preference p poll) _ later) [
        | inl far ↦
            let reach = ltb-true _ _ far in
            both_low p m n (omega (arith, reach, within, got)) (omega (arith, reach, within, got, high))
        | inr last ↦ elim (or_cases (has_preference_alone p poll) (has_confidence p poll) last) [
          | inl alone ↦
              let parts = and_parts (some_has p.alpha_preference poll) _ alone in
              let reach = ltb-true _ _ parts.1 in
              elim (sides p.alpha_preference parts.0) [
                | inl on ↦ is_middle p m on (omega (arith, reach, within, got)) ∙ sym (is_middle p n (omega (arith, on, low)) (omega (arith, reach, within, got, high)))
                | inr off ↦ both_low p m n (omega (arith, off, got, few, majority)) (omega (arith, off, got, few, majority, high))
              ]
          | inr sure ↦ elim (sides p.alpha_confidence sure) [
            | inl on ↦ is_high p m (omega (arith, on, order)) on ∙ sym (is_high p n (omega (arith, on, order, low)) (omega (arith, on, low)))
            | inr off ↦ both_low p m n (omega (arith, off, got, few, majority, order)) (omega (arith, off, got, few, majority, order, high))
          ]
        ]
      ]
    ]

-- so the votes of a closed poll stand for those of each completion
pub closed_stands : (p : Parameters) (poll : Poll) → AreGood p → received poll + outstanding poll ≤ p.k → is_closed p poll ≡ true
    → StandsForAll p poll (votes_of poll)
closed_stands p poll good few closed choice =
    let votes = votes_of poll in
    let more = chosen choice (unanswered poll) in
    let left : total_count more ≤ outstanding poll = chosen_few choice (unanswered poll) in (
      λ ids.
          let both : votes_for ids (completed poll choice) ≡ votes_for ids votes + votes_for ids more = sum_by-append (on_list ids) votes more in
          let fewer = at_most_all ids more in
          same_class p poll ids (votes_for ids (completed poll choice)) good few (omega (arith, both)) (omega (arith, both, fewer, left)) closed,
      omega (arith, sum_by-append count votes more, left, total_received poll, few),
    )
