-- Lemmas on a reply: what it leaves of what is kept of a poll.
use Rattle.std.proofs.Common.{◌≡◌, ℕ, ◌+◌, ◌≤◌, Bool, true, false, not, nat_le, nat_lt, ◌==◌, ◌&&◌, ◌||◌, List, [], ◌∷◌, ◌++◌, length, filter, sum_by, bytes_eq, if◌then◌else◌, is_some, All, Option, None, Some, refl, sym, ap, ◌∙◌, arith, inl, inr}
use Rattle.std.proofs.lemmas.Bool.{true≢false, cases_Bool, or_cases, and_parts, cond-true, not-true}
use Rattle.std.proofs.lemmas.List.{length-append}
use Rattle.std.proofs.lemmas.List.Elements.{All-head, All-tail}
use Rattle.std.proofs.lemmas.List.Folds.{list_any-append}
use Rattle.std.proofs.lemmas.List.Sums.{sum_by-cons, sum_by_push, fold-append}
use Rattle.std.proofs.lemmas.Slice.Eq.{bytes_eq-Decides}
use Rattle.snow_base.specs.Model.Votes.{Votes, most_count}
use Rattle.snow_flake.specs.Model.Parameters.{Parameters, AreGood}
use Rattle.snow_sample.specs.declared.draws.Draw.{Draw}
use Rattle.snow_poll.specs.declared.poll.Reply.{Reply}
use Rattle.snow_poll.specs.Model.Poll.{Poll, times_drawn, is_drawn, has_replied, awaits, with_reply, given, votes_of, received, unanswered, outstanding}
use Rattle.snow_poll.specs.Model.Closing.{some_has, has_preference_alone, is_closed}
use Rattle.snow_poll.specs.Kept.Tallied.{awaited_times, closes_by, IsKept}
use Rattle.snow_poll.proofs.Counting.{weight, some_most}

-- ---- nodes

-- a test is not both
clash : {P : Type 0} (b : Bool) → b ≡ true → b ≡ false → P
clash b s t = absurd (true≢false (sym s ∙ t))

-- two nodes that are found equal have replied alike
replied_alike : (replies : List Reply) (a b : List ℕ) → bytes_eq a b ≡ true → has_replied replies a ≡ has_replied replies b
replied_alike replies a b same = ap (has_replied replies) ((bytes_eq-Decides a b).0 same)

-- nodes are found equal both ways round
same_back : (a b : List ℕ) → bytes_eq a b ≡ bytes_eq b a
same_back a b =
    elim (cases_Bool (bytes_eq a b)) [
      | inl s ↦ s ∙ sym ((bytes_eq-Decides b a).1 (sym ((bytes_eq-Decides a b).0 s)))
      | inr s ↦ elim (cases_Bool (bytes_eq b a)) [
        | inl t ↦ clash (bytes_eq a b) ((bytes_eq-Decides a b).1 (sym ((bytes_eq-Decides b a).0 t))) s
        | inr t ↦ s ∙ sym t
      ]
    ]

-- after a reply its node has replied too
replied_more : (replies : List Reply) (r : Reply) (node : List ℕ) → has_replied (replies ++ r ∷ []) node ≡ (has_replied replies node || bytes_eq r.node node)
replied_more replies r node = list_any-append (λ (s : Reply). bytes_eq s.node node) replies (r ∷ []) ∙ ap (λ b. has_replied replies node || b) (last (bytes_eq r.node node))
  where
    last : (b : Bool) → (b || false) ≡ b
    last true = refl
    last false = refl

-- ---- what is outstanding

-- a weight of the draws of one node
abbrev of_node : (Draw → ℕ) → List ℕ → Draw → ℕ
of_node w node d = if bytes_eq d.node node then w d else 0

-- the draws whose nodes have not replied
abbrev without_reply : List Reply → List Draw → List Draw
without_reply replies draws = filter (λ d. not (has_replied replies d.node)) draws

-- a weight of the draws without a reply falls, with the reply of a node, by that of the node's draws
fewer : (w : Draw → ℕ) (replies : List Reply) (r : Reply) → has_replied replies r.node ≡ false → (draws : List Draw)
    → sum_by w (without_reply replies draws) ≡ sum_by w (without_reply (replies ++ r ∷ []) draws) + sum_by (of_node w r.node) draws
fewer w replies r new [] = refl
fewer w replies r new (d ∷ draws) =
    let rest = fewer w replies r new draws in
    let more = sum_by-cons (of_node w r.node) d draws in
    let old_rest = without_reply replies draws in
    let new_rest = without_reply (replies ++ r ∷ []) draws in
    let Goal : Bool → Bool → Bool → Type 0 = λ was is own.
    sum_by w (if not was then d ∷ old_rest else old_rest)
    ≡ sum_by w (if not is then d ∷ new_rest else new_rest) + ((if own then w d else 0) + sum_by (of_node w r.node) draws) in
    let kept : Goal false false false = omega (arith, rest, sum_by-cons w d old_rest, sum_by-cons w d new_rest) in
    let gone : Goal false true true = omega (arith, rest, sum_by-cons w d old_rest) in
    let never : Goal true true false = omega (arith, rest) in
    let after = replied_more replies r d.node in
    let one = same_back r.node d.node in
    let all : Goal (has_replied replies d.node) (has_replied (replies ++ r ∷ []) d.node) (bytes_eq d.node r.node) =
    elim (cases_Bool (bytes_eq d.node r.node)) [
      | inl own ↦ elim (cases_Bool (has_replied replies d.node)) [
        | inl was ↦ clash (has_replied replies r.node) (sym (replied_alike replies d.node r.node own) ∙ was) new
        | inr was ↦ rw (after, one, was, own) gone
      ]
      | inr own ↦ elim (cases_Bool (has_replied replies d.node)) [
        | inl was ↦ rw (after, was, own) never
        | inr was ↦ rw (after, one, was, own) kept
      ]
    ] in
    all ∙ ap (λ n. sum_by w (without_reply (replies ++ r ∷ []) (d ∷ draws)) + n) (sym more)

-- the draws of a node that was drawn weigh something
drawn_some : (w : Draw → ℕ) (node : List ℕ) (draws : List Draw) → All (λ d. 1 ≤ w d) draws → is_drawn draws node ≡ true → 1 ≤ sum_by (of_node w node) draws
drawn_some w node [] all drawn = absurd (true≢false (sym drawn))
drawn_some w node (d ∷ draws) all drawn =
    let head = sum_by-cons (of_node w node) d draws in
    elim (or_cases (bytes_eq d.node node) (is_drawn draws node) drawn) [
      | inl here ↦ omega (arith, head, All-head (λ e. 1 ≤ w e) d draws all, cond-true _ (w d) 0 here)
      | inr later ↦ omega (arith, head, drawn_some w node draws (All-tail (λ e. 1 ≤ w e) d draws all) later)
    ]

-- ---- numbers

-- a list is as long as its elements weigh, where each weighs one
length_ones : (draws : List Draw) → sum_by (λ (d : Draw). 1) draws ≡ length draws
length_ones [] = refl
length_ones (d ∷ draws) = omega (arith, sum_by-cons (λ (e : Draw). 1) d draws, length_ones draws)

-- what the reply of an awaited node does to the numbers of a poll
pub record Falls (poll : Poll) (node : List ℕ) (id : Option (List ℕ)) : Type 0 where
  pub some : 1 ≤ times_drawn poll.draws node
  pub left : outstanding poll ≡ outstanding (with_reply poll node id) + times_drawn poll.draws node
  pub shorter : length (unanswered (with_reply poll node id)) + 1 ≤ length (unanswered poll)
  pub got : received (with_reply poll node id) ≤ received poll + times_drawn poll.draws node

pub falls : (poll : Poll) (node : List ℕ) (id : Option (List ℕ)) → All (λ d. 1 ≤ d.count) poll.draws → awaits poll node ≡ true → Falls poll node id
falls poll node id counts awaited =
    let parts = and_parts (is_drawn poll.draws node) (not (has_replied poll.replies node)) awaited in
    let new : has_replied poll.replies node ≡ false = not-true _ parts.1 in
    let r : Reply = record { node = node; id = id } in
    let ones : Draw → ℕ = λ d. 1 in
    let fall = fewer ones poll.replies r new poll.draws in
    let some = drawn_some ones node poll.draws (λ k d h. omega arith) parts.0 in
    record {
      some = drawn_some (λ d. d.count) node poll.draws counts parts.0;
      left = fewer (λ d. d.count) poll.replies r new poll.draws;
      shorter = omega (arith, fall, some, length_ones (unanswered poll), length_ones (unanswered (with_reply poll node id)));
      got = omega (arith, sum_by_push (weight poll.draws) poll.replies r, lighter id);
    }
  where
    lighter : (id : Option (List ℕ)) → (if is_some id then times_drawn poll.draws node else 0) ≤ times_drawn poll.draws node
    lighter None = omega arith
    lighter (Some id) = omega arith

-- ---- what is kept

-- the votes follow reply by reply
pub votes_more : (poll : Poll) (node : List ℕ) (id : Option (List ℕ)) → votes_of (with_reply poll node id) ≡ given (votes_of poll) id (times_drawn poll.draws node)
votes_more poll node id = fold-append (λ votes (r : Reply). given votes r.id (times_drawn poll.draws r.node)) [] poll.replies (record { node = node; id = id } ∷ [])

-- the node that replied is no longer awaited, and all others are as before
pub awaited_less : (poll : Poll) (node : List ℕ) (id : Option (List ℕ)) (other : List ℕ)
    → awaited_times (with_reply poll node id) other ≡ (if bytes_eq node other then None else awaited_times poll other)
awaited_less poll node id other =
    ap (λ b. if is_drawn poll.draws other && not b then Some (times_drawn poll.draws other) else None) (replied_more poll.replies (record { node = node; id = id }) other)
    ∙ each (is_drawn poll.draws other) (has_replied poll.replies other) (bytes_eq node other) (Some (times_drawn poll.draws other))
  where
    each : (drawn was is : Bool) (o : Option ℕ) → (if drawn && not (was || is) then o else None) ≡ (if is then None else (if drawn && not was then o else None))
    each true true true o = refl
    each true true false o = refl
    each true false true o = refl
    each true false false o = refl
    each false was true o = refl
    each false was false o = refl

-- a node whose entry is taken out is awaited, and the entry says how often it was drawn
pub taken_some : (poll : Poll) (node : List ℕ) (waiting : List ℕ → Option ℕ) (found : Option ℕ) (times : ℕ)
    → ((other : List ℕ) → waiting other ≡ awaited_times poll other) → found ≡ waiting node → found ≡ Some times
    → (awaits poll node ≡ true) × (times ≡ times_drawn poll.draws node)
taken_some poll node waiting found times has is some =
    elim (awaits poll node) as (λ b. (if b then Some (times_drawn poll.draws node) else None) ≡ Some times → (b ≡ true) × (times ≡ times_drawn poll.draws node)) [
      | true ↦ λ e. (refl, cc)
      | false ↦ λ e. absurd (cc)
    ] (sym (is ∙ has node) ∙ some)

-- a node without an entry isn't awaited
pub taken_none : (poll : Poll) (node : List ℕ) (waiting : List ℕ → Option ℕ) (found : Option ℕ)
    → ((other : List ℕ) → waiting other ≡ awaited_times poll other) → found ≡ waiting node → found ≡ None → awaits poll node ≡ false
taken_none poll node waiting found has is none =
    elim (awaits poll node) as (λ b. (if b then Some (times_drawn poll.draws node) else None) ≡ None → b ≡ false) [
      | true ↦ λ e. absurd (cc)
      | false ↦ λ e. refl
    ] (sym (is ∙ has node) ∙ none)

-- what is kept after a reply
pub kept_more : (poll : Poll) (node : List ℕ) (id : Option (List ℕ)) (waiting less : List ℕ → Option ℕ) (bag more : Votes) (greatest most to_come left room : ℕ)
    → IsKept poll waiting bag greatest to_come room → awaits poll node ≡ true
    → ((other : List ℕ) → less other ≡ (if bytes_eq node other then None else waiting other))
    → more.list ≡ given bag.list id (times_drawn poll.draws node) → most ≡ most_count more.list → bag.room ≤ more.room + 1
    → to_come ≡ left + times_drawn poll.draws node
    → IsKept (with_reply poll node id) less more most left room
kept_more poll node id waiting less bag more greatest most to_come left room kept awaited updated votes is_most places fall =
    let numbers = falls poll node id kept.counts awaited in
    let now = votes ∙ ap (λ l. given l id (times_drawn poll.draws node)) kept.votes ∙ sym (votes_more poll node id) in
    record {
      awaited = λ other. updated other ∙ ap (λ o. if bytes_eq node other then None else o) (kept.awaited other) ∙ sym (awaited_less poll node id other);
      votes = now;
      most = is_most ∙ ap most_count now;
      left = omega (arith, fall, kept.left, numbers.left);
      within = omega (arith, kept.within, numbers.got, numbers.left);
      small = kept.small;
      counts = kept.counts;
      places = omega (arith, kept.places, numbers.shorter, places);
      replies_fit = omega (arith, kept.replies_fit, numbers.shorter, length-append poll.replies ((record { node = node; id = id }) ∷ []));
    }

-- ---- whether it is closed

-- the numbers that are kept tell whether the poll is closed
pub closes : (p : Parameters) (poll : Poll) (most : ℕ) → AreGood p → most ≡ most_count (votes_of poll)
    → closes_by p (received poll + outstanding poll) (outstanding poll) most ≡ is_closed p poll
closes p poll most good is =
    let preferred : some_has p.alpha_preference poll ≡ nat_le p.alpha_preference most =
    some_most p.alpha_preference (votes_of poll) (omega (arith, good.majority)) ∙ ap (nat_le p.alpha_preference) (sym is) in
    let sure : some_has p.alpha_confidence poll ≡ nat_le p.alpha_confidence most =
    some_most p.alpha_confidence (votes_of poll) (omega (arith, good.majority, good.in_order)) ∙ ap (nat_le p.alpha_confidence) (sym is) in
    let reach = received poll + outstanding poll in
    ap (λ b. (outstanding poll == 0) || (nat_lt reach p.alpha_preference || ((b && nat_lt reach p.alpha_confidence) || nat_le p.alpha_confidence most))) (sym preferred)
    ∙ ap (λ b. (outstanding poll == 0) || (nat_lt reach p.alpha_preference || (has_preference_alone p poll || b))) (sym sure)
