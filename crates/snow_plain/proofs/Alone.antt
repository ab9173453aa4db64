-- Lemmas on the counters of an only child: one instance at each of its bits.
use Rattle.std.proofs.Common.{◌≡◌, ℕ, ◌≤◌, Bool, true, false, List, [], ◌∷◌, length, drop, slice_index_or, bytes_eq, Option, Some, None, if◌then◌else◌, refl, sym, ap, ◌∙◌, add-zero, arith}
use Rattle.std.specs.Bool.{beq}
use Rattle.std.specs.List.{starts_with}
use Rattle.std.specs.Option.{option_map, option_map_or}
use Rattle.std.specs.Ordering.{bool_cmp, is_eq}
use Rattle.std.specs.Cmp.Lexicographic.{pointwise, lists_ties}
use Rattle.std.proofs.lemmas.List.Sums.{sum_by-cons}
use Rattle.snow_base.specs.declared.block.Vote.{Vote}
use Rattle.snow_base.specs.Model.Identifier.{bit, bits, bit_cmp}
use Rattle.snow_base.proofs.Bits.{length-bits, drop-bits}
use Rattle.snow_flake.specs.Model.Parameters.{Parameters}
use Rattle.snow_flake.specs.Model.Counter.{Counter, fresh, stepped, admits}
use Rattle.snow_flake.specs.Kept.Instance.{Single, at_bit, polled, on_side, counter_of}
use Rattle.snow_flake.specs.Model.Rule.{Answer, answer_of}
use Rattle.snow_plain.specs.declared.only_child.OnlyChild.{OnlyChild}
use Rattle.snow_board.specs.Model.Conflict.{Counters, Blank, At, with_child, all_polled, votes_on, chosen, decided_path, leads_to, decides}
use Rattle.snow_board.specs.Kept.Walk.{depth}
use Rattle.snow_plain.specs.Kept.Alone.{linked, lined, filled, IsReserve, is_blank, along, AreFor}
use Rattle.snow_board.proofs.Cases.{split_on, same_id}
use Rattle.snow_board.proofs.Pruning.{instance_stepped}

-- ---- one instance

-- its own bit is possible
own_bit : (s : Single) (b : Bool) → admits (counter_of (at_bit s b)) b ≡ true
own_bit s true = split_on s.final (λ t. rw t refl) (λ t. rw t refl)
own_bit s false = split_on s.final (λ t. rw t refl) (λ t. rw t refl)

-- and is the answer
own_answer : (answer : Answer) (s : Single) (b : Bool) → ((x : Bool) → answer x x ≡ x) → answer_of answer (counter_of (at_bit s b)) ≡ b
own_answer answer s b agrees = split_on s.final (λ t. rw t refl) (λ t. rw t (agrees b))

-- ---- a poll

-- what isn't there stays so
blank_side : (p : Parameters) (votes : List Bool → ℕ) (x : Bool) → (if x then all_polled p votes Blank else Blank) ≡ Blank
unfolding all_polled
blank_side p votes true = refl
blank_side p votes false = refl

-- a counter with all below it on one side
polled_linked : (p : Parameters) (votes : List Bool → ℕ) (b : Bool) (c : Counter) (below : Counters)
    → admits (stepped p c (votes (false ∷ [])) (votes (true ∷ []))) b ≡ true
    → all_polled p votes (linked b c below)
    ≡ linked b (stepped p c (votes (false ∷ [])) (votes (true ∷ []))) (all_polled p (λ front. votes (b ∷ front)) below)
unfolding all_polled
polled_linked p votes true c below h =
    let next = stepped p c (votes (false ∷ [])) (votes (true ∷ [])) in
    rw h (λ i. At next (blank_side p (λ front. votes (false ∷ front)) (admits next false) i) (all_polled p (λ front. votes (true ∷ front)) below))
polled_linked p votes false c below h =
    let next = stepped p c (votes (false ∷ [])) (votes (true ∷ [])) in
    rw h (λ i. At next (all_polled p (λ front. votes (false ∷ front)) below) (blank_side p (λ front. votes (true ∷ front)) (admits next true) i))

-- the bit step of the instance, whichever its bit is
abbrev pub IsStep : Parameters → ℕ → Single → Single → Type 0
IsStep p n s t = (b : Bool) → at_bit t b ≡ polled p (at_bit s b) (on_side false n b) (on_side true n b)

-- is that of its counter
step_of : (p : Parameters) (n : ℕ) (s t : Single) (b : Bool) → IsStep p n s t
    → stepped p (counter_of (at_bit s b)) (on_side false n b) (on_side true n b) ≡ counter_of (at_bit t b)
step_of p n s t b h =
    sym (instance_stepped p (at_bit s b).standing s.final (on_side false n b) (on_side true n b)) ∙ ap counter_of (sym (h b))

-- so it is the step of all counters at once
polled_lined : (p : Parameters) (n : ℕ) (s t : Single) (path : List Bool) → IsStep p n s t → all_polled p (along path n) (lined s path) ≡ lined t path
unfolding all_polled lined
polled_lined p n s t [] h = refl
polled_lined p n s t (true ∷ rest) h =
    let step : stepped p (counter_of (at_bit s true)) 0 n ≡ counter_of (at_bit t true) = step_of p n s t true h in
    polled_linked p (along (true ∷ rest) n) true (counter_of (at_bit s true)) (lined s rest) (ap (λ c. admits c true) step ∙ own_bit t true)
    ∙ (λ i. linked true (step i) (polled_lined p n s t rest h i))
polled_lined p n s t (false ∷ rest) h =
    let step : stepped p (counter_of (at_bit s false)) n 0 ≡ counter_of (at_bit t false) = step_of p n s t false h in
    polled_linked p (along (false ∷ rest) n) false (counter_of (at_bit s false)) (lined s rest) (ap (λ c. admits c false) step ∙ own_bit t false)
    ∙ (λ i. linked false (step i) (polled_lined p n s t rest h i))

-- with votes that are for the child alone
pub polled_alone : (p : Parameters) (n : ℕ) (s t : Single) (child : List ℕ) (votes : List Vote) → AreFor votes child n → IsStep p n s t
    → lined t (bits child) ≡ all_polled p (votes_on votes) (lined s (bits child))
polled_alone p n s t child votes are h =
    sym ((λ i. all_polled p (λ front. are front i) (lined s (bits child))) ∙ polled_lined p n s t (bits child) h)

-- and those for one are for it
pub one_for : (v : Vote) (child : List ℕ) → bytes_eq v.id child ≡ true → AreFor (v ∷ []) child v.count
one_for v child e front =
    sum_by-cons (λ w. if starts_with beq (bits w.id) front then w.count else 0) v []
    ∙ add-zero _
    ∙ ap (λ id. if starts_with beq (bits id) front then v.count else 0) (same_id v.id child e)

-- a list of one vote
pub only_vote : (votes : List Vote) (v : Vote) → length votes ≡ 1 → v ≡ slice_index_or votes 0 v → votes ≡ v ∷ []
only_vote [] v h e = absurd (omega arith)
only_vote (w ∷ []) v h e = ap (λ x. x ∷ []) (sym e)
only_vote (w ∷ (x ∷ votes)) v h e = absurd (omega arith)

-- ---- answers

-- bits are the same where bit order finds no difference
pub same_bits : (a b : List ℕ) → is_eq (bit_cmp a b) ≡ pointwise beq (bits a) (bits b)
same_bits a b = sym (lists_ties bool_cmp tied (bits a) (bits b))
  where
    tied : (x y : Bool) → beq x y ≡ is_eq (bool_cmp x y)
    tied true true = refl
    tied true false = refl
    tied false true = refl
    tied false false = refl

chosen_lined : (answer : Answer) (s : Single) (path : List Bool) → ((x : Bool) → answer x x ≡ x) → chosen answer (lined s path) ≡ path
unfolding chosen lined
chosen_lined answer s [] agrees = refl
chosen_lined answer s (true ∷ rest) agrees = rw (own_answer answer s true agrees) (ap (λ l. true ∷ l) (chosen_lined answer s rest agrees))
chosen_lined answer s (false ∷ rest) agrees = rw (own_answer answer s false agrees) (ap (λ l. false ∷ l) (chosen_lined answer s rest agrees))

-- the counters lead to the child
pub leads_alone : (answer : Answer) (s : Single) (child id : List ℕ) → ((x : Bool) → answer x x ≡ x)
    → leads_to answer (lined s (bits child)) id ≡ pointwise beq (bits child) (bits id)
leads_alone answer s child id agrees = ap (λ path. pointwise beq path (bits id)) (chosen_lined answer s (bits child) agrees)

final_path : (s : Single) (path : List Bool) → s.final ≡ true → decided_path (lined s path) ≡ Some path
unfolding decided_path lined
final_path s [] h = refl
final_path s (true ∷ rest) h = rw h (ap (option_map (λ l. true ∷ l)) (final_path s rest h))
final_path s (false ∷ rest) h = rw h (ap (option_map (λ l. false ∷ l)) (final_path s rest h))

open_path : (s : Single) (b : Bool) (rest : List Bool) → s.final ≡ false → decided_path (lined s (b ∷ rest)) ≡ None
unfolding decided_path lined
open_path s true rest h = rw h refl
open_path s false rest h = rw h refl

-- whether a path is that of an identifier
abbrev is_path_of : List ℕ → Option (List Bool) → Bool
is_path_of id o = option_map_or (λ path. pointwise beq path (bits id)) o false

-- they are decided where the instance is final
pub decides_final : (s : Single) (child id : List ℕ) → s.final ≡ true → decides (lined s (bits child)) id ≡ pointwise beq (bits child) (bits id)
decides_final s child id h = ap (is_path_of id) (final_path s (bits child) h)

-- and else not
pub decides_open : (s : Single) (child id : List ℕ) → s.final ≡ false → decides (lined s (bits child)) id ≡ false
decides_open s child id h =
    ap (λ path. is_path_of id (decided_path (lined s path))) (drop-bits child 0 (omega arith))
    ∙ ap (is_path_of id) (open_path s (bit child 0) (drop 1 (bits child)) h)

-- ---- the tree beside an only child

-- at an issue both are the same
pub fresh_lined : (s : Single) (path : List Bool) → ((b : Bool) → counter_of (at_bit s b) ≡ fresh b) → lined s path ≡ with_child path Blank
unfolding with_child lined
fresh_lined s [] h = refl
fresh_lined s (true ∷ rest) h = λ i. At (h true i) Blank (fresh_lined s rest h i)
fresh_lined s (false ∷ rest) h = λ i. At (h false i) (fresh_lined s rest h i) Blank

filled_fresh : (s : Single) (path : List Bool) → filled s (with_child path Blank) ≡ lined s path
unfolding with_child lined filled
filled_fresh s [] = refl
filled_fresh s (true ∷ rest) = ap (At (counter_of (at_bit s true)) Blank) (filled_fresh s rest)
filled_fresh s (false ∷ rest) = ap (λ below. At (counter_of (at_bit s false)) below Blank) (filled_fresh s rest)

-- and the tree takes the counters over
pub filled_reserve : (only_child : OnlyChild) (counters : Counters) → IsReserve (Some only_child) counters → filled only_child.counter counters ≡ lined only_child.counter (bits only_child.child)
filled_reserve only_child counters h = ap (filled only_child.counter) h ∙ filled_fresh only_child.counter (bits only_child.child)

depth_lined : (s : Single) (path : List Bool) → depth (lined s path) ≤ length path
unfolding lined
depth_lined s [] = omega arith
depth_lined s (true ∷ rest) = let below = depth_lined s rest in omega arith
depth_lined s (false ∷ rest) = let below = depth_lined s rest in omega arith

-- no deeper than the bits
pub depth_alone : (s : Single) (child : List ℕ) → depth (lined s (bits child)) ≤ 256
depth_alone s child = omega (arith, depth_lined s (bits child), length-bits child)

-- a conflict without counters
pub blank_is : (counters : Counters) → is_blank counters ≡ true → counters ≡ Blank
blank_is Blank h = refl
blank_is (At c z o) h = cc
