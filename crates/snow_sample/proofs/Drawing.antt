-- Lemmas on drawing: what positions later draws look at, and how one draw more goes on.
use Rattle.std.proofs.Common.{◌≡◌, ℕ, zero, suc, ◌+◌, ◌-◌, ◌<◌, ◌≤◌, cond, List, [], ◌∷◌, length, None, Some, Option, Result, Ok, Err, map, fold, ◌==◌, refl, sym, ap, ◌∙◌, subst, arith, inl, inr}
use Rattle.std.specs.Option.{option_and_then}
use Rattle.std.proofs.lemmas.Bool.{cases_eq, cond-true, cond-false, cond_both, eq-eqb, ne_eqb, le-ltb}
use Rattle.snow_sample.specs.declared.draws.Draw.{Draw}
use Rattle.snow_sample.specs.declared.roster.Node.{Node}
use Rattle.snow_sample.specs.declared.sampling.SampleFault.{SampleFault}
use Rattle.snow_sample.specs.declared.sampling.SampleFault.TheVariants.{WordsOut}
use Rattle.snow_sample.specs.Model.Roster.{total_weight, owner}
use Rattle.snow_sample.specs.Model.Words.{choice, IsRest}
use Rattle.snow_sample.specs.Model.Sampling.{swapped, with_unit, drawn_from, drawn, counted, or_out, sample_of, draw_count, AreOfDistinctNodes}
use Rattle.snow_sample.proofs.Choosing.{rest_whole, rest_rest, choice_fewer}
use Rattle.snow_sample.proofs.Counting.{count_more, distinct_more}

-- ---- positions

-- the unit that a draw gives
pub given : (units : ℕ → ℕ) (j r : ℕ) → swapped units (j + r) j j ≡ units (j + r)
given units j r =
    elim (cases_eq j (j + r)) [
      | inl same ↦ cond-true _ (units j) _ (eq-eqb j (j + r) same) ∙ ap units same
      | inr differ ↦ cond-false _ (units j) _ (ne_eqb j (j + r) differ) ∙ cond-true _ (units (j + r)) (units j) (eq-eqb j j refl)
    ]

-- exchanging positions that agree leaves positions that agree
pub swapped_same : (f g : ℕ → ℕ) (i j p : ℕ) → f i ≡ g i → f j ≡ g j → f p ≡ g p → swapped f i j p ≡ swapped g i j p
swapped_same f g i j p at_i at_j at_p =
    ap (λ x. cond (p == i) x (cond (p == j) (f i) (f p))) at_j
    ∙ ap (λ x. cond (p == i) (g j) (cond (p == j) x (f p))) at_i
    ∙ ap (λ x. cond (p == i) (g j) (cond (p == j) (g i) x)) at_p

-- exchanging positions brings no greater unit
swapped_within : (f : ℕ → ℕ) (i j p n : ℕ) → f i < n → f j < n → f p < n → swapped f i j p < n
swapped_within f i j p n at_i at_j at_p =
    cond_both (p == i) (f j) (cond (p == j) (f i) (f p)) (λ x. x < n) (λ is. at_j)
    (λ other. cond_both (p == j) (f i) (f p) (λ x. x < n) (λ is. at_i) (λ other. at_p))

-- a draw, and those after it, once a position is chosen
abbrev pub after_choice : ℕ → ℕ → ℕ → (ℕ → ℕ) → ℕ × List ℕ → Option (List ℕ × List ℕ)
after_choice k total j units (r, left) = with_unit (swapped units (j + r) j j) (drawn_from k total (j + 1) (swapped units (j + r) j) left)

-- a step of the definition
pub drawn_step : (k total j : ℕ) (units : ℕ → ℕ) (words : List ℕ)
    → drawn_from (suc k) total j units words ≡ option_and_then (after_choice k total j units) (choice (total - 1 - j) words)
unfolding drawn_from
drawn_step k total j units words = refl

-- its end
pub drawn_end : (total j : ℕ) (units : ℕ → ℕ) (words : List ℕ) → drawn_from zero total j units words ≡ Some ([], words)
unfolding drawn_from
drawn_end total j units words = refl

-- what stands before a draw doesn't count
pub same_drawn : (k total j : ℕ) (f g : ℕ → ℕ) (words : List ℕ) → ((p : ℕ) → j ≤ p → f p ≡ g p) → drawn_from k total j f words ≡ drawn_from k total j g words
same_drawn zero total j f g words same = drawn_end total j f words ∙ sym (drawn_end total j g words)
same_drawn (suc k) total j f g words same =
    let each : (c : ℕ × List ℕ) → after_choice k total j f c ≡ after_choice k total j g c = λ c.
    let at_i : f (j + c.0) ≡ g (j + c.0) = same (j + c.0) (omega arith) in
    let at_j : f j ≡ g j = same j (omega arith) in
    ap (λ u. with_unit u (drawn_from k total (j + 1) (swapped f (j + c.0) j) c.1)) (swapped_same f g (j + c.0) j j at_i at_j at_j)
    ∙ ap (with_unit (swapped g (j + c.0) j j))
    (same_drawn k total (j + 1) (swapped f (j + c.0) j) (swapped g (j + c.0) j) c.1 (λ p h. swapped_same f g (j + c.0) j p at_i at_j (same p (omega arith)))) in
    drawn_step k total j f words
    ∙ elim (choice (total - 1 - j) words) as (λ o. option_and_then (after_choice k total j f) o ≡ option_and_then (after_choice k total j g) o) [
      | None ↦ refl
      | Some c ↦ each c
    ]
    ∙ sym (drawn_step k total j g words)

-- ---- going on

-- what later draws make of those so far
abbrev pub finished : List Node → List Draw → Option (List ℕ × List ℕ) → Result (List Draw × List ℕ) SampleFault
finished nodes draws None = Err WordsOut
finished nodes draws (Some (units, words)) = Ok (fold counted draws (map (owner nodes) units), words)

-- no draw was made so far
pub from_none : (nodes : List Node) (o : Option (List ℕ × List ℕ)) → finished nodes [] o ≡ or_out nodes o
from_none nodes None = refl
from_none nodes (Some later) = refl

-- a unit in front is one more draw of its node
pub one_more_unit : (nodes : List Node) (draws : List Draw) (unit : ℕ) (o : Option (List ℕ × List ℕ))
    → finished nodes draws (with_unit unit o) ≡ finished nodes (counted draws (owner nodes unit)) o
one_more_unit nodes draws unit None = refl
one_more_unit nodes draws unit (Some later) = refl

-- ---- a sample on its way

-- j of k draws were made: what is still to come makes the sample of the first words, and the draws so far are counted
pub record Drawing (nodes : List Node) (k j : ℕ) (first words : List ℕ) (units : ℕ → ℕ) (draws : List Draw) : Type 0 where
  pub later : finished nodes draws (drawn_from (k - j) (total_weight nodes) j units words) ≡ or_out nodes (drawn k (total_weight nodes) first)
  pub within : (p : ℕ) → j ≤ p → p < total_weight nodes → units p < total_weight nodes
  pub count : draw_count draws ≡ j
  pub distinct : AreOfDistinctNodes draws
  pub rest : IsRest first words

-- no draw was made
pub drawing_begins : (nodes : List Node) (k : ℕ) (words : List ℕ) (units : ℕ → ℕ) → ((p : ℕ) → units p ≡ p) → Drawing nodes k 0 words words units []
drawing_begins nodes k words units own =
    let total = total_weight nodes in
    let whole : k - 0 ≡ k = omega arith in
    record {
      later = ap (λ n. finished nodes [] (drawn_from n total 0 units words)) whole
          ∙ ap (finished nodes []) (same_drawn k total 0 units (λ unit. unit) words (λ p h. own p))
          ∙ from_none nodes (drawn k total words);
      within = λ p low high. rw own high;
      count = refl;
      distinct = λ i j d p q. absurd (omega arith);
      rest = rest_whole words;
    }

-- one draw more
pub drawing_more : (nodes : List Node) (k j r : ℕ) (first words left : List ℕ) (units more : ℕ → ℕ) (draws : List Draw)
    → Drawing nodes k j first words units draws → j < k → k ≤ total_weight nodes
    → choice (total_weight nodes - 1 - j) words ≡ Some (r, left) → r ≤ total_weight nodes - 1 - j → IsRest words left
    → ((p : ℕ) → j < p → more p ≡ swapped units (j + r) j p)
    → Drawing nodes k (j + 1) first left more (counted draws (owner nodes (units (j + r))))
drawing_more nodes k j r first words left units more draws so_far low enough chosen small taken behind =
    let total = total_weight nodes in
    let fewer : k - j ≡ suc (k - (j + 1)) = omega arith in
    let unit : swapped units (j + r) j j ≡ units (j + r) = given units j r in
    let stepped : drawn_from (k - j) total j units words ≡ with_unit (units (j + r)) (drawn_from (k - (j + 1)) total (j + 1) more left) =
    ap (λ n. drawn_from n total j units words) fewer ∙ drawn_step (k - (j + 1)) total j units words
    ∙ ap (option_and_then (after_choice (k - (j + 1)) total j units)) chosen
    ∙ ap (λ u. with_unit u (drawn_from (k - (j + 1)) total (j + 1) (swapped units (j + r) j) left)) unit
    ∙ ap (with_unit (units (j + r))) (sym (same_drawn (k - (j + 1)) total (j + 1) more (swapped units (j + r) j) left (λ p h. behind p (omega arith)))) in
    record {
      later = sym (ap (finished nodes draws) stepped ∙ one_more_unit nodes draws (units (j + r)) _) ∙ so_far.later;
      within = λ p above high. rw (behind p (omega arith))
          (swapped_within units (j + r) j p total (so_far.within (j + r) (omega arith) (omega arith)) (so_far.within j (omega arith) (omega arith)) (so_far.within p (omega arith) high));
      count = count_more draws (owner nodes (units (j + r))) ∙ ap (λ n. n + 1) so_far.count;
      distinct = distinct_more draws (owner nodes (units (j + r))) so_far.distinct;
      rest = rest_rest first words left so_far.rest taken;
    }

-- a word past the last is asked for
pub drawing_fails : (nodes : List Node) (k j : ℕ) (first words : List ℕ) (units : ℕ → ℕ) (draws : List Draw)
    → Drawing nodes k j first words units draws → j < k → k ≤ total_weight nodes → choice (total_weight nodes - 1 - j) words ≡ None
    → sample_of nodes k first ≡ Err WordsOut
drawing_fails nodes k j first words units draws so_far low enough none =
    let total = total_weight nodes in
    let fewer : k - j ≡ suc (k - (j + 1)) = omega arith in
    let stops : drawn_from (k - j) total j units words ≡ None =
    ap (λ n. drawn_from n total j units words) fewer ∙ drawn_step (k - (j + 1)) total j units words
    ∙ ap (option_and_then (after_choice (k - (j + 1)) total j units)) none in
    cond-false _ _ (or_out nodes (drawn k total first)) (le-ltb total k enough) ∙ sym so_far.later ∙ ap (finished nodes draws) stops

-- all draws were made
pub drawing_ends : (nodes : List Node) (k : ℕ) (first words : List ℕ) (units : ℕ → ℕ) (draws : List Draw)
    → Drawing nodes k k first words units draws → k ≤ total_weight nodes → sample_of nodes k first ≡ Ok (draws, words)
drawing_ends nodes k first words units draws done enough =
    let total = total_weight nodes in
    let none : k - k ≡ 0 = omega arith in
    let stops : drawn_from (k - k) total k units words ≡ Some ([], words) =
    ap (λ n. drawn_from n total k units words) none ∙ drawn_end total k units words in
    cond-false _ _ (or_out nodes (drawn k total first)) (le-ltb total k enough) ∙ sym done.later ∙ ap (finished nodes draws) stops

-- ---- one draw

-- a sample of one unit: the one that is chosen, since each stands at its own position
pub record OneDraw (nodes : List Node) (first left : List ℕ) (draws : List Draw) : Type 0 where
  pub sample : sample_of nodes 1 first ≡ Ok (draws, left)
  pub count : draw_count draws ≡ 1
  pub distinct : AreOfDistinctNodes draws

pub one_draw : (nodes : List Node) (r : ℕ) (words left : List ℕ) → 1 ≤ total_weight nodes
    → choice (total_weight nodes - 1) words ≡ Some (r, left) → r ≤ total_weight nodes - 1 → IsRest words left
    → OneDraw nodes words left (record { node = owner nodes r; count = 1 } ∷ [])
one_draw nodes r words left enough chosen small taken =
    let own : ℕ → ℕ = λ p. p in
    let all : total_weight nodes - 1 - 0 ≡ total_weight nodes - 1 = omega arith in
    let begun = drawing_begins nodes 1 words own (λ p. refl) in
    let moved : ℕ → ℕ = swapped own (0 + r) 0 in
    let first : 0 + r ≡ r = omega arith in
    let made : Drawing nodes 1 1 words left moved (counted [] (owner nodes r)) =
    subst (λ u. Drawing nodes 1 1 words left moved (counted [] (owner nodes u))) first
    (drawing_more nodes 1 0 r words words left own moved [] begun (omega arith) enough (rw all chosen) (omega (arith, small)) taken (λ p h. refl)) in
    record { sample = drawing_ends nodes 1 words left moved (counted [] (owner nodes r)) made enough; count = made.count; distinct = made.distinct }

-- there is no word for it
pub one_fails : (nodes : List Node) (words : List ℕ) → 1 ≤ total_weight nodes → choice (total_weight nodes - 1) words ≡ None
    → sample_of nodes 1 words ≡ Err WordsOut
one_fails nodes words enough none =
    let own : ℕ → ℕ = λ p. p in
    let all : total_weight nodes - 1 - 0 ≡ total_weight nodes - 1 = omega arith in
    drawing_fails nodes 1 0 words words own [] (drawing_begins nodes 1 words own (λ p. refl)) (omega arith) enough (rw all none)

-- ---- too few words

-- each draw takes a word
drawn_short : (k total j : ℕ) (units : ℕ → ℕ) (words : List ℕ) → length words < k → drawn_from k total j units words ≡ None
drawn_short zero total j units words few = absurd (omega arith)
drawn_short (suc k) total j units words few =
    drawn_step k total j units words
    ∙ elim (choice (total - 1 - j) words) as (λ o. choice (total - 1 - j) words ≡ o → option_and_then (after_choice k total j units) o ≡ None) [
      | None ↦ λ is. refl
      | Some c ↦ λ is.
          let fewer : length c.1 < length words = choice_fewer (total - 1 - j) c.0 words c.1 is in
          ap (with_unit (swapped units (j + c.0) j j)) (drawn_short k total (j + 1) (swapped units (j + c.0) j) c.1 (omega (arith, fewer)))
    ] refl

-- so where there are fewer words than draws, they run out
pub short_fails : (nodes : List Node) (k : ℕ) (words : List ℕ) → length words < k → k ≤ total_weight nodes → sample_of nodes k words ≡ Err WordsOut
short_fails nodes k words few enough =
    cond-false _ _ (or_out nodes (drawn k (total_weight nodes) words)) (le-ltb (total_weight nodes) k enough)
    ∙ ap (or_out nodes) (drawn_short k (total_weight nodes) 0 (λ unit. unit) words few)
