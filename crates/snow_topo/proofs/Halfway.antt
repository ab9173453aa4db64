-- Lemmas on a poll on its way over the pending blocks.
use Rattle.std.proofs.Common.{◌≡◌, ℕ, ◌+◌, ◌<◌, ◌≤◌, Bool, List, length, get_or, reverse, All, Option, Some, None, slice_get, refl, sym, ap, subst, ◌∙◌, arith}
use Rattle.std.specs.Option.{option_map}
use Rattle.std.proofs.lemmas.List.{get_or-map, length-map}
use Rattle.std.proofs.lemmas.Option.{slice_get-map, slice_get_within, get_or_from_slice_get}
use Rattle.snow_base.specs.declared.block.Header.{Header}
use Rattle.snow_base.specs.declared.block.Vote.{Vote}
use Rattle.snow_base.specs.Model.Ancestry.{votes_below}
use Rattle.snow_flake.specs.Model.Parameters.{Parameters, AreGood}
use Rattle.snow_board.specs.declared.cursor.Cursor.{Cursor}
use Rattle.snow_board.specs.Kept.Grown.{IsGrown}
use Rattle.snow_board.proofs.Failing.{few_fail}
use Rattle.snow_tree.specs.Kept.Held.{Entry, blocks_in, children_of}
use Rattle.snow_topo.specs.Kept.Children.{Kept, shown, IsFit}
use Rattle.snow_topo.specs.Kept.View.{pending_of, all_pending}
use Rattle.snow_climb.specs.Kept.Climbing.{reach, AreBelow, votes_for}
use Rattle.snow_topo.specs.Kept.Half.{stepped_by, IsHalf}
use Rattle.snow_climb.specs.Kept.Rising.{AreClimbing}
use Rattle.snow_topo.proofs.Stamped.{later}
use Rattle.snow_climb.proofs.Reached.{reach_at}
use Rattle.snow_climb.proofs.Passed.{halves, unsought}

-- a block that gets few votes, and whose tree records none, shows what it is to show
pub quiet : (p : Parameters) (polls : ℕ) (bs : List Header) (votes : List Vote) (e : Entry Kept) → AreGood p → e.load.recorded ≤ polls
    → ((front : List Bool) → votes_below bs votes e.block.id front < p.alpha_preference)
    → pending_of p (polls + 1) e ≡ stepped_by p bs votes (pending_of p polls e)
quiet p polls bs votes e good past few =
    let counters = later p polls e.load good past ∙ sym (few_fail p (votes_below bs votes e.block.id) (shown p polls e.load) few) in
    λ i. record { block = e.block; counters = counters i }

-- the half that is done grows down to where the next votes look
pub sunk : (p : Parameters) (polls : ℕ) (votes : List Vote) (last : List ℕ) (first now : List (Entry Kept)) (top m : ℕ) (cs : List Cursor) → AreGood p
    → IsGrown last (reverse (blocks_in first)) → All (λ e. IsFit p polls (children_of (blocks_in first) e.block.id) e.load) first
    → IsHalf p polls votes first now top → AreClimbing p votes (blocks_in first) top cs → AreBelow (blocks_in first) m cs → m ≤ top
    → IsHalf p polls votes first now m
sunk p polls votes last first now top m cs good g fits half climbing below less =
    let bs = blocks_in first in
    let done : (j : ℕ) (e : Entry Kept) → m ≤ j → j < top → slice_get first j ≡ Some e → pending_of p (polls + 1) e ≡ stepped_by p bs votes (pending_of p polls e) =
    λ j e low high there.
    let inside : j < length first = slice_get_within first j e there in
    let within : j < length bs = subst (λ n. j < n) (sym (length-map first (λ x. x.block))) inside in
    let here : get_or first j e ≡ e = get_or_from_slice_get first j e e there in
    let block : get_or bs j e.block ≡ e.block = get_or-map (λ x. x.block) first j e e.block inside ∙ ap (λ x. x.block) here in
    let fit = subst (λ (x : Entry Kept). IsFit p polls (children_of bs x.block.id) x.load) here (fits j e inside) in
    let none : (front : List Bool) → votes_below bs votes e.block.id front ≡ 0 =
    λ front.
    let zero_votes = unsought last bs j e.block front cs g within (λ k d l. omega (arith, below k d l, low)) in
    let at : reach bs e.block.id ≡ j + 1 = ap (λ (b : Header). reach bs b.id) (sym block) ∙ reach_at last bs j e.block g within in
    sym (climbing.counted e.block.id front (omega (arith, at, high))) ∙ ap (λ (b : Header). votes_for bs cs b.id front) (sym block) ∙ zero_votes
    in
    quiet p polls bs votes e good fit.past (λ front. omega (arith, none front, good.majority))
    in
    let each : (j : ℕ) (o : Option (Entry Kept)) → m ≤ j → j < top → slice_get first j ≡ o
    → option_map (pending_of p (polls + 1)) o ≡ option_map (stepped_by p bs votes) (option_map (pending_of p polls) o) =
    λ j o low high. by_entry j o (done j) low high
    in
    record {
      low = λ j l. half.low j (omega (arith, l, less));
      high = λ j l.
          halves j top
          (λ t. slice_get-map (pending_of p (polls + 1)) now j ∙ ap (option_map (pending_of p (polls + 1))) (half.low j t)
          ∙ each j (slice_get first j) l t refl
          ∙ ap (option_map (stepped_by p bs votes)) (sym (slice_get-map (pending_of p polls) first j)))
          (half.high j);
      fit = λ j e l there.
          halves j top
          (λ t.
          let same : slice_get first j ≡ Some e = sym (half.low j t) ∙ there in
          let fit = subst (λ (x : Entry Kept). IsFit p polls (children_of bs x.block.id) x.load) (get_or_from_slice_get first j e e same) (fits j e (slice_get_within first j e same)) in
          record { past = omega (arith, fit.past); parameters = fit.parameters; ids = fit.ids })
          (λ t. half.fit j e t there);
    }
  where
    by_entry : (j : ℕ) (o : Option (Entry Kept))
        → ((e : Entry Kept) → m ≤ j → j < top → slice_get first j ≡ Some e → pending_of p (polls + 1) e ≡ stepped_by p (blocks_in first) votes (pending_of p polls e))
        → m ≤ j → j < top → slice_get first j ≡ o
        → option_map (pending_of p (polls + 1)) o ≡ option_map (stepped_by p (blocks_in first) votes) (option_map (pending_of p polls) o)
    by_entry j None done low high is = refl
    by_entry j (Some e) done low high is = ap Some (done e low high is)

-- the block at a place was visited
pub visited : (p : Parameters) (polls : ℕ) (votes : List Vote) (first now next : List (Entry Kept)) (at : ℕ) (e : Entry Kept) (load : Kept)
    → IsHalf p polls votes first now (at + 1) → slice_get first at ≡ Some e
    → slice_get next at ≡ Some (record e { load = load }) → ((j : ℕ) → (j ≡ at → ⊥) → slice_get next j ≡ slice_get now j)
    → pending_of p (polls + 1) (record e { load = load }) ≡ stepped_by p (blocks_in first) votes (pending_of p polls e)
    → IsFit p (polls + 1) (children_of (blocks_in first) e.block.id) load
    → IsHalf p polls votes first next at
visited p polls votes first now next at e load half there here others shows fits =
    record {
      low = λ j l. others j (λ same. omega (arith, l, same)) ∙ half.low j (omega (arith, l));
      high = λ j l.
          halves at j
          (λ t. slice_get-map (pending_of p (polls + 1)) next j ∙ ap (option_map (pending_of p (polls + 1))) (others j (λ same. omega (arith, t, same)))
          ∙ sym (slice_get-map (pending_of p (polls + 1)) now j) ∙ half.high j (omega (arith, t)))
          (λ t. let same : at ≡ j = omega (arith, l, t) in
          subst (λ k. slice_get (all_pending p (polls + 1) next) k ≡ option_map (stepped_by p (blocks_in first) votes) (slice_get (all_pending p polls first) k)) same
          (slice_get-map (pending_of p (polls + 1)) next at ∙ ap (option_map (pending_of p (polls + 1))) here ∙ ap Some shows
          ∙ sym (ap (option_map (stepped_by p (blocks_in first) votes)) (slice_get-map (pending_of p polls) first at ∙ ap (option_map (pending_of p polls)) there))));
      fit = λ j x l is.
          halves at j
          (λ t. half.fit j x (omega (arith, t)) (sym (others j (λ same. omega (arith, t, same))) ∙ is))
          (λ t. let same : at ≡ j = omega (arith, l, t) in
          let own : record e { load = load } ≡ x = some_same (sym here ∙ ap (slice_get next) same ∙ is) in
          subst (λ (y : Entry Kept). IsFit p (polls + 1) (children_of (blocks_in first) y.block.id) y.load) own fits);
    }
  where
    some_same : {x y : Entry Kept} → Some x ≡ Some y → x ≡ y
    some_same h = cc
