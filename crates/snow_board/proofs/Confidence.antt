-- The confidence law, on every board that can be reached.
use Rattle.std.proofs.Common.{◌≡◌, ℕ, ◌≤◌, ◌⊎◌, inl, inr, Bool, true, false, ◌||◌, ◌&&◌, List, [], ◌∷◌, ◌++◌, length, reverse, filter, bytes_eq, Option, Some, None, is_some, option_map, nat_lt, if◌then◌else◌, refl, sym, ap, ◌∙◌, subst, arith, append_assoc}
use Rattle.std.specs.Bool.{beq}
use Rattle.std.specs.List.{list_any, starts_with}
use Rattle.std.proofs.lemmas.Option.{none-some, same_Some}
use Rattle.std.proofs.lemmas.Bool.{or_left, or_right, and_parts}
use Rattle.snow_base.specs.declared.block.Header.{Header}
use Rattle.snow_base.specs.declared.block.Vote.{Vote}
use Rattle.snow_base.specs.Model.Votes.{total_count}
use Rattle.snow_base.specs.Model.Identifier.{bits}
use Rattle.snow_base.specs.Model.Ancestry.{line_in, begins_with, is_below, votes_below}
use Rattle.snow_base.proofs.Bits.{length-bits}
use Rattle.snow_flake.specs.Model.Parameters.{Parameters, AreGood}
use Rattle.snow_flake.specs.Model.Counter.{Counter, fresh, stepped}
use Rattle.snow_board.specs.Model.Conflict.{Pending}
use Rattle.snow_board.specs.Model.Conflict.{Counters, Blank, At, counter_at, with_child, all_polled}
use Rattle.snow_board.specs.Model.Board.{Board, begin, blocks_of, counters_on, counter_on, issued}
use Rattle.snow_board.specs.Model.Poll.{counted, winner, promoted}
use Rattle.snow_board.specs.Laws.Reached.{MayIssue, Reached}
use Rattle.snow_board.specs.Kept.Grown.{is_on, IsGrown}
use Rattle.snow_board.specs.Laws.Excluded.{is_excluded}
use Rattle.snow_board.specs.Laws.PointwiseLaw.{stepped_at, fresh_at}
use Rattle.snow_board.specs.Laws.ConfidenceLaw.{Bounds, HasConfidence}
use Rattle.snow_board.specs.Laws.StandingLaw.{has_child_from}
use Rattle.snow_board.proofs.Cases.{split_on, clash, same_id}
use Rattle.snow_board.proofs.Invariant.{IsSound, IsKeptOver, sound_kept, both_kept, reached_keeps, blocks_counted, reversed_issued, issued_parent, issued_new}
use Rattle.snow_board.proofs.Lookup.{none_on, stays, reversed_promoted, counters_issued, counters_counted, counters_promoted}
use Rattle.snow_board.proofs.Lines.{child_in, one_child}
use Rattle.snow_board.proofs.Pointwise.{polled_each, grown_each}
use Rattle.snow_board.proofs.Excluding.{fresh_front}
use Rattle.snow_board.proofs.Standing.{HasStanding, standing_kept, any-reverse}
use Rattle.snow_board.proofs.Order.{bounded, kept}
use Rattle.snow_board.proofs.Below.{begins_front, both_sides, fewer_front, fewer_below, kept_line}

-- ---- where a counter came from

-- where no counter stands, none stands behind
closed : (counters : Counters) (front rest : List Bool) → counter_at counters front ≡ None → counter_at counters (front ++ rest) ≡ None
closed Blank front rest h = refl
closed (At c z o) [] rest h = cc
closed (At c z o) (false ∷ front) rest h = closed z front rest h
closed (At c z o) (true ∷ front) rest h = closed o front rest h

-- after the bit steps a counter is the step of the one before
pub polled_from : (p : Parameters) (votes : List Bool → ℕ) (counters : Counters) (place : List Bool) (c : Counter) → counter_at (all_polled p votes counters) place ≡ Some c
    → (b : Counter) × (counter_at counters place ≡ Some b) × (stepped p b (votes (place ++ false ∷ [])) (votes (place ++ true ∷ [])) ≡ c)
polled_from p votes counters place c h =
    step_of (λ b. stepped p b (votes (place ++ false ∷ [])) (votes (place ++ true ∷ []))) (counter_at counters place) (is_excluded (stepped_at p votes counters) place)
    (sym (polled_each p votes counters place) ∙ h)
  where
    step_of : (f : Counter → Counter) (o : Option Counter) (gone : Bool) → (if gone then None else option_map f o) ≡ Some c → (b : Counter) × (o ≡ Some b) × (f b ≡ c)
    step_of f o true e = absurd (none-some c e)
    step_of f None false e = absurd (none-some c e)
    step_of f (Some b) false e = (b, refl, same_Some (f b) c e)

-- a counter that an issue made
record IsFresh (child : Header) (counters : Counters) (place : List Bool) (c : Counter) : Type 0 where
  pub bit : Bool
  pub is : c ≡ fresh bit
  pub none : counter_at counters place ≡ None
  pub allowed : is_excluded (counter_at counters) place ≡ false
  pub short : nat_lt (length place) 256 ≡ true

-- after an issue a counter was there, or is fresh
grown_from : (child : Header) (counters : Counters) (place : List Bool) (c : Counter) → counter_at (with_child (bits child.id) counters) place ≡ Some c
    → (counter_at counters place ≡ Some c) ⊎ IsFresh child counters place c
grown_from child counters place c h =
    from (counter_at counters place) (is_excluded (counter_at counters) place) refl refl (sym (grown_each (bits child.id) counters place) ∙ h)
  where
    fresh_from : (o : Option Bool) → option_map fresh o ≡ Some c → (b : Bool) × (c ≡ fresh b)
    fresh_from None e = absurd (none-some c e)
    fresh_from (Some b) e = (b, sym (same_Some (fresh b) c e))

    choice_from : (t : Bool) (o : Option Bool) → (if t then option_map fresh o else None) ≡ Some c → (b : Bool) × (c ≡ fresh b)
    choice_from true o e = fresh_from o e
    choice_from false o e = absurd (none-some c e)

    from : (o : Option Counter) (excluded : Bool) → counter_at counters place ≡ o → is_excluded (counter_at counters) place ≡ excluded
        → (if is_some o || excluded then o else fresh_at (bits child.id) place) ≡ Some c → (counter_at counters place ≡ Some c) ⊎ IsFresh child counters place c
    from (Some b) excluded at gone e = inl (at ∙ e)
    from None true at gone e = absurd (none-some c e)
    from None false at gone e =
        let made = choice_from (starts_with beq (bits child.id) place) _ e in
        let long = sym (fresh_front (bits child.id) place) ∙ ap is_some e in
        inr (record {
          bit = made.0;
          is = made.1;
          none = at;
          allowed = gone;
          short = ap (nat_lt (length place)) (sym (length-bits child.id)) ∙ (and_parts (nat_lt (length place) (length (bits child.id))) (starts_with beq (bits child.id) place) long).0;
        })

-- the same on a board
issued_from : (board : Board) (child : Header) (id : List ℕ) (place : List Bool) (c : Counter) → IsSound board → MayIssue board child
    → counter_on (issued board child) id place ≡ Some c → (counter_on board id place ≡ Some c) ⊎ IsFresh child (counters_on board id) place c
issued_from board child id place c sound may h =
    from (bytes_eq id child.parent) (sym (ap (λ cs. counter_at cs place) (counters_issued board child id (issued_parent board child sound may))) ∙ h)
  where
    from : (t : Bool) → counter_at (if t then with_child (bits child.id) (counters_on board id) else counters_on board id) place ≡ Some c
        → (counter_on board id place ≡ Some c) ⊎ IsFresh child (counters_on board id) place c
    from true e = grown_from child (counters_on board id) place c e
    from false e = inl e

-- ---- an issue

-- where a block has one below it at a list, it has a child from there
child_from : (last : List ℕ) (blocks : List Header) (id descendant : List ℕ) (front more : List Bool) → IsGrown last (reverse blocks)
    → is_below blocks id (front ++ more) descendant ≡ true → has_child_from blocks id front ≡ true
child_from last blocks id descendant front more g h =
    let p : Header → Bool = λ b. bytes_eq b.parent id && starts_with beq (bits b.id) front in
    sym (any-reverse p blocks)
    ∙ on_line p (reverse blocks) descendant
    (one_child last (reverse blocks) id front descendant g ∙ begins_front (child_in (reverse blocks) id descendant) front more h)
  where
    on_line : (p : Header → Bool) (blocks : List Header) (id : List ℕ) → list_any p (line_in blocks id) ≡ true → list_any p blocks ≡ true
    on_line p [] id e = e
    on_line p (b ∷ earlier) id e =
        split_on (bytes_eq b.id id)
        (λ t. let k = rw t at e in
        split_on (p b)
        (λ s. or_left (p b) (list_any p earlier) s)
        (λ s. let m = rw s at k in or_right (p b) (list_any p earlier) (on_line p earlier b.parent m)))
        (λ t. let k = rw t at e in or_right (p b) (list_any p earlier) (on_line p earlier id k))

-- so no fresh counter comes above a block that was there
none_begins : (board : Board) (child : Header) (id descendant : List ℕ) (front more : List Bool) (c : Counter) → IsSound board → HasStanding board
    → is_below (blocks_of board.pending) id (front ++ more) descendant ≡ true → IsFresh child (counters_on board id) front c → ⊥
none_begins board child id descendant front more c sound stands below new =
    let has = child_from board.last (blocks_of board.pending) id descendant front more sound.grown below in
    clash (is_some (counter_on board id front)) (stands id front ∙ rw (new.short, has, new.allowed) refl) (ap is_some new.none)

-- fresh counters are bounded by any
fresh_bounded : (child : Header) (counters : Counters) (place : List Bool) (upper lower : Counter) (side : Bool) → IsFresh child counters place lower → Bounds upper side lower
fresh_bounded child counters place upper lower side new = subst (Bounds upper side) (sym new.is) (bounded upper side _ (omega arith))

-- an issue keeps it
confidence_issued : (board : Board) (child : Header) → IsSound board → HasStanding board → HasConfidence board → MayIssue board child → HasConfidence (issued board child)
confidence_issued board child sound stands h may = record {
  within = λ id front rest side upper lower above below.
      elim (issued_from board child id (front ++ side ∷ rest) lower sound may below) [
        | inr new ↦ fresh_bounded child (counters_on board id) (front ++ side ∷ rest) upper lower side new
        | inl old ↦ elim (issued_from board child id front upper sound may above) [
          | inl up ↦ h.within id front rest side upper lower up old
          | inr new ↦ absurd (none-some lower (sym (closed (counters_on board id) front (side ∷ rest) new.none) ∙ old))
        ]
      ];
  across = λ id descendant front place side upper lower under above below.
      elim (issued_from board child descendant place lower sound may below) [
        | inr new ↦ fresh_bounded child (counters_on board descendant) place upper lower side new
        | inl old ↦
            let was = was_below id descendant front place side lower under old in
            elim (issued_from board child id front upper sound may above) [
              | inl up ↦ h.across id descendant front place side upper lower was up old
              | inr new ↦ absurd (none_begins board child id descendant front (side ∷ []) upper sound stands was new)
            ]
      ];
}
  where
    was_below : (id descendant : List ℕ) (front place : List Bool) (side : Bool) (lower : Counter)
        → is_below (blocks_of (issued board child).pending) id (front ++ side ∷ []) descendant ≡ true → counter_on board descendant place ≡ Some lower
        → is_below (blocks_of board.pending) id (front ++ side ∷ []) descendant ≡ true
    was_below id descendant front place side lower under old =
        split_on (bytes_eq child.id descendant)
        (λ t. absurd (none-some lower
        (sym (ap (λ cs. counter_at cs place) (ap (counters_on board) (sym (same_id child.id descendant t)) ∙ none_on board child.id (issued_new board child sound may))) ∙ old)))
        (λ t.
        let e : begins_with (front ++ side ∷ []) (child_in (child ∷ reverse (blocks_of board.pending)) id descendant) ≡ true =
        ap (λ l. begins_with (front ++ side ∷ []) (child_in l id descendant)) (sym (reversed_issued board child)) ∙ under
        in
        rw t at e)

-- ---- a poll

-- the votes on the side of a counter
side_votes : (votes : List Bool → ℕ) (front : List Bool) (side : Bool)
    → votes (front ++ side ∷ []) ≡ (if side then votes (front ++ true ∷ []) else votes (front ++ false ∷ []))
side_votes votes front true = refl
side_votes votes front false = refl

-- a step with no more votes than those on the side keeps the bound
step_bounds : (p : Parameters) (blocks : List Header) (votes : List Vote) (id : List ℕ) (front : List Bool) (side : Bool) (upper lower : Counter) (zeros ones : ℕ)
    → AreGood p → total_count votes ≤ p.k → let count = votes_below blocks votes id in
    zeros ≤ count (front ++ side ∷ []) → ones ≤ count (front ++ side ∷ []) → Bounds upper side lower
    → Bounds (stepped p upper (count (front ++ false ∷ [])) (count (front ++ true ∷ []))) side (stepped p lower zeros ones)
step_bounds p blocks votes id front side upper lower zeros ones good few low high h =
    let count : List Bool → ℕ = votes_below blocks votes id in
    let is = side_votes count front side in
    kept p upper lower side (count (front ++ false ∷ [])) (count (front ++ true ∷ [])) zeros ones good
    (omega (arith, both_sides blocks votes id front))
    (subst (λ n. zeros ≤ n) is low) (subst (λ n. ones ≤ n) is high) h

-- the votes of a block at a list
abbrev count_at : Board → List Vote → List ℕ → List Bool → ℕ
count_at board votes id front = votes_below (blocks_of board.pending) votes id front

-- the step of a counter with its own two counts
abbrev step_at : Board → List Vote → List ℕ → List Bool → Counter → Counter
step_at board votes id place c = stepped board.parameters c (count_at board votes id (place ++ false ∷ [])) (count_at board votes id (place ++ true ∷ []))

-- a counter after the bit steps, and the one before
record IsStep (board : Board) (votes : List Vote) (id : List ℕ) (place : List Bool) (c : Counter) : Type 0 where
  pub before : Counter
  pub stood : counter_on board id place ≡ Some before
  pub is : step_at board votes id place before ≡ c

-- a counter on the board after the bit steps is the step of one before
counted_from : (board : Board) (votes : List Vote) (id : List ℕ) (place : List Bool) (c : Counter) → counter_on (counted board votes) id place ≡ Some c
    → IsStep board votes id place c
counted_from board votes id place c h =
    let from = polled_from board.parameters (count_at board votes id) (counters_on board id) place c (sym (ap (λ cs. counter_at cs place) (counters_counted board votes id)) ∙ h) in
    record { before = from.0; stood = from.1; is = from.2 }

-- two steps keep the bound, where the second has no more votes than those on its side of the first
both_step : (board : Board) (votes : List Vote) (id descendant : List ℕ) (front place : List Bool) (side : Bool) (upper lower : Counter)
    → AreGood board.parameters → total_count votes ≤ board.parameters.k
    → (high : IsStep board votes id front upper) (low : IsStep board votes descendant place lower)
    → ((next : Bool) → count_at board votes descendant (place ++ next ∷ []) ≤ count_at board votes id (front ++ side ∷ []))
    → Bounds high.before side low.before → Bounds upper side lower
both_step board votes id descendant front place side upper lower good few high low fewer bounds =
    subst (λ c. Bounds c side lower) high.is
    (subst (Bounds (step_at board votes id front high.before) side) low.is
    (step_bounds board.parameters (blocks_of board.pending) votes id front side high.before low.before
    (count_at board votes descendant (place ++ false ∷ [])) (count_at board votes descendant (place ++ true ∷ []))
    good few (fewer false) (fewer true) bounds))

-- the votes further down in a conflict
fewer_within : (board : Board) (votes : List Vote) (id : List ℕ) (front rest : List Bool) (side next : Bool)
    → count_at board votes id ((front ++ side ∷ rest) ++ next ∷ []) ≤ count_at board votes id (front ++ side ∷ [])
fewer_within board votes id front rest side next =
    let same : (front ++ side ∷ []) ++ (rest ++ next ∷ []) ≡ (front ++ side ∷ rest) ++ next ∷ [] =
    append_assoc front (side ∷ []) (rest ++ next ∷ []) ∙ sym (append_assoc front (side ∷ rest) (next ∷ []))
    in
    subst (λ l. count_at board votes id l ≤ count_at board votes id (front ++ side ∷ [])) same
    (fewer_front (blocks_of board.pending) votes id (front ++ side ∷ []) (rest ++ next ∷ []))

-- the bit steps of a board keep it
confidence_counted : (board : Board) (votes : List Vote) → IsSound board → HasConfidence board → total_count votes ≤ board.parameters.k → HasConfidence (counted board votes)
confidence_counted board votes sound h few = record {
  within = λ id front rest side upper lower above below.
      let high = counted_from board votes id front upper above in
      let low = counted_from board votes id (front ++ side ∷ rest) lower below in
      both_step board votes id id front (front ++ side ∷ rest) side upper lower sound.good few high low
      (λ next. fewer_within board votes id front rest side next)
      (h.within id front rest side high.before low.before high.stood low.stood);
  across = λ id descendant front place side upper lower under above below.
      let high = counted_from board votes id front upper above in
      let low = counted_from board votes descendant place lower below in
      let was : is_below (blocks_of board.pending) id (front ++ side ∷ []) descendant ≡ true =
      ap (λ l. is_below l id (front ++ side ∷ []) descendant) (sym (blocks_counted board votes)) ∙ under
      in
      both_step board votes id descendant front place side upper lower sound.good few high low
      (λ next. fewer_below board.last (blocks_of board.pending) votes id descendant (front ++ side ∷ []) (place ++ next ∷ []) sound.grown was)
      (h.across id descendant front place side high.before low.before was high.stood low.stood);
}

-- ---- an acceptance

-- a counter on the board after an acceptance was there before
promoted_from : (board : Board) (child : Pending) (id : List ℕ) (place : List Bool) (c : Counter) → IsSound board → winner board ≡ Some child
    → counter_on (promoted board child) id place ≡ Some c → counter_on board id place ≡ Some c
promoted_from board child id place c sound w h =
    let new = promoted board child in
    split_on (is_on new.last (blocks_of new.pending) id)
    (λ t. ap (λ cs. counter_at cs place) (sym (counters_promoted board child id sound.grown w t)) ∙ h)
    (λ t. absurd (none-some c (sym (ap (λ cs. counter_at cs place) (none_on new id t)) ∙ h)))

-- a block that is below another then was so before
promoted_below : (board : Board) (child : Pending) (id descendant : List ℕ) (front : List Bool)
    → is_below (blocks_of (promoted board child).pending) id front descendant ≡ true → is_below (blocks_of board.pending) id front descendant ≡ true
promoted_below board child id descendant front h =
    let blocks = reverse (blocks_of board.pending) in
    from (child_in (filter (λ b. stays board child b.id) blocks) id descendant) refl (ap (λ l. begins_with front (child_in l id descendant)) (sym (reversed_promoted board child)) ∙ h)
  where
    from : (o : Option Header) → child_in (filter (λ b. stays board child b.id) (reverse (blocks_of board.pending))) id descendant ≡ o → begins_with front o ≡ true
        → begins_with front (child_in (reverse (blocks_of board.pending)) id descendant) ≡ true
    from None is e = cc
    from (Some c) is e = ap (begins_with front) (kept_line (stays board child) (reverse (blocks_of board.pending)) id descendant c is) ∙ e

-- an acceptance keeps it
confidence_promoted : (board : Board) (child : Pending) → IsSound board → HasConfidence board → winner board ≡ Some child → HasConfidence (promoted board child)
confidence_promoted board child sound h w = record {
  within = λ id front rest side upper lower above below.
      h.within id front rest side upper lower (promoted_from board child id front upper sound w above)
      (promoted_from board child id (front ++ side ∷ rest) lower sound w below);
  across = λ id descendant front place side upper lower under above below.
      h.across id descendant front place side upper lower (promoted_below board child id descendant (front ++ side ∷ []) under)
      (promoted_from board child id front upper sound w above) (promoted_from board child descendant place lower sound w below);
}

-- ---- the law

-- at the beginning there are no counters
none_begun : (p : Parameters) (last : List ℕ) (height : ℕ) (id : List ℕ) (place : List Bool) → counter_on (begin p last height) id place ≡ None
none_begun p last height id place = split_on (bytes_eq last id) (λ t. rw t refl) (λ t. rw t refl)

-- every step keeps it
confidence_kept : IsKeptOver (λ board. IsSound board × HasStanding board) HasConfidence
confidence_kept = record {
  at_begin = λ p last height good. record {
    within = λ id front rest side upper lower above below. absurd (none-some upper (sym (none_begun p last height id front) ∙ above));
    across = λ id descendant front place side upper lower under above below. absurd (none-some upper (sym (none_begun p last height id front) ∙ above));
  };
  at_issue = λ board child base h may. confidence_issued board child base.0 base.1 h may;
  at_count = λ board votes base h few. confidence_counted board votes base.0 h few;
  at_promotion = λ board child base h w. confidence_promoted board child base.0 h w;
}

-- every board that can be reached has it
pub confident : (board : Board) → Reached board → HasConfidence board
confident board reached =
    let Base : Board → Type 0 = λ board. IsSound board × HasStanding board in
    (reached_keeps (λ board. Base board × HasConfidence board) (both_kept Base HasConfidence (both_kept IsSound HasStanding sound_kept standing_kept) confidence_kept) board reached).1
