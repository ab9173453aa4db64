-- Lemmas on the sides to which counters lean: there is a child on each of them.
use Rattle.std.proofs.Common.{◌≡◌, ℕ, ◌≤◌, Bool, true, false, not, ◌||◌, ◌&&◌, List, [], ◌∷◌, ◌++◌, length, reverse, find, sum_by, bytes_eq, Option, Some, None, is_some, option_map, slice_get, nat_lt, nat_le, if◌then◌else◌, refl, sym, ap, ◌∙◌, subst, arith}
use Rattle.std.specs.Bool.{beq}
use Rattle.std.specs.Cmp.{booleans_Decides}
use Rattle.std.specs.List.{list_any, starts_with}
use Rattle.std.proofs.lemmas.List.Folds.{list_any-append}
use Rattle.std.proofs.lemmas.List.Sums.{sum_by-cons}
use Rattle.std.proofs.lemmas.Option.{none-some, same_Some}
use Rattle.std.proofs.lemmas.Bool.{or_left, or_right, ltb-false}
use Rattle.snow_base.specs.declared.block.Header.{Header}
use Rattle.snow_base.specs.declared.block.Vote.{Vote}
use Rattle.snow_base.specs.Model.Identifier.{bits}
use Rattle.snow_base.specs.Model.Ancestry.{line_in, begins_with, is_below, votes_below}
use Rattle.snow_flake.specs.Model.Parameters.{Parameters, AreGood}
use Rattle.snow_flake.specs.Model.Counter.{Class, Low, Middle, High, class, Standing, Counter, Decided, Undecided, fresh, strength, raised, followed, voted, concluded, stepped}
use Rattle.snow_flake.specs.Model.Rule.{Answer, answer_of}
use Rattle.snow_board.specs.Model.Conflict.{Pending}
use Rattle.snow_board.specs.Model.Conflict.{Counters, Blank, counter_at, with_child, all_polled}
use Rattle.snow_board.specs.Model.Board.{Board, begin, blocks_of, counters_on, with_issued, issued}
use Rattle.snow_board.specs.Model.Poll.{counted, winner, promoted}
use Rattle.snow_board.specs.Laws.Reached.{MayIssue}
use Rattle.snow_board.specs.Kept.Grown.{is_on}
use Rattle.snow_board.specs.Laws.Excluded.{is_excluded}
use Rattle.snow_board.specs.Laws.PointwiseLaw.{fresh_at}
use Rattle.snow_board.specs.Laws.StandingLaw.{has_child_from}
use Rattle.snow_board.proofs.Cases.{split_on, clash, same_id, id_itself}
use Rattle.snow_board.proofs.Invariant.{IsSound, IsKeptOver, blocks_counted, blocks_issued, issued_parent}
use Rattle.snow_board.proofs.Lookup.{none_on, counters_issued, counters_counted, counters_promoted}
use Rattle.snow_board.proofs.Pointwise.{grown_each}
use Rattle.snow_board.proofs.Standing.{any-reverse, children_promoted}
use Rattle.snow_board.proofs.Confidence.{polled_from}

-- ---- one counter

-- the bits to which a counter may answer pass a test
abbrev pub Backed : (Bool → Bool) → Counter → Type 0
Backed has (Decided bit) = has bit ≡ true
Backed has (Undecided s) = (has s.preference ≡ true) × (has s.flake ≡ true)

-- so does the bit that it answers
pub answer_backed : (answer : Answer) → ((b : Bool) → answer b b ≡ b) → (has : Bool → Bool) (c : Counter) → Backed has c → has (answer_of answer c) ≡ true
answer_backed answer agrees has (Decided bit) h = h
answer_backed answer agrees has (Undecided s) h = either s.preference s.flake h.0 h.1
  where
    both : (b : Bool) → has true ≡ true → has false ≡ true → has b ≡ true
    both true at_one at_zero = at_one
    both false at_one at_zero = at_zero

    either : (preference flake : Bool) → has preference ≡ true → has flake ≡ true → has (answer preference flake) ≡ true
    either true true h k = ap has (agrees true) ∙ h
    either false false h k = ap has (agrees false) ∙ h
    either true false h k = both (answer true false) h k
    either false true h k = both (answer false true) k h

-- a test that holds more often
backed_more : (has more : Bool → Bool) (c : Counter) → ((b : Bool) → has b ≡ true → more b ≡ true) → Backed has c → Backed more c
backed_more has more (Decided bit) up h = up bit h
backed_more has more (Undecided s) up h = (up s.preference h.0, up s.flake h.1)

-- a counter with a confidence or decided
concluded_backed : (p : Parameters) (has : Bool → Bool) (s : Standing) → Backed has (Undecided s) → Backed has (concluded p s)
concluded_backed p has s h = split_on (nat_le p.beta s.confidence) (λ t. rw t h.1) (λ t. rw t h)

-- the bit that is followed passes
followed_backed : (has : Bool → Bool) (s : Standing) (b : Bool) (votes : Class) → has b ≡ true → Backed has (Undecided s) → Backed has (Undecided (followed s b votes))
followed_backed has s b votes here h = split_on (nat_lt (strength s (not b)) (raised (strength s b))) (λ t. rw t (here, here)) (λ t. rw t (h.0, here))

-- enough votes for one side
abbrev IsQuorum : Class → Type 0
IsQuorum Low = ⊥
IsQuorum Middle = Unit {0}
IsQuorum High = Unit {0}

-- votes for the sides that pass
voted_backed : (has : Bool → Bool) (s : Standing) (zeros ones : Class) → (IsQuorum zeros → has false ≡ true) → (IsQuorum ones → has true ≡ true)
    → Backed has (Undecided s) → Backed has (Undecided (voted s zeros ones))
voted_backed has s Low Low at_zero at_one h = h
voted_backed has s Low Middle at_zero at_one h = followed_backed has s true Middle (at_one tt) h
voted_backed has s Low High at_zero at_one h = followed_backed has s true High (at_one tt) h
voted_backed has s Middle ones at_zero at_one h = followed_backed has s false Middle (at_zero tt) h
voted_backed has s High ones at_zero at_one h = followed_backed has s false High (at_zero tt) h

-- a quorum is no fewer votes than AlphaPreference
quorum_votes : (p : Parameters) (n : ℕ) → IsQuorum (class p n) → nat_lt n p.alpha_preference ≡ false
quorum_votes p n q = split_on (nat_lt n p.alpha_preference) (λ t. let k = rw t at q in absurd k) (λ t. t)

-- the bit step, where sides with enough votes pass
stepped_backed : (p : Parameters) (has : Bool → Bool) (c : Counter) (n0 n1 : ℕ)
    → (nat_lt n0 p.alpha_preference ≡ false → has false ≡ true) → (nat_lt n1 p.alpha_preference ≡ false → has true ≡ true)
    → Backed has c → Backed has (stepped p c n0 n1)
stepped_backed p has (Decided bit) n0 n1 at_zero at_one h = h
stepped_backed p has (Undecided s) n0 n1 at_zero at_one h =
    concluded_backed p has (voted s (class p n0) (class p n1))
    (voted_backed has s (class p n0) (class p n1) (λ q. at_zero (quorum_votes p n0 q)) (λ q. at_one (quorum_votes p n1 q)) h)

-- ---- votes come from below a child

-- what a test passes on a line it passes in the list
line_any : (p : Header → Bool) (blocks : List Header) (id : List ℕ) → list_any p (line_in blocks id) ≡ true → list_any p blocks ≡ true
line_any p [] id h = h
line_any p (b ∷ earlier) id h =
    split_on (bytes_eq b.id id)
    (λ t. let k = rw t at h in
    split_on (p b)
    (λ s. or_left (p b) (list_any p earlier) s)
    (λ s. let m = rw s at k in or_right (p b) (list_any p earlier) (line_any p earlier b.parent m)))
    (λ t. let k = rw t at h in or_right (p b) (list_any p earlier) (line_any p earlier id k))

-- the first child that a search finds
found_any : (parent : List ℕ) (front : List Bool) (blocks : List Header) → begins_with front (find (λ b. bytes_eq b.parent parent) blocks) ≡ true
    → has_child_from blocks parent front ≡ true
found_any parent front [] h = cc
found_any parent front (b ∷ blocks) h =
    split_on (bytes_eq b.parent parent)
    (λ t. let k = rw t at h in rw (t, k) refl)
    (λ t. let k = rw t at h in rw t (found_any parent front blocks k))

-- a block is below a child
child_above : (blocks : List Header) (parent : List ℕ) (front : List Bool) (id : List ℕ) → is_below blocks parent front id ≡ true → has_child_from blocks parent front ≡ true
child_above blocks parent front id h =
    let p : Header → Bool = λ b. bytes_eq b.parent parent && starts_with beq (bits b.id) front in
    sym (any-reverse p blocks) ∙ line_any p (reverse blocks) id (found_any parent front (line_in (reverse blocks) id) h)

-- where a test holds of no vote, none counts
none_counted : (test : Vote → Bool) (votes : List Vote) → ((v : Vote) → test v ≡ false) → sum_by (λ v. if test v then v.count else 0) votes ≤ 0
none_counted test [] h = omega arith
none_counted test (v ∷ votes) h =
    let here : (if test v then v.count else 0) ≤ 0 = rw (h v) (omega arith) in
    omega (arith, none_counted test votes h, here, sum_by-cons (λ v. if test v then v.count else 0) v votes)

-- so a side with a quorum has a child
enough_child : (p : Parameters) (blocks : List Header) (votes : List Vote) (id : List ℕ) (front : List Bool) → AreGood p
    → nat_lt (votes_below blocks votes id front) p.alpha_preference ≡ false → has_child_from blocks id front ≡ true
enough_child p blocks votes id front good h =
    split_on (has_child_from blocks id front)
    (λ t. t)
    (λ t.
    let few = none_counted (λ v. is_below blocks id front v.id) votes
    (λ v. split_on (is_below blocks id front v.id) (λ s. clash (has_child_from blocks id front) (child_above blocks id front v.id s) t) (λ s. s))
    in
    absurd (omega (arith, few, ltb-false (votes_below blocks votes id front) p.alpha_preference h, good.majority)))

-- ---- the counters of a board

-- each counter of a block leans to sides on which the block has a child
abbrev pub BackedIn : List Header → List ℕ → Counters → Type 0
BackedIn blocks id counters = (place : List Bool) (c : Counter) → counter_at counters place ≡ Some c → Backed (λ b. has_child_from blocks id (place ++ b ∷ [])) c

abbrev pub HasBacking : Board → Type 0
HasBacking board = (id : List ℕ) → BackedIn (blocks_of board.pending) id (counters_on board id)

-- more blocks
child_before : (blocks more : List Header) (id : List ℕ) (front : List Bool) → has_child_from blocks id front ≡ true → has_child_from (blocks ++ more) id front ≡ true
child_before blocks more id front h =
    list_any-append (λ b. bytes_eq b.parent id && starts_with beq (bits b.id) front) blocks more
    ∙ or_left (has_child_from blocks id front) (has_child_from more id front) h

-- the child itself
child_itself : (blocks : List Header) (child : Header) (front : List Bool) → starts_with beq (bits child.id) front ≡ true → has_child_from (blocks ++ child ∷ []) child.parent front ≡ true
child_itself blocks child front h =
    let own : has_child_from (child ∷ []) child.parent front ≡ true = rw (id_itself child.parent, h) refl in
    list_any-append (λ b. bytes_eq b.parent child.parent && starts_with beq (bits b.id) front) blocks (child ∷ [])
    ∙ or_right (has_child_from blocks child.parent front) (has_child_from (child ∷ []) child.parent front) own

-- bits that begin with a list begin with it and their next bit
starts_next : (bs front : List Bool) (bit : Bool) → starts_with beq bs front ≡ true → slice_get bs (length front) ≡ Some bit → starts_with beq bs (front ++ bit ∷ []) ≡ true
starts_next [] [] bit h e = absurd (none-some bit e)
starts_next (b ∷ bs) [] bit h e = rw ((booleans_Decides bit b).1 (sym (same_Some b bit e))) refl
starts_next [] (a ∷ front) bit h e = cc
starts_next (b ∷ bs) (a ∷ front) bit h e =
    split_on (beq a b)
    (λ t. let k = rw t at h in rw t (starts_next bs front bit k e))
    (λ t. let k = rw t at h in cc)

-- a fresh counter
fresh_backed : (blocks : List Header) (child : Header) (place : List Bool) (c : Counter) → fresh_at (bits child.id) place ≡ Some c
    → Backed (λ b. has_child_from (blocks ++ child ∷ []) child.parent (place ++ b ∷ [])) c
fresh_backed blocks child place c h = by_start (starts_with beq (bits child.id) place) refl h
  where
    by_next : (o : Option Bool) → starts_with beq (bits child.id) place ≡ true → slice_get (bits child.id) (length place) ≡ o → option_map fresh o ≡ Some c
        → Backed (λ b. has_child_from (blocks ++ child ∷ []) child.parent (place ++ b ∷ [])) c
    by_next None t e h = absurd (none-some c h)
    by_next (Some bit) t e h =
        let here = child_itself blocks child (place ++ bit ∷ []) (starts_next (bits child.id) place bit t e) in
        subst (Backed (λ b. has_child_from (blocks ++ child ∷ []) child.parent (place ++ b ∷ []))) (same_Some (fresh bit) c h) (here, here)

    by_start : (t : Bool) → starts_with beq (bits child.id) place ≡ t → (if t then option_map fresh (slice_get (bits child.id) (length place)) else None) ≡ Some c
        → Backed (λ b. has_child_from (blocks ++ child ∷ []) child.parent (place ++ b ∷ [])) c
    by_start true t h = by_next (slice_get (bits child.id) (length place)) t refl h
    by_start false t h = absurd (none-some c h)

-- a counter after an issue was there or is fresh
was_or_fresh : {P : Type 0} (o f : Option Counter) (excluded : Bool) (c : Counter) → (if is_some o || excluded then o else f) ≡ Some c → (o ≡ Some c → P) → (f ≡ Some c → P) → P
was_or_fresh (Some d) f excluded c h was began = was h
was_or_fresh None f true c h was began = was h
was_or_fresh None f false c h was began = began h

-- the parent's counters after an issue
parent_backed : (blocks : List Header) (child : Header) (counters : Counters) → BackedIn blocks child.parent counters
    → BackedIn (blocks ++ child ∷ []) child.parent (with_child (bits child.id) counters)
parent_backed blocks child counters h place c at =
    was_or_fresh (counter_at counters place) (fresh_at (bits child.id) place) (is_excluded (counter_at counters) place) c (sym (grown_each (bits child.id) counters place) ∙ at)
    (λ was.
    backed_more (λ b. has_child_from blocks child.parent (place ++ b ∷ [])) (λ b. has_child_from (blocks ++ child ∷ []) child.parent (place ++ b ∷ [])) c
    (λ b k. child_before blocks (child ∷ []) child.parent (place ++ b ∷ []) k) (h place c was))
    (λ began. fresh_backed blocks child place c began)

-- those of each block
backed_issued : (blocks : List Header) (child : Header) (id : List ℕ) (counters : Counters) → BackedIn blocks id counters
    → BackedIn (blocks ++ child ∷ []) id (with_issued child id counters)
backed_issued blocks child id counters h =
    split_on (bytes_eq id child.parent)
    (λ t. let same : id ≡ child.parent = same_id id child.parent t in
    rw t (subst (λ i. BackedIn (blocks ++ child ∷ []) i (with_child (bits child.id) counters)) (sym same)
    (parent_backed blocks child counters (subst (λ i. BackedIn blocks i counters) same h))))
    (λ t. rw t (λ place c at.
    backed_more (λ b. has_child_from blocks id (place ++ b ∷ [])) (λ b. has_child_from (blocks ++ child ∷ []) id (place ++ b ∷ [])) c
    (λ b k. child_before blocks (child ∷ []) id (place ++ b ∷ []) k) (h place c at)))

-- an issue keeps it
backing_issued : (board : Board) (child : Header) → IsSound board → HasBacking board → MayIssue board child → HasBacking (issued board child)
backing_issued board child sound h may id =
    subst (λ l. BackedIn l id (counters_on (issued board child) id)) (sym (blocks_issued board child))
    (subst (BackedIn (blocks_of board.pending ++ child ∷ []) id) (sym (counters_issued board child id (issued_parent board child sound may)))
    (backed_issued (blocks_of board.pending) child id (counters_on board id) (h id)))

-- the bit steps of a conflict keep it
polled_backed : (blocks : List Header) (votes : List Vote) (id : List ℕ) (p : Parameters) (counters : Counters) → AreGood p → BackedIn blocks id counters
    → BackedIn blocks id (all_polled p (votes_below blocks votes id) counters)
polled_backed blocks votes id p counters good h place c at =
    let has : Bool → Bool = λ b. has_child_from blocks id (place ++ b ∷ []) in
    let before = polled_from p (votes_below blocks votes id) counters place c at in
    subst (Backed has) before.2
    (stepped_backed p has before.0 (votes_below blocks votes id (place ++ false ∷ [])) (votes_below blocks votes id (place ++ true ∷ []))
    (enough_child p blocks votes id (place ++ false ∷ []) good) (enough_child p blocks votes id (place ++ true ∷ []) good) (h place before.0 before.1))

-- those of a board keep it
backing_counted : (board : Board) (votes : List Vote) → IsSound board → HasBacking board → HasBacking (counted board votes)
backing_counted board votes sound h id =
    rw (blocks_counted board votes, counters_counted board votes id)
    (polled_backed (blocks_of board.pending) votes id board.parameters (counters_on board id) sound.good (h id))

-- an acceptance keeps it
backing_promoted : (board : Board) (child : Pending) → IsSound board → HasBacking board → winner board ≡ Some child → HasBacking (promoted board child)
backing_promoted board child sound h w id =
    let new = promoted board child in
    split_on (is_on new.last (blocks_of new.pending) id)
    (λ t.
    subst (BackedIn (blocks_of new.pending) id) (sym (counters_promoted board child id sound.grown w t))
    (λ place c at.
    backed_more (λ b. has_child_from (blocks_of board.pending) id (place ++ b ∷ [])) (λ b. has_child_from (blocks_of new.pending) id (place ++ b ∷ [])) c
    (λ b k. children_promoted board child id (place ++ b ∷ []) sound.grown w t ∙ k) (h id place c at)))
    (λ t. subst (BackedIn (blocks_of new.pending) id) (sym (none_on new id t)) (λ place c at. absurd (none-some c at)))

-- every step keeps it
pub backing_kept : IsKeptOver IsSound HasBacking
backing_kept = record {
  at_begin = λ p last height good id. subst (BackedIn [] id) (sym (none_begun p last height id)) (λ place c at. absurd (none-some c at));
  at_issue = backing_issued;
  at_count = λ board votes sound h few. backing_counted board votes sound h;
  at_promotion = backing_promoted;
}
  where
    none_begun : (p : Parameters) (last : List ℕ) (height : ℕ) (id : List ℕ) → counters_on (begin p last height) id ≡ Blank
    none_begun p last height id = split_on (bytes_eq last id) (λ t. rw t refl) (λ t. rw t refl)
