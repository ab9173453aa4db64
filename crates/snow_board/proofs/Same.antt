-- Lemmas on votes that are alike: they make the same bit steps, and so the same board.
use Rattle.std.proofs.Common.{◌≡◌, ℕ, ◌+◌, Bool, true, false, ◌||◌, List, [], ◌∷◌, ◌++◌, length, map, filter, sum_by, bytes_eq, if◌then◌else◌, refl, sym, ap, ◌∙◌}
use Rattle.std.specs.List.{list_any}
use Rattle.std.proofs.lemmas.List.Sums.{sum_by-cons}
use Rattle.std.proofs.lemmas.List.Folds.{list_any-append}
use Rattle.std.proofs.lemmas.Bool.{or_left, or_right}
use Rattle.snow_base.specs.declared.block.Header.{Header}
use Rattle.snow_base.specs.declared.block.Vote.{Vote}
use Rattle.snow_base.specs.Model.Ancestry.{is_below, votes_below}
use Rattle.snow_flake.specs.Model.Parameters.{Parameters}
use Rattle.snow_flake.specs.Model.Counter.{Counter, Decided, Undecided, class, voted, concluded, stepped, admits}
use Rattle.snow_board.specs.Model.Conflict.{Counters, Blank, At, all_polled}
use Rattle.snow_board.specs.Model.Board.{Board, blocks_of, with_counters}
use Rattle.snow_board.specs.Model.Poll.{with_votes, counted, settled, poll}
use Rattle.snow_flake.specs.Laws.Alike.{votes_for, AreAlike}
use Rattle.snow_board.specs.Laws.Alike.{GivesAll}
use Rattle.snow_board.specs.declared.board.Decision.{Decision}
use Rattle.snow_board.proofs.Cases.{split_on, clash, same_id, id_itself}

-- ---- the bit step reads counts by class

-- counts of the same classes make the same step
pub same_step : (p : Parameters) (c : Counter) (m0 m1 n0 n1 : ℕ) → class p m0 ≡ class p n0 → class p m1 ≡ class p n1 → stepped p c m0 m1 ≡ stepped p c n0 n1
same_step p (Decided bit) m0 m1 n0 n1 zeros ones = refl
same_step p (Undecided s) m0 m1 n0 n1 zeros ones = λ i. concluded p (voted s (zeros i) (ones i))

-- so they make the same counters of a conflict
pub same_counters : (p : Parameters) (votes others : List Bool → ℕ) (counters : Counters) → ((front : List Bool) → class p (votes front) ≡ class p (others front))
    → all_polled p votes counters ≡ all_polled p others counters
unfolding all_polled
same_counters p votes others Blank alike = refl
same_counters p votes others (At c z o) alike =
    let step = same_step p c (votes (false ∷ [])) (votes (true ∷ [])) (others (false ∷ [])) (others (true ∷ [])) (alike (false ∷ [])) (alike (true ∷ [])) in
    let below_zero = same_counters p (λ front. votes (false ∷ front)) (λ front. others (false ∷ front)) z (λ front. alike (false ∷ front)) in
    let below_one = same_counters p (λ front. votes (true ∷ front)) (λ front. others (true ∷ front)) o (λ front. alike (true ∷ front)) in
    λ i. At (step i) (if admits (step i) false then below_zero i else Blank) (if admits (step i) true then below_one i else Blank)

-- ---- alike on every list of identifiers is alike by every test of identifiers

-- how many of these votes are for identifiers that pass a test
abbrev pub votes_by : (List ℕ → Bool) → List Vote → ℕ
votes_by test votes = sum_by (λ v. if test v.id then v.count else 0) votes

-- whether an identifier is on a list
abbrev is_listed : List (List ℕ) → List ℕ → Bool
is_listed ids id = list_any (λ other. bytes_eq other id) ids

-- an identifier that fails the test isn't listed
not_listed : (test : List ℕ → Bool) (ids : List (List ℕ)) (id : List ℕ) → test id ≡ false → is_listed (filter test ids) id ≡ false
not_listed test [] id h = refl
not_listed test (first ∷ ids) id h =
    split_on (test first)
    (λ t. split_on (bytes_eq first id)
    (λ s. clash (test id) (ap test (sym (same_id first id s)) ∙ t) h)
    (λ s. rw (t, s) (not_listed test ids id h)))
    (λ t. rw t (not_listed test ids id h))

-- one that passes and was there is listed
is_kept : (test : List ℕ → Bool) (ids : List (List ℕ)) (id : List ℕ) → test id ≡ true → is_listed ids id ≡ true → is_listed (filter test ids) id ≡ true
is_kept test [] id t h = h
is_kept test (first ∷ ids) id t h =
    split_on (bytes_eq first id)
    (λ s. let here : test first ≡ true = ap test (same_id first id s) ∙ t in rw (here, s) refl)
    (λ s. let k = rw s at h in
    split_on (test first)
    (λ u. rw (u, s) (is_kept test ids id t k))
    (λ u. rw u (is_kept test ids id t k)))

-- so being listed is passing the test, for what was there
listed : (test : List ℕ → Bool) (ids : List (List ℕ)) (id : List ℕ) → is_listed ids id ≡ true → test id ≡ is_listed (filter test ids) id
listed test ids id h =
    split_on (test id)
    (λ t. t ∙ sym (is_kept test ids id t h))
    (λ t. t ∙ sym (not_listed test ids id t))

-- the identifiers of some votes
abbrev ids_of : List Vote → List (List ℕ)
ids_of votes = map (λ v. v.id) votes

-- votes for identifiers on a list are counted by a test as by the list of those that pass it
by_list : (test : List ℕ → Bool) (ids : List (List ℕ)) (votes : List Vote) → ((id : List ℕ) → is_listed (ids_of votes) id ≡ true → is_listed ids id ≡ true)
    → votes_by test votes ≡ votes_for (filter test ids) votes
by_list test ids [] within = refl
by_list test ids (v ∷ votes) within =
    let here = listed test ids v.id (within v.id (or_left (bytes_eq v.id v.id) (is_listed (ids_of votes) v.id) (id_itself v.id))) in
    let rest = by_list test ids votes (λ id h. within id (or_right (bytes_eq v.id id) (is_listed (ids_of votes) id) h)) in
    sum_by-cons (λ v. if test v.id then v.count else 0) v votes
    ∙ (λ i. (if here i then v.count else 0) + rest i)
    ∙ sym (sum_by-cons (λ v. if is_listed (filter test ids) v.id then v.count else 0) v votes)

-- so votes alike are alike by every test
pub by_test : (p : Parameters) (votes others : List Vote) (test : List ℕ → Bool) → AreAlike p votes others → class p (votes_by test votes) ≡ class p (votes_by test others)
by_test p votes others test alike =
    let ids = ids_of votes ++ ids_of others in
    let found : (id : List ℕ) → is_listed ids id ≡ (is_listed (ids_of votes) id || is_listed (ids_of others) id) =
    λ id. list_any-append (λ other. bytes_eq other id) (ids_of votes) (ids_of others)
    in
    ap (class p) (by_list test ids votes (λ id h. found id ∙ or_left (is_listed (ids_of votes) id) (is_listed (ids_of others) id) h))
    ∙ alike (filter test ids)
    ∙ ap (class p) (sym (by_list test ids others (λ id h. found id ∙ or_right (is_listed (ids_of votes) id) (is_listed (ids_of others) id) h)))

-- ---- the board

-- alike votes make the same counters of a block
same_votes_below : (p : Parameters) (blocks : List Header) (votes others : List Vote) → AreAlike p votes others → with_votes p blocks votes ≡ with_votes p blocks others
same_votes_below p blocks votes others alike = λ i id counters.
    same_counters p (votes_below blocks votes id) (votes_below blocks others id) counters
    (λ front. by_test p votes others (is_below blocks id front) alike) i

-- and so the same board, and the same decisions
pub same_board : (board : Board) (votes others : List Vote) → AreAlike board.parameters votes others → poll board votes ≡ poll board others
unfolding poll counted
same_board board votes others alike =
    let change = same_votes_below board.parameters (blocks_of board.pending) votes others alike in
    λ i. settled (length board.pending) (record board {
      counters = change i board.last board.counters;
      pending = map (with_counters (change i)) board.pending;
    })

-- what a poll leaves is what each alike multiset of votes gives
pub gives_all : (before : Board) (votes : List Vote) (after : Board) (decisions : List Decision)
    → after ≡ (poll before votes).0 → decisions ≡ (poll before votes).1 → GivesAll before votes after decisions
gives_all before votes after decisions board told others alike few =
    let same = same_board before votes others alike in
    (board ∙ ap (λ r. r.0) same, told ∙ ap (λ r. r.1) same)
