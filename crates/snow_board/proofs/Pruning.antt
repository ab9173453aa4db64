-- Lemmas on a board that keeps every counter: without those that decided ones exclude, it is the board.
use Rattle.std.proofs.Common.{◌≡◌, ℕ, zero, suc, Bool, true, false, not, ◌&&◌, List, [], ◌∷◌, ◌++◌, length, map, filter, find, bytes_eq, Option, Some, None, option_map, if◌then◌else◌, refl, sym, ap, ◌∙◌}
use Rattle.std.proofs.lemmas.List.{map-append, length-map}
use Rattle.std.specs.Option.{option_map_or}
use Rattle.std.specs.Cmp.Lexicographic.{pointwise}
use Rattle.std.specs.Bool.{beq}
use Rattle.snow_base.specs.declared.block.Header.{Header}
use Rattle.snow_base.specs.declared.block.Vote.{Vote}
use Rattle.snow_base.specs.Model.Identifier.{bits}
use Rattle.snow_base.specs.Model.Ancestry.{votes_below, descends}
use Rattle.snow_flake.specs.Model.Parameters.{Parameters}
use Rattle.snow_flake.specs.Model.Counter.{Counter, Decided, Undecided, Standing, fresh, stepped, admits}
use Rattle.snow_flake.specs.Kept.Instance.{Instance, counter_of, polled}
use Rattle.snow_flake.specs.Model.Rule.{Answer}
use Rattle.snow_board.specs.declared.board.Decision.{Decision}
use Rattle.snow_board.specs.Model.Conflict.{Pending}
use Rattle.snow_board.specs.Model.Conflict.{Counters, Blank, At, with_child, all_polled, chosen, decided_path, decides}
use Rattle.snow_board.specs.Model.Board.{Board, begin, blocks_of, with_counters, with_issued, new_pending, issued}
use Rattle.snow_board.specs.Model.Poll.{with_votes, counted, winner, accepts, rejects, decisions_for, promoted, and_then, accepted_then, settled, poll}
use Rattle.snow_board.specs.Model.Preference.{path_from, end_of, preferred, preferred_path}
use Rattle.snow_board.specs.Laws.Keeping.{Whole, Empty, Node, whole_with_child, whole_polled, seen, WholePending, WholeBoard, whole_begin, seen_pending, seen_board, with_whole, grown_whole, whole_issued, polled_whole, whole_counted, whole_winner, whole_promoted, whole_accepted_then, whole_settled, whole_poll}
use Rattle.snow_board.specs.Laws.KeepingLaw.{Round, Issue, Poll, run, whole_run}
use Rattle.snow_board.proofs.Cases.{split_on, clash}
use Rattle.snow_board.proofs.Excluding.{closed_stays}

-- the counters that they are, without those behind decided ones
pub pruned : Whole → Counters
pruned Empty = Blank
pruned (Node i z o) =
    At (counter_of i)
    (if admits (counter_of i) false then pruned z else Blank)
    (if admits (counter_of i) true then pruned o else Blank)

-- ---- one conflict

-- the bit step of an instance is that of its counter
pub instance_stepped : (p : Parameters) (s : Standing) (final : Bool) (m n : ℕ) → let i : Instance = record { standing = s; final = final } in
    counter_of (polled p i m n) ≡ stepped p (counter_of i) m n
instance_stepped p s true m n = refl
instance_stepped p s false m n = refl

-- one side after a poll
side_polled : (p : Parameters) (votes : List Bool → ℕ) (c : Counter) (m n : ℕ) (side : Bool) (new old : Counters) → new ≡ all_polled p votes old
    → (if admits (stepped p c m n) side then new else Blank)
    ≡ (if admits (stepped p c m n) side then all_polled p votes (if admits c side then old else Blank) else Blank)
side_polled p votes c m n side new old h =
    split_on (admits (stepped p c m n) side)
    (λ t. split_on (admits c side)
    (λ s. rw (t, s) h)
    (λ s. clash (admits (stepped p c m n) side) t (closed_stays p c m n side s)))
    (λ t. rw t refl)

-- a poll
pruned_polled : (p : Parameters) (votes : List Bool → ℕ) (whole : Whole) → pruned (whole_polled p votes whole) ≡ all_polled p votes (pruned whole)
unfolding pruned whole_polled all_polled
pruned_polled p votes Empty = refl
pruned_polled p votes (Node i z o) =
    let m = votes (false ∷ []) in
    let n = votes (true ∷ []) in
    let c = counter_of i in
    let zeros : List Bool → ℕ = λ front. votes (false ∷ front) in
    let ones : List Bool → ℕ = λ front. votes (true ∷ front) in
    let below_zero = pruned (whole_polled p zeros z) in
    let below_one = pruned (whole_polled p ones o) in
    ap (λ next. At next (if admits next false then below_zero else Blank) (if admits next true then below_one else Blank)) (instance_stepped p i.standing i.final m n)
    ∙ (λ k. At (stepped p c m n)
    (side_polled p zeros c m n false below_zero (pruned z) (pruned_polled p zeros z) k)
    (side_polled p ones c m n true below_one (pruned o) (pruned_polled p ones o) k))

-- one side after an issue
side_grown : (rest : List Bool) (is_open : Bool) (new old : Counters) → new ≡ with_child rest old
    → (if is_open then new else Blank) ≡ (if is_open then with_child rest (if is_open then old else Blank) else (if is_open then old else Blank))
side_grown rest true new old h = h
side_grown rest false new old h = refl

-- an issue
pruned_grown : (child : List Bool) (whole : Whole) → pruned (whole_with_child child whole) ≡ with_child child (pruned whole)
unfolding pruned whole_with_child with_child
pruned_grown [] whole = refl
pruned_grown (false ∷ rest) Empty = λ k. At (fresh false) (pruned_grown rest Empty k) Blank
pruned_grown (true ∷ rest) Empty = λ k. At (fresh true) Blank (pruned_grown rest Empty k)
pruned_grown (false ∷ rest) (Node i z o) =
    let c = counter_of i in
    λ k. At c (side_grown rest (admits c false) (pruned (whole_with_child rest z)) (pruned z) (pruned_grown rest z) k) (if admits c true then pruned o else Blank)
pruned_grown (true ∷ rest) (Node i z o) =
    let c = counter_of i in
    λ k. At c (if admits c false then pruned z else Blank) (side_grown rest (admits c true) (pruned (whole_with_child rest o)) (pruned o) (pruned_grown rest o) k)

-- the answers don't lead behind a decided counter
chosen_at : (answer : Answer) (c : Counter) (z o y w : Counters) → chosen answer z ≡ chosen answer y → chosen answer o ≡ chosen answer w
    → chosen answer (At c z o) ≡ chosen answer (At c (if admits c false then y else Blank) (if admits c true then w else Blank))
unfolding chosen
chosen_at answer (Decided false) z o y w zeros ones = ap (λ l. false ∷ l) zeros
chosen_at answer (Decided true) z o y w zeros ones = ap (λ l. true ∷ l) ones
chosen_at answer (Undecided s) z o y w zeros ones = λ k. if answer s.preference s.flake then true ∷ ones k else false ∷ zeros k

pruned_chosen : (answer : Answer) (whole : Whole) → chosen answer (seen whole) ≡ chosen answer (pruned whole)
unfolding pruned
pruned_chosen answer Empty = refl
pruned_chosen answer (Node i z o) = chosen_at answer (counter_of i) (seen z) (seen o) (pruned z) (pruned o) (pruned_chosen answer z) (pruned_chosen answer o)

-- nor do decided counters
decided_at : (c : Counter) (z o y w : Counters) → decided_path z ≡ decided_path y → decided_path o ≡ decided_path w
    → decided_path (At c z o) ≡ decided_path (At c (if admits c false then y else Blank) (if admits c true then w else Blank))
unfolding decided_path
decided_at (Decided false) z o y w zeros ones = ap (option_map (λ path. false ∷ path)) zeros
decided_at (Decided true) z o y w zeros ones = ap (option_map (λ path. true ∷ path)) ones
decided_at (Undecided s) z o y w zeros ones = refl

pruned_decided : (whole : Whole) → decided_path (seen whole) ≡ decided_path (pruned whole)
unfolding pruned
pruned_decided Empty = refl
pruned_decided (Node i z o) = decided_at (counter_of i) (seen z) (seen o) (pruned z) (pruned o) (pruned_decided z) (pruned_decided o)

-- ---- the board

abbrev pruned_pending : WholePending → Pending
pruned_pending q = record { block = q.block; counters = pruned q.whole }

abbrev pruned_board : WholeBoard → Board
pruned_board b = record { parameters = b.parameters; last = b.last; height = b.height; counters = pruned b.whole; pending = map pruned_pending b.pending }

-- the blocks are the same
blocks_pruned : (pending : List WholePending) → map (λ q. q.block) pending ≡ blocks_of (map pruned_pending pending)
blocks_pruned [] = refl
blocks_pruned (q ∷ pending) = ap (λ l. q.block ∷ l) (blocks_pruned pending)

blocks_seen : (pending : List WholePending) → map (λ q. q.block) pending ≡ blocks_of (map seen_pending pending)
blocks_seen [] = refl
blocks_seen (q ∷ pending) = ap (λ l. q.block ∷ l) (blocks_seen pending)

same_blocks : (pending : List WholePending) → blocks_of (map seen_pending pending) ≡ blocks_of (map pruned_pending pending)
same_blocks pending = sym (blocks_seen pending) ∙ blocks_pruned pending

-- changes that are the same on each block's counters
pending_changed : (change : List ℕ → Whole → Whole) (other : List ℕ → Counters → Counters) (pending : List WholePending)
    → ((id : List ℕ) (whole : Whole) → pruned (change id whole) ≡ other id (pruned whole))
    → map pruned_pending (map (with_whole change) pending) ≡ map (with_counters other) (map pruned_pending pending)
pending_changed change other [] h = refl
pending_changed change other (q ∷ pending) h =
    λ k. record { block = q.block; counters = h q.block.id q.whole k } ∷ pending_changed change other pending h k

-- an issue
grown_same : (child : Header) (id : List ℕ) (whole : Whole) → pruned (grown_whole child id whole) ≡ with_issued child id (pruned whole)
grown_same child id whole =
    split_on (bytes_eq id child.parent)
    (λ t. rw t (pruned_grown (bits child.id) whole))
    (λ t. rw t refl)

pruned_issued : (board : WholeBoard) (child : Header) → pruned_board (whole_issued board child) ≡ issued (pruned_board board) child
unfolding pruned
pruned_issued board child =
    let pending : map pruned_pending (whole_issued board child).pending ≡ (issued (pruned_board board) child).pending =
    map-append pruned_pending (map (with_whole (grown_whole child)) board.pending) (record { block = child; whole = Empty } ∷ [])
    ∙ ap (λ l. l ++ new_pending child ∷ []) (pending_changed (grown_whole child) (with_issued child) board.pending (grown_same child))
    in
    λ k. record {
      parameters = board.parameters;
      last = board.last;
      height = board.height;
      counters = grown_same child board.last board.whole k;
      pending = pending k;
    }

-- the bit steps of a poll
pruned_counted : (board : WholeBoard) (votes : List Vote) → pruned_board (whole_counted board votes) ≡ counted (pruned_board board) votes
unfolding whole_counted counted
pruned_counted board votes =
    let blocks = map (λ q. q.block) board.pending in
    let same : (id : List ℕ) (whole : Whole) → pruned (polled_whole board.parameters blocks votes id whole) ≡ with_votes board.parameters blocks votes id (pruned whole) =
    λ id whole. pruned_polled board.parameters (votes_below blocks votes id) whole
    in
    let by : List Header → Board = λ blocks. record (pruned_board board) {
      counters = with_votes board.parameters blocks votes board.last (pruned board.whole);
      pending = map (with_counters (with_votes board.parameters blocks votes)) (map pruned_pending board.pending);
    }
    in
    (λ k. record {
      parameters = board.parameters;
      last = board.last;
      height = board.height;
      counters = same board.last board.whole k;
      pending = pending_changed (polled_whole board.parameters blocks votes) (with_votes board.parameters blocks votes) board.pending same k;
    })
    ∙ ap by (blocks_pruned board.pending)

-- tests that are the same on each block find the same
found_same : (test : WholePending → Bool) (other : Pending → Bool) (pending : List WholePending) → ((q : WholePending) → test q ≡ other (pruned_pending q))
    → option_map pruned_pending (find test pending) ≡ find other (map pruned_pending pending)
found_same test other [] h = refl
found_same test other (q ∷ pending) h =
    split_on (test q)
    (λ t. rw (t, sym (h q) ∙ t) refl)
    (λ t. rw (t, sym (h q) ∙ t) (found_same test other pending h))

-- and keep the same
kept_same : (test : WholePending → Bool) (other : Pending → Bool) (pending : List WholePending) → ((q : WholePending) → test q ≡ other (pruned_pending q))
    → map pruned_pending (filter test pending) ≡ filter other (map pruned_pending pending)
kept_same test other [] h = refl
kept_same test other (q ∷ pending) h =
    split_on (test q)
    (λ t. rw (t, sym (h q) ∙ t) (ap (λ l. pruned_pending q ∷ l) (kept_same test other pending h)))
    (λ t. rw (t, sym (h q) ∙ t) (kept_same test other pending h))

-- the winner
pruned_winner : (board : WholeBoard) → option_map pruned_pending (whole_winner board) ≡ winner (pruned_board board)
unfolding whole_winner winner
pruned_winner board =
    found_same (λ q. bytes_eq q.block.parent board.last && decides (seen board.whole) q.block.id)
    (λ q. bytes_eq q.block.parent board.last && decides (pruned board.whole) q.block.id) board.pending
    (λ q. ap (λ path. bytes_eq q.block.parent board.last && option_map_or (λ path. pointwise beq path (bits q.block.id)) path false) (pruned_decided board.whole))

-- its acceptance
pruned_promoted : (board : WholeBoard) (child : WholePending) → pruned_board (whole_promoted board child) ≡ promoted (pruned_board board) (pruned_pending child)
unfolding whole_promoted promoted
pruned_promoted board child =
    let stays : List Header → List ℕ → Bool = λ blocks id. descends blocks child.block.id id && not (bytes_eq id child.block.id) in
    let pending =
    kept_same (λ q. stays (blocks_of (map seen_pending board.pending)) q.block.id) (λ q. stays (blocks_of (map pruned_pending board.pending)) q.block.id) board.pending
    (λ q. ap (λ blocks. stays blocks q.block.id) (same_blocks board.pending))
    in
    ap (λ l. record (pruned_board (whole_promoted board child)) { pending = l }) pending

-- its decisions
rejected_same : (test : List ℕ → Bool) (pending : List WholePending)
    → map rejects (filter (λ q. test q.block.id) (map seen_pending pending)) ≡ map rejects (filter (λ q. test q.block.id) (map pruned_pending pending))
rejected_same test [] = refl
rejected_same test (q ∷ pending) =
    split_on (test q.block.id)
    (λ t. rw t (ap (λ l. rejects (pruned_pending q) ∷ l) (rejected_same test pending)))
    (λ t. rw t (rejected_same test pending))

decisions_same : (board : WholeBoard) (child : WholePending)
    → decisions_for (seen_board board) (seen_pending child) ≡ decisions_for (pruned_board board) (pruned_pending child)
unfolding decisions_for
decisions_same board child =
    let told : List Header → List Decision = λ blocks.
    accepts (pruned_pending child) ∷ map rejects (filter (λ q. not (descends blocks child.block.id q.block.id)) (map pruned_pending board.pending))
    in
    ap (λ l. accepts (seen_pending child) ∷ l)
    (rejected_same (λ id. not (descends (blocks_of (map seen_pending board.pending)) child.block.id id)) board.pending)
    ∙ ap told (same_blocks board.pending)

-- what a board and decisions show
abbrev shown : WholeBoard × List Decision → Board × List Decision
shown r = (pruned_board r.0, r.1)

-- acceptance
pruned_settled : (n : ℕ) (board : WholeBoard) → shown (whole_settled n board) ≡ settled n (pruned_board board)
unfolding whole_settled settled
pruned_settled zero board = refl
pruned_settled (suc n) board =
    by_winner (whole_winner board) (λ child. pruned_settled n (whole_promoted board child) ∙ ap (settled n) (pruned_promoted board child))
    ∙ ap (λ o. accepted_then (pruned_board board) o (settled n)) (pruned_winner board)
  where
    by_winner : (o : Option WholePending)
        → ((child : WholePending) → shown (whole_settled n (whole_promoted board child)) ≡ settled n (promoted (pruned_board board) (pruned_pending child)))
        → shown (whole_accepted_then board o (whole_settled n)) ≡ accepted_then (pruned_board board) (option_map pruned_pending o) (settled n)
    by_winner None after = refl
    by_winner (Some child) after = λ k. and_then (decisions_same board child k) (after child k)

-- a poll
pruned_poll : (board : WholeBoard) (votes : List Vote) → shown (whole_poll board votes) ≡ poll (pruned_board board) votes
unfolding whole_poll poll
pruned_poll board votes =
    pruned_settled (length board.pending) (whole_counted board votes)
    ∙ ap (settled (length board.pending)) (pruned_counted board votes)
    ∙ ap (λ n. settled n (counted (pruned_board board) votes)) (sym (length-map board.pending pruned_pending))

-- issues and polls
pruned_run : (rounds : List Round) (board : WholeBoard) → shown (whole_run rounds board) ≡ run rounds (pruned_board board)
pruned_run [] board = refl
pruned_run (Issue child ∷ rounds) board = pruned_run rounds (whole_issued board child) ∙ ap (run rounds) (pruned_issued board child)
pruned_run (Poll votes ∷ rounds) board =
    ap (and_then (whole_poll board votes).1) (pruned_run rounds (whole_poll board votes).0)
    ∙ ap (λ (r : Board × List Decision). and_then r.1 (run rounds r.0)) (pruned_poll board votes)

-- ---- the preference

pruned_path : (answer : Answer) (id : List ℕ) (whole : Whole) (pending : List WholePending)
    → path_from answer id (seen whole) (map seen_pending pending) ≡ path_from answer id (pruned whole) (map pruned_pending pending)
unfolding path_from
pruned_path answer id whole [] = refl
pruned_path answer id whole (q ∷ later) =
    let on = pruned_path answer q.block.id q.whole later in
    let past = pruned_path answer id whole later in
    λ k. if bytes_eq q.block.parent id && pointwise beq (pruned_chosen answer whole k) (bits q.block.id) then q.block.id ∷ on k else past k

-- ---- the law

-- a board that keeps every counter makes the same decisions, and has the same preference
pub never_read : (p : Parameters) (last : List ℕ) (height : ℕ) (rounds : List Round) →
    let kept : WholeBoard × List Decision = whole_run rounds (whole_begin p last height) in
    let plain : Board × List Decision = run rounds (begin p last height) in
    (kept.1 ≡ plain.1)
    × ((answer : Answer) → preferred answer (seen_board kept.0) ≡ preferred answer plain.0)
    × ((answer : Answer) → preferred_path answer (seen_board kept.0) ≡ preferred_path answer plain.0)
unfolding pruned
never_read p last height rounds =
    let kept = whole_run rounds (whole_begin p last height) in
    let same : shown kept ≡ run rounds (begin p last height) = pruned_run rounds (whole_begin p last height) in
    let board : pruned_board kept.0 ≡ (run rounds (begin p last height)).0 = ap (λ r. r.0) same in
    let path : (answer : Answer) → preferred_path answer (seen_board kept.0) ≡ preferred_path answer (pruned_board kept.0) =
    λ answer. pruned_path answer kept.0.last kept.0.whole kept.0.pending
    in (
      ap (λ r. r.1) same,
      λ answer. ap (end_of kept.0.last) (path answer) ∙ ap (preferred answer) board,
      λ answer. path answer ∙ ap (preferred_path answer) board,
    )
