-- Lemmas on votes that climb past the blocks, the latest first: those that came to a block are the votes below it.
use Rattle.std.proofs.Common.{◌≡◌, ℕ, ◌+◌, Bool, true, false, List, [], ◌∷◌, ◌++◌, map, reverse, sum_by, find, bytes_eq, Option, Some, None, option_map, refl, sym, ap, ◌∙◌, subst, append_assoc, append-nil, if◌then◌else◌}
use mathlib.Core.List.{reverse-cons}
use Rattle.std.proofs.lemmas.List.Folds.{fold-map}
use Rattle.std.proofs.lemmas.Bool.{or_parts, or_left, or_right}
use Rattle.snow_base.specs.declared.block.Header.{Header}
use Rattle.snow_base.specs.declared.block.Vote.{Vote}
use Rattle.snow_base.specs.Model.Ancestry.{line_in, child_on, begins_with, is_below, votes_below}
use Rattle.snow_flake.specs.Model.Parameters.{Parameters}
use Rattle.snow_board.specs.declared.cursor.Cursor.{Cursor}
use Rattle.snow_board.specs.Model.Conflict.{Pending}
use Rattle.snow_board.specs.Model.Conflict.{all_polled}
use Rattle.snow_board.specs.Model.Board.{Board, blocks_of, with_counters}
use Rattle.snow_board.specs.Model.Poll.{with_votes, counted}
use Rattle.snow_board.specs.Kept.Cursors.{started, moved, moved_past, child_at, votes_for, votes_at, polled}
use Rattle.snow_board.specs.Kept.Grown.{has_block, is_on, IsGrown}
use Rattle.snow_board.proofs.Cases.{split_on, same_id, id_itself}
use Rattle.snow_board.proofs.Grown.{has_child, older, not_last, grown_before, latest_childless, no_child_on, line_passes}

-- ---- one vote

-- a cursor after blocks that stand with the latest first
abbrev climbed : List Header → Cursor → Cursor
climbed [] c = c
climbed (b ∷ earlier) c = climbed earlier (moved b c)

-- past some blocks and then past earlier ones
climbed-append : (later earlier : List Header) (c : Cursor) → climbed (later ++ earlier) c ≡ climbed earlier (climbed later c)
climbed-append [] earlier c = refl
climbed-append (b ∷ later) earlier c = climbed-append later earlier (moved b c)

-- the blocks in order of issue are passed from behind
climbed-reverse : (blocks : List Header) (c : Cursor) → climbed (reverse blocks) c ≡ moved_past blocks c
climbed-reverse [] c = refl
climbed-reverse (b ∷ later) c =
    ap (λ l. climbed l c) (reverse-cons b later)
    ∙ climbed-append (reverse later) (b ∷ []) c
    ∙ ap (moved b) (climbed-reverse later c)

-- the child of the parent on the line of what is sought
abbrev child_in : List Header → List ℕ → List ℕ → Option (List ℕ)
child_in blocks parent id = option_map (λ b. b.id) (find (λ b. bytes_eq b.parent parent) (line_in blocks id))

-- a block that is sought, and one that isn't
moved_hit : (b : Header) (c : Cursor) → bytes_eq b.id c.sought ≡ true → moved b c ≡ record c { sought = b.parent; passed = b.id }
moved_hit b c t = rw t refl

moved_miss : (b : Header) (c : Cursor) → bytes_eq b.id c.sought ≡ false → moved b c ≡ c
moved_miss b c t = rw t refl

-- past blocks that aren't the parent, the cursor has found the child on its line
found : (done rest : List Header) (parent : List ℕ) (c : Cursor) → has_block done parent ≡ false → has_child rest parent ≡ false
    → child_at parent (climbed done c) ≡ (if bytes_eq c.sought parent then child_at parent c else child_in (done ++ rest) parent c.sought)
found [] rest parent c other none =
    split_on (bytes_eq c.sought parent)
    (λ t. rw t refl)
    (λ t. rw (t, no_child_on rest parent c.sought none) refl)
found (b ∷ done) rest parent c other none =
    let parts = or_parts (bytes_eq b.id parent) (has_block done parent) other in
    let ends : Cursor → Option (List ℕ) = λ x. child_at parent (climbed done x) in
    split_on (bytes_eq b.id c.sought)
    (λ t.
    let elsewhere : bytes_eq c.sought parent ≡ false = ap (λ i. bytes_eq i parent) (sym (same_id b.id c.sought t)) ∙ parts.0 in
    ap ends (moved_hit b c t)
    ∙ found done rest parent (record c { sought = b.parent; passed = b.id }) parts.1 none
    ∙ rw (t, elsewhere) (split_on (bytes_eq b.parent parent) (λ s. rw (s, parts.0) refl) (λ s. rw s refl)))
    (λ t. ap ends (moved_miss b c t) ∙ found done rest parent c parts.1 none ∙ rw t refl)

-- a vote that came to the parent by a child, where it climbed past the later blocks
found_vote : (done rest : List Header) (parent : List ℕ) (v : Vote) → has_block done parent ≡ false → has_child rest parent ≡ false
    → child_at parent (climbed done (started v)) ≡ child_in (done ++ rest) parent v.id
found_vote done rest parent v other none =
    found done rest parent (started v) other none
    ∙ split_on (bytes_eq v.id parent)
    (λ t.
    let own : child_in (done ++ rest) parent v.id ≡ None =
    ap (λ l. option_map (λ b. b.id) (find (λ b. bytes_eq b.parent parent) l))
    (line_passes done rest v.id (ap (has_block done) (same_id v.id parent t) ∙ other))
    ∙ ap (λ o. option_map (λ b. b.id) o) (no_child_on rest parent v.id none)
    in
    rw (t, own) refl)
    (λ t. rw t refl)

-- a count for the child on a line is a count below the parent
count_below : (o : Option Header) (n : ℕ) (front : List Bool) → votes_for (option_map (λ b. b.id) o) n front ≡ (if begins_with front o then n else 0)
count_below None n front = refl
count_below (Some b) n front = refl

-- a cursor's count stays
pub count_kept : (blocks : List Header) (c : Cursor) → (moved_past blocks c).count ≡ c.count
count_kept [] c = refl
count_kept (b ∷ later) c =
    split_on (bytes_eq b.id (moved_past later c).sought)
    (λ t. ap (λ x. x.count) (moved_hit b (moved_past later c) t) ∙ count_kept later c)
    (λ t. ap (λ x. x.count) (moved_miss b (moved_past later c) t) ∙ count_kept later c)

-- ---- all votes

-- the votes that came to a parent past the later blocks, over all blocks
came : (later : List Header) (rest : List Header) (blocks : List Header) (votes : List Vote) (parent : List ℕ)
    → reverse later ++ rest ≡ reverse blocks → has_block (reverse later) parent ≡ false → has_child rest parent ≡ false
    → votes_at (map (moved_past later) (map started votes)) parent ≡ votes_below blocks votes parent
came later rest blocks votes parent whole other none =
    λ i front.
    (fold-map (λ a c. a + votes_for (child_at parent c) c.count front) (moved_past later) 0 (map started votes)
    ∙ fold-map (λ a c. a + votes_for (child_at parent (moved_past later c)) (moved_past later c).count front) started 0 votes
    ∙ ap (λ f. sum_by f votes) (λ j v. one front v j)) i
  where
    child : (v : Vote) → child_at parent (moved_past later (started v)) ≡ option_map (λ b. b.id) (child_on blocks parent v.id)
    child v =
        ap (child_at parent) (sym (climbed-reverse later (started v)))
        ∙ found_vote (reverse later) rest parent v other none
        ∙ ap (λ l. child_in l parent v.id) whole

    one : (front : List Bool) (v : Vote) → votes_for (child_at parent (moved_past later (started v))) (moved_past later (started v)).count front
        ≡ (if is_below blocks parent front v.id then v.count else 0)
    one front v =
        ap (λ o. votes_for o (moved_past later (started v)).count front) (child v)
        ∙ ap (λ n. votes_for (option_map (λ b. b.id) (child_on blocks parent v.id)) n front) (count_kept later (started v))
        ∙ count_below (child_on blocks parent v.id) v.count front

-- the votes that came to the last accepted block are those below it
pub came_last : (last : List ℕ) (blocks : List Header) (votes : List Vote) → IsGrown last (reverse blocks)
    → votes_at (map (moved_past blocks) (map started votes)) last ≡ votes_below blocks votes last
came_last last blocks votes g = came blocks [] blocks votes last (append-nil (reverse blocks)) (not_last last (reverse blocks) g) refl

-- the votes that came to a pending block are those below it
came_pending : (last : List ℕ) (later : List Header) (b : Header) (earlier blocks : List Header) (votes : List Vote) → IsGrown last (reverse blocks)
    → reverse later ++ b ∷ earlier ≡ reverse blocks
    → votes_at (map (moved_past later) (map started votes)) b.id ≡ votes_below blocks votes b.id
came_pending last later b earlier blocks votes g whole =
    let grown : IsGrown last (reverse later ++ b ∷ earlier) = subst (IsGrown last) (sym whole) g in
    let on : is_on last (b ∷ earlier) b.id ≡ true =
    or_right (bytes_eq last b.id) (has_block (b ∷ earlier) b.id) (or_left (bytes_eq b.id b.id) (has_block earlier b.id) (id_itself b.id))
    in
    came later (b ∷ earlier) blocks votes b.id whole (older last (reverse later) (b ∷ earlier) b.id grown on)
    (latest_childless last b earlier (grown_before last (reverse later) (b ∷ earlier) grown))

-- each pending block takes the bit step with the votes below it
polled_is : (last : List ℕ) (p : Parameters) (votes : List Vote) (blocks earlier : List Header) (later : List Pending) → IsGrown last (reverse blocks)
    → reverse (blocks_of later) ++ earlier ≡ reverse blocks
    → polled p (map started votes) later ≡ map (with_counters (with_votes p blocks votes)) later
unfolding polled
polled_is last p votes blocks earlier [] g whole = refl
polled_is last p votes blocks earlier (q ∷ later) g whole =
    let behind : reverse (blocks_of later) ++ q.block ∷ earlier ≡ reverse blocks =
    sym (append_assoc (reverse (blocks_of later)) (q.block ∷ []) earlier)
    ∙ ap (λ l. l ++ earlier) (sym (reverse-cons q.block (blocks_of later)))
    ∙ whole
    in
    ap (λ f. record q { counters = all_polled p f q.counters } ∷ polled p (map started votes) later)
    (came_pending last (blocks_of later) q.block earlier blocks votes g behind)
    ∙ ap (λ l. with_counters (with_votes p blocks votes) q ∷ l) (polled_is last p votes blocks (q.block ∷ earlier) later g behind)

-- the counters of a board after the walk of the votes
pub counted_is : (board : Board) (votes : List Vote) → IsGrown board.last (reverse (blocks_of board.pending))
    → record board {
      counters = all_polled board.parameters (votes_at (map (moved_past (blocks_of board.pending)) (map started votes)) board.last) board.counters;
      pending = polled board.parameters (map started votes) board.pending;
    } ≡ counted board votes
unfolding counted
counted_is board votes g =
    let blocks = blocks_of board.pending in
    ap (λ f. record board {
      counters = all_polled board.parameters f board.counters;
      pending = polled board.parameters (map started votes) board.pending;
    }) (came_last board.last blocks votes g)
    ∙ ap (λ l. record board { counters = with_votes board.parameters blocks votes board.last board.counters; pending = l })
    (polled_is board.last board.parameters votes blocks [] board.pending g (append-nil (reverse blocks)))
