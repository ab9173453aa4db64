-- What peers are served follows the board: at an issue, at one that is taken back, and at a poll.
use Rattle.std.proofs.Common.{◌≡◌, ℕ, Bool, true, false, not, ◌||◌, List, [], ◌∷◌, ◌++◌, map, filter, find, is_some, bytes_eq, refl, sym, ap, ◌∙◌}
use Rattle.std.specs.List.{list_any}
use Rattle.std.proofs.lemmas.Bool.{or_parts}
use Rattle.std.proofs.lemmas.List.{map-append}
use Rattle.snow_base.specs.declared.block.Header.{Header}
use Rattle.snow_base.specs.declared.block.Vote.{Vote}
use Rattle.snow_board.specs.declared.board.Decision.{Decision}
use Rattle.snow_flake.specs.Model.Parameters.{Parameters}
use Rattle.snow_board.specs.Model.Board.{Board, begin, blocks_of, issued}
use Rattle.snow_board.specs.Kept.Grown.{has_block}
use Rattle.snow_board.specs.Model.Poll.{poll}
use Rattle.snow_board.specs.Laws.Reached.{MayIssue}
use Rattle.snow_board.proofs.Cases.{split_on, clash, id_itself}
use Rattle.snow_board.proofs.Children.{some_height}
use Rattle.snow_board.proofs.Invariant.{blocks_issued}
use Rattle.snow_chain.specs.Model.Chain.{Held}
use Rattle.snow_getter.specs.declared.served.Served.{Served}
use Rattle.snow_getter.specs.Model.Serving.{Serving, is_block, is_pending, serving_from, without, after_rejected}
use Rattle.snow_node.specs.Clauses.Matching.{IsSteady}
use Rattle.snow_node.specs.Model.Supplying.{Link, link, served_link, Serves, with_issued, with_decision, with_decisions}
use Rattle.snow_node.specs.Model.Telling as chain
use Rattle.snow_node.proofs.Following.{turned}
use Rattle.snow_node.proofs.Undecided.{is_decided, undecided_left}

-- ---- blocks by identifier and parent

-- what has an identifier, among what is served and among headers
served_named : (blocks : List Served) (id : List ℕ) → is_some (find (is_block id) blocks) ≡ list_any (λ (p : Link). bytes_eq p.0 id) (map served_link blocks)
served_named [] id = refl
served_named (b ∷ blocks) id = split_on (bytes_eq b.id id) (λ t. rw t refl) (λ t. rw t (served_named blocks id))

block_named : (blocks : List Header) (id : List ℕ) → has_block blocks id ≡ list_any (λ (p : Link). bytes_eq p.0 id) (map link blocks)
block_named [] id = refl
block_named (b ∷ blocks) id = ap (λ t. bytes_eq b.id id || t) (block_named blocks id)

-- a test of identifiers and parents
linked : {A : Type 0} (of : A → Link) (test : Link → Bool) (xs : List A) → map of (filter (λ x. test (of x)) xs) ≡ filter test (map of xs)
linked of test [] = refl
linked of test (x ∷ xs) =
    split_on (test (of x))
    (λ t. rw t (ap (λ l. of x ∷ l) (linked of test xs)))
    (λ t. rw t (linked of test xs))

-- ---- the beginning, and an issue

-- a node that begins has no pending block and serves none
pub serves_new : (p : Parameters) (last : List ℕ) (height : ℕ) (board : Board) (served : Serving) → board ≡ begin p last height → served ≡ serving_from last → Serves board served
serves_new p last height board served e f = rw (e, f) refl

-- a block that may be issued isn't served as pending
pub new_to_serve : (board : Board) (served : Serving) (block : Header) → Serves board served → MayIssue board block → is_pending served block.id ≡ false
new_to_serve board served block serves may =
    let on = or_parts (bytes_eq board.last block.id) (has_block (blocks_of board.pending) block.id) (sym (some_height board block.id) ∙ ap (λ o. is_some o) may.unknown) in
    served_named served.pending block.id
    ∙ ap (list_any (λ (p : Link). bytes_eq p.0 block.id)) serves
    ∙ sym (block_named (blocks_of board.pending) block.id)
    ∙ on.1

-- it is served once it was issued
pub serves_issued : (board now : Board) (served after : Serving) (block : Header) (bytes : List ℕ) → Serves board served → now ≡ issued board block → after ≡ with_issued served block bytes
    → Serves now after
serves_issued board now served after block bytes serves e f =
    rw (e, f) (
    map-append served_link served.pending (record { id = block.id; parent = block.parent; bytes = bytes } ∷ [])
    ∙ ap (λ l. l ++ (block.id, block.parent) ∷ []) serves
    ∙ sym (map-append link (blocks_of board.pending) (block ∷ []))
    ∙ sym (ap (map link) (blocks_issued board block)))

-- nothing changed
pub serves_as : (board now : Board) (served after : Serving) → now ≡ board → after ≡ served → Serves board served → Serves now after
serves_as board now served after e f serves = rw (e, f) serves

-- where it was taken back, all is as before
without_new : (blocks : List Served) (b : Served) → is_some (find (is_block b.id) blocks) ≡ false → without b.id (blocks ++ b ∷ []) ≡ blocks
without_new [] b none = rw (id_itself b.id) refl
without_new (c ∷ blocks) b none =
    split_on (bytes_eq c.id b.id)
    (λ t. let some = rw t at none in clash true refl some)
    (λ t. let rest = rw t at none in rw t (ap (λ l. c ∷ l) (without_new blocks b rest)))

pub served_back : (board : Board) (served mid after : Serving) (block : Header) (bytes : List ℕ) → Serves board served → MayIssue board block
    → mid ≡ with_issued served block bytes → after ≡ after_rejected mid block.id → after ≡ served
served_back board served mid after block bytes serves may e f =
    let new : Served = record { id = block.id; parent = block.parent; bytes = bytes } in
    f ∙ ap (λ (s : Serving). after_rejected s block.id) e
    ∙ ap (λ (l : List Served). record { first = served.first; pending = l; accepted = served.accepted }) (without_new served.pending new (new_to_serve board served block serves may))

-- ---- a poll

-- one decision more
one_decided : (d : Decision) (decisions : List Decision) (blocks : List Served)
    → filter (λ b. not (is_decided decisions b.id)) (without d.id blocks) ≡ filter (λ b. not (is_decided (d ∷ decisions) b.id)) blocks
one_decided d decisions [] = refl
one_decided d decisions (b ∷ blocks) =
    split_on (bytes_eq d.id b.id)
    (λ t. rw (turned b.id d.id ∙ t, t) (one_decided d decisions blocks))
    (λ t. split_on (is_decided decisions b.id)
    (λ u. rw (turned b.id d.id ∙ t, t, u) (one_decided d decisions blocks))
    (λ u. rw (turned b.id d.id ∙ t, t, u) (ap (λ l. b ∷ l) (one_decided d decisions blocks))))

none_decided : (blocks : List Served) → filter (λ b. not (is_decided [] b.id)) blocks ≡ blocks
none_decided [] = refl
none_decided (b ∷ blocks) = ap (λ l. b ∷ l) (none_decided blocks)

-- it is served as pending no more
decided_out : (served : Serving) (d : Decision) → (with_decision served d).pending ≡ without d.id served.pending
decided_out served d = split_on d.accepted (λ t. rw t refl) (λ t. rw t refl)

-- what is decided is served as pending no more
undecided_served : (served : Serving) (decisions : List Decision) → (with_decisions served decisions).pending ≡ filter (λ b. not (is_decided decisions b.id)) served.pending
undecided_served served [] = sym (none_decided served.pending)
undecided_served served (d ∷ decisions) =
    undecided_served (with_decision served d) decisions
    ∙ ap (filter (λ b. not (is_decided decisions b.id))) (decided_out served d)
    ∙ one_decided d decisions served.pending

-- the board and what is served after a poll
pub serves_polled : (board now : Board) (held states : Held) (served after : Serving) (votes : List Vote) (decisions : List Decision) → IsSteady board held → IsSteady now states
    → now ≡ (poll board votes).0 → states ≡ chain.with_decisions held (poll board votes).1 → decisions ≡ (poll board votes).1 → after ≡ with_decisions served decisions
    → Serves board served → Serves now after
serves_polled board now held states served after votes decisions steady then e f d g serves =
    let told = (poll board votes).1 in
    let test : Link → Bool = λ p. not (is_decided told p.0) in
    ap (λ (s : Serving). map served_link s.pending) (g ∙ ap (with_decisions served) d)
    ∙ ap (map served_link) (undecided_served served told)
    ∙ linked served_link test served.pending
    ∙ ap (filter test) serves
    ∙ sym (linked link test (blocks_of board.pending))
    ∙ sym (ap (map link) (undecided_left board now held states votes steady then e f))
