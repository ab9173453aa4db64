-- Lemmas on acceptance, which moves no preference: the block that is accepted is the first on the preferred path.
use Rattle.std.proofs.Common.{◌≡◌, ℕ, zero, suc, ◌<◌, Bool, true, false, not, ◌&&◌, ◌||◌, List, [], ◌∷◌, ◌++◌, length, get_or, reverse, filter, find, bytes_eq, All, Option, Some, None, is_some, refl, sym, ap, subst, ◌∙◌}
use Rattle.std.specs.Bool.{beq}
use Rattle.std.specs.Cmp.Lexicographic.{pointwise}
use Rattle.std.specs.Option.{option_map_or}
use Rattle.std.proofs.lemmas.Bool.{and_parts, or_parts, or_right}
use Rattle.std.proofs.lemmas.List.{get_or-map, length-map}
use Rattle.std.proofs.lemmas.List.Elements.{All-head, All-tail}
use Rattle.std.proofs.lemmas.Option.{none-some, same_Some}
use Rattle.snow_base.specs.declared.block.Header.{Header}
use Rattle.snow_base.specs.Model.Identifier.{bits}
use Rattle.snow_base.specs.Model.Ancestry.{line_in, descends}
use Rattle.snow_flake.specs.Model.Rule.{Answer}
use Rattle.snow_board.specs.Model.Conflict.{Pending}
use Rattle.snow_board.specs.Model.Conflict.{Counters, decided_path, decides, leads_to}
use Rattle.snow_board.specs.Model.Board.{Board, blocks_of}
use Rattle.snow_board.specs.Kept.Grown.{IsGrown}
use Rattle.snow_board.specs.Model.Poll.{winner, promoted, settled}
use Rattle.snow_board.specs.Model.Preference.{path_from, preferred_path, preferred, end_of}
use Rattle.snow_board.proofs.Cases.{split_on, clash, same_id}
use Rattle.snow_board.proofs.Grown.{has_child, latest_childless, grown_before}
use Rattle.snow_board.proofs.Kept.{descendants_grown}
use Rattle.snow_board.proofs.Lines.{line_of}
use Rattle.snow_board.proofs.Lookup.{won, reversed_around}
use Rattle.snow_board.proofs.Standing.{any-reverse}
use Rattle.snow_board.proofs.Settled.{settled_done, settled_won}
use Rattle.snow_tree.proofs.Descending.{line_at, descends_at, last_descends}
use Rattle.snow_tree.proofs.Left.{own}
use Rattle.snow_topo.proofs.Won.{path_chosen}

-- where decided counters lead to one identifier, they decide as they lead
leads_decided : (answer : Answer) (c : Counters) (child id : List ℕ) → decides c child ≡ true → leads_to answer c id ≡ decides c id
leads_decided answer c child id h =
    sym (ap (λ o. option_map_or (λ path. pointwise beq path (bits id)) o false) (path_chosen answer c (some (decided_path c) h)))
  where
    some : (o : Option (List Bool)) → option_map_or (λ path. pointwise beq path (bits child)) o false ≡ true → is_some o ≡ true
    some None h = absurd cc
    some (Some x) h = refl

-- the first step of a path, and what is around it
record IsStep (answer : Answer) (last : List ℕ) (c : Counters) (child : Pending) (pending : List Pending) : Type 0 where
  pub front : List Pending
  pub back : List Pending
  pub is : pending ≡ front ++ child ∷ back
  pub path : path_from answer last c pending ≡ child.block.id ∷ path_from answer child.block.id child.counters back

first_step : (answer : Answer) (last : List ℕ) (c : Counters) (child : Pending) (pending : List Pending) → ((id : List ℕ) → leads_to answer c id ≡ decides c id)
    → find (λ q. bytes_eq q.block.parent last && decides c q.block.id) pending ≡ Some child → IsStep answer last c child pending
unfolding path_from
first_step answer last c child [] leads h = absurd (none-some child h)
first_step answer last c child (q ∷ pending) leads h =
    split_on (bytes_eq q.block.parent last && decides c q.block.id)
    (λ t.
    let k = rw t at h in
    let same : q ≡ child = same_Some q child k in
    let on : (bytes_eq q.block.parent last && leads_to answer c q.block.id) ≡ true = ap (λ b. bytes_eq q.block.parent last && b) (leads q.block.id) ∙ t in
    record { front = []; back = pending; is = ap (λ x. x ∷ pending) same; path = rw on (ap (λ (x : Pending). x.block.id ∷ path_from answer x.block.id x.counters pending) same) })
    (λ t.
    let k = rw t at h in
    let off : (bytes_eq q.block.parent last && leads_to answer c q.block.id) ≡ false = ap (λ b. bytes_eq q.block.parent last && b) (leads q.block.id) ∙ t in
    let rest = first_step answer last c child pending leads k in
    record { front = q ∷ rest.front; back = rest.back; is = ap (λ l. q ∷ l) rest.is; path = rw off rest.path })

-- a path goes on past blocks of which none is a child
childless_front : (answer : Answer) (id : List ℕ) (c : Counters) (front back : List Pending) → has_child (blocks_of front) id ≡ false
    → path_from answer id c (front ++ back) ≡ path_from answer id c back
unfolding path_from
childless_front answer id c [] back h = refl
childless_front answer id c (q ∷ front) back h =
    let parts = or_parts (bytes_eq q.block.parent id) (has_child (blocks_of front) id) h in
    rw parts.0 (childless_front answer id c front back parts.1)

-- where all children of what descends from a block stay, a path from there stays
path_stays : (answer : Answer) (keep : List ℕ → Bool) (under : List ℕ → Bool) (id : List ℕ) (c : Counters) (pending : List Pending)
    → All (λ q. under q.block.parent ≡ true → keep q.block.id ≡ true) pending → ((x : List ℕ) → keep x ≡ true → under x ≡ true) → under id ≡ true
    → path_from answer id c (filter (λ q. keep q.block.id) pending) ≡ path_from answer id c pending
unfolding path_from
path_stays answer keep under id c [] all down here = refl
path_stays answer keep under id c (q ∷ pending) all down here =
    let first : under q.block.parent ≡ true → keep q.block.id ≡ true = All-head (λ q. under q.block.parent ≡ true → keep q.block.id ≡ true) q pending all in
    let rest : All (λ q. under q.block.parent ≡ true → keep q.block.id ≡ true) pending = All-tail (λ q. under q.block.parent ≡ true → keep q.block.id ≡ true) q pending all in
    split_on (bytes_eq q.block.parent id && leads_to answer c q.block.id)
    (λ t.
    let parts = and_parts (bytes_eq q.block.parent id) (leads_to answer c q.block.id) t in
    let k : keep q.block.id ≡ true = first (ap under (same_id q.block.parent id parts.0) ∙ here) in
    rw (k, t) (ap (λ l. q.block.id ∷ l) (path_stays answer keep under q.block.id q.counters pending rest down (down q.block.id k))))
    (λ t.
    let deeper = path_stays answer keep under id c pending rest down here in
    split_on (keep q.block.id)
    (λ k. rw (k, t) deeper)
    (λ k. rw (k, t) deeper))

-- after an acceptance the path is that of before without its first block
path_promoted : (answer : Answer) (board : Board) (child : Pending) → IsGrown board.last (reverse (blocks_of board.pending)) → winner board ≡ Some child
    → preferred_path answer board ≡ child.block.id ∷ preferred_path answer (promoted board child)
unfolding winner promoted
path_promoted answer board child g h =
    let w = won board child g h in
    let c = child.block.id in
    let bs = blocks_of board.pending in
    let keep : List ℕ → Bool = λ id. descends bs c id && not (bytes_eq id c) in
    let step = first_step answer board.last board.counters child board.pending (λ id. leads_decided answer board.counters c id w.decided) h in
    let whole : reverse bs ≡ reverse (blocks_of step.back) ++ child.block ∷ reverse (blocks_of step.front) = ap (λ l. reverse (blocks_of l)) step.is ∙ reversed_around step.front step.back child in
    let before = grown_before board.last (reverse (blocks_of step.back)) (child.block ∷ reverse (blocks_of step.front)) (subst (IsGrown board.last) whole g) in
    let parts = or_parts (bytes_eq child.block.parent c) (has_child (reverse (blocks_of step.front)) c) (latest_childless board.last child.block (reverse (blocks_of step.front)) before) in
    let passed : path_from answer c child.counters board.pending ≡ path_from answer c child.counters step.back =
    ap (path_from answer c child.counters) step.is
    ∙ childless_front answer c child.counters step.front (child ∷ step.back) (sym (any-reverse (λ b. bytes_eq b.parent c) (blocks_of step.front)) ∙ parts.1)
    ∙ childless_front answer c child.counters (child ∷ []) step.back (alone (bytes_eq child.block.parent c) parts.0)
    in
    let own_line : line_in (reverse bs) c ≡ child.block ∷ line_in (reverse bs) child.block.parent =
    subst (λ l. line_in l c ≡ child.block ∷ line_in l child.block.parent) (sym w.is) (line_of board.last w.later child.block w.earlier (subst (IsGrown board.last) w.is g))
    in
    let stays : All (λ q. descends bs c q.block.parent ≡ true → keep q.block.id ≡ true) board.pending =
    λ k d l under.
    let q = get_or board.pending k d in
    let within : k < length bs = subst (λ n. k < n) (sym (length-map board.pending (λ q. q.block))) l in
    let here : get_or bs k d.block ≡ q.block = get_or-map (λ q. q.block) board.pending k d d.block l in
    let below : descends bs c q.block.id ≡ true =
    subst (λ (b : Header). descends bs c b.parent ≡ true → descends bs c b.id ≡ true) here
    (λ u. descends_at board.last bs k d.block c g within ∙ or_right (bytes_eq (get_or bs k d.block).id c) (descends bs c (get_or bs k d.block).parent) u) under
    in
    let other : bytes_eq q.block.id c ≡ false =
    split_on (bytes_eq q.block.id c)
    (λ t.
    let lines : get_or bs k d.block ∷ line_in (reverse bs) (get_or bs k d.block).parent ≡ child.block ∷ line_in (reverse bs) child.block.parent =
    sym (line_at board.last bs k d.block g within) ∙ ap (λ (b : Header). line_in (reverse bs) b.id) here ∙ ap (line_in (reverse bs)) (same_id q.block.id c t) ∙ own_line
    in
    let same : get_or bs k d.block ≡ child.block = cc in
    clash (descends bs c board.last) (ap (descends bs c) (sym w.parent ∙ ap (λ (b : Header). b.parent) (sym same ∙ here)) ∙ under) (last_descends board.last bs c g))
    (λ t. t)
    in
    rw (below, other) refl
    in
    step.path
    ∙ ap (λ l. c ∷ l)
    (sym passed
    ∙ sym (path_stays answer keep (descends bs c) c child.counters board.pending stays (λ x k. (and_parts (descends bs c x) (not (bytes_eq x c)) k).0) (own bs c w.pending)))
  where
    alone : (t : Bool) → t ≡ false → (t || false) ≡ false
    alone t e = ap (λ b. b || false) e

-- so the preference stays
pub preferred_settled : (answer : Answer) (n : ℕ) (board : Board) → IsGrown board.last (reverse (blocks_of board.pending))
    → preferred answer (settled n board).0 ≡ preferred answer board
unfolding settled promoted
preferred_settled answer n board g = by n board (winner board) refl g
  where
    by : (n : ℕ) (board : Board) (o : Option Pending) → winner board ≡ o → IsGrown board.last (reverse (blocks_of board.pending))
        → preferred answer (settled n board).0 ≡ preferred answer board
    by n board None e g = ap (λ r. preferred answer r.0) (settled_done n board e)
    by zero board (Some child) e g = refl
    by (suc n) board (Some child) e g =
        ap (λ r. preferred answer r.0) (settled_won n board child e)
        ∙ by n (promoted board child) (winner (promoted board child)) refl (descendants_grown board.last child.block.id board.pending g)
        ∙ sym (ap (end_of board.last) (path_promoted answer board child g e))
