-- Lemmas on the child of the last accepted block to which decided counters alone lead.
use Rattle.std.proofs.Common.{◌≡◌, ℕ, ◌<◌, ◌==◌, Bool, true, false, ◌&&◌, List, [], ◌∷◌, length, get_or, find, bytes_eq, position, ltb, slice_get, Option, Some, None, is_some, refl, sym, ap, ◌∙◌, arith}
use Rattle.std.specs.Bool.{beq}
use Rattle.std.specs.Cmp.{booleans_Decides}
use Rattle.std.specs.Cmp.Lexicographic.{pointwise}
use Rattle.std.specs.Option.{option_map, option_map_or}
use Rattle.std.specs.List.{position_or_len}
use Rattle.std.proofs.lemmas.List.{same_lists}
use Rattle.std.proofs.lemmas.List.Folds.{find_at}
use Rattle.std.proofs.lemmas.Option.{none-some, same_Some, slice_get_past}
use Rattle.std.proofs.lemmas.Bool.{ltb-false}
use Rattle.std.proofs.lemmas.Slice.Eq.{slice_eq-Decides}
use Rattle.snow_base.specs.Model.Identifier.{bits, FirstDiffers}
use Rattle.snow_base.proofs.Bits.{length-bits, get_or-bits}
use Rattle.snow_flake.specs.Model.Parameters.{Parameters, AreGood}
use Rattle.snow_flake.specs.Model.Counter.{Decided, Undecided}
use Rattle.snow_flake.specs.Model.Rule.{Answer}
use Rattle.snow_board.specs.Model.Conflict.{Counters, Blank, At, all_polled, chosen, decided_path, decides}
use Rattle.snow_board.specs.Laws.FailingLaw.{failed}
use Rattle.snow_board.specs.Model.Poll.{winner}
use Rattle.snow_board.proofs.Cases.{split_on}
use Rattle.snow_board.proofs.Failing.{fails}
use Rattle.snow_tree.specs.Kept.Held.{Entry, Held, blocks_in, children_of}
use Rattle.snow_topo.specs.Kept.Children.{Kept, counters_in, shown}
use Rattle.snow_topo.specs.Kept.View.{all_pending, view}
use Rattle.snow_topo.specs.Kept.Leading.{HasDecided}

-- ---- identifiers with the same bits

-- those that differ nowhere have the same bits
pub bits_agree : (a b : List ℕ) → FirstDiffers 0 256 a b None → pointwise beq (bits a) (bits b) ≡ true
bits_agree a b h =
    (slice_eq-Decides booleans_Decides (bits a) (bits b) (pointwise beq (bits a) (bits b)) refl).1
    (same_lists (bits a) (bits b) (length-bits a ∙ sym (length-bits b))
    (λ k d l. let small : k < 256 = omega (arith, l, length-bits a) in
    get_or-bits a k d small ∙ h k (omega arith) small ∙ sym (get_or-bits b k d small)))

-- so have those that are the same
pub bits_same : (a b : List ℕ) → a ≡ b → pointwise beq (bits a) (bits b) ≡ true
bits_same a b e = (slice_eq-Decides booleans_Decides (bits a) (bits b) (pointwise beq (bits a) (bits b)) refl).1 (ap bits e)

-- those that differ somewhere have not
pub bits_differ : (a b : List ℕ) (i : ℕ) → FirstDiffers 0 256 a b (Some i) → pointwise beq (bits a) (bits b) ≡ false
bits_differ a b i h =
    split_on (pointwise beq (bits a) (bits b))
    (λ t.
    let same = (slice_eq-Decides booleans_Decides (bits a) (bits b) (pointwise beq (bits a) (bits b)) refl).0 t in
    absurd (h.3 (sym (get_or-bits a i false h.1) ∙ ap (λ l. get_or l i false) same ∙ get_or-bits b i false h.1)))
    (λ t. t)

-- the first at whose place a test holds is found
pub found_at : {X : Type 0} (test : X → Bool) (xs : List X) (at : ℕ) → position test xs ≡ Some at → find test xs ≡ slice_get xs at
found_at test xs at h =
    let place = position_or_len test xs in
    split_on (ltb place (length xs))
    (λ t. let k = rw t at h in find_at test xs ∙ ap (slice_get xs) (same_Some place at k))
    (λ t. let k = rw t at h in absurd (none-some at k))

-- and none where there is no such place
pub found_nowhere : {X : Type 0} (test : X → Bool) (xs : List X) → position test xs ≡ None → find test xs ≡ None
found_nowhere test xs h =
    let place = position_or_len test xs in
    split_on (ltb place (length xs))
    (λ t. let k = rw t at h in absurd (none-some place (sym k)))
    (λ t. find_at test xs ∙ slice_get_past xs place (ltb-false place (length xs) t))

-- ---- decided counters

some_mapped : (f : List Bool → List Bool) (o : Option (List Bool)) → is_some (option_map f o) ≡ is_some o
some_mapped f None = refl
some_mapped f (Some x) = refl

-- decided counters lead where the answers lead
pub path_chosen : (answer : Answer) (c : Counters) → is_some (decided_path c) ≡ true → decided_path c ≡ Some (chosen answer c)
unfolding decided_path chosen
path_chosen answer Blank h = refl
path_chosen answer (At (Undecided s) z o) h = absurd cc
path_chosen answer (At (Decided false) z o) h =
    ap (option_map (λ path. false ∷ path)) (path_chosen answer z (sym (some_mapped (λ path. false ∷ path) (decided_path z)) ∙ h))
path_chosen answer (At (Decided true) z o) h =
    ap (option_map (λ path. true ∷ path)) (path_chosen answer o (sym (some_mapped (λ path. true ∷ path) (decided_path o)) ∙ h))

-- so they lead to an identifier with the bits to which the answers lead
pub decided_chosen : (answer : Answer) (c : Counters) (x : List ℕ) → is_some (decided_path c) ≡ true → chosen answer c ≡ bits x → HasDecided c (Some x)
decided_chosen answer c x h leads =
    λ id.
    ap (λ o. option_map_or (λ path. pointwise beq path (bits id)) o false) (path_chosen answer c h ∙ ap Some leads)

-- where not all are decided they lead to none
pub decided_none : (c : Counters) → is_some (decided_path c) ≡ false → HasDecided c None
decided_none c h = λ id. by id (decided_path c) h
  where
    by : (id : List ℕ) (o : Option (List Bool)) → is_some o ≡ false → option_map_or (λ path. pointwise beq path (bits id)) o false ≡ false
    by id None h = refl
    by id (Some x) h = absurd cc

-- nor where there are none
pub decided_blank : HasDecided Blank None
unfolding bits decided_path
decided_blank = λ id. refl

-- failing decides nothing anew
decided_failed : (p : Parameters) (c : Counters) → AreGood p → decided_path (failed p c) ≡ decided_path c
unfolding decided_path all_polled
decided_failed p Blank good = refl
decided_failed p (At (Decided false) z o) good = ap (option_map (λ path. false ∷ path)) (decided_failed p z good)
decided_failed p (At (Decided true) z o) good = ap (option_map (λ path. true ∷ path)) (decided_failed p o good)
decided_failed p (At (Undecided s) z o) good = rw (fails p (Undecided s) good) refl

-- so what is shown decides what is kept
decides_shown : (p : Parameters) (polls : ℕ) (kept : Kept) (id : List ℕ) → AreGood p → decides (shown p polls kept) id ≡ decides (counters_in kept.conflict) id
decides_shown p polls kept id good =
    ap (λ o. option_map_or (λ path. pointwise beq path (bits id)) o false)
    (split_on (kept.recorded == polls) (λ t. rw t refl) (λ t. rw t (decided_failed p (counters_in kept.conflict) good)))

-- ---- the winner

-- the first pending block that is a child and passes a test is the first child that does
first_child : (p : Parameters) (polls : ℕ) (last : List ℕ) (test : List ℕ → Bool) (pending : List (Entry Kept))
    → option_map (λ q. q.block.id) (find (λ q. bytes_eq q.block.parent last && test q.block.id) (all_pending p polls pending)) ≡ find test (children_of (blocks_in pending) last)
first_child p polls last test [] = refl
first_child p polls last test (e ∷ pending) =
    split_on (bytes_eq e.block.parent last)
    (λ t. rw t (split_on (test e.block.id) (λ s. rw s refl) (λ s. rw s (first_child p polls last test pending))))
    (λ t. rw t (first_child p polls last test pending))

none_found : (ids : List (List ℕ)) → find (λ id. false) ids ≡ None
none_found [] = refl
none_found (id ∷ ids) = none_found ids

-- none wins where decided counters lead nowhere
pub none_wins : (p : Parameters) (polls : ℕ) (root : Kept) (held : Held Kept) → AreGood p → HasDecided (counters_in root.conflict) None
    → option_map (λ q. q.block.id) (winner (view p polls root held)) ≡ None
unfolding winner
none_wins p polls root held good none =
    let ids = children_of (blocks_in held.pending) held.last in
    first_child p polls held.last (decides (shown p polls root)) held.pending
    ∙ (λ i. find (λ id. (decides_shown p polls root id good ∙ none id) i) ids)
    ∙ none_found ids

-- else the first child with the bits to which they lead
pub child_wins : (p : Parameters) (polls : ℕ) (root : Kept) (held : Held Kept) (x : List ℕ) → AreGood p → HasDecided (counters_in root.conflict) (Some x)
    → option_map (λ q. q.block.id) (winner (view p polls root held)) ≡ find (λ id. pointwise beq (bits x) (bits id)) (children_of (blocks_in held.pending) held.last)
unfolding winner
child_wins p polls root held x good is =
    first_child p polls held.last (decides (shown p polls root)) held.pending
    ∙ (λ i. find (λ id. (decides_shown p polls root id good ∙ is id) i) (children_of (blocks_in held.pending) held.last))
