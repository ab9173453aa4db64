-- Lemmas on polls after which boards prefer what they preferred.
use Rattle.std.proofs.Common.{◌≡◌, ℕ, zero, suc, ◌==◌, Bool, ◌&&◌, List, [], ◌∷◌, bytes_eq, Some, slice_get, refl, sym, ap, ◌∙◌, if◌then◌else◌}
use Rattle.std.specs.Bool.{beq}
use Rattle.std.specs.Cmp.Lexicographic.{pointwise}
use Rattle.snow_base.specs.declared.block.Header.{Header}
use Rattle.snow_base.specs.Model.Identifier.{bits}
use Rattle.snow_flake.specs.Model.Parameters.{Parameters, AreGood}
use Rattle.snow_flake.specs.Model.Rule.{Answer}
use Rattle.snow_board.specs.Model.Conflict.{Counters, chosen}
use Rattle.snow_board.specs.Model.Preference.{path_from, preferred, end_of}
use Rattle.snow_board.proofs.Cases.{split_on}
use Rattle.snow_trie.proofs.Chosen.{chosen_failed}
use Rattle.snow_tree.specs.Kept.Held.{Entry, Held, set_load}
use Rattle.snow_topo.specs.Kept.Children.{Kept, counters_in, shown}
use Rattle.snow_topo.specs.Kept.View.{all_pending, view}
use Rattle.snow_topo.specs.Kept.Leading.{leads_in, all_leads}

-- what is shown leads where what is kept leads
pub chosen_shown : (answer : Answer) (p : Parameters) (polls : ℕ) (kept : Kept) → AreGood p → chosen answer (shown p polls kept) ≡ leads_in answer kept
chosen_shown answer p polls kept good =
    split_on (kept.recorded == polls) (λ t. rw t refl) (λ t. rw t (chosen_failed answer p (counters_in kept.conflict) good))

-- a load is written that leads where the one before led
pub leads_set : (answer : Answer) (pending : List (Entry Kept)) (at : ℕ) (e : Entry Kept) (load : Kept) → slice_get pending at ≡ Some e → leads_in answer load ≡ leads_in answer e.load
    → all_leads answer (set_load pending at load) ≡ all_leads answer pending
leads_set answer [] at e load h same = refl
leads_set answer (x ∷ pending) zero e load h same =
    let is : e ≡ x = cc in
    λ i. (x.block, (same ∙ ap (λ (y : Entry Kept). leads_in answer y.load) is) i) ∷ all_leads answer pending
leads_set answer (x ∷ pending) (suc at) e load h same = ap (λ l. (x.block, leads_in answer x.load) ∷ l) (leads_set answer pending at e load h same)

-- a block, and where its children lead
abbrev led : Answer → Entry Kept → Header × List Bool
led answer e = (e.block, leads_in answer e.load)

-- the same blocks that lead to the same bits make one path
path_same : (answer : Answer) (p : Parameters) (m n : ℕ) (id : List ℕ) (c d : Counters) (xs ys : List (Entry Kept)) → AreGood p
    → chosen answer c ≡ chosen answer d → all_leads answer xs ≡ all_leads answer ys
    → path_from answer id c (all_pending p m xs) ≡ path_from answer id d (all_pending p n ys)
unfolding path_from
path_same answer p m n id c d [] [] good leads same = refl
path_same answer p m n id c d [] (y ∷ ys) good leads same = absurd cc
path_same answer p m n id c d (x ∷ xs) [] good leads same = absurd cc
path_same answer p m n id c d (x ∷ xs) (y ∷ ys) good leads same =
    let head : led answer x ≡ led answer y = cc in
    let tail : all_leads answer xs ≡ all_leads answer ys = cc in
    let block : x.block ≡ y.block = ap (λ t. t.0) head in
    let own : chosen answer (shown p m x.load) ≡ chosen answer (shown p n y.load) =
    chosen_shown answer p m x.load good ∙ ap (λ t. t.1) head ∙ sym (chosen_shown answer p n y.load good)
    in
    let after = path_same answer p m n x.block.id (shown p m x.load) (shown p n y.load) xs ys good own tail
    ∙ ap (λ (b : Header). path_from answer b.id (shown p n y.load) (all_pending p n ys)) block
    in
    let rest = path_same answer p m n id c d xs ys good leads tail in
    λ i. if bytes_eq (block i).parent id && pointwise beq (leads i) (bits (block i).id) then (block i).id ∷ after i else rest i

-- so boards of them prefer one block
pub preferred_same : (answer : Answer) (p : Parameters) (m n : ℕ) (r s : Kept) (held next : Held Kept) → AreGood p → held.last ≡ next.last
    → leads_in answer r ≡ leads_in answer s → all_leads answer held.pending ≡ all_leads answer next.pending
    → preferred answer (view p m r held) ≡ preferred answer (view p n s next)
preferred_same answer p m n r s held next good last leads same =
    let root : chosen answer (shown p m r) ≡ chosen answer (shown p n s) = chosen_shown answer p m r good ∙ leads ∙ sym (chosen_shown answer p n s good) in
    let path = path_same answer p m n held.last (shown p m r) (shown p n s) held.pending next.pending good root same
    ∙ ap (λ id. path_from answer id (shown p n s) (all_pending p n next.pending)) last
    in
    λ i. end_of (last i) (path i)
