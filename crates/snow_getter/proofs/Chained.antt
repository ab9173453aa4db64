-- Lemmas on chains: where a walk goes on, and where it ends.
use Rattle.std.proofs.Common.{◌≡◌, ℕ, zero, suc, ◌+◌, ◌-◌, ◌<◌, ◌≤◌, true, false, cond, sum_by, arith, List, [], ◌∷◌, ◌++◌, length, map, Option, Some, None, leb, append_assoc, refl, sym, ap, ◌∙◌}
use Rattle.std.specs.Option.{option_map_or}
use Rattle.std.proofs.lemmas.Bool.{cond-true, cond-false, le-leb, lt-leb, leb-true}
use Rattle.std.proofs.lemmas.List.{append-nil}
use Rattle.std.proofs.lemmas.List.Sums.{sum_by-cons}
use Rattle.snow_getter.specs.declared.served.Served.{Served}
use Rattle.snow_getter.specs.Model.Serving.{Serving, held}
use Rattle.snow_getter.specs.Model.Chain.{chain_within}
use Rattle.snow_getter.specs.Laws.ChainLaw.{IsWalk, IsWithin, ChainIsLongest}

-- what follows once a block was looked for
abbrev from_here : ℕ → ℕ → Serving → Option Served → List Served
from_here count room s found =
    option_map_or (λ (b : Served). cond (leb (length b.bytes) room) (b ∷ chain_within count (room - length b.bytes) s b.parent) []) found []

-- a block that is held and fits, and then its ancestors
pub goes_on : (count room : ℕ) (s : Serving) (id : List ℕ) (b : Served) → Some b ≡ held s id → length b.bytes ≤ room
    → chain_within (suc count) room s id ≡ b ∷ chain_within count (room - length b.bytes) s b.parent
unfolding chain_within
goes_on count room s id b is fits = ap (from_here count room s) (sym is) ∙ cond-true _ _ _ (le-leb (length b.bytes) room fits)

-- nothing where no block is held
pub ends_there : (count room : ℕ) (s : Serving) (id : List ℕ) → None ≡ held s id → chain_within count room s id ≡ []
unfolding chain_within
ends_there zero room s id is = refl
ends_there (suc count) room s id is = ap (from_here count room s) (sym is)

-- nor where the block doesn't fit
pub ends_before : (count room : ℕ) (s : Serving) (id : List ℕ) (b : Served) → Some b ≡ held s id → room < length b.bytes → chain_within count room s id ≡ []
unfolding chain_within
ends_before zero room s id b is large = refl
ends_before (suc count) room s id b is large = ap (from_here count room s) (sym is) ∙ cond-false _ _ _ (lt-leb (length b.bytes) room large)

abbrev pub bytes_of : List Served → List (List ℕ)
bytes_of blocks = map (λ (b : Served). b.bytes) blocks

-- ---- a walk

-- where nothing follows, all was taken
pub taken_all : (blocks all : List (List ℕ)) (rest : List Served) → rest ≡ [] → blocks ++ bytes_of rest ≡ all → blocks ≡ all
taken_all blocks all rest none h = sym (append-nil blocks) ∙ sym (ap (λ l. blocks ++ bytes_of l) none) ∙ h

-- one block more is taken
pub one_taken : (blocks all : List (List ℕ)) (left count room : ℕ) (s : Serving) (id : List ℕ) (b : Served) (bytes : List ℕ)
    → left ≡ suc count → bytes ≡ b.bytes → Some b ≡ held s id → length bytes ≤ room → blocks ++ bytes_of (chain_within left room s id) ≡ all
    → (blocks ++ bytes ∷ []) ++ bytes_of (chain_within count (room - length bytes) s b.parent) ≡ all
one_taken blocks all left count room s id b bytes more same is fits h =
    rw same (append_assoc blocks (b.bytes ∷ []) (bytes_of (chain_within count (room - length b.bytes) s b.parent))
    ∙ ap (λ l. blocks ++ bytes_of l) (sym (goes_on count room s id b is (rw (← same) fits)))
    ∙ ap (λ n. blocks ++ bytes_of (chain_within n room s id)) (sym more) ∙ h)

-- ---- no walk within the limits is longer

walks : (count room : ℕ) (s : Serving) (id : List ℕ) → IsWalk s id (chain_within count room s id) × IsWithin count room (chain_within count room s id)
unfolding chain_within
walks zero room s id = (tt, record { blocks_fit = omega arith; bytes_fit = omega arith })
walks (suc count) room s id =
    (elim (held s id) as (λ found. found ≡ held s id → IsWalk s id (from_here count room s found) × IsWithin (suc count) room (from_here count room s found)) [
      | None ↦ λ is. (tt, record { blocks_fit = omega arith; bytes_fit = omega arith })
      | Some b ↦ λ is.
          let rest = walks count (room - length b.bytes) s b.parent in
          (elim (leb (length b.bytes) room) as
          (λ t. leb (length b.bytes) room ≡ t
          → IsWalk s id (cond t (b ∷ chain_within count (room - length b.bytes) s b.parent) [])
          × IsWithin (suc count) room (cond t (b ∷ chain_within count (room - length b.bytes) s b.parent) [])) [
            | true ↦ λ t. (
              (is, rest.0),
              record {
                blocks_fit = omega (arith, rest.1.blocks_fit);
                bytes_fit = omega (
                  arith,
                  rest.1.bytes_fit,
                  leb-true (length b.bytes) room t,
                  sum_by-cons (λ (c : Served). length c.bytes) b (chain_within count (room - length b.bytes) s b.parent),
                );
              },
            )
            | false ↦ λ t. (tt, record { blocks_fit = omega arith; bytes_fit = omega arith })
          ]) refl
    ]) refl

no_longer : (count room : ℕ) (s : Serving) (id : List ℕ) (others : List Served) → IsWalk s id others → IsWithin count room others
    → length others ≤ length (chain_within count room s id)
no_longer count room s id [] walk within = omega arith
no_longer zero room s id (b ∷ others) walk within = absurd (omega (arith, within.blocks_fit))
no_longer (suc count) room s id (b ∷ others) walk within =
    let all : sum_by (λ (c : Served). length c.bytes) (b ∷ others) ≡ length b.bytes + sum_by (λ (c : Served). length c.bytes) others =
    sum_by-cons (λ (c : Served). length c.bytes) b others in
    let rest = no_longer count (room - length b.bytes) s b.parent others walk.1
    (record { blocks_fit = omega (arith, within.blocks_fit); bytes_fit = omega (arith, within.bytes_fit, all) }) in
    omega (arith, rest, ap length (goes_on count room s id b walk.0 (omega (arith, within.bytes_fit, all))))

pub longest_chain : ChainIsLongest
longest_chain s id =
    let own = walks 64 524288 s id in
    record { walk = own.0; within = own.1; longest = no_longer 64 524288 s id }
