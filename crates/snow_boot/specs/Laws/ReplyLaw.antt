-- What a reply brings whose first block is a missed one.
use Rattle.std.specs.Prelude.{◌≡◌, ℕ, true, List, ◌∷◌, Some, None, Ok, Err, ⊤, ◌⊎◌}
use Rattle.snow_chain.specs.Model.Chain.{Rules}
use Rattle.snow_store.specs.declared.store.KeptBlock.{KeptBlock}
use Rattle.snow_store.specs.Model.Keeping.{held}
use Rattle.snow_store.specs.Model.Paths.{Fetch, has_id, missed}
use Rattle.snow_boot.specs.Model.Booting.{Boot, Going, Done, Outcome, fetch_of, request_of, ancestors_came}
use Rattle.snow_boot.specs.Laws.Reached.{Reached}

-- the block is kept at a height that was free; or it is the target, which is found and misses nothing
abbrev pub Helps : Fetch → Fetch → KeptBlock → List ℕ → Type 0
Helps f g b t = ((held f.store.kept b.header.height ≡ None) × (held g.store.kept b.header.height ≡ Some b)) ⊎ ((t ≡ b.header.id) × (missed g t ≡ None))

-- where bootstrapping goes on the block helped; else it is done, or stops
abbrev pub HelpsOn : Fetch → KeptBlock → List ℕ → Outcome → Type 0
HelpsOn f b t (lines, Ok (Going boot drawn)) = Helps f (fetch_of boot) b t
HelpsOn f b t (lines, Ok (Done last height state)) = ⊤
HelpsOn f b t (lines, Err why) = ⊤

-- where a target misses a block for which a request is open, and a reply to it begins with that block, the reply never comes in vain
abbrev pub ReplyLaw : Type 0
ReplyLaw = (rules : Rules) (state : List ℕ) (boot : Boot) (drawn : ℕ) (node : List ℕ) (number : ℕ) (b : KeptBlock) (blocks : List (List ℕ)) (t : List ℕ) → Reached rules state boot drawn
    → request_of boot.requests node number ≡ Some b.header.id → rules.header_of b.bytes ≡ Some b.header → has_id boot.targets t ≡ true → missed (fetch_of boot) t ≡ Some b.header.id
    → HelpsOn (fetch_of boot) b t (ancestors_came rules state boot drawn node number (b.bytes ∷ blocks))
