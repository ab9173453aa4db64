-- Blocks that come as a reply.
use Rattle.std.specs.Prelude.{ℕ, List, [], ◌∷◌, Option, Some, None, Result, Ok, Err, bytes_eq, if◌then◌else◌}
use Rattle.snow_base.specs.declared.block.Header.{Header}
use Rattle.snow_store.specs.declared.store.KeptBlock.{KeptBlock}
use Rattle.snow_store.specs.declared.stop.BootStop.{BootStop}
use Rattle.snow_store.specs.declared.stop.Verdict.{Verdict}
use Rattle.snow_store.specs.declared.stop.Verdict.TheVariants as verdict
use Rattle.snow_store.specs.Clauses.Coming.{after_verdict}
use Rattle.snow_store.specs.Model.Keeping.{taken}
use Rattle.snow_store.specs.Model.Paths.{Fetch}

-- a block of a reply, where it is the wanted one
abbrev pub if_wanted : List ℕ → Option Header → Option Header
if_wanted id None = None
if_wanted id (Some h) = if bytes_eq h.id id then Some h else None

-- a reply ends behind a block that isn't kept, being too low
abbrev pub with_taken : Fetch → KeptBlock → Result Verdict BootStop → (Fetch → Result Fetch BootStop) → Result Fetch BootStop
with_taken f b (Err why) more = Err why
with_taken f b (Ok verdict.Keeps) more = more (after_verdict f b verdict.Keeps)
with_taken f b (Ok verdict.Known) more = more f
with_taken f b (Ok verdict.Low) more = Ok (after_verdict f b verdict.Low)

-- a reply ends before a block that isn't the wanted one
abbrev pub with_wanted : Fetch → List ℕ → Option Header → (Header → Fetch → Result Fetch BootStop) → Result Fetch BootStop
with_wanted f bytes None more = Ok f
with_wanted f bytes (Some h) more = let b : KeptBlock = record { header = h; bytes = bytes } in with_taken f b (taken f.store h) (more h)

-- what is kept and found after the blocks of a reply: the first is to be the wanted block, and each later one the parent of the one before
unfoldable pub replied : (List ℕ → Option Header) → Fetch → List ℕ → List (List ℕ) → Result Fetch BootStop
replied header_of f id [] = Ok f
replied header_of f id (bytes ∷ blocks) = with_wanted f bytes (if_wanted id (header_of bytes)) (λ h f. replied header_of f h.parent blocks)
