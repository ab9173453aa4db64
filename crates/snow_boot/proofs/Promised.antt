-- What the calls promise follows from what comes of each event.
use Rattle.std.proofs.Common.{◌≡◌, ℕ, false, List, ◌++◌, ap, ◌∙◌}
use Rattle.std.specs.Prelude.{Result, Ok, Err}
use Rattle.std.specs.List.{list_any}
use Rattle.snow_chain.specs.Model.Chain.{Held}
use Rattle.snow_gets.specs.declared.gets.Get.{Get}
use Rattle.snow_lines.specs.declared.line.Line.{Line}
use Rattle.snow_boot.specs.declared.boot.Stage.{Stage}
use Rattle.snow_boot.specs.declared.boot.Stage.TheVariants as stage
use Rattle.snow_store.specs.declared.stop.BootStop.{BootStop}
use Rattle.snow_store.specs.declared.stop.BootStop.TheVariants as stop
use Rattle.snow_boot.specs.Model.Booting.{Boot, Going, Done, Outcome}
use Rattle.snow_chain.specs.Kept.Alone.{last_state}
use Rattle.snow_boot.specs.Kept.Coursing.{boot_of, Comes}
use Rattle.snow_boot.specs.Kept.Fetching.{Hunt}
use Rattle.snow_boot.specs.Laws.OutcomeLaw.{accepts, IsQuiet, IsEnd}
use Rattle.snow_boot.specs.Clauses.Promising.{AcceptsPath, Promises}
use Rattle.snow_boot.specs.Kept.Surveying.{Surveyed}

-- where it goes on, nothing was accepted
quiet_lines : (o : Outcome) (boot : Boot) (drawn : ℕ) → IsQuiet o → o.1 ≡ Ok (Going boot drawn) → list_any accepts o.0 ≡ false
quiet_lines (lines, Ok (Going now last)) boot drawn q e = q
quiet_lines (lines, Ok (Done last height state)) boot drawn q e = cc
quiet_lines (lines, Err why) boot drawn q e = cc

-- where it is done, the whole path was
path_lines : (o : Outcome) (boot : Boot) (last : List ℕ) (height : ℕ) (state : List ℕ) (before after : List Line) → IsEnd boot o → o.1 ≡ Ok (Done last height state) → after ≡ before ++ o.0
    → AcceptsPath before after boot last height
path_lines (lines, Ok (Going now drawn)) boot last height state before after x e grown = cc
path_lines (lines, Ok (Done id at s)) boot last height state before after x e grown =
    let same_id : id ≡ last = cc in
    let same_at : at ≡ height = cc in
    rw (← same_id, ← same_at) (x.0, grown ∙ ap (λ l. before ++ l) x.1, x.2, x.3)
path_lines (lines, Err why) boot last height state before after x e grown = cc

pub promised : (r : Result Stage BootStop) (before after : List Line) (s : Surveyed) (hunt : Hunt) (requests : List Get) (first last : ℕ) (old new : Held) (o : Outcome)
    → Comes r before after s hunt requests first last old new o → IsQuiet o → Promises r before after (boot_of s hunt.fetch requests)
promised (Ok stage.Going) before after s hunt requests first last old new o c q =
    (λ asks. let settled = c.3.settled asks in (settled.missing, settled.asked), (o.0, c.0, quiet_lines o (boot_of s hunt.fetch requests) last q c.1))
promised (Ok (stage.Done id height)) before after s hunt requests first last old new o c q =
    path_lines o (boot_of s hunt.fetch requests) id height (last_state new) before after c.5 c.1 c.0
promised (Err (stop.Refused id)) before after s hunt requests first last old new o c q = c.2
promised (Err (stop.Conflict height one other)) before after s hunt requests first last old new o c q = tt
promised (Err (stop.Fork id parent)) before after s hunt requests first last old new o c q = tt
promised (Err stop.Full) before after s hunt requests first last old new o c q = tt
promised (Err stop.Requests) before after s hunt requests first last old new o c q = tt
promised (Err stop.Memory) before after s hunt requests first last old new o c q = tt
