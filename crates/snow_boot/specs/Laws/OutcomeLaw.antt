-- Laws of what bootstrapping asks for, executes and tells.
use Rattle.std.specs.Prelude.{◌≡◌, ℕ, Bool, true, false, List, [], ◌∷◌, ◌++◌, map, Some, Ok, Err, ⊤}
use Rattle.std.specs.List.{list_any}
use Rattle.snow_chain.specs.Model.Chain.{Rules}
use Rattle.snow_sample.specs.declared.roster.Node.{Node}
use Rattle.snow_gets.specs.declared.gets.Get.{Get}
use Rattle.snow_gets.specs.Model.Gets.{asked_in}
use Rattle.snow_lines.specs.declared.line.Line.{Line}
use Rattle.snow_lines.specs.declared.line.Line.TheVariants as line
use Rattle.snow_store.specs.declared.store.KeptBlock.{KeptBlock}
use Rattle.snow_store.specs.declared.stop.BootStop.TheVariants as stop
use Rattle.snow_boot.specs.Model.Asking.{asked}
use Rattle.snow_boot.specs.Model.Executing.{Executed, executed}
use Rattle.snow_store.specs.Model.Paths.{Fetch, has_id, missed, is_whole, highest_target, path_up}
use Rattle.snow_boot.specs.Model.Booting.{Boot, Going, Done, Outcome, fetch_of, height_or, followed, frontier_came, accepted_came, ancestors_came, timeout_came, stored_came}

-- ---- requests

-- each identifier that one of the targets misses is named by a request
abbrev pub AreAsked : Fetch → List (List ℕ) → List Get → Type 0
AreAsked f targets requests = (t id : List ℕ) → has_id targets t ≡ true → missed f t ≡ Some id → asked_in requests id ≡ true

-- once what the targets miss was asked for, requests name all of it
abbrev pub AskedLaw : Type 0
AskedLaw = (nodes : List Node) (f : Fetch) (targets : List (List ℕ)) (requests more : List Get) (drawn last : ℕ)
    → (asked nodes f targets requests drawn).1 ≡ Ok (more, last) → AreAsked f targets more

-- where requests name all that the targets miss, asking again asks for nothing
abbrev pub AskedOnceLaw : Type 0
AskedOnceLaw = (nodes : List Node) (f : Fetch) (targets : List (List ℕ)) (requests : List Get) (drawn : ℕ)
    → AreAsked f targets requests → asked nodes f targets requests drawn ≡ ([], Ok (requests, drawn))

-- ---- execution

-- the lines by which blocks are accepted
abbrev pub accept_lines : List KeptBlock → List Line
accept_lines blocks = map (λ b. line.Accept b.header.id) blocks

-- the last of the blocks, or the one below them
abbrev pub last_above : List ℕ → List KeptBlock → List ℕ
last_above below [] = below
last_above below (b ∷ blocks) = last_above b.header.id blocks

-- all blocks were accepted, each once and in order, and the last of them is the last accepted one; or those below a refused block
-- were, and no others
abbrev pub IsExecution : List ℕ → List KeptBlock → Executed → Type 0
IsExecution below blocks (lines, Ok (last, state)) = (lines ≡ accept_lines blocks) × (last ≡ last_above below blocks)
IsExecution below blocks (lines, Err why) =
    (front : List KeptBlock) × (b : KeptBlock) × (rest : List KeptBlock) × (blocks ≡ front ++ b ∷ rest) × (lines ≡ accept_lines front) × (why ≡ stop.Refused b.header.id)

-- blocks are executed in order, up to the first that is refused
abbrev pub ExecutionLaw : Type 0
ExecutionLaw = (rules : Rules) (below state : List ℕ) (blocks : List KeptBlock) → IsExecution below blocks (executed rules below state blocks)

-- ---- lines

-- whether a line accepts a block
abbrev pub accepts : Line → Bool
accepts (line.Accept id) = true
accepts other = false

-- where bootstrapping goes on, no block was accepted
abbrev pub IsQuiet : Outcome → Type 0
IsQuiet (lines, Ok (Going boot drawn)) = list_any accepts lines ≡ false
IsQuiet (lines, Ok (Done last height state)) = ⊤
IsQuiet (lines, Err why) = ⊤

-- no event accepts a block and leaves bootstrapping going on
pub record AreQuiet (rules : Rules) (state : List ℕ) (boot : Boot) (drawn : ℕ) : Type 0 where
  pub frontier : (node : List ℕ) (number : ℕ) (id : List ℕ) → IsQuiet (frontier_came rules state boot drawn node number id)
  pub accepted : (node : List ℕ) (number : ℕ) (ids : List (List ℕ)) → IsQuiet (accepted_came rules state boot drawn node number ids)
  pub ancestors : (node : List ℕ) (number : ℕ) (blocks : List (List ℕ)) → IsQuiet (ancestors_came rules state boot drawn node number blocks)
  pub timeout : (node : List ℕ) (number : ℕ) → IsQuiet (timeout_came rules state boot drawn node number)
  pub stored : (frame : ℕ) (bytes : List ℕ) → IsQuiet (stored_came rules state boot drawn frame bytes)

abbrev pub QuietLaw : Type 0
QuietLaw = (rules : Rules) (state : List ℕ) (boot : Boot) (drawn : ℕ) → AreQuiet rules state boot drawn

-- ---- the end

-- the path that is executed where no target misses a block
abbrev pub whole_path_of : Boot → List KeptBlock
whole_path_of boot = path_up boot.store.kept (highest_target boot.store.kept boot.targets)

-- bootstrapping is done only where no target misses a block; then exactly the blocks of the path of the highest kept target were
-- accepted, upwards, and the last of them is the last accepted block; where a block of the path is refused, those below it were
-- accepted and no others
abbrev pub IsEnd : Boot → Outcome → Type 0
IsEnd boot (lines, Ok (Done last height state)) =
    (is_whole (fetch_of boot) ≡ true)
    × (lines ≡ accept_lines (whole_path_of boot) ++ line.Bootstrapped last height ∷ [])
    × (last ≡ last_above boot.store.last (whole_path_of boot))
    × (height ≡ height_or boot.store.height (highest_target boot.store.kept boot.targets))
IsEnd boot (lines, Ok (Going next drawn)) = ⊤
IsEnd boot (lines, Err why) =
    is_whole (fetch_of boot) ≡ true → (front : List KeptBlock) × (b : KeptBlock) × (rest : List KeptBlock) × (whole_path_of boot ≡ front ++ b ∷ rest) × (lines ≡ accept_lines front)
    × (why ≡ stop.Refused b.header.id)

-- so each event ends, since it is followed by asking or executing
abbrev pub EndLaw : Type 0
EndLaw = (rules : Rules) (state : List ℕ) (boot : Boot) (drawn : ℕ) → IsEnd boot (followed rules state boot drawn)
