-- Requests for what targets miss.
use Rattle.std.specs.Prelude.{◌≡◌, ℕ, ◌%◌, true, false, List, [], ◌∷◌, ◌++◌, length, Option, Some, None, Result, Ok, Err, if◌then◌else◌}
use Rattle.std.specs.List.{slice_get}
use Rattle.std.specs.Option.{option_map, unwrap_or}
use Rattle.snow_base.specs.Model.Numbers.{next_number}
use Rattle.snow_sample.specs.declared.roster.Node.{Node}
use Rattle.snow_gets.specs.declared.gets.Get.{Get}
use Rattle.snow_gets.specs.Model.Gets.{asked_in, with_get}
use Rattle.snow_lines.specs.declared.line.Line.{Line}
use Rattle.snow_lines.specs.declared.line.Line.TheVariants as line
use Rattle.snow_store.specs.declared.stop.BootStop.{BootStop}
use Rattle.snow_store.specs.declared.stop.BootStop.TheVariants as stop
use Rattle.snow_store.specs.declared.needs.Due.{Due}
use Rattle.snow_store.specs.declared.needs.Due.TheVariants as due
use Rattle.snow_store.specs.Model.Needing.{is_missed, is_due}
use Rattle.snow_store.specs.Model.Paths.{Fetch, missed}

-- the lines, and then the open requests with the last number drawn, or a stop
abbrev pub Asked : Type 0
Asked = List Line × Result (List Get × ℕ) BootStop

-- the node that is asked with a number
abbrev pub asked_node : List Node → ℕ → List ℕ
asked_node nodes number = unwrap_or (option_map (λ n. n.id) (slice_get nodes (number % length nodes))) []

-- one request more, with a number
abbrev pub asked_with : List Node → List Get → List ℕ → Option ℕ → Asked
asked_with nodes requests id None = ([], Err stop.Requests)
asked_with nodes requests id (Some number) =
    let node = asked_node nodes number in (line.Ancestors number node id ∷ [], Ok (with_get requests record { number = number; node = node; id = id }, number))

-- what a target misses is asked for, where no request names it
abbrev pub asked_one : List Node → List Get → ℕ → Option (List ℕ) → Asked
asked_one nodes requests drawn None = ([], Ok (requests, drawn))
asked_one nodes requests drawn (Some id) = if asked_in requests id then ([], Ok (requests, drawn)) else asked_with nodes requests id (next_number drawn)

-- one asking after another
abbrev pub and_asked : Asked → (List Get → ℕ → Asked) → Asked
and_asked (lines, Err why) more = (lines, Err why)
and_asked (lines, Ok (requests, drawn)) more = let next = more requests drawn in (lines ++ next.0, next.1)

-- what the targets miss is asked for, in their order
unfoldable pub asked : List Node → Fetch → List (List ℕ) → List Get → ℕ → Asked
asked nodes f [] requests drawn = ([], Ok (requests, drawn))
asked nodes f (t ∷ targets) requests drawn = and_asked (asked_one nodes requests drawn (missed f t)) (λ requests drawn. asked nodes f targets requests drawn)

-- each identifier that one of the targets misses is named by a request, unless it is due
abbrev pub AreAskedBut : Due → Fetch → List Get → Type 0
AreAskedBut after f requests = (id : List ℕ) → is_missed f f.targets id ≡ true → is_due after id ≡ false → asked_in requests id ≡ true

-- what is due once a request for an identifier is closed, if one is
abbrev pub due_of : Option (List ℕ) → Due
due_of None = due.Nothing
due_of (Some id) = due.One id
