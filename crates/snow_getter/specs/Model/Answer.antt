-- What a node answers to the questions of its peers.
use Rattle.std.specs.Prelude.{ℕ, Bool, true, false, not, ◌&&◌, List, [], ◌∷◌, ◌++◌, map, fold, bytes_eq, if◌then◌else◌}
use Rattle.std.specs.List.{list_any}
use Rattle.std.specs.Option.{option_map_or}
use Rattle.snow_wire.specs.declared.event.Event.{Event}
use Rattle.snow_wire.specs.declared.event.Event.TheVariants as event
use Rattle.snow_lines.specs.declared.line.Line.{Line}
use Rattle.snow_lines.specs.declared.line.Line.TheVariants as line
use Rattle.snow_getter.specs.declared.served.Served.{Served}
use Rattle.snow_getter.specs.Model.Serving.{Serving, held, is_accepted, last_accepted}
use Rattle.snow_getter.specs.Model.Chain.{chain}

-- whether an event is a question of a peer
abbrev pub is_question : Event → Bool
is_question (event.AskQuery node request) = true
is_question (event.AskFrontier node request) = true
is_question (event.AskAccepted node request ids) = true
is_question (event.AskAncestors node request id) = true
is_question (event.AskBlock node request id) = true
is_question _ = false

abbrev pub has_id : List (List ℕ) → List ℕ → Bool
has_id ids id = list_any (bytes_eq id) ids

-- an identifier is told once, and only where it is held accepted
abbrev pub with_accepted : Serving → List (List ℕ) → List ℕ → List (List ℕ)
with_accepted s told id = if is_accepted s id && not (has_id told id) then told ++ id ∷ [] else told

-- those of the identifiers that are held accepted, in the order named, each once
abbrev pub accepted_among : Serving → List (List ℕ) → List (List ℕ)
accepted_among s ids = fold (with_accepted s) [] ids

-- the line that gives a chain, if there is one
abbrev pub chain_told : List ℕ → ℕ → List Served → List Line
chain_told node number [] = []
chain_told node number (b ∷ blocks) = line.ToAncestors node number (map (λ c. c.bytes) (b ∷ blocks)) ∷ []

-- the lines that answer a question, where this block is preferred; there are none for other events
abbrev pub answer : Serving → List ℕ → Event → List Line
answer s preference (event.AskQuery node request) = line.ToChits node request preference (last_accepted s) ∷ []
answer s preference (event.AskFrontier node request) = line.ToFrontier node request (last_accepted s) ∷ []
answer s preference (event.AskAccepted node request ids) = line.ToAccepted node request (accepted_among s ids) ∷ []
answer s preference (event.AskAncestors node request id) = chain_told node request (chain s id)
answer s preference (event.AskBlock node request id) = option_map_or (λ b. line.ToBlock node request b.bytes ∷ []) (held s id) []
answer s preference _ = []
