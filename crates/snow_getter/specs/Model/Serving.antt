-- What a node serves: its pending blocks, and those that it accepted last.
use Rattle.std.specs.Prelude.{ℕ, Bool, not, ◌||◌, List, [], ◌∷◌, ◌++◌, Option, None, is_some, find, filter, bytes_eq}
use Rattle.std.specs.List.{last_or}
use Rattle.std.specs.Option.{option_map_or, option_or}
use Rattle.snow_base.specs.declared.limits.TheConstants.{MOST_SERVED}
use Rattle.snow_recent.specs.Model.Recent.{latest, with_latest}
use Rattle.snow_getter.specs.declared.served.Served.{Served}

-- an identifier whose block isn't served, the pending blocks in order of issue, and the last 4,096 accepted blocks, the latest last
pub record Serving : Type 0 where
  pub first : List ℕ
  pub pending : List Served
  pub accepted : List Served

-- nothing was issued or accepted yet
abbrev pub serving_from : List ℕ → Serving
serving_from first = record { first = first; pending = []; accepted = [] }

abbrev pub name : Served → List ℕ
name b = b.id

-- whether a block is that of an identifier
abbrev pub is_block : List ℕ → Served → Bool
is_block id b = bytes_eq (name b) id

-- the pending block of an identifier
abbrev pub pending_block : Serving → List ℕ → Option Served
pending_block s id = find (is_block id) s.pending

-- the latest accepted block of an identifier
abbrev pub accepted_block : Serving → List ℕ → Option Served
accepted_block s id = latest name s.accepted id

-- the block that is served for an identifier: the pending one, else the latest accepted one
abbrev pub held : Serving → List ℕ → Option Served
held s id = option_or (pending_block s id) (accepted_block s id)

abbrev pub is_pending : Serving → List ℕ → Bool
is_pending s id = is_some (pending_block s id)

-- whether an identifier is held accepted: it is the first one, or that of an accepted block
abbrev pub is_accepted : Serving → List ℕ → Bool
is_accepted s id = bytes_eq s.first id || is_some (accepted_block s id)

-- the identifier that was accepted last
abbrev pub last_accepted : Serving → List ℕ
last_accepted s = option_map_or name (last_or None s.accepted) s.first

-- the blocks but those of an identifier
abbrev pub without : List ℕ → List Served → List Served
without id blocks = filter (λ b. not (is_block id b)) blocks

-- a block is issued
abbrev pub after_issued : Serving → Served → Serving
after_issued s block = record s { pending = s.pending ++ block ∷ [] }

-- a pending block is rejected: it is served no more
abbrev pub after_rejected : Serving → List ℕ → Serving
after_rejected s id = record s { pending = without id s.pending }

-- a pending block is accepted; of 4,096 accepted blocks the oldest is forgotten
abbrev pub after_accepted : Serving → List ℕ → Serving
after_accepted s id = record {
  first = s.first;
  pending = without id s.pending;
  accepted = option_map_or (with_latest MOST_SERVED s.accepted) (pending_block s id) s.accepted;
}
