-- Events as bytes: a tag, and the fields in order. All numbers are unsigned, the highest byte first.
use Rattle.std.specs.Prelude.{◌≡◌, ℕ, ◌<◌, ◌≤◌, ◌^◌, Bool, true, false, List, ◌∷◌, ◌++◌, length, All}
use Rattle.std.specs.List.{flat_map}
use Rattle.snow_base.specs.declared.limits.TheConstants.{BLOCK_BYTES, LINE_BYTES, MOST_VOTES, MOST_LISTED, MOST_ANCESTORS}
use Rattle.byteorder.specs.Endian.{big_bytes}
use Rattle.snow_wire.specs.declared.event.Event.{Event}
use Rattle.snow_wire.specs.declared.event.Event.TheVariants as event
use Rattle.snow_wire.specs.declared.event.Start.{Start}

-- a number in so many bytes
unfoldable pub number : ℕ → ℕ → List ℕ
number n x = big_bytes n x

-- four bytes of length, and so many bytes
abbrev pub sized : List ℕ → List ℕ
sized bytes = number 4 (length bytes) ++ bytes

-- two bytes of count, and so many items
abbrev pub counted : {A : Type 0} → (A → List ℕ) → List A → List ℕ
counted item items = number 2 (length items) ++ flat_map item items

-- a node and its weight
abbrev pub weighed : List ℕ × ℕ → List ℕ
weighed n = n.0 ++ number 8 n.1

-- a node and the number of a request
abbrev pub sender : List ℕ → ℕ → List ℕ
sender node request = node ++ number 4 request

-- whether to bootstrap first
abbrev pub flag : Bool → ℕ
flag false = 0
flag true = 1

-- the five parameters of the polls
abbrev pub parameters : Start → List ℕ
parameters s = number 4 s.k ++ number 4 s.alpha_preference ++ number 4 s.alpha_confidence ++ number 4 s.beta ++ number 4 s.repolls

abbrev pub start : Start → List ℕ
start s = parameters s ++ flag s.boot ∷ s.last ++ number 8 s.height ++ counted (number 8) s.state ++ counted weighed s.nodes

-- the one spelling of an event
unfoldable pub spelling : Event → List ℕ
spelling (event.Start s) = 1 ∷ start s
spelling (event.Block node request bytes) = 2 ∷ sender node request ++ sized bytes
spelling (event.Poll ids) = 3 ∷ counted (λ id. id) ids
spelling (event.Words words) = 4 ∷ counted (number 8) words
spelling (event.Chits node request id) = 5 ∷ sender node request ++ id
spelling (event.Timeout node request) = 6 ∷ sender node request
spelling (event.Frontier node request id) = 7 ∷ sender node request ++ id
spelling (event.Accepted node request ids) = 8 ∷ sender node request ++ counted (λ id. id) ids
spelling (event.Ancestors node request blocks) = 9 ∷ sender node request ++ counted sized blocks
spelling (event.Stored bytes) = 10 ∷ sized bytes
spelling (event.Validators nodes) = 11 ∷ counted weighed nodes
spelling (event.AskQuery node request) = 12 ∷ sender node request
spelling (event.AskFrontier node request) = 13 ∷ sender node request
spelling (event.AskAccepted node request ids) = 14 ∷ sender node request ++ counted (λ id. id) ids
spelling (event.AskAncestors node request id) = 15 ∷ sender node request ++ id
spelling (event.AskBlock node request id) = 16 ∷ sender node request ++ id
spelling (event.Line text) = 17 ∷ sized text

-- ---- what has a spelling

-- an identifier has 32 bytes
abbrev pub IsId : List ℕ → Type 0
IsId id = length id ≡ 32

-- a node has 20 bytes, and a weight fits 8
abbrev pub IsWeighed : List ℕ × ℕ → Type 0
IsWeighed n = (length n.0 ≡ 20) × (n.1 < 2 ^ 64)

-- a node has 20 bytes, and the number of a request fits 4
abbrev pub IsSender : List ℕ → ℕ → Type 0
IsSender node request = (length node ≡ 20) × (request < 2 ^ 32)

-- the fields of a Start fit their bytes
pub record IsSizedStart (s : Start) : Type 0 where
  pub k : s.k < 2 ^ 32
  pub alpha_preference : s.alpha_preference < 2 ^ 32
  pub alpha_confidence : s.alpha_confidence < 2 ^ 32
  pub beta : s.beta < 2 ^ 32
  pub repolls : s.repolls < 2 ^ 32
  pub last : IsId s.last
  pub height : s.height < 2 ^ 64
  pub state : All (λ n. n < 2 ^ 64) s.state
  pub nodes : All IsWeighed s.nodes

-- the fields of an event fit their bytes: so it is with each event that a program holds
abbrev pub IsSized : Event → Type 0
IsSized (event.Start s) = IsSizedStart s
IsSized (event.Block node request bytes) = IsSender node request
IsSized (event.Poll ids) = All IsId ids
IsSized (event.Words words) = All (λ n. n < 2 ^ 64) words
IsSized (event.Chits node request id) = IsSender node request × IsId id
IsSized (event.Timeout node request) = IsSender node request
IsSized (event.Frontier node request id) = IsSender node request × IsId id
IsSized (event.Accepted node request ids) = IsSender node request × All IsId ids
IsSized (event.Ancestors node request blocks) = IsSender node request
IsSized (event.Stored bytes) = Unit {0}
IsSized (event.Validators nodes) = All IsWeighed nodes
IsSized (event.AskQuery node request) = IsSender node request
IsSized (event.AskFrontier node request) = IsSender node request
IsSized (event.AskAccepted node request ids) = IsSender node request × All IsId ids
IsSized (event.AskAncestors node request id) = IsSender node request × IsId id
IsSized (event.AskBlock node request id) = IsSender node request × IsId id
IsSized (event.Line text) = Unit {0}

-- a block has at most 65,536 bytes
abbrev pub IsBlock : List ℕ → Type 0
IsBlock bytes = length bytes ≤ BLOCK_BYTES

-- counts and lengths are in their ranges
abbrev pub IsWithinLimits : Event → Type 0
IsWithinLimits (event.Start s) = (length s.state ≤ MOST_LISTED) × (length s.nodes ≤ MOST_LISTED)
IsWithinLimits (event.Block node request bytes) = IsBlock bytes
IsWithinLimits (event.Poll ids) = length ids ≤ MOST_VOTES
IsWithinLimits (event.Words words) = length words ≤ MOST_LISTED
IsWithinLimits (event.Chits node request id) = Unit {0}
IsWithinLimits (event.Timeout node request) = Unit {0}
IsWithinLimits (event.Frontier node request id) = Unit {0}
IsWithinLimits (event.Accepted node request ids) = length ids ≤ MOST_LISTED
IsWithinLimits (event.Ancestors node request blocks) = (length blocks ≤ MOST_ANCESTORS) × All IsBlock blocks
IsWithinLimits (event.Stored bytes) = IsBlock bytes
IsWithinLimits (event.Validators nodes) = length nodes ≤ MOST_LISTED
IsWithinLimits (event.AskQuery node request) = Unit {0}
IsWithinLimits (event.AskFrontier node request) = Unit {0}
IsWithinLimits (event.AskAccepted node request ids) = length ids ≤ MOST_LISTED
IsWithinLimits (event.AskAncestors node request id) = Unit {0}
IsWithinLimits (event.AskBlock node request id) = Unit {0}
IsWithinLimits (event.Line text) = length text ≤ LINE_BYTES

-- an event that has a spelling
abbrev pub IsInRange : Event → Type 0
IsInRange e = IsSized e × IsWithinLimits e
