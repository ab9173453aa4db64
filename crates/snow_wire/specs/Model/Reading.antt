-- Events read from the front of bytes, with the first fault that is met.
use Rattle.std.specs.Prelude.{◌≡◌, ℕ, zero, suc, ◌<◌, Bool, true, false, List, [], ◌∷◌, length, take, drop, get_or, slice_index, Result, Ok, Err, nat_le, nat_lt, ◌==◌, if◌then◌else◌}
use Rattle.snow_base.specs.declared.limits.TheConstants.{BLOCK_BYTES, LINE_BYTES, MOST_VOTES, MOST_LISTED, MOST_ANCESTORS}
use Rattle.byteorder.specs.Endian.{big_number}
use Rattle.snow_wire.specs.declared.event.Event.{Event}
use Rattle.snow_wire.specs.declared.event.Event.TheVariants as event
use Rattle.snow_wire.specs.declared.skip.Fault.{Fault}
use Rattle.snow_wire.specs.declared.skip.Fault.TheVariants.{Tag, Short, Extra, Count}
use Rattle.snow_wire.specs.declared.skip.Skip.{Skip}
use Rattle.snow_wire.specs.declared.skip.Skip.TheVariants as skip

-- what a function answered is what reading gives, unless memory ran out
abbrev pub Gives : {A : Type 0} → Result A Skip → Result A Fault → Type 0
Gives (Ok x) read = read ≡ Ok x
Gives (Err (skip.Fault f)) read = read ≡ Err f
Gives (Err skip.Memory) read = Unit {0}

-- what a function answered, as view sees it, is what reading gives, and it left the bytes behind that
abbrev pub ReadsAs : {X A : Type 0} → (X → A) → Result X Fault → List ℕ → Result (A × List ℕ) Fault → Type 0
ReadsAs view (Ok x) rest read = read ≡ Ok (view x, rest)
ReadsAs view (Err f) rest read = read ≡ Err f

-- the same for an answer as it is
abbrev pub Reads : {A : Type 0} → Result A Fault → List ℕ → Result (A × List ℕ) Fault → Type 0
Reads = ReadsAs (λ x. x)

-- a function that wants no bytes left refuses where some are, and for nothing else
abbrev pub IsEnd : {A : Type 0} → Result A Fault → List ℕ → Type 0
IsEnd (Ok x) rest = (length rest == 0) ≡ true
IsEnd (Err Extra) rest = (length rest == 0) ≡ false
IsEnd (Err f) rest = ⊥

-- each number is a byte's
abbrev pub IsBytes : List ℕ → Type 0
IsBytes bytes = (i : ℕ) → slice_index bytes i < 256

-- ---- fields

-- what is read from the front of bytes, and the bytes behind it
abbrev pub Read : Type 0 → Type 0
Read A = Result (A × List ℕ) Fault

-- goes on with what was read, unless a fault was met
infixl 10 ◌>>=◌
abbrev pub ◌>>=◌ : {A B : Type 0} → Result A Fault → (A → Result B Fault) → Result B Fault
(Ok x) >>= f = f x
(Err e) >>= f = Err e

-- so many bytes
unfoldable pub bytes_at : ℕ → List ℕ → Read (List ℕ)
bytes_at n bytes = if nat_lt (length bytes) n then Err Short else Ok (take n bytes, drop n bytes)

-- a number of so many bytes
unfoldable pub number_at : ℕ → List ℕ → Read ℕ
number_at n bytes = if nat_lt (length bytes) n then Err Short else Ok (big_number n bytes, drop n bytes)

-- a number of n bytes that is at most the limit
unfoldable pub limited_at : ℕ → ℕ → List ℕ → Read ℕ
limited_at n limit bytes = do
  number ← number_at n bytes
  if nat_le number.0 limit then Ok number else Err Count

-- four bytes of length, which is at most the limit, and so many bytes
unfoldable pub sized_at : ℕ → List ℕ → Read (List ℕ)
sized_at limit bytes = do
  len ← limited_at 4 limit bytes
  bytes_at len.0 len.1

-- so many items
unfoldable pub items_at : {A : Type 0} → (List ℕ → Read A) → ℕ → List ℕ → Read (List A)
items_at item zero bytes = Ok ([], bytes)
items_at item (suc n) bytes = do
  first ← item bytes
  others ← items_at item n first.1
  Ok (first.0 ∷ others.0, others.1)

-- the items that were read, or none
abbrev pub items_in : {A : Type 0} → Read (List A) → List A
items_in (Ok x) = x.0
items_in (Err f) = []

-- two bytes of count, which is at most the limit, and so many items
unfoldable pub counted_at : {A : Type 0} → (List ℕ → Read A) → ℕ → List ℕ → Read (List A)
counted_at item limit bytes = do
  count ← limited_at 2 limit bytes
  items_at item count.0 count.1

-- a byte that is 0 or 1
unfoldable pub flag_at : List ℕ → Read Bool
flag_at bytes = do
  flag ← limited_at 1 1 bytes
  Ok (flag.0 == 1, flag.1)

-- an identifier
abbrev pub id_at : List ℕ → Read (List ℕ)
id_at = bytes_at 32

-- a node
abbrev pub node_at : List ℕ → Read (List ℕ)
node_at = bytes_at 20

-- a node and its weight
unfoldable pub weighed_at : List ℕ → Read (List ℕ × ℕ)
weighed_at bytes = do
  node ← node_at bytes
  weight ← number_at 8 node.1
  Ok ((node.0, weight.0), weight.1)

-- a block's bytes
abbrev pub block_at : List ℕ → Read (List ℕ)
block_at = sized_at BLOCK_BYTES

-- ---- the fields of an event, behind its tag

-- the fields of a Start
unfoldable pub start_at : List ℕ → Read Event
start_at bytes = do
  k ← number_at 4 bytes
  alpha_preference ← number_at 4 k.1
  alpha_confidence ← number_at 4 alpha_preference.1
  beta ← number_at 4 alpha_confidence.1
  repolls ← number_at 4 beta.1
  boot ← flag_at repolls.1
  last ← id_at boot.1
  height ← number_at 8 last.1
  state ← counted_at (number_at 8) MOST_LISTED height.1
  nodes ← counted_at weighed_at MOST_LISTED state.1
  Ok (
    event.Start (record {
      k = k.0;
      alpha_preference = alpha_preference.0;
      alpha_confidence = alpha_confidence.0;
      beta = beta.0;
      repolls = repolls.0;
      boot = boot.0;
      last = last.0;
      height = height.0;
      state = state.0;
      nodes = nodes.0;
    }),
    nodes.1,
  )

-- an event of one field
unfoldable pub single_at : {A : Type 0} → (List ℕ → Read A) → (A → Event) → List ℕ → Read Event
single_at field made bytes = do
  only ← field bytes
  Ok (made only.0, only.1)

-- an event of a node and a request
unfoldable pub sender_at : (List ℕ → ℕ → Event) → List ℕ → Read Event
sender_at made bytes = do
  node ← node_at bytes
  request ← number_at 4 node.1
  Ok (made node.0 request.0, request.1)

-- an event of a node, a request and one field more
unfoldable pub message_at : {A : Type 0} → (List ℕ → Read A) → (List ℕ → ℕ → A → Event) → List ℕ → Read Event
message_at field made bytes = do
  node ← node_at bytes
  request ← number_at 4 node.1
  more ← field request.1
  Ok (made node.0 request.0 more.0, more.1)

-- no event has this tag
abbrev pub unknown_at : List ℕ → Read Event
unknown_at bytes = Err Tag

-- how the fields are read, by tag from 0 on
abbrev pub tags : List (List ℕ → Read Event)
tags =
    unknown_at
    ∷ start_at
    ∷ message_at block_at event.Block
    ∷ single_at (counted_at id_at MOST_VOTES) event.Poll
    ∷ single_at (counted_at (number_at 8) MOST_LISTED) event.Words
    ∷ message_at id_at event.Chits
    ∷ sender_at event.Timeout
    ∷ message_at id_at event.Frontier
    ∷ message_at (counted_at id_at MOST_LISTED) event.Accepted
    ∷ message_at (counted_at block_at MOST_ANCESTORS) event.Ancestors
    ∷ single_at block_at event.Stored
    ∷ single_at (counted_at weighed_at MOST_LISTED) event.Validators
    ∷ sender_at event.AskQuery
    ∷ sender_at event.AskFrontier
    ∷ message_at (counted_at id_at MOST_LISTED) event.AskAccepted
    ∷ message_at id_at event.AskAncestors
    ∷ message_at id_at event.AskBlock
    ∷ single_at (sized_at LINE_BYTES) event.Line
    ∷ []

-- the fields of the event with this tag
unfoldable pub fields_at : ℕ → List ℕ → Read Event
fields_at tag = get_or tags tag unknown_at

-- what was read, where no bytes are left behind it
abbrev pub to_end : {A : Type 0} → Read A → Result A Fault
to_end read = read >>= λ x. if length x.1 == 0 then Ok x.0 else Err Extra

-- the event that all of the bytes spell, or the first fault
unfoldable pub event_of : List ℕ → Result Event Fault
event_of bytes = do
  tag ← number_at 1 bytes
  to_end (fields_at tag.0 tag.1)
