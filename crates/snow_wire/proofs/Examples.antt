-- Worked examples: the definitions compute.
use Rattle.std.proofs.Common.{◌≡◌, ℕ, false, List, [], ◌∷◌, ◌++◌, replicate, take, Ok, Err, refl}
use Rattle.snow_wire.specs.declared.event.Event.{Event}
use Rattle.snow_wire.specs.declared.event.Event.TheVariants as event
use Rattle.snow_wire.specs.Model.Spelling.{number, spelling}
use Rattle.snow_wire.specs.declared.skip.Fault.TheVariants.{Tag, Short, Extra, Count}
use Rattle.snow_wire.specs.Model.Reading.{bytes_at, number_at, limited_at, flag_at, sized_at, items_at, counted_at, start_at, single_at, message_at, fields_at, event_of}
use Rattle.snow_wire.specs.Model.Frame.{first_of, frames_in, frames_of}

-- an identifier by its first byte
abbrev id_of : ℕ → List ℕ
id_of first = first ∷ replicate 31 0

-- four bytes of a small number
abbrev four : ℕ → List ℕ
four n = 0 ∷ 0 ∷ 0 ∷ n ∷ []

abbrev start_bytes : List ℕ
start_bytes = 1 ∷ four 1 ++ four 1 ++ four 1 ++ four 1 ++ four 1 ++ 0 ∷ id_of 0xff ++ replicate 8 0 ++ replicate 4 0

abbrev plain_block : List ℕ
plain_block = id_of 1 ++ id_of 0xff ++ replicate 7 0 ++ 1 ∷ 1 ∷ []

abbrev block_bytes : List ℕ
block_bytes = 2 ∷ replicate 20 0 ++ four 0 ++ four 73 ++ plain_block

abbrev poll_bytes : List ℕ
poll_bytes = 3 ∷ 0 ∷ 1 ∷ id_of 1

abbrev stream : List ℕ
stream = four 66 ++ start_bytes ++ four 102 ++ block_bytes ++ four 35 ++ poll_bytes

pub three_frames : frames_of stream ≡ (start_bytes ∷ block_bytes ∷ poll_bytes ∷ [], [])
unfolding frames_of frames_in first_of
three_frames = refl

-- a frame that isn't whole is rest
pub two_frames : frames_of (take 214 stream) ≡ (start_bytes ∷ block_bytes ∷ [], take 38 (four 35 ++ poll_bytes))
unfolding frames_of frames_in first_of
two_frames = refl

abbrev started : Event
started = event.Start (record {
  k = 1;
  alpha_preference = 1;
  alpha_confidence = 1;
  beta = 1;
  repolls = 1;
  boot = false;
  last = id_of 0xff;
  height = 0;
  state = [];
  nodes = [];
})

pub start_is_read : event_of start_bytes ≡ Ok started
unfolding event_of fields_at start_at number_at limited_at flag_at bytes_at counted_at items_at
start_is_read = refl

pub start_is_spelled : spelling started ≡ start_bytes
unfolding spelling number
start_is_spelled = refl

pub block_is_read : event_of block_bytes ≡ Ok (event.Block (replicate 20 0) 0 plain_block)
unfolding event_of fields_at message_at number_at limited_at bytes_at sized_at
block_is_read = refl

pub poll_is_read : event_of poll_bytes ≡ Ok (event.Poll (id_of 1 ∷ []))
unfolding event_of fields_at single_at number_at limited_at bytes_at counted_at items_at
poll_is_read = refl

-- ---- the first fault

pub no_such_tag : event_of (18 ∷ []) ≡ Err Tag
unfolding event_of fields_at number_at
no_such_tag = refl

pub too_short : event_of [] ≡ Err Short
unfolding event_of number_at
too_short = refl

pub bytes_left : event_of (poll_bytes ++ 0 ∷ []) ≡ Err Extra
unfolding event_of fields_at single_at number_at limited_at bytes_at counted_at items_at
bytes_left = refl

-- 1,025 votes, which aren't looked for
pub too_many : event_of (3 ∷ 4 ∷ 1 ∷ []) ≡ Err Count
unfolding event_of fields_at single_at number_at limited_at counted_at
too_many = refl

-- 1,024 votes, which are missing
pub votes_missing : event_of (3 ∷ 4 ∷ 0 ∷ []) ≡ Err Short
unfolding event_of fields_at single_at number_at limited_at bytes_at counted_at items_at
votes_missing = refl
