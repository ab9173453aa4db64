-- A stream as frames: four bytes of length, at most 2,097,152, and so many bytes of payload.
use Rattle.std.specs.Prelude.{◌≡◌, ℕ, zero, suc, ◌+◌, ◌<◌, ◌≤◌, ◌⊎◌, Bool, ◌&&◌, List, [], ◌∷◌, ◌++◌, length, take, drop, All, Option, Some, None, nat_le, nat_lt, if◌then◌else◌}
use Rattle.std.specs.List.{flat_map}
use Rattle.snow_base.specs.declared.limits.TheConstants.{FRAME_BYTES}
use Rattle.byteorder.specs.Endian.{big_number}
use Rattle.snow_wire.specs.Model.Spelling.{number}

-- what may stand in a frame
abbrev pub IsPayload : List ℕ → Type 0
IsPayload payload = length payload ≤ FRAME_BYTES

-- the bytes of a frame
abbrev pub frame : List ℕ → List ℕ
frame payload = number 4 (length payload) ++ payload

-- the length in the first four bytes
abbrev pub length_word : List ℕ → ℕ
length_word bytes = big_number 4 bytes

-- a length word stands in front, and is above the limit
abbrev pub is_too_long : List ℕ → Bool
is_too_long bytes = nat_le 4 (length bytes) && nat_lt FRAME_BYTES (length_word bytes)

-- less than a length word, or a length above the limit, or the beginning of a frame that isn't whole
abbrev pub IsRest : List ℕ → Type 0
IsRest rest = (length rest < 4) ⊎ (FRAME_BYTES < length_word rest) ⊎ (length rest < 4 + length_word rest)

-- the bytes are these whole frames, and then this rest
pub record AreFrames (bytes : List ℕ) (payloads : List (List ℕ)) (rest : List ℕ) : Type 0 where
  pub whole : bytes ≡ flat_map frame payloads ++ rest
  pub each : All IsPayload payloads
  pub partial : IsRest rest

-- ---- the same from the front

-- a whole frame stands in front
abbrev pub is_whole : List ℕ → Bool
is_whole bytes = nat_le 4 (length bytes) && nat_le (length_word bytes) FRAME_BYTES && nat_le (4 + length_word bytes) (length bytes)

-- the first frame's payload, and what is behind the frame
unfoldable pub first_of : List ℕ → Option (List ℕ × List ℕ)
first_of bytes =
    if is_whole bytes
    then Some (take (length_word bytes) (drop 4 bytes), drop (length_word bytes) (drop 4 bytes))
    else None

-- the first payload and those behind it; without a first one all is rest
abbrev pub led_by : (List ℕ → List (List ℕ) × List ℕ) → List ℕ → Option (List ℕ × List ℕ) → List (List ℕ) × List ℕ
led_by others bytes None = ([], bytes)
led_by others bytes (Some first) = (first.0 ∷ (others first.1).0, (others first.1).1)

-- at most n frames from the front, and what is behind them
unfoldable pub frames_in : ℕ → List ℕ → List (List ℕ) × List ℕ
frames_in zero bytes = ([], bytes)
frames_in (suc n) bytes = led_by (frames_in n) bytes (first_of bytes)

-- the payloads of the frames, and the rest
unfoldable pub frames_of : List ℕ → List (List ℕ) × List ℕ
frames_of bytes = frames_in (length bytes) bytes
