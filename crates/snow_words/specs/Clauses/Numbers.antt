-- Decimal numbers, and how many bytes hold one.
use Rattle.std.specs.Prelude.{ℕ, ◌^◌, ◌&&◌, nat_lt, if◌then◌else◌, List, Option, Some, None}
use Rattle.std.specs.Str.{all_ascii_digits}
use Rattle.std.specs.Str.Parse.{digits_value_after}
use Rattle.snow_words.specs.declared.number.Width.{Width}
use Rattle.snow_words.specs.declared.number.Width.TheVariants as width

-- the number of 64 bits that digits write behind those of n
unfoldable pub value_after : ℕ → List ℕ → Option ℕ
value_after n digits = if all_ascii_digits digits && nat_lt (digits_value_after 10 n digits) (2 ^ 64) then Some (digits_value_after 10 n digits) else None

-- how many bytes a number has
abbrev pub size_of : Width → ℕ
size_of width.One = 1
size_of width.Two = 2
size_of width.Four = 4
size_of width.Eight = 8
