-- What a line that is printed and read may hold.
use Rattle.std.specs.Prelude.{◌≡◌, ℕ, ◌^◌, ◌<◌, ◌≤◌, List, length, All, ⊤}
use Rattle.hex.specs.Hex.{IsBytes}
use Rattle.snow_lines.specs.declared.line.Line.{Line}
use Rattle.snow_lines.specs.declared.line.Line.TheVariants as line
use Rattle.snow_lines.specs.Model.Text.{Draw}

-- a number of 32 bits
abbrev pub IsNumber : ℕ → Type 0
IsNumber n = n < 2 ^ 32

-- a number of 64 bits
abbrev pub IsLong : ℕ → Type 0
IsLong n = n < 2 ^ 64

-- so many bytes
abbrev pub AreBytes : ℕ → List ℕ → Type 0
AreBytes n bytes = (length bytes ≡ n) × IsBytes bytes

-- an identifier's 32 bytes
abbrev pub IsId : List ℕ → Type 0
IsId = AreBytes 32

-- a node's 20 bytes
abbrev pub IsNode : List ℕ → Type 0
IsNode = AreBytes 20

-- a node that was drawn at least once
abbrev pub IsDraw : Draw → Type 0
IsDraw d = IsNode d.node × (1 ≤ d.count) × IsNumber d.count

-- numbers fit their types, identifiers and nodes have their lengths, and what must not be empty isn't
abbrev pub IsLine : Line → Type 0
IsLine (line.Query number id draws) = IsNumber number × IsId id × (0 < length draws) × All IsDraw draws
IsLine (line.Get number node id) = IsNumber number × IsNode node × IsId id
IsLine (line.Frontier number) = IsNumber number
IsLine (line.Accepted number ids) = IsNumber number × (0 < length ids) × All IsId ids
IsLine (line.Ancestors number node id) = IsNumber number × IsNode node × IsId id
IsLine (line.Accept id) = IsId id
IsLine (line.Reject id) = IsId id
IsLine (line.Prefer id) = IsId id
IsLine (line.Drop id why) = IsId id
IsLine (line.DropQuery why) = ⊤
IsLine (line.Skip frame kind) = IsLong frame
IsLine (line.Restart why) = ⊤
IsLine (line.Bootstrapped id height) = IsId id × IsLong height
IsLine (line.ToChits node number preference last) = IsNode node × IsNumber number × IsId preference × IsId last
IsLine (line.ToFrontier node number id) = IsNode node × IsNumber number × IsId id
IsLine (line.ToAccepted node number ids) = IsNode node × IsNumber number × All IsId ids
IsLine (line.ToAncestors node number blocks) = IsNode node × IsNumber number × (0 < length blocks) × All IsBytes blocks
IsLine (line.ToBlock node number bytes) = IsNode node × IsNumber number × IsBytes bytes
