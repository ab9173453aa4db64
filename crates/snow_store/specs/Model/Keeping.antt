-- The blocks that are kept above the last accepted one, and what becomes of a block that is taken.
use Rattle.std.specs.Prelude.{◌≡◌, ℕ, ◌+◌, ◌-◌, Bool, ◌==◌, List, [], ◌∷◌, length, Option, Some, None, Result, Ok, Err, nat_le, nat_lt, not, ◌&&◌, bytes_eq, if◌then◌else◌, ⊤}
use Rattle.std.specs.Option.{option_or}
use Rattle.snow_base.specs.declared.limits.TheConstants.{MOST_KEPT}
use Rattle.snow_base.specs.declared.block.Header.{Header}
use Rattle.snow_store.specs.declared.store.KeptBlock.{KeptBlock}
use Rattle.snow_store.specs.declared.stop.BootStop.{BootStop}
use Rattle.snow_store.specs.declared.stop.BootStop.TheVariants as stop
use Rattle.snow_store.specs.declared.stop.Verdict.{Verdict}
use Rattle.snow_store.specs.declared.stop.Verdict.TheVariants as verdict

-- the last accepted block with its height, and the kept blocks, the latest first
pub record Store : Type 0 where
  pub last : List ℕ
  pub height : ℕ
  pub kept : List KeptBlock

-- the kept block at a height
unfoldable pub held : List KeptBlock → ℕ → Option KeptBlock
held [] height = None
held (b ∷ kept) height = if b.header.height == height then Some b else held kept height

-- the higher of a block and another, if there is one
abbrev pub higher : KeptBlock → Option KeptBlock → KeptBlock
higher b None = b
higher b (Some c) = if nat_lt b.header.height c.header.height then c else b

-- the highest kept block with an identifier
unfoldable pub highest : List KeptBlock → List ℕ → Option KeptBlock
highest [] id = None
highest (b ∷ kept) id = if bytes_eq b.header.id id then Some (higher b (highest kept id)) else highest kept id

-- the lower of a block and another, if there is one
abbrev pub lower : KeptBlock → Option KeptBlock → KeptBlock
lower b None = b
lower b (Some c) = if nat_lt c.header.height b.header.height then c else b

-- whether a block names a parent, and doesn't stand right above its height
abbrev pub strays : List ℕ → ℕ → KeptBlock → Bool
strays parent height b = bytes_eq b.header.parent parent && not (b.header.height == height + 1)

-- the lowest kept block that names a parent and doesn't stand right above its height
unfoldable pub stray : List KeptBlock → List ℕ → ℕ → Option KeptBlock
stray [] parent height = None
stray (b ∷ kept) parent height = if strays parent height b then Some (lower b (stray kept parent height)) else stray kept parent height

-- a stop, or else what comes
abbrev pub unless : Option BootStop → Result Verdict BootStop → Result Verdict BootStop
unless None verdict = verdict
unless (Some why) verdict = Err why

-- a kept child of a block at a wrong height
abbrev pub child_stop : Option KeptBlock → Option BootStop
child_stop None = None
child_stop (Some child) = Some (stop.Refused child.header.id)

-- a block right above the last accepted one with another parent
abbrev pub fork_stop : Store → Header → Option BootStop
fork_stop s b = if b.height == s.height + 1 && not (bytes_eq b.parent s.last) then Some (stop.Fork b.id b.parent) else None

-- the block below, if one is kept, isn't the parent
abbrev pub below_stop : Header → Option KeptBlock → Option BootStop
below_stop b None = None
below_stop b (Some below) = if bytes_eq below.header.id b.parent then None else Some (stop.Conflict (b.height - 1) below.header.id b.parent)

-- the block above, if one is kept, has another parent
abbrev pub above_stop : Header → Option KeptBlock → Option BootStop
above_stop b None = None
above_stop b (Some above) = if bytes_eq above.header.parent b.id then None else Some (stop.Conflict b.height above.header.parent b.id)

-- a block that is kept doesn't fit the blocks around it
abbrev pub misplaced : Store → Header → Option BootStop
misplaced s b =
    option_or (fork_stop s b)
    (option_or (below_stop b (held s.kept (b.height - 1)))
    (above_stop b (held s.kept (b.height + 1))))

-- a block at a height that a block holds
abbrev pub placed_there : Header → KeptBlock → Result Verdict BootStop
placed_there b other = if bytes_eq other.header.id b.id then Ok verdict.Known else Err (stop.Conflict b.height other.header.id b.id)

-- a block at a height that is free, or that a block holds
abbrev pub placed : Store → Header → Option KeptBlock → Result Verdict BootStop
placed s b None = if nat_le MOST_KEPT (length s.kept) then Err stop.Full else unless (misplaced s b) (Ok verdict.Keeps)
placed s b (Some other) = placed_there b other

-- what becomes of a block that is taken
unfoldable pub taken : Store → Header → Result Verdict BootStop
taken s b =
    unless (child_stop (stray s.kept b.id b.height))
    (if nat_le b.height s.height then Ok verdict.Low else placed s b (held s.kept b.height))

-- one block more is kept
abbrev pub keeping : Store → KeptBlock → Store
keeping s b = record { last = s.last; height = s.height; kept = b ∷ s.kept }

-- the kept blocks after a block was taken
abbrev pub after_taking : Store → KeptBlock → Verdict → Store
after_taking s b verdict.Keeps = keeping s b
after_taking s b verdict.Low = s
after_taking s b verdict.Known = s

-- the answer is what is expected, or want of memory
abbrev pub Answers : {A : Type 0} → Result A BootStop → Result A BootStop → Type 0
Answers (Err stop.Memory) expected = ⊤
Answers result expected = result ≡ expected
