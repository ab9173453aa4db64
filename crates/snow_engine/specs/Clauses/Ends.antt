-- How a run may end: the stops, which its frames show, told from faults and from want of memory.
use Rattle.std.specs.Prelude.{Bool, true, false}
use Rattle.snow_engine.specs.declared.end.End.{End}
use Rattle.snow_engine.specs.declared.end.End.TheVariants as end

-- whether an end is a stop: what a frame says, and not a fault, want of memory or how far the bytes went
abbrev pub is_stop : End → Bool
is_stop (end.BadInput frame bad) = true
is_stop end.RequestLimit = true
is_stop (end.BootStopped stop) = true
is_stop e = false
