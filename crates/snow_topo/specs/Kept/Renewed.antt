-- Numbers of polls that begin anew: the last one is 1, and all before it are 0.
use Rattle.std.specs.Prelude.{ℕ, map, ◌==◌, if◌then◌else◌}
use Rattle.snow_tree.specs.Kept.Held.{Entry, Held}
use Rattle.snow_topo.specs.Kept.Children.{Kept}

abbrev pub renewed : ℕ → Kept → Kept
renewed polls kept = record kept { recorded = if kept.recorded == polls then 1 else 0 }

abbrev pub renewed_entry : ℕ → Entry Kept → Entry Kept
renewed_entry polls e = record e { load = renewed polls e.load }

abbrev pub all_renewed : ℕ → Held Kept → Held Kept
all_renewed polls held = record held { pending = map (renewed_entry polls) held.pending }
