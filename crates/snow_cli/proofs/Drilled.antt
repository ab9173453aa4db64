-- What a drill owes, as the run of a command.
use Rattle.std.proofs.Common.{◌≡◌, ℕ, List, [], Option, Some, None, refl, sym, ◌∙◌, append-nil}
use Rattle.snow_base.specs.Clauses.Outside.{AppendsFront}
use Rattle.snow_engine.specs.declared.end.End.{End}
use Rattle.snow_engine.specs.declared.end.End.TheVariants as end
use Rattle.snow_engine.specs.Clauses.Serving.{IsEnd}
use Rattle.snow_engine.specs.Clauses.Serving as serving
use Rattle.snow_drill.specs.Kept.Following as drill

-- nothing is a front of any text
pub nothing_front : (before after : Option (List ℕ)) (text : List ℕ) → after ≡ before → AppendsFront before after text
nothing_front None after text e = tt
nothing_front (Some xs) None text e = cc
nothing_front (Some xs) (Some ys) text e =
    let same : ys ≡ xs = cc in
    ([], text, refl, same ∙ sym (append-nil xs))

pub drill_ends : (e : End) (before after : Option (List ℕ)) (text : List ℕ) → drill.Wrote e before after text → IsEnd e end.Done
drill_ends end.Done before after text h = refl
drill_ends end.SinkFault before after text h = tt
drill_ends end.Memory before after text h = tt
drill_ends (end.BadInput frame kind) before after text h = absurd h
drill_ends end.SourceFault before after text h = tt
drill_ends end.InputLimit before after text h = absurd h
drill_ends end.RequestLimit before after text h = absurd h
drill_ends (end.BootStopped why) before after text h = absurd h

pub drill_writes : (e : End) (before after : Option (List ℕ)) (text : List ℕ) → drill.Wrote e before after text → serving.Wrote e before after text
drill_writes end.Done before after text h = h
drill_writes end.SinkFault before after text h = h
drill_writes end.Memory before after text h = nothing_front before after text h
drill_writes (end.BadInput frame kind) before after text h = absurd h
drill_writes end.SourceFault before after text h = absurd h
drill_writes end.InputLimit before after text h = absurd h
drill_writes end.RequestLimit before after text h = absurd h
drill_writes (end.BootStopped why) before after text h = absurd h

pub drill_fails : (e : End) (before after : Option (List ℕ)) (text : List ℕ) (sink_before sink_after source_before source_after : ℕ) → drill.Wrote e before after text
    → drill.HasFault e sink_before sink_after → serving.HasFault e source_before source_after sink_before sink_after
drill_fails end.Done before after text b a sb sa h f = tt
drill_fails end.SinkFault before after text b a sb sa h f = f
drill_fails end.Memory before after text b a sb sa h f = tt
drill_fails (end.BadInput frame kind) before after text b a sb sa h f = absurd h
drill_fails end.SourceFault before after text b a sb sa h f = absurd h
drill_fails end.InputLimit before after text b a sb sa h f = absurd h
drill_fails end.RequestLimit before after text b a sb sa h f = absurd h
drill_fails (end.BootStopped why) before after text b a sb sa h f = absurd h
