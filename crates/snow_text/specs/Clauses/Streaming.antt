-- What showing a stream owes, as its pieces come.
use Rattle.std.specs.Prelude.{◌≡◌, ℕ, ◌≤◌, ◌^◌, Bool, true, false, List, [], ◌++◌, length, Option, Some, None, Result, Ok, Err, ⊤}
use Rattle.std.specs.List.{flat_map}
use Rattle.std.specs.Io.KnownBytes.{Appends, Consumes}
use Rattle.snow_base.specs.Clauses.Outside.{AppendsFront, Rose}
use Rattle.snow_wire.specs.Model.Frame.{first_of, frames_of}
use Rattle.snow_text_model.specs.declared.block_form.BlockForm.{BlockForm}
use Rattle.snow_text.specs.declared.streaming.ShowEnd.{ShowEnd}
use Rattle.snow_text.specs.declared.streaming.ShowEnd.TheVariants as end
use Rattle.snow_text_model.specs.Model.Shown.{shown_frame}

-- the lines of frames
abbrev pub lines_of : BlockForm → List (List ℕ) → List ℕ
lines_of form payloads = flat_map (shown_frame form) payloads

-- the first frame was taken off, and its line was written
pub record TakesFirst (form : BlockForm) (before now : List ℕ) (out_before out_now : Option (List ℕ)) : Type 0 where
  pub payload : List ℕ
  pub first : first_of before ≡ Some (payload, now)
  pub written : Appends out_before out_now (shown_frame form payload)

-- no whole frame stands in front, and all stays
pub record FindsNone (before now : List ℕ) (out_before out_now : Option (List ℕ)) : Type 0 where
  pub none : first_of before ≡ None
  pub same : now ≡ before
  pub written : Appends out_before out_now []

-- a front of the first frame's line was written
pub record Breaks (form : BlockForm) (before : List ℕ) (out_before out_now : Option (List ℕ)) : Type 0 where
  pub payload : List ℕ
  pub behind : List ℕ
  pub first : first_of before ≡ Some (payload, behind)
  pub written : AppendsFront out_before out_now (shown_frame form payload)

-- the first frame was shown, if there is one
abbrev pub ShowsOne : {E : Type 0} → BlockForm → Result Bool E → List ℕ → List ℕ → Option (List ℕ) → Option (List ℕ) → Type 0
ShowsOne form (Ok true) before now out_before out_now = TakesFirst form before now out_before out_now
ShowsOne form (Ok false) before now out_before out_now = FindsNone before now out_before out_now
ShowsOne form (Err e) before now out_before out_now = Breaks form before out_before out_now

-- these frames were taken off, and their lines were written
pub record Passes (form : BlockForm) (before now : List ℕ) (out_before out_now : Option (List ℕ)) : Type 0 where
  pub payloads : List (List ℕ)
  pub split : frames_of before ≡ (payloads ++ (frames_of now).0, (frames_of now).1)
  pub written : Appends out_before out_now (lines_of form payloads)

-- all whole frames were shown; or a front of their lines was written
abbrev pub ShowsAll : {T E : Type 0} → BlockForm → Result T E → List ℕ → List ℕ → Option (List ℕ) → Option (List ℕ) → Type 0
ShowsAll form (Ok x) before now out_before out_now = Passes form before now out_before out_now × (first_of now ≡ None)
ShowsAll form (Err e) before now out_before out_now = AppendsFront out_before out_now (lines_of form (frames_of before).0)

-- what was written: the whole text, or a front of it where a fault, want of memory or the limit ended the stream
abbrev pub WritesText : ShowEnd → Option (List ℕ) → Option (List ℕ) → List ℕ → Type 0
WritesText end.Done before after text = Appends before after text
WritesText given before after text = AppendsFront before after text

-- the source failed behind these bytes: exactly the lines of their whole frames were written
pub record Broke (form : BlockForm) (left_before left_after out_before out_after : Option (List ℕ)) : Type 0 where
  pub gone : List ℕ
  pub consumed : Consumes left_before left_after gone
  pub few : length gone ≤ 2 ^ 40
  pub written : Appends out_before out_after (lines_of form (frames_of gone).0)

-- 2^40 bytes came: exactly the lines of their whole frames were written
pub record Filled (form : BlockForm) (left_before left_after out_before out_after : Option (List ℕ)) : Type 0 where
  pub gone : List ℕ
  pub consumed : Consumes left_before left_after gone
  pub full : length gone ≡ 2 ^ 40
  pub written : Appends out_before out_after (lines_of form (frames_of gone).0)

-- a source fault, or a sink fault, is told only where that object's count of faults rose or stands at its last value
abbrev pub HasFault : ShowEnd → ℕ → ℕ → ℕ → ℕ → Type 0
HasFault end.SourceFault source_before source_after sink_before sink_after = Rose source_before source_after
HasFault end.SinkFault source_before source_after sink_before sink_after = Rose sink_before sink_after
HasFault given source_before source_after sink_before sink_after = ⊤

-- the sink failed where that is the end, or memory ran out
abbrev pub EndFails : ShowEnd → ℕ → ℕ → Type 0
EndFails end.SinkFault before after = Rose before after
EndFails end.Memory before after = ⊤
EndFails given before after = ⊥

abbrev pub SinkFails : {T : Type 0} → Result T ShowEnd → ℕ → ℕ → Type 0
SinkFails (Ok x) before after = ⊤
SinkFails (Err given) before after = EndFails given before after
