-- A run that is recorded with its own lines never differs.
use Rattle.std.proofs.Common.{◌≡◌, ℕ, suc, ◌+◌, ◌≤◌, Bool, true, false, cond, ◌&&◌, nat_le, List, [], ◌∷◌, ◌++◌, map, length, Option, Some, None, is_none, Result, Ok, Err, refl, sym, ap, ◌∙◌, arith}
use Rattle.std.specs.List.{join_with_byte, list_all}
use Rattle.std.proofs.lemmas.Bool.Decides.{nat_tests}
use Rattle.std.proofs.lemmas.List.{length-append}
use Rattle.std.proofs.lemmas.List.Folds.{list_all-append}
use Rattle.std.proofs.lemmas.Slice.Eq.{bytes_eq-Decides}
use Rattle.snow_flake.specs.Model.Rule.{Answer}
use Rattle.snow_chain.specs.Model.Chain.{Rules}
use Rattle.snow_wire.specs.declared.event.Event.TheVariants as event
use Rattle.snow_wire.specs.Model.Frame.{frames_of}
use Rattle.snow_wire.proofs.Events.{event_again}
use Rattle.snow_lines.specs.declared.line.Line.{Line}
use Rattle.snow_lines.specs.Model.Text.{text, words}
use Rattle.snow_engine.specs.declared.engine.Task.TheVariants as task
use Rattle.snow_engine.specs.declared.end.End.{End}
use Rattle.snow_engine.specs.declared.end.End.TheVariants as end
use Rattle.snow_engine.specs.Model.Run.{Stand, Fresh, Going, Stopped, after_frame, after_frames, seen}
use Rattle.snow_audit.specs.declared.auditing.AuditEnd.{AuditEnd}
use Rattle.snow_audit.specs.declared.auditing.AuditEnd.TheVariants as audit
use Rattle.snow_audit.specs.Model.Recording.{line_in, text_of}
use Rattle.snow_audit.specs.Model.Auditing.{Steps, audited_frames, audit_of, ends_as, stream_end}
use Rattle.snow_audit.specs.Kept.Following.{Between, beginning, first_then, follows, frame_comes, goes_on, is_fresh, later_comes, standing_at, stepped, stepped_to, stop_of}
use Rattle.snow_audit.specs.Laws.OwnLines.{fits, is_difference, is_event, recorded, recording}
use Rattle.snow_audit.proofs.Followed.{follows_audit, plus_none, test_false}
use Rattle.snow_audit.proofs.Answered.{run_begins}

and_parts : (b c : Bool) → (b && c) ≡ true → (b ≡ true) × (c ≡ true)
and_parts true c e = (refl, e)
and_parts false c e = absurd cc

if_none : (o : Option (List ℕ)) → is_none o ≡ true → o ≡ None
if_none None e = refl
if_none (Some x) e = absurd cc

short : (n : ℕ) → nat_le (n + 1) 1100001 ≡ true → n ≤ 1100000
short n e = grind (arith, nat_tests)

-- a recorded line is read again
read_again : (l : Line) → fits l ≡ true → line_in (recorded l) ≡ Some (text l)
unfolding text
read_again l fit =
    let bytes = join_with_byte 32 (words l) in
    let within : length bytes ≤ 1100000 = short (length bytes) (ap (λ (n : ℕ). nat_le n 1100001) (sym (length-append bytes (10 ∷ []))) ∙ fit) in
    ap text_of (event_again (event.Line bytes) (tt, within))

-- no difference is found behind the last frame
calm_end : (lines : ℕ) (stop : Option End) (stream : End) → is_difference (ends_as lines stop stream) ≡ false
calm_end lines (Some e) stream = refl
calm_end lines None end.Done = refl
calm_end lines None stream = refl

module _ (rules : Rules) (answer : Answer) (stream : End) where
  abbrev steps : Steps
  steps = after_frame rules answer task.Run

  abbrev at : Stand → ℕ → ℕ → List (List ℕ) → Between
  at stand events lines owed = record { stand = stand; events = events; lines = lines; owed = owed }

  more_frames : (n k : ℕ) → n + 1 + k ≡ n + suc k
  more_frames n k = omega arith

  -- the first line that is owed comes
  line_goes : (l : Line) (owed : List (List ℕ)) (frame : ℕ) (stand : Stand) (events lines : ℕ) → is_fresh stand ≡ false → fits l ≡ true
      → frame_comes steps (at stand events lines (text l ∷ owed)) frame (recorded l) ≡ Ok (at stand events (lines + 1) owed)
  line_goes l owed frame stand events lines begun fit =
      let b = at stand events lines (text l ∷ owed) in
      let next = stepped steps b frame (recorded l) in
      test_false (is_fresh stand) (first_then next.stand next) (later_comes b (line_in (recorded l)) next) begun
      ∙ ap (λ (o : Option (List ℕ)). later_comes b o next) (read_again l fit)
      ∙ ap (λ (t : Bool). cond t (Ok (at stand events (lines + 1) owed)) (Err (audit.Differs (lines + 1)))) ((bytes_eq-Decides (text l) (text l)).1 refl)

  -- all lines that are owed come
  lines_come : (ls : List Line) (frame : ℕ) (stand : Stand) (events lines : ℕ) (rest : List (List ℕ)) → is_fresh stand ≡ false → list_all fits ls ≡ true
      → follows steps stream frame (map recorded ls ++ rest) (at stand events lines (map text ls)) ≡ follows steps stream (frame + length ls) rest (at stand events (lines + length ls) [])
  unfolding follows
  lines_come [] frame stand events lines rest begun fit =
      ap (λ (n : ℕ). follows steps stream n rest (at stand events lines [])) (sym (plus_none frame))
      ∙ ap (λ (n : ℕ). follows steps stream (frame + 0) rest (at stand events n [])) (sym (plus_none lines))
  lines_come (l ∷ ls) frame stand events lines rest begun fit =
      let parts = and_parts (fits l) (list_all fits ls) fit in
      ap (λ (r : Result Between AuditEnd). goes_on r (follows steps stream (frame + 1) (map recorded ls ++ rest))) (line_goes l (map text ls) frame stand events lines begun parts.0)
      ∙ lines_come ls (frame + 1) stand events (lines + 1) rest begun parts.1
      ∙ ap (λ (n : ℕ). follows steps stream n rest (at stand events (lines + 1 + length ls) [])) (more_frames frame (length ls))
      ∙ ap (λ (n : ℕ). follows steps stream (frame + suc (length ls)) rest (at stand events n [])) (more_frames lines (length ls))

  still_begun : (frame : ℕ) (stand : Stand) → is_fresh stand ≡ false → is_fresh (standing_at frame stand) ≡ false
  still_begun frame Fresh e = e
  still_begun frame (Going node) e = refl
  still_begun frame (Stopped x) e = refl

  -- events behind one, each with its own lines
  Calm : List (List ℕ) → Type 0
  Calm payloads = (told frame : ℕ) (stand : Stand) (events lines : ℕ) → is_fresh stand ≡ false → list_all is_event payloads ≡ true
      → list_all fits (after_frames rules answer task.Run stand (events + 1) payloads).0 ≡ true
      → is_difference (follows steps stream frame (recording steps stand (events + 1) payloads) (at (standing_at told stand) events lines [])) ≡ false

  -- an event's own lines, and then others
  with_lines : (payloads : List (List ℕ)) → Calm payloads → (frame next : ℕ) (now : List Line × Stand) (events lines : ℕ) → is_fresh now.1 ≡ false → list_all is_event payloads ≡ true
      → list_all fits (now.0 ++ (after_frames rules answer task.Run now.1 (events + 1) payloads).0) ≡ true
      → is_difference (follows steps stream next (map recorded now.0 ++ recording steps now.1 (events + 1) payloads) (at (standing_at frame now.1) events lines (map text now.0))) ≡ false
  unfolding Calm
  with_lines payloads others frame next now events lines begun none fit =
      let later = (after_frames rules answer task.Run now.1 (events + 1) payloads).0 in
      let parts = and_parts (list_all fits now.0) (list_all fits later) (sym (list_all-append fits now.0 later) ∙ fit) in
      ap is_difference (lines_come now.0 next (standing_at frame now.1) events lines (recording steps now.1 (events + 1) payloads) (still_begun frame now.1 begun) parts.0)
      ∙ others frame (next + length now.0) now.1 events (lines + length now.0) begun none parts.1

  calm : (payloads : List (List ℕ)) → Calm payloads
  unfolding Calm follows recording after_frames
  calm [] told frame stand events lines begun none fit = calm_end lines (stop_of (standing_at told stand)) stream
  calm (payload ∷ payloads) told frame Fresh events lines begun none fit = absurd cc
  calm (payload ∷ payloads) told frame (Stopped e) events lines begun none fit =
      let b = at (standing_at told (Stopped e)) events lines [] in
      let others = map recorded (steps (Stopped e) (events + 1) payload).0 ++ recording steps (steps (Stopped e) (events + 1) payload).1 (events + 1 + 1) payloads in
      ap (λ (o : Option (List ℕ)). is_difference (goes_on (later_comes b o (stepped steps b frame payload)) (follows steps stream (frame + 1) others)))
      (if_none (line_in payload) (and_parts (is_event payload) (list_all is_event payloads) none).0)
  calm (payload ∷ payloads) told frame (Going node) events lines begun none fit =
      let b = at (Going node) events lines [] in
      let now = steps (Going node) (events + 1) payload in
      let tests = and_parts (is_event payload) (list_all is_event payloads) none in
      ap (λ (o : Option (List ℕ)). is_difference (goes_on (later_comes b o (stepped_to b frame now)) (follows steps stream (frame + 1) (map recorded now.0 ++ recording steps now.1 (events + 1 + 1) payloads))))
      (if_none (line_in payload) tests.0)
      ∙ with_lines payloads (calm payloads) frame (frame + 1) now (events + 1) lines (run_begins rules answer task.Run (Going node) (events + 1) payload) tests.1 fit

  -- the first event, by what comes of it
  first_calm : (payloads : List (List ℕ)) (lines : List Line) (stand : Stand) → is_fresh stand ≡ false → list_all is_event payloads ≡ true
      → list_all fits (lines ++ (after_frames rules answer task.Run stand 2 payloads).0) ≡ true
      → is_difference (goes_on (first_then (standing_at 1 stand) (stepped_to beginning 1 (lines, stand))) (follows steps stream 2 (map recorded lines ++ recording steps stand 2 payloads))) ≡ false
  first_calm payloads lines Fresh begun none fit = absurd cc
  first_calm payloads lines (Stopped e) begun none fit = refl
  first_calm payloads lines (Going node) begun none fit = with_lines payloads (calm payloads) 1 2 (lines, Going node) 1 0 refl none fit

  all_calm : (payloads : List (List ℕ)) → list_all is_event payloads ≡ true → list_all fits (after_frames rules answer task.Run Fresh 1 payloads).0 ≡ true
      → is_difference (follows steps stream 1 (recording steps Fresh 1 payloads) beginning) ≡ false
  unfolding follows recording after_frames
  all_calm [] none fit = calm_end 0 None stream
  all_calm (payload ∷ payloads) none fit =
      first_calm payloads (steps Fresh 1 payload).0 (steps Fresh 1 payload).1 (run_begins rules answer task.Run Fresh 1 payload) (and_parts (is_event payload) (list_all is_event payloads) none).1 fit

-- a stream of events with their own lines
pub never_differs : (rules : Rules) (answer : Answer) (payloads : List (List ℕ)) (bytes : List ℕ) → list_all is_event payloads ≡ true
    → list_all fits (after_frames rules answer task.Run Fresh 1 payloads).0 ≡ true
    → (frames_of (seen bytes)).0 ≡ recording (after_frame rules answer task.Run) Fresh 1 payloads → is_difference (audit_of rules answer bytes) ≡ false
never_differs rules answer payloads bytes none fit frames =
    let of_frames = λ (stream : End) (ps : List (List ℕ)). audited_frames (after_frame rules answer task.Run) ps stream in
    let stream = stream_end (length (frames_of (seen bytes)).0) (frames_of (seen bytes)).1 (nat_le (1099511627776) (length bytes)) in
    ap (λ (ps : List (List ℕ)). is_difference (of_frames stream ps)) frames
    ∙ ap is_difference (sym (follows_audit (after_frame rules answer task.Run) stream (run_begins rules answer task.Run) (recording (after_frame rules answer task.Run) Fresh 1 payloads)))
    ∙ all_calm rules answer stream payloads none fit
