-- The frames of a decoder worked one after another.
use Rattle.std.proofs.Common.{◌≡◌, ℕ, suc, ◌+◌, ◌-◌, ◌*◌, ◌^◌, ◌<◌, ◌≤◌, true, false, Bool, List, [], ◌∷◌, ◌++◌, length, append_assoc, append-nil, Option, Some, None, is_some, Err, refl, sym, ap, ◌∙◌, subst, inl, inr, arith}
use Rattle.std.proofs.lemmas.List.{length-drop}
use Rattle.snow_base.specs.Clauses.Outside.{AppendsFront}
use Rattle.snow_base.proofs.Known.{front_of_more}
use Rattle.snow_flake.specs.Model.Rule.{Answer}
use Rattle.snow_chain.specs.Model.Chain.{Rules}
use Rattle.snow_wire.specs.Model.Frame.{first_of, frames_of}
use Rattle.snow_wire.specs.Clauses.Stream.{Intake}
use Rattle.snow_wire.proofs.Streams.{frames_front, frames_end, long_first, off_front, behind_shorter}
use Rattle.snow_lines.specs.declared.line.Line.{Line}
use Rattle.snow_page.specs.Kept.Gathered.{Gathers}
use Rattle.snow_lines.specs.Model.Text.{texts}
use Rattle.snow_page.proofs.Waiting.{gathers_then, gathers_then_front}
use Rattle.snow_engine.specs.declared.engine.Task.{Task}
use Rattle.snow_engine.specs.declared.end.End.{End}
use Rattle.snow_engine.specs.declared.end.End.TheVariants as end
use Rattle.snow_engine.specs.Kept.Staging.{Node}
use Rattle.snow_engine.specs.Model.Run.{Stand, Stopped, after_frame, after_frames, lines_then}
use Rattle.snow_engine.specs.Clauses.Serving.{Goes, GathersLines, GathersFront, Halts, Worked, front_worked, one_worked, all_worked}
use Rattle.snow_engine.proofs.Worked.{texts_parts, none_worked}

-- lines came before
abbrev pub behind : List Line → Worked → Worked
behind lines w = record { lines = lines ++ w.lines; stand = w.stand; intake = w.intake }

-- behind a stop frames change nothing
pub stopped_stays : (rules : Rules) (answer : Answer) (task : Task) (e : End) (n : ℕ) (payloads : List (List ℕ)) → after_frames rules answer task (Stopped e) n payloads ≡ ([], Stopped e)
unfolding after_frame after_frames
stopped_stays rules answer task e n [] = refl
stopped_stays rules answer task e n (p ∷ ps) = ap (lines_then []) (stopped_stays rules answer task e (n + 1) ps)

-- what frames leave
abbrev left_by : ℕ → List ℕ → ℕ → List Line × Stand → Worked
left_by given rest count all = record { lines = all.0; stand = all.1; intake = record { given = given + count; rest = rest } }

-- no whole frame is there
pub none_left : (rules : Rules) (answer : Answer) (task : Task) (stand : Stand) (intake : Intake) → first_of intake.rest ≡ None
    → all_worked rules answer task stand intake ≡ record { lines = []; stand = stand; intake = intake }
unfolding after_frames
none_left rules answer task stand intake e =
    let none : frames_of intake.rest ≡ ([], intake.rest) = frames_end intake.rest e in
    ap (λ (f : List (List ℕ) × List ℕ). left_by intake.given f.1 (length f.0) (after_frames rules answer task stand (intake.given + 1) f.0)) none
    ∙ ap (λ (n : ℕ). record { lines = []; stand = stand; intake = record { given = n; rest = intake.rest } }) (no_more intake.given)
  where
    no_more : (n : ℕ) → n + 0 ≡ n
    no_more n = omega arith

-- the first frame, and then the others
front_then : (rules : Rules) (answer : Answer) (task : Task) (stand : Stand) (intake : Intake) (o : Option (List ℕ × List ℕ)) → first_of intake.rest ≡ o
    → all_worked rules answer task stand intake
    ≡ behind (front_worked rules answer task stand intake o).lines
    (all_worked rules answer task (front_worked rules answer task stand intake o).stand (front_worked rules answer task stand intake o).intake)
unfolding after_frames
front_then rules answer task stand intake None e = refl
front_then rules answer task stand intake (Some first) e =
    let n = intake.given in
    let now = after_frame rules answer task stand (n + 1) first.0 in
    let others = frames_of first.1 in
    ap (λ (f : List (List ℕ) × List ℕ). left_by n f.1 (length f.0) (after_frames rules answer task stand (n + 1) f.0)) (frames_front intake.rest first e)
    ∙ ap (λ (k : ℕ). record { lines = now.0 ++ (after_frames rules answer task now.1 (n + 1 + 1) others.0).0; stand = (after_frames rules answer task now.1 (n + 1 + 1) others.0).1; intake = record { given = k; rest = others.1 } })
    (one_more n (length others.0))
  where
    one_more : (n k : ℕ) → n + suc k ≡ n + 1 + k
    one_more n k = omega arith

pub one_then : (rules : Rules) (answer : Answer) (task : Task) (stand : Stand) (intake : Intake)
    → all_worked rules answer task stand intake
    ≡ behind (one_worked rules answer task stand intake).lines
    (all_worked rules answer task (one_worked rules answer task stand intake).stand (one_worked rules answer task stand intake).intake)
one_then rules answer task stand intake = front_then rules answer task stand intake (first_of intake.rest) refl

-- behind the end of a run nothing comes
pub halted : (rules : Rules) (answer : Answer) (task : Task) (w : Worked) (e : End) → Halts w e
    → ((all_worked rules answer task w.stand w.intake).lines ≡ []) × Halts (all_worked rules answer task w.stand w.intake) e
halted rules answer task w e (inl s) =
    let frames = frames_of w.intake.rest in
    let stays : after_frames rules answer task w.stand (w.intake.given + 1) frames.0 ≡ ([], Stopped e) =
    ap (λ (x : Stand). after_frames rules answer task x (w.intake.given + 1) frames.0) s ∙ stopped_stays rules answer task e (w.intake.given + 1) frames.0 in
    (ap (λ (a : List Line × Stand). a.0) stays, inl (ap (λ (a : List Line × Stand). a.1) stays))
halted rules answer task w e (inr h) =
    let none = none_left rules answer task w.stand w.intake (long_first w.intake.rest h.1) in
    (ap (λ (x : Worked). x.lines) none, subst (λ (x : Worked). Halts x e) (sym none) (inr h))

-- ---- while frames are worked

-- what is known after some frames: their lines were gathered, and those of the others are still to come
pub record Gone (rules : Rules) (answer : Answer) (task : Task) (first now : Stand) (start intake : Intake) (before : Option (List ℕ)) (held : List ℕ) (after : Option (List ℕ)) (kept : List ℕ) : Type 0 where
  pub lines : List Line
  pub parts : all_worked rules answer task first start ≡ behind lines (all_worked rules answer task now intake)
  pub gathered : Gathers before held after kept (texts lines)

-- lines, and then more, behind which others come
behind_more : (a b : List Line) (w : Worked) → behind a (behind b w) ≡ behind (a ++ b) w
behind_more a b w = ap (λ (l : List Line). record { lines = l; stand = w.stand; intake = w.intake }) (sym (append_assoc a b w.lines))

module _ (rules : Rules) (answer : Answer) (task : Task) (first now : Stand) (start intake : Intake) (before : Option (List ℕ)) (held : List ℕ) (mid : Option (List ℕ)) (waits : List ℕ) (after : Option (List ℕ)) (kept : List ℕ) (gone : Gone rules answer task first now start intake before held mid waits) where
  abbrev one : Worked
  one = one_worked rules answer task now intake

  abbrev all : Worked
  all = all_worked rules answer task first start

  -- the frames so far, this one and those behind it
  parts_more : all ≡ behind (gone.lines ++ one.lines) (all_worked rules answer task one.stand one.intake)
  parts_more = gone.parts ∙ ap (behind gone.lines) (one_then rules answer task now intake) ∙ behind_more gone.lines one.lines (all_worked rules answer task one.stand one.intake)

  gathers_more : Gathers mid waits after kept (texts one.lines) → Gathers before held after kept (texts (gone.lines ++ one.lines))
  gathers_more g = gathers_then before mid after held waits kept (texts gone.lines) (texts one.lines) (texts (gone.lines ++ one.lines)) gone.gathered g (texts_parts gone.lines one.lines (gone.lines ++ one.lines) refl)

  -- the next frame was worked
  pub goes_on : (next : Stand) (rest : Intake) → one.stand ≡ next → one.intake ≡ rest → Gathers mid waits after kept (texts one.lines) → Gone rules answer task first next start rest before held after kept
  goes_on next rest s i g = record {
    lines = gone.lines ++ one.lines;
    parts = parts_more ∙ ap (λ (x : Stand). behind (gone.lines ++ one.lines) (all_worked rules answer task x one.intake)) s ∙ ap (λ (x : Intake). behind (gone.lines ++ one.lines) (all_worked rules answer task next x)) i;
    gathered = gathers_more g;
  }

  -- the run ended in the next frame
  pub ends : (e : End) → Halts one e → Gathers mid waits after kept (texts one.lines) → Gathers before held after kept (texts all.lines) × Halts all e
  ends e h g =
      let stays = halted rules answer task one e h in
      let lines : all.lines ≡ gone.lines ++ one.lines =
      ap (λ (x : Worked). x.lines) parts_more ∙ ap (λ (l : List Line). (gone.lines ++ one.lines) ++ l) stays.0 ∙ append-nil (gone.lines ++ one.lines) in (
        subst (λ (l : List Line). Gathers before held after kept (texts l)) (sym lines) (gathers_more g),
        subst (λ (x : Worked). Halts x e) (sym parts_more) (moved stays.1),
      )
    where
      moved : Halts (all_worked rules answer task one.stand one.intake) e → Halts (behind (gone.lines ++ one.lines) (all_worked rules answer task one.stand one.intake)) e
      moved h = h

  -- the lines behind those so far
  abbrev later : List Line
  later = (all_worked rules answer task one.stand one.intake).lines

  lines_parts : texts gone.lines ++ (texts one.lines ++ texts later) ≡ texts all.lines
  lines_parts =
      ap (λ (bs : List ℕ). texts gone.lines ++ bs) (texts_parts one.lines later (one.lines ++ later) refl)
      ∙ texts_parts gone.lines (one.lines ++ later) (gone.lines ++ (one.lines ++ later)) refl
      ∙ ap texts (sym (append_assoc gone.lines one.lines later))
      ∙ ap (λ (x : Worked). texts x.lines) (sym parts_more)

  -- memory ran out in the next frame
  pub runs_out : GathersFront mid waits after kept (texts one.lines) → GathersFront before held after kept (texts all.lines)
  runs_out p = record {
    front = texts gone.lines ++ p.front;
    rest = p.rest ++ texts later;
    whole = append_assoc (texts gone.lines) p.front (p.rest ++ texts later)
        ∙ ap (λ (bs : List ℕ). texts gone.lines ++ bs) (sym (append_assoc p.front p.rest (texts later)) ∙ ap (λ (bs : List ℕ). bs ++ texts later) p.whole)
        ∙ lines_parts;
    gathered = gathers_then before mid after held waits kept (texts gone.lines) p.front (texts gone.lines ++ p.front) gone.gathered p.gathered refl;
  }

  -- the sink failed in the next frame
  pub breaks : AppendsFront mid after (waits ++ texts one.lines) → AppendsFront before after (held ++ texts all.lines)
  breaks p =
      gathers_then_front before mid after held waits (texts gone.lines) (texts one.lines ++ texts later) (held ++ texts all.lines) gone.gathered
      (front_of_more mid after (waits ++ texts one.lines) (texts later) (waits ++ (texts one.lines ++ texts later)) p (append_assoc waits (texts one.lines) (texts later)))
      (ap (λ (bs : List ℕ). held ++ bs) lines_parts)

  -- the answer of the next frame is that of all, where the run doesn't go on
  pub gathers_all : (e : End) (o : Option Node) (i : Intake) → Goes {T = Bool} (Err e) o i one → GathersLines {T = Bool} (Err e) mid waits after kept one.lines
      → GathersLines {T = Unit {0}} (Err e) before held after kept all.lines
  gathers_all end.SinkFault o i h g = breaks g
  gathers_all end.Memory o i h g = runs_out g
  gathers_all e o i h g = (ends e h.1 g).0

  pub goes_all : (e : End) (o p : Option Node) (i j : Intake) → Goes {T = Bool} (Err e) o i one → GathersLines {T = Bool} (Err e) mid waits after kept one.lines
      → Goes {T = Unit {0}} (Err e) p j all
  goes_all end.SinkFault o p i j h g = tt
  goes_all end.Memory o p i j h g = tt
  goes_all e o p i j h g = (h.0, (ends e h.1 g).1)

-- no frame is left: all were worked
pub all_gone : (rules : Rules) (answer : Answer) (task : Task) (first now : Stand) (start intake : Intake) (before : Option (List ℕ)) (held : List ℕ) (after : Option (List ℕ)) (kept : List ℕ)
    → Gone rules answer task first now start intake before held after kept → first_of intake.rest ≡ None
    → ((all_worked rules answer task first start).stand ≡ now) × ((all_worked rules answer task first start).intake ≡ intake)
    × Gathers before held after kept (texts (all_worked rules answer task first start).lines)
all_gone rules answer task first now start intake before held after kept gone none =
    let e : all_worked rules answer task first start ≡ record { lines = gone.lines; stand = now; intake = intake } =
    gone.parts ∙ ap (behind gone.lines) (none_left rules answer task now intake none)
    ∙ ap (λ (l : List Line). record { lines = l; stand = now; intake = intake }) (append-nil gone.lines) in (
      ap (λ (w : Worked). w.stand) e,
      ap (λ (w : Worked). w.intake) e,
      subst (λ (l : List Line). Gathers before held after kept (texts l)) (sym (ap (λ (w : Worked). w.lines) e)) gone.gathered,
    )

-- ---- the bytes that are left

-- a frame takes at least four bytes
pub smaller : (rules : Rules) (answer : Answer) (task : Task) (stand : Stand) (intake : Intake) → 4 * intake.given + length intake.rest ≤ 2 ^ 40
    → 4 * (one_worked rules answer task stand intake).intake.given + length (one_worked rules answer task stand intake).intake.rest ≤ 2 ^ 40
smaller rules answer task stand intake small = with_first (first_of intake.rest) refl
  where
    with_first : (o : Option (List ℕ × List ℕ)) → first_of intake.rest ≡ o
        → 4 * (front_worked rules answer task stand intake o).intake.given + length (front_worked rules answer task stand intake o).intake.rest ≤ 2 ^ 40
    with_first None e = small
    with_first (Some first) e =
        let placed = off_front intake.rest first e in
        let room : 4 + length first.0 ≤ length intake.rest = placed.1 in
        let rest : length first.1 ≡ length intake.rest - (4 + length first.0) = ap length placed.0 ∙ length-drop (4 + length first.0) intake.rest in
        omega (arith)

-- and leaves fewer
pub shorter : (rules : Rules) (answer : Answer) (task : Task) (stand : Stand) (intake : Intake) → true ≡ is_some (first_of intake.rest)
    → length (one_worked rules answer task stand intake).intake.rest < length intake.rest
shorter rules answer task stand intake found = with_first (first_of intake.rest) refl found
  where
    with_first : (o : Option (List ℕ × List ℕ)) → first_of intake.rest ≡ o → true ≡ is_some o → length (front_worked rules answer task stand intake o).intake.rest < length intake.rest
    with_first None e f = absurd cc
    with_first (Some first) e f = behind_shorter intake.rest first e

pub none_found : (rest : List ℕ) → false ≡ is_some (first_of rest) → first_of rest ≡ None
none_found rest found = without (first_of rest) found
  where
    without : (o : Option (List ℕ × List ℕ)) → false ≡ is_some o → o ≡ None
    without None e = refl
    without (Some x) e = absurd cc

-- the same for what a decoder then has
pub smaller_as : (rules : Rules) (answer : Answer) (task : Task) (stand : Stand) (intake rest : Intake) → (one_worked rules answer task stand intake).intake ≡ rest
    → 4 * intake.given + length intake.rest ≤ 2 ^ 40 → 4 * rest.given + length rest.rest ≤ 2 ^ 40
smaller_as rules answer task stand intake rest e small = subst (λ (i : Intake). 4 * i.given + length i.rest ≤ 2 ^ 40) e (smaller rules answer task stand intake small)

pub shorter_as : (rules : Rules) (answer : Answer) (task : Task) (stand : Stand) (intake rest : Intake) → (one_worked rules answer task stand intake).intake ≡ rest
    → true ≡ is_some (first_of intake.rest) → length rest.rest < length intake.rest
shorter_as rules answer task stand intake rest e found = subst (λ (i : Intake). length i.rest < length intake.rest) e (shorter rules answer task stand intake found)

-- what is behind no frame is what was there
pub none_behind : (rules : Rules) (answer : Answer) (task : Task) (stand : Stand) (intake rest : Intake) → (one_worked rules answer task stand intake).intake ≡ rest
    → false ≡ is_some (first_of intake.rest) → first_of rest.rest ≡ None
none_behind rules answer task stand intake rest e found =
    let none = none_found intake.rest found in
    subst (λ (i : Intake). first_of i.rest ≡ None) (sym (ap (λ (w : Worked). w.intake) (none_worked rules answer task stand intake none)) ∙ e) none
