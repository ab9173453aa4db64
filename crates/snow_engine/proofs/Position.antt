-- Where a run stands behind the bytes that it has taken.
use Rattle.std.proofs.Common.{◌≡◌, ℕ, suc, ◌+◌, ◌-◌, ◌^◌, ◌≤◌, ◌==◌, true, false, Bool, cond, List, [], ◌∷◌, ◌++◌, take, length, append_assoc, append-nil, Option, Some, None, refl, sym, ap, ◌∙◌, inl, inr, arith}
use Rattle.std.proofs.lemmas.List.{length-append, take_all}
use Rattle.std.proofs.Math.Seq.{take-append-add}
use Rattle.snow_flake.specs.Model.Rule.{Answer}
use Rattle.snow_chain.specs.Model.Chain.{Rules}
use Rattle.snow_wire.specs.Model.Frame.{frames_of, is_too_long}
use Rattle.snow_wire.specs.Clauses.Stream.{fed}
use Rattle.snow_wire.proofs.Streams.{frames_end, long_first}
use Rattle.snow_wire.proofs.Pieces.{ahead, pieces, long_more}
use Rattle.snow_lines.specs.declared.line.Line.{Line}
use Rattle.snow_engine.specs.declared.engine.Task.{Task}
use Rattle.snow_engine.specs.declared.end.BadKind.TheVariants as kind
use Rattle.snow_engine.specs.declared.end.End.{End}
use Rattle.snow_engine.specs.declared.end.End.TheVariants as end
use Rattle.snow_engine.specs.Kept.Staging.{Node}
use Rattle.snow_engine.specs.Model.Run.{Stand, Fresh, Going, Stopped, after_frame, after_frames, lines_then, ran, lines_of, seen, end_behind, ended, is_stopped}
use Rattle.snow_engine.specs.Clauses.Serving.{stand_of, Halts, Worked, all_worked}
use Rattle.snow_engine.proofs.Going.{stopped_stays}

-- ---- frames, and then more frames

-- lines behind lines
then_more : (a b : List Line) (later : List Line × Stand) → lines_then a (lines_then b later) ≡ lines_then (a ++ b) later
then_more a b later = ap (λ (l : List Line). (l, later.1)) (sym (append_assoc a b later.0))

frames_then : (rules : Rules) (answer : Answer) (task : Task) (stand : Stand) (n : ℕ) (first others : List (List ℕ))
    → after_frames rules answer task stand n (first ++ others)
    ≡ lines_then (after_frames rules answer task stand n first).0 (after_frames rules answer task (after_frames rules answer task stand n first).1 (n + length first) others)
unfolding after_frames
frames_then rules answer task stand n [] others =
    ap (λ (m : ℕ). after_frames rules answer task stand m others) (none n)
  where
    none : (n : ℕ) → n ≡ n + 0
    none n = omega arith
frames_then rules answer task stand n (p ∷ ps) others =
    let now = after_frame rules answer task stand n p in
    let rest = after_frames rules answer task now.1 (n + 1) ps in
    ap (lines_then now.0) (frames_then rules answer task now.1 (n + 1) ps others)
    ∙ then_more now.0 rest.0 (after_frames rules answer task rest.1 (n + 1 + length ps) others)
    ∙ ap (λ (m : ℕ). lines_then (now.0 ++ rest.0) (after_frames rules answer task rest.1 m others)) (one_more n (length ps))
  where
    one_more : (n k : ℕ) → n + 1 + k ≡ n + suc k
    one_more n k = omega arith

-- what all whole frames of bytes leave
abbrev pub after_bytes : Rules → Answer → Task → List ℕ → Worked
after_bytes rules answer task bytes = record {
  lines = lines_of rules answer task bytes;
  stand = (ran rules answer task bytes).1;
  intake = record { given = length (frames_of bytes).0; rest = (frames_of bytes).1 };
}

-- frames that stand ahead of others, as what they leave
abbrev of_frames : Rules → Answer → Task → List (List ℕ) × List ℕ → Worked
of_frames rules answer task frames =
    let all = after_frames rules answer task Fresh 1 frames.0 in
    record { lines = all.0; stand = all.1; intake = record { given = length frames.0; rest = frames.1 } }

-- lines came before
abbrev pub behind : List Line → Worked → Worked
behind lines w = record { lines = lines ++ w.lines; stand = w.stand; intake = w.intake }

ahead_of : (rules : Rules) (answer : Answer) (task : Task) (first : List (List ℕ)) (others : List (List ℕ) × List ℕ)
    → of_frames rules answer task (ahead first others)
    ≡ behind (after_frames rules answer task Fresh 1 first).0
    (let all = after_frames rules answer task (after_frames rules answer task Fresh 1 first).1 (length first + 1) others.0 in
    record { lines = all.0; stand = all.1; intake = record { given = length first + length others.0; rest = others.1 } })
ahead_of rules answer task first others =
    let one = after_frames rules answer task Fresh 1 first in
    ap (λ (a : List Line × Stand). record { lines = a.0; stand = a.1; intake = record { given = length (first ++ others.0); rest = others.1 } })
    (frames_then rules answer task Fresh 1 first others.0
    ∙ ap (λ (m : ℕ). lines_then one.0 (after_frames rules answer task one.1 m others.0)) (turned (length first)))
    ∙ ap (λ (n : ℕ). record { lines = one.0 ++ (after_frames rules answer task one.1 (length first + 1) others.0).0; stand = (after_frames rules answer task one.1 (length first + 1) others.0).1; intake = record { given = n; rest = others.1 } })
    (length-append first others.0)
  where
    turned : (n : ℕ) → 1 + n ≡ n + 1
    turned n = omega arith

-- more bytes only come behind the frames
pub more_bytes : (rules : Rules) (answer : Answer) (task : Task) (gone piece : List ℕ)
    → after_bytes rules answer task (gone ++ piece)
    ≡ behind (lines_of rules answer task gone) (all_worked rules answer task (ran rules answer task gone).1 (fed (after_bytes rules answer task gone).intake piece))
more_bytes rules answer task gone piece =
    ap (of_frames rules answer task) (pieces gone piece)
    ∙ ahead_of rules answer task (frames_of gone).0 (frames_of ((frames_of gone).1 ++ piece))

-- ---- the end of a run

-- a run that has ended goes no further, whatever comes
pub ends_there : (rules : Rules) (answer : Answer) (task : Task) (gone more : List ℕ) (is_full : Bool) (e : End) → Halts (after_bytes rules answer task gone) e
    → (lines_of rules answer task (gone ++ more) ≡ lines_of rules answer task gone)
    × (ended (ran rules answer task (gone ++ more)).1 (length (frames_of (gone ++ more)).0) (frames_of (gone ++ more)).1 is_full ≡ e)
ends_there rules answer task gone more is_full e (inl s) =
    let now = after_bytes rules answer task gone in
    let frames = frames_of (now.intake.rest ++ more) in
    let stays : after_frames rules answer task now.stand (now.intake.given + 1) frames.0 ≡ ([], Stopped e) =
    ap (λ (x : Stand). after_frames rules answer task x (now.intake.given + 1) frames.0) s ∙ stopped_stays rules answer task e (now.intake.given + 1) frames.0 in
    let whole = more_bytes rules answer task gone more in
    let stand : (ran rules answer task (gone ++ more)).1 ≡ Stopped e = ap (λ (w : Worked). w.stand) whole ∙ ap (λ (a : List Line × Stand). a.1) stays in (
      ap (λ (w : Worked). w.lines) whole ∙ ap (λ (a : List Line × Stand). now.lines ++ a.0) stays ∙ append-nil now.lines,
      ap (λ (x : Stand). ended x (length (frames_of (gone ++ more)).0) (frames_of (gone ++ more)).1 is_full) stand,
    )
ends_there rules answer task gone more is_full e (inr h) =
    let now = after_bytes rules answer task gone in
    let long = long_more now.intake.rest more h.1 in
    let none : frames_of (now.intake.rest ++ more) ≡ ([], now.intake.rest ++ more) = frames_end (now.intake.rest ++ more) (long_first (now.intake.rest ++ more) long) in
    let frames : frames_of (gone ++ more) ≡ ((frames_of gone).0, now.intake.rest ++ more) =
    pieces gone more ∙ ap (ahead (frames_of gone).0) none ∙ ap (λ (ps : List (List ℕ)). (ps, now.intake.rest ++ more)) (append-nil (frames_of gone).0) in
    let same : ran rules answer task (gone ++ more) ≡ ran rules answer task gone = ap (λ (f : List (List ℕ) × List ℕ). after_frames rules answer task Fresh 1 f.0) frames in (
      ap (λ (a : List Line × Stand). a.0) same,
      ap (λ (a : List Line × Stand). ended a.1 (length (frames_of (gone ++ more)).0) (frames_of (gone ++ more)).1 is_full) same
          ∙ ap (λ (f : List (List ℕ) × List ℕ). ended (ran rules answer task gone).1 (length f.0) f.1 is_full) frames
          ∙ too_long (ran rules answer task gone).1 now.intake.given (now.intake.rest ++ more) is_full h.0 long
          ∙ sym h.2,
    )
  where
    first_test : (b : Bool) (x y : End) → b ≡ true → cond b x y ≡ x
    first_test true x y t = refl
    first_test false x y t = absurd cc

    too_long : (stand : Stand) (n : ℕ) (rest : List ℕ) (is_full : Bool) → is_stopped stand ≡ false → is_too_long rest ≡ true → ended stand n rest is_full ≡ end.BadInput (n + 1) kind.Length
    too_long Fresh n rest is_full go long = first_test (is_too_long rest) _ _ long
    too_long (Going node) n rest is_full go long = first_test (is_too_long rest) _ _ long
    too_long (Stopped x) n rest is_full go long = absurd cc

-- the end where no frame stopped the run and no length is too long
pub ends_calm : (o : Option Node) (n : ℕ) (rest : List ℕ) (is_full : Bool) → is_too_long rest ≡ false
    → ended (stand_of o) n rest is_full ≡ cond is_full end.InputLimit (cond (length rest == 0) (end_behind (stand_of o)) (end.BadInput (n + 1) kind.Cut))
ends_calm None n rest is_full calm = rw calm refl
ends_calm (Some node) n rest is_full calm = rw calm refl

-- ---- what is seen

pub seen_front : (gone rest : List ℕ) → length gone ≤ 2 ^ 40 → seen (gone ++ rest) ≡ gone ++ take (2 ^ 40 - length gone) rest
seen_front gone rest few = ap (λ (n : ℕ). take n (gone ++ rest)) (parts (length gone) few) ∙ take-append-add gone rest (2 ^ 40 - length gone)
  where
    parts : (n : ℕ) → n ≤ 2 ^ 40 → 2 ^ 40 ≡ n + (2 ^ 40 - n)
    parts n few = omega arith

pub seen_all : (bytes : List ℕ) → length bytes ≤ 2 ^ 40 → seen bytes ≡ bytes
seen_all bytes few = take_all (2 ^ 40) bytes few
