-- How a run ends, on all bytes of its source.
use Rattle.std.proofs.Common.{◌≡◌, ℕ, ◌+◌, ◌-◌, ◌^◌, ◌<◌, ◌≤◌, ◌==◌, ◌||◌, true, false, Bool, cond, nat_le, List, [], ◌++◌, take, length, append-nil, Option, Some, None, Err, refl, sym, ap, ◌∙◌, subst, arith, IfSome}
use Rattle.std.proofs.lemmas.List.{length-append}
use Rattle.std.proofs.Math.Seq.{take-append_seam}
use Rattle.std.proofs.lemmas.Bool.Decides.{nat_tests}
use Rattle.std.specs.Io.KnownBytes.{Appends, Consumes, Keeps, IsAtEnd}
use Rattle.snow_base.specs.Clauses.Outside.{AppendsFront}
use Rattle.snow_base.proofs.Known.{appends_then, appends_then_front, front_of_more, front_of_whole, consumes_then}
use Rattle.snow_flake.specs.Model.Rule.{Answer}
use Rattle.snow_chain.specs.Model.Chain.{Rules}
use Rattle.snow_wire.specs.Model.Frame.{frames_of, is_too_long}
use Rattle.snow_wire.specs.Clauses.Stream.{Intake, fed}
use Rattle.snow_lines.specs.declared.line.Line.{Line}
use Rattle.snow_lines.specs.Model.Text.{texts}
use Rattle.snow_engine.specs.declared.engine.Task.{Task}
use Rattle.snow_engine.specs.declared.end.BadKind.TheVariants as kind
use Rattle.snow_engine.specs.declared.end.End.{End}
use Rattle.snow_engine.specs.declared.end.End.TheVariants as end
use Rattle.snow_engine.specs.Kept.Staging.{Node}
use Rattle.snow_engine.specs.Model.Run.{Stand, ran, lines_of, seen, end_behind, ended, end_of, is_stopped}
use Rattle.snow_engine.specs.Clauses.Serving.{stand_of, Goes, Halts, Worked, WritesLines, all_worked, IsEnd, Wrote, Broke}
use Rattle.snow_engine.proofs.Worked.{never_stopped, no_stop, texts_parts}
use Rattle.snow_engine.proofs.Position.{after_bytes, behind, more_bytes, ends_there, ends_calm, seen_front, seen_all}
use Rattle.snow_engine.proofs.Served.{Served, whole, texts_whole}

-- ---- the bytes of a source, where it tells them

-- what holds of these bytes and all that may follow holds of the source's bytes
pub of_all : (P : List ℕ → Type 0) (before after : Option (List ℕ)) (gone : List ℕ) → Consumes before after gone → ((rest : List ℕ) → P (gone ++ rest)) → IfSome before P
of_all P None after gone c h = tt
of_all P (Some x) None gone c h = absurd c
of_all P (Some x) (Some y) gone c h = subst P (sym c) (h y)

-- at the end of the source they are all
pub of_whole : (P : List ℕ → Type 0) (before after : Option (List ℕ)) (gone : List ℕ) → Consumes before after gone → IsAtEnd after → P gone → IfSome before P
of_whole P None after gone c e h = tt
of_whole P (Some x) None gone c e h = absurd c
of_whole P (Some x) (Some y) gone c e h = subst P (sym (c ∙ ap (λ (l : List ℕ). gone ++ l) e ∙ append-nil gone)) h

-- what always holds
pub of_any : (P : List ℕ → Type 0) (o : Option (List ℕ)) → ((x : List ℕ) → P x) → IfSome o P
of_any P None h = tt
of_any P (Some x) h = h x

module _ (rules : Rules) (answer : Answer) (task : Task) where
  -- the lines and the end of a run that looks at these bytes of all
  looks_at : (bytes looked : List ℕ) → seen bytes ≡ looked
      → (lines_of rules answer task (seen bytes) ≡ lines_of rules answer task looked)
      × (end_of rules answer task bytes ≡ ended (ran rules answer task looked).1 (length (frames_of looked).0) (frames_of looked).1 (nat_le (2 ^ 40) (length bytes)))
  looks_at bytes looked e = (
    ap (lines_of rules answer task) e,
    ap (λ (s : List ℕ). ended (ran rules answer task s).1 (length (frames_of s).0) (frames_of s).1 (nat_le (2 ^ 40) (length bytes))) e,
  )

  -- a run that ended behind these bytes
  pub stops_at : (gone rest : List ℕ) (e : End) → length gone ≤ 2 ^ 40 → Halts (after_bytes rules answer task gone) e
      → (lines_of rules answer task (seen (gone ++ rest)) ≡ lines_of rules answer task gone) × (end_of rules answer task (gone ++ rest) ≡ e)
  stops_at gone rest e few h =
      let more = take (2 ^ 40 - length gone) rest in
      let looks = looks_at (gone ++ rest) (gone ++ more) (seen_front gone rest few) in
      let there = ends_there rules answer task gone more (nat_le (2 ^ 40) (length (gone ++ rest))) e h in
      (looks.0 ∙ there.0, looks.1 ∙ there.1)

  -- a run that took all that it may
  pub limit_at : (gone rest : List ℕ) (o : Option Node) (intake : Intake) → length gone ≡ 2 ^ 40 → (ran rules answer task gone).1 ≡ stand_of o
      → (after_bytes rules answer task gone).intake ≡ intake → is_too_long intake.rest ≡ false
      → (lines_of rules answer task (seen (gone ++ rest)) ≡ lines_of rules answer task gone) × (end_of rules answer task (gone ++ rest) ≡ end.InputLimit)
  limit_at gone rest o intake full stand intake_is calm =
      let looked : seen (gone ++ rest) ≡ gone = ap (λ (n : ℕ). take n (gone ++ rest)) (sym full) ∙ take-append_seam gone rest in
      let looks = looks_at (gone ++ rest) gone looked in
      let all : nat_le (2 ^ 40) (length (gone ++ rest)) ≡ true = reaches (length gone) (length rest) (length (gone ++ rest)) full (length-append gone rest) in (
        looks.0,
        looks.1
            ∙ ap (λ (s : Stand). ended s (length (frames_of gone).0) (frames_of gone).1 (nat_le (2 ^ 40) (length (gone ++ rest)))) stand
            ∙ ap (λ (i : Intake). ended (stand_of o) i.given i.rest (nat_le (2 ^ 40) (length (gone ++ rest)))) intake_is
            ∙ ap (ended (stand_of o) intake.given intake.rest) all
            ∙ ends_calm o intake.given intake.rest true calm,
      )
    where
      reaches : (n m k : ℕ) → n ≡ 2 ^ 40 → k ≡ n + m → nat_le (2 ^ 40) k ≡ true
      reaches n m k a b = grind (arith, nat_tests)

  -- a run that read the end
  pub done_at : (gone : List ℕ) (o : Option Node) (intake : Intake) → length gone < 2 ^ 40 → (ran rules answer task gone).1 ≡ stand_of o
      → (after_bytes rules answer task gone).intake ≡ intake → is_too_long intake.rest ≡ false
      → (lines_of rules answer task (seen gone) ≡ lines_of rules answer task gone)
      × (end_of rules answer task gone ≡ cond (length intake.rest == 0) (end_behind (stand_of o)) (end.BadInput (intake.given + 1) kind.Cut))
  done_at gone o intake few stand intake_is calm =
      let looks = looks_at gone gone (seen_all gone (below (length gone) few)) in
      let more : nat_le (2 ^ 40) (length gone) ≡ false = misses (length gone) few in (
        looks.0,
        looks.1
            ∙ ap (λ (s : Stand). ended s (length (frames_of gone).0) (frames_of gone).1 (nat_le (2 ^ 40) (length gone))) stand
            ∙ ap (λ (i : Intake). ended (stand_of o) i.given i.rest (nat_le (2 ^ 40) (length gone))) intake_is
            ∙ ap (ended (stand_of o) intake.given intake.rest) more
            ∙ ends_calm o intake.given intake.rest false calm,
      )
    where
      below : (n : ℕ) → n < 2 ^ 40 → n ≤ 2 ^ 40
      below n h = omega arith

      misses : (n : ℕ) → n < 2 ^ 40 → nat_le (2 ^ 40) n ≡ false
      misses n h = grind (arith, nat_tests)

  -- the lines of these bytes are a front of all
  pub front_at : (gone rest : List ℕ) (before after : Option (List ℕ)) → length gone ≤ 2 ^ 40 → AppendsFront before after (texts (lines_of rules answer task gone))
      → AppendsFront before after (texts (lines_of rules answer task (seen (gone ++ rest))))
  front_at gone rest before after few p =
      let more = take (2 ^ 40 - length gone) rest in
      let later = all_worked rules answer task (ran rules answer task gone).1 (fed (after_bytes rules answer task gone).intake more) in
      let lines : lines_of rules answer task (seen (gone ++ rest)) ≡ lines_of rules answer task gone ++ later.lines =
      ap (lines_of rules answer task) (seen_front gone rest few) ∙ ap (λ (w : Worked). w.lines) (more_bytes rules answer task gone more) in
      front_of_more before after (texts (lines_of rules answer task gone)) (texts later.lines) (texts (lines_of rules answer task (seen (gone ++ rest)))) p
      (texts_parts (lines_of rules answer task gone) later.lines (lines_of rules answer task gone ++ later.lines) refl ∙ sym (ap texts lines))

  -- ---- the answers of a run

  -- the source failed
  pub broke : (left_before left_now left_next out_before out_now : Option (List ℕ)) (engine : Option Node) (intake : Intake) (room : ℕ)
      → Served rules answer task left_before left_now out_before out_now engine intake room → Keeps left_now left_next
      → Broke rules answer task left_before left_next out_before out_now
  broke left_before left_now left_next out_before out_now engine intake room served kept = record {
    gone = served.gone;
    consumed = consumes_kept left_before left_now left_next served.gone served.consumed kept;
    few = fits (length served.gone) served.count;
    written = served.written;
    goes_on = rw (served.stand) (none_shown engine (frames_of served.gone).1 (ap (λ (i : Intake). is_too_long i.rest) served.intake_is ∙ served.calm));
  }
    where
      consumes_kept : (a b c : Option (List ℕ)) (bs : List ℕ) → Consumes a b bs → Keeps b c → Consumes a c bs
      consumes_kept None b c bs p q = tt
      consumes_kept (Some x) None c bs p q = absurd p
      consumes_kept (Some x) (Some y) None bs p q = absurd q
      consumes_kept (Some x) (Some y) (Some z) bs p q = p ∙ ap (λ (l : List ℕ). bs ++ l) (sym q)

      fits : (n : ℕ) → n + room ≡ 2 ^ 40 → n ≤ 2 ^ 40
      fits n h = omega arith

      none_shown : (o : Option Node) (rest : List ℕ) → is_too_long rest ≡ false → (is_stopped (stand_of o) || is_too_long rest) ≡ false
      none_shown o rest calm = rw (never_stopped o, calm) refl

  pub broke_wrote : (left_before left_now out_before out_now : Option (List ℕ)) (engine : Option Node) (intake : Intake) (room : ℕ)
      → Served rules answer task left_before left_now out_before out_now engine intake room
      → IfSome left_before (λ bytes. Wrote end.SourceFault out_before out_now (texts (lines_of rules answer task (seen bytes))))
  broke_wrote left_before left_now out_before out_now engine intake room served =
      of_all (λ bytes. AppendsFront out_before out_now (texts (lines_of rules answer task (seen bytes)))) left_before left_now served.gone served.consumed
      (λ rest. front_at served.gone rest out_before out_now (fits (length served.gone) served.count) (front_of_whole out_before out_now (texts (lines_of rules answer task served.gone)) served.written))
    where
      fits : (n : ℕ) → n + room ≡ 2 ^ 40 → n ≤ 2 ^ 40
      fits n h = omega arith

  -- all was taken that may be
  pub limited : (left_before left_now out_before out_now : Option (List ℕ)) (engine : Option Node) (intake : Intake) (room : ℕ)
      → Served rules answer task left_before left_now out_before out_now engine intake room → room ≡ 0
      → IfSome left_before (λ bytes. IsEnd end.InputLimit (end_of rules answer task bytes))
      × IfSome left_before (λ bytes. Wrote end.InputLimit out_before out_now (texts (lines_of rules answer task (seen bytes))))
  limited left_before left_now out_before out_now engine intake room served none =
      let at = λ (rest : List ℕ). limit_at served.gone rest engine intake (full (length served.gone) served.count none) served.stand served.intake_is served.calm in (
        of_all (λ bytes. IsEnd end.InputLimit (end_of rules answer task bytes)) left_before left_now served.gone served.consumed (λ rest. sym (at rest).1),
        of_all (λ bytes. Appends out_before out_now (texts (lines_of rules answer task (seen bytes)))) left_before left_now served.gone served.consumed
            (λ rest. subst (λ (ls : List Line). Appends out_before out_now (texts ls)) (sym (at rest).0) served.written),
      )
    where
      full : (n : ℕ) → n + room ≡ 2 ^ 40 → room ≡ 0 → n ≡ 2 ^ 40
      full n a b = omega arith

  -- an end of the input is no fault
  at_end_writes : (e : End) (b : Bool) (o : Option Node) (n : ℕ) (before after : Option (List ℕ)) (text : List ℕ) → e ≡ cond b (end_behind (stand_of o)) (end.BadInput n kind.Cut)
      → Appends before after text → Wrote e before after text
  at_end_writes e true None n before after text is p = rw is p
  at_end_writes e true (Some node) n before after text is p = rw is p
  at_end_writes e false o n before after text is p = rw is p

  at_end_is : (e given : End) (b : Bool) (o : Option Node) (n : ℕ) → e ≡ cond b (end_behind (stand_of o)) (end.BadInput n kind.Cut) → e ≡ given → IsEnd e given
  at_end_is e given true None n is same = rw is (sym is ∙ same)
  at_end_is e given true (Some node) n is same = rw is (sym is ∙ same)
  at_end_is e given false o n is same = rw is (sym is ∙ same)

  -- the end was read
  pub finished : (left_before left_now left_next out_before out_now : Option (List ℕ)) (engine : Option Node) (intake : Intake) (room : ℕ) (e : End)
      → Served rules answer task left_before left_now out_before out_now engine intake room → 0 < room → Consumes left_now left_next [] → IsAtEnd left_next
      → e ≡ cond (length intake.rest == 0) (end_behind (stand_of engine)) (end.BadInput (intake.given + 1) kind.Cut)
      → IfSome left_before (λ bytes. IsEnd e (end_of rules answer task bytes))
      × IfSome left_before (λ bytes. Wrote e out_before out_now (texts (lines_of rules answer task (seen bytes))))
  finished left_before left_now left_next out_before out_now engine intake room e served some took at_end is =
      let b = length intake.rest == 0 in
      let at = done_at served.gone engine intake (few (length served.gone) served.count) served.stand served.intake_is served.calm in
      let consumed = consumes_then left_before left_now left_next served.gone [] served.gone served.consumed took (append-nil served.gone) in (
        of_whole (λ bytes. IsEnd e (end_of rules answer task bytes)) left_before left_next served.gone consumed at_end
            (at_end_is e (end_of rules answer task served.gone) b engine (intake.given + 1) is (is ∙ sym at.1)),
        of_whole (λ bytes. Wrote e out_before out_now (texts (lines_of rules answer task (seen bytes)))) left_before left_next served.gone consumed at_end
            (at_end_writes e b engine (intake.given + 1) out_before out_now (texts (lines_of rules answer task (seen served.gone))) is
            (subst (λ (ls : List Line). Appends out_before out_now (texts ls)) (sym at.0) served.written)),
      )
    where
      few : (n : ℕ) → n + room ≡ 2 ^ 40 → n < 2 ^ 40
      few n h = omega arith

  -- the run ended in a piece
  module _ (left_before left_now left_next out_before out_now out_next : Option (List ℕ)) (engine next : Option Node) (intake rest : Intake) (room : ℕ)
      (served : Served rules answer task left_before left_now out_before out_now engine intake room) (piece : List ℕ) (took : Consumes left_now left_next piece) (fits : length piece ≤ room) where
    abbrev all : List ℕ
    all = served.gone ++ piece

    abbrev brought : Worked
    brought = all_worked rules answer task (stand_of engine) (fed intake piece)

    all_consumed : Consumes left_before left_next all
    all_consumed = consumes_then left_before left_now left_next served.gone piece all served.consumed took refl

    few : length all ≤ 2 ^ 40
    few = below (length served.gone) (length piece) (length all) served.count (length-append served.gone piece) fits
      where
        below : (n m k : ℕ) → n + room ≡ 2 ^ 40 → k ≡ n + m → m ≤ room → k ≤ 2 ^ 40
        below n m k a b c = omega arith

    halts_all : (e : End) → Halts brought e → Halts (after_bytes rules answer task all) e
    halts_all e h = subst (λ (w : Worked). Halts w e) (sym (whole rules answer task left_before left_now out_before out_now engine intake room served piece)) (moved h)
      where
        moved : Halts brought e → Halts (behind (lines_of rules answer task served.gone) brought) e
        moved h = h

    -- at bad input all lines before it were written
    stopped_end : (e : End) → Halts brought e → IfSome left_before (λ bytes. e ≡ end_of rules answer task bytes)
    stopped_end e h = of_all (λ bytes. e ≡ end_of rules answer task bytes) left_before left_next all all_consumed (λ more. sym (stops_at all more e few (halts_all e h)).1)

    stopped_lines : (e : End) → Halts brought e → Appends out_now out_next (texts brought.lines) → IfSome left_before (λ bytes. Appends out_before out_next (texts (lines_of rules answer task (seen bytes))))
    stopped_lines e h p =
        of_all (λ bytes. Appends out_before out_next (texts (lines_of rules answer task (seen bytes)))) left_before left_next all all_consumed
        (λ more. subst (λ (ls : List Line). Appends out_before out_next (texts ls)) (sym (stops_at all more e few (halts_all e h)).0)
        (appends_then out_before out_now out_next (texts (lines_of rules answer task served.gone)) (texts brought.lines) (texts (lines_of rules answer task all)) served.written p
        (texts_whole rules answer task left_before left_now out_before out_now engine intake room served piece)))

    -- where the sink failed or memory ran out, a front of them
    stopped_front : AppendsFront out_now out_next (texts brought.lines) → IfSome left_before (λ bytes. AppendsFront out_before out_next (texts (lines_of rules answer task (seen bytes))))
    stopped_front p =
        of_all (λ bytes. AppendsFront out_before out_next (texts (lines_of rules answer task (seen bytes)))) left_before left_next all all_consumed
        (λ more. front_at all more out_before out_next few
        (appends_then_front out_before out_now out_next (texts (lines_of rules answer task served.gone)) (texts brought.lines) (texts (lines_of rules answer task all)) served.written p
        (texts_whole rules answer task left_before left_now out_before out_now engine intake room served piece)))

    pub stopped_is : (e : End) → Goes {T = Unit {0}} (Err e) next rest brought → IfSome left_before (λ bytes. IsEnd e (end_of rules answer task bytes))
    stopped_is end.SourceFault h = no_stop h.0
    stopped_is end.SinkFault h = of_any (λ bytes. IsEnd end.SinkFault (end_of rules answer task bytes)) left_before (λ bytes. tt)
    stopped_is end.Memory h = of_any (λ bytes. IsEnd end.Memory (end_of rules answer task bytes)) left_before (λ bytes. tt)
    stopped_is e h = stopped_end e h.1

    pub stopped_wrote : (e : End) → Goes {T = Unit {0}} (Err e) next rest brought → WritesLines (Err e) out_now out_next brought.lines
        → IfSome left_before (λ bytes. Wrote e out_before out_next (texts (lines_of rules answer task (seen bytes))))
    stopped_wrote end.SourceFault h p = no_stop h.0
    stopped_wrote end.SinkFault h p = stopped_front p
    stopped_wrote end.Memory h p = stopped_front p
    stopped_wrote e h p = stopped_lines e h.1 p
