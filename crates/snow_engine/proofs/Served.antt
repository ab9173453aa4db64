-- A run while its pieces come, and its end.
use Rattle.std.proofs.Common.{◌≡◌, ℕ, zero, suc, ◌*◌, ◌+◌, ◌-◌, ◌^◌, ◌<◌, ◌≤◌, false, List, [], ◌∷◌, ◌++◌, length, Option, Some, None, refl, sym, ap, ◌∙◌, subst, append-nil, arith}
use Rattle.std.proofs.lemmas.List.{length-append, length-drop}
use Rattle.std.specs.Io.KnownBytes.{Appends, Consumes}
use Rattle.snow_base.proofs.Known.{appends_none, appends_then, consumes_none, consumes_then}
use Rattle.snow_flake.specs.Model.Rule.{Answer}
use Rattle.snow_chain.specs.Model.Chain.{Rules}
use Rattle.snow_wire.specs.Model.Frame.{first_of, led_by, frames_in, frames_of, is_too_long}
use Rattle.snow_wire.specs.Clauses.Stream.{Intake, fed, fresh}
use Rattle.snow_wire.proofs.Streams.{frames_end, off_front}
use Rattle.snow_lines.specs.declared.line.Line.{Line}
use Rattle.snow_lines.specs.Model.Text.{texts}
use Rattle.snow_engine.specs.declared.engine.Task.{Task}
use Rattle.snow_engine.specs.Kept.Staging.{Node}
use Rattle.snow_engine.specs.Model.Run.{Stand, Fresh, after_frames, ran, lines_of}
use Rattle.snow_engine.specs.Clauses.Serving.{stand_of, Worked, all_worked}
use Rattle.snow_engine.proofs.Worked.{texts_parts}
use Rattle.snow_engine.proofs.Position.{after_bytes, behind, more_bytes}

-- each frame takes at least four bytes
small_led : (n : ℕ) (bytes : List ℕ) (o : Option (List ℕ × List ℕ)) → first_of bytes ≡ o
    → ((b : List ℕ) → 4 * length (frames_in n b).0 + length (frames_in n b).1 ≤ length b)
    → 4 * length (led_by (frames_in n) bytes o).0 + length (led_by (frames_in n) bytes o).1 ≤ length bytes
small_led n bytes None e others = omega arith
small_led n bytes (Some first) e others =
    let placed = off_front bytes first e in
    let room : 4 + length first.0 ≤ length bytes = placed.1 in
    let rest : length first.1 ≡ length bytes - (4 + length first.0) = ap length placed.0 ∙ length-drop (4 + length first.0) bytes in
    let behind : 4 * length (frames_in n first.1).0 + length (frames_in n first.1).1 ≤ length first.1 = others first.1 in
    omega arith

small_in : (n : ℕ) (bytes : List ℕ) → 4 * length (frames_in n bytes).0 + length (frames_in n bytes).1 ≤ length bytes
unfolding frames_in
small_in zero bytes = omega arith
small_in (suc n) bytes = small_led n bytes (first_of bytes) refl (small_in n)

frames_small : (bytes : List ℕ) → 4 * length (frames_of bytes).0 + length (frames_of bytes).1 ≤ length bytes
unfolding frames_of
frames_small bytes = small_in (length bytes) bytes

module _ (rules : Rules) (answer : Answer) (task : Task) where
  -- what is known after some pieces: the bytes that came, where the run stands behind them, and that exactly their lines were written
  pub record Served (left_before left_now out_before out_now : Option (List ℕ)) (engine : Option Node) (intake : Intake) (room : ℕ) : Type 0 where
    pub gone : List ℕ
    pub consumed : Consumes left_before left_now gone
    pub count : length gone + room ≡ 2 ^ 40
    pub stand : (ran rules answer task gone).1 ≡ stand_of engine
    pub intake_is : (after_bytes rules answer task gone).intake ≡ intake
    pub written : Appends out_before out_now (texts (lines_of rules answer task gone))
    pub calm : is_too_long intake.rest ≡ false

  no_frames : frames_of [] ≡ ([], [])
  unfolding first_of
  no_frames = frames_end [] refl

  -- nothing came yet
  pub begins : (left out : Option (List ℕ)) → Served left left out out None fresh (2 ^ 40)
  unfolding after_frames
  begins left out =
      let none : ran rules answer task [] ≡ ([], Fresh) = ap (λ (f : List (List ℕ) × List ℕ). after_frames rules answer task Fresh 1 f.0) no_frames in
      record {
        gone = [];
        consumed = consumes_none left;
        count = refl;
        stand = ap (λ (a : List Line × Stand). a.1) none;
        intake_is = ap (λ (f : List (List ℕ) × List ℕ). record { given = length f.0; rest = f.1 }) no_frames;
        written = subst (λ (a : List Line × Stand). Appends out out (texts a.0)) (sym none) (appends_none out);
        calm = refl;
      }

  -- the same for a session as it begins
  pub begins_as : (left out : Option (List ℕ)) (o : Option Node) (i : Intake) → o ≡ None → i ≡ fresh → Served left left out out o i (2 ^ 40)
  begins_as left out o i none new = rw (none, new) (begins left out)

  module _ (left_before left_now out_before out_now : Option (List ℕ)) (engine : Option Node) (intake : Intake) (room : ℕ) (served : Served left_before left_now out_before out_now engine intake room) where
    -- what a piece brings
    abbrev brings : List ℕ → Worked
    brings piece = all_worked rules answer task (stand_of engine) (fed intake piece)

    pub whole : (piece : List ℕ) → after_bytes rules answer task (served.gone ++ piece) ≡ behind (lines_of rules answer task served.gone) (brings piece)
    whole piece =
        more_bytes rules answer task served.gone piece
        ∙ ap (λ (s : Stand). behind (lines_of rules answer task served.gone) (all_worked rules answer task s (fed (after_bytes rules answer task served.gone).intake piece))) served.stand
        ∙ ap (λ (i : Intake). behind (lines_of rules answer task served.gone) (all_worked rules answer task (stand_of engine) (fed i piece))) served.intake_is

    pub texts_whole : (piece : List ℕ) → texts (lines_of rules answer task served.gone) ++ texts (brings piece).lines ≡ texts (lines_of rules answer task (served.gone ++ piece))
    texts_whole piece =
        texts_parts (lines_of rules answer task served.gone) (brings piece).lines (lines_of rules answer task served.gone ++ (brings piece).lines) refl
        ∙ sym (ap (λ (w : Worked). texts w.lines) (whole piece))

    -- what a decoder has is as small as what came
    pub has_room : (n : ℕ) → n ≤ room → 4 * intake.given + length intake.rest + n ≤ 2 ^ 40
    has_room n fits =
        let small = frames_small served.gone in
        let sized : 4 * intake.given + length intake.rest ≤ length served.gone = subst (λ (i : Intake). 4 * i.given + length i.rest ≤ length served.gone) served.intake_is small in
        let count : length served.gone + room ≡ 2 ^ 40 = served.count in
        omega arith

    pub counts : intake.given < 2 ^ 64 - 1
    counts =
        let small : 4 * intake.given + length intake.rest + 0 ≤ 2 ^ 40 = has_room 0 (omega arith) in
        omega arith

    -- a piece came, and the run goes on
    pub goes_on : (piece : List ℕ) (left_next out_next : Option (List ℕ)) (next : Option Node) (rest : Intake) (less : ℕ) → Consumes left_now left_next piece → length piece + less ≡ room
        → (brings piece).stand ≡ stand_of next → (brings piece).intake ≡ rest → Appends out_now out_next (texts (brings piece).lines) → is_too_long rest.rest ≡ false
        → Served left_before left_next out_before out_next next rest less
    goes_on piece left_next out_next next rest less took fits stand intake_is wrote calm = record {
      gone = served.gone ++ piece;
      consumed = consumes_then left_before left_now left_next served.gone piece (served.gone ++ piece) served.consumed took refl;
      count = length_parts (length served.gone) (length piece) fits served.count (length-append served.gone piece);
      stand = ap (λ (w : Worked). w.stand) (whole piece) ∙ stand;
      intake_is = ap (λ (w : Worked). w.intake) (whole piece) ∙ intake_is;
      written = appends_then out_before out_now out_next (texts (lines_of rules answer task served.gone)) (texts (brings piece).lines) (texts (lines_of rules answer task (served.gone ++ piece)))
          served.written wrote (texts_whole piece);
      calm = calm;
    }
      where
        length_parts : (n m : ℕ) → m + less ≡ room → n + room ≡ 2 ^ 40 → length (served.gone ++ piece) ≡ n + m → length (served.gone ++ piece) + less ≡ 2 ^ 40
        length_parts n m a b c = omega arith

-- ---- the bytes of a piece

-- a decoder that took a piece in was fed with it
pub fed_as : (before now : Intake) (piece : List ℕ) → now.given ≡ before.given → now.rest ≡ before.rest ++ piece → now ≡ fed before piece
fed_as before now piece same behind =
    let made : ℕ → List ℕ → Intake = λ n l. record { given = n; rest = l } in
    ap (λ n. made n now.rest) same ∙ ap (made before.given) behind

-- a decoder that took no byte in is as it was
pub kept_as : (before now : Intake) (n : ℕ) (piece : List ℕ) → n ≡ 0 → length piece ≡ n → now.given ≡ before.given → now.rest ≡ before.rest ++ piece → now ≡ before
kept_as before now n [] none long same behind = fed_as before now [] same behind ∙ ap (λ l. record { given = before.given; rest = l }) (append-nil before.rest)
kept_as before now n (b ∷ piece) none long same behind = absurd (omega (arith, none, long))

pub taken_few : (n room : ℕ) (piece : List ℕ) → length piece ≡ n → n ≤ room → length piece ≤ room
taken_few n room piece long few = omega (arith, long, few)

pub less_room : (n room : ℕ) (piece : List ℕ) → length piece ≡ n → n ≤ room → length piece + (room - n) ≡ room
less_room n room piece long few = omega (arith, long, few)

pub nothing_taken : (left_now left_next : Option (List ℕ)) (n : ℕ) (piece : List ℕ) → n ≡ 0 → length piece ≡ n → Consumes left_now left_next piece → Consumes left_now left_next []
nothing_taken left_now left_next n [] none long took = took
nothing_taken left_now left_next n (b ∷ piece) none long took = absurd (omega (arith, none, long))
