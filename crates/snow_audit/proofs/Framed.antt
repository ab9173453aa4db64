-- An audit while the bytes of its stream come.
use Rattle.std.proofs.Common.{◌≡◌, ℕ, zero, suc, ◌*◌, ◌+◌, ◌-◌, ◌^◌, ◌<◌, ◌≤◌, ◌==◌, Bool, true, false, nat_le, List, [], ◌∷◌, ◌++◌, take, length, append_assoc, append-nil, Option, Some, None, refl, sym, ap, ◌∙◌, arith}
use Rattle.std.proofs.lemmas.Bool.Decides.{nat_tests}
use Rattle.std.specs.Prelude.{IfSome}
use Rattle.std.specs.Io.KnownBytes.{Consumes, IsAtEnd}
use Rattle.std.proofs.lemmas.List.{length-append, length-drop}
use Rattle.snow_base.proofs.Known.{consumes_none, consumes_then}
use Rattle.std.proofs.Math.Seq.{take-append-add}
use Rattle.snow_wire.specs.Model.Frame.{frames_of, first_of, is_too_long}
use Rattle.snow_wire.specs.Clauses.Stream.{Intake, fed, fresh}
use Rattle.snow_wire.proofs.Streams.{frames_front, frames_end, long_first, off_front}
use Rattle.snow_wire.proofs.Pieces.{first_more, long_more}
use Rattle.snow_engine.specs.declared.end.BadKind.TheVariants as kind
use Rattle.snow_engine.specs.declared.end.End.{End}
use Rattle.snow_engine.specs.declared.end.End.TheVariants as end
use Rattle.snow_engine.specs.Model.Run.{seen}
use Rattle.snow_lines.specs.declared.line.Line.{Line}
use Rattle.snow_engine.specs.Kept.Staging.{Node}
use Rattle.snow_engine.proofs.Ended.{of_all, of_whole}
use Rattle.snow_audit.specs.declared.auditing.AuditEnd.{AuditEnd}
use Rattle.snow_audit.specs.Model.Auditing.{Steps, audited, stream_end}
use Rattle.snow_audit.specs.Kept.Following.{Between, beginning, between, frame_comes, at_end, goes_on, owed_of, follows, finish}
use Rattle.snow_audit.proofs.Followed.{Begins, follows_audit}

-- the frames of a stream behind so many
abbrev from_frames : Steps → ℕ → Bool → Between → List (List ℕ) × List ℕ → AuditEnd
from_frames steps given is_full b frames = follows steps (stream_end (given + length frames.0) frames.1 is_full) (given + 1) frames.0 b

none_and : (n : ℕ) → 0 + n ≡ n
none_and n = omega arith

and_none : (n : ℕ) → n + 0 ≡ n
and_none n = omega arith

one_first : (n k : ℕ) → n + suc k ≡ n + 1 + k
one_first n k = omega arith

module _ (steps : Steps) where
  -- nothing came yet
  pub starts : Begins steps → (bytes : List ℕ) → audited steps bytes ≡ finish steps fresh (seen bytes) (nat_le (2 ^ 40) (length bytes)) beginning
  starts begins bytes =
      let frames = frames_of (seen bytes) in
      let is_full = nat_le (2 ^ 40) (length bytes) in
      sym (follows_audit steps (stream_end (length frames.0) frames.1 is_full) begins frames.0)
      ∙ ap (λ (n : ℕ). follows steps (stream_end n frames.1 is_full) 1 frames.0 beginning) (sym (none_and (length frames.0)))

  -- a frame is there
  pub next_frame : (intake : Intake) (payload behind : List ℕ) → first_of intake.rest ≡ Some (payload, behind) → (more : List ℕ) (is_full : Bool) (b : Between)
      → finish steps intake more is_full b
      ≡ goes_on (frame_comes steps b (intake.given + 1) payload) (finish steps (record { given = intake.given + 1; rest = behind }) more is_full)
  unfolding follows
  next_frame intake payload behind first more is_full b =
      let others = frames_of (behind ++ more) in
      ap (from_frames steps intake.given is_full b) (frames_front (intake.rest ++ more) (payload, behind ++ more) (first_more intake.rest more (payload, behind) first))
      ∙ ap (λ (n : ℕ). goes_on (frame_comes steps b (intake.given + 1) payload) (follows steps (stream_end n others.1 is_full) (intake.given + 1 + 1) others.0)) (one_first intake.given (length others.0))

  -- a piece came
  pub next_piece : (intake : Intake) (piece more : List ℕ) (is_full : Bool) (b : Between) → finish steps intake (piece ++ more) is_full b ≡ finish steps (fed intake piece) more is_full b
  next_piece intake piece more is_full b = ap (λ (l : List ℕ). from_frames steps intake.given is_full b (frames_of l)) (sym (append_assoc intake.rest piece more))

  -- no whole frame is there, and no byte comes any more
  pub no_frame : (intake : Intake) → first_of intake.rest ≡ None → (is_full : Bool) (b : Between) → finish steps intake [] is_full b ≡ at_end b b.owed (stream_end intake.given intake.rest is_full)
  unfolding follows
  no_frame intake none is_full b =
      ap (λ (l : List ℕ). from_frames steps intake.given is_full b (frames_of l)) (append-nil intake.rest)
      ∙ ap (from_frames steps intake.given is_full b) (frames_end intake.rest none)
      ∙ ap (λ (n : ℕ). at_end b b.owed (stream_end n intake.rest is_full)) (and_none intake.given)

  -- a length comes that no frame has
  pub too_long : (intake : Intake) → is_too_long intake.rest ≡ true → (more : List ℕ) (is_full : Bool) (b : Between)
      → finish steps intake more is_full b ≡ at_end b b.owed (end.BadInput (intake.given + 1) kind.Length)
  unfolding follows
  too_long intake long more is_full b =
      let rest = intake.rest ++ more in
      let longer : is_too_long rest ≡ true = long_more intake.rest more long in
      ap (from_frames steps intake.given is_full b) (frames_end rest (long_first rest longer))
      ∙ ap (λ (n : ℕ). at_end b b.owed (stream_end n rest is_full)) (and_none intake.given)
      ∙ ap (at_end b b.owed) (rw longer refl)

-- ---- how the stream ends

-- all was taken that may be
pub ends_full : (given : ℕ) (rest : List ℕ) → is_too_long rest ≡ false → stream_end given rest true ≡ end.InputLimit
ends_full given rest calm = rw calm refl

-- ---- the bytes of a piece

-- as much of what is left counts as there is room for
pub take_piece : (room : ℕ) (piece left : List ℕ) → length piece ≤ room → take room (piece ++ left) ≡ piece ++ take (room - length piece) left
take_piece room piece left few = ap (λ (n : ℕ). take n (piece ++ left)) (parts (length piece) few) ∙ take-append-add piece left (room - length piece)
  where
    parts : (n : ℕ) → n ≤ room → room ≡ n + (room - n)
    parts n few = omega arith

pub full_piece : (room : ℕ) (piece left : List ℕ) → length piece ≤ room → nat_le room (length (piece ++ left)) ≡ nat_le (room - length piece) (length left)
full_piece room piece left few = ap (nat_le room) (length-append piece left) ∙ by_numbers (length piece) (length left) few
  where
    by_numbers : (n k : ℕ) → n ≤ room → nat_le room (n + k) ≡ nat_le (room - n) k
    by_numbers n k few = grind (arith, nat_tests)

-- ---- how many bytes are left

-- each frame takes at least four bytes
pub smaller : (intake : Intake) (payload behind : List ℕ) → first_of intake.rest ≡ Some (payload, behind) → 4 * (intake.given + 1) + length behind ≤ 4 * intake.given + length intake.rest
smaller intake payload behind first =
    let placed = off_front intake.rest (payload, behind) first in
    let room : 4 + length payload ≤ length intake.rest = placed.1 in
    let rest : length behind ≡ length intake.rest - (4 + length payload) = ap length placed.0 ∙ length-drop (4 + length payload) intake.rest in
    omega (arith, room, rest)

-- ---- how much room is left

none_taken : (l : List ℕ) → take 0 l ≡ []
none_taken [] = refl
none_taken (x ∷ l) = refl

take_nothing : (n : ℕ) → take n (let l : List ℕ = [] in l) ≡ []
take_nothing zero = refl
take_nothing (suc n) = refl

always_full : (n : ℕ) → nat_le 0 n ≡ true
always_full n = grind (arith, nat_tests)

not_full : (n : ℕ) → 0 < n → nat_le n 0 ≡ false
not_full n some = grind (arith, nat_tests)

-- ---- an audit between two pieces

-- what is known: the bytes that came, and that what is left to do gives the answer of all
pub record Audited (steps : Steps) (left_before left_now : Option (List ℕ)) (intake : Intake) (b : Between) (room : ℕ) : Type 0 where
  pub gone : List ℕ
  pub consumed : Consumes left_before left_now gone
  pub count : length gone + room ≡ 2 ^ 40
  pub whole : (left : List ℕ) → audited steps (gone ++ left) ≡ finish steps intake (take room left) (nat_le room (length left)) b

-- nothing came yet
pub nothing_came : (steps : Steps) → Begins steps → (left : Option (List ℕ)) → Audited steps left left fresh beginning (2 ^ 40)
nothing_came steps begun left = record { gone = []; consumed = consumes_none left; count = refl; whole = starts steps begun }

-- no byte holds no frame
pub none_first : first_of [] ≡ None
unfolding first_of
none_first = refl

-- the same for an auditor as it begins
pub begun_so : (steps : Steps) → Begins steps → (left : Option (List ℕ)) (intake : Intake) (stop : Option End) (engine : Option Node) (events lines at : ℕ) (log : List Line)
    → intake ≡ fresh → stop ≡ None → engine ≡ None → events ≡ 0 → lines ≡ 0 → log ≡ [] → Audited steps left left intake (between stop engine events lines at log) (2 ^ 40)
begun_so steps begun left intake stop engine events lines at log new none fresh_engine no_event no_line no_log =
    rw (new, none, fresh_engine, no_event, no_line, no_log) (rw (nothing_owed at) (nothing_came steps begun left))
  where
    nothing_owed : (at : ℕ) → owed_of at [] ≡ []
    nothing_owed zero = refl
    nothing_owed (suc at) = refl

module _ (steps : Steps) (left_before left_now : Option (List ℕ)) (intake : Intake) (b : Between) (room : ℕ) (so_far : Audited steps left_before left_now intake b room) where
  -- all was taken that may be
  pub limited : room ≡ 0 → first_of intake.rest ≡ None → is_too_long intake.rest ≡ false → IfSome left_before (λ bytes. audited steps bytes ≡ at_end b b.owed end.InputLimit)
  limited none whole calm =
      of_all (λ bytes. audited steps bytes ≡ at_end b b.owed end.InputLimit) left_before left_now so_far.gone so_far.consumed
      (λ left. so_far.whole left
      ∙ ap (λ (n : ℕ). finish steps intake (take n left) (nat_le n (length left)) b) none
      ∙ ap (λ (l : List ℕ). finish steps intake l (nat_le 0 (length left)) b) (none_taken left)
      ∙ ap (λ (t : Bool). finish steps intake [] t b) (always_full (length left))
      ∙ no_frame steps intake whole true b
      ∙ ap (at_end b b.owed) (ends_full intake.given intake.rest calm))

  -- the end was read
  pub finished : (left_next : Option (List ℕ)) → 0 < room → first_of intake.rest ≡ None → Consumes left_now left_next [] → IsAtEnd left_next
      → IfSome left_before (λ bytes. audited steps bytes ≡ at_end b b.owed (stream_end intake.given intake.rest false))
  finished left_next some whole took ended =
      let consumed = consumes_then left_before left_now left_next so_far.gone [] so_far.gone so_far.consumed took (append-nil so_far.gone) in
      of_whole (λ bytes. audited steps bytes ≡ at_end b b.owed (stream_end intake.given intake.rest false)) left_before left_next so_far.gone consumed ended
      (ap (audited steps) (sym (append-nil so_far.gone)) ∙ so_far.whole []
      ∙ ap (λ (l : List ℕ). finish steps intake l (nat_le room 0) b) (take_nothing room)
      ∙ ap (λ (t : Bool). finish steps intake [] t b) (not_full room some)
      ∙ no_frame steps intake whole false b)

  -- a piece came
  module _ (left_next : Option (List ℕ)) (piece : List ℕ) (took : Consumes left_now left_next piece) (few : length piece ≤ room) where
    fed_whole : (left : List ℕ) → audited steps ((so_far.gone ++ piece) ++ left) ≡ finish steps (fed intake piece) (take (room - length piece) left) (nat_le (room - length piece) (length left)) b
    fed_whole left =
        ap (audited steps) (append_assoc so_far.gone piece left)
        ∙ so_far.whole (piece ++ left)
        ∙ ap (λ (l : List ℕ). finish steps intake l (nat_le room (length (piece ++ left))) b) (take_piece room piece left few)
        ∙ ap (λ (t : Bool). finish steps intake (piece ++ take (room - length piece) left) t b) (full_piece room piece left few)
        ∙ next_piece steps intake piece (take (room - length piece) left) (nat_le (room - length piece) (length left)) b

    all_consumed : Consumes left_before left_next (so_far.gone ++ piece)
    all_consumed = consumes_then left_before left_now left_next so_far.gone piece (so_far.gone ++ piece) so_far.consumed took refl

    -- and the audit goes on
    pub took_piece : (next : Intake) (now : Between) (less : ℕ) → length piece + less ≡ room
        → ((more : List ℕ) (is_full : Bool) → finish steps (fed intake piece) more is_full b ≡ finish steps next more is_full now) → Audited steps left_before left_next next now less
    took_piece next now less fits goes = record {
      gone = so_far.gone ++ piece;
      consumed = all_consumed;
      count = counted (length so_far.gone) (length piece) fits so_far.count (length-append so_far.gone piece);
      whole = λ left.
          fed_whole left
          ∙ ap (λ (n : ℕ). finish steps (fed intake piece) (take n left) (nat_le n (length left)) b) (left_room (length piece) fits)
          ∙ goes (take less left) (nat_le less (length left));
    }
      where
        counted : (n m : ℕ) → m + less ≡ room → n + room ≡ 2 ^ 40 → length (so_far.gone ++ piece) ≡ n + m → length (so_far.gone ++ piece) + less ≡ 2 ^ 40
        counted n m a c d = omega arith

        left_room : (m : ℕ) → m + less ≡ room → room - m ≡ less
        left_room m a = omega arith

    -- and the audit has its answer
    pub answered : (answer : AuditEnd) → ((more : List ℕ) (is_full : Bool) → finish steps (fed intake piece) more is_full b ≡ answer) → IfSome left_before (λ bytes. audited steps bytes ≡ answer)
    answered answer gives =
        of_all (λ bytes. audited steps bytes ≡ answer) left_before left_next (so_far.gone ++ piece) all_consumed
        (λ left. fed_whole left ∙ gives (take (room - length piece) left) (nat_le (room - length piece) (length left)))
