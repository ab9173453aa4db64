-- Following the frames one after another gives what the definition says of them all.
use Rattle.std.proofs.Common.{◌≡◌, ℕ, suc, ◌+◌, Bool, true, false, cond, ◌&&◌, ◌||◌, ◌==◌, List, [], ◌∷◌, map, length, Option, Some, None, Result, Ok, Err, refl, sym, ap, ◌∙◌, arith}
use Rattle.std.specs.Prelude.{bytes_eq}
use Rattle.std.specs.List.{common_prefix_len}
use Rattle.std.specs.Option.{some_prefix}
use Rattle.std.proofs.lemmas.Bool.Decides.{nat_tests}
use Rattle.snow_lines.specs.declared.line.Line.{Line}
use Rattle.snow_lines.specs.Model.Text.{text}
use Rattle.snow_engine.specs.declared.end.End.{End}
use Rattle.snow_engine.specs.Model.Run.{Stand, Fresh, Going, Stopped}
use Rattle.snow_audit.specs.declared.auditing.AuditEnd.{AuditEnd}
use Rattle.snow_audit.specs.declared.auditing.AuditEnd.TheVariants as audit
use Rattle.snow_audit.specs.Model.Recording.{Entry, line_in, lines_before_event, entries_from, with_entry}
use Rattle.snow_audit.specs.Model.Auditing.{Steps, Compared, told_at, are_over, unless_stopped, compared_from, breaks_off, ends_as, through, opened_first, audited_frames}
use Rattle.snow_audit.specs.Kept.Following.{Between, beginning, is_fresh, first_then, later_comes, stepped, stepped_to, standing_at, stop_of, goes_on, follows}

-- ---- tests

none_is_some : (n : ℕ) → (0 == suc n) ≡ false
none_is_some n = grind (arith, nat_tests)

one_more : (s a : ℕ) → (1 + s == suc a) ≡ (s == a)
one_more s a = grind (arith, nat_tests)

pub plus_none : (n : ℕ) → n + 0 ≡ n
plus_none n = omega arith

and_false : (b c : Bool) → b ≡ false → (b && c) ≡ false
and_false true c e = absurd cc
and_false false c e = refl

and_true : (b : Bool) → (b && true) ≡ b
and_true true = refl
and_true false = refl

and_never : (b : Bool) → (b && false) ≡ false
and_never true = refl
and_never false = refl

pub test_false : {A : Type 0} (b : Bool) (x y : A) → b ≡ false → cond b x y ≡ y
test_false true x y e = absurd cc
test_false false x y e = refl

-- ---- one event of a run, and those behind it

-- a run never stands before its first frame behind one
abbrev pub Begins : Steps → Type 0
Begins steps = (stand : Stand) (number : ℕ) (payload : List ℕ) → is_fresh (steps stand number payload).1 ≡ false

module _ (stream : End) where
  -- the answer from an event on, of which these lines are left
  abbrev from_event : ℕ → List (List ℕ) → List (List ℕ) → Option End → Bool → List Compared → AuditEnd
  from_event lines recorded owed stop is_broken later =
      through lines stream None (record { recorded = recorded; model = owed; stop = stop; is_broken = is_broken } ∷ later)

  module _ (lines : ℕ) (stop : Option End) (later : List Compared) where
    none_left : (is_broken : Bool) → from_event lines [] [] stop is_broken later ≡ through lines stream stop later
    unfolding through
    none_left true = ap (λ (n : ℕ). through n stream stop later) (plus_none lines)
    none_left false = ap (λ (n : ℕ). through n stream stop later) (plus_none lines)

    left_behind : (is_broken : Bool) (m : List ℕ) (ms : List (List ℕ)) → from_event lines [] (m ∷ ms) stop is_broken later ≡ cond is_broken (through lines stream stop later) (audit.Differs (lines + 1))
    unfolding through
    left_behind true m ms = ap (λ (n : ℕ). through n stream stop later) (plus_none lines)
    left_behind false m ms =
        test_false (0 == suc (length ms)) (through (lines + 0) stream stop later) (audit.Differs (lines + 1 + 0)) (none_is_some (length ms))
        ∙ ap audit.Differs (plus_none (lines + 1))

    too_many : (is_broken : Bool) (r : List ℕ) (rs : List (List ℕ)) → from_event lines (r ∷ rs) [] stop is_broken later ≡ audit.Differs (lines + 1)
    unfolding through
    too_many is_broken r rs =
        test_false ((0 == suc (length rs)) && (is_broken || 0 == 0)) (through (lines + suc (length rs)) stream stop later) (audit.Differs (lines + 1 + 0))
        (and_false (0 == suc (length rs)) (is_broken || 0 == 0) (none_is_some (length rs)))
        ∙ ap audit.Differs (plus_none (lines + 1))

    -- the answer, by whether the next lines are the same
    by_next : Bool → (rs ms : List (List ℕ)) → Bool → AuditEnd
    unfolding through
    by_next same rs ms is_broken =
        let n = cond same (1 + common_prefix_len bytes_eq rs ms) 0 in
        cond ((n == suc (length rs)) && (is_broken || n == suc (length ms))) (through (lines + suc (length rs)) stream stop later) (audit.Differs (lines + 1 + n))

    next_is : (is_broken : Bool) (r m : List ℕ) (rs ms : List (List ℕ)) → from_event lines (r ∷ rs) (m ∷ ms) stop is_broken later ≡ by_next (bytes_eq r m) rs ms is_broken
    unfolding by_next through
    next_is is_broken r m rs ms = refl

    another : (is_broken : Bool) (r m : List ℕ) (rs ms : List (List ℕ)) → bytes_eq r m ≡ false → from_event lines (r ∷ rs) (m ∷ ms) stop is_broken later ≡ audit.Differs (lines + 1)
    unfolding by_next through
    another is_broken r m rs ms e =
        next_is is_broken r m rs ms
        ∙ ap (λ (same : Bool). by_next same rs ms is_broken) e
        ∙ test_false ((0 == suc (length rs)) && (is_broken || 0 == suc (length ms))) (through (lines + suc (length rs)) stream stop later) (audit.Differs (lines + 1 + 0))
        (and_false (0 == suc (length rs)) (is_broken || 0 == suc (length ms)) (none_is_some (length rs)))
        ∙ ap audit.Differs (plus_none (lines + 1))

    sum_in : (n : ℕ) → lines + suc n ≡ lines + 1 + n
    sum_in n = omega arith

    sum_out : (n : ℕ) → lines + 1 + (1 + n) ≡ lines + 1 + 1 + n
    sum_out n = omega arith

    the_same : (is_broken : Bool) (r m : List ℕ) (rs ms : List (List ℕ)) → bytes_eq r m ≡ true → from_event lines (r ∷ rs) (m ∷ ms) stop is_broken later ≡ from_event (lines + 1) rs ms stop is_broken later
    unfolding by_next through
    the_same is_broken r m rs ms e =
        let s = common_prefix_len bytes_eq rs ms in
        let n = length rs in
        let k = length ms in
        next_is is_broken r m rs ms
        ∙ ap (λ (same : Bool). by_next same rs ms is_broken) e
        ∙ ap (λ (t : Bool). cond (t && (is_broken || 1 + s == suc k)) (through (lines + suc n) stream stop later) (audit.Differs (lines + 1 + (1 + s)))) (one_more s n)
        ∙ ap (λ (t : Bool). cond ((s == n) && (is_broken || t)) (through (lines + suc n) stream stop later) (audit.Differs (lines + 1 + (1 + s)))) (one_more s k)
        ∙ ap (λ (i : ℕ). cond ((s == n) && (is_broken || s == k)) (through i stream stop later) (audit.Differs (lines + 1 + (1 + s)))) (sum_in n)
        ∙ ap (λ (i : ℕ). cond ((s == n) && (is_broken || s == k)) (through (lines + 1 + n) stream stop later) (audit.Differs i)) (sum_out s)

-- ---- all frames

module _ (steps : Steps) (stream : End) (begins : Begins steps) where
  -- the events behind one at which the run stands so
  abbrev behind : Stand → ℕ → List Entry → List Compared
  behind stand events entries = unless_stopped (stop_of stand) (compared_from steps (breaks_off stream) stand (events + 1) entries)

  abbrev at : Stand → ℕ → ℕ → List (List ℕ) → Between
  at stand events lines owed = record { stand = stand; events = events; lines = lines; owed = owed }

  -- what frames behind an event owe, of which the first has this number
  Follows : ℕ → List (List ℕ) → Type 0
  Follows frame payloads = (stand : Stand) (events lines : ℕ) (owed : List (List ℕ)) → is_fresh stand ≡ false
      → follows steps stream frame payloads (at stand events lines owed)
      ≡ from_event stream lines (lines_before_event payloads) owed (stop_of stand) (breaks_off stream && are_over (entries_from frame payloads)) (behind stand events (entries_from frame payloads))

  -- a stop that is told of its frame
  moved : (frame lines events : ℕ) (recorded owed : List (List ℕ)) (entries : List Entry) (is_broken : Bool) (stand : Stand)
      → from_event stream lines recorded owed (stop_of (standing_at frame stand)) is_broken (behind (standing_at frame stand) events entries)
      ≡ from_event stream lines recorded owed (told_at frame stand) is_broken (unless_stopped (told_at frame stand) (compared_from steps (breaks_off stream) stand (events + 1) entries))
  moved frame lines events recorded owed entries is_broken Fresh = refl
  moved frame lines events recorded owed entries is_broken (Going node) = refl
  moved frame lines events recorded owed entries is_broken (Stopped e) = refl

  still_begun : (frame : ℕ) (stand : Stand) → is_fresh stand ≡ false → is_fresh (standing_at frame stand) ≡ false
  still_begun frame Fresh e = e
  still_begun frame (Going node) e = refl
  still_begun frame (Stopped x) e = refl

  -- no frame is left
  over : (frame : ℕ) → Follows frame []
  unfolding Follows follows entries_from compared_from through
  over frame Fresh events lines owed begun = absurd cc
  over frame (Going node) events lines [] begun = sym (none_left stream lines None [] (breaks_off stream && true))
  over frame (Going node) events lines (m ∷ ms) begun =
      sym (left_behind stream lines None [] (breaks_off stream && true) m ms ∙ ap (λ (b : Bool). cond b (ends_as lines None stream) (audit.Differs (lines + 1))) (and_true (breaks_off stream)))
  over frame (Stopped e) events lines [] begun = sym (none_left stream lines (Some e) [] (breaks_off stream && true))
  over frame (Stopped e) events lines (m ∷ ms) begun =
      sym (left_behind stream lines (Some e) [] (breaks_off stream && true) m ms ∙ ap (λ (b : Bool). cond b (audit.Stopped e) (audit.Differs (lines + 1))) (and_true (breaks_off stream)))

  module _ (frame : ℕ) (payload : List ℕ) (payloads : List (List ℕ)) (others : Follows (frame + 1) payloads) where
    abbrev entry : Entry
    entry = record { frame = frame; payload = payload; recorded = lines_before_event payloads }

    abbrev entries : List Entry
    entries = entries_from (frame + 1) payloads

    abbrev later : Between → AuditEnd
    later = follows steps stream (frame + 1) payloads

    -- what a frame makes of what is left, by the line that it records
    Comes : Option (List ℕ) → Type 0
    Comes o = (stand : Stand) (events lines : ℕ) (owed : List (List ℕ)) → is_fresh stand ≡ false
        → goes_on (later_comes (at stand events lines owed) o (stepped steps (at stand events lines owed) frame payload)) later
        ≡ from_event stream lines (some_prefix (o ∷ map line_in payloads)) owed (stop_of stand) (breaks_off stream && are_over (with_entry o entry entries)) (behind stand events (with_entry o entry entries))

    -- a line
    line_next : (line m : List ℕ) (ms : List (List ℕ)) (stand : Stand) (events lines : ℕ) → is_fresh stand ≡ false → (same : Bool) → bytes_eq line m ≡ same
        → goes_on (cond same (Ok (at stand events (lines + 1) ms)) (Err (audit.Differs (lines + 1)))) later
        ≡ from_event stream lines (line ∷ lines_before_event payloads) (m ∷ ms) (stop_of stand) (breaks_off stream && are_over entries) (behind stand events entries)
    unfolding Follows
    line_next line m ms stand events lines begun true e =
        others stand events (lines + 1) ms begun
        ∙ sym (the_same stream lines (stop_of stand) (behind stand events entries) (breaks_off stream && are_over entries) line m (lines_before_event payloads) ms e)
    line_next line m ms stand events lines begun false e =
        sym (another stream lines (stop_of stand) (behind stand events entries) (breaks_off stream && are_over entries) line m (lines_before_event payloads) ms e)

    line_comes_in : (line : List ℕ) → Comes (Some line)
    unfolding Comes
    line_comes_in line stand events lines [] begun =
        sym (too_many stream lines (stop_of stand) (behind stand events entries) (breaks_off stream && are_over entries) line (lines_before_event payloads))
    line_comes_in line stand events lines (m ∷ ms) begun = line_next line m ms stand events lines begun (bytes_eq line m) refl

    -- an event
    event_next : (node : _) (events lines : ℕ) (now : List Line × Stand) → is_fresh now.1 ≡ false
        → later (stepped_to (at (Going node) events lines []) frame now)
        ≡ from_event stream lines (lines_before_event payloads) (map text now.0) (told_at frame now.1) (breaks_off stream && are_over entries)
        (unless_stopped (told_at frame now.1) (compared_from steps (breaks_off stream) now.1 (events + 1 + 1) entries))
    unfolding Follows
    event_next node events lines now begun =
        others (standing_at frame now.1) (events + 1) lines (map text now.0) (still_begun frame now.1 begun)
        ∙ moved frame lines (events + 1) (lines_before_event payloads) (map text now.0) entries (breaks_off stream && are_over entries) now.1

    event_comes_in : Comes None
    unfolding Comes compared_from through
    event_comes_in Fresh events lines owed begun = absurd cc
    event_comes_in (Going node) events lines [] begun =
        event_next node events lines (steps (Going node) (events + 1) payload) (begins (Going node) (events + 1) payload)
        ∙ sym (none_left stream lines None (behind (Going node) events (entry ∷ entries)) (breaks_off stream && false))
    event_comes_in (Stopped e) events lines [] begun = sym (none_left stream lines (Some e) [] (breaks_off stream && false))
    event_comes_in (Going node) events lines (m ∷ ms) begun =
        sym (left_behind stream lines None (behind (Going node) events (entry ∷ entries)) (breaks_off stream && false) m ms
        ∙ test_false (breaks_off stream && false) (through lines stream None (behind (Going node) events (entry ∷ entries))) (audit.Differs (lines + 1)) (and_never (breaks_off stream)))
    event_comes_in (Stopped e) events lines (m ∷ ms) begun =
        sym (left_behind stream lines (Some e) [] (breaks_off stream && false) m ms
        ∙ test_false (breaks_off stream && false) (through lines stream (Some e) []) (audit.Differs (lines + 1)) (and_never (breaks_off stream)))

    comes : (o : Option (List ℕ)) → Comes o
    comes None = event_comes_in
    comes (Some line) = line_comes_in line

    one_more_frame : Follows frame (payload ∷ payloads)
    unfolding Follows Comes follows entries_from
    one_more_frame stand events lines owed begun =
        ap (λ (r : Result Between AuditEnd). goes_on r later)
        (test_false (is_fresh stand) (first_then (stepped steps (at stand events lines owed) frame payload).stand (stepped steps (at stand events lines owed) frame payload))
        (later_comes (at stand events lines owed) (line_in payload) (stepped steps (at stand events lines owed) frame payload)) begun)
        ∙ comes (line_in payload) stand events lines owed begun

  all_frames : (frame : ℕ) (payloads : List (List ℕ)) → Follows frame payloads
  all_frames frame [] = over frame
  all_frames frame (payload ∷ payloads) = one_more_frame frame payload payloads (all_frames (frame + 1) payloads)

  -- the first frame
  first_comes : (payloads : List (List ℕ)) (lines : List Line) (stand : Stand) → is_fresh stand ≡ false
      → goes_on (first_then (standing_at 1 stand) (stepped_to beginning 1 (lines, stand))) (follows steps stream 2 payloads)
      ≡ opened_first (told_at 1 stand) (from_event stream 0 (lines_before_event payloads) (map text lines) (told_at 1 stand) (breaks_off stream && are_over (entries_from 2 payloads))
      (unless_stopped (told_at 1 stand) (compared_from steps (breaks_off stream) stand 2 (entries_from 2 payloads))))
  unfolding Follows
  first_comes payloads lines Fresh begun = absurd cc
  first_comes payloads lines (Going node) begun = all_frames 2 payloads (Going node) 1 0 (map text lines) refl
  first_comes payloads lines (Stopped e) begun = refl

  -- all frames of a stream
  pub follows_audit : (payloads : List (List ℕ)) → follows steps stream 1 payloads beginning ≡ audited_frames steps payloads stream
  unfolding follows compared_from
  follows_audit [] = refl
  follows_audit (payload ∷ payloads) = first_comes payloads (steps Fresh 1 payload).0 (steps Fresh 1 payload).1 (begins Fresh 1 payload)
