-- A stream that is shown while its pieces come.
use Rattle.std.proofs.Common.{◌≡◌, ℕ, ◌+◌, ◌-◌, ◌*◌, ◌^◌, ◌<◌, ◌≤◌, true, List, [], ◌∷◌, ◌++◌, length, Option, Some, None, IfSome, inl, inr, refl, sym, ap, ◌∙◌, subst, append_assoc, append-nil, arith}
use Rattle.std.proofs.lemmas.List.{length-append, length-drop}
use Rattle.std.proofs.lemmas.List.Concat.{flat_map-append}
use Rattle.std.specs.Io.KnownBytes.{Appends, Consumes, IsAtEnd, Keeps}
use Rattle.snow_base.specs.Clauses.Outside.{AppendsFront}
use Rattle.snow_base.proofs.Known.{appends_none, appends_then, appends_then_front, consumes_none, consumes_then, front_of_more, front_of_whole}
use Rattle.snow_wire.specs.Model.Frame.{first_of, frames_of, is_too_long}
use Rattle.snow_wire.specs.Clauses.Stream.{Intake, taken}
use Rattle.snow_wire.proofs.Pieces.{ahead, gave_all, goes_on, pieces, taken_none, taken_one}
use Rattle.snow_wire.proofs.Streams.{behind_shorter, frames_front, long_first, off_front}
use Rattle.snow_text_model.specs.declared.block_form.BlockForm.{BlockForm}
use Rattle.snow_text.specs.declared.streaming.ShowEnd.{ShowEnd}
use Rattle.snow_text.specs.declared.streaming.ShowEnd.TheVariants as end
use Rattle.snow_text_model.specs.Model.Shown.{shown, shown_frame, shown_rest}
use Rattle.snow_text.specs.Clauses.Streaming.{Breaks, Broke, EndFails, Filled, FindsNone, HasFault, Passes, TakesFirst, WritesText, lines_of}

-- lines of frames, and of frames behind them
lines_both : (f : BlockForm) (a b : List (List ℕ)) → lines_of f a ++ lines_of f b ≡ lines_of f (a ++ b)
lines_both f a b = sym (flat_map-append (shown_frame f) a b)

-- no frame yet
pub passes_none : (f : BlockForm) (rest : List ℕ) (out : Option (List ℕ)) → Passes f rest rest out out
passes_none f rest out = record { payloads = []; split = refl; written = appends_none out }

-- frames, and then others
pub passes_then : (f : BlockForm) (before mid now : List ℕ) (out_before out_mid out_now : Option (List ℕ)) → Passes f before mid out_before out_mid → Passes f mid now out_mid out_now → Passes f before now out_before out_now
passes_then f before mid now out_before out_mid out_now a b = record {
  payloads = a.payloads ++ b.payloads;
  split = a.split ∙ ap (ahead a.payloads) b.split ∙ ap (λ (l : List (List ℕ)). (l, (frames_of now).1)) (sym (append_assoc a.payloads b.payloads (frames_of now).0));
  written = appends_then out_before out_mid out_now (lines_of f a.payloads) (lines_of f b.payloads) (lines_of f (a.payloads ++ b.payloads)) a.written b.written (lines_both f a.payloads b.payloads);
}

-- one frame
pub passes_one : (f : BlockForm) (before now : List ℕ) (out_before out_now : Option (List ℕ)) → TakesFirst f before now out_before out_now → Passes f before now out_before out_now
passes_one f before now out_before out_now one = record {
  payloads = one.payload ∷ [];
  split = frames_front before (one.payload, now) one.first;
  written = subst (λ (l : List ℕ). Appends out_before out_now l) (sym (append-nil (shown_frame f one.payload))) one.written;
}

-- more bytes came
pub passes_more : (f : BlockForm) (before now piece : List ℕ) (out_before out_now : Option (List ℕ)) → Passes f before now out_before out_now → Passes f (before ++ piece) (now ++ piece) out_before out_now
passes_more f before now piece out_before out_now p = record { payloads = p.payloads; split = goes_on before p.payloads now piece p.split; written = p.written }

-- a front of one more line is a front of all lines
pub breaks_all : (f : BlockForm) (before mid : List ℕ) (out_before out_mid out_now : Option (List ℕ)) → Passes f before mid out_before out_mid → Breaks f mid out_mid out_now → AppendsFront out_before out_now (lines_of f (frames_of before).0)
breaks_all f before mid out_before out_mid out_now p b =
    let others = lines_of f (frames_of b.behind).0 in
    let first : lines_of f (frames_of mid).0 ≡ shown_frame f b.payload ++ others = ap (λ (r : List (List ℕ) × List ℕ). lines_of f r.0) (frames_front mid (b.payload, b.behind) b.first) in
    let all : lines_of f p.payloads ++ (shown_frame f b.payload ++ others) ≡ lines_of f (frames_of before).0 =
    ap (λ (l : List ℕ). lines_of f p.payloads ++ l) (sym first) ∙ lines_both f p.payloads (frames_of mid).0 ∙ sym (ap (λ (r : List (List ℕ) × List ℕ). lines_of f r.0) p.split) in
    appends_then_front out_before out_mid out_now (lines_of f p.payloads) (shown_frame f b.payload ++ others) (lines_of f (frames_of before).0) p.written
    (front_of_more out_mid out_now (shown_frame f b.payload) others (shown_frame f b.payload ++ others) b.written refl) all

-- ---- a stream

-- what is known after some pieces
pub record Showing (f : BlockForm) (left_before left_now out_before out_now : Option (List ℕ)) (rest : List ℕ) (room : ℕ) : Type 0 where
  pub gone : List ℕ
  pub consumed : Consumes left_before left_now gone
  pub count : length gone + room ≡ 2 ^ 40
  pub passes : Passes f gone rest out_before out_now
  pub none : first_of rest ≡ None

pub begins : (f : BlockForm) (left out : Option (List ℕ)) (rest : List ℕ) → rest ≡ [] → Showing f left left out out rest (2 ^ 40)
unfolding first_of
begins f left out rest e = rw e (record { gone = []; consumed = consumes_none left; count = refl; passes = passes_none f [] out; none = refl })

-- the whole frames of what came
pub all_gone : (f : BlockForm) (gone rest : List ℕ) (out_before out_now : Option (List ℕ)) (p : Passes f gone rest out_before out_now) → first_of rest ≡ None → frames_of gone ≡ (p.payloads, rest)
all_gone f gone rest out_before out_now p none = gave_all gone p.payloads rest p.split none

-- the lines of what came are a front of the whole text
pub front_of_text : (f : BlockForm) (gone more : List ℕ) (before after : Option (List ℕ)) → AppendsFront before after (lines_of f (frames_of gone).0) → AppendsFront before after (shown f (gone ++ more))
unfolding shown
front_of_text f gone more before after h =
    let later = frames_of ((frames_of gone).1 ++ more) in
    let whole : lines_of f (frames_of gone).0 ++ (lines_of f later.0 ++ shown_rest later.1) ≡ lines_of f (frames_of (gone ++ more)).0 ++ shown_rest (frames_of (gone ++ more)).1 =
    sym (append_assoc (lines_of f (frames_of gone).0) (lines_of f later.0) (shown_rest later.1))
    ∙ ap (λ (l : List ℕ). l ++ shown_rest later.1) (lines_both f (frames_of gone).0 later.0)
    ∙ sym (ap (λ (r : List (List ℕ) × List ℕ). lines_of f r.0 ++ shown_rest r.1) (pieces gone more)) in
    front_of_more before after (lines_of f (frames_of gone).0) (lines_of f later.0 ++ shown_rest later.1) (lines_of f (frames_of (gone ++ more)).0 ++ shown_rest (frames_of (gone ++ more)).1) h whole

-- the whole text, where nothing more comes
pub whole_text : (f : BlockForm) (gone rest : List ℕ) (out_before out_mid : Option (List ℕ)) (p : Passes f gone rest out_before out_mid) → first_of rest ≡ None → lines_of f p.payloads ++ shown_rest rest ≡ shown f gone
unfolding shown
whole_text f gone rest out_before out_mid p none = sym (ap (λ (r : List (List ℕ) × List ℕ). lines_of f r.0 ++ shown_rest r.1) (all_gone f gone rest out_before out_mid p none))

-- ---- the bytes of a source, where it tells them

of_all : (P : List ℕ → Type 0) (before after : Option (List ℕ)) (gone : List ℕ) → Consumes before after gone → ((more : List ℕ) → P (gone ++ more)) → IfSome before P
of_all P None after gone c h = tt
of_all P (Some x) None gone c h = absurd c
of_all P (Some x) (Some y) gone c h = subst P (sym c) (h y)

of_whole : (P : List ℕ → Type 0) (before after : Option (List ℕ)) (gone : List ℕ) → Consumes before after gone → IsAtEnd after → P gone → IfSome before P
of_whole P None after gone c e h = tt
of_whole P (Some x) None gone c e h = absurd c
of_whole P (Some x) (Some y) gone c e h = subst P (sym (c ∙ ap (λ (l : List ℕ). gone ++ l) e ∙ append-nil gone)) h

consumes_kept : (a b c : Option (List ℕ)) (bs : List ℕ) → Consumes a b bs → Keeps b c → Consumes a c bs
consumes_kept None b c bs p q = tt
consumes_kept (Some x) None c bs p q = absurd p
consumes_kept (Some x) (Some y) None bs p q = absurd q
consumes_kept (Some x) (Some y) (Some z) bs p q = p ∙ ap (λ (l : List ℕ). bs ++ l) (sym q)

-- ---- how a stream ends

-- a sink that failed, or want of memory, is no other end
pub fails_otherwise : {X : Type 0} (e : ShowEnd) (b a : ℕ) → EndFails e b a → e ≡ end.SourceFault → X
fails_otherwise end.Done b a f h = absurd f
fails_otherwise end.InputLimit b a f h = absurd f
fails_otherwise end.SourceFault b a f h = absurd f
fails_otherwise end.SinkFault b a f h = absurd cc
fails_otherwise end.Memory b a f h = absurd cc

pub fails_early : {X : Type 0} (e : ShowEnd) (b a : ℕ) → EndFails e b a → e ≡ end.Done → X
fails_early end.Done b a f h = absurd f
fails_early end.InputLimit b a f h = absurd f
fails_early end.SourceFault b a f h = absurd f
fails_early end.SinkFault b a f h = absurd cc
fails_early end.Memory b a f h = absurd cc

pub fails_below : {X : Type 0} (e : ShowEnd) (b a : ℕ) → EndFails e b a → e ≡ end.InputLimit → X
fails_below end.Done b a f h = absurd f
fails_below end.InputLimit b a f h = absurd f
fails_below end.SourceFault b a f h = absurd f
fails_below end.SinkFault b a f h = absurd cc
fails_below end.Memory b a f h = absurd cc

front_as : (e : ShowEnd) (b a : ℕ) (before after : Option (List ℕ)) (text : List ℕ) → EndFails e b a → AppendsFront before after text → WritesText e before after text
front_as end.Done b a before after text f w = absurd f
front_as end.InputLimit b a before after text f w = absurd f
front_as end.SourceFault b a before after text f w = absurd f
front_as end.SinkFault b a before after text f w = w
front_as end.Memory b a before after text f w = w

pub fault_as : (e : ShowEnd) (s t b a m : ℕ) → EndFails e b a → m ≤ b → HasFault e s t m a
fault_as end.Done s t b a m f h = absurd f
fault_as end.InputLimit s t b a m f h = absurd f
fault_as end.SourceFault s t b a m f h = absurd f
fault_as end.SinkFault s t b a m (inl less) h = inl (omega (arith, less, h))
fault_as end.SinkFault s t b a m (inr last) h = inr last
fault_as end.Memory s t b a m f h = tt

module _ (f : BlockForm) (left_before left_now out_before out_mid : Option (List ℕ)) (rest : List ℕ) (room : ℕ) (showing : Showing f left_before left_now out_before out_mid rest room) where
  -- the lines of what came were written
  lines_written : Appends out_before out_mid (lines_of f (frames_of showing.gone).0)
  lines_written =
      subst (λ (l : List ℕ). Appends out_before out_mid l) (sym (ap (λ (r : List (List ℕ) × List ℕ). lines_of f r.0) (all_gone f showing.gone rest out_before out_mid showing.passes showing.none))) showing.passes.written

  -- which are a front of the text
  pub front_shown : IfSome left_before (λ bytes. AppendsFront out_before out_mid (shown f bytes))
  front_shown =
      of_all (λ bytes. AppendsFront out_before out_mid (shown f bytes)) left_before left_now showing.gone showing.consumed
      (λ more. front_of_text f showing.gone more out_before out_mid (front_of_whole out_before out_mid (lines_of f (frames_of showing.gone).0) lines_written))

  -- the source failed
  pub broke : (left_next : Option (List ℕ)) → Keeps left_now left_next → Broke f left_before left_next out_before out_mid
  broke left_next kept = record {
    gone = showing.gone;
    consumed = consumes_kept left_before left_now left_next showing.gone showing.consumed kept;
    few = fits (length showing.gone) showing.count;
    written = lines_written;
  }
    where
      fits : (n : ℕ) → n + room ≡ 2 ^ 40 → n ≤ 2 ^ 40
      fits n h = omega arith

  -- all was taken that may be
  pub filled : room ≡ 0 → Filled f left_before left_now out_before out_mid
  filled none = record { gone = showing.gone; consumed = showing.consumed; full = full (length showing.gone) showing.count none; written = lines_written }
    where
      full : (n : ℕ) → n + room ≡ 2 ^ 40 → room ≡ 0 → n ≡ 2 ^ 40
      full n a b = omega arith

  -- the whole text was written
  pub done : (left_next out_now : Option (List ℕ)) (piece now : List ℕ) → length piece ≡ 0 → Consumes left_now left_next piece → now ≡ rest ++ piece → IsAtEnd left_next → Appends out_mid out_now (shown_rest now)
      → IfSome left_before (λ bytes. Appends out_before out_now (shown f bytes))
  done left_next out_now [] now none took behind at_end w =
      let same : now ≡ rest = behind ∙ append-nil rest in
      of_whole (λ bytes. Appends out_before out_now (shown f bytes)) left_before left_next showing.gone
      (consumes_then left_before left_now left_next showing.gone [] showing.gone showing.consumed took (append-nil showing.gone)) at_end
      (appends_then out_before out_mid out_now (lines_of f showing.passes.payloads) (shown_rest rest) (shown f showing.gone) showing.passes.written
      (subst (λ (l : List ℕ). Appends out_mid out_now (shown_rest l)) same w) (whole_text f showing.gone rest out_before out_mid showing.passes showing.none))
  done left_next out_now (x ∷ xs) now none took behind at_end w = absurd (omega (arith, none))

  -- or a front of it
  pub undone : (e : ShowEnd) (b a : ℕ) (left_next out_now : Option (List ℕ)) (piece now : List ℕ) → EndFails e b a → length piece ≡ 0 → Consumes left_now left_next piece → now ≡ rest ++ piece → IsAtEnd left_next
      → AppendsFront out_mid out_now (shown_rest now) → IfSome left_before (λ bytes. WritesText e out_before out_now (shown f bytes))
  undone e b a left_next out_now [] now fails none took behind at_end w =
      let same : now ≡ rest = behind ∙ append-nil rest in
      of_whole (λ bytes. WritesText e out_before out_now (shown f bytes)) left_before left_next showing.gone
      (consumes_then left_before left_now left_next showing.gone [] showing.gone showing.consumed took (append-nil showing.gone)) at_end
      (front_as e b a out_before out_now (shown f showing.gone) fails
      (appends_then_front out_before out_mid out_now (lines_of f showing.passes.payloads) (shown_rest rest) (shown f showing.gone) showing.passes.written
      (subst (λ (l : List ℕ). AppendsFront out_mid out_now (shown_rest l)) same w) (whole_text f showing.gone rest out_before out_mid showing.passes showing.none)))
  undone e b a left_next out_now (x ∷ xs) now fails none took behind at_end w = absurd (omega (arith, none))

  -- more came
  pub more_shown : (left_next out_now : Option (List ℕ)) (piece mid now : List ℕ) (room_now : ℕ) → Consumes left_now left_next piece → mid ≡ rest ++ piece → length piece + room_now ≡ room
      → Passes f mid now out_mid out_now → first_of now ≡ None → Showing f left_before left_next out_before out_now now room_now
  more_shown left_next out_now piece mid now room_now took behind less passes none = record {
    gone = showing.gone ++ piece;
    consumed = consumes_then left_before left_now left_next showing.gone piece (showing.gone ++ piece) showing.consumed took refl;
    count = omega (arith, showing.count, less, length-append showing.gone piece);
    passes = passes_then f (showing.gone ++ piece) (rest ++ piece) now out_before out_mid out_now (passes_more f showing.gone rest piece out_before out_mid showing.passes)
        (subst (λ (l : List ℕ). Passes f l now out_mid out_now) behind passes);
    none = none;
  }

  -- or the end within what came
  pub stopped : (e : ShowEnd) (b a : ℕ) (left_next out_now : Option (List ℕ)) (piece mid : List ℕ) → EndFails e b a → Consumes left_now left_next piece → mid ≡ rest ++ piece
      → AppendsFront out_mid out_now (lines_of f (frames_of mid).0) → IfSome left_before (λ bytes. WritesText e out_before out_now (shown f bytes))
  stopped e b a left_next out_now piece mid fails took behind w =
      let all = showing.gone ++ piece in
      let p = passes_more f showing.gone rest piece out_before out_mid showing.passes in
      let lines : lines_of f p.payloads ++ lines_of f (frames_of (rest ++ piece)).0 ≡ lines_of f (frames_of all).0 =
      lines_both f p.payloads (frames_of (rest ++ piece)).0 ∙ sym (ap (λ (r : List (List ℕ) × List ℕ). lines_of f r.0) p.split) in
      let front : AppendsFront out_before out_now (lines_of f (frames_of all).0) =
      appends_then_front out_before out_mid out_now (lines_of f p.payloads) (lines_of f (frames_of (rest ++ piece)).0) (lines_of f (frames_of all).0) p.written
      (subst (λ (l : List ℕ). AppendsFront out_mid out_now (lines_of f (frames_of l).0)) behind w) lines in
      of_all (λ bytes. WritesText e out_before out_now (shown f bytes)) left_before left_next all
      (consumes_then left_before left_now left_next showing.gone piece all showing.consumed took refl)
      (λ more. front_as e b a out_before out_now (shown f (all ++ more)) fails (front_of_text f all more out_before out_now front))

-- what the end of a stream wants
pub ruleset ending = (fails_otherwise, fails_early, fails_below, fault_as)

-- ---- one frame

-- the first frame was taken off
pub taken_first : (f : BlockForm) (before now : Intake) (payload : List ℕ) (out_before out_now : Option (List ℕ)) → first_of before.rest ≡ Some (payload, (taken before).rest) → now ≡ taken before
    → Appends out_before out_now (shown_frame f payload) → TakesFirst f before.rest now.rest out_before out_now
taken_first f before now payload out_before out_now first is w = record { payload = payload; first = first ∙ ap (λ (i : Intake). Some (payload, i.rest)) (sym is); written = w }

-- or a front of its line was written
pub broken_first : (f : BlockForm) (before : Intake) (payload : List ℕ) (out_before out_now : Option (List ℕ)) → first_of before.rest ≡ Some (payload, (taken before).rest)
    → AppendsFront out_before out_now (shown_frame f payload) → Breaks f before.rest out_before out_now
broken_first f before payload out_before out_now first w = record { payload = payload; behind = (taken before).rest; first = first; written = w }

-- no frame stands in front
pub found_none : (f : BlockForm) (before now : Intake) (out : Option (List ℕ)) → first_of before.rest ≡ None → now ≡ taken before → FindsNone before.rest now.rest out out
found_none f before now out none is = record { none = none; same = ap (λ (i : Intake). i.rest) (is ∙ taken_none before none); written = appends_none out }

pub found_long : (f : BlockForm) (before now : Intake) (out : Option (List ℕ)) → is_too_long before.rest ≡ true → now ≡ taken before → FindsNone before.rest now.rest out out
found_long f before now out long is = found_none f before now out (long_first before.rest long) is

-- what is left is smaller
pub left_fewer : (before now : Intake) (payload : List ℕ) → first_of before.rest ≡ Some (payload, (taken before).rest) → now ≡ taken before → length now.rest < length before.rest
left_fewer before now payload first is = subst (λ (i : Intake). length i.rest < length before.rest) (sym is) (behind_shorter before.rest (payload, (taken before).rest) first)

pub left_smaller : (before now : Intake) (payload : List ℕ) → first_of before.rest ≡ Some (payload, (taken before).rest) → now ≡ taken before
    → 4 * now.given + length now.rest ≤ 4 * before.given + length before.rest
left_smaller before now payload first is =
    let placed = off_front before.rest (payload, (taken before).rest) first in
    let room : 4 + length payload ≤ length before.rest = placed.1 in
    let rest : length (taken before).rest ≡ length before.rest - (4 + length payload) = ap length placed.0 ∙ length-drop (4 + length payload) before.rest in
    let given : now.given ≡ before.given + 1 = ap (λ (i : Intake). i.given) (is ∙ taken_one before payload (taken before).rest first) in
    let same : length now.rest ≡ length (taken before).rest = ap (λ (i : Intake). length i.rest) is in
    omega (arith, room, rest, given, same)

-- or the same
pub left_same : (before now : Intake) → first_of before.rest ≡ None → now ≡ taken before → 4 * now.given + length now.rest ≤ 4 * before.given + length before.rest
left_same before now none is =
    let given : now.given ≡ before.given = ap (λ (i : Intake). i.given) (is ∙ taken_none before none) in
    let same : length now.rest ≡ length before.rest = ap (λ (i : Intake). length i.rest) (is ∙ taken_none before none) in
    omega (arith, given, same)

pub left_long : (before now : Intake) → is_too_long before.rest ≡ true → now ≡ taken before → 4 * now.given + length now.rest ≤ 4 * before.given + length before.rest
left_long before now long is = left_same before now (long_first before.rest long) is

-- what one frame wants
pub ruleset stepping = (taken_first, broken_first, found_none, found_long, left_fewer, left_smaller, left_same, left_long)
