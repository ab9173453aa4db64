-- How the program ended, and its status.
use Rattle.std.proofs.Common.{◌≡◌, ℕ, ◌^◌, ◌≤◌, length, List, [], Option, Some, None, IfSome, refl, sym, ap, subst, ◌∙◌, append-nil}
use Rattle.std.specs.Io.KnownBytes.{Appends}
use Rattle.snow_base.specs.Clauses.Outside.{AppendsFront}
use Rattle.snow_text.specs.declared.whole.MakeEnd.{MakeEnd}
use Rattle.snow_text.specs.declared.whole.MakeEnd.TheVariants as made
use Rattle.snow_text.specs.Clauses.Whole as making
use Rattle.snow_text_model.specs.Model.Made as model
use Rattle.snow_text.specs.declared.streaming.ShowEnd.{ShowEnd}
use Rattle.snow_text.specs.declared.streaming.ShowEnd.TheVariants as shown
use Rattle.snow_text.specs.Clauses.Streaming as showing
use Rattle.snow_text_cli.specs.Clauses.Ends.{finish_of_make, finish_of_show}
use Rattle.snow_text_cli.specs.declared.status.Status.TheVariants as status
use Rattle.snow_text_cli.specs.declared.finish.Finish.{Finish}
use Rattle.snow_text_cli.specs.declared.finish.Finish.TheVariants as finish
use Rattle.snow_text_cli.specs.Model.Answer.{error_line, made_bytes, made_finish, status_of}
use Rattle.snow_text_cli.specs.Clauses.Answering.{HasFault, IsAnswer, IsEnd, Wrote, told_by}

-- the status of an end is the model's where the end is
pub answered : (f x : Finish) → IsEnd f x → IsAnswer (status_of f) x
answered f x is = ap status_of is

-- what is told of an end is what is told by its status
pub told_again : (f x : Finish) → IsEnd f x → error_line f ≡ error_line (told_by (status_of f) x)
told_again f x is = ap error_line is

-- ---- a stream was shown

pub show_ended : (e : ShowEnd) → IsEnd (finish_of_show e) finish.Done
show_ended shown.Done = refl
show_ended shown.InputLimit = refl
show_ended shown.SourceFault = refl
show_ended shown.SinkFault = refl
show_ended shown.Memory = refl

pub show_wrote : (e : ShowEnd) (before after : Option (List ℕ)) (text : List ℕ) → showing.WritesText e before after text → Wrote (status_of (finish_of_show e)) before after text
show_wrote shown.Done before after text h = h
show_wrote shown.InputLimit before after text h = h
show_wrote shown.SourceFault before after text h = h
show_wrote shown.SinkFault before after text h = h
show_wrote shown.Memory before after text h = h

pub show_failed : (e : ShowEnd) (source_before source_after sink_before sink_after : ℕ) → showing.HasFault e source_before source_after sink_before sink_after
    → HasFault (status_of (finish_of_show e)) source_before source_after sink_before sink_after
show_failed shown.Done b a sb sa h = h
show_failed shown.InputLimit b a sb sa h = h
show_failed shown.SourceFault b a sb sa h = h
show_failed shown.SinkFault b a sb sa h = h
show_failed shown.Memory b a sb sa h = h

pub show_done : (e : ShowEnd) → status_of (finish_of_show e) ≡ status.Done → e ≡ shown.Done
show_done shown.Done is = refl
show_done shown.InputLimit is = absurd (cc)
show_done shown.SourceFault is = absurd (cc)
show_done shown.SinkFault is = absurd (cc)
show_done shown.Memory is = absurd (cc)

pub show_broken : (e : ShowEnd) → status_of (finish_of_show e) ≡ status.SourceFault → e ≡ shown.SourceFault
show_broken shown.Done is = absurd (cc)
show_broken shown.InputLimit is = absurd (cc)
show_broken shown.SourceFault is = refl
show_broken shown.SinkFault is = absurd (cc)
show_broken shown.Memory is = absurd (cc)

pub show_filled : (e : ShowEnd) → status_of (finish_of_show e) ≡ status.Limit → e ≡ shown.InputLimit
show_filled shown.Done is = absurd (cc)
show_filled shown.InputLimit is = refl
show_filled shown.SourceFault is = absurd (cc)
show_filled shown.SinkFault is = absurd (cc)
show_filled shown.Memory is = absurd (cc)

pub show_asked : (e : ShowEnd) → status_of (finish_of_show e) ≡ status.Usage → ⊥
show_asked shown.Done is = cc
show_asked shown.InputLimit is = cc
show_asked shown.SourceFault is = cc
show_asked shown.SinkFault is = cc
show_asked shown.Memory is = cc

-- ---- a stream was made

nothing_appended : (before after : Option (List ℕ)) → after ≡ before → Appends before after []
nothing_appended None after same = tt
nothing_appended (Some xs) None same = absurd (cc)
nothing_appended (Some xs) (Some ys) same = let whole : ys ≡ xs = cc in whole ∙ sym (append-nil xs)

nothing_front : (before after : Option (List ℕ)) (bytes : List ℕ) → after ≡ before → AppendsFront before after bytes
nothing_front None after bytes same = tt
nothing_front (Some xs) None bytes same = absurd (cc)
nothing_front (Some xs) (Some ys) bytes same = let whole : ys ≡ xs = cc in ([], bytes, refl, whole ∙ sym (append-nil xs))

pub make_ended : (e : MakeEnd) (text : List ℕ) (before after : Option (List ℕ)) → making.Makes e text before after → IsEnd (finish_of_make e) (made_finish (model.made text))
make_ended made.Done text before after m = ap made_finish (sym m.1)
make_ended (made.Refused refusal) text before after m = ap made_finish (sym m)
make_ended made.InputLimit text before after m = refl
make_ended made.SourceFault text before after m = refl
make_ended made.SinkFault text before after m = refl
make_ended made.Memory text before after m = refl

pub make_wrote : (e : MakeEnd) (text : List ℕ) (before after : Option (List ℕ)) → making.Makes e text before after → making.IsQuiet e before after
    → Wrote (status_of (finish_of_make e)) before after (made_bytes (model.made text))
make_wrote made.Done text before after m q = subst (λ (b : List ℕ). Appends before after b) (ap made_bytes (sym m.1)) m.2
make_wrote (made.Refused refusal) text before after m q = subst (λ (b : List ℕ). Appends before after b) (ap made_bytes (sym m)) (nothing_appended before after q)
make_wrote made.InputLimit text before after m q = nothing_front before after (made_bytes (model.made text)) q
make_wrote made.SourceFault text before after m q = nothing_front before after (made_bytes (model.made text)) q
make_wrote made.SinkFault text before after m q = subst (λ (b : List ℕ). AppendsFront before after b) (ap made_bytes (sym m.1)) m.2
make_wrote made.Memory text before after m q = nothing_front before after (made_bytes (model.made text)) q

pub make_failed : (e : MakeEnd) (source_before source_after sink_before sink_after : ℕ) → making.HasFault e source_before source_after sink_before sink_after
    → HasFault (status_of (finish_of_make e)) source_before source_after sink_before sink_after
make_failed made.Done b a sb sa h = h
make_failed (made.Refused refusal) b a sb sa h = h
make_failed made.InputLimit b a sb sa h = h
make_failed made.SourceFault b a sb sa h = h
make_failed made.SinkFault b a sb sa h = h
make_failed made.Memory b a sb sa h = h

pub make_done : (e : MakeEnd) → status_of (finish_of_make e) ≡ status.Done → e ≡ made.Done
make_done made.Done is = refl
make_done (made.Refused refusal) is = absurd (cc)
make_done made.InputLimit is = absurd (cc)
make_done made.SourceFault is = absurd (cc)
make_done made.SinkFault is = absurd (cc)
make_done made.Memory is = absurd (cc)

pub make_broken : (e : MakeEnd) (before after : Option (List ℕ)) → making.IsQuiet e before after → status_of (finish_of_make e) ≡ status.SourceFault → after ≡ before
make_broken made.Done before after q is = absurd (cc)
make_broken (made.Refused refusal) before after q is = absurd (cc)
make_broken made.InputLimit before after q is = absurd (cc)
make_broken made.SourceFault before after q is = q
make_broken made.SinkFault before after q is = absurd (cc)
make_broken made.Memory before after q is = absurd (cc)

as_many : (left before after : Option (List ℕ)) → IfSome left (λ text. making.Makes made.InputLimit text before after) → IfSome left (λ text. 2 ^ 40 ≤ length text)
as_many None before after m = tt
as_many (Some text) before after m = m

pub make_filled : (e : MakeEnd) (left before after : Option (List ℕ)) → IfSome left (λ text. making.Makes e text before after) → making.IsQuiet e before after
    → status_of (finish_of_make e) ≡ status.Limit → IfSome left (λ text. 2 ^ 40 ≤ length text) × (after ≡ before)
make_filled made.Done left before after m q is = absurd (cc)
make_filled (made.Refused refusal) left before after m q is = absurd (cc)
make_filled made.InputLimit left before after m q is = (as_many left before after m, q)
make_filled made.SourceFault left before after m q is = absurd (cc)
make_filled made.SinkFault left before after m q is = absurd (cc)
make_filled made.Memory left before after m q is = absurd (cc)

pub make_asked : (e : MakeEnd) → status_of (finish_of_make e) ≡ status.Usage → ⊥
make_asked made.Done is = cc
make_asked (made.Refused refusal) is = cc
make_asked made.InputLimit is = cc
make_asked made.SourceFault is = cc
make_asked made.SinkFault is = cc
make_asked made.Memory is = cc
