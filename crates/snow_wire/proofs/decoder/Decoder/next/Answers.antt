use Rattle.std.proofs.Common.{◌≡◌, ◌+◌, ◌-◌, ℕ, List, length, take, drop, refl, ap, sym, ◌∙◌, Some, None, true, false}
use Rattle.std.proofs.lemmas.List.{take_rest}
use Rattle.snow_wire.specs.Model.Frame.{is_too_long, length_word, first_of}
use Rattle.snow_wire.specs.declared.frame.TooLong.{TooLong}
use Rattle.snow_wire.specs.Clauses.Stream.{Intake, without, taken}
use Rattle.snow_wire.proofs.Streams.{none_if, given_if, small_rest, off_place, long_first}
use Rattle.snow_wire.proofs.decoder.Decoder.next.Goals as goal

-- the rest of a decoder as its code sees it
seen : (start : ℕ) (xs items rest : List ℕ) → xs ≡ items → drop start items ≡ rest → take (length xs - start) (drop start xs) ≡ rest
seen start xs items rest same e = rw take_rest (ap (drop start) same ∙ e)

pub returns-in-Some : goal.returns-in-Some
returns-in-Some c =
    let old = c.args.self.now in
    let xs = c.as_slice.result.now in
    let s = seen c.self.inside.start xs c.self.inside.bytes.bytes old.rest c.as_slice.ensures.bytes (ap (λ (i : Intake). i.rest) c.self.view_is) in
    let front = take (length xs - c.self.inside.start) (drop c.self.inside.start xs) in
    let g = given_if (is_too_long front) (length_word front) c.in-Some.length (sym c.in-Some.ensures) in
    let long : is_too_long old.rest ≡ true = ap is_too_long (sym s) ∙ g.0 in
    let given : c.self.inside.given + 1 ≡ old.given + 1 = ap (λ (i : Intake). i.given + 1) c.self.view_is in
    let word : c.in-Some.length ≡ length_word old.rest = sym g.1 ∙ ap length_word s in
    let made : ℕ → ℕ → TooLong = λ n l. record { number = n; length = l } in
    let same : made (c.self.inside.given + 1) c.in-Some.length ≡ made (old.given + 1) (length_word old.rest) = ap (λ (n : ℕ). made n c.in-Some.length) given ∙ ap (made (old.given + 1)) word in
    ((refl, (λ _. tt), c.self.view_is ∙ sym (ap (without old) (long_first old.rest long))), record { answer = (long, same); rests = tt; held = tt })

pub returns-in_default-first_frame : goal.returns-in_default-first_frame
returns-in_default-first_frame c =
    let rest = c.args.self.now.rest in
    let xs = c.as_slice.result.now in
    let s = seen c.self.inside.start xs c.self.inside.bytes.bytes rest c.as_slice.ensures.bytes (ap (λ (i : Intake). i.rest) c.self.view_is) in
    let none : first_of rest ≡ None = ap first_of (sym s) ∙ sym c.in_default-first_frame.ensures.first in
    let fine : is_too_long rest ≡ false = ap is_too_long (sym s) ∙ none_if (is_too_long (take (length xs - c.self.inside.start) (drop c.self.inside.start xs))) _ (sym c.in_default.ensures) in
    ((refl, (λ _. tt), c.self.view_is ∙ sym (ap (without c.args.self.now) none)), record { answer = (none, fine); rests = tt; held = small_rest rest none fine })

pub returns : goal.returns
returns c =
    let old = c.args.self.now in
    let items = c.self.inside.bytes.bytes in
    let start = c.self.inside.start in
    let payload = c.in-Some-first_frame.payload.now in
    let v : drop start items ≡ old.rest = ap (λ (i : Intake). i.rest) c.self.view_is in
    let s = seen start c.as_slice.result.now items old.rest c.as_slice.ensures.bytes v in
    let found : first_of (drop start items) ≡ Some (payload, c.in-Some-first_frame.field-0-1.now) = ap first_of (v ∙ sym s) ∙ sym c.in-Some-first_frame.ensures.first in
    let behind = drop (start + (4 + length payload)) items in
    let first : first_of old.rest ≡ Some (payload, behind) = ap first_of (sym v) ∙ off_place start items (payload, c.in-Some-first_frame.field-0-1.now) found in
    let given : c.self.inside.given + 1 ≡ old.given + 1 = ap (λ (i : Intake). i.given + 1) c.self.view_is in
    let made : ℕ → Intake = λ n. record { given = n; rest = behind } in
    let t : taken old ≡ made (old.given + 1) = ap (without old) first in
    ((refl, (λ _. tt), ap made given ∙ sym t), record { answer = (first ∙ ap (λ (r : List ℕ). Some (payload, r)) (sym (ap (λ (i : Intake). i.rest) t)), given); rests = tt; held = tt })
