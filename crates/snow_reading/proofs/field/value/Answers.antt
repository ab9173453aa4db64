use Rattle.std.proofs.Common.{rules, arith, ◌≡◌, ◌^◌, ◌*◌, ◌+◌, ◌-◌, ◌<◌, ◌≤◌, length, drop, get_or, sym, ◌∙◌, ap, None}
use Rattle.snow_reading.specs.Model.Reading.{value_after}
use Rattle.snow_reading.proofs.Values.{value_too_large, limited_none, limited_some, value_done, value_next}
use Rattle.snow_reading.proofs.field.value.Goals as goal

pub returns-in_err-checked_mul : goal.returns-in_err-checked_mul
returns-in_err-checked_mul c =
    let within : c.loop-byte.byte-index < length c.args.word.now = search rules in
    let over : 2 ^ 64 ≤ c.loop-byte.value * 10 = search rules in
    let large = value_too_large c.loop-byte.value c.args.word.now c.loop-byte.byte-index 0 _ within c.loop-byte.invariant.0 (omega (arith, over)) in
    let none : c.from_residual.result ≡ None = search rules in
    none ∙ limited_none _ large

pub returns-in_err-value : goal.returns-in_err-value
returns-in_err-value c =
    let within : c.loop-byte.byte-index < length c.args.word.now = search rules in
    let over : 2 ^ 64 ≤ c.loop-byte.value * 10 + (get_or c.args.word.now c.loop-byte.byte-index 0 - 48) = search rules in
    let large = value_too_large c.loop-byte.value c.args.word.now c.loop-byte.byte-index 0 _ within c.loop-byte.invariant.0 over in
    let none : c.from_residual-in_err-value.result ≡ None = search rules in
    none ∙ limited_none _ large

pub returns : goal.returns
returns c =
    let done : length c.args.word.now ≤ c.loop-byte.byte-index = search rules in
    limited_some _ _ (value_done c.loop-byte.value c.args.word.now c.loop-byte.byte-index _ done c.loop-byte.invariant.0) c.loop-byte.invariant.1

pub loop-byte-preserved : goal.loop-byte-preserved
loop-byte-preserved c =
    let within : c.loop-byte.byte-index < length c.args.word.now = search rules in
    let next = value_next c.loop-byte.value c.args.word.now c.loop-byte.byte-index 0 within in
    let value : c.in_ok-value.value ≡ c.loop-byte.value * 10 + (get_or c.args.word.now c.loop-byte.byte-index 0 - 48) = search rules in
    (ap (λ v. value_after v (drop (c.loop-byte.byte-index + 1) c.args.word.now)) value ∙ sym next ∙ c.loop-byte.invariant.0, search rules)
