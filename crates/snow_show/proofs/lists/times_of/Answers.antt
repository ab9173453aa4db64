use Rattle.std.proofs.Common.{[], map, slice_index, sym, ◌∙◌, arith}
use Rattle.byteorder.specs.Endian.{big_number}
use Rattle.snow_show.proofs.Shortened.{mapped_ends, mapped_first, mapped_more, mapped_none}
use Rattle.snow_show.proofs.lists.times_of.Goals as goal

pub loop-times-init : goal.loop-times-init
loop-times-init c =
    let numbers = c.args.numbers.now in
    let more = mapped_more (big_number 8) (slice_index (map (big_number 8) numbers) 0) 0 numbers [] c.requires (sym (mapped_first (big_number 8) numbers [] c.requires)) in
    grind (arith, more)

pub returns-then-read_u64-number-clause-times : goal.returns-then-read_u64-number-clause-times
returns-then-read_u64-number-clause-times c =
    let numbers = c.args.numbers.now in
    let first = mapped_first (big_number 8) numbers [] c.requires in
    let ends = mapped_ends (big_number 8) (slice_index (map (big_number 8) numbers) 0) c.loop-times.times numbers [] c.loop-times-test.true (λ e. c.if-read_u64-number.true (c.read_u64.ensures ∙ e ∙ first ∙ sym c.read_u64-number.ensures)) in
    let sum = c.loop-times.invariant in
    omega (arith, ends, sum)

pub loop-times-preserved : goal.loop-times-preserved
loop-times-preserved c =
    let numbers = c.args.numbers.now in
    let first = mapped_first (big_number 8) numbers [] c.requires in
    let more = mapped_more (big_number 8) (slice_index (map (big_number 8) numbers) 0) c.loop-times.times numbers [] c.loop-times-test.true (sym c.read_u64.ensures ∙ c.if-read_u64-number.false ∙ c.read_u64-number.ensures ∙ sym first) in
    let sum = c.loop-times.invariant in
    omega (arith, more, sum)

pub returns-clause-times : goal.returns-clause-times
returns-clause-times c =
    let numbers = c.args.numbers.now in
    let none = mapped_none (big_number 8) (slice_index (map (big_number 8) numbers) 0) c.loop-times.times numbers c.loop-times-test.false in
    let sum = c.loop-times.invariant in
    let some = c.requires in
    let most = c.loop-times.auto.times-end in
    let past = c.loop-times-test.false in
    omega (arith, none, sum, some, most, past)
