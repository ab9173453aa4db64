use Rattle.std.proofs.Common.{◌/◌, ◌%◌, w64, get_or, arith}
use Rattle.std.proofs.lemmas.Nat.Bits.{bit_at_set_same, bit_at_set_other}
use Rattle.snow_climb.proofs.Hung.{mark_here, mark_others}
use Rattle.snow_climb.proofs.ladder.mark.Goals as goal

pub returns-clause-here : goal.returns-clause-here
returns-clause-here c =
    let word = get_or c.args.words.now (c.args.rung / 64) 0 in
    mark_here c.args.words.now c.args.rung _ c.requires (bit_at_set_same w64 word (c.args.rung % 64) (omega arith))

pub returns-clause-others : goal.returns-clause-others
returns-clause-others c =
    let word = get_or c.args.words.now (c.args.rung / 64) 0 in
    mark_others c.args.words.now c.args.rung _ c.requires (λ i h. bit_at_set_other w64 word (c.args.rung % 64) (omega arith) i)
