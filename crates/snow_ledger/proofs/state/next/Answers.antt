-- The copy was made the state after all transfers.
use Rattle.std.proofs.Common.{◌≡◌, true, [], Some, ap, sym, ◌∙◌, arith}
use Rattle.std.proofs.lemmas.Grind.{common_steps}
use Rattle.snow_ledger.specs.Model.Blocks.{is_whole, transfers_of}
use Rattle.snow_ledger.specs.Model.Ledger.{after, are_good}
use Rattle.snow_ledger.proofs.Blocks.{next_moved}
use Rattle.snow_ledger.proofs.state.next.Goals as goal

pub returns : goal.returns
returns c =
    let s = c.args.state.now in
    let ts = transfers_of c.args.bytes.now in
    let whole : is_whole c.args.bytes.now ≡ true = grind arith in
    let at : c.as_mut_slice.result.now ≡ s = cc (c.as_mut_slice.ensures.value, c.in_ok-moved.ensures.items) in
    let good : are_good s [] ts ≡ true = grind (arith, at, c.move_all.ensures.good) in
    let made : c.move_all.new.state ≡ after s ts = grind (arith, at, c.move_all.ensures.good, c.move_all.ensures.after) in
    let is : c.from_vec.result ≡ after s ts = grind (arith, common_steps, made, c.from_vec.ensures, c.in_ok-moved.ensures.items, c.in_ok-moved.ensures.len, c.as_mut_slice.ensures.len) in
    ap Some is ∙ sym (next_moved s c.args.bytes.now whole c.requires good)
