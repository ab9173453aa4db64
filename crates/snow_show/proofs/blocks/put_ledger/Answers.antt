use Rattle.std.proofs.Common.{[], ◌∷◌, ◌/◌, codes, decimal, length}
use Rattle.std.proofs.lemmas.List.{length-drop}
use Rattle.snow_text_model.specs.Model.Bytes.{fixed_text}
use Rattle.snow_text_model.specs.Model.Blocks.{transfer_texts}
use Rattle.snow_show.specs.Kept.Listing.{led}
use Rattle.snow_show.proofs.Itemed.{ledger_line}
use Rattle.snow_show.proofs.Putting.{puts_four}
use Rattle.snow_show.proofs.blocks.put_ledger.Goals as goal

pub returns : goal.returns
returns c =
    let transfers = c.split_at-2.result.1.now in
    puts_four c.put_transfers.result _ _ _ _ _ (codes "ledger") (32 ∷ fixed_text c.split_at.result.0.now) (32 ∷ decimal c.read_u64.result) (led (32 ∷ []) (32 ∷ []) (transfer_texts (length transfers / 20) transfers)) _
    c.in_ok-put.ensures c.in_ok-put_fixed_word.ensures c.in_ok-put_marked_number.ensures c.put_transfers.ensures
    (rw (c.read_u64.ensures, c.split_at-2.ensures.back, c.split_at.ensures.front, c.split_at.ensures.back, length-drop 42 c.args.bytes.now) (ledger_line c.args.bytes.now))
