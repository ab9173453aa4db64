use Rattle.std.proofs.Common.{[], ◌∷◌, ◌≤◌, ◌<◌, length, sym, append-nil, arith}
use Rattle.snow_text_model.specs.Model.Bytes.{bytes_text}
use Rattle.snow_show.proofs.Putting.{puts_behind}
use Rattle.snow_show.proofs.Itemed.{behind_led, behind_none}
use Rattle.snow_show.proofs.blocks.put_behind.Goals as goal

pub returns-then-bytes-eq0 : goal.returns-then-bytes-eq0
returns-then-bytes-eq0 c =
    let none : length c.args.bytes.now ≤ 0 = omega (arith, c.if-bytes-eq0.true) in
    rw (behind_none c.args.bytes.now none) (sym (append-nil c.args.text.now.items))

pub returns : goal.returns
returns c =
    let some : 0 < length c.args.bytes.now = omega (arith, c.if-bytes-eq0.false) in
    puts_behind c.put_bytes.result _ _ _ (32 ∷ []) (bytes_text c.args.bytes.now) _ c.in_ok-put.ensures c.put_bytes.ensures (sym (behind_led c.args.bytes.now some))
