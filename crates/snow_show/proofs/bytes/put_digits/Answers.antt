use Rattle.std.proofs.Common.{◌≡◌, ◌++◌, refl, arith}
use Rattle.snow_show.proofs.Putting.{puts_behind, puts_then}
use Rattle.snow_show.proofs.Shortened.{twice}
use Rattle.snow_show.proofs.bytes.put_digits.Goals as goal

pub returns : goal.returns
returns c =
    let two : c.args.times ≡ 2 = omega (arith, c.requires.few, c.if-times-lt2.false) in
    let digits = c.digits_of-digits.result in
    let plus = c.plus_before_digits.result.now in
    puts_behind c.put-3.result c.args.text.now.items c.put-2.new.text.items c.put-3.new.text.items (plus ++ digits) digits _
    (puts_then c.args.text.now.items c.put.new.text.items c.put-2.new.text.items plus digits (plus ++ digits) c.in_ok-put.ensures c.in_ok-put-2.ensures refl) c.put-3.ensures
    (rw (c.plus_before_digits.ensures, c.digits_of-digits.ensures) (twice c.args.last c.args.byte c.args.times two))
