use Rattle.std.proofs.Common.{◌≡◌, arith}
use Rattle.std.proofs.lemmas.Result.{err_from_is_err_and}
use Rattle.snow_wire.proofs.Together.{list_taken, list_refused}
use Rattle.snow_wire.proofs.reader.Reader.list.Goals as goal

pub returns-in_err-bytes : goal.returns-in_err-bytes
returns-in_err-bytes g c =
    let same : c.from.result ≡ c.in_ok-count.count = omega arith in
    let p = err_from_is_err_and c.from_residual-in_err-bytes.result c.from_residual-in_err-bytes.ensures.1 in
    rw (p.1, p.2) (list_refused g.row.N c.args.limit c.in_ok-count.count c.from.result c.args.self.now c.count.new.self c.in_err-bytes.field-0.0 same c.in_ok-count.ensures c.in_err-bytes.ensures.read)

pub returns : goal.returns
returns g c =
    let same : c.from.result ≡ c.in_ok-count.count = omega arith in
    rw c.as_chunks.ensures.front (list_taken g.row.N c.args.limit c.in_ok-count.count c.from.result c.args.self.now c.count.new.self c.in_ok-bytes.bytes.now c.take.new.self c.requires.some same c.in_ok-count.ensures c.in_ok-bytes.ensures.read c.in_ok-bytes.ensures.size)
