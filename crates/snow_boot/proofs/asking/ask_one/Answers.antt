-- The number is the next one, and no open request has it.
use Rattle.std.proofs.Common.{sym, ◌∙◌, arith}
use Rattle.snow_boot.proofs.Asked.{not_drawn, next_is, opened}
use Rattle.snow_boot.proofs.asking.ask_one.Goals as goal

pub open-requires-clause-number : goal.open-requires-clause-number
open-requires-clause-number c =
    let n = next_is c.args.numbers.now c.in-Some-draw.number c.in-Some-draw.ensures.number in
    not_drawn c.args.requests.now c.args.numbers.now c.in-Some-draw.number c.requires.drawn (omega (arith, n.0))

pub returns : goal.returns
returns c =
    let n = next_is c.args.numbers.now c.in-Some-draw.number c.in-Some-draw.ensures.number in
    rw (c.in-Some.is, sym c.asks_for.ensures ∙ c.if-asks_for.false)
    (opened c.args.nodes.now c.args.requests.now c.open.new.self c.in-Some.id c.asked_node-node.result c.in-Some-draw.number c.args.numbers.now c.draw.new.self c.args.log.now c.push.new.self
    c.asked_node-node.ensures c.in-Some-draw.ensures.number (c.draw.ensures.last ∙ n.1) c.requires.drawn c.in_ok-open.ensures.ok c.in_ok-push.ensures.ok)
