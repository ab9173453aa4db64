use Rattle.std.proofs.Common.{sym, ◌∙◌}
use Rattle.snow_board.proofs.Cases.{same_id}
use Rattle.snow_topo.proofs.Won.{bits_agree, bits_same, bits_differ}
use Rattle.snow_topo.proofs.winning.are_alike.Goals as goal

pub returns-then-eq : goal.returns-then-eq
returns-then-eq c =
    let id = c.args.id.now in
    let other = c.args.other.now in
    sym (bits_same id other (same_id id other (sym c.eq.ensures ∙ c.if-eq.true)))

pub returns-in-None : goal.returns-in-None
returns-in-None c = sym (bits_agree c.args.id.now c.args.other.now c.in-None.ensures)

pub returns-in-Some : goal.returns-in-Some
returns-in-Some c = sym (bits_differ c.args.id.now c.args.other.now _ c.in-Some.ensures)
