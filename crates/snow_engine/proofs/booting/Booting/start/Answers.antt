-- Bootstrapping may go on over a chain that begins.
use Rattle.std.proofs.Common.{ap}
use Rattle.snow_chain.specs.Model.Chain.{Held}
use Rattle.snow_engine.proofs.Beginning.{begun_alone, first_number, boots}
use Rattle.snow_engine.proofs.booting.Booting.start.Goals as goal

pub invariant_of-result : goal.invariant_of-result
invariant_of-result g c = record {
  good = c.requires.good;
  may = c.in-Ok.ensures.goes_on (g.C.Chain.held c.args.chain) (ap (λ (h : Held). h.last) c.requires.chain)
      (begun_alone (g.C.Chain.held c.args.chain) c.args.first.now.last c.args.first.now.state c.requires.chain);
  small = first_number c.args.first.now.last c.args.first.now.height c.args.roster c.new-numbers.result c.start.new.numbers c.in-Ok.boot.boot c.new-numbers.ensures c.in-Ok.ensures.answer;
}

pub returns-in-Ok-clause-answer : goal.returns-in-Ok-clause-answer
returns-in-Ok-clause-answer g c =
    boots c.args.first.now c.args.params c.args.roster c.new-numbers.result c.start.new.numbers c.in-Ok.boot.boot (g.C.Chain.held c.args.chain) c.new.result
    c.requires.roster c.new-numbers.ensures c.requires.chain c.new.ensures c.in-Ok.ensures.answer
