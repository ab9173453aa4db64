use Rattle.std.proofs.Common.{All, take, get_or, sym, subst}
use Rattle.std.proofs.lemmas.List.{take_more}
use Rattle.std.proofs.lemmas.List.Elements.{All-push}
use Rattle.snow_base.specs.Clauses.Gathered.{IsNamed}
use Rattle.snow_climb.proofs.naming.all_named.Goals as goal

pub loop-id-preserved : goal.loop-id-preserved
loop-id-preserved c =
    let ids = c.args.ids.now in
    let i = c.loop-id.id-index in
    let id = c.id-item.result in
    subst (All IsNamed) (sym (take_more ids i id c.loop-id-test.true)) (All-push IsNamed (take i ids) (get_or ids i id) c.loop-id.invariant (subst IsNamed c.id-item.is c.named.ensures))
