use Rattle.std.proofs.Common.{bytes_eq, take, arith}
use Rattle.std.proofs.lemmas.List.{length-take}
use Rattle.snow_climb.proofs.Majorities.{ids_few}
use Rattle.snow_climb.proofs.majority.count_for.Goals as goal

pub overflow_add-count : goal.overflow_add-count
overflow_add-count c =
    let ids = c.args.ids.now in
    let i = c.loop-id.id-index in
    omega (arith, c.loop-id.invariant, ids_few (λ id. bytes_eq id c.args.main.now) (take i ids), length-take i ids, c.loop-id-test.true, c.requires)
