use Rattle.std.proofs.Common.{◌≡◌, bytes_eq, take}
use Rattle.snow_climb.specs.Kept.Starting.{ids_by}
use Rattle.snow_climb.proofs.majority.count_for.Given as goal

abbrev pub invariant-loop-id : goal.invariant-loop-id
invariant-loop-id l = l.count ≡ ids_by (λ id. bytes_eq id l.main) (take l.id-index l.ids)
