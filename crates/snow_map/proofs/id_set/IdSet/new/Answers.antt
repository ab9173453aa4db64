use Rattle.std.proofs.Common.{bytes_eq, sym, ap, subst, ◌∙◌}
use Rattle.std.specs.List.{IsDistinct, position}
use Rattle.snow_map.specs.Clauses.Entries.{value_of}
use Rattle.snow_map.proofs.Places.{none_twice}
use Rattle.snow_map.proofs.id_set.IdSet.new.Goals as goal

pub invariant_of-result : goal.invariant_of-result
invariant_of-result c = record {
  unique = subst (IsDistinct bytes_eq) (sym c.new.ensures.items) none_twice;
  placed = λ id. ap (λ l. value_of l id) c.new-2.ensures ∙ ap (position (bytes_eq id)) (sym c.new.ensures.items);
}
