use Rattle.std.proofs.Common.{sym, ap, subst, ◌∙◌, bytes_eq}
use Rattle.std.specs.List.{IsDistinct}
use Rattle.std.specs.Map.{keys_of}
use Rattle.std.specs.Option.{option_copied, option_or}
use Rattle.snow_map.specs.Clauses.Entries.{value_of}
use Rattle.snow_map.proofs.Seats.{found, all_distinct}
use Rattle.snow_map.proofs.id_map.IdMap.get.Goals as goal

pub returns-in-Some-clause-value : goal.returns-in-Some-clause-value
returns-in-Some-clause-value g c =
    let near = c.self.inside.near.entries in
    let far = c.self.inside.far in
    let id = c.args.id.now in
    sym (ap (λ l. value_of l id) (sym c.self.view_is) ∙ found near far c.self.invariant id
    ∙ ap (λ o. option_or o (value_of far id)) (sym c.value.ensures ∙ ap option_copied c.in-Some.is))

pub returns-in-Some-clause-unique : goal.returns-in-Some-clause-unique
returns-in-Some-clause-unique g c = subst (λ l. IsDistinct bytes_eq (keys_of l)) c.self.view_is (all_distinct c.self.inside.near.entries c.self.inside.far c.self.invariant)

pub returns-in-None-clause-value : goal.returns-in-None-clause-value
returns-in-None-clause-value g c =
    let near = c.self.inside.near.entries in
    let far = c.self.inside.far in
    let id = c.args.id.now in
    c.value-in-None.ensures
    ∙ sym (ap (λ l. value_of l id) (sym c.self.view_is) ∙ found near far c.self.invariant id
    ∙ ap (λ o. option_or o (value_of far id)) (sym c.value.ensures ∙ ap option_copied c.in-None.is))

pub returns-in-None-clause-unique : goal.returns-in-None-clause-unique
returns-in-None-clause-unique g c = subst (λ l. IsDistinct bytes_eq (keys_of l)) c.self.view_is (all_distinct c.self.inside.near.entries c.self.inside.far c.self.invariant)
