-- A block with the next number stands behind all others.
use Rattle.std.proofs.Common.{◌≡◌, ◌+◌, suc, List, ◌∷◌, [], ◌++◌, find, arith, ap, ◌∙◌, None, subst}
use Rattle.std.specs.List.Sorted.{IsPermutation}
use Rattle.std.specs.Option.{is_some}
use Rattle.snow_map.specs.Clauses.Entries.{value_of}
use Rattle.snow_getter.specs.declared.served.Served.{Served}
use Rattle.snow_getter.specs.declared.pending.Issued.{Issued}
use Rattle.snow_getter.specs.Model.Serving.{is_block}
use Rattle.snow_getter.specs.Kept.Order.{AreIssued, block_at, issued_before}
use Rattle.snow_getter.proofs.Ordered.{block_pushed, issued_pushed, missing}
use Rattle.snow_getter.proofs.pending.Pending.push.Goals.{In_ok-insert}
use Rattle.snow_getter.proofs.pending.Pending.push.Goals as goal

-- no entry is that of the block's identifier
absent : (c : In_ok-insert) → value_of c.self.inside.blocks c.args.id ≡ None
absent c =
    missing c.self.inside.next c.args.id c.self.inside.blocks c.self.invariant
    (ap (λ l. is_some (find (is_block c.args.id) l)) c.self.view_is ∙ c.requires)

-- the block's entry comes in somewhere
put : (c : In_ok-insert) → let v : Issued = record { parent = c.args.parent; bytes = c.args.bytes; number = c.self.inside.next } in
    IsPermutation ((c.args.id, v) ∷ c.self.inside.blocks) c.insert.new.self
put c = c.in_ok-insert.ensures.added (absent c)

pub invariant_of-self-2 : goal.invariant_of-self-2
invariant_of-self-2 c =
    let next = c.self.inside.next in
    let v : Issued = record { parent = c.args.parent; bytes = c.args.bytes; number = next } in
    let at = (goal.at.invariant_of-self-2 c).In_ok-insert in
    let step : suc next ≡ next + 1 = omega arith in
    subst (λ n. AreIssued n c.insert.new.self) step
    (issued_pushed c.self.inside.blocks c.insert.new.self c.args.id v c.self.invariant (absent at) (put at))

pub returns-clause-ok : goal.returns-clause-ok
returns-clause-ok c =
    let next = c.self.inside.next in
    let es = c.self.inside.blocks in
    let v : Issued = record { parent = c.args.parent; bytes = c.args.bytes; number = next } in
    let step : next + 1 ≡ suc next = omega arith in
    ap (λ n. issued_before n c.insert.new.self) step
    ∙ block_pushed es c.insert.new.self c.args.id v c.self.invariant (put (goal.at.returns-clause-ok c).In_ok-insert)
    ∙ ap (λ (l : List Served). l ++ block_at c.args.id v ∷ []) c.self.view_is
