use Rattle.std.proofs.Common.{◌<◌, length, length-append, is_ok, sym, subst, ap, ◌∙◌, arith}
use Rattle.snow_board.proofs.Cases.{split_on}
use Rattle.snow_tree.specs.Kept.Hints.{hint_of, IsPower}
use Rattle.snow_tree.proofs.Slots.{twice_power, told_twice, whole}
use Rattle.snow_tree.proofs.hints.Hints.make_slots.Goals as goal

pub invariant_of-self : goal.invariant_of-self
invariant_of-self c some =
    let now = c.resize.new.self in
    split_on (is_ok c.resize.result)
    (λ t. record { bits = 6; is = sym now.ok.0 ∙ (let e = c.resize.ensures.len in rw t at e) })
    (λ t. absurd (let e = c.resize.ensures.len in let same = rw t at e in omega (arith, some, same, now.ok.0, c.len-slots.ensures, c.if-slots-eq0.true)))

pub invariant_of-self-2 : goal.invariant_of-self-2
invariant_of-self-2 c some =
    let slots = c.self.inside.numbers in
    let items = c.extend_from_within.ensures.items in
    split_on (is_ok c.extend_from_within.result)
    (λ t.
    let twice = (rw t at items) ∙ whole slots.items slots.len slots.ok.0 in
    let before : 0 < length slots.items = omega (arith, some, ap length twice, length-append slots.items slots.items) in
    subst IsPower (sym (ap length twice ∙ length-append slots.items slots.items)) (twice_power (length slots.items) (c.self.invariant before)))
    (λ t. let same = rw t at items in rw same (c.self.invariant (omega (arith, some, ap length same))))

pub returns-clause-told : goal.returns-clause-told
returns-clause-told c id =
    let slots = c.self.inside.numbers in
    let items = c.extend_from_within.ensures.items in
    let before : 0 < length slots.items = omega (arith, c.if-slots-eq0.false, c.len-slots.ensures, slots.ok.0) in
    split_on (is_ok c.extend_from_within.result)
    (λ t.
    let twice = (rw t at items) ∙ whole slots.items slots.len slots.ok.0 in
    ap (λ l. hint_of l id) twice ∙ told_twice slots.items id (c.self.invariant before) ∙ ap (λ l. hint_of l id) c.self.view_is)
    (λ t. let same = rw t at items in ap (λ l. hint_of l id) (same ∙ c.self.view_is))
