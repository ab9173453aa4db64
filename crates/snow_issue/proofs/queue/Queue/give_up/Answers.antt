-- A block that nobody can issue is taken out: where it is still asked for, the others wait on.
use Rattle.std.proofs.Common.{◌≡◌, ◌<◌, true, false, length, get_or, sym, ap, ◌∙◌, subst}
use Rattle.std.specs.List.{remove}
use Rattle.std.proofs.lemmas.Bool.{both_ways}
use Rattle.snow_base.specs.declared.block.Header.{Header}
use Rattle.snow_lineup.specs.declared.marks.Mark.{Mark}
use Rattle.snow_lineup.specs.declared.marks.Mark.TheVariants.{New}
use Rattle.snow_issue.specs.declared.work.Waiting.{Waiting}
use Rattle.snow_issue.specs.Kept.Keeping.{IsKept}
use Rattle.snow_gets.specs.Model.Gets.{asked_in}
use Rattle.snow_issue.specs.Model.Lists.{is_asked}
use Rattle.snow_issue.specs.Kept.Known.{Seen, items_of, lists_of}
use Rattle.snow_issue.proofs.Settled.{kept_stay, seen}
use Rattle.snow_issue.proofs.Stepped.{left_knows, left_items, stay_knows}
use Rattle.snow_issue.proofs.Taken.{items_removed}
use Rattle.snow_issue.proofs.queue.Queue.give_up.Goals as goal
use Rattle.snow_issue.proofs.queue.Queue.give_up.Goals.{After-asks_for, After-take}

there_is : (c : After-asks_for) → c.args.at < length c.self.inside.waiting
there_is c = subst (λ (s : Seen). c.args.at < length s.seats) (sym c.self.view_is) c.requires

asked_is : (c : After-take) → c.asks_for.result ≡ true → asked_in c.self.inside.gets c.take.result.header.id ≡ true
asked_is c true_is =
    ap (asked_in c.self.inside.gets)
    (ap (λ (w : Waiting). w.header.id) (c.take.ensures.taken (c.take.result, New))
    ∙ sym (ap (λ (h : Header). h.id) (c.header.ensures (c.take.result, New))))
    ∙ sym c.asks_for.ensures ∙ true_is

pub invariant_of-self : goal.invariant_of-self
invariant_of-self c =
    let inside = c.self.inside in
    subst (λ l. IsKept l inside.gets inside.replies inside.gone) (sym c.take.ensures.rest)
    (kept_stay inside.waiting inside.gets inside.replies inside.gone c.args.at c.take.result (there_is (goal.at.invariant_of-self c).After-asks_for) c.take.ensures.taken
    (asked_is (goal.at.invariant_of-self c).After-take c.if-asks_for.true) c.self.invariant)

pub returns-then-asks_for-clause-items : goal.returns-then-asks_for-clause-items
returns-then-asks_for-clause-items c =
    ap items_of c.take.ensures.rest ∙ items_removed c.self.inside.waiting c.args.at ∙ ap (λ (s : Seen). remove (items_of s.seats) c.args.at) c.self.view_is

pub returns-then-asks_for-clause-knows : goal.returns-then-asks_for-clause-knows
returns-then-asks_for-clause-knows c board knows =
    let inside = c.self.inside in
    let before = c.args.self.now in
    let now : Seen = seen c.take.new.self inside.gets inside.replies inside.gone in
    stay_knows board before now c.args.at c.take.result c.requires
    (λ d. c.take.ensures.taken d ∙ ap (λ (s : Seen). (get_or s.seats c.args.at d).0) c.self.view_is)
    (subst (λ (s : Seen). asked_in s.gets c.take.result.header.id ≡ true) c.self.view_is (asked_is (goal.at.returns-then-asks_for-clause-knows c).After-take c.if-asks_for.true))
    (c.take.ensures.rest ∙ ap (λ (s : Seen). remove s.seats c.args.at) c.self.view_is)
    (ap (λ (s : Seen). s.gets) c.self.view_is) knows

pub returns-clause-items : goal.returns-clause-items
returns-clause-items c = left_items c.args.self.now c.take_block.new.self c.args.at c.take_block.result c.take_block.ensures.left

pub returns-clause-asked : goal.returns-clause-asked
returns-clause-asked c asked =
    let block = c.take_block.result in
    let d : Waiting × Mark = (block, New) in
    let same : block.header.id ≡ c.header.result.now.id =
    ap (λ (w : Waiting). w.header.id) (c.take_block.ensures.taken d ∙ ap (λ (s : Seen). (get_or s.seats c.args.at d).0) (sym c.self.view_is))
    ∙ sym (ap (λ (h : Header). h.id) (c.header.ensures d)) in
    let not_asked : is_asked (lists_of c.args.self.now) block.header.id ≡ false =
    ap (λ (s : Seen). asked_in s.gets block.header.id) (sym c.self.view_is)
    ∙ ap (asked_in c.self.inside.gets) same ∙ sym c.asks_for.ensures ∙ c.if-asks_for.false in
    absurd (both_ways (is_asked (lists_of c.args.self.now) block.header.id) not_asked asked)

pub returns-clause-knows : goal.returns-clause-knows
returns-clause-knows c board knows =
    left_knows board c.args.self.now c.take_block.new.self c.args.at c.take_block.result c.requires c.take_block.ensures.taken c.take_block.ensures.left c.take_block.ensures.gets knows
