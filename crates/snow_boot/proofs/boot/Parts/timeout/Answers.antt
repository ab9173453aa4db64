-- The request is closed; or the node's answer is awaited, or nobody waits for it.
use Rattle.std.proofs.Common.{sym, ap, subst, ◌∙◌}
use Rattle.std.specs.Prelude.{is_none}
use Rattle.snow_store.specs.declared.needs.Due.{Due}
use Rattle.snow_boot.specs.Model.Booting as model
use Rattle.snow_boot.specs.Model.Asking.{AreAskedBut}
use Rattle.snow_store.specs.Model.Paths.{Fetch}
use Rattle.snow_chain.specs.Kept.Alone.{last_state}
use Rattle.snow_boot.specs.Kept.Coursing.{boot_of}
use Rattle.snow_boot.proofs.Followed.{comes_as, stays}
use Rattle.snow_boot.proofs.Heard.{drawn_without, timeout_closed, timeout_ignored, timeout_heard}
use Rattle.snow_boot.proofs.Owed.{closed_due}
use Rattle.snow_boot.proofs.boot.Parts.timeout.Goals as goal

pub follow-requires-clause-may : goal.follow-requires-clause-may
follow-requires-clause-may g c = (
  c.expect.ensures.whole ∙ c.requires.0.whole,
  c.requires.2 ∙ ap (λ (f : Fetch). f.store.last) (sym c.expect.ensures.fetch),
  drawn_without c.args.self.now.requests c.close-closed.new.self c.args.numbers.now c.args.number c.args.node.now c.close-closed.ensures.left c.requires.3,
)

pub follow-requires-clause-due : goal.follow-requires-clause-due
follow-requires-clause-due g c asks =
    let f = c.args.self.now.fetching.fetch in
    subst (λ (x : Fetch). AreAskedBut c.expect.new.self.due x c.close-closed.new.self) (sym c.expect.ensures.fetch)
    (subst (λ (d : Due). AreAskedBut d f c.close-closed.new.self) (sym (c.expect.ensures.due ∙ c.due_of.ensures))
    (closed_due f c.args.self.now.requests c.close-closed.new.self c.args.number c.args.node.now c.close-closed.result c.close-closed.ensures.answer c.close-closed.ensures.left
    (c.requires.0.settled asks).asked))

pub returns-in-Nothing : goal.returns-in-Nothing
returns-in-Nothing g c =
    let held = g.C.Chain.held c.args.chain.now in
    comes_as c.follow.result c.args.log.now c.follow.new.log c.follow.new.self.survey c.follow.new.self.fetching c.follow.new.self.requests c.args.numbers.now c.follow.new.numbers held (g.C.Chain.held c.follow.new.chain)
    (model.followed g.C.Chain.rules (last_state held) (boot_of c.args.self.now.survey c.expect.new.self.fetch c.close-closed.new.self) c.args.numbers.now)
    (model.timeout_came g.C.Chain.rules (last_state held) (boot_of c.args.self.now.survey c.args.self.now.fetching.fetch c.args.self.now.requests) c.args.numbers.now c.args.node.now c.args.number)
    (ap (λ (f : Fetch). model.followed g.C.Chain.rules (last_state held) (boot_of c.args.self.now.survey f c.close-closed.new.self) c.args.numbers.now) c.expect.ensures.fetch
    ∙ timeout_closed g.C.Chain.rules (last_state held) c.args.self.now.survey c.args.self.now.fetching.fetch c.args.self.now.requests c.close-closed.new.self c.args.numbers.now c.args.node.now c.args.number
    (sym c.in-Nothing.is ∙ c.question-question.ensures) c.close-closed.ensures.left)
    c.follow.ensures

pub returns-in_default-awaits : goal.returns-in_default-awaits
returns-in_default-awaits g c =
    let held = g.C.Chain.held c.args.chain.now in
    let was = c.args.self.now in
    stays g.C.Chain.rules (last_state held) was.survey was.fetching was.requests c.args.numbers.now held c.args.log.now
    (model.timeout_came g.C.Chain.rules (last_state held) (boot_of was.survey was.fetching.fetch was.requests) c.args.numbers.now c.args.node.now c.args.number)
    (timeout_ignored g.C.Chain.rules (last_state held) was.survey was.fetching.fetch was.requests c.args.numbers.now c.args.node.now c.args.number c.question-question.result
    c.in_default.not-Nothing c.question-question.ensures c.in_default-awaits.ensures)
    c.requires.0 c.requires.3 c.requires.2

pub returns : goal.returns
returns g c =
    let held = g.C.Chain.held c.args.chain.now in
    let boot = boot_of c.args.self.now.survey c.args.self.now.fetching.fetch c.args.self.now.requests in
    let now = c.hear.new.self in
    comes_as c.conclude.result c.args.log.now c.conclude.new.log c.conclude.new.self.survey c.conclude.new.self.fetching c.conclude.new.self.requests c.args.numbers.now c.conclude.new.numbers held
    (g.C.Chain.held c.conclude.new.chain)
    (model.or_all g.C.Chain.rules (last_state held) (boot_of now c.args.self.now.fetching.fetch c.args.self.now.requests) c.args.numbers.now now.awaited)
    (model.timeout_came g.C.Chain.rules (last_state held) boot c.args.numbers.now c.args.node.now c.args.number)
    (timeout_heard g.C.Chain.rules (last_state held) c.args.self.now.survey now c.args.self.now.fetching.fetch c.args.self.now.requests c.args.numbers.now c.args.node.now c.args.number c.question-question.result
    c.in_default.not-Nothing c.question-question.ensures (ap is_none (sym c.in-Some.ensures)) c.hear.ensures)
    c.conclude.ensures
