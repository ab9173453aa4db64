-- The reply is to an open request, or nobody waits for it. What comes of it has all that is promised.
use Rattle.std.proofs.Common.{Some, rules, sym, ap, subst, ◌∙◌}
use Rattle.snow_store.specs.declared.needs.Due.TheVariants as due
use Rattle.snow_chain.specs.Kept.Alone.{last_state}
use Rattle.snow_boot.specs.Model.Booting as model
use Rattle.snow_boot.specs.Clauses.Calling.{Course, AreDrawn}
use Rattle.snow_boot.specs.Kept.Coursing.{boot_of, Comes, IsCourse}
use Rattle.snow_boot.specs.Kept.Reply.{left}
use Rattle.snow_boot.proofs.Followed.{comes_as}
use Rattle.snow_boot.proofs.Heard.{reply_ignored, reply_came, reply_stops, drawn_without}
use Rattle.snow_boot.proofs.Owed.{covered, closed_due}
use Rattle.snow_boot.proofs.Promised.{promised}
use Rattle.snow_boot.proofs.Quiet.{all_quiet}
use Rattle.snow_boot.proofs.Replied.{replied_same}
use Rattle.snow_boot.proofs.boot.Boot.reply.Given as given
use Rattle.snow_boot.proofs.boot.Boot.reply.Goals as goal
use Rattle.snow_boot.proofs.boot.Boot.reply.Goals.{in-Some+in-Ok, in-Some+in-Err, in-None}

pub follow-requires-clause-may : goal.follow-requires-clause-may
follow-requires-clause-may g c =
    let was = c.self.inside.parts in (
      c.in-Ok.ensures.fetch.0,
      c.requires.last ∙ sym (ap (λ (v : Course). v.boot.store.last) c.self.view_is)
          ∙ sym (replied_same g.C.Chain.rules.header_of was.fetching.fetch c.reply.new.self.fetch c.in-Some.id (left c.args.blocks) c.in-Ok.ensures.fetch.1).0,
      drawn_without was.requests c.close.new.self c.args.numbers.now c.args.number c.args.node.now c.close.ensures.left
          (subst (λ (v : Course). AreDrawn v.boot.requests c.args.numbers.now) (sym c.self.view_is) c.requires.drawn),
    )

pub follow-requires-clause-due : goal.follow-requires-clause-due
follow-requires-clause-due g c asks =
    let was = c.self.inside.parts in
    let course : IsCourse was.survey was.fetching was.requests = c.self.invariant (ap (λ (v : Course). v.goes_on) c.self.view_is ∙ c.requires.goes_on) in
    covered (due.One c.in-Some.id) c.reply.new.self.due was.fetching.fetch c.reply.new.self.fetch c.close.new.self c.in-Ok.ensures.due
    (closed_due was.fetching.fetch was.requests c.close.new.self c.args.number c.args.node.now (Some c.in-Some.id) c.in-Some.ensures.answer c.close.ensures.left (course.settled asks).asked)

-- what comes of it
comes : (g : given.Over) (c : goal.After-self-2-1 g) → (
    let now = c.match-close.self-inside.parts in
    let held = g.C.Chain.held c.args.chain.now in
    Comes c.match-close.came c.args.log.now c.match-close.log now.survey now.fetching now.requests c.args.numbers.now c.match-close.numbers held (g.C.Chain.held c.match-close.chain)
    (model.ancestors_came g.C.Chain.rules (last_state held) c.args.self.now.boot c.args.numbers.now c.args.node.now c.args.number (left c.args.blocks))
    )
comes g c =
    let held = g.C.Chain.held c.args.chain.now in
    let was = c.self.inside.parts in
    let course : IsCourse was.survey was.fetching was.requests = c.self.invariant (ap (λ (v : Course). v.goes_on) c.self.view_is ∙ c.requires.goes_on) in
    rw (sym c.self.view_is)
    (elim c.match-close.branch [
      | in-Some+in-Ok w ↦
          rw (w.came-is, w.log-is, w.numbers-is, w.chain-is, w.self-inside-is)
          (comes_as w.follow.result c.args.log.now w.follow.new.log w.follow.new.self.survey w.follow.new.self.fetching w.follow.new.self.requests c.args.numbers.now w.follow.new.numbers held (g.C.Chain.held w.follow.new.chain)
          (model.followed g.C.Chain.rules (last_state held) (boot_of was.survey w.reply.new.self.fetch c.close.new.self) c.args.numbers.now)
          (model.ancestors_came g.C.Chain.rules (last_state held) (boot_of was.survey was.fetching.fetch was.requests) c.args.numbers.now c.args.node.now c.args.number (left c.args.blocks))
          (reply_came g.C.Chain.rules (last_state held) was.survey was.fetching.fetch w.reply.new.self.fetch was.requests c.close.new.self c.args.numbers.now c.args.node.now c.args.number
          w.in-Some.id (left c.args.blocks) w.in-Some.ensures.answer c.close.ensures.left w.in-Ok.ensures.fetch.1)
          w.follow.ensures)
      | in-Some+in-Err w ↦
          rw (w.came-is, w.log-is, w.numbers-is, w.chain-is, w.self-inside-is)
          (reply_stops g.C.Chain.rules (last_state held) was.survey was.fetching w.reply.new.self was.requests c.close.new.self c.args.numbers.now held c.args.log.now c.args.node.now
          c.args.number w.in-Some.id (left c.args.blocks) w.in-Err.stop w.in-Some.ensures.answer c.close.ensures.left w.in-Err.ensures.fetch)
      | in-None w ↦
          rw (w.came-is, w.log-is, w.numbers-is, w.chain-is, w.self-inside-is)
          (reply_ignored g.C.Chain.rules (last_state held) was.survey was.fetching was.requests c.close.new.self c.args.numbers.now held c.args.log.now c.args.node.now c.args.number
          (left c.args.blocks) course (subst (λ (v : Course). AreDrawn v.boot.requests c.args.numbers.now) (sym c.self.view_is) c.requires.drawn)
          (c.requires.last ∙ sym (ap (λ (v : Course). v.boot.store.last) c.self.view_is)) w.in-None.ensures.answer c.close.ensures.left)
    ])

pub invariant_of-self : goal.invariant_of-self
invariant_of-self g c = let x = comes g c in search (rules, x)

pub returns-clause-answer : goal.returns-clause-answer
returns-clause-answer g c = let x = comes g c in search (rules, x)

pub returns-clause-lines : goal.returns-clause-lines
returns-clause-lines g c = let x = comes g c in search (rules, x)

pub returns-clause-goes_on : goal.returns-clause-goes_on
returns-clause-goes_on g c = let x = comes g c in search (rules, x)

pub returns-clause-promise : goal.returns-clause-promise
returns-clause-promise g c =
    let held = g.C.Chain.held c.args.chain.now in
    let now = c.match-close.self-inside.parts in
    let boot = c.args.self.now.boot in
    promised c.match-close.came c.args.log.now c.match-close.log now.survey now.fetching now.requests c.args.numbers.now c.match-close.numbers held (g.C.Chain.held c.match-close.chain)
    (model.ancestors_came g.C.Chain.rules (last_state held) boot c.args.numbers.now c.args.node.now c.args.number (left c.args.blocks)) (comes g c)
    ((all_quiet g.C.Chain.rules (last_state held) boot c.args.numbers.now).ancestors c.args.node.now c.args.number (left c.args.blocks))
