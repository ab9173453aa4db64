-- All nodes are being asked, or what is missed is asked for, or the path is executed.
use Rattle.std.proofs.Common.{◌≡◌, sym, subst, ◌∙◌}
use Rattle.std.specs.Prelude.{Ok, Err}
use Rattle.std.proofs.lemmas.Result.{err_from_is_err_and}
use Rattle.snow_store.specs.declared.needs.Due.{Due}
use Rattle.snow_boot.specs.declared.question.Question.TheVariants as question
use Rattle.snow_boot.specs.Model.Asking.{asked, AreAskedBut}
use Rattle.snow_chain.specs.Kept.Alone.{last_state}
use Rattle.snow_boot.specs.Clauses.Requesting.{Asks}
use Rattle.snow_boot.proofs.Followed.{follows_question, follows_whole, follows_asked, follows_stopped}
use Rattle.snow_boot.proofs.Owed.{asks_nothing, asks_one}
use Rattle.snow_boot.proofs.boot.Parts.follow.Goals as goal
use Rattle.snow_boot.proofs.boot.Parts.follow.Goals.{in-Nothing-due, in-One+in_ok-ask_one-in-One, in-All+in_ok-ask_all-in-All}

frontier_goes : question.Frontier ≡ question.Nothing → ⊥
frontier_goes e = cc

accepted_goes : question.Accepted ≡ question.Nothing → ⊥
accepted_goes e = cc

pub returns-in-Frontier : goal.returns-in-Frontier
returns-in-Frontier g c =
    follows_question g.C.Chain.rules (last_state (g.C.Chain.held c.args.chain.now)) c.args.self.now.survey c.args.self.now.fetching c.args.self.now.requests c.args.numbers.now (g.C.Chain.held c.args.chain.now)
    c.args.log.now question.Frontier (sym c.in-Frontier.is ∙ c.question.ensures) c.requires.may.0 c.requires.may.2 c.requires.may.1 frontier_goes

pub returns-in-Accepted : goal.returns-in-Accepted
returns-in-Accepted g c =
    follows_question g.C.Chain.rules (last_state (g.C.Chain.held c.args.chain.now)) c.args.self.now.survey c.args.self.now.fetching c.args.self.now.requests c.args.numbers.now (g.C.Chain.held c.args.chain.now)
    c.args.log.now question.Accepted (sym c.in-Accepted.is ∙ c.question.ensures) c.requires.may.0 c.requires.may.2 c.requires.may.1 accepted_goes

pub returns-then-is_whole : goal.returns-then-is_whole
returns-then-is_whole g c =
    follows_whole g.C.Chain.rules (last_state (g.C.Chain.held c.args.chain.now)) c.args.self.now.survey c.args.self.now.fetching c.args.self.now.requests c.args.numbers.now
    (g.C.Chain.held c.args.chain.now) (g.C.Chain.held c.finish.new.chain) c.args.log.now c.finish.new.log c.finish.result (sym c.in-Nothing.is ∙ c.question.ensures)
    (sym c.is_whole.ensures ∙ c.if-is_whole.true) c.finish.ensures

pub returns : goal.returns
returns g c =
    elim c.match-due.branch [
      | in-Nothing-due w ↦
          rw (w.self-is, w.numbers-is, w.log-is)
          (follows_asked g.C.Chain.rules (last_state (g.C.Chain.held c.args.chain.now)) c.args.self.now.survey c.args.self.now.fetching c.args.self.now.requests c.args.self.now.requests c.args.numbers.now c.args.numbers.now (g.C.Chain.held c.args.chain.now) c.args.log.now c.args.log.now
          (sym c.in-Nothing.is ∙ c.question.ensures) c.requires.may.0 c.requires.may.1 (sym c.is_whole.ensures ∙ c.if-is_whole.false)
          (asks_nothing c.args.self.now.survey.nodes c.args.self.now.fetching.fetch c.args.self.now.requests c.args.numbers.now c.args.log.now (subst (λ (d : Due). AreAskedBut d c.args.self.now.fetching.fetch c.args.self.now.requests) (sym c.due.ensures ∙ w.in-Nothing-due.is) (c.requires.due (sym c.question.ensures ∙ c.in-Nothing.is))) c.requires.may.2))
      | in-One+in_ok-ask_one-in-One w ↦
          rw (w.self-is, w.numbers-is, w.log-is)
          (follows_asked g.C.Chain.rules (last_state (g.C.Chain.held c.args.chain.now)) c.args.self.now.survey c.args.self.now.fetching c.args.self.now.requests w.ask_one.new.requests c.args.numbers.now w.ask_one.new.numbers (g.C.Chain.held c.args.chain.now) c.args.log.now w.ask_one.new.log
          (sym c.in-Nothing.is ∙ c.question.ensures) c.requires.may.0 c.requires.may.1 (sym c.is_whole.ensures ∙ c.if-is_whole.false)
          (asks_one (Ok tt) c.nodes-nodes.result.now c.args.self.now.survey.nodes c.args.self.now.fetching.fetch c.args.self.now.requests w.ask_one.new.requests c.args.numbers.now w.ask_one.new.numbers c.args.log.now w.ask_one.new.log w.in-One.id w.needed.result
          (subst (λ (d : Due). AreAskedBut d c.args.self.now.fetching.fetch c.args.self.now.requests) (sym c.due.ensures ∙ w.in-One.is) (c.requires.due (sym c.question.ensures ∙ c.in-Nothing.is))) c.nodes-nodes.ensures.nodes w.needed.ensures w.in_ok-ask_one-in-One.ensures))
      | in-All+in_ok-ask_all-in-All w ↦
          rw (w.self-is, w.numbers-is, w.log-is)
          (follows_asked g.C.Chain.rules (last_state (g.C.Chain.held c.args.chain.now)) c.args.self.now.survey c.args.self.now.fetching c.args.self.now.requests w.ask_all.new.requests c.args.numbers.now w.ask_all.new.numbers (g.C.Chain.held c.args.chain.now) c.args.log.now w.ask_all.new.log
          (sym c.in-Nothing.is ∙ c.question.ensures) c.requires.may.0 c.requires.may.1 (sym c.is_whole.ensures ∙ c.if-is_whole.false)
          (subst (λ nodes. Asks (Ok tt) c.args.log.now w.ask_all.new.log w.ask_all.new.requests w.ask_all.new.numbers (asked nodes c.args.self.now.fetching.fetch c.args.self.now.fetching.fetch.targets c.args.self.now.requests c.args.numbers.now)) c.nodes-nodes.ensures.nodes w.in_ok-ask_all-in-All.ensures))
    ]

pub returns-in_err-ask_one-in-One : goal.returns-in_err-ask_one-in-One
returns-in_err-ask_one-in-One g c =
    let why = c.in_err-ask_one-in-One.field-0.0 in
    let p = err_from_is_err_and c.from_residual.result c.from_residual.ensures.1 in
    rw (p.1, p.2)
    (follows_stopped g.C.Chain.rules (last_state (g.C.Chain.held c.args.chain.now)) c.args.self.now.survey c.args.self.now.fetching c.args.self.now.requests c.ask_one.new.requests c.args.numbers.now c.ask_one.new.numbers (g.C.Chain.held c.args.chain.now) c.args.log.now c.ask_one.new.log why
    (sym c.in-Nothing.is ∙ c.question.ensures) (sym c.is_whole.ensures ∙ c.if-is_whole.false)
    (asks_one (Err why) c.nodes-nodes.result.now c.args.self.now.survey.nodes c.args.self.now.fetching.fetch c.args.self.now.requests c.ask_one.new.requests c.args.numbers.now c.ask_one.new.numbers c.args.log.now c.ask_one.new.log c.in-One.id c.needed.result
    (subst (λ (d : Due). AreAskedBut d c.args.self.now.fetching.fetch c.args.self.now.requests) (sym c.due.ensures ∙ c.in-One.is) (c.requires.due (sym c.question.ensures ∙ c.in-Nothing.is))) c.nodes-nodes.ensures.nodes c.needed.ensures c.in_err-ask_one-in-One.ensures))

pub returns-in_err-ask_all-in-All : goal.returns-in_err-ask_all-in-All
returns-in_err-ask_all-in-All g c =
    let why = c.in_err-ask_all-in-All.field-0.0 in
    let p = err_from_is_err_and c.from_residual-in_err-ask_all-in-All.result c.from_residual-in_err-ask_all-in-All.ensures.1 in
    rw (p.1, p.2)
    (follows_stopped g.C.Chain.rules (last_state (g.C.Chain.held c.args.chain.now)) c.args.self.now.survey c.args.self.now.fetching c.args.self.now.requests c.ask_all.new.requests c.args.numbers.now c.ask_all.new.numbers (g.C.Chain.held c.args.chain.now) c.args.log.now c.ask_all.new.log why
    (sym c.in-Nothing.is ∙ c.question.ensures) (sym c.is_whole.ensures ∙ c.if-is_whole.false)
    (subst (λ nodes. Asks (Err why) c.args.log.now c.ask_all.new.log c.ask_all.new.requests c.ask_all.new.numbers (asked nodes c.args.self.now.fetching.fetch c.args.self.now.fetching.fetch.targets c.args.self.now.requests c.args.numbers.now)) c.nodes-nodes.ensures.nodes c.in_err-ask_all-in-All.ensures))
