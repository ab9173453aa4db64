-- All nodes are asked for their frontier, and nothing is kept yet.
use Rattle.std.specs.Prelude.{[], Ok, Err, refl}
use Rattle.snow_chain.specs.Model.Chain.{begun}
use Rattle.snow_boot.specs.declared.boot.Stage.TheVariants as stage
use Rattle.snow_boot.specs.Model.Booting as model
use Rattle.snow_boot.proofs.Started.{first_hunt, starts, stops_first, logs_first}
use Rattle.snow_boot.proofs.boot.Boot.start.Goals as goal

pub invariant_of-result : goal.invariant_of-result
invariant_of-result g c going =
    (starts (Ok stage.Going) c.args.log.now c.ask_frontier.new.log c.in_ok-survey.survey c.ask_frontier.new.survey c.begin-in-Ok.result c.new.result c.args.numbers.now c.ask_frontier.new.numbers
    c.args.last c.args.height c.args.roster.now c.in_ok-survey.ensures c.begin-in-Ok.ensures c.new.ensures (rw (c.in-Ok.is, c.in-Ok.ensures.going) at c.ask_frontier.ensures.came)).3

pub returns-in-Ok-clause-answer : goal.returns-in-Ok-clause-answer
returns-in-Ok-clause-answer g c =
    (starts (Ok stage.Going) c.args.log.now c.ask_frontier.new.log c.in_ok-survey.survey c.ask_frontier.new.survey c.begin-in-Ok.result c.new.result c.args.numbers.now c.ask_frontier.new.numbers
    c.args.last c.args.height c.args.roster.now c.in_ok-survey.ensures c.begin-in-Ok.ensures c.new.ensures (rw (c.in-Ok.is, c.in-Ok.ensures.going) at c.ask_frontier.ensures.came)).1

pub returns-in-Ok-clause-lines : goal.returns-in-Ok-clause-lines
returns-in-Ok-clause-lines g c =
    (starts (Ok stage.Going) c.args.log.now c.ask_frontier.new.log c.in_ok-survey.survey c.ask_frontier.new.survey c.begin-in-Ok.result c.new.result c.args.numbers.now c.ask_frontier.new.numbers
    c.args.last c.args.height c.args.roster.now c.in_ok-survey.ensures c.begin-in-Ok.ensures c.new.ensures (rw (c.in-Ok.is, c.in-Ok.ensures.going) at c.ask_frontier.ensures.came)).0

pub returns-in-Err-clause-answer : goal.returns-in-Err-clause-answer
returns-in-Err-clause-answer g c =
    let held = begun c.args.last [] in
    stops_first c.in-Err.stop c.args.log.now c.ask_frontier.new.log c.ask_frontier.new.survey (first_hunt c.args.last c.args.height) [] c.args.numbers.now c.ask_frontier.new.numbers held
    (model.started c.args.last c.args.height c.args.roster.now c.args.numbers.now)
    (starts (Err c.in-Err.stop) c.args.log.now c.ask_frontier.new.log c.in_ok-survey.survey c.ask_frontier.new.survey (first_hunt c.args.last c.args.height) [] c.args.numbers.now c.ask_frontier.new.numbers
    c.args.last c.args.height c.args.roster.now c.in_ok-survey.ensures refl refl (rw c.in-Err.is at c.ask_frontier.ensures.came))

pub returns-in-Err-clause-lines : goal.returns-in-Err-clause-lines
returns-in-Err-clause-lines g c =
    let held = begun c.args.last [] in
    logs_first c.in-Err.stop c.args.log.now c.ask_frontier.new.log c.ask_frontier.new.survey (first_hunt c.args.last c.args.height) [] c.args.numbers.now c.ask_frontier.new.numbers held
    (model.started c.args.last c.args.height c.args.roster.now c.args.numbers.now)
    (starts (Err c.in-Err.stop) c.args.log.now c.ask_frontier.new.log c.in_ok-survey.survey c.ask_frontier.new.survey (first_hunt c.args.last c.args.height) [] c.args.numbers.now c.ask_frontier.new.numbers
    c.args.last c.args.height c.args.roster.now c.in_ok-survey.ensures refl refl (rw c.in-Err.is at c.ask_frontier.ensures.came))
