-- Bootstrapping may go on, with a number that is still small; or the node runs; or it stops. The lines are those of the event.
use Rattle.std.proofs.Common.{◌≡◌, Ok, Err, refl, sym, ap, ◌∙◌, subst}
use Rattle.snow_boot.specs.Clauses.Calling.{Brings, Leaves, MayGoOn, OnDone, OnGoing}
use Rattle.snow_boot.specs.declared.boot.Stage.{Stage}
use Rattle.snow_chain.specs.Kept.Alone.{last_state}
use Rattle.snow_node.proofs.Logs.{logs_whole}
use Rattle.snow_node.specs.Model.Running.{begun_above}
use Rattle.snow_wire.specs.Clauses.Viewed.{as_event}
use Rattle.snow_engine.specs.Clauses.Stopping.{Logs, StopsAs}
use Rattle.snow_engine.specs.Kept.Staging.{Node, Comes}
use Rattle.snow_engine.specs.Model.Booting.{Booting}
use Rattle.snow_engine.specs.Model.Catching.{brings, heard}
use Rattle.snow_engine.specs.declared.stage.Stage.TheVariants as node
use Rattle.snow_engine.proofs.Beginning.{catches, still_boots}
use Rattle.snow_engine.proofs.Drawn.{still_fits}
use Rattle.snow_engine.proofs.Staged.{boot_logged, boot_stopped, stop_logged}
use Rattle.snow_engine.proofs.booting.catch_up.Goals as goal
use Rattle.snow_engine.proofs.booting.catch_up.Goals.{in-Going, in-Done+in-Ok-above}

pub invariant_of-node : goal.invariant_of-node
invariant_of-node g c =
    let held = g.C.Chain.held c.node.inside.chain in
    let now = g.C.Chain.held c.hear.new.chain in
    record {
      good = c.node.invariant.good;
      may = subst (λ (s : Stage). OnGoing (Ok s) (MayGoOn c.hear.new.boot now c.hear.new.numbers)) c.in-Going.is c.in-Ok.ensures.goes_on;
      small = still_fits g.C.Chain.rules (last_state held) c.node.inside.boot.boot c.hear.new.boot.boot c.node.inside.numbers c.hear.new.numbers c.args.frame (as_event c.args.event)
          (subst (λ (s : Stage). Brings (Ok s) c.hear.new.boot.boot c.hear.new.numbers now
          (heard g.C.Chain.rules (last_state held) c.node.inside.boot.boot c.node.inside.numbers c.args.frame (as_event c.args.event)).1) c.in-Going.is c.in-Ok.ensures.answer)
          c.node.invariant.small;
    }

pub returns-in-Err-clause-answer : goal.returns-in-Err-clause-answer
returns-in-Err-clause-answer g c =
    let now = g.C.Chain.held c.hear.new.chain in
    let before : Booting = record { parameters = c.node.inside.params; roster = c.node.inside.roster; boot = c.node.inside.boot.boot; state = last_state (g.C.Chain.held c.node.inside.chain); words = c.node.inside.words; last = c.node.inside.numbers } in
    let is = catches g.C.Chain.rules g.B.Board.answer c.args.stage.now before c.args.frame (as_event c.args.event) (ap node.Booting c.node.view_is ∙ c.in-Booting.ensures.value) c.requires.heard in
    subst (λ (o : Comes Node). StopsAs c.new.result o.1) is
    (boot_stopped before c.in-Err.stop c.from.result c.new.result c.hear.new.boot.boot c.hear.new.numbers now (heard g.C.Chain.rules before.state before.boot before.last c.args.frame (as_event c.args.event)).1
    c.from.ensures c.new.ensures c.in-Err.ensures.answer)

pub returns-in-Err-clause-lines : goal.returns-in-Err-clause-lines
returns-in-Err-clause-lines g c =
    let before : Booting = record { parameters = c.node.inside.params; roster = c.node.inside.roster; boot = c.node.inside.boot.boot; state = last_state (g.C.Chain.held c.node.inside.chain); words = c.node.inside.words; last = c.node.inside.numbers } in
    let is = catches g.C.Chain.rules g.B.Board.answer c.args.stage.now before c.args.frame (as_event c.args.event) (ap node.Booting c.node.view_is ∙ c.in-Booting.ensures.value) c.requires.heard in
    subst (λ (o : Comes Node). Logs {T = Unit {0}} (Err c.new.result) c.args.log.now c.hear.new.log o.0) is
    (stop_logged (Unit {0}) (Unit {0}) c.from.result c.new.result c.args.log.now c.hear.new.log (heard g.C.Chain.rules before.state before.boot before.last c.args.frame (as_event c.args.event)).0 c.new.ensures
    (boot_logged Stage (Unit {0}) c.in-Err.stop c.from.result c.args.log.now c.hear.new.log (heard g.C.Chain.rules before.state before.boot before.last c.args.frame (as_event c.args.event)).0 c.from.ensures c.in-Err.ensures.lines))

pub returns-in-Err-above-clause-lines : goal.returns-in-Err-above-clause-lines
returns-in-Err-above-clause-lines g c =
    let before : Booting = record { parameters = c.node.inside.params; roster = c.node.inside.roster; boot = c.node.inside.boot.boot; state = last_state (g.C.Chain.held c.node.inside.chain); words = c.node.inside.words; last = c.node.inside.numbers } in
    let is = catches g.C.Chain.rules g.B.Board.answer c.args.stage.now before c.args.frame (as_event c.args.event) (ap node.Booting c.node.view_is ∙ c.in-Booting.ensures.value) c.requires.heard in
    subst (λ (o : Comes Node). Logs {T = Unit {0}} (Err c.from-in-Err-above.result) c.args.log.now c.hear.new.log o.0) is
    (rw c.from-in-Err-above.ensures (logs_whole c.args.log.now c.hear.new.log (heard g.C.Chain.rules before.state before.boot before.last c.args.frame (as_event c.args.event)).0 c.in-Ok.ensures.lines))

pub returns-clause-answer : goal.returns-clause-answer
returns-clause-answer g c =
    let held = g.C.Chain.held c.node.inside.chain in
    let now = g.C.Chain.held c.hear.new.chain in
    let before : Booting = record { parameters = c.node.inside.params; roster = c.node.inside.roster; boot = c.node.inside.boot.boot; state = last_state held; words = c.node.inside.words; last = c.node.inside.numbers } in
    let is = catches g.C.Chain.rules g.B.Board.answer c.args.stage.now before c.args.frame (as_event c.args.event) (ap node.Booting c.node.view_is ∙ c.in-Booting.ensures.value) c.requires.heard in
    sym (ap (λ (o : Comes Node). o.1) is)
    ∙ elim c.match-came.branch [
      | in-Going w ↦
          still_boots g.C.Chain.rules before before c.args.frame (as_event c.args.event) c.hear.new.boot.boot c.hear.new.numbers (last_state now) refl
          (subst (λ (s : Stage). Brings (Ok s) c.hear.new.boot.boot c.hear.new.numbers now
          (heard g.C.Chain.rules (last_state held) c.node.inside.boot.boot c.node.inside.numbers c.args.frame (as_event c.args.event)).1) w.in-Going.is c.in-Ok.ensures.answer)
          (ap last_state (subst (λ (s : Stage). Leaves (Ok s) held now) w.in-Going.is c.in-Ok.ensures.chain))
          ∙ ap (λ (n : Node). Ok n) (sym w.next-is ∙ sym c.replace-2.ensures.after)
      | in-Done+in-Ok-above w ↦
          ap (brings before) (subst (λ (s : Stage). Brings (Ok s) c.hear.new.boot.boot c.hear.new.numbers now
          (heard g.C.Chain.rules (last_state held) c.node.inside.boot.boot c.node.inside.numbers c.args.frame (as_event c.args.event)).1) w.in-Done.is c.in-Ok.ensures.answer)
          ∙ ap (λ n. Ok (node.Running (begun_above c.node.inside.params c.node.inside.roster c.node.inside.words n w.in-Done.last w.in-Done.height (last_state now))))
          (sym (subst (λ (s : Stage). OnDone (Ok s) (c.hear.new.numbers ≡ c.node.inside.numbers)) w.in-Done.is c.in-Ok.ensures.numbers))
          ∙ ap (λ x. Ok (node.Running x)) (sym w.in-Ok-above.ensures)
          ∙ ap (λ (n : Node). Ok n) (sym w.next-is ∙ sym c.replace-2.ensures.after)
    ]
