-- A line is owed.
use Rattle.std.proofs.Common.{Err, refl, sym, subst}
use Rattle.snow_engine.specs.Model.Run.{after_frame}
use Rattle.snow_engine.specs.declared.engine.Task.TheVariants as task
use Rattle.snow_audit.specs.declared.auditing.AuditEnd.{AuditEnd}
use Rattle.snow_audit.specs.Kept.Following.{Moves, between, event_comes, owed_of, stepped}
use Rattle.snow_audit.proofs.Owing.{owing_event}
use Rattle.snow_audit.proofs.following.Follower.take_event.Goals as goal

pub returns-then-is_owing-clause-moves : goal.returns-then-is_owing-clause-moves
returns-then-is_owing-clause-moves g c =
    let b = between c.args.self.now.stop c.args.self.now.runner.engine c.args.self.now.events c.args.self.now.lines c.args.self.now.at c.args.self.now.runner.log in
    let next = stepped (after_frame g.C.Chain.rules g.B.Board.answer task.Run) b c.args.frame c.args.payload.now in
    subst (λ (a : AuditEnd). Moves {T = Unit {0}} (Err a) b (event_comes b (owed_of c.args.self.now.at c.args.self.now.runner.log) next)) (sym c.differs.ensures)
    (refl, owing_event b next c.args.self.now.at c.args.self.now.runner.log (c.is_owing.ensures.some c.if-is_owing.true))
