-- The event, and then a Timeout for each of its lines that asks for a block.
use Rattle.std.proofs.Common.{rules, ◌≡◌, List, [], length, fold, sym, ◌∙◌, subst, eqb-true}
use Rattle.std.proofs.lemmas.List.{nil_from_length}
use Rattle.std.proofs.lemmas.Result.{on_ok_weaker}
use Rattle.snow_lines.specs.declared.line.Line.{Line}
use Rattle.snow_wire.specs.Clauses.Viewed.{as_event}
use Rattle.snow_drill.specs.Kept.Following.{Plays}
use Rattle.snow_drill.specs.Model.Drill.{timed_out}
use Rattle.snow_drill.proofs.Played.{follows_made, follows_log}
use Rattle.snow_drill.proofs.player.Player.make.Goals as goal

pub returns-then-is_empty : goal.returns-then-is_empty
returns-then-is_empty g c =
    let mid = c.event.new.self in
    let none : mid.log ≡ [] = sym c.list.ensures ∙ nil_from_length c.list.result.now (eqb-true (length c.list.result.now) 0 (sym c.is_empty.ensures ∙ c.if-is_empty.true)) in
    follows_made g.E.Driven.step c.args.self.now mid mid (as_event c.args.event) mid.log c.in_ok-event.ensures.follows c.in_ok-event.ensures.lines
    (λ d h. subst (λ (lines : List Line). Plays mid (fold (timed_out g.E.Driven.step) d lines)) (sym none) h)

pub returns : goal.returns
returns g c =
    let mid = c.event.new.self in
    on_ok_weaker c.time_outs-came.result
    (λ later.
    follows_made g.E.Driven.step c.args.self.now mid c.time_outs-came.new.self (as_event c.args.event) mid.log c.in_ok-event.ensures.follows c.in_ok-event.ensures.lines
    (follows_log g.E.Driven.step mid c.time_outs-came.new.self [] (λ d. fold (timed_out g.E.Driven.step) d mid.log) later))
    (search rules)
