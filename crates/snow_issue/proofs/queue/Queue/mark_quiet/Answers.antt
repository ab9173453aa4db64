-- What is remembered stays true, and where no reply is held nothing is to be done.
use Rattle.std.proofs.Common.{sym, ap, ◌∙◌}
use Rattle.snow_issue.specs.Kept.Known.{Seen, items_of}
use Rattle.snow_issue.proofs.Settled.{knows_by}
use Rattle.snow_issue.proofs.Quieted.{all_quiet_idle, none_held}
use Rattle.snow_issue.proofs.queue.Queue.mark_quiet.Goals as goal
use Rattle.snow_issue.proofs.queue.Queue.mark_quiet.Goals.{then-all_quiet, else-all_quiet}

pub returns-clause-knows : goal.returns-clause-knows
returns-clause-knows c b id parent knows =
    c.mark_last_quiet-all_quiet.ensures.tells b id parent
    (knows_by c.args.self.now b c.self.inside.waiting c.self.inside.gets (sym (ap (λ (s : Seen). s.seats) c.self.view_is)) (sym (ap (λ (s : Seen). s.gets) c.self.view_is)) knows)

pub returns-clause-idle : goal.returns-clause-idle
returns-clause-idle c b all_quiet knows =
    let inside = c.self.inside in
    let now : Seen = record { seats = c.mark_last_quiet-all_quiet.new.waiting; gets = inside.gets; held = items_of inside.replies; gone = inside.gone } in
    elim c.if-all_quiet.branch [
      | then-all_quiet w ↦ all_quiet_idle now b knows (c.mark_last_quiet-all_quiet.ensures.seen w.if-all_quiet.true) (c.mark_last_quiet-all_quiet.ensures.calm w.if-all_quiet.true)
          (none_held inside.replies w.len.result w.len.ensures (sym w.result-is ∙ all_quiet))
      | else-all_quiet w ↦ absurd cc
    ]
