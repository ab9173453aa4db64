-- The summary of the drill that was played.
use Rattle.std.proofs.Common.{◌≡◌, List, Ok, subst}
use Rattle.std.specs.Prelude.{IfOk}
use Rattle.sha2.specs.Sha256.{sha256}
use Rattle.snow_lines.specs.declared.line.Line.{Line}
use Rattle.snow_lines.specs.Model.Text.{texts}
use Rattle.snow_drill.specs.declared.account.Account.{Account}
use Rattle.snow_drill.specs.Kept.Following.{Digests}
use Rattle.snow_drill.specs.Model.Summary.{summary_of}
use Rattle.snow_drill.proofs.Played.{drilled_so}
use Rattle.snow_drill.proofs.drilling.played.Goals as goal

pub returns-in-Ok : goal.returns-in-Ok
returns-in-Ok g c =
    drilled_so g.E.Driven.step c.args.seed c.args.blocks (c.args.log.now, Ok c.args.node) c.in_ok-player.player c.play-went.new.self c.summary.result
    c.in_ok-player.ensures c.in-Ok.ensures
    (subst
    (λ (account : Account). (lines : List Line) → Digests account lines
    → IfOk c.summary.result (λ text. text ≡ summary_of c.args.blocks account.tally (sha256 (texts lines))))
    c.into_account-account.ensures c.summary.ensures)
