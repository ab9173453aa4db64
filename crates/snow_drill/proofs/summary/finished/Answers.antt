-- The digest is that of the lines that were digested.
use Rattle.std.proofs.Common.{◌≡◌, ℕ, List, subst}
use Rattle.std.specs.Prelude.{IfOk}
use Rattle.sha2.specs.Sha256.{sha256}
use Rattle.snow_lines.specs.Model.Text.{texts}
use Rattle.snow_drill.specs.Model.Summary.{summary_of}
use Rattle.snow_drill.proofs.summary.finished.Goals as goal

pub returns : goal.returns
returns c lines holds =
    let digest : c.finalize.result ≡ sha256 (texts lines) = c.finalize.ensures (texts lines) holds in
    subst (λ (d : List ℕ). IfOk c.six_lines-text.result (λ text. text ≡ summary_of c.args.blocks c.args.account.tally d)) digest c.six_lines-text.ensures
