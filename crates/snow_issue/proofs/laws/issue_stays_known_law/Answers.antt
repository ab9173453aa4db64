use Rattle.snow_issue.proofs.Remembered.{tells_issued}
use Rattle.snow_issue.proofs.laws.issue_stays_known_law.Goals as goal

pub returns : goal.returns
returns c = tells_issued
