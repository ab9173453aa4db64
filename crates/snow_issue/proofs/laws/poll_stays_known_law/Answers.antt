use Rattle.snow_issue.proofs.Remembered.{tells_polled}
use Rattle.snow_issue.proofs.laws.poll_stays_known_law.Goals as goal

pub returns : goal.returns
returns c = tells_polled
