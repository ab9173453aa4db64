use Rattle.clap.specs.Words.{app_of}
use Rattle.snow_command.specs.Kept.Request.{texts}
use Rattle.snow_command.proofs.Matching.{rows_are, faults_are}
use Rattle.snow_command.proofs.parsing.matched.Goals as goal

pub returns-clause-rows : goal.returns-clause-rows
returns-clause-rows c =
    rows_are c.args.tasks c.args.chains c.args.rules (app_of c.in_ok-command.command) c.in_ok-command.ensures (texts c.args.words.now)
    c.try_get_matches_from.result c.try_get_matches_from.ensures.matches

pub returns-clause-fails : goal.returns-clause-fails
returns-clause-fails c =
    faults_are c.args.tasks c.args.chains c.args.rules (app_of c.in_ok-command.command) c.in_ok-command.ensures (texts c.args.words.now)
    c.try_get_matches_from.result c.try_get_matches_from.ensures.kinds
