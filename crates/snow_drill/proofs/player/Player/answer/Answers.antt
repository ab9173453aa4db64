-- The query is taken out, and then all of its nodes vote.
use Rattle.std.proofs.Common.{Some, rules}
use Rattle.std.proofs.lemmas.Result.{on_ok_weaker}
use Rattle.snow_drill.specs.Kept.Following.{Takes}
use Rattle.snow_drill.proofs.Played.{follows_answer}
use Rattle.snow_drill.proofs.player.Player.answer.Goals as goal

pub returns-in-Some : goal.returns-in-Some
returns-in-Some g c =
    let takes : Takes (Some c.in-Some.query) c.args.self.now.account.tally c.take.new.self = search rules in
    on_ok_weaker c.votes.result
    (follows_answer g.E.Driven.step c.args.self.now c.votes.new.self c.take.new.self c.in-Some.query takes)
    c.votes.ensures
