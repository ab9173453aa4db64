-- The block that the node votes for.
use Rattle.std.proofs.Common.{◌≡◌, rules}
use Rattle.std.proofs.lemmas.Result.{on_ok_weaker}
use Rattle.snow_drill.specs.Model.Generator.{following}
use Rattle.snow_drill.specs.Model.Made.{voted_by}
use Rattle.snow_drill.proofs.Played.{follows_vote}
use Rattle.snow_drill.proofs.player.Player.vote.Goals as goal

pub returns : goal.returns
returns g c =
    let voted : c.as_bytes-2.result.now ≡ voted_by c.args.self.now.made c.args.self.now.account.tally.tip (following c.args.self.now.generator) = search rules in
    on_ok_weaker c.make.result
    (follows_vote g.E.Driven.step c.args.self.now c.make.new.self c.args.number c.args.node.now c.as_bytes.result.now c.pick-picked.new.self c.as_bytes-2.result.now
    c.as_bytes.ensures.bytes c.pick-picked.ensures.state voted)
    c.make.ensures
