-- The parent by the first value, and the amount by the second.
use Rattle.std.proofs.Common.{◌≡◌, rules}
use Rattle.std.proofs.lemmas.Result.{on_ok_weaker}
use Rattle.snow_drill.specs.Model.Generator.{following, picked}
use Rattle.snow_drill.specs.Model.Made.{chosen_by}
use Rattle.snow_drill.proofs.Played.{follows_block}
use Rattle.snow_drill.proofs.player.Player.block.Goals as goal

pub returns : goal.returns
returns g c =
    let turned : c.pick-amount.new.self ≡ following (following c.args.self.now.generator) = search rules in
    let chosen : c.chosen-parent.result ≡ chosen_by c.args.self.now.made c.args.self.now.account.tally.tip (following c.args.self.now.generator) = search rules in
    let priced : c.pick-amount.result ≡ picked 1000 (following (following c.args.self.now.generator)) = search rules in
    on_ok_weaker c.child.result
    (follows_block g.E.Driven.step c.args.self.now c.child.new.self c.args.number c.pick-amount.new.self c.pick-amount.result c.chosen-parent.result turned chosen priced)
    c.child.ensures
