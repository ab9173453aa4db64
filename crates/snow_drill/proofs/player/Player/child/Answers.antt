-- The block is the newest, and its event follows.
use Rattle.std.proofs.Common.{◌≡◌, ◌+◌, ◌++◌, [], ◌∷◌, refl, rules}
use Rattle.std.proofs.lemmas.Result.{on_ok_weaker}
use Rattle.snow_drill.specs.Model.Made.{height_in, bytes_of, headed}
use Rattle.snow_drill.specs.Model.First.{node}
use Rattle.snow_drill.proofs.Played.{follows_child}
use Rattle.snow_drill.proofs.player.Player.child.Goals as goal

pub returns : goal.returns
returns g c =
    let high : c.in-Some.height ≡ height_in c.args.self.now.made c.args.parent + 1 = search rules in
    let spelled : c.list-2.result.now ≡ bytes_of c.args.parent c.in-Some.height c.args.amount c.args.number = search rules in
    let grown : c.push.new.self ≡ c.args.self.now.made ++ headed c.args.parent c.in-Some.height c.list-2.result.now ∷ [] = search rules in
    on_ok_weaker c.make.result
    (follows_child g.E.Driven.step c.args.self.now c.make.new.self c.args.number c.args.amount c.in-Some.height c.args.parent c.list-2.result.now (node 1) c.push.new.self refl high spelled grown)
    c.make.ensures
