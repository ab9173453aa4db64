-- The node's answer is awaited, or nobody waits for it.
use Rattle.snow_boot.specs.Model.Booting as model
use Rattle.snow_chain.specs.Kept.Alone.{last_state}
use Rattle.snow_boot.specs.Kept.Coursing.{boot_of}
use Rattle.snow_boot.proofs.Followed.{comes_as, stays}
use Rattle.snow_boot.proofs.Heard.{accepted_ignored, accepted_heard}
use Rattle.snow_boot.proofs.boot.Parts.accepted.Goals as goal

pub returns-in_default : goal.returns-in_default
returns-in_default g c =
    let held = g.C.Chain.held c.args.chain.now in
    let was = c.args.self.now in
    stays g.C.Chain.rules (last_state held) was.survey was.fetching was.requests c.args.numbers.now held c.args.log.now
    (model.accepted_came g.C.Chain.rules (last_state held) (boot_of was.survey was.fetching.fetch was.requests) c.args.numbers.now c.args.node.now c.args.number c.args.ids.now)
    (accepted_ignored g.C.Chain.rules (last_state held) was.survey was.fetching.fetch was.requests c.args.numbers.now c.args.node.now c.args.number c.args.ids.now c.in_default.ensures)
    c.requires.0 c.requires.3 c.requires.2

pub returns : goal.returns
returns g c =
    let held = g.C.Chain.held c.args.chain.now in
    let boot = boot_of c.args.self.now.survey c.args.self.now.fetching.fetch c.args.self.now.requests in
    let now = c.back.new.self in
    comes_as c.conclude.result c.args.log.now c.conclude.new.log c.conclude.new.self.survey c.conclude.new.self.fetching c.conclude.new.self.requests c.args.numbers.now c.conclude.new.numbers held
    (g.C.Chain.held c.conclude.new.chain)
    (model.or_all g.C.Chain.rules (last_state held) (boot_of now c.args.self.now.fetching.fetch c.args.self.now.requests) c.args.numbers.now now.awaited)
    (model.accepted_came g.C.Chain.rules (last_state held) boot c.args.numbers.now c.args.node.now c.args.number c.args.ids.now)
    (accepted_heard g.C.Chain.rules (last_state held) c.args.self.now.survey now c.args.self.now.fetching.fetch c.args.self.now.requests c.args.numbers.now c.args.node.now c.args.number c.in-Some.weight c.args.ids.now
    c.in-Some.ensures c.in_ok-back.ensures)
    c.conclude.ensures
