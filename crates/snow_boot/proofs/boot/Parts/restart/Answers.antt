-- The restart is told first.
use Rattle.std.proofs.Common.{[], ◌∷◌}
use Rattle.snow_base.specs.Model.Numbers.{next_number}
use Rattle.snow_lines.specs.declared.line.Line.TheVariants as line
use Rattle.snow_boot.specs.Model.Booting.{ask_frontier}
use Rattle.snow_boot.specs.Kept.Coursing.{boot_of}
use Rattle.snow_boot.proofs.Followed.{comes_behind, frontier_refuses}
use Rattle.snow_boot.proofs.boot.Parts.restart.Goals as goal

pub returns : goal.returns
returns g c =
    let held = g.C.Chain.held c.args.chain.now in
    let boot = boot_of c.args.self.now.survey c.args.self.now.fetching.fetch c.args.self.now.requests in
    comes_behind c.ask_frontier.result c.args.log.now c.push.new.self c.ask_frontier.new.log (line.Restart c.args.why ∷ []) c.ask_frontier.new.survey c.args.self.now.fetching c.args.self.now.requests
    c.args.numbers.now c.ask_frontier.new.numbers held held (ask_frontier boot (next_number c.args.numbers.now))
    c.ask_frontier.ensures.going (frontier_refuses boot (next_number c.args.numbers.now)) c.in_ok-push.ensures.ok (c.ask_frontier.ensures.came c.args.self.now.fetching c.args.self.now.requests held c.requires.0 c.requires.1 c.requires.2)
