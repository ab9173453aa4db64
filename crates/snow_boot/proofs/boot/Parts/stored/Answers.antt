-- The bytes are those of a block, or are passed over.
use Rattle.std.proofs.Common.{sym, ap, ◌∙◌}
use Rattle.snow_store.specs.declared.needs.Due.TheVariants as due
use Rattle.snow_boot.specs.Model.Booting as model
use Rattle.snow_store.specs.Model.Paths.{Fetch}
use Rattle.snow_chain.specs.Kept.Alone.{last_state}
use Rattle.snow_boot.specs.Kept.Coursing.{boot_of}
use Rattle.snow_boot.proofs.Followed.{comes_as}
use Rattle.snow_boot.proofs.Heard.{skipped, stored_kept, stored_stops}
use Rattle.snow_boot.proofs.Owed.{none_due, covered}
use Rattle.snow_boot.proofs.Replied.{aim_verdict}
use Rattle.snow_boot.proofs.boot.Parts.stored.Goals as goal

pub returns-in_default : goal.returns-in_default
returns-in_default g c =
    let held = g.C.Chain.held c.args.chain.now in
    skipped g.C.Chain.rules (last_state held) c.args.self.now.survey c.args.self.now.fetching c.args.self.now.requests c.args.numbers.now held c.args.log.now c.push.new.self c.args.frame c.args.bytes.now
    c.requires.0 c.requires.3 c.requires.2 c.in_default.ensures c.in_ok-push.ensures.ok

pub follow-requires-clause-may : goal.follow-requires-clause-may
follow-requires-clause-may g c = (
  c.in-Ok.ensures.fetch.0,
  c.requires.2
      ∙ sym (ap (λ (f : Fetch). f.store.last) c.in-Ok.ensures.fetch.1 ∙ (aim_verdict c.args.self.now.fetching.fetch record { header = c.in-Some.header; bytes = c.args.bytes.now } c.in-Ok.field-0).0),
  c.requires.3,
)

pub follow-requires-clause-due : goal.follow-requires-clause-due
follow-requires-clause-due g c asks =
    let f = c.args.self.now.fetching.fetch in
    covered due.Nothing c.take.new.self.due f c.take.new.self.fetch c.args.self.now.requests c.in-Ok.ensures.due (none_due due.Nothing f c.args.self.now.requests (c.requires.0.settled asks).asked)

pub returns-in-Ok : goal.returns-in-Ok
returns-in-Ok g c =
    let held = g.C.Chain.held c.args.chain.now in
    comes_as c.follow.result c.args.log.now c.follow.new.log c.follow.new.self.survey c.follow.new.self.fetching c.follow.new.self.requests c.args.numbers.now c.follow.new.numbers held (g.C.Chain.held c.follow.new.chain)
    (model.followed g.C.Chain.rules (last_state held) (boot_of c.args.self.now.survey c.take.new.self.fetch c.args.self.now.requests) c.args.numbers.now)
    (model.stored_came g.C.Chain.rules (last_state held) (boot_of c.args.self.now.survey c.args.self.now.fetching.fetch c.args.self.now.requests) c.args.numbers.now c.args.frame c.args.bytes.now)
    (stored_kept g.C.Chain.rules (last_state held) c.args.self.now.survey c.args.self.now.fetching.fetch c.take.new.self c.args.self.now.requests c.args.numbers.now c.args.frame c.args.bytes.now c.in-Some.header c.in-Ok.field-0
    c.in-Some.ensures c.in-Ok.ensures.answer c.in-Ok.ensures.fetch.1)
    c.follow.ensures

pub returns-in-Err : goal.returns-in-Err
returns-in-Err g c =
    let held = g.C.Chain.held c.args.chain.now in
    stored_stops g.C.Chain.rules (last_state held) c.args.self.now.survey c.args.self.now.fetching c.take.new.self c.args.self.now.requests c.args.numbers.now held c.args.log.now c.args.frame c.args.bytes.now
    c.in-Some.header c.in-Err.stop c.in-Some.ensures c.in-Err.ensures.answer
