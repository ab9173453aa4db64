-- Nothing is due at first.
use Rattle.std.proofs.Common.{◌≡◌, true, subst, ◌∙◌}
use Rattle.std.specs.Prelude.{OnOk, IfOk}
use Rattle.snow_store.specs.declared.needs.Due.{Due}
use Rattle.snow_store.specs.Model.Keeping.{taken, Answers}
use Rattle.snow_store.specs.Model.Needing.{is_missed, Covers}
use Rattle.snow_store.specs.Model.Paths.{Fetch}
use Rattle.snow_store.specs.Clauses.Coming.{after_verdict}
use Rattle.snow_boot.proofs.fetching.Fetching.take.Goals as goal

pub came-requires : goal.came-requires
came-requires g c = c.expect.ensures.whole ∙ c.requires

pub returns-clause-answer : goal.returns-clause-answer
returns-clause-answer g c = subst (λ (f : Fetch). Answers c.came.result (taken f.store c.args.header.now)) c.expect.ensures.fetch c.came.ensures.answer

pub returns-clause-fetch : goal.returns-clause-fetch
returns-clause-fetch g c =
    subst (λ (f : Fetch). IfOk c.came.result (λ verdict. (c.came.new.self.whole ≡ true)
    × (c.came.new.self.fetch ≡ after_verdict f record { header = c.args.header.now; bytes = c.args.bytes.now } verdict))) c.expect.ensures.fetch c.came.ensures.fetch

pub returns-clause-due : goal.returns-clause-due
returns-clause-due g c =
    let now = c.came.new.self in
    subst (λ (d : Due). OnOk c.came.result (Covers d (is_missed c.args.self.now.fetch c.args.self.now.fetch.targets) now.due (is_missed now.fetch now.fetch.targets))) c.expect.ensures.due
    (subst (λ (f : Fetch). OnOk c.came.result (Covers c.expect.new.self.due (is_missed f f.targets) now.due (is_missed now.fetch now.fetch.targets))) c.expect.ensures.fetch c.came.ensures.due)
