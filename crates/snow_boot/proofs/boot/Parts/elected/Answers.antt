-- Where there are targets, all that they miss is due.
use Rattle.std.proofs.Common.{◌≡◌, ℕ, List, [], ◌∷◌, ◌==◌, length, true, false, refl, sym, ap, ap₂, subst, ◌∙◌}
use Rattle.snow_chain.specs.Model.Chain.{Rules}
use Rattle.snow_chain.specs.Kept.Alone.{last_state}
use Rattle.snow_sample.specs.Model.Roster.{total_weight}
use Rattle.snow_boot.specs.declared.question.Question.TheVariants as question
use Rattle.snow_boot.specs.Kept.Coursing.{boot_of, Comes}
use Rattle.snow_boot.specs.Kept.Fetching.{Hunt}
use Rattle.snow_boot.specs.Kept.Surveying.{Surveyed}
use Rattle.snow_boot.specs.Model.Booting.{Boot, Outcome, fetching, followed, with_targets}
use Rattle.snow_boot.specs.Model.Electing.{majority}
use Rattle.snow_store.specs.Model.Needing.{is_due}
use Rattle.snow_store.proofs.Cases.{clash}
use Rattle.snow_boot.proofs.boot.Parts.elected.Goals as goal

pub follow-requires-clause-due : goal.follow-requires-clause-due
follow-requires-clause-due g c asks q is free = clash (is_due c.aim.new.self.due q) (ap (λ (h : Hunt). is_due h.due q) c.in_ok-aim.ensures) free

some_targets : (rules : Rules) (state : List ℕ) (boot : Boot) (drawn : ℕ) (targets : List (List ℕ)) → (length targets == 0) ≡ false
    → followed rules state (fetching boot targets) drawn ≡ with_targets rules state boot drawn targets
some_targets rules state boot drawn [] some = clash true refl some
some_targets rules state boot drawn (t ∷ targets) some = refl

pub returns : goal.returns
returns g c =
    let self = c.args.self.now in
    let rules = g.C.Chain.rules in
    let state = last_state (g.C.Chain.held c.args.chain.now) in
    let boot = boot_of self.survey self.fetching.fetch self.requests in
    let targets = c.in_ok-targets.targets in
    let aimed : boot_of c.close.new.self c.aim.new.self.fetch c.new.result ≡ fetching boot targets =
    ap (λ (s : Surveyed). boot_of s c.aim.new.self.fetch c.new.result) c.close.ensures
    ∙ ap₂ (λ (h : Hunt) r. boot_of record { nodes = self.survey.nodes; question = question.Nothing; number = self.survey.number; awaited = []; candidates = self.survey.candidates } h.fetch r) c.in_ok-aim.ensures c.new.ensures in
    subst (Comes c.follow.result c.args.log.now c.follow.new.log c.follow.new.self.survey c.follow.new.self.fetching c.follow.new.self.requests c.args.numbers.now c.follow.new.numbers (g.C.Chain.held c.args.chain.now) (g.C.Chain.held c.follow.new.chain))
    (ap (λ (b : Boot). followed rules state b c.args.numbers.now) aimed ∙ some_targets rules state boot c.args.numbers.now targets (sym c.has_none.ensures ∙ c.if-has_none.false) ∙ ap (with_targets rules state boot c.args.numbers.now) c.in_ok-targets.ensures)
    c.follow.ensures
