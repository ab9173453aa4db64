-- One node less is awaited, and its weight backs what it named.
use Rattle.std.proofs.Common.{◌≡◌, List, Some, sym, ap, ◌∙◌}
use Rattle.std.specs.Option.{option_map}
use Rattle.snow_sample.specs.declared.roster.Node.{Node}
use Rattle.snow_boot.specs.declared.question.Candidate.{Candidate}
use Rattle.snow_boot.specs.declared.question.Question.TheVariants as question
use Rattle.snow_boot.specs.Model.Electing.{awaits, still_awaited, backed}
use Rattle.snow_boot.specs.Kept.Surveying.{Surveyed, surveyed}
use Rattle.snow_store.specs.Model.Paths.{has_id}
use Rattle.snow_boot.proofs.Surveyed.{survey_backed, small_weight, small_backing, backed_same}
use Rattle.snow_boot.proofs.Weighed.{still_in, still_weigh}
use Rattle.snow_boot.proofs.survey.Survey.back.Goals as goal

pub back-requires-clause-within : goal.back-requires-clause-within
back-requires-clause-within c =
    let i = c.self.inside in
    let s = surveyed i.nodes.items i.question i.number i.awaited i.candidates in
    small_backing s i.total c.self.invariant.0

pub back-requires-clause-small : goal.back-requires-clause-small
back-requires-clause-small c =
    let i = c.self.inside in
    let s = surveyed i.nodes.items i.question i.number i.awaited i.candidates in
    let waits : Some c.args.weight ≡ option_map (λ n. n.weight) (awaits s.awaited c.args.node.now) =
    c.requires.awaited ∙ sym (ap (λ (v : Surveyed). option_map (λ n. n.weight) (awaits v.awaited c.args.node.now)) c.self.view_is) in
    small_weight s i.total c.args.node.now c.args.weight c.self.invariant.0 waits

pub invariant_of-self : goal.invariant_of-self
invariant_of-self c =
    let i = c.self.inside in
    let s = surveyed i.nodes.items i.question i.number i.awaited i.candidates in
    let waits : Some c.args.weight ≡ option_map (λ n. n.weight) (awaits s.awaited c.args.node.now) =
    c.requires.awaited ∙ sym (ap (λ (v : Surveyed). option_map (λ n. n.weight) (awaits v.awaited c.args.node.now)) c.self.view_is) in
    let asks : s.question ≡ question.Accepted = ap (λ (v : Surveyed). v.question) c.self.view_is ∙ c.requires.asked in
    let once : c.back.new.self ≡ backed c.args.weight c.args.ids.now s.candidates =
    c.back.ensures ∙ backed_same c.args.weight c.in_ok-named.named c.args.ids.now s.candidates
    (λ q. c.in_ok-named.ensures q ∙ ap (λ l. has_id l q) c.list.ensures) in (
      rw (still_in i.awaited c.remove.new.self c.args.node.now c.remove.ensures.updates.0 i.nodes.items, once)
          (survey_backed s i.total c.args.node.now c.args.weight c.args.ids.now c.self.invariant.0 waits asks),
      still_weigh i.awaited c.remove.new.self c.args.node.now i.nodes.items c.remove.ensures.updates.0 c.self.invariant.1,
    )

pub returns : goal.returns
returns c =
    let i = c.self.inside in
    let s = surveyed i.nodes.items i.question i.number i.awaited i.candidates in
    let once : c.back.new.self ≡ backed c.args.weight c.args.ids.now s.candidates =
    c.back.ensures ∙ backed_same c.args.weight c.in_ok-named.named c.args.ids.now s.candidates
    (λ q. c.in_ok-named.ensures q ∙ ap (λ l. has_id l q) c.list.ensures) in
    ap (λ (l : List Node). (let t : Surveyed = record { nodes = s.nodes; question = s.question; number = s.number; awaited = l; candidates = c.back.new.self } in t))
    (still_in i.awaited c.remove.new.self c.args.node.now c.remove.ensures.updates.0 i.nodes.items)
    ∙ ap (λ (l : List Candidate). (let t : Surveyed = record { nodes = s.nodes; question = s.question; number = s.number; awaited = still_awaited s.awaited c.args.node.now; candidates = l } in t)) once
    ∙ ap (λ (v : Surveyed).
    (let t : Surveyed = record { nodes = v.nodes; question = v.question; number = v.number; awaited = still_awaited v.awaited c.args.node.now; candidates = backed c.args.weight c.args.ids.now v.candidates } in t))
    c.self.view_is
