use Rattle.std.proofs.Common.{◌≡◌, ℕ, List, ◌%◌, ◌^◌, ◌<◌, ◌≤◌, length, get_or, All, IsPermutation, sym, ap, subst, ◌∙◌, arith}
use Rattle.std.proofs.lemmas.List.{get_or_default}
use Rattle.snow_climb.specs.declared.ladder.Head.{Head}
use Rattle.snow_climb.specs.declared.ladder.Link.{Link}
use Rattle.snow_climb.specs.Kept.Climbing.{climber_total}
use Rattle.snow_climb.specs.Kept.Ladder.{Rungs, no_head, climbers_of, under, up_from, latest, group, chain, IsHung}
use Rattle.snow_climb.proofs.Chains.{latest_within, chain_latest}
use Rattle.snow_climb.proofs.Hung.{under_twice, taken_off, rung_empty, written}
use Rattle.snow_climb.proofs.ladder.Ladder.take.Goals as goal

pub invariant_of-self : goal.invariant_of-self
invariant_of-self c =
    let a = c.self.inside in
    let rung = c.args.rung in
    let lower : rung < a.low = rw (← c.self.view_is) at c.requires.below in
    let all : All (λ x. x.place ≤ rung) (under a.low (climbers_of a.links.items)) = subst (λ (s : Rungs). All (λ x. x.place ≤ rung) s.climbers) (sym c.self.view_is) c.requires.highest in
    let head : c.index-head.result.now ≡ get_or a.heads.items rung no_head = c.index-head.ensures ∙ get_or_default a.heads.items rung c.index-head.result.now no_head (omega (arith, lower, c.self.invariant.within)) in
    let there : c.index-head.result.now.last ≤ length a.links.items = omega (arith, ap (λ (x : Head). x.last) head, c.self.invariant.last rung lower, latest_within a.links.items (length a.links.items) rung) in
    let long : length c.unmark.new.words ≡ length a.words.items = c.unmark.ensures.len ∙ ap length c.deref_mut.ensures.value in
    let hung = subst (λ w. IsHung a.links.items a.heads.items w a.low a.high a.taken) (sym c.deref_mut.ensures.value) c.self.invariant in
    rw (written a.words.len c.unmark.new.words _ (omega (arith, a.words.ok.0, long)))
    (rung_empty a.links.items a.heads.items c.deref_mut.result.now c.unmark.new.words a.low a.high rung a.taken c.index-head.result.now.last hung lower there all c.unmark.ensures.others c.unmark.ensures.len)

pub returns-clause-climbers : goal.returns-clause-climbers
returns-clause-climbers c =
    let a = c.self.inside in
    let lower : c.args.rung < a.low = rw (← c.self.view_is) at c.requires.below in
    sym (under_twice c.args.rung a.low (climbers_of a.links.items) lower) ∙ ap (λ (s : Rungs). under c.args.rung s.climbers) c.self.view_is

-- who stood on the rung
all_of : (links : List Link) (heads : List Head) (rung : ℕ) (x : Head) → x ≡ get_or heads rung no_head → (get_or heads rung no_head).last ≡ latest links (length links) rung → chain links x.last ≡ group links (length links) rung
all_of links heads rung x is last = ap (λ (y : Head). chain links y.last) is ∙ ap (chain links) last ∙ chain_latest links (length links) rung

pub returns-clause-came : goal.returns-clause-came
returns-clause-came c =
    let a = c.self.inside in
    let rung = c.args.rung in
    let lower : rung < a.low = rw (← c.self.view_is) at c.requires.below in
    let all : All (λ x. x.place ≤ rung) (under a.low (climbers_of a.links.items)) = subst (λ (s : Rungs). All (λ x. x.place ≤ rung) s.climbers) (sym c.self.view_is) c.requires.highest in
    let head : c.index-head.result.now ≡ get_or a.heads.items rung no_head = c.index-head.ensures ∙ get_or_default a.heads.items rung c.index-head.result.now no_head (omega (arith, lower, c.self.invariant.within)) in
    let came = all_of a.links.items a.heads.items rung c.index-head.result.now head (c.self.invariant.last rung lower) in
    subst (λ l. IsPermutation (up_from rung l) (chain a.links.items c.index-head.result.now.last)) (ap (λ (s : Rungs). s.climbers) c.self.view_is)
    (subst (IsPermutation (up_from rung (under a.low (climbers_of a.links.items)))) (sym came) (taken_off rung a.low a.links.items lower all))

pub returns-clause-total : goal.returns-clause-total
returns-clause-total c =
    let a = c.self.inside in
    let rung = c.args.rung in
    let lower : rung < a.low = rw (← c.self.view_is) at c.requires.below in
    let head : c.index-head.result.now ≡ get_or a.heads.items rung no_head = c.index-head.ensures ∙ get_or_default a.heads.items rung c.index-head.result.now no_head (omega (arith, lower, c.self.invariant.within)) in
    ap (λ (x : Head). x.count) head ∙ c.self.invariant.counted rung lower
    ∙ ap (λ l. climber_total l % 2 ^ 32) (sym (all_of a.links.items a.heads.items rung c.index-head.result.now head (c.self.invariant.last rung lower)))
