use Rattle.std.proofs.Common.{◌≡◌, ◌-◌, ◌+◌, sym, ◌∙◌, arith, Err, subst}
use Rattle.snow_base.specs.Model.Votes.{IsPlaceOf}
use Rattle.snow_base.proofs.Adding.{AllBehind, place_behind, place_at, place_first, behind_more}
use Rattle.snow_base.proofs.bag.place_among_few.Goals as goal

pub loop-at-preserved : goal.loop-at-preserved
loop-at-preserved c =
    let votes = c.args.votes.now in
    let at : c.loop-at.at ≡ c.loop-at.at - 1 + 1 = omega arith in
    record {
      within = omega (arith, c.loop-at.invariant.within);
      behind =
          behind_more votes c.args.id.now (c.loop-at.at - 1) c.index-votes-at.result (omega (arith, c.loop-at.invariant.within)) (sym c.bit_cmp.ensures ∙ c.in-Greater.is)
          (subst (AllBehind votes c.args.id.now) at c.loop-at.invariant.behind);
    }

pub returns-in-Less : goal.returns-in-Less
returns-in-Less c =
    let votes = c.args.votes.now in
    let at : c.loop-at.at - 1 + 1 ≡ c.loop-at.at = omega arith in
    subst (λ i. IsPlaceOf votes c.args.id.now (Err i)) at
    (place_behind votes c.args.id.now (c.loop-at.at - 1) c.index-votes-at.result c.requires (omega (arith, c.loop-at.invariant.within)) (sym c.bit_cmp.ensures ∙ c.in-Less.is)
    (subst (AllBehind votes c.args.id.now) (sym at) c.loop-at.invariant.behind))

pub returns-in-Equal : goal.returns-in-Equal
returns-in-Equal c =
    place_at c.args.votes.now c.args.id.now (c.loop-at.at - 1) c.index-votes-at.result (omega (arith, c.loop-at.invariant.within)) (sym c.bit_cmp.ensures ∙ c.in-Equal.is)

pub returns : goal.returns
returns c =
    let none : c.loop-at.at ≡ 0 = omega arith in
    place_first c.args.votes.now c.args.id.now (subst (AllBehind c.args.votes.now c.args.id.now) none c.loop-at.invariant.behind)
