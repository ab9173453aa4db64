use Rattle.std.proofs.Common.{◌≡◌, length, ◌-◌, ◌+◌, sym, ◌∙◌, arith, Err, subst}
use Rattle.snow_base.specs.Model.Votes.{IsPlaceOf}
use Rattle.snow_base.proofs.Adding.{place_behind}
use Rattle.snow_base.proofs.bag.place.Goals as goal

pub returns-in-Less : goal.returns-in-Less
returns-in-Less c =
    let votes = c.args.votes.now in
    let end : length votes - 1 + 1 ≡ length votes = omega arith in
    subst (λ at. IsPlaceOf votes c.args.id.now (Err at)) end
    (place_behind votes c.args.id.now (length votes - 1) c.index-votes-votes.result c.requires (omega arith) (sym c.bit_cmp.ensures ∙ c.in-Less.is) (λ k d p q. absurd (omega arith)))
