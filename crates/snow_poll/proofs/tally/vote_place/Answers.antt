-- A binary search in bit order finds the place.
use Rattle.std.proofs.Common.{rules}
use Rattle.std.proofs.lemmas.Fn.{always_returns_same}
use Rattle.snow_base.specs.Model.Identifier.{bit_cmp}
use Rattle.snow_base.proofs.Adding.{searched}
use Rattle.snow_poll.proofs.tally.vote_place.Goals as goal

pub returns : goal.returns
returns c =
    let facts = c.binary_search_by.ensures in
    let by_id = facts.position (λ v. bit_cmp v.id c.args.id.now) (always_returns_same _ _ _ (λ a r g called. search rules)) in
    searched c.args.votes.now c.args.id.now c.binary_search_by.result c.requires facts.bound by_id
