use Rattle.std.proofs.Common.{◌≡◌, ◌+◌, arith, subst}
use Rattle.snow_trie.specs.Kept.Polled.{IsNarrowed}
use Rattle.snow_trie.proofs.Narrowed.{all_votes, narrowed_more, few_more, fewer_votes}
use Rattle.snow_trie.proofs.narrowing.narrowed.Goals as goal

pub loop-bit-init : goal.loop-bit-init
loop-bit-init c = (all_votes c.args.leader.now c.args.votes.now c.requires.order, c.requires.most)

pub loop-bit-preserved : goal.loop-bit-preserved
loop-bit-preserved c =
    let next = c.with_bit-rest.ensures in
    let more =
    narrowed_more c.args.leader.now c.loop-bit.bit c.args.votes.now c.loop-bit.rest.now c.with_bit-rest.result.now c.loop-bit.invariant.0
    next.order next.agree (rw c.bit.ensures at next.have) (rw c.bit.ensures at next.counts) next.among
    in
    (more, omega (arith, c.requires.most, fewer_votes c.args.leader.now (c.loop-bit.bit + 1) c.args.votes.now c.with_bit-rest.result.now more))

pub returns-then-count-alpha_preference-clause-few : goal.returns-then-count-alpha_preference-clause-few
returns-then-count-alpha_preference-clause-few c =
    λ front. few_more c.args.leader.now c.loop-bit.bit c.args.to c.args.votes.now c.loop-bit.rest.now (omega arith) c.loop-bit.invariant.0 front

pub returns-clause-narrowed : goal.returns-clause-narrowed
returns-clause-narrowed c =
    λ enough.
    let end : c.loop-bit.bit ≡ c.args.to = omega arith in
    subst (λ k. IsNarrowed c.args.leader.now k c.args.votes.now c.loop-bit.rest.now) end c.loop-bit.invariant.0

pub returns-clause-few : goal.returns-clause-few
returns-clause-few c =
    λ front. few_more c.args.leader.now c.loop-bit.bit c.args.to c.args.votes.now c.loop-bit.rest.now (omega arith) c.loop-bit.invariant.0 front
