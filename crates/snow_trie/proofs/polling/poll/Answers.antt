use Rattle.std.proofs.Common.{◌≡◌, arith, subst, sym}
use Rattle.snow_trie.specs.Kept.Tree.{tree_of}
use Rattle.snow_trie.specs.Kept.Shape.{IsPlaced}
use Rattle.snow_trie.specs.Kept.Polled.{IsPolled}
use Rattle.snow_trie.proofs.Visited.{ended, placed_within}
use Rattle.snow_trie.proofs.polling.poll.Goals as goal

pub returns-then-from-eq256-clause-tree : goal.returns-then-from-eq256-clause-tree
returns-then-from-eq256-clause-tree g c =
    let end : c.args.from ≡ 256 = c.if-from-eq256.true in
    let t = tree_of c.args.root.now in
    subst (λ k. IsPolled c.args.params.now c.args.votes.now c.args.before k t t) (sym end)
    (ended c.args.params.now c.args.votes.now c.args.before t (subst (λ k. IsPlaced k t) end c.requires.placed))

pub returns-clause-least : goal.returns-clause-least
returns-clause-least g c =
    let within = placed_within c.args.from (tree_of c.args.root.now) c.requires.placed in
    c.visit.ensures.least (omega (arith, within, c.if-from-eq256.false))
