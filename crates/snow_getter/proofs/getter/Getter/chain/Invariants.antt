use Rattle.std.proofs.Common.{◌≡◌, ◌++◌, ◌-◌, map}
use Rattle.snow_getter.specs.Model.Chain.{chain, chain_within}
use Rattle.snow_getter.proofs.getter.Getter.chain.Given as goal

-- what was taken, and then the chain from the next block on, are the chain
abbrev pub invariant-loop-count : goal.invariant-loop-count
invariant-loop-count l =
    l.blocks ++ map (λ b. b.bytes) (chain_within (64 - l._count) l.room l.self l.next) ≡ map (λ b. b.bytes) (chain l.self l.id)
