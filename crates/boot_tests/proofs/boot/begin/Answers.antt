-- The chain holds the state of the last accepted block alone.
use Rattle.std.proofs.Common.{[], sym, ap, subst}
use Rattle.snow_chain.specs.Model.Chain.{Held}
use Rattle.snow_chain.specs.Kept.Alone.{IsAlone}
use Rattle.snow_boot.proofs.Alone.{begun_alone}
use Rattle.boot_tests.proofs.boot.begin.Goals as goal

pub returns : goal.returns
returns c =
    let held : Held = c.in_ok-chain.chain in
    c.in_ok-boot.ensures.goes_on held (ap (λ (h : Held). h.last) c.in_ok-chain.ensures.held) (subst IsAlone (sym c.in_ok-chain.ensures.held) (begun_alone c.args.last []).1)
