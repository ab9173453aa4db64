use Rattle.std.proofs.Common.{◌≡◌, ◌+◌, suc, length, slice_get, Some, ap, ◌∙◌, arith}
use Rattle.snow_tree.specs.Kept.Held.{Held, with_load}
use Rattle.snow_topo.specs.Kept.Children.{Kept}
use Rattle.snow_topo.specs.Kept.Renewed.{renewed}
use Rattle.snow_topo.proofs.Climbs.{entry_at, some_of}
use Rattle.snow_topo.proofs.Anew.{renewed_to, renewed_next, renewed_length, renewed_all}
use Rattle.snow_topo.proofs.renewing.renew_all.Goals as goal

pub loop-at-preserved : goal.loop-at-preserved
loop-at-preserved g c =
    let polls = c.args.polls in
    let first = c.args.tree.now.pending in
    let at = c.loop-at.at in
    let found = entry_at (renewed_to polls at first) at (omega (arith, c.loop-at-test.true, c.len-at-end.ensures, renewed_length polls at first)) in
    let seen : slice_get c.loop-at.tree.pending at ≡ Some found.0 = ap (λ (t : Held Kept). slice_get t.pending at) c.loop-at.invariant ∙ found.1 in
    let next : suc at ≡ at + 1 = omega arith in
    some_of (slice_get c.loop-at.tree.pending at) _ found.0 seen c.renew_at.ensures
    ∙ ap (λ (t : Held Kept). with_load t at (renewed polls found.0.load)) c.loop-at.invariant
    ∙ ap (λ l. record c.args.tree.now { pending = l }) (renewed_next polls at first found.0 found.1 ∙ ap (λ n. renewed_to polls n first) next)

pub returns : goal.returns
returns g c =
    let polls = c.args.polls in
    let first = c.args.tree.now.pending in
    let all : c.loop-at.at ≡ length first = omega (arith, c.loop-at.auto.at-end, c.loop-at-test.false, c.len-at-end.ensures) in
    c.loop-at.invariant ∙ ap (λ l. record c.args.tree.now { pending = l }) (ap (λ n. renewed_to polls n first) all ∙ renewed_all polls first)
