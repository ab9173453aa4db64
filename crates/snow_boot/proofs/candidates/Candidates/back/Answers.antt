-- One identifier after another, none of which was looked at before.
use Rattle.std.proofs.Common.{◌≡◌, ◌+◌, ◌^◌, ◌≤◌, suc, false, take, drop, bytes_eq, sym, ap, subst, ◌∙◌, arith}
use Rattle.std.proofs.lemmas.List.{take_all}
use Rattle.snow_store.proofs.Cases.{next_of}
use Rattle.snow_store.specs.Model.Paths.{has_id}
use Rattle.snow_boot.specs.Model.Electing.{backed}
use Rattle.snow_boot.specs.Kept.Surveying.{weight_of}
use Rattle.snow_boot.proofs.Elected.{none_backed, backs_within, new_at, backed_on}
use Rattle.snow_boot.proofs.candidates.Candidates.back.Goals as goal

pub loop-id-init : goal.loop-id-init
loop-id-init c = sym (none_backed c.args.weight c.args.self.now)

pub back_one-requires : goal.back_one-requires
back_one-requires c =
    let ks = c.as_slice-id-items.result.now in
    let i = c.loop-id.id-index in
    let k = c.id-item.result in
    let new : has_id (take i ks) k ≡ false = new_at ks i k (drop (i + 1) ks) c.as_slice-id-items.ensures.unique (next_of ks i k c.loop-id-test.true c.id-item.is) in
    let most = backs_within (2 ^ 63) (take i ks) k c.args.weight c.args.self.now new c.requires.within in
    let now = ap (λ l. weight_of l k) c.loop-id.invariant in
    omega (arith, now, most, c.requires.small)

pub loop-id-preserved : goal.loop-id-preserved
loop-id-preserved c =
    let ks = c.as_slice-id-items.result.now in
    let i = c.loop-id.id-index in
    let next : suc i ≡ i + 1 = omega arith in
    backed_on ks i c.id-item.result c.args.weight c.args.self.now c.loop-id.self c.back_one.new.self c.as_slice-id-items.ensures.unique c.loop-id-test.true c.id-item.is c.loop-id.invariant c.back_one.ensures
    ∙ ap (λ n. backed c.args.weight (take n ks) c.args.self.now) next
