-- The span before the place ends one higher.
use Rattle.std.proofs.Common.{◌≡◌, ◌-◌, suc, arith}
use Rattle.snow_interval.proofs.Growing.{has_last, ended_at}
use Rattle.snow_interval.proofs.spanning.end_at.Goals as goal

pub index_mut-requires : goal.index_mut-requires
index_mut-requires c = omega (arith, c.args.spans.now.ok.0, c.requires.within, has_last c.args.spans.now.items c.args.place c.args.height c.requires.below)

pub returns : goal.returns
returns c =
    let next : c.args.place ≡ suc (c.args.place - 1) = omega (arith, has_last c.args.spans.now.items c.args.place c.args.height c.requires.below) in
    ended_at c.args.spans.now.items c.args.place (c.args.place - 1) c.args.height c.index_mut.result.now next c.requires.within c.index_mut.ensures.value c.requires.apart
    c.requires.below c.requires.above
