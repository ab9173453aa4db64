use Rattle.std.proofs.Common.{◌≡◌, ◌-◌, ◌+◌, ◌∷◌, ◌++◌, [], suc, ap, ◌∙◌, arith, refl}
use Rattle.snow_getter.specs.Model.Chain.{chain, chain_within}
use Rattle.snow_getter.specs.Kept.Order.{as_served}
use Rattle.snow_getter.proofs.Chained.{bytes_of, ends_there, ends_before, taken_all, one_taken}
use Rattle.snow_getter.proofs.getter.Getter.chain.Goals as goal

-- nothing more is held
pub returns-in_default : goal.returns-in_default
returns-in_default c =
    let l = c.loop-count in
    let s = c.args.self.now in
    taken_all l.blocks (bytes_of (chain s c.args.id.now)) (chain_within (64 - l._count) l.room s l.next)
    (ends_there (64 - l._count) l.room s l.next c.in_default.ensures) l.invariant

-- the next block doesn't fit
pub returns-then-bytes-room : goal.returns-then-bytes-room
returns-then-bytes-room c =
    let l = c.loop-count in
    let s = c.args.self.now in
    taken_all l.blocks (bytes_of (chain s c.args.id.now)) (chain_within (64 - l._count) l.room s l.next)
    (ends_before (64 - l._count) l.room s l.next (as_served c.in-Some.block) c.in-Some.ensures
    (omega (arith, c.if-bytes-room.true))) l.invariant

-- it is taken
pub loop-count-preserved : goal.loop-count-preserved
loop-count-preserved c =
    let l = c.loop-count in
    let s = c.args.self.now in
    let left : 64 - l._count ≡ suc (64 - (l._count + 1)) = omega (arith, c.loop-count-test.true) in
    let bytes = c.in-Some.block.bytes.now in
    let pushed = c.in_ok-push.ensures.ok ∙ ap (λ b. l.blocks ++ b ∷ []) c.in_ok-from_slice.ensures in
    rw pushed (one_taken l.blocks (bytes_of (chain s c.args.id.now)) (64 - l._count) (64 - (l._count + 1)) l.room s l.next (as_served c.in-Some.block) bytes
    left refl c.in-Some.ensures (omega (arith, c.if-bytes-room.false)) l.invariant)

-- there are 64
pub returns : goal.returns
unfolding chain_within
returns c =
    let l = c.loop-count in
    let s = c.args.self.now in
    let none : 64 - l._count ≡ 0 = omega (arith, c.loop-count-test.false) in
    taken_all l.blocks (bytes_of (chain s c.args.id.now)) (chain_within (64 - l._count) l.room s l.next)
    (ap (λ n. chain_within n l.room s l.next) none) l.invariant
