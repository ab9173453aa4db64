use Rattle.std.proofs.Common.{◌≡◌, ◌-◌, ◌+◌, ◌<◌, length, drop, ◌∙◌, arith}
use Rattle.snow_board.specs.Model.Board.{blocks_of}
use Rattle.snow_plain.proofs.Placed.{no_place, none_behind}
use Rattle.snow_plain.proofs.places.place_all.Goals as goal

pub place-requires-clause-new : goal.place-requires-clause-new
place-requires-clause-new c =
    let pending = c.args.pending.now in
    let m = c.loop-at.at - 1 in
    let d = c.index-pending-at.result in
    let next : c.loop-at.at ≡ m + 1 = omega (arith, c.loop-at-test.true) in
    let h : m < length pending = omega (arith, c.loop-at-test.true, c.loop-at.auto.at) in
    let places = rw next at c.loop-at.invariant.places in
    places _ ∙ no_place (m + 1) (blocks_of (drop (m + 1) pending)) _ (none_behind c.requires.grown.0 pending m d c.requires.grown.1 h)
