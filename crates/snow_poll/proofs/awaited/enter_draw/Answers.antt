-- The entry is chained before the last one of its class.
use Rattle.std.proofs.Common.{◌≡◌, ◌+◌, false, List, [], ◌∷◌, length, map, refl, ap, ◌∙◌, arith}
use Rattle.std.proofs.lemmas.List.{get_or_read, map-append}
use Rattle.snow_poll.specs.Kept.Awaited.{draw_of, class_of}
use Rattle.snow_poll.specs.declared.awaited.Wait.{Wait}
use Rattle.snow_poll.proofs.Waiting.{within_classes, waits_more}
use Rattle.snow_poll.proofs.awaited.enter_draw.Goals as goal

pub returns-clause-chained : goal.returns-clause-chained
returns-clause-chained c =
    let waits = c.args.waits.now in
    let lasts = c.args.lasts.now.items in
    let draw = c.args.draw.now in
    let w : Wait = record { node = draw.node; count = draw.count; before = c.index-before.result.now; class = class_of c.args.mask draw.node; rank = c.rank_after-rank.result; replied = false } in
    let read = get_or_read lasts (class_of c.args.mask draw.node) c.index-before.result.now
    (within_classes c.args.mask waits.items lasts draw.node c.requires.chained) (rw c.class-class.ensures at c.index-before.ensures) 0 in
    let long : c.len.result ≡ length waits.items + 1 = omega (arith, c.len.ensures, c.push_reserved.ensures.len, waits.ok.0) in
    rw (c.push_reserved.ensures.items, long, c.class-class.ensures) (waits_more c.args.mask waits.items lasts w c.requires.chained read refl)

pub returns-clause-drawn : goal.returns-clause-drawn
returns-clause-drawn c =
    let waits = c.args.waits.now.items in
    let w : Wait = record { node = c.args.draw.now.node; count = c.args.draw.now.count; before = c.index-before.result.now; class = c.class-class.result; rank = c.rank_after-rank.result; replied = false } in
    ap (λ (l : List Wait). map draw_of l) c.push_reserved.ensures.items ∙ map-append draw_of waits (w ∷ [])
