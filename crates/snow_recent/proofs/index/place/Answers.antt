use Rattle.std.proofs.Common.{rules, arith, sym, ap, ◌∙◌}
use Rattle.std.proofs.lemmas.Fn.{always_returns_same}
use Rattle.std.specs.Ordering.{is_eq, is_gt}
use Rattle.snow_recent.specs.Kept.Index.{byte_cmp, id_of}
use Rattle.snow_recent.proofs.Filed.{searched}
use Rattle.snow_recent.proofs.Looked.{found_at, placed_at}
use Rattle.snow_recent.proofs.index.place.Goals as goal

pub returns-then-is_eq : goal.returns-then-is_eq
returns-then-is_eq g c =
    found_at (id_of g.T.Named.id c.args.entries.now.items c.args.first) c.args.order.now c.min-at.result c.args.id.now
    (ap is_eq (sym c.order_at-found.ensures) ∙ sym c.is_eq.ensures ∙ c.if-is_eq.true)

pub returns-then-is_behind : goal.returns-then-is_behind
returns-then-is_behind g c =
    placed_at (id_of g.T.Named.id c.args.entries.now.items c.args.first) c.args.order.now c.min-at.result c.args.id.now c.requires (omega arith)
    (ap is_gt (sym c.order_at-found.ensures) ∙ sym c.is_gt.ensures ∙ c.if-is_gt.true)
    (sym c.is_behind.ensures ∙ c.if-is_behind.true)

pub returns : goal.returns
returns g c =
    let facts = c.binary_search_by.ensures in
    let by_id = facts.position (λ n. byte_cmp (id_of g.T.Named.id c.args.entries.now.items c.args.first n) c.args.id.now)
    (always_returns_same _ _ _ (λ a r g called. search rules)) in
    searched (id_of g.T.Named.id c.args.entries.now.items c.args.first) c.args.order.now c.args.id.now c.binary_search_by.result c.requires facts.bound by_id
