-- The numbers of replies that are held stay.
use Rattle.std.proofs.Common.{◌≡◌, true, ap, ◌∙◌}
use Rattle.snow_held.specs.Kept.Arrivals.{is_among}
use Rattle.snow_held.proofs.Listed.{held_apart, among_held}
use Rattle.snow_held.proofs.named.Named.leave.Goals as goal
use Rattle.snow_held.proofs.named.Named.leave.Goals.{then-is_stale, else-is_stale}

pub returns-clause-kept : goal.returns-clause-kept
returns-clause-kept c a k found before =
    let es = c.args.backlog.now in
    let numbers = c.self.inside.numbers.items in
    let still : is_among numbers a ≡ true =
    ap (λ l. is_among l a) c.self.view_is ∙ c.drop_last.ensures a (held_apart es c.args.arrival a k c.requires found) ∙ before in
    elim c.if-is_stale.branch [
      | then-is_stale w ↦ ap (λ l. is_among l a) w.self-is ∙ among_held es numbers w.tidy.new.self a k w.tidy.ensures found still
      | else-is_stale w ↦ ap (λ l. is_among l a) w.self-is ∙ still
    ]
