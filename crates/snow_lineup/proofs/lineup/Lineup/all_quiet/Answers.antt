use Rattle.std.proofs.Common.{◌≡◌, false, List, All, map, subst}
use Rattle.snow_lineup.specs.declared.marks.Mark.{Mark}
use Rattle.snow_lineup.specs.declared.marks.Mark.TheVariants.{New, Ripe}
use Rattle.snow_lineup.specs.Kept.Marks.{has}
use Rattle.snow_lineup.specs.Kept.Index.{seat_of}
use Rattle.snow_lineup.proofs.Windowed.{no_mark}
use Rattle.snow_lineup.proofs.lineup.Lineup.all_quiet.Goals as goal

pub returns-clause-new : goal.returns-clause-new
returns-clause-new g c told =
    subst (λ (l : List (_ × Mark)). All (λ s. has New s ≡ false) l) c.self.view_is
    (no_mark New (map seat_of c.self.inside.slots.items) c.self.inside.windows.fresh c.self.invariant.1.fresh (c.are_empty.ensures.fresh told))

pub returns-clause-ripe : goal.returns-clause-ripe
returns-clause-ripe g c told =
    subst (λ (l : List (_ × Mark)). All (λ s. has Ripe s ≡ false) l) c.self.view_is
    (no_mark Ripe (map seat_of c.self.inside.slots.items) c.self.inside.windows.ripe c.self.invariant.1.ripe (c.are_empty.ensures.ripe told))
