use Rattle.std.proofs.Common.{map, ap}
use Rattle.snow_recent.specs.Kept.Index.{head_of, place_of}
use Rattle.snow_recent.proofs.Doubled.{index_kept}
use Rattle.snow_recent.proofs.recent.Recent.make_seats.Goals as goal

pub invariant_of-self : goal.invariant_of-self
invariant_of-self g c =
    let inside = c.self.inside in
    let first = inside.first in
    record {
      some = c.self.invariant.some;
      fits = c.self.invariant.fits;
      few = c.self.invariant.few;
      room = c.self.invariant.room;
      small = c.self.invariant.small;
      index = index_kept g.T.Named.id inside.entries.items (head_of first inside.heads) (head_of first c.make_room.new.self) (map (place_of first) inside.table)
          (λ id. ap (place_of first) (c.make_room.ensures id)) c.self.invariant.index;
    }
