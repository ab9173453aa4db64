-- The height has its place.
use Rattle.snow_store.proofs.Indexed.{places_more}
use Rattle.snow_store.proofs.index.note_place.Goals as goal

pub returns-clause-noted : goal.returns-clause-noted
returns-clause-noted c kept b at len has = places_more c.args.places.now c.insert.new.self kept b c.args.height c.args.place c.in_ok-insert.ensures.updates.0 at len has
