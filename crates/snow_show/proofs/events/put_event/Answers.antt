-- A Start has the words of its fields.
use Rattle.std.proofs.Common.{subst}
use Rattle.snow_wire.specs.declared.event.Start.{Start}
use Rattle.snow_text_model.specs.Model.Shown.{event_words, line, start_words}
use Rattle.snow_show.specs.Clauses.Putting.{Puts}
use Rattle.snow_show.proofs.events.put_event.Goals as goal

pub returns-in-Start : goal.returns-in-Start
unfolding event_words
returns-in-Start c =
    rw c.in-Start.is (subst (λ (s : Start). Puts c.put_start.result c.args.text.now.items c.put_start.new.text.items (line (start_words s))) c.fields.ensures c.put_start.ensures)
