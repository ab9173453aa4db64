-- An event whose bytes stand where they came.
use Rattle.std.specs.Prelude.{map, Result, Ok, Err}
use Rattle.byteorder.specs.Endian.{big_number}
use Rattle.snow_wire.specs.declared.event.Event.{Event}
use Rattle.snow_wire.specs.declared.event.Event.TheVariants as event
use Rattle.snow_wire.specs.declared.skip.Fault.{Fault}
use Rattle.snow_wire.specs.declared.view.View.{View}
use Rattle.snow_wire.specs.declared.view.View.TheVariants as view
use Rattle.snow_wire.specs.Clauses.Spelled.{weighed_in}

-- the event that it is
abbrev pub as_event : View → Event
as_event (view.Start o) = event.Start o
as_event (view.Block b) = event.Block b.node.now b.request b.bytes.now
as_event (view.Poll ids) = event.Poll ids.now
as_event (view.Words words) = event.Words (map (big_number 8) words.now)
as_event (view.Chits n) = event.Chits n.node.now n.request n.id.now
as_event (view.Timeout s) = event.Timeout s.node.now s.request
as_event (view.Frontier n) = event.Frontier n.node.now n.request n.id.now
as_event (view.Accepted l) = event.Accepted l.node.now l.request l.ids.now
as_event (view.Ancestors p) = event.Ancestors p.node.now p.request p.blocks
as_event (view.Stored bytes) = event.Stored bytes.now
as_event (view.Validators nodes) = event.Validators (map weighed_in nodes.now)
as_event (view.AskQuery s) = event.AskQuery s.node.now s.request
as_event (view.AskFrontier s) = event.AskFrontier s.node.now s.request
as_event (view.AskAccepted l) = event.AskAccepted l.node.now l.request l.ids.now
as_event (view.AskAncestors n) = event.AskAncestors n.node.now n.request n.id.now
as_event (view.AskBlock n) = event.AskBlock n.node.now n.request n.id.now
as_event (view.Line text) = event.Line text.now

-- the event that was seen, or the fault
abbrev pub seen : Result View Fault → Result Event Fault
seen (Ok v) = Ok (as_event v)
seen (Err f) = Err f
