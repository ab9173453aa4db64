-- The fields of a Start that stand where they came.
use Rattle.std.specs.Prelude.{ℕ, false, List, [], map, take, drop, Ok}
use Rattle.byteorder.specs.Endian.{big_number}
use Rattle.snow_wire.specs.declared.event.Event.TheVariants as event
use Rattle.snow_wire.specs.declared.event.Event.{Event}
use Rattle.snow_wire.specs.declared.event.Start.{Start}
use Rattle.snow_wire.specs.declared.opening.StartFields.{StartFields}
use Rattle.snow_wire.specs.Model.Reading.{Read}

-- a node and its weight, in 28 bytes
abbrev pub weighed_in : List ℕ → List ℕ × ℕ
weighed_in bytes = (take 20 bytes, big_number 8 (drop 20 bytes))

-- the Start of these fields
abbrev pub as_start : StartFields → Start
as_start o = record {
  k = o.k;
  alpha_preference = o.alpha_preference;
  alpha_confidence = o.alpha_confidence;
  beta = o.beta;
  repolls = o.repolls;
  boot = o.boot;
  last = o.last.now;
  height = o.height;
  state = map (big_number 8) o.state.now;
  nodes = map weighed_in o.nodes.now;
}

-- the Start that was read; where none was, one of nothing
abbrev pub start_in : Read Event → Start
start_in (Ok (event.Start start, rest)) = start
start_in other = record { k = 0; alpha_preference = 0; alpha_confidence = 0; beta = 0; repolls = 0; boot = false; last = []; height = 0; state = []; nodes = [] }
