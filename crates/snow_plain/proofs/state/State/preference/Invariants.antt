use Rattle.std.proofs.Common.{◌≡◌, drop}
use Rattle.snow_board.specs.Model.Preference.{path_from, end_of, preferred}
use Rattle.snow_plain.proofs.state.State.preference.Given as goal

abbrev pub invariant-loop-entry : goal.invariant-loop-entry
invariant-loop-entry g l =
    end_of l.at (path_from g.R.Rule.answer l.at l.counters (drop l.entry-index l.entry-items)) ≡ preferred g.R.Rule.answer l.self
