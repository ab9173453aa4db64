use Rattle.std.proofs.Common.{◌≡◌, drop, bytes_eq}
use Rattle.std.specs.List.{list_any}
use Rattle.snow_board.specs.Model.Preference.{path_from, is_preferred}
use Rattle.snow_plain.proofs.state.State.is_preferred.Given as goal

abbrev pub invariant-loop-entry : goal.invariant-loop-entry
invariant-loop-entry g l =
    list_any (λ other. bytes_eq other l.id) (path_from g.R.Rule.answer l.at l.counters (drop l.entry-index l.entry-items)) ≡ is_preferred g.R.Rule.answer l.self l.id
