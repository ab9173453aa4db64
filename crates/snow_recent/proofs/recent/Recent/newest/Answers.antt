use Rattle.std.proofs.Common.{◌≡◌, ◌-◌, None, length, arith, sym, ap, ◌∙◌}
use Rattle.std.specs.List.{last_or, slice_get}
use Rattle.snow_recent.proofs.Newest.{last_there}
use Rattle.snow_recent.proofs.recent.Recent.newest.Goals as goal

pub returns : goal.returns
returns g c =
    let entries = c.self.inside.entries.items in
    let at : c.saturating_sub.result ≡ length entries - 1 = omega (arith, c.saturating_sub.ensures, c.len.ensures, c.self.inside.entries.ok.0) in
    c.entry_at.ensures ∙ ap (slice_get entries) at ∙ sym (last_there entries) ∙ ap (last_or None) c.self.view_is
