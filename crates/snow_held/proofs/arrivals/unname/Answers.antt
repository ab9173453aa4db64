use Rattle.std.proofs.Common.{None, sym, ◌∙◌}
use Rattle.std.specs.Cmp.Lexicographic.{slice_cmp}
use Rattle.std.specs.Ordering.{nat_cmp}
use Rattle.std.proofs.lemmas.Map.Lookups.{exact_bytes}
use Rattle.snow_held.specs.Kept.Arrivals.{has_number_in}
use Rattle.snow_held.proofs.Numbered.{nested_same}
use Rattle.snow_held.proofs.arrivals.unname.Goals as goal

pub returns-then-unname_number : goal.returns-then-unname_number
returns-then-unname_number c q a k found named =
    nested_same (slice_cmp nat_cmp) exact_bytes has_number_in c.unname_number.new.blocks c.remove.new.self c.args.id.now None c.remove.ensures.updates.0
    (λ j. sym (c.if-unname_number.ensures.none j)) q a
    ∙ c.unname_number.ensures.left q a k found named
