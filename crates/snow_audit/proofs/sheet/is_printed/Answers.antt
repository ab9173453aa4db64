-- There is a last byte, or none.
use Rattle.std.proofs.Common.{[], ◌∷◌, ◌++◌, bytes_eq, sym, ap, ◌∙◌}
use Rattle.std.proofs.lemmas.List.{nil_from_length}
use Rattle.snow_audit.proofs.Printed.{none_right}
use Rattle.snow_audit.proofs.sheet.is_printed.Goals as goal

pub returns-in-Some : goal.returns-in-Some
returns-in-Some c =
    c.is_ended.ensures ∙ ap (bytes_eq (c.args.recorded.now ++ 10 ∷ [])) (sym c.in-Some.ensures.cases.0)

pub returns-in-None : goal.returns-in-None
returns-in-None c = sym (ap (bytes_eq (c.args.recorded.now ++ 10 ∷ [])) (nil_from_length c.args.bytes.now c.in-None.ensures.cases) ∙ none_right c.args.recorded.now 10)
