use Rattle.std.proofs.Common.{rules, ◌≡◌, Some, None, find, subst}
use Rattle.std.specs.Str.{bytes_eq}
use Rattle.snow_text_model.specs.Model.Words.{Word}
use Rattle.snow_text_model.specs.Model.Events.{forms, say}
use Rattle.snow_words.specs.Clauses.Cutting.{first}
use Rattle.snow_say.specs.Clauses.Forms.{form_or}
use Rattle.snow_say.proofs.Formed.{first_is}
use Rattle.snow_say.proofs.form.Form.at.Goals as goal

pub returns-in-Some : goal.returns-in-Some
returns-in-Some c = λ names more.
    let e : Some c.in-Some.word.now ≡ first c.args.words.now = search rules in
    subst (λ (w : Word). say (find (λ form. bytes_eq form.0 w) (forms names)) more ≡ form_or names c.of.result more (say None more)) (first_is c.args.words.now c.in-Some.word.now e) (c.of.ensures names more)
