use Rattle.std.proofs.Common.{sym, ap, ◌∙◌}
use Rattle.snow_say.specs.Clauses.Forms.{form_or}
use Rattle.snow_say.proofs.Formed.{formed}
use Rattle.snow_say.proofs.form.Form.of.Goals as goal

pub returns : goal.returns
returns c = λ names words.
    formed c.args.word.now c.first.result c.second.result c.third.result c.first.ensures c.second.ensures c.third.ensures names words
    ∙ ap (form_or names c.first.result words) (sym (c.or.ensures names words _))
    ∙ sym (c.or-2.ensures names words _)
