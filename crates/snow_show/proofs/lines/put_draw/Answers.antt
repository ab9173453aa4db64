use Rattle.std.proofs.Common.{rules, arith, ◌≡◌, ◌+◌, [], ◌∷◌, drop, take, reverse, sym}
use Rattle.std.proofs.lemmas.Grind.{common_steps}
use Rattle.snow_text_model.specs.Model.Words.{parts}
use Rattle.snow_show.proofs.Brevity.{draw_none, draw_some}
use Rattle.snow_show.proofs.Putting.{puts_as}
use Rattle.snow_show.proofs.lines.put_draw.Goals as goal

pub returns-in-None : goal.returns-in-None
returns-in-None c =
    let word = c.args.word.now in
    let whole : reverse (parts 42 word) ≡ word ∷ [] = search rules in
    puts_as c.put.result _ _ word _ (sym (draw_none word whole)) c.put.ensures

pub returns-in-Some : goal.returns-in-Some
returns-in-Some c =
    let at = c.in-Some.at in
    let word = c.args.word.now in
    let cut : reverse (parts 42 word) ≡ drop (at + 1) word ∷ reverse (parts 42 (take at word)) = search rules in
    grind (arith, common_steps, draw_some word (take at word) (drop (at + 1) word) cut)
