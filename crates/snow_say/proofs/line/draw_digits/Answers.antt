use Rattle.std.proofs.Common.{rules, arith, ◌≡◌, ◌+◌, ◌∷◌, drop, take, reverse}
use Rattle.std.proofs.lemmas.Grind.{common_steps}
use Rattle.snow_text_model.specs.Model.Words.{parts}
use Rattle.snow_say.proofs.Lined.{draw_two}
use Rattle.snow_say.proofs.line.draw_digits.Goals as goal

pub returns-in-Some : goal.returns-in-Some
returns-in-Some c =
    let at = c.in-Some.at in
    let word = c.args.word.now in
    let cut : reverse (parts 42 word) ≡ drop (at + 1) word ∷ reverse (parts 42 (take at word)) = search rules in
    grind (arith, common_steps, draw_two c.args.names.now word (take at word) (drop (at + 1) word) cut)
