use Rattle.std.proofs.Common.{rules}
use Rattle.std.specs.Option.{option_map}
use Rattle.snow_say.proofs.Lined.{found_first, found_second, found_third, found_none}
use Rattle.snow_say.proofs.kind.Kind.of_words.Goals as goal

pub returns-in-Some : goal.returns-in-Some
returns-in-Some c = found_first c.args.name.now (option_map (λ k. k.now) c.asking.result) c.in-Some.kinds.now c.asking.ensures (search rules)

pub returns-in-Some-telling : goal.returns-in-Some-telling
returns-in-Some-telling c =
    found_second c.args.name.now (option_map (λ k. k.now) c.asking.result) (option_map (λ k. k.now) c.telling.result) c.in-Some-telling.kinds.now c.asking.ensures (search rules) c.telling.ensures (search rules)

pub returns-in-Some-answering : goal.returns-in-Some-answering
returns-in-Some-answering c =
    found_third c.args.name.now (option_map (λ k. k.now) c.asking.result) (option_map (λ k. k.now) c.telling.result) (option_map (λ k. k.now) c.answering.result) c.in-Some-answering.kinds.now
    c.asking.ensures (search rules) c.telling.ensures (search rules) c.answering.ensures (search rules)

pub returns-in-None : goal.returns-in-None
returns-in-None c =
    found_none c.args.name.now (option_map (λ k. k.now) c.asking.result) (option_map (λ k. k.now) c.telling.result) (option_map (λ k. k.now) c.answering.result)
    c.asking.ensures (search rules) c.telling.ensures (search rules) c.answering.ensures (search rules)
