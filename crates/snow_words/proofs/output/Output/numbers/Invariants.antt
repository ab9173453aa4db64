use Rattle.std.proofs.Common.{◌≡◌, ◌++◌, flat_map, replicate}
use Rattle.snow_wire.specs.Model.Spelling.{number}
use Rattle.snow_words.proofs.output.Output.numbers.Given as goal

abbrev pub invariant-loop-again : goal.invariant-loop-again
invariant-loop-again l = l.self ≡ l.initial.self ++ flat_map (λ x. x) (replicate l.again (number 8 l.n))
