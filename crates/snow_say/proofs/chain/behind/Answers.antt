use Rattle.std.proofs.Common.{rules, ◌≡◌, []}
use Rattle.snow_say.proofs.Chained.{behind_nothing}
use Rattle.snow_say.proofs.chain.behind.Goals as goal

pub returns-then-is_empty : goal.returns-then-is_empty
returns-then-is_empty c = let none : c.args.words.now ≡ [] = search rules in behind_nothing c.args.names.now c.args.out.now c.args.words.now none
