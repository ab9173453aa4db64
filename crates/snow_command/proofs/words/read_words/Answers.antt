use Rattle.std.proofs.Common.{◌≡◌, rules, Some}
use Rattle.std.specs.Option.{option_and_then}
use Rattle.snow_command.specs.Model.Words.{items}
use Rattle.snow_command.specs.Kept.Request.{blank, texts, with_items}
use Rattle.snow_command.specs.Kept.Parsing.{ordered}
use Rattle.snow_command.proofs.Whole.{asks}
use Rattle.snow_command.proofs.words.read_words.Goals as goal

pub returns : goal.returns
returns c =
    let some : Some (texts c.in-Some.list.items) ≡ option_and_then ordered (with_items blank (items (texts c.args.words.now.items))) = search rules in
    asks (texts c.args.words.now.items) (texts c.in-Some.list.items) c.command_of_ordered.result some (search rules)
