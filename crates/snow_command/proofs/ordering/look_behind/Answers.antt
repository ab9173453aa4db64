use Rattle.std.proofs.Common.{rules, ◌≡◌, length, ◌==◌, false}
use Rattle.std.specs.List.{position_or_len}
use Rattle.snow_command.specs.Model.Words.{is_equals}
use Rattle.snow_command.proofs.Looks.{name_alone}
use Rattle.snow_command.proofs.ordering.look_behind.Goals as goal

pub returns-in-None : goal.returns-in-None
returns-in-None c =
    let none : position_or_len is_equals c.args.option.now ≡ length c.args.option.now = search rules in
    let some : (length c.args.option.now == 0) ≡ false = search rules in
    name_alone c.args.option.now some none
