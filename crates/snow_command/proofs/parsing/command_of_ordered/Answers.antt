use Rattle.std.proofs.Common.{◌≡◌, ◌∙◌, rules, inl, inr}
use Rattle.clap.specs.Walk.{texts}
use Rattle.clap.specs.Words.{found_of}
use Rattle.clap.specs.Values.{kind_of}
use Rattle.snow_command.specs.Kept.Request.{texts as words_of}
use Rattle.snow_command.proofs.Tested.{chain_names, rule_names, task_names}
use Rattle.snow_command.proofs.Answered.{found_asks, nothing_asked}
use Rattle.snow_command.proofs.parsing.command_of_ordered.Goals as goal

pub returns-in-Ok : goal.returns-in-Ok
returns-in-Ok c r e =
    let tasks : texts c.as_slice.result.now ≡ task_names = search rules in
    let chains : texts c.as_slice-2.result.now ≡ chain_names = search rules in
    let rule : texts c.as_slice-3.result.now ≡ rule_names = search rules in
    c.read.ensures ∙ found_asks c.as_slice.result c.as_slice-2.result c.as_slice-3.result tasks chains rule (words_of c.args.words.now)
    (found_of c.in-Ok.matches) c.in-Ok.ensures.rows c.in-Ok.ensures.fails r e

pub returns-else-eq : goal.returns-else-eq
returns-else-eq c r e =
    let tasks : texts c.as_slice.result.now ≡ task_names = search rules in
    let chains : texts c.as_slice-2.result.now ≡ chain_names = search rules in
    let rule : texts c.as_slice-3.result.now ≡ rule_names = search rules in
    elim c.in-Err.ensures.fails [
      | inl memory ↦ absurd (search (memory, rules))
      | inr among ↦ nothing_asked c.as_slice.result c.as_slice-2.result c.as_slice-3.result tasks chains rule (words_of c.args.words.now)
          (kind_of c.in-Err.error) among r e
    ]
