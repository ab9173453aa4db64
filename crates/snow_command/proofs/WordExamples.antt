-- Worked examples: what words ask for.
use Rattle.std.proofs.Common.{◌≡◌, [], ◌∷◌, Option, Some, None, refl, codes}
use Rattle.snow_command.specs.declared.command.ChainName.TheVariants as chain
use Rattle.snow_command.specs.declared.command.RuleName.TheVariants as rule
use Rattle.snow_command.specs.declared.command.Job.TheVariants as job
use Rattle.snow_command.specs.declared.command.Command.{Command}
use Rattle.snow_command.specs.declared.command.Command.TheVariants as command
use Rattle.snow_command.specs.Model.Words.{items, command_of}

-- the defaults
abbrev usual : Option Command
usual = Some (command.Stream job.Decide chain.Plain rule.Snowball)

pub no_word : command_of [] ≡ None
unfolding command_of items
no_word = refl

pub alone : command_of (codes "decide" ∷ []) ≡ usual
unfolding command_of items
alone = refl

pub behind_the_end : command_of (codes "--" ∷ codes "decide" ∷ []) ≡ usual
unfolding command_of items
behind_the_end = refl

pub before_the_end : command_of (codes "decide" ∷ codes "--" ∷ []) ≡ usual
unfolding command_of items
before_the_end = refl

pub option_first : command_of (codes "--chain=plain" ∷ codes "decide" ∷ []) ≡ usual
unfolding command_of items
option_first = refl

pub both_options : command_of (codes "decide" ∷ codes "--chain" ∷ codes "tally" ∷ codes "--rule=snowflake" ∷ [])
    ≡ Some (command.Stream job.Decide chain.Tally rule.Snowflake)
unfolding command_of items
both_options = refl

pub another_rule : command_of (codes "decide" ∷ codes "--rule" ∷ codes "snowflake" ∷ [])
    ≡ Some (command.Stream job.Decide chain.Plain rule.Snowflake)
unfolding command_of items
another_rule = refl

pub the_third_chain : command_of (codes "run" ∷ codes "--chain=ledger" ∷ []) ≡ Some (command.Stream job.Run chain.Ledger rule.Snowball)
unfolding command_of items
the_third_chain = refl

pub a_running_task : command_of (codes "run" ∷ []) ≡ Some (command.Stream job.Run chain.Plain rule.Snowball)
unfolding command_of items
a_running_task = refl

-- an option stands once at most
pub twice_for_another_task : command_of (codes "run" ∷ codes "--chain" ∷ codes "plain" ∷ codes "--chain" ∷ codes "tally" ∷ []) ≡ None
unfolding command_of items
twice_for_another_task = refl

pub twice : command_of (codes "decide" ∷ codes "--chain" ∷ codes "plain" ∷ codes "--chain" ∷ codes "tally" ∷ []) ≡ None
unfolding command_of items
twice = refl

-- an option of another task, and another task
pub another_option : command_of (codes "decide" ∷ codes "--seed" ∷ codes "1" ∷ []) ≡ None
unfolding command_of items
another_option = refl

-- a drill, with zeros in front, with the largest seed and the most blocks, and with a rule
pub drill : command_of (codes "drill" ∷ codes "--seed" ∷ codes "007" ∷ codes "--blocks=200" ∷ []) ≡ Some (command.Drill rule.Snowball 7 200)
unfolding command_of items
drill = refl

pub large_drill : command_of (codes "--blocks" ∷ codes "10000" ∷ codes "drill" ∷ codes "--rule=snowflake" ∷ codes "--seed=18446744073709551615" ∷ [])
    ≡ Some (command.Drill rule.Snowflake 18446744073709551615 10000)
unfolding command_of items
large_drill = refl

-- it needs both numbers and takes no chain
pub drill_without_blocks : command_of (codes "drill" ∷ codes "--seed" ∷ codes "1" ∷ []) ≡ None
unfolding command_of items
drill_without_blocks = refl

pub drill_without_seed : command_of (codes "drill" ∷ codes "--blocks" ∷ codes "1" ∷ []) ≡ None
unfolding command_of items
drill_without_seed = refl

pub drill_of_a_chain : command_of (codes "drill" ∷ codes "--seed=1" ∷ codes "--blocks=1" ∷ codes "--chain=tally" ∷ []) ≡ None
unfolding command_of items
drill_of_a_chain = refl

-- numbers out of bounds, of 21 digits, and with another byte
pub seed_too_large : command_of (codes "drill" ∷ codes "--seed=18446744073709551616" ∷ codes "--blocks=1" ∷ []) ≡ None
unfolding command_of items
seed_too_large = refl

pub too_many_digits : command_of (codes "drill" ∷ codes "--seed=000000000000000000001" ∷ codes "--blocks=1" ∷ []) ≡ None
unfolding command_of items
too_many_digits = refl

pub no_blocks : command_of (codes "drill" ∷ codes "--seed=1" ∷ codes "--blocks=0" ∷ []) ≡ None
unfolding command_of items
no_blocks = refl

pub too_many_blocks : command_of (codes "drill" ∷ codes "--seed=1" ∷ codes "--blocks=10001" ∷ []) ≡ None
unfolding command_of items
too_many_blocks = refl

pub no_digit : command_of (codes "drill" ∷ codes "--seed=+1" ∷ codes "--blocks=1" ∷ []) ≡ None
unfolding command_of items
no_digit = refl

-- an audit takes a chain and a rule, and nothing of a drill
pub audit : command_of (codes "audit" ∷ []) ≡ Some (command.Stream job.Audit chain.Plain rule.Snowball)
unfolding command_of items
audit = refl

pub audit_of_a_chain : command_of (codes "--rule=snowflake" ∷ codes "audit" ∷ codes "--chain" ∷ codes "ledger" ∷ [])
    ≡ Some (command.Stream job.Audit chain.Ledger rule.Snowflake)
unfolding command_of items
audit_of_a_chain = refl

pub audit_with_a_seed : command_of (codes "audit" ∷ codes "--seed=1" ∷ []) ≡ None
unfolding command_of items
audit_with_a_seed = refl

pub another_word : command_of (codes "check" ∷ []) ≡ None
unfolding command_of items
another_word = refl

pub help : command_of (codes "--help" ∷ []) ≡ None
unfolding command_of items
help = refl

-- two plain words
pub two_tasks : command_of (codes "decide" ∷ codes "decide" ∷ []) ≡ None
unfolding command_of items
two_tasks = refl

pub plain_behind_the_end : command_of (codes "decide" ∷ codes "--" ∷ codes "--chain" ∷ []) ≡ None
unfolding command_of items
plain_behind_the_end = refl

-- values that are missing, empty, or no name
pub no_value : command_of (codes "decide" ∷ codes "--chain" ∷ []) ≡ None
unfolding command_of items
no_value = refl

pub no_value_before_the_end : command_of (codes "decide" ∷ codes "--chain" ∷ codes "--" ∷ codes "plain" ∷ []) ≡ None
unfolding command_of items
no_value_before_the_end = refl

pub no_value_but_the_end : command_of (codes "--chain" ∷ codes "--" ∷ codes "decide" ∷ []) ≡ None
unfolding command_of items
no_value_but_the_end = refl

pub empty_value : command_of (codes "decide" ∷ codes "--chain=" ∷ []) ≡ None
unfolding command_of items
empty_value = refl

pub second_equals : command_of (codes "--chain==plain" ∷ codes "decide" ∷ []) ≡ None
unfolding command_of items
second_equals = refl

pub another_value : command_of (codes "decide" ∷ codes "--chain" ∷ codes "book" ∷ []) ≡ None
unfolding command_of items
another_value = refl

-- words with one dash
pub dashed : command_of (codes "decide" ∷ codes "-x" ∷ []) ≡ None
unfolding command_of items
dashed = refl

pub dash : command_of (codes "decide" ∷ codes "-" ∷ []) ≡ None
unfolding command_of items
dash = refl

pub empty_word : command_of ([] ∷ []) ≡ None
unfolding command_of items
empty_word = refl
