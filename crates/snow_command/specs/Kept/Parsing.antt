-- The words in order, as `clap` reads them.
use Rattle.std.specs.Prelude.{◌≡◌, Bool, true, false, not, ◌&&◌, ◌==◌, List, [], ◌∷◌, ◌++◌, ◌||◌, Option, Some, None, is_some, codes, if◌then◌else◌, bytes_eq}
use Rattle.std.specs.Borrow.{Bor}
use Rattle.clap.specs.Walk.{Rule, Text}
use Rattle.clap.specs.Simple.{App, new_app, new_rule, with_rule}
use Rattle.clap.specs.declared.builder.value_parser.ValueParser.TheVariants as parser
use Rattle.snow_command.specs.declared.command.Job.{Job}
use Rattle.snow_command.specs.declared.command.Job.TheVariants as job
use Rattle.snow_command.specs.declared.command.ChainName.{ChainName}
use Rattle.snow_command.specs.declared.command.ChainName.TheVariants as chain
use Rattle.snow_command.specs.declared.command.RuleName.{RuleName}
use Rattle.snow_command.specs.declared.command.RuleName.TheVariants as rule
use Rattle.snow_command.specs.declared.command.Command.{Command}
use Rattle.snow_command.specs.declared.command.Command.TheVariants as command
use Rattle.snow_command.specs.Model.Words.{seed_named, blocks_named, drilling, is_drill}
use Rattle.snow_command.specs.Kept.Request.{Request, command_in, stated}

-- the names that a value may have
abbrev pub Choice : Type 0
Choice = Bor (List (Bor Text))

-- the one plain word
abbrev pub task_rule : Choice → Rule
task_rule tasks = record (new_rule (codes "task")) { required = true; parser = Some (parser.Names tasks) }

-- an option whose value is one of these names, of which one is the default
abbrev pub choice_rule : Text → Text → Choice → Rule
choice_rule name default choice = record (new_rule name) {
  long = Some name;
  defaults = default ∷ [];
  parser = Some (parser.Names choice);
}

-- an option with any value
abbrev pub open_rule : Text → Rule
open_rule name = record (new_rule name) { long = Some name }

-- the command line, as `clap` sees it
abbrev pub snowman : Choice → Choice → Choice → App
snowman tasks chains rules = with_rule (with_rule (with_rule (with_rule (with_rule (new_app (codes "snowman"))
    (task_rule tasks))
    (choice_rule (codes "chain") (codes "plain") chains))
    (choice_rule (codes "rule") (codes "snowball") rules))
    (open_rule (codes "seed")))
    (open_rule (codes "blocks"))

-- the word of an option that stands
abbrev pub option_word : Text → Option Text → List Text
option_word name None = []
option_word name (Some value) = (45 ∷ 45 ∷ name ++ 61 ∷ value) ∷ []

-- the words in order behind the task
abbrev pub option_words : Option Text → Option Text → Option Text → Option Text → List Text
option_words chain rule seed blocks = option_word (codes "chain") chain ++ (option_word (codes "rule") rule
    ++ (option_word (codes "seed") seed ++ option_word (codes "blocks") blocks))

-- a word that is neither empty nor begins with `-`
abbrev pub is_word : Text → Bool
is_word [] = false
is_word (c ∷ cs) = not (c == 45)

-- a value that is a word, or isn't there
abbrev pub is_word_or_none : Option Text → Bool
is_word_or_none None = true
is_word_or_none (Some word) = is_word word

-- the values that are there are words
abbrev pub has_words : Request → Bool
has_words r = is_word_or_none r.chain && (is_word_or_none r.rule && (is_word_or_none r.seed && is_word_or_none r.blocks))

-- a drill takes no chain; behind `clap` none could tell whether one stood there, since the usual one is filled in
abbrev pub takes_chain : Text → Option Text → Bool
takes_chain task chain = not (is_drill task && is_some chain)

-- the words in order, the program's name first, where all others are words and the task takes its options
abbrev pub in_order : Option Text → Request → Option (List Text)
in_order None r = None
in_order (Some task) r =
    if is_word task && (takes_chain task r.chain && has_words r) then Some (codes "snowman" ∷ task ∷ option_words r.chain r.rule r.seed r.blocks) else None

-- the words of a request in order
unfoldable pub ordered : Request → Option (List Text)
ordered r = in_order r.task r

-- ---- what the matches ask for, where their names were tested

-- the chain of a tested name, or the default
abbrev pub chain_read : Option Text → ChainName
chain_read None = chain.Plain
chain_read (Some value) =
    if bytes_eq value (codes "tally") then chain.Tally
    else if bytes_eq value (codes "ledger") then chain.Ledger
    else chain.Plain

-- the rule of a tested name, or the default
abbrev pub rule_read : Option Text → RuleName
rule_read None = rule.Snowball
rule_read (Some value) = if bytes_eq value (codes "snowflake") then rule.Snowflake else rule.Snowball

-- what is done with a stream by the task of a tested name
abbrev pub job_read : Option Text → Job
job_read None = job.Decide
job_read (Some value) =
    if bytes_eq value (codes "run") then job.Run
    else if bytes_eq value (codes "audit") then job.Audit
    else job.Decide

-- whether the task of a tested name is the drill
abbrev pub is_drill_read : Option Text → Bool
is_drill_read None = false
is_drill_read (Some value) = is_drill value

-- a task that reads a stream takes neither a seed nor blocks
abbrev pub service_read : Option Text → Option Text → Option Text → Option Text → Option Text → Option Command
service_read t c u s b = if is_some s || is_some b then None else Some (command.Stream (job_read t) (chain_read c) (rule_read u))

-- a drill needs both
abbrev pub drill_read : Option Text → Option Text → Option Text → Option Command
drill_read u s b = drilling (Some (rule_read u)) (stated seed_named s) (stated blocks_named b)

abbrev pub values_read : Option Text → Option Text → Option Text → Option Text → Option Text → Option Command
values_read t c u s b = if is_drill_read t then drill_read u s b else service_read t c u s b

-- the command of the values found by their options' names
abbrev pub command_read : (Text → Option Text) → Option Command
command_read value = values_read (value (codes "task")) (value (codes "chain")) (value (codes "rule")) (value (codes "seed")) (value (codes "blocks"))

-- the command is what each request asks for whose words in order these are
abbrev pub AsksFor : List Text → Option Command → Type 0
AsksFor words command = (r : Request) → ordered r ≡ Some words → command ≡ command_in r
