-- What the words of the command line, without the program's name, ask for.
use Rattle.std.specs.Prelude.{ℕ, ◌+◌, ◌-◌, ◌*◌, ◌^◌, Bool, true, false, ◌&&◌, ◌==◌, List, [], ◌∷◌, map, drop, fold, length, Option, Some, None, codes, if◌then◌else◌, bytes_eq, nat_le}
use Rattle.std.specs.Option.{option_and_then}
use Rattle.std.specs.List.{list_all, list_any, filter_map, before_first, after_first}
use Rattle.snow_base.specs.declared.limits.TheConstants.{MOST_DRILLED}
use Rattle.snow_command.specs.declared.command.Job.{Job}
use Rattle.snow_command.specs.declared.command.Job.TheVariants as job
use Rattle.snow_command.specs.declared.command.ChainName.{ChainName}
use Rattle.snow_command.specs.declared.command.ChainName.TheVariants as chain
use Rattle.snow_command.specs.declared.command.RuleName.{RuleName}
use Rattle.snow_command.specs.declared.command.RuleName.TheVariants as rule
use Rattle.snow_command.specs.declared.command.Command.{Command}
use Rattle.snow_command.specs.declared.command.Command.TheVariants as command

-- ---- the items that words are

-- a plain word, an option's name with its value, or a word that is neither
pub data Item : Type 0 where
  Plain : (word : List ℕ) → Item
  Given : (name value : List ℕ) → Item
  Wrong : Item

-- the forms of a word where no `--` came before: it is plain, it ends the options as `--`, it is an
-- option as `--name=value`, it names an option as `--name`, or it begins with one `-` alone
pub data Form : Type 0 where
  Alone : Form
  Ends : Form
  Sets : (name value : List ℕ) → Form
  Names : (name : List ℕ) → Form
  Dashed : Form

-- whether a word begins with `-`
abbrev pub has_dash : List ℕ → Bool
has_dash [] = false
has_dash (c ∷ cs) = c == 45

-- whether a byte is `=`
abbrev pub is_equals : ℕ → Bool
is_equals c = c == 61

-- what stands behind `--`: nothing, or a name up to the first `=`
abbrev pub option_form : List ℕ → Form
option_form [] = Ends
option_form (c ∷ cs) =
    if list_any is_equals (c ∷ cs) then Sets (before_first is_equals (c ∷ cs)) (after_first is_equals (c ∷ cs))
    else Names (c ∷ cs)

-- what stands behind a first `-`
abbrev pub dashed_form : List ℕ → Form
dashed_form rest = if has_dash rest then option_form (drop 1 rest) else Dashed

-- what a word is by itself
abbrev pub form_of : List ℕ → Form
form_of word = if has_dash word then dashed_form (drop 1 word) else Alone

-- the items of an option's name and the words behind it, where `later` are those behind the next
-- word; a next word that begins with `-` is no value
abbrev pub named_items : List ℕ → List (List ℕ) → List Item → List Item
named_items name [] later = Wrong ∷ []
named_items name (value ∷ words) later = if has_dash value then Wrong ∷ [] else Given name value ∷ later

-- the items of a word of this form and the words behind it, of which `from` are the items, and
-- `later` those without the next word
abbrev pub first_items : Form → List ℕ → List (List ℕ) → List Item → List Item → List Item
first_items Alone word words from later = Plain word ∷ from
first_items Ends word words from later = map Plain words
first_items (Sets name value) word words from later = Given name value ∷ from
first_items (Names name) word words from later = named_items name words later
first_items Dashed word words from later = Wrong ∷ []

-- the items of words, split from the left; nothing is split behind a wrong one
unfoldable pub items : List (List ℕ) → List Item
items [] = []
items (word ∷ []) = first_items (form_of word) word [] [] []
items (word ∷ next ∷ words) = first_items (form_of word) word (next ∷ words) (items (next ∷ words)) (items words)

-- ---- what items hold

-- the word of a plain item
abbrev pub plain_word : Item → Option (List ℕ)
plain_word (Plain word) = Some word
plain_word item = None

-- the plain words among items
abbrev pub plain_words : List Item → List (List ℕ)
plain_words = filter_map plain_word

-- the value that an item gives the option of a name
abbrev pub value_of : List ℕ → Item → Option (List ℕ)
value_of name (Given other value) = if bytes_eq other name then Some value else None
value_of name item = None

-- the values that items give the option of a name
abbrev pub values : List ℕ → List Item → List (List ℕ)
values name = filter_map (value_of name)

-- whether an item is a plain word, or an option of one of these names
abbrev pub is_among : List (List ℕ) → Item → Bool
is_among names (Plain word) = true
is_among names (Given name value) = list_any (bytes_eq name) names
is_among names Wrong = false

-- ---- numbers

-- whether a byte is a decimal digit
abbrev pub is_digit : ℕ → Bool
is_digit c = nat_le 48 c && nat_le c 57

-- a number with one digit more, where it is one and what comes is at most this
abbrev pub with_digit : ℕ → Option ℕ → ℕ → Option ℕ
with_digit most None c = None
with_digit most (Some n) c = if is_digit c && nat_le (10 * n + (c - 48)) most then Some (10 * n + (c - 48)) else None

-- the number of digits, where it is at most this
abbrev pub digits_within : ℕ → List ℕ → Option ℕ
digits_within most text = fold (with_digit most) (Some 0) text

-- a number that is at least this
abbrev pub from_least : ℕ → Option ℕ → Option ℕ
from_least least None = None
from_least least (Some n) = if nat_le least n then Some n else None

-- the number of one to twenty decimal digits, where it is within these bounds; zeros may lead
abbrev pub number_in : ℕ → ℕ → List ℕ → Option ℕ
number_in least most text = if nat_le 1 (length text) && nat_le (length text) 20 then from_least least (digits_within most text) else None

-- the seed that a value states, and the number of blocks
abbrev pub seed_named : List ℕ → Option ℕ
seed_named = number_in 0 (2 ^ 64 - 1)

abbrev pub blocks_named : List ℕ → Option ℕ
blocks_named = number_in 1 MOST_DRILLED

-- ---- the command

-- the one value, or the default where there is none
abbrev pub one_of : {A : Type 0} → A → (List ℕ → Option A) → List (List ℕ) → Option A
one_of default named [] = Some default
one_of default named (value ∷ []) = named value
one_of default named (value ∷ another ∷ more) = None

-- the one value, which has to stand
abbrev pub the_one : {A : Type 0} → (List ℕ → Option A) → List (List ℕ) → Option A
the_one named [] = None
the_one named (value ∷ []) = named value
the_one named (value ∷ another ∷ more) = None

-- the chain of a name
abbrev pub chain_named : List ℕ → Option ChainName
chain_named value =
    if bytes_eq value (codes "plain") then Some chain.Plain
    else if bytes_eq value (codes "tally") then Some chain.Tally
    else if bytes_eq value (codes "ledger") then Some chain.Ledger
    else None

-- the rule of a name
abbrev pub rule_named : List ℕ → Option RuleName
rule_named value =
    if bytes_eq value (codes "snowball") then Some rule.Snowball
    else if bytes_eq value (codes "snowflake") then Some rule.Snowflake
    else None

-- what is done with a stream by the task of a name
abbrev pub job_named : List ℕ → Option Job
job_named word =
    if bytes_eq word (codes "decide") then Some job.Decide
    else if bytes_eq word (codes "run") then Some job.Run
    else if bytes_eq word (codes "audit") then Some job.Audit
    else None

-- a task that reads a stream with a chain and a rule, where both are named
abbrev pub streaming : Job → Option ChainName → Option RuleName → Option Command
streaming done (Some c) (Some r) = Some (command.Stream done c r)
streaming done c r = None

-- a task that reads a stream with these items, where its options alone stand among them
abbrev pub stream_with : List Item → Job → Option Command
stream_with all done =
    if list_all (is_among (codes "chain" ∷ codes "rule" ∷ [])) all
    then streaming done (one_of chain.Plain chain_named (values (codes "chain") all)) (one_of rule.Snowball rule_named (values (codes "rule") all))
    else None

-- a drill by a rule, a seed and a number of blocks, where all three are there
abbrev pub drilling : Option RuleName → Option ℕ → Option ℕ → Option Command
drilling (Some r) (Some seed) (Some blocks) = Some (command.Drill r seed blocks)
drilling r seed blocks = None

-- a drill with these values of its options; it takes no chain
abbrev pub drill_of : List (List ℕ) → List (List ℕ) → List (List ℕ) → List (List ℕ) → Option Command
drill_of [] rules seeds blocks = drilling (one_of rule.Snowball rule_named rules) (the_one seed_named seeds) (the_one blocks_named blocks)
drill_of (value ∷ more) rules seeds blocks = None

-- a drill with these items, where options alone stand among them
abbrev pub drill_with : List Item → Option Command
drill_with all =
    if list_all (is_among (codes "chain" ∷ codes "rule" ∷ codes "seed" ∷ codes "blocks" ∷ [])) all
    then drill_of (values (codes "chain") all) (values (codes "rule") all) (values (codes "seed") all) (values (codes "blocks") all)
    else None

-- whether a word names the drill
abbrev pub is_drill : List ℕ → Bool
is_drill word = bytes_eq word (codes "drill")

-- the task that the one plain word names, with these items
abbrev pub task_with : List (List ℕ) → List Item → Option Command
task_with [] all = None
task_with (word ∷ []) all = if is_drill word then drill_with all else option_and_then (stream_with all) (job_named word)
task_with (word ∷ another ∷ more) all = None

-- what the words ask for, where they ask for a task
unfoldable pub command_of : List (List ℕ) → Option Command
command_of words = task_with (plain_words (items words)) (items words)
