-- The words of the command line, gathered from the left.
use Rattle.std.specs.Prelude.{◌≡◌, ℕ, Bool, true, false, List, [], ◌∷◌, map, drop, Option, Some, None, is_some, codes, if◌then◌else◌, bytes_eq, string_bytes, String}
use Rattle.std.specs.Option.{option_and_then}
use Rattle.std.specs.Borrow.{Bor}
use Rattle.snow_command.specs.declared.command.Job.{Job}
use Rattle.snow_command.specs.declared.command.Command.{Command}
use Rattle.snow_command.specs.declared.command.ChainName.TheVariants as chain
use Rattle.snow_command.specs.declared.command.RuleName.TheVariants as rule
use Rattle.snow_command.specs.declared.ordering.Look.{Look}
use Rattle.snow_command.specs.declared.ordering.Look.TheVariants as look
use Rattle.snow_command.specs.Model.Words.{Form, Alone, Ends, Sets, Names, Dashed, Item, Plain, Given, Wrong, items, has_dash, job_named, chain_named, rule_named, seed_named, blocks_named, streaming, drilling, is_drill}

-- what a word looks like
abbrev pub form_seen : Look → Form
form_seen look.Alone = Alone
form_seen look.Ends = Ends
form_seen (look.Sets name value) = Sets name.now value.now
form_seen (look.Names name) = Names name.now
form_seen look.Dashed = Dashed

-- what follows a first `-`
abbrev pub behind_dash : List ℕ → Option (List ℕ)
behind_dash word = if has_dash word then Some (drop 1 word) else None

-- the one plain word, and the one value of each option
pub record Request : Type 0 where
  pub task : Option (List ℕ)
  pub chain : Option (List ℕ)
  pub rule : Option (List ℕ)
  pub seed : Option (List ℕ)
  pub blocks : Option (List ℕ)

-- nothing came yet
abbrev pub blank : Request
blank = record { task = None; chain = None; rule = None; seed = None; blocks = None }

-- what comes of the first of some words; none where there is one already
abbrev pub once : Option (List ℕ) → Request → Option Request
once None new = Some new
once (Some word) new = None

-- the value of an option comes
abbrev pub with_value : Request → List ℕ → List ℕ → Option Request
with_value r name value =
    if bytes_eq name (codes "chain") then once r.chain (record r { chain = Some value })
    else if bytes_eq name (codes "rule") then once r.rule (record r { rule = Some value })
    else if bytes_eq name (codes "seed") then once r.seed (record r { seed = Some value })
    else if bytes_eq name (codes "blocks") then once r.blocks (record r { blocks = Some value })
    else None

-- an item comes
abbrev pub with_item : Request → Item → Option Request
with_item r (Plain word) = once r.task (record r { task = Some word })
with_item r (Given name value) = with_value r name value
with_item r Wrong = None

-- items come
unfoldable pub with_items : Request → List Item → Option Request
with_items r [] = Some r
with_items r (item ∷ more) = option_and_then (λ after. with_items after more) (with_item r item)

-- the request is the one that is given, or there is none
abbrev pub Comes : Bool → Request → Option Request → Type 0
Comes true new expected = expected ≡ Some new
Comes false new expected = expected ≡ None

-- the first of some words came
abbrev pub Puts : Bool → Option (Bor (List ℕ)) → Option (Bor (List ℕ)) → Bor (List ℕ) → Type 0
Puts true old new word = (old ≡ None) × (new ≡ Some word)
Puts false old new word = (is_some old ≡ true) × (new ≡ old)

module _ {Z : Type 0} where
  -- the bytes of words
  abbrev pub texts : List (String Z) → List (List ℕ)
  texts words = map string_bytes words

  -- some of the items came, and those of the rest of the words are to come
  abbrev pub Advances : Request → List Item → Request → Option (Bor (List (String Z))) → Type 0
  Advances old all new None = with_items old all ≡ None
  Advances old all new (Some rest) = with_items old all ≡ with_items new (items (texts rest.now))

-- ---- what a request asks for

-- what the value names, or the default where there is none
abbrev pub named_or : {A : Type 0} → A → (List ℕ → Option A) → Option (List ℕ) → Option A
named_or default named None = Some default
named_or default named (Some value) = named value

-- a task that reads a stream takes neither a seed nor a number of blocks
abbrev pub service : Request → Job → Option Command
service r done =
    if is_some r.seed then None
    else if is_some r.blocks then None
    else streaming done (named_or chain.Plain chain_named r.chain) (named_or rule.Snowball rule_named r.rule)

-- what the value states, where it stands
abbrev pub stated : {A : Type 0} → (List ℕ → Option A) → Option (List ℕ) → Option A
stated named None = None
stated named (Some value) = named value

-- a drill takes no chain
abbrev pub drill_by : Option (List ℕ) → Option (List ℕ) → Option (List ℕ) → Option (List ℕ) → Option Command
drill_by None u s b = drilling (named_or rule.Snowball rule_named u) (stated seed_named s) (stated blocks_named b)
drill_by (Some value) u s b = None

-- the command of a task that reads a stream
abbrev pub service_of : List ℕ → Request → Option Command
service_of word r = option_and_then (service r) (job_named word)

-- the command of the task of a name
abbrev pub task_of : Option (List ℕ) → Request → Option Command
task_of None r = None
task_of (Some word) r = if is_drill word then drill_by r.chain r.rule r.seed r.blocks else service_of word r

-- the command that a request asks for
unfoldable pub command_in : Request → Option Command
command_in r = task_of r.task r
