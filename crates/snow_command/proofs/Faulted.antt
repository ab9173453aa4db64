-- Where `clap` refuses the words in order.
use Rattle.std.proofs.Common.{◌≡◌, ◌∙◌, Bool, false, cond, List, [], ◌∷◌, ◌++◌, Option, Some, None, refl, ap, ap₂, codes, is_some}
use Rattle.std.specs.List.{fold}
use Rattle.std.specs.Option.{option_map_or}
use Rattle.clap.specs.Lexer.{long_of}
use Rattle.clap.specs.Walk.{Held, Step, Text, Walk, finished, idle, nothing_held, settled, value, walk_from, walked}
use Rattle.clap.specs.Simple.{App, Shape, built, entered}
use Rattle.clap.specs.Kinds.{Kinds, or_else, value_kinds}
use Rattle.clap.specs.Faults.{bundle_fault, check_fault, defaults_fault, entered_fault, fault_of, flag_word_fault, settle_fault, step_fault, turn_fault, walk_fault, word_fault}
use Rattle.clap.proofs.OnLiterals.{clap_on_literals}
use Rattle.clap.specs.declared.builder.value_parser.ValueParser.TheVariants as parser
use Rattle.snow_command.specs.Model.Words.{has_dash}
use Rattle.snow_command.specs.Kept.Parsing.{Choice, snowman, option_words}
use Rattle.snow_command.proofs.Ordered.{met, no_end, no_long, no_short, started, starts}

-- a word that doesn't begin with `-` is refused as no flag
no_fault : (s : Shape) (task : Text) → has_dash task ≡ false → word_fault s [] false idle task nothing_held ≡ []
no_fault s task plain =
    let again = s.args_override_self in
    ap (λ (b : Bool). cond b [] (flag_word_fault s.rules again (long_of task) task nothing_held)) (no_end task plain)
    ∙ ap (λ o. flag_word_fault s.rules again o task nothing_held) (no_long task plain)
    ∙ ap (λ o. option_map_or (λ flags. bundle_fault s.rules again flags nothing_held) o []) (no_short task plain)

-- the turn of the task
turns : (s : Shape) (task : Text) → has_dash task ≡ false
    → turn_fault s [] (walk_from nothing_held) task ≡ step_fault s 1 nothing_held value
turns s task plain = ap₂ or_else (no_fault s task plain) (ap (λ (p : Held × Step). step_fault s 1 p.0 p.1) (met s.rules 1 task nothing_held plain))

-- the kinds of a turn, and of what comes behind it
abbrev fault_behind : App → Kinds → Walk → List Text → Kinds
fault_behind a turn w options =
    let end = fold (walked a.top.rules []) w options in
    or_else (or_else turn (walk_fault a.top [] w options))
    (or_else (entered_fault a end.stopped) (or_else (settle_fault a.top.rules a.top.args_override_self end.held)
    (or_else (defaults_fault (settled a.top.rules end.held).rows a.top.rules)
    (check_fault a.top (finished a.top.rules end.held) (is_some (entered a end.stopped))))))

-- the kinds of values that are tested
abbrev pub values_fault : Choice → Text → Kinds
values_fault choice v = or_else (value_kinds false (parser.Names choice) v) []

abbrev pub fault_given : Choice → Option Text → List Kinds
fault_given choice None = []
fault_given choice (Some v) = values_fault choice v ∷ []

abbrev pub fault_open : Option Text → List Kinds
fault_open None = []
fault_open (Some v) = [] ∷ []

abbrev pub fault_left : Choice → Text → Option Text → Kinds
fault_left choice default None = values_fault choice default
fault_left choice default (Some v) = []

-- the task is tested at the first option, or at the end
abbrev pub fault_turns : Kinds → List Kinds → Kinds
fault_turns task [] = []
fault_turns task (own ∷ more) = or_else (or_else (or_else task own) []) (fault_turns [] more)

abbrev pub fault_end : Kinds → List Kinds → Kinds
fault_end task [] = task
fault_end task (own ∷ more) = []

module _ (tasks chains rules : Choice) where
  abbrev app : App
  app = snowman tasks chains rules

  begins : (task : Text) (options : List Text) → has_dash task ≡ false
      → fault_of app (codes "snowman" ∷ task ∷ options)
      ≡ fault_behind (built app) (step_fault (built app).top 1 nothing_held value) (started (built app).top.rules task) options
  unfolding walk_fault
  begins task options plain = ap₂ (λ turn w. fault_behind (built app) turn w options) (turns (built app).top task plain) (starts (built app).top.rules task plain)

  abbrev owns : Option Text → Option Text → Option Text → Option Text → List Kinds
  owns c u s b = fault_given chains c ++ (fault_given rules u ++ (fault_open s ++ fault_open b))

  abbrev kinds_for : Text → Option Text → Option Text → Option Text → Option Text → Kinds
  kinds_for task c u s b = or_else (fault_turns (values_fault tasks task) (owns c u s b))
      (or_else (fault_end (values_fault tasks task) (owns c u s b))
      (or_else (or_else (fault_left chains (codes "plain") c) (or_else (fault_left rules (codes "snowball") u) [])) []))

  kinds_are : (task : Text) (c u s b : Option Text)
      → fault_behind (built app) (step_fault (built app).top 1 nothing_held value) (started (built app).top.rules task) (option_words c u s b)
      ≡ kinds_for task c u s b
  unfolding clap_on_literals
  kinds_are task None None None None = refl
  kinds_are task None None None (Some b) = refl
  kinds_are task None None (Some s) None = refl
  kinds_are task None None (Some s) (Some b) = refl
  kinds_are task None (Some u) None None = refl
  kinds_are task None (Some u) None (Some b) = refl
  kinds_are task None (Some u) (Some s) None = refl
  kinds_are task None (Some u) (Some s) (Some b) = refl
  kinds_are task (Some c) None None None = refl
  kinds_are task (Some c) None None (Some b) = refl
  kinds_are task (Some c) None (Some s) None = refl
  kinds_are task (Some c) None (Some s) (Some b) = refl
  kinds_are task (Some c) (Some u) None None = refl
  kinds_are task (Some c) (Some u) None (Some b) = refl
  kinds_are task (Some c) (Some u) (Some s) None = refl
  kinds_are task (Some c) (Some u) (Some s) (Some b) = refl

  -- the kinds at the words in order
  pub faulted : (task : Text) (c u s b : Option Text) → has_dash task ≡ false
      → fault_of app (codes "snowman" ∷ task ∷ option_words c u s b) ≡ kinds_for task c u s b
  faulted task c u s b plain = begins task (option_words c u s b) plain ∙ kinds_are task c u s b
