-- What `clap` makes of the words in order.
use Rattle.std.proofs.Common.{◌≡◌, ◌∙◌, ℕ, Bool, true, false, cond, List, [], ◌∷◌, ◌++◌, subst, Option, Some, None, refl, sym, ap, codes, unwrap_or}
use Rattle.std.specs.List.{fold}
use Rattle.std.specs.Option.{option_and_then}
use Rattle.std.specs.Str.{bytes_eq}
use Rattle.clap.specs.Lexer.{long_of, long_of_rest, short_of, short_of_rest, strip_byte}
use Rattle.clap.specs.Walk.{Held, Row, Rule, Step, Text, Walk, after_step, finished, first_of, idle, long_or_other, nothing_held, short_or_plain, trailing, value, walk_from, walked, word_met}
use Rattle.clap.specs.Simple.{App, built, matches_of}
use Rattle.clap.specs.Faults.{is_simple_and_free}
use Rattle.clap.proofs.OnLiterals.{clap_on_literals}
use Rattle.clap.specs.declared.builder.value_parser.Reading.TheVariants as reading
use Rattle.clap.specs.declared.parser.matches.ValueSource.TheVariants.{DefaultValue, CommandLine}
use Rattle.snow_command.specs.Model.Words.{has_dash}
use Rattle.snow_command.specs.Kept.Parsing.{Choice, snowman, option_words}

-- ---- a word that doesn't begin with `-`

no_dash : (word : Text) → has_dash word ≡ false → strip_byte 45 word ≡ None
no_dash [] plain = refl
no_dash (x ∷ xs) plain = rw plain refl

pub no_long : (word : Text) → has_dash word ≡ false → long_of word ≡ None
no_long word plain = ap (λ o. option_and_then long_of_rest (option_and_then (strip_byte 45) o)) (no_dash word plain)

pub no_short : (word : Text) → has_dash word ≡ false → short_of word ≡ None
no_short word plain = ap (option_and_then short_of_rest) (no_dash word plain)

pub no_end : (word : Text) → has_dash word ≡ false → bytes_eq word (45 ∷ 45 ∷ []) ≡ false
no_end [] plain = refl
no_end (x ∷ xs) plain = rw plain refl

-- it is no flag
pub met : (c : List Rule) (position : ℕ) (word : Text) (h : Held) → has_dash word ≡ false → word_met c [] false idle position word h ≡ (h, value)
met c position word h plain =
    ap (λ (b : Bool). cond b (h, trailing position) (long_or_other c idle word (long_of word) h)) (no_end word plain)
    ∙ ap (λ o. long_or_other c idle word o h) (no_long word plain)
    ∙ ap (λ o. short_or_plain c idle word o h) (no_short word plain)

-- the walk after the task
abbrev pub started : List Rule → Text → Walk
started c task = after_step c task (walk_from nothing_held) nothing_held value

pub starts : (c : List Rule) (task : Text) → has_dash task ≡ false → walked c [] (walk_from nothing_held) task ≡ started c task
unfolding walked
starts c task plain = ap (λ (p : Held × Step). after_step c task (walk_from nothing_held) p.0 p.1) (met c 1 task nothing_held plain)

-- the rows after the options
abbrev rows_behind : List Rule → Text → List Text → List Row
rows_behind c task options = finished c (fold (walked c []) (started c task) options).held

module _ (tasks chains rules : Choice) where
  abbrev app : App
  app = snowman tasks chains rules

  pub simple : is_simple_and_free app ≡ true
  simple = refl

  begins : (task : Text) (options : List Text) → has_dash task ≡ false
      → matches_of app (codes "snowman" ∷ task ∷ options) ≡ rows_behind (built app).top.rules task options
  begins task options plain = ap (λ w. finished (built app).top.rules (fold (walked (built app).top.rules []) w options).held) (starts (built app).top.rules task plain)

  -- the row of a word that stands, and of a default
  abbrev row : Text → Text → Row
  row id v = record { id = id; values = v ∷ []; count = None; source = Some CommandLine; reading = reading.AsWritten }

  abbrev usual : Text → Text → Row
  usual id v = record { id = id; values = v ∷ []; count = None; source = Some DefaultValue; reading = reading.AsWritten }

  abbrev row_given : Text → Option Text → List Row
  row_given id None = []
  row_given id (Some v) = row id v ∷ []

  abbrev row_left : Text → Text → Option Text → List Row
  row_left id v None = usual id v ∷ []
  row_left id v (Some w) = []

  abbrev rows_for : Text → Option Text → Option Text → Option Text → Option Text → List Row
  rows_for task c u s b = row (codes "task") task ∷ row_given (codes "chain") c ++ (row_given (codes "rule") u
      ++ (row_given (codes "seed") s ++ (row_given (codes "blocks") b
      ++ (row_left (codes "chain") (codes "plain") c ++ row_left (codes "rule") (codes "snowball") u))))

  rows_are : (task : Text) (c u s b : Option Text)
      → rows_behind (built app).top.rules task (option_words c u s b) ≡ rows_for task c u s b
  unfolding clap_on_literals
  rows_are task None None None None = refl
  rows_are task None None None (Some b) = refl
  rows_are task None None (Some s) None = refl
  rows_are task None None (Some s) (Some b) = refl
  rows_are task None (Some u) None None = refl
  rows_are task None (Some u) None (Some b) = refl
  rows_are task None (Some u) (Some s) None = refl
  rows_are task None (Some u) (Some s) (Some b) = refl
  rows_are task (Some c) None None None = refl
  rows_are task (Some c) None None (Some b) = refl
  rows_are task (Some c) None (Some s) None = refl
  rows_are task (Some c) None (Some s) (Some b) = refl
  rows_are task (Some c) (Some u) None None = refl
  rows_are task (Some c) (Some u) None (Some b) = refl
  rows_are task (Some c) (Some u) (Some s) None = refl
  rows_are task (Some c) (Some u) (Some s) (Some b) = refl

  -- what the rows say of each
  abbrev pub Says : Text → Option Text → Option Text → Option Text → Option Text → List Row → Type 0
  Says task c u s b rows = (first_of (codes "task") rows ≡ Some task)
      × (first_of (codes "chain") rows ≡ Some (unwrap_or c (codes "plain")))
      × (first_of (codes "rule") rows ≡ Some (unwrap_or u (codes "snowball")))
      × (first_of (codes "seed") rows ≡ s) × (first_of (codes "blocks") rows ≡ b)

  says : (task : Text) (c u s b : Option Text) → Says task c u s b (rows_for task c u s b)
  says task None None None None = (refl, refl, refl, refl, refl)
  says task None None None (Some b) = (refl, refl, refl, refl, refl)
  says task None None (Some s) None = (refl, refl, refl, refl, refl)
  says task None None (Some s) (Some b) = (refl, refl, refl, refl, refl)
  says task None (Some u) None None = (refl, refl, refl, refl, refl)
  says task None (Some u) None (Some b) = (refl, refl, refl, refl, refl)
  says task None (Some u) (Some s) None = (refl, refl, refl, refl, refl)
  says task None (Some u) (Some s) (Some b) = (refl, refl, refl, refl, refl)
  says task (Some c) None None None = (refl, refl, refl, refl, refl)
  says task (Some c) None None (Some b) = (refl, refl, refl, refl, refl)
  says task (Some c) None (Some s) None = (refl, refl, refl, refl, refl)
  says task (Some c) None (Some s) (Some b) = (refl, refl, refl, refl, refl)
  says task (Some c) (Some u) None None = (refl, refl, refl, refl, refl)
  says task (Some c) (Some u) None (Some b) = (refl, refl, refl, refl, refl)
  says task (Some c) (Some u) (Some s) None = (refl, refl, refl, refl, refl)
  says task (Some c) (Some u) (Some s) (Some b) = (refl, refl, refl, refl, refl)

  -- the matches of the words in order
  pub matched : (task : Text) (c u s b : Option Text) → has_dash task ≡ false
      → Says task c u s b (matches_of app (codes "snowman" ∷ task ∷ option_words c u s b))
  matched task c u s b plain = subst (Says task c u s b)
      (sym (begins task (option_words c u s b) plain ∙ rows_are task c u s b)) (says task c u s b)
