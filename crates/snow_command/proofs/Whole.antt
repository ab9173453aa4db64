-- The words of the command line, by the words in order.
use Rattle.std.proofs.Common.{◌≡◌, ◌∙◌, ℕ, ◌-◌, ◌^◌, Bool, true, false, not, cond, ◌&&◌, ◌==◌, List, [], ◌∷◌, length, nat_le, subst, Option, Some, None, refl, sym, ap, codes, Result}
use Rattle.std.specs.Prelude.{IfOk}
use Rattle.std.specs.Option.{option_and_then}
use Rattle.std.proofs.lemmas.Result.{IfOk-weaker}
use Rattle.std.proofs.lemmas.Bool.{eqb-true}
use Rattle.clap.specs.Walk.{Text}
use Rattle.snow_command.specs.declared.command.Command.{Command}
use Rattle.snow_command.specs.declared.command.RuleName.{RuleName}
use Rattle.snow_command.specs.Model.Words.{blocks_named, command_of, drilling, from_least, is_drill, items, number_in, seed_named}
use Rattle.snow_command.specs.Kept.Request.{Request, blank, command_in, stated, with_items}
use Rattle.snow_command.specs.Kept.Parsing.{AsksFor, drill_read, is_word, is_word_or_none, option_words, ordered, rule_read, service_read}
use Rattle.snow_command.proofs.Gathered.{a_request, no_request}
use Rattle.snow_command.proofs.Digits.{none_more}
use Rattle.snow_command.proofs.Tested.{asked, chain_names, comes, drill_asked, fits, is_one, is_one_or_none, req, rule_names, same, task_names}

-- ---- a name is a word

abbrev AreWords : List Text → Type 0
AreWords names = (is_one names [] ≡ false) × ((rest : Text) → is_one names (45 ∷ rest) ≡ false)

is_word_at : (names : List Text) → AreWords names → (x : ℕ) (xs : Text) (dash : Bool) → (x == 45) ≡ dash → is_one names (x ∷ xs) ≡ true → not dash ≡ true
is_word_at names are x xs false d e = refl
is_word_at names are x xs true d e =
    let bad : is_one names (45 ∷ xs) ≡ true = subst (λ y. is_one names (y ∷ xs) ≡ true) (eqb-true x 45 d) e in
    sym (are.1 xs) ∙ bad

one_is_word : (names : List Text) → AreWords names → (v : Text) → is_one names v ≡ true → is_word v ≡ true
one_is_word names are [] e = sym (are.0) ∙ e
one_is_word names are (x ∷ xs) e = is_word_at names are x xs (x == 45) refl e

one_or_none : (names : List Text) → AreWords names → (o : Option Text) → is_one_or_none names o ≡ true → is_word_or_none o ≡ true
one_or_none names are None e = refl
one_or_none names are (Some v) e = one_is_word names are v e

tasks_are : AreWords task_names
tasks_are = (refl, λ rest. refl)

chains_are : AreWords chain_names
chains_are = (refl, λ rest. refl)

rules_are : AreWords rule_names
rules_are = (refl, λ rest. refl)

-- ---- a request that has no words in order asks for nothing

abbrev no_command : Option Command
no_command = None

nothing : (p : Bool) → cond p no_command no_command ≡ None
nothing true = refl
nothing false = refl

-- where each is a name, the words in order of a task that serves are there
listed : (task : Text) (c u : Option Text) → is_drill task ≡ false → is_one task_names task ≡ true → is_one_or_none chain_names c ≡ true → is_one_or_none rule_names u ≡ true
    → ordered (req (Some task) c u None None) ≡ Some (codes "snowman" ∷ task ∷ option_words c u None None)
unfolding ordered
listed task c u other t x y = rw (other, one_is_word task_names tasks_are task t, one_or_none chain_names chains_are c x, one_or_none rule_names rules_are u y) refl

unlisted : (task : Text) (c u : Option Text) (t x y : Bool) → is_drill task ≡ false → is_one task_names task ≡ t → is_one_or_none chain_names c ≡ x → is_one_or_none rule_names u ≡ y
    → ordered (req (Some task) c u None None) ≡ None → cond (t && (x && y)) (service_read (Some task) c u None None) None ≡ None
unlisted task c u false x y other et ex ey none = refl
unlisted task c u true false y other et ex ey none = refl
unlisted task c u true true false other et ex ey none = refl
unlisted task c u true true true other et ex ey none =
    let bad : Some (codes "snowman" ∷ task ∷ option_words c u None None) ≡ None = sym (listed task c u other et ex ey) ∙ none in
    cc

unserved : (task : Text) (c u s b : Option Text) → is_drill task ≡ false → ordered (req (Some task) c u s b) ≡ None → cond (fits task c u) (service_read (Some task) c u s b) None ≡ None
unserved task c u (Some v) b other none = nothing (fits task c u)
unserved task c u None (Some v) other none = nothing (fits task c u)
unserved task c u None None other none = unlisted task c u (is_one task_names task) (is_one_or_none chain_names c) (is_one_or_none rule_names u) other refl refl refl none

-- ---- a drill that has no words in order

abbrev no_digits : Option ℕ
no_digits = None

no_number : (p : Bool) → cond p no_digits no_digits ≡ None
no_number true = refl
no_number false = refl

behind_dash_none : (least most : ℕ) (x : ℕ) (xs : Text) → (x == 45) ≡ true → number_in least most (x ∷ xs) ≡ None
behind_dash_none least most x xs e =
    subst (λ (y : ℕ). number_in least most (y ∷ xs) ≡ None) (sym (eqb-true x 45 e))
    (ap (λ (n : Option ℕ). cond (nat_le 1 (length (45 ∷ xs)) && nat_le (length (45 ∷ xs)) 20) (from_least least n) None) (none_more most xs)
    ∙ no_number (nat_le 1 (length (45 ∷ xs)) && nat_le (length (45 ∷ xs)) 20))

-- what is no word is no number
unworded : (least most : ℕ) (v : Text) → is_word v ≡ false → number_in least most v ≡ None
unworded least most [] e = refl
unworded least most (x ∷ xs) e = go (x == 45) refl
  where
    go : (is : Bool) → (x == 45) ≡ is → number_in least most (x ∷ xs) ≡ None
    go true t = behind_dash_none least most x xs t
    go false t =
        let bad : true ≡ false = rw t at e in
        cc

unstated : (least most : ℕ) (o : Option Text) → is_word_or_none o ≡ false → stated (number_in least most) o ≡ None
unstated least most None e = refl
unstated least most (Some v) e = unworded least most v e

no_blocks : (y : RuleName) (seed : Option ℕ) → drilling (Some y) seed None ≡ None
no_blocks y None = refl
no_blocks y (Some n) = refl

undrilled : (u s b : Option Text) (y p q : Bool) → is_one_or_none rule_names u ≡ y → is_word_or_none s ≡ p → is_word_or_none b ≡ q
    → ordered (req (Some (codes "drill")) None u s b) ≡ None → cond y (drill_read u s b) None ≡ None
unfolding ordered
undrilled u s b false p q ey ep eq none = refl
undrilled u s b true false q ey ep eq none = ap (λ (n : Option ℕ). drilling (Some (rule_read u)) n (stated blocks_named b)) (unstated 0 (2 ^ 64 - 1) s ep)
undrilled u s b true true false ey ep eq none =
    ap (λ (n : Option ℕ). drilling (Some (rule_read u)) (stated seed_named s) n) (unstated 1 10000 b eq) ∙ no_blocks (rule_read u) (stated seed_named s)
undrilled u s b true true true ey ep eq none =
    let bad : Some (codes "snowman" ∷ codes "drill" ∷ option_words None u s b) ≡ None = rw (one_or_none rule_names rules_are u ey, ep, eq) at none in
    cc

unfit_drill : (c u s b : Option Text) → ordered (req (Some (codes "drill")) c u s b) ≡ None → cond (fits (codes "drill") c u) (asked (codes "drill") c u s b) None ≡ None
unfit_drill (Some v) u s b none = nothing (fits (codes "drill") (Some v) u)
unfit_drill None u s b none = undrilled u s b (is_one_or_none rule_names u) (is_word_or_none s) (is_word_or_none b) refl refl refl none

abbrev IsUnfit : Text → Option Text → Option Text → Option Text → Option Text → Type 0
IsUnfit task c u s b = ordered (req (Some task) c u s b) ≡ None → cond (fits task c u) (asked task c u s b) None ≡ None

unfit : (task : Text) (c u s b : Option Text) → IsUnfit task c u s b
unfit task c u s b = go (is_drill task) refl
  where
    go : (is : Bool) → is_drill task ≡ is → IsUnfit task c u s b
    go true e = subst (λ w. IsUnfit w c u s b) (sym (same task (codes "drill") e)) (unfit_drill c u s b)
    go false e = λ none.
        ap (λ (is : Bool). cond (fits task c u) (cond is (drill_asked c u s b) (service_read (Some task) c u s b)) None) e ∙ unserved task c u s b e none

taskless : (c u s b : Option Text) → command_in (req None c u s b) ≡ None
unfolding command_in
taskless c u s b = refl

unordered : (t c u s b : Option Text) → ordered (req t c u s b) ≡ None → None ≡ command_in (req t c u s b)
unordered None c u s b none = sym (taskless c u s b)
unordered (Some task) c u s b none = sym (comes task c u s b ∙ unfit task c u s b none)

-- ---- the words

-- where no words in order come of words, they ask for nothing
pub none_in_order : (words : List Text) → None ≡ option_and_then ordered (with_items blank (items words)) → None ≡ command_of words
none_in_order words none = go (with_items blank (items words)) refl
  where
    go : (o : Option Request) → o ≡ with_items blank (items words) → None ≡ command_of words
    go None is = no_request words None is refl
    go (Some r) is = a_request words (Some r) r None is refl
        (unordered r.task r.chain r.rule r.seed r.blocks (ap (option_and_then ordered) is ∙ sym none))

-- where some come, they ask for what these ask for
asks_for : (words list : List Text) (command : Option Command) → Some list ≡ option_and_then ordered (with_items blank (items words))
    → AsksFor list command → command ≡ command_of words
asks_for words list command some is_asked = go (with_items blank (items words)) refl
  where
    go : (o : Option Request) → o ≡ with_items blank (items words) → command ≡ command_of words
    go None is =
        let bad : None ≡ Some list = ap (option_and_then ordered) is ∙ sym some in
        cc
    go (Some r) is = a_request words (Some r) r command is refl (is_asked r (ap (option_and_then ordered) is ∙ sym some))

pub asks : {E : Type 0} (words list : List Text) (r : Result (Option Command) E) → Some list ≡ option_and_then ordered (with_items blank (items words))
    → IfOk r (AsksFor list) → IfOk r (λ command. command ≡ command_of words)
asks words list r some given = IfOk-weaker r _ _ (λ command is_asked. asks_for words list command some is_asked) given
