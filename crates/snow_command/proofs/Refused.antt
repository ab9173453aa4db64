-- Where no kind of error comes, each word is a name; and where one comes, some word is none.
use Rattle.std.proofs.Common.{◌≡◌, ◌∙◌, Bool, true, false, cond, ◌&&◌, List, [], ◌∷◌, ◌++◌, subst, Option, Some, None, refl, sym, ap, codes}
use Rattle.std.specs.Prelude.{⊤}
use Rattle.std.specs.Str.{bytes_eq}
use Rattle.clap.specs.Walk.{Text, texts}
use Rattle.clap.specs.Kinds.{IsAmong, Kinds, or_else}
use Rattle.clap.specs.ValueTests.{accepts}
use Rattle.clap.specs.declared.builder.value_parser.ValueParser.TheVariants as parser
use Rattle.clap.specs.declared.error.kind.ErrorKind.{ErrorKind}
use Rattle.clap.specs.declared.error.kind.ErrorKind.TheVariants.{InvalidValue}
use Rattle.clap.proofs.WalkLemmas.{both, list_any-map}
use Rattle.snow_command.specs.Kept.Parsing.{Choice}
use Rattle.snow_command.proofs.Faulted.{fault_end, fault_given, fault_left, fault_open, fault_turns, values_fault}
use Rattle.snow_command.proofs.Tested.{chain_names, fits, is_one, is_one_or_none, rule_names, task_names}

-- ---- steps without a kind

parts : (a b : Kinds) → or_else a b ≡ [] → (a ≡ []) × (b ≡ [])
parts [] b e = (refl, e)
parts (k ∷ ks) b e = cc

whole : (a b : Kinds) → a ≡ [] → b ≡ [] → or_else a b ≡ []
whole a b first second = rw first second

-- no step has a kind
abbrev AllNone : List Kinds → Type 0
AllNone [] = ⊤
AllNone (k ∷ ks) = (k ≡ []) × AllNone ks

joined : (xs ys : List Kinds) → AllNone xs → AllNone ys → AllNone (xs ++ ys)
joined [] ys h k = k
joined (x ∷ xs) ys h k = (h.0, joined xs ys h.1 k)

turns_parts : (own : List Kinds) → fault_turns [] own ≡ [] → AllNone own
turns_parts [] e = tt
turns_parts (k ∷ ks) e =
    let p = parts (or_else k []) (fault_turns [] ks) e in
    ((parts k [] p.0).0, turns_parts ks p.1)

turns_whole : (own : List Kinds) → AllNone own → fault_turns [] own ≡ []
turns_whole [] h = refl
turns_whole (k ∷ ks) h = whole (or_else k []) (fault_turns [] ks) (whole k [] h.0 refl) (turns_whole ks h.1)

-- the kinds of a task, of the options that stand, and of those that are left
abbrev kinds_of : Kinds → List Kinds → Kinds → Kinds
kinds_of task own left = or_else (fault_turns task own) (or_else (fault_end task own) (or_else left []))

kinds_parts : (task : Kinds) (own : List Kinds) (left : Kinds) → kinds_of task own left ≡ [] → (task ≡ []) × AllNone own
kinds_parts task [] left e = ((parts task (or_else left []) e).0, tt)
kinds_parts task (k ∷ ks) left e =
    let p = parts (or_else (or_else (or_else task k) []) (fault_turns [] ks)) (or_else left []) e in
    let q = parts (or_else (or_else task k) []) (fault_turns [] ks) p.0 in
    let r = parts (or_else task k) [] q.0 in
    let s = parts task k r.0 in
    (s.0, (s.1, turns_parts ks q.1))

kinds_whole : (task : Kinds) (own : List Kinds) (left : Kinds) → task ≡ [] → AllNone own → left ≡ [] → kinds_of task own left ≡ []
kinds_whole task [] left t h l = whole task (or_else left []) t (whole left [] l refl)
kinds_whole task (k ∷ ks) left t h l =
    whole (or_else (or_else (or_else task k) []) (fault_turns [] ks)) (or_else left [])
    (whole (or_else (or_else task k) []) (fault_turns [] ks) (whole (or_else task k) [] (whole task k t h.0) refl) (turns_whole ks h.1))
    (whole left [] l refl)

-- ---- names

abbrev passes : Choice → Text → Bool
passes choice v = accepts false (parser.Names choice) v

passes_is : (choice : Choice) (names : List Text) → texts choice.now ≡ names → (v : Text) → passes choice v ≡ is_one names v
passes_is choice names are v = list_any-map (λ name. bytes_eq name v) (λ s. s.now) choice.now ∙ ap (λ xs. is_one xs v) are

passed : (is : Bool) → or_else (cond is [] (InvalidValue ∷ [])) [] ≡ [] → is ≡ true
passed true e = refl
passed false e = cc

passing : (is : Bool) → is ≡ true → or_else (cond is [] (InvalidValue ∷ [])) [] ≡ []
passing is e = rw e refl

one_named : (choice : Choice) (names : List Text) → texts choice.now ≡ names → (v : Text) → values_fault choice v ≡ [] → is_one names v ≡ true
one_named choice names are v e = sym (passes_is choice names are v) ∙ passed (passes choice v) e

named_one : (choice : Choice) (names : List Text) → texts choice.now ≡ names → (v : Text) → is_one names v ≡ true → values_fault choice v ≡ []
named_one choice names are v e = passing (passes choice v) (passes_is choice names are v ∙ e)

given_named : (choice : Choice) (names : List Text) → texts choice.now ≡ names → (o : Option Text) (more : List Kinds)
    → AllNone (fault_given choice o ++ more) → (is_one_or_none names o ≡ true) × AllNone more
given_named choice names are None more h = (refl, h)
given_named choice names are (Some v) more h = (one_named choice names are v h.0, h.1)

named_given : (choice : Choice) (names : List Text) → texts choice.now ≡ names → (o : Option Text) → is_one_or_none names o ≡ true
    → AllNone (fault_given choice o)
named_given choice names are None e = tt
named_given choice names are (Some v) e = (named_one choice names are v e, tt)

open_none : (s b : Option Text) → AllNone (fault_open s ++ fault_open b)
open_none None None = tt
open_none None (Some w) = (refl, tt)
open_none (Some v) None = (refl, tt)
open_none (Some v) (Some w) = (refl, (refl, tt))

left_none : (choice : Choice) (names : List Text) → texts choice.now ≡ names → (default : Text) → is_one names default ≡ true → (o : Option Text)
    → fault_left choice default o ≡ []
left_none choice names are default e None = named_one choice names are default e
left_none choice names are default e (Some v) = refl

and_true : (a b : Bool) → a ≡ true → b ≡ true → (a && b) ≡ true
and_true a b x y = rw x y

module _ (tasks chains rules : Choice) (tasks_are : texts tasks.now ≡ task_names) (chains_are : texts chains.now ≡ chain_names) (rules_are : texts rules.now ≡ rule_names) where
  abbrev kinds_for : Text → Option Text → Option Text → Option Text → Option Text → Kinds
  kinds_for task c u s b = kinds_of (values_fault tasks task) (fault_given chains c ++ (fault_given rules u ++ (fault_open s ++ fault_open b)))
      (or_else (fault_left chains (codes "plain") c) (or_else (fault_left rules (codes "snowball") u) []))

  -- where no kind comes, each word is a name
  pub taken : (task : Text) (c u s b : Option Text) → kinds_for task c u s b ≡ [] → fits task c u ≡ true
  taken task c u s b e =
      let p = kinds_parts (values_fault tasks task) (fault_given chains c ++ (fault_given rules u ++ (fault_open s ++ fault_open b))) _ e in
      let q = given_named chains chain_names chains_are c (fault_given rules u ++ (fault_open s ++ fault_open b)) p.1 in
      let r = given_named rules rule_names rules_are u (fault_open s ++ fault_open b) q.1 in
      and_true (is_one task_names task) _ (one_named tasks task_names tasks_are task p.0) (and_true (is_one_or_none chain_names c) _ q.0 r.0)

  none_comes : (task : Text) (c u s b : Option Text) → fits task c u ≡ true → kinds_for task c u s b ≡ []
  none_comes task c u s b e =
      let p = both (is_one task_names task) _ e in
      let q = both (is_one_or_none chain_names c) _ p.1 in
      kinds_whole (values_fault tasks task) (fault_given chains c ++ (fault_given rules u ++ (fault_open s ++ fault_open b)))
      (or_else (fault_left chains (codes "plain") c) (or_else (fault_left rules (codes "snowball") u) []))
      (named_one tasks task_names tasks_are task p.0)
      (joined (fault_given chains c) _ (named_given chains chain_names chains_are c q.0)
      (joined (fault_given rules u) _ (named_given rules rule_names rules_are u q.1) (open_none s b)))
      (whole (fault_left chains (codes "plain") c) (or_else (fault_left rules (codes "snowball") u) []) (left_none chains chain_names chains_are (codes "plain") refl c)
      (whole (fault_left rules (codes "snowball") u) [] (left_none rules rule_names rules_are (codes "snowball") refl u) refl))

  -- where one comes, some word is none
  pub refused : (k : ErrorKind) (task : Text) (c u s b : Option Text) → IsAmong k (kinds_for task c u s b) → fits task c u ≡ false
  refused k task c u s b among = go (fits task c u) refl
    where
      go : (is : Bool) → fits task c u ≡ is → is ≡ false
      go false e = refl
      go true e =
          let bad : IsAmong k [] = subst (IsAmong k) (none_comes task c u s b e) among in
          absurd bad
