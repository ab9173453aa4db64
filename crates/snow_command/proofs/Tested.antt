-- The names that `clap` tests, and the command that they ask for.
use Rattle.std.proofs.Common.{◌≡◌, ◌∙◌, ℕ, Bool, true, false, cond, ◌&&◌, ◌||◌, List, [], ◌∷◌, subst, Option, Some, None, is_some, refl, sym, ap, ap₂, codes}
use Rattle.std.specs.List.{list_any}
use Rattle.std.specs.Option.{option_and_then}
use Rattle.std.specs.Str.{bytes_eq}
use Rattle.std.proofs.lemmas.Slice.Eq.{bytes_eq-Decides}
use Rattle.clap.specs.Walk.{Text}
use Rattle.snow_command.specs.declared.command.Job.{Job}
use Rattle.snow_command.specs.declared.command.Command.{Command}
use Rattle.snow_command.specs.declared.command.Command.TheVariants as command
use Rattle.snow_command.specs.declared.command.ChainName.{ChainName}
use Rattle.snow_command.specs.declared.command.ChainName.TheVariants as chain
use Rattle.snow_command.specs.declared.command.RuleName.{RuleName}
use Rattle.snow_command.specs.declared.command.RuleName.TheVariants as rule
use Rattle.snow_command.specs.Model.Words.{job_named, chain_named, rule_named, seed_named, blocks_named, streaming, drilling, is_drill}
use Rattle.snow_command.specs.Kept.Request.{Request, command_in, named_or, stated, service, service_of, drill_by}
use Rattle.snow_command.specs.Kept.Parsing.{chain_read, rule_read, job_read, drill_read, service_read}

abbrev pub task_names : List Text
task_names = codes "decide" ∷ codes "run" ∷ codes "audit" ∷ codes "drill" ∷ []

abbrev pub chain_names : List Text
chain_names = codes "plain" ∷ codes "tally" ∷ codes "ledger" ∷ []

abbrev pub rule_names : List Text
rule_names = codes "snowball" ∷ codes "snowflake" ∷ []

-- the text is one of the names
abbrev pub is_one : List Text → Text → Bool
is_one names v = list_any (λ name. bytes_eq name v) names

abbrev pub is_one_or_none : List Text → Option Text → Bool
is_one_or_none names None = true
is_one_or_none names (Some v) = is_one names v

pub same : (a b : Text) → bytes_eq a b ≡ true → a ≡ b
same a b e = (bytes_eq-Decides a b).0 e

turned : (a b : Text) → bytes_eq a b ≡ false → bytes_eq b a ≡ false
turned a b e = go (bytes_eq b a) refl
  where
    go : (is : Bool) → bytes_eq b a ≡ is → is ≡ false
    go false t = refl
    go true t =
        let bad : bytes_eq a b ≡ true = (bytes_eq-Decides a b).1 (sym (same b a t)) in
        sym bad ∙ e

abbrev ChainIs : Text → Type 0
ChainIs v = chain_named v ≡ cond (is_one chain_names v) (Some (chain_read (Some v))) None

chain_is : (v : Text) → ChainIs v
chain_is v = at_plain (bytes_eq v (codes "plain")) refl
  where
    at_ledger : (is : Bool) → bytes_eq v (codes "ledger") ≡ is → bytes_eq v (codes "tally") ≡ false → bytes_eq v (codes "plain") ≡ false → ChainIs v
    at_ledger true e tally plain = subst ChainIs (sym (same v (codes "ledger") e)) refl
    at_ledger false e tally plain =
        rw (plain, tally, e, turned v (codes "plain") plain, turned v (codes "tally") tally, turned v (codes "ledger") e) refl

    at_tally : (is : Bool) → bytes_eq v (codes "tally") ≡ is → bytes_eq v (codes "plain") ≡ false → ChainIs v
    at_tally true e plain = subst ChainIs (sym (same v (codes "tally") e)) refl
    at_tally false e plain = at_ledger (bytes_eq v (codes "ledger")) refl e plain

    at_plain : (is : Bool) → bytes_eq v (codes "plain") ≡ is → ChainIs v
    at_plain true e = subst ChainIs (sym (same v (codes "plain") e)) refl
    at_plain false e = at_tally (bytes_eq v (codes "tally")) refl e

abbrev TaskIs : Text → Type 0
TaskIs v = job_named v ≡ cond (is_one task_names v) (Some (job_read (Some v))) None

task_is : (v : Text) → is_drill v ≡ false → TaskIs v
task_is v drill = at_decide (bytes_eq v (codes "decide")) refl
  where
    at_audit : (is : Bool) → bytes_eq v (codes "audit") ≡ is → bytes_eq v (codes "run") ≡ false → bytes_eq v (codes "decide") ≡ false → TaskIs v
    at_audit true e run decide = subst TaskIs (sym (same v (codes "audit") e)) refl
    at_audit false e run decide =
        rw (decide, run, e, turned v (codes "decide") decide, turned v (codes "run") run, turned v (codes "audit") e, turned v (codes "drill") drill) refl

    at_run : (is : Bool) → bytes_eq v (codes "run") ≡ is → bytes_eq v (codes "decide") ≡ false → TaskIs v
    at_run true e decide = subst TaskIs (sym (same v (codes "run") e)) refl
    at_run false e decide = at_audit (bytes_eq v (codes "audit")) refl e decide

    at_decide : (is : Bool) → bytes_eq v (codes "decide") ≡ is → TaskIs v
    at_decide true e = subst TaskIs (sym (same v (codes "decide") e)) refl
    at_decide false e = at_run (bytes_eq v (codes "run")) refl e

abbrev RuleIs : Text → Type 0
RuleIs v = rule_named v ≡ cond (is_one rule_names v) (Some (rule_read (Some v))) None

rule_is : (v : Text) → RuleIs v
rule_is v = at_ball (bytes_eq v (codes "snowball")) refl
  where
    at_flake : (is : Bool) → bytes_eq v (codes "snowflake") ≡ is → bytes_eq v (codes "snowball") ≡ false → RuleIs v
    at_flake true e ball = subst RuleIs (sym (same v (codes "snowflake") e)) refl
    at_flake false e ball = rw (ball, e, turned v (codes "snowball") ball, turned v (codes "snowflake") e) refl

    at_ball : (is : Bool) → bytes_eq v (codes "snowball") ≡ is → RuleIs v
    at_ball true e = subst RuleIs (sym (same v (codes "snowball") e)) refl
    at_ball false e = at_flake (bytes_eq v (codes "snowflake")) refl e

chains_are : (c : Option Text) → named_or chain.Plain chain_named c ≡ cond (is_one_or_none chain_names c) (Some (chain_read c)) None
chains_are None = refl
chains_are (Some v) = chain_is v

rules_are : (u : Option Text) → named_or rule.Snowball rule_named u ≡ cond (is_one_or_none rule_names u) (Some (rule_read u)) None
rules_are None = refl
rules_are (Some v) = rule_is v

-- each word is a name
abbrev pub fits : Text → Option Text → Option Text → Bool
fits task c u = is_one task_names task && (is_one_or_none chain_names c && is_one_or_none rule_names u)

-- what tested words of a task that serves ask for
abbrev of_task : Job → Option Text → Option Text → Option Text → Option Text → Option Command
of_task t c u s b = cond (is_some s || is_some b) None (Some (command.Stream t (chain_read c) (rule_read u)))

-- what those of a drill ask for
abbrev pub drill_asked : Option Text → Option Text → Option Text → Option Text → Option Command
drill_asked None u s b = drill_read u s b
drill_asked (Some v) u s b = None

-- what tested words ask for
abbrev pub asked : Text → Option Text → Option Text → Option Text → Option Text → Option Command
asked word c u s b = cond (is_drill word) (drill_asked c u s b) (service_read (Some word) c u s b)

both : (t : Job) (x : ChainName) (y : RuleName) (p q : Bool)
    → streaming t (cond p (Some x) None) (cond q (Some y) None) ≡ cond (p && q) (Some (command.Stream t x y)) None
both t x y true true = refl
both t x y true false = refl
both t x y false q = refl

abbrev no_command : Option Command
no_command = None

nothing : (p : Bool) → no_command ≡ cond p no_command no_command
nothing true = refl
nothing false = refl

abbrev pub req : Option Text → Option Text → Option Text → Option Text → Option Text → Request
req t c u s b = record { task = t; chain = c; rule = u; seed = s; blocks = b }

-- what a request for a task asks for, where its options are names
served : (word : Text) (t : Job) (c u s b : Option Text)
    → service (req (Some word) c u s b) t ≡ cond (is_one_or_none chain_names c && is_one_or_none rule_names u) (of_task t c u s b) None
served word t c u None None = ap₂ (streaming t) (chains_are c) (rules_are u) ∙ both t (chain_read c) (rule_read u) (is_one_or_none chain_names c) (is_one_or_none rule_names u)
served word t c u None (Some v) = nothing (is_one_or_none chain_names c && is_one_or_none rule_names u)
served word t c u (Some v) b = nothing (is_one_or_none chain_names c && is_one_or_none rule_names u)

by_task : (word : Text) (c u s b : Option Text) (o : Option Job) → is_drill word ≡ false → job_named word ≡ o
    → command_in (req (Some word) c u s b) ≡ option_and_then (service (req (Some word) c u s b)) o
unfolding command_in
by_task word c u s b o other e =
    ap (λ (is : Bool). cond is (drill_by c u s b) (service_of word (req (Some word) c u s b))) other ∙ ap (option_and_then (service (req (Some word) c u s b))) e

-- a request for a task asks for what its words ask for, where each is a name
abbrev Comes : Text → Option Text → Option Text → Option Text → Option Text → Type 0
Comes word c u s b = command_in (req (Some word) c u s b) ≡ cond (fits word c u) (asked word c u s b) None

drill_both : (p : Bool) (y : RuleName) (seed blocks : Option ℕ) → drilling (cond p (Some y) None) seed blocks ≡ cond p (drilling (Some y) seed blocks) None
drill_both true y seed blocks = refl
drill_both false y seed blocks = refl

drill_comes : (c u s b : Option Text) → Comes (codes "drill") c u s b
unfolding command_in
drill_comes None u s b =
    ap (λ (r : Option RuleName). drilling r (stated seed_named s) (stated blocks_named b)) (rules_are u)
    ∙ drill_both (is_one_or_none rule_names u) (rule_read u) (stated seed_named s) (stated blocks_named b)
drill_comes (Some v) u s b = nothing (is_one chain_names v && is_one_or_none rule_names u)

serve_comes : (word : Text) (c u s b : Option Text) → is_drill word ≡ false → Comes word c u s b
serve_comes word c u s b other =
    at_name (is_one task_names word) refl
    ∙ ap (λ (is : Bool). cond (fits word c u) (cond is (drill_asked c u s b) (of_task (job_read (Some word)) c u s b)) None) (sym other)
  where
    at_name : (is : Bool) → is_one task_names word ≡ is
        → command_in (req (Some word) c u s b) ≡ cond (is_one task_names word && (is_one_or_none chain_names c && is_one_or_none rule_names u)) (of_task (job_read (Some word)) c u s b) None
    at_name true e =
        by_task word c u s b (Some (job_read (Some word))) other (task_is word other ∙ ap (λ (is : Bool). cond is (Some (job_read (Some word))) None) e)
        ∙ served word (job_read (Some word)) c u s b
        ∙ ap (λ (is : Bool). cond (is && (is_one_or_none chain_names c && is_one_or_none rule_names u)) (of_task (job_read (Some word)) c u s b) None) (sym e)
    at_name false e =
        by_task word c u s b None other (task_is word other ∙ ap (λ (is : Bool). cond is (Some (job_read (Some word))) None) e)
        ∙ ap (λ (is : Bool). cond (is && (is_one_or_none chain_names c && is_one_or_none rule_names u)) (of_task (job_read (Some word)) c u s b) None) (sym e)

pub comes : (word : Text) (c u s b : Option Text) → Comes word c u s b
comes word c u s b = at_drill (is_drill word) refl
  where
    at_drill : (is : Bool) → is_drill word ≡ is → Comes word c u s b
    at_drill true e = subst (λ w. Comes w c u s b) (sym (same word (codes "drill") e)) (drill_comes c u s b)
    at_drill false e = serve_comes word c u s b e
