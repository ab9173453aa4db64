-- The command that the words in order ask for, by what `clap` says of them.
use Rattle.std.proofs.Common.{◌≡◌, ◌∙◌, not, Bool, true, false, cond, ◌&&◌, ◌==◌, List, [], ◌∷◌, subst, Option, Some, None, is_some, refl, sym, ap, codes, unwrap_or}
use Rattle.clap.specs.Walk.{Row, Text, texts, first_of, rows_of}
use Rattle.clap.specs.Simple.{matches_of}
use Rattle.clap.specs.Kinds.{IsAmong}
use Rattle.clap.specs.Faults.{fault_of}
use Rattle.clap.specs.Matches.{first_value}
use Rattle.clap.specs.declared.error.kind.ErrorKind.{ErrorKind}
use Rattle.clap.specs.declared.parser.matches.Found.{Found}
use Rattle.clap.proofs.WalkLemmas.{both, first_value-rows}
use Rattle.snow_command.specs.Model.Words.{has_dash, is_drill}
use Rattle.snow_command.specs.Kept.Request.{Request, command_in}
use Rattle.snow_command.specs.Kept.Parsing.{AsksFor, Choice, command_read, drill_read, in_order, is_word, is_word_or_none, option_words, ordered, service_read, snowman, takes_chain, values_read}
use Rattle.snow_command.proofs.Ordered.{Says, matched}
use Rattle.snow_command.proofs.Faulted.{faulted}
use Rattle.snow_command.proofs.Refused.{refused, taken}
use Rattle.snow_command.proofs.Tested.{asked, chain_names, comes, drill_asked, fits, req, rule_names, task_names}

-- ---- the words in order

word_plain : (word : Text) → is_word word ≡ true → has_dash word ≡ false
word_plain [] e = refl
word_plain (x ∷ xs) e = go (x == 45) refl
  where
    go : (is : Bool) → (x == 45) ≡ is → is ≡ false
    go false t = refl
    go true t =
        let bad : false ≡ true = rw t at e in
        cc

-- the words of a request are those of its task and options
abbrev IsOrdered : Request → List Text → Type 0
IsOrdered r words = (task : Text) × (r.task ≡ Some task) × (has_dash task ≡ false) × (takes_chain task r.chain ≡ true)
    × (words ≡ codes "snowman" ∷ task ∷ option_words r.chain r.rule r.seed r.blocks)

tested : (task : Text) (r : Request) (rest : Bool) (words : List Text) → r.task ≡ Some task
    → cond (is_word task && (takes_chain task r.chain && rest)) (Some (codes "snowman" ∷ task ∷ option_words r.chain r.rule r.seed r.blocks)) None ≡ Some words
    → IsOrdered r words
tested task r rest words is e = go (is_word task && (takes_chain task r.chain && rest)) refl
  where
    go : (fit : Bool) → (is_word task && (takes_chain task r.chain && rest)) ≡ fit → IsOrdered r words
    go false f =
        let bad : None ≡ Some words = rw f at e in
        cc
    go true f =
        let given : Some (codes "snowman" ∷ task ∷ option_words r.chain r.rule r.seed r.blocks) ≡ Some words = rw f at e in
        let parts = both (is_word task) (takes_chain task r.chain && rest) f in
        (task, is, word_plain task parts.0, (both (takes_chain task r.chain) rest parts.1).0, ap (λ o. unwrap_or o []) (sym given))

ordered_is : (r : Request) (words : List Text) → ordered r ≡ Some words → IsOrdered r words
unfolding ordered
ordered_is r words e = go r.task refl
  where
    go : (o : Option Text) → r.task ≡ o → IsOrdered r words
    go None is =
        let bad : None ≡ Some words = rw is at e in
        cc
    go (Some task) is = tested task r (is_word_or_none r.chain && (is_word_or_none r.rule && (is_word_or_none r.seed && is_word_or_none r.blocks))) words is
        (ap (λ o. in_order o r) (sym is) ∙ e)

-- ---- what is read

-- a default is read as none; a drill has no chain
defaults_read : (is : Bool) (t : Text) (c u s b : Option Text) → not (is && is_some c) ≡ true
    → cond is (drill_read (Some (unwrap_or u (codes "snowball"))) s b) (service_read (Some t) (Some (unwrap_or c (codes "plain"))) (Some (unwrap_or u (codes "snowball"))) s b)
    ≡ cond is (drill_asked c u s b) (service_read (Some t) c u s b)
defaults_read true t None None s b takes = refl
defaults_read true t None (Some v) s b takes = refl
defaults_read true t (Some w) u s b takes = cc
defaults_read false t None None s b takes = refl
defaults_read false t None (Some v) s b takes = refl
defaults_read false t (Some v) None s b takes = refl
defaults_read false t (Some v) (Some w) s b takes = refl

module _ (tasks chains rules : Choice) (tasks_are : texts tasks.now ≡ task_names) (chains_are : texts chains.now ≡ chain_names) (rules_are : texts rules.now ≡ rule_names) where
  says_read : (task : Text) (c u s b : Option Text) (rows : List Row) → takes_chain task c ≡ true → Says tasks chains rules task c u s b rows
      → command_read (λ id. first_of id rows) ≡ asked task c u s b
  says_read task c u s b rows takes h = (λ i. values_read (h.0 i) (h.1 i) (h.2 i) (h.3 i) (h.4 i)) ∙ defaults_read (is_drill task) task c u s b takes

  -- at `Ok` the matches ask for what the request asks for
  pub found_asks : (words : List Text) (f : Found) → rows_of f ≡ matches_of (snowman tasks chains rules) words
      → fault_of (snowman tasks chains rules) words ≡ [] → AsksFor words (command_read (first_value f))
  found_asks words f rows none r e =
      let o = ordered_is r words e in
      let task = o.0 in
      let says : Says tasks chains rules task r.chain r.rule r.seed r.blocks (rows_of f) = subst (Says tasks chains rules task r.chain r.rule r.seed r.blocks)
      (sym (rows ∙ ap (matches_of (snowman tasks chains rules)) o.4)) (matched tasks chains rules task r.chain r.rule r.seed r.blocks o.2) in
      let fit : fits task r.chain r.rule ≡ true = taken tasks chains rules tasks_are chains_are rules_are task r.chain r.rule r.seed r.blocks
      (sym (faulted tasks chains rules task r.chain r.rule r.seed r.blocks o.2) ∙ ap (fault_of (snowman tasks chains rules)) (sym o.4) ∙ none) in
      (λ i. command_read (λ id. first_value-rows f id i))
      ∙ says_read task r.chain r.rule r.seed r.blocks (rows_of f) o.3 says
      ∙ ap (λ (is : Bool). cond is (asked task r.chain r.rule r.seed r.blocks) None) (sym fit)
      ∙ sym (comes task r.chain r.rule r.seed r.blocks)
      ∙ ap (λ t. command_in (req t r.chain r.rule r.seed r.blocks)) (sym o.1)

  -- at an error for another cause than memory the request asks for nothing
  pub nothing_asked : (words : List Text) (k : ErrorKind) → IsAmong k (fault_of (snowman tasks chains rules) words) → AsksFor words None
  nothing_asked words k among r e =
      let o = ordered_is r words e in
      let task = o.0 in
      let unfit : fits task r.chain r.rule ≡ false = refused tasks chains rules tasks_are chains_are rules_are k task r.chain r.rule r.seed r.blocks
      (subst (IsAmong k) (ap (fault_of (snowman tasks chains rules)) o.4 ∙ faulted tasks chains rules task r.chain r.rule r.seed r.blocks o.2) among) in
      ap (λ (is : Bool). cond is (asked task r.chain r.rule r.seed r.blocks) None) (sym unfit)
      ∙ sym (comes task r.chain r.rule r.seed r.blocks)
      ∙ ap (λ t. command_in (req t r.chain r.rule r.seed r.blocks)) (sym o.1)
