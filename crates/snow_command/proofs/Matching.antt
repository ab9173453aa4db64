-- What a parse of the words in order finds, and where it fails.
use Rattle.std.proofs.Common.{◌≡◌, true, List, refl, subst, Result}
use Rattle.std.specs.Prelude.{IfOk}
use Rattle.std.proofs.lemmas.Result.{IfOk-weaker}
use Rattle.clap.specs.Walk.{Text, rows_of}
use Rattle.clap.specs.Simple.{App, HasMatchesOf, matches_of}
use Rattle.clap.specs.Matches.{found_of}
use Rattle.clap.specs.Kinds.{FailsBy}
use Rattle.clap.specs.Faults.{fault_of, is_simple_and_free}
use Rattle.clap.specs.declared.error.Error.{Error}
use Rattle.clap.specs.declared.parser.matches.ArgMatches.{ArgMatches}
use Rattle.snow_command.specs.Kept.Parsing.{Choice, snowman}

module _ (tasks chains rules : Choice) (a : App) (is : a ≡ snowman tasks chains rules) (words : List Text) where
  pub rows_are : (r : Result ArgMatches Error) → IfOk r (HasMatchesOf a words)
      → IfOk r (λ m. rows_of (found_of m) ≡ matches_of (snowman tasks chains rules) words)
  rows_are r h = IfOk-weaker r _ _ (λ m has. (has refl).0) (subst (λ b. IfOk r (HasMatchesOf b words)) is h)

  pub faults_are : (r : Result ArgMatches Error) → (is_simple_and_free a ≡ true → FailsBy (fault_of a words) r)
      → FailsBy (fault_of (snowman tasks chains rules) words) r
  faults_are r h = (subst (λ b. is_simple_and_free b ≡ true → FailsBy (fault_of b words) r) is h) refl
