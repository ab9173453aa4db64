-- Blocks that can wait on are remembered to be quiet, and where all are nothing is to be done.
use Rattle.std.proofs.Common.{◌≡◌, ℕ, ◌<◌, ◌==◌, Bool, true, false, ◌||◌, cond, List, [], ◌∷◌, length, find, Some, None, bytes_eq, refl, sym, ap, ◌∙◌, arith}
use Rattle.std.specs.Option.{option_map}
use Rattle.std.proofs.lemmas.Bool.Decides.{nat_tests}
use Rattle.snow_base.specs.declared.block.Header.{Header}
use Rattle.snow_board.specs.Model.Board.{Board}
use Rattle.snow_board.proofs.Cases.{same_id}
use Rattle.snow_issue.specs.declared.work.Waiting.{Waiting}
use Rattle.snow_gets.specs.declared.gets.Get.{Get}
use Rattle.snow_held.specs.declared.held.Held.{Held}
use Rattle.snow_issue.specs.declared.work.Work.TheVariants as work
use Rattle.snow_lineup.specs.declared.marks.Mark.{Mark}
use Rattle.snow_lineup.specs.declared.marks.Mark.TheVariants.{Quiet, Ripe}
use Rattle.snow_gets.specs.Model.Gets.{asked_in}
use Rattle.snow_issue.specs.Model.Lists.{waits_below}
use Rattle.snow_issue.specs.Model.Offering.{is_on}
use Rattle.snow_issue.specs.Model.Settling.{is_free, IsIdle}
use Rattle.snow_issue.specs.Kept.Known.{Seen, items_of, Knows, NoneNew, NoneRipe, lists_of, sight}
use Rattle.snow_issue.proofs.Resting.{resting}

quiet : (on other : Bool) → on ≡ false → other ≡ true → cond on (Some Ripe) (cond other (Some Quiet) None) ≡ Some Quiet
quiet true other off busy = absurd cc
quiet false true off busy = refl
quiet false false off busy = absurd cc

-- a look tells that a block can wait on whose parent is off the board, and asked for or waiting right below it
pub sees_quiet : (waiting : List Waiting) (gets : List Get) (board : Board) (block : Header) (parent : List ℕ) → bytes_eq block.parent parent ≡ true → is_on board parent ≡ false
    → (asked_in gets block.parent || waits_below waiting block) ≡ true → sight waiting gets board block ≡ Some Quiet
sees_quiet waiting gets board block parent same off busy =
    quiet (is_on board block.parent) (asked_in gets block.parent || waits_below waiting block)
    (ap (λ (id : List ℕ). is_on board id) (same_id block.parent parent same) ∙ off) busy

-- where something is remembered of each block, none is ripe and no reply is held, nothing is to be done
pub all_quiet_idle : (s : Seen) (board : Board) → Knows s board → NoneNew s.seats → NoneRipe s.seats → s.held ≡ [] → IsIdle (lists_of s) board
all_quiet_idle s board knows new ripe empty =
    sym (resting s board knows new ripe)
    ∙ ap (λ (held : List Held). option_map work.Vote (find (is_free (lists_of s)) held)) empty

-- where their number is zero, none is held
pub none_held : (replies : List (Held × Mark)) (n : ℕ) → n ≡ length replies → (n == 0) ≡ true → items_of replies ≡ []
none_held [] n e t = refl
none_held (r ∷ replies) n e t = let zero : n ≡ 0 = grind (arith, nat_tests) in absurd (omega (arith, e, zero))
