-- Replies that aren't free are passed by, and that is remembered of them.
use Rattle.std.proofs.Common.{◌≡◌, ◌<◌, List, All, Some, cond, length, filter, find, refl, sym, ap, ◌∙◌, subst}
use Rattle.std.specs.Option.{is_some}
use Rattle.snow_gets.specs.Model.Gets.{without}
use Rattle.snow_held.specs.declared.held.Held.{Held}
use Rattle.snow_held.specs.Model.Replies.{first_new}
use Rattle.snow_lineup.specs.declared.marks.Mark.{Mark}
use Rattle.snow_lineup.specs.declared.marks.Mark.TheVariants.{New}
use Rattle.snow_lineup.specs.Kept.Marks.{has}
use Rattle.snow_issue.specs.Model.Settling.{is_free_by}
use Rattle.snow_issue.specs.Kept.Known.{items_of}
use Rattle.snow_issue.specs.Kept.Keeping.{StaysQuiet, IsWalked}
use Rattle.snow_issue.proofs.Walked.{items_quieted, quiet_quieted, fewer_new, free_found, free_taken, quiet_taken, none_free}
use Rattle.snow_issue.proofs.looking.take_free.Goals as goal
use Rattle.snow_issue.proofs.looking.take_free.Goals.{After-is_free}

pub loop-reply-init : goal.loop-reply-init
loop-reply-init c = record { same = refl; quiet = c.requires }

-- the replies as the call before left them
walked : (c : After-is_free) → IsWalked c.args.replies.now c.first.new.self (items_of c.args.waiting.now) c.args.gets.now
walked c = subst (λ (l : List (Held × Mark)). IsWalked c.args.replies.now l (items_of c.args.waiting.now) c.args.gets.now) (sym c.in-Some.ensures.same) c.loop-reply.invariant

first : (c : After-is_free) → Some c.in-Some.reply ≡ first_new c.first.new.self
first c = c.in-Some.ensures.first ∙ ap first_new (sym c.in-Some.ensures.same)

pub returns-then-is_free-clause-found : goal.returns-then-is_free-clause-found
returns-then-is_free-clause-found c =
    let after = (goal.at.returns-then-is_free-clause-found c).After-is_free in
    let w = walked after in
    c.take_first.ensures.taken
    ∙ free_found (items_of c.args.waiting.now) c.args.gets.now c.first.new.self c.in-Some.reply (first after) (sym c.is_free.ensures ∙ c.if-is_free.true) w.quiet
    ∙ ap (find (is_free_by (items_of c.args.waiting.now) c.args.gets.now)) w.same

pub returns-then-is_free-clause-left : goal.returns-then-is_free-clause-left
returns-then-is_free-clause-left c =
    let after = (goal.at.returns-then-is_free-clause-left c).After-is_free in
    let test = is_free_by (items_of c.args.waiting.now) c.args.gets.now in
    let before = items_of c.args.replies.now in
    let w = walked after in
    ap items_of c.take_first.ensures.rest
    ∙ free_taken (items_of c.args.waiting.now) c.args.gets.now c.first.new.self c.in-Some.reply (first after) (sym c.is_free.ensures ∙ c.if-is_free.true) w.quiet
    ∙ ap (without test) w.same
    ∙ ap (λ o. cond (is_some o) (without test before) before) (first after ∙ sym c.take_first.ensures.taken)

pub returns-then-is_free-clause-quiet : goal.returns-then-is_free-clause-quiet
returns-then-is_free-clause-quiet c =
    let after = (goal.at.returns-then-is_free-clause-quiet c).After-is_free in
    let Quiet = StaysQuiet (items_of c.args.waiting.now) c.args.gets.now in
    subst (λ (l : List (Held × Mark)). All Quiet l) (sym c.take_first.ensures.rest) (quiet_taken Quiet c.first.new.self (walked after).quiet)

pub loop-reply-smaller : goal.loop-reply-smaller
loop-reply-smaller c =
    let after = (goal.at.loop-reply-smaller c).After-is_free in
    subst (λ (l : List (Held × Mark)). length (filter (has New) c.mark_first_quiet.new.self) < length (filter (has New) l)) c.in-Some.ensures.same
    (subst (λ (l : List (Held × Mark)). length (filter (has New) l) < length (filter (has New) c.first.new.self)) (sym c.mark_first_quiet.ensures)
    (fewer_new c.first.new.self c.in-Some.reply (first after)))

pub loop-reply-preserved : goal.loop-reply-preserved
loop-reply-preserved c =
    let after = (goal.at.loop-reply-preserved c).After-is_free in
    let Quiet = StaysQuiet (items_of c.args.waiting.now) c.args.gets.now in
    let w = walked after in
    record {
      same = ap items_of c.mark_first_quiet.ensures ∙ items_quieted c.first.new.self ∙ w.same;
      quiet = subst (λ (l : List (Held × Mark)). All Quiet l) (sym c.mark_first_quiet.ensures)
          (quiet_quieted (items_of c.args.waiting.now) c.args.gets.now c.first.new.self c.in-Some.reply (first after) (sym c.is_free.ensures ∙ c.if-is_free.false) w.quiet);
    }

pub returns-clause-found : goal.returns-clause-found
returns-clause-found c =
    let w = c.loop-reply.invariant in
    none_free (items_of c.args.waiting.now) c.args.gets.now c.loop-reply.replies c.in_default.ensures.first w.quiet
    ∙ ap (find (is_free_by (items_of c.args.waiting.now) c.args.gets.now)) w.same

pub returns-clause-left : goal.returns-clause-left
returns-clause-left c = ap items_of c.in_default.ensures.same ∙ c.loop-reply.invariant.same

pub returns-clause-quiet : goal.returns-clause-quiet
returns-clause-quiet c =
    subst (λ (l : List (Held × Mark)). All (StaysQuiet (items_of c.args.waiting.now) c.args.gets.now) l) (sym c.in_default.ensures.same) c.loop-reply.invariant.quiet
