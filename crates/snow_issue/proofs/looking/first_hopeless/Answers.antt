-- Blocks that aren't hopeless are passed by, and what a look tells is remembered of them.
use Rattle.std.proofs.Common.{◌≡◌, ◌<◌, ◌||◌, Some, length, get_or, set, sym, ap, ◌∙◌, arith}
use Rattle.std.specs.List.{position_or_len}
use Rattle.snow_issue.specs.declared.work.Waiting.{Waiting}
use Rattle.snow_lineup.specs.declared.marks.Mark.{Mark}
use Rattle.snow_gets.specs.Model.Gets.{asked_in}
use Rattle.snow_issue.specs.Model.Lists.{waits_below}
use Rattle.snow_issue.specs.Model.Offering.{is_on}
use Rattle.snow_issue.specs.Model.Settling.{is_hopeless_by}
use Rattle.snow_issue.specs.Kept.Known.{items_of, sight}
use Rattle.snow_issue.proofs.Looked.{known_not_hopeless, none_passing, first_passing_at, smaller_after, items_after_set, tells_after, never_new, is_lost}
use Rattle.snow_issue.proofs.looking.first_hopeless.Goals as goal

pub returns-then-at-len-clause-first : goal.returns-then-at-len-clause-first
returns-then-at-len-clause-first g c =
    let board = g.B.Board.board c.args.board.now in
    let seats = c.loop-at.waiting in
    let items = items_of c.args.waiting.now in
    none_passing (is_hopeless_by (items_of seats) c.args.gets.now board) seats c.first-at.result
    (known_not_hopeless (items_of seats) c.args.gets.now board seats c.loop-at.invariant.tells) c.first-at.ensures.at
    (omega (arith, c.if-at-len.true, c.len.ensures, ap (λ l. length l) c.first-at.ensures.same))
    ∙ ap (λ l. position_or_len (is_hopeless_by l c.args.gets.now board) l) c.loop-at.invariant.same

pub returns-in-None-clause-first : goal.returns-in-None-clause-first
returns-in-None-clause-first g c =
    let board = g.B.Board.board c.args.board.now in
    let gets = c.args.gets.now in
    let seats = c.loop-at.waiting in
    let at = c.first-at.result in
    let sees : (d : Waiting × Mark) → sight (items_of seats) gets board (get_or seats at d).0.header ≡ c.look.result =
    λ d. ap (λ h. sight (items_of seats) gets board h) (sym (c.header.ensures d ∙ ap (λ l. (get_or l at d).0.header) c.first-at.ensures.same))
    ∙ ap (λ l. sight (items_of l) gets board c.header.result.now) (sym c.first-at.ensures.same) ∙ sym c.look.ensures in
    first_passing_at (is_hopeless_by (items_of seats) gets board) seats at (known_not_hopeless (items_of seats) gets board seats c.loop-at.invariant.tells) c.first-at.ensures.at
    (omega (arith, c.if-at-len.false, c.len.ensures, ap (λ l. length l) c.first-at.ensures.same))
    (λ d. is_lost (items_of seats) gets board (get_or seats at d).0 (sees d ∙ c.in-None.is))
    ∙ ap (λ l. position_or_len (is_hopeless_by l gets board) l) c.loop-at.invariant.same

pub loop-at-smaller : goal.loop-at-smaller
loop-at-smaller g c =
    let board = g.B.Board.board c.args.board.now in
    let gets = c.args.gets.now in
    let seats = c.loop-at.waiting in
    let at = c.first-at.result in
    let head = c.header.result.now in
    let seen : sight (items_of seats) gets board head ≡ Some c.in-Some.mark = ap (λ l. sight (items_of l) gets board head) (sym c.first-at.ensures.same) ∙ sym c.look.ensures ∙ c.in-Some.is in
    smaller_after seats c.set.new.self at c.in-Some.mark
    (never_new (is_on board head.parent) (asked_in gets head.parent || waits_below (items_of seats) head) c.in-Some.mark seen) c.first-at.ensures.at
    (omega (arith, c.if-at-len.false, c.len.ensures, ap (λ l. length l) c.first-at.ensures.same))
    (λ d. c.set.ensures d ∙ ap (λ l. set l at ((get_or l at d).0, c.in-Some.mark)) c.first-at.ensures.same)

pub loop-at-preserved : goal.loop-at-preserved
loop-at-preserved g c =
    let board = g.B.Board.board c.args.board.now in
    let gets = c.args.gets.now in
    let seats = c.loop-at.waiting in
    let at = c.first-at.result in
    let mark = c.in-Some.mark in
    let there : at < length seats = omega (arith, c.if-at-len.false, c.len.ensures, ap (λ l. length l) c.first-at.ensures.same) in
    let after : (d : Waiting × Mark) → c.set.new.self ≡ set seats at ((get_or seats at d).0, mark) =
    λ d. c.set.ensures d ∙ ap (λ l. set l at ((get_or l at d).0, mark)) c.first-at.ensures.same in
    let sees : (d : Waiting × Mark) → sight (items_of seats) gets board (get_or seats at d).0.header ≡ Some mark =
    λ d. ap (λ h. sight (items_of seats) gets board h) (sym (c.header.ensures d ∙ ap (λ l. (get_or l at d).0.header) c.first-at.ensures.same))
    ∙ ap (λ l. sight (items_of l) gets board c.header.result.now) (sym c.first-at.ensures.same) ∙ sym c.look.ensures ∙ c.in-Some.is in
    record {
      same = items_after_set seats c.set.new.self at mark there after ∙ c.loop-at.invariant.same;
      tells = tells_after gets board seats c.set.new.self at mark there after sees c.loop-at.invariant.tells;
    }
