-- Each turn replaces a block by the parent that stands for it.
use Rattle.std.proofs.Common.{◌≡◌, ℕ, ◌-◌, ◌+◌, suc, Bool, true, false, List, sym, ap, ◌∙◌, arith}
use Rattle.std.specs.Str.{bytes_eq}
use Rattle.snow_issue.specs.Model.Bubbling.{bubbled_in}
use Rattle.snow_issue.proofs.Bubbled.{bubbled_pending, bubbled_last, bubbled_lost, bubbled_up, bubbled_end}
use Rattle.snow_issue.proofs.bubbling.bubble.Goals as goal

-- the last accepted block, by its name
last : (a b id : List ℕ) (answer : Bool) → a ≡ b → bytes_eq a id ≡ answer → bytes_eq b id ≡ answer
last a b id answer same h = sym (ap (λ k. bytes_eq k id) same) ∙ h

pub returns-then-is_pending : goal.returns-then-is_pending
returns-then-is_pending g c =
    let board = g.B.Board.board c.args.board.now in
    sym (bubbled_pending (8192 - c.loop.counter) c.args.gone.now board c.loop.at (sym c.is_pending.ensures ∙ c.if-is_pending.true)) ∙ c.loop.invariant

pub returns-then-eq : goal.returns-then-eq
returns-then-eq g c =
    let board = g.B.Board.board c.args.board.now in
    sym (bubbled_last (8192 - c.loop.counter) c.args.gone.now board c.loop.at (sym c.is_pending.ensures ∙ c.if-is_pending.false) (last c.last.result board.last c.loop.at true c.last.ensures (sym c.eq.ensures ∙ c.if-eq.true))) ∙ c.loop.invariant

pub returns-in_default : goal.returns-in_default
returns-in_default g c =
    let board = g.B.Board.board c.args.board.now in
    sym (bubbled_lost (8192 - c.loop.counter) c.args.gone.now board c.loop.at (sym c.is_pending.ensures ∙ c.if-is_pending.false) (last c.last.result board.last c.loop.at false c.last.ensures (sym c.eq.ensures ∙ c.if-eq.false)) (sym c.stands_for.ensures ∙ c.in_default.is)) ∙ c.loop.invariant

pub loop-preserved : goal.loop-preserved
loop-preserved g c =
    let board = g.B.Board.board c.args.board.now in
    let next : 8192 - c.loop.counter ≡ suc (8192 - (c.loop.counter + 1)) = omega (arith, c.loop-test.true) in
    sym (bubbled_up (8192 - (c.loop.counter + 1)) c.args.gone.now board c.loop.at c.in-Some.parent (sym c.is_pending.ensures ∙ c.if-is_pending.false) (last c.last.result board.last c.loop.at false c.last.ensures (sym c.eq.ensures ∙ c.if-eq.false)) (sym c.stands_for.ensures ∙ c.in-Some.is))
    ∙ ap (λ n. bubbled_in n c.args.gone.now board c.loop.at) (sym next) ∙ c.loop.invariant

pub returns-then-is_pending-2 : goal.returns-then-is_pending-2
returns-then-is_pending-2 g c =
    let board = g.B.Board.board c.args.board.now in
    sym (bubbled_pending (8192 - c.loop.counter) c.args.gone.now board c.loop.at (sym c.is_pending-2.ensures ∙ c.if-is_pending-2.true)) ∙ c.loop.invariant

pub returns : goal.returns
returns g c =
    let board = g.B.Board.board c.args.board.now in
    let none : 8192 - c.loop.counter ≡ 0 = omega (arith, c.loop-test.false) in
    sym (bubbled_end c.args.gone.now board c.loop.at (sym c.is_pending-2.ensures ∙ c.if-is_pending-2.false))
    ∙ ap (λ n. bubbled_in n c.args.gone.now board c.loop.at) (sym none) ∙ c.loop.invariant
