-- One thing more was done, nothing is left, or a stop.
use Rattle.std.proofs.Common.{◌≡◌, Bool, true, false, List, ◌++◌, append-nil, Some, None, Ok, Err, sym, ap, ◌∙◌, subst}
use Rattle.std.proofs.lemmas.Result.{err_from_is_err_and}
use Rattle.snow_flake.specs.Model.Rule.{Answer}
use Rattle.snow_chain.specs.Model.Chain.{Rules}
use Rattle.snow_lines.specs.declared.line.Line.{Line}
use Rattle.snow_issue.specs.declared.work.Work.{Work}
use Rattle.snow_issue.specs.Model.Settling.{work_of}
use Rattle.snow_node.specs.Model.Outcome.{Comes, quietly}
use Rattle.snow_node.specs.Model.Running.{Running}
use Rattle.snow_node.specs.Model.Settling.{left_to_do, without_work, done as work_done, worked, carried_out, one_settled}
use Rattle.snow_node.specs.Clauses.Stepping.{HaltsAs, Tells}
use Rattle.snow_node.proofs.Looping.{settling_falls}
use Rattle.snow_node.proofs.Made.{more, done, stopped}
use Rattle.snow_node.proofs.Sequel.{stop_first, lines_first, then_is}
use Rattle.snow_node.proofs.running.Running.settle.Goals as goal

-- what was taken out is to be done
is_carried_out : (rules : Rules) (answer : Answer) (node taken : Running) (w : Work) → Some w ≡ work_of node.queue node.board → taken ≡ without_work node (Some w)
    → carried_out rules answer taken w ≡ one_settled rules answer node
is_carried_out rules answer node taken w e is =
    ap (λ (n : Running). carried_out rules answer n w) is ∙ ap (worked rules answer node) e

-- it was done
was_done : (rules : Rules) (answer : Answer) (node taken next : Running) (w : Work) → Some w ≡ work_of node.queue node.board → taken ≡ without_work node (Some w)
    → (work_done rules answer taken w).1 ≡ Ok next → one_settled rules answer node ≡ ((work_done rules answer taken w).0, Ok (next, true))
was_done rules answer node taken next w e is made =
    sym (is_carried_out rules answer node taken w e is)
    ∙ then_is Running (Running × Bool) (work_done rules answer taken w) (λ n. quietly (n, true)) next made
    ∙ ap (λ (l : List Line). (l, Ok (next, true))) (append-nil (work_done rules answer taken w).0)

-- nothing was taken out
none_done : (rules : Rules) (answer : Answer) (node taken : Running) → None ≡ work_of node.queue node.board → taken ≡ without_work node None
    → one_settled rules answer node ≡ quietly (taken, false)
none_done rules answer node taken e is = ap (worked rules answer node) (sym e) ∙ ap (λ (n : Running). quietly (n, false)) (sym is)

pub loop-work-preserved : goal.loop-work-preserved
loop-work-preserved g c =
    let all_is = was_done g.C.Chain.rules g.B.Board.answer c.loop-work.self c.take_work.new.self c.work.new.self c.in-Some.work c.in-Some.ensures.work c.in-Some.ensures.node c.in_ok-work.ensures.answer in
    more Running left_to_do (one_settled g.C.Chain.rules g.B.Board.answer) (settling_falls g.C.Chain.rules g.B.Board.answer) c.args.self.now c.args.log.now c.loop-work.self c.loop-work.log c.loop-work.invariant c.work.new.self c.work.new.log (ap (λ (r : Comes (Running × Bool)). r.1) all_is)
    (c.in_ok-work.ensures.lines ∙ ap (λ (r : Comes (Running × Bool)). c.loop-work.log ++ r.0) (sym all_is))

pub loop-work-smaller : goal.loop-work-smaller
loop-work-smaller g c =
    settling_falls g.C.Chain.rules g.B.Board.answer c.loop-work.self c.work.new.self
    (ap (λ (r : Comes (Running × Bool)). r.1)
    (was_done g.C.Chain.rules g.B.Board.answer c.loop-work.self c.take_work.new.self c.work.new.self c.in-Some.work c.in-Some.ensures.work c.in-Some.ensures.node c.in_ok-work.ensures.answer))

pub returns-in_err-work-clause-answer : goal.returns-in_err-work-clause-answer
returns-in_err-work-clause-answer g c =
    let p = err_from_is_err_and c.from_residual.result c.from_residual.ensures.1 in
    rw (p.1, p.2) (stopped Running left_to_do (one_settled g.C.Chain.rules g.B.Board.answer) (settling_falls g.C.Chain.rules g.B.Board.answer) c.args.self.now c.args.log.now c.loop-work.self c.loop-work.log c.loop-work.invariant c.in_err-work.field-0.0 c.work.new.log
    (subst (λ (all : Comes (Running × Bool)). HaltsAs c.in_err-work.field-0.0 all.1)
    (is_carried_out g.C.Chain.rules g.B.Board.answer c.loop-work.self c.take_work.new.self c.in-Some.work c.in-Some.ensures.work c.in-Some.ensures.node)
    (stop_first Running (Running × Bool) (work_done g.C.Chain.rules g.B.Board.answer c.take_work.new.self c.in-Some.work) (λ n. quietly (n, true)) c.in_err-work.field-0.0 c.in_err-work.ensures.answer))
    (subst (λ (all : Comes (Running × Bool)). Tells {T = Bool} (Err c.in_err-work.field-0.0) c.loop-work.log c.work.new.log all.0)
    (is_carried_out g.C.Chain.rules g.B.Board.answer c.loop-work.self c.take_work.new.self c.in-Some.work c.in-Some.ensures.work c.in-Some.ensures.node)
    (lines_first Running (Running × Bool) (work_done g.C.Chain.rules g.B.Board.answer c.take_work.new.self c.in-Some.work) (λ n. quietly (n, true)) (Unit {0}) Bool c.in_err-work.field-0.0 c.loop-work.log c.work.new.log
    c.in_err-work.ensures.answer c.in_err-work.ensures.lines))).0

pub returns-in_err-work-clause-lines : goal.returns-in_err-work-clause-lines
returns-in_err-work-clause-lines g c =
    let p = err_from_is_err_and c.from_residual.result c.from_residual.ensures.1 in
    rw (p.1, p.2) (stopped Running left_to_do (one_settled g.C.Chain.rules g.B.Board.answer) (settling_falls g.C.Chain.rules g.B.Board.answer) c.args.self.now c.args.log.now c.loop-work.self c.loop-work.log c.loop-work.invariant c.in_err-work.field-0.0 c.work.new.log
    (subst (λ (all : Comes (Running × Bool)). HaltsAs c.in_err-work.field-0.0 all.1)
    (is_carried_out g.C.Chain.rules g.B.Board.answer c.loop-work.self c.take_work.new.self c.in-Some.work c.in-Some.ensures.work c.in-Some.ensures.node)
    (stop_first Running (Running × Bool) (work_done g.C.Chain.rules g.B.Board.answer c.take_work.new.self c.in-Some.work) (λ n. quietly (n, true)) c.in_err-work.field-0.0 c.in_err-work.ensures.answer))
    (subst (λ (all : Comes (Running × Bool)). Tells {T = Bool} (Err c.in_err-work.field-0.0) c.loop-work.log c.work.new.log all.0)
    (is_carried_out g.C.Chain.rules g.B.Board.answer c.loop-work.self c.take_work.new.self c.in-Some.work c.in-Some.ensures.work c.in-Some.ensures.node)
    (lines_first Running (Running × Bool) (work_done g.C.Chain.rules g.B.Board.answer c.take_work.new.self c.in-Some.work) (λ n. quietly (n, true)) (Unit {0}) Bool c.in_err-work.field-0.0 c.loop-work.log c.work.new.log
    c.in_err-work.ensures.answer c.in_err-work.ensures.lines))).1

pub returns-clause-answer : goal.returns-clause-answer
returns-clause-answer g c =
    (let all_is = none_done g.C.Chain.rules g.B.Board.answer c.loop-work.self c.take_work.new.self c.in_default.ensures.work c.in_default.ensures.node in
    done Running left_to_do (one_settled g.C.Chain.rules g.B.Board.answer) (settling_falls g.C.Chain.rules g.B.Board.answer) c.args.self.now c.args.log.now c.loop-work.self c.loop-work.log c.loop-work.invariant c.take_work.new.self c.loop-work.log (ap (λ (r : Comes (Running × Bool)). r.1) all_is)
    (sym (append-nil c.loop-work.log) ∙ ap (λ (r : Comes (Running × Bool)). c.loop-work.log ++ r.0) (sym all_is))).0

pub returns-clause-lines : goal.returns-clause-lines
returns-clause-lines g c =
    (let all_is = none_done g.C.Chain.rules g.B.Board.answer c.loop-work.self c.take_work.new.self c.in_default.ensures.work c.in_default.ensures.node in
    done Running left_to_do (one_settled g.C.Chain.rules g.B.Board.answer) (settling_falls g.C.Chain.rules g.B.Board.answer) c.args.self.now c.args.log.now c.loop-work.self c.loop-work.log c.loop-work.invariant c.take_work.new.self c.loop-work.log (ap (λ (r : Comes (Running × Bool)). r.1) all_is)
    (sym (append-nil c.loop-work.log) ∙ ap (λ (r : Comes (Running × Bool)). c.loop-work.log ++ r.0) (sym all_is))).1
