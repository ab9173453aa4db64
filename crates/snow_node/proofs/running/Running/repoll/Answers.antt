-- One query more, the last one, or a stop.
use Rattle.std.proofs.Common.{◌≡◌, Bool, true, false, cond, ◌++◌, append-nil, Ok, Err, sym, ap, ◌∙◌, subst, rules}
use Rattle.std.proofs.lemmas.Bool.Decides.{nat_tests}
use Rattle.std.proofs.lemmas.Result.{err_from_is_err_and}
use Rattle.snow_flake.specs.Model.Rule.{Answer}
use Rattle.snow_node.specs.Model.Outcome.{Comes, quietly}
use Rattle.snow_node.specs.Model.Querying.{queried, lacks_polls, lacking, one_repolled}
use Rattle.snow_node.specs.Model.Running.{Running}
use Rattle.snow_node.specs.Clauses.Stepping.{HaltsAs, Tells}
use Rattle.snow_node.proofs.Looping.{repolls_fall}
use Rattle.snow_node.proofs.Made.{more, done, stopped}
use Rattle.snow_node.proofs.running.Running.repoll.Goals as goal

-- where polls are lacking there is a query
asks : (answer : Answer) (node : Running) → lacks_polls node ≡ true → queried answer node ≡ one_repolled answer node
asks answer node lacks = ap (λ (b : Bool). cond b (queried answer node) (quietly (node, false))) (sym lacks)

-- else there is none
asks_none : (answer : Answer) (node : Running) → lacks_polls node ≡ false → one_repolled answer node ≡ quietly (node, false)
asks_none answer node lacks = ap (λ (b : Bool). cond b (queried answer node) (quietly (node, false))) lacks

pub returns-in_err-query-clause-answer : goal.returns-in_err-query-clause-answer
returns-in_err-query-clause-answer g c =
    let lacks : lacks_polls c.loop-self.self ≡ true = search (rules, nat_tests) in
    let p = err_from_is_err_and c.from_residual.result c.from_residual.ensures.1 in
    let s = c.in_err-query.field-0.0 in
    rw (p.1, p.2) (stopped Running lacking (one_repolled g.B.Board.answer) (repolls_fall g.B.Board.answer) c.args.self.now c.args.log.now c.loop-self.self c.loop-self.log c.loop-self.invariant
    s c.query.new.log (subst (λ (all : Comes (Running × Bool)). HaltsAs s all.1) (asks g.B.Board.answer c.loop-self.self lacks) c.in_err-query.ensures.answer)
    (subst (λ (all : Comes (Running × Bool)). Tells {T = Bool} (Err s) c.loop-self.log c.query.new.log all.0) (asks g.B.Board.answer c.loop-self.self lacks) c.in_err-query.ensures.lines)).0

pub returns-in_err-query-clause-lines : goal.returns-in_err-query-clause-lines
returns-in_err-query-clause-lines g c =
    let lacks : lacks_polls c.loop-self.self ≡ true = search (rules, nat_tests) in
    let p = err_from_is_err_and c.from_residual.result c.from_residual.ensures.1 in
    let s = c.in_err-query.field-0.0 in
    rw (p.1, p.2) (stopped Running lacking (one_repolled g.B.Board.answer) (repolls_fall g.B.Board.answer) c.args.self.now c.args.log.now c.loop-self.self c.loop-self.log c.loop-self.invariant
    s c.query.new.log (subst (λ (all : Comes (Running × Bool)). HaltsAs s all.1) (asks g.B.Board.answer c.loop-self.self lacks) c.in_err-query.ensures.answer)
    (subst (λ (all : Comes (Running × Bool)). Tells {T = Bool} (Err s) c.loop-self.log c.query.new.log all.0) (asks g.B.Board.answer c.loop-self.self lacks) c.in_err-query.ensures.lines)).1

pub returns-then-not-branch-clause-answer : goal.returns-then-not-branch-clause-answer
returns-then-not-branch-clause-answer g c =
    let lacks : lacks_polls c.loop-self.self ≡ true = search (rules, nat_tests) in
    (done Running lacking (one_repolled g.B.Board.answer) (repolls_fall g.B.Board.answer) c.args.self.now c.args.log.now c.loop-self.self c.loop-self.log c.loop-self.invariant
    c.query.new.self c.query.new.log (ap (λ (r : Comes (Running × Bool)). r.1) (sym (asks g.B.Board.answer c.loop-self.self lacks)) ∙ c.in_ok-query.ensures.answer ∙ ap (λ (b : Bool). Ok (c.query.new.self, b)) c.if-not-branch.true)
    (c.in_ok-query.ensures.lines ∙ ap (λ (r : Comes (Running × Bool)). c.loop-self.log ++ r.0) (asks g.B.Board.answer c.loop-self.self lacks))).0

pub returns-then-not-branch-clause-lines : goal.returns-then-not-branch-clause-lines
returns-then-not-branch-clause-lines g c =
    let lacks : lacks_polls c.loop-self.self ≡ true = search (rules, nat_tests) in
    (done Running lacking (one_repolled g.B.Board.answer) (repolls_fall g.B.Board.answer) c.args.self.now c.args.log.now c.loop-self.self c.loop-self.log c.loop-self.invariant
    c.query.new.self c.query.new.log (ap (λ (r : Comes (Running × Bool)). r.1) (sym (asks g.B.Board.answer c.loop-self.self lacks)) ∙ c.in_ok-query.ensures.answer ∙ ap (λ (b : Bool). Ok (c.query.new.self, b)) c.if-not-branch.true)
    (c.in_ok-query.ensures.lines ∙ ap (λ (r : Comes (Running × Bool)). c.loop-self.log ++ r.0) (asks g.B.Board.answer c.loop-self.self lacks))).1

pub loop-self-preserved : goal.loop-self-preserved
loop-self-preserved g c =
    let lacks : lacks_polls c.loop-self.self ≡ true = search (rules, nat_tests) in
    more Running lacking (one_repolled g.B.Board.answer) (repolls_fall g.B.Board.answer) c.args.self.now c.args.log.now c.loop-self.self c.loop-self.log c.loop-self.invariant
    c.query.new.self c.query.new.log (ap (λ (r : Comes (Running × Bool)). r.1) (sym (asks g.B.Board.answer c.loop-self.self lacks)) ∙ c.in_ok-query.ensures.answer ∙ ap (λ (b : Bool). Ok (c.query.new.self, b)) c.if-not-branch.false)
    (c.in_ok-query.ensures.lines ∙ ap (λ (r : Comes (Running × Bool)). c.loop-self.log ++ r.0) (asks g.B.Board.answer c.loop-self.self lacks))

pub returns-else-len-repolls-clause-answer : goal.returns-else-len-repolls-clause-answer
returns-else-len-repolls-clause-answer g c =
    let lacks : lacks_polls c.loop-self.self ≡ false = search (rules, nat_tests) in
    let none = asks_none g.B.Board.answer c.loop-self.self lacks in
    (done Running lacking (one_repolled g.B.Board.answer) (repolls_fall g.B.Board.answer) c.args.self.now c.args.log.now c.loop-self.self c.loop-self.log c.loop-self.invariant
    c.loop-self.self c.loop-self.log (ap (λ (r : Comes (Running × Bool)). r.1) none) (sym (append-nil c.loop-self.log) ∙ ap (λ (r : Comes (Running × Bool)). c.loop-self.log ++ r.0) (sym none))).0

pub returns-else-len-repolls-clause-lines : goal.returns-else-len-repolls-clause-lines
returns-else-len-repolls-clause-lines g c =
    let lacks : lacks_polls c.loop-self.self ≡ false = search (rules, nat_tests) in
    let none = asks_none g.B.Board.answer c.loop-self.self lacks in
    (done Running lacking (one_repolled g.B.Board.answer) (repolls_fall g.B.Board.answer) c.args.self.now c.args.log.now c.loop-self.self c.loop-self.log c.loop-self.invariant
    c.loop-self.self c.loop-self.log (ap (λ (r : Comes (Running × Bool)). r.1) none) (sym (append-nil c.loop-self.log) ∙ ap (λ (r : Comes (Running × Bool)). c.loop-self.log ++ r.0) (sym none))).1

pub returns-after-loop-self-clause-answer : goal.returns-after-loop-self-clause-answer
returns-after-loop-self-clause-answer g c =
    let lacks : lacks_polls c.loop-self.self ≡ false = search (rules, nat_tests) in
    let none = asks_none g.B.Board.answer c.loop-self.self lacks in
    (done Running lacking (one_repolled g.B.Board.answer) (repolls_fall g.B.Board.answer) c.args.self.now c.args.log.now c.loop-self.self c.loop-self.log c.loop-self.invariant
    c.loop-self.self c.loop-self.log (ap (λ (r : Comes (Running × Bool)). r.1) none) (sym (append-nil c.loop-self.log) ∙ ap (λ (r : Comes (Running × Bool)). c.loop-self.log ++ r.0) (sym none))).0

pub returns-after-loop-self-clause-lines : goal.returns-after-loop-self-clause-lines
returns-after-loop-self-clause-lines g c =
    let lacks : lacks_polls c.loop-self.self ≡ false = search (rules, nat_tests) in
    let none = asks_none g.B.Board.answer c.loop-self.self lacks in
    (done Running lacking (one_repolled g.B.Board.answer) (repolls_fall g.B.Board.answer) c.args.self.now c.args.log.now c.loop-self.self c.loop-self.log c.loop-self.invariant
    c.loop-self.self c.loop-self.log (ap (λ (r : Comes (Running × Bool)). r.1) none) (sym (append-nil c.loop-self.log) ∙ ap (λ (r : Comes (Running × Bool)). c.loop-self.log ++ r.0) (sym none))).1
