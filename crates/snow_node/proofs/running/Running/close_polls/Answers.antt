-- A poll that leaves takes its replies with it. What its votes decided is off the board, and so is what waits.
use Rattle.std.proofs.Common.{◌≡◌, ℕ, Bool, true, false, List, [], ◌∷◌, ◌++◌, append-nil, map, Some, None, Ok, refl, ap, ◌∙◌, sym, subst}
use Rattle.std.proofs.lemmas.Result.{err_from_is_err_and}
use Rattle.snow_base.specs.declared.block.Vote.{Vote}
use Rattle.snow_flake.specs.Model.Parameters.{Parameters}
use Rattle.snow_flake.specs.Model.Rule.{Answer}
use Rattle.snow_board.specs.declared.board.Decision.{Decision}
use Rattle.snow_board.specs.Model.Board.{Board}
use Rattle.snow_board.specs.Model.Poll.{poll}
use Rattle.snow_board.specs.Model.Preference.{preferred}
use Rattle.snow_board.proofs.Cases.{split_on}
use Rattle.snow_chain.specs.Model.Chain.{Held}
use Rattle.snow_getter.specs.Model.Serving.{Serving}
use Rattle.snow_poll.specs.Model.Poll.{Poll}
use Rattle.snow_poll.specs.Model.Closing.{is_closed}
use Rattle.snow_poll.specs.Model.Table.{Table, finished, unfinished, shortened}
use Rattle.snow_issue.specs.Kept.Known.{Seen, Knows, lists_of}
use Rattle.snow_issue.specs.Model.Lists.{Lists, after_forgotten}
use Rattle.snow_issue.specs.Model.Settling.{IsIdle}
use Rattle.snow_issue.proofs.Idle.{idle_forgotten}
use Rattle.snow_node.specs.declared.running.queue_state.QueueState.{QueueState}
use Rattle.snow_node.specs.declared.stop.Halt.TheVariants as halt
use Rattle.snow_node.specs.Clauses.Matching.{IsSteady}
use Rattle.snow_node.specs.Clauses.Stepping.{LogsFront}
use Rattle.snow_node.specs.Model.Closing.{running_polls, all_gone, front_closed, one_closed}
use Rattle.snow_node.specs.Model.Outcome.{Comes, quietly}
use Rattle.snow_node.specs.Model.Running.{Running}
use Rattle.snow_node.specs.Model.Supplying.{Serves, with_decisions as serving_decisions}
use Rattle.snow_node.specs.Model.Telling.{with_decisions, decision_line, preference_line}
use Rattle.snow_node.specs.Kept.QueueState.{IsInState, when_polled}
use Rattle.snow_node.specs.Kept.Tied.{IsKept}
use Rattle.snow_node.proofs.Keeping.{kept_shortened, kept_queue_as, kept_polled}
use Rattle.snow_node.proofs.Looping.{polls_fall}
use Rattle.snow_node.proofs.Made.{Along, begins, more, done, stopped}
use Rattle.snow_node.proofs.QueueState.{kept_seats, kept_at_poll}
use Rattle.snow_node.proofs.Supplying.{serves_polled}
use Rattle.snow_node.proofs.running.Running.close_polls.Goals as goal

kept_closed : (p : Parameters) (board now : Board) (held states : Held) (table left : Table) (old forgot seen : Seen) (last number : ℕ) (k k_now : QueueState) (served served_now : Serving)
    (votes : List Vote) (gone followed : List Decision) → IsKept p board held table (lists_of old) last → IsInState board old k → Serves board served → left ≡ shortened table
    → lists_of forgot ≡ after_forgotten (lists_of old) number → ((b : Board) → Knows old b → Knows forgot b) → forgot.seats ≡ old.seats
    → now ≡ (poll board votes).0 → states ≡ with_decisions held (poll board votes).1 → IsSteady now states → now.parameters ≡ board.parameters
    → gone ≡ (poll board votes).1 → lists_of seen ≡ all_gone (lists_of forgot) gone → ((b : Board) → Knows forgot b → Knows seen b) → seen.seats ≡ forgot.seats
    → followed ≡ (poll board votes).1 → served_now ≡ serving_decisions served followed → k_now ≡ when_polled k
    → IsKept p now states left (lists_of seen) last × IsInState now seen k_now × Serves now served_now
kept_closed p board now held states table left old forgot seen last number k k_now served served_now votes gone followed kept state serves t l knows seats b h steady same d l2 knows2 seats2 d2 s e =
    let shorter = kept_shortened p board held table (lists_of old) last kept left t in
    let fewer = kept_queue_as p board held left (lists_of old) last shorter (after_forgotten (lists_of old) number) (lists_of forgot) l shorter.waiting shorter.gets in
    let still = kept_seats board old forgot k knows seats
    (λ idle. subst (λ (q : Lists). IsIdle q board) (sym l) (idle_forgotten (lists_of old) board number idle)) state in
    let went = l2 ∙ ap (all_gone (lists_of forgot)) d in (
      kept_polled p board held left (lists_of forgot) last fewer now states (poll board votes).1 (lists_of seen) steady same h went,
      subst (λ (q : QueueState). IsInState now seen q) (sym e) (kept_at_poll board now forgot seen k votes (poll board votes).1 b went knows2 seats2 still),
      serves_polled board now held states served served_now votes followed kept.steady steady b h d2 s serves,
    )

-- a poll that left was the front one, and its votes were recorded
was_closed : (answer : Answer) (node : Running) (number : ℕ) (votes : List Vote) (polls : Table) (forgot queue : Lists) (board : Board) (chain : Held) (served : Serving)
    (gone followed decided : List Decision) (before : List ℕ) → Some (number, votes) ≡ finished node.polls.parameters node.polls.polls → polls ≡ shortened node.polls
    → forgot ≡ after_forgotten node.queue number → board ≡ (poll node.board votes).0 → chain ≡ with_decisions node.chain (poll node.board votes).1
    → gone ≡ (poll node.board votes).1 → queue ≡ all_gone forgot gone → followed ≡ (poll node.board votes).1 → served ≡ serving_decisions node.served followed
    → decided ≡ (poll node.board votes).1 → before ≡ preferred answer node.board
    → one_closed answer node
    ≡ (
      map decision_line decided ++ preference_line before (preferred answer board),
      Ok (record node { board = board; chain = chain; served = served; polls = polls; queue = queue; recorded = true }, true),
    )
was_closed answer node number votes polls forgot queue board chain served gone followed decided before f p l b h d q e s t a =
    rw (q, s, p, l, b, h, d, e, t, a) (ap (front_closed answer node) (sym f))

-- no poll left
none_closed : (answer : Answer) (node : Running) (polls : Table) → None ≡ finished node.polls.parameters node.polls.polls → polls ≡ shortened node.polls
    → one_closed answer node ≡ quietly (record node { polls = polls }, false)
none_closed answer node polls f p =
    rw (p, same node.polls.polls (sym f)) (ap (front_closed answer node) (sym f))
  where
    same : (polls : List Poll) → finished node.polls.parameters polls ≡ None → unfinished node.polls.parameters polls ≡ polls
    same [] f = refl
    same (q ∷ polls) f = split_on (is_closed node.polls.parameters q) (λ t. let g = rw t at f in absurd cc) (λ t. rw t refl)

pub loop-closed-init : goal.loop-closed-init
loop-closed-init g c = (
  subst (λ (n : Running). Along Running running_polls (one_closed g.B.Board.answer) c.args.self.now c.args.log.now n c.args.log.now) (sym c.self.view_is)
      (begins Running running_polls (one_closed g.B.Board.answer) c.args.self.now c.args.log.now),
  c.self.invariant.0,
  c.self.invariant.1,
  c.self.invariant.2,
)

pub loop-closed-smaller : goal.loop-closed-smaller
loop-closed-smaller g c =
    let now : Running = record {
      board = g.B.Board.board c.loop-closed.self-inside.board;
      chain = g.C.Chain.held c.loop-closed.self-inside.chain;
      served = c.loop-closed.self-inside.served;
      roster = c.loop-closed.self-inside.roster;
      polls = c.loop-closed.self-inside.polls;
      queue = lists_of c.loop-closed.self-inside.queue;
      words = c.loop-closed.self-inside.words;
      last = c.loop-closed.self-inside.numbers;
      recorded = c.loop-closed.self-inside.recorded;
    } in
    polls_fall g.B.Board.answer now _ (ap (λ (r : Comes (Running × Bool)). r.1) (was_closed g.B.Board.answer now c.in-Some.closed.number c.in-Some.closed.votes.list c.take_back.new.self (lists_of c.forget.new.self) (lists_of c.mark_gone.new.queue) (g.B.Board.board c.apply.new.board) (g.C.Chain.held c.apply.new.chain)
    c.serve_decisions.new.served c.decisions.result.now c.decisions-in-Some.result.now (g.B.Board.decided c.apply.new.board) c.preference-before.result c.in-Some.ensures.found (c.take_back.ensures ∙ c.in-Some.ensures.table) c.forget.ensures.lists c.apply.ensures.board c.apply.ensures.held
    (c.decisions.ensures ∙ c.apply.ensures.decided) c.mark_gone.ensures.lists (c.decisions-in-Some.ensures ∙ c.apply.ensures.decided) c.serve_decisions.ensures c.apply.ensures.decided c.preference-before.ensures))

pub loop-closed-preserved : goal.loop-closed-preserved
loop-closed-preserved g c =
    let now : Running = record {
      board = g.B.Board.board c.loop-closed.self-inside.board;
      chain = g.C.Chain.held c.loop-closed.self-inside.chain;
      served = c.loop-closed.self-inside.served;
      roster = c.loop-closed.self-inside.roster;
      polls = c.loop-closed.self-inside.polls;
      queue = lists_of c.loop-closed.self-inside.queue;
      words = c.loop-closed.self-inside.words;
      last = c.loop-closed.self-inside.numbers;
      recorded = c.loop-closed.self-inside.recorded;
    } in
    let kept = kept_closed c.loop-closed.self-inside.params (g.B.Board.board c.loop-closed.self-inside.board) (g.B.Board.board c.apply.new.board) (g.C.Chain.held c.loop-closed.self-inside.chain) (g.C.Chain.held c.apply.new.chain) c.loop-closed.self-inside.polls c.take_back.new.self
    c.loop-closed.self-inside.queue c.forget.new.self c.mark_gone.new.queue c.loop-closed.self-inside.numbers c.in-Some.closed.number c.loop-closed.self-inside.queue_state c.polled-self-inside.result c.loop-closed.self-inside.served c.serve_decisions.new.served
    c.in-Some.closed.votes.list c.decisions.result.now c.decisions-in-Some.result.now c.loop-closed.invariant.1 c.loop-closed.invariant.2 c.loop-closed.invariant.3 (c.take_back.ensures ∙ c.in-Some.ensures.table)
    c.forget.ensures.lists c.forget.ensures.knows c.forget.ensures.seats c.apply.ensures.board c.apply.ensures.held c.apply.ensures.steady c.apply.ensures.parameters
    (c.decisions.ensures ∙ c.apply.ensures.decided) c.mark_gone.ensures.lists c.mark_gone.ensures.knows c.mark_gone.ensures.seats (c.decisions-in-Some.ensures ∙ c.apply.ensures.decided) c.serve_decisions.ensures c.polled-self-inside.ensures in
    let all_is = was_closed g.B.Board.answer now c.in-Some.closed.number c.in-Some.closed.votes.list c.take_back.new.self (lists_of c.forget.new.self) (lists_of c.mark_gone.new.queue) (g.B.Board.board c.apply.new.board) (g.C.Chain.held c.apply.new.chain)
    c.serve_decisions.new.served c.decisions.result.now c.decisions-in-Some.result.now (g.B.Board.decided c.apply.new.board) c.preference-before.result c.in-Some.ensures.found (c.take_back.ensures ∙ c.in-Some.ensures.table) c.forget.ensures.lists c.apply.ensures.board c.apply.ensures.held
    (c.decisions.ensures ∙ c.apply.ensures.decided) c.mark_gone.ensures.lists (c.decisions-in-Some.ensures ∙ c.apply.ensures.decided) c.serve_decisions.ensures c.apply.ensures.decided c.preference-before.ensures in (
      more Running running_polls (one_closed g.B.Board.answer) (polls_fall g.B.Board.answer) c.args.self.now c.args.log.now now c.loop-closed.log c.loop-closed.invariant.0 _ c.tell.new.log
          (ap (λ (r : Comes (Running × Bool)). r.1) all_is) (c.in_ok-tell.ensures.ok ∙ ap (λ (r : Comes (Running × Bool)). c.loop-closed.log ++ r.0) (sym all_is)),
      kept.0,
      kept.1,
      kept.2,
    )

pub invariant_of-self : goal.invariant_of-self
invariant_of-self g c =
    kept_closed c.loop-closed.self-inside.params (g.B.Board.board c.loop-closed.self-inside.board) (g.B.Board.board c.apply.new.board) (g.C.Chain.held c.loop-closed.self-inside.chain) (g.C.Chain.held c.apply.new.chain) c.loop-closed.self-inside.polls c.take_back.new.self
    c.loop-closed.self-inside.queue c.forget.new.self c.mark_gone.new.queue c.loop-closed.self-inside.numbers c.in-Some.closed.number c.loop-closed.self-inside.queue_state c.polled-self-inside.result c.loop-closed.self-inside.served c.serve_decisions.new.served
    c.in-Some.closed.votes.list c.decisions.result.now c.decisions-in-Some.result.now c.loop-closed.invariant.1 c.loop-closed.invariant.2 c.loop-closed.invariant.3 (c.take_back.ensures ∙ c.in-Some.ensures.table)
    c.forget.ensures.lists c.forget.ensures.knows c.forget.ensures.seats c.apply.ensures.board c.apply.ensures.held c.apply.ensures.steady c.apply.ensures.parameters
    (c.decisions.ensures ∙ c.apply.ensures.decided) c.mark_gone.ensures.lists c.mark_gone.ensures.knows c.mark_gone.ensures.seats (c.decisions-in-Some.ensures ∙ c.apply.ensures.decided) c.serve_decisions.ensures c.polled-self-inside.ensures

pub returns-in_err-tell-clause-lines : goal.returns-in_err-tell-clause-lines
returns-in_err-tell-clause-lines g c =
    let p = err_from_is_err_and c.from_residual.result c.from_residual.ensures.1 in
    let now : Running = record {
      board = g.B.Board.board c.loop-closed.self-inside.board;
      chain = g.C.Chain.held c.loop-closed.self-inside.chain;
      served = c.loop-closed.self-inside.served;
      roster = c.loop-closed.self-inside.roster;
      polls = c.loop-closed.self-inside.polls;
      queue = lists_of c.loop-closed.self-inside.queue;
      words = c.loop-closed.self-inside.words;
      last = c.loop-closed.self-inside.numbers;
      recorded = c.loop-closed.self-inside.recorded;
    } in
    let all_is = was_closed g.B.Board.answer now c.in-Some.closed.number c.in-Some.closed.votes.list c.take_back.new.self (lists_of c.forget.new.self) (lists_of c.mark_gone.new.queue) (g.B.Board.board c.apply.new.board) (g.C.Chain.held c.apply.new.chain)
    c.serve_decisions.new.served c.decisions.result.now c.decisions-in-Some.result.now (g.B.Board.decided c.apply.new.board) c.preference-before.result c.in-Some.ensures.found (c.take_back.ensures ∙ c.in-Some.ensures.table) c.forget.ensures.lists c.apply.ensures.board c.apply.ensures.held
    (c.decisions.ensures ∙ c.apply.ensures.decided) c.mark_gone.ensures.lists (c.decisions-in-Some.ensures ∙ c.apply.ensures.decided) c.serve_decisions.ensures c.apply.ensures.decided c.preference-before.ensures in
    rw (p.1, p.2) (stopped Running running_polls (one_closed g.B.Board.answer) (polls_fall g.B.Board.answer) c.args.self.now c.args.log.now now c.loop-closed.log c.loop-closed.invariant.0
    halt.Memory c.tell.new.log tt (subst (λ (r : Comes (Running × Bool)). LogsFront c.loop-closed.log c.tell.new.log r.0) (sym all_is) c.in_err-tell.ensures.err)).1

pub invariant_of-self-in_default : goal.invariant_of-self-in_default
invariant_of-self-in_default g c = (
  kept_shortened c.loop-closed.self-inside.params (g.B.Board.board c.loop-closed.self-inside.board) (g.C.Chain.held c.loop-closed.self-inside.chain) c.loop-closed.self-inside.polls (lists_of c.loop-closed.self-inside.queue) c.loop-closed.self-inside.numbers c.loop-closed.invariant.1 c.take_finished.new.self c.in_default.ensures.table,
  c.loop-closed.invariant.2,
  c.loop-closed.invariant.3,
)

pub returns-clause-answer : goal.returns-clause-answer
returns-clause-answer g c =
    let now : Running = record {
      board = g.B.Board.board c.loop-closed.self-inside.board;
      chain = g.C.Chain.held c.loop-closed.self-inside.chain;
      served = c.loop-closed.self-inside.served;
      roster = c.loop-closed.self-inside.roster;
      polls = c.loop-closed.self-inside.polls;
      queue = lists_of c.loop-closed.self-inside.queue;
      words = c.loop-closed.self-inside.words;
      last = c.loop-closed.self-inside.numbers;
      recorded = c.loop-closed.self-inside.recorded;
    } in
    let all_is = none_closed g.B.Board.answer now c.take_finished.new.self c.in_default.ensures.found c.in_default.ensures.table in
    (done Running running_polls (one_closed g.B.Board.answer) (polls_fall g.B.Board.answer) c.args.self.now c.args.log.now now c.loop-closed.log c.loop-closed.invariant.0 _ c.loop-closed.log
    (ap (λ (r : Comes (Running × Bool)). r.1) all_is) (sym (append-nil c.loop-closed.log) ∙ ap (λ (r : Comes (Running × Bool)). c.loop-closed.log ++ r.0) (sym all_is))).0

pub returns-clause-lines : goal.returns-clause-lines
returns-clause-lines g c =
    let now : Running = record {
      board = g.B.Board.board c.loop-closed.self-inside.board;
      chain = g.C.Chain.held c.loop-closed.self-inside.chain;
      served = c.loop-closed.self-inside.served;
      roster = c.loop-closed.self-inside.roster;
      polls = c.loop-closed.self-inside.polls;
      queue = lists_of c.loop-closed.self-inside.queue;
      words = c.loop-closed.self-inside.words;
      last = c.loop-closed.self-inside.numbers;
      recorded = c.loop-closed.self-inside.recorded;
    } in
    let all_is = none_closed g.B.Board.answer now c.take_finished.new.self c.in_default.ensures.found c.in_default.ensures.table in
    (done Running running_polls (one_closed g.B.Board.answer) (polls_fall g.B.Board.answer) c.args.self.now c.args.log.now now c.loop-closed.log c.loop-closed.invariant.0 _ c.loop-closed.log
    (ap (λ (r : Comes (Running × Bool)). r.1) all_is) (sym (append-nil c.loop-closed.log) ∙ ap (λ (r : Comes (Running × Bool)). c.loop-closed.log ++ r.0) (sym all_is))).1
