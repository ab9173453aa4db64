use Rattle.std.proofs.Common.{◌≡◌, ◌+◌, ◌∷◌, drop, sym, ap, ◌∙◌, arith}
use Rattle.std.proofs.lemmas.List.{drop_more}
use Rattle.snow_base.specs.Model.Votes.{Votes}
use Rattle.snow_board.specs.Model.Board.{Board}
use Rattle.snow_board.specs.Model.Poll.{poll}
use Rattle.snow_board.specs.Clauses.Shown.{Shown}
use Rattle.snow_board.proofs.Polled.{poll_parameters}
use Rattle.snow_topo.specs.Laws.Costs.{replayed, replay_steps}
use Rattle.snow_topo.proofs.replaying.replay_counted.Goals as goal

pub loop-votes-preserved : goal.loop-votes-preserved
loop-votes-preserved g c =
    let polls = c.args.polls.now in
    let i = c.loop-votes.votes-index in
    let votes = c.votes-item.result in
    let later = drop (i + 1) polls in
    let old = c.loop-votes.board in
    let done = c.apply_counted.ensures in
    let front : drop i polls ≡ votes ∷ later = drop_more polls i votes c.loop-votes-test.true ∙ ap (λ (v : Votes). v ∷ later) (sym c.votes-item.is) in
    let went : c.apply_counted.new.self ≡ record { board = (poll old.board votes.list).0; decided = (poll old.board votes.list).1 } =
    λ j. record { board = done.board j; decided = done.decided j }
    in
    record {
      board = ap (λ (s : Shown). replayed s later) went ∙ sym (ap (replayed old) front) ∙ c.loop-votes.invariant.board;
      parameters = ap (λ (b : Board). b.parameters) done.board ∙ poll_parameters old.board votes.list ∙ c.loop-votes.invariant.parameters;
      steps =
          omega (
            arith,
            done.steps,
            ap (λ (b : Board). replay_steps b later) done.board,
            ap (replay_steps old.board) front,
            c.loop-votes.invariant.steps,
          );
    }
