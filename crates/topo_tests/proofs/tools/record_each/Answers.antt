use Rattle.std.proofs.Common.{◌≡◌, ap, ◌∙◌, Result, Ok, Err, OnOk, OnErr}
use Rattle.snow_base.specs.Clauses.Gathered.{one_each}
use Rattle.snow_board.specs.Model.Board.{Board}
use Rattle.snow_board.specs.Model.Poll.{poll}
use Rattle.snow_board.proofs.Polled.{poll_parameters}
use Rattle.topo_tests.proofs.tools.record_each.Goals as goal

-- a board that is another, or as before, has the parameters from before where the other has
kept : {T E : Type 0} (result : Result T E) (old new made : Board) → OnOk result (new ≡ made) → OnErr result (new ≡ old) → made.parameters ≡ old.parameters → new.parameters ≡ old.parameters
kept (Ok x) old new made ok err same = ap (λ (b : Board). b.parameters) ok ∙ same
kept (Err e) old new made ok err same = ap (λ (b : Board). b.parameters) err

pub returns : goal.returns
returns g c = kept c.apply_votes.result (g.B.Board.board c.args.board.now) (g.B.Board.board c.apply_votes.new.self)
    ((poll (g.B.Board.board c.args.board.now) (one_each c.args.ids.now)).0)
    c.apply_votes.ensures.board c.apply_votes.ensures.board_stays (poll_parameters (g.B.Board.board c.args.board.now) (one_each c.args.ids.now))
