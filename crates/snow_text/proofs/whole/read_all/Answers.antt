-- The first piece, one piece more, and each end of the reading.
use Rattle.std.proofs.Common.{rules, ◌≡◌, Ok, ap, ◌∙◌, length, take, arith}
use Rattle.std.proofs.lemmas.List.{length-take-le}
use Rattle.std.proofs.lemmas.Result.{err_from_is_err_and}
use Rattle.snow_text.proofs.Taken.{on_begun, on_ended, on_limit, on_next, on_refused, on_stopped}
use Rattle.snow_text.proofs.whole.read_all.Goals as goal

pub loop-room-init : goal.loop-room-init
loop-room-init g c =
    let first : c.args.text.now.lines.number ≡ 1 = ap (λ s. s.lines.number) c.requires.begun in
    record {
      on = on_begun (g.S.Source.left c.args.source.now) c.args.text.now c.requires.begun;
      number = omega (arith, first);
      later = search rules;
      some = c.requires.room;
    }

pub returns-in_err-end-clause-told : goal.returns-in_err-end-clause-told
returns-in_err-end-clause-told g c =
    let none = c.if-taken-eq0.true in
    let took = rw none at c.in-Ok.ensures.took in
    let e = err_from_is_err_and c.from_residual.result c.from_residual.ensures.1 in
    rw (e.1, e.2) (on_refused (g.S.Source.left c.args.source.now) (g.S.Source.left c.loop-room.source) (g.S.Source.left c.read_piece.new.source) c.loop-room.text c.loop-room.room
    c.end.new.self.lines.stream c.end.new.self.lines.stream c.in_err-end.field-0.0 c.loop-room.invariant.on took (c.read_piece.ensures.none (c.in-Ok.is ∙ ap Ok none)) c.in_err-end.ensures)

pub returns-then-taken-eq0-clause-told : goal.returns-then-taken-eq0-clause-told
returns-then-taken-eq0-clause-told g c =
    let none = c.if-taken-eq0.true in
    let took = rw none at c.in-Ok.ensures.took in
    on_ended (g.S.Source.left c.args.source.now) (g.S.Source.left c.loop-room.source) (g.S.Source.left c.read_piece.new.source) c.loop-room.text c.loop-room.room
    c.end.new.self.lines.stream c.loop-room.invariant.on took (c.read_piece.ensures.none (c.in-Ok.is ∙ ap Ok none)) c.in_ok-end.ensures

pub returns-in_err-piece-clause-told : goal.returns-in_err-piece-clause-told
returns-in_err-piece-clause-told g c =
    let e = err_from_is_err_and c.from_residual-in_err-piece.result c.from_residual-in_err-piece.ensures.1 in
    rw (e.1, e.2) (on_stopped (g.S.Source.left c.args.source.now) (g.S.Source.left c.loop-room.source) (g.S.Source.left c.read_piece.new.source) c.loop-room.text c.piece.new.self c.loop-room.room
    (take c.in-Ok.taken c.read_piece.new.buffer) c.piece.new.self.lines.stream c.in_err-piece.field-0.0 c.loop-room.invariant.on c.in-Ok.ensures.took c.in_err-piece.ensures.steps)

pub loop-room-preserved : goal.loop-room-preserved
loop-room-preserved g c =
    let long : length (take c.in-Ok.taken c.read_piece.new.buffer) ≡ c.in-Ok.taken = length-take-le c.in-Ok.taken c.read_piece.new.buffer c.in-Ok.ensures.fits in
    record {
      on = on_next (g.S.Source.left c.args.source.now) (g.S.Source.left c.loop-room.source) (g.S.Source.left c.read_piece.new.source) c.loop-room.text c.piece.new.self c.loop-room.room c.in-Ok.taken
          (take c.in-Ok.taken c.read_piece.new.buffer) c.loop-room.invariant.on c.in-Ok.ensures.took long c.in-Ok.ensures.few c.in_ok-piece.ensures.steps;
      number = omega (arith, c.loop-room.invariant.number, c.in_ok-piece.ensures.number, long, c.in-Ok.ensures.few);
      later = search rules;
      some = omega (arith, c.loop-room.invariant.some, c.read_piece.ensures.long);
    }

pub returns-clause-told : goal.returns-clause-told
returns-clause-told g c =
    on_limit (g.S.Source.left c.args.source.now) (g.S.Source.left c.loop-room.source) c.loop-room.text c.loop-room.room c.loop-room.text.lines.stream c.loop-room.invariant.on (search rules)
