-- One unit is chosen among all.
use Rattle.std.proofs.lemmas.Result.{err_from_is_err_and}
use Rattle.snow_sample.proofs.Drawing.{one_draw, one_fails}
use Rattle.snow_sample.proofs.sampling.draw_one.Goals as goal

pub returns-in_default-clause-fault : goal.returns-in_default-clause-fault
returns-in_default-clause-fault c =
    (one_fails c.args.roster.now c.args.words.now c.requires.enough (rw c.total.ensures.total at c.in_default.ensures.chosen), c.in_default.ensures.out)

pub returns-in_err-push_first-clause-fault : goal.returns-in_err-push_first-clause-fault
returns-in_err-push_first-clause-fault c =
    let fault = err_from_is_err_and c.from_residual.result c.from_residual.ensures.1 in
    rw (fault.1, fault.2) c.choose.ensures.rest

pub returns-clause-sample : goal.returns-clause-sample
returns-clause-sample c =
    let drawn = one_draw c.args.roster.now c.in-Some.unit c.args.words.now c.choose.new.self c.requires.enough
    (rw c.total.ensures.total at c.in-Some.ensures.chosen) (rw c.total.ensures.total at c.in-Some.ensures.within) c.choose.ensures.rest in
    rw (rw (c.nodes.ensures.nodes, c.requires.empty, c.place-at.ensures.owner c.index-nodes-at.result) at c.in_ok-push_first.ensures.ok) drawn.sample
