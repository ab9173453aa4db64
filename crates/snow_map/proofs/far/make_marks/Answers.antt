use Rattle.std.proofs.Common.{arith, ◌-◌, ◌++◌, false, replicate, ap, ◌∙◌}
use Rattle.std.specs.Vec.{vec_len}
use Rattle.std.proofs.lemmas.List.{take_all}
use Rattle.snow_map.specs.Kept.Placed.{is_marked}
use Rattle.snow_map.proofs.Kept.{marks_behind}
use Rattle.snow_map.proofs.far.make_marks.Goals as goal

pub returns-in_ok-resize-clause-same : goal.returns-in_ok-resize-clause-same
returns-in_ok-resize-clause-same c at =
    ap (λ marks. is_marked marks at) (c.in_ok-resize.ensures.items ∙ ap (λ marks. marks ++ replicate (4096 - vec_len c.args.marks.now) false) (take_all 4096 c.args.marks.now.items (omega arith)))
    ∙ marks_behind c.args.marks.now.items (4096 - vec_len c.args.marks.now) at
