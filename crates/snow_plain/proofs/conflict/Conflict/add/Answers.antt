use Rattle.std.proofs.Common.{◌≡◌, sym, ap, ◌∙◌}
use Rattle.snow_base.specs.Model.Identifier.{bits}
use Rattle.snow_board.specs.Model.Conflict.{Blank, with_child}
use Rattle.snow_plain.specs.Kept.Trees.{counters_of}
use Rattle.snow_plain.proofs.Alone.{blank_is}
use Rattle.snow_plain.proofs.Depths.{depth_added}
use Rattle.snow_plain.proofs.conflict.Conflict.add.Goals as goal

pub invariant_of-self : goal.invariant_of-self
invariant_of-self c =
    let deep = depth_added c.add.result c.args.child.now (counters_of c.spread.new.tree) (counters_of c.add.new.tree) c.spread.ensures.shallow c.add.ensures.ok c.add.ensures.err in
    rw c.spread.ensures.none (record { shallow = deep; reserve = tt })

pub invariant_of-self-2 : goal.invariant_of-self-2
invariant_of-self-2 c =
    let blank : counters_of c.spread.new.tree ≡ Blank = blank_is (counters_of c.spread.new.tree) (sym c.is_leaf.ensures ∙ c.if-not-is_leaf.false) in
    record {
      shallow = depth_added c.add-2.result c.args.child.now (counters_of c.spread.new.tree) (counters_of c.add-2.new.tree) c.spread.ensures.shallow c.add-2.ensures.ok c.add-2.ensures.err;
      reserve =
          c.in_ok-add.ensures.ok
          ∙ ap (with_child (bits c.args.child.now)) blank
          ∙ ap (λ id. with_child (bits id) Blank) (sym c.new.ensures.child);
    }
