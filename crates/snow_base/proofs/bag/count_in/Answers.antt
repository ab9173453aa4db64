use Rattle.std.proofs.Common.{◌-◌, ◌∷◌, [], ◌++◌, sym, ap, ◌∙◌, arith}
use Rattle.snow_base.specs.declared.block.Vote.{Vote}
use Rattle.snow_base.proofs.Adding.{added_first, added_last}
use Rattle.snow_base.proofs.bag.count_in.Goals as goal

pub returns-then-len-eq0-clause-ok : goal.returns-then-len-eq0-clause-ok
returns-then-len-eq0-clause-ok c =
    let new : Vote = record { id = c.args.id; count = c.args.n } in
    c.push_reserved.ensures.items ∙ ap (λ votes. votes ++ new ∷ []) c.in_ok-reserve.ensures.items ∙ added_first c.args.votes.now.items c.args.id c.args.n (omega arith)

pub returns-then-eq-clause-ok : goal.returns-then-eq-clause-ok
returns-then-eq-clause-ok c =
    added_last c.args.votes.now.items c.args.id c.args.n (c.len-len.result - 1) c.index-then-word.result.now c.index_mut.result.now c.requires.order (omega arith) c.index-then-word.ensures
    (sym c.eq.ensures ∙ c.if-eq.true) c.index_mut.ensures.value
