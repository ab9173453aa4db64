use Rattle.std.proofs.Common.{List, sym, ◌∙◌, subst, arith}
use Rattle.snow_base.specs.declared.block.Vote.{Vote}
use Rattle.snow_plain.specs.Kept.Alone.{AreFor}
use Rattle.snow_plain.proofs.Alone.{one_for, only_vote}
use Rattle.snow_plain.proofs.only_child.count_for.Goals as goal

pub returns-in-len1 : goal.returns-in-len1
returns-in-len1 c =
    let vote = c.vote-item.result in
    subst (λ (l : List Vote). AreFor l c.args.child.now vote.count) (sym (only_vote c.args.votes.now vote (omega arith) c.vote-item.is))
    (one_for vote c.args.child.now (sym c.eq.ensures ∙ c.if-eq.true))
