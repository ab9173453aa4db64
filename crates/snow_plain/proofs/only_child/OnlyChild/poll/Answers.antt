use Rattle.snow_plain.proofs.Alone.{polled_alone}
use Rattle.snow_plain.proofs.only_child.OnlyChild.poll.Goals as goal

pub returns-in-Some-clause-polled : goal.returns-in-Some-clause-polled
returns-in-Some-clause-polled c = λ _.
    polled_alone c.args.params.now c.in-Some.count c.args.self.now.counter c.apply.new.self c.args.self.now.child c.args.votes.now
    (rw c.in-Some.is at c.count_for.ensures) c.apply.ensures
