use Rattle.snow_recent.proofs.heads.Heads.new.Goals as goal

pub invariant_of-result : goal.invariant_of-result
invariant_of-result c = record { bits = 6; is = c.in_ok-numbers.ensures.count; most = c.in_ok-numbers.ensures.room }
