-- How far a queue's marks of its waiting blocks can be trusted.
use Rattle.std.specs.Prelude.{ℕ, Bool, true, false, List, Option, Some, None, bytes_eq, if◌then◌else◌}
use Rattle.snow_board.specs.Model.Board.{Board}
use Rattle.snow_issue.specs.declared.work.Work.{Work}
use Rattle.snow_issue.specs.declared.work.Work.TheVariants as work
use Rattle.snow_issue.specs.Kept.Known.{Seen, lists_of, Knows, ForgetsChildren, NoneRipe}
use Rattle.snow_issue.specs.Model.Settling.{IsIdle}
use Rattle.snow_node.specs.declared.running.queue_state.QueueState.{QueueState}
use Rattle.snow_node.specs.declared.running.queue_state.QueueState.TheVariants as state

-- what each state says of a queue
abbrev pub IsInState : Board → Seen → QueueState → Type 0
IsInState board seen state.Stale = Unit {0}
IsInState board seen state.Accurate = Knows seen board
IsInState board seen state.NoneReady = Knows seen board × NoneRipe seen.seats
IsInState board seen state.Settled = Knows seen board × NoneRipe seen.seats × IsIdle (lists_of seen) board
IsInState board seen (state.Issuing id) = Knows seen board × ForgetsChildren id seen.seats

-- the state once this was taken out
abbrev pub when_taken : Option Work → QueueState
when_taken None = state.Settled
when_taken (Some (work.Hopeless w)) = state.Accurate
when_taken (Some (work.Ready w)) = state.Issuing w.header.id
when_taken (Some (work.Vote h)) = state.NoneReady

-- once some blocks or replies are to be looked at
abbrev pub when_woken : QueueState → QueueState
when_woken state.Stale = state.Stale
when_woken state.Accurate = state.Accurate
when_woken state.NoneReady = state.NoneReady
when_woken state.Settled = state.NoneReady
when_woken (state.Issuing id) = state.Accurate

-- this, where the marks were true of the board
abbrev pub unless_stale : QueueState → QueueState → QueueState
unless_stale state.Stale now = state.Stale
unless_stale state.Accurate now = now
unless_stale state.NoneReady now = now
unless_stale state.Settled now = now
unless_stale (state.Issuing id) now = now

-- once some were looked at, and whether it is plain that nothing is to be done
abbrev pub when_looked : QueueState → Bool → QueueState
when_looked k true = unless_stale k state.Settled
when_looked k false = when_woken k

-- once nothing is remembered of the children of this block, which may then be issued
abbrev pub when_next : QueueState → List ℕ → QueueState
when_next k id = unless_stale k (state.Issuing id)

-- once this block was issued
abbrev pub when_issued : QueueState → List ℕ → QueueState
when_issued state.Stale id = state.Stale
when_issued state.Accurate id = state.Stale
when_issued state.NoneReady id = state.Stale
when_issued state.Settled id = state.Stale
when_issued (state.Issuing ready) id = if bytes_eq ready id then state.Accurate else state.Stale

-- once a poll was recorded
abbrev pub when_polled : QueueState → QueueState
when_polled state.Stale = state.Stale
when_polled state.Accurate = state.Stale
when_polled state.NoneReady = state.NoneReady
when_polled state.Settled = state.Settled
when_polled (state.Issuing id) = state.Stale
