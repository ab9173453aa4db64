-- What is known of that which a queue remembers is kept by each thing that a node does.
use Rattle.std.proofs.Common.{◌≡◌, ℕ, Bool, true, false, List, [], ◌∷◌, Option, Some, None, bytes_eq, refl, sym, ap, ◌∙◌, subst}
use Rattle.snow_base.specs.declared.block.Header.{Header}
use Rattle.snow_base.specs.declared.block.Vote.{Vote}
use Rattle.snow_board.specs.declared.board.Decision.{Decision}
use Rattle.snow_board.specs.Model.Board.{Board, issued}
use Rattle.snow_board.specs.Model.Poll.{poll}
use Rattle.snow_board.proofs.Cases.{split_on, same_id}
use Rattle.snow_issue.specs.declared.work.Work.{Work}
use Rattle.snow_issue.specs.declared.work.Work.TheVariants as work
use Rattle.snow_issue.specs.Kept.Known.{Seen, lists_of, Knows, ForgetsChildren, NoneRipe, MarksAfter}
use Rattle.snow_issue.specs.Model.Lists.{Lists, after_gone}
use Rattle.snow_issue.specs.Model.Settling.{work_of, after, IsIdle}
use Rattle.snow_issue.proofs.Idle.{idle_polled}
use Rattle.snow_issue.proofs.Remembered.{tells_issued, tells_polled}
use Rattle.snow_node.specs.Model.Closing.{all_gone}
use Rattle.snow_node.specs.declared.running.queue_state.QueueState.{QueueState}
use Rattle.snow_node.specs.declared.running.queue_state.QueueState.TheVariants as state
use Rattle.snow_node.specs.Kept.QueueState.{IsInState, when_taken, when_woken, when_looked, when_next, when_issued, when_polled}

-- no block is looked at again, and no more is to be done
pub kept_seats : (board : Board) (old now : Seen) (k : QueueState) → ((b : Board) → Knows old b → Knows now b) → now.seats ≡ old.seats
    → (IsIdle (lists_of old) board → IsIdle (lists_of now) board) → IsInState board old k → IsInState board now k
kept_seats board old now state.Stale knows same idle r = tt
kept_seats board old now state.Accurate knows same idle r = knows board r
kept_seats board old now state.NoneReady knows same idle r = (knows board r.0, subst NoneRipe (sym same) r.1)
kept_seats board old now state.Settled knows same idle r = (knows board r.0, subst NoneRipe (sym same) r.1, idle r.2)
kept_seats board old now (state.Issuing id) knows same idle r = (knows board r.0, subst (ForgetsChildren id) (sym same) r.1)

-- some are
pub kept_woken : (board : Board) (old now : Seen) (k : QueueState) → ((b : Board) → Knows old b → Knows now b) → (NoneRipe old.seats → NoneRipe now.seats) → IsInState board old k
    → IsInState board now (when_woken k)
kept_woken board old now state.Stale knows ripe r = tt
kept_woken board old now state.Accurate knows ripe r = knows board r
kept_woken board old now state.NoneReady knows ripe r = (knows board r.0, ripe r.1)
kept_woken board old now state.Settled knows ripe r = (knows board r.0, ripe r.1)
kept_woken board old now (state.Issuing id) knows ripe r = knows board r.0

-- some were looked at
pub kept_looked : (board : Board) (old now : Seen) (k : QueueState) (idle : Bool) → (Knows old board → Knows now board) → (NoneRipe old.seats → NoneRipe now.seats)
    → (idle ≡ true → NoneRipe now.seats) → (idle ≡ true → Knows now board → IsIdle (lists_of now) board) → IsInState board old k → IsInState board now (when_looked k idle)
kept_looked board old now state.Stale true knows ripe calm idle r = tt
kept_looked board old now state.Accurate true knows ripe calm idle r = (knows r, calm refl, idle refl (knows r))
kept_looked board old now state.NoneReady true knows ripe calm idle r = (knows r.0, calm refl, idle refl (knows r.0))
kept_looked board old now state.Settled true knows ripe calm idle r = (knows r.0, calm refl, idle refl (knows r.0))
kept_looked board old now (state.Issuing id) true knows ripe calm idle r = (knows r.0, calm refl, idle refl (knows r.0))
kept_looked board old now state.Stale false knows ripe calm idle r = tt
kept_looked board old now state.Accurate false knows ripe calm idle r = knows r
kept_looked board old now state.NoneReady false knows ripe calm idle r = (knows r.0, ripe r.1)
kept_looked board old now state.Settled false knows ripe calm idle r = (knows r.0, ripe r.1)
kept_looked board old now (state.Issuing id) false knows ripe calm idle r = knows r.0

-- those are that wait for this block
pub kept_next : (board : Board) (old now : Seen) (k : QueueState) (id : List ℕ) → ((b : Board) → Knows old b → Knows now b) → ForgetsChildren id now.seats → IsInState board old k
    → IsInState board now (when_next k id)
kept_next board old now state.Stale id knows forgets r = tt
kept_next board old now state.Accurate id knows forgets r = (knows board r, forgets)
kept_next board old now state.NoneReady id knows forgets r = (knows board r.0, forgets)
kept_next board old now state.Settled id knows forgets r = (knows board r.0, forgets)
kept_next board old now (state.Issuing ready) id knows forgets r = (knows board r.0, forgets)

-- nothing changed
pub kept_seen : (board : Board) (old now : Seen) (k : QueueState) → now ≡ old → IsInState board old k → IsInState board now k
kept_seen board old now k same r = subst (λ (s : Seen). IsInState board s k) (sym same) r

-- a block was issued
pub kept_at_issue : (board now : Board) (seen : Seen) (k : QueueState) (block : Header) → now ≡ issued board block → IsInState board seen k → IsInState now seen (when_issued k block.id)
kept_at_issue board now seen state.Stale block e r = tt
kept_at_issue board now seen state.Accurate block e r = tt
kept_at_issue board now seen state.NoneReady block e r = tt
kept_at_issue board now seen state.Settled block e r = tt
kept_at_issue board now seen (state.Issuing ready) block e r =
    split_on (bytes_eq ready block.id)
    (λ t. rw t (subst (λ (b : Board). Knows seen b) (sym e) (tells_issued seen board block r.0 (subst (λ (id : List ℕ). ForgetsChildren id seen.seats) (same_id ready block.id t) r.1))))
    (λ t. rw t tt)

-- blocks that went leave nothing to be done
idle_gone : (queue : Lists) (board : Board) (decisions : List Decision) → IsIdle queue board → IsIdle (all_gone queue decisions) board
idle_gone queue board [] idle = idle
idle_gone queue board (d ∷ decisions) idle = idle_gone (after_gone queue (record { id = d.id; parent = None })) board decisions idle

-- a poll was recorded
pub kept_at_poll : (board now : Board) (old seen : Seen) (k : QueueState) (votes : List Vote) (decisions : List Decision) → now ≡ (poll board votes).0 → lists_of seen ≡ all_gone (lists_of old) decisions
    → ((b : Board) → Knows old b → Knows seen b) → seen.seats ≡ old.seats → IsInState board old k → IsInState now seen (when_polled k)
kept_at_poll board now old seen state.Stale votes decisions e l knows same r = tt
kept_at_poll board now old seen state.Accurate votes decisions e l knows same r = tt
kept_at_poll board now old seen (state.Issuing id) votes decisions e l knows same r = tt
kept_at_poll board now old seen state.NoneReady votes decisions e l knows same r =
    (knows now (subst (λ (b : Board). Knows old b) (sym e) (tells_polled old board votes r.0 r.1)), subst NoneRipe (sym same) r.1)
kept_at_poll board now old seen state.Settled votes decisions e l knows same r =
    let idle = subst (λ (b : Board). IsIdle (lists_of old) b) (sym e) (idle_polled (lists_of old) board votes r.2) in (
      knows now (subst (λ (b : Board). Knows old b) (sym e) (tells_polled old board votes r.0 r.1)),
      subst NoneRipe (sym same) r.1,
      subst (λ (q : Lists). IsIdle q now) (sym l) (idle_gone (lists_of old) now decisions idle),
    )

-- something was taken out
pub kept_taken : (board : Board) (before : Lists) (seen : Seen) (o : Option Work) → o ≡ work_of before board → lists_of seen ≡ after before board o
    → Knows seen board → MarksAfter o seen.seats → IsInState board seen (when_taken o)
kept_taken board before seen None e l knows marks = (knows, marks, ap (λ (q : Lists). work_of q board) l ∙ sym e)
kept_taken board before seen (Some (work.Hopeless w)) e l knows marks = knows
kept_taken board before seen (Some (work.Ready w)) e l knows marks = (knows, marks)
kept_taken board before seen (Some (work.Vote h)) e l knows marks = (knows, marks)
