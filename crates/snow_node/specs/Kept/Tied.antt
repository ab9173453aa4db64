-- What ties the board, the chain, the polls and the queue of a node that runs.
use Rattle.std.specs.Prelude.{◌≡◌, ℕ, ◌-◌, ◌^◌, ◌<◌, ◌≤◌, length, false, List, [], ◌∷◌, None}
use Rattle.snow_base.specs.declared.limits.TheConstants.{MOST_GETS}
use Rattle.snow_base.specs.declared.block.Header.{Header}
use Rattle.snow_flake.specs.Model.Parameters.{Parameters}
use Rattle.snow_board.specs.Model.Board.{Board, height_of}
use Rattle.snow_chain.specs.Model.Chain.{Held}
use Rattle.snow_poll.specs.Model.Table.{Table}
use Rattle.snow_issue.specs.declared.work.Waiting.{Waiting}
use Rattle.snow_issue.specs.declared.work.Work.{Work}
use Rattle.snow_issue.specs.declared.work.Work.TheVariants as work
use Rattle.snow_issue.specs.Model.Lists.{Lists, waits_among, is_asked}
use Rattle.snow_issue.specs.Model.Offering.{is_on}
use Rattle.snow_node.specs.Clauses.Matching.{IsSteady}

-- blocks that wait are off the board, and no two have one identifier
abbrev pub AreOff : Board → List Waiting → Type 0
AreOff board [] = Unit {0}
AreOff board (w ∷ waiting) =
    (height_of board w.header.id ≡ None) × (waits_among waiting w.header.id ≡ false) × AreOff board waiting

-- a block is off the board, and none with its identifier waits
pub record IsApart (board : Board) (waiting : List Waiting) (id : List ℕ) : Type 0 where
  pub off : height_of board id ≡ None
  pub other : waits_among waiting id ≡ false

-- neither a block nor its parent is on the board
abbrev pub AreBothOff : Board → Header → Type 0
AreBothOff board block = (is_on board block.id ≡ false) × (is_on board block.parent ≡ false)

-- what was taken out of the queue can be done
abbrev pub MayWork : Board → Lists → Work → Type 0
MayWork board queue (work.Hopeless w) = Unit {0}
MayWork board queue (work.Ready w) = IsApart board queue.waiting w.header.id
MayWork board queue (work.Vote reply) = Unit {0}

-- a block may be asked for: there is room for one get more, and it isn't asked for yet
pub record MayFetch (queue : Lists) (id : List ℕ) : Type 0 where
  pub room : length queue.gets < MOST_GETS
  pub new : is_asked queue id ≡ false

-- no number of these items is greater
abbrev pub AreAtMost : {A : Type 0} → (A → ℕ) → ℕ → List A → Type 0
AreAtMost number n [] = Unit {0}
AreAtMost number n (x ∷ items) = (number x ≤ n) × AreAtMost number n items

-- board and chain belong together; all have the same parameters; no number of a poll or of a get is greater than the last one drawn,
-- which is one of 32 bits; and what waits is off the board
pub record IsKept (p : Parameters) (board : Board) (held : Held) (polls : Table) (queue : Lists) (last : ℕ) : Type 0 where
  pub steady : IsSteady board held
  pub parameters : board.parameters ≡ p
  pub table : polls.parameters ≡ p
  pub small : last ≤ 2 ^ 32 - 1
  pub numbers : AreAtMost (λ q. q.number) last polls.polls
  pub gets : AreAtMost (λ g. g.number) last queue.gets
  pub waiting : AreOff board queue.waiting
