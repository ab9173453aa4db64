-- A block is offered to the queue: whether it waits, and whether its parent is to be asked for.
use Rattle.std.specs.Prelude.{ℕ, ◌+◌, Bool, not, ◌&&◌, ◌||◌, List, length, Option, Some, None, is_some, is_none, nat_lt, nat_le, if◌then◌else◌}
use Rattle.std.specs.Option.{unwrap_or}
use Rattle.snow_base.specs.declared.limits.TheConstants.{MOST_WAITING, MOST_GETS}
use Rattle.snow_base.specs.declared.block.Header.{Header}
use Rattle.snow_board.specs.Model.Board.{Board, height_of}
use Rattle.snow_issue.specs.declared.work.Waiting.{Waiting}
use Rattle.snow_issue.specs.declared.work.Offered.{Offered}
use Rattle.snow_issue.specs.declared.work.Offered.TheVariants as offer
use Rattle.snow_issue.specs.Model.Gone.{holds, stands_for}
use Rattle.snow_issue.specs.Model.Lists.{Lists, waits, is_asked, with_waiting}

-- whether a block is on the board: pending, or the last accepted one
abbrev pub is_on : Board → List ℕ → Bool
is_on board id = is_some (height_of board id)

-- whether a block has an entry in the gone list
abbrev pub is_gone : Lists → List ℕ → Bool
is_gone q id = holds q.gone id

-- whether nothing is known of a block
abbrev pub is_unknown : Lists → Board → List ℕ → Bool
is_unknown q board id = not (is_on board id || (waits q id || (is_asked q id || is_gone q id)))

-- whether a block that a reply names is to be asked for
abbrev pub wanted : Lists → Board → List ℕ → Bool
wanted q board id = is_unknown q board id && nat_lt (length q.gets) MOST_GETS

-- whether a block is so high that its parent isn't the last accepted one's sibling or below it
abbrev pub is_high : Board → Header → Bool
is_high board block = nat_lt (board.height + 1) block.height

-- the parent of a block that waits, where it is to be asked for
abbrev pub asks : Lists → Board → Header → Option (List ℕ)
asks q board block = if is_high board block && wanted q board block.parent then Some block.parent else None

-- the first reason, if there is one, for which an offered block doesn't wait
abbrev pub refusal : Lists → Board → Header → Option Offered
refusal q board block =
    if is_on board block.id || waits q block.id then Some offer.Known
    else (if is_some (stands_for q.gone block.id) then Some offer.Invalid
    else (if is_gone q block.id || nat_le block.height board.height then Some offer.Old
    else (if nat_lt (length q.waiting) MOST_WAITING then None else Some offer.Full)))

-- whether an offered block is ready as it comes: its parent is on the board, and nothing stands against it
abbrev pub is_next : Lists → Board → Header → Bool
is_next q board block = is_on board block.parent && is_none (refusal q board block)

-- what becomes of a block that is offered
abbrev pub offered : Lists → Board → Waiting → Offered
offered q board w = unwrap_or (refusal q board w.header) (offer.Waits (asks (with_waiting q w) board w.header))

-- the lists after a block was offered with this answer
abbrev pub after_offer : Lists → Waiting → Offered → Lists
after_offer q w offer.Known = q
after_offer q w offer.Invalid = q
after_offer q w offer.Old = q
after_offer q w offer.Full = q
after_offer q w (offer.Waits ask) = with_waiting q w
