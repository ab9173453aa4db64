-- One step of settling: the first of hopeless, ready and vote that applies.
use Rattle.std.specs.Prelude.{◌≡◌, Bool, not, ◌||◌, List, find, Option, Some, None, is_some, if◌then◌else◌}
use Rattle.std.specs.Option.{option_map, option_or}
use Rattle.snow_base.specs.declared.block.Header.{Header}
use Rattle.snow_board.specs.Model.Board.{Board}
use Rattle.snow_issue.specs.declared.work.Waiting.{Waiting}
use Rattle.snow_gets.specs.declared.gets.Get.{Get}
use Rattle.snow_held.specs.declared.held.Held.{Held}
use Rattle.snow_issue.specs.declared.work.Work.{Work}
use Rattle.snow_issue.specs.declared.work.Work.TheVariants as work
use Rattle.snow_issue.specs.declared.gone.Gone.{Gone}
use Rattle.snow_issue.specs.Model.Gone.{with_gone, stands_for}
use Rattle.snow_gets.specs.Model.Gets.{without, asked_in}
use Rattle.snow_issue.specs.Model.Lists.{Lists, waits_among, waits_below}
use Rattle.snow_issue.specs.Model.Offering.{is_on}

-- whether a waiting block is hopeless: its parent isn't on the board, isn't asked for, and doesn't wait right below it
abbrev pub is_hopeless_by : List Waiting → List Get → Board → Waiting → Bool
is_hopeless_by waiting gets board w =
    not (is_on board w.header.parent || (asked_in gets w.header.parent || waits_below waiting w.header))

abbrev pub is_hopeless : Lists → Board → Waiting → Bool
is_hopeless q board w = is_hopeless_by q.waiting q.gets board w

-- whether a waiting block is ready: its parent is on the board
abbrev pub is_ready : Board → Waiting → Bool
is_ready board w = is_on board w.header.parent

-- whether a held reply may give its vote: its block neither waits nor is asked for
abbrev pub is_free_by : List Waiting → List Get → Held → Bool
is_free_by waiting gets h = not (waits_among waiting h.id || asked_in gets h.id)

abbrev pub is_free : Lists → Held → Bool
is_free q h = is_free_by q.waiting q.gets h

-- the step that applies: the earliest hopeless block, else the earliest ready one, else the earliest free reply
abbrev pub work_of : Lists → Board → Option Work
work_of q board =
    option_or (option_map work.Hopeless (find (is_hopeless q board) q.waiting))
    (option_or (option_map work.Ready (find (is_ready board) q.waiting))
    (option_map work.Vote (find (is_free q) q.held)))

-- nothing is to be done
abbrev pub IsIdle : Lists → Board → Type 0
IsIdle q board = work_of q board ≡ None

-- the gone list after a hopeless block: it goes after its parent, where that was found invalid
abbrev pub gone_with : List Gone → Header → List Gone
gone_with gone block =
    if is_some (stands_for gone block.parent) then with_gone gone (record { id = block.id; parent = Some block.parent }) else gone

-- the lists after a step: its block or reply is taken out
abbrev pub after : Lists → Board → Option Work → Lists
after q board None = q
after q board (Some (work.Hopeless w)) =
    record q { waiting = without (is_hopeless q board) q.waiting; gone = gone_with q.gone w.header }
after q board (Some (work.Ready w)) = record q { waiting = without (is_ready board) q.waiting }
after q board (Some (work.Vote h)) = record q { held = without (is_free q) q.held }
