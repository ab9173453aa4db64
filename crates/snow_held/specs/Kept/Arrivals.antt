-- Held replies by their numbers of arrival, and the indexes of these numbers: by block, and by poll and node.
use Rattle.std.specs.Prelude.{◌≡◌, ℕ, ◌+◌, ◌<◌, ◌≤◌, Bool, true, false, ◌==◌, ◌&&◌, List, All, not, filter, Option, Some, bytes_eq, if◌then◌else◌}
use Rattle.std.specs.BinaryHeap.{IsHeap}
use Rattle.std.specs.BTreeMap.{BTreeMap, get, is_at}
use Rattle.std.specs.Cmp.Lexicographic.{slice_cmp}
use Rattle.std.specs.List.{list_any, sum_by}
use Rattle.std.specs.List.Sorted.{IsStrictlySortedBy}
use Rattle.std.specs.Map.{lookup, keys_of, values_of}
use Rattle.std.specs.Option.{option_map_or, option_and_then}
use Rattle.std.specs.Ordering.{nat_cmp}
use Rattle.snow_held.specs.declared.backlog.Kept.{Kept}
use Rattle.snow_held.specs.declared.keys.NodeKey.{NodeKey}
use Rattle.snow_held.specs.declared.held.Held.{Held}
use Rattle.snow_held.specs.Kept.Keys.{key_of, key_cmp}
use Rattle.snow_lineup.specs.declared.marks.Mark.{Mark}
use Rattle.snow_held.specs.Model.Replies.{mark_by}

-- the replies with their numbers, in order of arrival
abbrev pub Entries : Type 0
Entries = List (ℕ × Kept)

-- the reply of a number
abbrev pub at_arrival : Entries → ℕ → Option Kept
at_arrival es a = lookup (is_at (nat_cmp a)) es

-- the reply of a number, where there is one
abbrev pub kept_at : Entries → Option ℕ → Option Kept
kept_at es number = option_and_then (at_arrival es) number

-- what is remembered of a reply
abbrev pub mark_of : Kept → Mark
mark_of k = mark_by k.quiet

-- a reply, and what is remembered of it
abbrev pub seat_of : ℕ × Kept → Held × Mark
seat_of e = (e.1.reply, mark_of e.1)

-- nothing is remembered of a reply
abbrev pub loud : Kept → Kept
loud k = record k { quiet = false }

-- the same, where it has one of these numbers and names a block
abbrev pub woken_among : List ℕ → List ℕ → ℕ × Kept → ℕ × Kept
woken_among numbers id e = (e.0, if list_any (is_at (nat_cmp e.0)) numbers && bytes_eq id e.1.reply.id then loud e.1 else e.1)

-- a number in the heap: so far is it below the greatest one
abbrev pub stands_for : ℕ → ℕ → Bool
stands_for a x = (x + a) == 18446744073709551615

abbrev pub is_noted : List ℕ → ℕ → Bool
is_noted heap a = list_any (stands_for a) heap

-- how much room a reply takes up in the heap when it is woken
abbrev pub weight : Kept → ℕ
weight k = if k.quiet then 1 else 0

-- the numbers of the replies of which nothing is remembered are in the heap, and there is room in it for the others
pub record IsBacklog (es : Entries) (heap : List ℕ) (len room : ℕ) : Type 0 where
  pub sorted : IsStrictlySortedBy nat_cmp (keys_of es)
  pub order : IsHeap nat_cmp heap
  pub noted : (a : ℕ) (k : Kept) → at_arrival es a ≡ Some k → k.quiet ≡ false → is_noted heap a ≡ true
  pub enough : len + sum_by weight (values_of es) ≤ room

-- the earliest reply of which nothing is remembered
pub record IsFirst (es : Entries) (a : ℕ) (reply : Held) : Type 0 where
  pub there : at_arrival es a ≡ Some (record { reply = reply; quiet = false })
  pub least : (b : ℕ) (k : Kept) → at_arrival es b ≡ Some k → k.quiet ≡ false → a ≤ b

-- something is remembered of each
abbrev pub AreQuiet : Entries → Type 0
AreQuiet es = (a : ℕ) (k : Kept) → at_arrival es a ≡ Some k → k.quiet ≡ true

-- the numbers of the replies that named a block
abbrev pub BlockMap : Type 0
BlockMap = BTreeMap (List ℕ) (List ℕ)

-- the numbers of the replies to a poll, by node
abbrev pub PollMap : Type 0
PollMap = BTreeMap ℕ (BTreeMap NodeKey ℕ)

-- whether a number is in a list
abbrev pub is_among : List ℕ → ℕ → Bool
is_among numbers a = list_any (is_at (nat_cmp a)) numbers

abbrev pub has_number_in : Option (List ℕ) → ℕ → Bool
has_number_in numbers a = option_map_or (λ l. is_among l a) numbers false

-- whether a number is kept under a block
abbrev pub names : BlockMap → List ℕ → ℕ → Bool
names blocks id a = has_number_in (get (slice_cmp nat_cmp) blocks id) a

-- the numbers of these replies are kept where they were
abbrev pub StaysNamed : Entries → (List ℕ → ℕ → Bool) → (List ℕ → ℕ → Bool) → Type 0
StaysNamed es before now = (id : List ℕ) (a : ℕ) (k : Kept) → at_arrival es a ≡ Some k → before id a ≡ true → now id a ≡ true

abbrev pub number_of_node : Option (BTreeMap NodeKey ℕ) → NodeKey → Option ℕ
number_of_node nodes key = option_and_then (λ m. get key_cmp m key) nodes

-- the number of a node's reply to a poll
abbrev pub filed : PollMap → ℕ → NodeKey → Option ℕ
filed polls n key = number_of_node (get nat_cmp polls n) key

-- each number is below the next one, the numbers by poll and node are those of the replies or of some that left, and each is kept under its block
pub record IsFiled (es : Entries) (number_at : ℕ → NodeKey → Option ℕ) (named : List ℕ → ℕ → Bool) (next : ℕ) : Type 0 where
  pub sorted : IsStrictlySortedBy nat_cmp (keys_of es)
  pub below : (a : ℕ) (k : Kept) → at_arrival es a ≡ Some k → a < next
  pub found : (a : ℕ) (k : Kept) → at_arrival es a ≡ Some k → number_at k.reply.number (key_of k.reply.node) ≡ Some a
  pub real : (n : ℕ) (key : NodeKey) (a : ℕ) (k : Kept) → number_at n key ≡ Some a → at_arrival es a ≡ Some k → (k.reply.number ≡ n) × (key_of k.reply.node ≡ key)
  pub low : (n : ℕ) (key : NodeKey) (a : ℕ) → number_at n key ≡ Some a → a < next
  pub named_so : (a : ℕ) (k : Kept) → at_arrival es a ≡ Some k → named k.reply.id a ≡ true

-- whether a reply isn't of a poll
abbrev pub stays : ℕ → ℕ × Kept → Bool
stays number e = not (e.1.reply.number == number)

-- nodes has the numbers of all replies to a poll, and of no other reply
pub record AreNodesOf (number : ℕ) (es : Entries) (nodes : BTreeMap NodeKey ℕ) : Type 0 where
  pub all : (a : ℕ) (k : Kept) → at_arrival es a ≡ Some k → k.reply.number ≡ number → get key_cmp nodes (key_of k.reply.node) ≡ Some a
  pub only : (key : NodeKey) (a : ℕ) (k : Kept) → get key_cmp nodes key ≡ Some a → at_arrival es a ≡ Some k → k.reply.number ≡ number

-- replies of a poll go one by one: those of other polls stay, and rest has the numbers of those that are left
pub record IsLeaving (number : ℕ) (before now : Entries) (nodes : BTreeMap NodeKey ℕ) (rest : List (NodeKey × ℕ)) (number_at : ℕ → NodeKey → Option ℕ) (named : List ℕ → ℕ → Bool) (next : ℕ) : Type 0 where
  pub filed : IsFiled now number_at named next
  pub of_poll : AreNodesOf number now nodes
  pub nodes_of : All (λ e. get key_cmp nodes e.0 ≡ Some e.1) rest
  pub left : (a : ℕ) (k : Kept) → at_arrival now a ≡ Some k → k.reply.number ≡ number → is_among (values_of rest) a ≡ true
  pub same : filter (stays number) now ≡ filter (stays number) before

-- the replies of a poll went
pub record AreGone (number : ℕ) (before now : Entries) (number_at : ℕ → NodeKey → Option ℕ) (named : List ℕ → ℕ → Bool) (next : ℕ) : Type 0 where
  pub filed : IsFiled now number_at named next
  pub none : (a : ℕ) (k : Kept) → at_arrival now a ≡ Some k → k.reply.number ≡ number → ⊥
  pub same : filter (stays number) now ≡ filter (stays number) before

-- whichever poll it is whose nodes have these numbers, its replies went
abbrev pub LeavesEach : Entries → (List ℕ → ℕ → Bool) → BTreeMap NodeKey ℕ → Entries → (List ℕ → ℕ → Bool) → Type 0
LeavesEach before named nodes now names =
    (number : ℕ) (number_at : ℕ → NodeKey → Option ℕ) (next : ℕ) → IsFiled before number_at named next → AreNodesOf number before nodes → AreGone number before now number_at names next
