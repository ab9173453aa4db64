-- Lemmas on the counters of a conflict as a map from bit lists.
use Rattle.std.proofs.Common.{◌≡◌, ℕ, Bool, true, false, not, ◌||◌, List, [], ◌∷◌, ◌++◌, Option, Some, None, is_some, if◌then◌else◌, refl, sym, ap, ◌∙◌}
use Rattle.std.proofs.lemmas.Bool.{or_right}
use Rattle.std.proofs.lemmas.Option.{none-some, same_Some}
use Rattle.std.specs.Bool.{beq, Decides}
use Rattle.snow_flake.specs.Model.Parameters.{Parameters}
use Rattle.snow_flake.specs.Model.Counter.{Counter, Decided, Undecided, stepped, admits}
use Rattle.snow_board.specs.Model.Conflict.{Counters, Blank, At, counter_at, with_child, all_polled}
use Rattle.snow_board.specs.Laws.Excluded.{lets, is_excluded, IsExcluded}
use Rattle.snow_board.specs.Laws.PointwiseLaw.{stepped_at, grown_at, fresh_at}
use Rattle.snow_board.proofs.Cases.{split_on}

-- ---- a map

-- what stands at each bit list says which counters they are
pub same_map : (counters other : Counters) → ((place : List Bool) → counter_at counters place ≡ counter_at other place) → counters ≡ other
same_map Blank Blank h = refl
same_map Blank (At d y w) h = absurd (none-some d (h []))
same_map (At c z o) Blank h = absurd (none-some c (sym (h [])))
same_map (At c z o) (At d y w) h =
    let here : c ≡ d = same_Some c d (h []) in
    let zeros = same_map z y (λ place. h (false ∷ place)) in
    let ones = same_map o w (λ place. h (true ∷ place)) in
    λ i. At (here i) (zeros i) (ones i)

-- ---- which lists are excluded

-- what lets a bit not pass is a counter decided with the other bit
ruled_out : (o : Option Counter) (bit : Bool) → lets o bit ≡ false → (decided : Bool) × (o ≡ Some (Decided decided)) × (beq decided bit ≡ false)
ruled_out None bit h = cc
ruled_out (Some (Decided decided)) bit h = (decided, refl, h)
ruled_out (Some (Undecided s)) bit h = cc

-- what is found excluded is behind such a counter
excluded_by : (counters : List Bool → Option Counter) (place : List Bool) → is_excluded counters place ≡ true → IsExcluded counters place
excluded_by counters [] h = cc
excluded_by counters (bit ∷ rest) h =
    split_on (lets (counters []) bit)
    (λ t.
    let k = rw t at h in
    let deeper = excluded_by (λ place. counters (bit ∷ place)) rest k in
    record {
      front = bit ∷ deeper.front;
      next = deeper.next;
      rest = deeper.rest;
      decided = deeper.decided;
      splits = ap (λ l. bit ∷ l) deeper.splits;
      stands = deeper.stands;
      against = deeper.against;
    })
    (λ t.
    let out = ruled_out (counters []) bit t in
    record { front = []; next = bit; rest = rest; decided = out.0; splits = refl; stands = out.1; against = out.2 })

-- what is behind such a counter is found excluded
behind : (counters : List Bool → Option Counter) (front : List Bool) (next : Bool) (rest : List Bool) (decided : Bool)
    → counters front ≡ Some (Decided decided) → beq decided next ≡ false → is_excluded counters (front ++ next ∷ rest) ≡ true
behind counters [] next rest decided stands against = rw (stands, against) refl
behind counters (b ∷ front) next rest decided stands against =
    or_right (not (lets (counters []) b)) (is_excluded (λ place. counters (b ∷ place)) (front ++ next ∷ rest))
    (behind (λ place. counters (b ∷ place)) front next rest decided stands against)

-- the test of what is excluded says what it should
pub excluded_decides : (counters : List Bool → Option Counter) (place : List Bool) → Decides (is_excluded counters place) (IsExcluded counters place)
excluded_decides counters place = (
  excluded_by counters place,
  λ e. ap (is_excluded counters) e.splits ∙ behind counters e.front e.next e.rest e.decided e.stands e.against,
)

-- ---- a poll at each bit list

-- a choice of one thing
same_both : {X : Type 0} (b : Bool) (x : X) → x ≡ (if b then x else x)
same_both true x = refl
same_both false x = refl

-- what a poll makes of the counter at each bit list
pub polled_each : (p : Parameters) (votes : List Bool → ℕ) (counters : Counters) (place : List Bool)
    → counter_at (all_polled p votes counters) place
    ≡ (if is_excluded (stepped_at p votes counters) place then None else stepped_at p votes counters place)
unfolding all_polled
polled_each p votes Blank place = same_both (is_excluded (stepped_at p votes Blank) place) None
polled_each p votes (At c z o) [] = refl
polled_each p votes (At c z o) (false ∷ rest) =
    split_on (admits (stepped p c (votes (false ∷ [])) (votes (true ∷ []))) false)
    (λ t. rw t (polled_each p (λ front. votes (false ∷ front)) z rest))
    (λ t. rw t refl)
polled_each p votes (At c z o) (true ∷ rest) =
    split_on (admits (stepped p c (votes (false ∷ [])) (votes (true ∷ []))) true)
    (λ t. rw t (polled_each p (λ front. votes (true ∷ front)) o rest))
    (λ t. rw t refl)

-- ---- an issue at each bit list

-- where nothing else may stand, what stands is as it was
unless_none : (o : Option Counter) (b : Bool) → o ≡ (if is_some o || b then o else None)
unless_none None b = same_both b None
unless_none (Some c) b = refl

-- where the list is excluded, what stands is as it was
where_excluded : (o other : Option Counter) → o ≡ (if is_some o || true then o else other)
where_excluded None other = refl
where_excluded (Some c) other = refl

-- what an issue makes of the counter at each bit list
pub grown_each : (child : List Bool) (counters : Counters) (place : List Bool) → counter_at (with_child child counters) place ≡ grown_at child counters place
unfolding with_child
grown_each [] counters [] = unless_none (counter_at counters []) false
grown_each [] counters (b ∷ place) = unless_none (counter_at counters (b ∷ place)) (is_excluded (counter_at counters) (b ∷ place))
grown_each (false ∷ rest) Blank [] = refl
grown_each (true ∷ rest) Blank [] = refl
grown_each (false ∷ rest) Blank (false ∷ place) = grown_each rest Blank place
grown_each (true ∷ rest) Blank (true ∷ place) = grown_each rest Blank place
grown_each (false ∷ rest) Blank (true ∷ place) = unless_none None (is_excluded (counter_at Blank) place)
grown_each (true ∷ rest) Blank (false ∷ place) = unless_none None (is_excluded (counter_at Blank) place)
grown_each (false ∷ rest) (At c z o) [] = refl
grown_each (true ∷ rest) (At c z o) [] = refl
grown_each (false ∷ rest) (At c z o) (false ∷ place) =
    split_on (admits c false)
    (λ t. rw t (grown_each rest z place))
    (λ t. rw t (where_excluded (counter_at z place) (fresh_at rest place)))
grown_each (true ∷ rest) (At c z o) (true ∷ place) =
    split_on (admits c true)
    (λ t. rw t (grown_each rest o place))
    (λ t. rw t (where_excluded (counter_at o place) (fresh_at rest place)))
grown_each (false ∷ rest) (At c z o) (true ∷ place) = unless_none (counter_at o place) (is_excluded (counter_at (At c z o)) (true ∷ place))
grown_each (true ∷ rest) (At c z o) (false ∷ place) = unless_none (counter_at z place) (is_excluded (counter_at (At c z o)) (false ∷ place))
