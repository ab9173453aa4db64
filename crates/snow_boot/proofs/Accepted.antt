-- Blocks that are accepted one on the other.
use Rattle.std.proofs.Common.{◌≡◌, ℕ, zero, suc, ◌+◌, ◌-◌, ◌<◌, ◌≤◌, Bool, true, false, List, [], ◌∷◌, ◌++◌, Option, Some, None, bytes_eq, if◌then◌else◌, refl, sym, ap, subst, ◌∙◌, arith, append-nil}
use Rattle.std.specs.Prelude.{Ok, Err, is_some}
use Rattle.snow_chain.specs.Model.Chain as states
use Rattle.snow_chain.specs.Model.Chain.{Rules, Held, next_on, verified, accepted, MayAccept, begun}
use Rattle.snow_lines.specs.declared.line.Line.{Line}
use Rattle.snow_lines.specs.declared.line.Line.TheVariants as line
use Rattle.snow_store.specs.declared.store.KeptBlock.{KeptBlock}
use Rattle.snow_store.specs.declared.stop.BootStop.{BootStop}
use Rattle.snow_store.specs.declared.stop.BootStop.TheVariants as stop
use Rattle.snow_boot.specs.Clauses.Accepting.{behind_lines, ExecutesOne, ExecutesAt, Executes}
use Rattle.snow_chain.specs.Kept.Alone.{IsAlone, last_state}
use Rattle.snow_boot.specs.Model.Executing.{Executed, state_on, with_state, executed}
use Rattle.snow_store.specs.Model.Keeping.{held}
use Rattle.snow_store.specs.Laws.Linking.{listed, upward}
use Rattle.snow_boot.specs.Laws.OutcomeLaw.{accept_lines}
use Rattle.snow_boot.proofs.Alone.{next_there, accepted_alone, begun_alone, may_accept}
use Rattle.snow_store.proofs.Cases.{clash}
use Rattle.snow_boot.proofs.Underway.{IsUnderway, goes_on, stops_here, runs_out}

-- the block has a state on the last accepted one
pub record HasState (rules : Rules) (old now : Held) (b : KeptBlock) : Type 0 where
  pub state : List ℕ
  pub next : rules.next (last_state old) b.bytes ≡ Some state
  pub held : now ≡ states.with_state old b.header.id state

-- a block that was found valid
pub has_state : (rules : Rules) (old now : Held) (below : List ℕ) (b : KeptBlock) (valid : Bool) → IsAlone old → old.last ≡ below
    → valid ≡ is_some (next_on rules old below b.bytes) → now ≡ verified old b.header.id (next_on rules old below b.bytes) → valid ≡ true → HasState rules old now b
has_state rules old now below b valid alone last is made good =
    by_state (rules.next (last_state old) b.bytes) refl (sym (is ∙ ap is_some there) ∙ good) (made ∙ ap (verified old b.header.id) there)
  where
    there : next_on rules old below b.bytes ≡ rules.next (last_state old) b.bytes
    there = next_there rules old below b.bytes alone last

    by_state : (o : Option (List ℕ)) → rules.next (last_state old) b.bytes ≡ o → is_some o ≡ true → now ≡ verified old b.header.id o → HasState rules old now b
    by_state None e some made = clash true refl (sym some)
    by_state (Some state) e some made = record { state = state; next = e; held = made }

-- a block that was found invalid
pub has_none : (rules : Rules) (old : Held) (below : List ℕ) (b : KeptBlock) (valid : Bool) → IsAlone old → old.last ≡ below
    → valid ≡ is_some (next_on rules old below b.bytes) → valid ≡ false → state_on rules old.last (last_state old) b ≡ None
has_none rules old below b valid alone last is bad = by_test (bytes_eq b.header.id old.last)
  where
    none_of : (o : Option (List ℕ)) → is_some o ≡ false → o ≡ None
    none_of None e = refl
    none_of (Some x) e = clash true refl e

    next_none : rules.next (last_state old) b.bytes ≡ None
    next_none = none_of (rules.next (last_state old) b.bytes) (ap is_some (sym (next_there rules old below b.bytes alone last)) ∙ sym is ∙ bad)

    by_test : (t : Bool) → (if t then None else rules.next (last_state old) b.bytes) ≡ None
    by_test true = refl
    by_test false = next_none

-- it may be accepted
pub may_accept_it : (rules : Rules) (old now : Held) (below : List ℕ) (b : KeptBlock) → IsAlone old → old.last ≡ below → bytes_eq b.header.id below ≡ false → HasState rules old now b → MayAccept now b.header.id
may_accept_it rules old now below b alone last other s =
    subst (λ h. MayAccept h b.header.id) (sym s.held) (may_accept old b.header.id s.state alone (ap (bytes_eq b.header.id) last ∙ other))

-- and was
pub accepts_it : (rules : Rules) (old now after : Held) (below : List ℕ) (b : KeptBlock) (before written : List Line) → IsAlone old → old.last ≡ below → bytes_eq b.header.id below ≡ false
    → HasState rules old now b → after ≡ accepted now b.header.id → written ≡ before ++ line.Accept b.header.id ∷ [] → ExecutesOne rules (Ok tt) before written old after b
accepts_it rules old now after below b before written alone last other s is w =
    let not_itself : bytes_eq b.header.id old.last ≡ false = ap (bytes_eq b.header.id) last ∙ other in
    let made : after ≡ begun b.header.id s.state = is ∙ ap (λ h. accepted h b.header.id) s.held ∙ accepted_alone old b.header.id s.state alone not_itself in
    let one = begun_alone b.header.id s.state in (
      ap (λ t. (let o : Option (List ℕ) = if t then None else rules.next (last_state old) b.bytes in o)) not_itself ∙ s.next ∙ ap (λ x. Some x) (sym (ap last_state made ∙ one.0)),
      ap (λ (h : Held). h.last) made,
      subst IsAlone (sym made) one.1,
      w,
    )

-- one block in front of others
pub one_first : (rules : Rules) (old new : Held) (b : KeptBlock) (rest : List KeptBlock) → state_on rules old.last (last_state old) b ≡ Some (last_state new)
    → executed rules old.last (last_state old) (b ∷ rest) ≡ behind_lines (line.Accept b.header.id ∷ []) (executed rules b.header.id (last_state new) rest)
unfolding executed
one_first rules old new b rest is = ap (λ o. with_state b o (λ next. executed rules b.header.id next rest)) is

none_first : (rules : Rules) (old : Held) (b : KeptBlock) (rest : List KeptBlock) → state_on rules old.last (last_state old) b ≡ None
    → executed rules old.last (last_state old) (b ∷ rest) ≡ ([], Err (stop.Refused b.header.id))
unfolding executed
none_first rules old b rest is = ap (λ o. with_state b o (λ next. executed rules b.header.id next rest)) is

-- a block that is refused
pub refuses_at : (rules : Rules) (before after : List Line) (old new : Held) (b : KeptBlock) (o : Option KeptBlock) (why : BootStop) → Some b ≡ o → ExecutesOne rules (Err why) before after old new b
    → ExecutesAt rules (Err why) before after old new o
refuses_at rules before after old new b o why is e = subst (ExecutesAt rules (Err why) before after old new) is (by_stop why e)
  where
    stopped : (why : BootStop) → (state_on rules old.last (last_state old) b ≡ None) × (why ≡ stop.Refused b.header.id) × (after ≡ before)
        → (after ≡ before) × ((rest : List KeptBlock) → executed rules old.last (last_state old) (b ∷ rest) ≡ ([], Err why))
    stopped why e = (e.2, λ rest. none_first rules old b rest e.0 ∙ ap (λ w. (let x : Executed = ([], Err w) in x)) (sym e.1))

    by_stop : (why : BootStop) → ExecutesOne rules (Err why) before after old new b → ExecutesAt rules (Err why) before after old new (Some b)
    by_stop stop.Memory e = e
    by_stop (stop.Conflict height first second) e = stopped (stop.Conflict height first second) e
    by_stop (stop.Fork x parent) e = stopped (stop.Fork x parent) e
    by_stop (stop.Refused x) e = stopped (stop.Refused x) e
    by_stop stop.Full e = stopped stop.Full e
    by_stop stop.Requests e = stopped stop.Requests e

-- a block that is accepted
pub accepts_at : (rules : Rules) (before after : List Line) (old new : Held) (b : KeptBlock) (o : Option KeptBlock) → Some b ≡ o → ExecutesOne rules (Ok tt) before after old new b
    → ExecutesAt rules (Ok b.header.id) before after old new o
accepts_at rules before after old new b o is e =
    subst (ExecutesAt rules (Ok b.header.id) before after old new) is (e.3, e.1, e.2, λ rest. one_first rules old new b rest e.0)

-- the next height
next_up : (kept : List KeptBlock) (height top : ℕ) → height < top → upward kept (height + 1) (top - height) ≡ listed (held kept (height + 1)) ++ upward kept (height + 1 + 1) (top - (height + 1))
unfolding upward
next_up kept height top less =
    let n : ℕ = top - (height + 1) in
    let e : top - height ≡ suc n = omega (arith, less) in
    let f : suc (height + 1) ≡ height + 1 + 1 = omega arith in
    ap (upward kept (height + 1)) e ∙ ap (λ m. listed (held kept (height + 1)) ++ upward kept m n) f

-- what is still to be executed
abbrev pub left_of : Rules → List KeptBlock → Held → List ℕ → ℕ → ℕ → Executed
left_of rules kept held below height top = executed rules below (last_state held) (upward kept (height + 1) (top - height))

pub executes_on : (rules : Rules) (kept : List KeptBlock) (old new : Held) (below next : List ℕ) (height top : ℕ) (before now after : List Line) (whole : Executed) → height < top → old.last ≡ below
    → IsUnderway before now (left_of rules kept old below height top) whole → ExecutesAt rules (Ok next) now after old new (held kept (height + 1))
    → IsUnderway before after (left_of rules kept new next (height + 1) top) whole
executes_on rules kept old new below next height top before now after whole less last u e =
    let blocks = upward kept (height + 1 + 1) (top - (height + 1)) in
    goes_on before now after (accept_lines (listed (held kept (height + 1)))) (left_of rules kept old below height top) (left_of rules kept new next (height + 1) top) whole u e.0
    (ap (executed rules below (last_state old)) (next_up kept height top less)
    ∙ ap (λ i. executed rules i (last_state old) (listed (held kept (height + 1)) ++ blocks)) (sym last)
    ∙ e.3 blocks)

pub execution_stops : (rules : Rules) (kept : List KeptBlock) (old new : Held) (below : List ℕ) (height top : ℕ) (before now after : List Line) (whole : Executed) (why : BootStop) → height < top
    → old.last ≡ below → IsUnderway before now (left_of rules kept old below height top) whole → ExecutesAt rules (Err why) now after old new (held kept (height + 1))
    → Executes (Err why) before after new whole
execution_stops rules kept old new below height top before now after whole why less last u e = by_stop why e
  where
    blocks : List KeptBlock
    blocks = upward kept (height + 1 + 1) (top - (height + 1))

    rest_is : left_of rules kept old below height top ≡ executed rules old.last (last_state old) (listed (held kept (height + 1)) ++ blocks)
    rest_is =
        ap (executed rules below (last_state old)) (next_up kept height top less)
        ∙ ap (λ i. executed rules i (last_state old) (listed (held kept (height + 1)) ++ blocks)) (sym last)

    stopped : (why : BootStop) → (after ≡ now) × ((rest : List KeptBlock) → executed rules old.last (last_state old) (listed (held kept (height + 1)) ++ rest) ≡ ([], Err why))
        → (after ≡ before ++ whole.0) × (whole.1 ≡ Err why)
    stopped why e = stops_here before now after [] (Err why) (left_of rules kept old below height top) whole u (e.0 ∙ sym (append-nil now)) (rest_is ∙ e.1 blocks)

    by_stop : (why : BootStop) → ExecutesAt rules (Err why) now after old new (held kept (height + 1)) → Executes (Err why) before after new whole
    by_stop stop.Memory e =
        runs_out before now after [] (left_of rules kept old below height top).0 (left_of rules kept old below height top) whole u refl
        record { front = []; rest = []; whole = refl; grown = e ∙ sym (append-nil now) }
    by_stop (stop.Conflict height first second) e = stopped (stop.Conflict height first second) e
    by_stop (stop.Fork x parent) e = stopped (stop.Fork x parent) e
    by_stop (stop.Refused x) e = stopped (stop.Refused x) e
    by_stop stop.Full e = stopped stop.Full e
    by_stop stop.Requests e = stopped stop.Requests e

pub execution_ends : (rules : Rules) (kept : List KeptBlock) (held : Held) (below : List ℕ) (height top : ℕ) (before now : List Line) (whole : Executed) → top ≤ height → held.last ≡ below → IsAlone held
    → IsUnderway before now (left_of rules kept held below height top) whole → Executes (Ok below) before now held whole
unfolding executed upward
execution_ends rules kept held below height top before now whole over last alone u =
    let none : top - height ≡ zero = omega (arith, over) in
    let ended : left_of rules kept held below height top ≡ ([], Ok (below, last_state held)) = ap (λ n. executed rules below (last_state held) (upward kept (height + 1) n)) none in
    let e = stops_here before now now [] (Ok (below, last_state held)) (left_of rules kept held below height top) whole u (sym (append-nil now)) ended in
    (e.0, e.1, last, alone)
