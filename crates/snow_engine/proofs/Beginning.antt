-- How a node that runs begins: with the state of its last accepted block, at once or with bootstrapping.
use Rattle.std.proofs.Common.{◌≡◌, ℕ, ◌-◌, ◌^◌, ◌≤◌, Bool, true, false, if◌then◌else◌, List, [], Option, Some, Ok, unwrap_or, refl, sym, ap, ◌∙◌, subst, arith}
use Rattle.std.specs.FinMap.{empty}
use Rattle.snow_flake.specs.Model.Parameters.{Parameters}
use Rattle.snow_sample.specs.declared.roster.Node.{Node as Member}
use Rattle.snow_board.proofs.Cases.{id_itself}
use Rattle.snow_chain.specs.Model.Chain.{Held, Rules, state_of, begun}
use Rattle.snow_boot.specs.Model.Booting.{Boot, Going, started}
use Rattle.snow_chain.specs.Kept.Alone.{IsAlone, last_state}
use Rattle.snow_wire.specs.declared.event.Event.{Event}
use Rattle.snow_wire.specs.declared.event.Start.{Start}
use Rattle.snow_engine.specs.declared.stage.Stage.TheVariants as stage
use Rattle.snow_engine.specs.Model.Booting.{Booting}
use Rattle.snow_engine.specs.Kept.Staging.{Node, Comes, goes_as}
use Rattle.snow_engine.specs.Model.Catching.{boots_on, brings, came_to, heard, is_heard, new_booting, noted, with_words}
use Rattle.snow_engine.specs.Model.Node.{begun_by, step}
use Rattle.snow_flake.specs.Model.Rule.{Answer}
use Rattle.snow_node.specs.Model.Running.{Running, begun_above}
use Rattle.snow_node.specs.Model.Turning.{members}
use Rattle.snow_node.proofs.Following.{state_with}

-- ---- a chain that begins

-- its last state is that with which it began
first_state : (last state : List ℕ) → last_state (begun last state) ≡ state
first_state last state =
    let none : Held = record { last = last; states = empty } in
    let is : state_of (begun last state) last ≡ Some state = state_with none last state last ∙ rw (id_itself last) refl in
    ap (λ (o : Option (List ℕ)). unwrap_or o []) is

pub state_begun : (held : Held) (last state : List ℕ) → held ≡ begun last state → last_state held ≡ state
state_begun held last state e = ap last_state e ∙ first_state last state

-- and it holds no other
pub begun_alone : (held : Held) (last state : List ℕ) → held ≡ begun last state → IsAlone held
begun_alone held last state e = subst IsAlone (sym e) (ap (begun last) (sym (first_state last state)))

-- ---- bootstrapping begins

-- with number 1
pub first_number : (last : List ℕ) (height : ℕ) (nodes : List Member) (n drawn : ℕ) (boot : Boot) → n ≡ 0 → (started last height nodes n).1 ≡ Ok (Going boot drawn) → drawn ≤ 2 ^ 32 - 1
unfolding started
first_number last height nodes n drawn boot z e =
    let f = subst (λ (k : ℕ). (started last height nodes k).1 ≡ Ok (Going boot drawn)) z e in
    let one : 1 ≡ drawn = cc in
    omega (arith, one)

pub boots : (s : Start) (p : Parameters) (roster : List Member) (n drawn : ℕ) (boot : Boot) (held : Held) (words : List ℕ) → roster ≡ members s.nodes → n ≡ 0
    → held ≡ begun s.last s.state → words ≡ [] → (started s.last s.height roster n).1 ≡ Ok (Going boot drawn)
    → brings (new_booting s p) (started s.last s.height (members s.nodes) 0).1
    ≡ Ok (stage.Booting (record { parameters = p; roster = roster; boot = boot; state = last_state held; words = words; last = drawn }))
boots s p roster n drawn boot held words r z h w e =
    let f = subst (λ (k : ℕ). (started s.last s.height roster k).1 ≡ Ok (Going boot drawn)) z e in
    let g = subst (λ (nodes : List Member). (started s.last s.height nodes 0).1 ≡ Ok (Going boot drawn)) r f in
    rw (r, state_begun held s.last s.state h, w) (ap (brings (new_booting s p)) g)

-- it goes on at this event, over the same state
pub still_boots : (rules : Rules) (before node : Booting) (frame : ℕ) (e : Event) (boot : Boot) (drawn : ℕ) (state : List ℕ) → before ≡ node
    → (heard rules before.state before.boot before.last frame e).1 ≡ Ok (Going boot drawn) → state ≡ before.state
    → brings node (heard rules node.state node.boot node.last frame e).1
    ≡ Ok (stage.Booting (record { parameters = before.parameters; roster = before.roster; boot = boot; state = state; words = before.words; last = drawn }))
still_boots rules before node frame e boot drawn state is came same =
    subst (λ (n : Booting). brings n (heard rules n.state n.boot n.last frame e).1
    ≡ Ok (stage.Booting (record { parameters = before.parameters; roster = before.roster; boot = boot; state = state; words = before.words; last = drawn })))
    is (rw same (ap (brings before) came))

-- ---- an event is heard

pub catches : (rules : Rules) (answer : Answer) (node : Node) (before : Booting) (frame : ℕ) (e : Event) → stage.Booting before ≡ node → is_heard e ≡ true
    → came_to before (heard rules before.state before.boot before.last frame e) ≡ step rules answer node frame e
unfolding boots_on
catches rules answer node before frame e is h =
    ap (λ (t : Bool). (let comes : Comes Node = if t then came_to before (heard rules before.state before.boot before.last frame e) else goes_as (with_words before) (noted before.words frame e) in comes)) (sym h)
    ∙ ap (λ (n : Node). step rules answer n frame e) is

-- ---- a node runs at once

pub runs : (s : Start) (p : Parameters) (roster : List Member) (words : List ℕ) (drawn : ℕ) (held : Held) (node : Running)
    → s.boot ≡ false → roster ≡ members s.nodes → words ≡ [] → drawn ≡ 0 → held ≡ begun s.last s.state
    → node ≡ begun_above p roster words drawn s.last s.height (last_state held)
    → (begun_by s p).1 ≡ Ok (stage.Running node)
runs s p roster words drawn held node boot r w d h n =
    let last : last_state held ≡ s.state = state_begun held s.last s.state h in
    rw (boot, n, r, w, d, last) refl
