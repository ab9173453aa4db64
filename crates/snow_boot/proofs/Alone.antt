-- A chain that holds the state of its last accepted block and no other.
use Rattle.std.proofs.Common.{◌≡◌, ℕ, Bool, true, false, List, [], Some, None, cond, bytes_eq, refl, sym, ap, subst, ◌∙◌}
use Rattle.std.specs.Prelude.{IsSome, unwrap_or}
use Rattle.std.specs.Option.{option_and_then}
use Rattle.std.specs.Ordering.{nat_cmp}
use Rattle.std.specs.Cmp.Lexicographic.{slice_cmp, nat_list_cmp_total}
use Rattle.std.specs.FinMap.{empty, get, insert, remove, get-empty, get-insert, get-remove, same_map, slice_cmp-IsAntisymmetric, nat_cmp-IsAntisymmetric}
use Rattle.std.proofs.lemmas.Map.Text.{is_eq-slice_cmp}
use Rattle.snow_chain.specs.Model.Chain.{Rules, Held, States, state_of, begun, next_on, with_state, accepted, MayVerify, MayAccept}
use Rattle.snow_chain.specs.Kept.Alone.{IsAlone, last_state}
use Rattle.snow_store.proofs.Cases.{same_id, id_same, id_turned, clash}

-- the state that one block has, and another hasn't
begun_at : (last state q : List ℕ) → state_of (begun last state) q ≡ cond (bytes_eq q last) (Some state) None
begun_at last state q =
    get-insert nat_list_cmp_total empty last state q
    ∙ ap (λ t. cond t (Some state) (get (let m : States = empty in m) q)) (is_eq-slice_cmp q last)
    ∙ ap (λ o. cond (bytes_eq q last) (Some state) o) (get-empty (slice_cmp nat_cmp) q)

-- what is held for the last accepted block
pub alone_state : (held : Held) → IsAlone held → state_of held held.last ≡ Some (last_state held)
alone_state held alone =
    ap (λ h. state_of h held.last) alone ∙ begun_at held.last (last_state held) held.last
    ∙ ap (λ t. cond t (Some (last_state held)) None) (id_same held.last held.last refl)

-- nothing is held for another
pub alone_other : (held : Held) (id : List ℕ) → IsAlone held → bytes_eq id held.last ≡ false → state_of held id ≡ None
alone_other held id alone other =
    ap (λ h. state_of h id) alone ∙ begun_at held.last (last_state held) id ∙ ap (λ t. cond t (Some (last_state held)) None) other

-- a block may be verified on it
pub may_verify : (held : Held) (below id : List ℕ) → IsAlone held → held.last ≡ below → bytes_eq id below ≡ false → MayVerify held below id
may_verify held below id alone last other = record {
  above = subst (λ b. IsSome (state_of held b)) last (subst IsSome (sym (alone_state held alone)) refl);
  unknown = alone_other held id alone (ap (bytes_eq id) last ∙ other);
}

-- its state there
pub next_there : (rules : Rules) (held : Held) (below bytes : List ℕ) → IsAlone held → held.last ≡ below → next_on rules held below bytes ≡ rules.next (last_state held) bytes
next_there rules held below bytes alone last =
    ap (λ b. option_and_then (λ state. rules.next state bytes) (state_of held b)) (sym last)
    ∙ ap (λ o. option_and_then (λ state. rules.next state bytes) o) (alone_state held alone)

-- a block that was verified and accepted is alone
pub accepted_alone : (held : Held) (id state : List ℕ) → IsAlone held → bytes_eq id held.last ≡ false → accepted (with_state held id state) id ≡ begun id state
accepted_alone held id state alone other =
    let with : States → Held = λ m. record { last = id; states = m } in
    ap with (same_map nat_list_cmp_total (slice_cmp-IsAntisymmetric nat_cmp-IsAntisymmetric) (remove (insert held.states id state) held.last) (insert empty id state) (λ q.
    get-remove nat_list_cmp_total (insert held.states id state) held.last q
    ∙ ap (λ t. cond t None (get (insert held.states id state) q)) (is_eq-slice_cmp q held.last)
    ∙ ap (λ o. cond (bytes_eq q held.last) None o) (get-insert nat_list_cmp_total held.states id state q ∙ ap (λ t. cond t (Some state) (get held.states q)) (is_eq-slice_cmp q id))
    ∙ both q (bytes_eq q held.last) (bytes_eq q id) refl refl
    ∙ sym (begun_at id state q)))
  where
    both : (q : List ℕ) (a b : Bool) → bytes_eq q held.last ≡ a → bytes_eq q id ≡ b → cond a None (cond b (Some state) (get held.states q)) ≡ cond b (Some state) None
    both q true true is_last is_id = clash (bytes_eq id held.last) (ap (λ x. bytes_eq x held.last) (sym (same_id q id is_id)) ∙ is_last) other
    both q true false is_last is_id = refl
    both q false true is_last is_id = refl
    both q false false is_last is_id = alone_other held q alone is_last

-- the state of the only block
pub begun_alone : (id state : List ℕ) → (last_state (begun id state) ≡ state) × IsAlone (begun id state)
begun_alone id state =
    let is : last_state (begun id state) ≡ state = ap (λ o. unwrap_or o []) (begun_at id state id ∙ ap (λ t. cond t (Some state) None) (id_same id id refl)) in
    (is, ap (begun id) (sym is))

-- it may be accepted
pub may_accept : (held : Held) (id state : List ℕ) → IsAlone held → bytes_eq id held.last ≡ false → MayAccept (with_state held id state) id
may_accept held id state alone other = record {
  known = subst IsSome (sym (at id ∙ ap (λ t. cond t (Some state) (state_of held id)) (id_same id id refl))) refl;
  other = turned;
  below = subst IsSome (sym (at held.last ∙ ap (λ t. cond t (Some state) (state_of held held.last)) turned ∙ alone_state held alone)) refl;
}
  where
    at : (q : List ℕ) → state_of (with_state held id state) q ≡ cond (bytes_eq q id) (Some state) (state_of held q)
    at q = get-insert nat_list_cmp_total held.states id state q ∙ ap (λ t. cond t (Some state) (get held.states q)) (is_eq-slice_cmp q id)

    turned : bytes_eq held.last id ≡ false
    turned = id_turned held.last id ∙ other
