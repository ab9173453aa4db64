-- Each list that is held stays a state.
use Rattle.std.proofs.Common.{◌≡◌, ℕ, Bool, true, false, cond, List, Option, Some, None, sym, subst, ◌∙◌}
use Rattle.std.specs.Ordering.{nat_cmp, eq_by_cmp}
use Rattle.std.specs.Cmp.Lexicographic.{slice_cmp, nat_list_cmp_total}
use Rattle.std.specs.FinMap.{empty, get-empty, get-insert, get-remove}
use Rattle.std.proofs.lemmas.Option.{option_and_then_some}
use Rattle.snow_chain.specs.Model.Chain.{Held, state_of, next_on, begun, with_state, accepted, rejected}
use Rattle.snow_ledger.specs.Model.Ledger.{is_state, next, ledger_rules, HoldsStates}
use Rattle.snow_ledger.proofs.Paths.{next_is_state}

abbrev same : List ℕ → List ℕ → Bool
same = eq_by_cmp (slice_cmp nat_cmp)

-- what is found is what was put in, or what was there
put : (b : Bool) (o : Option (List ℕ)) (state found : List ℕ) → is_state state ≡ true → (o ≡ Some found → is_state found ≡ true)
    → cond b (Some state) o ≡ Some found → is_state found ≡ true
put true o state found good before is = let e : state ≡ found = cc in subst (λ (s : List ℕ). is_state s ≡ true) e good
put false o state found good before is = before is

-- what is found is what was there
kept : (b : Bool) (o : Option (List ℕ)) (found : List ℕ) → (o ≡ Some found → is_state found ≡ true) → cond b None o ≡ Some found → is_state found ≡ true
kept true o found before is = cc
kept false o found before is = before is

-- a state alone
begun_holds : (last state : List ℕ) → is_state state ≡ true → HoldsStates (begun last state)
begun_holds last state good = record {
  each = λ id found is.
      put (same id last) None state found good (λ e. cc)
      (subst (λ (o : Option (List ℕ)). cond (same id last) (Some state) o ≡ Some found) (get-empty (slice_cmp nat_cmp) id)
      (sym (get-insert nat_list_cmp_total empty last state id) ∙ is));
}

-- one state more
with_state_holds : (held : Held) (id state : List ℕ) → HoldsStates held → is_state state ≡ true → HoldsStates (with_state held id state)
with_state_holds held id state before good = record {
  each = λ at found is.
      put (same at id) (state_of held at) state found good (before.each at found)
      (sym (get-insert nat_list_cmp_total held.states id state at) ∙ is);
}

-- one state less
accepted_holds : (held : Held) (id : List ℕ) → HoldsStates held → HoldsStates (accepted held id)
accepted_holds held id before = record {
  each = λ at found is.
      kept (same at held.last) (state_of held at) found (before.each at found)
      (sym (get-remove nat_list_cmp_total held.states held.last at) ∙ is);
}

rejected_holds : (held : Held) (id : List ℕ) → HoldsStates held → HoldsStates (rejected held id)
rejected_holds held id before = record {
  each = λ at found is.
      kept (same at id) (state_of held at) found (before.each at found)
      (sym (get-remove nat_list_cmp_total held.states id at) ∙ is);
}

-- ---- after each call

pub after_begin : (after : Held) (last state : List ℕ) → after ≡ begun last state → is_state state ≡ true → HoldsStates after
after_begin after last state is good = subst HoldsStates (sym is) (begun_holds last state good)

pub after_hold : (before after : Held) (id state : List ℕ) → after ≡ with_state before id state → HoldsStates before → is_state state ≡ true → HoldsStates after
after_hold before after id state is all good = subst HoldsStates (sym is) (with_state_holds before id state all good)

pub after_accept : (before after : Held) (id : List ℕ) → after ≡ accepted before id → HoldsStates before → HoldsStates after
after_accept before after id is all = subst HoldsStates (sym is) (accepted_holds before id all)

pub after_reject : (before after : Held) (id : List ℕ) → after ≡ rejected before id → HoldsStates before → HoldsStates after
after_reject before after id is all = subst HoldsStates (sym is) (rejected_holds before id all)

-- the state of a valid block on one that is held
pub next_on_is_state : (held : Held) (parent bytes state : List ℕ) → HoldsStates held → next_on ledger_rules held parent bytes ≡ Some state → is_state state ≡ true
next_on_is_state held parent bytes state all is =
    option_and_then_some (λ below. next below bytes) (state_of held parent) state is (λ below above valid.
    next_is_state below state bytes (all.each parent below above) valid)
