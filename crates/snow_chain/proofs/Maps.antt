-- Entries by identifier, and the finite map that they make.
use Rattle.std.proofs.Common.{◌≡◌, ℕ, List, [], ◌∷◌, Some, None, cond, refl, sym, ap, ◌∙◌}
use Rattle.std.specs.Ordering.{nat_cmp, eq_by_cmp}
use Rattle.std.specs.Cmp.{eq_by_cmp_equiv}
use Rattle.std.specs.Cmp.Lexicographic.{slice_cmp, nat_list_cmp_total}
use Rattle.std.specs.Str.{bytes_eq}
use Rattle.std.specs.FinMap.{find, from_entries, get, insert, remove, get-from_entries, get-insert, get-remove, same_map, slice_cmp-IsAntisymmetric, nat_cmp-IsAntisymmetric}
use Rattle.std.proofs.lemmas.Map.Text.{is_eq-slice_cmp}
use Rattle.snow_map.specs.Clauses.Entries.{value_of, HasAt}
use Rattle.snow_chain.specs.Model.Chain.{Held, States, state_of, begun, with_state, accepted, rejected}

abbrev Entries : Type 0
Entries = List (List ℕ × List ℕ)

-- the map that they make
abbrev states_of : Entries → States
states_of es = from_entries es

found : (es : Entries) (id : List ℕ) → find (slice_cmp nat_cmp) id es ≡ value_of es id
found [] id = refl
found (e ∷ es) id =
    ap (λ b. cond b (Some e.1) (find (slice_cmp nat_cmp) id es)) (is_eq-slice_cmp id e.0)
    ∙ ap (cond (bytes_eq id e.0) (Some e.1)) (found es id)

-- the map has what the entries have
pub get_state : (es : Entries) (id : List ℕ) → get (states_of es) id ≡ value_of es id
get_state es id = get-from_entries nat_list_cmp_total es id ∙ found es id

-- two identifiers are the same where neither comes first, whichever is compared to the other
turned : (a b : List ℕ) → bytes_eq a b ≡ eq_by_cmp (slice_cmp nat_cmp) b a
turned a b = sym (is_eq-slice_cmp a b) ∙ (eq_by_cmp_equiv nat_list_cmp_total).symm a b

same_states : (m n : States) → ((id : List ℕ) → get m id ≡ get n id) → m ≡ n
same_states m n = same_map nat_list_cmp_total (slice_cmp-IsAntisymmetric nat_cmp-IsAntisymmetric) m n

-- where entries differ by one that was put in, the maps do so
pub one_held : (es fs : Entries) (id state : List ℕ) → HasAt es fs id (Some state)
    → states_of fs ≡ insert (states_of es) id state
one_held es fs id state h = same_states _ _ (λ q.
    get_state fs q ∙ h q ∙ ap (λ b. cond b (Some state) (value_of es q)) (turned id q)
    ∙ sym (get-insert nat_list_cmp_total (states_of es) id state q ∙ ap (cond (eq_by_cmp (slice_cmp nat_cmp) q id) (Some state)) (get_state es q)))

-- where entries differ by one that went, the maps do so
pub one_gone : (es fs : Entries) (id : List ℕ) → HasAt es fs id None
    → states_of fs ≡ remove (states_of es) id
one_gone es fs id h = same_states _ _ (λ q.
    get_state fs q ∙ h q ∙ ap (λ b. cond b None (value_of es q)) (turned id q)
    ∙ sym (get-remove nat_list_cmp_total (states_of es) id q ∙ ap (cond (eq_by_cmp (slice_cmp nat_cmp) q id) None) (get_state es q)))

-- the last accepted block, and the map that entries make
abbrev held_in : List ℕ → Entries → Held
held_in last es = record { last = last; states = states_of es }

pub after_begin : (last : List ℕ) (es fs : Entries) (state : List ℕ) → es ≡ []
    → HasAt es fs last (Some state)
    → held_in last fs ≡ begun last state
after_begin last es fs state none h =
    let with : States → Held = λ m. record { last = last; states = m } in
    ap with (one_held [] fs last state (λ q. h q ∙ ap (λ l. cond (bytes_eq last q) (Some state) (value_of l q)) none))

pub after_hold : (last : List ℕ) (es fs : Entries) (id state : List ℕ) (before : Held) → held_in last es ≡ before
    → HasAt es fs id (Some state)
    → held_in last fs ≡ with_state before id state
after_hold last es fs id state before is h =
    let with : States → Held = λ m. record { last = last; states = m } in
    ap with (one_held es fs id state h) ∙ ap (λ held. with_state held id state) is

pub after_accept : (last : List ℕ) (es fs : Entries) (id : List ℕ) (before : Held) → held_in last es ≡ before
    → HasAt es fs last None
    → held_in id fs ≡ accepted before id
after_accept last es fs id before is h =
    let with : States → Held = λ m. record { last = id; states = m } in
    ap with (one_gone es fs last h) ∙ ap (λ held. accepted held id) is

pub after_reject : (last : List ℕ) (es fs : Entries) (id : List ℕ) (before : Held) → held_in last es ≡ before
    → HasAt es fs id None
    → held_in last fs ≡ rejected before id
after_reject last es fs id before is h =
    let with : States → Held = λ m. record { last = last; states = m } in
    ap with (one_gone es fs id h) ∙ ap (λ held. rejected held id) is

-- what is held for an identifier is what the entries have
pub state_at : (last : List ℕ) (es : Entries) (id : List ℕ) (held : Held) → held_in last es ≡ held → value_of es id ≡ state_of held id
state_at last es id held is = sym (get_state es id) ∙ ap (λ held. state_of held id) is
