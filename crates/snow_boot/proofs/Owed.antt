-- Which of the missed identifiers may be without a request, while requests are made and closed.
use Rattle.std.proofs.Common.{◌≡◌, ◌+◌, ℕ, suc, Bool, true, false, ◌||◌, not, cond, List, [], ◌∷◌, ◌++◌, Option, Some, None, bytes_eq, find, if◌then◌else◌, refl, sym, ap, subst, ◌∙◌, arith, append-nil}
use Rattle.std.specs.List.{remove, position_or_len}
use Rattle.std.specs.Option.{option_map}
use Rattle.std.specs.Prelude.{Result, Ok, Err}
use Rattle.std.proofs.lemmas.Bool.{or_right}
use Rattle.snow_base.specs.Model.Numbers.{next_number}
use Rattle.snow_gets.specs.declared.gets.Get.{Get}
use Rattle.snow_gets.specs.Model.Gets.{asked_in, is_get, without}
use Rattle.snow_gets.proofs.Asking.{none_without}
use Rattle.snow_sample.specs.declared.roster.Node.{Node}
use Rattle.snow_lines.specs.declared.line.Line.{Line}
use Rattle.snow_store.specs.declared.needs.Due.{Due}
use Rattle.snow_store.specs.declared.needs.Due.TheVariants as due
use Rattle.snow_store.specs.declared.stop.BootStop.{BootStop}
use Rattle.snow_store.specs.Model.Needing.{names, is_missed, Covers}
use Rattle.snow_store.specs.Model.Paths.{Fetch, missed}
use Rattle.snow_store.proofs.Cases.{split_on, clash, same_id, id_same, same_some, none_not}
use Rattle.snow_store.proofs.Missing.{misser, missed_by}
use Rattle.snow_boot.specs.Model.Asking.{Asked, asked_with, asked_one, and_asked, asked, AreAskedBut, due_of}
use Rattle.snow_boot.specs.Laws.OutcomeLaw.{AreAsked}
use Rattle.snow_boot.specs.Clauses.Calling.{AreDrawn}
use Rattle.snow_boot.specs.Clauses.Requesting.{Asks}
use Rattle.snow_boot.proofs.Requested.{kept_by_one, asked_by_one, nothing_to_ask}

-- ---- what is asked for

-- where all is asked for, nothing is due
pub none_due : (after : Due) (f : Fetch) (requests : List Get) → AreAsked f f.targets requests → AreAskedBut after f requests
none_due after f requests are id is free = let m = misser f f.targets id is in are m.0 id m.1 m.2

-- where nothing is due, all is asked for
pub all_asked_for : (f : Fetch) (targets : List (List ℕ)) (requests : List Get) → ((id : List ℕ) → is_missed f targets id ≡ true → asked_in requests id ≡ true) → AreAsked f targets requests
all_asked_for f targets requests are t id among misses = are id (missed_by f targets t id among misses)

-- lines and what comes behind them, where nothing does
and_nothing : (one : Asked) (more : List Get → ℕ → Asked) → ((requests : List Get) (drawn : ℕ) → one.1 ≡ Ok (requests, drawn) → more requests drawn ≡ ([], Ok (requests, drawn))) → and_asked one more ≡ one
and_nothing (lines, Err why) more none = refl
and_nothing (lines, Ok (requests, drawn)) more none =
    ap (λ (next : Asked). (lines ++ next.0, next.1)) (none requests drawn refl) ∙ ap (λ l. (let a : Asked = (l, Ok (requests, drawn)) in a)) (append-nil lines)

-- all but one of the identifiers that some targets miss are asked for
abbrev ButOne : Fetch → List (List ℕ) → List Get → List ℕ → Type 0
ButOne f targets requests x = (id : List ℕ) → is_missed f targets id ≡ true → bytes_eq x id ≡ false → asked_in requests id ≡ true

-- so it alone is asked for
abbrev AsksOne : List Node → Fetch → List (List ℕ) → List Get → ℕ → List ℕ → Type 0
AsksOne nodes f targets requests drawn x = asked nodes f targets requests drawn ≡ asked_one nodes requests drawn (if is_missed f targets x then Some x else None)

-- once it is asked for, nothing is left
then_none : (nodes : List Node) (f : Fetch) (targets : List (List ℕ)) (requests : List Get) (drawn : ℕ) (x y : List ℕ) → bytes_eq x y ≡ true → ButOne f targets requests x
    → (more : List Get) (last : ℕ) → (asked_one nodes requests drawn (Some y)).1 ≡ Ok (more, last) → asked nodes f targets more last ≡ ([], Ok (more, last))
then_none nodes f targets requests drawn x y same are more last e =
    nothing_to_ask nodes f targets more last (all_asked_for f targets more (λ id is.
    split_on (bytes_eq x id)
    (λ it. asked_by_one nodes requests more drawn last id
    (ap (λ i. (asked_one nodes requests drawn (Some i)).1) (sym (same_id x id it) ∙ same_id x y same) ∙ e))
    (λ other. kept_by_one nodes requests more drawn last (Some y) id e (are id is other))))

-- the first target misses an identifier
one_first : (nodes : List Node) (f : Fetch) (targets : List (List ℕ)) (requests : List Get) (drawn : ℕ) (x y : List ℕ) (u : Bool) → bytes_eq x y ≡ u
    → (u ≡ false → asked_in requests y ≡ true) → ButOne f targets requests x → AsksOne nodes f targets requests drawn x
    → and_asked (asked_one nodes requests drawn (Some y)) (λ requests drawn. asked nodes f targets requests drawn)
    ≡ asked_one nodes requests drawn (if bytes_eq y x || is_missed f targets x then Some x else None)
one_first nodes f targets requests drawn x y true same was are more =
    and_nothing (asked_one nodes requests drawn (Some y)) (λ requests drawn. asked nodes f targets requests drawn) (then_none nodes f targets requests drawn x y same are)
    ∙ ap (λ i. asked_one nodes requests drawn (Some i)) (sym (same_id x y same))
    ∙ ap (λ (t : Bool). asked_one nodes requests drawn (if t || is_missed f targets x then Some x else None)) (sym (id_same y x (sym (same_id x y same))))
one_first nodes f targets requests drawn x y false other was are more =
    let apart : bytes_eq y x ≡ false = split_on (bytes_eq y x) (λ same. clash (bytes_eq x y) (id_same x y (sym (same_id y x same))) other) (λ e. e) in
    ap (λ (t : Bool). and_asked (let a : Asked = if t then ([], Ok (requests, drawn)) else asked_with nodes requests y (next_number drawn) in a) (λ requests drawn. asked nodes f targets requests drawn))
    (was refl)
    ∙ more
    ∙ ap (λ (t : Bool). asked_one nodes requests drawn (if t || is_missed f targets x then Some x else None)) (sym apart)

-- where all but one identifier are asked for, it alone is asked for
pub asked_but_one : (nodes : List Node) (f : Fetch) (targets : List (List ℕ)) (requests : List Get) (drawn : ℕ) (x : List ℕ) → ButOne f targets requests x → AsksOne nodes f targets requests drawn x
unfolding asked
asked_but_one nodes f [] requests drawn x are = refl
asked_but_one nodes f (t ∷ targets) requests drawn x are =
    by_missed (missed f t) refl (asked_but_one nodes f targets requests drawn x (λ id is other. are id (ap (λ u. names (missed f t) id || u) is ∙ or_right (names (missed f t) id) true refl) other))
  where
    rest : ButOne f targets requests x
    rest id is other = are id (ap (λ u. names (missed f t) id || u) is ∙ or_right (names (missed f t) id) true refl) other

    by_missed : (o : Option (List ℕ)) → missed f t ≡ o → AsksOne nodes f targets requests drawn x
        → and_asked (asked_one nodes requests drawn o) (λ requests drawn. asked nodes f targets requests drawn)
        ≡ asked_one nodes requests drawn (if names o x || is_missed f targets x then Some x else None)
    by_missed None e more = more
    by_missed (Some y) e more =
        one_first nodes f targets requests drawn x y (bytes_eq x y) refl
        (λ other. are y (ap (λ o. names o y || is_missed f targets y) e ∙ ap (λ u. u || is_missed f targets y) (id_same y y refl)) other) rest more

-- requests stay named under what is due
pub covered : (before after : Due) (f g : Fetch) (requests : List Get) → Covers before (is_missed f f.targets) after (is_missed g g.targets) → AreAskedBut before f requests → AreAskedBut after g requests
covered before after f g requests covers are q is free = let c = covers q is free in are q c.0 c.1

-- ---- a request is closed

-- the others stay
closed_stays : (p : Get → Bool) (requests : List Get) (x id : List ℕ) → option_map (λ (g : Get). g.id) (find p requests) ≡ Some x → bytes_eq x id ≡ false → asked_in requests id ≡ true
    → asked_in (without p requests) id ≡ true
closed_stays p [] x id found other e = none_not x found
closed_stays p (g ∷ requests) x id found other e =
    let Goal : Bool → Type 0 = λ b. option_map (λ (g : Get). g.id) (cond b (Some g) (find p requests)) ≡ Some x
    → asked_in (remove (g ∷ requests) (cond (not b) (1 + position_or_len p requests) 0)) id ≡ true in
    let step : suc (position_or_len p requests) ≡ 1 + position_or_len p requests = omega arith in
    (elim (p g) as Goal [
      | true ↦ λ f. at_first (bytes_eq g.id id) (ap (λ i. bytes_eq i id) (same_some g.id x f) ∙ other) e
      | false ↦ λ f. ap (λ k. asked_in (remove (g ∷ requests) k) id) (sym step) ∙ at_later (bytes_eq g.id id) (closed_stays p requests x id f other) e
    ]) found
  where
    at_first : (u : Bool) → u ≡ false → (u || asked_in requests id) ≡ true → asked_in requests id ≡ true
    at_first true e s = clash true refl e
    at_first false e s = s

    at_later : (u : Bool) → (asked_in requests id ≡ true → asked_in (without p requests) id ≡ true) → (u || asked_in requests id) ≡ true → (u || asked_in (without p requests) id) ≡ true
    at_later true more e = refl
    at_later false more e = more e

-- so what it asked for is due, and nothing else
pub closed_due : (f : Fetch) (requests more : List Get) (number : ℕ) (node : List ℕ) (o : Option (List ℕ)) → o ≡ option_map (λ (g : Get). g.id) (find (is_get number node) requests)
    → more ≡ without (is_get number node) requests → AreAsked f f.targets requests → AreAskedBut (due_of o) f more
closed_due f requests more number node None none left are q is free =
    ap (λ l. asked_in l q) (left ∙ sym (none_without (is_get number node) requests (none_found (find (is_get number node) requests) none))) ∙ none_due due.Nothing f requests are q is free
  where
    none_found : (o : Option Get) → None ≡ option_map (λ (g : Get). g.id) o → o ≡ None
    none_found None e = refl
    none_found (Some g) e = none_not g.id e
closed_due f requests more number node (Some x) found left are q is free =
    ap (λ l. asked_in l q) left ∙ closed_stays (is_get number node) requests x q (sym found) free (none_due due.Nothing f requests are q is refl)

-- ---- what is due is asked for

-- nothing is due
pub asks_nothing : (nodes : List Node) (f : Fetch) (requests : List Get) (drawn : ℕ) (log : List Line) → AreAskedBut due.Nothing f requests → AreDrawn requests drawn
    → Asks (Ok tt) log log requests drawn (asked nodes f f.targets requests drawn)
asks_nothing nodes f requests drawn log free are =
    let none = nothing_to_ask nodes f f.targets requests drawn (all_asked_for f f.targets requests (λ q is. free q is refl)) in
    subst (λ (o : Asked). Asks (Ok tt) log log requests drawn o) (sym none) (sym (append-nil log), refl, are)

-- one identifier is, where a target misses it
pub asks_one : (r : Result (Unit {0}) BootStop) (seen nodes : List Node) (f : Fetch) (requests more : List Get) (drawn last : ℕ) (before after : List Line) (id : List ℕ) (needed : Option (List ℕ))
    → AreAskedBut (due.One id) f requests → seen ≡ nodes → needed ≡ (if is_missed f f.targets id then Some id else None) → Asks r before after more last (asked_one seen requests drawn needed)
    → Asks r before after more last (asked nodes f f.targets requests drawn)
asks_one r seen nodes f requests more drawn last before after id needed free same is a =
    subst (λ (o : Asked). Asks r before after more last o) (ap (asked_one nodes requests drawn) is ∙ sym (asked_but_one nodes f f.targets requests drawn id free))
    (subst (λ (n : List Node). Asks r before after more last (asked_one n requests drawn needed)) same a)
