-- What targets miss is asked for, and asked for once.
use Rattle.std.proofs.Common.{◌≡◌, ℕ, Bool, true, false, ◌||◌, List, [], ◌∷◌, ◌++◌, Option, Some, None, if◌then◌else◌, inl, inr, refl, sym, ap, subst, ◌∙◌}
use Rattle.std.specs.Prelude.{Result, Ok, Err}
use Rattle.snow_base.specs.Model.Numbers.{next_number}
use Rattle.snow_sample.specs.declared.roster.Node.{Node}
use Rattle.snow_gets.specs.declared.gets.Get.{Get}
use Rattle.snow_gets.specs.Model.Gets.{asked_in, with_get}
use Rattle.snow_gets.proofs.Asking as gets
use Rattle.snow_store.specs.declared.stop.BootStop.{BootStop}
use Rattle.snow_store.specs.declared.stop.BootStop.TheVariants as stop
use Rattle.snow_store.specs.Model.Paths.{Fetch, missed}
use Rattle.snow_boot.specs.Model.Asking.{Asked, asked_node, asked_with, asked_one, and_asked, asked}
use Rattle.snow_boot.specs.Laws.OutcomeLaw.{AreAsked}
use Rattle.snow_store.proofs.Cases.{clash, id_same}
use Rattle.snow_store.proofs.Whole.{first_or, later, first}

-- what two askings gave, one after the other
pub record AskedBoth (one : Asked) (more : List Get → ℕ → Asked) (requests : List Get) (last : ℕ) : Type 0 where
  pub between : List Get
  pub drawn : ℕ
  pub first : one.1 ≡ Ok (between, drawn)
  pub second : (more between drawn).1 ≡ Ok (requests, last)

both_asked : (one : Asked) (more : List Get → ℕ → Asked) (requests : List Get) (last : ℕ) → (and_asked one more).1 ≡ Ok (requests, last) → AskedBoth one more requests last
both_asked (lines, Err why) more requests last e = cc
both_asked (lines, Ok (between, drawn)) more requests last e = record { between = between; drawn = drawn; first = refl; second = e }

-- the requests that came of an asking
same_requests : (a b : List Get) (m n : ℕ) → (let l : Result (List Get × ℕ) BootStop = Ok (a, m) in l) ≡ Ok (b, n) → a ≡ b
same_requests a b m n e = ap requests_of e
  where
    requests_of : Result (List Get × ℕ) BootStop → List Get
    requests_of (Ok (requests, drawn)) = requests
    requests_of (Err why) = a

-- a request stays when one more is made
pub kept_by_one : (nodes : List Node) (requests more : List Get) (drawn last : ℕ) (o : Option (List ℕ)) (id : List ℕ) → (asked_one nodes requests drawn o).1 ≡ Ok (more, last)
    → asked_in requests id ≡ true → asked_in more id ≡ true
kept_by_one nodes requests more drawn last None id e asked_before = subst (λ l. asked_in l id ≡ true) (same_requests requests more drawn last e) asked_before
kept_by_one nodes requests more drawn last (Some x) id e asked_before = by_test (asked_in requests x) e
  where
    with_number : (o : Option ℕ) → (asked_with nodes requests x o).1 ≡ Ok (more, last) → asked_in more id ≡ true
    with_number None e = cc
    with_number (Some n) e =
        let r : Get = record { number = n; node = asked_node nodes n; id = x } in
        subst (λ l. asked_in l id ≡ true) (same_requests (with_get requests r) more n last e)
        (gets.asked_with requests r id ∙ rw asked_before refl)

    by_test : (t : Bool) → (let a : Asked = if t then ([], Ok (requests, drawn)) else asked_with nodes requests x (next_number drawn) in a).1 ≡ Ok (more, last) → asked_in more id ≡ true
    by_test true e = subst (λ l. asked_in l id ≡ true) (same_requests requests more drawn last e) asked_before
    by_test false e = with_number (next_number drawn) e

-- what one target misses is asked for
pub asked_by_one : (nodes : List Node) (requests more : List Get) (drawn last : ℕ) (id : List ℕ) → (asked_one nodes requests drawn (Some id)).1 ≡ Ok (more, last) → asked_in more id ≡ true
asked_by_one nodes requests more drawn last id e = by_test (asked_in requests id) refl e
  where
    or_true : (x : Bool) → (x || true) ≡ true
    or_true true = refl
    or_true false = refl

    with_number : (o : Option ℕ) → (asked_with nodes requests id o).1 ≡ Ok (more, last) → asked_in more id ≡ true
    with_number None e = cc
    with_number (Some n) e =
        let r : Get = record { number = n; node = asked_node nodes n; id = id } in
        subst (λ l. asked_in l id ≡ true) (same_requests (with_get requests r) more n last e)
        (gets.asked_with requests r id ∙ ap (λ t. asked_in requests id || t) (id_same id id refl) ∙ or_true (asked_in requests id))

    by_test : (t : Bool) → asked_in requests id ≡ t → (let a : Asked = if t then ([], Ok (requests, drawn)) else asked_with nodes requests id (next_number drawn) in a).1 ≡ Ok (more, last)
        → asked_in more id ≡ true
    by_test true was e = subst (λ l. asked_in l id ≡ true) (same_requests requests more drawn last e) was
    by_test false was e = with_number (next_number drawn) e

-- a request stays when more are made
kept_by_all : (nodes : List Node) (f : Fetch) (targets : List (List ℕ)) (requests more : List Get) (drawn last : ℕ) (id : List ℕ)
    → (asked nodes f targets requests drawn).1 ≡ Ok (more, last) → asked_in requests id ≡ true → asked_in more id ≡ true
unfolding asked
kept_by_all nodes f [] requests more drawn last id e was = subst (λ l. asked_in l id ≡ true) (same_requests requests more drawn last e) was
kept_by_all nodes f (t ∷ targets) requests more drawn last id e was =
    let b = both_asked (asked_one nodes requests drawn (missed f t)) (λ requests drawn. asked nodes f targets requests drawn) more last e in
    kept_by_all nodes f targets b.between more b.drawn last id b.second (kept_by_one nodes requests b.between drawn b.drawn (missed f t) id b.first was)

-- all that the targets miss is asked for
pub all_asked : (nodes : List Node) (f : Fetch) (targets : List (List ℕ)) (requests more : List Get) (drawn last : ℕ)
    → (asked nodes f targets requests drawn).1 ≡ Ok (more, last) → AreAsked f targets more
unfolding asked
all_asked nodes f [] requests more drawn last e t id among misses = clash true refl (sym among)
all_asked nodes f (u ∷ targets) requests more drawn last e t id among misses =
    let b = both_asked (asked_one nodes requests drawn (missed f u)) (λ requests drawn. asked nodes f targets requests drawn) more last e in
    elim (first_or u t targets among) [
      | inl same ↦
          let wants : missed f u ≡ Some id = ap (missed f) same ∙ misses in
          let one : (asked_one nodes requests drawn (Some id)).1 ≡ Ok (b.between, b.drawn) = ap (λ o. (asked_one nodes requests drawn o).1) (sym wants) ∙ b.first in
          kept_by_all nodes f targets b.between more b.drawn last id b.second (asked_by_one nodes requests b.between drawn b.drawn id one)
      | inr other ↦ all_asked nodes f targets b.between more b.drawn last b.second t id other misses
    ]

-- nothing is asked for twice
none_new : (nodes : List Node) (requests : List Get) (drawn : ℕ) (o : Option (List ℕ)) → ((id : List ℕ) → o ≡ Some id → asked_in requests id ≡ true)
    → asked_one nodes requests drawn o ≡ ([], Ok (requests, drawn))
none_new nodes requests drawn None was = refl
none_new nodes requests drawn (Some id) was = rw (was id refl) refl

pub nothing_to_ask : (nodes : List Node) (f : Fetch) (targets : List (List ℕ)) (requests : List Get) (drawn : ℕ)
    → AreAsked f targets requests → asked nodes f targets requests drawn ≡ ([], Ok (requests, drawn))
unfolding asked
nothing_to_ask nodes f [] requests drawn are = refl
nothing_to_ask nodes f (t ∷ targets) requests drawn are =
    ap (λ one. and_asked one (λ requests drawn. asked nodes f targets requests drawn)) (none_new nodes requests drawn (missed f t) (λ id misses. are t id (first t targets) misses))
    ∙ ap (λ (next : Asked). ([] ++ next.0, next.1)) (nothing_to_ask nodes f targets requests drawn (λ u id among misses. are u id (later t u targets among) misses))

-- ---- asking stops only where no number is left

one_stops : (nodes : List Node) (requests : List Get) (drawn : ℕ) (o : Option (List ℕ)) (why : BootStop) → (asked_one nodes requests drawn o).1 ≡ Err why → why ≡ stop.Requests
one_stops nodes requests drawn None why e = cc
one_stops nodes requests drawn (Some id) why e = by_test (asked_in requests id) e
  where
    with_number : (o : Option ℕ) → (asked_with nodes requests id o).1 ≡ Err why → why ≡ stop.Requests
    with_number None e = cc
    with_number (Some n) e = cc

    by_test : (t : Bool) → (let a : Asked = if t then ([], Ok (requests, drawn)) else asked_with nodes requests id (next_number drawn) in a).1 ≡ Err why → why ≡ stop.Requests
    by_test true e = cc
    by_test false e = with_number (next_number drawn) e

both_stop : (one : Asked) (more : List Get → ℕ → Asked) (why : BootStop) → ((w : BootStop) → one.1 ≡ Err w → w ≡ stop.Requests)
    → ((requests : List Get) (drawn : ℕ) (w : BootStop) → (more requests drawn).1 ≡ Err w → w ≡ stop.Requests) → (and_asked one more).1 ≡ Err why → why ≡ stop.Requests
both_stop (lines, Err w) more why first second e = first why e
both_stop (lines, Ok (requests, drawn)) more why first second e = second requests drawn why e

pub asking_stops : (nodes : List Node) (f : Fetch) (targets : List (List ℕ)) (requests : List Get) (drawn : ℕ) (why : BootStop) → (asked nodes f targets requests drawn).1 ≡ Err why → why ≡ stop.Requests
unfolding asked
asking_stops nodes f [] requests drawn why e = cc
asking_stops nodes f (t ∷ targets) requests drawn why e =
    both_stop (asked_one nodes requests drawn (missed f t)) (λ requests drawn. asked nodes f targets requests drawn) why
    (one_stops nodes requests drawn (missed f t)) (asking_stops nodes f targets) e
