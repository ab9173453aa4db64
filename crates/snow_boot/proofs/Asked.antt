-- Requests with the numbers that are drawn for them.
use Rattle.std.proofs.Common.{◌≡◌, ℕ, ◌+◌, ◌-◌, ◌^◌, ◌<◌, ◌≤◌, Bool, true, false, nat_lt, List, [], ◌∷◌, ◌++◌, Some, if◌then◌else◌, refl, sym, ap, subst, ◌∙◌, arith, append-nil}
use Rattle.std.specs.Prelude.{Result, Ok, Err}
use Rattle.std.proofs.lemmas.Bool.{ne_eqb}
use Rattle.std.proofs.lemmas.Bool.Decides.{nat_tests}
use Rattle.std.proofs.Math.Nat.{min-eq_left}
use Rattle.snow_base.specs.Model.Numbers.{next_number, last_after}
use Rattle.snow_gets.specs.declared.gets.Get.{Get}
use Rattle.snow_gets.specs.Model.Gets.{has_number, with_get}
use Rattle.snow_sample.specs.declared.roster.Node.{Node}
use Rattle.snow_lines.specs.declared.line.Line.{Line}
use Rattle.snow_lines.specs.declared.line.Line.TheVariants as line
use Rattle.snow_store.specs.declared.stop.BootStop.{BootStop}
use Rattle.snow_store.specs.declared.stop.BootStop.TheVariants as stop
use Rattle.snow_boot.specs.Model.Asking.{Asked, asked_node, asked_with, asked_one, and_asked, asked}
use Rattle.snow_boot.specs.Clauses.Calling.{AreDrawn}
use Rattle.snow_store.specs.Model.Paths.{Fetch, missed}
use Rattle.snow_boot.specs.Clauses.Requesting.{Asks}
use Rattle.snow_store.proofs.Cases.{split_on, same_some, not_none}
use Rattle.snow_boot.proofs.Underway.{IsUnderway, goes_on, stops_here, runs_out}

-- a number that comes behind all that were drawn is none of an open request
pub not_drawn : (requests : List Get) (drawn number : ℕ) → AreDrawn requests drawn → drawn < number → has_number requests number ≡ false
not_drawn [] drawn number are above = refl
not_drawn (r ∷ requests) drawn number are above = rw (ne_eqb r.number number (λ e. omega (arith, e, are.0, above))) (not_drawn requests drawn number are.1 above)

-- numbers that were drawn stay drawn
pub still_drawn : (requests : List Get) (drawn last : ℕ) → drawn ≤ last → AreDrawn requests drawn → AreDrawn requests last
still_drawn [] drawn last more are = tt
still_drawn (r ∷ requests) drawn last more are = (omega (arith, are.0, more), still_drawn requests drawn last more are.1)

-- one request more
pub drawn_with : (requests : List Get) (get : Get) (drawn : ℕ) → get.number ≤ drawn → AreDrawn requests drawn → AreDrawn (with_get requests get) drawn
drawn_with [] get drawn is are = (is, tt)
drawn_with (r ∷ requests) get drawn is are = by_test (nat_lt get.number r.number) (drawn_with requests get drawn is are.1)
  where
    by_test : (t : Bool) → AreDrawn (with_get requests get) drawn → AreDrawn (if t then get ∷ r ∷ requests else r ∷ with_get requests get) drawn
    by_test true more = (is, are)
    by_test false more = (are.0, more)

-- the number that is drawn
pub next_is : (drawn number : ℕ) → Some number ≡ next_number drawn → (number ≡ drawn + 1) × (last_after drawn ≡ number)
next_is drawn number e =
    split_on (nat_lt drawn (2 ^ 32 - 1))
    (λ less.
    let is : number ≡ drawn + 1 = same_some number (drawn + 1) (rw less at e) in
    (is, min-eq_left (grind (arith, nat_tests, less)) ∙ sym is))
    (λ more. not_none number (rw more at e))

-- what comes of two askings, by the first
and_goes : (one : Asked) (more : List Get → ℕ → Asked) (requests : List Get) (drawn : ℕ) → one.1 ≡ Ok (requests, drawn) → and_asked one more ≡ (one.0 ++ (more requests drawn).0, (more requests drawn).1)
and_goes (lines, Err why) more requests drawn e = cc
and_goes (lines, Ok (r, d)) more requests drawn e = ap (λ (p : List Get × ℕ). (lines ++ (more p.0 p.1).0, (more p.0 p.1).1)) (same_asked e)
  where
    asked_of : Result (List Get × ℕ) BootStop → List Get × ℕ
    asked_of (Ok p) = p
    asked_of (Err why) = (r, d)

    same_asked : (let a : Result (List Get × ℕ) BootStop = Ok (r, d) in a) ≡ Ok (requests, drawn) → (let p : List Get × ℕ = (r, d) in p) ≡ (requests, drawn)
    same_asked e = ap asked_of e

and_stops : (one : Asked) (more : List Get → ℕ → Asked) (why : BootStop) → one.1 ≡ Err why → and_asked one more ≡ (one.0, Err why)
and_stops (lines, Err reason) more why e = ap (λ r. (lines, r)) e
and_stops (lines, Ok (r, d)) more why e = cc

-- at least the first's lines
and_front : (one : Asked) (more : List Get → ℕ → Asked) → (rest : List Line) × ((and_asked one more).0 ≡ one.0 ++ rest)
and_front (lines, Err why) more = ([], sym (append-nil lines))
and_front (lines, Ok (r, d)) more = ((more r d).0, refl)

-- the next target was asked for
pub asks_on : (nodes : List Node) (f : Fetch) (t : List ℕ) (targets : List (List ℕ)) (requests more : List Get) (drawn last : ℕ) (before now after : List Line) (whole : Asked)
    → IsUnderway before now (asked nodes f (t ∷ targets) requests drawn) whole → Asks (Ok tt) now after more last (asked_one nodes requests drawn (missed f t))
    → IsUnderway before after (asked nodes f targets more last) whole
unfolding asked
asks_on nodes f t targets requests more drawn last before now after whole u a =
    let one = asked_one nodes requests drawn (missed f t) in
    goes_on before now after one.0 (and_asked one (λ requests drawn. asked nodes f targets requests drawn)) (asked nodes f targets more last) whole u a.0
    (and_goes one (λ requests drawn. asked nodes f targets requests drawn) more last a.1)

-- or it stopped
stop_one : (one : Asked) (more : List Get → ℕ → Asked) (requests : List Get) (drawn : ℕ) (before now after : List Line) (whole : Asked) (why : BootStop)
    → IsUnderway before now (and_asked one more) whole → Asks (Err why) now after requests drawn one → Asks (Err why) before after requests drawn whole
stop_one one more requests drawn before now after whole why u a = by_stop why a
  where
    stopped : (why : BootStop) → (after ≡ now ++ one.0) × (one.1 ≡ Err why) → (after ≡ before ++ whole.0) × (whole.1 ≡ Err why)
    stopped why a = stops_here before now after one.0 (Err why) (and_asked one more) whole u a.0 (and_stops one more why a.1)

    by_stop : (why : BootStop) → Asks (Err why) now after requests drawn one → Asks (Err why) before after requests drawn whole
    by_stop stop.Memory a = let front = and_front one more in runs_out before now after one.0 front.0 (and_asked one more) whole u front.1 a
    by_stop (stop.Conflict height first second) a = stopped (stop.Conflict height first second) a
    by_stop (stop.Fork x parent) a = stopped (stop.Fork x parent) a
    by_stop (stop.Refused x) a = stopped (stop.Refused x) a
    by_stop stop.Full a = stopped stop.Full a
    by_stop stop.Requests a = stopped stop.Requests a

pub asks_stop : (nodes : List Node) (f : Fetch) (t : List ℕ) (targets : List (List ℕ)) (requests more : List Get) (drawn last : ℕ) (before now after : List Line) (whole : Asked) (why : BootStop)
    → IsUnderway before now (asked nodes f (t ∷ targets) requests drawn) whole → Asks (Err why) now after more last (asked_one nodes requests drawn (missed f t))
    → Asks (Err why) before after more last whole
unfolding asked
asks_stop nodes f t targets requests more drawn last before now after whole why u a =
    stop_one (asked_one nodes requests drawn (missed f t)) (λ requests drawn. asked nodes f targets requests drawn) more last before now after whole why u a

-- all was asked for
pub asks_all : (nodes : List Node) (f : Fetch) (targets : List (List ℕ)) (requests : List Get) (drawn : ℕ) (before now : List Line) (whole : Asked) → targets ≡ []
    → IsUnderway before now (asked nodes f targets requests drawn) whole → AreDrawn requests drawn → Asks (Ok tt) before now requests drawn whole
unfolding asked
asks_all nodes f [] requests drawn before now whole none u are =
    let e = stops_here before now now [] (Ok (requests, drawn)) ([], Ok (requests, drawn)) whole u (sym (append-nil now)) refl in (e.0, e.1, are)
asks_all nodes f (t ∷ targets) requests drawn before now whole none u are = cc

-- a request is opened
pub opened : (nodes : List Node) (requests more : List Get) (id node : List ℕ) (number drawn last : ℕ) (before after : List Line) → node ≡ asked_node nodes number → Some number ≡ next_number drawn
    → last ≡ number → AreDrawn requests drawn → more ≡ with_get requests record { number = number; node = node; id = id } → after ≡ before ++ line.Ancestors number node id ∷ []
    → Asks (Ok tt) before after more last (asked_with nodes requests id (next_number drawn))
opened nodes requests more id node number drawn last before after whose next is are grown written =
    let n = next_is drawn number next in
    let r : Get = record { number = number; node = node; id = id } in
    subst (λ o. Asks (Ok tt) before after more last (asked_with nodes requests id o)) next
    (subst (λ x. Asks (Ok tt) before after more last (line.Ancestors number x id ∷ [], Ok (with_get requests record { number = number; node = x; id = id }, number))) whose (
      written,
      ap (λ (p : List Get × ℕ). (let a : Result (List Get × ℕ) BootStop = Ok p in a)) (both grown is),
      subst (λ l. AreDrawn l last) (sym grown) (drawn_with requests r last (omega (arith, is)) (still_drawn requests drawn last (omega (arith, n.0, is)) are)),
    ))
  where
    both : {a b : List Get} {m n : ℕ} → a ≡ b → m ≡ n → (let p : List Get × ℕ = (b, n) in p) ≡ (a, m)
    both e f = rw (e, f) refl
