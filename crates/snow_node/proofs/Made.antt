-- A step that is made again and again: the law of it, and what a loop knows on its way.
use Rattle.std.proofs.Common.{◌≡◌, ℕ, zero, suc, ◌<◌, Bool, true, false, List, [], ◌++◌, append_assoc, append-nil, Result, Ok, Err, refl, sym, ap, ◌∙◌, subst, arith}
use Rattle.snow_lines.specs.declared.line.Line.{Line}
use Rattle.snow_node.specs.declared.stop.Halt.{Halt}
use Rattle.snow_node.specs.declared.stop.Halt.TheVariants as halt
use Rattle.snow_node.specs.Model.Outcome.{Comes, after_lines, going_on, then_comes, where_made}
use Rattle.snow_node.specs.Model.Again.{again, all_made}
use Rattle.snow_node.specs.Clauses.Stepping.{Tells, LogsFront, HaltsAs}
use Rattle.snow_node.proofs.Logs.{logs_then_front, logs_front_of_more}

-- lines in front of lines
pub after_more : {T : Type 0} (a b : List Line) (later : Comes T) → after_lines a (after_lines b later) ≡ after_lines (a ++ b) later
after_more {T = T} a b later = ap (λ (l : List Line). (l, later.1)) (sym (append_assoc a b later.0))

module _ (T : Type 0) (size : T → ℕ) (step : T → Comes (T × Bool)) where
  -- what a step comes to decides what follows
  same_after : (lines : List Line) (r : Result (T × Bool) Halt) (f g : T → Comes T) → ((y : T) → r ≡ Ok (y, true) → f y ≡ g y)
      → going_on lines r (where_made f) ≡ going_on lines r (where_made g)
  same_after lines (Err s) f g h = refl
  same_after lines (Ok (x, true)) f g h = ap (after_lines lines) (h x refl)
  same_after lines (Ok (x, false)) f g h = refl

  -- each step that is made leaves less
  abbrev pub Falls : Type 0
  Falls = (x y : T) → (step x).1 ≡ Ok (y, true) → size y < size x

  -- more times than what is there change nothing
  pub enough : Falls → (n m : ℕ) (x : T) → size x < n → size x < m → again n step x ≡ again m step x
  unfolding again
  enough falls zero m x a b = absurd (omega arith)
  enough falls (suc n) zero x a b = absurd (omega arith)
  enough falls (suc n) (suc m) x a b =
      same_after (step x).0 (step x).1 (again n step) (again m step)
      (λ y made. enough falls n m y (below (size y) (size x) n (falls x y made) a) (below (size y) (size x) m (falls x y made) b))
    where
      below : (i j k : ℕ) → i < j → j < suc k → i < k
      below i j k p q = omega arith

  abbrev pub all : T → Comes T
  all x = all_made size step x

  -- one step, and then all that follow
  pub one_then : Falls → (x : T) → all x ≡ then_comes (step x) (where_made all)
  unfolding again
  one_then falls x =
      same_after (step x).0 (step x).1 (again (size x) step) all
      (λ y made. enough falls (size x) (suc (size y)) y (falls x y made) (next (size y)))
    where
      next : (n : ℕ) → n < suc n
      next n = omega arith

  -- the lines so far, and that all comes to these and what is still to come
  pub record Along (first : T) (log : List Line) (now : T) (log_now : List Line) : Type 0 where
    pub front : List Line
    pub grown : log_now ≡ log ++ front
    pub same : all first ≡ after_lines front (all now)

  pub begins : (x : T) (log : List Line) → Along x log x log
  begins x log = record { front = []; grown = sym (append-nil log); same = refl }

  module _ (falls : Falls) (first : T) (log : List Line) (now : T) (log_now : List Line) (along : Along first log now log_now) where
    -- what comes of all, by what comes of the next step
    by_step : (r : Result (T × Bool) Halt) → (step now).1 ≡ r → all first ≡ after_lines along.front (going_on (step now).0 r (where_made all))
    by_step r e = along.same ∙ ap (after_lines along.front) (one_then falls now ∙ ap (λ (x : Result (T × Bool) Halt). going_on (step now).0 x (where_made all)) e)

    -- the lines of the next step too
    grown_more : (log_next lines : List Line) → log_next ≡ log_now ++ lines → log_next ≡ log ++ (along.front ++ lines)
    grown_more log_next lines e = e ∙ ap (λ (l : List Line). l ++ lines) along.grown ∙ append_assoc log along.front lines

    -- a step more was made
    pub more : (next : T) (log_next : List Line) → (step now).1 ≡ Ok (next, true) → log_next ≡ log_now ++ (step now).0 → Along first log next log_next
    more next log_next e logged = record {
      front = along.front ++ (step now).0;
      grown = grown_more log_next (step now).0 logged;
      same = by_step (Ok (next, true)) e ∙ after_more along.front (step now).0 (all next);
    }

    -- no step was to be made
    pub done : (next : T) (log_next : List Line) → (step now).1 ≡ Ok (next, false) → log_next ≡ log_now ++ (step now).0
        → ((all first).1 ≡ Ok next) × (log_next ≡ log ++ (all first).0)
    done next log_next e logged =
        let all_is = by_step (Ok (next, false)) e in (
          ap (λ (c : Comes T). c.1) all_is,
          grown_more log_next (step now).0 logged
              ∙ ap (λ (l : List Line). log ++ (along.front ++ l)) (sym (append-nil (step now).0))
              ∙ ap (λ (l : List Line). log ++ l) (sym (ap (λ (c : Comes T). c.0) all_is)),
        )

    -- a step came to a stop
    ended : (s : Halt) (log_next : List Line) → (step now).1 ≡ Err s → log_next ≡ log_now ++ (step now).0
        → ((all first).1 ≡ Err s) × (log_next ≡ log ++ (all first).0)
    ended s log_next a l =
        let all_is = by_step (Err s) a in (
          ap (λ (c : Comes T). c.1) all_is,
          grown_more log_next (step now).0 l ∙ ap (λ (ls : List Line). log ++ ls) (sym (ap (λ (c : Comes T). c.0) all_is)),
        )

    -- a step stopped
    pub stopped : (s : Halt) (log_next : List Line) → HaltsAs s (step now).1 → Tells {T = Bool} (Err s) log_now log_next (step now).0
        → HaltsAs s (all first).1 × Tells {T = Unit {0}} (Err s) log log_next (all first).0
    stopped halt.Memory log_next a l = (tt, ran_out (step now).1 refl)
      where
        ran_out : (r : Result (T × Bool) Halt) → (step now).1 ≡ r → LogsFront log log_next (all first).0
        ran_out r e =
            let front : LogsFront log log_next (along.front ++ (step now).0) = logs_then_front log log_now log_next along.front (step now).0 (along.front ++ (step now).0) along.grown l refl in
            behind r (ap (λ (c : Comes T). c.0) (by_step r e)) front
          where
            behind : (r : Result (T × Bool) Halt) → (all first).0 ≡ (after_lines along.front (going_on (step now).0 r (where_made all))).0
                → LogsFront log log_next (along.front ++ (step now).0) → LogsFront log log_next (all first).0
            behind (Err s) e p = subst (λ (ls : List Line). LogsFront log log_next ls) (sym e) p
            behind (Ok (x, true)) e p =
                logs_front_of_more log log_next (along.front ++ (step now).0) (all x).0 (all first).0 p (append_assoc along.front (step now).0 (all x).0 ∙ sym e)
            behind (Ok (x, false)) e p =
                logs_front_of_more log log_next (along.front ++ (step now).0) [] (all first).0 p (append_assoc along.front (step now).0 [] ∙ sym e)
    stopped halt.SecondStart log_next a l = ended halt.SecondStart log_next a l
    stopped halt.Requests log_next a l = ended halt.Requests log_next a l
