-- The path of the highest kept target is executed where no target misses a block.
use Rattle.std.proofs.Common.{◌≡◌, ℕ, ◌+◌, ◌-◌, true, List, [], ◌∷◌, ◌++◌, Option, Some, None, refl, sym, ap, ◌∙◌, append_assoc, append-nil}
use Rattle.std.specs.Prelude.{Result, Ok, Err}
use Rattle.std.specs.Option.{option_map}
use Rattle.snow_chain.specs.Model.Chain.{Rules, Held}
use Rattle.snow_lines.specs.declared.line.Line.{Line}
use Rattle.snow_lines.specs.declared.line.Line.TheVariants as line
use Rattle.snow_store.specs.declared.store.KeptBlock.{KeptBlock}
use Rattle.snow_boot.specs.declared.boot.Stage.{Stage}
use Rattle.snow_boot.specs.declared.boot.Stage.TheVariants as stage
use Rattle.snow_store.specs.declared.stop.BootStop.{BootStop}
use Rattle.snow_store.specs.declared.stop.BootStop.TheVariants as stop
use Rattle.snow_boot.specs.Clauses.Accepting.{Executes, EndsAt, Concludes, higher_one, top_height}
use Rattle.snow_boot.specs.Model.Booting.{Outcome, Next, Done, ended, finished}
use Rattle.snow_chain.specs.Kept.Alone.{last_state}
use Rattle.snow_boot.specs.Model.Executing.{Executed, executed}
use Rattle.snow_store.specs.Kept.Indexing.{top_of}
use Rattle.snow_store.specs.Model.Keeping.{highest}
use Rattle.snow_store.specs.Laws.Linking.{IsLinked, upward}
use Rattle.snow_store.specs.Model.Paths.{Fetch, is_whole, higher_of, highest_target}
use Rattle.snow_store.proofs.Indexed.{higher_is}
use Rattle.snow_store.proofs.Cases.{none_not, same_some}
use Rattle.snow_store.proofs.Whole.{whole_path}

-- ---- the highest height

abbrev height_of : Option KeptBlock → Option ℕ
height_of o = option_map (λ b. b.header.height) o

higher_heights : (mine others : Option KeptBlock) → height_of (higher_of mine others) ≡ higher_one (height_of mine) (height_of others)
higher_heights None others = refl
higher_heights (Some b) others = ap (λ n. Some n) (higher_is b others)

pub top_height_is : (kept : List KeptBlock) (targets : List (List ℕ)) → height_of (highest_target kept targets) ≡ top_height kept targets
unfolding highest_target
top_height_is kept [] = refl
top_height_is kept (t ∷ targets) = higher_heights (highest kept t) (highest_target kept targets) ∙ ap (higher_one (top_of kept t)) (top_height_is kept targets)

-- ---- the end

ended_is : (height : ℕ) (e : Executed) (last state : List ℕ) → e.1 ≡ Ok (last, state) → ended height e ≡ (e.0 ++ line.Bootstrapped last height ∷ [], Ok (Done last height state))
ended_is height (lines, Err why) last state e = cc
ended_is height (lines, Ok (l, s)) last state e = ap (λ (p : List ℕ × List ℕ). (lines ++ line.Bootstrapped p.0 height ∷ [], (let r : Result Next BootStop = Ok (Done p.0 height p.1) in r))) (ap found e)
  where
    found : Result (List ℕ × List ℕ) BootStop → List ℕ × List ℕ
    found (Ok p) = p
    found (Err why) = (l, s)

ended_stops : (height : ℕ) (e : Executed) (why : BootStop) → e.1 ≡ Err why → ended height e ≡ (e.0, Err why)
ended_stops height (lines, Err reason) why e = ap (λ w. (lines, (let r : Result Next BootStop = Err w in r))) (ap found e)
  where
    found : Result (List ℕ × List ℕ) BootStop → BootStop
    found (Ok p) = reason
    found (Err w) = w
ended_stops height (lines, Ok p) why e = cc

-- at least the lines of the execution
ended_front : (height : ℕ) (e : Executed) → (more : List Line) × ((ended height e).0 ≡ e.0 ++ more)
ended_front height (lines, Err why) = ([], sym (append-nil lines))
ended_front height (lines, Ok (l, s)) = (line.Bootstrapped l height ∷ [], refl)

-- all was executed, and it is told
pub concludes_at : (height : ℕ) (e : Executed) (last : List ℕ) (r : Result Stage BootStop) (before mid after : List Line) (held : Held) → Executes (Ok last) before mid held e
    → EndsAt r mid after last height → Concludes r before after held (ended height e)
concludes_at height e last (Ok stage.Going) before mid after held x t = t
concludes_at height e last (Ok (stage.Done id at)) before mid after held x t =
    let is = ended_is height e last (last_state held) x.1 in (
      t.2 ∙ ap (λ l. l ++ line.Bootstrapped last height ∷ []) x.0 ∙ append_assoc before e.0 (line.Bootstrapped last height ∷ []) ∙ ap (λ (o : Outcome). before ++ o.0) (sym is),
      ap (λ (o : Outcome). o.1) is ∙ both (sym t.0) (sym t.1),
      x.2 ∙ sym t.0,
      x.3,
    )
  where
    both : {a b : List ℕ} {m n : ℕ} → a ≡ b → m ≡ n → (let o : Result Next BootStop = Ok (Done a m (last_state held)) in o) ≡ Ok (Done b n (last_state held))
    both p q = rw (p, q) refl
concludes_at height e last (Err stop.Memory) before mid after held x t =
    let is = ended_is height e last (last_state held) x.1 in record {
      front = e.0;
      rest = line.Bootstrapped last height ∷ [];
      whole = ap (λ (o : Outcome). o.0) (sym is);
      grown = t ∙ x.0;
    }
concludes_at height e last (Err (stop.Conflict h first second)) before mid after held x t = absurd t
concludes_at height e last (Err (stop.Fork id parent)) before mid after held x t = absurd t
concludes_at height e last (Err (stop.Refused id)) before mid after held x t = absurd t
concludes_at height e last (Err stop.Full) before mid after held x t = absurd t
concludes_at height e last (Err stop.Requests) before mid after held x t = absurd t

-- or it stopped
pub concludes_not : (height : ℕ) (e : Executed) (why : BootStop) (before after : List Line) (held : Held) → Executes (Err why) before after held e → Concludes (Err why) before after held (ended height e)
concludes_not height e why before after held x = by_stop why x
  where
    stopped : (why : BootStop) → (after ≡ before ++ e.0) × (e.1 ≡ Err why) → (after ≡ before ++ (ended height e).0) × ((ended height e).1 ≡ Err why)
    stopped why x =
        let is = ended_stops height e why x.1 in
        (x.0 ∙ ap (λ (o : Outcome). before ++ o.0) (sym is), ap (λ (o : Outcome). o.1) is)

    by_stop : (why : BootStop) → Executes (Err why) before after held e → Concludes (Err why) before after held (ended height e)
    by_stop stop.Memory x =
        let more = ended_front height e in record {
          front = x.front;
          rest = x.rest ++ more.0;
          whole = sym (append_assoc x.front x.rest more.0) ∙ ap (λ l. l ++ more.0) x.whole ∙ sym more.1;
          grown = x.grown;
        }
    by_stop (stop.Conflict h first second) x = stopped (stop.Conflict h first second) x
    by_stop (stop.Fork id parent) x = stopped (stop.Fork id parent) x
    by_stop (stop.Refused id) x = stopped (stop.Refused id) x
    by_stop stop.Full x = stopped stop.Full x
    by_stop stop.Requests x = stopped stop.Requests x

-- the path of the highest kept target, by heights
pub path_of_top : (f : Fetch) (top : ℕ) (rules : Rules) (state : List ℕ) → IsLinked f.store → is_whole f ≡ true → Some top ≡ top_height f.store.kept f.targets
    → finished rules state f.store (highest_target f.store.kept f.targets) ≡ ended top (executed rules f.store.last state (upward f.store.kept (f.store.height + 1) (top - f.store.height)))
path_of_top f top rules state l whole e = of_top (highest_target f.store.kept f.targets) refl (e ∙ sym (top_height_is f.store.kept f.targets))
  where
    of_top : (o : Option KeptBlock) → highest_target f.store.kept f.targets ≡ o → Some top ≡ height_of o
        → finished rules state f.store o ≡ ended top (executed rules f.store.last state (upward f.store.kept (f.store.height + 1) (top - f.store.height)))
    of_top None is e = none_not top (sym e)
    of_top (Some b) is e =
        let at : b.header.height ≡ top = sym (same_some top b.header.height e) in
        ap (λ blocks. ended b.header.height (executed rules f.store.last state blocks)) (whole_path f b l whole is).upwards
        ∙ ap (λ n. ended n (executed rules f.store.last state (upward f.store.kept (f.store.height + 1) (n - f.store.height)))) at

-- no target is kept
pub path_of_none : (f : Fetch) (rules : Rules) (state : List ℕ) → None ≡ top_height f.store.kept f.targets
    → finished rules state f.store (highest_target f.store.kept f.targets) ≡ ended f.store.height ([], Ok (f.store.last, state))
unfolding executed
path_of_none f rules state e = of_none (highest_target f.store.kept f.targets) (e ∙ sym (top_height_is f.store.kept f.targets))
  where
    of_none : (o : Option KeptBlock) → None ≡ height_of o → finished rules state f.store o ≡ ended f.store.height ([], Ok (f.store.last, state))
    of_none None e = refl
    of_none (Some b) e = none_not b.header.height e
