-- Where no target misses a block, the path of the highest kept target is whole.
use Rattle.std.proofs.Common.{◌≡◌, ℕ, suc, ◌+◌, ◌-◌, ◌<◌, ◌≤◌, Bool, true, false, ◌==◌, ◌&&◌, ◌||◌, List, [], ◌∷◌, Option, Some, None, bytes_eq, nat_lt, if◌then◌else◌, ◌⊎◌, inl, inr, refl, sym, ap, ◌∙◌, arith, eqb-true}
use Rattle.std.specs.Prelude.{is_some, is_none}
use Rattle.std.specs.List.{list_all}
use Rattle.std.proofs.lemmas.Bool.Decides.{nat_tests}
use Rattle.snow_interval.specs.Model.Heights.{lowest}
use Rattle.snow_store.specs.declared.store.KeptBlock.{KeptBlock}
use Rattle.snow_store.specs.Model.Keeping.{held, highest, higher}
use Rattle.snow_store.specs.Model.Paths.{Fetch, path, last_of, wanted_below, has_id, missed_from, missed, is_whole, higher_of, highest_target}
use Rattle.snow_store.specs.Laws.Linking.{IsLinked, held_heights, upward, IsWholePath}
use Rattle.snow_store.proofs.Cases.{clash, same_id, id_same, same_some, not_none, none_not}
use Rattle.snow_store.proofs.Holding.{held_height, held_above, highest_held}
use Rattle.snow_store.proofs.Walking.{bottom, path_upward, run_held, at_most}

-- the highest target is the highest block of one of them, and no lower than that of any
pub record IsTop (kept : List KeptBlock) (targets : List (List ℕ)) (top : KeptBlock) : Type 0 where
  pub target : List ℕ
  pub among : has_id targets target ≡ true
  pub its : highest kept target ≡ Some top
  pub most : (t : List ℕ) (b : KeptBlock) → has_id targets t ≡ true → highest kept t ≡ Some b → b.header.height ≤ top.header.height

-- an identifier is the first or among the others
pub first_or : (t id : List ℕ) (targets : List (List ℕ)) → has_id (t ∷ targets) id ≡ true → (t ≡ id) ⊎ (has_id targets id ≡ true)
first_or t id targets e = by_test (bytes_eq t id) refl e
  where
    by_test : (u : Bool) → bytes_eq t id ≡ u → (u || has_id targets id) ≡ true → (t ≡ id) ⊎ (has_id targets id ≡ true)
    by_test true same e = inl (same_id t id same)
    by_test false other e = inr e

-- a target of some is one of more
pub later : (t id : List ℕ) (targets : List (List ℕ)) → has_id targets id ≡ true → has_id (t ∷ targets) id ≡ true
later t id targets e = by_test (bytes_eq t id)
  where
    by_test : (u : Bool) → (u || has_id targets id) ≡ true
    by_test true = refl
    by_test false = e

-- the first is among them
pub first : (t : List ℕ) (targets : List (List ℕ)) → has_id (t ∷ targets) t ≡ true
first t targets = rw (id_same t t refl) refl

-- the higher of two
higher_bounds : (b c : KeptBlock) → (b.header.height ≤ (higher b (Some c)).header.height) × (c.header.height ≤ (higher b (Some c)).header.height) × ((higher b (Some c) ≡ b) ⊎ (higher b (Some c) ≡ c))
higher_bounds b c = by_test (nat_lt b.header.height c.header.height) refl
  where
    by_test : (t : Bool) → nat_lt b.header.height c.header.height ≡ t
        → (b.header.height ≤ (if t then c else b).header.height) × (c.header.height ≤ (if t then c else b).header.height) × (((if t then c else b) ≡ b) ⊎ ((if t then c else b) ≡ c))
    by_test true e = (grind (arith, nat_tests), omega arith, inr refl)
    by_test false e = (omega arith, grind (arith, nat_tests), inl refl)

-- where no target is kept, none is
pub none_kept : (kept : List KeptBlock) (targets : List (List ℕ)) (u : List ℕ) (c : KeptBlock) {P : Type 0} → highest_target kept targets ≡ None → has_id targets u ≡ true
    → highest kept u ≡ Some c → P
unfolding highest_target
none_kept kept [] u c e among is = clash true refl (sym among)
none_kept kept (t ∷ targets) u c e among is =
    let both = neither_kept (highest kept t) (highest_target kept targets) e in
    elim (first_or t u targets among) [
      | inl same ↦ none_not c (sym both.0 ∙ ap (highest kept) same ∙ is)
      | inr other ↦ none_kept kept targets u c both.1 other is
    ]
  where
    neither_kept : (mine others : Option KeptBlock) → higher_of mine others ≡ None → (mine ≡ None) × (others ≡ None)
    neither_kept None others e = (refl, e)
    neither_kept (Some b) others e = not_none (higher b others) e

-- the highest of all
pub is_top : (kept : List KeptBlock) (targets : List (List ℕ)) (top : KeptBlock) → highest_target kept targets ≡ Some top → IsTop kept targets top
unfolding highest_target
is_top kept [] top e = none_not top e
is_top kept (t ∷ targets) top e =
    of_both kept t targets top (highest kept t) (highest_target kept targets) refl refl e (is_top kept targets)
  where
    of_both : (kept : List KeptBlock) (t : List ℕ) (targets : List (List ℕ)) (top : KeptBlock) (mine others : Option KeptBlock) → highest kept t ≡ mine → highest_target kept targets ≡ others
        → higher_of mine others ≡ Some top → ((top : KeptBlock) → highest_target kept targets ≡ Some top → IsTop kept targets top) → IsTop kept (t ∷ targets) top
    of_both kept t targets top None others is_mine is_others e more =
        let r = more top (is_others ∙ e) in record {
          target = r.target;
          among = later t r.target targets r.among;
          its = r.its;
          most = λ u b u_in is.
              elim (first_or t u targets u_in) [
                | inl same ↦ none_not b (sym is_mine ∙ ap (highest kept) same ∙ is)
                | inr other ↦ r.most u b other is
              ];
        }
    of_both kept t targets top (Some b) None is_mine is_others e more =
        let same_top : b ≡ top = same_some b top e in record {
          target = t;
          among = first t targets;
          its = is_mine ∙ e;
          most = λ u c u_in is.
              elim (first_or t u targets u_in) [
                | inl same ↦
                    let mine : b ≡ c = same_some b c (sym is_mine ∙ ap (highest kept) same ∙ is) in
                    omega (arith, ap (λ (x : KeptBlock). x.header.height) mine, ap (λ (x : KeptBlock). x.header.height) same_top)
                | inr other ↦ none_kept kept targets u c is_others other is
              ];
        }
    of_both kept t targets top (Some b) (Some c) is_mine is_others e more =
        let r = more c is_others in
        let bounds = higher_bounds b c in
        let same_top : higher b (Some c) ≡ top = same_some (higher b (Some c)) top e in
        let height : (higher b (Some c)).header.height ≡ top.header.height = ap (λ (x : KeptBlock). x.header.height) same_top in
        let at_most_top = λ (u : List ℕ) (d : KeptBlock) (u_in : has_id (t ∷ targets) u ≡ true) (is : highest kept u ≡ Some d).
        (elim (first_or t u targets u_in) as (λ _. d.header.height ≤ top.header.height) [
          | inl same ↦
              let mine : b ≡ d = same_some b d (sym is_mine ∙ ap (highest kept) same ∙ is) in
              omega (arith, ap (λ (x : KeptBlock). x.header.height) mine, bounds.0, height)
          | inr other ↦ omega (arith, r.most u d other is, bounds.1, height)
        ]) in
        elim bounds.2 [
          | inl mine ↦ record { target = t; among = first t targets; its = is_mine ∙ ap (λ x. Some x) (sym mine ∙ same_top); most = at_most_top }
          | inr theirs ↦ record { target = r.target; among = later t r.target targets r.among; its = r.its ∙ ap (λ x. Some x) (sym theirs ∙ same_top); most = at_most_top }
        ]

-- a target that is among them misses nothing
pub nothing_missed : (f : Fetch) (targets : List (List ℕ)) (t : List ℕ) → list_all (λ t. is_none (missed f t)) targets ≡ true → has_id targets t ≡ true → missed f t ≡ None
nothing_missed f [] t e among = clash true refl (sym among)
nothing_missed f (u ∷ targets) t e among =
    let both = and_both (is_none (missed f u)) (list_all (λ t. is_none (missed f t)) targets) e in
    elim (first_or u t targets among) [
      | inl same ↦ ap (missed f) (sym same) ∙ none_of (missed f u) both.0
      | inr other ↦ nothing_missed f targets t both.1 other
    ]
  where
    and_both : (a b : Bool) → (a && b) ≡ true → (a ≡ true) × (b ≡ true)
    and_both true b e = (refl, e)
    and_both false b e = clash true refl (sym e)

    none_of : (o : Option (List ℕ)) → is_none o ≡ true → o ≡ None
    none_of None e = refl
    none_of (Some x) e = clash true refl (sym e)

-- the block at the bottom of a path below which nothing is wanted is right above the height
bottom_height : (height : ℕ) (o : Option KeptBlock) (b : KeptBlock) → o ≡ Some b → wanted_below height o ≡ None → b.header.height ≡ height + 1
bottom_height height None b is e = none_not b is
bottom_height height (Some c) b is e =
    ap (λ (x : KeptBlock). x.header.height) (sym (same_some c b is)) ∙ by_test (c.header.height == height + 1) refl e
  where
    by_test : (t : Bool) → (c.header.height == height + 1) ≡ t → (if t then None else Some c.header.parent) ≡ None → c.header.height ≡ height + 1
    by_test true at e = eqb-true c.header.height (height + 1) at
    by_test false at e = not_none c.header.parent e

-- a kept target that misses nothing is at the top of a run that reaches down to the last accepted block
pub whole_run : (f : Fetch) (t : List ℕ) (b : KeptBlock) → IsLinked f.store → highest f.store.kept t ≡ Some b → missed f t ≡ None
    → (held f.store.kept b.header.height ≡ Some b) × (lowest (held_heights f.store.kept) b.header.height ≡ f.store.height + 1)
unfolding missed
whole_run f t b l is none =
    let s = f.store in
    let at = highest_held s.kept t b l.apart is in
    let wanted : wanted_below s.height (last_of (path s.kept b.header.height t)) ≡ None = ap (missed_from s f.found t) (sym is) ∙ none in
    let wanted_there : wanted_below s.height (held s.kept (lowest (held_heights s.kept) b.header.height)) ≡ None =
    ap (wanted_below s.height) (sym (bottom s b.header.height b l at.0) ∙ ap (λ i. last_of (path s.kept b.header.height i)) at.1) ∙ wanted in
    let there : held_heights s.kept (lowest (held_heights s.kept) b.header.height) ≡ true =
    run_held (held_heights s.kept) b.header.height (ap is_some at.0) (lowest (held_heights s.kept) b.header.height) (omega arith) (at_most (held_heights s.kept) b.header.height) in
    let c = some_of (held s.kept (lowest (held_heights s.kept) b.header.height)) there in
    let low : c.0.header.height ≡ lowest (held_heights s.kept) b.header.height = held_height s.kept (lowest (held_heights s.kept) b.header.height) c.0 c.1 in
    let bottom_is : c.0.header.height ≡ s.height + 1 = bottom_height s.height (held s.kept (lowest (held_heights s.kept) b.header.height)) c.0 c.1 wanted_there in
    (at.0, sym low ∙ bottom_is)
  where
    some_of : (o : Option KeptBlock) → is_some o ≡ true → (c : KeptBlock) × (o ≡ Some c)
    some_of None e = clash true refl (sym e)
    some_of (Some c) e = (c, refl)

-- the whole path
pub whole_path : (f : Fetch) (top : KeptBlock) → IsLinked f.store → is_whole f ≡ true → highest_target f.store.kept f.targets ≡ Some top → IsWholePath f top
whole_path f top l whole e =
    let s = f.store in
    let t = is_top s.kept f.targets top e in
    let run = whole_run f t.target top l t.its (nothing_missed f f.targets t.target whole t.among) in
    let above : s.height < top.header.height = held_above s.height s.kept top.header.height top l.above run.0 in
    let sum : lowest (held_heights s.kept) top.header.height + (top.header.height - s.height) ≡ suc top.header.height = omega (arith, run.1, above) in record {
      upwards = path_upward s top.header.height top l run.0 (top.header.height - s.height) sum ∙ ap (λ n. upward s.kept n (top.header.height - s.height)) run.1;
      unbroken = λ h low high. run_held (held_heights s.kept) top.header.height (ap is_some run.0) h (omega (arith, run.1)) high;
      others = λ u b among is.
          let at = highest_held s.kept u b l.apart is in
          (held_above s.height s.kept b.header.height b l.above at.0, t.most u b among is, at.0);
    }
