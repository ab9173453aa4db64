-- Lemmas on votes that came to a parent and are gathered one after another.
use Rattle.std.proofs.Common.{◌≡◌, ℕ, ◌+◌, ◌<◌, ◌≤◌, List, [], ◌∷◌, length, get_or, take, drop, All, Contains, Some, refl, sym, ap, subst, ◌∙◌, arith, take_all}
use Rattle.std.proofs.lemmas.List.{length-drop, get_or-drop, drop_more, length-map}
use Rattle.std.proofs.lemmas.List.Sums.{sum_by-take-le}
use Rattle.std.proofs.lemmas.List.Elements.{All-nil}
use Rattle.snow_base.specs.declared.block.Vote.{Vote}
use Rattle.snow_base.specs.Model.Votes.{added, total_count}
use Rattle.snow_base.proofs.Adding.{total_added}
use Rattle.snow_board.specs.Model.Conflict.{votes_on}
use Rattle.snow_board.specs.Kept.Cursors.{votes_at}
use Rattle.snow_board.proofs.Gathered.{length-added, gathered_some}
use Rattle.snow_board.proofs.Given.{given_added}
use Rattle.snow_tree.specs.Kept.Held.{Entry, blocks_in, children_of}
use Rattle.snow_climb.specs.declared.climber.Climber.{Climber}
use Rattle.snow_climb.specs.Kept.Climbing.{climber_total, cursor_of, cursors_of, HasCome}
use Rattle.snow_climb.proofs.Climbers.{item_at, more_total}
use Rattle.snow_climb.proofs.Merged.{come_by}

-- all but the rest of those that came are gathered by child
pub record AreGathered {T : Type 0} (pending : List (Entry T)) (came rest : List Climber) (list : List Vote) : Type 0 where
  pub at : ℕ
  pub left : drop at came ≡ rest
  pub votes : (parent : List ℕ) → All (HasCome (blocks_in pending) parent) (cursors_of (blocks_in pending) came) → votes_on list ≡ votes_at (take at (cursors_of (blocks_in pending) came)) parent
  pub among : (parent : List ℕ) → All (HasCome (blocks_in pending) parent) (cursors_of (blocks_in pending) came) → All (λ v. Contains (children_of (blocks_in pending) parent) v.id) list
  pub total : total_count list ≤ climber_total (take at came)
  pub short : length list ≤ at

-- the first that is left
pub first_left : (came rest : List Climber) (at : ℕ) (x : Climber) → drop at came ≡ x ∷ rest → (at < length came) × (x ≡ get_or came at x) × (drop (at + 1) came ≡ rest)
first_left came rest at x left =
    let inside : at < length came = omega (arith, ap length left, length-drop at came) in (
      inside,
      ap (λ l. get_or l 0 x) (sym left) ∙ get_or-drop at came 0 x ∙ ap (λ n. get_or came n x) (omega arith),
      ap (drop 1) (sym (drop_more came at x inside) ∙ left),
    )

-- it is one of all
pub is_among : (P : Climber → Type 0) (came rest : List Climber) (at : ℕ) (x : Climber) → drop at came ≡ x ∷ rest → All P came → P x
is_among P came rest at x left all = let here = first_left came rest at x left in subst P (sym here.1) (all at x here.0)

module _ {T : Type 0} where
  -- at the beginning there is no vote
  pub none_gathered : (pending : List (Entry T)) (came : List Climber) (list : List Vote) → list ≡ [] → AreGathered pending came came list
  none_gathered pending came list none =
      subst (AreGathered pending came came) (sym none)
      (record { at = 0; left = refl; votes = λ parent come. refl; among = λ parent come. All-nil _; total = omega arith; short = omega arith })

  -- one more
  pub more_gathered : (pending : List (Entry T)) (came rest : List Climber) (x : Climber) (child : List ℕ) (list : List Vote) → (cursor_of (blocks_in pending) x).passed ≡ child
      → AreGathered pending came (x ∷ rest) list → AreGathered pending came rest (added list child x.count)
  more_gathered pending came rest x child list is so_far =
      let bs = blocks_in pending in
      let cursors = cursors_of bs came in
      let i = so_far.at in
      let here = first_left came rest i x so_far.left in
      let item = item_at bs came i x here.0 here.1 in
      record {
        at = i + 1;
        left = here.2;
        votes = λ parent come.
            let own = subst (HasCome bs parent) (sym item.1) (come i (cursor_of bs x) item.0) in
            gathered_some cursors i (cursor_of bs x) parent child list item.0 item.1 (so_far.votes parent come) (come_by bs parent (cursor_of bs x) own ∙ ap Some is);
        among = λ parent come.
            let own = subst (HasCome bs parent) (sym item.1) (come i (cursor_of bs x) item.0) in
            given_added (children_of bs parent) list child x.count (subst (Contains (children_of bs parent)) is own.2) (so_far.among parent come);
        total = omega (arith, more_total came i x here.0 here.1, total_added list child x.count, so_far.total);
        short = omega (arith, length-added list child x.count, so_far.short);
      }

  -- there are few enough for one more
  pub total_left : (pending : List (Entry T)) (came rest : List Climber) (x : Climber) (list : List Vote) → AreGathered pending came (x ∷ rest) list → total_count list + x.count ≤ climber_total came
  total_left pending came rest x list so_far =
      let here = first_left came rest so_far.at x so_far.left in
      omega (arith, more_total came so_far.at x here.0 here.1, so_far.total, sum_by-take-le (λ (c : Climber). c.count) came (so_far.at + 1))

  pub short_left : (pending : List (Entry T)) (came rest : List Climber) (x : Climber) (list : List Vote) → AreGathered pending came (x ∷ rest) list → length list < length came
  short_left pending came rest x list so_far = let here = first_left came rest so_far.at x so_far.left in omega (arith, here.0, so_far.short)

  -- at the end all are
  pub all_votes : (pending : List (Entry T)) (came : List Climber) (list : List Vote) (parent : List ℕ) → AreGathered pending came [] list
      → All (HasCome (blocks_in pending) parent) (cursors_of (blocks_in pending) came) → votes_on list ≡ votes_at (cursors_of (blocks_in pending) came) parent
  all_votes pending came list parent so_far come =
      let cursors = cursors_of (blocks_in pending) came in
      so_far.votes parent come
      ∙ ap (λ l. votes_at l parent) (take_all so_far.at cursors (omega (arith, ap length so_far.left, length-drop so_far.at came, length-map came (cursor_of (blocks_in pending)))))

  pub all_counts : (pending : List (Entry T)) (came rest : List Climber) (list : List Vote) → AreGathered pending came rest list → total_count list ≤ climber_total came
  all_counts pending came rest list so_far = omega (arith, so_far.total, sum_by-take-le (λ (c : Climber). c.count) came so_far.at)
