use Rattle.std.proofs.Common.{◌≡◌, ℕ, Option, slice_get, OnErr, sym, ap, subst, ◌∙◌}
use Rattle.std.specs.Option.{option_copied_mut, option_map}
use Rattle.snow_tree.specs.Kept.Held.{Entry, Held, blocks_in, inserted, taken_back}
use Rattle.snow_tree.proofs.Linked.{all_but_last}
use Rattle.snow_tree.proofs.Seen.{ok_after}
use Rattle.snow_climb.proofs.Begun.{block_off}
use Rattle.snow_topo.specs.Kept.Children.{Kept, bare}
use Rattle.snow_topo.specs.Kept.View.{view, AreFit}
use Rattle.snow_topo.proofs.Gained.{err_after, on_err, not_own, issued_view, all_fit_gained, grown_inserted, place_inserted, Added, added_pending, added_last, has_load, load_stays, is_last}
use Rattle.snow_topo.proofs.issuing.issue.Given as given
use Rattle.snow_topo.proofs.issuing.issue.Goals as goal
use Rattle.snow_topo.proofs.issuing.issue.Goals.{in-Some+in-Some-load_mut, in-Some+in-None-load_mut, in-None}

-- the child is added below its parent once it stands there itself
below : (g : given.Over) (c : goal.Else-is_err-2 g)
    → Added c.args.params.now c.args.child.now c.args.root.now (inserted c.args.tree.now c.args.child.now bare) c.match-at.root c.match-at.tree c.match-at.added
below g c =
    let p = c.args.params.now in
    let root = c.args.root.now in
    let old = c.args.tree.now in
    let child = c.args.child.now in
    let held : Held Kept = inserted old child bare in
    let went : c.insert.new.self ≡ held =
    ok_after c.insert.result (sym c.is_err.ensures.value ∙ c.if-is_err.false) c.insert.ensures.ok ∙ ap (inserted old child) c.new.ensures
    in
    let grown = grown_inserted old child c.last-last.ensures.grown c.requires.unknown c.requires.follows in
    let place = place_inserted old child c.args.at (not_own old.last (blocks_in old.pending) child c.requires.unknown c.requires.follows) c.requires.place in
    let load_at : Held Kept → ℕ → Option Kept = λ h at. option_map (λ (e : Entry Kept). e.load) (slice_get h.pending at) in
    elim c.match-at.branch [
      | in-Some+in-Some-load_mut w ↦
          rw (w.root-is, w.tree-is, w.added-is, went)
          (added_pending p child root held w.in-Some.at w.in-Some-load_mut.load.now w.add.new.self w.add.result grown (place ∙ w.in-Some.is)
          (ap (λ h. load_at h w.in-Some.at) (sym went) ∙ sym w.load_mut.ensures.value ∙ ap option_copied_mut w.in-Some-load_mut.is) w.add.ensures.ok)
      | in-Some+in-None-load_mut w ↦
          absurd (has_load held.pending child.parent w.in-Some.at (place ∙ w.in-Some.is)
          (ap (λ h. load_at h w.in-Some.at) (sym went) ∙ sym w.load_mut.ensures.value ∙ ap option_copied_mut w.in-None-load_mut.is))
      | in-None w ↦
          let own = is_last old.last (blocks_in old.pending) child.parent c.requires.follows (block_off old.pending child.parent (sym c.requires.place ∙ w.in-None.is)) in
          rw (w.root-is, w.tree-is, w.added-is, went)
          (added_last p child root w.add-added.new.self held w.add-added.result own (place ∙ w.in-None.is) w.add-added.ensures.ok)
    ]

pub returns-then-is_err-2-clause-tree_stays : goal.returns-then-is_err-2-clause-tree_stays
returns-then-is_err-2-clause-tree_stays g c =
    let old = c.args.tree.now in
    let child = c.args.child.now in
    let held : Held Kept = inserted old child bare in
    let went : c.insert.new.self ≡ held =
    ok_after c.insert.result (sym c.is_err.ensures.value ∙ c.if-is_err.false) c.insert.ensures.ok ∙ ap (inserted old child) c.new.ensures
    in
    let load_at : Held Kept → ℕ → Option Kept = λ h at. option_map (λ (e : Entry Kept). e.load) (slice_get h.pending at) in
    let stays : OnErr c.match-at.added (c.match-at.tree ≡ held) = elim c.match-at.branch [
      | in-Some+in-Some-load_mut w ↦
          rw (w.tree-is, w.added-is, went)
          (load_stays held w.in-Some.at w.in-Some-load_mut.load.now w.add.new.self w.add.result
          (ap (λ h. load_at h w.in-Some.at) (sym went) ∙ sym w.load_mut.ensures.value ∙ ap option_copied_mut w.in-Some-load_mut.is) w.add.ensures.err)
      | in-Some+in-None-load_mut w ↦ on_err c.match-at.added (w.tree-is ∙ went)
      | in-None w ↦ on_err c.match-at.added (w.tree-is ∙ went)
    ]
    in
    let same = err_after c.match-at.added (sym c.is_err-2.ensures.value ∙ c.if-is_err-2.true) stays in
    let back : c.take_back.new.self ≡ taken_back (inserted old child bare) = c.take_back.ensures.tree ∙ ap taken_back same in
    let pending : c.take_back.new.self.pending ≡ old.pending =
    ap (λ (h : Held Kept). h.pending) back ∙ all_but_last old.pending (record { block = child; load = bare })
    in
    on_err c.match-at.added (λ i. record { last = (back i).last; height = (back i).height; pending = pending i; rejected = c.take_back.new.self.rejected })

pub returns-clause-board : goal.returns-clause-board
returns-clause-board g c =
    λ polls.
    let p = c.args.params.now in
    let old = c.args.tree.now in
    let child = c.args.child.now in
    let went = sym c.is_err-2.ensures.value ∙ c.if-is_err-2.false in
    let added = below g c in
    let tree = ok_after c.match-at.added went added.tree in
    let root = ok_after c.match-at.added went added.root in
    (λ i. view p polls (root i) (tree i))
    ∙ issued_view p polls c.args.root.now old child c.k-k.ensures.good (not_own old.last (blocks_in old.pending) child c.requires.unknown c.requires.follows)

pub returns-clause-fit : goal.returns-clause-fit
returns-clause-fit g c =
    λ polls fit.
    let p = c.args.params.now in
    let old = c.args.tree.now in
    let child = c.args.child.now in
    let went = sym c.is_err-2.ensures.value ∙ c.if-is_err-2.false in
    let added = below g c in
    let tree = ok_after c.match-at.added went added.tree in
    let root = ok_after c.match-at.added went added.root in
    let both : Kept × Held Kept → Type 0 = λ s. AreFit p polls s.0 s.1 in
    subst both (λ i. (sym root i, sym tree i))
    (all_fit_gained p polls c.args.root.now old child c.last-last.ensures.grown c.requires.unknown
    (not_own old.last (blocks_in old.pending) child c.requires.unknown c.requires.follows) fit)
