use Rattle.std.proofs.Common.{◌≡◌, ◌<◌, ◌≤◌, ◌∷◌, ◌++◌, [], cond, None, Some, length, length-append, bytes_eq, refl, sym, ap, subst, ◌∙◌, arith}
use Rattle.std.specs.HashMap.{get}
use Rattle.std.proofs.lemmas.Option.{slice_get_within, same_Some}
use Rattle.snow_tree.specs.Kept.Hints.{hint_of}
use Rattle.snow_tree.specs.Kept.Row.{IsNumbered, edges_of, is_above, untold}
use Rattle.snow_tree.proofs.Edges.{node_there}
use Rattle.snow_tree.proofs.Passed.{none_passed, next_one, one_stays, one_leaves, front_kept, order_kept, own_passed, all_passed}
use Rattle.snow_tree.proofs.sweeping.sweep.Goals as goal
use Rattle.snow_tree.proofs.sweeping.sweep.Goals.{then-is_above, else-is_above}

pub loop-place-init : goal.loop-place-init
loop-place-init g c = record {
  passed = none_passed c.args.entries.now.items c.args.number c.args.from c.args.rejected.now.items (λ k. get bytes_eq c.args.numbers.now.map k) c.args.numbers.now.hints c.requires.front;
  hints = refl;
  few = omega arith;
  room = omega (arith, c.requires.room);
  same = refl;
}

pub is_above-requires-clause-order : goal.is_above-requires-clause-order
is_above-requires-clause-order g c =
    order_kept c.args.entries.now.items c.loop-place.entries.items c.args.number c.loop-place.kept c.loop-place.place c.requires.numbered.0 _ _ _ _ _ c.loop-place.invariant.passed c.requires.numbered.1

pub tell-requires-clause-number : goal.tell-requires-clause-number
tell-requires-clause-number g c =
    let all = c.args.entries.now.items in
    let now = c.loop-place.entries.items in
    let place = c.loop-place.place in
    let s = c.loop-place.invariant.passed in
    let inside : place < length all = omega (arith, c.loop-place-test.true, c.len-place-end.ensures, c.args.entries.now.ok.0) in
    let one = next_one all now c.args.number c.loop-place.kept place _ _ _ _ _ s inside in
    let x = c.index.result.now in
    let within : place < length now = slice_get_within now place one.0 one.2 in
    let same = same_Some one.0 x (sym one.2 ∙ node_there now place x within c.index.ensures) in
    let own = own_passed all now c.args.number c.loop-place.kept place c.requires.numbered.0 _ _ _ _ _ s one.0 one.1 c.requires.numbered.1 in
    subst (λ y. get bytes_eq c.loop-place.numbers.map y.0 ≡ untold (hint_of c.loop-place.numbers.hints y.0) (Some y.1.number)) same
    (own ∙ ap (λ h. untold (hint_of h one.0.0) (Some one.0.1.number)) (sym c.loop-place.invariant.hints))

pub returns-clause-numbered : goal.returns-clause-numbered
returns-clause-numbered g c =
    λ next is.
    let all = c.args.entries.now.items in
    let s = c.loop-place.invariant.passed in
    let past : length all ≤ c.loop-place.place = omega (arith, c.loop-place-test.false, c.len-place-end.ensures, c.args.entries.now.ok.0) in
    let ended = all_passed all c.loop-place.entries.items c.args.number c.loop-place.kept c.loop-place.place _ _ _ _ _ s past in
    let front = c.truncate.ensures.items ∙ front_kept all c.loop-place.entries.items c.args.number c.loop-place.kept c.loop-place.place next _ _ _ _ _ s in
    subst (λ l. IsNumbered (edges_of l) (λ k. get bytes_eq c.loop-place.numbers.map k) c.loop-place.numbers.hints next) (sym front)
    (subst (λ h. IsNumbered (edges_of s.stay) (λ k. get bytes_eq c.loop-place.numbers.map k) h next) (sym c.loop-place.invariant.hints) (ended.2 next is))

pub loop-place-preserved : goal.loop-place-preserved
loop-place-preserved g c =
    let all = c.args.entries.now.items in
    let now = c.loop-place.entries.items in
    let place = c.loop-place.place in
    let kept = c.loop-place.kept in
    let was = c.loop-place.invariant in
    let s = was.passed in
    let inside : place < length all = omega (arith, c.loop-place-test.true, c.len-place-end.ensures, c.args.entries.now.ok.0) in
    let one = next_one all now c.args.number kept place _ _ _ _ _ s inside in
    let front = front_kept all now c.args.number kept place c.requires.numbered.0 _ _ _ _ _ s in
    let told : is_above c.args.number s.stay one.0 ≡ c.is_above.result = ap (λ l. is_above c.args.number l one.0) (sym front) ∙ sym (c.is_above.ensures one.0 one.2) in
    elim c.if-is_above.branch [
      | then-is_above w ↦
          rw (w.entries-is, w.numbers-is, w.rejected-is, w.kept-is) (record {
            passed = one_stays all now _ c.args.number kept place _ _ _ _ _ s one.0 one.1 (told ∙ w.if-is_above.true) w.swap.ensures.items;
            hints = was.hints;
            few = omega (arith, was.few);
            room = omega (arith, was.room, inside);
            same = was.same;
          })
      | else-is_above w ↦
          let x = w.index.result.now in
          let within : place < length now = slice_get_within now place one.0 one.2 in
          let same = same_Some one.0 x (sym one.2 ∙ node_there now place x within w.index.ensures) in
          rw (w.entries-is, w.numbers-is, w.rejected-is, w.kept-is) (record {
            passed = one_leaves all now c.args.number kept place _ _ _ _ _ _ _ s one.0 one.1 (told ∙ w.if-is_above.false)
                (w.tell.ensures.told ∙ ap (λ y. c.loop-place.rejected.items ++ y.0 ∷ []) (sym same))
                (λ q. w.tell.ensures.map q ∙ ap (λ y. cond (bytes_eq y.0 q) None (get bytes_eq c.loop-place.numbers.map q)) (sym same));
            hints = w.tell.ensures.hints ∙ was.hints;
            few = omega (arith, was.few);
            room = omega (
              arith,
              was.room,
              inside,
              w.tell.ensures.room,
              w.tell.new.rejected.ok.0,
              c.loop-place.rejected.ok.0,
              ap length w.tell.ensures.told,
              length-append c.loop-place.rejected.items (x.0 ∷ []),
            );
            same = w.tell.ensures.room ∙ was.same;
          })
    ]
