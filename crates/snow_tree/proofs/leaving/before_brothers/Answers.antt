use Rattle.std.proofs.Common.{◌≡◌, ◌-◌, ◌<◌, length, Some, bytes_eq, slice_get, unwrap_or, refl, sym, ap, subst, ◌∙◌, arith}
use Rattle.std.specs.List.{position, remove}
use Rattle.std.specs.Map.{keys_of}
use Rattle.std.proofs.lemmas.Option.{slice_get_read}
use Rattle.snow_tree.specs.Kept.Row.{EndsBefore, IsFront}
use Rattle.snow_tree.proofs.Fronted.{brother_first, brother_next, first_front}
use Rattle.snow_tree.proofs.leaving.before_brothers.Goals as goal

pub returns-then-place-ne0-clause-brother : goal.returns-then-place-ne0-clause-brother
returns-then-place-ne0-clause-brother g c =
    λ two.
    let nodes = c.args.nodes.now.entries in
    let place = c.args.place in
    let many = subst (λ l. 1 < length l) c.requires.2 two in
    subst (λ l. EndsBefore l 0 (remove nodes place)) (sym c.requires.2)
    (brother_first c.requires.0 nodes place c.requires.1 many (λ first. omega (arith, first, c.if-place-ne0.true)))

pub returns-in-Some : goal.returns-in-Some
returns-in-Some g c =
    let nodes = c.args.nodes.now.entries in
    let children = c.args.children.now in
    let place = c.args.place in
    let brother = c.in-Some.brother.now in
    let list = c.list.result.now in
    let count = unwrap_or (position (bytes_eq brother) (keys_of nodes)) 0 - 1 in
    let first : place ≡ 0 = omega (arith, c.if-place-ne0.false) in
    let read = c.in-Some.ensures.lookup in
    let there : slice_get list 1 ≡ Some brother = slice_get_read list (length list) 1 brother refl read.3.0 read.1 in
    let second = ap (λ l. slice_get l 1) (sym (c.list.ensures ∙ c.requires.2)) ∙ there in
    let from : c.saturating_sub.result ≡ count =
    c.saturating_sub.ensures ∙ ap (λ n. n - 1) (c.unwrap_or.ensures ∙ ap (λ o. unwrap_or o 0) c.get_index_of.ensures.index)
    in
    let order = c.len-len.ensures.order in
    record {
      front = λ e is.
          let front = first_front c.requires.0 brother nodes e c.requires.1 order second (subst (λ i. slice_get nodes i ≡ Some e) first is) in
          subst (λ n. IsFront e.1.number n (remove nodes place)) (sym from) (subst (λ i. IsFront e.1.number count (remove nodes i)) (sym first) front);
      brother = λ two.
          let next = brother_next c.requires.0 brother nodes c.requires.1 order second in
          subst (λ n. EndsBefore children n (remove nodes place)) (sym from)
          (subst (λ i. EndsBefore children count (remove nodes i)) (sym first) (subst (λ l. EndsBefore l count (remove nodes 0)) (sym c.requires.2) next));
    }
