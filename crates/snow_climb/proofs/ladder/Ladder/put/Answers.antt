use Rattle.std.proofs.Common.{◌≡◌, ◌+◌, ◌%◌, ◌^◌, ◌<◌, suc, [], ◌∷◌, ◌++◌, length, get_or, sym, ap, subst, ◌∙◌, arith, length-append}
use Rattle.std.proofs.lemmas.List.{get_or_default, length-set}
use Rattle.snow_climb.specs.declared.ladder.Head.{Head}
use Rattle.snow_climb.specs.declared.ladder.Link.{Link}
use Rattle.snow_climb.specs.Kept.Ladder.{Rungs, no_head, climbers_of, under, chain, IsHung}
use Rattle.snow_climb.proofs.Chains.{chain_before}
use Rattle.snow_climb.proofs.Hung.{one_hung, under_more, written}
use Rattle.snow_climb.proofs.ladder.Ladder.put.Goals as goal

pub invariant_of-self : goal.invariant_of-self
invariant_of-self c =
    let a = c.self.inside in
    let place = c.args.climber.place in
    let link : Link = record { climber = c.args.climber; next = c.index-head.result.now.last } in
    let lower : place < a.low = rw (← c.self.view_is) at c.requires.below in
    let inside : place < length a.heads.items = omega (arith, lower, c.self.invariant.within) in
    let was : c.index-head.result.now ≡ get_or a.heads.items place no_head = c.index-head.ensures ∙ get_or_default a.heads.items place c.index-head.result.now no_head inside in
    let head : Head = record { last = c.len.result; count = (c.index-head.result.now.count + c.args.climber.count) % 2 ^ 32 } in
    let number : c.len.result ≡ suc (length a.links.items) = omega (arith, c.len.ensures, c.push_reserved.ensures.len, a.links.ok.0) in
    let long : length c.mark.new.words ≡ length a.words.items = c.mark.ensures.len ∙ ap length c.deref_mut.ensures.value in
    let hung = subst (λ w. IsHung a.links.items a.heads.items w a.low a.high a.taken) (sym c.deref_mut.ensures.value) c.self.invariant in
    rw (c.push_reserved.ensures.items, written a.words.len c.mark.new.words _ (omega (arith, a.words.ok.0, long)))
    (one_hung a.links.items a.heads.items c.deref_mut.result.now c.mark.new.words a.low a.high a.taken c.max-self-inside.result head link hung (omega (arith, c.max-self-inside.ensures)) (omega (arith, c.max-self-inside.ensures)) lower (ap (λ (x : Head). x.last) was) number (ap (λ (x : Head). (x.count + c.args.climber.count) % 2 ^ 32) was) c.mark.ensures.here c.mark.ensures.others c.mark.ensures.len)

pub returns : goal.returns
returns c =
    let a = c.self.inside in
    let links = a.links.items in
    let place = c.args.climber.place in
    let link : Link = record { climber = c.args.climber; next = c.index-head.result.now.last } in
    let head : Head = record { last = c.len.result; count = (c.index-head.result.now.count + c.args.climber.count) % 2 ^ 32 } in
    let lower : place < a.low = rw (← c.self.view_is) at c.requires.below in
    let items : c.push_reserved.new.self.items ≡ links ++ link ∷ [] = c.push_reserved.ensures.items in
    let climbers : under a.low (climbers_of c.push_reserved.new.self.items) ≡ under a.low (climbers_of links) ++ c.args.climber ∷ [] = ap (λ l. under a.low (climbers_of l)) items ∙ under_more a.low links link lower in
    let came : chain c.push_reserved.new.self.items a.taken ≡ chain links a.taken = ap (λ l. chain l a.taken) items ∙ chain_before links link a.taken c.self.invariant.took in
    let put : length c.push_reserved.new.self.items ≡ length links + 1 = omega (arith, ap length items, length-append links (link ∷ [])) in
    (λ i. record {
      climbers = climbers i;
      came = came i;
      low = a.low;
      put = put i;
      most = c.push_reserved.ensures.capacity i;
      votes = a.votes;
      rungs = length-set a.heads.items place head i;
    })
    ∙ ap (λ (s : Rungs). record s { climbers = s.climbers ++ c.args.climber ∷ []; put = s.put + 1 }) c.self.view_is
