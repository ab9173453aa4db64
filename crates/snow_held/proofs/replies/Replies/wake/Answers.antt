-- Each reply that names the block is among those whose numbers are kept under it.
use Rattle.std.proofs.Common.{[], map, sym, ap, ◌∙◌, subst}
use Rattle.std.specs.List.Sorted.{IsStrictlySortedBy}
use Rattle.std.specs.Map.{keys_of}
use Rattle.std.specs.Option.{option_map}
use Rattle.std.specs.Ordering.{nat_cmp}
use Rattle.snow_held.specs.declared.backlog.Kept.{Kept}
use Rattle.snow_held.specs.declared.held.Held.{Held}
use Rattle.snow_lineup.specs.Kept.Index.{woken}
use Rattle.snow_held.specs.Kept.Arrivals.{Entries, at_arrival, filed, names, is_among, has_number_in, seat_of}
use Rattle.snow_held.proofs.Numbered.{filed_by, all_named}
use Rattle.snow_held.proofs.Seated.{woken_by_none, keys_woken, replies_woken, seats_woken}
use Rattle.snow_held.proofs.replies.Replies.wake.Goals as goal

pub returns-in_default : goal.returns-in_default
returns-in_default c =
    let inside = c.self.inside in
    let id = c.args.id.now in
    let all = all_named inside.backlog (filed inside.polls) (names inside.blocks) inside.next [] id c.self.invariant (λ a t. ap (λ m. has_number_in m a) c.in_default.ensures.value ∙ t) in
    sym c.self.view_is
    ∙ sym (ap (map seat_of) (woken_by_none id inside.backlog))
    ∙ seats_woken [] id inside.backlog all
    ∙ ap (map (woken (λ (h : Held). h.id) id)) c.self.view_is

pub invariant_of-self : goal.invariant_of-self
invariant_of-self c =
    let inside = c.self.inside in
    let id = c.args.id.now in
    let numbers = c.numbers.result.now in
    filed_by inside.backlog c.wake_each.new.backlog (filed inside.polls) (names inside.blocks) inside.next c.self.invariant
    (subst (IsStrictlySortedBy nat_cmp) (sym (ap keys_of c.wake_each.ensures ∙ keys_woken numbers id inside.backlog)) c.self.invariant.sorted)
    (λ a. ap (λ (l : Entries). option_map (λ (k : Kept). k.reply) (at_arrival l a)) c.wake_each.ensures ∙ replies_woken numbers id inside.backlog a)

pub returns : goal.returns
returns c =
    let inside = c.self.inside in
    let id = c.args.id.now in
    let numbers = c.numbers.result.now in
    let all = all_named inside.backlog (filed inside.polls) (names inside.blocks) inside.next numbers id c.self.invariant (λ a t. ap (λ l. is_among l a) c.numbers.ensures ∙ ap (λ m. has_number_in m a) c.in-Some.ensures.value ∙ t) in
    ap (map seat_of) c.wake_each.ensures
    ∙ seats_woken numbers id inside.backlog all
    ∙ ap (map (woken (λ (h : Held). h.id) id)) c.self.view_is
