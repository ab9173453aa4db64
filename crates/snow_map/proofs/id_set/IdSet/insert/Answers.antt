-- It stands already, or it comes last.
use Rattle.std.proofs.Common.{◌≡◌, true, false, not, Some, ◌∷◌, ◌++◌, [], bytes_eq, is_some, length, if◌then◌else◌, sym, ap, ap₂, subst, ◌∙◌}
use Rattle.std.specs.List.{IsDistinct, list_any, position}
use Rattle.snow_map.proofs.Places.{placed_last, placed_there, one_more_once}
use Rattle.snow_map.proofs.id_set.IdSet.insert.Goals as goal

there : (c : goal.Then-contains_key) → list_any (bytes_eq c.args.id) c.args.self.now ≡ true
there c =
    ap (list_any (bytes_eq c.args.id)) (sym c.self.view_is) ∙ sym (placed_there c.self.inside.ids.items c.args.id) ∙ ap is_some (sym (c.self.invariant.placed c.args.id))
    ∙ sym c.contains_key.ensures ∙ c.if-contains_key.true

none : (c : goal.After-push_reserved) → list_any (bytes_eq c.args.id) c.self.inside.ids.items ≡ false
none c = sym (placed_there c.self.inside.ids.items c.args.id) ∙ ap is_some (sym (c.self.invariant.placed c.args.id)) ∙ sym c.contains_key.ensures ∙ c.if-contains_key.false

pub returns-then-contains_key-clause-is_new : goal.returns-then-contains_key-clause-is_new
returns-then-contains_key-clause-is_new c = ap not (sym (there c))

pub returns-then-contains_key-clause-ids : goal.returns-then-contains_key-clause-ids
returns-then-contains_key-clause-ids c = ap (λ b. if b then c.args.self.now else c.args.self.now ++ c.args.id ∷ []) (sym (there c))

pub invariant_of-self-2 : goal.invariant_of-self-2
invariant_of-self-2 c =
    let ids = c.self.inside.ids.items in
    let last : c.push_reserved.new.self.items ≡ ids ++ c.args.id ∷ [] = c.push_reserved.ensures.items ∙ ap (λ l. l ++ c.args.id ∷ []) c.in_ok-reserve.ensures.items in
    let len : c.len.result ≡ length ids = c.len.ensures ∙ c.in_ok-reserve.ensures.len ∙ c.self.inside.ids.ok.0 in
    record {
      unique = subst (IsDistinct bytes_eq) (sym last) (one_more_once ids c.args.id c.self.invariant.unique (none c));
      placed = λ q.
          c.in_ok-insert.ensures.updates q
          ∙ ap₂ (λ n o. if bytes_eq c.args.id q then Some n else o) len (c.self.invariant.placed q)
          ∙ sym (placed_last ids c.args.id q (none c))
          ∙ ap (position (bytes_eq q)) (sym last);
    }

pub returns-clause-is_new : goal.returns-clause-is_new
returns-clause-is_new c = ap not (sym (none c) ∙ ap (list_any (bytes_eq c.args.id)) c.self.view_is)

pub returns-clause-ids : goal.returns-clause-ids
returns-clause-ids c =
    c.push_reserved.ensures.items ∙ ap (λ l. l ++ c.args.id ∷ []) (c.in_ok-reserve.ensures.items ∙ c.self.view_is)
    ∙ ap (λ b. if b then c.args.self.now else c.args.self.now ++ c.args.id ∷ []) (sym (none c) ∙ ap (list_any (bytes_eq c.args.id)) c.self.view_is)
