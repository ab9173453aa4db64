-- The identifier is a candidate, or it isn't.
use Rattle.std.proofs.Common.{◌≡◌, ◌∷◌, [], Some, None, bytes_eq, sym, ap, subst, ◌∙◌, arith}
use Rattle.std.specs.List.{IsDistinct, position}
use Rattle.snow_boot.specs.Model.Electing.{backed}
use Rattle.snow_boot.specs.Kept.Surveying.{weight_of}
use Rattle.snow_boot.proofs.Elected.{ids_of, backs_at, set_backs, none_backs, backed_ids}
use Rattle.snow_boot.proofs.candidates.Candidates.back_one.Goals as goal

pub overflow_add-index_mut : goal.overflow_add-index_mut
overflow_add-index_mut c =
    let list = c.self.inside.list.items in
    let at : position (bytes_eq c.args.id.now) (ids_of list) ≡ Some c.in-Some.at = ap (position (bytes_eq c.args.id.now)) c.self.invariant.same ∙ sym c.in-Some.ensures in
    let its = ap (λ l. weight_of l c.args.id.now) (sym c.self.view_is) ∙ backs_at c.args.id.now c.in-Some.at list c.index_mut.result.now at c.index_mut.ensures.value in
    omega (arith, its, c.requires)

pub invariant_of-self : goal.invariant_of-self
invariant_of-self c =
    let list = c.self.inside.list.items in
    let at : position (bytes_eq c.args.id.now) (ids_of list) ≡ Some c.in-Some.at = ap (position (bytes_eq c.args.id.now)) c.self.invariant.same ∙ sym c.in-Some.ensures in
    let once = subst (IsDistinct bytes_eq) (sym c.self.invariant.same) c.self.invariant.unique in
    record {
      same = ap ids_of (set_backs c.args.id.now c.args.weight c.in-Some.at list c.index_mut.result.now once at c.index_mut.ensures.value) ∙ backed_ids c.args.weight (c.args.id.now ∷ []) list ∙ c.self.invariant.same;
      unique = c.self.invariant.unique;
    }

pub returns-in-Some : goal.returns-in-Some
returns-in-Some c =
    let list = c.self.inside.list.items in
    let at : position (bytes_eq c.args.id.now) (ids_of list) ≡ Some c.in-Some.at = ap (position (bytes_eq c.args.id.now)) c.self.invariant.same ∙ sym c.in-Some.ensures in
    let once = subst (IsDistinct bytes_eq) (sym c.self.invariant.same) c.self.invariant.unique in
    set_backs c.args.id.now c.args.weight c.in-Some.at list c.index_mut.result.now once at c.index_mut.ensures.value ∙ ap (backed c.args.weight (c.args.id.now ∷ [])) c.self.view_is

pub returns-in_default : goal.returns-in_default
returns-in_default c =
    let list = c.self.inside.list.items in
    let none : position (bytes_eq c.args.id.now) (ids_of list) ≡ None = ap (position (bytes_eq c.args.id.now)) c.self.invariant.same ∙ sym c.in_default.ensures in
    sym c.self.view_is ∙ none_backs c.args.id.now c.args.weight list none ∙ ap (backed c.args.weight (c.args.id.now ∷ [])) c.self.view_is
