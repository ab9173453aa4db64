-- Lemmas on the heights of waiting blocks, by identifier.
use Rattle.std.proofs.Common.{◌≡◌, ℕ, ◌<◌, ◌+◌, ◌==◌, Bool, true, false, cond, List, [], ◌∷◌, ◌++◌, length, get_or, Option, Some, None, refl, sym, ap, ◌∙◌}
use Rattle.std.specs.List.{remove}
use Rattle.std.specs.Option.{is_some, option_map, option_map_or}
use Rattle.std.specs.Str.{bytes_eq}
use Rattle.snow_base.specs.declared.block.Header.{Header}
use Rattle.snow_issue.specs.declared.work.Waiting.{Waiting}
use Rattle.snow_issue.specs.Model.Lists.{waits_among, waits_below}
use Rattle.snow_issue.specs.Kept.Index.{HasHeights}
use Rattle.snow_gets.proofs.Named.{named, named_pushed, apart_pushed, named_removed, named_at, apart_removed, named_is_some, any_named}

-- what finds a height by identifier
abbrev Finder : Type 0
Finder = List ℕ → Option ℕ

abbrev pub id_of_block : Waiting → List ℕ
id_of_block w = w.header.id

map_is_some : {A B : Type 0} (f : A → B) (o : Option A) → is_some (option_map f o) ≡ is_some o
map_is_some f None = refl
map_is_some f (Some x) = refl

pub waits_known : (height : Finder) (waiting : List Waiting) (id : List ℕ) → HasHeights height waiting → is_some (height id) ≡ waits_among waiting id
waits_known height waiting id is =
    ap is_some (is.known id) ∙ map_is_some (λ (w : Waiting). w.header.height) (named id_of_block waiting id) ∙ named_is_some id_of_block waiting id

below_test : (o : Option Waiting) (h above : ℕ) → Some h ≡ option_map (λ w. w.header.height) o → option_map_or (λ w. w.header.height + 1 == above) o false ≡ (h + 1 == above)
below_test None h above e = absurd cc
below_test (Some w) h above e = let same : h ≡ w.header.height = cc in ap (λ k. k + 1 == above) (sym same)

no_test : (o : Option Waiting) (above : ℕ) → None ≡ option_map (λ w. w.header.height) o → option_map_or (λ w. w.header.height + 1 == above) o false ≡ false
no_test None above e = refl
no_test (Some w) above e = absurd cc

pub below_known : (height : Finder) (waiting : List Waiting) (child : Header) (h : ℕ) → HasHeights height waiting → Some h ≡ height child.parent
    → (h + 1 == child.height) ≡ waits_below waiting child
below_known height waiting child h is found =
    sym (any_named id_of_block (λ w. w.header.height + 1 == child.height) waiting child.parent is.apart
    ∙ below_test (named id_of_block waiting child.parent) h child.height (found ∙ is.known child.parent))

pub below_missing : (height : Finder) (waiting : List Waiting) (child : Header) → HasHeights height waiting → None ≡ height child.parent
    → false ≡ waits_below waiting child
below_missing height waiting child is missing =
    sym (any_named id_of_block (λ w. w.header.height + 1 == child.height) waiting child.parent is.apart
    ∙ no_test (named id_of_block waiting child.parent) child.height (missing ∙ is.known child.parent))

pub below_at : (height : Finder) (waiting : List Waiting) (child : Header) (at : ℕ) (w : Waiting) → HasHeights height waiting → at < length waiting → w ≡ get_or waiting at w
    → bytes_eq w.header.id child.parent ≡ true → (w.header.height + 1 == child.height) ≡ waits_below waiting child
below_at height waiting child at w is there is_w same =
    let found = named_at id_of_block waiting at w child.parent there is_w same is.apart in
    sym (any_named id_of_block (λ w. w.header.height + 1 == child.height) waiting child.parent is.apart
    ∙ ap (λ o. option_map_or (λ (w : Waiting). w.header.height + 1 == child.height) o false) found)

-- ---- one block more, and one less

map_cond : (b : Bool) (w : Waiting) (o : Option Waiting) → cond b (Some w.header.height) (option_map (λ w. w.header.height) o) ≡ option_map (λ w. w.header.height) (cond b (Some w) o)
map_cond true w o = refl
map_cond false w o = refl

none_cond : (b : Bool) (o : Option Waiting) → cond b None (option_map (λ w. w.header.height) o) ≡ option_map (λ w. w.header.height) (cond b None o)
none_cond true o = refl
none_cond false o = refl

pub heights_pushed : (before now : Finder) (waiting : List Waiting) (w : Waiting) → HasHeights before waiting → waits_among waiting w.header.id ≡ false
    → ((q : List ℕ) → now q ≡ cond (bytes_eq w.header.id q) (Some w.header.height) (before q))
    → HasHeights now (waiting ++ w ∷ [])
heights_pushed before now waiting w is new change = record {
  known = λ id.
      change id ∙ ap (λ o. cond (bytes_eq w.header.id id) (Some w.header.height) o) (is.known id)
      ∙ map_cond (bytes_eq w.header.id id) w (named id_of_block waiting id)
      ∙ ap (option_map (λ (w : Waiting). w.header.height)) (sym (named_pushed id_of_block waiting w id new));
  apart = apart_pushed id_of_block waiting w new is.apart;
}

pub heights_removed : (before now : Finder) (waiting : List Waiting) (at : ℕ) (w : Waiting) → HasHeights before waiting → at < length waiting → w ≡ get_or waiting at w
    → ((q : List ℕ) → now q ≡ cond (bytes_eq w.header.id q) None (before q))
    → HasHeights now (remove waiting at)
heights_removed before now waiting at w is there is_w change = record {
  known = λ id.
      change id ∙ ap (λ o. cond (bytes_eq w.header.id id) None o) (is.known id)
      ∙ none_cond (bytes_eq w.header.id id) (named id_of_block waiting id)
      ∙ ap (option_map (λ (w : Waiting). w.header.height)) (sym (named_removed id_of_block waiting at w id there is_w is.apart));
  apart = apart_removed id_of_block waiting at is.apart;
}
