-- Words out of a few: each stands for one thing.
use Rattle.std.proofs.Common.{◌≡◌, ℕ, Bool, true, false, cond, List, [], ◌∷◌, codes, Some, refl, sym, ap, ◌∙◌}
use Rattle.std.specs.Prelude.{⊤}
use Rattle.std.specs.List.{find}
use Rattle.std.specs.Str.{bytes_eq}
use Rattle.snow_lines.specs.declared.kind.Kind.{Kind}
use Rattle.snow_lines.specs.declared.kind.Kind.TheVariants as line
use Rattle.snow_lines.specs.declared.why.DropWhy.{DropWhy}
use Rattle.snow_lines.specs.declared.why.DropWhy.TheVariants as drop
use Rattle.snow_lines.specs.declared.why.QueryWhy.{QueryWhy}
use Rattle.snow_lines.specs.declared.why.QueryWhy.TheVariants as query
use Rattle.snow_lines.specs.declared.why.RestartWhy.{RestartWhy}
use Rattle.snow_lines.specs.declared.why.RestartWhy.TheVariants as restart
use Rattle.snow_lines.specs.declared.why.SkipKind.{SkipKind}
use Rattle.snow_lines.specs.declared.why.SkipKind.TheVariants as kind
use Rattle.snow_lines.specs.Model.Names.{line_name}
use Rattle.snow_reading.specs.Model.Names.{kind_of, line_kind_of, query_of, restart_of, why_of}
use Rattle.snow_lines.specs.Model.Text.{kind_word, query_word, restart_word, why_word}
use Rattle.snow_reading.proofs.Spelled.{IsField, NoSpace, told_same, no_space_from}

-- what was found passes the test
find_shows : {A : Type 0} (p : A → Bool) (xs : List A) (x : A) → find p xs ≡ Some x → p x ≡ true
find_shows p [] x h = cc h
find_shows p (y ∷ xs) x h = by (p y) refl (find_shows p xs x) h
  where
    by : (b : Bool) → p y ≡ b → (find p xs ≡ Some x → p x ≡ true) → cond b (Some y) (find p xs) ≡ Some x → p x ≡ true
    by true e more k = let same : x ≡ y = cc in ap p same ∙ e
    by false e more k = more k

-- what was found has this word
named : {A : Type 0} (spell : A → List ℕ) (xs : List A) (word : List ℕ) (x : A) → find (λ y. bytes_eq word (spell y)) xs ≡ Some x → spell x ≡ word
named spell xs word x h = sym (told_same word (spell x) (find_shows (λ y. bytes_eq word (spell y)) xs x h))

-- why a block is given up
pub why_field : IsField why_of why_word (λ x. ⊤)
why_field = record { found = λ word x h. (named why_word (drop.Parent ∷ drop.Full ∷ drop.Invalid ∷ drop.Old ∷ []) word x h, tt); only = again; whole = no_space }
  where
    again : (x : DropWhy) → ⊤ → why_of (why_word x) ≡ Some x
    again drop.Parent h = refl
    again drop.Full h = refl
    again drop.Invalid h = refl
    again drop.Old h = refl

    no_space : (x : DropWhy) → ⊤ → NoSpace (why_word x)
    no_space drop.Parent h = no_space_from (codes "parent") refl
    no_space drop.Full h = no_space_from (codes "full") refl
    no_space drop.Invalid h = no_space_from (codes "invalid") refl
    no_space drop.Old h = no_space_from (codes "old") refl

-- why a query isn't sent
pub query_field : IsField query_of query_word (λ x. ⊤)
query_field = record { found = λ word x h. (named query_word (query.Full ∷ query.Units ∷ query.Words ∷ []) word x h, tt); only = again; whole = no_space }
  where
    again : (x : QueryWhy) → ⊤ → query_of (query_word x) ≡ Some x
    again query.Full h = refl
    again query.Units h = refl
    again query.Words h = refl

    no_space : (x : QueryWhy) → ⊤ → NoSpace (query_word x)
    no_space query.Full h = no_space_from (codes "full") refl
    no_space query.Units h = no_space_from (codes "units") refl
    no_space query.Words h = no_space_from (codes "words") refl

-- why bootstrapping begins again
pub restart_field : IsField restart_of restart_word (λ x. ⊤)
restart_field = record { found = λ word x h. (named restart_word (restart.Frontier ∷ restart.Accepted ∷ []) word x h, tt); only = again; whole = no_space }
  where
    again : (x : RestartWhy) → ⊤ → restart_of (restart_word x) ≡ Some x
    again restart.Frontier h = refl
    again restart.Accepted h = refl

    no_space : (x : RestartWhy) → ⊤ → NoSpace (restart_word x)
    no_space restart.Frontier h = no_space_from (codes "frontier") refl
    no_space restart.Accepted h = no_space_from (codes "accepted") refl

-- why a frame is passed over
pub kind_field : IsField kind_of kind_word (λ x. ⊤)
kind_field = record { found = λ word x h. (named kind_word (kind.Tag ∷ kind.Short ∷ kind.Extra ∷ kind.Count ∷ kind.Task ∷ kind.Stage ∷ kind.Votes ∷ kind.Full ∷ kind.Block ∷ kind.Nodes ∷ []) word x h, tt); only = again; whole = no_space }
  where
    again : (x : SkipKind) → ⊤ → kind_of (kind_word x) ≡ Some x
    again kind.Tag h = refl
    again kind.Short h = refl
    again kind.Extra h = refl
    again kind.Count h = refl
    again kind.Task h = refl
    again kind.Stage h = refl
    again kind.Votes h = refl
    again kind.Full h = refl
    again kind.Block h = refl
    again kind.Nodes h = refl

    no_space : (x : SkipKind) → ⊤ → NoSpace (kind_word x)
    no_space kind.Tag h = no_space_from (codes "tag") refl
    no_space kind.Short h = no_space_from (codes "short") refl
    no_space kind.Extra h = no_space_from (codes "extra") refl
    no_space kind.Count h = no_space_from (codes "count") refl
    no_space kind.Task h = no_space_from (codes "task") refl
    no_space kind.Stage h = no_space_from (codes "stage") refl
    no_space kind.Votes h = no_space_from (codes "votes") refl
    no_space kind.Full h = no_space_from (codes "full") refl
    no_space kind.Block h = no_space_from (codes "block") refl
    no_space kind.Nodes h = no_space_from (codes "nodes") refl

-- the kind that was found has this word
pub kind_shows : (word : List ℕ) (k : Kind) → line_kind_of word ≡ Some k → line_name k ≡ word
kind_shows word k h = named line_name (line.Query ∷ line.Get ∷ line.Frontier ∷ line.Accepted ∷ line.Ancestors ∷ line.Accept ∷ line.Reject ∷ line.Prefer ∷ line.Drop ∷ line.DropQuery ∷ line.Skip ∷ line.Restart ∷ line.Bootstrapped ∷ line.ToChits ∷ line.ToFrontier ∷ line.ToAccepted ∷ line.ToAncestors ∷ line.ToBlock ∷ []) word k h
