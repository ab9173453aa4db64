-- What a word stands for: each has one word.
use Rattle.std.specs.Prelude.{ℕ, List, [], ◌∷◌, Option}
use Rattle.std.specs.List.{find}
use Rattle.std.specs.Str.{bytes_eq}
use Rattle.snow_lines.specs.declared.kind.Kind.{Kind}
use Rattle.snow_lines.specs.declared.kind.Kind.TheVariants as line
use Rattle.snow_lines.specs.declared.why.DropWhy.{DropWhy}
use Rattle.snow_lines.specs.declared.why.DropWhy.TheVariants as drop
use Rattle.snow_lines.specs.declared.why.QueryWhy.{QueryWhy}
use Rattle.snow_lines.specs.declared.why.QueryWhy.TheVariants as query
use Rattle.snow_lines.specs.declared.why.RestartWhy.{RestartWhy}
use Rattle.snow_lines.specs.declared.why.RestartWhy.TheVariants as restart
use Rattle.snow_lines.specs.declared.why.SkipKind.{SkipKind}
use Rattle.snow_lines.specs.declared.why.SkipKind.TheVariants as kind
use Rattle.snow_lines.specs.Model.Names.{line_name}
use Rattle.snow_lines.specs.Model.Text.{kind_word, query_word, restart_word, why_word}

-- the first with this word
abbrev pub why_of : List ℕ → Option DropWhy
why_of word = find (λ x. bytes_eq word (why_word x)) (drop.Parent ∷ drop.Full ∷ drop.Invalid ∷ drop.Old ∷ [])

-- the first with this word
abbrev pub query_of : List ℕ → Option QueryWhy
query_of word = find (λ x. bytes_eq word (query_word x)) (query.Full ∷ query.Units ∷ query.Words ∷ [])

-- the first with this word
abbrev pub restart_of : List ℕ → Option RestartWhy
restart_of word = find (λ x. bytes_eq word (restart_word x)) (restart.Frontier ∷ restart.Accepted ∷ [])

-- the first with this word
abbrev pub kind_of : List ℕ → Option SkipKind
kind_of word = find (λ x. bytes_eq word (kind_word x)) (kind.Tag ∷ kind.Short ∷ kind.Extra ∷ kind.Count ∷ kind.Task ∷ kind.Stage ∷ kind.Votes ∷ kind.Full ∷ kind.Block ∷ kind.Nodes ∷ [])

-- the first with this word
abbrev pub line_kind_of : List ℕ → Option Kind
line_kind_of word = find (λ x. bytes_eq word (line_name x)) (line.Query ∷ line.Get ∷ line.Frontier ∷ line.Accepted ∷ line.Ancestors ∷ line.Accept ∷ line.Reject ∷ line.Prefer ∷ line.Drop ∷ line.DropQuery ∷ line.Skip ∷ line.Restart ∷ line.Bootstrapped ∷ line.ToChits ∷ line.ToFrontier ∷ line.ToAccepted ∷ line.ToAncestors ∷ line.ToBlock ∷ [])

-- the kinds of the lines that ask nodes
abbrev pub asking : List Kind
asking = line.Query ∷ line.Get ∷ line.Frontier ∷ line.Accepted ∷ line.Ancestors ∷ []

-- the kinds of the lines that tell what was done
abbrev pub telling : List Kind
telling = line.Accept ∷ line.Reject ∷ line.Prefer ∷ line.Drop ∷ line.DropQuery ∷ line.Skip ∷ line.Restart ∷ line.Bootstrapped ∷ []

-- the kinds of the lines that answer peers
abbrev pub answering : List Kind
answering = line.ToChits ∷ line.ToFrontier ∷ line.ToAccepted ∷ line.ToAncestors ∷ line.ToBlock ∷ []

-- the first of these with this word
abbrev pub kind_in : List Kind → List ℕ → Option Kind
kind_in kinds word = find (λ x. bytes_eq word (line_name x)) kinds
