-- The text of each line: its words with one space between two of them, and a newline.
use Rattle.std.specs.Prelude.{ℕ, List, [], ◌∷◌, ◌++◌, map, codes, decimal}
use Rattle.std.specs.List.{flat_map, join_with_byte}
use Rattle.hex.specs.Hex.{encode_lower}
pub use Rattle.snow_sample.specs.declared.draws.Draw.{Draw}
use Rattle.snow_lines.specs.declared.line.Line.{Line}
use Rattle.snow_lines.specs.declared.line.Line.TheVariants as line
use Rattle.snow_lines.specs.declared.why.DropWhy.{DropWhy}
use Rattle.snow_lines.specs.declared.why.DropWhy.TheVariants as drop
use Rattle.snow_lines.specs.declared.why.QueryWhy.{QueryWhy}
use Rattle.snow_lines.specs.declared.why.QueryWhy.TheVariants as query
use Rattle.snow_lines.specs.declared.why.RestartWhy.{RestartWhy}
use Rattle.snow_lines.specs.declared.why.RestartWhy.TheVariants as restart
use Rattle.snow_lines.specs.declared.why.SkipKind.{SkipKind}
use Rattle.snow_lines.specs.declared.why.SkipKind.TheVariants as kind

-- the word for why a block is given up
abbrev pub why_word : DropWhy → List ℕ
why_word drop.Parent = codes "parent"
why_word drop.Full = codes "full"
why_word drop.Invalid = codes "invalid"
why_word drop.Old = codes "old"

-- the word for why a query isn't sent
abbrev pub query_word : QueryWhy → List ℕ
query_word query.Full = codes "full"
query_word query.Units = codes "units"
query_word query.Words = codes "words"

-- the word for why bootstrapping begins again
abbrev pub restart_word : RestartWhy → List ℕ
restart_word restart.Frontier = codes "frontier"
restart_word restart.Accepted = codes "accepted"

-- the word for why a frame is passed over
abbrev pub kind_word : SkipKind → List ℕ
kind_word kind.Tag = codes "tag"
kind_word kind.Short = codes "short"
kind_word kind.Extra = codes "extra"
kind_word kind.Count = codes "count"
kind_word kind.Task = codes "task"
kind_word kind.Stage = codes "stage"
kind_word kind.Votes = codes "votes"
kind_word kind.Full = codes "full"
kind_word kind.Block = codes "block"
kind_word kind.Nodes = codes "nodes"

-- a node, and how often it was drawn
abbrev pub draw_word : Draw → List ℕ
draw_word d = encode_lower d.node ++ codes "*" ++ decimal d.count

-- a block's bytes, and a full stop for none
abbrev pub block_word : List ℕ → List ℕ
block_word [] = codes "."
block_word (byte ∷ bytes) = encode_lower (byte ∷ bytes)

-- the first word of a line
abbrev pub name : Line → List ℕ
name (line.Query number id draws) = codes "query"
name (line.Get number node id) = codes "get"
name (line.Frontier number) = codes "frontier"
name (line.Accepted number ids) = codes "accepted"
name (line.Ancestors number node id) = codes "ancestors"
name (line.Accept id) = codes "accept"
name (line.Reject id) = codes "reject"
name (line.Prefer id) = codes "prefer"
name (line.Drop id why) = codes "drop"
name (line.DropQuery why) = codes "drop-query"
name (line.Skip frame kind) = codes "skip"
name (line.Restart why) = codes "restart"
name (line.Bootstrapped id height) = codes "bootstrapped"
name (line.ToChits node number preference last) = codes "to-chits"
name (line.ToFrontier node number id) = codes "to-frontier"
name (line.ToAccepted node number ids) = codes "to-accepted"
name (line.ToAncestors node number blocks) = codes "to-ancestors"
name (line.ToBlock node number bytes) = codes "to-block"

-- the words behind the first
abbrev pub fields : Line → List (List ℕ)
fields (line.Query number id draws) = decimal number ∷ encode_lower id ∷ []
fields (line.Get number node id) = decimal number ∷ encode_lower node ∷ encode_lower id ∷ []
fields (line.Frontier number) = decimal number ∷ []
fields (line.Accepted number ids) = decimal number ∷ []
fields (line.Ancestors number node id) = decimal number ∷ encode_lower node ∷ encode_lower id ∷ []
fields (line.Accept id) = encode_lower id ∷ []
fields (line.Reject id) = encode_lower id ∷ []
fields (line.Prefer id) = encode_lower id ∷ []
fields (line.Drop id why) = encode_lower id ∷ why_word why ∷ []
fields (line.DropQuery why) = query_word why ∷ []
fields (line.Skip frame kind) = decimal frame ∷ kind_word kind ∷ []
fields (line.Restart why) = restart_word why ∷ []
fields (line.Bootstrapped id height) = encode_lower id ∷ decimal height ∷ []
fields (line.ToChits node number preference last) = encode_lower node ∷ decimal number ∷ encode_lower preference ∷ encode_lower last ∷ []
fields (line.ToFrontier node number id) = encode_lower node ∷ decimal number ∷ encode_lower id ∷ []
fields (line.ToAccepted node number ids) = encode_lower node ∷ decimal number ∷ []
fields (line.ToAncestors node number blocks) = encode_lower node ∷ decimal number ∷ []
fields (line.ToBlock node number bytes) = encode_lower node ∷ decimal number ∷ []

-- the words of a line's list, which are its last
abbrev pub listed : Line → List (List ℕ)
listed (line.Query number id draws) = map draw_word draws
listed (line.Accepted number ids) = map encode_lower ids
listed (line.ToAccepted node number ids) = map encode_lower ids
listed (line.ToAncestors node number blocks) = map block_word blocks
listed (line.ToBlock node number bytes) = block_word bytes ∷ []
listed other = []

-- all words of a line
abbrev pub words : Line → List (List ℕ)
words l = name l ∷ fields l ++ listed l

-- the bytes of a line
unfoldable pub text : Line → List ℕ
text l = join_with_byte 32 (words l) ++ 10 ∷ []

-- the bytes of lines
abbrev pub texts : List Line → List ℕ
texts lines = flat_map text lines

-- a word with a space in front of it
abbrev pub spaced : List ℕ → List ℕ
spaced word = 32 ∷ word
