-- The first word of each kind of lines.
use Rattle.std.specs.Prelude.{ℕ, List, codes}
use Rattle.snow_lines.specs.declared.kind.Kind.{Kind}
use Rattle.snow_lines.specs.declared.kind.Kind.TheVariants as line

-- the first word of the lines of a kind
abbrev pub line_name : Kind → List ℕ
line_name line.Query = codes "query"
line_name line.Get = codes "get"
line_name line.Frontier = codes "frontier"
line_name line.Accepted = codes "accepted"
line_name line.Ancestors = codes "ancestors"
line_name line.Accept = codes "accept"
line_name line.Reject = codes "reject"
line_name line.Prefer = codes "prefer"
line_name line.Drop = codes "drop"
line_name line.DropQuery = codes "drop-query"
line_name line.Skip = codes "skip"
line_name line.Restart = codes "restart"
line_name line.Bootstrapped = codes "bootstrapped"
line_name line.ToChits = codes "to-chits"
line_name line.ToFrontier = codes "to-frontier"
line_name line.ToAccepted = codes "to-accepted"
line_name line.ToAncestors = codes "to-ancestors"
line_name line.ToBlock = codes "to-block"
