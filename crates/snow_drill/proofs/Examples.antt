-- Worked examples of drills, computed on the definitions over a small stand-in for a node's step.
use Rattle.std.proofs.Common.{◌≡◌, ℕ, true, List, [], ◌∷◌, Ok, codes, bytes_eq, refl, if◌then◌else◌}
use Rattle.std.specs.Result.{is_ok}
use Rattle.std.specs.Fmt.{digits}
use Rattle.hex.specs.Hex.{encode_with}
use Rattle.sha2.specs.Sha256.{sha256, digest_bytes, hash_after, compress, rounds, schedule, first_words}
use Rattle.snow_wire.specs.declared.event.Event.TheVariants as event
use Rattle.snow_lines.specs.declared.line.Line.TheVariants as line
use Rattle.snow_lines.specs.Model.Text.{Draw, text}
use Rattle.snow_chain.specs.Model.Tally.{tally_rules}
use Rattle.snow_engine.specs.declared.engine.Task.TheVariants as task
use Rattle.snow_engine.specs.Model.Node.{started}
use Rattle.snow_engine.specs.Kept.Staging.{Comes}
use Rattle.snow_drill.specs.Model.Generator.{last_of, values}
use Rattle.snow_drill.specs.Kept.Told.{nobody}
use Rattle.snow_drill.specs.Model.First.{node, nodes, first}
use Rattle.snow_drill.specs.Model.Drill.{Step, with_timeouts, with_answer, with_answers, with_round, with_rounds}
use Rattle.snow_drill.specs.Model.Summary.{drilled}

-- nodes 1 and 2, of which the second was drawn twice; it answers once
abbrev two_draws : List Draw
two_draws = record { node = node 1; count = 1 } ∷ record { node = node 2; count = 2 } ∷ []

-- the first block is preferred, and each later one rejected; nodes are asked of each
abbrev blocked : List ℕ → ℕ → List ℕ → Comes (List ℕ)
blocked first frame id =
    if bytes_eq first nobody
    then (line.Prefer id ∷ line.Query frame id two_draws ∷ [], Ok id)
    else (line.Reject id ∷ line.Query frame id two_draws ∷ [], Ok first)

-- a stand-in for a node, which is its first block: a vote asks for its block, and a timeout accepts the first
abbrev stand_in : Step (List ℕ)
stand_in first frame (event.Block node request bytes) = blocked first frame (sha256 bytes)
stand_in first frame (event.Chits node request id) = (line.Get frame node id ∷ [], Ok first)
stand_in first frame (event.Timeout node request) = (line.Accept first ∷ [], Ok first)
stand_in first frame other = ([], Ok first)

-- the second block stands beside the first, since its pick of four is 0, and one node of the second query votes for it, since its pick
-- of sixteen is 0
pub two_blocks : drilled stand_in 23 2 ([], Ok nobody)
    ≡ codes "blocks 2\naccepted 4\nrejected 1\npolls 2\nlast fe1465214698fc65c987e1ce875c15f57f7b14f5b9e37f16d4d539a363c19564\nsha256 318e88fd2ef571f24836444ec61a684840554f1be9a3e74ba79c78749c7b32c6\n"
unfolding drilled values last_of with_timeouts with_answer with_answers with_round with_rounds text digits encode_with sha256 digest_bytes hash_after compress rounds schedule first_words
two_blocks = refl

-- the Start of every drill is good: a node begins
pub begins : is_ok (started tally_rules task.Run first).1 ≡ true
unfolding started nodes
begins = refl
