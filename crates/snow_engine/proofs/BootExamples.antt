-- Worked examples of nodes that bootstrap and then run, computed on the definitions.
use Rattle.std.proofs.Common.{◌≡◌, ℕ, ◌+◌, true, List, [], ◌∷◌, ◌++◌, replicate, refl}
use Rattle.snow_flake.specs.Model.Rule.{by_preference}
use Rattle.snow_chain.specs.Model.Plain.{header_of, plain_rules}
use Rattle.snow_boot.specs.Model.Asking.{asked}
use Rattle.snow_boot.specs.Model.Booting.{started as asked_first, followed, frontier_came, accepted_came, ancestors_came, timeout_came, stored_came}
use Rattle.snow_boot.specs.Model.Executing.{executed}
use Rattle.snow_store.specs.Model.Keeping.{held, highest, stray, taken}
use Rattle.snow_store.specs.Model.Paths.{path, missed, highest_target}
use Rattle.snow_boot.specs.Model.Replying.{replied}
use Rattle.snow_wire.specs.declared.event.Event.{Event}
use Rattle.snow_wire.specs.declared.event.Event.TheVariants as event
use Rattle.snow_wire.specs.declared.event.Start.{Start}
use Rattle.snow_lines.specs.declared.line.Line.TheVariants as line
use Rattle.snow_lines.specs.declared.why.SkipKind.TheVariants as skip
use Rattle.snow_engine.specs.declared.engine.Task.TheVariants as task
use Rattle.snow_node.specs.Model.Outcome.{quietly, then_comes}
use Rattle.snow_engine.specs.Kept.Staging.{Node, Comes}
use Rattle.snow_engine.specs.Model.Catching.{boots_on}
use Rattle.snow_engine.specs.Model.Node.{started, step}
use Rattle.snow_node.specs.Model.Turning.{runs_on}

abbrev id_of : ℕ → List ℕ
id_of first = first ∷ replicate 31 0

abbrev peer : ℕ → List ℕ
peer n = replicate 20 n

-- a valid plain block
abbrev bytes_of : ℕ → ℕ → ℕ → List ℕ
bytes_of id parent height = id_of id ++ id_of parent ++ replicate 7 0 ++ height ∷ 1 ∷ []

-- a Start of one node, which bootstraps first
abbrev first : Start
first = record {
  k = 1;
  alpha_preference = 1;
  alpha_confidence = 1;
  beta = 1;
  repolls = 1;
  boot = true;
  last = id_of 255;
  height = 0;
  state = [];
  nodes = (peer 1, 1) ∷ [];
}

-- events, the first of them in this frame
abbrev steps : Node → ℕ → List Event → Comes Node
steps node frame [] = quietly node
steps node frame (e ∷ later) = then_comes (step plain_rules by_preference node frame e) (λ n. steps n (frame + 1) later)

-- block 1 on the root is fetched and accepted, and then the node runs above it
pub it_catches_up_and_runs :
    (then_comes (started plain_rules task.Run first) (λ node. steps node 2 (
    event.Block (peer 1) 0 (bytes_of 1 255 1)
    ∷ event.Poll []
    ∷ event.Chits (peer 1) 1 (id_of 1)
    ∷ event.AskFrontier (peer 2) 7
    ∷ event.Frontier (peer 1) 1 (id_of 1)
    ∷ event.Accepted (peer 1) 2 (id_of 1 ∷ [])
    ∷ event.Ancestors (peer 1) 3 (bytes_of 1 255 1 ∷ [])
    ∷ event.AskFrontier (peer 2) 8
    ∷ event.Stored (bytes_of 1 255 1)
    ∷ [])
    )).0
    ≡ line.Frontier 1
    ∷ line.Skip 2 skip.Stage
    ∷ line.Skip 3 skip.Task
    ∷ line.Skip 5 skip.Stage
    ∷ line.Accepted 2 (id_of 1 ∷ [])
    ∷ line.Ancestors 3 (peer 1) (id_of 1)
    ∷ line.Accept (id_of 1)
    ∷ line.Bootstrapped (id_of 1) 1
    ∷ line.ToFrontier (peer 2) 8 (id_of 1)
    ∷ line.Skip 10 skip.Stage
    ∷ []
unfolding started asked_first boots_on runs_on header_of followed frontier_came accepted_came ancestors_came timeout_came stored_came asked executed held highest stray taken path missed highest_target replied
it_catches_up_and_runs = refl
