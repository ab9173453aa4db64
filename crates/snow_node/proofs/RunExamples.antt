-- Worked examples of nodes that run, computed on the definitions.
use Rattle.std.proofs.Common.{◌≡◌, ℕ, ◌+◌, true, false, List, [], ◌∷◌, ◌++◌, replicate, Option, Some, refl, ap, ◌∙◌}
use Rattle.std.specs.FinMap.{empty}
use Rattle.std.specs.Option.{option_and_then}
use Rattle.snow_base.specs.declared.block.Header.{Header}
use Rattle.snow_base.specs.Model.Identifier.{bits}
use Rattle.snow_base.specs.Model.Votes.{added}
use Rattle.snow_flake.specs.Model.Parameters.{Parameters}
use Rattle.snow_flake.specs.Model.Rule.{by_preference}
use Rattle.snow_sample.specs.declared.roster.Node.{Node as Member}
use Rattle.snow_sample.specs.Model.Words.{is_power}
use Rattle.snow_sample.specs.Model.Sampling.{drawn_from}
use Rattle.snow_board.specs.Model.Conflict.{with_child, all_polled, chosen, decided_path}
use Rattle.snow_board.specs.Model.Board.{begin}
use Rattle.snow_board.specs.Model.Poll.{counted, winner, decisions_for, promoted, settled, poll}
use Rattle.snow_board.specs.Model.Preference.{path_from}
use Rattle.snow_chain.specs.Model.Chain.{Held, begun, next_on}
use Rattle.snow_chain.specs.Model.Plain.{header_of, plain_rules}
use Rattle.snow_issue.specs.Model.Lists as lists
use Rattle.snow_getter.specs.Model.Chain.{chain_within}
use Rattle.snow_getter.specs.Model.Serving.{serving_from}
use Rattle.snow_issue.specs.Model.Bubbling.{bubbled_in}
use Rattle.snow_wire.specs.declared.event.Event.{Event}
use Rattle.snow_wire.specs.declared.event.Event.TheVariants as event
use Rattle.snow_lines.specs.declared.line.Line.{Line}
use Rattle.snow_lines.specs.declared.line.Line.TheVariants as line
use Rattle.snow_lines.specs.declared.why.QueryWhy.TheVariants as query
use Rattle.snow_node.specs.Model.Outcome.{Comes, quietly, then_comes, where_made}
use Rattle.snow_node.specs.Model.Again.{again}
use Rattle.snow_node.specs.Model.Running.{Running}
use Rattle.snow_node.specs.Model.Settling.{issued_by, one_settled}
use Rattle.snow_node.specs.Model.Turning.{runs_on, rounded}
use Rattle.snow_node.proofs.Following.{state_with}

-- an identifier by its first byte, and a node by its number
abbrev id_of : ℕ → List ℕ
id_of first = first ∷ replicate 31 0

abbrev peer : ℕ → List ℕ
peer n = replicate 20 n

abbrev root : List ℕ
root = id_of 255

-- a plain block, valid or not
abbrev bytes_of : ℕ → ℕ → ℕ → ℕ → List ℕ
bytes_of id parent height flag = id_of id ++ id_of parent ++ replicate 7 0 ++ height ∷ flag ∷ []

-- a node with these parameters and this roster
abbrev node_of : Parameters → List Member → Running
node_of p roster = record {
  board = begin p root 0;
  chain = begun root [];
  served = serving_from root;
  roster = roster;
  polls = record { parameters = p; polls = [] };
  queue = lists.begun root;
  words = [];
  last = 0;
  recorded = false;
}

-- ---- what events make of a node

-- events, the first of them in this frame
abbrev steps : Running → ℕ → List Event → Comes Running
steps node frame [] = quietly node
steps node frame (e ∷ later) = then_comes (runs_on plain_rules by_preference node frame e) (λ n. steps n (frame + 1) later)

abbrev words : List ℕ → Event
words ws = event.Words ws

abbrev block : ℕ → ℕ → ℕ → Event
block id parent height = event.Block (peer 1) 0 (bytes_of id parent height 1)

abbrev vote : ℕ → ℕ → ℕ → Event
vote n number id = event.Chits (peer n) number (id_of id)

abbrev lapse : ℕ → ℕ → Event
lapse n number = event.Timeout (peer n) number

-- block 1 on the root comes to a node where nothing waits, by its state, and then other events
abbrev first_block : Header
first_block = record { id = id_of 1; parent = root; height = 1 }

abbrev with_block : Running → List Event → Option (List ℕ) → Comes Running
with_block node later state = then_comes (then_comes (then_comes (then_comes
    (issued_by by_preference node first_block (bytes_of 1 255 1 1) state)
    (λ n. quietly (n, true)))
    (where_made (again 1 (one_settled plain_rules by_preference))))
    (rounded by_preference))
    (λ n. steps n 4 later)

-- its state is the empty one
has_state : next_on plain_rules (begun root []) root (bytes_of 1 255 1 1) ≡ Some []
unfolding header_of
has_state =
    let none : Held = record { last = root; states = empty } in
    ap (λ (o : Option (List ℕ)). option_and_then (λ state. plain_rules.next state (bytes_of 1 255 1 1)) o) (state_with none root [] root)

-- ---- random words that run out, and come again

abbrev two_of_two : Parameters
two_of_two = record { k = 2; alpha_preference = 2; alpha_confidence = 2; beta = 1; repolls = 1 }

abbrev three_and_one : List Member
three_and_one = record { id = peer 1; weight = 3 } ∷ record { id = peer 2; weight = 1 } ∷ []

abbrev five : Running
five = record (node_of two_of_two three_and_one) { words = 5 ∷ [] }

words_come : steps (node_of two_of_two three_and_one) 2 (words (5 ∷ []) ∷ []) ≡ quietly five
unfolding runs_on again
words_come = refl

the_block_comes : (later : List Event) → steps five 3 (block 1 255 1 ∷ later) ≡ with_block five later (next_on plain_rules (begun root []) root (bytes_of 1 255 1 1))
unfolding runs_on again header_of
the_block_comes later = refl

words_run_out_with : (with_block five (words (5 ∷ 7 ∷ []) ∷ []) (Some [])).0
    ≡ line.Prefer (id_of 1) ∷ line.DropQuery query.Words ∷ line.Query 1 (id_of 1) (record { node = peer 1; count = 2 } ∷ []) ∷ []
unfolding runs_on again bits with_child chosen path_from is_power drawn_from
words_run_out_with = refl

pub words_run_out : (steps five 3 (block 1 255 1 ∷ words (5 ∷ 7 ∷ []) ∷ [])).0
    ≡ line.Prefer (id_of 1) ∷ line.DropQuery query.Words ∷ line.Query 1 (id_of 1) (record { node = peer 1; count = 2 } ∷ []) ∷ []
words_run_out =
    ap (λ (c : Comes Running). c.0) (the_block_comes (words (5 ∷ 7 ∷ []) ∷ []))
    ∙ ap (λ (o : Option (List ℕ)). (with_block five (words (5 ∷ 7 ∷ []) ∷ []) o).0) has_state
    ∙ words_run_out_with

-- ---- peers ask

abbrev ones : Parameters
ones = record { k = 1; alpha_preference = 1; alpha_confidence = 1; beta = 1; repolls = 1 }

abbrev one : Running
one = record (node_of ones (record { id = peer 1; weight = 1 } ∷ [])) { words = 0 ∷ 0 ∷ [] }

-- node 2 asks before the vote that accepts the block, and after it
abbrev asking : List Event
asking =
    event.AskQuery (peer 2) 7
    ∷ vote 1 1 1
    ∷ event.AskFrontier (peer 2) 8
    ∷ event.AskAccepted (peer 2) 9 (root ∷ id_of 2 ∷ id_of 1 ∷ [])
    ∷ event.AskBlock (peer 2) 10 (id_of 1)
    ∷ event.AskAncestors (peer 2) 11 (id_of 5)
    ∷ event.AskAncestors (peer 2) 12 (id_of 1)
    ∷ []

abbrev answers : List Line
answers =
    line.Prefer (id_of 1)
    ∷ line.Query 1 (id_of 1) (record { node = peer 1; count = 1 } ∷ [])
    ∷ line.ToChits (peer 2) 7 (id_of 1) root
    ∷ line.Accept (id_of 1)
    ∷ line.ToFrontier (peer 2) 8 (id_of 1)
    ∷ line.ToAccepted (peer 2) 9 (root ∷ id_of 1 ∷ [])
    ∷ line.ToBlock (peer 2) 10 (bytes_of 1 255 1 1)
    ∷ line.ToAncestors (peer 2) 12 (bytes_of 1 255 1 1 ∷ [])
    ∷ []

the_block_is_served : (later : List Event) → steps one 3 (block 1 255 1 ∷ later) ≡ with_block one later (next_on plain_rules (begun root []) root (bytes_of 1 255 1 1))
unfolding runs_on again header_of
the_block_is_served later = refl

peers_ask_with : (with_block one asking (Some [])).0 ≡ answers
unfolding runs_on again bits with_child chosen path_from is_power drawn_from added all_polled decided_path counted winner decisions_for promoted settled poll bubbled_in chain_within
peers_ask_with = refl

pub peers_ask : (steps one 3 (block 1 255 1 ∷ asking)).0 ≡ answers
peers_ask =
    ap (λ (c : Comes Running). c.0) (the_block_is_served asking)
    ∙ ap (λ (o : Option (List ℕ)). (with_block one asking o).0) has_state
    ∙ peers_ask_with
