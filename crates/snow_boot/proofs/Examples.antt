-- Worked examples: the definitions compute.
use Rattle.std.proofs.Common.{◌≡◌, ℕ, List, [], ◌∷◌, ◌++◌, replicate, refl}
use Rattle.std.specs.Prelude.{Result, Ok, Err}
use Rattle.snow_chain.specs.Model.Plain
use Rattle.snow_chain.specs.Model.Plain.{plain_rules}
use Rattle.snow_sample.specs.declared.roster.Node.{Node}
use Rattle.snow_lines.specs.declared.line.Line.{Line}
use Rattle.snow_lines.specs.declared.line.Line.TheVariants as line
use Rattle.snow_lines.specs.declared.why.RestartWhy.TheVariants as restart
use Rattle.snow_lines.specs.declared.why.SkipKind.TheVariants as skip
use Rattle.snow_store.specs.declared.stop.BootStop.{BootStop}
use Rattle.snow_store.specs.declared.stop.BootStop.TheVariants as stop
use Rattle.snow_store.specs.Model.Keeping.{held, highest, stray, taken}
use Rattle.snow_store.specs.Model.Paths.{path, missed, highest_target}
use Rattle.snow_boot.specs.Model.Executing.{executed}
use Rattle.snow_boot.specs.Model.Asking.{asked}
use Rattle.snow_boot.specs.Model.Replying.{replied}
use Rattle.snow_boot.specs.Model.Booting.{Next, Going, Done, Outcome, behind, started, followed, frontier_came, accepted_came, ancestors_came, timeout_came, stored_came}

-- an identifier by its first byte
abbrev pub id_of : ℕ → List ℕ
id_of first = first ∷ replicate 31 0

-- a node by its number
abbrev pub node_of : ℕ → List ℕ
node_of number = replicate 20 number

-- a block of the plain chain: its identifier, its parent, its height and its flag
abbrev pub flagged : ℕ → ℕ → ℕ → ℕ → List ℕ
flagged id parent height flag = id_of id ++ id_of parent ++ replicate 7 0 ++ height ∷ flag ∷ []

-- a valid block
abbrev pub block : ℕ → ℕ → ℕ → List ℕ
block id parent height = flagged id parent height 1

-- what comes to a node that bootstraps
pub data Input : Type 0 where
  Frontier : (node number id : ℕ) → Input
  Accepted : (node number : ℕ) (ids : List (List ℕ)) → Input
  Ancestors : (node number : ℕ) (blocks : List (List ℕ)) → Input
  Timeout : (node number : ℕ) → Input
  Stored : (bytes : List ℕ) → Input

-- what an input makes of a node that still bootstraps
abbrev pub after : Result Next BootStop → Input → Outcome
after (Ok (Going boot drawn)) (Frontier node number id) = frontier_came plain_rules [] boot drawn (node_of node) number (id_of id)
after (Ok (Going boot drawn)) (Accepted node number ids) = accepted_came plain_rules [] boot drawn (node_of node) number ids
after (Ok (Going boot drawn)) (Ancestors node number blocks) = ancestors_came plain_rules [] boot drawn (node_of node) number blocks
after (Ok (Going boot drawn)) (Timeout node number) = timeout_came plain_rules [] boot drawn (node_of node) number
after (Ok (Going boot drawn)) (Stored bytes) = stored_came plain_rules [] boot drawn 1 bytes
after other input = ([], other)

-- what all inputs make of it
abbrev pub run : Outcome → List Input → Outcome
run outcome [] = outcome
run outcome (input ∷ inputs) = run (behind outcome.0 (after outcome.1 input)) inputs

-- the end: done with this block and height, or a stop
pub data End : Type 0 where
  Still : End
  At : (last : List ℕ) (height : ℕ) → End
  Stopped : (why : BootStop) → End

abbrev pub end_of : Result Next BootStop → End
end_of (Ok (Going boot drawn)) = Still
end_of (Ok (Done last height state)) = At last height
end_of (Err why) = Stopped why

-- the lines, and the end
abbrev pub told : Outcome → List Line × End
told outcome = (outcome.0, end_of outcome.1)

-- the block that is accepted at first
abbrev pub genesis : List ℕ
genesis = id_of 255

-- one node with one unit of weight
abbrev pub alone : List Node
alone = record { id = node_of 1; weight = 1 } ∷ []

-- exactly half of the weight makes no target, and a block that was stored before is on the path
pub more_than_half_elects :
    told (run (started genesis 0 (record { id = node_of 1; weight = 2 } ∷ record { id = node_of 2; weight = 1 } ∷ record { id = node_of 3; weight = 1 } ∷ []) 0)
    (Stored (block 1 255 1) ∷ Frontier 1 1 3 ∷ Timeout 2 1 ∷ Timeout 3 1 ∷ Accepted 1 2 (id_of 3 ∷ []) ∷ Accepted 2 2 [] ∷ Accepted 3 2 [] ∷ Frontier 1 3 3 ∷ Frontier 2 3 3
    ∷ Frontier 3 3 2 ∷ Accepted 1 4 (id_of 3 ∷ []) ∷ Accepted 2 4 (id_of 3 ∷ []) ∷ Accepted 3 4 [] ∷ Ancestors 3 5 (block 3 2 3 ∷ [])
    ∷ Ancestors 1 6 (block 2 1 2 ∷ block 1 255 1 ∷ []) ∷ []))
    ≡ (
      line.Frontier 1 ∷ line.Accepted 2 (id_of 3 ∷ []) ∷ line.Restart restart.Accepted ∷ line.Frontier 3 ∷ line.Accepted 4 (id_of 3 ∷ id_of 2 ∷ [])
          ∷ line.Ancestors 5 (node_of 3) (id_of 3) ∷ line.Ancestors 6 (node_of 1) (id_of 2) ∷ line.Accept (id_of 1) ∷ line.Accept (id_of 2) ∷ line.Accept (id_of 3)
          ∷ line.Bootstrapped (id_of 3) 3 ∷ [],
      At (id_of 3) 3,
    )
unfolding Plain.header_of held highest stray taken path missed highest_target executed asked replied started followed frontier_came accepted_came ancestors_came timeout_came stored_came
more_than_half_elects = refl

-- two targets at one height
pub two_blocks_at_a_height_conflict :
    told (run (started genesis 0 (record { id = node_of 1; weight = 1 } ∷ record { id = node_of 2; weight = 1 } ∷ []) 0)
    (Frontier 1 1 2 ∷ Frontier 2 1 3 ∷ Accepted 1 2 (id_of 2 ∷ id_of 3 ∷ []) ∷ Accepted 2 2 (id_of 2 ∷ id_of 3 ∷ []) ∷ Ancestors 2 3 (block 2 1 2 ∷ [])
    ∷ Ancestors 1 4 (block 3 1 2 ∷ []) ∷ []))
    ≡ (
      line.Frontier 1 ∷ line.Accepted 2 (id_of 2 ∷ id_of 3 ∷ []) ∷ line.Ancestors 3 (node_of 2) (id_of 2) ∷ line.Ancestors 4 (node_of 1) (id_of 3)
          ∷ line.Ancestors 5 (node_of 2) (id_of 1) ∷ [],
      Stopped (stop.Conflict 2 (id_of 2) (id_of 3)),
    )
unfolding Plain.header_of held highest stray taken path missed highest_target executed asked replied started followed frontier_came accepted_came ancestors_came timeout_came stored_came
two_blocks_at_a_height_conflict = refl

-- no answer, and then a target that is the last accepted block: nothing is fetched
pub nothing_to_fetch :
    told (run (started genesis 0 alone 0) (Timeout 1 1 ∷ Frontier 1 2 255 ∷ Accepted 1 3 (genesis ∷ []) ∷ []))
    ≡ (line.Frontier 1 ∷ line.Restart restart.Frontier ∷ line.Frontier 2 ∷ line.Accepted 3 (genesis ∷ []) ∷ line.Bootstrapped genesis 0 ∷ [], At genesis 0)
unfolding Plain.header_of held highest stray taken path missed highest_target executed asked replied started followed frontier_came accepted_came ancestors_came timeout_came stored_came
nothing_to_fetch = refl

-- a block of the path isn't valid
pub an_invalid_block_is_refused :
    told (run (started genesis 0 alone 0) (Frontier 1 1 2 ∷ Accepted 1 2 (id_of 2 ∷ []) ∷ Ancestors 1 3 (flagged 2 1 2 0 ∷ block 1 255 1 ∷ []) ∷ []))
    ≡ (line.Frontier 1 ∷ line.Accepted 2 (id_of 2 ∷ []) ∷ line.Ancestors 3 (node_of 1) (id_of 2) ∷ line.Accept (id_of 1) ∷ [], Stopped (stop.Refused (id_of 2)))
unfolding Plain.header_of held highest stray taken path missed highest_target executed asked replied started followed frontier_came accepted_came ancestors_came timeout_came stored_came
an_invalid_block_is_refused = refl

-- a target that was found too low and is kept higher too
pub found_but_kept_higher :
    told (run (started genesis 5 alone 0)
    (Frontier 1 1 3 ∷ Accepted 1 2 (id_of 3 ∷ []) ∷ Ancestors 1 3 (block 3 2 7 ∷ []) ∷ Stored (block 3 1 3) ∷ Ancestors 1 4 (block 2 255 6 ∷ []) ∷ []))
    ≡ (
      line.Frontier 1 ∷ line.Accepted 2 (id_of 3 ∷ []) ∷ line.Ancestors 3 (node_of 1) (id_of 3) ∷ line.Ancestors 4 (node_of 1) (id_of 2) ∷ line.Accept (id_of 2)
          ∷ line.Accept (id_of 3) ∷ line.Bootstrapped (id_of 3) 7 ∷ [],
      At (id_of 3) 7,
    )
unfolding Plain.header_of held highest stray taken path missed highest_target executed asked replied started followed frontier_came accepted_came ancestors_came timeout_came stored_came
found_but_kept_higher = refl

-- a reply that begins with another block keeps nothing, and an ancestor at a wrong height refuses its child
pub an_ancestor_at_a_wrong_height :
    told (run (started genesis 0 alone 0)
    (Frontier 1 1 3 ∷ Accepted 1 2 (id_of 3 ∷ []) ∷ Ancestors 1 3 (block 2 1 2 ∷ []) ∷ Ancestors 1 4 (block 3 2 3 ∷ block 1 255 1 ∷ block 2 1 2 ∷ [])
    ∷ Ancestors 1 5 (block 2 1 3 ∷ []) ∷ []))
    ≡ (
      line.Frontier 1 ∷ line.Accepted 2 (id_of 3 ∷ []) ∷ line.Ancestors 3 (node_of 1) (id_of 3) ∷ line.Ancestors 4 (node_of 1) (id_of 3)
          ∷ line.Ancestors 5 (node_of 1) (id_of 2) ∷ [],
      Stopped (stop.Refused (id_of 3)),
    )
unfolding Plain.header_of held highest stray taken path missed highest_target executed asked replied started followed frontier_came accepted_came ancestors_came timeout_came stored_came
an_ancestor_at_a_wrong_height = refl

-- what was stored stops a node that still asks for the frontier
abbrev pub stored : List Input → List Line × End
stored inputs = told (run (started genesis 0 alone 0) inputs)

-- a block right above the last accepted one with another parent
pub another_parent_is_a_fork : stored (Stored (block 3 2 1) ∷ []) ≡ (line.Frontier 1 ∷ [], Stopped (stop.Fork (id_of 3) (id_of 2)))
unfolding Plain.header_of held highest stray taken path missed highest_target executed asked replied started followed frontier_came accepted_came ancestors_came timeout_came stored_came
another_parent_is_a_fork = refl

-- a block whose parent isn't the block below it
pub the_block_below_is_another : stored (Stored (block 1 255 1) ∷ Stored (block 3 2 2) ∷ []) ≡ (line.Frontier 1 ∷ [], Stopped (stop.Conflict 1 (id_of 1) (id_of 2)))
unfolding Plain.header_of held highest stray taken path missed highest_target executed asked replied started followed frontier_came accepted_came ancestors_came timeout_came stored_came
the_block_below_is_another = refl

-- a block that isn't the parent of the block above it
pub the_block_above_has_another_parent : stored (Stored (block 3 2 2) ∷ Stored (block 1 255 1) ∷ []) ≡ (line.Frontier 1 ∷ [], Stopped (stop.Conflict 1 (id_of 2) (id_of 1)))
unfolding Plain.header_of held highest stray taken path missed highest_target executed asked replied started followed frontier_came accepted_came ancestors_came timeout_came stored_came
the_block_above_has_another_parent = refl

-- of two children at wrong heights the lowest is refused
pub the_lowest_child_is_refused :
    stored (Stored (block 5 1 7) ∷ Stored (block 4 1 4) ∷ Stored (block 3 1 9) ∷ Stored (block 1 255 2) ∷ []) ≡ (line.Frontier 1 ∷ [], Stopped (stop.Refused (id_of 4)))
unfolding Plain.header_of held highest stray taken path missed highest_target executed asked replied started followed frontier_came accepted_came ancestors_came timeout_came stored_came
the_lowest_child_is_refused = refl

-- a block that names itself as parent is refused where it comes a second time
pub a_block_that_names_itself : stored (Stored (block 2 2 5) ∷ Stored (block 2 2 5) ∷ []) ≡ (line.Frontier 1 ∷ [], Stopped (stop.Refused (id_of 2)))
unfolding Plain.header_of held highest stray taken path missed highest_target executed asked replied started followed frontier_came accepted_came ancestors_came timeout_came stored_came
a_block_that_names_itself = refl

-- bytes that are no block, a block that is too low, and one that is kept already
pub passed_over :
    stored (Stored [] ∷ Stored (block 4 255 0) ∷ Stored (block 1 255 1) ∷ Stored (block 1 255 1) ∷ []) ≡ (line.Frontier 1 ∷ line.Skip 1 skip.Block ∷ [], Still)
unfolding Plain.header_of held highest stray taken path missed highest_target executed asked replied started followed frontier_came accepted_came ancestors_came timeout_came stored_came
passed_over = refl

-- one identifier at two heights: the block on its own namesake is refused where it is executed, and the other was accepted
pub a_namesake_is_refused :
    told (run (started genesis 0 alone 0) (Frontier 1 1 2 ∷ Accepted 1 2 (id_of 2 ∷ []) ∷ Ancestors 1 3 (block 2 2 2 ∷ block 2 255 1 ∷ []) ∷ []))
    ≡ (line.Frontier 1 ∷ line.Accepted 2 (id_of 2 ∷ []) ∷ line.Ancestors 3 (node_of 1) (id_of 2) ∷ line.Accept (id_of 2) ∷ [], Stopped (stop.Refused (id_of 2)))
unfolding Plain.header_of held highest stray taken path missed highest_target executed asked replied started followed frontier_came accepted_came ancestors_came timeout_came stored_came
a_namesake_is_refused = refl

-- a target that is found below the last accepted block: it misses nothing, and the last accepted block stays
pub found_too_low :
    told (run (started genesis 5 alone 0) (Frontier 1 1 3 ∷ Accepted 1 2 (id_of 3 ∷ []) ∷ Ancestors 1 3 (block 3 2 5 ∷ block 2 1 4 ∷ []) ∷ []))
    ≡ (line.Frontier 1 ∷ line.Accepted 2 (id_of 3 ∷ []) ∷ line.Ancestors 3 (node_of 1) (id_of 3) ∷ line.Bootstrapped genesis 5 ∷ [], At genesis 5)
unfolding Plain.header_of held highest stray taken path missed highest_target executed asked replied started followed frontier_came accepted_came ancestors_came timeout_came stored_came
found_too_low = refl

-- two nodes with one unit of weight each
abbrev pub two : List Node
two = record { id = node_of 1; weight = 1 } ∷ record { id = node_of 2; weight = 1 } ∷ []

-- a wrong number, a node that isn't asked and a second answer count for nothing, and an identifier that an answer names twice is backed once
pub answers_count_once :
    told (run (started genesis 0 two 0)
    (Frontier 1 7 9 ∷ Frontier 3 1 9 ∷ Frontier 1 1 2 ∷ Frontier 1 1 9 ∷ Accepted 2 1 (id_of 9 ∷ []) ∷ Frontier 2 1 2 ∷ Accepted 1 2 (id_of 2 ∷ id_of 2 ∷ [])
    ∷ Accepted 1 2 (id_of 2 ∷ []) ∷ Timeout 2 2 ∷ []))
    ≡ (line.Frontier 1 ∷ line.Accepted 2 (id_of 2 ∷ []) ∷ line.Restart restart.Accepted ∷ line.Frontier 3 ∷ [], Still)
unfolding Plain.header_of held highest stray taken path missed highest_target executed asked replied started followed frontier_came accepted_came ancestors_came timeout_came stored_came
answers_count_once = refl

-- a request that isn't answered is made anew, to the next node, and a reply that nobody asked for is passed over
pub asked_anew :
    told (run (started genesis 0 two 0)
    (Frontier 1 1 2 ∷ Frontier 2 1 2 ∷ Accepted 1 2 (id_of 2 ∷ []) ∷ Accepted 2 2 (id_of 2 ∷ []) ∷ Ancestors 1 3 (block 2 255 1 ∷ []) ∷ Timeout 2 3 ∷ []))
    ≡ (line.Frontier 1 ∷ line.Accepted 2 (id_of 2 ∷ []) ∷ line.Ancestors 3 (node_of 2) (id_of 2) ∷ line.Ancestors 4 (node_of 1) (id_of 2) ∷ [], Still)
unfolding Plain.header_of held highest stray taken path missed highest_target executed asked replied started followed frontier_came accepted_came ancestors_came timeout_came stored_came
asked_anew = refl

-- the last number is drawn
pub no_number_is_left :
    told (run (started genesis 0 alone 4294967293) (Frontier 1 4294967294 2 ∷ Accepted 1 4294967295 (id_of 2 ∷ []) ∷ []))
    ≡ (line.Frontier 4294967294 ∷ line.Accepted 4294967295 (id_of 2 ∷ []) ∷ [], Stopped stop.Requests)
unfolding Plain.header_of held highest stray taken path missed highest_target executed asked replied started followed frontier_came accepted_came ancestors_came timeout_came stored_came
no_number_is_left = refl

-- at a height of 2^64 - 1 nothing is above the last accepted block
pub nothing_is_above_the_greatest_height :
    told (run (started genesis 18446744073709551615 alone 0) (Stored (id_of 1 ++ genesis ++ replicate 8 255 ++ 1 ∷ []) ∷ Frontier 1 1 255 ∷ Accepted 1 2 (genesis ∷ []) ∷ []))
    ≡ (line.Frontier 1 ∷ line.Accepted 2 (genesis ∷ []) ∷ line.Bootstrapped genesis 18446744073709551615 ∷ [], At genesis 18446744073709551615)
unfolding Plain.header_of held highest stray taken path missed highest_target executed asked replied started followed frontier_came accepted_came ancestors_came timeout_came stored_came
nothing_is_above_the_greatest_height = refl
