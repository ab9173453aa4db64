-- Worked examples: what runs write and how they end, computed on the definitions.
use Rattle.std.proofs.Common.{◌≡◌, ℕ, List, [], ◌∷◌, ◌++◌, replicate, Option, Some, refl, ap}
use Rattle.std.specs.FinMap.{empty}
use Rattle.std.specs.Option.{option_and_then}
use Rattle.snow_base.specs.Model.Identifier.{bits}
use Rattle.snow_base.specs.Model.Votes.{added}
use Rattle.snow_flake.specs.Model.Rule.{by_preference}
use Rattle.snow_flake.specs.declared.params.ParamFault.TheVariants as params
use Rattle.snow_board.specs.Model.Conflict.{with_child, all_polled, chosen, decided_path}
use Rattle.snow_board.specs.Model.Board.{begin}
use Rattle.snow_board.specs.Model.Poll.{counted, winner, decisions_for, promoted, settled, poll}
use Rattle.snow_board.specs.Model.Preference.{path_from}
use Rattle.snow_chain.specs.Model.Chain.{Held, begun, next_on}
use Rattle.snow_chain.specs.Model.Plain.{header_of, plain_rules}
use Rattle.snow_wire.specs.declared.event.Event.TheVariants as event
use Rattle.snow_wire.specs.Model.Reading.{bytes_at, number_at, limited_at, flag_at, items_at, counted_at, start_at, fields_at, event_of}
use Rattle.snow_wire.specs.Model.Frame.{first_of, frames_in, frames_of}
use Rattle.snow_lines.specs.declared.line.Line.{Line}
use Rattle.snow_lines.specs.declared.line.Line.TheVariants as line
use Rattle.snow_lines.specs.declared.why.SkipKind.TheVariants as skip
use Rattle.snow_engine.specs.declared.engine.Task.TheVariants as task
use Rattle.snow_engine.specs.declared.end.BadKind.TheVariants as kind
use Rattle.snow_engine.specs.declared.end.End.{End}
use Rattle.snow_engine.specs.declared.end.End.TheVariants as end
use Rattle.snow_node.specs.Model.Outcome.{Comes, then_comes}
use Rattle.snow_engine.specs.Model.Deciding.{Deciding, decides_on, issued_with}
use Rattle.snow_engine.specs.Model.Node.{started}
use Rattle.snow_engine.specs.Model.Run.{opened, after_frame, after_frames, lines_of, end_of}
use Rattle.snow_node.proofs.Following.{state_with}

-- an identifier by its first byte
abbrev id_of : ℕ → List ℕ
id_of first = first ∷ replicate 31 0

abbrev root : List ℕ
root = id_of 255

-- four bytes of a small number
abbrev four : ℕ → List ℕ
four n = 0 ∷ 0 ∷ 0 ∷ n ∷ []

-- a Start with K and the other parameters 1, and the frame of it
abbrev start_with : ℕ → List ℕ
start_with k = 1 ∷ four k ++ four 1 ++ four 1 ++ four 1 ++ four 1 ++ 0 ∷ root ++ replicate 12 0

abbrev start_frame : List ℕ
start_frame = four 66 ++ start_with 1

-- block 1 on the root
abbrev plain_block : List ℕ
plain_block = id_of 1 ++ root ++ replicate 7 0 ++ 1 ∷ 1 ∷ []

-- the end and the lines of `decide` over the plain chain, by Snowball
abbrev end_on : List ℕ → End
end_on bytes = end_of plain_rules by_preference task.Decide bytes

abbrev lines_on : List ℕ → List Line
lines_on bytes = lines_of plain_rules by_preference task.Decide bytes

-- ---- how runs end

pub nothing_comes : end_on [] ≡ end.BadInput 1 kind.NoStart
unfolding frames_of frames_in first_of after_frames
nothing_comes = refl

pub three_bytes_come : end_on (0 ∷ 0 ∷ 0 ∷ []) ≡ end.BadInput 1 kind.Cut
unfolding frames_of frames_in first_of after_frames
three_bytes_come = refl

pub the_frame_is_too_long : end_on (0 ∷ 32 ∷ 0 ∷ 1 ∷ []) ≡ end.BadInput 1 kind.Length
unfolding frames_of frames_in first_of after_frames
the_frame_is_too_long = refl

pub no_start_comes_first : end_on (0 ∷ 0 ∷ 0 ∷ 1 ∷ 255 ∷ []) ≡ end.BadInput 1 kind.NotStart
unfolding frames_of frames_in first_of after_frames after_frame event_of fields_at number_at opened
no_start_comes_first = refl

pub one_start_is_all : end_on start_frame ≡ end.Done
unfolding frames_of frames_in first_of after_frames after_frame event_of fields_at start_at number_at limited_at flag_at bytes_at counted_at items_at opened started
one_start_is_all = refl

pub a_start_comes_twice : end_on (start_frame ++ start_frame) ≡ end.BadInput 2 kind.SecondStart
unfolding frames_of frames_in first_of after_frames after_frame event_of fields_at start_at number_at limited_at flag_at bytes_at counted_at items_at opened started decides_on
a_start_comes_twice = refl

pub the_parameters_are_bad : end_on (four 66 ++ start_with 2) ≡ end.BadInput 1 (kind.Params params.AlphaLow)
unfolding frames_of frames_in first_of after_frames after_frame event_of fields_at start_at number_at limited_at flag_at bytes_at counted_at items_at opened started
the_parameters_are_bad = refl

pub the_end_is_inside : end_on (start_frame ++ four 1) ≡ end.BadInput 2 kind.Cut
unfolding frames_of frames_in first_of after_frames after_frame event_of fields_at start_at number_at limited_at flag_at bytes_at counted_at items_at opened started
the_end_is_inside = refl

-- ---- what runs write

pub an_empty_payload_is_passed_over : lines_on (start_frame ++ four 0) ≡ line.Skip 2 skip.Short ∷ []
unfolding frames_of frames_in first_of after_frames after_frame event_of fields_at start_at number_at limited_at flag_at bytes_at counted_at items_at opened started
an_empty_payload_is_passed_over = refl

-- the node behind the Start
abbrev node : Deciding
node = record {
  board = begin (record { k = 1; alpha_preference = 1; alpha_confidence = 1; beta = 1; repolls = 1 }) root 0;
  chain = begun root [];
}

-- the block has the empty state
has_state : next_on plain_rules node.chain root plain_block ≡ Some []
unfolding header_of
has_state =
    let none : Held = record { last = root; states = empty } in
    ap (λ (o : Option (List ℕ)). option_and_then (λ state. plain_rules.next state plain_block) o) (state_with none root [] root)

-- what the block makes of the node, by its state
abbrev with_block : Option (List ℕ) → Comes Deciding
with_block o = issued_with by_preference node (record { id = id_of 1; parent = root; height = 1 }) o

-- the block is preferred
pub a_block_is_preferred : (decides_on plain_rules by_preference node 2 (event.Block (replicate 20 0) 0 plain_block)).0 ≡ line.Prefer (id_of 1) ∷ []
unfolding decides_on header_of bits with_child chosen path_from
a_block_is_preferred = ap (λ (o : Option (List ℕ)). (with_block o).0) has_state

-- and accepted by a poll for it
pub a_poll_accepts_it : (then_comes (with_block (Some [])) (λ n. decides_on plain_rules by_preference n 3 (event.Poll (id_of 1 ∷ [])))).0
    ≡ line.Prefer (id_of 1) ∷ line.Accept (id_of 1) ∷ []
unfolding decides_on added bits with_child all_polled chosen decided_path counted winner decisions_for promoted settled poll path_from
a_poll_accepts_it = refl

-- a poll of more votes than K is passed over
pub two_votes_are_too_many : (decides_on plain_rules by_preference node 3 (event.Poll (id_of 1 ∷ id_of 1 ∷ []))).0 ≡ line.Skip 3 skip.Votes ∷ []
unfolding decides_on
two_votes_are_too_many = refl
