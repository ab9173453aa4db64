-- Worked examples: the definitions compute.
use Rattle.std.proofs.Common.{◌≡◌, ℕ, List, [], ◌∷◌, ◌++◌, replicate, codes, Ok, Err, refl}
use Rattle.hex.specs.Hex.{decode_pairs, encode_with}
use Rattle.std.specs.Fmt.{digits}
use Rattle.snow_wire.specs.Model.Spelling.{number}
use Rattle.snow_wire.specs.Model.Frame.{frames_of, frames_in, first_of}
use Rattle.snow_wire.specs.Model.Reading.{event_of, fields_at, start_at, sender_at, single_at, message_at, number_at, limited_at, flag_at, bytes_at, sized_at, counted_at, items_at, weighed_at}
use Rattle.snow_text_model.specs.declared.refusal.Reason.TheVariants as reason
use Rattle.snow_text_model.specs.declared.block_form.BlockForm.TheVariants as form
use Rattle.snow_text_model.specs.Model.Words.{words_of, said, spaced, column_of, each, all_of, one, all, ◌&◌, ended}
use Rattle.snow_text_model.specs.Model.Names.{called}
use Rattle.snow_text_model.specs.Model.Bytes.{number_below, number_word, digits_word, piece_of, bytes_word, fixed_word, part_word, item_word, bytes_of, runs_of, pieces_of, short, bytes_text, trimmed, fixed_text}
use Rattle.snow_text_model.specs.Model.Lines.{kinds_of, long_as, long_words, line_of, short_as, short_words, line_words}
use Rattle.snow_text_model.specs.Model.Events.{listed, times_of, weighed_word, value_word, if_some, nodes_field, transfer_word, block_of, blocks_of, tagged, start_field, payload_of}
use Rattle.snow_text_model.specs.Model.Made.{Frame, say_words, naming, none_say, made_from, made}
use Rattle.snow_text_model.specs.Model.Shown.{event_words, say, shown_frame, shown_rest, shown, short_lines, tidied}

-- an identifier by its first byte
abbrev id_of : ℕ → List ℕ
id_of first = first ∷ replicate 31 0

pub no_zeros : fixed_text (id_of 0xff) ≡ codes "ff.."
unfolding fixed_text trimmed short runs_of pieces_of encode_with digits
no_zeros = refl

pub all_zeros : fixed_text (replicate 32 0) ≡ codes "00.."
unfolding fixed_text trimmed short runs_of pieces_of encode_with digits
all_zeros = refl

pub again_and_again : fixed_text (replicate 20 1) ≡ codes "01*20"
unfolding fixed_text trimmed short runs_of pieces_of encode_with digits
again_and_again = refl

pub joined : bytes_text (replicate 30 0 ++ 0 ∷ 1 ∷ 2 ∷ 2 ∷ []) ≡ codes "00*31+010202"
unfolding bytes_text short runs_of pieces_of encode_with digits
joined = refl

pub read_open : fixed_word 32 (codes "ff..") ≡ Ok (id_of 0xff)
unfolding item_word part_word fixed_word bytes_word each piece_of digits_word decode_pairs
read_open = refl

pub a_poll : say_words [] (words_of (codes "poll 80..  # two")) ≡ Ok (Frame (3 ∷ 0 ∷ 1 ∷ id_of 0x80))
unfolding say_words words_of said spaced payload_of tagged ended all all_of item_word part_word fixed_word bytes_word each piece_of digits_word decode_pairs listed number
a_poll = refl

-- ---- the streams of examples/

-- examples/one-block.stream
pub one_block : shown form.Bytes ((0 ∷ 0 ∷ 0 ∷ 66 ∷ 1 ∷ 0 ∷ 0 ∷ 0 ∷ 1 ∷ 0 ∷ 0 ∷ 0 ∷ 1 ∷ 0 ∷ 0 ∷ 0 ∷ 1 ∷ 0 ∷ 0 ∷ 0 ∷ 1 ∷ 0 ∷ 0 ∷ 0 ∷ 1 ∷ 0 ∷ 255 ∷ []) ++ (replicate 46 0) ++ (102 ∷ 2 ∷ []) ++ (replicate 27 0) ++ (73 ∷ 1 ∷ []) ++ (replicate 31 0) ++ (255 ∷ []) ++ (replicate 38 0) ++ (1 ∷ 1 ∷ 0 ∷ 0 ∷ 0 ∷ 35 ∷ 3 ∷ 0 ∷ 1 ∷ 1 ∷ []) ++ (replicate 31 0)) ≡
    (codes "start k=1 alpha-preference=1 alpha-confidence=1 beta=1 repolls=1 boot=0 last=ff.. height=0" ++ 10 ∷ [])
    ++ (codes "block 00.. 0 01+00*31+ff+00*38+0101" ++ 10 ∷ [])
    ++ (codes "poll 01.." ++ 10 ∷ [])
unfolding shown shown_frame shown_rest event_words say say_words words_of said spaced payload_of tagged ended all all_of one ◌&◌ number_below number_word item_word part_word fixed_word bytes_word bytes_of each piece_of digits_word decode_pairs listed times_of weighed_word value_word if_some nodes_field transfer_word block_of blocks_of start_field encode_with digits number runs_of pieces_of short bytes_text trimmed fixed_text frames_of frames_in first_of event_of fields_at start_at sender_at single_at message_at number_at limited_at flag_at bytes_at sized_at counted_at items_at weighed_at
one_block = refl

-- examples/one-node.stream
pub one_node : shown form.Bytes ((0 ∷ 0 ∷ 0 ∷ 94 ∷ 1 ∷ 0 ∷ 0 ∷ 0 ∷ 1 ∷ 0 ∷ 0 ∷ 0 ∷ 1 ∷ 0 ∷ 0 ∷ 0 ∷ 1 ∷ 0 ∷ 0 ∷ 0 ∷ 1 ∷ 0 ∷ 0 ∷ 0 ∷ 1 ∷ 0 ∷ 255 ∷ []) ++ (replicate 42 0) ++ (replicate 21 1) ++ (replicate 7 0) ++ (1 ∷ 0 ∷ 0 ∷ 0 ∷ 35 ∷ 4 ∷ 0 ∷ 4 ∷ []) ++ (replicate 35 0) ++ (102 ∷ 2 ∷ []) ++ (replicate 20 1) ++ (replicate 7 0) ++ (73 ∷ 2 ∷ []) ++ (replicate 31 0) ++ (1 ∷ []) ++ (replicate 38 0) ++ (2 ∷ 1 ∷ 0 ∷ 0 ∷ 0 ∷ 102 ∷ 2 ∷ []) ++ (replicate 20 1) ++ (0 ∷ 0 ∷ 0 ∷ 1 ∷ 0 ∷ 0 ∷ 0 ∷ 73 ∷ 1 ∷ []) ++ (replicate 31 0) ++ (255 ∷ []) ++ (replicate 38 0) ++ (1 ∷ 1 ∷ 0 ∷ 0 ∷ 0 ∷ 57 ∷ 5 ∷ []) ++ (replicate 20 1) ++ (0 ∷ 0 ∷ 0 ∷ 2 ∷ 4 ∷ []) ++ (replicate 34 0) ++ (25 ∷ 6 ∷ []) ++ (replicate 20 1) ++ (0 ∷ 0 ∷ 0 ∷ 4 ∷ 0 ∷ 0 ∷ 0 ∷ 57 ∷ 5 ∷ []) ++ (replicate 20 1) ++ (0 ∷ 0 ∷ 0 ∷ 3 ∷ 2 ∷ []) ++ (replicate 31 0)) ≡
    (codes "start k=1 alpha-preference=1 alpha-confidence=1 beta=1 repolls=1 boot=0 last=ff.. height=0 nodes=01*20:1" ++ 10 ∷ [])
    ++ (codes "words 0*4" ++ 10 ∷ [])
    ++ (codes "block 01*20 0 02+00*31+01+00*38+0201" ++ 10 ∷ [])
    ++ (codes "block 01*20 1 01+00*31+ff+00*38+0101" ++ 10 ∷ [])
    ++ (codes "chits 01*20 2 04.." ++ 10 ∷ [])
    ++ (codes "timeout 01*20 4" ++ 10 ∷ [])
    ++ (codes "chits 01*20 3 02.." ++ 10 ∷ [])
unfolding shown shown_frame shown_rest event_words say say_words words_of said spaced payload_of tagged ended all all_of one ◌&◌ number_below number_word item_word part_word fixed_word bytes_word bytes_of each piece_of digits_word decode_pairs listed times_of weighed_word value_word if_some nodes_field transfer_word block_of blocks_of start_field encode_with digits number runs_of pieces_of short bytes_text trimmed fixed_text frames_of frames_in first_of event_of fields_at start_at sender_at single_at message_at number_at limited_at flag_at bytes_at sized_at counted_at items_at weighed_at
one_node = refl

-- examples/catching-up.stream
pub catching_up : shown form.Bytes ((0 ∷ 0 ∷ 0 ∷ 150 ∷ 1 ∷ 0 ∷ 0 ∷ 0 ∷ 1 ∷ 0 ∷ 0 ∷ 0 ∷ 1 ∷ 0 ∷ 0 ∷ 0 ∷ 1 ∷ 0 ∷ 0 ∷ 0 ∷ 1 ∷ 0 ∷ 0 ∷ 0 ∷ 1 ∷ 1 ∷ 255 ∷ []) ++ (replicate 42 0) ++ (3 ∷ []) ++ (replicate 20 1) ++ (replicate 7 0) ++ (1 ∷ []) ++ (replicate 20 2) ++ (replicate 7 0) ++ (1 ∷ []) ++ (replicate 20 3) ++ (replicate 7 0) ++ (1 ∷ 0 ∷ 0 ∷ 0 ∷ 11 ∷ 4 ∷ 0 ∷ 1 ∷ []) ++ (replicate 11 0) ++ (57 ∷ 7 ∷ []) ++ (replicate 20 1) ++ (0 ∷ 0 ∷ 0 ∷ 1 ∷ 3 ∷ []) ++ (replicate 34 0) ++ (57 ∷ 7 ∷ []) ++ (replicate 20 2) ++ (0 ∷ 0 ∷ 0 ∷ 1 ∷ 3 ∷ []) ++ (replicate 34 0) ++ (25 ∷ 6 ∷ []) ++ (replicate 20 3) ++ (0 ∷ 0 ∷ 0 ∷ 1 ∷ 0 ∷ 0 ∷ 0 ∷ 59 ∷ 8 ∷ []) ++ (replicate 20 1) ++ (0 ∷ 0 ∷ 0 ∷ 2 ∷ 0 ∷ 1 ∷ 3 ∷ []) ++ (replicate 34 0) ++ (59 ∷ 8 ∷ []) ++ (replicate 20 2) ++ (0 ∷ 0 ∷ 0 ∷ 2 ∷ 0 ∷ 1 ∷ 3 ∷ []) ++ (replicate 34 0) ++ (27 ∷ 8 ∷ []) ++ (replicate 20 3) ++ (0 ∷ 0 ∷ 0 ∷ 2 ∷ []) ++ (replicate 4 0) ++ (1 ∷ 2 ∷ 9 ∷ []) ++ (replicate 20 1) ++ (0 ∷ 0 ∷ 0 ∷ 3 ∷ 0 ∷ 3 ∷ 0 ∷ 0 ∷ 0 ∷ 73 ∷ 3 ∷ []) ++ (replicate 31 0) ++ (2 ∷ []) ++ (replicate 38 0) ++ (3 ∷ 1 ∷ 0 ∷ 0 ∷ 0 ∷ 73 ∷ 2 ∷ []) ++ (replicate 31 0) ++ (1 ∷ []) ++ (replicate 38 0) ++ (2 ∷ 1 ∷ 0 ∷ 0 ∷ 0 ∷ 73 ∷ 1 ∷ []) ++ (replicate 31 0) ++ (255 ∷ []) ++ (replicate 38 0) ++ (1 ∷ 1 ∷ 0 ∷ 0 ∷ 0 ∷ 102 ∷ 2 ∷ []) ++ (replicate 27 0) ++ (73 ∷ 4 ∷ []) ++ (replicate 31 0) ++ (3 ∷ []) ++ (replicate 38 0) ++ (4 ∷ 1 ∷ 0 ∷ 0 ∷ 0 ∷ 57 ∷ 5 ∷ []) ++ (replicate 20 1) ++ (0 ∷ 0 ∷ 0 ∷ 4 ∷ 4 ∷ []) ++ (replicate 31 0)) ≡
    (codes "start k=1 alpha-preference=1 alpha-confidence=1 beta=1 repolls=1 boot=1 last=ff.. height=0 nodes=01*20:1,02*20:1,03*20:1" ++ 10 ∷ [])
    ++ (codes "words 0" ++ 10 ∷ [])
    ++ (codes "frontier 01*20 1 03.." ++ 10 ∷ [])
    ++ (codes "frontier 02*20 1 03.." ++ 10 ∷ [])
    ++ (codes "timeout 03*20 1" ++ 10 ∷ [])
    ++ (codes "accepted 01*20 2 03.." ++ 10 ∷ [])
    ++ (codes "accepted 02*20 2 03.." ++ 10 ∷ [])
    ++ (codes "accepted 03*20 2" ++ 10 ∷ [])
    ++ (codes "ancestors 01*20 3 03+00*31+02+00*38+0301,02+00*31+01+00*38+0201,01+00*31+ff+00*38+0101" ++ 10 ∷ [])
    ++ (codes "block 00.. 0 04+00*31+03+00*38+0401" ++ 10 ∷ [])
    ++ (codes "chits 01*20 4 04.." ++ 10 ∷ [])
unfolding shown shown_frame shown_rest event_words say say_words words_of said spaced payload_of tagged ended all all_of one ◌&◌ number_below number_word item_word part_word fixed_word bytes_word bytes_of each piece_of digits_word decode_pairs listed times_of weighed_word value_word if_some nodes_field transfer_word block_of blocks_of start_field encode_with digits number runs_of pieces_of short bytes_text trimmed fixed_text frames_of frames_in first_of event_of fields_at start_at sender_at single_at message_at number_at limited_at flag_at bytes_at sized_at counted_at items_at weighed_at
catching_up = refl

-- ---- refusals

-- the second word's digits are odd
pub odd_digits : made (codes "poll 80..  # two" ++ 10 ∷ codes " poll  8" ++ 10 ∷ []) ≡ Err (record { line = 2; column = 8; reason = reason.Digits })
unfolding made made_from say_words words_of said spaced column_of payload_of tagged ended all all_of item_word part_word fixed_word bytes_word each piece_of digits_word decode_pairs listed number
odd_digits = refl

-- a word is wanting behind the last
pub word_wanting : made (codes "timeout 01*20 # soon") ≡ Err (record { line = 1; column = 16; reason = reason.Missing })
unfolding made made_from say_words words_of said spaced column_of payload_of tagged ended ◌&◌ one item_word part_word fixed_word bytes_word each piece_of digits_word decode_pairs number_below
word_wanting = refl

-- a word too many
pub word_extra : made (codes "timeout 01*20 7 8") ≡ Err (record { line = 1; column = 17; reason = reason.Extra })
unfolding made made_from say_words words_of said spaced column_of payload_of tagged ended ◌&◌ one number_word item_word part_word fixed_word bytes_word each piece_of digits_word decode_pairs number_below number
word_extra = refl

-- a frame behind the rest
pub rest_last : made (codes "rest 00" ++ 10 ∷ 10 ∷ codes "poll") ≡ Err (record { line = 3; column = 1; reason = reason.Behind })
unfolding made made_from none_say say_words words_of said spaced column_of bytes_of all_of part_word bytes_word each piece_of digits_word decode_pairs
rest_last = refl

-- no line begins so
pub no_such_name : made (codes "vote 80..") ≡ Err (record { line = 1; column = 1; reason = reason.Name })
unfolding made made_from say_words words_of said spaced column_of payload_of
no_such_name = refl

-- ---- blocks in the words of their chain

-- examples/one-node.stream
pub one_node_plain : shown form.Plain ((0 ∷ 0 ∷ 0 ∷ 94 ∷ 1 ∷ 0 ∷ 0 ∷ 0 ∷ 1 ∷ 0 ∷ 0 ∷ 0 ∷ 1 ∷ 0 ∷ 0 ∷ 0 ∷ 1 ∷ 0 ∷ 0 ∷ 0 ∷ 1 ∷ 0 ∷ 0 ∷ 0 ∷ 1 ∷ 0 ∷ 255 ∷ []) ++ (replicate 42 0) ++ (replicate 21 1) ++ (replicate 7 0) ++ (1 ∷ 0 ∷ 0 ∷ 0 ∷ 35 ∷ 4 ∷ 0 ∷ 4 ∷ []) ++ (replicate 35 0) ++ (102 ∷ 2 ∷ []) ++ (replicate 20 1) ++ (replicate 7 0) ++ (73 ∷ 2 ∷ []) ++ (replicate 31 0) ++ (1 ∷ []) ++ (replicate 38 0) ++ (2 ∷ 1 ∷ 0 ∷ 0 ∷ 0 ∷ 102 ∷ 2 ∷ []) ++ (replicate 20 1) ++ (0 ∷ 0 ∷ 0 ∷ 1 ∷ 0 ∷ 0 ∷ 0 ∷ 73 ∷ 1 ∷ []) ++ (replicate 31 0) ++ (255 ∷ []) ++ (replicate 38 0) ++ (1 ∷ 1 ∷ 0 ∷ 0 ∷ 0 ∷ 57 ∷ 5 ∷ []) ++ (replicate 20 1) ++ (0 ∷ 0 ∷ 0 ∷ 2 ∷ 4 ∷ []) ++ (replicate 34 0) ++ (25 ∷ 6 ∷ []) ++ (replicate 20 1) ++ (0 ∷ 0 ∷ 0 ∷ 4 ∷ 0 ∷ 0 ∷ 0 ∷ 57 ∷ 5 ∷ []) ++ (replicate 20 1) ++ (0 ∷ 0 ∷ 0 ∷ 3 ∷ 2 ∷ []) ++ (replicate 31 0)) ≡
    (codes "start k=1 alpha-preference=1 alpha-confidence=1 beta=1 repolls=1 boot=0 last=ff.. height=0 nodes=01*20:1" ++ 10 ∷ [])
    ++ (codes "words 0*4" ++ 10 ∷ [])
    ++ (codes "block 01*20 0 plain 02.. 01.. 2 1" ++ 10 ∷ [])
    ++ (codes "block 01*20 1 plain 01.. ff.. 1 1" ++ 10 ∷ [])
    ++ (codes "chits 01*20 2 04.." ++ 10 ∷ [])
    ++ (codes "timeout 01*20 4" ++ 10 ∷ [])
    ++ (codes "chits 01*20 3 02.." ++ 10 ∷ [])
unfolding shown shown_frame shown_rest event_words say say_words words_of said spaced payload_of tagged ended all all_of one ◌&◌ number_below number_word item_word part_word fixed_word bytes_word bytes_of each piece_of digits_word decode_pairs listed times_of weighed_word value_word if_some nodes_field transfer_word block_of blocks_of start_field encode_with digits number runs_of pieces_of short bytes_text trimmed fixed_text frames_of frames_in first_of event_of fields_at start_at sender_at single_at message_at number_at limited_at flag_at bytes_at sized_at counted_at items_at weighed_at
one_node_plain = refl

pub a_ledger : shown_frame form.Ledger ((10 ∷ 0 ∷ 0 ∷ 0 ∷ 82 ∷ []) ++ (replicate 39 0) ++ (1 ∷ 0 ∷ 2 ∷ 0 ∷ 0 ∷ 0 ∷ 1 ∷ []) ++ (replicate 7 0) ++ (7 ∷ []) ++ (replicate 9 0) ++ (1 ∷ []) ++ (replicate 9 0) ++ (2 ∷ []) ++ (replicate 8 255)) ≡ codes "stored ledger 00.. 1 0>1:7@0 1>0:2@18446744073709551615" ++ 10 ∷ []
unfolding shown shown_frame shown_rest event_words say say_words words_of said spaced payload_of tagged ended all all_of one ◌&◌ number_below number_word item_word part_word fixed_word bytes_word bytes_of each piece_of digits_word decode_pairs listed times_of weighed_word value_word if_some nodes_field transfer_word block_of blocks_of start_field encode_with digits number runs_of pieces_of short bytes_text trimmed fixed_text frames_of frames_in first_of event_of fields_at start_at sender_at single_at message_at number_at limited_at flag_at bytes_at sized_at counted_at items_at weighed_at
a_ledger = refl

pub a_tally : shown_frame form.Tally ((10 ∷ 0 ∷ 0 ∷ 0 ∷ 50 ∷ []) ++ (replicate 39 0) ++ (1 ∷ []) ++ (replicate 7 0) ++ (7 ∷ 1 ∷ 2 ∷ [])) ≡ codes "stored tally 00.. 1 7 0102" ++ 10 ∷ []
unfolding shown shown_frame shown_rest event_words say say_words words_of said spaced payload_of tagged ended all all_of one ◌&◌ number_below number_word item_word part_word fixed_word bytes_word bytes_of each piece_of digits_word decode_pairs listed times_of weighed_word value_word if_some nodes_field transfer_word block_of blocks_of start_field encode_with digits number runs_of pieces_of short bytes_text trimmed fixed_text frames_of frames_in first_of event_of fields_at start_at sender_at single_at message_at number_at limited_at flag_at bytes_at sized_at counted_at items_at weighed_at
a_tally = refl

-- ---- names

pub a_name : made (codes "name a-1 plain 01.. ff.. 1 1 0a" ++ 10 ∷ codes "block 00.. 0 $a-1" ++ 10 ∷ codes "poll $a-1 02.." ++ 10 ∷ codes "stored $a-1 bb") ≡ Ok ((0 ∷ 0 ∷ 0 ∷ 103 ∷ 2 ∷ []) ++ (replicate 27 0) ++ (74 ∷ 1 ∷ []) ++ (replicate 31 0) ++ (255 ∷ []) ++ (replicate 38 0) ++ (1 ∷ 1 ∷ 10 ∷ 0 ∷ 0 ∷ 0 ∷ 67 ∷ 3 ∷ 0 ∷ 2 ∷ 1 ∷ []) ++ (replicate 31 0) ++ (2 ∷ []) ++ (replicate 34 0) ++ (80 ∷ 10 ∷ 0 ∷ 0 ∷ 0 ∷ 75 ∷ 1 ∷ []) ++ (replicate 31 0) ++ (255 ∷ []) ++ (replicate 38 0) ++ (1 ∷ 1 ∷ 10 ∷ 187 ∷ []))
unfolding made made_from naming called shown shown_frame shown_rest event_words say say_words words_of said spaced payload_of tagged ended all all_of one ◌&◌ number_below number_word item_word part_word fixed_word bytes_word bytes_of each piece_of digits_word decode_pairs listed times_of weighed_word value_word if_some nodes_field transfer_word block_of blocks_of start_field encode_with digits number runs_of pieces_of short bytes_text trimmed fixed_text frames_of frames_in first_of event_of fields_at start_at sender_at single_at message_at number_at limited_at flag_at bytes_at sized_at counted_at items_at weighed_at
a_name = refl

-- each name is given once
pub name_twice : made (codes "name a plain 01.. ff.. 1 1" ++ 10 ∷ codes "name a plain 02.. ff.. 1 1") ≡ Err (record { line = 2; column = 6; reason = reason.Twice })
unfolding made made_from naming say_words words_of said spaced column_of ended all all_of one ◌&◌ number_below number_word item_word part_word fixed_word bytes_word bytes_of each piece_of digits_word decode_pairs number
name_twice = refl

-- the third block's digits are odd, and the second's
pub third_block : made (codes "ancestors 01*20 3 00, 01 02 ,0") ≡ Err (record { line = 1; column = 29; reason = reason.Digits })
unfolding made made_from say_words words_of said spaced column_of payload_of tagged ended all all_of one ◌&◌ number_below number_word item_word part_word fixed_word bytes_word bytes_of each piece_of digits_word decode_pairs block_of blocks_of listed number
third_block = refl

pub second_block : made (codes "ancestors 01*20 3 00,0 01") ≡ Err (record { line = 1; column = 19; reason = reason.Digits })
unfolding made made_from say_words words_of said spaced column_of payload_of tagged ended all all_of one ◌&◌ number_below number_word item_word part_word fixed_word bytes_word bytes_of each piece_of digits_word decode_pairs block_of blocks_of listed number
second_block = refl

-- ---- lines, frames and rests

-- a line of the program, in short words
pub line_short : shown_frame form.Bytes ((17 ∷ 0 ∷ 0 ∷ 0 ∷ 158 ∷ 113 ∷ 117 ∷ 101 ∷ 114 ∷ 121 ∷ 32 ∷ 49 ∷ 32 ∷ 48 ∷ 49 ∷ []) ++ (replicate 62 48) ++ (32 ∷ 48 ∷ 49 ∷ 48 ∷ 49 ∷ 48 ∷ 49 ∷ 48 ∷ 49 ∷ 48 ∷ 49 ∷ 48 ∷ 49 ∷ 48 ∷ 49 ∷ 48 ∷ 49 ∷ 48 ∷ 49 ∷ 48 ∷ 49 ∷ 48 ∷ 49 ∷ 48 ∷ 49 ∷ 48 ∷ 49 ∷ 48 ∷ 49 ∷ 48 ∷ 49 ∷ 48 ∷ 49 ∷ 48 ∷ 49 ∷ 48 ∷ 49 ∷ 48 ∷ 49 ∷ 48 ∷ 49 ∷ 42 ∷ 50 ∷ 32 ∷ 48 ∷ 50 ∷ 48 ∷ 50 ∷ 48 ∷ 50 ∷ 48 ∷ 50 ∷ 48 ∷ 50 ∷ 48 ∷ 50 ∷ 48 ∷ 50 ∷ 48 ∷ 50 ∷ 48 ∷ 50 ∷ 48 ∷ 50 ∷ 48 ∷ 50 ∷ 48 ∷ 50 ∷ 48 ∷ 50 ∷ 48 ∷ 50 ∷ 48 ∷ 50 ∷ 48 ∷ 50 ∷ 48 ∷ 50 ∷ 48 ∷ 50 ∷ 48 ∷ 50 ∷ 48 ∷ 50 ∷ 42 ∷ 49 ∷ [])) ≡ codes "> query 1 01.. 01*20*2 02*20*1" ++ 10 ∷ []
unfolding shown shown_frame shown_rest event_words say say_words words_of said spaced payload_of tagged ended all all_of one ◌&◌ number_below number_word item_word part_word fixed_word bytes_word bytes_of each piece_of digits_word decode_pairs listed times_of weighed_word value_word if_some nodes_field transfer_word block_of blocks_of start_field kinds_of long_as long_words line_of short_as short_words line_words encode_with digits number runs_of pieces_of short bytes_text trimmed fixed_text frames_of frames_in first_of event_of fields_at start_at sender_at single_at message_at number_at limited_at flag_at bytes_at sized_at counted_at items_at weighed_at
line_short = refl

-- a line that no task writes
pub line_other : shown_frame form.Bytes ((17 ∷ 0 ∷ 0 ∷ 0 ∷ 12 ∷ 104 ∷ 101 ∷ 108 ∷ 108 ∷ 111 ∷ 44 ∷ 32 ∷ 119 ∷ 111 ∷ 114 ∷ 108 ∷ 100 ∷ [])) ≡ codes "> hello, world" ++ 10 ∷ []
unfolding shown shown_frame shown_rest event_words say say_words words_of said spaced payload_of tagged ended all all_of one ◌&◌ number_below number_word item_word part_word fixed_word bytes_word bytes_of each piece_of digits_word decode_pairs listed times_of weighed_word value_word if_some nodes_field transfer_word block_of blocks_of start_field kinds_of long_as long_words line_of short_as short_words line_words encode_with digits number runs_of pieces_of short bytes_text trimmed fixed_text frames_of frames_in first_of event_of fields_at start_at sender_at single_at message_at number_at limited_at flag_at bytes_at sized_at counted_at items_at weighed_at
line_other = refl

-- a line that words don't say
pub line_spaces : shown_frame form.Bytes ((17 ∷ 0 ∷ 0 ∷ 0 ∷ 11 ∷ 116 ∷ 119 ∷ 111 ∷ 32 ∷ 32 ∷ 115 ∷ 112 ∷ 97 ∷ 99 ∷ 101 ∷ 115 ∷ [])) ≡ codes "frame 11+00*3+0b74776f2020737061636573" ++ 10 ∷ []
unfolding shown shown_frame shown_rest event_words say say_words words_of said spaced payload_of tagged ended all all_of one ◌&◌ number_below number_word item_word part_word fixed_word bytes_word bytes_of each piece_of digits_word decode_pairs listed times_of weighed_word value_word if_some nodes_field transfer_word block_of blocks_of start_field kinds_of long_as long_words line_of short_as short_words line_words encode_with digits number runs_of pieces_of short bytes_text trimmed fixed_text frames_of frames_in first_of event_of fields_at start_at sender_at single_at message_at number_at limited_at flag_at bytes_at sized_at counted_at items_at weighed_at
line_spaces = refl

-- a line whose identifier is too short
pub line_wrong : shown_frame form.Bytes ((17 ∷ 0 ∷ 0 ∷ 0 ∷ 9 ∷ 112 ∷ 114 ∷ 101 ∷ 102 ∷ 101 ∷ 114 ∷ 32 ∷ 48 ∷ 49 ∷ [])) ≡ codes "frame 11+00*3+09707265666572203031" ++ 10 ∷ []
unfolding shown shown_frame shown_rest event_words say say_words words_of said spaced payload_of tagged ended all all_of one ◌&◌ number_below number_word item_word part_word fixed_word bytes_word bytes_of each piece_of digits_word decode_pairs listed times_of weighed_word value_word if_some nodes_field transfer_word block_of blocks_of start_field kinds_of long_as long_words line_of short_as short_words line_words encode_with digits number runs_of pieces_of short bytes_text trimmed fixed_text frames_of frames_in first_of event_of fields_at start_at sender_at single_at message_at number_at limited_at flag_at bytes_at sized_at counted_at items_at weighed_at
line_wrong = refl

-- a line with a mark for people
pub line_note : shown_frame form.Bytes ((17 ∷ 0 ∷ 0 ∷ 0 ∷ 3 ∷ 97 ∷ 35 ∷ 98 ∷ [])) ≡ codes "frame 11+00*3+03612362" ++ 10 ∷ []
unfolding shown shown_frame shown_rest event_words say say_words words_of said spaced payload_of tagged ended all all_of one ◌&◌ number_below number_word item_word part_word fixed_word bytes_word bytes_of each piece_of digits_word decode_pairs listed times_of weighed_word value_word if_some nodes_field transfer_word block_of blocks_of start_field kinds_of long_as long_words line_of short_as short_words line_words encode_with digits number runs_of pieces_of short bytes_text trimmed fixed_text frames_of frames_in first_of event_of fields_at start_at sender_at single_at message_at number_at limited_at flag_at bytes_at sized_at counted_at items_at weighed_at
line_note = refl

-- no event
pub no_event : shown_frame form.Bytes ((18 ∷ 1 ∷ 1 ∷ 1 ∷ [])) ≡ codes "frame 12+01*3" ++ 10 ∷ []
unfolding shown shown_frame shown_rest event_words say say_words words_of said spaced payload_of tagged ended all all_of one ◌&◌ number_below number_word item_word part_word fixed_word bytes_word bytes_of each piece_of digits_word decode_pairs listed times_of weighed_word value_word if_some nodes_field transfer_word block_of blocks_of start_field kinds_of long_as long_words line_of short_as short_words line_words encode_with digits number runs_of pieces_of short bytes_text trimmed fixed_text frames_of frames_in first_of event_of fields_at start_at sender_at single_at message_at number_at limited_at flag_at bytes_at sized_at counted_at items_at weighed_at
no_event = refl

-- no payload
pub no_payload : shown_frame form.Bytes ([]) ≡ codes "frame ." ++ 10 ∷ []
unfolding shown shown_frame shown_rest event_words say say_words words_of said spaced payload_of tagged ended all all_of one ◌&◌ number_below number_word item_word part_word fixed_word bytes_word bytes_of each piece_of digits_word decode_pairs listed times_of weighed_word value_word if_some nodes_field transfer_word block_of blocks_of start_field kinds_of long_as long_words line_of short_as short_words line_words encode_with digits number runs_of pieces_of short bytes_text trimmed fixed_text frames_of frames_in first_of event_of fields_at start_at sender_at single_at message_at number_at limited_at flag_at bytes_at sized_at counted_at items_at weighed_at
no_payload = refl

-- a stream that is cut
pub cut_stream : shown form.Bytes (0 ∷ 0 ∷ 0 ∷ 0 ∷ 0 ∷ 0 ∷ 0 ∷ 120 ∷ 17 ∷ 0 ∷ 0 ∷ 0 ∷ 115 ∷ []) ≡ (codes "frame ." ++ 10 ∷ []) ++ (codes "rest 00*3+7811+00*3+73" ++ 10 ∷ [])
unfolding shown shown_frame shown_rest event_words say say_words words_of said spaced payload_of tagged ended all all_of one ◌&◌ number_below number_word item_word part_word fixed_word bytes_word bytes_of each piece_of digits_word decode_pairs listed times_of weighed_word value_word if_some nodes_field transfer_word block_of blocks_of start_field kinds_of long_as long_words line_of short_as short_words line_words encode_with digits number runs_of pieces_of short bytes_text trimmed fixed_text frames_of frames_in first_of event_of fields_at start_at sender_at single_at message_at number_at limited_at flag_at bytes_at sized_at counted_at items_at weighed_at
cut_stream = refl

-- a text in its short form
pub a_tidied : tidied form.Plain (codes "# two lines" ++ 10 ∷ codes "  poll 01+00*31   ff..  # so" ++ 10 ∷ 10 ∷ codes "frame 03 00 00") ≡ (codes "poll 01.. ff.." ++ 10 ∷ []) ++ (codes "poll" ++ 10 ∷ [])
unfolding tidied short_lines shown shown_frame shown_rest event_words say say_words words_of said spaced payload_of tagged ended all all_of one ◌&◌ number_below number_word item_word part_word fixed_word bytes_word bytes_of each piece_of digits_word decode_pairs listed times_of weighed_word value_word if_some nodes_field transfer_word block_of blocks_of start_field kinds_of long_as long_words line_of short_as short_words line_words encode_with digits number runs_of pieces_of short bytes_text trimmed fixed_text frames_of frames_in first_of event_of fields_at start_at sender_at single_at message_at number_at limited_at flag_at bytes_at sized_at counted_at items_at weighed_at
a_tidied = refl
