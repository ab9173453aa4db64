-- Lines of the project's pages: what the definitions say of each is what the maker of streams writes.
use Rattle.std.proofs.Common.{◌≡◌, [], ◌∷◌, ◌++◌, replicate, codes, Ok, refl}
use Rattle.hex.specs.Hex.{decode_pairs, encode_with}
use Rattle.snow_wire.specs.Model.Spelling.{number}
use Rattle.snow_text_model.specs.Model.Words.{words_of, said, spaced, each, all_of, one, all, ◌&◌, ended}
use Rattle.snow_text_model.specs.Model.Bytes.{number_below, number_word, digits_word, piece_of, bytes_word, fixed_word, part_word, item_word, bytes_of}
use Rattle.snow_text_model.specs.Model.Lines.{kinds_of, long_as, long_words, line_of}
use Rattle.snow_text_model.specs.Model.Events.{listed, times_of, weighed_word, value_word, if_some, nodes_field, transfer_word, block_of, blocks_of, tagged, start_field, payload_of}
use Rattle.snow_text_model.specs.Model.Made.{Frame, say_words}

-- 1024-polls.txt
pub line_1 : say_words [] (words_of (codes "start k=1 alpha-preference=1 alpha-confidence=1 beta=1 repolls=1 boot=0 last=ff.. height=0 nodes=01*20:1")) ≡ Ok (Frame ((1 ∷ 0 ∷ 0 ∷ 0 ∷ 1 ∷ 0 ∷ 0 ∷ 0 ∷ 1 ∷ 0 ∷ 0 ∷ 0 ∷ 1 ∷ 0 ∷ 0 ∷ 0 ∷ 1 ∷ 0 ∷ 0 ∷ 0 ∷ 1 ∷ 0 ∷ 255 ∷ []) ++ (replicate 42 0) ++ (replicate 21 1) ++ (replicate 7 0) ++ (1 ∷ [])))
unfolding say_words words_of said spaced payload_of tagged ended all all_of one ◌&◌ number_below number_word item_word part_word fixed_word bytes_word bytes_of each piece_of digits_word decode_pairs listed times_of weighed_word value_word if_some nodes_field transfer_word block_of blocks_of start_field kinds_of long_as long_words line_of encode_with number
line_1 = refl

-- 1024-polls.txt
pub line_2 : say_words [] (words_of (codes "block 01*20 0 plain 00*30+0001 ff.. 1 1")) ≡ Ok (Frame ((2 ∷ []) ++ (replicate 20 1) ++ (replicate 7 0) ++ (73 ∷ []) ++ (replicate 31 0) ++ (1 ∷ 255 ∷ []) ++ (replicate 38 0) ++ (1 ∷ 1 ∷ [])))
unfolding say_words words_of said spaced payload_of tagged ended all all_of one ◌&◌ number_below number_word item_word part_word fixed_word bytes_word bytes_of each piece_of digits_word decode_pairs listed times_of weighed_word value_word if_some nodes_field transfer_word block_of blocks_of start_field kinds_of long_as long_words line_of encode_with number
line_2 = refl

-- 1024-polls.txt
pub line_3 : say_words [] (words_of (codes "> prefer 00*30+0001")) ≡ Ok (Frame ((17 ∷ 0 ∷ 0 ∷ 0 ∷ 71 ∷ 112 ∷ 114 ∷ 101 ∷ 102 ∷ 101 ∷ 114 ∷ 32 ∷ []) ++ (replicate 63 48) ++ (49 ∷ [])))
unfolding say_words words_of said spaced payload_of tagged ended all all_of one ◌&◌ number_below number_word item_word part_word fixed_word bytes_word bytes_of each piece_of digits_word decode_pairs listed times_of weighed_word value_word if_some nodes_field transfer_word block_of blocks_of start_field kinds_of long_as long_words line_of encode_with number
line_3 = refl

-- 1024-polls.txt
pub line_4 : say_words [] (words_of (codes "> query 1 00*30+0001 01*20*1")) ≡ Ok (Frame ((17 ∷ 0 ∷ 0 ∷ 0 ∷ 115 ∷ 113 ∷ 117 ∷ 101 ∷ 114 ∷ 121 ∷ 32 ∷ 49 ∷ 32 ∷ []) ++ (replicate 63 48) ++ (49 ∷ 32 ∷ 48 ∷ 49 ∷ 48 ∷ 49 ∷ 48 ∷ 49 ∷ 48 ∷ 49 ∷ 48 ∷ 49 ∷ 48 ∷ 49 ∷ 48 ∷ 49 ∷ 48 ∷ 49 ∷ 48 ∷ 49 ∷ 48 ∷ 49 ∷ 48 ∷ 49 ∷ 48 ∷ 49 ∷ 48 ∷ 49 ∷ 48 ∷ 49 ∷ 48 ∷ 49 ∷ 48 ∷ 49 ∷ 48 ∷ 49 ∷ 48 ∷ 49 ∷ 48 ∷ 49 ∷ 48 ∷ 49 ∷ 42 ∷ 49 ∷ [])))
unfolding say_words words_of said spaced payload_of tagged ended all all_of one ◌&◌ number_below number_word item_word part_word fixed_word bytes_word bytes_of each piece_of digits_word decode_pairs listed times_of weighed_word value_word if_some nodes_field transfer_word block_of blocks_of start_field kinds_of long_as long_words line_of encode_with number
line_4 = refl

-- 1024-polls.txt
pub line_5 : say_words [] (words_of (codes "block 01*20 0 plain 00*30+0401 00*30+0400 1025 1")) ≡ Ok (Frame ((2 ∷ []) ++ (replicate 20 1) ++ (replicate 7 0) ++ (73 ∷ []) ++ (replicate 30 0) ++ (4 ∷ 1 ∷ []) ++ (replicate 30 0) ++ (4 ∷ []) ++ (replicate 7 0) ++ (4 ∷ 1 ∷ 1 ∷ [])))
unfolding say_words words_of said spaced payload_of tagged ended all all_of one ◌&◌ number_below number_word item_word part_word fixed_word bytes_word bytes_of each piece_of digits_word decode_pairs listed times_of weighed_word value_word if_some nodes_field transfer_word block_of blocks_of start_field kinds_of long_as long_words line_of encode_with number
line_5 = refl

-- 1024-polls.txt
pub line_6 : say_words [] (words_of (codes "> drop-query full")) ≡ Ok (Frame ((17 ∷ 0 ∷ 0 ∷ 0 ∷ 15 ∷ 100 ∷ 114 ∷ 111 ∷ 112 ∷ 45 ∷ 113 ∷ 117 ∷ 101 ∷ 114 ∷ 121 ∷ 32 ∷ 102 ∷ 117 ∷ 108 ∷ 108 ∷ [])))
unfolding say_words words_of said spaced payload_of tagged ended all all_of one ◌&◌ number_below number_word item_word part_word fixed_word bytes_word bytes_of each piece_of digits_word decode_pairs listed times_of weighed_word value_word if_some nodes_field transfer_word block_of blocks_of start_field kinds_of long_as long_words line_of encode_with number
line_6 = refl

-- 32768-stored-blocks-downwards.txt
pub line_7 : say_words [] (words_of (codes "> frontier 1")) ≡ Ok (Frame ((17 ∷ 0 ∷ 0 ∷ 0 ∷ 10 ∷ 102 ∷ 114 ∷ 111 ∷ 110 ∷ 116 ∷ 105 ∷ 101 ∷ 114 ∷ 32 ∷ 49 ∷ [])))
unfolding say_words words_of said spaced payload_of tagged ended all all_of one ◌&◌ number_below number_word item_word part_word fixed_word bytes_word bytes_of each piece_of digits_word decode_pairs listed times_of weighed_word value_word if_some nodes_field transfer_word block_of blocks_of start_field kinds_of long_as long_words line_of encode_with number
line_7 = refl

-- 32768-stored-blocks-downwards.txt
pub line_8 : say_words [] (words_of (codes "frontier 01*20 1 00*30+8000")) ≡ Ok (Frame ((7 ∷ []) ++ (replicate 20 1) ++ (0 ∷ 0 ∷ 0 ∷ 1 ∷ []) ++ (replicate 30 0) ++ (128 ∷ 0 ∷ [])))
unfolding say_words words_of said spaced payload_of tagged ended all all_of one ◌&◌ number_below number_word item_word part_word fixed_word bytes_word bytes_of each piece_of digits_word decode_pairs listed times_of weighed_word value_word if_some nodes_field transfer_word block_of blocks_of start_field kinds_of long_as long_words line_of encode_with number
line_8 = refl

-- 32768-stored-blocks-downwards.txt
pub line_9 : say_words [] (words_of (codes "> accepted 2 00*30+8000")) ≡ Ok (Frame ((17 ∷ 0 ∷ 0 ∷ 0 ∷ 75 ∷ 97 ∷ 99 ∷ 99 ∷ 101 ∷ 112 ∷ 116 ∷ 101 ∷ 100 ∷ 32 ∷ 50 ∷ 32 ∷ []) ++ (replicate 60 48) ++ (56 ∷ 48 ∷ 48 ∷ 48 ∷ [])))
unfolding say_words words_of said spaced payload_of tagged ended all all_of one ◌&◌ number_below number_word item_word part_word fixed_word bytes_word bytes_of each piece_of digits_word decode_pairs listed times_of weighed_word value_word if_some nodes_field transfer_word block_of blocks_of start_field kinds_of long_as long_words line_of encode_with number
line_9 = refl

-- 32768-stored-blocks-downwards.txt
pub line_10 : say_words [] (words_of (codes "accepted 01*20 2 00*30+8000")) ≡ Ok (Frame ((8 ∷ []) ++ (replicate 20 1) ++ (0 ∷ 0 ∷ 0 ∷ 2 ∷ 0 ∷ 1 ∷ []) ++ (replicate 30 0) ++ (128 ∷ 0 ∷ [])))
unfolding say_words words_of said spaced payload_of tagged ended all all_of one ◌&◌ number_below number_word item_word part_word fixed_word bytes_word bytes_of each piece_of digits_word decode_pairs listed times_of weighed_word value_word if_some nodes_field transfer_word block_of blocks_of start_field kinds_of long_as long_words line_of encode_with number
line_10 = refl

-- 32768-stored-blocks-downwards.txt
pub line_11 : say_words [] (words_of (codes "> ancestors 3 01*20 00*30+8000")) ≡ Ok (Frame ((17 ∷ 0 ∷ 0 ∷ 0 ∷ 117 ∷ 97 ∷ 110 ∷ 99 ∷ 101 ∷ 115 ∷ 116 ∷ 111 ∷ 114 ∷ 115 ∷ 32 ∷ 51 ∷ 32 ∷ 48 ∷ 49 ∷ 48 ∷ 49 ∷ 48 ∷ 49 ∷ 48 ∷ 49 ∷ 48 ∷ 49 ∷ 48 ∷ 49 ∷ 48 ∷ 49 ∷ 48 ∷ 49 ∷ 48 ∷ 49 ∷ 48 ∷ 49 ∷ 48 ∷ 49 ∷ 48 ∷ 49 ∷ 48 ∷ 49 ∷ 48 ∷ 49 ∷ 48 ∷ 49 ∷ 48 ∷ 49 ∷ 48 ∷ 49 ∷ 48 ∷ 49 ∷ 48 ∷ 49 ∷ 48 ∷ 49 ∷ 32 ∷ []) ++ (replicate 60 48) ++ (56 ∷ 48 ∷ 48 ∷ 48 ∷ [])))
unfolding say_words words_of said spaced payload_of tagged ended all all_of one ◌&◌ number_below number_word item_word part_word fixed_word bytes_word bytes_of each piece_of digits_word decode_pairs listed times_of weighed_word value_word if_some nodes_field transfer_word block_of blocks_of start_field kinds_of long_as long_words line_of encode_with number
line_11 = refl

-- 32768-stored-blocks-downwards.txt
pub line_12 : say_words [] (words_of (codes "stored plain 00*30+0001 ff.. 1 1")) ≡ Ok (Frame ((10 ∷ 0 ∷ 0 ∷ 0 ∷ 73 ∷ []) ++ (replicate 31 0) ++ (1 ∷ 255 ∷ []) ++ (replicate 38 0) ++ (1 ∷ 1 ∷ [])))
unfolding say_words words_of said spaced payload_of tagged ended all all_of one ◌&◌ number_below number_word item_word part_word fixed_word bytes_word bytes_of each piece_of digits_word decode_pairs listed times_of weighed_word value_word if_some nodes_field transfer_word block_of blocks_of start_field kinds_of long_as long_words line_of encode_with number
line_12 = refl

-- 32768-stored-blocks-downwards.txt
pub line_13 : say_words [] (words_of (codes "> bootstrapped 00*30+8000 32768")) ≡ Ok (Frame ((17 ∷ 0 ∷ 0 ∷ 0 ∷ 83 ∷ 98 ∷ 111 ∷ 111 ∷ 116 ∷ 115 ∷ 116 ∷ 114 ∷ 97 ∷ 112 ∷ 112 ∷ 101 ∷ 100 ∷ 32 ∷ []) ++ (replicate 60 48) ++ (56 ∷ 48 ∷ 48 ∷ 48 ∷ 32 ∷ 51 ∷ 50 ∷ 55 ∷ 54 ∷ 56 ∷ [])))
unfolding say_words words_of said spaced payload_of tagged ended all all_of one ◌&◌ number_below number_word item_word part_word fixed_word bytes_word bytes_of each piece_of digits_word decode_pairs listed times_of weighed_word value_word if_some nodes_field transfer_word block_of blocks_of start_field kinds_of long_as long_words line_of encode_with number
line_13 = refl

-- 4095-waiting-blocks.txt
pub line_14 : say_words [] (words_of (codes "> get 1 01*20 00*30+0001")) ≡ Ok (Frame ((17 ∷ 0 ∷ 0 ∷ 0 ∷ 111 ∷ 103 ∷ 101 ∷ 116 ∷ 32 ∷ 49 ∷ 32 ∷ 48 ∷ 49 ∷ 48 ∷ 49 ∷ 48 ∷ 49 ∷ 48 ∷ 49 ∷ 48 ∷ 49 ∷ 48 ∷ 49 ∷ 48 ∷ 49 ∷ 48 ∷ 49 ∷ 48 ∷ 49 ∷ 48 ∷ 49 ∷ 48 ∷ 49 ∷ 48 ∷ 49 ∷ 48 ∷ 49 ∷ 48 ∷ 49 ∷ 48 ∷ 49 ∷ 48 ∷ 49 ∷ 48 ∷ 49 ∷ 48 ∷ 49 ∷ 48 ∷ 49 ∷ 48 ∷ 49 ∷ 32 ∷ []) ++ (replicate 63 48) ++ (49 ∷ [])))
unfolding say_words words_of said spaced payload_of tagged ended all all_of one ◌&◌ number_below number_word item_word part_word fixed_word bytes_word bytes_of each piece_of digits_word decode_pairs listed times_of weighed_word value_word if_some nodes_field transfer_word block_of blocks_of start_field kinds_of long_as long_words line_of encode_with number
line_14 = refl

-- 4095-waiting-blocks.txt
pub line_15 : say_words [] (words_of (codes "timeout 01*20 9")) ≡ Ok (Frame ((6 ∷ []) ++ (replicate 20 1) ++ (0 ∷ 0 ∷ 0 ∷ 9 ∷ [])))
unfolding say_words words_of said spaced payload_of tagged ended all all_of one ◌&◌ number_below number_word item_word part_word fixed_word bytes_word bytes_of each piece_of digits_word decode_pairs listed times_of weighed_word value_word if_some nodes_field transfer_word block_of blocks_of start_field kinds_of long_as long_words line_of encode_with number
line_15 = refl

-- 4096-blocks-wait.txt
pub line_16 : say_words [] (words_of (codes "> get 1 01*20 04..")) ≡ Ok (Frame ((17 ∷ 0 ∷ 0 ∷ 0 ∷ 111 ∷ 103 ∷ 101 ∷ 116 ∷ 32 ∷ 49 ∷ 32 ∷ 48 ∷ 49 ∷ 48 ∷ 49 ∷ 48 ∷ 49 ∷ 48 ∷ 49 ∷ 48 ∷ 49 ∷ 48 ∷ 49 ∷ 48 ∷ 49 ∷ 48 ∷ 49 ∷ 48 ∷ 49 ∷ 48 ∷ 49 ∷ 48 ∷ 49 ∷ 48 ∷ 49 ∷ 48 ∷ 49 ∷ 48 ∷ 49 ∷ 48 ∷ 49 ∷ 48 ∷ 49 ∷ 48 ∷ 49 ∷ 48 ∷ 49 ∷ 48 ∷ 49 ∷ 48 ∷ 49 ∷ 32 ∷ 48 ∷ 52 ∷ []) ++ (replicate 62 48)))
unfolding say_words words_of said spaced payload_of tagged ended all all_of one ◌&◌ number_below number_word item_word part_word fixed_word bytes_word bytes_of each piece_of digits_word decode_pairs listed times_of weighed_word value_word if_some nodes_field transfer_word block_of blocks_of start_field kinds_of long_as long_words line_of encode_with number
line_16 = refl

-- 4096-blocks-wait.txt
pub line_17 : say_words [] (words_of (codes "> drop 00*30+1001 full")) ≡ Ok (Frame ((17 ∷ 0 ∷ 0 ∷ 0 ∷ 74 ∷ 100 ∷ 114 ∷ 111 ∷ 112 ∷ 32 ∷ []) ++ (replicate 60 48) ++ (49 ∷ 48 ∷ 48 ∷ 49 ∷ 32 ∷ 102 ∷ 117 ∷ 108 ∷ 108 ∷ [])))
unfolding say_words words_of said spaced payload_of tagged ended all all_of one ◌&◌ number_below number_word item_word part_word fixed_word bytes_word bytes_of each piece_of digits_word decode_pairs listed times_of weighed_word value_word if_some nodes_field transfer_word block_of blocks_of start_field kinds_of long_as long_words line_of encode_with number
line_17 = refl

-- 4096-pending.txt
pub line_18 : say_words [] (words_of (codes "start k=1 alpha-preference=1 alpha-confidence=1 beta=1 repolls=1 boot=0 last=ff.. height=0")) ≡ Ok (Frame ((1 ∷ 0 ∷ 0 ∷ 0 ∷ 1 ∷ 0 ∷ 0 ∷ 0 ∷ 1 ∷ 0 ∷ 0 ∷ 0 ∷ 1 ∷ 0 ∷ 0 ∷ 0 ∷ 1 ∷ 0 ∷ 0 ∷ 0 ∷ 1 ∷ 0 ∷ 255 ∷ []) ++ (replicate 43 0)))
unfolding say_words words_of said spaced payload_of tagged ended all all_of one ◌&◌ number_below number_word item_word part_word fixed_word bytes_word bytes_of each piece_of digits_word decode_pairs listed times_of weighed_word value_word if_some nodes_field transfer_word block_of blocks_of start_field kinds_of long_as long_words line_of encode_with number
line_18 = refl

-- 4096-pending.txt
pub line_19 : say_words [] (words_of (codes "poll 00*30+1000")) ≡ Ok (Frame ((3 ∷ 0 ∷ 1 ∷ []) ++ (replicate 30 0) ++ (16 ∷ 0 ∷ [])))
unfolding say_words words_of said spaced payload_of tagged ended all all_of one ◌&◌ number_below number_word item_word part_word fixed_word bytes_word bytes_of each piece_of digits_word decode_pairs listed times_of weighed_word value_word if_some nodes_field transfer_word block_of blocks_of start_field kinds_of long_as long_words line_of encode_with number
line_19 = refl

-- a-chain-of-hopeless-blocks.txt
pub line_20 : say_words [] (words_of (codes "words 0*4")) ≡ Ok (Frame ((4 ∷ 0 ∷ 4 ∷ []) ++ (replicate 32 0)))
unfolding say_words words_of said spaced payload_of tagged ended all all_of one ◌&◌ number_below number_word item_word part_word fixed_word bytes_word bytes_of each piece_of digits_word decode_pairs listed times_of weighed_word value_word if_some nodes_field transfer_word block_of blocks_of start_field kinds_of long_as long_words line_of encode_with number
line_20 = refl

-- a-chain-of-hopeless-blocks.txt
pub line_21 : say_words [] (words_of (codes "block 01*20 0 plain 05.. 04.. 2 1")) ≡ Ok (Frame ((2 ∷ []) ++ (replicate 20 1) ++ (replicate 7 0) ++ (73 ∷ 5 ∷ []) ++ (replicate 31 0) ++ (4 ∷ []) ++ (replicate 38 0) ++ (2 ∷ 1 ∷ [])))
unfolding say_words words_of said spaced payload_of tagged ended all all_of one ◌&◌ number_below number_word item_word part_word fixed_word bytes_word bytes_of each piece_of digits_word decode_pairs listed times_of weighed_word value_word if_some nodes_field transfer_word block_of blocks_of start_field kinds_of long_as long_words line_of encode_with number
line_21 = refl

-- a-chain-of-hopeless-blocks.txt
pub line_22 : say_words [] (words_of (codes "> drop 05.. parent")) ≡ Ok (Frame ((17 ∷ 0 ∷ 0 ∷ 0 ∷ 76 ∷ 100 ∷ 114 ∷ 111 ∷ 112 ∷ 32 ∷ 48 ∷ 53 ∷ []) ++ (replicate 62 48) ++ (32 ∷ 112 ∷ 97 ∷ 114 ∷ 101 ∷ 110 ∷ 116 ∷ [])))
unfolding say_words words_of said spaced payload_of tagged ended all all_of one ◌&◌ number_below number_word item_word part_word fixed_word bytes_word bytes_of each piece_of digits_word decode_pairs listed times_of weighed_word value_word if_some nodes_field transfer_word block_of blocks_of start_field kinds_of long_as long_words line_of encode_with number
line_22 = refl

-- a-late-ancestor.txt
pub line_23 : say_words [] (words_of (codes "> prefer 01..")) ≡ Ok (Frame ((17 ∷ 0 ∷ 0 ∷ 0 ∷ 71 ∷ 112 ∷ 114 ∷ 101 ∷ 102 ∷ 101 ∷ 114 ∷ 32 ∷ 48 ∷ 49 ∷ []) ++ (replicate 62 48)))
unfolding say_words words_of said spaced payload_of tagged ended all all_of one ◌&◌ number_below number_word item_word part_word fixed_word bytes_word bytes_of each piece_of digits_word decode_pairs listed times_of weighed_word value_word if_some nodes_field transfer_word block_of blocks_of start_field kinds_of long_as long_words line_of encode_with number
line_23 = refl

-- a-late-ancestor.txt
pub line_24 : say_words [] (words_of (codes "> query 2 01.. 01*20*1")) ≡ Ok (Frame ((17 ∷ 0 ∷ 0 ∷ 0 ∷ 115 ∷ 113 ∷ 117 ∷ 101 ∷ 114 ∷ 121 ∷ 32 ∷ 50 ∷ 32 ∷ 48 ∷ 49 ∷ []) ++ (replicate 62 48) ++ (32 ∷ 48 ∷ 49 ∷ 48 ∷ 49 ∷ 48 ∷ 49 ∷ 48 ∷ 49 ∷ 48 ∷ 49 ∷ 48 ∷ 49 ∷ 48 ∷ 49 ∷ 48 ∷ 49 ∷ 48 ∷ 49 ∷ 48 ∷ 49 ∷ 48 ∷ 49 ∷ 48 ∷ 49 ∷ 48 ∷ 49 ∷ 48 ∷ 49 ∷ 48 ∷ 49 ∷ 48 ∷ 49 ∷ 48 ∷ 49 ∷ 48 ∷ 49 ∷ 48 ∷ 49 ∷ 48 ∷ 49 ∷ 42 ∷ 49 ∷ [])))
unfolding say_words words_of said spaced payload_of tagged ended all all_of one ◌&◌ number_below number_word item_word part_word fixed_word bytes_word bytes_of each piece_of digits_word decode_pairs listed times_of weighed_word value_word if_some nodes_field transfer_word block_of blocks_of start_field kinds_of long_as long_words line_of encode_with number
line_24 = refl

-- a-late-ancestor.txt
pub line_25 : say_words [] (words_of (codes "chits 01*20 2 04..")) ≡ Ok (Frame ((5 ∷ []) ++ (replicate 20 1) ++ (0 ∷ 0 ∷ 0 ∷ 2 ∷ 4 ∷ []) ++ (replicate 31 0)))
unfolding say_words words_of said spaced payload_of tagged ended all all_of one ◌&◌ number_below number_word item_word part_word fixed_word bytes_word bytes_of each piece_of digits_word decode_pairs listed times_of weighed_word value_word if_some nodes_field transfer_word block_of blocks_of start_field kinds_of long_as long_words line_of encode_with number
line_25 = refl

-- a-late-ancestor.txt
pub line_26 : say_words [] (words_of (codes "> accept 01..")) ≡ Ok (Frame ((17 ∷ 0 ∷ 0 ∷ 0 ∷ 71 ∷ 97 ∷ 99 ∷ 99 ∷ 101 ∷ 112 ∷ 116 ∷ 32 ∷ 48 ∷ 49 ∷ []) ++ (replicate 62 48)))
unfolding say_words words_of said spaced payload_of tagged ended all all_of one ◌&◌ number_below number_word item_word part_word fixed_word bytes_word bytes_of each piece_of digits_word decode_pairs listed times_of weighed_word value_word if_some nodes_field transfer_word block_of blocks_of start_field kinds_of long_as long_words line_of encode_with number
line_26 = refl

-- a-node-twice.txt
pub line_27 : say_words [] (words_of (codes "start k=1 alpha-preference=1 alpha-confidence=1 beta=1 repolls=1 boot=0 last=ff.. height=0 nodes=01*20:1,02*20:0,01*20:1")) ≡ Ok (Frame ((1 ∷ 0 ∷ 0 ∷ 0 ∷ 1 ∷ 0 ∷ 0 ∷ 0 ∷ 1 ∷ 0 ∷ 0 ∷ 0 ∷ 1 ∷ 0 ∷ 0 ∷ 0 ∷ 1 ∷ 0 ∷ 0 ∷ 0 ∷ 1 ∷ 0 ∷ 255 ∷ []) ++ (replicate 42 0) ++ (3 ∷ []) ++ (replicate 20 1) ++ (replicate 7 0) ++ (1 ∷ []) ++ (replicate 20 2) ++ (replicate 8 0) ++ (replicate 20 1) ++ (replicate 7 0) ++ (1 ∷ [])))
unfolding say_words words_of said spaced payload_of tagged ended all all_of one ◌&◌ number_below number_word item_word part_word fixed_word bytes_word bytes_of each piece_of digits_word decode_pairs listed times_of weighed_word value_word if_some nodes_field transfer_word block_of blocks_of start_field kinds_of long_as long_words line_of encode_with number
line_27 = refl

-- a-poll-without-votes-resets.txt
pub line_28 : say_words [] (words_of (codes "poll 00..")) ≡ Ok (Frame ((3 ∷ 0 ∷ 1 ∷ []) ++ (replicate 32 0)))
unfolding say_words words_of said spaced payload_of tagged ended all all_of one ◌&◌ number_below number_word item_word part_word fixed_word bytes_word bytes_of each piece_of digits_word decode_pairs listed times_of weighed_word value_word if_some nodes_field transfer_word block_of blocks_of start_field kinds_of long_as long_words line_of encode_with number
line_28 = refl

-- a-poll-without-votes-resets.txt
pub line_29 : say_words [] (words_of (codes "poll")) ≡ Ok (Frame ((3 ∷ 0 ∷ 0 ∷ [])))
unfolding say_words words_of said spaced payload_of tagged ended all all_of one ◌&◌ number_below number_word item_word part_word fixed_word bytes_word bytes_of each piece_of digits_word decode_pairs listed times_of weighed_word value_word if_some nodes_field transfer_word block_of blocks_of start_field kinds_of long_as long_words line_of encode_with number
line_29 = refl

-- a-poll-without-votes-resets.txt
pub line_30 : say_words [] (words_of (codes "> reject 80..")) ≡ Ok (Frame ((17 ∷ 0 ∷ 0 ∷ 0 ∷ 71 ∷ 114 ∷ 101 ∷ 106 ∷ 101 ∷ 99 ∷ 116 ∷ 32 ∷ 56 ∷ []) ++ (replicate 63 48)))
unfolding say_words words_of said spaced payload_of tagged ended all all_of one ◌&◌ number_below number_word item_word part_word fixed_word bytes_word bytes_of each piece_of digits_word decode_pairs listed times_of weighed_word value_word if_some nodes_field transfer_word block_of blocks_of start_field kinds_of long_as long_words line_of encode_with number
line_30 = refl

-- a-word-above-the-weights.txt
pub line_31 : say_words [] (words_of (codes "words 18446744073709551615 4611686018427387904")) ≡ Ok (Frame ((4 ∷ 0 ∷ 2 ∷ []) ++ (replicate 8 255) ++ (64 ∷ []) ++ (replicate 7 0)))
unfolding say_words words_of said spaced payload_of tagged ended all all_of one ◌&◌ number_below number_word item_word part_word fixed_word bytes_word bytes_of each piece_of digits_word decode_pairs listed times_of weighed_word value_word if_some nodes_field transfer_word block_of blocks_of start_field kinds_of long_as long_words line_of encode_with number
line_31 = refl

-- an-ancestor-at-a-wrong-height.txt
pub line_32 : say_words [] (words_of (codes "frontier 01*20 1 03..")) ≡ Ok (Frame ((7 ∷ []) ++ (replicate 20 1) ++ (0 ∷ 0 ∷ 0 ∷ 1 ∷ 3 ∷ []) ++ (replicate 31 0)))
unfolding say_words words_of said spaced payload_of tagged ended all all_of one ◌&◌ number_below number_word item_word part_word fixed_word bytes_word bytes_of each piece_of digits_word decode_pairs listed times_of weighed_word value_word if_some nodes_field transfer_word block_of blocks_of start_field kinds_of long_as long_words line_of encode_with number
line_32 = refl

-- an-ancestor-at-a-wrong-height.txt
pub line_33 : say_words [] (words_of (codes "> accepted 2 03..")) ≡ Ok (Frame ((17 ∷ 0 ∷ 0 ∷ 0 ∷ 75 ∷ 97 ∷ 99 ∷ 99 ∷ 101 ∷ 112 ∷ 116 ∷ 101 ∷ 100 ∷ 32 ∷ 50 ∷ 32 ∷ 48 ∷ 51 ∷ []) ++ (replicate 62 48)))
unfolding say_words words_of said spaced payload_of tagged ended all all_of one ◌&◌ number_below number_word item_word part_word fixed_word bytes_word bytes_of each piece_of digits_word decode_pairs listed times_of weighed_word value_word if_some nodes_field transfer_word block_of blocks_of start_field kinds_of long_as long_words line_of encode_with number
line_33 = refl

-- an-ancestor-at-a-wrong-height.txt
pub line_34 : say_words [] (words_of (codes "accepted 01*20 2 03..")) ≡ Ok (Frame ((8 ∷ []) ++ (replicate 20 1) ++ (0 ∷ 0 ∷ 0 ∷ 2 ∷ 0 ∷ 1 ∷ 3 ∷ []) ++ (replicate 31 0)))
unfolding say_words words_of said spaced payload_of tagged ended all all_of one ◌&◌ number_below number_word item_word part_word fixed_word bytes_word bytes_of each piece_of digits_word decode_pairs listed times_of weighed_word value_word if_some nodes_field transfer_word block_of blocks_of start_field kinds_of long_as long_words line_of encode_with number
line_34 = refl

-- an-ancestor-at-a-wrong-height.txt
pub line_35 : say_words [] (words_of (codes "> ancestors 3 01*20 03..")) ≡ Ok (Frame ((17 ∷ 0 ∷ 0 ∷ 0 ∷ 117 ∷ 97 ∷ 110 ∷ 99 ∷ 101 ∷ 115 ∷ 116 ∷ 111 ∷ 114 ∷ 115 ∷ 32 ∷ 51 ∷ 32 ∷ 48 ∷ 49 ∷ 48 ∷ 49 ∷ 48 ∷ 49 ∷ 48 ∷ 49 ∷ 48 ∷ 49 ∷ 48 ∷ 49 ∷ 48 ∷ 49 ∷ 48 ∷ 49 ∷ 48 ∷ 49 ∷ 48 ∷ 49 ∷ 48 ∷ 49 ∷ 48 ∷ 49 ∷ 48 ∷ 49 ∷ 48 ∷ 49 ∷ 48 ∷ 49 ∷ 48 ∷ 49 ∷ 48 ∷ 49 ∷ 48 ∷ 49 ∷ 48 ∷ 49 ∷ 48 ∷ 49 ∷ 32 ∷ 48 ∷ 51 ∷ []) ++ (replicate 62 48)))
unfolding say_words words_of said spaced payload_of tagged ended all all_of one ◌&◌ number_below number_word item_word part_word fixed_word bytes_word bytes_of each piece_of digits_word decode_pairs listed times_of weighed_word value_word if_some nodes_field transfer_word block_of blocks_of start_field kinds_of long_as long_words line_of encode_with number
line_35 = refl

-- an-ancestor-at-a-wrong-height.txt
pub line_36 : say_words [] (words_of (codes "ancestors 01*20 3 plain 02.. 01.. 2 1")) ≡ Ok (Frame ((9 ∷ []) ++ (replicate 20 1) ++ (0 ∷ 0 ∷ 0 ∷ 3 ∷ 0 ∷ 1 ∷ 0 ∷ 0 ∷ 0 ∷ 73 ∷ 2 ∷ []) ++ (replicate 31 0) ++ (1 ∷ []) ++ (replicate 38 0) ++ (2 ∷ 1 ∷ [])))
unfolding say_words words_of said spaced payload_of tagged ended all all_of one ◌&◌ number_below number_word item_word part_word fixed_word bytes_word bytes_of each piece_of digits_word decode_pairs listed times_of weighed_word value_word if_some nodes_field transfer_word block_of blocks_of start_field kinds_of long_as long_words line_of encode_with number
line_36 = refl

-- an-ancestor-at-a-wrong-height.txt
pub line_37 : say_words [] (words_of (codes "ancestors 01*20 4 plain 03.. 02.. 3 1, plain 01.. ff.. 1 1, plain 02.. 01.. 2 1")) ≡ Ok (Frame ((9 ∷ []) ++ (replicate 20 1) ++ (0 ∷ 0 ∷ 0 ∷ 4 ∷ 0 ∷ 3 ∷ 0 ∷ 0 ∷ 0 ∷ 73 ∷ 3 ∷ []) ++ (replicate 31 0) ++ (2 ∷ []) ++ (replicate 38 0) ++ (3 ∷ 1 ∷ 0 ∷ 0 ∷ 0 ∷ 73 ∷ 1 ∷ []) ++ (replicate 31 0) ++ (255 ∷ []) ++ (replicate 38 0) ++ (1 ∷ 1 ∷ 0 ∷ 0 ∷ 0 ∷ 73 ∷ 2 ∷ []) ++ (replicate 31 0) ++ (1 ∷ []) ++ (replicate 38 0) ++ (2 ∷ 1 ∷ [])))
unfolding say_words words_of said spaced payload_of tagged ended all all_of one ◌&◌ number_below number_word item_word part_word fixed_word bytes_word bytes_of each piece_of digits_word decode_pairs listed times_of weighed_word value_word if_some nodes_field transfer_word block_of blocks_of start_field kinds_of long_as long_words line_of encode_with number
line_37 = refl

-- bootstrapping-by-majority.txt
pub line_38 : say_words [] (words_of (codes "stored plain 01.. ff.. 1 1")) ≡ Ok (Frame ((10 ∷ 0 ∷ 0 ∷ 0 ∷ 73 ∷ 1 ∷ []) ++ (replicate 31 0) ++ (255 ∷ []) ++ (replicate 38 0) ++ (1 ∷ 1 ∷ [])))
unfolding say_words words_of said spaced payload_of tagged ended all all_of one ◌&◌ number_below number_word item_word part_word fixed_word bytes_word bytes_of each piece_of digits_word decode_pairs listed times_of weighed_word value_word if_some nodes_field transfer_word block_of blocks_of start_field kinds_of long_as long_words line_of encode_with number
line_38 = refl

-- bootstrapping-by-majority.txt
pub line_39 : say_words [] (words_of (codes "accepted 02*20 2")) ≡ Ok (Frame ((8 ∷ []) ++ (replicate 20 2) ++ (0 ∷ 0 ∷ 0 ∷ 2 ∷ 0 ∷ 0 ∷ [])))
unfolding say_words words_of said spaced payload_of tagged ended all all_of one ◌&◌ number_below number_word item_word part_word fixed_word bytes_word bytes_of each piece_of digits_word decode_pairs listed times_of weighed_word value_word if_some nodes_field transfer_word block_of blocks_of start_field kinds_of long_as long_words line_of encode_with number
line_39 = refl

-- bootstrapping-by-majority.txt
pub line_40 : say_words [] (words_of (codes "> restart accepted")) ≡ Ok (Frame ((17 ∷ 0 ∷ 0 ∷ 0 ∷ 16 ∷ 114 ∷ 101 ∷ 115 ∷ 116 ∷ 97 ∷ 114 ∷ 116 ∷ 32 ∷ 97 ∷ 99 ∷ 99 ∷ 101 ∷ 112 ∷ 116 ∷ 101 ∷ 100 ∷ [])))
unfolding say_words words_of said spaced payload_of tagged ended all all_of one ◌&◌ number_below number_word item_word part_word fixed_word bytes_word bytes_of each piece_of digits_word decode_pairs listed times_of weighed_word value_word if_some nodes_field transfer_word block_of blocks_of start_field kinds_of long_as long_words line_of encode_with number
line_40 = refl

-- bootstrapping-by-majority.txt
pub line_41 : say_words [] (words_of (codes "> bootstrapped 03.. 3")) ≡ Ok (Frame ((17 ∷ 0 ∷ 0 ∷ 0 ∷ 79 ∷ 98 ∷ 111 ∷ 111 ∷ 116 ∷ 115 ∷ 116 ∷ 114 ∷ 97 ∷ 112 ∷ 112 ∷ 101 ∷ 100 ∷ 32 ∷ 48 ∷ 51 ∷ []) ++ (replicate 62 48) ++ (32 ∷ 51 ∷ [])))
unfolding say_words words_of said spaced payload_of tagged ended all all_of one ◌&◌ number_below number_word item_word part_word fixed_word bytes_word bytes_of each piece_of digits_word decode_pairs listed times_of weighed_word value_word if_some nodes_field transfer_word block_of blocks_of start_field kinds_of long_as long_words line_of encode_with number
line_41 = refl

-- differ-in-the-last-bit-alone.txt
pub line_42 : say_words [] (words_of (codes "> accept 00*31+80")) ≡ Ok (Frame ((17 ∷ 0 ∷ 0 ∷ 0 ∷ 71 ∷ 97 ∷ 99 ∷ 99 ∷ 101 ∷ 112 ∷ 116 ∷ 32 ∷ []) ++ (replicate 62 48) ++ (56 ∷ 48 ∷ [])))
unfolding say_words words_of said spaced payload_of tagged ended all all_of one ◌&◌ number_below number_word item_word part_word fixed_word bytes_word bytes_of each piece_of digits_word decode_pairs listed times_of weighed_word value_word if_some nodes_field transfer_word block_of blocks_of start_field kinds_of long_as long_words line_of encode_with number
line_42 = refl

-- drill.txt
pub line_43 : say_words [] (words_of (codes "> blocks 200")) ≡ Ok (Frame ((17 ∷ 0 ∷ 0 ∷ 0 ∷ 10 ∷ 98 ∷ 108 ∷ 111 ∷ 99 ∷ 107 ∷ 115 ∷ 32 ∷ 50 ∷ 48 ∷ 48 ∷ [])))
unfolding say_words words_of said spaced payload_of tagged ended all all_of one ◌&◌ number_below number_word item_word part_word fixed_word bytes_word bytes_of each piece_of digits_word decode_pairs listed times_of weighed_word value_word if_some nodes_field transfer_word block_of blocks_of start_field kinds_of long_as long_words line_of encode_with number
line_43 = refl

-- drill.txt
pub line_44 : say_words [] (words_of (codes "> accepted 146")) ≡ Ok (Frame ((17 ∷ 0 ∷ 0 ∷ 0 ∷ 12 ∷ 97 ∷ 99 ∷ 99 ∷ 101 ∷ 112 ∷ 116 ∷ 101 ∷ 100 ∷ 32 ∷ 49 ∷ 52 ∷ 54 ∷ [])))
unfolding say_words words_of said spaced payload_of tagged ended all all_of one ◌&◌ number_below number_word item_word part_word fixed_word bytes_word bytes_of each piece_of digits_word decode_pairs listed times_of weighed_word value_word if_some nodes_field transfer_word block_of blocks_of start_field kinds_of long_as long_words line_of encode_with number
line_44 = refl

-- drill.txt
pub line_45 : say_words [] (words_of (codes "> rejected 54")) ≡ Ok (Frame ((17 ∷ 0 ∷ 0 ∷ 0 ∷ 11 ∷ 114 ∷ 101 ∷ 106 ∷ 101 ∷ 99 ∷ 116 ∷ 101 ∷ 100 ∷ 32 ∷ 53 ∷ 52 ∷ [])))
unfolding say_words words_of said spaced payload_of tagged ended all all_of one ◌&◌ number_below number_word item_word part_word fixed_word bytes_word bytes_of each piece_of digits_word decode_pairs listed times_of weighed_word value_word if_some nodes_field transfer_word block_of blocks_of start_field kinds_of long_as long_words line_of encode_with number
line_45 = refl

-- drill.txt
pub line_46 : say_words [] (words_of (codes "> polls 620")) ≡ Ok (Frame ((17 ∷ 0 ∷ 0 ∷ 0 ∷ 9 ∷ 112 ∷ 111 ∷ 108 ∷ 108 ∷ 115 ∷ 32 ∷ 54 ∷ 50 ∷ 48 ∷ [])))
unfolding say_words words_of said spaced payload_of tagged ended all all_of one ◌&◌ number_below number_word item_word part_word fixed_word bytes_word bytes_of each piece_of digits_word decode_pairs listed times_of weighed_word value_word if_some nodes_field transfer_word block_of blocks_of start_field kinds_of long_as long_words line_of encode_with number
line_46 = refl

-- drill.txt
pub line_47 : say_words [] (words_of (codes "> last ad2b871655f4895bb3ccfd2d287fb634f3b9fe1d75787fdc0153e415f8edcc86")) ≡ Ok (Frame ((17 ∷ 0 ∷ 0 ∷ 0 ∷ 69 ∷ 108 ∷ 97 ∷ 115 ∷ 116 ∷ 32 ∷ 97 ∷ 100 ∷ 50 ∷ 98 ∷ 56 ∷ 55 ∷ 49 ∷ 54 ∷ 53 ∷ 53 ∷ 102 ∷ 52 ∷ 56 ∷ 57 ∷ 53 ∷ 98 ∷ 98 ∷ 51 ∷ 99 ∷ 99 ∷ 102 ∷ 100 ∷ 50 ∷ 100 ∷ 50 ∷ 56 ∷ 55 ∷ 102 ∷ 98 ∷ 54 ∷ 51 ∷ 52 ∷ 102 ∷ 51 ∷ 98 ∷ 57 ∷ 102 ∷ 101 ∷ 49 ∷ 100 ∷ 55 ∷ 53 ∷ 55 ∷ 56 ∷ 55 ∷ 102 ∷ 100 ∷ 99 ∷ 48 ∷ 49 ∷ 53 ∷ 51 ∷ 101 ∷ 52 ∷ 49 ∷ 53 ∷ 102 ∷ 56 ∷ 101 ∷ 100 ∷ 99 ∷ 99 ∷ 56 ∷ 54 ∷ [])))
unfolding say_words words_of said spaced payload_of tagged ended all all_of one ◌&◌ number_below number_word item_word part_word fixed_word bytes_word bytes_of each piece_of digits_word decode_pairs listed times_of weighed_word value_word if_some nodes_field transfer_word block_of blocks_of start_field kinds_of long_as long_words line_of encode_with number
line_47 = refl

-- drill.txt
pub line_48 : say_words [] (words_of (codes "> sha256 6330226b7da39e6dd6c0d5df3e35758e3334c9a951f68701772799d375fb38c1")) ≡ Ok (Frame ((17 ∷ 0 ∷ 0 ∷ 0 ∷ 71 ∷ 115 ∷ 104 ∷ 97 ∷ 50 ∷ 53 ∷ 54 ∷ 32 ∷ 54 ∷ 51 ∷ 51 ∷ 48 ∷ 50 ∷ 50 ∷ 54 ∷ 98 ∷ 55 ∷ 100 ∷ 97 ∷ 51 ∷ 57 ∷ 101 ∷ 54 ∷ 100 ∷ 100 ∷ 54 ∷ 99 ∷ 48 ∷ 100 ∷ 53 ∷ 100 ∷ 102 ∷ 51 ∷ 101 ∷ 51 ∷ 53 ∷ 55 ∷ 53 ∷ 56 ∷ 101 ∷ 51 ∷ 51 ∷ 51 ∷ 52 ∷ 99 ∷ 57 ∷ 97 ∷ 57 ∷ 53 ∷ 49 ∷ 102 ∷ 54 ∷ 56 ∷ 55 ∷ 48 ∷ 49 ∷ 55 ∷ 55 ∷ 50 ∷ 55 ∷ 57 ∷ 57 ∷ 100 ∷ 51 ∷ 55 ∷ 53 ∷ 102 ∷ 98 ∷ 51 ∷ 56 ∷ 99 ∷ 49 ∷ [])))
unfolding say_words words_of said spaced payload_of tagged ended all all_of one ◌&◌ number_below number_word item_word part_word fixed_word bytes_word bytes_of each piece_of digits_word decode_pairs listed times_of weighed_word value_word if_some nodes_field transfer_word block_of blocks_of start_field kinds_of long_as long_words line_of encode_with number
line_48 = refl

-- empty-payload.txt
pub line_49 : say_words [] (words_of (codes "frame .")) ≡ Ok (Frame ([]))
unfolding say_words words_of said spaced payload_of tagged ended all all_of one ◌&◌ number_below number_word item_word part_word fixed_word bytes_word bytes_of each piece_of digits_word decode_pairs listed times_of weighed_word value_word if_some nodes_field transfer_word block_of blocks_of start_field kinds_of long_as long_words line_of encode_with number
line_49 = refl

-- empty-payload.txt
pub line_50 : say_words [] (words_of (codes "> skip 2 short")) ≡ Ok (Frame ((17 ∷ 0 ∷ 0 ∷ 0 ∷ 12 ∷ 115 ∷ 107 ∷ 105 ∷ 112 ∷ 32 ∷ 50 ∷ 32 ∷ 115 ∷ 104 ∷ 111 ∷ 114 ∷ 116 ∷ [])))
unfolding say_words words_of said spaced payload_of tagged ended all all_of one ◌&◌ number_below number_word item_word part_word fixed_word bytes_word bytes_of each piece_of digits_word decode_pairs listed times_of weighed_word value_word if_some nodes_field transfer_word block_of blocks_of start_field kinds_of long_as long_words line_of encode_with number
line_50 = refl

-- ledger-accounts.txt
pub line_51 : say_words [] (words_of (codes "start k=1 alpha-preference=1 alpha-confidence=1 beta=1 repolls=1 boot=0 last=00.. height=0 state=10,0,0,0")) ≡ Ok (Frame ((1 ∷ 0 ∷ 0 ∷ 0 ∷ 1 ∷ 0 ∷ 0 ∷ 0 ∷ 1 ∷ 0 ∷ 0 ∷ 0 ∷ 1 ∷ 0 ∷ 0 ∷ 0 ∷ 1 ∷ 0 ∷ 0 ∷ 0 ∷ 1 ∷ []) ++ (replicate 42 0) ++ (4 ∷ []) ++ (replicate 7 0) ++ (10 ∷ []) ++ (replicate 26 0)))
unfolding say_words words_of said spaced payload_of tagged ended all all_of one ◌&◌ number_below number_word item_word part_word fixed_word bytes_word bytes_of each piece_of digits_word decode_pairs listed times_of weighed_word value_word if_some nodes_field transfer_word block_of blocks_of start_field kinds_of long_as long_words line_of encode_with number
line_51 = refl

-- ledger-state-of-odd-length.txt
pub line_52 : say_words [] (words_of (codes "start k=1 alpha-preference=1 alpha-confidence=1 beta=1 repolls=1 boot=0 last=ff.. height=0 state=1")) ≡ Ok (Frame ((1 ∷ 0 ∷ 0 ∷ 0 ∷ 1 ∷ 0 ∷ 0 ∷ 0 ∷ 1 ∷ 0 ∷ 0 ∷ 0 ∷ 1 ∷ 0 ∷ 0 ∷ 0 ∷ 1 ∷ 0 ∷ 0 ∷ 0 ∷ 1 ∷ 0 ∷ 255 ∷ []) ++ (replicate 40 0) ++ (1 ∷ []) ++ (replicate 7 0) ++ (1 ∷ 0 ∷ 0 ∷ [])))
unfolding say_words words_of said spaced payload_of tagged ended all all_of one ◌&◌ number_below number_word item_word part_word fixed_word bytes_word bytes_of each piece_of digits_word decode_pairs listed times_of weighed_word value_word if_some nodes_field transfer_word block_of blocks_of start_field kinds_of long_as long_words line_of encode_with number
line_52 = refl

-- more-draws-than-weight.txt
pub line_53 : say_words [] (words_of (codes "validators 01*20:5  # a later query finds the two words, and they are too few")) ≡ Ok (Frame ((11 ∷ 0 ∷ []) ++ (replicate 21 1) ++ (replicate 7 0) ++ (5 ∷ [])))
unfolding say_words words_of said spaced payload_of tagged ended all all_of one ◌&◌ number_below number_word item_word part_word fixed_word bytes_word bytes_of each piece_of digits_word decode_pairs listed times_of weighed_word value_word if_some nodes_field transfer_word block_of blocks_of start_field kinds_of long_as long_words line_of encode_with number
line_53 = refl

-- no-frontier-then-nothing-to-fetch.txt
pub line_54 : say_words [] (words_of (codes "stored 616e79")) ≡ Ok (Frame ((10 ∷ 0 ∷ 0 ∷ 0 ∷ 3 ∷ 97 ∷ 110 ∷ 121 ∷ [])))
unfolding say_words words_of said spaced payload_of tagged ended all all_of one ◌&◌ number_below number_word item_word part_word fixed_word bytes_word bytes_of each piece_of digits_word decode_pairs listed times_of weighed_word value_word if_some nodes_field transfer_word block_of blocks_of start_field kinds_of long_as long_words line_of encode_with number
line_54 = refl

-- peers-ask-for-ancestors.txt
pub line_55 : say_words [] (words_of (codes "ask-query 02*20 7")) ≡ Ok (Frame ((12 ∷ []) ++ (replicate 20 2) ++ (0 ∷ 0 ∷ 0 ∷ 7 ∷ [])))
unfolding say_words words_of said spaced payload_of tagged ended all all_of one ◌&◌ number_below number_word item_word part_word fixed_word bytes_word bytes_of each piece_of digits_word decode_pairs listed times_of weighed_word value_word if_some nodes_field transfer_word block_of blocks_of start_field kinds_of long_as long_words line_of encode_with number
line_55 = refl

-- peers-ask-for-ancestors.txt
pub line_56 : say_words [] (words_of (codes "> to-chits 02*20 7 01.. ff..")) ≡ Ok (Frame ((17 ∷ 0 ∷ 0 ∷ 0 ∷ 181 ∷ 116 ∷ 111 ∷ 45 ∷ 99 ∷ 104 ∷ 105 ∷ 116 ∷ 115 ∷ 32 ∷ 48 ∷ 50 ∷ 48 ∷ 50 ∷ 48 ∷ 50 ∷ 48 ∷ 50 ∷ 48 ∷ 50 ∷ 48 ∷ 50 ∷ 48 ∷ 50 ∷ 48 ∷ 50 ∷ 48 ∷ 50 ∷ 48 ∷ 50 ∷ 48 ∷ 50 ∷ 48 ∷ 50 ∷ 48 ∷ 50 ∷ 48 ∷ 50 ∷ 48 ∷ 50 ∷ 48 ∷ 50 ∷ 48 ∷ 50 ∷ 48 ∷ 50 ∷ 48 ∷ 50 ∷ 48 ∷ 50 ∷ 32 ∷ 55 ∷ 32 ∷ 48 ∷ 49 ∷ []) ++ (replicate 62 48) ++ (32 ∷ 102 ∷ 102 ∷ []) ++ (replicate 62 48)))
unfolding say_words words_of said spaced payload_of tagged ended all all_of one ◌&◌ number_below number_word item_word part_word fixed_word bytes_word bytes_of each piece_of digits_word decode_pairs listed times_of weighed_word value_word if_some nodes_field transfer_word block_of blocks_of start_field kinds_of long_as long_words line_of encode_with number
line_56 = refl

-- peers-ask-for-ancestors.txt
pub line_57 : say_words [] (words_of (codes "ask-frontier 02*20 8")) ≡ Ok (Frame ((13 ∷ []) ++ (replicate 20 2) ++ (0 ∷ 0 ∷ 0 ∷ 8 ∷ [])))
unfolding say_words words_of said spaced payload_of tagged ended all all_of one ◌&◌ number_below number_word item_word part_word fixed_word bytes_word bytes_of each piece_of digits_word decode_pairs listed times_of weighed_word value_word if_some nodes_field transfer_word block_of blocks_of start_field kinds_of long_as long_words line_of encode_with number
line_57 = refl

-- peers-ask-for-ancestors.txt
pub line_58 : say_words [] (words_of (codes "> to-frontier 02*20 8 01..")) ≡ Ok (Frame ((17 ∷ 0 ∷ 0 ∷ 0 ∷ 119 ∷ 116 ∷ 111 ∷ 45 ∷ 102 ∷ 114 ∷ 111 ∷ 110 ∷ 116 ∷ 105 ∷ 101 ∷ 114 ∷ 32 ∷ 48 ∷ 50 ∷ 48 ∷ 50 ∷ 48 ∷ 50 ∷ 48 ∷ 50 ∷ 48 ∷ 50 ∷ 48 ∷ 50 ∷ 48 ∷ 50 ∷ 48 ∷ 50 ∷ 48 ∷ 50 ∷ 48 ∷ 50 ∷ 48 ∷ 50 ∷ 48 ∷ 50 ∷ 48 ∷ 50 ∷ 48 ∷ 50 ∷ 48 ∷ 50 ∷ 48 ∷ 50 ∷ 48 ∷ 50 ∷ 48 ∷ 50 ∷ 48 ∷ 50 ∷ 48 ∷ 50 ∷ 32 ∷ 56 ∷ 32 ∷ 48 ∷ 49 ∷ []) ++ (replicate 62 48)))
unfolding say_words words_of said spaced payload_of tagged ended all all_of one ◌&◌ number_below number_word item_word part_word fixed_word bytes_word bytes_of each piece_of digits_word decode_pairs listed times_of weighed_word value_word if_some nodes_field transfer_word block_of blocks_of start_field kinds_of long_as long_words line_of encode_with number
line_58 = refl

-- peers-ask-for-ancestors.txt
pub line_59 : say_words [] (words_of (codes "ask-accepted 02*20 9 ff.. 02.. 01..")) ≡ Ok (Frame ((14 ∷ []) ++ (replicate 20 2) ++ (0 ∷ 0 ∷ 0 ∷ 9 ∷ 0 ∷ 3 ∷ 255 ∷ []) ++ (replicate 31 0) ++ (2 ∷ []) ++ (replicate 31 0) ++ (1 ∷ []) ++ (replicate 31 0)))
unfolding say_words words_of said spaced payload_of tagged ended all all_of one ◌&◌ number_below number_word item_word part_word fixed_word bytes_word bytes_of each piece_of digits_word decode_pairs listed times_of weighed_word value_word if_some nodes_field transfer_word block_of blocks_of start_field kinds_of long_as long_words line_of encode_with number
line_59 = refl

-- peers-ask-for-ancestors.txt
pub line_60 : say_words [] (words_of (codes "> to-accepted 02*20 9 ff.. 01..")) ≡ Ok (Frame ((17 ∷ 0 ∷ 0 ∷ 0 ∷ 184 ∷ 116 ∷ 111 ∷ 45 ∷ 97 ∷ 99 ∷ 99 ∷ 101 ∷ 112 ∷ 116 ∷ 101 ∷ 100 ∷ 32 ∷ 48 ∷ 50 ∷ 48 ∷ 50 ∷ 48 ∷ 50 ∷ 48 ∷ 50 ∷ 48 ∷ 50 ∷ 48 ∷ 50 ∷ 48 ∷ 50 ∷ 48 ∷ 50 ∷ 48 ∷ 50 ∷ 48 ∷ 50 ∷ 48 ∷ 50 ∷ 48 ∷ 50 ∷ 48 ∷ 50 ∷ 48 ∷ 50 ∷ 48 ∷ 50 ∷ 48 ∷ 50 ∷ 48 ∷ 50 ∷ 48 ∷ 50 ∷ 48 ∷ 50 ∷ 48 ∷ 50 ∷ 32 ∷ 57 ∷ 32 ∷ 102 ∷ 102 ∷ []) ++ (replicate 62 48) ++ (32 ∷ 48 ∷ 49 ∷ []) ++ (replicate 62 48)))
unfolding say_words words_of said spaced payload_of tagged ended all all_of one ◌&◌ number_below number_word item_word part_word fixed_word bytes_word bytes_of each piece_of digits_word decode_pairs listed times_of weighed_word value_word if_some nodes_field transfer_word block_of blocks_of start_field kinds_of long_as long_words line_of encode_with number
line_60 = refl

-- peers-ask-for-ancestors.txt
pub line_61 : say_words [] (words_of (codes "ask-block 02*20 10 01..")) ≡ Ok (Frame ((16 ∷ []) ++ (replicate 20 2) ++ (0 ∷ 0 ∷ 0 ∷ 10 ∷ 1 ∷ []) ++ (replicate 31 0)))
unfolding say_words words_of said spaced payload_of tagged ended all all_of one ◌&◌ number_below number_word item_word part_word fixed_word bytes_word bytes_of each piece_of digits_word decode_pairs listed times_of weighed_word value_word if_some nodes_field transfer_word block_of blocks_of start_field kinds_of long_as long_words line_of encode_with number
line_61 = refl

-- peers-ask-for-ancestors.txt
pub line_62 : say_words [] (words_of (codes "ask-ancestors 02*20 11 05..")) ≡ Ok (Frame ((15 ∷ []) ++ (replicate 20 2) ++ (0 ∷ 0 ∷ 0 ∷ 11 ∷ 5 ∷ []) ++ (replicate 31 0)))
unfolding say_words words_of said spaced payload_of tagged ended all all_of one ◌&◌ number_below number_word item_word part_word fixed_word bytes_word bytes_of each piece_of digits_word decode_pairs listed times_of weighed_word value_word if_some nodes_field transfer_word block_of blocks_of start_field kinds_of long_as long_words line_of encode_with number
line_62 = refl

-- polls-closed-early.txt
pub line_63 : say_words [] (words_of (codes "> query 1 01.. 01*20*1 02*20*1 03*20*1 04*20*1 05*20*1")) ≡ Ok (Frame ((17 ∷ 0 ∷ 0 ∷ 1 ∷ 31 ∷ 113 ∷ 117 ∷ 101 ∷ 114 ∷ 121 ∷ 32 ∷ 49 ∷ 32 ∷ 48 ∷ 49 ∷ []) ++ (replicate 62 48) ++ (32 ∷ 48 ∷ 49 ∷ 48 ∷ 49 ∷ 48 ∷ 49 ∷ 48 ∷ 49 ∷ 48 ∷ 49 ∷ 48 ∷ 49 ∷ 48 ∷ 49 ∷ 48 ∷ 49 ∷ 48 ∷ 49 ∷ 48 ∷ 49 ∷ 48 ∷ 49 ∷ 48 ∷ 49 ∷ 48 ∷ 49 ∷ 48 ∷ 49 ∷ 48 ∷ 49 ∷ 48 ∷ 49 ∷ 48 ∷ 49 ∷ 48 ∷ 49 ∷ 48 ∷ 49 ∷ 48 ∷ 49 ∷ 42 ∷ 49 ∷ 32 ∷ 48 ∷ 50 ∷ 48 ∷ 50 ∷ 48 ∷ 50 ∷ 48 ∷ 50 ∷ 48 ∷ 50 ∷ 48 ∷ 50 ∷ 48 ∷ 50 ∷ 48 ∷ 50 ∷ 48 ∷ 50 ∷ 48 ∷ 50 ∷ 48 ∷ 50 ∷ 48 ∷ 50 ∷ 48 ∷ 50 ∷ 48 ∷ 50 ∷ 48 ∷ 50 ∷ 48 ∷ 50 ∷ 48 ∷ 50 ∷ 48 ∷ 50 ∷ 48 ∷ 50 ∷ 48 ∷ 50 ∷ 42 ∷ 49 ∷ 32 ∷ 48 ∷ 51 ∷ 48 ∷ 51 ∷ 48 ∷ 51 ∷ 48 ∷ 51 ∷ 48 ∷ 51 ∷ 48 ∷ 51 ∷ 48 ∷ 51 ∷ 48 ∷ 51 ∷ 48 ∷ 51 ∷ 48 ∷ 51 ∷ 48 ∷ 51 ∷ 48 ∷ 51 ∷ 48 ∷ 51 ∷ 48 ∷ 51 ∷ 48 ∷ 51 ∷ 48 ∷ 51 ∷ 48 ∷ 51 ∷ 48 ∷ 51 ∷ 48 ∷ 51 ∷ 48 ∷ 51 ∷ 42 ∷ 49 ∷ 32 ∷ 48 ∷ 52 ∷ 48 ∷ 52 ∷ 48 ∷ 52 ∷ 48 ∷ 52 ∷ 48 ∷ 52 ∷ 48 ∷ 52 ∷ 48 ∷ 52 ∷ 48 ∷ 52 ∷ 48 ∷ 52 ∷ 48 ∷ 52 ∷ 48 ∷ 52 ∷ 48 ∷ 52 ∷ 48 ∷ 52 ∷ 48 ∷ 52 ∷ 48 ∷ 52 ∷ 48 ∷ 52 ∷ 48 ∷ 52 ∷ 48 ∷ 52 ∷ 48 ∷ 52 ∷ 48 ∷ 52 ∷ 42 ∷ 49 ∷ 32 ∷ 48 ∷ 53 ∷ 48 ∷ 53 ∷ 48 ∷ 53 ∷ 48 ∷ 53 ∷ 48 ∷ 53 ∷ 48 ∷ 53 ∷ 48 ∷ 53 ∷ 48 ∷ 53 ∷ 48 ∷ 53 ∷ 48 ∷ 53 ∷ 48 ∷ 53 ∷ 48 ∷ 53 ∷ 48 ∷ 53 ∷ 48 ∷ 53 ∷ 48 ∷ 53 ∷ 48 ∷ 53 ∷ 48 ∷ 53 ∷ 48 ∷ 53 ∷ 48 ∷ 53 ∷ 48 ∷ 53 ∷ 42 ∷ 49 ∷ [])))
unfolding say_words words_of said spaced payload_of tagged ended all all_of one ◌&◌ number_below number_word item_word part_word fixed_word bytes_word bytes_of each piece_of digits_word decode_pairs listed times_of weighed_word value_word if_some nodes_field transfer_word block_of blocks_of start_field kinds_of long_as long_words line_of encode_with number
line_63 = refl

-- tally-block-at-a-wrong-height.txt
pub line_64 : say_words [] (words_of (codes "> drop f5a5fd42d16a20302798ef6ed309979b43003d2320d9f0e8ea9831a92759fb4b invalid")) ≡ Ok (Frame ((17 ∷ 0 ∷ 0 ∷ 0 ∷ 77 ∷ 100 ∷ 114 ∷ 111 ∷ 112 ∷ 32 ∷ 102 ∷ 53 ∷ 97 ∷ 53 ∷ 102 ∷ 100 ∷ 52 ∷ 50 ∷ 100 ∷ 49 ∷ 54 ∷ 97 ∷ 50 ∷ 48 ∷ 51 ∷ 48 ∷ 50 ∷ 55 ∷ 57 ∷ 56 ∷ 101 ∷ 102 ∷ 54 ∷ 101 ∷ 100 ∷ 51 ∷ 48 ∷ 57 ∷ 57 ∷ 55 ∷ 57 ∷ 98 ∷ 52 ∷ 51 ∷ 48 ∷ 48 ∷ 51 ∷ 100 ∷ 50 ∷ 51 ∷ 50 ∷ 48 ∷ 100 ∷ 57 ∷ 102 ∷ 48 ∷ 101 ∷ 56 ∷ 101 ∷ 97 ∷ 57 ∷ 56 ∷ 51 ∷ 49 ∷ 97 ∷ 57 ∷ 50 ∷ 55 ∷ 53 ∷ 57 ∷ 102 ∷ 98 ∷ 52 ∷ 98 ∷ 32 ∷ 105 ∷ 110 ∷ 118 ∷ 97 ∷ 108 ∷ 105 ∷ 100 ∷ [])))
unfolding say_words words_of said spaced payload_of tagged ended all all_of one ◌&◌ number_below number_word item_word part_word fixed_word bytes_word bytes_of each piece_of digits_word decode_pairs listed times_of weighed_word value_word if_some nodes_field transfer_word block_of blocks_of start_field kinds_of long_as long_words line_of encode_with number
line_64 = refl

-- validators-refused.txt
pub line_65 : say_words [] (words_of (codes "validators")) ≡ Ok (Frame ((11 ∷ 0 ∷ 0 ∷ [])))
unfolding say_words words_of said spaced payload_of tagged ended all all_of one ◌&◌ number_below number_word item_word part_word fixed_word bytes_word bytes_of each piece_of digits_word decode_pairs listed times_of weighed_word value_word if_some nodes_field transfer_word block_of blocks_of start_field kinds_of long_as long_words line_of encode_with number
line_65 = refl

-- words-become-draws.txt
pub line_66 : say_words [] (words_of (codes "words 13 9223372036854775807 9 9223372036854775818 2")) ≡ Ok (Frame ((4 ∷ 0 ∷ 5 ∷ []) ++ (replicate 7 0) ++ (13 ∷ 127 ∷ []) ++ (replicate 7 255) ++ (replicate 7 0) ++ (9 ∷ 128 ∷ []) ++ (replicate 6 0) ++ (10 ∷ []) ++ (replicate 7 0) ++ (2 ∷ [])))
unfolding say_words words_of said spaced payload_of tagged ended all all_of one ◌&◌ number_below number_word item_word part_word fixed_word bytes_word bytes_of each piece_of digits_word decode_pairs listed times_of weighed_word value_word if_some nodes_field transfer_word block_of blocks_of start_field kinds_of long_as long_words line_of encode_with number
line_66 = refl

-- the table of lines in docs/FORMATS.md
pub line_67 : say_words [] (words_of (codes "block 01*20 0 tally 00.. 1 7")) ≡ Ok (Frame ((2 ∷ []) ++ (replicate 20 1) ++ (replicate 7 0) ++ (48 ∷ []) ++ (replicate 39 0) ++ (1 ∷ []) ++ (replicate 7 0) ++ (7 ∷ [])))
unfolding say_words words_of said spaced payload_of tagged ended all all_of one ◌&◌ number_below number_word item_word part_word fixed_word bytes_word bytes_of each piece_of digits_word decode_pairs listed times_of weighed_word value_word if_some nodes_field transfer_word block_of blocks_of start_field kinds_of long_as long_words line_of encode_with number
line_67 = refl

-- the table of lines in docs/FORMATS.md
pub line_68 : say_words [] (words_of (codes "block 01*20 0 tally 01.. 18446744073709551615 7 0102 03*5")) ≡ Ok (Frame ((2 ∷ []) ++ (replicate 20 1) ++ (replicate 7 0) ++ (55 ∷ 1 ∷ []) ++ (replicate 31 0) ++ (replicate 8 255) ++ (replicate 7 0) ++ (7 ∷ 1 ∷ 2 ∷ []) ++ (replicate 5 3)))
unfolding say_words words_of said spaced payload_of tagged ended all all_of one ◌&◌ number_below number_word item_word part_word fixed_word bytes_word bytes_of each piece_of digits_word decode_pairs listed times_of weighed_word value_word if_some nodes_field transfer_word block_of blocks_of start_field kinds_of long_as long_words line_of encode_with number
line_68 = refl

-- the table of lines in docs/FORMATS.md
pub line_69 : say_words [] (words_of (codes "block 01*20 0 ledger 00.. 1 0>1:7@0 1>0:2@18446744073709551615")) ≡ Ok (Frame ((2 ∷ []) ++ (replicate 20 1) ++ (replicate 7 0) ++ (82 ∷ []) ++ (replicate 39 0) ++ (1 ∷ 0 ∷ 2 ∷ 0 ∷ 0 ∷ 0 ∷ 1 ∷ []) ++ (replicate 7 0) ++ (7 ∷ []) ++ (replicate 9 0) ++ (1 ∷ []) ++ (replicate 9 0) ++ (2 ∷ []) ++ (replicate 8 255)))
unfolding say_words words_of said spaced payload_of tagged ended all all_of one ◌&◌ number_below number_word item_word part_word fixed_word bytes_word bytes_of each piece_of digits_word decode_pairs listed times_of weighed_word value_word if_some nodes_field transfer_word block_of blocks_of start_field kinds_of long_as long_words line_of encode_with number
line_69 = refl

-- the table of lines in docs/FORMATS.md
pub line_70 : say_words [] (words_of (codes "block 01*20 4294967295 ledger 00.. 1")) ≡ Ok (Frame ((2 ∷ []) ++ (replicate 20 1) ++ (replicate 4 255) ++ (0 ∷ 0 ∷ 0 ∷ 42 ∷ []) ++ (replicate 39 0) ++ (1 ∷ 0 ∷ 0 ∷ [])))
unfolding say_words words_of said spaced payload_of tagged ended all all_of one ◌&◌ number_below number_word item_word part_word fixed_word bytes_word bytes_of each piece_of digits_word decode_pairs listed times_of weighed_word value_word if_some nodes_field transfer_word block_of blocks_of start_field kinds_of long_as long_words line_of encode_with number
line_70 = refl

-- the table of lines in docs/FORMATS.md
pub line_71 : say_words [] (words_of (codes "block 01*20 0 plain 01.. ff.. 1 0 aa+bb")) ≡ Ok (Frame ((2 ∷ []) ++ (replicate 20 1) ++ (replicate 7 0) ++ (75 ∷ 1 ∷ []) ++ (replicate 31 0) ++ (255 ∷ []) ++ (replicate 38 0) ++ (1 ∷ 0 ∷ 170 ∷ 187 ∷ [])))
unfolding say_words words_of said spaced payload_of tagged ended all all_of one ◌&◌ number_below number_word item_word part_word fixed_word bytes_word bytes_of each piece_of digits_word decode_pairs listed times_of weighed_word value_word if_some nodes_field transfer_word block_of blocks_of start_field kinds_of long_as long_words line_of encode_with number
line_71 = refl

-- the table of lines in docs/FORMATS.md
pub line_72 : say_words [] (words_of (codes "start k=4294967295 alpha-preference=0 alpha-confidence=1 beta=2 repolls=3 boot=255 last=01*3.. height=18446744073709551615 state=1,0*3 nodes=01*20:3,02..:1")) ≡ Ok (Frame ((1 ∷ []) ++ (replicate 4 255) ++ (replicate 7 0) ++ (1 ∷ 0 ∷ 0 ∷ 0 ∷ 2 ∷ 0 ∷ 0 ∷ 0 ∷ 3 ∷ 255 ∷ 1 ∷ 1 ∷ 1 ∷ []) ++ (replicate 29 0) ++ (replicate 8 255) ++ (0 ∷ 4 ∷ []) ++ (replicate 7 0) ++ (1 ∷ []) ++ (replicate 25 0) ++ (2 ∷ []) ++ (replicate 20 1) ++ (replicate 7 0) ++ (3 ∷ 2 ∷ []) ++ (replicate 26 0) ++ (1 ∷ [])))
unfolding say_words words_of said spaced payload_of tagged ended all all_of one ◌&◌ number_below number_word item_word part_word fixed_word bytes_word bytes_of each piece_of digits_word decode_pairs listed times_of weighed_word value_word if_some nodes_field transfer_word block_of blocks_of start_field kinds_of long_as long_words line_of encode_with number
line_72 = refl

-- the table of lines in docs/FORMATS.md
pub line_73 : say_words [] (words_of (codes "ancestors 01*20 3 .,01 02 , tally 00.. 1 1")) ≡ Ok (Frame ((9 ∷ []) ++ (replicate 20 1) ++ (0 ∷ 0 ∷ 0 ∷ 3 ∷ 0 ∷ 3 ∷ []) ++ (replicate 7 0) ++ (2 ∷ 1 ∷ 2 ∷ 0 ∷ 0 ∷ 0 ∷ 48 ∷ []) ++ (replicate 39 0) ++ (1 ∷ []) ++ (replicate 7 0) ++ (1 ∷ [])))
unfolding say_words words_of said spaced payload_of tagged ended all all_of one ◌&◌ number_below number_word item_word part_word fixed_word bytes_word bytes_of each piece_of digits_word decode_pairs listed times_of weighed_word value_word if_some nodes_field transfer_word block_of blocks_of start_field kinds_of long_as long_words line_of encode_with number
line_73 = refl

-- the table of lines in docs/FORMATS.md
pub line_74 : say_words [] (words_of (codes "chits 0102+03*5.. 007 00..")) ≡ Ok (Frame ((5 ∷ 1 ∷ 2 ∷ []) ++ (replicate 5 3) ++ (replicate 16 0) ++ (7 ∷ []) ++ (replicate 32 0)))
unfolding say_words words_of said spaced payload_of tagged ended all all_of one ◌&◌ number_below number_word item_word part_word fixed_word bytes_word bytes_of each piece_of digits_word decode_pairs listed times_of weighed_word value_word if_some nodes_field transfer_word block_of blocks_of start_field kinds_of long_as long_words line_of encode_with number
line_74 = refl
