-- How long the spelling of an event is.
use Rattle.std.proofs.Common.{◌≡◌, ℕ, ◌+◌, ◌*◌, List, [], ◌∷◌, ◌++◌, length, All, refl, arith}
use Rattle.std.specs.Prelude.{sum_by}
use Rattle.std.specs.List.{flat_map}
use Rattle.std.proofs.lemmas.List.{length-append}
use Rattle.std.proofs.lemmas.List.Elements.{All-tail}
use Rattle.std.proofs.lemmas.List.Sums.{sum_by-cons}
use Rattle.byteorder.specs.Numbers.{length-bytes_high_first}
use Rattle.snow_wire.specs.declared.event.Event.TheVariants as event
use Rattle.snow_wire.specs.declared.event.Start.{Start}
use Rattle.snow_wire.specs.Model.Spelling.{number, sized, counted, weighed, sender, flag, parameters, start, spelling, IsId, IsWeighed, IsSender}
use Rattle.snow_wire.specs.Laws.FrameLaw.{FrameLaw}

long_number : (n x : ℕ) → length (number n x) ≡ n
unfolding number
long_number n x = length-bytes_high_first n x

long_sized : (bytes : List ℕ) → length (sized bytes) ≡ 4 + length bytes
long_sized bytes = omega (arith, length-append (number 4 (length bytes)) bytes, long_number 4 (length bytes))

long_counted : {A : Type 0} (item : A → List ℕ) (items : List A) → length (counted item items) ≡ 2 + length (flat_map item items)
long_counted item items = omega (arith, length-append (number 2 (length items)) (flat_map item items), long_number 2 (length items))

long_sender : (node : List ℕ) (request : ℕ) → length node ≡ 20 → length (sender node request) ≡ 24
long_sender node request is = omega (arith, is, length-append node (number 4 request), long_number 4 request)

-- ---- lists

long_words : (words : List ℕ) → length (flat_map (number 8) words) ≡ 8 * length words
long_words [] = refl
long_words (x ∷ words) = omega (arith, length-append (number 8 x) (flat_map (number 8) words), long_number 8 x, long_words words)

long_ids : (ids : List (List ℕ)) → All IsId ids → length (flat_map (λ id. id) ids) ≡ 32 * length ids
long_ids [] each = refl
long_ids (id ∷ ids) each = omega (arith, length-append id (flat_map (λ id. id) ids), each 0 [] (omega arith), long_ids ids (All-tail IsId id ids each))

long_weighed : (n : List ℕ × ℕ) → IsWeighed n → length (weighed n) ≡ 28
long_weighed n is = omega (arith, length-append n.0 (number 8 n.1), is.0, long_number 8 n.1)

long_nodes : (nodes : List (List ℕ × ℕ)) → All IsWeighed nodes → length (flat_map weighed nodes) ≡ 28 * length nodes
long_nodes [] each = refl
long_nodes (n ∷ nodes) each = omega (arith, length-append (weighed n) (flat_map weighed nodes), long_weighed n (each 0 ([], 0) (omega arith)), long_nodes nodes (All-tail IsWeighed n nodes each))

long_blocks : (blocks : List (List ℕ)) → length (flat_map sized blocks) ≡ 4 * length blocks + sum_by length blocks
long_blocks [] = refl
long_blocks (b ∷ blocks) = omega (arith, length-append (sized b) (flat_map sized blocks), long_sized b, long_blocks blocks, sum_by-cons length b blocks)

-- ---- a Start

long_five : (a b c d e : List ℕ) → length (a ++ b ++ c ++ d ++ e) ≡ length a + length b + length c + length d + length e
long_five a b c d e =
    omega (arith, length-append (a ++ b ++ c ++ d) e, length-append (a ++ b ++ c) d, length-append (a ++ b) c, length-append a b)

long_parameters : (s : Start) → length (parameters s) ≡ 20
long_parameters s =
    omega (
      arith,
      long_five (number 4 s.k) (number 4 s.alpha_preference) (number 4 s.alpha_confidence) (number 4 s.beta) (number 4 s.repolls),
      long_number 4 s.k,
      long_number 4 s.alpha_preference,
      long_number 4 s.alpha_confidence,
      long_number 4 s.beta,
      long_number 4 s.repolls,
    )

long_start : (s : Start) → IsId s.last → All IsWeighed s.nodes → length (start s) ≡ 65 + 8 * length s.state + 28 * length s.nodes
long_start s last nodes =
    omega (
      arith,
      last,
      long_five (parameters s) (flag s.boot ∷ s.last) (number 8 s.height) (counted (number 8) s.state) (counted weighed s.nodes),
      long_parameters s,
      long_number 8 s.height,
      long_counted (number 8) s.state,
      long_words s.state,
      long_counted weighed s.nodes,
      long_nodes s.nodes nodes,
    )

-- ---- each event

long_list : (node : List ℕ) (request : ℕ) (ids : List (List ℕ)) → IsSender node request → All IsId ids
    → length (sender node request ++ counted (λ id. id) ids) ≡ 26 + 32 * length ids
long_list node request ids from each =
    omega (
      arith,
      length-append (sender node request) (counted (λ id. id) ids),
      long_sender node request from.0,
      long_counted (λ id. id) ids,
      long_ids ids each,
    )

long_name : (node : List ℕ) (request : ℕ) (id : List ℕ) → IsSender node request → IsId id → length (sender node request ++ id) ≡ 56
long_name node request id from is = omega (arith, length-append (sender node request) id, long_sender node request from.0, is)

pub frame_holds : FrameLaw
unfolding spelling
frame_holds (event.Start s) range answered = omega (arith, long_start s range.0.last range.0.nodes, range.1.0, range.1.1)
frame_holds (event.Block node request bytes) range answered =
    omega (arith, length-append (sender node request) (sized bytes), long_sender node request range.0.0, long_sized bytes, range.1)
frame_holds (event.Poll ids) range answered = omega (arith, long_counted (λ id. id) ids, long_ids ids range.0, range.1)
frame_holds (event.Words words) range answered = omega (arith, long_counted (number 8) words, long_words words, range.1)
frame_holds (event.Chits node request id) range answered = omega (arith, long_name node request id range.0.0 range.0.1)
frame_holds (event.Timeout node request) range answered = omega (arith, long_sender node request range.0.0)
frame_holds (event.Frontier node request id) range answered = omega (arith, long_name node request id range.0.0 range.0.1)
frame_holds (event.Accepted node request ids) range answered = omega (arith, long_list node request ids range.0.0 range.0.1, range.1)
frame_holds (event.Ancestors node request blocks) range answered =
    omega (
      arith,
      length-append (sender node request) (counted sized blocks),
      long_sender node request range.0.0,
      long_counted sized blocks,
      long_blocks blocks,
      answered.0,
      answered.1,
    )
frame_holds (event.Stored bytes) range answered = omega (arith, long_sized bytes, range.1)
frame_holds (event.Validators nodes) range answered = omega (arith, long_counted weighed nodes, long_nodes nodes range.0, range.1)
frame_holds (event.AskQuery node request) range answered = omega (arith, long_sender node request range.0.0)
frame_holds (event.AskFrontier node request) range answered = omega (arith, long_sender node request range.0.0)
frame_holds (event.AskAccepted node request ids) range answered = omega (arith, long_list node request ids range.0.0 range.0.1, range.1)
frame_holds (event.AskAncestors node request id) range answered = omega (arith, long_name node request id range.0.0 range.0.1)
frame_holds (event.AskBlock node request id) range answered = omega (arith, long_name node request id range.0.0 range.0.1)
frame_holds (event.Line text) range answered = omega (arith, long_sized text, range.1)
