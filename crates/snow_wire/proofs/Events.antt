-- Each event in range is read back from its spelling, and what is read is spelled so.
use Rattle.std.proofs.Common.{◌≡◌, ℕ, zero, suc, ◌+◌, ◌%◌, ◌^◌, ◌<◌, ◌≤◌, cond, ◌==◌, get_or, List, [], ◌∷◌, ◌++◌, length, All, Result, Ok, Err, refl, sym, ap, subst, ◌∙◌, append-nil, arith}
use Rattle.std.specs.Prelude.{IfOk}
use Rattle.std.proofs.lemmas.Bool.{eqb-true}
use Rattle.std.proofs.lemmas.List.{nil_from_length}
use Rattle.snow_wire.specs.declared.event.Event.{Event}
use Rattle.snow_wire.specs.declared.event.Event.TheVariants as event
use Rattle.snow_wire.specs.declared.skip.Fault.TheVariants.{Extra}
use Rattle.snow_wire.specs.declared.skip.Skip.{Skip}
use Rattle.snow_wire.specs.Model.Spelling.{number, spelling, start, sized, counted, weighed, IsId, IsWeighed, IsBlock, IsInRange}
use Rattle.snow_wire.specs.Model.Reading.{Gives, IsBytes, Read, number_at, id_at, block_at, sized_at, counted_at, weighed_at, single_at, sender_at, message_at, unknown_at, tags, fields_at, event_of}
use Rattle.snow_wire.proofs.Numbers.{width1, width8}
use Rattle.snow_wire.proofs.Fields.{IsField, by_step, again_then, bind_ok, when, bytes_field, number_field, sized_field, counted_field, weighed_field}
use Rattle.snow_wire.proofs.Tagged.{IsTagged, single_tagged, single_again, sender_tagged, sender_again, message_tagged, message_again}
use Rattle.snow_wire.proofs.Starting.{start_tagged, start_again}

-- ---- the fields that stand behind tags

id_field : IsField id_at (λ id. id) IsId
id_field = bytes_field 32

ids_field : (limit : ℕ) → limit < 256 ^ 2 → IsField (counted_at id_at limit) (counted (λ id. id)) (λ ids. (length ids ≤ limit) × All IsId ids)
ids_field limit small = counted_field id_field limit small

words_field : IsField (counted_at (number_at 8) 4096) (counted (number 8)) (λ ns. (length ns ≤ 4096) × All (λ n. n < 2 ^ 64) ns)
words_field = counted_field (number_field 8 width8) 4096 (omega arith)

nodes_field : IsField (counted_at weighed_at 4096) (counted weighed) (λ ns. (length ns ≤ 4096) × All IsWeighed ns)
nodes_field = counted_field weighed_field 4096 (omega arith)

block_field : IsField block_at sized IsBlock
block_field = sized_field 65536 (omega arith)

blocks_field : IsField (counted_at block_at 2048) (counted sized) (λ bs. (length bs ≤ 2048) × All IsBlock bs)
blocks_field = counted_field block_field 2048 (omega arith)

text_field : IsField (sized_at 1100000) sized (λ t. length t ≤ 1100000)
text_field = sized_field 1100000 (omega arith)

-- ---- each tag

block_tagged : IsTagged 2 (message_at block_at event.Block)
unfolding spelling
block_tagged = message_tagged block_field 2 event.Block (λ node request x sent good. record { spelled = refl; range = (sent, good) })

poll_tagged : IsTagged 3 (single_at (counted_at id_at 1024) event.Poll)
unfolding spelling
poll_tagged = single_tagged (ids_field 1024 (omega arith)) 3 event.Poll (λ x good. record { spelled = refl; range = (good.1, good.0) })

words_tagged : IsTagged 4 (single_at (counted_at (number_at 8) 4096) event.Words)
unfolding spelling
words_tagged = single_tagged words_field 4 event.Words (λ x good. record { spelled = refl; range = (good.1, good.0) })

chits_tagged : IsTagged 5 (message_at id_at event.Chits)
unfolding spelling
chits_tagged = message_tagged id_field 5 event.Chits (λ node request x sent good. record { spelled = refl; range = ((sent, good), tt) })

timeout_tagged : IsTagged 6 (sender_at event.Timeout)
unfolding spelling
timeout_tagged = sender_tagged 6 event.Timeout (λ node request sent. record { spelled = refl; range = (sent, tt) })

frontier_tagged : IsTagged 7 (message_at id_at event.Frontier)
unfolding spelling
frontier_tagged = message_tagged id_field 7 event.Frontier (λ node request x sent good. record { spelled = refl; range = ((sent, good), tt) })

accepted_tagged : IsTagged 8 (message_at (counted_at id_at 4096) event.Accepted)
unfolding spelling
accepted_tagged = message_tagged (ids_field 4096 (omega arith)) 8 event.Accepted (λ node request x sent good. record { spelled = refl; range = ((sent, good.1), good.0) })

ancestors_tagged : IsTagged 9 (message_at (counted_at block_at 2048) event.Ancestors)
unfolding spelling
ancestors_tagged = message_tagged blocks_field 9 event.Ancestors (λ node request x sent good. record { spelled = refl; range = (sent, good) })

stored_tagged : IsTagged 10 (single_at block_at event.Stored)
unfolding spelling
stored_tagged = single_tagged block_field 10 event.Stored (λ x good. record { spelled = refl; range = (tt, good) })

validators_tagged : IsTagged 11 (single_at (counted_at weighed_at 4096) event.Validators)
unfolding spelling
validators_tagged = single_tagged nodes_field 11 event.Validators (λ x good. record { spelled = refl; range = (good.1, good.0) })

ask_query_tagged : IsTagged 12 (sender_at event.AskQuery)
unfolding spelling
ask_query_tagged = sender_tagged 12 event.AskQuery (λ node request sent. record { spelled = refl; range = (sent, tt) })

ask_frontier_tagged : IsTagged 13 (sender_at event.AskFrontier)
unfolding spelling
ask_frontier_tagged = sender_tagged 13 event.AskFrontier (λ node request sent. record { spelled = refl; range = (sent, tt) })

ask_accepted_tagged : IsTagged 14 (message_at (counted_at id_at 4096) event.AskAccepted)
unfolding spelling
ask_accepted_tagged = message_tagged (ids_field 4096 (omega arith)) 14 event.AskAccepted (λ node request x sent good. record { spelled = refl; range = ((sent, good.1), good.0) })

ask_ancestors_tagged : IsTagged 15 (message_at id_at event.AskAncestors)
unfolding spelling
ask_ancestors_tagged = message_tagged id_field 15 event.AskAncestors (λ node request x sent good. record { spelled = refl; range = ((sent, good), tt) })

ask_block_tagged : IsTagged 16 (message_at id_at event.AskBlock)
unfolding spelling
ask_block_tagged = message_tagged id_field 16 event.AskBlock (λ node request x sent good. record { spelled = refl; range = ((sent, good), tt) })

line_tagged : IsTagged 17 (single_at (sized_at 1100000) event.Line)
unfolding spelling
line_tagged = single_tagged text_field 17 event.Line (λ x good. record { spelled = refl; range = (tt, good) })

no_tag : (tag : ℕ) → IsTagged tag unknown_at
no_tag tag = record { taken = λ bytes e rest fits r. absurd cc }

-- each reader of a list reads what its tag says, from this tag on
abbrev AreTagged : ℕ → List (List ℕ → Read Event) → Type 0
AreTagged tag [] = Unit {0}
AreTagged tag (at ∷ others) = IsTagged tag at × AreTagged (suc tag) others

found_at : (tag : ℕ) (readers : List (List ℕ → Read Event)) (k : ℕ) → AreTagged tag readers → IsTagged (tag + k) (get_or readers k unknown_at)
found_at tag [] k are = no_tag (tag + k)
found_at tag (at ∷ others) zero are = let e : tag + 0 ≡ tag = omega arith in rw e are.0
found_at tag (at ∷ others) (suc k) are = let e : tag + suc k ≡ suc tag + k = omega arith in rw e (found_at (suc tag) others k are.1)

all_tagged : AreTagged 0 tags
all_tagged = (
  no_tag 0,
  (
    start_tagged,
    (
      block_tagged,
      (
        poll_tagged,
        (
          words_tagged,
          (
            chits_tagged,
            (
              timeout_tagged,
              (
                frontier_tagged,
                (
                  accepted_tagged,
                  (
                    ancestors_tagged,
                    (
                      stored_tagged,
                      (
                        validators_tagged,
                        (
                          ask_query_tagged,
                          (
                            ask_frontier_tagged,
                            (
                              ask_accepted_tagged,
                              (
                                ask_ancestors_tagged,
                                (
                                  ask_block_tagged,
                                  (
                                    line_tagged,
                                    tt,
                                  ),
                                ),
                              ),
                            ),
                          ),
                        ),
                      ),
                    ),
                  ),
                ),
              ),
            ),
          ),
        ),
      ),
    ),
  ),
)

fields_tagged : (tag : ℕ) → IsTagged tag (fields_at tag)
unfolding fields_at
fields_tagged tag = let e : tag ≡ 0 + tag = omega arith in subst (λ (t : ℕ). IsTagged t (get_or tags tag unknown_at)) (sym e) (found_at 0 tags tag all_tagged)

-- ---- what is read is spelled so

pub one_byte : (tag : ℕ) → tag < 256 → number 1 tag ≡ tag ∷ []
unfolding number
one_byte tag small = let e : tag % 256 ≡ tag = omega arith in ap (λ (n : ℕ). n ∷ []) e

-- what is read is in range and spelled so
pub event_taken : (bytes : List ℕ) (e : Event) → IsBytes bytes → event_of bytes ≡ Ok e → IsInRange e × (bytes ≡ spelling e)
unfolding event_of
event_taken bytes e fits r =
    by_step (number_field 1 width1) bytes _ e fits r (λ tag rest parts small fits1 r1.
    let b = bind_ok (fields_at tag rest) (λ x. cond (length x.1 == 0) (Ok x.0) (Err Extra)) e r1 in
    let t = (fields_tagged tag).taken rest b.0.0 b.0.1 fits1 b.1 in
    let g = when (length b.0.1 == 0) Extra b.0.0 e b.2 in
    let nothing : b.0.1 ≡ [] = nil_from_length b.0.1 (eqb-true _ _ g.0) in
    let one : bytes ≡ tag ∷ rest = parts ∙ ap (λ (b : List ℕ). b ++ rest) (one_byte tag small) in
    let whole : bytes ≡ spelling b.0.0 = one ∙ t.0 ∙ ap (λ (x : List ℕ). spelling b.0.0 ++ x) nothing ∙ append-nil (spelling b.0.0) in
    subst (λ (x : Event). IsInRange x × (bytes ≡ spelling x)) g.1 (t.1, whole))

-- ---- what is spelled so is read

tag_again : (tag : ℕ) (bytes : List ℕ) (e : Event) → tag < 256 → fields_at tag bytes ≡ Ok (e, []) → event_of (tag ∷ bytes) ≡ Ok e
unfolding event_of
tag_again tag bytes e small r =
    let one : tag ∷ bytes ≡ number 1 tag ++ bytes = ap (λ (b : List ℕ). b ++ bytes) (sym (one_byte tag small)) in
    ap event_of one ∙ again_then (number_field 1 width1) tag bytes _ small ∙ rw r refl

-- an event in range is read back from its spelling
pub event_again : (e : Event) → IsInRange e → event_of (spelling e) ≡ Ok e
unfolding spelling fields_at
event_again (event.Start s) range = tag_again 1 (start s) (event.Start s) (omega arith) (start_again s range)
event_again (event.Block node request bytes) range = tag_again 2 _ (event.Block node request bytes) (omega arith) (message_again block_field event.Block node request bytes range.0 range.1)
event_again (event.Poll ids) range = tag_again 3 _ (event.Poll ids) (omega arith) (single_again (ids_field 1024 (omega arith)) event.Poll ids (range.1, range.0))
event_again (event.Words words) range = tag_again 4 _ (event.Words words) (omega arith) (single_again words_field event.Words words (range.1, range.0))
event_again (event.Chits node request id) range = tag_again 5 _ (event.Chits node request id) (omega arith) (message_again id_field event.Chits node request id range.0.0 range.0.1)
event_again (event.Timeout node request) range = tag_again 6 _ (event.Timeout node request) (omega arith) (sender_again event.Timeout node request range.0)
event_again (event.Frontier node request id) range = tag_again 7 _ (event.Frontier node request id) (omega arith) (message_again id_field event.Frontier node request id range.0.0 range.0.1)
event_again (event.Accepted node request ids) range = tag_again 8 _ (event.Accepted node request ids) (omega arith) (message_again (ids_field 4096 (omega arith)) event.Accepted node request ids range.0.0 (range.1, range.0.1))
event_again (event.Ancestors node request blocks) range = tag_again 9 _ (event.Ancestors node request blocks) (omega arith) (message_again blocks_field event.Ancestors node request blocks range.0 range.1)
event_again (event.Stored bytes) range = tag_again 10 _ (event.Stored bytes) (omega arith) (single_again block_field event.Stored bytes range.1)
event_again (event.Validators nodes) range = tag_again 11 _ (event.Validators nodes) (omega arith) (single_again nodes_field event.Validators nodes (range.1, range.0))
event_again (event.AskQuery node request) range = tag_again 12 _ (event.AskQuery node request) (omega arith) (sender_again event.AskQuery node request range.0)
event_again (event.AskFrontier node request) range = tag_again 13 _ (event.AskFrontier node request) (omega arith) (sender_again event.AskFrontier node request range.0)
event_again (event.AskAccepted node request ids) range = tag_again 14 _ (event.AskAccepted node request ids) (omega arith) (message_again (ids_field 4096 (omega arith)) event.AskAccepted node request ids range.0.0 (range.1, range.0.1))
event_again (event.AskAncestors node request id) range = tag_again 15 _ (event.AskAncestors node request id) (omega arith) (message_again id_field event.AskAncestors node request id range.0.0 range.0.1)
event_again (event.AskBlock node request id) range = tag_again 16 _ (event.AskBlock node request id) (omega arith) (message_again id_field event.AskBlock node request id range.0.0 range.0.1)
event_again (event.Line text) range = tag_again 17 _ (event.Line text) (omega arith) (single_again text_field event.Line text range.1)

-- ---- what a function that decodes ensures

-- what was found is in range and spelled so
pub is_found : (bytes : List ℕ) (r : Result Event Skip) → IsBytes bytes → Gives r (event_of bytes) → IfOk r (λ e. IsInRange e × (bytes ≡ spelling e))
is_found bytes (Ok e) fits given = event_taken bytes e fits given
is_found bytes (Err s) fits given = tt

-- what is spelled so was given
pub is_given : (bytes : List ℕ) (r : Result Event Skip) → Gives r (event_of bytes) → (e : Event) → IsInRange e → bytes ≡ spelling e → Gives r (Ok e)
is_given bytes r given e range spelled = subst (Gives r) (ap event_of spelled ∙ event_again e range) given
