-- Each line is read from its own bytes.
use Rattle.std.proofs.Common.{◌≡◌, ℕ, ◌-◌, ◌<◌, ◌==◌, List, [], ◌∷◌, ◌++◌, All, map, length, take, drop, codes, decimal, Option, Some, refl, sym, ap, ◌∙◌, arith}
use Rattle.std.specs.List.{join_with_byte}
use Rattle.std.specs.Str.{bytes_eq}
use Rattle.std.proofs.Math.Seq.{take-append_seam, drop-append_seam}
use Rattle.std.proofs.lemmas.Bool.{ne_eqb}
use Rattle.std.proofs.lemmas.List.{length-append, take-append-drop}
use Rattle.std.proofs.lemmas.List.Elements.{All-nil, All-cons, All-head, All-tail}
use Rattle.std.proofs.lemmas.List.Splits.{join_with_byte-slice_split, slice_split_none, slice_split_at}
use Rattle.hex.specs.Hex.{IsBytes, encode_lower}
use Rattle.snow_lines.specs.declared.kind.Kind.{Kind}
use Rattle.snow_lines.specs.declared.kind.Kind.TheVariants as kind
use Rattle.snow_lines.specs.declared.line.Line.{Line}
use Rattle.snow_lines.specs.declared.line.Line.TheVariants as line
use Rattle.snow_reading.specs.Model.Names.{line_kind_of}
use Rattle.snow_reading.specs.Clauses.Range.{IsDraw, IsId, IsLine, IsNode, IsNumber}
use Rattle.snow_reading.specs.Model.Reading.{asks, asks_accepted, before_newline, chits_at, fields_of, frontier_at, if_some, line_of, plain_at, split, tells_accepted, tells_ancestors, tells_block, whole_at, words_of, ◌>>=◌}
use Rattle.snow_lines.specs.Model.Text.{Draw, block_word, draw_word, fields, kind_word, listed, name, query_word, restart_word, text, why_word, words}
use Rattle.snow_reading.proofs.Spelled.{IsField, NoSpace, bind_shows, block_field, bytes_field, draw_field, hex_no_space, if_holds, if_shows, no_space_from, same_bytes, told_same}
use Rattle.snow_reading.proofs.Named.{kind_field, kind_shows, query_field, restart_field, why_field}
use Rattle.snow_reading.proofs.Fielded.{Words, asked_again, both_again, field_again, items_again, long_field, only_again, short_field, told_again}
use Rattle.snow_reading.proofs.Shown.{fields_show}

-- ---- from the words

-- a list that isn't empty
some_again : {A : Type 0} (xs : List A) → 0 < length xs → if_some xs ≡ Some xs
some_again [] h = absurd (omega arith)
some_again (x ∷ xs) h = rw (ne_eqb (length (x ∷ xs)) 0 (λ e. omega (arith, e))) refl

-- nothing is behind a line
whole_again : (k : Kind) (words : Words) (l : Line) → plain_at k words ≡ Some (l, []) → whole_at k words ≡ Some l
unfolding whole_at
whole_again k words l h = rw h refl

-- two identifiers behind a node and a number
chits_again : (node : List ℕ) (n : ℕ) (p l : List ℕ) → IsNode node → IsNumber n → IsId p → IsId l
    → chits_at (encode_lower node ∷ decimal n ∷ encode_lower p ∷ encode_lower l ∷ []) ≡ Some (line.ToChits node n p l, [])
unfolding chits_at
chits_again node n p l a b c d =
    rw (told_again node n (encode_lower p ∷ encode_lower l ∷ []) a b, field_again (bytes_field 32) p (encode_lower l ∷ []) c, field_again (bytes_field 32) l [] d) refl

-- an identifier behind a node and a number
frontier_again : (node : List ℕ) (n : ℕ) (id : List ℕ) → IsNode node → IsNumber n → IsId id
    → frontier_at (encode_lower node ∷ decimal n ∷ encode_lower id ∷ []) ≡ Some (line.ToFrontier node n id, [])
unfolding frontier_at
frontier_again node n id a b c = rw (told_again node n (encode_lower id ∷ []) a b, field_again (bytes_field 32) id [] c) refl

-- a query
asks_again : (n : ℕ) (id : List ℕ) (ds : List Draw) → IsNumber n → IsId id → 0 < length ds → All IsDraw ds
    → asks (decimal n ∷ encode_lower id ∷ map draw_word ds) ≡ Some (line.Query n id ds)
unfolding asks
asks_again n id ds a b c d =
    rw (field_again short_field n (encode_lower id ∷ map draw_word ds) a, field_again (bytes_field 32) id (map draw_word ds) b, items_again draw_field ds d, some_again ds c) refl

-- a question which of these are accepted
asks_accepted_again : (n : ℕ) (ids : List (List ℕ)) → IsNumber n → 0 < length ids → All IsId ids
    → asks_accepted (decimal n ∷ map encode_lower ids) ≡ Some (line.Accepted n ids)
unfolding asks_accepted
asks_accepted_again n ids a b c =
    rw (field_again short_field n (map encode_lower ids) a, items_again (bytes_field 32) ids c, some_again ids b) refl

-- an answer which are accepted
tells_accepted_again : (node : List ℕ) (n : ℕ) (ids : List (List ℕ)) → IsNode node → IsNumber n → All IsId ids
    → tells_accepted (encode_lower node ∷ decimal n ∷ map encode_lower ids) ≡ Some (line.ToAccepted node n ids)
unfolding tells_accepted
tells_accepted_again node n ids a b c = rw (told_again node n (map encode_lower ids) a b, items_again (bytes_field 32) ids c) refl

-- an answer of blocks
tells_ancestors_again : (node : List ℕ) (n : ℕ) (bs : List (List ℕ)) → IsNode node → IsNumber n → 0 < length bs → All IsBytes bs
    → tells_ancestors (encode_lower node ∷ decimal n ∷ map block_word bs) ≡ Some (line.ToAncestors node n bs)
unfolding tells_ancestors
tells_ancestors_again node n bs a b c d = rw (told_again node n (map block_word bs) a b, items_again block_field bs d, some_again bs c) refl

-- an answer of a block
tells_block_again : (node : List ℕ) (n : ℕ) (b : List ℕ) → IsNode node → IsNumber n → IsBytes b
    → tells_block (encode_lower node ∷ decimal n ∷ block_word b ∷ []) ≡ Some (line.ToBlock node n b)
unfolding tells_block
tells_block_again node n b a c d = rw (told_again node n (block_word b ∷ []) a c, field_again block_field b [] d) refl

-- a line's own words give it
words_again : (l : Line) → IsLine l → words_of (words l) ≡ Some l
unfolding words_of fields_of plain_at
words_again (line.Query n id ds) h = asks_again n id ds h.0 h.1 h.2 h.3
words_again (line.Get n node id) h = whole_again kind.Get (decimal n ∷ encode_lower node ∷ encode_lower id ∷ []) (line.Get n node id) (asked_again line.Get n node id h.0 h.1 h.2)
words_again (line.Frontier n) h = whole_again kind.Frontier (decimal n ∷ []) (line.Frontier n) (only_again short_field line.Frontier n h)
words_again (line.Accepted n ids) h = asks_accepted_again n ids h.0 h.1 h.2
words_again (line.Ancestors n node id) h = whole_again kind.Ancestors (decimal n ∷ encode_lower node ∷ encode_lower id ∷ []) (line.Ancestors n node id) (asked_again line.Ancestors n node id h.0 h.1 h.2)
words_again (line.Accept id) h = whole_again kind.Accept (encode_lower id ∷ []) (line.Accept id) (only_again (bytes_field 32) line.Accept id h)
words_again (line.Reject id) h = whole_again kind.Reject (encode_lower id ∷ []) (line.Reject id) (only_again (bytes_field 32) line.Reject id h)
words_again (line.Prefer id) h = whole_again kind.Prefer (encode_lower id ∷ []) (line.Prefer id) (only_again (bytes_field 32) line.Prefer id h)
words_again (line.Drop id why) h = whole_again kind.Drop (encode_lower id ∷ why_word why ∷ []) (line.Drop id why) (both_again (bytes_field 32) why_field line.Drop id why h tt)
words_again (line.DropQuery why) h = whole_again kind.DropQuery (query_word why ∷ []) (line.DropQuery why) (only_again query_field line.DropQuery why tt)
words_again (line.Skip frame why) h = whole_again kind.Skip (decimal frame ∷ kind_word why ∷ []) (line.Skip frame why) (both_again long_field kind_field line.Skip frame why h tt)
words_again (line.Restart why) h = whole_again kind.Restart (restart_word why ∷ []) (line.Restart why) (only_again restart_field line.Restart why tt)
words_again (line.Bootstrapped id height) h = whole_again kind.Bootstrapped (encode_lower id ∷ decimal height ∷ []) (line.Bootstrapped id height) (both_again (bytes_field 32) long_field line.Bootstrapped id height h.0 h.1)
words_again (line.ToChits node n p l) h = whole_again kind.ToChits (encode_lower node ∷ decimal n ∷ encode_lower p ∷ encode_lower l ∷ []) (line.ToChits node n p l) (chits_again node n p l h.0 h.1 h.2 h.3)
words_again (line.ToFrontier node n id) h = whole_again kind.ToFrontier (encode_lower node ∷ decimal n ∷ encode_lower id ∷ []) (line.ToFrontier node n id) (frontier_again node n id h.0 h.1 h.2)
words_again (line.ToAccepted node n ids) h = tells_accepted_again node n ids h.0 h.1 h.2
words_again (line.ToAncestors node n bs) h = tells_ancestors_again node n bs h.0 h.1 h.2 h.3
words_again (line.ToBlock node n b) h = tells_block_again node n b h.0 h.1 h.2

-- ---- spaces

-- a word without a space in front of others
beside : (word : List ℕ) (more : Words) → NoSpace word → All NoSpace more → All NoSpace (word ∷ more)
beside = All-cons NoSpace

-- items without spaces
items_no_space : {A : Type 0} {of : List ℕ → Option A} {spell : A → List ℕ} {Good : A → Type 0} (f : IsField of spell Good) (xs : List A) → All Good xs → All NoSpace (map spell xs)
items_no_space f [] h = All-nil NoSpace
items_no_space {spell = spell} {Good = Good} f (x ∷ xs) h =
    beside (spell x) (map spell xs) (f.whole x (All-head Good x xs h)) (items_no_space f xs (All-tail Good x xs h))

-- the words of a line have no space
words_no_space : (l : Line) → IsLine l → All NoSpace (words l)
words_no_space (line.Query n id ds) h = beside (codes "query") (decimal n ∷ encode_lower id ∷ map draw_word ds) (no_space_from (codes "query") refl) (beside (decimal n) (encode_lower id ∷ map draw_word ds) (short_field.whole n h.0) (beside (encode_lower id) (map draw_word ds) (hex_no_space id) (items_no_space draw_field ds h.3)))
words_no_space (line.Get n node id) h = beside (codes "get") (decimal n ∷ encode_lower node ∷ encode_lower id ∷ []) (no_space_from (codes "get") refl) (beside (decimal n) (encode_lower node ∷ encode_lower id ∷ []) (short_field.whole n h.0) (beside (encode_lower node) (encode_lower id ∷ []) (hex_no_space node) (beside (encode_lower id) ([]) (hex_no_space id) (All-nil NoSpace))))
words_no_space (line.Frontier n) h = beside (codes "frontier") (decimal n ∷ []) (no_space_from (codes "frontier") refl) (beside (decimal n) ([]) (short_field.whole n h) (All-nil NoSpace))
words_no_space (line.Accepted n ids) h = beside (codes "accepted") (decimal n ∷ map encode_lower ids) (no_space_from (codes "accepted") refl) (beside (decimal n) (map encode_lower ids) (short_field.whole n h.0) (items_no_space (bytes_field 32) ids h.2))
words_no_space (line.Ancestors n node id) h = beside (codes "ancestors") (decimal n ∷ encode_lower node ∷ encode_lower id ∷ []) (no_space_from (codes "ancestors") refl) (beside (decimal n) (encode_lower node ∷ encode_lower id ∷ []) (short_field.whole n h.0) (beside (encode_lower node) (encode_lower id ∷ []) (hex_no_space node) (beside (encode_lower id) ([]) (hex_no_space id) (All-nil NoSpace))))
words_no_space (line.Accept id) h = beside (codes "accept") (encode_lower id ∷ []) (no_space_from (codes "accept") refl) (beside (encode_lower id) ([]) (hex_no_space id) (All-nil NoSpace))
words_no_space (line.Reject id) h = beside (codes "reject") (encode_lower id ∷ []) (no_space_from (codes "reject") refl) (beside (encode_lower id) ([]) (hex_no_space id) (All-nil NoSpace))
words_no_space (line.Prefer id) h = beside (codes "prefer") (encode_lower id ∷ []) (no_space_from (codes "prefer") refl) (beside (encode_lower id) ([]) (hex_no_space id) (All-nil NoSpace))
words_no_space (line.Drop id why) h = beside (codes "drop") (encode_lower id ∷ why_word why ∷ []) (no_space_from (codes "drop") refl) (beside (encode_lower id) (why_word why ∷ []) (hex_no_space id) (beside (why_word why) ([]) (why_field.whole why tt) (All-nil NoSpace)))
words_no_space (line.DropQuery why) h = beside (codes "drop-query") (query_word why ∷ []) (no_space_from (codes "drop-query") refl) (beside (query_word why) ([]) (query_field.whole why tt) (All-nil NoSpace))
words_no_space (line.Skip frame why) h = beside (codes "skip") (decimal frame ∷ kind_word why ∷ []) (no_space_from (codes "skip") refl) (beside (decimal frame) (kind_word why ∷ []) (long_field.whole frame h) (beside (kind_word why) ([]) (kind_field.whole why tt) (All-nil NoSpace)))
words_no_space (line.Restart why) h = beside (codes "restart") (restart_word why ∷ []) (no_space_from (codes "restart") refl) (beside (restart_word why) ([]) (restart_field.whole why tt) (All-nil NoSpace))
words_no_space (line.Bootstrapped id height) h = beside (codes "bootstrapped") (encode_lower id ∷ decimal height ∷ []) (no_space_from (codes "bootstrapped") refl) (beside (encode_lower id) (decimal height ∷ []) (hex_no_space id) (beside (decimal height) ([]) (long_field.whole height h.1) (All-nil NoSpace)))
words_no_space (line.ToChits node n p l) h = beside (codes "to-chits") (encode_lower node ∷ decimal n ∷ encode_lower p ∷ encode_lower l ∷ []) (no_space_from (codes "to-chits") refl) (beside (encode_lower node) (decimal n ∷ encode_lower p ∷ encode_lower l ∷ []) (hex_no_space node) (beside (decimal n) (encode_lower p ∷ encode_lower l ∷ []) (short_field.whole n h.1) (beside (encode_lower p) (encode_lower l ∷ []) (hex_no_space p) (beside (encode_lower l) ([]) (hex_no_space l) (All-nil NoSpace)))))
words_no_space (line.ToFrontier node n id) h = beside (codes "to-frontier") (encode_lower node ∷ decimal n ∷ encode_lower id ∷ []) (no_space_from (codes "to-frontier") refl) (beside (encode_lower node) (decimal n ∷ encode_lower id ∷ []) (hex_no_space node) (beside (decimal n) (encode_lower id ∷ []) (short_field.whole n h.1) (beside (encode_lower id) ([]) (hex_no_space id) (All-nil NoSpace))))
words_no_space (line.ToAccepted node n ids) h = beside (codes "to-accepted") (encode_lower node ∷ decimal n ∷ map encode_lower ids) (no_space_from (codes "to-accepted") refl) (beside (encode_lower node) (decimal n ∷ map encode_lower ids) (hex_no_space node) (beside (decimal n) (map encode_lower ids) (short_field.whole n h.1) (items_no_space (bytes_field 32) ids h.2)))
words_no_space (line.ToAncestors node n bs) h = beside (codes "to-ancestors") (encode_lower node ∷ decimal n ∷ map block_word bs) (no_space_from (codes "to-ancestors") refl) (beside (encode_lower node) (decimal n ∷ map block_word bs) (hex_no_space node) (beside (decimal n) (map block_word bs) (short_field.whole n h.1) (items_no_space block_field bs h.3)))
words_no_space (line.ToBlock node n b) h = beside (codes "to-block") (encode_lower node ∷ decimal n ∷ block_word b ∷ []) (no_space_from (codes "to-block") refl) (beside (encode_lower node) (decimal n ∷ block_word b ∷ []) (hex_no_space node) (beside (decimal n) (block_word b ∷ []) (short_field.whole n h.1) (beside (block_word b) ([]) (block_field.whole b h.2) (All-nil NoSpace))))

-- ---- from the bytes

-- words without spaces are found again
split_joined : (word : List ℕ) (more : Words) → All NoSpace (word ∷ more) → split (join_with_byte 32 (word ∷ more)) ≡ word ∷ more
split_joined word [] h = slice_split_none (λ b. b == 32) word (All-head NoSpace word [] h)
split_joined word (next ∷ more) h =
    slice_split_at (λ b. b == 32) word 32 (join_with_byte 32 (next ∷ more)) (All-head NoSpace word (next ∷ more) h) refl
    ∙ ap (λ ws. word ∷ ws) (split_joined next more (All-tail NoSpace word (next ∷ more) h))

-- what stands before a newline
newline_again : (front : List ℕ) → before_newline (front ++ 10 ∷ []) ≡ Some front
unfolding before_newline
newline_again front =
    let len : length (front ++ 10 ∷ []) - 1 ≡ length front = omega (arith, length-append front (10 ∷ [])) in
    let behind : drop (length (front ++ 10 ∷ []) - 1) (front ++ 10 ∷ []) ≡ 10 ∷ [] = ap (λ n. drop n (front ++ 10 ∷ [])) len ∙ drop-append_seam front (10 ∷ []) in
    let before : take (length (front ++ 10 ∷ []) - 1) (front ++ 10 ∷ []) ≡ front = ap (λ n. take n (front ++ 10 ∷ [])) len ∙ take-append_seam front (10 ∷ []) in
    if_holds (bytes_eq (drop (length (front ++ 10 ∷ []) - 1) (front ++ 10 ∷ [])) (10 ∷ [])) (take (length (front ++ 10 ∷ []) - 1) (front ++ 10 ∷ [])) (same_bytes _ (10 ∷ []) behind)
    ∙ ap (λ (l : List ℕ). Some l) before

-- bytes that were taken off a newline
newline_shows : (bytes front : List ℕ) → before_newline bytes ≡ Some front → bytes ≡ front ++ 10 ∷ []
unfolding before_newline
newline_shows bytes front h =
    let shown = if_shows (bytes_eq (drop (length bytes - 1) bytes) (10 ∷ [])) (take (length bytes - 1) bytes) front h in
    sym (take-append-drop (length bytes - 1) bytes)
    ∙ ap (λ (l : List ℕ). l ++ drop (length bytes - 1) bytes) shown.1
    ∙ ap (λ (l : List ℕ). front ++ l) (told_same (drop (length bytes - 1) bytes) (10 ∷ []) shown.0)

-- words that give a line are its words
words_show : (ws : Words) (l : Line) → words_of ws ≡ Some l → (ws ≡ words l) × IsLine l
unfolding words_of
words_show [] l h = cc h
words_show (word ∷ more) l h =
    let k = bind_shows (line_kind_of word) (λ k. fields_of k more) l h in
    let shown = fields_show k.0 more l k.2 in
    (ap (λ w. w ∷ more) (sym (kind_shows word k.0 k.1) ∙ shown.0) ∙ ap (λ ws. name l ∷ ws) shown.1, shown.2)

-- bytes that give a line are its text
pub line_found : (bytes : List ℕ) (l : Line) → line_of bytes ≡ Some l → IsLine l × (bytes ≡ text l)
unfolding line_of text
line_found bytes l h =
    let front = bind_shows (before_newline bytes) (λ front. words_of (split front)) l h in
    let shown = words_show (split front.0) l front.2 in (
      shown.1,
      newline_shows bytes front.0 front.1
          ∙ ap (λ (x : List ℕ). x ++ 10 ∷ []) (sym (join_with_byte-slice_split 32 front.0) ∙ ap (join_with_byte 32) shown.0),
    )

-- a line's text gives it
pub line_only : (l : Line) → IsLine l → line_of (text l) ≡ Some l
unfolding line_of text
line_only l h =
    ap (λ (r : Option (List ℕ)). r >>= (λ front. words_of (split front))) (newline_again (join_with_byte 32 (words l)))
    ∙ ap words_of (split_joined (name l) (fields l ++ listed l) (words_no_space l h))
    ∙ words_again l h
