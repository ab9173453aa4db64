-- Lines read from the words that spell them, and no others.
use Rattle.std.proofs.Common.{◌≡◌, ◌<◌, ◌==◌, Bool, true, false, List, [], ◌∷◌, ◌++◌, length, decimal, Some, None, refl, ap, ◌∙◌, subst, append-nil, arith}
use Rattle.std.specs.Prelude.{if◌then◌else◌}
use Rattle.hex.specs.Hex.{encode_lower}
use Rattle.snow_lines.specs.declared.kind.Kind.{Kind}
use Rattle.snow_lines.specs.declared.kind.Kind.TheVariants as kind
use Rattle.snow_lines.specs.declared.line.Line.{Line}
use Rattle.snow_lines.specs.declared.line.Line.TheVariants as line
use Rattle.snow_lines.specs.Model.Names.{line_name}
use Rattle.snow_reading.specs.Clauses.Range.{IsLine}
use Rattle.snow_reading.specs.Model.Reading.{asks, asks_accepted, block_of, bytes_of, chits_at, draw_of, ended, field, fields_of, frontier_at, id_at, if_some, items, number_at, plain_at, tells_accepted, tells_ancestors, tells_block, told_at, whole_at, ◌>>=◌}
use Rattle.snow_lines.specs.Model.Text.{block_word, fields, listed, name}
use Rattle.snow_reading.proofs.Spelled.{bind_shows, block_field, bytes_field, draw_field}
use Rattle.snow_reading.proofs.Named.{kind_field, query_field, restart_field, why_field}
use Rattle.snow_reading.proofs.Fielded.{Words, asked_shows, both_shows, field_shows, items_shows, long_field, only_shows, short_field, told_shows, unsome}

-- a line of this kind, the words of its fields in front, and the words behind them
abbrev pub Shows : Kind → Words → Line × Words → Type 0
Shows k words r = (line_name k ≡ name r.0) × (words ≡ fields r.0 ++ listed r.0 ++ r.1) × IsLine r.0

-- two identifiers behind a node and a number
chits_shows : (words : Words) (r : Line × Words) → chits_at words ≡ Some r → Shows kind.ToChits words r
unfolding chits_at
chits_shows words r h =
    let told = bind_shows (told_at words) (λ told. id_at told.1 >>= (λ p. id_at p.1 >>= (λ l. Some (line.ToChits told.0.0 told.0.1 p.0 l.0, l.1)))) r h in
    let p = bind_shows (id_at told.0.1) (λ p. id_at p.1 >>= (λ l. Some (line.ToChits told.0.0.0 told.0.0.1 p.0 l.0, l.1))) r told.2 in
    let l = bind_shows (id_at p.0.1) (λ l. Some (line.ToChits told.0.0.0 told.0.0.1 p.0.0 l.0, l.1)) r p.2 in
    let a = told_shows words told.0 told.1 in
    let b = field_shows (bytes_field 32) told.0.1 p.0 p.1 in
    let c = field_shows (bytes_field 32) p.0.1 l.0 l.1 in
    subst (Shows kind.ToChits words) (unsome (line.ToChits told.0.0.0 told.0.0.1 p.0.0 l.0.0, l.0.1) r l.2)
    (refl, a.0 ∙ ap (λ ws. encode_lower told.0.0.0 ∷ decimal told.0.0.1 ∷ ws) (b.0 ∙ ap (λ ws. encode_lower p.0.0 ∷ ws) c.0), (a.1, a.2, b.1, c.1))

-- an identifier behind a node and a number
frontier_shows : (words : Words) (r : Line × Words) → frontier_at words ≡ Some r → Shows kind.ToFrontier words r
unfolding frontier_at
frontier_shows words r h =
    let told = bind_shows (told_at words) (λ told. id_at told.1 >>= (λ id. Some (line.ToFrontier told.0.0 told.0.1 id.0, id.1))) r h in
    let id = bind_shows (id_at told.0.1) (λ id. Some (line.ToFrontier told.0.0.0 told.0.0.1 id.0, id.1)) r told.2 in
    let a = told_shows words told.0 told.1 in
    let b = field_shows (bytes_field 32) told.0.1 id.0 id.1 in
    subst (Shows kind.ToFrontier words) (unsome (line.ToFrontier told.0.0.0 told.0.0.1 id.0.0, id.0.1) r id.2)
    (refl, a.0 ∙ ap (λ ws. encode_lower told.0.0.0 ∷ decimal told.0.0.1 ∷ ws) b.0, (a.1, a.2, b.1))

-- a line without a list
plain_shows : (k : Kind) (words : Words) (r : Line × Words) → plain_at k words ≡ Some r → Shows k words r
unfolding plain_at
plain_shows kind.Query words r h = cc h
plain_shows kind.Get words r h = asked_shows line.Get (Shows kind.Get words) words r (λ n node id rest a b c e. (refl, e, (a, b, c))) h
plain_shows kind.Frontier words r h = only_shows short_field line.Frontier (Shows kind.Frontier words) words r (λ n rest a e. (refl, e, a)) h
plain_shows kind.Accepted words r h = cc h
plain_shows kind.Ancestors words r h = asked_shows line.Ancestors (Shows kind.Ancestors words) words r (λ n node id rest a b c e. (refl, e, (a, b, c))) h
plain_shows kind.Accept words r h = only_shows (bytes_field 32) line.Accept (Shows kind.Accept words) words r (λ id rest a e. (refl, e, a)) h
plain_shows kind.Reject words r h = only_shows (bytes_field 32) line.Reject (Shows kind.Reject words) words r (λ id rest a e. (refl, e, a)) h
plain_shows kind.Prefer words r h = only_shows (bytes_field 32) line.Prefer (Shows kind.Prefer words) words r (λ id rest a e. (refl, e, a)) h
plain_shows kind.Drop words r h = both_shows (bytes_field 32) why_field line.Drop (Shows kind.Drop words) words r (λ id why rest a b e. (refl, e, a)) h
plain_shows kind.DropQuery words r h = only_shows query_field line.DropQuery (Shows kind.DropQuery words) words r (λ why rest a e. (refl, e, a)) h
plain_shows kind.Skip words r h = both_shows long_field kind_field line.Skip (Shows kind.Skip words) words r (λ frame why rest a b e. (refl, e, a)) h
plain_shows kind.Restart words r h = only_shows restart_field line.Restart (Shows kind.Restart words) words r (λ why rest a e. (refl, e, a)) h
plain_shows kind.Bootstrapped words r h = both_shows (bytes_field 32) long_field line.Bootstrapped (Shows kind.Bootstrapped words) words r (λ id height rest a b e. (refl, e, (a, b))) h
plain_shows kind.ToChits words r h = chits_shows words r h
plain_shows kind.ToFrontier words r h = frontier_shows words r h
plain_shows kind.ToAccepted words r h = cc h
plain_shows kind.ToAncestors words r h = cc h
plain_shows kind.ToBlock words r h = cc h

-- a line of this kind whose fields are all words
abbrev pub ReadsAs : Kind → Words → Line → Type 0
ReadsAs k words l = (line_name k ≡ name l) × (words ≡ fields l ++ listed l) × IsLine l

-- nothing is behind what was read
ended_shows : {A : Type 0} (r : A × Words) (x : A) → ended r ≡ Some x → (r.0 ≡ x) × (r.1 ≡ [])
ended_shows (y, []) x h = (unsome y x h, refl)
ended_shows (y, word ∷ words) x h = cc h

-- a line without a list, and nothing behind it
whole_shows : (k : Kind) (words : Words) (l : Line) → whole_at k words ≡ Some l → ReadsAs k words l
unfolding whole_at
whole_shows k words l h =
    let r = bind_shows (plain_at k words) ended l h in
    let end = ended_shows r.0 l r.2 in
    let shown = plain_shows k words r.0 r.1 in
    subst (ReadsAs k words) end.0
    (shown.0, shown.1 ∙ ap (λ ws. fields r.0.0 ++ listed r.0.0 ++ ws) end.1 ∙ append-nil (fields r.0.0 ++ listed r.0.0), shown.2)

-- a list that isn't empty
some_shows : {A : Type 0} (xs ys : List A) → if_some xs ≡ Some ys → (xs ≡ ys) × (0 < length xs)
some_shows [] ys h = cc h
some_shows (x ∷ xs) ys h = by (length (x ∷ xs) == 0) refl h
  where
    by : (b : Bool) → length (x ∷ xs) == 0 ≡ b → (if b then None else Some (x ∷ xs)) ≡ Some ys → (x ∷ xs ≡ ys) × (0 < length (x ∷ xs))
    by true e k = cc k
    by false e k = (unsome (x ∷ xs) ys k, omega arith)

-- a query
asks_shows : (words : Words) (l : Line) → asks words ≡ Some l → ReadsAs kind.Query words l
unfolding asks
asks_shows words l h =
    let n = bind_shows (number_at words) (λ n. id_at n.1 >>= (λ id. items draw_of id.1 >>= (λ ds. if_some ds >>= (λ some. Some (line.Query n.0 id.0 some))))) l h in
    let id = bind_shows (id_at n.0.1) (λ id. items draw_of id.1 >>= (λ ds. if_some ds >>= (λ some. Some (line.Query n.0.0 id.0 some)))) l n.2 in
    let ds = bind_shows (items draw_of id.0.1) (λ ds. if_some ds >>= (λ some. Some (line.Query n.0.0 id.0.0 some))) l id.2 in
    let some = bind_shows (if_some ds.0) (λ some. Some (line.Query n.0.0 id.0.0 some)) l ds.2 in
    let a = field_shows short_field words n.0 n.1 in
    let b = field_shows (bytes_field 32) n.0.1 id.0 id.1 in
    let c = items_shows draw_field id.0.1 ds.0 ds.1 in
    let d = some_shows ds.0 some.0 some.1 in
    subst (ReadsAs kind.Query words) (ap (line.Query n.0.0 id.0.0) d.0 ∙ unsome (line.Query n.0.0 id.0.0 some.0) l some.2)
    (refl, a.0 ∙ ap (λ ws. decimal n.0.0 ∷ ws) (b.0 ∙ ap (λ ws. encode_lower id.0.0 ∷ ws) c.0), (a.1, b.1, d.1, c.1))

-- a question which of these are accepted
asks_accepted_shows : (words : Words) (l : Line) → asks_accepted words ≡ Some l → ReadsAs kind.Accepted words l
unfolding asks_accepted
asks_accepted_shows words l h =
    let n = bind_shows (number_at words) (λ n. items (bytes_of 32) n.1 >>= (λ ids. if_some ids >>= (λ some. Some (line.Accepted n.0 some)))) l h in
    let ids = bind_shows (items (bytes_of 32) n.0.1) (λ ids. if_some ids >>= (λ some. Some (line.Accepted n.0.0 some))) l n.2 in
    let some = bind_shows (if_some ids.0) (λ some. Some (line.Accepted n.0.0 some)) l ids.2 in
    let a = field_shows short_field words n.0 n.1 in
    let c = items_shows (bytes_field 32) n.0.1 ids.0 ids.1 in
    let d = some_shows ids.0 some.0 some.1 in
    subst (ReadsAs kind.Accepted words) (ap (line.Accepted n.0.0) d.0 ∙ unsome (line.Accepted n.0.0 some.0) l some.2)
    (refl, a.0 ∙ ap (λ ws. decimal n.0.0 ∷ ws) c.0, (a.1, d.1, c.1))

-- an answer which are accepted
tells_accepted_shows : (words : Words) (l : Line) → tells_accepted words ≡ Some l → ReadsAs kind.ToAccepted words l
unfolding tells_accepted
tells_accepted_shows words l h =
    let told = bind_shows (told_at words) (λ told. items (bytes_of 32) told.1 >>= (λ ids. Some (line.ToAccepted told.0.0 told.0.1 ids))) l h in
    let ids = bind_shows (items (bytes_of 32) told.0.1) (λ ids. Some (line.ToAccepted told.0.0.0 told.0.0.1 ids)) l told.2 in
    let a = told_shows words told.0 told.1 in
    let c = items_shows (bytes_field 32) told.0.1 ids.0 ids.1 in
    subst (ReadsAs kind.ToAccepted words) (unsome (line.ToAccepted told.0.0.0 told.0.0.1 ids.0) l ids.2)
    (refl, a.0 ∙ ap (λ ws. encode_lower told.0.0.0 ∷ decimal told.0.0.1 ∷ ws) c.0, (a.1, a.2, c.1))

-- an answer of blocks
tells_ancestors_shows : (words : Words) (l : Line) → tells_ancestors words ≡ Some l → ReadsAs kind.ToAncestors words l
unfolding tells_ancestors
tells_ancestors_shows words l h =
    let told = bind_shows (told_at words) (λ told. items block_of told.1 >>= (λ bs. if_some bs >>= (λ some. Some (line.ToAncestors told.0.0 told.0.1 some)))) l h in
    let bs = bind_shows (items block_of told.0.1) (λ bs. if_some bs >>= (λ some. Some (line.ToAncestors told.0.0.0 told.0.0.1 some))) l told.2 in
    let some = bind_shows (if_some bs.0) (λ some. Some (line.ToAncestors told.0.0.0 told.0.0.1 some)) l bs.2 in
    let a = told_shows words told.0 told.1 in
    let c = items_shows block_field told.0.1 bs.0 bs.1 in
    let d = some_shows bs.0 some.0 some.1 in
    subst (ReadsAs kind.ToAncestors words) (ap (line.ToAncestors told.0.0.0 told.0.0.1) d.0 ∙ unsome (line.ToAncestors told.0.0.0 told.0.0.1 some.0) l some.2)
    (refl, a.0 ∙ ap (λ ws. encode_lower told.0.0.0 ∷ decimal told.0.0.1 ∷ ws) c.0, (a.1, a.2, d.1, c.1))

-- an answer of a block
tells_block_shows : (words : Words) (l : Line) → tells_block words ≡ Some l → ReadsAs kind.ToBlock words l
unfolding tells_block
tells_block_shows words l h =
    let told = bind_shows (told_at words) (λ told. field block_of told.1 >>= (λ b. ended (line.ToBlock told.0.0 told.0.1 b.0, b.1))) l h in
    let b = bind_shows (field block_of told.0.1) (λ b. ended (line.ToBlock told.0.0.0 told.0.0.1 b.0, b.1)) l told.2 in
    let a = told_shows words told.0 told.1 in
    let c = field_shows block_field told.0.1 b.0 b.1 in
    let end = ended_shows (line.ToBlock told.0.0.0 told.0.0.1 b.0.0, b.0.1) l b.2 in
    subst (ReadsAs kind.ToBlock words) end.0
    (refl, a.0 ∙ ap (λ ws. encode_lower told.0.0.0 ∷ decimal told.0.0.1 ∷ ws) (c.0 ∙ ap (λ ws. block_word b.0.0 ∷ ws) end.1), (a.1, a.2, c.1))

-- a line that was read
pub fields_show : (k : Kind) (words : Words) (l : Line) → fields_of k words ≡ Some l → ReadsAs k words l
unfolding fields_of
fields_show kind.Query words l h = asks_shows words l h
fields_show kind.Get words l h = whole_shows kind.Get words l h
fields_show kind.Frontier words l h = whole_shows kind.Frontier words l h
fields_show kind.Accepted words l h = asks_accepted_shows words l h
fields_show kind.Ancestors words l h = whole_shows kind.Ancestors words l h
fields_show kind.Accept words l h = whole_shows kind.Accept words l h
fields_show kind.Reject words l h = whole_shows kind.Reject words l h
fields_show kind.Prefer words l h = whole_shows kind.Prefer words l h
fields_show kind.Drop words l h = whole_shows kind.Drop words l h
fields_show kind.DropQuery words l h = whole_shows kind.DropQuery words l h
fields_show kind.Skip words l h = whole_shows kind.Skip words l h
fields_show kind.Restart words l h = whole_shows kind.Restart words l h
fields_show kind.Bootstrapped words l h = whole_shows kind.Bootstrapped words l h
fields_show kind.ToChits words l h = whole_shows kind.ToChits words l h
fields_show kind.ToFrontier words l h = whole_shows kind.ToFrontier words l h
fields_show kind.ToAccepted words l h = tells_accepted_shows words l h
fields_show kind.ToAncestors words l h = tells_ancestors_shows words l h
fields_show kind.ToBlock words l h = tells_block_shows words l h
