-- Fields one behind the other, and blocks in the words of their chains.
use Rattle.std.proofs.Common.{◌≡◌, ℕ, ◌+◌, ◌<◌, ◌==◌, true, false, List, [], ◌∷◌, ◌++◌, length, drop, subst, Some, None, Result, Ok, Err, IsErr, refl, sym, ap, ◌∙◌, append_assoc, append-nil, add-one, if◌then◌else◌, arith}
use Rattle.std.proofs.lemmas.Bool.Decides.{nat_tests}
use Rattle.snow_text_model.specs.declared.refusal.Reason.{Reason}
use Rattle.snow_text_model.specs.declared.refusal.Reason.TheVariants as reason
use Rattle.snow_words.specs.declared.stop.Why.{Why}
use Rattle.snow_words.specs.declared.stop.Why.TheVariants as fault
use Rattle.snow_words.specs.declared.stop.Stop.{Stop}
use Rattle.snow_words.specs.declared.stop.Stop.TheVariants as stop
use Rattle.snow_text_model.specs.Model.Words.{Word, Halt, Field, ◌>>=◌, ◌&◌, all, all_of, at, ended}
use Rattle.snow_text_model.specs.Model.Names.{Names}
use Rattle.snow_text_model.specs.Model.Bytes.{bytes_of, part_word}
use Rattle.snow_text_model.specs.Model.Events.{behind, block_of, blocks_of, chain_of, first_word, sized_block}
use Rattle.snow_words.specs.Clauses.Cutting.{first, stopping}
use Rattle.snow_words.specs.Clauses.Making.{Reads, Tells, ahead, onto}
use Rattle.snow_say.specs.declared.chain.Chain.{Chain as Kind}
use Rattle.snow_say.specs.Clauses.Blocks.{chain_in, fields_in, is_dot}
use Rattle.snow_words.proofs.Cutting.{taken_shorter}
use Rattle.snow_words.proofs.Appended.{none_left, ok_both, unerr, unok}

-- ---- fields

after : (old mid : List ℕ) (x : List ℕ) (r : Result (List ℕ × List Word) Halt) → old ++ x ≡ mid → ahead old (r >>= (λ y. Ok (x ++ y.0, y.1))) ≡ ahead mid r
after old mid x (Ok y) h = ap (λ l. Ok (l, y.1)) (sym (append_assoc old x y.0) ∙ ap (λ l. l ++ y.0) h)
after old mid x (Err e) h = refl

both : (old mid : List ℕ) (rest : List Word) (b : Field) (r : Result (List ℕ × List Word) Halt) → ahead old r ≡ Ok (mid, rest)
    → ahead old (r >>= (λ x. b x.1 >>= (λ y. Ok (x.0 ++ y.0, y.1)))) ≡ ahead mid (b rest)
both old mid rest b (Ok x) h =
    let e = ok_both (old ++ x.0, x.1) (mid, rest) h in
    after old mid x.0 (b x.1) e.0 ∙ ap (λ ws. ahead mid (b ws)) e.1
both old mid rest b (Err e) h = cc h

both_not : (old : List ℕ) (b : Field) (r : Result (List ℕ × List Word) Halt) (halt : Halt) → ahead old r ≡ Err halt
    → ahead old (r >>= (λ x. b x.1 >>= (λ y. Ok (x.0 ++ y.0, y.1)))) ≡ Err halt
both_not old b (Ok x) halt h = cc h
both_not old b (Err e) halt h = ap Err (unerr e halt h)

-- a field was read
pub field_more : (a b : Field) (old mid : List ℕ) (words rest : List Word) → ahead old (a words) ≡ Ok (mid, rest) → ahead old ((a & b) words) ≡ ahead mid (b rest)
unfolding ◌&◌
field_more a b old mid words rest h = both old mid rest b (a words) h

-- it stopped
pub field_not : (a b : Field) (old : List ℕ) (words : List Word) (halt : Halt) → ahead old (a words) ≡ Err halt → ahead old ((a & b) words) ≡ Err halt
unfolding ◌&◌
field_not a b old words halt h = both_not old b (a words) halt h

-- the first was read, and so were the others, or they stopped
pub field_so : (a b : Field) (old mid : List ℕ) (words rest : List Word) (now : List ℕ × List Word) → ahead old (a words) ≡ Ok (mid, rest) → ahead mid (b rest) ≡ Ok now → ahead old ((a & b) words) ≡ Ok now
field_so a b old mid words rest now h k = field_more a b old mid words rest h ∙ k

pub field_then_not : (a b : Field) (old mid : List ℕ) (words rest : List Word) (halt : Halt) → ahead old (a words) ≡ Ok (mid, rest) → ahead mid (b rest) ≡ Err halt → ahead old ((a & b) words) ≡ Err halt
field_then_not a b old mid words rest halt h k = field_more a b old mid words rest h ∙ k

-- the first was read, and the others answered
pub reads_then : (a b : Field) (old mid : List ℕ) (words rest : List Word) (result : Result (Unit {0}) Stop) (now : List ℕ × List Word) → ahead old (a words) ≡ Ok (mid, rest)
    → Reads result now (ahead mid (b rest)) → Reads result now (ahead old ((a & b) words))
reads_then a b old mid words rest result now h k = subst (λ r. Reads result now r) (sym (field_more a b old mid words rest h)) k

-- the first stopped
pub reads_stop : (a b : Field) (old : List ℕ) (words : List Word) (told result : Result (Unit {0}) Stop) (now later : List ℕ × List Word) → Reads told now (ahead old (a words)) → told ≡ result → IsErr result
    → Reads result later (ahead old ((a & b) words))
reads_stop a b old words (Ok u) (Ok v) now later h e f = cc f
reads_stop a b old words (Ok u) (Err s) now later h e f = cc e
reads_stop a b old words (Err s) (Ok v) now later h e f = cc f
reads_stop a b old words (Err stop.Memory) (Err stop.Memory) now later h e f = tt
reads_stop a b old words (Err stop.Memory) (Err (stop.At r k)) now later h e f = cc e
reads_stop a b old words (Err (stop.At why left)) (Err stop.Memory) now later h e f = cc e
reads_stop a b old words (Err (stop.At why left)) (Err (stop.At r k)) now later h e f =
    let one : why ≡ r = cc e in
    let two : left ≡ k = cc e in
    field_not a b old words (record { why = why; left = left }) h
    ∙ ap (λ w. Err (record { why = w; left = left })) one ∙ ap (λ l. Err (record { why = r; left = l })) two

-- what fields one behind the other want
pub ruleset fielding = (field_so, field_then_not, field_not)

-- ---- all words

all_from : (old new : List ℕ) (r : Result (List ℕ) Halt) → onto old r ≡ Ok new → ahead old (r >>= (λ x. Ok (x, []))) ≡ Ok (new, [])
all_from old new (Ok x) h = let same : old ++ x ≡ new = cc in ap (λ l. Ok (l, [])) same
all_from old new (Err e) h = cc h

all_from_not : (old : List ℕ) (r : Result (List ℕ) Halt) (halt : Halt) → onto old r ≡ Err halt → ahead old (r >>= (λ x. Ok (x, []))) ≡ Err halt
all_from_not old (Ok x) halt h = cc h
all_from_not old (Err e) halt h = ap Err (unerr e halt h)

pub all_read : (of : List Word → Result (List ℕ) Halt) (old new : List ℕ) (words : List Word) → onto old (of words) ≡ Ok new → ahead old (all of words) ≡ Ok (new, [])
unfolding all
all_read of old new words h = all_from old new (of words) h

pub all_not : (of : List Word → Result (List ℕ) Halt) (old : List ℕ) (words : List Word) (halt : Halt) → onto old (of words) ≡ Err halt → ahead old (all of words) ≡ Err halt
unfolding all
all_not of old words halt h = all_from_not old (of words) halt h

end_is : (old : List ℕ) (r : Result (List ℕ × List Word) Halt) (new : List ℕ) → ahead old r ≡ Ok (new, []) → onto old (r >>= (λ x. if length x.1 == 0 then Ok x.0 else at x.1 (Err reason.Extra))) ≡ Ok new
end_is old (Ok (x, [])) new h = ap Ok (ok_both (old ++ x, []) (new, []) h).0
end_is old (Ok (x, w ∷ ws)) new h = let e : w ∷ ws ≡ [] = (ok_both (old ++ x, w ∷ ws) (new, []) h).1 in cc e
end_is old (Err e) new h = cc h

end_left : (old : List ℕ) (r : Result (List ℕ × List Word) Halt) (new : List ℕ) (left : List Word) → ahead old r ≡ Ok (new, left) → 0 < length left
    → onto old (r >>= (λ x. if length x.1 == 0 then Ok x.0 else at x.1 (Err reason.Extra))) ≡ Err (record { why = reason.Extra; left = length left })
end_left old (Ok x) new left h k =
    let same : x.1 ≡ left = (ok_both (old ++ x.0, x.1) (new, left) h).1 in
    let no : length left == 0 ≡ false = grind (arith, nat_tests, k) in
    rw (same, no) refl
end_left old (Err e) new left h k = cc h

end_not : (old : List ℕ) (r : Result (List ℕ × List Word) Halt) (halt : Halt) → ahead old r ≡ Err halt → onto old (r >>= (λ x. if length x.1 == 0 then Ok x.0 else at x.1 (Err reason.Extra))) ≡ Err halt
end_not old (Ok x) halt h = cc h
end_not old (Err e) halt h = ap Err (unerr e halt h)

-- fields behind which no word is left
pub ended_so : (a : Field) (old new : List ℕ) (words left : List Word) → ahead old (a words) ≡ Ok (new, left) → left ≡ [] → onto old (ended a words) ≡ Ok new
unfolding ended
ended_so a old new words left h e = end_is old (a words) new (h ∙ ap (λ l. Ok (new, l)) e)

pub ended_left : (a : Field) (old new : List ℕ) (words left : List Word) → ahead old (a words) ≡ Ok (new, left) → 0 < length left
    → onto old (ended a words) ≡ Err (record { why = reason.Extra; left = length left })
unfolding ended
ended_left a old new words left h k = end_left old (a words) new left h k

pub ended_not : (a : Field) (old : List ℕ) (words : List Word) (halt : Halt) → ahead old (a words) ≡ Err halt → onto old (ended a words) ≡ Err halt
unfolding ended
ended_not a old words halt h = end_not old (a words) halt h

-- what the end of a line wants
pub ruleset ending = (ended_so, ended_left, ended_not)

-- ---- bytes

say_more : (old new : List ℕ) (told rest : Result (List ℕ) Halt) → onto old told ≡ Ok new → onto old (told >>= (λ x. rest >>= (λ xs. Ok (x ++ xs)))) ≡ onto new rest
say_more old new (Ok x) (Ok y) h = let same : old ++ x ≡ new = cc in ap Ok (sym (append_assoc old x y) ∙ ap (λ l. l ++ y) same)
say_more old new (Ok x) (Err e) h = refl
say_more old new (Err e) rest h = cc h

say_not : (old : List ℕ) (told rest : Result (List ℕ) Halt) (halt : Halt) → onto old told ≡ Err halt → onto old (told >>= (λ x. rest >>= (λ xs. Ok (x ++ xs)))) ≡ Err halt
say_not old (Ok x) rest halt h = cc h
say_not old (Err e) rest halt h = ap Err (unerr e halt h)

said_at : (ws : List Word) (old new : List ℕ) (told : Result (List ℕ) Reason) → onto old told ≡ Ok new → onto old (at ws told) ≡ Ok new
said_at ws old new (Ok x) h = ap Ok (unok (old ++ x) new h)
said_at ws old new (Err e) h = cc h

not_at : (ws : List Word) (old : List ℕ) (told : Result (List ℕ) Reason) (why : Reason) → onto old told ≡ Err why → onto old (at ws told) ≡ Err (record { why = why; left = length ws })
not_at ws old (Ok x) why h = cc h
not_at ws old (Err e) why h = let same : e ≡ why = cc in rw same refl

module _ (of : Word → Result (List ℕ) Reason) where
  pub said_next : (old new : List ℕ) (ws : List Word) (w : Word) → Some w ≡ first ws → onto old (of w) ≡ Ok new → onto old (all_of of ws) ≡ onto new (all_of of (drop 1 ws))
  unfolding all_of
  said_next old new [] w f h = cc f
  said_next old new (q ∷ ws) w f h = let same : q ≡ w = cc in say_more old new (at (q ∷ ws) (of q)) (all_of of ws) (said_at (q ∷ ws) old new (of q) (ap (λ v. onto old (of v)) same ∙ h))

  said_not : (old : List ℕ) (ws : List Word) (w : Word) (why : Reason) → Some w ≡ first ws → onto old (of w) ≡ Err why → onto old (all_of of ws) ≡ Err (record { why = why; left = length (drop 1 ws) + 1 })
  unfolding all_of
  said_not old [] w why f h = cc f
  said_not old (q ∷ ws) w why f h =
      let same : q ≡ w = cc in
      say_not old (at (q ∷ ws) (of q)) (all_of of ws) (record { why = why; left = length (q ∷ ws) }) (not_at (q ∷ ws) old (of q) why (ap (λ v. onto old (of v)) same ∙ h))
      ∙ ap (λ k. Err (record { why = why; left = k })) (sym (add-one (length ws)))

  pub said_stop : (old : List ℕ) (ws : List Word) (w : Word) (now : List ℕ) (told : Result (Unit {0}) Why) → Some w ≡ first ws → Tells told now (onto old (of w))
      → (e : Stop) → stopping told (length (drop 1 ws) + 1) ≡ Err e → (later : List ℕ) → Reads (Err e) later (onto old (all_of of ws))
  said_stop old ws w now (Ok u) f h e g later = cc g
  said_stop old ws w now (Err fault.Memory) f h stop.Memory g later = tt
  said_stop old ws w now (Err fault.Memory) f h (stop.At r k) g later = cc g
  said_stop old ws w now (Err (fault.Not reason)) f h stop.Memory g later = cc g
  said_stop old ws w now (Err (fault.Not reason)) f h (stop.At r k) g later =
      let one : reason ≡ r = cc in
      let two : length (drop 1 ws) + 1 ≡ k = cc in
      said_not old ws w reason f h ∙ rw (one, two) refl

  pub said_done : (old : List ℕ) (ws : List Word) → None ≡ first ws → onto old (all_of of ws) ≡ Ok old
  unfolding all_of
  said_done old [] f = ap Ok (append-nil old)
  said_done old (q ∷ ws) f = cc f

module _ (names : Names) where
  pub part_next : (old new : List ℕ) (ws : List Word) (w : Word) → Some w ≡ first ws → onto old (part_word names w) ≡ Ok new → onto old (all_of (part_word names) ws) ≡ onto new (all_of (part_word names) (drop 1 ws))
  part_next = said_next (part_word names)

  pub part_stop : (old : List ℕ) (ws : List Word) (w : Word) (now : List ℕ) (told : Result (Unit {0}) Why) → Some w ≡ first ws → Tells told now (onto old (part_word names w))
      → (e : Stop) → stopping told (length (drop 1 ws) + 1) ≡ Err e → (later : List ℕ) (all : Result (List ℕ) Halt) → onto old (all_of (part_word names) ws) ≡ all → Reads (Err e) later all
  part_stop old ws w now told f h e g later all k = subst (λ r. Reads (Err e) later r) k (said_stop (part_word names) old ws w now told f h e g later)

  pub part_done : (old : List ℕ) (ws : List Word) → None ≡ first ws → onto old (all_of (part_word names) ws) ≡ Ok old
  part_done = said_done (part_word names)

-- what going through words wants
pub ruleset saying = (part_next, part_stop, part_done, none_left, taken_shorter)

pub bytes_none : (names : Names) (ws : List Word) → ws ≡ [] → bytes_of names ws ≡ Err (record { why = reason.Missing; left = 0 })
unfolding bytes_of
bytes_none names ws e = rw e refl

pub bytes_dot : (names : Names) (ws : List Word) → is_dot ws ≡ true → bytes_of names ws ≡ Ok []
unfolding bytes_of
bytes_dot names [] h = cc h
bytes_dot names (w ∷ more) h = rw h refl

pub bytes_all : (names : Names) (ws : List Word) → 0 < length ws → is_dot ws ≡ false → bytes_of names ws ≡ all_of (part_word names) ws
unfolding bytes_of
bytes_all names [] h k = absurd (omega (arith, h))
bytes_all names (w ∷ more) h k = rw k refl

-- no bytes are said
pub bytes_nothing : (names : Names) (old : List ℕ) (ws : List Word) → is_dot ws ≡ true → onto old (bytes_of names ws) ≡ Ok old
bytes_nothing names old ws h = ap (onto old) (bytes_dot names ws h) ∙ ap Ok (append-nil old)

pub behind_some : (names : Names) (ws : List Word) → 0 < length ws → behind names ws ≡ bytes_of names ws
behind_some names [] h = absurd (omega (arith, h))
behind_some names (w ∷ more) h = refl

-- bytes behind the fields of a block
pub behind_nothing : (names : Names) (old : List ℕ) (ws : List Word) → ws ≡ [] → ahead old (all (behind names) ws) ≡ Ok (old, ws)
unfolding all
behind_nothing names old ws e = rw e (ap (λ l. Ok (l, [])) (append-nil old))

pub behind_told : (names : Names) (old new : List ℕ) (ws : List Word) → 0 < length ws → onto old (bytes_of names ws) ≡ Ok new → ahead old (all (behind names) ws) ≡ Ok (new, [])
behind_told names old new ws some h = all_read (behind names) old new ws (ap (onto old) (behind_some names ws some) ∙ h)

pub behind_not : (names : Names) (old : List ℕ) (ws : List Word) (halt : Halt) → 0 < length ws → onto old (bytes_of names ws) ≡ Err halt → ahead old (all (behind names) ws) ≡ Err halt
behind_not names old ws halt some h = all_not (behind names) old ws halt (ap (onto old) (behind_some names ws some) ∙ h)

-- what bytes behind a block want
pub ruleset behinding = (behind_nothing, behind_told, behind_not)

-- a block, or blocks, as a field
pub block_read : (names : Names) (old new : List ℕ) (ws : List Word) → onto old (sized_block names ws) ≡ Ok new → ahead old (all (sized_block names) ws) ≡ Ok (new, [])
block_read names old new ws h = all_read (sized_block names) old new ws h

pub block_read_not : (names : Names) (old : List ℕ) (ws : List Word) (halt : Halt) → onto old (sized_block names ws) ≡ Err halt → ahead old (all (sized_block names) ws) ≡ Err halt
block_read_not names old ws halt h = all_not (sized_block names) old ws halt h

pub blocks_read : (names : Names) (old new : List ℕ) (ws : List Word) → onto old (blocks_of names ws) ≡ Ok new → ahead old (all (blocks_of names) ws) ≡ Ok (new, [])
blocks_read names old new ws h = all_read (blocks_of names) old new ws h

pub blocks_read_not : (names : Names) (old : List ℕ) (ws : List Word) (halt : Halt) → onto old (blocks_of names ws) ≡ Err halt → ahead old (all (blocks_of names) ws) ≡ Err halt
blocks_read_not names old ws halt h = all_not (blocks_of names) old ws halt h

-- what a block as a field wants
pub ruleset wholes = (block_read, block_read_not, blocks_read, blocks_read_not)

-- ---- blocks

pub block_bytes : (names : Names) (ws : List Word) → chain_of names (first_word ws) ≡ None → block_of names ws ≡ bytes_of names ws
unfolding block_of
block_bytes names ws h = rw h refl

pub block_chain : (names : Names) (ws : List Word) (k : Kind) → chain_of names (first_word ws) ≡ Some (chain_in names k) → block_of names ws ≡ ended (fields_in k names) (drop 1 ws)
unfolding block_of fields_in
block_chain names ws k h = rw h refl
