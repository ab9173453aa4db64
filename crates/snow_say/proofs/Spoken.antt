-- What the words of a line say.
use Rattle.std.proofs.Common.{◌≡◌, ℕ, ◌+◌, ◌<◌, ◌≤◌, true, false, nat_le, List, [], ◌∷◌, length, drop, take, find, is_some, codes, Option, Some, None, Result, Ok, Err, refl, sym, ap, add-one, arith}
use Rattle.std.specs.Str.{bytes_eq}
use Rattle.std.proofs.lemmas.Bool.{le-leb}
use Rattle.std.proofs.lemmas.Bool.Decides.{nat_tests}
use Rattle.std.proofs.lemmas.List.{take_all}
use Rattle.snow_text_model.specs.declared.refusal.Reason.TheVariants as reason
use Rattle.snow_text_model.specs.Model.Words.{Word, Halt, ◌>>=◌, ended}
use Rattle.snow_text_model.specs.Model.Names.{Names, is_name}
use Rattle.snow_text_model.specs.Model.Bytes.{bytes_of}
use Rattle.snow_text_model.specs.Model.Events.{Chain, chain_of, first_word, payload_of}
use Rattle.snow_text_model.specs.Model.Made.{Nothing, Name, Frame, Rest, named_as, naming, say_words}
use Rattle.snow_words.specs.Clauses.Cutting.{first}
use Rattle.snow_say.specs.declared.chain.Chain.{Chain as Kind}
use Rattle.snow_say.specs.Clauses.Blocks.{chain_in, fields_in}
use Rattle.snow_words.specs.Clauses.Making.{onto}
use Rattle.snow_say.specs.Clauses.Meaning.{block_named, framed_as, named_block, rest_as}

-- ---- the first word

pub says_none : (names : Names) (ws : List Word) → None ≡ first ws → say_words names ws ≡ Ok Nothing
unfolding say_words
says_none names [] f = refl
says_none names (w ∷ ws) f = cc f

pub says_rest : (names : Names) (ws : List Word) (word : Word) → Some word ≡ first ws → bytes_eq (codes "rest") word ≡ true → say_words names ws ≡ rest_as (bytes_of names (drop 1 ws))
unfolding say_words
says_rest names [] word f h = cc f
says_rest names (w ∷ ws) word f h = let same : w ≡ word = cc in rw (same, h) refl

pub says_name : (names : Names) (ws : List Word) (word : Word) → Some word ≡ first ws → bytes_eq (codes "rest") word ≡ false → bytes_eq (codes "name") word ≡ true
    → say_words names ws ≡ naming names (drop 1 ws)
unfolding say_words
says_name names [] word f h k = cc f
says_name names (w ∷ ws) word f h k = let same : w ≡ word = cc in rw (same, h, k) refl

pub says_frame : (names : Names) (ws : List Word) (word : Word) → Some word ≡ first ws → bytes_eq (codes "rest") word ≡ false → bytes_eq (codes "name") word ≡ false
    → say_words names ws ≡ framed_as ws (payload_of names ws)
unfolding say_words framed_as
says_frame names [] word f h k = cc f
says_frame names (w ∷ ws) word f h k = let same : w ≡ word = cc in rw (same, h, k) refl

-- what the first word wants
pub ruleset saying = (says_none, says_rest, says_name, says_frame)

-- ---- rests and frames

pub rest_told : (new : List ℕ) (told : Result (List ℕ) Halt) → onto [] told ≡ Ok new → rest_as told ≡ Ok (Rest new)
rest_told new (Ok x) h = let same : x ≡ new = cc in ap (λ l. Ok (Rest l)) same
rest_told new (Err e) h = cc h

pub rest_not : (told : Result (List ℕ) Halt) (halt : Halt) → onto [] told ≡ Err halt → rest_as told ≡ Err halt
rest_not (Ok x) halt h = cc h
rest_not (Err e) halt h = let same : e ≡ halt = cc in ap Err same

pub frame_told : (ws : List Word) (new : List ℕ) (told : Result (List ℕ) Halt) → onto [] told ≡ Ok new → length new ≤ 2097152 → framed_as ws told ≡ Ok (Frame new)
unfolding framed_as
frame_told ws new (Ok x) h k = let same : x ≡ new = cc in rw same (rw (le-leb (length new) 2097152 k) refl)
frame_told ws new (Err e) h k = cc h

pub frame_long : (ws : List Word) (new : List ℕ) (told : Result (List ℕ) Halt) → onto [] told ≡ Ok new → 2097152 < length new → framed_as ws told ≡ Err (record { why = reason.Long; left = length ws })
unfolding framed_as
frame_long ws new (Ok x) h k =
    let same : x ≡ new = cc in
    let no : nat_le (length new) 2097152 ≡ false = grind (arith, nat_tests, k) in
    rw same (rw no refl)
frame_long ws new (Err e) h k = cc h

pub frame_not : (ws : List Word) (told : Result (List ℕ) Halt) (halt : Halt) → onto [] told ≡ Err halt → framed_as ws told ≡ Err halt
unfolding framed_as
frame_not ws (Ok x) halt h = cc h
frame_not ws (Err e) halt h = let same : e ≡ halt = cc in ap Err same

-- what a frame wants
pub ruleset framing = (frame_told, frame_long, frame_not)

-- ---- names

pub name_none : (names : Names) (ws : List Word) → ws ≡ [] → naming names ws ≡ Err (record { why = reason.Missing; left = 0 })
unfolding naming
name_none names ws e = rw e refl

pub name_bad : (names : Names) (ws : List Word) (name : Word) (more : List Word) → ws ≡ name ∷ more → is_name name ≡ false → naming names ws ≡ Err (record { why = reason.Naming; left = length more + 1 })
unfolding naming
name_bad names ws name more e h = rw (e, h) (ap (λ k. Err (record { why = reason.Naming; left = k })) (sym (add-one (length more))))

pub name_twice : (names : Names) (ws : List Word) (name : Word) (more : List Word) → ws ≡ name ∷ more → is_name name ≡ true → is_some (find (λ n. bytes_eq n.name name) names) ≡ true
    → naming names ws ≡ Err (record { why = reason.Twice; left = length more + 1 })
unfolding naming
name_twice names ws name more e h k = rw (e, h, k) (ap (λ n. Err (record { why = reason.Twice; left = n })) (sym (add-one (length more))))

pub name_new : (names : Names) (ws : List Word) (name : Word) (more : List Word) → ws ≡ name ∷ more → is_name name ≡ true → is_some (find (λ n. bytes_eq n.name name) names) ≡ false
    → naming names ws ≡ named_as name (chain_of names (first_word more)) more
unfolding naming
name_new names ws name more e h k = rw (e, h, k) refl

-- what a name wants
pub ruleset names = (name_none, name_bad, name_twice, name_new)

pub named_none : (name : Word) (chain : Option Chain) (ws : List Word) → chain ≡ None → named_as name chain ws ≡ Err (record { why = reason.Chain; left = length ws })
named_none name chain ws e = rw e refl

pub named_some : (name : Word) (chain : Option Chain) (names : Names) (k : Kind) (ws : List Word) → chain ≡ Some (chain_in names k) → named_as name chain ws ≡ named_block k names name (drop 1 ws)
unfolding named_block fields_in
named_some name chain names k ws e = rw e refl

block_from : (chain : Chain) (name : Word) (new : List ℕ) (told : Result (List ℕ) Halt) → onto [] told ≡ Ok new → (told >>= (λ bytes. Ok (Name (block_named chain name bytes)))) ≡ Ok (Name (block_named chain name new))
block_from chain name new (Ok x) h = let same : x ≡ new = cc in ap (λ l. Ok (Name (block_named chain name l))) same
block_from chain name new (Err e) h = cc h

block_from_not : (chain : Chain) (name : Word) (told : Result (List ℕ) Halt) (halt : Halt) → onto [] told ≡ Err halt → (told >>= (λ bytes. Ok (Name (block_named chain name bytes)))) ≡ Err halt
block_from_not chain name (Ok x) halt h = cc h
block_from_not chain name (Err e) halt h = let same : e ≡ halt = cc in ap Err same

pub block_told : (k : Kind) (names : Names) (name : Word) (ws : List Word) (new : List ℕ) → onto [] (ended (fields_in k names) ws) ≡ Ok new
    → named_block k names name ws ≡ Ok (Name (block_named (chain_in names k) name new))
unfolding named_block
block_told k names name ws new h = block_from (chain_in names k) name new (ended (fields_in k names) ws) h

pub block_not : (k : Kind) (names : Names) (name : Word) (ws : List Word) (halt : Halt) → onto [] (ended (fields_in k names) ws) ≡ Err halt → named_block k names name ws ≡ Err halt
unfolding named_block
block_not k names name ws halt h = block_from_not (chain_in names k) name (ended (fields_in k names) ws) halt h

-- all of a few bytes
pub short_front : (bytes : List ℕ) → length bytes < 32 → bytes ≡ take 32 bytes
short_front bytes h = sym (take_all 32 bytes (omega (arith, h)))
