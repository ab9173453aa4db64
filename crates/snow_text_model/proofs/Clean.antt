-- The words of an event are words of a line: none is empty, and none has a space, a newline or a `#`.
use Rattle.std.proofs.Common.{◌≡◌, ℕ, ◌<◌, ◌≤◌, ◌^◌, ◌==◌, if◌then◌else◌, Bool, true, false, List, [], ◌∷◌, ◌++◌, length, map, decimal, refl, arith}
use Rattle.std.specs.List.{AllByRecursion}
use Rattle.std.proofs.lemmas.List.{length-append}
use Rattle.snow_text_model.specs.Model.Words.{Word}
use Rattle.snow_text_model.specs.Model.Bytes.{runs_of}
use Rattle.snow_text_model.specs.Model.Shown.{listed_text, some_field, some_word, times_text, times_texts}
use Rattle.snow_text_model.proofs.Marks.{AllLack, IsMark, Lacks, decimal_lacks, hash, lacks_both, lacks_cons, newline, space}
use Rattle.snow_text_model.proofs.Runs.{AreBelow, AreRuns, IsRun, runs_are}
use Rattle.snow_text_model.proofs.Framed.{AreWords}
use Rattle.snow_text_model.proofs.Values.{IsValue, decimal_value}

-- a word with no byte that ends one
pub record IsClean (word : Word) : Type 0 where
  pub some : 0 < length word
  pub line : Lacks 10 word
  pub gap : Lacks 32 word
  pub note : Lacks 35 word

abbrev pub AreClean : List Word → Type 0
AreClean [] = Unit {0}
AreClean (word ∷ more) = IsClean word × AreClean more

-- ---- what they show

pub words_from : (ws : List Word) → AreClean ws → AreWords ws
words_from [] h = tt
words_from (w ∷ ws) h = (h.0.some, words_from ws h.1)

pub lines_from : (ws : List Word) → AreClean ws → AllLack 10 ws
lines_from [] h = tt
lines_from (w ∷ ws) h = (h.0.line, lines_from ws h.1)

pub gaps_from : (ws : List Word) → AreClean ws → AllLack 32 ws
gaps_from [] h = tt
gaps_from (w ∷ ws) h = (h.0.gap, gaps_from ws h.1)

pub notes_from : (ws : List Word) → AreClean ws → AllLack 35 ws
notes_from [] h = tt
notes_from (w ∷ ws) h = (h.0.note, notes_from ws h.1)

-- ---- words that are clean

-- words one behind another
pub clean_both : (ws vs : List Word) → AreClean ws → AreClean vs → AreClean (ws ++ vs)
clean_both [] vs h k = k
clean_both (w ∷ ws) vs h k = (h.0, clean_both ws vs h.1 k)

-- a value
pub clean_value : (word : Word) → IsValue word → IsClean word
clean_value word is = record {
  some = is.some;
  line = is.lacks 10 newline refl refl refl;
  gap = is.lacks 32 space refl refl refl;
  note = is.lacks 35 hash refl refl refl;
}

-- two words with a byte between them
pub clean_at : (c : ℕ) (a b : Word) → c == 10 ≡ false → c == 32 ≡ false → c == 35 ≡ false → IsClean a → IsClean b → IsClean (a ++ c ∷ b)
clean_at c a b line gap note ca cb =
    let some = ca.some in
    record {
      some = omega (arith, some, length-append a (c ∷ b));
      line = lacks_both 10 a (c ∷ b) ca.line (lacks_cons 10 c b line cb.line);
      gap = lacks_both 32 a (c ∷ b) ca.gap (lacks_cons 32 c b gap cb.gap);
      note = lacks_both 35 a (c ∷ b) ca.note (lacks_cons 35 c b note cb.note);
    }

-- words with commas between them
pub clean_list : (word : Word) (more : List Word) → AreClean (word ∷ more) → IsClean (listed_text (word ∷ more))
clean_list word [] h = h.0
clean_list word (next ∷ more) h = clean_at 44 word (listed_text (next ∷ more)) refl refl refl h.0 (clean_list next more h.1)

-- one word of a list
pub clean_some : (ws : List Word) → AreClean ws → AreClean (some_word ws)
clean_some [] h = tt
clean_some (w ∷ ws) h = (clean_list w ws h, tt)

-- a field of a list
pub clean_field : (name : Word) (ws : List Word) → IsClean name → AreClean ws → AreClean (some_field name ws)
clean_field name [] n h = tt
clean_field name (w ∷ ws) n h = (clean_at 61 name (listed_text (w ∷ ws)) refl refl refl n (clean_list w ws h), tt)

-- the words of items
pub clean_each : {A : Type 0} {Good : A → Type 0} (text : A → Word) → ((x : A) → Good x → IsClean (text x)) → (xs : List A) → AllByRecursion Good xs → AreClean (map text xs)
clean_each text h [] good = tt
clean_each text h (x ∷ xs) good = (h x good.0, clean_each text h xs good.1)

-- a byte that stands in no item's word
pub lack_each : {A : Type 0} {Good : A → Type 0} (c : ℕ) (text : A → Word) → ((x : A) → Good x → Lacks c (text x)) → (xs : List A) → AllByRecursion Good xs → AllLack c (map text xs)
lack_each c text h [] good = tt
lack_each c text h (x ∷ xs) good = (h x good.0, lack_each c text h xs good.1)

-- ---- numbers again and again

run_lacks : (t : Bool) (c : ℕ) → IsMark c → 42 == c ≡ false → (run : ℕ × ℕ) → IsRun (2 ^ 64) run → Lacks c (if t then decimal run.0 else decimal run.0 ++ 42 ∷ decimal run.1)
run_lacks true c mark apart run is = decimal_lacks c mark run.0 is.0
run_lacks false c mark apart run is =
    let most : run.1 ≤ 4194304 = is.2 in
    lacks_both c (decimal run.0) (42 ∷ decimal run.1) (decimal_lacks c mark run.0 is.0) (lacks_cons c 42 (decimal run.1) apart (decimal_lacks c mark run.1 (omega (arith, most))))

runs_lack : (c : ℕ) → IsMark c → 42 == c ≡ false → (runs : List (ℕ × ℕ)) → AreRuns (2 ^ 64) runs → AllLack c (map times_text runs)
runs_lack c mark apart [] are = tt
runs_lack c mark apart (run ∷ runs) are = (run_lacks (run.1 == 1) c mark apart run are.0, runs_lack c mark apart runs are.1)

-- a byte that stands in no number
pub times_lack : (c : ℕ) → IsMark c → 42 == c ≡ false → (ns : List ℕ) → AreBelow (2 ^ 64) ns → AllLack c (times_texts ns)
times_lack c mark apart ns below = runs_lack c mark apart (runs_of ns) (runs_are (2 ^ 64) ns below)

run_clean : (t : Bool) (run : ℕ × ℕ) → IsRun (2 ^ 64) run → IsClean (if t then decimal run.0 else decimal run.0 ++ 42 ∷ decimal run.1)
run_clean true run is = clean_value (decimal run.0) (decimal_value run.0 is.0)
run_clean false run is =
    let most : run.1 ≤ 4194304 = is.2 in
    clean_at 42 (decimal run.0) (decimal run.1) refl refl refl (clean_value (decimal run.0) (decimal_value run.0 is.0)) (clean_value (decimal run.1) (decimal_value run.1 (omega (arith, most))))

runs_clean : (runs : List (ℕ × ℕ)) → AreRuns (2 ^ 64) runs → AreClean (map times_text runs)
runs_clean [] are = tt
runs_clean (run ∷ runs) are = (run_clean (run.1 == 1) run are.0, runs_clean runs are.1)

-- numbers
pub times_clean : (ns : List ℕ) → AreBelow (2 ^ 64) ns → AreClean (times_texts ns)
times_clean ns below = runs_clean (runs_of ns) (runs_are (2 ^ 64) ns below)
