-- A stream is frames and a rest in one way, which going from the front finds.
use Rattle.std.proofs.Common.{◌≡◌, ℕ, zero, suc, ◌+◌, ◌<◌, ◌≤◌, ◌⊎◌, Bool, true, false, cond, ◌&&◌, nat_le, nat_lt, List, [], ◌∷◌, ◌++◌, length, take, drop, Option, Some, None, refl, sym, ap, subst, ◌∙◌, append_assoc, arith, inl, inr}
use Rattle.std.specs.List.{flat_map, AllByRecursion}
use Rattle.std.proofs.lemmas.Bool.Decides.{nat_tests}
use Rattle.std.proofs.lemmas.List.{take_at, drop_at, drop-drop, take-append-drop, length-drop, length-take, length-append, append-nil}
use Rattle.std.proofs.lemmas.List.Concat.{flat_map-cons}
use Rattle.std.proofs.lemmas.List.Elements.{All-nil, All-cons, recursion_from_All}
use Rattle.byteorder.specs.Numbers.{big_number-reads_back, length-bytes_high_first}
use Rattle.snow_wire.specs.Model.Spelling.{number}
use Rattle.snow_wire.specs.Model.Reading.{IsBytes}
use Rattle.snow_wire.specs.Model.Frame.{IsPayload, IsRest, AreFrames, frame, length_word, is_whole, is_too_long, first_of, led_by, frames_in, frames_of}
use Rattle.snow_wire.proofs.Numbers.{IsBytes-behind, width4, front_spells}

-- ---- the first frame

-- n bytes that say w hold a whole frame
pub record IsWhole (n w : ℕ) : Type 0 where
  pub word : 4 ≤ n
  pub limit : w ≤ 2097152
  pub all : 4 + w ≤ n

-- the test tells it
pub whole_if : (n w : ℕ) → (nat_le 4 n && nat_le w 2097152 && nat_le (4 + w) n) ≡ true → IsWhole n w
whole_if n w h = record { word = grind (arith, nat_tests); limit = grind (arith, nat_tests); all = grind (arith, nat_tests) }

-- the test holds
pub if_whole : (n w : ℕ) → w ≤ 2097152 → 4 + w ≤ n → (nat_le 4 n && nat_le w 2097152 && nat_le (4 + w) n) ≡ true
if_whole n w a b = grind (arith, nat_tests)

-- the test fails on a rest alone
rest_if : (n w : ℕ) → (nat_le 4 n && nat_le w 2097152 && nat_le (4 + w) n) ≡ false → (n < 4) ⊎ (2097152 < w) ⊎ (n < 4 + w)
rest_if n w h = grind (arith, nat_tests)

-- the test fails on a rest
if_rest : (n w : ℕ) → (n < 4) ⊎ (2097152 < w) ⊎ (n < 4 + w) → (nat_le 4 n && nat_le w 2097152 && nat_le (4 + w) n) ≡ false
if_rest n w (inl a) = grind (arith, nat_tests)
if_rest n w (inr (inl b)) = grind (arith, nat_tests)
if_rest n w (inr (inr c)) = grind (arith, nat_tests)

-- a test that held
pub given_if : {A : Type 0} (b : Bool) (x y : A) → cond b (Some x) None ≡ Some y → (b ≡ true) × (x ≡ y)
given_if true x y e = (refl, cc)
given_if false x y e = absurd cc

-- a test that failed
pub none_if : {A : Type 0} (b : Bool) (x : A) → cond b (Some x) None ≡ None → b ≡ false
none_if true x e = absurd cc
none_if false x e = refl

-- a frame, and what is behind it
pub record Leads (bytes : List ℕ) (first : List ℕ × List ℕ) : Type 0 where
  pub parts : bytes ≡ frame first.0 ++ first.1
  pub payload : IsPayload first.0

-- four bytes that spell a length, so many bytes, and a rest
led : (bytes : List ℕ) (w : ℕ) → length_word bytes ≡ w → IsBytes bytes → IsWhole (length bytes) w → Leads bytes (take w (drop 4 bytes), drop w (drop 4 bytes))
unfolding number
led bytes w word fits whole =
    let behind = drop 4 bytes in
    let four : 4 ≤ length bytes = whole.word in
    let all : 4 + w ≤ length bytes = whole.all in
    let len : length (take w behind) ≡ w = omega (arith, length-take w behind, length-drop 4 bytes) in
    let spelled : number 4 w ≡ take 4 bytes = ap (number 4) (sym word) ∙ front_spells 4 width4 bytes four fits in
    let parts : bytes ≡ (number 4 (length (take w behind)) ++ take w behind) ++ drop w behind =
    sym (take-append-drop 4 bytes) ∙ ap (λ (front : List ℕ). front ++ behind) (sym spelled) ∙ ap (λ (x : List ℕ). number 4 w ++ x) (sym (take-append-drop w behind)) ∙ ap (λ (n : ℕ). number 4 n ++ (take w behind ++ drop w behind)) (sym len) ∙ sym (append_assoc (number 4 (length (take w behind))) (take w behind) (drop w behind)) in
    record { parts = parts; payload = rw len whole.limit }

placed : (bytes : List ℕ) (w : ℕ) → IsWhole (length bytes) w → (drop w (drop 4 bytes) ≡ drop (4 + length (take w (drop 4 bytes))) bytes) × (4 + length (take w (drop 4 bytes)) ≤ length bytes)
placed bytes w whole =
    let all : 4 + w ≤ length bytes = whole.all in
    let len : length (take w (drop 4 bytes)) ≡ w = omega (arith, length-take w (drop 4 bytes), length-drop 4 bytes) in
    rw len (drop-drop w 4 bytes, all)

-- what first_of gives is a frame, and what is behind it
pub first_leads : (bytes : List ℕ) (first : List ℕ × List ℕ) → IsBytes bytes → first_of bytes ≡ Some first → Leads bytes first
unfolding first_of
first_leads bytes first fits e =
    let g = given_if (is_whole bytes) (take (length_word bytes) (drop 4 bytes), drop (length_word bytes) (drop 4 bytes)) first e in
    subst (λ (f : List ℕ × List ℕ). Leads bytes f) g.1 (led bytes (length_word bytes) refl fits (whole_if (length bytes) (length_word bytes) g.0))

front_first : (front payload rest : List ℕ) → length front ≡ 4 → length_word (front ++ (payload ++ rest)) ≡ length payload → IsPayload payload
    → first_of (front ++ (payload ++ rest)) ≡ Some (payload, rest)
unfolding first_of
front_first front payload rest len word small =
    let all = front ++ (payload ++ rest) in
    let long : 4 + length_word all ≤ length all = rw word (omega (arith, length-append front (payload ++ rest), length-append payload rest)) in
    let whole : is_whole all ≡ true = if_whole (length all) (length_word all) (rw word small) long in
    rw (whole, drop_at front (payload ++ rest) 4 len, word, take_at payload rest (length payload) refl, drop_at payload rest (length payload) refl) refl

-- a frame in front is the first one
pub frame_first : (payload rest : List ℕ) → IsPayload payload → first_of (frame payload ++ rest) ≡ Some (payload, rest)
unfolding number
frame_first payload rest small =
    let word = number 4 (length payload) in
    ap first_of (append_assoc word payload rest)
    ∙ front_first word payload rest (length-bytes_high_first 4 (length payload)) (big_number-reads_back 4 (length payload) (payload ++ rest) (omega arith)) small

-- a rest begins with no frame
pub rest_first : (rest : List ℕ) → IsRest rest → first_of rest ≡ None
unfolding first_of
rest_first rest partial = rw (if_rest (length rest) (length_word rest) partial) refl

-- what begins with no frame is a rest
pub first_rest : (bytes : List ℕ) → first_of bytes ≡ None → IsRest bytes
unfolding first_of
first_rest bytes e = rest_if (length bytes) (length_word bytes) (none_if (is_whole bytes) (take (length_word bytes) (drop 4 bytes), drop (length_word bytes) (drop 4 bytes)) e)

held : (n w : ℕ) → (n < 4) ⊎ (2097152 < w) ⊎ (n < 4 + w) → (nat_le 4 n && nat_lt 2097152 w) ≡ false → n ≤ 2097155
held n w partial fine = grind (arith, nat_tests)

not_whole : (n w : ℕ) → (nat_le 4 n && nat_lt 2097152 w) ≡ true → (n < 4) ⊎ (2097152 < w) ⊎ (n < 4 + w)
not_whole n w long = inr (inl (grind (arith, nat_tests)))

-- a length above the limit begins no frame
pub long_first : (rest : List ℕ) → is_too_long rest ≡ true → first_of rest ≡ None
long_first rest long = rest_first rest (not_whole (length rest) (length_word rest) long)

-- less than a frame, and no length above the limit
pub small_rest : (rest : List ℕ) → first_of rest ≡ None → is_too_long rest ≡ false → length rest ≤ 2097155
small_rest rest none fine = held (length rest) (length_word rest) (first_rest rest none) fine

-- what is behind the first frame is shorter
pub behind_shorter : (bytes : List ℕ) (first : List ℕ × List ℕ) → first_of bytes ≡ Some first → length first.1 < length bytes
unfolding first_of
behind_shorter bytes first e =
    let g = given_if (is_whole bytes) (take (length_word bytes) (drop 4 bytes), drop (length_word bytes) (drop 4 bytes)) first e in
    let whole = whole_if (length bytes) (length_word bytes) g.0 in
    let four : 4 ≤ length bytes = whole.word in
    subst (λ (f : List ℕ × List ℕ). length f.1 < length bytes) g.1 (omega (arith, four, length-drop (length_word bytes) (drop 4 bytes), length-drop 4 bytes))

-- what is behind the first frame, by its place
pub off_front : (bytes : List ℕ) (first : List ℕ × List ℕ) → first_of bytes ≡ Some first → (first.1 ≡ drop (4 + length first.0) bytes) × (4 + length first.0 ≤ length bytes)
unfolding first_of
off_front bytes first e =
    let g = given_if (is_whole bytes) (take (length_word bytes) (drop 4 bytes), drop (length_word bytes) (drop 4 bytes)) first e in
    subst (λ (f : List ℕ × List ℕ). (f.1 ≡ drop (4 + length f.0) bytes) × (4 + length f.0 ≤ length bytes)) g.1 (placed bytes (length_word bytes) (whole_if (length bytes) (length_word bytes) g.0))

-- the same where the bytes begin at a place of others
pub off_place : (start : ℕ) (bytes : List ℕ) (first : List ℕ × List ℕ) → first_of (drop start bytes) ≡ Some first → first_of (drop start bytes) ≡ Some (first.0, drop (start + (4 + length first.0)) bytes)
off_place start bytes first e =
    let placed : first.1 ≡ drop (start + (4 + length first.0)) bytes = (off_front (drop start bytes) first e).0 ∙ drop-drop (4 + length first.0) start bytes in
    e ∙ ap (λ (rest : List ℕ). Some (first.0, rest)) placed

-- ---- all frames

same_led : (f g : List ℕ → List (List ℕ) × List ℕ) (bytes : List ℕ) (o : Option (List ℕ × List ℕ)) → ((first : List ℕ × List ℕ) → o ≡ Some first → f first.1 ≡ g first.1)
    → led_by f bytes o ≡ led_by g bytes o
same_led f g bytes None h = refl
same_led f g bytes (Some first) h = ap (λ (r : List (List ℕ) × List ℕ). (first.0 ∷ r.0, r.1)) (h first refl)

-- enough fuel is enough
enough : (n m : ℕ) (bytes : List ℕ) → length bytes ≤ n → length bytes ≤ m → frames_in n bytes ≡ frames_in m bytes
unfolding frames_in
enough zero zero bytes a b = refl
enough zero (suc m) bytes a b = rw (rest_first bytes (inl (omega arith))) refl
enough (suc n) zero bytes a b = rw (rest_first bytes (inl (omega arith))) refl
enough (suc n) (suc m) bytes a b =
    same_led (frames_in n) (frames_in m) bytes (first_of bytes) (λ first e. enough n m first.1 (omega (arith, behind_shorter bytes first e)) (omega (arith, behind_shorter bytes first e)))

-- a first frame is the first of all
pub frames_front : (bytes : List ℕ) (first : List ℕ × List ℕ) → first_of bytes ≡ Some first → frames_of bytes ≡ (first.0 ∷ (frames_of first.1).0, (frames_of first.1).1)
unfolding frames_of frames_in
frames_front bytes first e =
    let more : frames_of bytes ≡ led_by (frames_in (length bytes)) bytes (first_of bytes) = enough (length bytes) (suc (length bytes)) bytes (omega arith) (omega arith) in
    let short = behind_shorter bytes first e in
    more ∙ ap (led_by (frames_in (length bytes)) bytes) e ∙ ap (λ (r : List (List ℕ) × List ℕ). (first.0 ∷ r.0, r.1)) (enough (length bytes) (length first.1) first.1 (omega arith) (omega arith))

-- without a first frame all is rest
pub frames_end : (bytes : List ℕ) → first_of bytes ≡ None → frames_of bytes ≡ ([], bytes)
unfolding frames_of frames_in
frames_end bytes e =
    let more : frames_of bytes ≡ led_by (frames_in (length bytes)) bytes (first_of bytes) = enough (length bytes) (suc (length bytes)) bytes (omega arith) (omega arith) in
    more ∙ ap (led_by (frames_in (length bytes)) bytes) e

-- ---- the laws

found_led : (n : ℕ) (bytes : List ℕ) (o : Option (List ℕ × List ℕ)) → first_of bytes ≡ o → IsBytes bytes → length bytes ≤ suc n
    → ((b : List ℕ) → IsBytes b → length b ≤ n → AreFrames b (frames_in n b).0 (frames_in n b).1)
    → AreFrames bytes (led_by (frames_in n) bytes o).0 (led_by (frames_in n) bytes o).1
found_led n bytes None e fits short behind = record { whole = refl; each = All-nil IsPayload; partial = first_rest bytes e }
found_led n bytes (Some first) e fits short behind =
    let leads = first_leads bytes first fits e in
    let rest = behind first.1 (IsBytes-behind (frame first.0) first.1 (subst IsBytes leads.parts fits)) (omega (arith, behind_shorter bytes first e)) in
    let others = (frames_in n first.1).0 in
    let last = (frames_in n first.1).1 in
    record {
      whole = leads.parts ∙ ap (λ (x : List ℕ). frame first.0 ++ x) rest.whole ∙ sym (append_assoc (frame first.0) (flat_map frame others) last) ∙ ap (λ (x : List ℕ). x ++ last) (sym (flat_map-cons frame first.0 others));
      each = All-cons IsPayload first.0 others leads.payload rest.each;
      partial = rest.partial;
    }

frames_found : (n : ℕ) (bytes : List ℕ) → IsBytes bytes → length bytes ≤ n → AreFrames bytes (frames_in n bytes).0 (frames_in n bytes).1
unfolding frames_in
frames_found zero bytes fits short = record { whole = refl; each = All-nil IsPayload; partial = inl (omega arith) }
frames_found (suc n) bytes fits short = found_led n bytes (first_of bytes) refl fits short (λ b. frames_found n b)

-- going from the front finds frames and a rest
pub are_frames : (bytes : List ℕ) → IsBytes bytes → AreFrames bytes (frames_of bytes).0 (frames_of bytes).1
unfolding frames_of
are_frames bytes fits = frames_found (length bytes) bytes fits (omega arith)

spelled_frames : (payloads : List (List ℕ)) (rest : List ℕ) → AllByRecursion IsPayload payloads → IsRest rest → frames_of (flat_map frame payloads ++ rest) ≡ (payloads, rest)
spelled_frames [] rest each partial = frames_end rest (rest_first rest partial)
spelled_frames (p ∷ ps) rest each partial =
    let behind = flat_map frame ps ++ rest in
    let regrouped : flat_map frame (p ∷ ps) ++ rest ≡ frame p ++ behind = ap (λ (x : List ℕ). x ++ rest) (flat_map-cons frame p ps) ∙ append_assoc (frame p) (flat_map frame ps) rest in
    ap frames_of regrouped ∙ frames_front (frame p ++ behind) (p, behind) (frame_first p behind each.0)
    ∙ ap (λ (r : List (List ℕ) × List ℕ). (p ∷ r.0, r.1)) (spelled_frames ps rest each.1 partial)

-- frames and a rest in one way
pub only_frames : (bytes : List ℕ) (payloads : List (List ℕ)) (rest : List ℕ) → AreFrames bytes payloads rest → (payloads ≡ (frames_of bytes).0) × (rest ≡ (frames_of bytes).1)
only_frames bytes payloads rest are =
    let e : frames_of bytes ≡ (payloads, rest) = ap frames_of are.whole ∙ spelled_frames payloads rest (recursion_from_All IsPayload payloads are.each) are.partial in
    (sym (ap (λ (r : List (List ℕ) × List ℕ). r.0) e), sym (ap (λ (r : List (List ℕ) × List ℕ). r.1) e))

abbrev some : List ℕ × List ℕ → Option (List ℕ × List ℕ)
some first = Some first

same_first : (a b : List ℕ × List ℕ) → some a ≡ some b → a.0 ≡ b.0
same_first a b e = cc

-- no frame begins another
pub apart : (a b more : List ℕ) → IsPayload a → IsPayload b → frame a ++ more ≡ frame b → a ≡ b
apart a b more small_a small_b e =
    same_first (a, more) (b, []) (sym (frame_first a more small_a) ∙ ap first_of (e ∙ sym (append-nil (frame b))) ∙ frame_first b [] small_b)
