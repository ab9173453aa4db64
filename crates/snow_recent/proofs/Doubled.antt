-- Lemmas on seats, of which there are as many as a power of two.
use Rattle.std.proofs.Common.{◌≡◌, ℕ, zero, suc, ◌+◌, ◌-◌, ◌*◌, ◌/◌, ◌%◌, ◌^◌, ◌<◌, ◌≤◌, ◌⊎◌, List, ◌++◌, length, get_or, slice_range, bit_and, refl, sym, ap, subst, ◌∙◌, length-append, arith}
use Rattle.std.proofs.lemmas.List.{get_or_append_left, get_or-append_right, take_all}
use Rattle.std.proofs.lemmas.Nat.{and_mask, pow-add, mod-pow-add, mod_below, pow_pos}
use Rattle.snow_map.specs.Kept.Seats.{seat_of}
use Rattle.snow_recent.specs.Kept.Index.{number_at, id_at, AreSeats, IsHeaded, IsIndex, HasLatest}

-- there is one
some_seat : (seats room : ℕ) → AreSeats seats room → 0 < seats
some_seat seats room are = omega (arith, are.is, pow_pos are.bits)

-- the lowest bits of an identifier's number are its seat
pub masked : (seats room number : ℕ) → AreSeats seats room → seats < 2 ^ 64 → bit_and number ((seats + (2 ^ 64 - 1)) % 2 ^ 64) ≡ number % seats
masked seats room number are small =
    let some : 0 < seats = some_seat seats room are in
    let mask : (seats + (2 ^ 64 - 1)) % 2 ^ 64 ≡ seats - 1 = omega arith in
    ap (bit_and number) (mask ∙ ap (λ n. n - 1) are.is) ∙ and_mask number are.bits ∙ ap (λ n. number % n) (sym are.is)

-- twice as many are a power of two again
twice : (bits : ℕ) → 2 ^ bits + 2 ^ bits ≡ 2 ^ (1 + bits)
twice bits = omega (arith, pow-add 2 1 bits)

pub twice_seats : (seats room more : ℕ) → AreSeats seats room → room ≤ more → AreSeats (seats + seats) more
twice_seats seats room more are wider = record {
  bits = 1 + are.bits;
  is = ap (λ n. n + n) are.is ∙ twice are.bits;
  most = omega (arith, are.most, wider);
}

-- a seat among twice as many is the same, or as far behind the middle
halves : (number bits : ℕ) → number % (2 ^ bits + 2 ^ bits) ≡ (number / 2 ^ bits % 2 ^ 1) * 2 ^ bits + number % 2 ^ bits
halves number bits = ap (λ (n : ℕ). number % n) (twice bits) ∙ mod-pow-add number 1 bits

-- so each identifier keeps its number where seats are appended to themselves
pub told_twice : (heads id : List ℕ) (room : ℕ) → AreSeats (length heads) room → number_at (heads ++ heads) id ≡ number_at heads id
told_twice heads id room are =
    let n = length heads in
    let number = seat_of id in
    let at : number % length (heads ++ heads) ≡ (number / n % 2 ^ 1) * n + number % n =
    ap (λ (k : ℕ). number % k) (length-append heads heads)
    ∙ subst (λ (k : ℕ). number % (k + k) ≡ (number / k % 2 ^ 1) * k + number % k) (sym are.is) (halves number are.bits)
    in
    ap (λ k. get_or (heads ++ heads) k 0) at ∙ read (number / n % 2 ^ 1) (number % n) (omega arith) (mod_below number n (some_seat n room are))
  where
    read : (q r : ℕ) → q < 2 → r < length heads → get_or (heads ++ heads) (q * length heads + r) 0 ≡ get_or heads r 0
    read zero r few below = ap (λ k. get_or (heads ++ heads) k 0) (omega arith) ∙ get_or_append_left heads heads 0 r below
    read (suc zero) r few below =
        get_or-append_right heads heads (length heads) (1 * length heads + r) 0 refl (omega arith) ∙ ap (λ k. get_or heads k 0) (omega arith)
    read (suc (suc q)) r few below = absurd (omega arith)

-- what is read from the first to the last is all
pub whole : (heads : List ℕ) (count : ℕ) → count ≡ length heads → heads ++ slice_range heads 0 count ≡ heads ++ heads
whole heads count all = ap (λ l. heads ++ l) (ap (slice_range heads 0) all ∙ take_all (length heads - 0) heads (omega arith))

-- and an index stays one where each identifier keeps its head
pub index_kept : {T : Type 0} (name : T → List ℕ) (entries : List T) (head next : List ℕ → ℕ) (places : List ℕ) → ((id : List ℕ) → next id ≡ head id)
    → IsIndex name entries head places → IsIndex name entries next places
index_kept name entries head next places same index =
    let id : ℕ → List ℕ = id_at name entries in
    record {
      within = index.within;
      rising = index.rising;
      behind = λ k d h. omega (arith, same (id (get_or places k d)), index.behind k d h);
      headed = λ place h. subst (λ n. IsHeaded (length entries) n place) (sym (same (id place))) (index.headed place h);
      latest = λ place h. subst (λ n. (id n ≡ id place) ⊎ HasLatest id places place) (sym (same (id place))) (index.latest place h);
    }
