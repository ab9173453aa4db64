-- Pieces that are put behind a text one after another.
use Rattle.std.proofs.Common.{◌≡◌, ℕ, List, [], ◌++◌, refl, sym, ap, ◌∙◌, append_assoc, append-nil, Result, Ok, Err}
use Rattle.snow_show.specs.Clauses.Putting.{Begins, Puts}

-- a text begins with itself
pub begins_same : (a : List ℕ) → Begins a a
begins_same a = record { more = []; whole = sym (append-nil a) }

-- a piece was put, and then more, or a part of it
pub begins_then : (a b c piece : List ℕ) → b ≡ a ++ piece → Begins b c → Begins a c
begins_then a b c piece e h = record { more = piece ++ h.more; whole = h.whole ∙ ap (λ (l : List ℕ). l ++ h.more) e ∙ append_assoc a piece h.more }

-- two pieces
pub puts_then : (a b c first second all : List ℕ) → b ≡ a ++ first → c ≡ b ++ second → first ++ second ≡ all → c ≡ a ++ all
puts_then a b c first second all p q e = q ∙ ap (λ (l : List ℕ). l ++ second) p ∙ append_assoc a first second ∙ ap (λ (l : List ℕ). a ++ l) e

-- a piece, and then what a call put
pub puts_behind : {T E : Type 0} (r : Result T E) (a b c first second all : List ℕ) → b ≡ a ++ first → Puts r b c second → first ++ second ≡ all → Puts r a c all
puts_behind (Ok x) a b c first second all p q e = puts_then a b c first second all p q e
puts_behind (Err x) a b c first second all p q e = begins_then a b c first p q

-- three pieces, and four
pub puts_three : {T E : Type 0} (r : Result T E) (a b c d x y z all : List ℕ) → b ≡ a ++ x → c ≡ b ++ y → Puts r c d z → x ++ (y ++ z) ≡ all → Puts r a d all
puts_three r a b c d x y z all p q h e = puts_behind r a c d (x ++ y) z all (puts_then a b c x y (x ++ y) p q refl) h (append_assoc x y z ∙ e)

pub puts_four : {T E : Type 0} (r : Result T E) (a b c d f x y z w all : List ℕ) → b ≡ a ++ x → c ≡ b ++ y → d ≡ c ++ z → Puts r d f w → x ++ (y ++ (z ++ w)) ≡ all → Puts r a f all
puts_four r a b c d f x y z w all p q o h e = puts_three r a b d f x (y ++ z) w all p (puts_then b c d y z (y ++ z) q o refl) h (ap (λ (l : List ℕ). x ++ l) (append_assoc y z w) ∙ e)

-- the same piece by another name
pub puts_as : {T E : Type 0} (r : Result T E) (a b x y : List ℕ) → x ≡ y → Puts r a b x → Puts r a b y
puts_as (Ok t) a b x y e h = h ∙ ap (λ (l : List ℕ). a ++ l) e
puts_as (Err t) a b x y e h = h

pub ruleset putting = (begins_same, begins_then, puts_then, puts_behind)

-- ---- a loop

-- a part of a text was put behind another, and the rest of it is left
pub record Going (before now left all : List ℕ) : Type 0 where
  pub front : List ℕ
  pub grown : now ≡ before ++ front
  pub whole : front ++ left ≡ all

-- nothing was put yet
pub going_begins : (a left all : List ℕ) → left ≡ all → Going a a left all
going_begins a left all e = record { front = []; grown = sym (append-nil a); whole = e }

-- a piece was put
pub going_on : (a b c piece left more all : List ℕ) → Going a b left all → c ≡ b ++ piece → left ≡ piece ++ more → Going a c more all
going_on a b c piece left more all g e split = record {
  front = g.front ++ piece;
  grown = e ∙ ap (λ (l : List ℕ). l ++ piece) g.grown ∙ append_assoc a g.front piece;
  whole = append_assoc g.front piece more ∙ ap (λ (l : List ℕ). g.front ++ l) (sym split) ∙ g.whole;
}

-- nothing is left
pub going_ends : (a b left all : List ℕ) → Going a b left all → left ≡ [] → b ≡ a ++ all
going_ends a b left all g e = g.grown ∙ ap (λ (l : List ℕ). a ++ l) (sym (append-nil g.front) ∙ ap (λ (l : List ℕ). g.front ++ l) (sym e) ∙ g.whole)

-- memory ran out
pub going_stops : (a b c left all : List ℕ) → Going a b left all → Begins b c → Begins a c
going_stops a b c left all g h = begins_then a b c g.front g.grown h
