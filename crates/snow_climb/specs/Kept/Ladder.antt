-- Climbers on a ladder, each on the rung of the place for which it looks. They are taken off from the highest rung on.
use Rattle.std.specs.Prelude.{◌≡◌, ℕ, zero, suc, ◌+◌, ◌*◌, ◌/◌, ◌%◌, ◌^◌, ◌<◌, ◌≤◌, ◌==◌, not, nat_lt, List, [], ◌∷◌, length, get_or, map, filter, if◌then◌else◌}
use Rattle.std.specs.Int.{bit_at}
use Rattle.snow_climb.specs.declared.climber.Climber.{Climber}
use Rattle.snow_climb.specs.declared.ladder.Head.{Head}
use Rattle.snow_climb.specs.declared.ladder.Link.{Link}
use Rattle.snow_climb.specs.Kept.Climbing.{climber_total}

-- what is seen of a ladder
pub record Rungs : Type 0 where
  -- those that stand on it
  pub climbers : List Climber
  -- those that were taken off last
  pub came : List Climber
  -- nobody stands on this rung or a higher one
  pub low : ℕ
  -- how many were put on, and how many may be
  pub put : ℕ
  pub most : ℕ
  -- how many votes a poll may have
  pub votes : ℕ
  -- how many rungs there are
  pub rungs : ℕ

-- those that stand below a rung, and the others
abbrev pub under : ℕ → List Climber → List Climber
under rung climbers = filter (λ c. nat_lt c.place rung) climbers

abbrev pub up_from : ℕ → List Climber → List Climber
up_from rung climbers = filter (λ c. not (nat_lt c.place rung)) climbers

-- a ladder has room for as many as another
pub record KeepsRoom (old new : Rungs) : Type 0 where
  pub most : new.most ≡ old.most
  pub votes : new.votes ≡ old.votes
  pub rungs : new.rungs ≡ old.rungs

-- nobody stands on it, and there is room for the next poll over so many pending blocks
pub record IsReady (pending : ℕ) (ladder : Rungs) : Type 0 where
  pub low : ladder.low ≡ 0
  pub most : ladder.votes + pending ≤ ladder.most
  pub rungs : pending < ladder.rungs

-- ---- how it is kept

-- what a read past the end gives
abbrev pub no_link : Link
no_link = record { climber = record { place = 0; passed = 0; count = 0 }; next = 0 }

abbrev pub no_head : Head
no_head = record { last = 0; count = 0 }

-- all that were put on, in order
abbrev pub climbers_of : List Link → List Climber
climbers_of links = map (λ l. l.climber) links

-- who of the first so many looks for a place and was put on last: one more than where it stands among them; 0 for none
abbrev pub latest : List Link → ℕ → ℕ → ℕ
latest links zero place = 0
latest links (suc n) place = if (get_or links n no_link).climber.place == place then suc n else latest links n place

-- all of these that look for it, the latest first
abbrev pub group : List Link → ℕ → ℕ → List Climber
group links zero place = []
group links (suc n) place = if (get_or links n no_link).climber.place == place then (get_or links n no_link).climber ∷ group links n place else group links n place

-- all who were put on one rung up to one of them, the latest first; its number is one more than where it stands, and 0 for none
abbrev pub chain : List Link → ℕ → List Climber
chain links zero = []
chain links (suc i) = group links (suc i) (get_or links i no_link).climber.place

-- whether a rung is marked, by one bit for each: 1 or 0
abbrev pub mark_at : List ℕ → ℕ → ℕ
mark_at words rung = bit_at (get_or words (rung / 64) 0) (rung % 64)

-- each tells who was put on its rung before
abbrev pub AreLinked : List Link → Type 0
AreLinked links = (i : ℕ) → i < length links → (get_or links i no_link).next ≡ latest links i (get_or links i no_link).climber.place

-- each rung below `low` tells who was put on it last and how many votes stand there, as 32 bits hold it, and is marked if there is one; nobody stands on a higher one than `high`
pub record IsHung (links : List Link) (heads : List Head) (words : List ℕ) (low high taken : ℕ) : Type 0 where
  pub linked : AreLinked links
  pub last : (rung : ℕ) → rung < low → (get_or heads rung no_head).last ≡ latest links (length links) rung
  pub counted : (rung : ℕ) → rung < low → (get_or heads rung no_head).count ≡ climber_total (group links (length links) rung) % 2 ^ 32
  pub clear : (rung : ℕ) → low ≤ rung → get_or heads rung no_head ≡ no_head
  pub marked : (i : ℕ) → i < length links → (get_or links i no_link).climber.place < low → mark_at words (get_or links i no_link).climber.place ≡ 1
  pub highest : (i : ℕ) → i < length links → (get_or links i no_link).climber.place < low → (get_or links i no_link).climber.place ≤ high
  pub took : taken ≤ length links
  pub within : low ≤ length heads
  pub covered : length heads < 64 * length words
