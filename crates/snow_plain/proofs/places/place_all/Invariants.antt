use Rattle.std.proofs.Common.{◌≡◌, ℕ, ◌+◌, ◌≤◌, List, length, drop, bytes_eq}
use Rattle.std.specs.HashMap.{get, hash_map_len, spare}
use Rattle.snow_board.specs.Model.Board.{blocks_of}
use Rattle.snow_plain.specs.Kept.Places.{place_from}
use Rattle.snow_plain.proofs.places.place_all.Given as goal

abbrev pub invariant-loop-at : goal.invariant-loop-at
invariant-loop-at l = record {
  places : (id : List ℕ) → get bytes_eq l.places id ≡ place_from l.at (blocks_of (drop l.at l.pending)) id;
  entries : hash_map_len l.places + l.at ≡ length l.pending;
  room : l.at ≤ spare l.places;
}
