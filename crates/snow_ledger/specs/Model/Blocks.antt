-- A block of transfers: its parent, its height, how many transfers it has, and the transfers. Its identifier is the digest of all its
-- bytes.
use Rattle.std.specs.Prelude.{ℕ, ◌+◌, ◌*◌, Bool, ◌&&◌, List, length, drop, map, Option, Some, None, is_some, nat_lt, ◌==◌, if◌then◌else◌}
use Rattle.std.specs.List.{range_with_len}
use Rattle.byteorder.specs.Endian.{big_number}
use Rattle.sha2.specs.Sha256.{sha256}
use Rattle.snow_base.specs.declared.block.Header.{Header}
use Rattle.snow_chain.specs.Model.Fields.{id_at, number_at}
use Rattle.snow_ledger.specs.declared.state.Transfer.{Transfer}

-- the number in the 2 bytes from a place on, the higher first
abbrev pub short_at : List ℕ → ℕ → ℕ
short_at bytes at = big_number 2 (drop at bytes)

-- how many transfers a block says it has
abbrev pub count_of : List ℕ → ℕ
count_of bytes = short_at bytes 40

-- whether a block has as many bytes as its count wants
abbrev pub is_whole : List ℕ → Bool
is_whole bytes = length bytes == 42 + 20 * count_of bytes

-- what the bytes of a block say of it, where they are as many as its count wants
unfoldable pub header_of : List ℕ → Option Header
header_of bytes =
    if is_whole bytes
    then Some (record { id = sha256 bytes; parent = id_at bytes 0; height = number_at bytes 32 })
    else None

-- the transfer at a place of a block, counted from 0
abbrev pub transfer_at : List ℕ → ℕ → Transfer
transfer_at bytes place = let at = 42 + 20 * place in record {
  from = short_at bytes at;
  to = short_at bytes (at + 2);
  amount = number_at bytes (at + 4);
  sequence = number_at bytes (at + 12);
}

-- the first transfers of a block
abbrev pub first_transfers : List ℕ → ℕ → List Transfer
first_transfers bytes n = map (transfer_at bytes) (range_with_len 0 n)

-- all transfers of a block, in order
abbrev pub transfers_of : List ℕ → List Transfer
transfers_of bytes = first_transfers bytes (count_of bytes)

-- the transfer at a place, where the bytes are those of a block that has so many
abbrev pub transfer_in : List ℕ → ℕ → Option Transfer
transfer_in bytes place = if is_some (header_of bytes) && nat_lt place (count_of bytes) then Some (transfer_at bytes place) else None
