-- Lemmas on the state of a block.
use Rattle.std.proofs.Common.{◌≡◌, ℕ, Bool, true, false, cond, ◌&&◌, List, [], Option, Some, None, is_some, refl, ap, ◌∙◌}
use Rattle.snow_base.specs.declared.block.Header.{Header}
use Rattle.snow_ledger.specs.Model.Blocks.{is_whole, header_of, transfers_of}
use Rattle.snow_ledger.specs.Model.Ledger.{is_state, are_good, after, moved, next}

neither : (b : Bool) (o : Option (List ℕ)) → cond b o o ≡ o
neither true o = refl
neither false o = refl

has_some : (b : Bool) (h : Header) → is_some (cond b (Some h) None) ≡ b
has_some true h = refl
has_some false h = refl

-- whether there is a header
has_header : (bytes : List ℕ) → is_some (header_of bytes) ≡ is_whole bytes
unfolding header_of
has_header bytes = has_some (is_whole bytes) _

-- bytes that are none of a block
pub next_unread : (s bytes : List ℕ) → is_whole bytes ≡ false → next s bytes ≡ None
next_unread s bytes none = ap (λ b. cond b (moved s (transfers_of bytes)) None) (has_header bytes ∙ none)

read : (s bytes : List ℕ) → is_whole bytes ≡ true → next s bytes ≡ moved s (transfers_of bytes)
read s bytes whole = ap (λ b. cond b (moved s (transfers_of bytes)) None) (has_header bytes ∙ whole)

-- a list that is no state, or a transfer that isn't good
pub next_refused : (s bytes : List ℕ) → (is_state s && are_good s [] (transfers_of bytes)) ≡ false → next s bytes ≡ None
next_refused s bytes bad =
    ap (λ o. cond (is_some (header_of bytes)) o None) (ap (λ b. cond b (Some (after s (transfers_of bytes))) None) bad)
    ∙ neither (is_some (header_of bytes)) None

-- the state after good transfers
pub next_moved : (s bytes : List ℕ) → is_whole bytes ≡ true → is_state s ≡ true → are_good s [] (transfers_of bytes) ≡ true
    → next s bytes ≡ Some (after s (transfers_of bytes))
next_moved s bytes whole state good =
    read s bytes whole
    ∙ ap (λ b. cond (b && are_good s [] (transfers_of bytes)) (Some (after s (transfers_of bytes))) None) state
    ∙ ap (λ b. cond b (Some (after s (transfers_of bytes))) None) good
