-- The ledger's law, along a path of blocks.
use Rattle.std.proofs.Common.{◌≡◌, ℕ, ◌<◌, Bool, true, false, cond, ◌&&◌, List, [], ◌∷◌, Option, Some, None, is_some, refl, sym, ap, ◌∙◌}
use Rattle.std.proofs.lemmas.Bool.{and_parts, and_from}
use Rattle.std.proofs.lemmas.List.{append-nil}
use Rattle.std.proofs.lemmas.Option.{same_Some, option_and_then_some}
use Rattle.snow_ledger.specs.Model.Blocks.{header_of, transfers_of}
use Rattle.snow_ledger.specs.Model.Ledger.{accounts, held, next_in, total, is_state, balance, sequence, after, are_good, moved, next, takes}
use Rattle.snow_ledger.specs.Laws.Law.{followed, transfers_along, LedgerLaw}
use Rattle.snow_ledger.proofs.After.{accounts_after, held_after, next_after, after_after, after_none}
use Rattle.snow_ledger.proofs.Good.{covers_all, are_good_after, are_good_more, front_good, good_at, total_after, state_facts, state_after, all_differ}

-- what a path makes of a state
pub record Followed (first : List ℕ) (blocks : List (List ℕ)) (last : List ℕ) : Type 0 where
  pub good : are_good first [] (transfers_along blocks) ≡ true
  pub last_is : last ≡ after first (transfers_along blocks)

-- something that stands under a condition
given_under : {A : Type 0} (b : Bool) (o : Option A) (x : A) → cond b o None ≡ Some x → (b ≡ true) × (o ≡ Some x)
given_under true o x is = (refl, is)
given_under false o x is = absurd (cc)

-- what a valid block makes of a state
one_block : (first below : List ℕ) (bytes : List ℕ) → next first bytes ≡ Some below
    → (are_good first [] (transfers_of bytes) ≡ true) × (below ≡ after first (transfers_of bytes))
one_block first below bytes is =
    let ts = transfers_of bytes in
    let inner = given_under (is_some (header_of bytes)) (moved first ts) below is in
    let all = given_under (is_state first && are_good first [] ts) (Some (after first ts)) below inner.1 in
    ((and_parts (is_state first) (are_good first [] ts) all.0).1, sym (same_Some (after first ts) below all.1))

-- the state of a valid block is one
pub next_is_state : (first below : List ℕ) (bytes : List ℕ) → is_state first ≡ true → next first bytes ≡ Some below → is_state below ≡ true
next_is_state first below bytes state is =
    let one = one_block first below bytes is in
    ap is_state one.1 ∙ state_after first (transfers_of bytes) state one.0

pub follow : (first last : List ℕ) (blocks : List (List ℕ)) → is_state first ≡ true → followed first blocks ≡ Some last → Followed first blocks last
follow first last [] state is = record {
  good = refl;
  last_is = sym (same_Some first last is) ∙ sym (after_none first (state_facts first state).even);
}
follow first last (bytes ∷ blocks) state is =
    let ts = transfers_of bytes in
    let us = transfers_along blocks in
    option_and_then_some (λ below. followed below blocks) (next first bytes) last is (λ below step rest.
    let one = one_block first below bytes step in
    let covered = covers_all first ts one.0 in
    let under : is_state below ≡ true = next_is_state first below bytes state step in
    let later = follow below last blocks under rest in
    record {
      good = are_good_more first [] ts us ∙ and_from (are_good first [] ts) (are_good first ts us) one.0
          (sym (ap (λ l. are_good first l us) (append-nil ts)) ∙ sym (are_good_after first ts [] us covered) ∙ ap (λ s. are_good s [] us) (sym one.1) ∙ later.good);
      last_is = later.last_is ∙ ap (λ s. after s us) one.1 ∙ after_after first ts us covered;
    })

pub ledger_law : LedgerLaw
ledger_law first last blocks state is =
    let path = follow first last blocks state is in
    let list = transfers_along blocks in
    record {
      state = path.last_is;
      takes_last = ap takes path.last_is ∙ state_after first list state path.good;
      total_stays = ap total path.last_is ∙ total_after first list path.good;
      good = λ before behind t split. good_at first before behind list t split path.good;
      once = all_differ first [] list path.good;
      covered = λ before behind account split. (covers_all first before (front_good first before behind list split path.good)).covers account;
    }

-- ---- what an account has at the end of a path

pub accounts_along : (first last : List ℕ) (blocks : List (List ℕ)) → takes first ≡ true → followed first blocks ≡ Some last → accounts last ≡ accounts first
accounts_along first last blocks state is =
    ap accounts (follow first last blocks state is).last_is ∙ accounts_after first (transfers_along blocks)

pub balance_along : (first last : List ℕ) (blocks : List (List ℕ)) (a : ℕ) → takes first ≡ true → followed first blocks ≡ Some last → a < accounts first
    → held last a ≡ balance first (transfers_along blocks) a
balance_along first last blocks a state is below =
    ap (λ s. held s a) (follow first last blocks state is).last_is ∙ held_after first (transfers_along blocks) a below

pub sequence_along : (first last : List ℕ) (blocks : List (List ℕ)) (a : ℕ) → takes first ≡ true → followed first blocks ≡ Some last → a < accounts first
    → next_in last a ≡ sequence first (transfers_along blocks) a
sequence_along first last blocks a state is below =
    ap (λ s. next_in s a) (follow first last blocks state is).last_is ∙ next_after first (transfers_along blocks) a below
