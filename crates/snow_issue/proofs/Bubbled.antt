-- Lemmas on bubbling, step by step.
use Rattle.std.proofs.Common.{◌≡◌, ℕ, zero, suc, Bool, true, false, not, ◌&&◌, ◌||◌, cond, nat_lt, length, List, Option, Some, None, is_some, refl, sym, ap, ◌∙◌}
use Rattle.std.proofs.lemmas.Bool.{or_left, or_right}
use Rattle.std.specs.Option.{option_map, option_and_then}
use Rattle.std.specs.Str.{bytes_eq}
use Rattle.snow_board.specs.Model.Conflict.{Pending}
use Rattle.snow_board.specs.Model.Board.{Board, block_of, is_pending}
use Rattle.snow_board.proofs.Cases.{split_on}
use Rattle.snow_issue.specs.declared.gone.Gone.{Gone}
use Rattle.snow_issue.specs.Model.Gone.{latest, holds, stands_for}
use Rattle.snow_issue.specs.Model.Lists.{Lists, waits, is_asked}
use Rattle.snow_issue.specs.Model.Offering.{is_on, wanted}
use Rattle.snow_issue.specs.Model.Bubbling.{bubbled_in, bubbled, vote_at_once}

pub bubbled_pending : (n : ℕ) (gone : List Gone) (board : Board) (id : List ℕ) → is_pending board id ≡ true → bubbled_in n gone board id ≡ Some id
unfolding bubbled_in
bubbled_pending zero gone board id h = ap (λ b. cond b (Some id) None) h
bubbled_pending (suc n) gone board id h = ap (λ b. cond b (Some id) (cond (bytes_eq board.last id) None (option_and_then (bubbled_in n gone board) (stands_for gone id)))) h

pub bubbled_last : (n : ℕ) (gone : List Gone) (board : Board) (id : List ℕ) → is_pending board id ≡ false → bytes_eq board.last id ≡ true → bubbled_in n gone board id ≡ None
unfolding bubbled_in
bubbled_last zero gone board id h last = ap (λ b. cond b (Some id) None) h
bubbled_last (suc n) gone board id h last = rw (h, last) refl

pub bubbled_lost : (n : ℕ) (gone : List Gone) (board : Board) (id : List ℕ) → is_pending board id ≡ false → bytes_eq board.last id ≡ false → stands_for gone id ≡ None
    → bubbled_in n gone board id ≡ None
unfolding bubbled_in
bubbled_lost zero gone board id h last none = ap (λ b. cond b (Some id) None) h
bubbled_lost (suc n) gone board id h last none = rw (h, last, none) refl

pub bubbled_up : (n : ℕ) (gone : List Gone) (board : Board) (id parent : List ℕ) → is_pending board id ≡ false → bytes_eq board.last id ≡ false → stands_for gone id ≡ Some parent
    → bubbled_in (suc n) gone board id ≡ bubbled_in n gone board parent
unfolding bubbled_in
bubbled_up n gone board id parent h last some = rw (h, last, some) refl

pub bubbled_end : (gone : List Gone) (board : Board) (id : List ℕ) → is_pending board id ≡ false → bubbled_in zero gone board id ≡ None
unfolding bubbled_in
bubbled_end gone board id h = ap (λ b. cond b (Some id) None) h

-- a pending block is on the board
pending_on : (board : Board) (id : List ℕ) → is_pending board id ≡ true → is_on board id ≡ true
pending_on board id h = by (bytes_eq board.last id) (block_of board id) h
  where
    by : (b : Bool) (o : Option Pending) → is_some o ≡ true → is_some (cond b (Some board.height) (option_map (λ q. q.block.height) o)) ≡ true
    by true o h = refl
    by false (Some q) h = refl
    by false None h = absurd cc

-- a block that gives a vote is on the board or gone
pub vote_known : (n : ℕ) (gone : List Gone) (board : Board) (id vote : List ℕ) → bubbled_in n gone board id ≡ Some vote → (is_on board id || holds gone id) ≡ true
vote_known n gone board id vote e =
    split_on (is_pending board id)
    (λ h. or_left (is_on board id) (holds gone id) (pending_on board id h))
    (λ h. split_on (bytes_eq board.last id)
    (λ last. or_left (is_on board id) (holds gone id) (rw last refl))
    (λ last. by h last (latest gone id) refl))
  where
    by : is_pending board id ≡ false → bytes_eq board.last id ≡ false → (o : Option Gone) → latest gone id ≡ o → (is_on board id || holds gone id) ≡ true
    by h last (Some entry) l = or_right (is_on board id) (holds gone id) (ap (λ (o : Option Gone). is_some o) l)
    by h last None l =
        let none : None ≡ Some vote = sym (bubbled_lost n gone board id h last (ap (option_and_then (λ e. e.parent)) l)) ∙ e in
        absurd cc

-- so it may be counted as it comes, if it neither waits nor is asked for
pub vote_is : (q : Lists) (board : Board) (id vote : List ℕ) → waits q id ≡ false → is_asked q id ≡ false → bubbled q board id ≡ Some vote → Some (Some vote) ≡ vote_at_once q board id
vote_is q board id vote away unasked e =
    let unwanted : wanted q board id ≡ false =
    known (is_on board id) (waits q id) (is_asked q id) (holds q.gone id) (nat_lt (length q.gets) 4096) (vote_known 8192 q.gone board id vote e)
    in
    let all = Some (bubbled q board id) in
    ap (λ (o : Option (List ℕ)). Some o) (sym e)
    ∙ sym (ap (λ (b : Bool). cond (b || (is_asked q id || wanted q board id)) None all) away
    ∙ ap (λ (b : Bool). cond (b || wanted q board id) None all) unasked
    ∙ ap (λ (b : Bool). cond b None all) unwanted)
  where
    known : (on waits asked gone few : Bool) → (on || gone) ≡ true → (not (on || (waits || (asked || gone))) && few) ≡ false
    known true waits asked gone few e = refl
    known false true asked gone few e = refl
    known false false true gone few e = refl
    known false false false true few e = refl
    known false false false false few e = absurd cc

-- a pending block that neither waits nor is asked for is itself that vote
pub own_vote : (q : Lists) (board : Board) (id : List ℕ) → waits q id ≡ false → is_asked q id ≡ false → is_pending board id ≡ true → vote_at_once q board id ≡ Some (Some id)
own_vote q board id away unasked pending = sym (vote_is q board id id away unasked (bubbled_pending 8192 q.gone board id pending))
