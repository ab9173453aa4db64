-- Lemmas on the table: at which place a number's poll stands, and what a reply to it changes.
use Rattle.std.proofs.Common.{◌≡◌, ℕ, zero, suc, ◌+◌, ◌-◌, ◌%◌, ◌^◌, ◌<◌, ◌≤◌, Bool, true, false, cond, ◌&&◌, ◌||◌, ◌==◌, List, [], ◌∷◌, ◌++◌, length, get_or, set, map, nat_lt, if◌then◌else◌, Option, None, Some, is_some, refl, sym, ap, ◌∙◌, arith}
use Rattle.std.specs.BTreeMap.{BTreeMap, get}
use Rattle.std.specs.Option.{option_map}
use Rattle.std.specs.Ordering.{nat_cmp}
use Rattle.std.proofs.lemmas.Bool.{true≢false, or_parts, eqb-true, ne_eqb, eq-eqb, lt-ltb, false_from_ne_true}
use Rattle.std.proofs.lemmas.List.{length-map, length-append}
use Rattle.std.proofs.lemmas.List.Elements.{All-map, All-append, All-cons}
use Rattle.std.proofs.lemmas.List.Folds.{list_any-append}
use Rattle.snow_base.specs.declared.block.Vote.{Vote}
use Rattle.snow_flake.specs.Model.Parameters.{Parameters}
use Rattle.snow_sample.specs.declared.draws.Draw.{Draw}
use Rattle.snow_sample.specs.Model.Sampling.{draw_count}
use Rattle.snow_poll.specs.Model.Poll.{Poll, awaits, with_reply, replied, votes_of}
use Rattle.snow_poll.specs.Model.Closing.{is_closed}
use Rattle.snow_poll.specs.Model.Table.{has_number, HasNoneFrom, new_poll, is_awaited_by, is_awaited, answered, finished, unfinished}
use Rattle.snow_poll.specs.Kept.Tallied.{place, turn, is_front, ArePlaced, HaveOwnNumbers, IsTable}

-- ---- turns

-- a place from its turn
pub place_back : (gone at kept : ℕ) → gone < 2 ^ 64 → at < 2 ^ 64 → kept ≡ turn gone at → (kept + (2 ^ 64 - gone)) % 2 ^ 64 ≡ at
place_back gone at kept h g is = omega (arith, is)

-- as the front poll leaves, the turn of each other stays
turn_stays : (gone at : ℕ) → turn gone (suc at) ≡ turn (turn gone 1) at
turn_stays gone at = omega arith

-- ---- the front poll

-- what is told of a poll that leaves
abbrev told_of : Poll → ℕ × List Vote
told_of q = (q.number, votes_of q)

-- where there is one to take, it is closed, and the others stay
pub front_taken : (p : Parameters) (q : Poll) (polls : List Poll) → is_some (finished p (q ∷ polls)) ≡ true
    → (is_closed p q ≡ true) × (finished p (q ∷ polls) ≡ Some (told_of q)) × (unfinished p (q ∷ polls) ≡ polls)
front_taken p q polls some = by (is_closed p q) some
  where
    by : (b : Bool) → is_some {T = ℕ × List Vote} (if b then Some (told_of q) else None) ≡ true
        → (b ≡ true) × ((if b then Some (told_of q) else None) ≡ Some (told_of q)) × ((if b then polls else q ∷ polls) ≡ polls)
    by true s = (refl, refl, refl)
    by false s = absurd cc

-- where there is none, all stay
pub none_taken : (p : Parameters) (polls : List Poll) → is_some (finished p polls) ≡ false → (finished p polls ≡ None) × (unfinished p polls ≡ polls)
none_taken p [] none = (refl, refl)
none_taken p (q ∷ polls) none = by (is_closed p q) none
  where
    by : (b : Bool) → is_some {T = ℕ × List Vote} (if b then Some (told_of q) else None) ≡ false
        → ((if b then Some (told_of q) else None) ≡ None) × ((if b then polls else q ∷ polls) ≡ q ∷ polls)
    by true n = absurd cc
    by false n = (refl, refl)

-- ---- the place of a number

-- the place in a list, if the first poll has the number or not
abbrev first_place : Bool → Option ℕ → Option ℕ
first_place same later = cond same (Some 0) (option_map suc later)

-- the first poll has the number, or a later one
data Stands (q : Poll) (polls : List Poll) (number : ℕ) : ℕ → Type 0 where
  Here : (q.number == number) ≡ true → Stands q polls number 0
  Later : (at : ℕ) → (q.number == number) ≡ false → place polls number ≡ Some at → Stands q polls number (suc at)

stands : (q : Poll) (polls : List Poll) (number at : ℕ) → place (q ∷ polls) number ≡ Some at → Stands q polls number at
stands q polls number at is =
    elim (q.number == number) as (λ same. (q.number == number) ≡ same → first_place same (place polls number) ≡ Some at → Stands q polls number at) [
      | true ↦ λ same now. let first : zero ≡ at = cc in rw (← first) (Here same)
      | false ↦ λ same now.
          elim (place polls number) as (λ o. place polls number ≡ o → option_map suc o ≡ Some at → Stands q polls number at) [
            | None ↦ λ was none. absurd (cc)
            | Some p ↦ λ was some. let next : suc p ≡ at = cc in rw (← next) (Later p same was)
          ] refl now
    ] refl is

-- that of the front poll is 0
pub front_place : (polls : List Poll) (number : ℕ) → is_front polls number ≡ true → place polls number ≡ Some 0
front_place [] number is = absurd (cc)
front_place (q ∷ polls) number is = ap (λ same. first_place same (place polls number)) is

-- a number that has no place is in no poll
pub unplaced : (polls : List Poll) (number : ℕ) → place polls number ≡ None → has_number polls number ≡ false
unplaced [] number none = refl
unplaced (q ∷ polls) number none =
    elim (q.number == number) as (λ same. first_place same (place polls number) ≡ None → (same || has_number polls number) ≡ false) [
      | true ↦ λ now. absurd (cc)
      | false ↦ λ now.
          elim (place polls number) as (λ o. place polls number ≡ o → option_map suc o ≡ None → has_number polls number ≡ false) [
            | None ↦ λ was no. unplaced polls number was
            | Some p ↦ λ was some. absurd (cc)
          ] refl now
    ] none

-- and the other way round
no_place : (polls : List Poll) (number : ℕ) → has_number polls number ≡ false → place polls number ≡ None
no_place [] number none = refl
no_place (q ∷ polls) number none =
    let parts = or_parts (q.number == number) (has_number polls number) none in
    ap (λ same. first_place same (place polls number)) parts.0 ∙ ap (option_map suc) (no_place polls number parts.1)

-- ---- a reply to a number that no poll has

pub none_awaits : (polls : List Poll) (number : ℕ) (node : List ℕ) → has_number polls number ≡ false → is_awaited polls number node ≡ false
none_awaits [] number node none = refl
none_awaits (q ∷ polls) number node none =
    let parts = or_parts (q.number == number) (has_number polls number) none in
    ap (λ b. (b && awaits q node) || is_awaited polls number node) parts.0 ∙ none_awaits polls number node parts.1

-- where no poll awaits a reply, it changes nothing
pub unchanged : (polls : List Poll) (number : ℕ) (node : List ℕ) (id : Option (List ℕ)) → is_awaited polls number node ≡ false → map (answered number node id) polls ≡ polls
unchanged [] number node id none = refl
unchanged (q ∷ polls) number node id none =
    let parts = or_parts (is_awaited_by number node q) (is_awaited polls number node) none in
    ap (λ b. (if b then with_reply q node id else q) ∷ map (answered number node id) polls) parts.0 ∙ ap (λ l. q ∷ l) (unchanged polls number node id parts.1)

-- ---- a reply to the poll at a place

-- it stands there
pub place_within : (polls : List Poll) (number at : ℕ) → place polls number ≡ Some at → at < length polls
place_within [] number at is = absurd (cc)
place_within (q ∷ polls) number at is =
    elim (stands q polls number at is) as (λ at _. at < suc (length polls)) [
      | Here same ↦ omega arith
      | Later p other was ↦ omega (arith, place_within polls number p was)
    ]

-- a node is awaited under the number exactly where that poll awaits it
pub awaited_at : (polls : List Poll) (number at : ℕ) (node : List ℕ) (r : Poll) → HaveOwnNumbers polls → place polls number ≡ Some at → r ≡ get_or polls at r
    → awaits r node ≡ is_awaited polls number node
awaited_at [] number at node r own is stood = absurd (cc)
awaited_at (q ∷ polls) number at node r own is stood =
    elim (stands q polls number at is) as (λ at _. r ≡ get_or (q ∷ polls) at r → awaits r node ≡ is_awaited (q ∷ polls) number node) [
      | Here same ↦ λ here.
          let alone = none_awaits polls number node (ap (has_number polls) (sym (eqb-true _ _ same)) ∙ own.0) in
          ap (λ p. awaits p node) here ∙ sym (ap (λ b. (b && awaits q node) || is_awaited polls number node) same ∙ ap (λ b. awaits q node || b) alone ∙ last (awaits q node))
      | Later p other was ↦ λ there.
          awaited_at polls number p node r own.1 was there ∙ sym (ap (λ b. (b && awaits q node) || is_awaited polls number node) other)
    ] stood
  where
    last : (b : Bool) → (b || false) ≡ b
    last true = refl
    last false = refl

-- the reply is noted in that poll, where that awaits it, and in no other
pub voted_at : (polls : List Poll) (number at : ℕ) (node : List ℕ) (id : Option (List ℕ)) (r : Poll) → HaveOwnNumbers polls → place polls number ≡ Some at → r ≡ get_or polls at r
    → set polls at (replied r node id) ≡ map (answered number node id) polls
voted_at [] number at node id r own is stood = absurd (cc)
voted_at (q ∷ polls) number at node id r own is stood =
    elim (stands q polls number at is) as (λ at _. r ≡ get_or (q ∷ polls) at r → set (q ∷ polls) at (replied r node id) ≡ map (answered number node id) (q ∷ polls)) [
      | Here same ↦ λ here.
          let alone = unchanged polls number node id (none_awaits polls number node (ap (has_number polls) (sym (eqb-true _ _ same)) ∙ own.0)) in
          ap (λ p. replied p node id ∷ polls) here
          ∙ sym (ap (λ b. (if b && awaits q node then with_reply q node id else q) ∷ map (answered number node id) polls) same ∙ ap (λ l. replied q node id ∷ l) alone)
      | Later p other was ↦ λ there.
          ap (λ l. q ∷ l) (voted_at polls number p node id r own.1 was there)
          ∙ sym (ap (λ b. (if b && awaits q node then with_reply q node id else q) ∷ map (answered number node id) polls) other)
    ] stood

-- ---- what is kept after a reply

-- a reply changes no number, and no draws
same_number : (number : ℕ) (node : List ℕ) (id : Option (List ℕ)) (q : Poll) → (answered number node id q).number ≡ q.number
same_number number node id q =
    elim (is_awaited_by number node q) as (λ b. (if b then with_reply q node id else q).number ≡ q.number) [
      | true ↦ refl
      | false ↦ refl
    ]

same_draws : (number : ℕ) (node : List ℕ) (id : Option (List ℕ)) (q : Poll) → (answered number node id q).draws ≡ q.draws
same_draws number node id q =
    elim (is_awaited_by number node q) as (λ b. (if b then with_reply q node id else q).draws ≡ q.draws) [
      | true ↦ refl
      | false ↦ refl
    ]

same_numbers : (number : ℕ) (node : List ℕ) (id : Option (List ℕ)) (polls : List Poll) (m : ℕ) → has_number (map (answered number node id) polls) m ≡ has_number polls m
same_numbers number node id [] m = refl
same_numbers number node id (q ∷ polls) m =
    ap (λ n. (n == m) || has_number (map (answered number node id) polls) m) (same_number number node id q)
    ∙ ap (λ b. (q.number == m) || b) (same_numbers number node id polls m)

same_places : (number : ℕ) (node : List ℕ) (id : Option (List ℕ)) (polls : List Poll) (m : ℕ) → place (map (answered number node id) polls) m ≡ place polls m
same_places number node id [] m = refl
same_places number node id (q ∷ polls) m =
    ap (λ n. first_place (n == m) (place (map (answered number node id) polls) m)) (same_number number node id q)
    ∙ ap (first_place (q.number == m)) (same_places number node id polls m)

own_still : (number : ℕ) (node : List ℕ) (id : Option (List ℕ)) (polls : List Poll) → HaveOwnNumbers polls → HaveOwnNumbers (map (answered number node id) polls)
own_still number node id [] own = own
own_still number node id (q ∷ polls) own = (
  ap (has_number (map (answered number node id) polls)) (same_number number node id q) ∙ same_numbers number node id polls q.number ∙ own.0,
  own_still number node id polls own.1,
)

same_front : (number : ℕ) (node : List ℕ) (id : Option (List ℕ)) (polls : List Poll) (m : ℕ) → is_front (map (answered number node id) polls) m ≡ is_front polls m
same_front number node id [] m = refl
same_front number node id (q ∷ polls) m = ap (λ n. n == m) (same_number number node id q)

pub table_voted : (p : Parameters) (polls : List Poll) (turns : BTreeMap ℕ ℕ) (gone number : ℕ) (node : List ℕ) (id : Option (List ℕ))
    → IsTable p polls turns gone → IsTable p (map (answered number node id) polls) turns gone
table_voted p polls turns gone number node id table =
    record {
      few = omega (arith, length-map polls (answered number node id), table.few);
      whole = All-map (λ (q : Poll). draw_count q.draws ≡ p.k) (answered number node id) polls
          (λ k d h. ap draw_count (same_draws number node id (get_or polls k d)) ∙ table.whole k d h);
      distinct = own_still number node id polls table.distinct;
      placed = λ m behind.
          table.placed m (sym (same_front number node id polls m) ∙ behind) ∙ ap (option_map (turn gone)) (sym (same_places number node id polls m));
    }

-- ---- a poll more

-- equal numbers are found equal both ways round
apart_back : (m n : ℕ) → (m == n) ≡ false → (n == m) ≡ false
apart_back m n h = false_from_ne_true _ (λ same. let one : (m == n) ≡ true = eq-eqb m n (sym (eqb-true _ _ same)) in true≢false (sym one ∙ h))

has_more : (polls : List Poll) (q : Poll) (m : ℕ) → has_number (polls ++ q ∷ []) m ≡ (has_number polls m || ((q.number == m) || false))
has_more polls q m = list_any-append (λ (r : Poll). r.number == m) polls (q ∷ [])

-- numbers in order
pub none_from_more : (next : ℕ) (polls : List Poll) (draws : List Draw) → HasNoneFrom next polls → HasNoneFrom (next + 1) (polls ++ new_poll next draws ∷ [])
none_from_more next polls draws none m h =
    has_more polls (new_poll next draws) m ∙ ap (λ b. b || ((next == m) || false)) (none m (omega arith)) ∙ ap (λ b. b || false) (ne_eqb next m (λ same. absurd (omega (arith, same))))

own_more : (polls : List Poll) (r : Poll) → HaveOwnNumbers polls → has_number polls r.number ≡ false → HaveOwnNumbers (polls ++ r ∷ [])
own_more [] r own new = (refl, tt)
own_more (q ∷ polls) r own new =
    let parts = or_parts (q.number == r.number) (has_number polls r.number) new in (
      has_more polls r q.number ∙ ap (λ b. has_number polls q.number || (b || false)) (apart_back q.number r.number parts.0) ∙ ap (λ b. b || false) own.0,
      own_more polls r own.1 parts.1,
    )

place_more : (polls : List Poll) (r : Poll) (m : ℕ) → has_number polls r.number ≡ false
    → place (polls ++ r ∷ []) m ≡ (if r.number == m then Some (length polls) else place polls m)
place_more [] r m new = refl
place_more (q ∷ polls) r m new =
    let parts = or_parts (q.number == r.number) (has_number polls r.number) new in
    ap (first_place (q.number == m)) (place_more polls r m parts.1)
    ∙ each (q.number == m) (r.number == m) (length polls) (place polls m)
    (λ first last. let one : (q.number == r.number) ≡ true = eq-eqb _ _ (eqb-true _ _ first ∙ sym (eqb-true _ _ last)) in true≢false (sym one ∙ parts.0))
  where
    each : (first last : Bool) (n : ℕ) (o : Option ℕ) → (first ≡ true → last ≡ true → ⊥)
        → first_place first (if last then Some n else o) ≡ (if last then Some (suc n) else first_place first o)
    each true true n o differ = absurd (differ refl refl)
    each true false n o differ = refl
    each false true n o differ = refl
    each false false n o differ = refl

-- the turn of a number behind the front, after one was entered unless it stands at the front
placed_more : (polls : List Poll) (turns more : BTreeMap ℕ ℕ) (gone : ℕ) (r : Poll) (m : ℕ) → ArePlaced turns gone polls → has_number polls r.number ≡ false
    → get nat_cmp more m ≡ (if nat_lt 0 (length polls) && (r.number == m) then Some (turn gone (length polls)) else get nat_cmp turns m)
    → is_front (polls ++ r ∷ []) m ≡ false → get nat_cmp more m ≡ option_map (turn gone) (place (polls ++ r ∷ []) m)
placed_more [] turns more gone r m placed new entered behind =
    entered ∙ placed m refl ∙ sym (ap (λ same. option_map (turn gone) (first_place same None)) behind)
placed_more (q ∷ polls) turns more gone r m placed new entered behind =
    let at = length (q ∷ polls) in
    let some : nat_lt 0 at ≡ true = lt-ltb 0 at (omega arith) in
    entered ∙ ap (λ b. if b && (r.number == m) then Some (turn gone at) else get nat_cmp turns m) some ∙ ap (λ o. if r.number == m then Some (turn gone at) else o) (placed m behind)
    ∙ each (r.number == m) (turn gone) at (place (q ∷ polls) m) ∙ ap (option_map (turn gone)) (sym (place_more (q ∷ polls) r m new))
  where
    each : (same : Bool) (f : ℕ → ℕ) (n : ℕ) (o : Option ℕ) → (if same then Some (f n) else option_map f o) ≡ option_map f (if same then Some n else o)
    each true f n o = refl
    each false f n o = refl

pub table_begun : (p : Parameters) (polls : List Poll) (turns more : BTreeMap ℕ ℕ) (gone number : ℕ) (draws : List Draw)
    → IsTable p polls turns gone → length polls < 1024 → has_number polls number ≡ false → draw_count draws ≡ p.k
    → ((m : ℕ) → get nat_cmp more m ≡ (if nat_lt 0 (length polls) && (number == m) then Some (turn gone (length polls)) else get nat_cmp turns m))
    → IsTable p (polls ++ new_poll number draws ∷ []) more gone
table_begun p polls turns more gone number draws table room new whole entered =
    let r = new_poll number draws in
    record {
      few = omega (arith, length-append polls (r ∷ []), room);
      whole = All-append (λ (q : Poll). draw_count q.draws ≡ p.k) polls (r ∷ []) table.whole (All-cons (λ (q : Poll). draw_count q.draws ≡ p.k) r [] whole (λ k d h. absurd (omega arith)));
      distinct = own_more polls r table.distinct new;
      placed = λ m behind. placed_more polls turns more gone r m table.placed new (entered m) behind;
    }

-- ---- the front poll leaves

pub table_left : (p : Parameters) (q : Poll) (polls : List Poll) (turns less : BTreeMap ℕ ℕ) (gone now : ℕ) → IsTable p (q ∷ polls) turns gone
    → ((m : ℕ) → get nat_cmp less m ≡ (if q.number == m then None else get nat_cmp turns m)) → now ≡ turn gone 1 → IsTable p polls less now
table_left p q polls turns less gone now table left is =
    let later : (same : Bool) (m : ℕ) → (q.number == m) ≡ same → (if same then None else get nat_cmp turns m) ≡ option_map (turn (turn gone 1)) (place polls m) = λ same m.
    elim same as (λ same. (q.number == m) ≡ same → (if same then None else get nat_cmp turns m) ≡ option_map (turn (turn gone 1)) (place polls m)) [
      | true ↦ λ one. sym (ap (option_map (turn (turn gone 1))) (no_place polls m (ap (has_number polls) (sym (eqb-true _ _ one)) ∙ table.distinct.0)))
      | false ↦ λ other. table.placed m other ∙ ap (λ same. option_map (turn gone) (first_place same (place polls m))) other ∙ shifted (place polls m)
    ] in
    record {
      few = omega (arith, table.few);
      whole = λ k d h. table.whole (suc k) d (omega arith);
      distinct = table.distinct.1;
      placed = λ m behind. left m ∙ later (q.number == m) m refl
          ∙ ap (λ n. option_map (turn n) (place polls m)) (sym is);
    }
  where
    shifted : (o : Option ℕ) → option_map (turn gone) (option_map suc o) ≡ option_map (turn (turn gone 1)) o
    shifted None = refl
    shifted (Some at) = ap Some (turn_stays gone at)

-- ---- from a turn to the place

-- a number's poll stands where its turn says
pub from_turn : (polls : List Poll) (number gone kept result : ℕ) → length polls ≤ 1024 → Some kept ≡ option_map (turn gone) (place polls number)
    → ((at : ℕ) → at < 2 ^ 64 → kept ≡ turn gone at → result ≡ at) → Some result ≡ place polls number
from_turn polls number gone kept result few is back =
    elim (place polls number) as (λ o. place polls number ≡ o → Some kept ≡ option_map (turn gone) o → Some result ≡ o) [
      | None ↦ λ was none. absurd (cc)
      | Some at ↦ λ was some. let one : kept ≡ turn gone at = cc in ap Some (back at (omega (arith, place_within polls number at was, few)) one)
    ] refl is
