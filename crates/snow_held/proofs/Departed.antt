-- Lemmas on the replies of a poll that leaves: they go one by one, and then none is left.
use Rattle.std.proofs.Common.{◌≡◌, ℕ, ◌==◌, Bool, true, false, ◌||◌, not, cond, List, [], ◌∷◌, All, map, filter, Option, Some, None, refl, sym, ap, ◌∙◌}
use Rattle.std.specs.BTreeMap.{BTreeMap, get, is_at}
use Rattle.std.specs.List.Sorted.{IsStrictlySortedBy}
use Rattle.std.specs.Map.{keys_of, values_of, remove_entry, lookup}
use Rattle.std.specs.Ordering.{nat_cmp}
use Rattle.std.proofs.lemmas.Bool.{or_right, eqb-true, eq-eqb}
use Rattle.std.proofs.lemmas.List.Elements.{All-head, All-tail}
use Rattle.snow_held.specs.declared.backlog.Kept.{Kept}
use Rattle.snow_held.specs.declared.keys.NodeKey.{NodeKey}
use Rattle.snow_held.specs.Kept.Keys.{key_of, key_cmp}
use Rattle.snow_held.specs.Kept.Arrivals.{Entries, PollMap, at_arrival, is_among, seat_of, IsFiled, stays, filed, number_of_node, StaysNamed, AreNodesOf, IsLeaving, AreGone}
use Rattle.snow_held.proofs.Stocked.{number_itself, number_apart, at_turned, each}
use Rattle.snow_held.proofs.Numbered.{Numbers, Names, filed_taken, still}
use Rattle.snow_held.proofs.Ranged.{none_taken}
use Rattle.snow_held.proofs.Seated.{seats_filtered, all_stay, one_leaves}

abbrev pub Nodes : Type 0
Nodes = BTreeMap NodeKey ℕ

-- the number of a node is among all
among_values : (f : NodeKey → Bool) (es : List (NodeKey × ℕ)) (a : ℕ) → lookup f es ≡ Some a → is_among (values_of es) a ≡ true
among_values f [] a found = absurd cc
among_values f (e ∷ es) a found =
    let Goal : Bool → Type 0 = λ t. cond t (Some e.1) (lookup f es) ≡ Some a → (is_at (nat_cmp a) e.1 || is_among (values_of es) a) ≡ true in
    (elim (f e.0) as Goal [
      | true ↦ λ here. let same : e.1 ≡ a = cc in ap (λ n. is_at (nat_cmp a) n || is_among (values_of es) a) same ∙ ap (λ t. t || is_among (values_of es) a) (number_itself a)
      | false ↦ λ behind. or_right (is_at (nat_cmp a) e.1) (is_among (values_of es) a) (among_values f es a behind)
    ]) found

pub leaving_begun : (number : ℕ) (es : Entries) (nodes : Nodes) (number_at : Numbers) (named : Names) (next : ℕ) → IsFiled es number_at named next → AreNodesOf number es nodes
    → All (λ e. get key_cmp nodes e.0 ≡ Some e.1) nodes.entries → IsLeaving number es es nodes nodes.entries number_at named next
leaving_begun number es nodes number_at named next filed of_poll nodes_of = record {
  filed = filed;
  of_poll = of_poll;
  nodes_of = nodes_of;
  left = λ a k found of. among_values (is_at (key_cmp (key_of k.reply.node))) nodes.entries a (of_poll.all a k found of);
  same = refl;
}

pub leaving_step : (number : ℕ) (before es now : Entries) (nodes : Nodes) (e : NodeKey × ℕ) (rest : List (NodeKey × ℕ)) (number_at : Numbers) (named names : Names) (next : ℕ)
    → IsLeaving number before es nodes (e ∷ rest) number_at named next
    → now ≡ remove_entry (is_at (nat_cmp e.1)) es → IsStrictlySortedBy nat_cmp (keys_of now)
    → ((q : ℕ) → at_arrival now q ≡ cond (is_at (nat_cmp e.1) q) None (at_arrival es q))
    → StaysNamed now named names
    → IsLeaving number before now nodes rest number_at names next
leaving_step number before es now nodes e rest number_at named names next is gone sorted less same =
    let a = e.1 in
    record {
      filed = filed_taken es now number_at named names next a is.filed sorted less same;
      of_poll = record {
        all = λ b k found of. is.of_poll.all b k (still es now a b k (less b) found).1 of;
        only = λ q b k at found. is.of_poll.only q b k at (still es now a b k (less b) found).1;
      };
      nodes_of = All-tail (λ x. get key_cmp nodes x.0 ≡ Some x.1) e rest is.nodes_of;
      left = λ b k found of.
          let old = still es now a b k (less b) found in
          sym (ap (λ t. t || is_among (values_of rest) b) (at_turned b a ∙ old.0)) ∙ is.left b k old.1 of;
      same = ap (filter (stays number)) gone ∙ goes ∙ is.same;
    }
  where
    goes : filter (stays number) (remove_entry (is_at (nat_cmp e.1)) es) ≡ filter (stays number) es
    goes =
        let Goal : Option Kept → Type 0 = λ o. at_arrival es e.1 ≡ o → filter (stays number) (remove_entry (is_at (nat_cmp e.1)) es) ≡ filter (stays number) es in
        elim (at_arrival es e.1) as Goal [
          | Some k ↦ λ found.
              one_leaves number es e.1 k found (ap not (eq-eqb k.reply.number number (is.of_poll.only e.0 e.1 k (All-head (λ x. get key_cmp nodes x.0 ≡ Some x.1) e rest is.nodes_of) found)))
          | None ↦ λ none. ap (filter (stays number)) (sym (none_taken es e.1 none))
        ] refl

pub leaving_ended : (number : ℕ) (before now : Entries) (nodes : Nodes) (rest : List (NodeKey × ℕ)) (number_at : Numbers) (named : Names) (next : ℕ)
    → IsLeaving number before now nodes rest number_at named next → rest ≡ [] → AreGone number before now number_at named next
leaving_ended number before now nodes rest number_at named next is empty = record {
  filed = is.filed;
  none = λ a k found of. let left = ap (λ l. is_among (values_of l) a) (sym empty) ∙ is.left a k found of in absurd cc;
  same = is.same;
}

pub gone_view : (number : ℕ) (before now : Entries) (number_at : Numbers) (named : Names) (next : ℕ) → AreGone number before now number_at named next
    → map seat_of now ≡ filter (λ s. not (s.0.number == number)) (map seat_of before)
gone_view number before now number_at named next is =
    let stay = each (λ e. stays number e ≡ true) now is.filed.sorted (λ a k found.
    let Goal : Bool → Type 0 = λ b. (k.reply.number == number) ≡ b → not b ≡ true in
    elim (k.reply.number == number) as Goal [
      | true ↦ λ t. absurd (is.none a k found (eqb-true k.reply.number number t))
      | false ↦ λ t. refl
    ] refl) in
    ap (map seat_of) (sym (all_stay number now stay) ∙ is.same) ∙ seats_filtered number before

-- the nodes of a poll
pub nodes_of : (es : Entries) (polls : PollMap) (nodes : Nodes) (named : Names) (number next : ℕ) → IsFiled es (filed polls) named next → get nat_cmp polls number ≡ Some nodes → AreNodesOf number es nodes
nodes_of es polls nodes named number next is there = record {
  all = λ a k found of. ap (λ m. number_of_node m (key_of k.reply.node)) (sym there) ∙ ap (λ n. filed polls n (key_of k.reply.node)) (sym of) ∙ is.found a k found;
  only = λ key a k at found. (is.real number key a k (ap (λ m. number_of_node m key) there ∙ at) found).0;
}

-- the poll is taken out of the map
pub filed_without : (es : Entries) (polls left : PollMap) (named : Names) (number next : ℕ) → IsFiled es (filed polls) named next → ((a : ℕ) (k : Kept) → at_arrival es a ≡ Some k → k.reply.number ≡ number → ⊥)
    → ((q : ℕ) → get nat_cmp left q ≡ cond (is_at (nat_cmp number) q) None (get nat_cmp polls q)) → IsFiled es (filed left) named next
filed_without es polls left named number next is none change =
    let old : (n : ℕ) (node : NodeKey) (a : ℕ) → filed left n node ≡ Some a → filed polls n node ≡ Some a = λ n node a at.
    let Goal : Bool → Type 0 = λ t. number_of_node (cond t None (get nat_cmp polls n)) node ≡ Some a → filed polls n node ≡ Some a in
    (elim (is_at (nat_cmp number) n) as Goal [ true ↦ λ f. absurd cc | false ↦ λ f. f ]) (ap (λ m. number_of_node m node) (sym (change n)) ∙ at) in
    record {
      sorted = is.sorted;
      below = is.below;
      found = λ a k found.
          ap (λ m. number_of_node m (key_of k.reply.node)) (change k.reply.number)
          ∙ ap (λ t. number_of_node (cond t None (get nat_cmp polls k.reply.number)) (key_of k.reply.node)) (number_apart number k.reply.number (λ e. none a k found (sym e)))
          ∙ is.found a k found;
      real = λ n node a k at found. is.real n node a k (old n node a at) found;
      low = λ n node a at. is.low n node a (old n node a at);
      named_so = is.named_so;
    }

-- where no number is noted for a poll, none of its replies goes
pub none_gone : (es : Entries) (polls : PollMap) (named : Names) (number next : ℕ) → IsFiled es (filed polls) named next → get nat_cmp polls number ≡ None → AreGone number es es (filed polls) named next
none_gone es polls named number next is nothing = record {
  filed = is;
  none = λ a k found of.
      let at = ap (λ m. number_of_node m (key_of k.reply.node)) (sym nothing) ∙ ap (λ n. filed polls n (key_of k.reply.node)) (sym of) ∙ is.found a k found in
      absurd cc;
  same = refl;
}
