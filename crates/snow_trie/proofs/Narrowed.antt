-- Lemmas on the votes for identifiers that begin with the first bits of a leader.
use Rattle.std.proofs.Common.{◌≡◌, ℕ, ◌+◌, ◌≤◌, Bool, List, [], ◌∷◌, ◌++◌, All, Contains, get_or, refl, sym, ap, ◌∙◌, subst, inl, inr, append_assoc, arith}
use Rattle.std.proofs.lemmas.Bool.{cases_lt}
use Rattle.std.proofs.lemmas.List.Elements.{All-contains, All-contains_itself}
use Rattle.snow_base.specs.declared.block.Vote.{Vote}
use Rattle.snow_base.specs.Model.Identifier.{bit, AgreeFrom}
use Rattle.snow_base.specs.Kept.Split.{AgreeBelow, HaveBit}
use Rattle.snow_base.specs.Model.Votes.{IsInBitOrder, total_count}
use Rattle.snow_board.specs.Kept.Walk.{votes_from}
use Rattle.snow_trie.specs.Kept.Stamped.{between}
use Rattle.snow_trie.specs.Kept.Polled.{IsNarrowed}
use Rattle.snow_trie.proofs.Strands.{between_split, between_first, between_none}
use Rattle.snow_trie.proofs.Visited.{no_more_votes}

-- at the beginning there are all votes
pub all_votes : (leader : List ℕ) (votes : List Vote) → IsInBitOrder votes → IsNarrowed leader 0 votes votes
all_votes leader votes order = record {
  order = order;
  agree = λ i j d p q k h. absurd (omega arith);
  counts = λ front. refl;
  among = All-contains_itself votes;
  have = λ k d h j p q. absurd (omega arith);
}

-- the bits up to one, and that one
one_more : (leader : List ℕ) (at : ℕ) → between leader 0 (at + 1) ≡ between leader 0 at ++ bit leader at ∷ []
one_more leader at =
    between_split leader 0 at (at + 1) (omega arith) (omega arith)
    ∙ ap (λ l. between leader 0 at ++ l) (between_first leader at (at + 1) (omega arith) ∙ ap (λ l. bit leader at ∷ l) (between_none leader (at + 1) (at + 1) (omega arith)))

-- those with the next bit
pub narrowed_more : (leader : List ℕ) (at : ℕ) (votes rest next : List Vote) → IsNarrowed leader at votes rest
    → IsInBitOrder next → AgreeBelow (at + 1) next → HaveBit at (bit leader at) next
    → ((front : List Bool) → votes_from (at + 1) next front ≡ votes_from at rest (bit leader at ∷ front)) → All (Contains rest) next
    → IsNarrowed leader (at + 1) votes next
narrowed_more leader at votes rest next h order agree have counts among =
    let inside : All (Contains votes) next = λ k d q. All-contains (Contains votes) rest (get_or next k d) h.among (among k d q) in
    let agreed : All (λ v. AgreeFrom 0 at leader v.id) next =
    λ k d q. All-contains (λ v. AgreeFrom 0 at leader v.id) rest (get_or next k d) h.have (among k d q)
    in
    record {
      order = order;
      agree = agree;
      counts = λ front.
          counts front ∙ h.counts (bit leader at ∷ front)
          ∙ ap (votes_from 0 votes) (sym (append_assoc (between leader 0 at) (bit leader at ∷ []) front))
          ∙ ap (λ l. votes_from 0 votes (l ++ front)) (sym (one_more leader at));
      among = inside;
      have = λ k d q j low high. elim (cases_lt j at) [
        | inl less ↦ agreed k d q j low less
        | inr more ↦ let is : j ≡ at = omega arith in subst (λ i. bit leader i ≡ bit (get_or next k d).id i) (sym is) (sym (have k d q))
      ];
    }

-- of more bits there are no more votes
pub few_more : (leader : List ℕ) (at to : ℕ) (votes rest : List Vote) → at ≤ to → IsNarrowed leader at votes rest
    → (front : List Bool) → votes_from 0 votes (between leader 0 to ++ front) ≤ total_count rest
few_more leader at to votes rest h n front =
    let more = between leader at to ++ front in
    let parted : between leader 0 to ++ front ≡ between leader 0 at ++ more =
    ap (λ l. l ++ front) (between_split leader 0 at to (omega arith) h) ∙ append_assoc (between leader 0 at) (between leader at to) front
    in
    let is : votes_from 0 votes (between leader 0 to ++ front) ≡ votes_from at rest more = ap (votes_from 0 votes) parted ∙ sym (n.counts more) in
    omega (arith, is, no_more_votes at rest more)

-- and none that were not there
pub fewer_votes : (leader : List ℕ) (decided : ℕ) (votes rest : List Vote) → IsNarrowed leader decided votes rest → total_count rest ≤ total_count votes
fewer_votes leader decided votes rest n =
    let front = between leader 0 decided ++ [] in
    let e : total_count rest ≡ votes_from 0 votes front = n.counts [] in
    omega (arith, e, no_more_votes 0 votes front)
