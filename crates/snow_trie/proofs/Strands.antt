-- Lemmas on the bits of identifiers, and on counters for each of them, one below the other.
use Rattle.std.proofs.Common.{◌≡◌, ℕ, zero, suc, ◌+◌, ◌-◌, ◌<◌, ◌≤◌, Bool, true, false, not, List, [], ◌∷◌, ◌++◌, drop, All, if◌then◌else◌, refl, sym, ap, ◌∙◌, add-zero, zero-add, arith}
use Rattle.snow_base.specs.declared.block.Vote.{Vote}
use Rattle.snow_base.specs.Model.Identifier.{bit, bits, AgreeFrom}
use Rattle.snow_base.specs.Kept.Split.{HaveBit}
use Rattle.snow_base.specs.Model.Votes.{total_count}
use Rattle.snow_base.proofs.Bits.{drop-bits}
use Rattle.snow_flake.specs.Model.Parameters.{Parameters, AreGood}
use Rattle.snow_flake.specs.Model.Counter.{Counter, fresh, stepped, admits}
use Rattle.snow_flake.specs.Kept.Instance.{on_side}
use Rattle.snow_board.specs.Model.Conflict.{Counters, Blank, At, with_child, all_polled}
use Rattle.snow_board.specs.Laws.FailingLaw.{failed}
use Rattle.snow_board.specs.Kept.Walk.{votes_from}
use Rattle.snow_board.proofs.Failing.{quiet, fails, admits-quiet}
use Rattle.snow_board.proofs.Excluding.{closed_stays}
use Rattle.snow_board.proofs.Polling.{votes_same, votes_other}
use Rattle.snow_trie.specs.Kept.Stamped.{span, between, linked, strand, pruned}

-- ---- the bits of an identifier

span_split : (id : List ℕ) (from m n : ℕ) → span id from (m + n) ≡ span id from m ++ span id (from + m) n
span_split id from zero n = rw (zero-add, add-zero) refl
span_split id from (suc m) n =
    let one : suc m + n ≡ suc (m + n) = omega arith in
    let two : from + suc m ≡ (from + 1) + m = omega arith in
    rw (one, two) (ap (λ l. bit id from ∷ l) (span_split id (from + 1) m n))

-- the bits up to a place, and those from there on
pub between_split : (id : List ℕ) (from at to : ℕ) → from ≤ at → at ≤ to → between id from to ≡ between id from at ++ between id at to
between_split id from at to p q =
    let n : to - from ≡ (at - from) + (to - at) = omega arith in
    let m : from + (at - from) ≡ at = omega arith in
    rw n (span_split id from (at - from) (to - at)) ∙ ap (λ k. span id from (at - from) ++ span id k (to - at)) m

-- the first bit, and those behind it
pub between_first : (id : List ℕ) (from to : ℕ) → from < to → between id from to ≡ bit id from ∷ between id (from + 1) to
between_first id from to h = let n : to - from ≡ suc (to - (from + 1)) = omega arith in rw n refl

-- up to where they begin there are none
pub between_none : (id : List ℕ) (from to : ℕ) → to ≤ from → between id from to ≡ []
between_none id from to h = let n : to - from ≡ 0 = omega arith in rw n refl

span_same : (a b : List ℕ) (from n : ℕ) → AgreeFrom from (from + n) a b → span a from n ≡ span b from n
span_same a b from zero h = refl
span_same a b from (suc n) h =
    let here : bit a from ≡ bit b from = h from (omega arith) (omega arith) in
    let rest = span_same a b (from + 1) n (λ k p q. h k (omega arith) (omega arith)) in
    λ i. here i ∷ rest i

-- identifiers that agree have the same bits
pub between_same : (a b : List ℕ) (from to : ℕ) → AgreeFrom from to a b → between a from to ≡ between b from to
between_same a b from to h = span_same a b from (to - from) (λ k p q. h k p (omega arith))

-- the rest of the bits begins with some of them
pub span_drop : (id : List ℕ) (from n : ℕ) → from + n ≤ 256 → drop from (bits id) ≡ span id from n ++ drop (from + n) (bits id)
span_drop id from zero h = rw add-zero refl
span_drop id from (suc n) h =
    let e : from + suc n ≡ (from + 1) + n = omega arith in
    drop-bits id from (omega arith) ∙ rw e (ap (λ l. bit id from ∷ l) (span_drop id (from + 1) n (omega arith)))

-- ---- one counter below the other

pub strand-append : (front more : List Bool) (c : Bool → Counter) (rest : Counters) → strand (front ++ more) c rest ≡ strand front c (strand more c rest)
strand-append [] more c rest = refl
strand-append (b ∷ front) more c rest = ap (linked b (c b)) (strand-append front more c rest)

pub strand_same : (front : List Bool) (c d : Bool → Counter) (rest : Counters) → ((b : Bool) → c b ≡ d b) → strand front c rest ≡ strand front d rest
strand_same [] c d rest h = refl
strand_same (b ∷ front) c d rest h = let deeper = strand_same front c d rest h in λ i. linked b (h b i) (deeper i)

-- what isn't there stays so
blank_side : (p : Parameters) (votes : List Bool → ℕ) (x : Bool) → (if x then all_polled p votes Blank else Blank) ≡ Blank
unfolding all_polled
blank_side p votes true = refl
blank_side p votes false = refl

-- a poll of a counter with all below it on one side
pub polled_linked : (p : Parameters) (votes : List Bool → ℕ) (b : Bool) (c : Counter) (below : Counters)
    → admits (stepped p c (votes (false ∷ [])) (votes (true ∷ []))) b ≡ true
    → all_polled p votes (linked b c below)
    ≡ linked b (stepped p c (votes (false ∷ [])) (votes (true ∷ []))) (all_polled p (λ front. votes (b ∷ front)) below)
unfolding all_polled
polled_linked p votes true c below h =
    let next = stepped p c (votes (false ∷ [])) (votes (true ∷ [])) in
    rw h (λ i. At next (blank_side p (λ front. votes (false ∷ front)) (admits next false) i) (all_polled p (λ front. votes (true ∷ front)) below))
polled_linked p votes false c below h =
    let next = stepped p c (votes (false ∷ [])) (votes (true ∷ [])) in
    rw h (λ i. At next (all_polled p (λ front. votes (false ∷ front)) below) (blank_side p (λ front. votes (true ∷ front)) (admits next true) i))

-- a side that was closed is closed after the poll
one_pruned : (p : Parameters) (votes : List Bool → ℕ) (x y : Bool) (side : Counters) → (x ≡ false → y ≡ false)
    → (if y then all_polled p votes (if x then side else Blank) else Blank) ≡ (if y then all_polled p votes side else Blank)
one_pruned p votes true y side h = refl
one_pruned p votes false y side h = rw (h refl) refl

-- a poll of a counter whose sides are there where they are possible
pub polled_pruned : (p : Parameters) (votes : List Bool → ℕ) (c : Counter) (z o : Counters)
    → all_polled p votes (pruned c z o)
    ≡ pruned (stepped p c (votes (false ∷ [])) (votes (true ∷ []))) (all_polled p (λ front. votes (false ∷ front)) z) (all_polled p (λ front. votes (true ∷ front)) o)
unfolding all_polled
polled_pruned p votes c z o =
    let next = stepped p c (votes (false ∷ [])) (votes (true ∷ [])) in
    let zeros = one_pruned p (λ front. votes (false ∷ front)) (admits c false) (admits next false) z (closed_stays p c (votes (false ∷ [])) (votes (true ∷ [])) false) in
    let ones = one_pruned p (λ front. votes (true ∷ front)) (admits c true) (admits next true) o (closed_stays p c (votes (false ∷ [])) (votes (true ∷ [])) true) in
    λ i. At next (zeros i) (ones i)

-- ---- failing

pub failed_strand : (p : Parameters) (front : List Bool) (c : Bool → Counter) (rest : Counters) → AreGood p → ((b : Bool) → admits (c b) b ≡ true)
    → failed p (strand front c rest) ≡ strand front (λ b. quiet (c b)) (failed p rest)
failed_strand p [] c rest good h = refl
failed_strand p (b ∷ front) c rest good h =
    let f : stepped p (c b) 0 0 ≡ quiet (c b) = fails p (c b) good in
    let deeper = failed_strand p front c rest good h in
    polled_linked p (λ front. 0) b (c b) (strand front c rest) (ap (λ x. admits x b) f ∙ admits-quiet (c b) b ∙ h b)
    ∙ (λ i. linked b (f i) (deeper i))

pub failed_pruned : (p : Parameters) (c : Counter) (z o : Counters) → AreGood p → failed p (pruned c z o) ≡ pruned (quiet c) (failed p z) (failed p o)
failed_pruned p c z o good = polled_pruned p (λ front. 0) c z o ∙ ap (λ d. pruned d (failed p z) (failed p o)) (fails p c good)

-- ---- polls

-- where all votes have the bit
polled_one : (p : Parameters) (from : ℕ) (votes : List Vote) (b : Bool) (c : Counter) (below : Counters) → from < 256 → HaveBit from b votes
    → admits (stepped p c (on_side false (total_count votes) b) (on_side true (total_count votes) b)) b ≡ true
    → all_polled p (votes_from from votes) (linked b c below)
    ≡ linked b (stepped p c (on_side false (total_count votes) b) (on_side true (total_count votes) b)) (all_polled p (votes_from (from + 1) votes) below)
polled_one p from votes true c below small have h =
    let none : votes_from from votes (false ∷ []) ≡ 0 = votes_other from false votes [] small have in
    let same : (front : List Bool) → votes_from from votes (true ∷ front) ≡ votes_from (from + 1) votes front = λ front. votes_same from true votes front small have in
    polled_linked p (votes_from from votes) true c below ((λ i. admits (stepped p c (none i) (same [] i)) true) ∙ h)
    ∙ (λ i. linked true (stepped p c (none i) (same [] i)) (all_polled p (λ front. same front i) below))
polled_one p from votes false c below small have h =
    let none : votes_from from votes (true ∷ []) ≡ 0 = votes_other from true votes [] small have in
    let same : (front : List Bool) → votes_from from votes (false ∷ front) ≡ votes_from (from + 1) votes front = λ front. votes_same from false votes front small have in
    polled_linked p (votes_from from votes) false c below ((λ i. admits (stepped p c (same [] i) (none i)) false) ∙ h)
    ∙ (λ i. linked false (stepped p c (same [] i) (none i)) (all_polled p (λ front. same front i) below))

polled_span : (p : Parameters) (from n : ℕ) (id : List ℕ) (votes : List Vote) (c : Bool → Counter) (rest : Counters) → from + n ≤ 256
    → All (λ v. AgreeFrom from (from + n) id v.id) votes
    → ((b : Bool) → admits (stepped p (c b) (on_side false (total_count votes) b) (on_side true (total_count votes) b)) b ≡ true)
    → all_polled p (votes_from from votes) (strand (span id from n) c rest)
    ≡ strand (span id from n) (λ b. stepped p (c b) (on_side false (total_count votes) b) (on_side true (total_count votes) b)) (all_polled p (votes_from (from + n) votes) rest)
polled_span p from zero id votes c rest small agree h = rw add-zero refl
polled_span p from (suc n) id votes c rest small agree h =
    let e : from + suc n ≡ (from + 1) + n = omega arith in
    let b = bit id from in
    let have : HaveBit from b votes = λ k d q. sym (agree k d q from (omega arith) (omega arith)) in
    let deeper = polled_span p (from + 1) n id votes c rest (omega arith) (λ k d q j r s. agree k d q j (omega arith) (omega arith)) h in
    polled_one p from votes b (c b) (strand (span id (from + 1) n) c rest) (omega arith) have (h b)
    ∙ rw e (ap (linked b (stepped p (c b) (on_side false (total_count votes) b) (on_side true (total_count votes) b))) deeper)

-- a poll of counters for bits that all votes have
pub polled_strand : (p : Parameters) (from to : ℕ) (id : List ℕ) (votes : List Vote) (c : Bool → Counter) (rest : Counters) → from ≤ to → to ≤ 256
    → All (λ v. AgreeFrom from to id v.id) votes
    → ((b : Bool) → admits (stepped p (c b) (on_side false (total_count votes) b) (on_side true (total_count votes) b)) b ≡ true)
    → all_polled p (votes_from from votes) (strand (between id from to) c rest)
    ≡ strand (between id from to) (λ b. stepped p (c b) (on_side false (total_count votes) b) (on_side true (total_count votes) b)) (all_polled p (votes_from to votes) rest)
polled_strand p from to id votes c rest q small agree h =
    let e : from + (to - from) ≡ to = omega arith in
    rw e at (polled_span p from (to - from) id votes c rest (omega arith) (λ k d l j r s. agree k d l j r (omega arith)) h)

-- ---- adding

-- a bit more, where all below a counter is on its side
grown_linked : (b : Bool) (rest : List Bool) (c : Counter) (below : Counters) → admits c b ≡ true → with_child (b ∷ rest) (linked b c below) ≡ linked b c (with_child rest below)
unfolding with_child
grown_linked true rest c below h = rw h refl
grown_linked false rest c below h = rw h refl

grown_span : (x id : List ℕ) (from n : ℕ) (c : Bool → Counter) (rest : Counters) → from + n ≤ 256 → AgreeFrom from (from + n) id x → ((b : Bool) → admits (c b) b ≡ true)
    → with_child (drop from (bits x)) (strand (span id from n) c rest) ≡ strand (span id from n) c (with_child (drop (from + n) (bits x)) rest)
grown_span x id from zero c rest small agree h = rw add-zero refl
grown_span x id from (suc n) c rest small agree h =
    let e : from + suc n ≡ (from + 1) + n = omega arith in
    let here : bit x from ≡ bit id from = sym (agree from (omega arith) (omega arith)) in
    let deeper = grown_span x id (from + 1) n c rest (omega arith) (λ k r s. agree k (omega arith) (omega arith)) h in
    ap (λ l. with_child l (strand (span id from (suc n)) c rest)) (drop-bits x from (omega arith) ∙ ap (λ b. b ∷ drop (from + 1) (bits x)) here)
    ∙ grown_linked (bit id from) (drop (from + 1) (bits x)) (c (bit id from)) (strand (span id (from + 1) n) c rest) (h (bit id from))
    ∙ rw e (ap (linked (bit id from) (c (bit id from))) deeper)

-- an identifier that has these bits grows what is below them
pub grown_strand : (x id : List ℕ) (from to : ℕ) (c : Bool → Counter) (rest : Counters) → from ≤ to → to ≤ 256 → AgreeFrom from to id x → ((b : Bool) → admits (c b) b ≡ true)
    → with_child (drop from (bits x)) (strand (between id from to) c rest) ≡ strand (between id from to) c (with_child (drop to (bits x)) rest)
grown_strand x id from to c rest p small agree h =
    let e : from + (to - from) ≡ to = omega arith in
    rw e at (grown_span x id from (to - from) c rest (omega arith) (λ k r s. agree k r (omega arith)) h)

-- a bit more, where nothing stands
grown_blank : (b : Bool) (rest : List Bool) → with_child (b ∷ rest) Blank ≡ linked b (fresh b) (with_child rest Blank)
unfolding with_child
grown_blank true rest = refl
grown_blank false rest = refl

fresh_span : (x : List ℕ) (from n : ℕ) → from + n ≤ 256 → with_child (drop from (bits x)) Blank ≡ strand (span x from n) fresh (with_child (drop (from + n) (bits x)) Blank)
fresh_span x from zero small = rw add-zero refl
fresh_span x from (suc n) small =
    let e : from + suc n ≡ (from + 1) + n = omega arith in
    ap (λ l. with_child l Blank) (drop-bits x from (omega arith))
    ∙ grown_blank (bit x from) (drop (from + 1) (bits x))
    ∙ rw e (ap (linked (bit x from) (fresh (bit x from))) (fresh_span x (from + 1) n (omega arith)))

-- where nothing stands, fresh counters come for all bits up to a place
pub fresh_strand : (x : List ℕ) (from to : ℕ) → from ≤ to → to ≤ 256
    → with_child (drop from (bits x)) Blank ≡ strand (between x from to) fresh (with_child (drop to (bits x)) Blank)
fresh_strand x from to p small =
    let e : from + (to - from) ≡ to = omega arith in
    rw e at (fresh_span x from (to - from) (omega arith))

-- an old side and a new one
abbrev pub forked : Bool → Counter → Counters → Counters → Counters
forked true c old new = pruned c new old
forked false c old new = pruned c old new

-- the other bit than that on whose side all below a counter is
parted_linked : (b : Bool) (rest : List Bool) (c : Counter) (below : Counters) → admits c b ≡ true
    → with_child (not b ∷ rest) (linked b c below) ≡ forked b c below (with_child rest Blank)
unfolding with_child
parted_linked true rest c below h = rw h refl
parted_linked false rest c below h = rw h refl

-- an identifier that differs at a bit
pub parted_strand : (x id : List ℕ) (at to : ℕ) (c : Bool → Counter) (rest : Counters) → at < to → to ≤ 256 → bit x at ≡ not (bit id at) → ((b : Bool) → admits (c b) b ≡ true)
    → with_child (drop at (bits x)) (strand (between id at to) c rest)
    ≡ forked (bit id at) (c (bit id at)) (strand (between id (at + 1) to) c rest) (with_child (drop (at + 1) (bits x)) Blank)
parted_strand x id at to c rest p small differs h =
    (λ i. with_child ((drop-bits x at (omega arith) ∙ ap (λ b. b ∷ drop (at + 1) (bits x)) differs) i) (strand (between_first id at to p i) c rest))
    ∙ parted_linked (bit id at) (drop (at + 1) (bits x)) (c (bit id at)) (strand (between id (at + 1) to) c rest) (h (bit id at))
