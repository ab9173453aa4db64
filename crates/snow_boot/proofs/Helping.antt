-- A reply that begins with a missed block never comes in vain.
use Rattle.std.proofs.Common.{◌≡◌, ℕ, Bool, true, false, ◌==◌, List, [], ◌∷◌, length, Option, Some, None, if◌then◌else◌, inl, inr, refl, sym, ap, subst, ◌∙◌, arith, eqb-true}
use Rattle.std.specs.Prelude.{Result, Ok, Err, ⊤}
use Rattle.snow_base.specs.declared.block.Header.{Header}
use Rattle.snow_chain.specs.Model.Chain.{Rules}
use Rattle.snow_gets.specs.declared.gets.Get.{Get}
use Rattle.snow_store.specs.declared.store.KeptBlock.{KeptBlock}
use Rattle.snow_store.specs.declared.stop.BootStop.{BootStop}
use Rattle.snow_store.specs.declared.stop.Verdict.{Verdict}
use Rattle.snow_store.specs.declared.stop.Verdict.TheVariants as verdict
use Rattle.snow_store.specs.Clauses.Coming.{after_verdict, if_taken}
use Rattle.snow_store.specs.Model.Keeping.{held, taken}
use Rattle.snow_store.specs.Laws.Linking.{IsLinked}
use Rattle.snow_store.specs.Model.Paths.{Fetch, has_id, missed, is_whole, highest_target, path_up}
use Rattle.snow_store.proofs.Cases.{split_on, id_same, not_none}
use Rattle.snow_store.proofs.Holding.{held_first, held_later}
use Rattle.snow_store.proofs.Linked.{keeps_facts}
use Rattle.snow_store.proofs.Progress.{advances}
use Rattle.snow_boot.specs.declared.question.Question.{Question}
use Rattle.snow_boot.specs.declared.question.Question.TheVariants as question
use Rattle.snow_boot.specs.Model.Asking.{Asked, asked}
use Rattle.snow_boot.specs.Model.Booting.{Boot, Outcome, fetch_of, with_fetch, with_requests, height_or, ended, finished, followed_by, followed, request_of, closed, with_came, if_requested, ancestors_came}
use Rattle.snow_boot.specs.Model.Executing.{Executed, executed}
use Rattle.snow_boot.specs.Laws.Reached.{Reached}
use Rattle.snow_boot.specs.Model.Replying.{if_wanted, with_taken, with_wanted, replied}
use Rattle.snow_boot.specs.Laws.ReplyLaw.{Helps, HelpsOn}
use Rattle.snow_boot.proofs.Reaching.{reached_linked}
use Rattle.snow_boot.proofs.Replied.{takes_wanted}

-- ---- what is kept stays

abbrev Stays : Fetch → Fetch → Type 0
Stays f g = (h : ℕ) (x : KeptBlock) → held f.store.kept h ≡ Some x → held g.store.kept h ≡ Some x

abbrev StaysIn : Fetch → Result Fetch BootStop → Type 0
StaysIn f (Ok g) = Stays f g
StaysIn f (Err why) = ⊤

stays_kept : (f : Fetch) (b : KeptBlock) → held f.store.kept b.header.height ≡ None → Stays f (after_verdict f b verdict.Keeps)
stays_kept f b free h x is =
    split_on (b.header.height == h)
    (λ same. not_none x (sym is ∙ ap (held f.store.kept) (sym (eqb-true b.header.height h same)) ∙ free))
    (λ other. held_later f.store.kept b h other ∙ is)

stays_more : (f g : Fetch) (r : Result Fetch BootStop) → Stays f g → StaysIn g r → StaysIn f r
stays_more f g (Ok x) first more = λ h b is. more h b (first h b is)
stays_more f g (Err why) first more = tt

stays_taken : (f : Fetch) (b : KeptBlock) (more : Fetch → Result Fetch BootStop) → ((x : Fetch) → StaysIn x (more x)) → (r : Result Verdict BootStop) → taken f.store b.header ≡ r
    → StaysIn f (with_taken f b r more)
stays_taken f b more rest (Err why) e = tt
stays_taken f b more rest (Ok verdict.Keeps) e =
    let g = after_verdict f b verdict.Keeps in stays_more f g (more g) (stays_kept f b (keeps_facts f.store b.header e).free) (rest g)
stays_taken f b more rest (Ok verdict.Known) e = rest f
stays_taken f b more rest (Ok verdict.Low) e = λ h x is. is

stays_wanted : (f : Fetch) (bytes : List ℕ) (o : Option Header) (more : Header → Fetch → Result Fetch BootStop) → ((h : Header) (x : Fetch) → StaysIn x (more h x)) → StaysIn f (with_wanted f bytes o more)
stays_wanted f bytes None more rest = λ h x is. is
stays_wanted f bytes (Some h) more rest = stays_taken f record { header = h; bytes = bytes } (more h) (rest h) (taken f.store h) refl

stays_replied : (header_of : List ℕ → Option Header) (f : Fetch) (id : List ℕ) (blocks : List (List ℕ)) → StaysIn f (replied header_of f id blocks)
unfolding replied
stays_replied header_of f id [] = λ h x is. is
stays_replied header_of f id (bytes ∷ blocks) =
    stays_wanted f bytes (if_wanted id (header_of bytes)) (λ h x. replied header_of x h.parent blocks) (λ h x. stays_replied header_of x h.parent blocks)

-- ---- a reply

-- nothing is kept that wasn't
not_longer : {P : Type 0} (f g : Fetch) (b : KeptBlock) → g.store.kept ≡ f.store.kept → g ≡ after_verdict f b verdict.Keeps → P
not_longer f g b same e =
    let longer : length f.store.kept ≡ length (b ∷ f.store.kept) = ap length (sym same) ∙ ap (λ (x : Fetch). length x.store.kept) e in absurd (omega (arith, longer))

abbrev HelpsIn : Fetch → KeptBlock → List ℕ → Result Fetch BootStop → Type 0
HelpsIn f b t (Ok g) = Helps f g b t
HelpsIn f b t (Err why) = ⊤

helps_taken : (header_of : List ℕ → Option Header) (f : Fetch) (b : KeptBlock) (t : List ℕ) (blocks : List (List ℕ)) → IsLinked f.store → has_id f.targets t ≡ true → missed f t ≡ Some b.header.id
    → (r : Result Verdict BootStop) → taken f.store b.header ≡ r → HelpsIn f b t (with_taken f b r (λ x. replied header_of x b.header.parent blocks))
helps_taken header_of f b t blocks l among misses (Err why) e = tt
helps_taken header_of f b t blocks l among misses (Ok verdict.Keeps) e =
    let g = after_verdict f b verdict.Keeps in helped (replied header_of g b.header.parent blocks) (stays_replied header_of g b.header.parent blocks)
  where
    helped : (r : Result Fetch BootStop) → StaysIn (after_verdict f b verdict.Keeps) r → HelpsIn f b t r
    helped (Ok g) stays = inl ((keeps_facts f.store b.header e).free, stays b.header.height b (held_first f.store.kept b))
    helped (Err why) stays = tt
helps_taken header_of f b t blocks l among misses (Ok verdict.Known) e =
    elim (advances f f b t l among misses (ap (if_taken f b) e)) [ inl x ↦ not_longer f f b refl x.0 | inr x ↦ not_none b.header.id (sym misses ∙ x.1) ]
helps_taken header_of f b t blocks l among misses (Ok verdict.Low) e =
    let g = after_verdict f b verdict.Low in
    elim (advances f g b t l among misses (ap (if_taken f b) e)) [ inl x ↦ not_longer f g b refl x.0 | inr x ↦ inr x ]

helps_replied : (header_of : List ℕ → Option Header) (f : Fetch) (b : KeptBlock) (t : List ℕ) (blocks : List (List ℕ)) → IsLinked f.store → has_id f.targets t ≡ true → missed f t ≡ Some b.header.id
    → header_of b.bytes ≡ Some b.header → HelpsIn f b t (replied header_of f b.header.id (b.bytes ∷ blocks))
helps_replied header_of f b t blocks l among misses parsed =
    subst (HelpsIn f b t) (sym (takes_wanted header_of f b.header.id b.bytes blocks b.header parsed (id_same b.header.id b.header.id refl)))
    (helps_taken header_of f b t blocks l among misses (taken f.store b.header) refl)

-- ---- an event

helps_ended : (f : Fetch) (b : KeptBlock) (t : List ℕ) (height : ℕ) (e : Executed) → HelpsOn f b t (ended height e)
helps_ended f b t height (lines, Ok (last, state)) = tt
helps_ended f b t height (lines, Err why) = tt

helps_requests : (f : Fetch) (b : KeptBlock) (t : List ℕ) (boot : Boot) (a : Asked) → Helps f (fetch_of boot) b t → HelpsOn f b t (with_requests boot a)
helps_requests f b t boot (lines, Ok (requests, drawn)) x = x
helps_requests f b t boot (lines, Err why) x = tt

helps_test : (f : Fetch) (b : KeptBlock) (t : List ℕ) (test : Bool) (one other : Outcome) → HelpsOn f b t one → HelpsOn f b t other → HelpsOn f b t (if test then one else other)
helps_test f b t true one other p q = p
helps_test f b t false one other p q = q

helps_followed : (rules : Rules) (state : List ℕ) (f : Fetch) (b : KeptBlock) (t : List ℕ) (boot : Boot) (drawn : ℕ) → Helps f (fetch_of boot) b t → HelpsOn f b t (followed rules state boot drawn)
unfolding followed
helps_followed rules state f b t boot drawn x = by_question boot.question
  where
    by_question : (q : Question) → HelpsOn f b t (followed_by rules state boot drawn q)
    by_question question.Nothing =
        let top = highest_target boot.store.kept boot.targets in
        helps_test f b t (is_whole (fetch_of boot)) (finished rules state boot.store top) (with_requests boot (asked boot.nodes (fetch_of boot) boot.targets boot.requests drawn))
        (helps_ended f b t (height_or boot.store.height top) (executed rules boot.store.last state (path_up boot.store.kept top)))
        (helps_requests f b t boot (asked boot.nodes (fetch_of boot) boot.targets boot.requests drawn) x)
    by_question question.Frontier = x
    by_question question.Accepted = x

-- what a target misses doesn't depend on the other targets
helps_with : (f g : Fetch) (b : KeptBlock) (t : List ℕ) (boot : Boot) (requests : List Get) → Helps f g b t → Helps f (fetch_of (with_fetch boot g requests)) b t
unfolding missed
helps_with f g b t boot requests (inl x) = inl x
helps_with f g b t boot requests (inr x) = inr x

helps_came : (rules : Rules) (state : List ℕ) (boot : Boot) (drawn : ℕ) (requests : List Get) (b : KeptBlock) (t : List ℕ) (r : Result Fetch BootStop) → HelpsIn (fetch_of boot) b t r
    → HelpsOn (fetch_of boot) b t (with_came rules state boot drawn requests r)
helps_came rules state boot drawn requests b t (Err why) x = tt
helps_came rules state boot drawn requests b t (Ok g) x =
    helps_followed rules state (fetch_of boot) b t (with_fetch boot g requests) drawn (helps_with (fetch_of boot) g b t boot requests x)

pub helps : (rules : Rules) (state : List ℕ) (boot : Boot) (drawn : ℕ) (node : List ℕ) (number : ℕ) (b : KeptBlock) (blocks : List (List ℕ)) (t : List ℕ) → Reached rules state boot drawn
    → request_of boot.requests node number ≡ Some b.header.id → rules.header_of b.bytes ≡ Some b.header → has_id boot.targets t ≡ true → missed (fetch_of boot) t ≡ Some b.header.id
    → HelpsOn (fetch_of boot) b t (ancestors_came rules state boot drawn node number (b.bytes ∷ blocks))
unfolding ancestors_came
helps rules state boot drawn node number b blocks t reached asked_for parsed among misses =
    subst (λ (o : Option (List ℕ)). HelpsOn (fetch_of boot) b t (if_requested rules state boot drawn node number (b.bytes ∷ blocks) o)) (sym asked_for)
    (helps_came rules state boot drawn (closed boot.requests node number) b t (replied rules.header_of (fetch_of boot) b.header.id (b.bytes ∷ blocks))
    (helps_replied rules.header_of (fetch_of boot) b t blocks (reached_linked rules state boot drawn reached) among misses parsed))
