-- The fields behind a tag: those that are read are those that the event's spelling has there.
use Rattle.std.proofs.Common.{◌≡◌, ℕ, List, [], ◌∷◌, ◌++◌, Ok, sym, ap, subst, ◌∙◌, append_assoc, append-nil}
use Rattle.snow_wire.specs.declared.event.Event.{Event}
use Rattle.snow_wire.specs.Model.Spelling.{number, spelling, sender, IsSender, IsInRange}
use Rattle.snow_wire.specs.Model.Reading.{IsBytes, Read, ◌>>=◌, number_at, single_at, sender_at, message_at}
use Rattle.snow_wire.proofs.Numbers.{width4}
use Rattle.snow_wire.proofs.Fields.{IsField, step, again_then, ok_is, done, join, bytes_field, number_field}

-- what is read behind this tag is the spelling of an event in range
pub record IsTagged (tag : ℕ) (at : List ℕ → Read Event) : Type 0 where
  pub taken : (bytes : List ℕ) (e : Event) (rest : List ℕ) → IsBytes bytes → at bytes ≡ Ok (e, rest) → (tag ∷ bytes ≡ spelling e ++ rest) × IsInRange e

-- an event that has these fields behind its tag
pub record HasFields (tag : ℕ) (fields : List ℕ) (e : Event) : Type 0 where
  pub spelled : spelling e ≡ tag ∷ fields
  pub range : IsInRange e

-- fields that were read behind a tag
pub tagged : (tag : ℕ) (fields bytes : List ℕ) (made e : Event) (end rest : List ℕ) → HasFields tag fields made → bytes ≡ fields ++ end → done {A = Event × List ℕ} (made, end) ≡ done (e, rest)
    → (tag ∷ bytes ≡ spelling e ++ rest) × IsInRange e
tagged tag fields bytes made e end rest has parts same =
    let whole : tag ∷ bytes ≡ spelling made ++ end = ap (λ (b : List ℕ). tag ∷ b) parts ∙ ap (λ (b : List ℕ). b ++ end) (sym has.spelled) in
    subst (λ (p : Event × List ℕ). (tag ∷ bytes ≡ spelling p.0 ++ p.1) × IsInRange p.0) (ok_is (made, end) (e, rest) same) (whole, has.range)

-- ---- an event of one field

single_taken : {A : Type 0} {at : List ℕ → Read A} {spell : A → List ℕ} {Good : A → Type 0} → IsField at spell Good → (tag : ℕ) (made : A → Event)
    → ((x : A) → Good x → HasFields tag (spell x) (made x)) → (bytes : List ℕ) (e : Event) (rest : List ℕ) → IsBytes bytes → single_at at made bytes ≡ Ok (e, rest) → (tag ∷ bytes ≡ spelling e ++ rest) × IsInRange e
unfolding single_at
single_taken {spell = spell} field tag made has bytes e rest fits r =
    let s = step field bytes (λ x. Ok (made x.0, x.1)) (e, rest) fits r in
    tagged tag (spell s.value) bytes (made s.value) e s.rest rest (has s.value s.good) s.parts s.goes_on

-- one field behind a tag
pub single_tagged : {A : Type 0} {at : List ℕ → Read A} {spell : A → List ℕ} {Good : A → Type 0} → IsField at spell Good → (tag : ℕ) (made : A → Event)
    → ((x : A) → Good x → HasFields tag (spell x) (made x)) → IsTagged tag (single_at at made)
single_tagged field tag made has = record { taken = single_taken field tag made has }

-- one field that was spelled is read again
pub single_again : {A : Type 0} {at : List ℕ → Read A} {spell : A → List ℕ} {Good : A → Type 0} → IsField at spell Good → (made : A → Event) (x : A) → Good x → single_at at made (spell x) ≡ Ok (made x, [])
unfolding single_at
single_again {at = at} {spell = spell} field made x good =
    ap (single_at at made) (sym (append-nil (spell x))) ∙ again_then field x [] (λ y. Ok (made y.0, y.1)) good

-- ---- an event of a node and a request

sender_taken : (tag : ℕ) (made : List ℕ → ℕ → Event) → ((node : List ℕ) (request : ℕ) → IsSender node request → HasFields tag (sender node request) (made node request))
    → (bytes : List ℕ) (e : Event) (rest : List ℕ) → IsBytes bytes → sender_at made bytes ≡ Ok (e, rest) → (tag ∷ bytes ≡ spelling e ++ rest) × IsInRange e
unfolding sender_at
sender_taken tag made has bytes e rest fits r =
    let node = step (bytes_field 20) bytes (λ n. number_at 4 n.1 >>= λ request. Ok (made n.0 request.0, request.1)) (e, rest) fits r in
    let request = step (number_field 4 width4) node.rest (λ request. Ok (made node.value request.0, request.1)) (e, rest) node.fits node.goes_on in
    let parts = join bytes node.value node.rest (number 4 request.value) request.rest node.parts request.parts in
    tagged tag (sender node.value request.value) bytes (made node.value request.value) e request.rest rest (has node.value request.value (node.good, request.good)) parts request.goes_on

-- a node and a request behind a tag
pub sender_tagged : (tag : ℕ) (made : List ℕ → ℕ → Event) → ((node : List ℕ) (request : ℕ) → IsSender node request → HasFields tag (sender node request) (made node request)) → IsTagged tag (sender_at made)
sender_tagged tag made has = record { taken = sender_taken tag made has }

-- a node and a request that were spelled are read again
pub sender_again : (made : List ℕ → ℕ → Event) (node : List ℕ) (request : ℕ) → IsSender node request → sender_at made (sender node request) ≡ Ok (made node request, [])
unfolding sender_at
sender_again made node request good =
    ap (λ (b : List ℕ). sender_at made (node ++ b)) (sym (append-nil (number 4 request)))
    ∙ again_then (bytes_field 20) node (number 4 request ++ []) (λ n. number_at 4 n.1 >>= λ r. Ok (made n.0 r.0, r.1)) good.0
    ∙ again_then (number_field 4 width4) request [] (λ r. Ok (made node r.0, r.1)) good.1

-- ---- an event of a node, a request and one field more

message_taken : {A : Type 0} {at : List ℕ → Read A} {spell : A → List ℕ} {Good : A → Type 0} → IsField at spell Good → (tag : ℕ) (made : List ℕ → ℕ → A → Event)
    → ((node : List ℕ) (request : ℕ) (x : A) → IsSender node request → Good x → HasFields tag (sender node request ++ spell x) (made node request x))
    → (bytes : List ℕ) (e : Event) (rest : List ℕ) → IsBytes bytes → message_at at made bytes ≡ Ok (e, rest) → (tag ∷ bytes ≡ spelling e ++ rest) × IsInRange e
unfolding message_at
message_taken {at = at} {spell = spell} field tag made has bytes e rest fits r =
    let node = step (bytes_field 20) bytes (λ n. number_at 4 n.1 >>= λ request. at request.1 >>= λ more. Ok (made n.0 request.0 more.0, more.1)) (e, rest) fits r in
    let request = step (number_field 4 width4) node.rest (λ request. at request.1 >>= λ more. Ok (made node.value request.0 more.0, more.1)) (e, rest) node.fits node.goes_on in
    let more = step field request.rest (λ more. Ok (made node.value request.value more.0, more.1)) (e, rest) request.fits request.goes_on in
    let first = join bytes node.value node.rest (number 4 request.value) request.rest node.parts request.parts in
    let parts = join bytes (sender node.value request.value) request.rest (spell more.value) more.rest first more.parts in
    tagged tag (sender node.value request.value ++ spell more.value) bytes (made node.value request.value more.value) e more.rest rest (has node.value request.value more.value (node.good, request.good) more.good) parts more.goes_on

-- a node, a request and one field more behind a tag
pub message_tagged : {A : Type 0} {at : List ℕ → Read A} {spell : A → List ℕ} {Good : A → Type 0} → IsField at spell Good → (tag : ℕ) (made : List ℕ → ℕ → A → Event)
    → ((node : List ℕ) (request : ℕ) (x : A) → IsSender node request → Good x → HasFields tag (sender node request ++ spell x) (made node request x)) → IsTagged tag (message_at at made)
message_tagged field tag made has = record { taken = message_taken field tag made has }

-- a node, a request and one field more that were spelled are read again
pub message_again : {A : Type 0} {at : List ℕ → Read A} {spell : A → List ℕ} {Good : A → Type 0} → IsField at spell Good → (made : List ℕ → ℕ → A → Event) (node : List ℕ) (request : ℕ) (x : A)
    → IsSender node request → Good x → message_at at made (sender node request ++ spell x) ≡ Ok (made node request x, [])
unfolding message_at
message_again {at = at} {spell = spell} field made node request x sent good =
    ap (message_at at made) (append_assoc node (number 4 request) (spell x) ∙ ap (λ (b : List ℕ). node ++ (number 4 request ++ b)) (sym (append-nil (spell x))))
    ∙ again_then (bytes_field 20) node (number 4 request ++ (spell x ++ [])) (λ n. number_at 4 n.1 >>= λ r. at r.1 >>= λ more. Ok (made n.0 r.0 more.0, more.1)) sent.0
    ∙ again_then (number_field 4 width4) request (spell x ++ []) (λ r. at r.1 >>= λ more. Ok (made node r.0 more.0, more.1)) sent.1
    ∙ again_then field x [] (λ more. Ok (made node request more.0, more.1)) good
