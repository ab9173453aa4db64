-- A worked example: what a chain holds once it was told an acceptance and a rejection.
use Rattle.std.proofs.Common.{◌≡◌, ℕ, true, false, cond, List, [], ◌∷◌, Some, None, is_some, bytes_eq, refl, ap, ◌∙◌}
use Rattle.std.specs.FinMap.{empty, get-empty}
use Rattle.std.specs.Ordering.{nat_cmp}
use Rattle.std.specs.Cmp.Lexicographic.{slice_cmp}
use Rattle.snow_board.specs.declared.board.Decision.{Decision}
use Rattle.snow_chain.specs.Model.Chain.{Held, state_of, begun, with_state, accepted}
use Rattle.snow_node.specs.Model.Telling.{with_decisions}
use Rattle.snow_node.specs.Clauses.Matching.{MayFollow}
use Rattle.snow_node.proofs.Following.{state_with, state_without}

-- blocks 2 and 3 above block 1, each with a state of its own
abbrev two : Held
two = with_state (with_state (begun (1 ∷ []) (10 ∷ [])) (2 ∷ []) (20 ∷ [])) (3 ∷ []) (30 ∷ [])

-- 2 is accepted, and 3 rejected
abbrev decisions : List Decision
decisions = record { accepted = true; id = 2 ∷ [] } ∷ record { accepted = false; id = 3 ∷ [] } ∷ []

-- a state by the tests of identifiers
two_at : (id : List ℕ) → state_of two id
    ≡ cond (bytes_eq id (3 ∷ [])) (Some (30 ∷ [])) (cond (bytes_eq id (2 ∷ [])) (Some (20 ∷ [])) (cond (bytes_eq id (1 ∷ [])) (Some (10 ∷ [])) None))
two_at id =
    let none : Held = record { last = 1 ∷ []; states = empty } in
    let one = begun (1 ∷ []) (10 ∷ []) in
    state_with (with_state one (2 ∷ []) (20 ∷ [])) (3 ∷ []) (30 ∷ []) id
    ∙ ap (cond (bytes_eq id (3 ∷ [])) (Some (30 ∷ [])))
    (state_with one (2 ∷ []) (20 ∷ []) id
    ∙ ap (cond (bytes_eq id (2 ∷ [])) (Some (20 ∷ [])))
    (state_with none (1 ∷ []) (10 ∷ []) id ∙ ap (cond (bytes_eq id (1 ∷ [])) (Some (10 ∷ []))) (get-empty (slice_cmp nat_cmp) id)))

-- and after the decisions
after_at : (id : List ℕ) → state_of (with_decisions two decisions) id ≡ cond (bytes_eq id (3 ∷ [])) None (cond (bytes_eq id (1 ∷ [])) None (state_of two id))
after_at id =
    state_without (accepted two (2 ∷ [])) (3 ∷ []) id ∙ ap (cond (bytes_eq id (3 ∷ [])) None) (state_without two (1 ∷ []) id)

-- the chain can be told both
may-both : MayFollow two decisions
unfolding MayFollow
may-both = (
  record { known = ap (λ o. is_some o) (two_at (2 ∷ [])); other = refl; below = ap (λ o. is_some o) (two_at (1 ∷ [])) },
  (record { known = ap (λ o. is_some o) (state_without two (1 ∷ []) (3 ∷ []) ∙ two_at (3 ∷ [])); other = refl }, tt),
)

-- and holds the state of block 2 alone
last-two : (with_decisions two decisions).last ≡ 2 ∷ []
last-two = refl

kept-two : state_of (with_decisions two decisions) (2 ∷ []) ≡ Some (20 ∷ [])
kept-two = after_at (2 ∷ []) ∙ two_at (2 ∷ [])

gone-one : state_of (with_decisions two decisions) (1 ∷ []) ≡ None
gone-one = after_at (1 ∷ [])

gone-three : state_of (with_decisions two decisions) (3 ∷ []) ≡ None
gone-three = after_at (3 ∷ [])
