-- A chain that is told decisions, one after another.
use Rattle.std.proofs.Common.{◌≡◌, ℕ, suc, ◌+◌, ◌<◌, List, ◌∷◌, length, get_or, take, drop, drop-cons, subst, sym, ap, ◌∙◌, arith}
use Rattle.std.proofs.lemmas.List.Sums.{fold_more}
use Rattle.snow_board.specs.declared.board.Decision.{Decision}
use Rattle.snow_chain.specs.Model.Chain.{Held}
use Rattle.snow_node.specs.Model.Telling.{with_decision, with_decisions}
use Rattle.snow_node.specs.Clauses.Matching.{MayTell, MayFollow}

-- the next decision may be told, and behind it the rest
pub next_may : (held : Held) (decisions : List Decision) (i : ℕ) (d : Decision) → i < length decisions → d ≡ get_or decisions i d
    → MayFollow held (drop i decisions) → MayTell held d.id d.accepted × MayFollow (with_decision held d) (drop (i + 1) decisions)
unfolding MayFollow
next_may held decisions i d h is may =
    let one : suc i ≡ i + 1 = omega arith in
    let split : drop i decisions ≡ d ∷ drop (i + 1) decisions =
    drop-cons decisions i d h ∙ ap (λ (e : Decision). e ∷ drop (suc i) decisions) (sym is) ∙ ap (λ n. d ∷ drop n decisions) one
    in
    subst (MayFollow held) split may

-- what is held once it was told
pub next_told : (first held after : Held) (decisions : List Decision) (i : ℕ) (d : Decision) → i < length decisions → d ≡ get_or decisions i d
    → held ≡ with_decisions first (take i decisions) → after ≡ with_decision held d → after ≡ with_decisions first (take (i + 1) decisions)
next_told first held after decisions i d h is before then =
    then
    ∙ ap (λ (now : Held). with_decision now d) before
    ∙ ap (with_decision (with_decisions first (take i decisions))) is
    ∙ sym (fold_more with_decision first decisions i d h)
