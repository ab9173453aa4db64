-- Codes for the values of a board, which the models of its types ask for.
use Rattle.std.specs.Prelude.{ℕ, List, refl}
use Rattle.std.specs.Coded.{Coded, coded_ℕ, coded_list, coded×, code_by}
use Rattle.snow_flake.specs.Model.Parameters.{Parameters}
use Rattle.snow_board.specs.Model.Conflict.{Pending}
use Rattle.snow_board.specs.Model.Conflict.{Counters}
use Rattle.snow_board.specs.Kept.CountersCode.{coded_counters}
use Rattle.snow_board.specs.Model.Board.{Board}

-- the code of an identifier
abbrev coded_id : Coded (List ℕ)
coded_id = coded_list coded_ℕ

-- the code of parameters
abbrev coded_parameters : Coded Parameters
coded_parameters =
    code_by (ℕ × (ℕ × (ℕ × (ℕ × ℕ)))) (coded× coded_ℕ (coded× coded_ℕ (coded× coded_ℕ (coded× coded_ℕ coded_ℕ))))
    (λ p. (p.k, (p.alpha_preference, (p.alpha_confidence, (p.beta, p.repolls)))))
    (λ f. record { k = f.0; alpha_preference = f.1.0; alpha_confidence = f.1.1.0; beta = f.1.1.1.0; repolls = f.1.1.1.1 })
    (λ _. refl)

-- the code of a pending block
abbrev coded_pending : Coded Pending
coded_pending =
    code_by (List ℕ × (List ℕ × (ℕ × Counters))) (coded× coded_id (coded× coded_id (coded× coded_ℕ coded_counters)))
    (λ q. (q.block.id, (q.block.parent, (q.block.height, q.counters))))
    (λ f. record { block = record { id = f.0; parent = f.1.0; height = f.1.1.0 }; counters = f.1.1.1 })
    (λ _. refl)

-- the code of a board
abbrev pub coded_board : Coded Board
coded_board =
    code_by (Parameters × (List ℕ × (ℕ × (Counters × List Pending))))
    (coded× coded_parameters (coded× coded_id (coded× coded_ℕ (coded× coded_counters (coded_list coded_pending)))))
    (λ b. (b.parameters, (b.last, (b.height, (b.counters, b.pending)))))
    (λ f. record { parameters = f.0; last = f.1.0; height = f.1.1.0; counters = f.1.1.1.0; pending = f.1.1.1.1 })
    (λ _. refl)
