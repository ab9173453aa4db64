-- What a chain holds can be the value of a model.
use Rattle.std.specs.Prelude.{ℕ, List}
use Rattle.std.specs.Coded.{Coded, code_by, coded×, coded_list, coded_ℕ}
use Rattle.std.specs.FinMap.{code}
use mathlib.Core.Path.{refl}
use Rattle.snow_chain.specs.Model.Chain.{Held, States}

-- numbers in a list
abbrev pub coded_numbers : Coded (List ℕ)
coded_numbers = coded_list coded_ℕ

-- as the last accepted block and the states by identifier
abbrev pub coded_held : Coded Held
coded_held = code_by (List ℕ × States) (coded× coded_numbers (code coded_numbers coded_numbers)) (λ h. (h.last, h.states)) (λ p. record { last = p.0; states = p.1 }) (λ _. refl)
