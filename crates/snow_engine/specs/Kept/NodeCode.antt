-- Codes for the values of nodes, which their models ask for.
use Rattle.std.specs.Prelude.{◌≡◌, ◌⊎◌, ℕ, List, Option, Some, None, refl}
use mathlib.Core.Logic.{inl, inr}
use Rattle.std.specs.Coded.{Coded, coded_ℕ, coded_list, coded_option, coded×, coded⊎, code_by}
use Rattle.snow_flake.specs.Model.Parameters.{Parameters}
use Rattle.snow_sample.specs.declared.roster.Node.{Node as Member}
use Rattle.snow_boot.specs.Model.Booting.{Boot}
use Rattle.snow_boot.specs.Kept.BootCode.{coded_boot}
use Rattle.snow_board.specs.Model.Board.{Board}
use Rattle.snow_board.specs.Kept.BoardCode.{coded_board}
use Rattle.snow_chain.specs.Model.Chain.{Held}
use Rattle.snow_chain.specs.Kept.Coded.{coded_held}
use Rattle.snow_engine.specs.declared.stage.Stage.TheVariants as stage
use Rattle.snow_engine.specs.Model.Deciding.{Deciding}
use Rattle.snow_node.specs.Model.Running.{Running}
use Rattle.snow_node.specs.Kept.RunningCode.{coded_running, coded_parameters, coded_member}
use Rattle.snow_engine.specs.Model.Booting.{Booting}
use Rattle.snow_engine.specs.Kept.Staging.{Node}

-- the code of a node that decides
abbrev pub coded_deciding : Coded Deciding
coded_deciding = code_by (Board × Held) (coded× coded_board coded_held)
    (λ n. (n.board, n.chain))
    (λ f. record { board = f.0; chain = f.1 })
    (λ _. refl)

-- the code of a node that bootstraps
abbrev pub coded_booting : Coded Booting
coded_booting =
    code_by (Parameters × (List Member × (Boot × (List ℕ × (List ℕ × ℕ)))))
    (coded× coded_parameters (coded× (coded_list coded_member) (coded× coded_boot (coded× (coded_list coded_ℕ) (coded× (coded_list coded_ℕ) coded_ℕ)))))
    (λ n. (n.parameters, (n.roster, (n.boot, (n.state, (n.words, n.last))))))
    (λ f. record { parameters = f.0; roster = f.1.0; boot = f.1.1.0; state = f.1.1.1.0; words = f.1.1.1.1.0; last = f.1.1.1.1.1 })
    (λ _. refl)

-- a node as one of three, or none
abbrev Parts : Type 0
Parts = Deciding ⊎ (Booting ⊎ Option Running)

abbrev pub split : Node → Parts
split (stage.Deciding node) = inl node
split (stage.Booting node) = inr (inl node)
split (stage.Running node) = inr (inr (Some node))
split stage.Ended = inr (inr None)

abbrev pub joined : Parts → Node
joined (inl node) = stage.Deciding node
joined (inr (inl node)) = stage.Booting node
joined (inr (inr (Some node))) = stage.Running node
joined (inr (inr None)) = stage.Ended

abbrev pub same : (node : Node) → joined (split node) ≡ node
same (stage.Deciding node) = refl
same (stage.Booting node) = refl
same (stage.Running node) = refl
same stage.Ended = refl

-- the code of a node of any stage
abbrev pub coded_node : Coded Node
coded_node = code_by Parts (coded⊎ coded_deciding (coded⊎ coded_booting (coded_option coded_running))) split joined same
