-- A conflict as its tree is seen, and what is true of each tree with its prefix.
use Rattle.std.specs.Prelude.{ℕ, ◌+◌, ◌-◌, ◌*◌, ◌^◌, ◌≤◌, max, List, [], ◌∷◌, length, Contains, ◌==◌, if◌then◌else◌, refl}
use Rattle.std.specs.Coded.{Coded, coded_ℕ, coded_list, coded×, code_by}
use Rattle.snow_base.specs.Model.Identifier.{bits, AgreeFrom}
use Rattle.snow_flake.specs.Model.Parameters.{Parameters}
use Rattle.snow_board.specs.Model.Conflict.{Counters, Blank, with_child}
use Rattle.snow_board.specs.Kept.CountersCode.{coded_counters}
use Rattle.snow_trie.specs.Kept.Tree.{Tree}
use Rattle.snow_trie.specs.Kept.Stamped.{counters}
use Rattle.snow_trie.specs.Kept.Outline.{Straight, outline, size, Leads, IsLeaf, IsSorted}
use Rattle.snow_trie.specs.Kept.Shape.{IsPlaced, IsStamped, IsOpen, IsOrdered}
use Rattle.snow_trie.specs.Kept.Growing.{differs_at, or_parted, grown}
use Rattle.snow_trie.specs.Kept.Peeling.{first_leaf}

-- the parameters, the identifiers that were given, the counters of the conflict, and how many nodes there are
pub record Compressed : Type 0 where
  pub parameters : Parameters
  pub ids : List (List ℕ)
  pub counters : Counters
  pub nodes : ℕ

-- with one identifier
abbrev pub begun : Parameters → List ℕ → Compressed
begun p id = record { parameters = p; ids = id ∷ []; counters = with_child (bits id) Blank; nodes = 1 }

-- at least one node, and at most three for each identifier but one, and one for that
pub record HasFewNodes (t : Compressed) : Type 0 where
  pub least : 1 ≤ t.nodes
  pub most : t.nodes ≤ 3 * length t.ids - 2

-- the code of parameters
abbrev coded_parameters : Coded Parameters
coded_parameters =
    code_by (ℕ × (ℕ × (ℕ × (ℕ × ℕ)))) (coded× coded_ℕ (coded× coded_ℕ (coded× coded_ℕ (coded× coded_ℕ coded_ℕ))))
    (λ p. (p.k, (p.alpha_preference, (p.alpha_confidence, (p.beta, p.repolls)))))
    (λ f. record { k = f.0; alpha_preference = f.1.0; alpha_confidence = f.1.1.0; beta = f.1.1.1.0; repolls = f.1.1.1.1 })
    (λ _. refl)

-- the code of a conflict, which a type's model asks for
abbrev pub coded_compressed : Coded Compressed
coded_compressed =
    code_by (Parameters × (List (List ℕ) × (Counters × ℕ))) (coded× coded_parameters (coded× (coded_list (coded_list coded_ℕ)) (coded× coded_counters coded_ℕ)))
    (λ t. (t.parameters, (t.ids, (t.counters, t.nodes))))
    (λ f. record { parameters = f.0; ids = f.1.0; counters = f.1.1.0; nodes = f.1.1.1 })
    (λ _. refl)

-- the nodes of a tree; a decided tree is one, which has no child to take its place
abbrev pub nodes_of : Tree → ℕ
nodes_of t = max 1 (size t)

-- an identifier is added, unless the prefix excludes it
abbrev pub added : ℕ → List ℕ → List ℕ → Tree → Tree
added decided leader id t = or_parted (differs_at leader id 0 decided) (grown decided id t) (λ at. t)

-- the leader of a prefix: as before where nothing was taken off, else an identifier that stands in what is left
abbrev pub next_leader : List ℕ → ℕ → ℕ → Tree → List ℕ
next_leader leader decided to rest = if to == decided then leader else first_leaf rest

-- what is true of a tree behind a decided prefix, to which these identifiers were given
pub record IsWhole (ids : List (List ℕ)) (polls decided : ℕ) (leader : List ℕ) (t : Tree) : Type 0 where
  pub placed : IsPlaced decided t
  pub stamped : IsStamped polls t
  pub undecided : IsOpen t
  pub ordered : IsOrdered (counters polls decided t)
  -- each identifier that stands in it stands where its bits lead, and was given
  pub sorted : IsSorted (Straight leader 0 decided (outline decided t))
  pub given : (x : List ℕ) → IsLeaf (outline decided t) x → Contains ids x
  -- each that was given goes down to the end, or is excluded
  pub known : (x : List ℕ) → Contains ids x → AgreeFrom 0 decided leader x → Leads (outline decided t) x
  pub few : size t + 2 ≤ 3 * length ids
  pub fits : length ids ≤ 2 ^ 48
