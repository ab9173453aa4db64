-- A code for what is kept of a block's children, which a type's model asks for.
use Rattle.std.specs.Prelude.{◌≡◌, ℕ, Option, Some, None, refl}
use Rattle.std.specs.Coded.{Coded, coded_ℕ, coded_option, coded×, code_by}
use Rattle.std.specs.Option.{option_map}
use Rattle.snow_trie.specs.Kept.Whole.{Compressed, coded_compressed}
use Rattle.snow_topo.specs.Kept.Children.{Conflict, Kept, conflict_of}

-- as that of a tree whose nodes aren't counted
abbrev tree_from : Conflict → Compressed
tree_from c = record { parameters = c.parameters; ids = c.ids; counters = c.counters; nodes = 0 }

-- nothing is lost on the way
pub conflict_back : (o : Option Conflict) → option_map conflict_of (option_map tree_from o) ≡ o
conflict_back None = refl
conflict_back (Some c) = refl

-- the code of what is kept
abbrev pub coded_kept : Coded Kept
coded_kept =
    code_by (Option Compressed × ℕ) (coded× (coded_option coded_compressed) coded_ℕ) (λ k. (option_map tree_from k.conflict, k.recorded))
    (λ f. record { conflict = option_map conflict_of f.0; recorded = f.1 })
    (λ k i. record { conflict = conflict_back k.conflict i; recorded = k.recorded })
