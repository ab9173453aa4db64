-- The code of kept blocks and of what is fetched, which models ask for.
use Rattle.std.specs.Prelude.{◌≡◌, ℕ, zero, suc, Bool, List, [], refl}
use Rattle.std.specs.Coded.{Coded, coded_ℕ, coded_bool, coded_list, coded×, code_by}
use Rattle.snow_store.specs.declared.store.KeptBlock.{KeptBlock}
use Rattle.snow_store.specs.declared.needs.Due.{Due}
use Rattle.snow_store.specs.declared.needs.Due.TheVariants as due
use Rattle.snow_store.specs.Kept.Indexing.{Shelf}
use Rattle.snow_store.specs.Model.Keeping.{Store}
use Rattle.snow_store.specs.Model.Paths.{Fetch}

abbrev pub Bytes : Type 0
Bytes = List ℕ

abbrev pub coded_bytes : Coded Bytes
coded_bytes = coded_list coded_ℕ

abbrev coded_block : Coded KeptBlock
coded_block =
    code_by (Bytes × (Bytes × (ℕ × Bytes))) (coded× coded_bytes (coded× coded_bytes (coded× coded_ℕ coded_bytes)))
    (λ b. (b.header.id, (b.header.parent, (b.header.height, b.bytes))))
    (λ f. record { header = record { id = f.0; parent = f.1.0; height = f.1.1.0 }; bytes = f.1.1.1 })
    (λ _. refl)

abbrev pub coded_store : Coded Store
coded_store =
    code_by (Bytes × (ℕ × List KeptBlock)) (coded× coded_bytes (coded× coded_ℕ (coded_list coded_block)))
    (λ s. (s.last, (s.height, s.kept))) (λ f. record { last = f.0; height = f.1.0; kept = f.1.1 }) (λ _. refl)

abbrev pub coded_shelf : Coded Shelf
coded_shelf = code_by (Bool × Store) (coded× coded_bool coded_store) (λ s. (s.whole, s.store)) (λ f. record { whole = f.0; store = f.1 }) (λ _. refl)

abbrev pub coded_fetch : Coded Fetch
coded_fetch =
    code_by (Store × (List Bytes × List Bytes)) (coded× coded_store (coded× (coded_list coded_bytes) (coded_list coded_bytes)))
    (λ s. (s.store, (s.targets, s.found))) (λ f. record { store = f.0; targets = f.1.0; found = f.1.1 }) (λ _. refl)

-- what is due as a number and an identifier
abbrev listed : Due → ℕ × Bytes
listed due.Nothing = (zero, [])
listed (due.One id) = (suc zero, id)
listed due.All = (suc (suc zero), [])

abbrev due_by : ℕ × Bytes → Due
due_by (zero, id) = due.Nothing
due_by (suc zero, id) = due.One id
due_by (suc (suc n), id) = due.All

abbrev same_due : (d : Due) → due_by (listed d) ≡ d
same_due due.Nothing = refl
same_due (due.One id) = refl
same_due due.All = refl

abbrev pub coded_due : Coded Due
coded_due = code_by (ℕ × Bytes) (coded× coded_ℕ coded_bytes) listed due_by same_due
