-- Items in classes: how the last item of each class is found, and from each item the one before it in its class.
-- Items are numbered from 1, and 0 stands for none.
use Rattle.std.specs.Prelude.{◌≡◌, ◌≢◌, ℕ, ◌-◌, ◌<◌, ◌≤◌, List, length, slice_index}

-- the number of the last item of a class among the first so many
pub record IsLast (classes : List ℕ) (class many number : ℕ) : Type 0 where
  pub within : number ≤ many
  pub same : 0 < number → slice_index classes (number - 1) ≡ class
  pub others : (i : ℕ) → number ≤ i → i < many → slice_index classes i ≢ class

-- each class has the number of its last item, and each item that of the last one before it in its class
pub record AreChained (classes befores lasts : List ℕ) : Type 0 where
  pub each : length befores ≡ length classes
  pub last : (class : ℕ) → class < length lasts → IsLast classes class (length classes) (slice_index lasts class)
  pub before : (i : ℕ) → i < length classes → IsLast classes (slice_index classes i) i (slice_index befores i)
