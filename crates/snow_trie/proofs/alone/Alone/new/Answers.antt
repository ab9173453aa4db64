use Rattle.std.proofs.Common.{◌≡◌, [], ◌∷◌, ◌∙◌}
use Rattle.snow_base.specs.Model.Identifier.{bits}
use Rattle.snow_board.specs.Model.Conflict.{Blank, with_child}
use Rattle.snow_trie.specs.Kept.Alone.{run_of, last}
use Rattle.snow_trie.specs.Kept.Stamped.{counters}
use Rattle.snow_trie.proofs.Parting.{is_new}
use Rattle.snow_trie.proofs.Wholes.{whole_begun, begun_counters}
use Rattle.snow_trie.proofs.alone.Alone.new.Goals as goal

pub invariant_of-result : goal.invariant_of-result
invariant_of-result c = rw (is_new c.new.result c.new.ensures) (whole_begun c.args.id).ordered

pub returns : goal.returns
returns c =
    let id = c.args.id in
    let new = is_new c.new.result c.new.ensures in
    let fresh : counters 0 0 (last (run_of id c.new.result)) ≡ with_child (bits id) Blank = (λ i. counters 0 0 (last (run_of id (new i)))) ∙ begun_counters id in
    λ i. record { parameters = c.args.params; ids = id ∷ []; counters = fresh i; nodes = 1 }
