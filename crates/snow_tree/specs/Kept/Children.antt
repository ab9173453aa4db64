-- The children of a block as they are kept: at most one in place, or a list.
use Rattle.std.specs.Prelude.{ℕ, List}
use Rattle.std.specs.Option.{option_to_list}
use Rattle.snow_tree.specs.declared.children.Form.{Form}
use Rattle.snow_tree.specs.declared.children.Form.TheVariants.{Few, Several}

abbrev pub shown_children : Form → List (List ℕ)
shown_children (Few one) = option_to_list one
shown_children (Several list) = list.items
