-- A conflict as it is kept: an identifier that stands alone, or a tree of several in a box.
use Rattle.snow_trie.specs.declared.trie.Form.{Form}
use Rattle.snow_trie.specs.declared.trie.Form.TheVariants.{Alone, Forked}
use Rattle.snow_trie.specs.Kept.Whole.{Compressed}

abbrev pub shown_form : {R : Type 0} → Form R → Compressed
shown_form (Alone alone) = alone
shown_form (Forked forked) = forked.value
