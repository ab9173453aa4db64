use Rattle.std.proofs.Common.{sym, ◌∙◌}
use Rattle.snow_topo.proofs.Won.{decided_chosen, decided_none}
use Rattle.snow_topo.proofs.load.decided_in.Goals as goal

pub returns-then-is_final : goal.returns-then-is_final
returns-then-is_final g c = decided_chosen g.R.Rule.answer c.args.trie.now.counters c.preference.result (sym c.is_final.ensures ∙ c.if-is_final.true) c.preference.ensures.bits

pub returns-else-is_final : goal.returns-else-is_final
returns-else-is_final g c = decided_none c.args.trie.now.counters (sym c.is_final.ensures ∙ c.if-is_final.false)
