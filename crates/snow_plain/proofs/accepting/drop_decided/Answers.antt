use Rattle.std.proofs.Common.{not, rules}
use Rattle.std.proofs.lemmas.Fn.{filter_same}
use Rattle.snow_board.specs.Model.Acceptance.{has_decision}
use Rattle.snow_plain.proofs.accepting.drop_decided.Goals as goal

pub returns : goal.returns
returns c = filter_same _ (λ q. not (has_decision c.args.decisions.now q.block.id)) _ (λ x b f k. search rules) _ _ c.retain.ensures.filtered
