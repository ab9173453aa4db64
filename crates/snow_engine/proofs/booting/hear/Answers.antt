-- Where there is no memory for the identifiers of an answer, nothing is logged.
use Rattle.std.proofs.Common.{◌≡◌, [], Err, refl, sym, rules}
use Rattle.std.proofs.lemmas.List.{append-nil}
use Rattle.snow_store.specs.declared.stop.BootStop.{BootStop}
use Rattle.snow_chain.specs.Kept.Alone.{last_state}
use Rattle.snow_wire.specs.Clauses.Viewed.{as_event}
use Rattle.snow_engine.specs.Model.Catching as model
use Rattle.snow_engine.proofs.booting.hear.Goals as goal

pub returns-in_err-ids-in-Accepted-clause-lines : goal.returns-in_err-ids-in-Accepted-clause-lines
returns-in_err-ids-in-Accepted-clause-lines g c =
    let is : c.from_residual.result ≡ Err BootStop.Memory = search rules in
    rw is (record {
      front = [];
      rest = (model.heard g.C.Chain.rules (last_state (g.C.Chain.held c.args.chain.now)) c.args.boot.now.boot c.args.numbers.now c.args.frame (as_event c.args.event)).0;
      whole = refl;
      grown = sym (append-nil c.args.log.now);
    })
