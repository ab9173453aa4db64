-- What a good transfer says makes its numbers fit, and what is written is the state after it.
use Rattle.std.proofs.Common.{◌≡◌, ℕ, true, [], ◌∙◌, ap, subst, sym, arith, ◌<◌, ◌≤◌, ◌+◌, ◌^◌}
use Rattle.snow_ledger.specs.Model.Ledger.{held, next_in, is_good}
use Rattle.snow_ledger.proofs.Good.{facts_of}
use Rattle.snow_ledger.proofs.Moves.{written, moved_one, within_held, counts_on, fits_receiver}
use Rattle.snow_ledger.proofs.state.move_one.Goals as goal

pub move_between-requires-clause-from : goal.move_between-requires-clause-from
move_between-requires-clause-from c =
    let good : is_good c.args.state.now [] c.args.t ≡ true = grind arith in
    omega (arith, (facts_of c.args.state.now [] c.args.t good).sender, c.from.ensures)

pub move_between-requires-clause-to : goal.move_between-requires-clause-to
move_between-requires-clause-to c =
    let good : is_good c.args.state.now [] c.args.t ≡ true = grind arith in
    omega (arith, (facts_of c.args.state.now [] c.args.t good).receiver, c.from-2.ensures)

pub move_between-requires-clause-covered : goal.move_between-requires-clause-covered
move_between-requires-clause-covered c =
    let good : is_good c.args.state.now [] c.args.t ≡ true = grind arith in
    subst (λ (a : ℕ). c.args.t.amount ≤ held c.args.state.now a) (sym c.from.ensures) (within_held c.args.state.now c.args.t good)

pub move_between-requires-clause-fits : goal.move_between-requires-clause-fits
move_between-requires-clause-fits c =
    let good : is_good c.args.state.now [] c.args.t ≡ true = grind arith in
    subst (λ (a : ℕ). held c.args.state.now a + c.args.t.amount < 2 ^ 64) (sym c.from-2.ensures) (fits_receiver c.args.state.now c.args.t c.requires good)

pub move_between-requires-clause-counts : goal.move_between-requires-clause-counts
move_between-requires-clause-counts c =
    let good : is_good c.args.state.now [] c.args.t ≡ true = grind arith in
    subst (λ (a : ℕ). next_in c.args.state.now a + 1 < 2 ^ 64) (sym c.from.ensures) (counts_on c.args.state.now c.args.t good)

pub returns-clause-after : goal.returns-clause-after
returns-clause-after c =
    let good : is_good c.args.state.now [] c.args.t ≡ true = grind arith in
    c.move_between.ensures
    ∙ ap (λ a. written c.args.state.now a c.from-2.result c.args.t.amount) c.from.ensures
    ∙ ap (λ a. written c.args.state.now c.args.t.from a c.args.t.amount) c.from-2.ensures
    ∙ moved_one c.args.state.now c.args.t c.requires good
