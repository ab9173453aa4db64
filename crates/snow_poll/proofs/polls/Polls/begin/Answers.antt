-- The new poll stands at the end, and its number has its place.
use Rattle.std.proofs.Common.{◌≡◌, ap, arith, sym, ◌++◌, ◌∷◌, [], List, length, ◌<◌, ◌∙◌}
use Rattle.snow_poll.specs.Model.Poll.{Poll}
use Rattle.snow_poll.specs.Model.Table.{Table, has_number}
use Rattle.snow_poll.proofs.Placed.{table_begun}
use Rattle.snow_poll.proofs.polls.Polls.begin.Goals as goal

pub invariant_of-self-2 : goal.invariant_of-self-2
invariant_of-self-2 c =
    let polls = c.self.inside.polls.items in
    let new = ap (λ (t : Table). has_number t.polls c.args.number) c.self.view_is ∙ c.requires.number in
    let whole = c.requires.whole ∙ sym (ap (λ (t : Table). t.parameters.k) c.self.view_is) in
    let room : length polls < 1024 = omega (arith, c.if-len-ge-MOST_POLLS.false, c.len.ensures, c.self.inside.polls.ok.0) in
    let at : c.len-2.result ≡ length polls = omega (arith, c.len-2.ensures, c.reserve.ensures.len, c.self.inside.polls.ok.0) in
    let grown = c.push_back_reserved.ensures.items ∙ ap (λ (l : List Poll). l ++ c.in_ok-poll.poll ∷ []) c.reserve.ensures.items ∙ ap (λ (q : Poll). polls ++ q ∷ []) c.in_ok-poll.ensures in
    rw (grown, c.enter.ensures.gone)
    (table_begun c.self.inside.params polls c.self.inside.turns.turns c.enter.new.self.turns c.self.inside.turns.gone c.args.number c.args.draws.now
    c.self.invariant room new whole (rw at at c.in_ok-enter.ensures.entered))
