use Rattle.std.proofs.Common.{Some, sym, ap, ◌∙◌, arith}
use Rattle.std.specs.Option.{option_map}
use Rattle.snow_board.specs.Model.Board.{Board, block_of}
use Rattle.snow_plain.proofs.Placed.{first_at, not_found}
use Rattle.snow_plain.proofs.state.State.block.Goals as goal

pub index-requires : goal.index-requires
index-requires c =
    let items = c.self.inside.pending.items in
    let found = first_at c.in-Some.at c.args.id.now items (sym (c.self.invariant.places c.args.id.now) ∙ sym c.place_of.ensures ∙ c.in-Some.is) in
    omega (arith, found.within, c.self.inside.pending.ok.0)

pub returns-in-Some : goal.returns-in-Some
returns-in-Some c =
    let id = c.args.id.now in
    let entry = c.index.result.now in
    let found = first_at c.in-Some.at id c.self.inside.pending.items (sym (c.self.invariant.places id) ∙ sym c.place_of.ensures ∙ c.in-Some.is) in
    ap (λ q. Some q.block) c.index.ensures
    ∙ sym (ap (option_map (λ q. q.block)) (found.first entry))
    ∙ ap (λ (board : Board). option_map (λ q. q.block) (block_of board id)) c.self.view_is

pub returns-in-None : goal.returns-in-None
returns-in-None c =
    let id = c.args.id.now in
    let none = not_found 0 id c.self.inside.pending.items (sym (c.self.invariant.places id) ∙ sym c.place_of.ensures ∙ c.in-None.is) in
    sym (ap (option_map (λ q. q.block)) none)
    ∙ ap (λ (board : Board). option_map (λ q. q.block) (block_of board id)) c.self.view_is
