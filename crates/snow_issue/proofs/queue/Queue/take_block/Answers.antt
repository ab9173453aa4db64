-- The children of the block are woken once it is taken out.
use Rattle.std.proofs.Common.{◌<◌, length, map, get_or, sym, ap, subst, ◌∙◌}
use Rattle.std.specs.List.{remove}
use Rattle.snow_held.specs.declared.held.Held.{Held}
use Rattle.snow_issue.specs.Kept.Known.{Seen, items_of}
use Rattle.snow_lineup.specs.Kept.Index.{woken}
use Rattle.snow_issue.proofs.Settled.{kept_left}
use Rattle.snow_issue.proofs.Stepped.{parent_of_block}
use Rattle.snow_issue.proofs.Taken.{items_woken}
use Rattle.snow_issue.proofs.queue.Queue.take_block.Goals as goal

pub invariant_of-self : goal.invariant_of-self
invariant_of-self c =
    let inside = c.self.inside in
    let block = c.take-block.result in
    let there : c.args.at < length inside.waiting = subst (λ (s : Seen). c.args.at < length s.seats) (sym c.self.view_is) c.requires in
    rw (c.wake.ensures ∙ ap (map (woken parent_of_block block.header.id)) c.take-block.ensures.rest, c.wake-2.ensures)
    (kept_left inside.waiting inside.gets inside.replies inside.gone c.args.at block there c.take-block.ensures.taken c.self.invariant)

pub returns-clause-taken : goal.returns-clause-taken
returns-clause-taken c d = c.take-block.ensures.taken d ∙ ap (λ (s : Seen). (get_or s.seats c.args.at d).0) c.self.view_is

pub returns-clause-left : goal.returns-clause-left
returns-clause-left c =
    let block = c.take-block.result in
    c.wake.ensures ∙ ap (map (woken parent_of_block block.header.id)) c.take-block.ensures.rest
    ∙ ap (λ (s : Seen). map (woken parent_of_block block.header.id) (remove s.seats c.args.at)) c.self.view_is

pub returns-clause-held : goal.returns-clause-held
returns-clause-held c =
    ap items_of c.wake-2.ensures ∙ items_woken (λ (h : Held). h.id) c.take-block.result.header.id c.self.inside.replies ∙ ap (λ (s : Seen). s.held) c.self.view_is
