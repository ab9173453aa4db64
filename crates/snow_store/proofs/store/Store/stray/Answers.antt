-- The two lowest children tell the lowest one at a wrong height.
use Rattle.std.proofs.Common.{ap, ◌∙◌}
use Rattle.std.specs.Option.{option_and_then}
use Rattle.snow_store.specs.Kept.Indexing.{stray_height}
use Rattle.snow_store.specs.Model.Keeping.{held}
use Rattle.snow_store.proofs.Straying.{stray_found}
use Rattle.snow_store.proofs.store.Store.stray.Goals as goal

pub returns-in-Some : goal.returns-in-Some
returns-in-Some g c =
    let s = c.args.self.now.store in
    let b = c.args.header.now in
    c.at.ensures ∙ ap (option_and_then (held s.kept)) (c.in-Some.ensures ∙ ap (stray_height b.height) c.requires.children)
    ∙ stray_found s.kept b.id b.height c.links.ensures.apart

pub returns-in-None : goal.returns-in-None
returns-in-None g c =
    let s = c.args.self.now.store in
    let b = c.args.header.now in
    ap (option_and_then (held s.kept)) (c.in-None.ensures ∙ ap (stray_height b.height) c.requires.children)
    ∙ stray_found s.kept b.id b.height c.links.ensures.apart
