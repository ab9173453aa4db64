-- The path of the highest kept target has a block at each height.
use Rattle.std.proofs.Common.{◌+◌, ◌-◌, [], append-nil, refl, sym, ap, subst, ◌∙◌}
use Rattle.std.specs.Prelude.{Ok, Err}
use Rattle.snow_boot.specs.Clauses.Accepting.{Concludes}
use Rattle.snow_boot.specs.Model.Booting.{Outcome, ended}
use Rattle.snow_chain.specs.Kept.Alone.{last_state}
use Rattle.snow_boot.specs.Model.Executing.{executed}
use Rattle.snow_store.specs.Kept.Indexing.{Shelf}
use Rattle.snow_store.specs.Laws.Linking.{IsLinked, upward}
use Rattle.snow_boot.proofs.Concluded.{concludes_at, concludes_not, path_of_top, path_of_none}
use Rattle.snow_boot.proofs.executing.finish.Goals as goal

pub returns-in_default : goal.returns-in_default
returns-in_default g c =
    let f = c.args.fetching.now.fetch in
    let held = g.C.Chain.held c.args.chain.now in
    let st = last_state held in
    let whose = c.store-store.result.now.store in
    subst (λ (o : Outcome). Concludes c.end_at.result c.args.log.now c.end_at.new.log held o)
    (ap (λ (v : Shelf). ended v.store.height ([], Ok (v.store.last, st))) c.store-store.ensures ∙ sym (path_of_none f g.C.Chain.rules st c.in_default.ensures))
    (concludes_at whose.height ([], Ok (whose.last, st)) whose.last c.end_at.result c.args.log.now c.args.log.now c.end_at.new.log held
    (sym (append-nil c.args.log.now), refl, c.requires.last ∙ ap (λ (v : Shelf). v.store.last) (sym c.store-store.ensures), c.requires.alone)
    (rw (c.last.ensures, c.height.ensures) at c.end_at.ensures))

pub returns-in-Ok : goal.returns-in-Ok
returns-in-Ok g c =
    let f = c.args.fetching.now.fetch in
    let st = last_state (g.C.Chain.held c.args.chain.now) in
    let now = g.C.Chain.held c.execute.new.chain in
    let top = c.in-Some.top in
    let whose = c.store-store.result.now.store in
    let linked : IsLinked f.store = subst (λ (v : Shelf). IsLinked v.store) c.store-store.ensures c.links.ensures in
    subst (λ (o : Outcome). Concludes c.end_at-in-Ok.result c.args.log.now c.end_at-in-Ok.new.log now o)
    (ap (λ (v : Shelf). ended top (executed g.C.Chain.rules v.store.last st (upward v.store.kept (v.store.height + 1) (top - v.store.height)))) c.store-store.ensures
    ∙ sym (path_of_top f top g.C.Chain.rules st linked c.requires.whole c.in-Some.ensures))
    (concludes_at top (executed g.C.Chain.rules whose.last st (upward whose.kept (whose.height + 1) (top - whose.height))) c.in-Ok.last c.end_at-in-Ok.result c.args.log.now c.execute.new.log
    c.end_at-in-Ok.new.log now c.in-Ok.ensures c.end_at-in-Ok.ensures)

pub returns-in-Err : goal.returns-in-Err
returns-in-Err g c =
    let f = c.args.fetching.now.fetch in
    let st = last_state (g.C.Chain.held c.args.chain.now) in
    let now = g.C.Chain.held c.execute.new.chain in
    let top = c.in-Some.top in
    let whose = c.store-store.result.now.store in
    let linked : IsLinked f.store = subst (λ (v : Shelf). IsLinked v.store) c.store-store.ensures c.links.ensures in
    subst (λ (o : Outcome). Concludes (Err c.in-Err.stop) c.args.log.now c.execute.new.log now o)
    (ap (λ (v : Shelf). ended top (executed g.C.Chain.rules v.store.last st (upward v.store.kept (v.store.height + 1) (top - v.store.height)))) c.store-store.ensures
    ∙ sym (path_of_top f top g.C.Chain.rules st linked c.requires.whole c.in-Some.ensures))
    (concludes_not top (executed g.C.Chain.rules whose.last st (upward whose.kept (whose.height + 1) (top - whose.height))) c.in-Err.stop c.args.log.now c.execute.new.log now c.in-Err.ensures)
