use Rattle.std.proofs.Common.{◌≡◌, IfSome, sym, ap, subst, ◌∙◌}
use Rattle.std.specs.Option.{option_copied_mut}
use Rattle.snow_tree.specs.Kept.Held.{with_load}
use Rattle.snow_topo.specs.Kept.Renewed.{renewed}
use Rattle.snow_topo.proofs.Taken.{entry_read}
use Rattle.snow_topo.proofs.renewing.renew_at.Goals as goal

pub returns-in-Some : goal.returns-in-Some
returns-in-Some g c =
    let tree = c.args.tree.now in
    let at = c.args.at in
    let read = entry_read _ c.in-Some.load.now (sym c.load_mut.ensures.value ∙ ap option_copied_mut c.in-Some.is) in
    subst (λ o. IfSome o (λ e. with_load tree at c.renew.new.self ≡ with_load tree at (renewed c.args.polls e.load))) (sym read.1)
    (ap (with_load tree at) (c.renew.ensures ∙ ap (renewed c.args.polls) (sym read.2)))
