use Rattle.std.proofs.Common.{◌≡◌, Some, if◌then◌else◌, ◌+◌, ◌<◌, subst, sym, ap, ◌∙◌}
use Rattle.std.specs.Option.{option_map}
use Rattle.snow_base.specs.Model.Ancestry.{child_on}
use Rattle.snow_tree.specs.Kept.Nodes.{blocks_of}
use Rattle.snow_tree.proofs.Climbed.{height_of, climbed_at, climbed_none, climbed_some, step_at, lower_place, child_from, sought_at}
use Rattle.snow_tree.proofs.Noted.{parent_told}
use Rattle.snow_tree.proofs.looking.ancestor.Goals as goal

pub loop-place-init : goal.loop-place-init
loop-place-init g c =
    ap (λ o. child_from (blocks_of c.args.nodes.now.entries) c.args.last.now (sought_at (blocks_of c.args.nodes.now.entries) o)) c.place_of-place.ensures
    ∙ climbed_at c.args.last.now c.args.nodes.now.entries c.args.id.now

pub returns-in_err-block : goal.returns-in_err-block
returns-in_err-block g c =
    c.from_residual.ensures
    ∙ sym (ap (option_map (λ b. b.id)) (climbed_none c.args.last.now c.args.id.now c.args.nodes.now.entries c.loop-place.place c.in-Some.at c.loop-place.invariant c.in-Some.is
    (sym c.block_at.ensures ∙ c.in_err-block.was)))

pub returns-then-eq : goal.returns-then-eq
returns-then-eq g c =
    let b = c.in_ok-block.block in
    let nodes = c.args.nodes.now.entries in
    let there = sym c.block_at.ensures ∙ c.in_ok-block.was in
    let on : child_on (blocks_of nodes) c.args.last.now b.id ≡ Some b =
    step_at c.args.last.now nodes c.in-Some.at b c.requires.grown there ∙ ap (λ t. if t then Some b else child_on (blocks_of nodes) c.args.last.now b.parent) (sym c.eq.ensures ∙ c.if-eq.true)
    in
    ap (option_map (λ b. b.id)) (sym on ∙ climbed_some c.args.last.now c.args.id.now nodes c.loop-place.place c.in-Some.at b c.loop-place.invariant c.in-Some.is there)

pub loop-place-smaller : goal.loop-place-smaller
loop-place-smaller g c =
    let b = c.in_ok-block.block in
    let there = sym c.block_at.ensures ∙ c.in_ok-block.was in
    let nodes = c.args.nodes.now.entries in
    let low = lower_place c.args.last.now nodes c.in-Some.at b c.requires.grown there (sym c.eq.ensures ∙ c.if-eq.false) in
    let told = parent_told nodes c.in-Some.at b c.parent_of-place.result there c.parent_of-place.ensures in
    subst (λ o. height_of c.parent_of-place.result < height_of o) (sym c.in-Some.is) (subst (λ o. height_of o < c.in-Some.at + 1) (sym told) low)

pub loop-place-preserved : goal.loop-place-preserved
loop-place-preserved g c =
    let b = c.in_ok-block.block in
    let nodes = c.args.nodes.now.entries in
    let last = c.args.last.now in
    let there = sym c.block_at.ensures ∙ c.in_ok-block.was in
    ap (λ o. child_from (blocks_of nodes) last (sought_at (blocks_of nodes) o)) (parent_told nodes c.in-Some.at b c.parent_of-place.result there c.parent_of-place.ensures)
    ∙ climbed_at last nodes b.parent
    ∙ sym (step_at last nodes c.in-Some.at b c.requires.grown there ∙ ap (λ t. if t then Some b else child_on (blocks_of nodes) last b.parent) (sym c.eq.ensures ∙ c.if-eq.false))
    ∙ climbed_some last c.args.id.now nodes c.loop-place.place c.in-Some.at b c.loop-place.invariant c.in-Some.is there
