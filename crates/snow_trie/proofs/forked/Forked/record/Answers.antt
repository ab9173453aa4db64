use Rattle.std.proofs.Common.{◌∷◌, ◌+◌, ◌≤◌, All, Contains, refl, sym, ap, subst, ◌∙◌, arith}
use Rattle.snow_base.specs.declared.block.Vote.{Vote}
use Rattle.snow_base.specs.Model.Votes.{total_count}
use Rattle.snow_trie.specs.Kept.Tree.{tree_of}
use Rattle.snow_trie.specs.Kept.Whole.{Compressed}
use Rattle.snow_trie.proofs.Chosen.{still_chosen}
use Rattle.snow_trie.proofs.Wholes.{all_lead, few_whole, polled_counters, whole_polled, fewer_nodes, same_size, few_nodes}
use Rattle.snow_trie.proofs.Narrowed.{fewer_votes}
use Rattle.snow_trie.proofs.forked.Forked.record.Goals as goal

pub poll-moved-requires-clause-known : goal.poll-moved-requires-clause-known
poll-moved-requires-clause-known g c =
    let inside = c.self.inside in
    let narrow = c.narrowed-votes.ensures.narrowed (omega (arith, c.total-count.ensures.count, c.if-count-alpha_preference.false, c.alpha_preference.ensures.value)) in
    let given = subst (λ (t : Compressed). All (λ (v : Vote). Contains t.ids v.id) c.args.votes.now) (sym c.self.view_is) c.requires.given in
    rw (c.ready-before.ensures.tree.outline inside.decided)
    (all_lead (inside.first ∷ inside.more.items) inside.polls inside.decided inside.leader (tree_of inside.root) c.args.votes.now c.narrowed-votes.result.now c.self.invariant given narrow)

pub poll-moved-requires-clause-most : goal.poll-moved-requires-clause-most
poll-moved-requires-clause-most g c =
    let inside = c.self.inside in
    let narrow = c.narrowed-votes.ensures.narrowed (omega (arith, c.total-count.ensures.count, c.if-count-alpha_preference.false, c.alpha_preference.ensures.value)) in
    let most = subst (λ (t : Compressed). total_count c.args.votes.now ≤ t.parameters.k) (sym c.self.view_is) c.requires.most in
    omega (arith, most, c.total-count.ensures.count, fewer_votes inside.leader inside.decided c.args.votes.now c.narrowed-votes.result.now narrow)

pub invariant_of-self : goal.invariant_of-self
invariant_of-self g c =
    let inside = c.self.inside in
    let narrow = c.narrowed-votes.ensures.narrowed (omega (arith, c.total-count.ensures.count, c.if-count-alpha_preference.false, c.alpha_preference.ensures.value)) in
    let most = subst (λ (t : Compressed). total_count c.args.votes.now ≤ t.parameters.k) (sym c.self.view_is) c.requires.most in
    rw (c.peel-from.ensures.leader, c.peel-from.ensures.from, c.peel-from.ensures.root)
    (whole_polled (inside.first ∷ inside.more.items) inside.params inside.polls c.ready-before.result inside.decided inside.leader c.args.votes.now c.narrowed-votes.result.now
    (tree_of inside.root) (tree_of c.ready-before.new.root) (tree_of c.poll-moved.new.root)
    (record { good = c.k-k.ensures.good; was = c.self.invariant; restamped = c.ready-before.ensures.tree; narrowed = narrow; polled = c.poll-moved.ensures.tree; most = most }))

pub returns-clause-counters : goal.returns-clause-counters
returns-clause-counters g c =
    let inside = c.self.inside in
    let narrow = c.narrowed-votes.ensures.narrowed (omega (arith, c.total-count.ensures.count, c.if-count-alpha_preference.false, c.alpha_preference.ensures.value)) in
    let most = subst (λ (t : Compressed). total_count c.args.votes.now ≤ t.parameters.k) (sym c.self.view_is) c.requires.most in
    rw (← c.self.view_is, c.peel-from.ensures.leader, c.peel-from.ensures.from, c.peel-from.ensures.root)
    (polled_counters (inside.first ∷ inside.more.items) inside.params inside.polls c.ready-before.result inside.decided inside.leader c.args.votes.now c.narrowed-votes.result.now
    (tree_of inside.root) (tree_of c.ready-before.new.root) (tree_of c.poll-moved.new.root)
    (record { good = c.k-k.ensures.good; was = c.self.invariant; restamped = c.ready-before.ensures.tree; narrowed = narrow; polled = c.poll-moved.ensures.tree; most = most }))

pub returns-clause-nodes : goal.returns-clause-nodes
returns-clause-nodes g c =
    let inside = c.self.inside in
    let narrow = c.narrowed-votes.ensures.narrowed (omega (arith, c.total-count.ensures.count, c.if-count-alpha_preference.false, c.alpha_preference.ensures.value)) in
    let most = subst (λ (t : Compressed). total_count c.args.votes.now ≤ t.parameters.k) (sym c.self.view_is) c.requires.most in
    rw (← c.self.view_is, c.peel-from.ensures.root)
    (fewer_nodes (inside.first ∷ inside.more.items) inside.params inside.polls c.ready-before.result inside.decided inside.leader c.args.votes.now c.narrowed-votes.result.now
    (tree_of inside.root) (tree_of c.ready-before.new.root) (tree_of c.poll-moved.new.root)
    (record { good = c.k-k.ensures.good; was = c.self.invariant; restamped = c.ready-before.ensures.tree; narrowed = narrow; polled = c.poll-moved.ensures.tree; most = most }))

pub returns-clause-few : goal.returns-clause-few
returns-clause-few g c =
    let inside = c.self.inside in
    let narrow = c.narrowed-votes.ensures.narrowed (omega (arith, c.total-count.ensures.count, c.if-count-alpha_preference.false, c.alpha_preference.ensures.value)) in
    let most = subst (λ (t : Compressed). total_count c.args.votes.now ≤ t.parameters.k) (sym c.self.view_is) c.requires.most in
    rw (c.peel-from.ensures.root)
    (few_nodes (inside.first ∷ inside.more.items) (c.ready-before.result + 1) _ _ _ _
    (whole_polled (inside.first ∷ inside.more.items) inside.params inside.polls c.ready-before.result inside.decided inside.leader c.args.votes.now c.narrowed-votes.result.now
    (tree_of inside.root) (tree_of c.ready-before.new.root) (tree_of c.poll-moved.new.root)
    (record { good = c.k-k.ensures.good; was = c.self.invariant; restamped = c.ready-before.ensures.tree; narrowed = narrow; polled = c.poll-moved.ensures.tree; most = most })) refl refl)

pub returns-clause-most : goal.returns-clause-most
returns-clause-most g c =
    let inside = c.self.inside in
    let same = same_size inside.decided (tree_of inside.root) (tree_of c.ready-before.new.root) (c.ready-before.ensures.tree.outline inside.decided) in
    rw (← c.self.view_is) (omega (arith, c.poll-moved.ensures.most, same))

pub returns-clause-steady : goal.returns-clause-steady
returns-clause-steady g c =
    λ s.
    let inside = c.self.inside in
    let narrow = c.narrowed-votes.ensures.narrowed (omega (arith, c.total-count.ensures.count, c.if-count-alpha_preference.false, c.alpha_preference.ensures.value)) in
    let stays = c.has_moved-is_elsewhere.ensures s in
    let most = subst (λ (t : Compressed). total_count c.args.votes.now ≤ t.parameters.k) (sym c.self.view_is) c.requires.most in
    rw (← c.self.view_is, c.peel-from.ensures.leader, c.peel-from.ensures.from, c.peel-from.ensures.root)
    (still_chosen g.R.Rule.answer (inside.first ∷ inside.more.items) inside.params inside.polls c.ready-before.result inside.decided inside.leader c.args.votes.now c.narrowed-votes.result.now
    (tree_of inside.root) (tree_of c.ready-before.new.root) (tree_of c.poll-moved.new.root) g.met.R.Rule.agrees
    (record { good = c.k-k.ensures.good; was = c.self.invariant; restamped = c.ready-before.ensures.tree; narrowed = narrow; polled = c.poll-moved.ensures.tree; most = most })
    (c.ready-before.ensures.kept stays.1) (c.poll-moved.ensures.steady stays.0))

pub returns-then-count-alpha_preference-clause-counters : goal.returns-then-count-alpha_preference-clause-counters
returns-then-count-alpha_preference-clause-counters g c =
    let inside = c.self.inside in
    let few =
    few_whole inside.params inside.polls inside.decided inside.leader (tree_of inside.root) c.args.votes.now (total_count c.narrowed-votes.result.now) c.alpha_preference.ensures.good
    (omega (arith, c.total-count.ensures.count, c.if-count-alpha_preference.true, c.alpha_preference.ensures.value)) c.narrowed-votes.ensures.few
    in
    ap (λ (t : Compressed). t.counters) c.fail.ensures.trie ∙ rw (← c.self.view_is) (sym few)
