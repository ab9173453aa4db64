use Rattle.std.proofs.Common.{◌+◌, take, drop, if◌then◌else◌, arith}
use Rattle.std.proofs.lemmas.List.Elements.{All-take, All-drop}
use Rattle.snow_trie.specs.Kept.Tree.{tree_of}
use Rattle.snow_trie.specs.Kept.Outline.{Split, outline, Leads}
use Rattle.snow_trie.specs.Kept.Peeling.{preferred}
use Rattle.snow_trie.proofs.Visited.{at_end, agree_on, down_zero, down_one, polled_line, polled_last, polled_two, unvisited, both_sides, few_ones, few_zeros}
use Rattle.snow_trie.proofs.polling.+visit.Goals as goal

pub visit-requires : goal.visit-requires
visit-requires g t c κs within =
    let falls = c.decreases in
    let to = c.poll.ensures.to in
    let placed = rw c.in-Along.is at c.requires.placed in
    let stamped = rw c.in-Along.is at c.requires.stamped in
    let known = rw c.in-Along.is at c.requires.known in
    let here = c.deref_mut.ensures.value in
    let below = tree_of c.in-Along.below.value in (
      omega (arith, placed.0, to),
      (
        within.0,
        (
          within.1,
          (
            rw (here, to) placed.2,
            (
              rw here stamped.1,
              (
                rw (here, to) (λ k d h. (known k d h).1),
                (
                  c.requires.order,
                  (
                    rw to (agree_on c.args.from c.in-Along.run'.to c.in-Along.run'.id c.args.votes.now c.requires.agree (λ k d h. (known k d h).0)),
                    (c.requires.count, (c.requires.most, c.requires.room)),
                  ),
                ),
              ),
            ),
          ),
        ),
      ),
    )

pub behind-one-requires : goal.behind-one-requires
behind-one-requires g t c =
    both_sides c.args.votes.now c.split_at.result.0.now c.split_at.result.1.now c.split-at.result c.args.count c.total-zero.result
    c.split_at.ensures.front c.split_at.ensures.back c.total-zero.ensures.count c.requires.count

pub visit-requires-then-alpha_preference-zero : goal.visit-requires-then-alpha_preference-zero
visit-requires-then-alpha_preference-zero g t c κs within =
    let falls = c.decreases in
    let placed = rw c.in-Apart.is at c.requires.placed in
    let stamped = rw c.in-Apart.is at c.requires.stamped in
    let known = rw c.in-Apart.is at c.requires.known in
    let zeros = outline (c.args.from + 1) (tree_of c.in-Apart.zeros.value) in
    let ones = outline (c.args.from + 1) (tree_of c.in-Apart.ones.value) in
    let here = c.deref_mut-then-alpha_preference-zero.ensures.value in (
      omega (arith, placed.0),
      (
        within.0,
        (
          within.1,
          (
            rw here placed.1,
            (
              rw here stamped.1,
              (
                rw (here, c.split_at.ensures.front) (down_zero c.args.from zeros ones (take c.split-at.result c.args.votes.now)
                    (All-take (λ v. Leads (Split c.args.from zeros ones) v.id) c.split-at.result c.args.votes.now known) c.split-at.ensures.zeros),
                (
                  rw c.split_at.ensures.front c.split-at.ensures.zeros_order,
                  (rw c.split_at.ensures.front c.split-at.ensures.zeros_agree, (c.total-zero.ensures.count, (c.total-zero.ensures.few, c.requires.room))),
                ),
              ),
            ),
          ),
        ),
      ),
    )

pub visit-requires-then-alpha_preference-one : goal.visit-requires-then-alpha_preference-one
visit-requires-then-alpha_preference-one g t c κs within =
    let falls = c.decreases in
    let placed = rw c.in-Apart.is at c.requires.placed in
    let stamped = rw c.in-Apart.is at c.requires.stamped in
    let known = rw c.in-Apart.is at c.requires.known in
    let zeros = outline (c.args.from + 1) (tree_of c.in-Apart.zeros.value) in
    let ones = outline (c.args.from + 1) (tree_of c.in-Apart.ones.value) in
    let here = c.deref_mut-then-alpha_preference-one.ensures.value in (
      omega (arith, placed.0),
      (
        within.0,
        (
          within.1,
          (
            rw here placed.2,
            (
              rw here stamped.2,
              (
                rw (here, c.split_at.ensures.back) (down_one c.args.from zeros ones (drop c.split-at.result c.args.votes.now)
                    (All-drop (λ v. Leads (Split c.args.from zeros ones) v.id) c.split-at.result c.args.votes.now known) c.split-at.ensures.ones),
                (
                  rw c.split_at.ensures.back c.split-at.ensures.ones_order,
                  (rw c.split_at.ensures.back c.split-at.ensures.ones_agree, (c.behind-one.ensures.count, (omega (arith, c.behind-one.ensures.few, c.requires.most), c.requires.room))),
                ),
              ),
            ),
          ),
        ),
      ),
    )

pub returns-in-End-clause-tree : goal.returns-in-End-clause-tree
returns-in-End-clause-tree g t c =
    let placed = rw c.in-End.is at c.requires.placed in
    rw c.in-End.is (at_end _ _ _ _ _ placed)

pub returns-in-Along-clause-tree : goal.returns-in-Along-clause-tree
returns-in-Along-clause-tree g t c =
    let placed = rw c.in-Along.is at c.requires.placed in
    let known = rw c.in-Along.is at c.requires.known in
    rw c.in-Along.is (polled_line c.args.params.now c.args.votes.now c.args.count c.args.before c.args.from (c.poll.new.self).to c.in-Along.run' c.poll.new.self
    (tree_of c.in-Along.below.value) (tree_of c.visit.new.node) placed.0 placed.1 (λ k d h. (known k d h).0) c.requires.count
    c.poll.ensures.counter c.poll.ensures.id c.poll.ensures.to c.poll.ensures.seen c.poll.ensures.to (rw c.deref_mut.ensures.value at c.visit.ensures.tree))

pub returns-in-Last-clause-tree : goal.returns-in-Last-clause-tree
returns-in-Last-clause-tree g t c =
    let placed = rw c.in-Last.is at c.requires.placed in
    let known = rw c.in-Last.is at c.requires.known in
    rw c.in-Last.is (polled_last c.args.params.now c.args.votes.now c.args.count c.args.before c.args.from c.in-Last.run' c.poll-in-Last.new.self
    placed.0 placed.2 (λ k d h. (known k d h).0) c.requires.count
    c.poll-in-Last.ensures.counter c.poll-in-Last.ensures.id c.poll-in-Last.ensures.to c.poll-in-Last.ensures.seen)

pub returns-then-alpha_preference-zero-clause-tree : goal.returns-then-alpha_preference-zero-clause-tree
returns-then-alpha_preference-zero-clause-tree g t c =
    let placed = rw c.in-Apart.is at c.requires.placed in
    let stamped = rw c.in-Apart.is at c.requires.stamped in
    let p = c.args.params.now in
    let few = few_ones p c.args.votes.now c.split_at.result.0.now c.split_at.result.1.now c.split-at.result c.total-zero.result c.alpha_preference.ensures.good
    c.split_at.ensures.front c.split_at.ensures.back c.total-zero.ensures.count (omega (arith, c.requires.count, c.requires.most)) (omega (arith, c.if-alpha_preference-zero.true, c.alpha_preference.ensures.value)) in
    rw c.in-Apart.is (polled_two p c.args.votes.now c.split_at.result.0.now c.split_at.result.1.now c.split-at.result c.args.before c.args.from
    c.total-zero.result c.behind-one.result c.in-Apart.fork c.poll-here.new.self
    (tree_of c.in-Apart.zeros.value) (tree_of c.visit-then-alpha_preference-zero.new.node) (tree_of c.in-Apart.ones.value) (tree_of c.in-Apart.ones.value)
    placed.0 c.split-at.ensures.zeros c.split-at.ensures.ones c.split_at.ensures.front c.split_at.ensures.back c.total-zero.ensures.count c.behind-one.ensures.count
    c.poll-here.ensures.counter c.poll-here.ensures.seen
    (rw c.deref_mut-then-alpha_preference-zero.ensures.value at c.visit-then-alpha_preference-zero.ensures.tree)
    (unvisited p c.split_at.result.1.now c.args.before (c.args.from + 1) (tree_of c.in-Apart.ones.value) c.alpha_preference.ensures.good placed.2 stamped.2 few))

pub returns-then-alpha_preference-one-clause-tree : goal.returns-then-alpha_preference-one-clause-tree
returns-then-alpha_preference-one-clause-tree g t c =
    let placed = rw c.in-Apart.is at c.requires.placed in
    let stamped = rw c.in-Apart.is at c.requires.stamped in
    let p = c.args.params.now in
    let few = few_zeros p c.args.votes.now c.split_at.result.0.now c.split_at.result.1.now c.split-at.result c.behind-one.result c.alpha_preference.ensures.good
    c.split_at.ensures.front c.split_at.ensures.back c.behind-one.ensures.count (omega (arith, c.requires.count, c.requires.most)) (omega (arith, c.if-alpha_preference-one.true, c.alpha_preference-else-alpha_preference-zero.ensures.value)) in
    rw c.in-Apart.is (polled_two p c.args.votes.now c.split_at.result.0.now c.split_at.result.1.now c.split-at.result c.args.before c.args.from
    c.total-zero.result c.behind-one.result c.in-Apart.fork c.poll-here.new.self
    (tree_of c.in-Apart.zeros.value) (tree_of c.in-Apart.zeros.value) (tree_of c.in-Apart.ones.value) (tree_of c.visit-then-alpha_preference-one.new.node)
    placed.0 c.split-at.ensures.zeros c.split-at.ensures.ones c.split_at.ensures.front c.split_at.ensures.back c.total-zero.ensures.count c.behind-one.ensures.count
    c.poll-here.ensures.counter c.poll-here.ensures.seen
    (unvisited p c.split_at.result.0.now c.args.before (c.args.from + 1) (tree_of c.in-Apart.zeros.value) c.alpha_preference.ensures.good placed.1 stamped.1 few)
    (rw c.deref_mut-then-alpha_preference-one.ensures.value at c.visit-then-alpha_preference-one.ensures.tree))

pub returns-else-alpha_preference-one-clause-tree : goal.returns-else-alpha_preference-one-clause-tree
returns-else-alpha_preference-one-clause-tree g t c =
    let placed = rw c.in-Apart.is at c.requires.placed in
    let stamped = rw c.in-Apart.is at c.requires.stamped in
    let p = c.args.params.now in
    let good = c.alpha_preference.ensures.good in
    rw c.in-Apart.is (polled_two p c.args.votes.now c.split_at.result.0.now c.split_at.result.1.now c.split-at.result c.args.before c.args.from
    c.total-zero.result c.behind-one.result c.in-Apart.fork c.poll-here.new.self
    (tree_of c.in-Apart.zeros.value) (tree_of c.in-Apart.zeros.value) (tree_of c.in-Apart.ones.value) (tree_of c.in-Apart.ones.value)
    placed.0 c.split-at.ensures.zeros c.split-at.ensures.ones c.split_at.ensures.front c.split_at.ensures.back c.total-zero.ensures.count c.behind-one.ensures.count
    c.poll-here.ensures.counter c.poll-here.ensures.seen
    (unvisited p c.split_at.result.0.now c.args.before (c.args.from + 1) (tree_of c.in-Apart.zeros.value) good placed.1 stamped.1
    (omega (arith, c.total-zero.ensures.count, c.if-alpha_preference-zero.false, c.alpha_preference.ensures.value)))
    (unvisited p c.split_at.result.1.now c.args.before (c.args.from + 1) (tree_of c.in-Apart.ones.value) good placed.2 stamped.2
    (omega (arith, c.behind-one.ensures.count, c.if-alpha_preference-one.false, c.alpha_preference-else-alpha_preference-zero.ensures.value))))

pub returns-in-Along-clause-steady : goal.returns-in-Along-clause-steady
returns-in-Along-clause-steady g t c = λ s. rw c.in-Along.is (rw c.deref_mut.ensures.value at (c.visit.ensures.steady s))

pub returns-then-alpha_preference-zero-clause-above : goal.returns-then-alpha_preference-zero-clause-above
returns-then-alpha_preference-zero-clause-above g t c = λ s. (c.either-moved.ensures (c.visit-then-alpha_preference-zero.ensures.above s)).0

pub returns-then-alpha_preference-one-clause-above : goal.returns-then-alpha_preference-one-clause-above
returns-then-alpha_preference-one-clause-above g t c = λ s. (c.either-moved.ensures (c.visit-then-alpha_preference-one.ensures.above s)).0

pub returns-else-alpha_preference-one-clause-above : goal.returns-else-alpha_preference-one-clause-above
returns-else-alpha_preference-one-clause-above g t c = λ s. (c.either-moved.ensures s).0

pub returns-then-alpha_preference-zero-clause-steady : goal.returns-then-alpha_preference-zero-clause-steady
returns-then-alpha_preference-zero-clause-steady g t c =
    λ s.
    let stays = c.either-moved.ensures (c.visit-then-alpha_preference-zero.ensures.above s) in
    let zeros = rw c.deref_mut-then-alpha_preference-zero.ensures.value at (c.visit-then-alpha_preference-zero.ensures.steady s) in
    rw c.in-Apart.is (λ i. if c.poll-here.ensures.steady stays.1 i then preferred g.R.Rule.answer (tree_of c.in-Apart.ones.value) else zeros i)

pub returns-then-alpha_preference-one-clause-steady : goal.returns-then-alpha_preference-one-clause-steady
returns-then-alpha_preference-one-clause-steady g t c =
    λ s.
    let stays = c.either-moved.ensures (c.visit-then-alpha_preference-one.ensures.above s) in
    let ones = rw c.deref_mut-then-alpha_preference-one.ensures.value at (c.visit-then-alpha_preference-one.ensures.steady s) in
    rw c.in-Apart.is (λ i. if c.poll-here.ensures.steady stays.1 i then ones i else preferred g.R.Rule.answer (tree_of c.in-Apart.zeros.value))

pub returns-else-alpha_preference-one-clause-steady : goal.returns-else-alpha_preference-one-clause-steady
returns-else-alpha_preference-one-clause-steady g t c =
    λ s.
    let stays = c.either-moved.ensures s in
    rw c.in-Apart.is (λ i. if c.poll-here.ensures.steady stays.1 i then preferred g.R.Rule.answer (tree_of c.in-Apart.ones.value) else preferred g.R.Rule.answer (tree_of c.in-Apart.zeros.value))
