use Rattle.std.proofs.Common.{◌≡◌, ◌+◌, ◌==◌, not, Bool, All, Contains, sym, ap, subst, ◌∙◌, if◌then◌else◌}
use Rattle.std.specs.Option.{option_map}
use Rattle.snow_board.specs.Model.Conflict.{all_polled, votes_on}
use Rattle.snow_board.specs.Laws.FailingLaw.{failed}
use Rattle.snow_trie.specs.Kept.Whole.{Compressed}
use Rattle.snow_topo.specs.Kept.Children.{Conflict, Kept, conflict_of, ids_in, IsFit}
use Rattle.snow_topo.proofs.Stamped.{same_number, differs, recorded_some, recorded_none}
use Rattle.snow_topo.proofs.load.Load.record.Goals as goal
use Rattle.snow_topo.proofs.load.Load.record.Goals.{in-Some, in-None, then-is_behind, else-is_behind}

pub record-requires-clause-given : goal.record-requires-clause-given
record-requires-clause-given g c =
    let kept = subst (λ (k : Kept). All (λ v. Contains (ids_in k.conflict) v.id) c.args.votes.now) (sym c.self.view_is) c.requires.given in
    let same : c.if-is_behind.trie.ids ≡ c.in-Some.trie.ids =
    elim c.if-is_behind.branch [
      | then-is_behind w ↦ ap (λ (t : Compressed). t.ids) w.trie-is ∙ ap (λ (t : Compressed). t.ids) w.fail.ensures.trie
      | else-is_behind w ↦ ap (λ (t : Compressed). t.ids) w.trie-is
    ]
    in
    rw same (subst (λ o. All (λ v. Contains (ids_in (option_map conflict_of o)) v.id) c.args.votes.now) c.in-Some.is kept)

pub returns-clause-counters : goal.returns-clause-counters
returns-clause-counters g c =
    λ p children fit.
    let votes = votes_on c.args.votes.now in
    let old : Kept = record { conflict = option_map conflict_of c.self.inside.trie; recorded = c.self.inside.recorded } in
    let new : Kept = record { conflict = option_map conflict_of c.match-self.self-inside.trie; recorded = c.match-self.self-inside.recorded } in
    let was : IsFit p c.args.polls children old = subst (IsFit p c.args.polls children) (sym c.self.view_is) fit in
    rw (← c.self.view_is)
    (elim c.match-self.branch [
      | in-Some w ↦
          let t = w.in-Some.trie in
          let after : Bool → Conflict = λ same. record (conflict_of t) { counters = if not same then failed t.parameters t.counters else t.counters } in
          let caught : conflict_of w.if-is_behind.trie ≡ after (old.recorded == c.args.polls) =
          elim w.if-is_behind.branch [
            | then-is_behind u ↦ ap conflict_of u.trie-is ∙ ap conflict_of u.fail.ensures.trie ∙ ap after (sym (differs old.recorded c.args.polls u.if-is_behind.true))
            | else-is_behind u ↦ ap conflict_of u.trie-is ∙ ap after (sym (same_number c.args.polls)) ∙ ap (λ n. after (n == c.args.polls)) (sym u.if-is_behind.false)
          ]
          in
          recorded_some p c.args.polls children old new (conflict_of t) (conflict_of w.record.new.self) votes was (ap (option_map conflict_of) w.in-Some.is)
          (ap (λ s. option_map conflict_of s.trie) w.self-inside-is) (ap (λ s. s.recorded) w.self-inside-is)
          (w.record.ensures.counters ∙ ap (λ (t : Conflict). all_polled t.parameters votes t.counters) caught)
      | in-None w ↦ recorded_none p c.args.polls (c.args.polls + 1) old new votes (ap (option_map conflict_of) w.in-None.is)
          (ap (λ s. option_map conflict_of s.trie) w.self-inside-is ∙ ap (option_map conflict_of) w.in-None.is)
    ])
