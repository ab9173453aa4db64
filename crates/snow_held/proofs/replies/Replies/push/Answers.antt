-- The new reply has the next number; after want of memory none has it.
use Rattle.std.proofs.Common.{◌≡◌, ℕ, ◌+◌, None, Some, not, ◌&&◌, cond, List, [], ◌∷◌, ◌++◌, sym, ap, ◌∙◌, subst}
use Rattle.std.specs.BTreeMap.{is_at}
use Rattle.std.specs.Ordering.{nat_cmp}
use Rattle.snow_held.specs.declared.keys.NodeKey.{NodeKey}
use Rattle.snow_held.specs.declared.held.Held.{Held}
use Rattle.snow_held.specs.Kept.Keys.{key_of, key_cmp}
use Rattle.snow_lineup.specs.declared.marks.Mark.{Mark}
use Rattle.snow_held.specs.Model.Replies.{replies_of, holds_in, mark_by}
use Rattle.snow_held.specs.Kept.Arrivals.{Entries, IsFiled, kept_at, filed, names}
use Rattle.snow_held.proofs.Numbered.{is_of, none_from, new_without, none_noted, filed_same, filed_names, filed_stale, filed_pushed}
use Rattle.snow_held.proofs.Seated.{seats_pushed}
use Rattle.snow_held.proofs.replies.Replies.push.Goals as goal
use Rattle.snow_held.proofs.replies.Replies.push.Goals.{In_ok-is_new, After-keep_reply}

new : (c : After-keep_reply) → kept_at c.self.inside.backlog (filed c.self.inside.polls c.args.reply.number (key_of c.args.reply.node)) ≡ None
new c = none_from (kept_at c.self.inside.backlog (filed c.self.inside.polls c.args.reply.number (key_of c.args.reply.node))) (sym c.if-not-is_new.false ∙ c.in_ok-is_new.ensures.is_new)

filed_so : (c : After-keep_reply) (n : ℕ) (node : NodeKey) → filed c.file.new.polls n node ≡ cond (is_of c.args.reply n node) (Some c.self.inside.next) (filed c.self.inside.polls n node)
filed_so c n node =
    c.in_ok-is_new.ensures.ok n node
    ∙ ap (λ b. cond (is_at (nat_cmp c.args.reply.number) n && (b && is_at (key_cmp (key_of c.args.reply.node)) node)) (Some c.self.inside.next) (filed c.self.inside.polls n node)) c.if-not-is_new.false

is_new : (c : In_ok-is_new) → c.in_ok-is_new.is_new ≡ not (holds_in (replies_of c.args.self.now) c.args.reply.number c.args.reply.node)
is_new c =
    let inside = c.self.inside in
    let reply = c.args.reply in
    c.in_ok-is_new.ensures.is_new
    ∙ new_without inside.backlog (filed inside.polls) (names inside.blocks) inside.next reply.number reply.node c.self.invariant
    ∙ ap (λ (l : List (Held × Mark)). not (holds_in (replies_of l) reply.number reply.node)) c.self.view_is

pub invariant_of-self : goal.invariant_of-self
invariant_of-self c =
    let inside = c.self.inside in
    filed_same inside.backlog (filed inside.polls) (filed c.file.new.polls) (names inside.blocks) inside.next c.self.invariant c.in_err-is_new.ensures.err

pub invariant_of-self-then-not-is_new : goal.invariant_of-self-then-not-is_new
invariant_of-self-then-not-is_new c =
    let inside = c.self.inside in
    let reply = c.args.reply in
    filed_same inside.backlog (filed inside.polls) (filed c.file.new.polls) (names inside.blocks) inside.next c.self.invariant
    (λ n node. c.in_ok-is_new.ensures.ok n node
    ∙ ap (λ b. cond (is_at (nat_cmp reply.number) n && (b && is_at (key_cmp (key_of reply.node)) node)) (Some inside.next) (filed inside.polls n node)) c.if-not-is_new.true
    ∙ none_noted (is_at (nat_cmp reply.number) n) (Some inside.next) (filed inside.polls n node))

pub invariant_of-self-in_err-keep_reply : goal.invariant_of-self-in_err-keep_reply
invariant_of-self-in_err-keep_reply c =
    let inside = c.self.inside in
    let after = (goal.at.invariant_of-self-in_err-keep_reply c).After-keep_reply in
    subst (λ (es : Entries). IsFiled es (filed c.file.new.polls) (names c.keep_reply.new.blocks) (inside.next + 1)) (sym c.in_err-keep_reply.ensures.err)
    (filed_names inside.backlog (filed c.file.new.polls) (names inside.blocks) (names c.keep_reply.new.blocks) (inside.next + 1)
    (filed_stale inside.backlog (filed inside.polls) (filed c.file.new.polls) (names inside.blocks) inside.next c.args.reply c.self.invariant (new after) (filed_so after))
    c.in_err-keep_reply.ensures.others)

pub invariant_of-self-2 : goal.invariant_of-self-2
invariant_of-self-2 c =
    let inside = c.self.inside in
    let after = (goal.at.invariant_of-self-2 c).After-keep_reply in
    filed_pushed inside.backlog c.keep_reply.new.backlog (filed inside.polls) (filed c.file.new.polls) (names inside.blocks) (names c.keep_reply.new.blocks) inside.next (record { reply = c.args.reply; quiet = c.args.quiet })
    c.self.invariant (new after) c.in_ok-keep_reply.ensures.sorted c.in_ok-keep_reply.ensures.there (filed_so after) c.in_ok-keep_reply.ensures.named c.in_ok-keep_reply.ensures.others

pub returns-clause-ok : goal.returns-clause-ok
returns-clause-ok c =
    seats_pushed c.self.inside.backlog c.keep_reply.new.backlog c.self.inside.next (record { reply = c.args.reply; quiet = c.args.quiet }) c.in_ok-keep_reply.ensures.ok
    ∙ ap (λ (l : List (Held × Mark)). l ++ (c.args.reply, mark_by c.args.quiet) ∷ []) c.self.view_is

pub returns-then-not-is_new-clause-is_new : goal.returns-then-not-is_new-clause-is_new
returns-then-not-is_new-clause-is_new c = sym c.if-not-is_new.true ∙ is_new (goal.at.returns-then-not-is_new-clause-is_new c).In_ok-is_new

pub returns-clause-is_new : goal.returns-clause-is_new
returns-clause-is_new c = sym c.if-not-is_new.false ∙ is_new (goal.at.returns-clause-is_new c).In_ok-is_new
