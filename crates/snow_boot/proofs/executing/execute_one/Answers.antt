-- A block is verified on the last accepted one, and accepted.
use Rattle.std.proofs.Common.{refl, sym, ◌∙◌}
use Rattle.snow_boot.proofs.Accepted.{has_state, has_none, may_accept_it, accepts_it}
use Rattle.snow_boot.proofs.Alone.{may_verify}
use Rattle.snow_boot.proofs.executing.execute_one.Goals as goal

pub verify-requires : goal.verify-requires
verify-requires g c =
    may_verify (g.C.Chain.held c.args.chain.now) c.args.below.now c.args.block.now.header.id c.requires.alone c.requires.last (sym c.eq.ensures ∙ c.if-eq.false)

pub returns-then-not-branch : goal.returns-then-not-branch
returns-then-not-branch g c = (
  has_none g.C.Chain.rules (g.C.Chain.held c.args.chain.now) c.args.below.now c.args.block.now c.in_ok-verify.field-0 c.requires.alone c.requires.last
      (rw c.list.ensures at c.in_ok-verify.ensures.valid) c.if-not-branch.true,
  refl,
  refl,
)

pub accept-requires : goal.accept-requires
accept-requires g c =
    let old = g.C.Chain.held c.args.chain.now in
    let b = c.args.block.now in
    may_accept_it g.C.Chain.rules old (g.C.Chain.held c.verify.new.self) c.args.below.now b c.requires.alone c.requires.last (sym c.eq.ensures ∙ c.if-eq.false)
    (has_state g.C.Chain.rules old (g.C.Chain.held c.verify.new.self) c.args.below.now b c.in_ok-verify.field-0 c.requires.alone c.requires.last
    (rw c.list.ensures at c.in_ok-verify.ensures.valid) (rw c.list.ensures at c.in_ok-verify.ensures.ok) c.if-not-branch.false)

pub returns : goal.returns
returns g c =
    let old = g.C.Chain.held c.args.chain.now in
    let b = c.args.block.now in
    accepts_it g.C.Chain.rules old (g.C.Chain.held c.verify.new.self) (g.C.Chain.held c.accept.new.self) c.args.below.now b c.args.log.now c.push.new.self
    c.requires.alone c.requires.last (sym c.eq.ensures ∙ c.if-eq.false)
    (has_state g.C.Chain.rules old (g.C.Chain.held c.verify.new.self) c.args.below.now b c.in_ok-verify.field-0 c.requires.alone c.requires.last
    (rw c.list.ensures at c.in_ok-verify.ensures.valid) (rw c.list.ensures at c.in_ok-verify.ensures.ok) c.if-not-branch.false)
    c.accept.ensures c.in_ok-push.ensures.ok
