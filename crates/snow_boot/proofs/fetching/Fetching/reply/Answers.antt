-- The blocks are taken, one after another, until one ends the reply.
use Rattle.std.proofs.Common.{◌≡◌, bytes_eq, true, false, [], ◌∷◌, sym, ap, ◌∙◌}
use Rattle.std.specs.Prelude.{Ok}
use Rattle.std.proofs.lemmas.Bool.{not-true, not-false}
use Rattle.snow_store.specs.declared.stop.Verdict.TheVariants as verdict
use Rattle.snow_store.specs.Model.Paths.{Fetch}
use Rattle.snow_boot.specs.Kept.Reply.{left}
use Rattle.snow_boot.specs.Model.Replying.{replied}
use Rattle.snow_boot.proofs.Replied.{nothing_came, ends_unparsed, ends_unwanted, stops_at, takes_on, still_comes}
use Rattle.snow_boot.proofs.fetching.Fetching.reply.Goals as goal

pub returns-in_default-clause-fetch : goal.returns-in_default-clause-fetch
returns-in_default-clause-fetch g c = (
  c.loop-bytes.invariant.0,
  still_comes g.C.Chain.rules.header_of c.args.self.now.fetch c.expect.new.self.fetch c.loop-bytes.self.fetch c.args.id c.loop-bytes.wanted (left c.args.blocks) (left c.loop-bytes.bytes-iterator) (c.in-Some.bytes.now ∷ left c.next.new.self) c.expect.ensures.fetch c.loop-bytes.invariant.1 c.in-Some.ensures.steps ∙ ends_unparsed g.C.Chain.rules.header_of c.loop-bytes.self.fetch c.loop-bytes.wanted c.in-Some.bytes.now (left c.next.new.self) (sym c.in_default.ensures),
)

pub returns-then-ne-clause-fetch : goal.returns-then-ne-clause-fetch
returns-then-ne-clause-fetch g c =
    let other : bytes_eq c.in-Some-parse.header.id c.loop-bytes.wanted ≡ false = not-true (bytes_eq c.in-Some-parse.header.id c.loop-bytes.wanted) (sym c.ne.ensures ∙ c.if-ne.true) in (
      c.loop-bytes.invariant.0,
      still_comes g.C.Chain.rules.header_of c.args.self.now.fetch c.expect.new.self.fetch c.loop-bytes.self.fetch c.args.id c.loop-bytes.wanted (left c.args.blocks) (left c.loop-bytes.bytes-iterator) (c.in-Some.bytes.now ∷ left c.next.new.self) c.expect.ensures.fetch c.loop-bytes.invariant.1 c.in-Some.ensures.steps ∙ ends_unwanted g.C.Chain.rules.header_of c.loop-bytes.self.fetch c.loop-bytes.wanted c.in-Some.bytes.now (left c.next.new.self) c.in-Some-parse.header (sym c.in-Some-parse.ensures) other,
    )

pub returns-in-Ok-Low-clause-fetch : goal.returns-in-Ok-Low-clause-fetch
returns-in-Ok-Low-clause-fetch g c =
    let same : bytes_eq c.in-Some-parse.header.id c.loop-bytes.wanted ≡ true = not-false (bytes_eq c.in-Some-parse.header.id c.loop-bytes.wanted) (sym c.ne.ensures ∙ c.if-ne.false) in (
      c.in-Ok-Low.ensures.fetch.0,
      still_comes g.C.Chain.rules.header_of c.args.self.now.fetch c.expect.new.self.fetch c.loop-bytes.self.fetch c.args.id c.loop-bytes.wanted (left c.args.blocks) (left c.loop-bytes.bytes-iterator) (c.in-Some.bytes.now ∷ left c.next.new.self) c.expect.ensures.fetch c.loop-bytes.invariant.1 c.in-Some.ensures.steps
          ∙ takes_on g.C.Chain.rules.header_of c.loop-bytes.self.fetch c.loop-bytes.wanted c.in-Some.bytes.now c.in-Some-parse.header (sym c.in-Some-parse.ensures) same verdict.Low (rw c.in-Ok-Low.field-0-is at c.in-Ok-Low.ensures.answer) (left c.next.new.self)
          ∙ ap (λ (f : Fetch). Ok f) (sym (rw c.in-Ok-Low.field-0-is at c.in-Ok-Low.ensures.fetch.1)),
    )

pub loop-bytes-preserved-in-Ok-Known : goal.loop-bytes-preserved-in-Ok-Known
loop-bytes-preserved-in-Ok-Known g c =
    let same : bytes_eq c.in-Some-parse.header.id c.loop-bytes.wanted ≡ true = not-false (bytes_eq c.in-Some-parse.header.id c.loop-bytes.wanted) (sym c.ne.ensures ∙ c.if-ne.false) in
    let step = takes_on g.C.Chain.rules.header_of c.loop-bytes.self.fetch c.loop-bytes.wanted c.in-Some.bytes.now c.in-Some-parse.header (sym c.in-Some-parse.ensures) same verdict.Known (rw c.in-Ok-Known.field-0-is at c.in-Ok-Known.ensures.answer) (left c.next.new.self)
    ∙ ap (λ (f : Fetch). replied g.C.Chain.rules.header_of f c.in-Some-parse.header.parent (left c.next.new.self)) (sym (rw c.in-Ok-Known.field-0-is at c.in-Ok-Known.ensures.fetch.1)) in (
      c.in-Ok-Known.ensures.fetch.0,
      sym step ∙ sym (ap (replied g.C.Chain.rules.header_of c.loop-bytes.self.fetch c.loop-bytes.wanted) c.in-Some.ensures.steps) ∙ c.loop-bytes.invariant.1,
      λ q is free. let d = c.in-Ok-Known.ensures.due q is free in c.loop-bytes.invariant.2 q d.0 d.1,
    )

pub loop-bytes-preserved : goal.loop-bytes-preserved
loop-bytes-preserved g c =
    let same : bytes_eq c.in-Some-parse.header.id c.loop-bytes.wanted ≡ true = not-false (bytes_eq c.in-Some-parse.header.id c.loop-bytes.wanted) (sym c.ne.ensures ∙ c.if-ne.false) in
    let step = takes_on g.C.Chain.rules.header_of c.loop-bytes.self.fetch c.loop-bytes.wanted c.in-Some.bytes.now c.in-Some-parse.header (sym c.in-Some-parse.ensures) same verdict.Keeps (rw c.in-Ok-Keeps.field-0-is at c.in-Ok-Keeps.ensures.answer) (left c.next.new.self)
    ∙ ap (λ (f : Fetch). replied g.C.Chain.rules.header_of f c.in-Some-parse.header.parent (left c.next.new.self)) (sym (rw c.in-Ok-Keeps.field-0-is at c.in-Ok-Keeps.ensures.fetch.1)) in (
      c.in-Ok-Keeps.ensures.fetch.0,
      sym step ∙ sym (ap (replied g.C.Chain.rules.header_of c.loop-bytes.self.fetch c.loop-bytes.wanted) c.in-Some.ensures.steps) ∙ c.loop-bytes.invariant.1,
      λ q is free. let d = c.in-Ok-Keeps.ensures.due q is free in c.loop-bytes.invariant.2 q d.0 d.1,
    )

pub returns-in-Err-clause-fetch : goal.returns-in-Err-clause-fetch
returns-in-Err-clause-fetch g c =
    let same : bytes_eq c.in-Some-parse.header.id c.loop-bytes.wanted ≡ true = not-false (bytes_eq c.in-Some-parse.header.id c.loop-bytes.wanted) (sym c.ne.ensures ∙ c.if-ne.false) in
    stops_at (Unit {0}) g.C.Chain.rules.header_of c.loop-bytes.self.fetch c.came.new.self c.loop-bytes.wanted c.in-Some.bytes.now (left c.next.new.self) c.in-Some-parse.header (sym c.in-Some-parse.ensures) same
    (replied g.C.Chain.rules.header_of c.args.self.now.fetch c.args.id (left c.args.blocks)) (still_comes g.C.Chain.rules.header_of c.args.self.now.fetch c.expect.new.self.fetch c.loop-bytes.self.fetch c.args.id c.loop-bytes.wanted (left c.args.blocks) (left c.loop-bytes.bytes-iterator) (c.in-Some.bytes.now ∷ left c.next.new.self) c.expect.ensures.fetch c.loop-bytes.invariant.1 c.in-Some.ensures.steps) c.in-Err.stop c.in-Err.ensures.answer

pub returns-clause-fetch : goal.returns-clause-fetch
returns-clause-fetch g c = (
  c.loop-bytes.invariant.0,
  still_comes g.C.Chain.rules.header_of c.args.self.now.fetch c.expect.new.self.fetch c.loop-bytes.self.fetch c.args.id c.loop-bytes.wanted (left c.args.blocks) (left c.loop-bytes.bytes-iterator) [] c.expect.ensures.fetch c.loop-bytes.invariant.1 c.in-None.ensures.steps.0 ∙ nothing_came g.C.Chain.rules.header_of c.loop-bytes.self.fetch c.loop-bytes.wanted,
)
