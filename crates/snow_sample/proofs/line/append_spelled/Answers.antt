-- A word more is appended.
use Rattle.std.proofs.Common.{◌++◌, ◌∷◌, [], List, ℕ, take, map, sym, ap, ◌∙◌, arith, append_assoc}
use Rattle.std.proofs.lemmas.List.{append-nil, map_more, take_all}
use Rattle.byteorder.specs.Endian.{big_number}
use Rattle.snow_sample.proofs.line.append_spelled.Goals as goal

pub loop-word-init : goal.loop-word-init
loop-word-init c = (
  c.in_ok-reserve.ensures.items ∙ sym (append-nil c.args.room.now.items),
  omega (arith, c.in_ok-reserve.ensures.ok, c.in_ok-reserve.ensures.len),
)

pub push_reserved-requires : goal.push_reserved-requires
push_reserved-requires c = omega (arith, c.loop-word.invariant.1, c.loop-word-test.true)

pub loop-word-preserved : goal.loop-word-preserved
loop-word-preserved c =
    let before : List ℕ = map (big_number 8) (take c.loop-word.word-index c.args.words.now) in (
      c.push_reserved.ensures.items ∙ ap (λ (l : List ℕ). l ++ c.read_u64.result ∷ []) c.loop-word.invariant.0
          ∙ append_assoc c.args.room.now.items before (c.read_u64.result ∷ [])
          ∙ ap (λ (l : List ℕ). c.args.room.now.items ++ l)
          (ap (λ (x : ℕ). before ++ x ∷ []) c.read_u64.ensures ∙ sym (map_more (big_number 8) c.args.words.now c.loop-word.word-index _ c.loop-word-test.true)),
      omega (arith, c.push_reserved.ensures.len, c.push_reserved.ensures.capacity, c.loop-word.invariant.1, c.loop-word-test.true),
    )

pub returns-clause-ok : goal.returns-clause-ok
returns-clause-ok c =
    c.loop-word.invariant.0
    ∙ ap (λ (l : List (List ℕ)). c.args.room.now.items ++ map (big_number 8) l) (take_all c.loop-word.word-index c.args.words.now (omega (arith, c.loop-word-test.false)))
