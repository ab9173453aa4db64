-- One value more.
use Rattle.std.proofs.Common.{◌≡◌, ℕ, List, [], ◌∷◌, ◌++◌, map, sym, ap, ◌∙◌}
use Rattle.std.proofs.lemmas.List.{map-append}
use Rattle.byteorder.specs.Endian.{big_number}
use Rattle.snow_drill.specs.Model.Generator.{following, last_of, values}
use Rattle.snow_drill.proofs.Spelled.{last_more, values_more}
use Rattle.snow_drill.proofs.generator.Generator.values.Goals as goal

pub loop-preserved : goal.loop-preserved
loop-preserved c =
    let number : big_number 8 c.spelled.result ≡ following (last_of c.loop.counter c.args.self.now) =
    c.spelled.ensures ∙ c.next.ensures.value ∙ ap following c.loop.invariant.1 in
    let state : c.next.new.self ≡ following (last_of c.loop.counter c.args.self.now) = c.next.ensures.state ∙ ap following c.loop.invariant.1 in (
      ap (map (big_number 8)) c.in_ok-push.ensures.items
          ∙ map-append (big_number 8) c.loop.list.items (c.spelled.result ∷ [])
          ∙ ap (λ (front : List ℕ). front ++ big_number 8 c.spelled.result ∷ []) c.loop.invariant.0
          ∙ ap (λ (n : ℕ). values c.loop.counter c.args.self.now ++ n ∷ []) number
          ∙ sym (values_more c.loop.counter c.args.self.now),
      state ∙ sym (last_more c.loop.counter c.args.self.now),
    )
