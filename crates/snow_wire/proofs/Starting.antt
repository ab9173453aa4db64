-- The fields of a Start: those that are read are those that its spelling has.
use Rattle.std.proofs.Common.{◌≡◌, ℕ, ◌^◌, ◌<◌, ◌≤◌, List, [], ◌∷◌, ◌++◌, length, All, Ok, refl, ap, ◌∙◌, append_assoc, append-nil, arith}
use Rattle.snow_wire.specs.declared.event.Event.{Event}
use Rattle.snow_wire.specs.declared.event.Event.TheVariants as event
use Rattle.snow_wire.specs.declared.event.Start.{Start}
use Rattle.snow_wire.specs.Model.Spelling.{number, spelling, start, parameters, counted, weighed, flag, IsWeighed, IsSizedStart, IsInRange}
use Rattle.snow_wire.specs.Model.Reading.{IsBytes, number_at, counted_at, weighed_at, start_at}
use Rattle.snow_wire.proofs.Numbers.{width4, width8}
use Rattle.snow_wire.proofs.Fields.{IsField, by_step, again_then, join, bytes_field, number_field, flag_field, counted_field, weighed_field}
use Rattle.snow_wire.proofs.Tagged.{IsTagged, HasFields, tagged}

-- the state's numbers
state_field : IsField (counted_at (number_at 8) 4096) (counted (number 8)) (λ ns. (length ns ≤ 4096) × All (λ n. n < 2 ^ 64) ns)
state_field = counted_field (number_field 8 width8) 4096 (omega arith)

-- the nodes with their weights
nodes_field : IsField (counted_at weighed_at 4096) (counted weighed) (λ ns. (length ns ≤ 4096) × All IsWeighed ns)
nodes_field = counted_field weighed_field 4096 (omega arith)

start_has : (s : Start) → IsInRange (event.Start s) → HasFields 1 (start s) (event.Start s)
unfolding spelling
start_has s range = record { spelled = refl; range = range }

start_taken : (bytes : List ℕ) (e : Event) (rest : List ℕ) → IsBytes bytes → start_at bytes ≡ Ok (e, rest) → (1 ∷ bytes ≡ spelling e ++ rest) × IsInRange e
unfolding start_at
start_taken bytes e rest fits r0 =
    let four = number_field 4 width4 in
    let y : Event × List ℕ = (e, rest) in
    by_step four bytes _ y fits r0 (λ k b1 p1 g1 f1 r1.
    by_step four b1 _ y f1 r1 (λ alpha_preference b2 p2 g2 f2 r2.
    by_step four b2 _ y f2 r2 (λ alpha_confidence b3 p3 g3 f3 r3.
    by_step four b3 _ y f3 r3 (λ beta b4 p4 g4 f4 r4.
    by_step four b4 _ y f4 r4 (λ repolls b5 p5 g5 f5 r5.
    by_step flag_field b5 _ y f5 r5 (λ boot b6 p6 g6 f6 r6.
    by_step (bytes_field 32) b6 _ y f6 r6 (λ last b7 p7 g7 f7 r7.
    by_step (number_field 8 width8) b7 _ y f7 r7 (λ height b8 p8 g8 f8 r8.
    by_step state_field b8 _ y f8 r8 (λ state b9 p9 g9 f9 r9.
    by_step nodes_field b9 _ y f9 r9 (λ nodes b10 p10 g10 f10 r10.
    let s : Start = record { k = k; alpha_preference = alpha_preference; alpha_confidence = alpha_confidence; beta = beta; repolls = repolls; boot = boot; last = last; height = height; state = state; nodes = nodes } in
    let ranges : IsSizedStart s = record { k = g1; alpha_preference = g2; alpha_confidence = g3; beta = g4; repolls = g5; last = g7; height = g8; state = g9.1; nodes = g10.1 } in
    let has : HasFields 1 (start s) (event.Start s) = start_has s (ranges, (g9.0, g10.0)) in
    let j2 = join bytes (number 4 k) b1 (number 4 alpha_preference) b2 p1 p2 in
    let j3 = join bytes (number 4 k ++ number 4 alpha_preference) b2 (number 4 alpha_confidence) b3 j2 p3 in
    let j4 = join bytes (number 4 k ++ number 4 alpha_preference ++ number 4 alpha_confidence) b3 (number 4 beta) b4 j3 p4 in
    let j5 = join bytes (number 4 k ++ number 4 alpha_preference ++ number 4 alpha_confidence ++ number 4 beta) b4 (number 4 repolls) b5 j4 p5 in
    let j67 = join b5 (flag boot ∷ []) b6 last b7 p6 p7 in
    let j7 = join bytes (parameters s) b5 (flag boot ∷ last) b7 j5 j67 in
    let j8 = join bytes (parameters s ++ flag boot ∷ last) b7 (number 8 height) b8 j7 p8 in
    let j9 = join bytes (parameters s ++ flag boot ∷ last ++ number 8 height) b8 (counted (number 8) state) b9 j8 p9 in
    let j10 = join bytes (parameters s ++ flag boot ∷ last ++ number 8 height ++ counted (number 8) state) b9 (counted weighed nodes) b10 j9 p10 in
    tagged 1 (start s) bytes (event.Start s) e b10 rest has j10 r10))))))))))

-- the fields of a Start behind its tag
pub start_tagged : IsTagged 1 start_at
start_tagged = record { taken = start_taken }

regroup : (a b c d e f g h i j : List ℕ) → a ++ b ++ c ++ d ++ e ++ (f ++ g) ++ h ++ i ++ j ≡ a ++ (b ++ (c ++ (d ++ (e ++ (f ++ (g ++ (h ++ (i ++ (j ++ [])))))))))
regroup a b c d e f g h i j = simp (append_assoc, append-nil)

-- the fields of a Start that were spelled are read again
pub start_again : (s : Start) → IsInRange (event.Start s) → start_at (start s) ≡ Ok (event.Start s, [])
unfolding start_at
start_again s range =
    let four = number_field 4 width4 in
    let b9 = counted weighed s.nodes ++ [] in
    let b8 = counted (number 8) s.state ++ b9 in
    let b7 = number 8 s.height ++ b8 in
    let b6 = s.last ++ b7 in
    let b5 = (flag s.boot ∷ []) ++ b6 in
    let b4 = number 4 s.repolls ++ b5 in
    let b3 = number 4 s.beta ++ b4 in
    let b2 = number 4 s.alpha_confidence ++ b3 in
    let b1 = number 4 s.alpha_preference ++ b2 in
    ap start_at (regroup (number 4 s.k) (number 4 s.alpha_preference) (number 4 s.alpha_confidence) (number 4 s.beta) (number 4 s.repolls) (flag s.boot ∷ []) s.last (number 8 s.height) (counted (number 8) s.state) (counted weighed s.nodes))
    ∙ again_then four s.k b1 _ range.0.k
    ∙ again_then four s.alpha_preference b2 _ range.0.alpha_preference
    ∙ again_then four s.alpha_confidence b3 _ range.0.alpha_confidence
    ∙ again_then four s.beta b4 _ range.0.beta
    ∙ again_then four s.repolls b5 _ range.0.repolls
    ∙ again_then flag_field s.boot b6 _ tt
    ∙ again_then (bytes_field 32) s.last b7 _ range.0.last
    ∙ again_then (number_field 8 width8) s.height b8 _ range.0.height
    ∙ again_then state_field s.state b9 _ (range.1.0, range.0.state)
    ∙ again_then nodes_field s.nodes [] _ (range.1.1, range.0.nodes)
