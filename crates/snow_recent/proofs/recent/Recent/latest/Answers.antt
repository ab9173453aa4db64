use Rattle.std.proofs.Common.{◌≡◌, true, false, sym, ap, ◌∙◌, arith}
use Rattle.std.specs.List.{slice_get}
use Rattle.std.specs.Option.{option_copied}
use Rattle.std.proofs.lemmas.Slice.Eq.{bytes_eq-Decides}
use Rattle.snow_recent.specs.Model.Recent.{latest}
use Rattle.snow_recent.specs.Kept.Index.{head_of, id_at, place_of}
use Rattle.snow_recent.proofs.Appended.{rising_before}
use Rattle.snow_recent.proofs.Latest.{head_found, head_other, headless, filed_latest}
use Rattle.snow_recent.proofs.recent.Recent.latest.Goals as goal
use Rattle.snow_recent.proofs.recent.Recent.latest.Goals.{Else-eq}

pub returns-in_default : goal.returns-in_default
returns-in_default g c =
    let inside = c.self.inside in
    let entries = inside.entries.items in
    let first = inside.first in
    let none = ap option_copied (sym c.in_default.is) ∙ c.entry_of.ensures ∙ ap (λ n. slice_get entries (place_of first n)) c.number-number.ensures in
    headless g.T.Named.id entries (head_of first inside.heads) _ c.args.id.now c.self.invariant.index none
    ∙ ap (λ entries. latest g.T.Named.id entries c.args.id.now) c.self.view_is

pub returns-then-eq : goal.returns-then-eq
returns-then-eq g c =
    let inside = c.self.inside in
    let entries = inside.entries.items in
    let first = inside.first in
    let is = ap option_copied (sym c.in-Some.is) ∙ c.entry_of.ensures ∙ ap (λ n. slice_get entries (place_of first n)) c.number-number.ensures in
    let own = sym c.id.ensures ∙ (bytes_eq-Decides c.id.result c.args.id.now).0 (sym c.eq.ensures ∙ c.if-eq.true) in
    head_found g.T.Named.id entries (head_of first inside.heads) _ c.args.id.now c.in-Some.head.now c.self.invariant.index is own
    ∙ ap (λ entries. latest g.T.Named.id entries c.args.id.now) c.self.view_is

pub latest_filed-requires : goal.latest_filed-requires
latest_filed-requires g c =
    let inside = c.self.inside in
    (omega arith, rising_before g.T.Named.id inside.entries.items inside.first (head_of inside.first inside.heads) inside.table c.self.invariant.index)

-- the head of the seat is of another identifier
other : (g : _) (c : Else-eq g) → id_at g.T.Named.id c.self.inside.entries.items (head_of c.self.inside.first c.self.inside.heads c.args.id.now) ≡ c.args.id.now → ⊥
other g c =
    let inside = c.self.inside in
    let entries = inside.entries.items in
    let first = inside.first in
    let is = ap option_copied (sym c.in-Some.is) ∙ c.entry_of.ensures ∙ ap (λ n. slice_get entries (place_of first n)) c.number-number.ensures in
    head_other g.T.Named.id entries (head_of first inside.heads) c.args.id.now c.in-Some.head.now is
    (λ same. let yes : true ≡ false = sym ((bytes_eq-Decides c.id.result c.args.id.now).1 (c.id.ensures ∙ same)) ∙ sym c.eq.ensures ∙ c.if-eq.false in absurd cc)

pub returns : goal.returns
returns g c =
    let inside = c.self.inside in
    let entries = inside.entries.items in
    let first = inside.first in
    let filed = c.latest_filed.ensures in
    filed_latest g.T.Named.id entries first (head_of first inside.heads) inside.table c.args.id.now filed.0 _ c.self.invariant.index (other g (goal.at.returns g c).Else-eq) filed.1 filed.2
    ∙ ap (λ entries. latest g.T.Named.id entries c.args.id.now) c.self.view_is
