-- The get goes to its place by number, and its block is asked for.
use Rattle.std.proofs.Common.{◌≡◌, List, map, false, sym, ap, ◌∙◌, subst}
use Rattle.snow_gets.specs.declared.get_map.Asked.{Asked}
use Rattle.snow_gets.specs.declared.gets.Get.{Get}
use Rattle.snow_gets.specs.Model.Gets.{asked_in, has_number, with_get}
use Rattle.snow_gets.specs.Kept.Index.{HasAsked, get_of, has}
use Rattle.snow_gets.proofs.Asking.{entered, asked_opened, asked_undone, put_in, taken_out}
use Rattle.snow_gets.proofs.get_map.GetMap.open.Goals as goal

pub invariant_of-self-in-Err : goal.invariant_of-self-in-Err
invariant_of-self-in-Err c =
    let inside = c.self.inside in
    let gets = map get_of inside.«open».entries in
    let id = c.args.get.id in
    let new = subst (λ l. asked_in l id ≡ false) (sym c.self.view_is) c.requires.id in
    subst (λ (l : List Get). HasAsked (has c.remove.new.self) l) (sym (ap (map get_of) c.in-Err.ensures.err))
    (asked_undone (has inside.ids) (has c.insert.new.self) (has c.remove.new.self) gets id c.self.invariant new (put_in id inside.ids c.insert.new.self c.in_ok-insert.ensures.updates) (taken_out id c.insert.new.self c.remove.new.self c.remove.ensures.updates))

pub invariant_of-self-in_default : goal.invariant_of-self-in_default
invariant_of-self-in_default c =
    let inside = c.self.inside in
    let get = c.args.get in
    let gets = map get_of inside.«open».entries in
    let asked : Asked = record { node = get.node; id = get.id } in
    let new = subst (λ l. asked_in l get.id ≡ false) (sym c.self.view_is) c.requires.id in
    let number = subst (λ l. has_number l get.number ≡ false) (sym c.self.view_is) c.requires.number in
    subst (λ (l : List Get). HasAsked (has c.insert.new.self) l) (sym (ap (map get_of) c.in_default.ensures.entries ∙ entered inside.«open».entries get.number asked number))
    (asked_opened (has inside.ids) (has c.insert.new.self) gets get c.self.invariant new (put_in get.id inside.ids c.insert.new.self c.in_ok-insert.ensures.updates))

pub returns-clause-ok : goal.returns-clause-ok
returns-clause-ok c =
    let inside = c.self.inside in
    let get = c.args.get in
    let asked : Asked = record { node = get.node; id = get.id } in
    let number = subst (λ l. has_number l get.number ≡ false) (sym c.self.view_is) c.requires.number in
    ap (map get_of) c.in_default.ensures.entries ∙ entered inside.«open».entries get.number asked number ∙ ap (λ l. with_get l get) c.self.view_is
