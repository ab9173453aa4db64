-- The get of a number is closed where it is that of the node.
use Rattle.std.proofs.Common.{◌≡◌, List, map, true, false, find, cond, Some, None, sym, ap, ◌∙◌, subst}
use Rattle.std.specs.Option.{option_map}
use Rattle.std.specs.Str.{bytes_eq}
use Rattle.std.proofs.lemmas.Bool.{not-true, not-false}
use Rattle.snow_gets.specs.declared.gets.Get.{Get}
use Rattle.snow_gets.specs.Model.Gets.{is_get, without}
use Rattle.snow_gets.specs.Kept.Index.{HasAsked, get_of, has}
use Rattle.snow_gets.proofs.Asking.{id_of_get, closed_missing, found_number, left_number, none_without, asked_closed, taken_out}
use Rattle.snow_gets.proofs.get_map.GetMap.close.Goals as goal

pub returns-in_default-clause-answer : goal.returns-in_default-clause-answer
returns-in_default-clause-answer c =
    (closed_missing c.self.inside.«open».entries c.args.number c.args.node.now c.in_default.ensures.value).0
    ∙ ap (λ l. option_map id_of_get (find (is_get c.args.number c.args.node.now) l)) c.self.view_is

pub returns-in_default-clause-left : goal.returns-in_default-clause-left
returns-in_default-clause-left c =
    subst (λ l. l ≡ without (is_get c.args.number c.args.node.now) l) c.self.view_is
    (closed_missing c.self.inside.«open».entries c.args.number c.args.node.now c.in_default.ensures.value).1

pub returns-then-ne-clause-answer : goal.returns-then-ne-clause-answer
returns-then-ne-clause-answer c =
    let es = c.self.inside.«open».entries in
    let asked = c.in-Some.found.now in
    let other : bytes_eq asked.node c.args.node.now ≡ false = not-true (bytes_eq asked.node c.args.node.now) (sym c.ne.ensures ∙ c.if-ne.true) in
    let none = found_number es c.args.number c.args.node.now asked c.len-rising.ensures.ordered c.in-Some.ensures.value ∙ ap (λ b. cond b (Some (get_of (c.args.number, asked))) None) other in
    sym (ap (option_map id_of_get) none) ∙ ap (λ l. option_map id_of_get (find (is_get c.args.number c.args.node.now) l)) c.self.view_is

pub returns-then-ne-clause-left : goal.returns-then-ne-clause-left
returns-then-ne-clause-left c =
    let es = c.self.inside.«open».entries in
    let asked = c.in-Some.found.now in
    let other : bytes_eq asked.node c.args.node.now ≡ false = not-true (bytes_eq asked.node c.args.node.now) (sym c.ne.ensures ∙ c.if-ne.true) in
    let none = found_number es c.args.number c.args.node.now asked c.len-rising.ensures.ordered c.in-Some.ensures.value ∙ ap (λ b. cond b (Some (get_of (c.args.number, asked))) None) other in
    subst (λ l. l ≡ without (is_get c.args.number c.args.node.now) l) c.self.view_is (none_without (is_get c.args.number c.args.node.now) (map get_of es) none)

pub invariant_of-self : goal.invariant_of-self
invariant_of-self c =
    let es = c.self.inside.«open».entries in
    let asked = c.in-Some.found.now in
    let same : bytes_eq asked.node c.args.node.now ≡ true = not-false (bytes_eq asked.node c.args.node.now) (sym c.ne.ensures ∙ c.if-ne.false) in
    let found = found_number es c.args.number c.args.node.now asked c.len-rising.ensures.ordered c.in-Some.ensures.value ∙ ap (λ b. cond b (Some (get_of (c.args.number, asked))) None) same in
    subst (λ (l : List Get). HasAsked (has c.remove-2.new.self) l) (sym (ap (map get_of) c.remove.ensures.entries ∙ left_number es c.args.number c.args.node.now asked c.in-Some.ensures.value same))
    (asked_closed (has c.self.inside.ids) (has c.remove-2.new.self) (map get_of es) c.args.number c.args.node.now (get_of (c.args.number, asked)) c.self.invariant found (taken_out asked.id c.self.inside.ids c.remove-2.new.self c.remove-2.ensures.updates))

pub returns-clause-answer : goal.returns-clause-answer
returns-clause-answer c =
    let es = c.self.inside.«open».entries in
    let asked = c.in-Some.found.now in
    let same : bytes_eq asked.node c.args.node.now ≡ true = not-false (bytes_eq asked.node c.args.node.now) (sym c.ne.ensures ∙ c.if-ne.false) in
    let found = found_number es c.args.number c.args.node.now asked c.len-rising.ensures.ordered c.in-Some.ensures.value ∙ ap (λ b. cond b (Some (get_of (c.args.number, asked))) None) same in
    sym (ap (option_map id_of_get) found) ∙ ap (λ l. option_map id_of_get (find (is_get c.args.number c.args.node.now) l)) c.self.view_is

pub returns-clause-left : goal.returns-clause-left
returns-clause-left c =
    let es = c.self.inside.«open».entries in
    let asked = c.in-Some.found.now in
    let same : bytes_eq asked.node c.args.node.now ≡ true = not-false (bytes_eq asked.node c.args.node.now) (sym c.ne.ensures ∙ c.if-ne.false) in
    ap (map get_of) c.remove.ensures.entries ∙ left_number es c.args.number c.args.node.now asked c.in-Some.ensures.value same
    ∙ ap (without (is_get c.args.number c.args.node.now)) c.self.view_is
