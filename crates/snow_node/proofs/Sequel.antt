-- One call behind another: its stops and its lines are those of both.
use Rattle.std.proofs.Common.{◌≡◌, List, ◌++◌, append_assoc, Result, Ok, Err, refl, sym, ap, ◌∙◌, subst}
use Rattle.snow_lines.specs.declared.line.Line.{Line}
use Rattle.snow_node.specs.declared.stop.Halt.{Halt}
use Rattle.snow_node.specs.declared.stop.Halt.TheVariants as halt
use Rattle.snow_node.specs.Model.Outcome.{Comes, after_lines, going_on, then_comes}
use Rattle.snow_node.specs.Clauses.Stepping.{Tells, LogsFront, HaltsAs}
use Rattle.snow_node.proofs.Logs.{logs_then_front, logs_front_of_more}

-- lines behind lines
pub logs_behind : (T : Type 0) (result : Result T Halt) (before mid after first second : List Line) → mid ≡ before ++ first → Tells result mid after second
    → Tells result before after (first ++ second)
logs_behind T (Ok x) before mid after first second e l = l ∙ ap (λ (ls : List Line). ls ++ second) e ∙ append_assoc before first second
logs_behind T (Err halt.Memory) before mid after first second e l = logs_then_front before mid after first second (first ++ second) e l refl
logs_behind T (Err s) before mid after first second e l = l ∙ ap (λ (ls : List Line). ls ++ second) e ∙ append_assoc before first second

module _ (A T : Type 0) (first : Comes A) (next : A → Comes T) where
  -- the first call stopped
  pub stop_first : (s : Halt) → HaltsAs s first.1 → HaltsAs s (then_comes first next).1
  stop_first halt.Memory e = tt
  stop_first halt.SecondStart e = ap (λ (r : Result A Halt). (going_on first.0 r next).1) e
  stop_first halt.Requests e = ap (λ (r : Result A Halt). (going_on first.0 r next).1) e

  pub lines_first : (B C : Type 0) (s : Halt) (before after : List Line) → HaltsAs s first.1 → Tells {T = B} (Err s) before after first.0
      → Tells {T = C} (Err s) before after (then_comes first next).0
  lines_first B C halt.Memory before after e l = by first.1
    where
      by : (r : Result A Halt) → LogsFront before after (going_on first.0 r next).0
      by (Err s) = l
      by (Ok x) = logs_front_of_more before after first.0 (next x).0 (first.0 ++ (next x).0) l refl
  lines_first B C halt.SecondStart before after e l = l ∙ ap (λ (r : Result A Halt). before ++ (going_on first.0 r next).0) (sym e)
  lines_first B C halt.Requests before after e l = l ∙ ap (λ (r : Result A Halt). before ++ (going_on first.0 r next).0) (sym e)

  -- the first call went well, and the second follows
  pub then_is : (x : A) → first.1 ≡ Ok x → then_comes first next ≡ after_lines first.0 (next x)
  then_is x e = ap (λ (r : Result A Halt). going_on first.0 r next) e

  pub lines_then : (C : Type 0) (result : Result C Halt) (x : A) (before mid after : List Line) → first.1 ≡ Ok x → mid ≡ before ++ first.0 → Tells result mid after (next x).0
      → Tells result before after (then_comes first next).0
  lines_then C result x before mid after e m l =
      subst (λ (c : Comes T). Tells result before after c.0) (sym (then_is x e)) (logs_behind C result before mid after first.0 (next x).0 m l)
