-- Lines that are written one after another: what is still to be done makes of what was done the whole.
use Rattle.std.proofs.Common.{◌≡◌, List, [], ◌++◌, sym, ap, ◌∙◌, append_assoc}
use Rattle.snow_lines.specs.declared.line.Line.{Line}
use Rattle.snow_boot.specs.Clauses.Calling.{LogsFront}

pub record IsUnderway {R : Type 0} (before now : List Line) (rest whole : List Line × R) : Type 0 where
  pub done : List Line
  pub grown : now ≡ before ++ done
  pub lines : done ++ rest.0 ≡ whole.0
  pub ends : rest.1 ≡ whole.1

-- some lines more are written
pub goes_on : {R : Type 0} (before now after lines : List Line) (rest next whole : List Line × R) → IsUnderway before now rest whole → after ≡ now ++ lines → rest ≡ (lines ++ next.0, next.1)
    → IsUnderway before after next whole
goes_on {R = R} before now after lines rest next whole u more is = record {
  done = u.done ++ lines;
  grown = more ∙ ap (λ l. l ++ lines) u.grown ∙ append_assoc before u.done lines;
  lines = append_assoc u.done lines next.0 ∙ ap (λ (r : List Line × R). u.done ++ r.0) (sym is) ∙ u.lines;
  ends = ap (λ (r : List Line × R). r.1) (sym is) ∙ u.ends;
}

-- all is done, or it stops
pub stops_here : {R : Type 0} (before now after lines : List Line) (end : R) (rest whole : List Line × R) → IsUnderway before now rest whole → after ≡ now ++ lines → rest ≡ (lines, end)
    → (after ≡ before ++ whole.0) × (whole.1 ≡ end)
stops_here {R = R} before now after lines end rest whole u more is = (
  more ∙ ap (λ l. l ++ lines) u.grown ∙ append_assoc before u.done lines ∙ ap (λ (r : List Line × R). before ++ (u.done ++ r.0)) (sym is) ∙ ap (λ l. before ++ l) u.lines,
  sym u.ends ∙ ap (λ (r : List Line × R). r.1) is,
)

-- memory runs out
pub runs_out : {R : Type 0} (before now after lines more : List Line) (rest whole : List Line × R) → IsUnderway before now rest whole → rest.0 ≡ lines ++ more → LogsFront now after lines
    → LogsFront before after whole.0
runs_out before now after lines more rest whole u is f = record {
  front = u.done ++ f.front;
  rest = f.rest ++ more;
  whole = append_assoc u.done f.front (f.rest ++ more) ∙ ap (λ l. u.done ++ l) (sym (append_assoc f.front f.rest more) ∙ ap (λ l. l ++ more) f.whole ∙ sym is) ∙ u.lines;
  grown = f.grown ∙ ap (λ l. l ++ f.front) u.grown ∙ append_assoc before u.done f.front;
}
