-- Lemmas on lines that are appended, wholly or in front.
use Rattle.std.proofs.Common.{◌≡◌, ℕ, List, [], ◌++◌, map, take, drop, refl, sym, ap, ◌∙◌, append_assoc, append-nil, take-append-drop}
use Rattle.std.proofs.lemmas.List.{map-append}
use Rattle.snow_lines.specs.declared.line.Line.{Line}
use Rattle.snow_node.specs.Clauses.Stepping.{LogsFront}

-- nothing was appended
pub logs_nothing : (before after lines : List Line) → after ≡ before → LogsFront before after lines
logs_nothing before after lines e = record { front = []; rest = lines; whole = refl; grown = e ∙ sym (append-nil before) }

-- lines were appended, and then a front of those that follow
pub logs_then_front : (before mid after first second all : List Line) → mid ≡ before ++ first → LogsFront mid after second → first ++ second ≡ all
    → LogsFront before after all
logs_then_front before mid after first second all p q e = record {
  front = first ++ q.front;
  rest = q.rest;
  whole = append_assoc first q.front q.rest ∙ ap (λ (l : List Line). first ++ l) q.whole ∙ e;
  grown = q.grown ∙ ap (λ (l : List Line). l ++ q.front) p ∙ append_assoc before first q.front;
}

-- a front of lines is a front of more
pub logs_front_of_more : (before after lines more all : List Line) → LogsFront before after lines → lines ++ more ≡ all → LogsFront before after all
logs_front_of_more before after lines more all p e = record {
  front = p.front;
  rest = p.rest ++ more;
  whole = sym (append_assoc p.front p.rest more) ∙ ap (λ (l : List Line). l ++ more) p.whole ∙ e;
  grown = p.grown;
}

-- all lines are a front of themselves
pub logs_whole : (before after lines : List Line) → after ≡ before ++ lines → LogsFront before after lines
logs_whole before after lines e = record { front = lines; rest = []; whole = append-nil lines; grown = e }

-- the lines of the first items were appended
pub logs_some : {A : Type 0} (f : A → Line) (xs : List A) (i : ℕ) (before after : List Line) → after ≡ before ++ map f (take i xs) → LogsFront before after (map f xs)
logs_some f xs i before after e = record {
  front = map f (take i xs);
  rest = map f (drop i xs);
  whole = sym (map-append f (take i xs) (drop i xs)) ∙ ap (map f) (take-append-drop i xs);
  grown = e;
}

-- what lemmas on appended lines a caller wants
pub ruleset logging = (logs_nothing, logs_then_front, logs_front_of_more, logs_whole)
