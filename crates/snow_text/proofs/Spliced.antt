-- Pieces of a text, cut anywhere.
use Rattle.std.proofs.Common.{◌≡◌, ℕ, ◌+◌, ◌<◌, ◌==◌, Bool, true, false, cond, List, [], ◌∷◌, ◌++◌, length, Result, Ok, Err, refl, sym, ap, ◌∙◌, append_assoc, append-nil, arith}
use Rattle.std.specs.List.{onto_first}
use Rattle.snow_text.specs.declared.maker.MakeStop.{MakeStop}
use Rattle.snow_text.specs.declared.maker.MakeStop.TheVariants as make
use Rattle.snow_text_model.specs.Model.Words.{parts}
use Rattle.snow_text_model.specs.Model.Made.{made_from, none_say}
use Rattle.snow_words.specs.Clauses.Making.{onto}
use Rattle.snow_text.specs.Clauses.Texts.{EndSteps, LineSteps, Lining, PieceSteps, Standing, TextEnds, glued, lines_say, means, says}
use Rattle.snow_text.specs.Kept.Pieces.{Taking}
use Rattle.snow_words.proofs.Saying.{some_parts}

-- parts, of which the last and the first of the others are one
abbrev spliced : List (List ℕ) → List (List ℕ) → List (List ℕ)
spliced [] more = more
spliced (part ∷ []) more = glued part more
spliced (part ∷ next ∷ rest) more = part ∷ spliced (next ∷ rest) more

-- nothing in front of parts
pub glued_none : (ps : List (List ℕ)) → glued [] ps ≡ ps
glued_none [] = refl
glued_none (p ∷ ps) = refl

pub glued_both : (a b : List ℕ) (ps : List (List ℕ)) → glued (a ++ b) ps ≡ glued a (glued b ps)
glued_both a b [] = refl
glued_both a b (p ∷ ps) = ap (λ l. l ∷ ps) (append_assoc a b p)

onto_glued : (c : ℕ) (p : List ℕ) (ps : List (List ℕ)) → 0 < length ps → onto_first c (glued p ps) ≡ glued (c ∷ p) ps
onto_glued c p [] h = absurd (omega (arith, h))
onto_glued c p (q ∷ ps) h = refl

onto_spliced : (c : ℕ) (ps qs : List (List ℕ)) → 0 < length ps → 0 < length qs → onto_first c (spliced ps qs) ≡ spliced (onto_first c ps) qs
onto_spliced c [] qs h k = absurd (omega (arith, h))
onto_spliced c (p ∷ []) qs h k = onto_glued c p qs k
onto_spliced c (p ∷ q ∷ ps) qs h k = refl

behind_cut : (p : List ℕ) (ps qs : List (List ℕ)) → 0 < length ps → spliced (p ∷ ps) qs ≡ p ∷ spliced ps qs
behind_cut p [] qs h = absurd (omega (arith, h))
behind_cut p (q ∷ ps) qs h = refl

splice_next : (b : Bool) (c : ℕ) (ps qs : List (List ℕ)) → 0 < length ps → 0 < length qs
    → cond b ([] ∷ spliced ps qs) (onto_first c (spliced ps qs)) ≡ spliced (cond b ([] ∷ ps) (onto_first c ps)) qs
splice_next true c ps qs h k = sym (behind_cut [] ps qs h)
splice_next false c ps qs h k = onto_spliced c ps qs h k

-- the parts of a text with another behind it
parts_both : (c : ℕ) (text more : List ℕ) → parts c (text ++ more) ≡ spliced (parts c text) (parts c more)
parts_both c [] more = sym (glued_none (parts c more))
parts_both c (x ∷ text) more =
    ap (λ ps. cond (x == c) ([] ∷ ps) (onto_first x ps)) (parts_both c text more)
    ∙ splice_next (x == c) x (parts c text) (parts c more) (some_parts c text) (some_parts c more)

-- a text without a newline, in front of others
pub parts_whole : (c : ℕ) (text more : List ℕ) → parts c text ≡ text ∷ [] → parts c (text ++ more) ≡ glued text (parts c more)
parts_whole c text more e = parts_both c text more ∙ ap (λ ps. spliced ps (parts c more)) e

-- and one with a newline
pub parts_behind : (c : ℕ) (text line behind more : List ℕ) → parts c text ≡ line ∷ parts c behind → parts c (text ++ more) ≡ line ∷ parts c (behind ++ more)
parts_behind c text line behind more e =
    parts_both c text more ∙ ap (λ ps. spliced ps (parts c more)) e
    ∙ behind_cut line (parts c behind) (parts c more) (some_parts c behind)
    ∙ ap (λ ps. line ∷ ps) (sym (parts_both c behind more))

-- ---- the end of a line

none_left : (left : List ℕ) → length left ≡ 0 → left ≡ []
none_left [] e = refl
none_left (x ∷ left) e = absurd (omega (arith, e))

-- a line came whole
pub ends_whole : (result : Result (Unit {0}) MakeStop) (s t : Standing) (line : List ℕ) → length s.left ≡ 0 → LineSteps result s.lines t.lines line → EndSteps result s t line
ends_whole result s t line e steps more = rw (none_left s.left e) (steps more)

-- or in pieces
pub ends_joined : (s t : Standing) (line left : List ℕ) → left ≡ s.left ++ line → LineSteps (Ok tt) s.lines t.lines left → EndSteps (Ok tt) s t line
ends_joined s t line left e steps more = rw (sym e) (steps more)

pub ends_not : (s t : Standing) (lines : Lining) (line left : List ℕ) (stop : MakeStop) → left ≡ s.left ++ line → LineSteps (Err stop) s.lines lines left → EndSteps (Err stop) s t line
ends_not s t lines line left make.Memory e steps = λ more. tt
ends_not s t lines line left (make.Refused r) e steps = λ more. rw (sym e) (steps more)

-- what the end of a line wants
pub ruleset line_ends = (ends_whole, ends_joined, ends_not)

-- ---- the end of a text

nothing_more : (s : Lining) (behind : Bool) → onto s.stream (lines_say behind s.names s.number []) ≡ Ok s.stream
unfolding made_from none_say
nothing_more s true = ap Ok (append-nil s.stream)
nothing_more s false = ap Ok (append-nil s.stream)

pub text_ends : (result : Result (Unit {0}) MakeStop) (s : Standing) (t : Lining) → LineSteps result s.lines t s.left → TextEnds result s t.stream
text_ends (Ok u) s t steps = ap (λ l. says s.lines (l ∷ [])) (append-nil s.left) ∙ steps [] ∙ nothing_more t t.behind
text_ends (Err make.Memory) s t steps = tt
text_ends (Err (make.Refused r)) s t steps = ap (λ l. says s.lines (l ∷ [])) (append-nil s.left) ∙ steps []

-- what the end of a text wants
pub ruleset ending = (text_ends)

-- ---- a piece

pub taking_begun : (s : Standing) (piece : List ℕ) → Taking s s piece piece
taking_begun s piece = record { steps = λ more. refl; number = omega arith }

-- a line that ends in a piece
line_in : (s : Standing) (rest line behind more : List ℕ) → parts 10 rest ≡ line ∷ parts 10 behind → means s (rest ++ more) ≡ says s.lines ((s.left ++ line) ∷ parts 10 (behind ++ more))
line_in s rest line behind more e = ap (λ ps. says s.lines (glued s.left ps)) (parts_behind 10 rest line behind more e)

pub taking_next : (before s t : Standing) (piece rest line behind : List ℕ) → Taking before s piece rest → length behind < length rest → parts 10 rest ≡ line ∷ parts 10 behind
    → EndSteps (Ok tt) s t line → t.left ≡ [] → t.lines.number ≡ s.lines.number + 1 → Taking before t piece behind
taking_next before s t piece rest line behind so shorter e steps none next = record {
  steps = λ more. so.steps more ∙ line_in s rest line behind more e ∙ steps (parts 10 (behind ++ more))
      ∙ ap (says t.lines) (sym (ap (λ l. glued l (parts 10 (behind ++ more))) none ∙ glued_none (parts 10 (behind ++ more))));
  number = omega (arith, so.number, shorter, next);
}

pub taking_not : (before s t u : Standing) (piece rest line behind : List ℕ) (stop : MakeStop) → Taking before s piece rest → parts 10 rest ≡ line ∷ parts 10 behind
    → EndSteps (Err stop) s t line → PieceSteps (Err stop) before u piece
taking_not before s t u piece rest line behind make.Memory so e steps = λ more. tt
taking_not before s t u piece rest line behind (make.Refused r) so e steps = λ more. so.steps more ∙ line_in s rest line behind more e ∙ steps (parts 10 (behind ++ more))

-- what is left waits
pub taking_left : (before s t : Standing) (piece rest : List ℕ) → Taking before s piece rest → parts 10 rest ≡ rest ∷ [] → t.lines ≡ s.lines → t.left ≡ s.left ++ rest → PieceSteps (Ok tt) before t piece
taking_left before s t piece rest so e same left more =
    so.steps more ∙ ap (λ ps. says s.lines (glued s.left ps)) (parts_whole 10 rest more e)
    ∙ ap (says s.lines) (sym (glued_both s.left rest (parts 10 more)))
    ∙ sym (ap (λ l. says l (glued t.left (parts 10 more))) same ∙ ap (λ l. says s.lines (glued l (parts 10 more))) left)

-- what a piece wants
pub ruleset piecing = (taking_begun, taking_next, taking_not, taking_left)
