use Rattle.std.proofs.Common.{rules, length, ◌≡◌, ℕ, List, [], ◌∷◌, ◌++◌, true, false, codes, sym, ap, ◌∙◌, subst}
use Rattle.snow_text_model.specs.Model.Lines.{line_words}
use Rattle.snow_text_model.specs.Model.Shown.{frame_words, line}
use Rattle.snow_text_model.specs.Model.Words.{Word}
use Rattle.snow_say.specs.Clauses.Lined.{tells}
use Rattle.snow_show.specs.Clauses.Putting.{Puts}
use Rattle.snow_show.proofs.Brevity.{put_before, put_behind, written_not, written_told}
use Rattle.snow_show.proofs.Putting.{puts_as, puts_behind}
use Rattle.snow_show.proofs.lines.put_written.Goals as goal

pub returns-then-branch : goal.returns-then-branch
returns-then-branch c =
    let words = line (codes ">" ∷ line_words c.args.said.now) in
    let start : c.len-start.result ≡ length c.args.text.now.items = search rules in
    let same = put_behind c.args.text.now.items words c.as_slice.result.now c.len-start.result start (c.as_slice.ensures.value ∙ c.in_ok-put_line.ensures) in
    let told : tells words c.args.payload.now ≡ true = ap (λ (l : List ℕ). tells l c.args.payload.now) (sym same) ∙ sym c.in_ok-tells.ensures ∙ c.if-branch.true in
    puts_behind c.put.result _ _ _ words (10 ∷ []) _ c.in_ok-put_line.ensures c.put.ensures
    (ap (λ (ws : List Word). line ws ++ 10 ∷ []) (sym (written_told c.args.said.now c.args.payload.now told)))

pub returns : goal.returns
returns c =
    let words = line (codes ">" ∷ line_words c.args.said.now) in
    let piece = line (frame_words c.args.payload.now) ++ 10 ∷ [] in
    let start : c.len-start.result ≡ length c.args.text.now.items = search rules in
    let same = put_behind c.args.text.now.items words c.as_slice.result.now c.len-start.result start (c.as_slice.ensures.value ∙ c.in_ok-put_line.ensures) in
    let told : tells words c.args.payload.now ≡ false = ap (λ (l : List ℕ). tells l c.args.payload.now) (sym same) ∙ sym c.in_ok-tells.ensures ∙ c.if-branch.false in
    let front : c.truncate.new.self.items ≡ c.args.text.now.items = c.truncate.ensures.items ∙ put_before c.args.text.now.items words _ c.len-start.result start c.in_ok-put_line.ensures in
    puts_as c.put_as_it_is.result _ _ piece _ (ap (λ (ws : List Word). line ws ++ 10 ∷ []) (sym (written_not c.args.said.now c.args.payload.now told)))
    (subst (λ (l : List ℕ). Puts c.put_as_it_is.result l c.put_as_it_is.new.text.items piece) front c.put_as_it_is.ensures)
