-- A count below ten has one digit.
use Rattle.std.proofs.Common.{ℕ, List, [], ◌∷◌, ◌++◌, ◌+◌, codes, append_assoc, ap, sym, ◌∙◌}
use Rattle.std.proofs.lemmas.Fmt.{decimal_digit}
use Rattle.hex.specs.Hex.{encode_lower}
use Rattle.snow_page.proofs.part.short_word.Goals as goal

pub returns : goal.returns
returns c =
    let d = c.args.draw.now in
    let digit : List ℕ = (48 + d.count) ∷ [] in
    ap (λ (word : List ℕ). 32 ∷ word)
    (ap (λ (node : List ℕ). node ++ 42 ∷ digit) (c.write_node.ensures)
    ∙ sym (append_assoc (encode_lower d.node) (codes "*") digit)
    ∙ ap (λ (count : List ℕ). (encode_lower d.node ++ codes "*") ++ count) (sym (decimal_digit d.count c.requires)))
