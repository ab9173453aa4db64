-- Worked examples: what words ask for.
use Rattle.std.proofs.Common.{◌≡◌, [], ◌∷◌, Some, None, refl, codes}
use Rattle.snow_text_model.specs.declared.block_form.BlockForm.TheVariants as form
use Rattle.snow_text_cli.specs.declared.request.Request.TheVariants as request
use Rattle.snow_text_cli.specs.Model.Words.{asked}

pub no_word : asked [] ≡ None
unfolding asked
no_word = refl

pub alone : asked (codes "show" ∷ []) ≡ Some (request.Show form.Bytes)
unfolding asked
alone = refl

pub behind : asked (codes "show" ∷ codes "--chain" ∷ codes "tally" ∷ []) ≡ Some (request.Show form.Tally)
unfolding asked
behind = refl

pub before : asked (codes "--chain=ledger" ∷ codes "show" ∷ []) ≡ Some (request.Show form.Ledger)
unfolding asked
before = refl

pub made_alike : asked (codes "--chain" ∷ codes "plain" ∷ codes "make" ∷ []) ≡ Some request.Make
unfolding asked
made_alike = refl

pub no_chain : asked (codes "make" ∷ codes "--chain=bytes" ∷ []) ≡ None
unfolding asked
no_chain = refl

pub no_name : asked (codes "show" ∷ codes "--chain" ∷ []) ≡ None
unfolding asked
no_name = refl

pub twice : asked (codes "--chain=plain" ∷ codes "show" ∷ codes "--chain=plain" ∷ []) ≡ None
unfolding asked
twice = refl

pub help : asked (codes "--help" ∷ []) ≡ None
unfolding asked
help = refl
