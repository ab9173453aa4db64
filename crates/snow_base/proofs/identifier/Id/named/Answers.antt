use Rattle.std.proofs.Common.{◌^◌, ◌<◌, List, ℕ, get_or, subst}
use Rattle.snow_base.proofs.identifier.Id.named.Goals as goal

pub returns : goal.returns
returns c =
    record {
      long = c.as_bytes.ensures.length;
      bytes = subst (λ (l : List ℕ). (i : ℕ) → get_or l i 0 < 2 ^ 8) c.as_bytes.ensures.bytes c.small.ensures;
    }
