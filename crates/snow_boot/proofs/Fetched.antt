-- A block was taken, over what is fetched: what is kept, found, missed and due then.
use Rattle.std.proofs.Common.{◌≡◌, ℕ, List, Option, sym, subst}
use Rattle.std.specs.Prelude.{Result, Ok}
use Rattle.std.specs.BTreeMap.{BTreeMap}
use Rattle.snow_store.specs.declared.store.KeptBlock.{KeptBlock}
use Rattle.snow_store.specs.declared.needs.Due.{Due}
use Rattle.snow_store.specs.declared.stop.BootStop.{BootStop}
use Rattle.snow_store.specs.declared.stop.Verdict.{Verdict}
use Rattle.snow_store.specs.Clauses.Coming.{after_verdict}
use Rattle.snow_store.specs.Model.Keeping.{Store, taken, after_taking}
use Rattle.snow_store.specs.Laws.Linking.{IsLinked}
use Rattle.snow_store.specs.Model.Needing.{is_missed, HasNeeds, Covers}
use Rattle.snow_store.specs.Model.Paths.{Fetch, missed}
use Rattle.snow_store.specs.Kept.Renewing.{fetch_by, MayRenew, IsRenewed}
use Rattle.snow_store.proofs.Renewed.{after_is}

-- what came is what the verdict makes of it; what is missed then is known, and what is due covers all that is newly missed
pub record HasCome (f g : Fetch) (b : KeptBlock) (v : Verdict) (needs : BTreeMap (List ℕ) ℕ) (before after : Due) : Type 0 where
  pub is : g ≡ after_verdict f b v
  pub has : HasNeeds needs g
  pub due : Covers before (is_missed f f.targets) after (is_missed g g.targets)

-- what the renewal of the needs gives, for any blocks kept before
abbrev pub Renews : Store → List (List ℕ) → List (List ℕ) → List (List ℕ) → KeptBlock → Verdict → Option (List ℕ) → BTreeMap (List ℕ) ℕ → BTreeMap (List ℕ) ℕ → Due → Due → Type 0
Renews now targets found more_found b v itself needs more before after =
    (s : Store) (bytes : List ℕ) → now ≡ after_taking s record { header = b.header; bytes = bytes } v → MayRenew (fetch_by s targets found) b.header v itself needs
    → (more_found ≡ (after_verdict (fetch_by s targets found) record { header = b.header; bytes = bytes } v).found)
    × IsRenewed (fetch_by s targets found) (after_verdict (fetch_by s targets found) record { header = b.header; bytes = bytes } v) before after more

pub has_come : (s now : Store) (targets found more_found : List (List ℕ)) (b : KeptBlock) (v : Verdict) (itself : Option (List ℕ)) (needs more : BTreeMap (List ℕ) ℕ) (before after : Due) → IsLinked s
    → (let r : Result Verdict BootStop = Ok v in r) ≡ taken s b.header → itself ≡ missed (fetch_by s targets found) b.header.id → HasNeeds needs (fetch_by s targets found) → now ≡ after_taking s b v
    → Renews now targets found more_found b v itself needs more before after → HasCome (fetch_by s targets found) (fetch_by now targets more_found) b v more before after
has_come s now targets found more_found b v itself needs more before after linked fits was has kept renews =
    let f = fetch_by s targets found in
    let r = renews s b.bytes kept record { linked = linked; fits = sym fits; itself = was; has = has } in
    let is : fetch_by now targets more_found ≡ after_verdict f b v = after_is f b v now more_found kept r.0 in record {
      is = is;
      has = subst (HasNeeds more) (sym is) r.1.has;
      due = subst (λ (x : Fetch). Covers before (is_missed f targets) after (is_missed x x.targets)) (sym is) r.1.due;
    }
