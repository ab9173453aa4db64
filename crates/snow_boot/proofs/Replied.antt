-- A reply, block by block.
use Rattle.std.proofs.Common.{◌≡◌, ℕ, true, false, List, [], ◌∷◌, Option, Some, None, bytes_eq, refl, sym, ap, ◌∙◌}
use Rattle.std.specs.Prelude.{Result, Ok, Err}
use Rattle.snow_base.specs.declared.block.Header.{Header}
use Rattle.snow_store.specs.declared.store.KeptBlock.{KeptBlock}
use Rattle.snow_store.specs.declared.stop.BootStop.{BootStop}
use Rattle.snow_store.specs.declared.stop.Verdict.{Verdict}
use Rattle.snow_store.specs.declared.stop.Verdict.TheVariants as verdict
use Rattle.snow_store.specs.declared.stop.BootStop.TheVariants as stop
use Rattle.snow_boot.specs.Kept.Fetching.{Hunt, Fetches}
use Rattle.snow_store.specs.Model.Keeping.{taken, Answers}
use Rattle.snow_store.specs.Model.Paths.{Fetch}
use Rattle.snow_store.specs.Clauses.Coming.{after_verdict}
use Rattle.snow_boot.specs.Model.Replying.{if_wanted, with_taken, with_wanted, replied}

-- no block comes
pub nothing_came : (header_of : List ℕ → Option Header) (f : Fetch) (id : List ℕ) → replied header_of f id [] ≡ Ok f
unfolding replied
nothing_came header_of f id = refl

-- bytes that are none of a block end the reply
pub ends_unparsed : (header_of : List ℕ → Option Header) (f : Fetch) (id bytes : List ℕ) (blocks : List (List ℕ)) → header_of bytes ≡ None → replied header_of f id (bytes ∷ blocks) ≡ Ok f
unfolding replied
ends_unparsed header_of f id bytes blocks e = rw e refl

-- so does a block that isn't the wanted one
pub ends_unwanted : (header_of : List ℕ → Option Header) (f : Fetch) (id bytes : List ℕ) (blocks : List (List ℕ)) (h : Header) → header_of bytes ≡ Some h → bytes_eq h.id id ≡ false
    → replied header_of f id (bytes ∷ blocks) ≡ Ok f
unfolding replied
ends_unwanted header_of f id bytes blocks h e other = rw (e, other) refl

-- the wanted block is taken
pub takes_wanted : (header_of : List ℕ → Option Header) (f : Fetch) (id bytes : List ℕ) (blocks : List (List ℕ)) (h : Header) → header_of bytes ≡ Some h → bytes_eq h.id id ≡ true
    → replied header_of f id (bytes ∷ blocks) ≡ with_taken f record { header = h; bytes = bytes } (taken f.store h) (λ f. replied header_of f h.parent blocks)
unfolding replied
takes_wanted header_of f id bytes blocks h e same = rw (e, same) refl

-- a stop
pub stops_at : (T : Type 0) (header_of : List ℕ → Option Header) (f : Fetch) (hunt : Hunt) (id bytes : List ℕ) (blocks : List (List ℕ)) (h : Header) → header_of bytes ≡ Some h → bytes_eq h.id id ≡ true
    → (expected : Result Fetch BootStop) → expected ≡ replied header_of f id (bytes ∷ blocks) → (why : BootStop) → Answers (Err why) (taken f.store h) → Fetches {T = T} (Err why) hunt expected
stops_at T header_of f hunt id bytes blocks h e same expected so_far why a = by_stop why a
  where
    stopped : (why : BootStop) → (let r : Result Verdict BootStop = Err why in r) ≡ taken f.store h → expected ≡ Err why
    stopped why is =
        so_far ∙ takes_wanted header_of f id bytes blocks h e same
        ∙ ap (λ r. with_taken f record { header = h; bytes = bytes } r (λ f. replied header_of f h.parent blocks)) (sym is)

    by_stop : (why : BootStop) → Answers (Err why) (taken f.store h) → Fetches {T = T} (Err why) hunt expected
    by_stop stop.Memory a = tt
    by_stop (stop.Conflict height first second) a = stopped (stop.Conflict height first second) a
    by_stop (stop.Fork x parent) a = stopped (stop.Fork x parent) a
    by_stop (stop.Refused x) a = stopped (stop.Refused x) a
    by_stop stop.Full a = stopped stop.Full a
    by_stop stop.Requests a = stopped stop.Requests a

-- a block that is taken
pub takes_on : (header_of : List ℕ → Option Header) (f : Fetch) (id bytes : List ℕ) (h : Header) → header_of bytes ≡ Some h → bytes_eq h.id id ≡ true
    → (v : Verdict) → (let r : Result Verdict BootStop = Ok v in r) ≡ taken f.store h → (blocks : List (List ℕ))
    → replied header_of f id (bytes ∷ blocks) ≡ with_taken f record { header = h; bytes = bytes } (Ok v) (λ f. replied header_of f h.parent blocks)
takes_on header_of f id bytes h e same v is blocks =
    takes_wanted header_of f id bytes blocks h e same
    ∙ ap (λ r. with_taken f record { header = h; bytes = bytes } r (λ f. replied header_of f h.parent blocks)) (sym is)

-- what is still to come of a reply makes of what is known what the whole reply makes of what was known
pub still_comes : (header_of : List ℕ → Option Header) (was before now : Fetch) (id wanted : List ℕ) (all left some : List (List ℕ)) → before ≡ was
    → replied header_of now wanted left ≡ replied header_of before id all → left ≡ some → replied header_of was id all ≡ replied header_of now wanted some
still_comes header_of was before now id wanted all left some same so_far is =
    ap (λ (f : Fetch). replied header_of f id all) (sym same) ∙ sym so_far ∙ ap (replied header_of now wanted) is

-- the last accepted block and the targets stay
abbrev pub SameAim : Fetch → Fetch → Type 0
SameAim f g = (g.store.last ≡ f.store.last) × (g.targets ≡ f.targets)

pub aim_verdict : (f : Fetch) (b : KeptBlock) (v : Verdict) → SameAim f (after_verdict f b v)
aim_verdict f b verdict.Keeps = (refl, refl)
aim_verdict f b verdict.Low = (refl, refl)
aim_verdict f b verdict.Known = (refl, refl)

aim_same : (f g h : Fetch) → SameAim f g → SameAim g h → SameAim f h
aim_same f g h a b = (b.0 ∙ a.0, b.1 ∙ a.1)

-- what came last
aim_ok : (f g : Fetch) → (let r : Result Fetch BootStop = Ok f in r) ≡ Ok g → SameAim f g
aim_ok f g e = (ap (λ r. (fetch_in r).store.last) (sym e), ap (λ r. (fetch_in r).targets) (sym e))
  where
    fetch_in : Result Fetch BootStop → Fetch
    fetch_in (Ok x) = x
    fetch_in (Err why) = f

aim_taken : (f g : Fetch) (b : KeptBlock) (r : Result Verdict BootStop) (more : Fetch → Result Fetch BootStop) → ((h : Fetch) → more h ≡ Ok g → SameAim h g) → with_taken f b r more ≡ Ok g → SameAim f g
aim_taken f g b (Err why) more rest e = cc
aim_taken f g b (Ok verdict.Keeps) more rest e = aim_same f (after_verdict f b verdict.Keeps) g (refl, refl) (rest (after_verdict f b verdict.Keeps) e)
aim_taken f g b (Ok verdict.Known) more rest e = rest f e
aim_taken f g b (Ok verdict.Low) more rest e = aim_same f (after_verdict f b verdict.Low) g (refl, refl) (aim_ok (after_verdict f b verdict.Low) g e)

aim_wanted : (f g : Fetch) (bytes : List ℕ) (o : Option Header) (more : Header → Fetch → Result Fetch BootStop) → ((h : Header) (x : Fetch) → more h x ≡ Ok g → SameAim x g) → with_wanted f bytes o more ≡ Ok g → SameAim f g
aim_wanted f g bytes None more rest e = aim_ok f g e
aim_wanted f g bytes (Some h) more rest e = aim_taken f g record { header = h; bytes = bytes } (taken f.store h) (more h) (rest h) e

pub replied_same : (header_of : List ℕ → Option Header) (f g : Fetch) (id : List ℕ) (blocks : List (List ℕ)) → replied header_of f id blocks ≡ Ok g → (g.store.last ≡ f.store.last) × (g.targets ≡ f.targets)
unfolding replied
replied_same header_of f g id [] e = aim_ok f g e
replied_same header_of f g id (bytes ∷ blocks) e =
    aim_wanted f g bytes (if_wanted id (header_of bytes)) (λ h x. replied header_of x h.parent blocks) (λ h x more. replied_same header_of x g h.parent blocks more) e
