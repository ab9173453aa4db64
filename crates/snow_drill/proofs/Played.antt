-- A player goes where the drill goes.
use Rattle.std.proofs.Common.{◌≡◌, ℕ, ◌+◌, List, [], ◌∷◌, ◌++◌, Result, Ok, Err, Some, sym, ap, ◌∙◌, subst, fold}
use Rattle.std.specs.Prelude.{IfOk}
use Rattle.std.proofs.lemmas.Result.{IfOk-weaker}
use Rattle.sha2.specs.Sha256.{sha256}
use Rattle.snow_base.specs.declared.block.Header.{Header}
use Rattle.snow_lines.specs.declared.line.Line.{Line}
use Rattle.snow_lines.specs.Model.Text.{texts}
use Rattle.snow_wire.specs.declared.event.Event.{Event}
use Rattle.snow_wire.specs.declared.event.Event.TheVariants as event
use Rattle.snow_engine.specs.Kept.Staging.{Comes}
use Rattle.snow_drill.specs.declared.player.Player.{Player}
use Rattle.snow_drill.specs.declared.tally.Asked.{Asked}
use Rattle.snow_drill.specs.Model.Generator.{following, last_of, values, picked}
use Rattle.snow_drill.specs.Kept.Told.{Told, answering}
use Rattle.snow_drill.specs.Model.Made.{height_in, chosen_by, voted_by, bytes_of, headed}
use Rattle.snow_drill.specs.Model.First.{node}
use Rattle.snow_drill.specs.Model.Drill.{Step, Drill, comes, with_event, timed_out, with_timeouts, with_words, with_vote, with_votes, with_answer, with_bytes, with_child, with_block, played, opened}
use Rattle.snow_drill.specs.Model.Summary.{summary_of, drilled}
use Rattle.snow_drill.specs.Kept.Following.{Takes, Digests, Plays, Opens, Follows}

module _ {N : Type 0} (step : Step N) where
  -- an event and its Timeouts
  pub follows_made : (p mid after : Player N) (e : Event) (log : List Line) → Follows p mid (λ d. with_event step d e)
      → ((d : Drill N) → Plays p d → log ≡ (comes step d e).0)
      → Follows mid after (λ d. fold (timed_out step) d log) → Follows p after (λ d. with_timeouts step d e)
  unfolding with_timeouts
  follows_made p mid after e log first logs later d h =
      subst (λ (lines : List Line). Plays after (fold (timed_out step) (with_event step d e) lines)) (logs d h) (later (with_event step d e) (first d h))

  -- only the room of the log counts
  pub follows_log : (p after : Player N) (log : List Line) (change : Drill N → Drill N) → Follows (record p { log = log }) after change → Follows p after change
  follows_log p after log change f d h = f d (record { node = h.node; frame = h.frame; x = h.x; made = h.made; told = h.told; digest = h.digest })

  -- values were taken of the generator
  turned : (p : Player N) (g x : ℕ) (d : Drill N) → g ≡ x → Plays p d → Plays (record p { generator = g }) (record d { x = x })
  turned p g x d e h = record { node = h.node; frame = h.frame; x = e; made = h.made; told = h.told; digest = h.digest }

  -- random words
  pub follows_words : (p after : Player N) (n g : ℕ) (words : List ℕ) → words ≡ values n p.generator → g ≡ last_of n p.generator
      → Follows (record p { generator = g }) after (λ d. with_timeouts step d (event.Words words)) → Follows p after (λ d. with_words step n d)
  follows_words p after n g words e last f d h =
      let at = turned p g (last_of n d.x) d (last ∙ ap (last_of n) h.x) h in
      subst (λ (ws : List ℕ). Plays after (with_timeouts step (record d { x = last_of n d.x }) (event.Words ws))) (e ∙ ap (values n) h.x) (f (record d { x = last_of n d.x }) at)

  -- a vote, sent by this peer for this block
  pub follows_vote : (p after : Player N) (number : ℕ) (peer sender : List ℕ) (g : ℕ) (id : List ℕ) → sender ≡ peer → g ≡ following p.generator
      → id ≡ voted_by p.made p.account.tally.tip (following p.generator)
      → Follows (record p { generator = g }) after (λ d. with_timeouts step d (event.Chits sender number id)) → Follows p after (λ d. with_vote step number d peer)
  follows_vote p after number peer sender g id sent e voted f d h =
      let at = turned p g (following d.x) d (e ∙ ap following h.x) h in
      let same : id ≡ voted_by d.made d.told.tip (following d.x) =
      voted ∙ ap (λ (m : List Header). voted_by m p.account.tally.tip (following p.generator)) h.made
      ∙ ap (λ (t : Told). voted_by d.made t.tip (following p.generator)) h.told
      ∙ ap (λ (x : ℕ). voted_by d.made d.told.tip (following x)) h.x in
      subst (λ (s : List ℕ). Plays after (with_timeouts step (record d { x = following d.x }) (event.Chits s number (voted_by d.made d.told.tip (following d.x))))) sent
      (subst (λ (v : List ℕ). Plays after (with_timeouts step (record d { x = following d.x }) (event.Chits sender number v))) same (f (record d { x = following d.x }) at))

  -- the oldest query is answered
  pub follows_answer : (p after : Player N) (tally : Told) (query : Asked) → Takes (Some query) p.account.tally tally
      → Follows (record p { account = record (p.account) { tally = tally } }) after (λ d. fold (with_vote step query.number) (with_words step 20 d) query.nodes)
      → Follows p after (λ d. with_answer step d)
  unfolding with_answer
  follows_answer p after tally query (later, is, taken) f d h =
      let at : Plays (record p { account = record (p.account) { tally = tally } }) (record d { told = answering d.told later }) = record {
        node = h.node;
        frame = h.frame;
        x = h.x;
        made = h.made;
        told = taken ∙ ap (λ (t : Told). answering t later) h.told;
        digest = h.digest;
      } in
      subst (λ (asked : List Asked). Plays after (with_votes step d asked)) (sym is ∙ ap (λ (t : Told). t.asked) h.told) (f (record d { told = answering d.told later }) at)

  -- a block on a parent
  pub follows_child : (p after : Player N) (number amount height : ℕ) (parent bytes peer : List ℕ) (made : List Header) → peer ≡ node 1
      → height ≡ height_in p.made parent + 1 → bytes ≡ bytes_of parent height amount number → made ≡ p.made ++ headed parent height bytes ∷ []
      → Follows (record p { made = made }) after (λ d. with_timeouts step d (event.Block peer 0 bytes))
      → Follows p after (λ d. with_bytes step d parent (height_in d.made parent + 1) (bytes_of parent (height_in d.made parent + 1) amount number))
  follows_child p after number amount height parent bytes peer made first high spelled grown f d h =
      let now = d.made ++ headed parent height bytes ∷ [] in
      let at : Plays (record p { made = made }) (record d { made = now }) = record {
        node = h.node;
        frame = h.frame;
        x = h.x;
        made = grown ∙ ap (λ (m : List Header). m ++ headed parent height bytes ∷ []) h.made;
        told = h.told;
        digest = h.digest;
      } in
      subst (λ (k : ℕ). Plays after (with_bytes step d parent k (bytes_of parent k amount number))) (high ∙ ap (λ (m : List Header). height_in m parent + 1) h.made)
      (subst (λ (b : List ℕ). Plays after (with_bytes step d parent height b)) spelled
      (subst (λ (n : List ℕ). Plays after (with_timeouts step (record d { made = now }) (event.Block n 0 bytes))) first (f (record d { made = now }) at)))

  -- a block, by two values
  pub follows_block : (p after : Player N) (number g amount : ℕ) (parent : List ℕ) → g ≡ following (following p.generator)
      → parent ≡ chosen_by p.made p.account.tally.tip (following p.generator) → amount ≡ picked 1000 (following (following p.generator))
      → Follows (record p { generator = g }) after (λ d. with_bytes step d parent (height_in d.made parent + 1) (bytes_of parent (height_in d.made parent + 1) amount number))
      → Follows p after (λ d. with_block step d number)
  follows_block p after number g amount parent e chosen priced f d h =
      let turn = λ (x : ℕ). following (following x) in
      let next = record d { x = turn d.x } in
      let at = turned p g (turn d.x) d (e ∙ ap turn h.x) h in
      let same : parent ≡ chosen_by d.made d.told.tip (following d.x) =
      chosen ∙ ap (λ (m : List Header). chosen_by m p.account.tally.tip (following p.generator)) h.made
      ∙ ap (λ (t : Told). chosen_by d.made t.tip (following p.generator)) h.told
      ∙ ap (λ (x : ℕ). chosen_by d.made d.told.tip (following x)) h.x in
      subst (λ (q : List ℕ). Plays after (with_child step next number q)) same
      (subst (λ (a : ℕ). Plays after (with_bytes step next parent (height_in next.made parent + 1) (bytes_of parent (height_in next.made parent + 1) a number)))
      (priced ∙ ap (λ (x : ℕ). picked 1000 (turn x)) h.x) (f next at))

  -- the summary of a whole drill
  pub drilled_so : {E : Type 0} (seed blocks : ℕ) (begun : Comes N) (before after : Player N) (text : Result (List ℕ) E) → Opens before seed begun
      → Follows before after (λ d. played step blocks d)
      → ((lines : List Line) → Digests after.account lines → IfOk text (λ t. t ≡ summary_of blocks after.account.tally (sha256 (texts lines))))
      → IfOk text (λ t. t ≡ drilled step seed blocks begun)
  unfolding drilled
  drilled_so seed blocks (lines, Ok node) before after text opens follows tells =
      let done = played step blocks (opened seed lines node) in
      let p = follows (opened seed lines node) opens in
      IfOk-weaker text _ _ (λ t e. e ∙ ap (λ (told : Told). summary_of blocks told (sha256 (texts done.lines))) p.told) (tells done.lines p.digest)
  drilled_so seed blocks (lines, Err stop) before after text opens follows tells = absurd opens
