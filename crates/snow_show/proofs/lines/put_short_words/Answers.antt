use Rattle.snow_show.proofs.Brevity.{words_end, words_step}
use Rattle.snow_show.proofs.Putting.{going_ends, going_on}
use Rattle.snow_show.proofs.lines.put_short_words.Goals as goal

pub loop-word-preserved : goal.loop-word-preserved
loop-word-preserved c =
    going_on _ _ _ _ _ _ _ c.loop-word.invariant c.in_ok-put_short_word.ensures
    (words_step _ _ _ _ _ _ c.in-Some.ensures.part c.next-in-Some.ensures c.later-kinds.ensures c.next.ensures.rest)

pub returns : goal.returns
returns c = going_ends _ _ _ _ c.loop-word.invariant (words_end _ _ c.in_default.ensures.part)
