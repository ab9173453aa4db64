use Rattle.snow_text.proofs.Streamed.{found_long}
use Rattle.snow_text.proofs.streaming.Shower.show_next.Goals as goal

pub returns-in-Err-clause-shows : goal.returns-in-Err-clause-shows
returns-in-Err-clause-shows g c =
    found_long c.args.self.now.form c.args.self.now.decoder c.next.follows.lender-at-none (g.O.Sink.written c.args.sink.now) c.in-Err.ensures.answer.0 c.next.follows.holds-at-none
