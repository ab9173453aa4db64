-- Each tag has its own fields, and nothing stands behind them.
use Rattle.std.proofs.Common.{rules, ◌≡◌, refl}
use Rattle.std.specs.Prelude.{Ok}
use Rattle.snow_wire.specs.declared.event.Event.TheVariants as event
use Rattle.snow_wire.specs.Model.Reading.{fields_at, single_at, event_of}
use Rattle.snow_wire.specs.Clauses.Viewed.{as_event}
use Rattle.snow_wire.proofs.view.View.read.Goals as goal
use Rattle.snow_wire.proofs.view.View.read.Goals.{After-end, in-1+in_ok-read-in-1, in-2+in_ok-read-in-2, in-3+in_ok-list-in-3, in-4+in_ok-words-in-4, in-5+in_ok-read-in-5, in-6+in_ok-read-in-6, in-7+in_ok-read-in-7, in-8+in_ok-read-in-8, in-9+in_ok-read-in-9, in-10+in_ok-slice-in-10, in-11+in_ok-nodes-in-11, in-12+in_ok-read-in-12, in-13+in_ok-read-in-13, in-14+in_ok-read-in-14, in-15+in_ok-read-in-15, in-16+in_ok-read-in-16, in-17+in_ok-slice-in-17}

fields_read : (c : After-end) → fields_at c.in_ok-u8.field-0 c.u8.new.self ≡ Ok (as_event c.match-branch-2.view, c.match-branch-2.reader)
unfolding fields_at single_at
fields_read c =
    elim c.match-branch-2.branch [
      | in-1+in_ok-read-in-1 w ↦ rw (w.in-1.is, w.view-is, w.reader-is) (w.in_ok-read-in-1.ensures)
      | in-2+in_ok-read-in-2 w ↦ rw (w.in-2.is, w.view-is, w.reader-is) (w.in_ok-read-in-2.ensures event.Block)
      | in-3+in_ok-list-in-3 w ↦ rw (w.in-3.is, w.view-is, w.reader-is, w.in_ok-list-in-3.ensures) refl
      | in-4+in_ok-words-in-4 w ↦ rw (w.in-4.is, w.view-is, w.reader-is, w.in_ok-words-in-4.ensures) refl
      | in-5+in_ok-read-in-5 w ↦ rw (w.in-5.is, w.view-is, w.reader-is) (w.in_ok-read-in-5.ensures event.Chits)
      | in-6+in_ok-read-in-6 w ↦ rw (w.in-6.is, w.view-is, w.reader-is) (w.in_ok-read-in-6.ensures event.Timeout)
      | in-7+in_ok-read-in-7 w ↦ rw (w.in-7.is, w.view-is, w.reader-is) (w.in_ok-read-in-7.ensures event.Frontier)
      | in-8+in_ok-read-in-8 w ↦ rw (w.in-8.is, w.view-is, w.reader-is) (w.in_ok-read-in-8.ensures event.Accepted)
      | in-9+in_ok-read-in-9 w ↦ rw (w.in-9.is, w.view-is, w.reader-is) (w.in_ok-read-in-9.ensures event.Ancestors)
      | in-10+in_ok-slice-in-10 w ↦ rw (w.in-10.is, w.view-is, w.reader-is, w.in_ok-slice-in-10.ensures) refl
      | in-11+in_ok-nodes-in-11 w ↦ rw (w.in-11.is, w.view-is, w.reader-is, w.in_ok-nodes-in-11.ensures) refl
      | in-12+in_ok-read-in-12 w ↦ rw (w.in-12.is, w.view-is, w.reader-is) (w.in_ok-read-in-12.ensures event.AskQuery)
      | in-13+in_ok-read-in-13 w ↦ rw (w.in-13.is, w.view-is, w.reader-is) (w.in_ok-read-in-13.ensures event.AskFrontier)
      | in-14+in_ok-read-in-14 w ↦ rw (w.in-14.is, w.view-is, w.reader-is) (w.in_ok-read-in-14.ensures event.AskAccepted)
      | in-15+in_ok-read-in-15 w ↦ rw (w.in-15.is, w.view-is, w.reader-is) (w.in_ok-read-in-15.ensures event.AskAncestors)
      | in-16+in_ok-read-in-16 w ↦ rw (w.in-16.is, w.view-is, w.reader-is) (w.in_ok-read-in-16.ensures event.AskBlock)
      | in-17+in_ok-slice-in-17 w ↦ rw (w.in-17.is, w.view-is, w.reader-is, w.in_ok-slice-in-17.ensures) refl
    ]

pub returns : goal.returns
unfolding event_of
returns c = let f = fields_read (goal.at.returns c).After-end in search rules

pub returns-in_err-end : goal.returns-in_err-end
unfolding event_of
returns-in_err-end c = let f = fields_read (goal.at.returns-in_err-end c).After-end in search rules
