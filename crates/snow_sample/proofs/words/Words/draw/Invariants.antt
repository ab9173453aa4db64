-- The draws so far are made, each took a word, and each node's slot has their place. There is room for the others.
use Rattle.std.proofs.Common.{◌≤◌, length}
use Rattle.std.specs.Vec.{vec_capacity}
use Rattle.snow_sample.specs.Kept.Drawn.{unit_at, AreMoves, HasSlots}
use Rattle.snow_sample.proofs.Drawing.{Drawing}
use Rattle.snow_sample.proofs.words.Words.draw.Given as goal

abbrev pub invariant-loop-j : goal.invariant-loop-j
invariant-loop-j l =
    Drawing l.roster l.k l.j l.initial.self-inside.line l.self-inside.line (unit_at l.self-inside.room.shuffle.near.items l.self-inside.room.shuffle.moved.items l.self-inside.room.shuffle.later) l.out × HasSlots l.roster l.self-inside.room.places.slots.items l.out
    × (length l.self-inside.room.shuffle.moved.items ≤ l.j) × (l.k ≤ length l.self-inside.room.shuffle.near.items)
    × (l.k ≤ vec_capacity l.self-inside.room.shuffle.moved)
    × AreMoves l.self-inside.room.shuffle.mask l.self-inside.room.shuffle.moved.items l.self-inside.room.shuffle.lasts.items
