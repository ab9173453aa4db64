-- The blocks of a reply, wherever they stand.
use Rattle.std.specs.Prelude.{ℕ, List}
use Rattle.snow_boot.specs.declared.reply.ReplyBlocks.{ReplyBlocks}
use Rattle.snow_boot.specs.declared.reply.ReplyBlocks.TheVariants as reply

-- those that are left
abbrev pub left : ReplyBlocks → List (List ℕ)
left (reply.Listed blocks) = blocks.now
left (reply.Packed blocks) = blocks
