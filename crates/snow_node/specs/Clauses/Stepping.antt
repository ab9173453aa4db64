-- What the calls of a node that decides or runs owe, where memory may run out.
use Rattle.std.specs.Prelude.{◌≡◌, List, ◌++◌, Result, Ok, Err, ⊤}
use Rattle.snow_lines.specs.declared.line.Line.{Line}
use Rattle.snow_node.specs.declared.stop.Halt.{Halt}
use Rattle.snow_node.specs.declared.stop.Halt.TheVariants as halt

-- a front of these lines was appended
pub record LogsFront (before after lines : List Line) : Type 0 where
  pub front : List Line
  pub rest : List Line
  pub whole : front ++ rest ≡ lines
  pub grown : after ≡ before ++ front

-- these lines were appended, or a front of them where memory ran out
abbrev pub Tells : {T : Type 0} → Result T Halt → List Line → List Line → List Line → Type 0
Tells (Err halt.Memory) before after lines = LogsFront before after lines
Tells result before after lines = after ≡ before ++ lines

-- this stop is expected, unless memory ran out
abbrev pub HaltsAs : {S : Type 0} → Halt → Result S Halt → Type 0
HaltsAs halt.Memory expected = ⊤
HaltsAs h expected = expected ≡ Err h

-- a step left this node, or stopped so, unless memory ran out
abbrev pub Turns : {S : Type 0} → Result (Unit {0}) Halt → S → Result S Halt → Type 0
Turns (Ok u) after expected = expected ≡ Ok after
Turns (Err h) after expected = HaltsAs h expected

-- the same for a step that gives an answer
abbrev pub Answers : {S T : Type 0} → Result T Halt → S → Result (S × T) Halt → Type 0
Answers (Ok x) after expected = expected ≡ Ok (after, x)
Answers (Err h) after expected = HaltsAs h expected
