-- The lines of a piece, once what waited was written.
use Rattle.std.proofs.Common.{◌≡◌, ℕ, List, [], append-nil, Option, Result, Ok, Err, refl, sym, subst}
use Rattle.std.specs.Io.KnownBytes.{Appends}
use Rattle.snow_base.specs.Clauses.Outside.{AppendsFront}
use Rattle.snow_base.proofs.Known.{front_of_more, front_of_whole}
use Rattle.snow_lines.specs.declared.line.Line.{Line}
use Rattle.snow_page.specs.Kept.Gathered.{Gathers}
use Rattle.snow_lines.specs.Model.Text.{texts}
use Rattle.snow_page.proofs.Waiting.{gathers_then_written, gathers_then_front}
use Rattle.snow_engine.specs.declared.end.End.{End}
use Rattle.snow_engine.specs.declared.end.End.TheVariants as end
use Rattle.snow_engine.specs.Clauses.Serving.{GathersLines, GathersFront, WritesLines}

module _ (before mid after : Option (List ℕ)) (kept : List ℕ) (lines : List Line) where
  -- all lines were gathered, and then written
  all_written : Gathers before [] mid kept (texts lines) → Appends mid after kept → Appends before after (texts lines)
  all_written g w = gathers_then_written before mid after [] kept (texts lines) (texts lines) g w refl

  -- a front of the lines was gathered, and then written
  front_written : GathersFront before [] mid kept (texts lines) → Appends mid after kept → AppendsFront before after (texts lines)
  front_written p w =
      front_of_more before after p.front p.rest (texts lines)
      (front_of_whole before after p.front (gathers_then_written before mid after [] kept p.front p.front p.gathered w refl)) p.whole

  -- what was gathered was written
  pub flushed : (result : Result (Unit {0}) End) → (result ≡ Err end.SinkFault → ⊥) → GathersLines result before [] mid kept lines → Appends mid after kept → WritesLines result before after lines
  flushed (Ok u) other g w = all_written g w
  flushed (Err end.SinkFault) other g w = absurd (other refl)
  flushed (Err end.Memory) other g w = front_written g w
  flushed (Err e) other g w = all_written g w

  -- the lines that were gathered, or that were to be
  pieces : (result : Result (Unit {0}) End) → (result ≡ Err end.SinkFault → ⊥) → GathersLines result before [] mid kept lines → GathersFront before [] mid kept (texts lines)
  pieces (Ok u) other g = record { front = texts lines; rest = []; whole = append-nil (texts lines); gathered = g }
  pieces (Err end.SinkFault) other g = absurd (other refl)
  pieces (Err end.Memory) other g = g
  pieces (Err e) other g = record { front = texts lines; rest = []; whole = append-nil (texts lines); gathered = g }

  -- the sink failed as what was gathered was written
  pub broken : (result : Result (Unit {0}) End) → (result ≡ Err end.SinkFault → ⊥) → GathersLines result before [] mid kept lines → AppendsFront mid after kept → AppendsFront before after (texts lines)
  broken result other g w =
      let p = pieces result other g in
      front_of_more before after p.front p.rest (texts lines)
      (gathers_then_front before mid after [] kept p.front [] p.front p.gathered (subst (λ (bs : List ℕ). AppendsFront mid after bs) (sym (append-nil kept)) w) (append-nil p.front)) p.whole
