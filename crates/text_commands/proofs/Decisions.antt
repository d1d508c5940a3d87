-- What is decided, from the parts.
use Rattle.std.proofs.Common.{◌≡◌, List, ℕ, [], ◌∷◌, map, refl, Result, Ok, Err}
use Rattle.std.specs.Prelude.{IfOk}
use Rattle.tx_code.specs.Objects.{ObjectView}
use Rattle.object_bytes.specs.Spelling.{Spells, object_bytes}
use Rattle.object_bytes.specs.Objects.{decoded}
use Rattle.assembly_text.specs.Lines.{Writes, text_of}
use Rattle.code_asm.specs.Answers.{IsWritten, IsFirstWrong}
use Rattle.command_io.specs.Writes.{written_of, to_out, to_file}
use Rattle.tx_answers.specs.declared.answer.Status.TheVariants.{Done, Refused}
use Rattle.tx_answers.specs.declared.ends.Decision.{Decision}
use Rattle.tx_answers.specs.Ends.{Refuses, bad_object_line, bare}
use Rattle.text_commands.specs.TextCommands.{Disassembles, prints, spells_nothing, Assembles, puts, writes_nothing, bad_asm_line}

module _ {E : Type 0} (name : List ℕ) where
  pub disassembles : (bytes : List ℕ) (o : ObjectView) (r : Result Decision E) → Spells o bytes → IfOk r (λ d. d.answer ≡ bare Done)
      → IfOk r (λ d. map written_of d.writes.items ≡ to_out (text_of o) ∷ [])
      → IfOk r (λ d. Disassembles name bytes d.answer (map written_of d.writes.items))
  disassembles bytes o (Ok d) spells answer writes = prints o (record { spells = spells; answer = answer; writes_are = writes })
  disassembles bytes o (Err e) spells answer writes = tt

  pub disassembles_none : (bytes : List ℕ) (at : ℕ) (r : Result Decision E) → ((o : ObjectView) → Spells o bytes → ⊥) → decoded bytes ≡ Err at
      → IfOk r (λ d. Refuses 11 (bad_object_line name at) Refused d.answer (map written_of d.writes.items))
      → IfOk r (λ d. Disassembles name bytes d.answer (map written_of d.writes.items))
  disassembles_none bytes at (Ok d) none first refuses = spells_nothing at (record { none = none; first = first; refuses = refuses })
  disassembles_none bytes at (Err e) none first refuses = tt

  pub assembles : (to text : List ℕ) (o : ObjectView) (r : Result Decision E) → IsWritten o text → IfOk r (λ d. d.answer ≡ bare Done)
      → IfOk r (λ d. map written_of d.writes.items ≡ to_file to (object_bytes o) ∷ [])
      → IfOk r (λ d. Assembles name to text d.answer (map written_of d.writes.items))
  assembles to text o (Ok d) is answer writes =
      puts o (record {
        bytes = object_bytes o;
        of_text = is.writes;
        spells = record { object = is.object; wide = is.wide; bytes_are = refl };
        answer = answer;
        writes_are = writes;
      })
  assembles to text o (Err e) is answer writes = tt

  pub assembles_none : (to text : List ℕ) (line : ℕ) (r : Result Decision E) → ((o : ObjectView) → IsWritten o text → ⊥) → IsFirstWrong text line
      → IfOk r (λ d. Refuses 14 (bad_asm_line name line) Refused d.answer (map written_of d.writes.items))
      → IfOk r (λ d. Assembles name to text d.answer (map written_of d.writes.items))
  assembles_none to text line (Ok d) none first refuses =
      writes_nothing line (record {
        none = λ o bytes writes spells. none o (record { writes = writes; object = spells.object; wide = spells.wide });
        first =
            first;
        refuses = refuses;
      })
  assembles_none to text line (Err e) none first refuses = tt
