-- The verdict on some sources before the link: the first refusal, or their typed program, which is safe.
use Rattle.std.specs.Prelude.{◌≡◌, ℕ, List, ◌++◌, codes, Some, slice_get, map}
use Rattle.cpp_ast.specs.declared.units.Unit.{Unit as UnitRecord}
use Rattle.cpp_tree.specs.cpp_types.declared.classes.At.{At}
use Rattle.cpp_tree.specs.declared.faults.ElabFault.{ElabFault}
use Rattle.cpp_tree.specs.declared.faults.ElabFault.TheVariants.{Ill, Override, JumpIntoBlock, Limit, Memory}
use Rattle.cpp_tree.specs.declared.faults.UnsafeReason.{UnsafeReason}
use Rattle.cpp_tree.specs.declared.program.Program.{Program}
use Rattle.cpp_tree.specs.Units.{program_of}
use Rattle.tx_safety.specs.Safe.{IsSafe, FirstUnsafe}
use Rattle.offset_bounds.specs.Fitting.{OffsetsFit}
use Rattle.command_io.specs.Writes.{Written, written_of}
use Rattle.tx_answers.specs.Ends.{Refuses}
use Rattle.tx_answers.specs.declared.answer.Answer.{Answer}
use Rattle.tx_answers.specs.declared.answer.Status.{Status}
use Rattle.tx_answers.specs.declared.answer.Status.TheVariants.{Refused, Limit as PassesLimit}
use Rattle.tx_safety.specs.Answers.{checked_in}
use Rattle.cpp_tree.specs.WellFormed.{WellFormed}
use Rattle.source_verdict.specs.declared.judging.Verdict.{Verdict as VerdictOf}
use Rattle.source_verdict.specs.declared.judging.Verdict.TheVariants.{Accepted, Refused as RefusedBy}
use Rattle.source_verdict.specs.declared.front.FrontFault.{FrontFault}
use Rattle.source_verdict.specs.declared.front.FrontFault.TheVariants as front
use Rattle.source_verdict.specs.declared.front.Unread.{Unread}
use Rattle.source_verdict.specs.Elaborated.{HasProgram, HasFault}
use Rattle.source_verdict.specs.Front.{AreRead, IsFirstUnread}
use Rattle.source_verdict.specs.Places.{place_line}
use Rattle.source_verdict.specs.Names.{ill_name, override_name, reason_name, limit_name}

-- the refusal names a place in one of the texts
pub record RefusesAt (names texts : List (List ℕ)) (source offset number : ℕ) (what : List ℕ) (status : Status) (a : Answer)
    (writes : List Written) : Type 0 where
  pub name : List ℕ
  pub text : List ℕ
  pub name_is : slice_get names source ≡ Some name
  pub text_is : slice_get texts source ≡ Some text
  pub refuses : Refuses number (place_line name text offset what) status a writes

abbrev pub RefusesFront : (names texts : List (List ℕ)) → (index : ℕ) → FrontFault → Answer → List Written → Type 0
RefusesFront names texts index (front.Lex offset) a writes = RefusesAt names texts index offset 1 (codes "Lex") Refused a writes
RefusesFront names texts index (front.Syntax offset) a writes = RefusesAt names texts index offset 2 (codes "Syntax") Refused a writes
RefusesFront names texts index (front.Nesting offset) a writes = RefusesAt names texts index offset 7 (codes "Limit Nesting") PassesLimit a writes
RefusesFront names texts index front.Memory a writes = ⊥

abbrev pub RefusesFault : (names texts : List (List ℕ)) → ElabFault → Answer → List Written → Type 0
RefusesFault names texts (Ill at rule) a writes = RefusesAt names texts at.source at.offset 3 (codes "Ill " ++ ill_name rule) Refused a writes
RefusesFault names texts (Override at rule) a writes = RefusesAt names texts at.source at.offset 5 (codes "Override " ++ override_name rule) Refused a writes
RefusesFault names texts (JumpIntoBlock at) a writes = RefusesAt names texts at.source at.offset 6 (codes "JumpIntoBlock") Refused a writes
RefusesFault names texts (Limit at which) a writes = RefusesAt names texts at.source at.offset 7 (codes "Limit " ++ limit_name which) PassesLimit a writes
RefusesFault names texts Memory a writes = ⊥

-- The first refusal of the texts: the first that is no unit, the fault of elaboration, or the first unsafe node of their program.
pub data RefusesTexts (names texts : List (List ℕ)) (a : Answer) (writes : List Written) : Type 0 where
  unread : (u : Unread) → IsFirstUnread texts u → RefusesFront names texts u.index u.fault a writes → RefusesTexts names texts a writes
  faulty : (units : List UnitRecord) (fault : ElabFault) → AreRead 0 texts units → HasFault texts fault → RefusesFault names texts fault a writes
      → RefusesTexts names texts a writes
  unsafe_part : (units : List UnitRecord) (p : Program) (at : At) (reason : UnsafeReason) → AreRead 0 texts units → HasProgram texts (program_of p)
      → FirstUnsafe (program_of p) at reason
      → RefusesAt names texts at.source at.offset 4 (codes "Unsafe " ++ reason_name reason) Refused a writes → RefusesTexts names texts a writes

-- each text is a unit, and the program is theirs, well formed and safe; its offsets have 32 bits
pub record Accepts (texts : List (List ℕ)) (p : Program) : Type 0 where
  pub units : List UnitRecord
  pub read : AreRead 0 texts units
  pub elaborated : HasProgram texts (program_of p)
  pub well_formed : WellFormed p
  pub safe : IsSafe (program_of p)
  pub offsets : OffsetsFit (program_of p)

-- what the verdict says of the texts, whose files have these names
abbrev pub Says : (names texts : List (List ℕ)) → VerdictOf → Type 0
Says names texts (Accepted safe) = Accepts texts (checked_in safe)
Says names texts (RefusedBy d) = RefusesTexts names texts d.answer (map written_of d.writes.items)
