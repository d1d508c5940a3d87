-- What the loop over the lines of a text gives.
use Rattle.std.specs.Prelude.{◌≡◌, ℕ, List, Some, Result, Ok, Err}
use Rattle.tx_code.specs.declared.object.Object.{Object}
use Rattle.tx_code.specs.Objects.{object_view}
use Rattle.code_asm.specs.declared.fault.Stop.{Stop}
use Rattle.code_asm.specs.declared.fault.Stop.TheVariants as stop
use Rattle.code_asm.specs.declared.fault.AsmFault.{AsmFault}
use Rattle.code_asm.specs.declared.fault.AsmFault.TheVariants.{BadAsm, Memory}
use Rattle.code_asm.specs.declared.assembling.Behind.{Behind}
use Rattle.assembly_text.specs.Lines.{Line}
use Rattle.code_asm.specs.Steps.{State, step, is_nil}
use Rattle.code_asm.specs.Views.{state_of}
use Rattle.code_asm.specs.Answers.{NoLine, LeadsTo, IsFirstWrong}
use Rattle.assembly_text.specs.Front.{LineHere}

-- a line was taken
pub record OneLine (s : State) (text : List ℕ) (t : State) (rest : List ℕ) : Type 0 where
  pub line : Line
  pub here : LineHere text line rest
  pub taken : step s line (is_nil rest) ≡ Some t

abbrev pub TookLine : State → List ℕ → Result Behind Stop → Type 0
TookLine s text (Ok b) = OneLine s text (state_of b.assembly) b.rest.now
TookLine s text (Err stop.Wrong) = NoLine s text
TookLine s text (Err stop.Memory) = Unit {0}

abbrev pub IsRun : List ℕ → Result Object AsmFault → Type 0
IsRun text (Ok object) = LeadsTo text (object_view object)
IsRun text (Err (BadAsm line)) = IsFirstWrong text line
IsRun text (Err Memory) = Unit {0}
