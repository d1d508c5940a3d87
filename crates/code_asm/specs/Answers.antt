-- What assembling a text answers.
use Rattle.std.specs.Prelude.{◌≡◌, true, ℕ, ◌+◌, List, [], Some, None, Result, Ok, Err}
use Rattle.tx_code.specs.declared.object.Object.{Object}
use Rattle.tx_code.specs.Objects.{ObjectView, object_view}
use Rattle.tx_code.specs.WellFormed.{IsObject}
use Rattle.object_bytes.specs.Spelling.{is_wide}
use Rattle.code_asm.specs.declared.fault.AsmFault.{AsmFault}
use Rattle.code_asm.specs.declared.fault.AsmFault.TheVariants.{BadAsm, Memory}
use Rattle.assembly_text.specs.Lines.{Line, Writes}
use Rattle.assembly_text.specs.Front.{LineHere}
use Rattle.code_asm.specs.Steps.{State, start, step, Ended, is_nil}

-- Behind the lines before the line of this number the state is reached, and the rest is left.
pub data Reaches (text : List ℕ) : (number : ℕ) → State → (rest : List ℕ) → Type 0 where
  begins : Reaches text 1 start text
  goes_on : {number : ℕ} {s t : State} {left rest : List ℕ} (l : Line) → Reaches text number s left → LineHere left l rest → step s l (is_nil rest) ≡ Some t
      → Reaches text (number + 1) t rest

-- the text leads to the end of the object
pub record LeadsTo (text : List ℕ) (o : ObjectView) : Type 0 where
  pub number : ℕ
  pub reached : Reaches text number (record { object = o; place = Ended }) []

-- no line that may stand here begins the rest
abbrev pub NoLine : State → List ℕ → Type 0
NoLine s rest = (l : Line) (tail : List ℕ) → LineHere rest l tail → step s l (is_nil tail) ≡ None

-- The line of this number, counted from 1, is the first that has not its form or its place, or breaks a condition with the lines
-- before it; or it is the one behind the last line of a text that ends too early.
pub record IsFirstWrong (text : List ℕ) (number : ℕ) : Type 0 where
  pub state : State
  pub rest : List ℕ
  pub reached : Reaches text number state rest
  pub no_line : NoLine state rest
  pub too_early : rest ≡ [] → state.place ≡ Ended → ⊥

-- some bytes spell the object, and the text writes it
pub record IsWritten (o : ObjectView) (text : List ℕ) : Type 0 where
  pub writes : Writes o text
  pub object : IsObject o
  pub wide : is_wide o ≡ true

-- no answer but this object
abbrev pub IsThat : Result Object AsmFault → ObjectView → Type 0
IsThat (Ok object) o = object_view object ≡ o
IsThat (Err (BadAsm line)) o = ⊥
IsThat (Err Memory) o = Unit {0}

-- a fault names the first wrong line
abbrev pub IsFault : Result Object AsmFault → List ℕ → Type 0
IsFault (Ok object) text = Unit {0}
IsFault (Err (BadAsm line)) text = IsFirstWrong text line
IsFault (Err Memory) text = Unit {0}
