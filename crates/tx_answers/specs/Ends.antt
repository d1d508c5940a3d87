-- How a command ends, whatever it decides.
use Rattle.std.specs.Prelude.{◌≡◌, ℕ, List, [], ◌∷◌, ◌++◌, Some, None, IfSome, codes, map, slice_get, Result, Ok, Err}
use Rattle.std.specs.Fmt.{decimal}
use Rattle.std.specs.declared.alloc.AllocError.{AllocError}
use Rattle.tx_host.specs.Told.{HostState}
use Rattle.tx_host.specs.declared.faults.WriteFault.TheVariants.{Failed, Memory}
use Rattle.command_io.specs.Reads.{Wanted, kind_name}
use Rattle.command_io.specs.declared.files.Unread.{Unread}
use Rattle.command_io.specs.declared.files.Unread.TheVariants.{TooLong, Failed as ReadFailed, Memory as ReadMemory}
use Rattle.command_io.specs.Writes.{Written, written_of, to_err, after_writes, StopsWriting}
use Rattle.command_io.specs.Course.{Answered, HostFails, RunsOut}
use Rattle.tx_answers.specs.declared.ends.Decision.{Decision}
use Rattle.tx_answers.specs.declared.answer.Refusal.{Refusal}
use Rattle.tx_answers.specs.declared.answer.Answer.{Answer}
use Rattle.tx_answers.specs.declared.answer.Status.{Status}
use Rattle.tx_answers.specs.declared.answer.Status.TheVariants.{HostFault, Memory as NoMemory, Limit}

-- an answer with a status alone
abbrev pub bare : Status → Answer
bare status = record { status = status; ran = None; refusal = None }

-- a refusal: its number, and its line, which the error output gains with a byte 10 at its end
pub record Refuses (number : ℕ) (line : List ℕ) (status : Status) (a : Answer) (writes : List Written) : Type 0 where
  pub refusal : Refusal
  pub answer : a ≡ record { status = status; ran = None; refusal = Some refusal }
  pub number_is : refusal.number ≡ number
  pub line_is : refusal.line.items ≡ line
  pub writes_are : writes ≡ to_err (line ++ codes "\n") ∷ []

-- the line of a file that spells no object: its first wrong field begins at this byte
abbrev pub bad_object_line : (name : List ℕ) → (at : ℕ) → List ℕ
bad_object_line name at = name ++ (codes ": BadObject " ++ decimal at)

-- the line of a file that passes its limit
abbrev pub limit_line : Wanted → List ℕ
limit_line w = w.name ++ (codes ": Limit " ++ kind_name w.kind)

abbrev pub IsLimited : Wanted → Answer → List Written → Type 0
IsLimited w a writes = Refuses 7 (limit_line w) Limit a writes

-- the command read its files and wrote what it decides, or a file passed its limit, or a call of the host failed, or memory ran out
pub data Ends (wants : List Wanted) (Decides : List (List ℕ) → Answer → List Written → Type 0) (old new : HostState) (a : Answer) : Type 0 where
  answers : Answered wants Decides IsLimited old a new → Ends wants Decides old new a
  fails : a ≡ bare HostFault → HostFails wants Decides IsLimited old new → Ends wants Decides old new a
  runs_out : a ≡ bare NoMemory → RunsOut wants Decides IsLimited old new → Ends wants Decides old new a

-- what the writes of a decision come to
pub data Finishes (old new : HostState) (decided : Answer) (writes : List Written) (a : Answer) : Type 0 where
  made : a ≡ decided → new ≡ after_writes old writes → Finishes old new decided writes a
  failed : a ≡ bare HostFault → StopsWriting old writes new Failed → Finishes old new decided writes a
  out_of_memory : a ≡ bare NoMemory → StopsWriting old writes new Memory → Finishes old new decided writes a

-- what a decision comes to, or want of memory before there was one
abbrev pub Settles : HostState → HostState → Result Decision AllocError → Answer → Type 0
Settles old new (Ok d) a = Finishes old new d.answer (map written_of d.writes.items) a
Settles old new (Err e) a = (a ≡ bare NoMemory) × (new ≡ old)

-- a file passed its limit: the refusal is written, or memory ran out before it was made
pub data AtLimit (w : Wanted) (old new : HostState) (a : Answer) : Type 0 where
  refuses : (decided : Answer) (writes : List Written) → IsLimited w decided writes → Finishes old new decided writes a → AtLimit w old new a
  no_line : a ≡ bare NoMemory → new ≡ old → AtLimit w old new a

-- what is answered and written where the files were not read to the last
abbrev pub Halts : Wanted → Unread → HostState → HostState → Answer → Type 0
Halts w (TooLong index) old new a = AtLimit w old new a
Halts w ReadFailed old new a = (a ≡ bare HostFault) × (new ≡ old)
Halts w ReadMemory old new a = (a ≡ bare NoMemory) × (new ≡ old)

-- the same, where these files were to be read
abbrev pub HaltsAmong : List Wanted → Unread → HostState → HostState → Answer → Type 0
HaltsAmong wants (TooLong index) old new a = IfSome (slice_get wants index) (λ w. AtLimit w old new a)
HaltsAmong wants ReadFailed old new a = (a ≡ bare HostFault) × (new ≡ old)
HaltsAmong wants ReadMemory old new a = (a ≡ bare NoMemory) × (new ≡ old)

-- a command of one file: what is decided on its text
abbrev pub on_one : (List ℕ → Answer → List Written → Type 0) → List (List ℕ) → Answer → List Written → Type 0
on_one Decides [] a writes = ⊥
on_one Decides (text ∷ []) a writes = Decides text a writes
on_one Decides (text ∷ next ∷ texts) a writes = ⊥
