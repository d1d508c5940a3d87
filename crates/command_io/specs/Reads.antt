-- Files that are read in order, each within its limit.
use Rattle.std.specs.Prelude.{◌≡◌, ◌≤◌, ◌<◌, ℕ, ◌+◌, List, [], ◌∷◌, ◌++◌, map, length, Option, Some, None, codes}
use Rattle.tx_host.specs.Told.{HostState, IsFront, FailsRead, after_read}
use Rattle.command_io.specs.declared.files.FileKind.{FileKind}
use Rattle.command_io.specs.declared.files.FileKind.TheVariants.{Source, Input, Schedule, Object, Text}
use Rattle.command_io.specs.declared.files.Unread.{Unread}
use Rattle.command_io.specs.declared.files.Unread.TheVariants.{TooLong, Failed, Memory}
use Rattle.command_io.specs.declared.files.TheConstants.{GREATEST_SOURCE, GREATEST_INPUT, GREATEST_SCHEDULE, GREATEST_OBJECT, GREATEST_ASSEMBLY}

-- the greatest length of such a file, in bytes
abbrev pub limit_of : FileKind → ℕ
limit_of Source = GREATEST_SOURCE
limit_of Input = GREATEST_INPUT
limit_of Schedule = GREATEST_SCHEDULE
limit_of Object = GREATEST_OBJECT
limit_of Text = GREATEST_ASSEMBLY

abbrev pub kind_name : FileKind → List ℕ
kind_name Source = codes "Source"
kind_name Input = codes "Input"
kind_name Schedule = codes "Schedule"
kind_name Object = codes "Object"
kind_name Text = codes "Text"

-- a file that is to be read
pub record Wanted : Type 0 where
  pub kind : FileKind
  pub name : List ℕ

abbrev pub wanted : FileKind → List ℕ → Wanted
wanted kind name = record { kind = kind; name = name }

abbrev pub wanted_each : FileKind → List (List ℕ) → List Wanted
wanted_each kind names = map (wanted kind) names

-- a file that may be named or not, and its bytes
abbrev pub wanted_given : FileKind → Option (List ℕ) → List Wanted
wanted_given kind None = []
wanted_given kind (Some name) = wanted kind name ∷ []

abbrev pub bytes_of : Option (List ℕ) → List ℕ → List (List ℕ)
bytes_of None bytes = []
bytes_of (Some name) bytes = bytes ∷ []

-- the host after it read this
abbrev pub after_reading : HostState → Wanted → List ℕ → HostState
after_reading old w bytes = after_read old w.name (limit_of w.kind) bytes

-- the bytes are those of the file, or its front of one byte more than its limit
abbrev pub AreBytesOf : HostState → Wanted → List ℕ → Type 0
AreBytesOf old w bytes = IsFront old.files w.name (limit_of w.kind) bytes

-- the files were read in order, each within its limit, and these are their texts
abbrev pub ReadsWithin : HostState → List Wanted → List (List ℕ) → HostState → Type 0
ReadsWithin old [] [] new = new ≡ old
ReadsWithin old [] (text ∷ texts) new = ⊥
ReadsWithin old (w ∷ ws) [] new = ⊥
ReadsWithin old (w ∷ ws) (text ∷ texts) new =
    AreBytesOf old w text × (length text ≤ limit_of w.kind) × ReadsWithin (after_reading old w text) ws texts new

-- some of the files, from the first on, were read within their limits
pub record ReadsFront (old : HostState) (wants before after : List Wanted) (texts : List (List ℕ)) (new : HostState) : Type 0 where
  pub cut : wants ≡ before ++ after
  pub reads : ReadsWithin old before texts new

-- the next file passed its limit
pub record PassesLimit (old : HostState) (wants : List Wanted) (index : ℕ) (w : Wanted) (new : HostState) : Type 0 where
  pub before : List Wanted
  pub after : List Wanted
  pub texts : List (List ℕ)
  pub between : HostState
  pub front : ReadsFront old wants before (w ∷ after) texts between
  pub at : index ≡ length before
  pub bytes : List ℕ
  pub bytes_are : AreBytesOf between w bytes
  pub long : limit_of w.kind < length bytes
  pub state : new ≡ after_reading between w bytes

-- the read of the next file failed
pub record FailsToRead (old : HostState) (wants : List Wanted) (new : HostState) : Type 0 where
  pub before : List Wanted
  pub after : List Wanted
  pub w : Wanted
  pub texts : List (List ℕ)
  pub between : HostState
  pub front : ReadsFront old wants before (w ∷ after) texts between
  pub fails : FailsRead between new

-- memory ran out: some files were read, and nothing else happened
pub record ReadsSome (old : HostState) (wants : List Wanted) (new : HostState) : Type 0 where
  pub before : List Wanted
  pub after : List Wanted
  pub texts : List (List ℕ)
  pub front : ReadsFront old wants before after texts new

-- why reading stopped
abbrev pub StopsReading : HostState → List Wanted → HostState → Unread → Type 0
StopsReading old wants new (TooLong index) = (w : Wanted) × PassesLimit old wants index w new
StopsReading old wants new Failed = FailsToRead old wants new
StopsReading old wants new Memory = ReadsSome old wants new

-- an index in a list, behind so many
abbrev pub behind : ℕ → Unread → Unread
behind n (TooLong index) = TooLong (n + index)
behind n Failed = Failed
behind n Memory = Memory

-- the same, where so many files stand before these in the list
pub record StopsBehind (n : ℕ) (old : HostState) (wants : List Wanted) (new : HostState) (u : Unread) : Type 0 where
  pub among : Unread
  pub at : u ≡ behind n among
  pub stops : StopsReading old wants new among
