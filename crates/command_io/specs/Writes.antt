-- What is written, in order.
use Rattle.std.specs.Prelude.{◌≡◌, ℕ, List, [], ◌∷◌, ◌++◌, string_bytes}
use Rattle.tx_host.specs.Told.{HostState, FailsOut, FailsErr, FailsFile, after_out, after_err, after_file}
use Rattle.tx_host.specs.declared.faults.WriteFault.{WriteFault}
use Rattle.tx_host.specs.declared.faults.WriteFault.TheVariants.{Failed, Memory}
use Rattle.command_io.specs.declared.writes.Write.{Write}
use Rattle.command_io.specs.declared.writes.Write.TheVariants.{Out, Err, File}

-- bytes for one call of the host
pub data Written : Type 0 where
  to_out : List ℕ → Written
  to_err : List ℕ → Written
  to_file : List ℕ → List ℕ → Written

abbrev pub written_of : Write → Written
written_of (Out bytes) = to_out bytes.items
written_of (Err bytes) = to_err bytes.items
written_of (File name bytes) = to_file (string_bytes name) bytes.items

-- the host after that
abbrev pub after_write : HostState → Written → HostState
after_write old (to_out bytes) = after_out old bytes
after_write old (to_err bytes) = after_err old bytes
after_write old (to_file name bytes) = after_file old name bytes

abbrev pub after_writes : HostState → List Written → HostState
after_writes old [] = old
after_writes old (w ∷ ws) = after_writes (after_write old w) ws

-- the call failed: a prefix of the bytes is written
abbrev pub FailsToWrite : HostState → HostState → Written → Type 0
FailsToWrite old new (to_out bytes) = FailsOut old new bytes
FailsToWrite old new (to_err bytes) = FailsErr old new bytes
FailsToWrite old new (to_file name bytes) = FailsFile old new name bytes

-- the call did not write: it failed, or for want of memory wrote nothing
abbrev pub FailsWrite : HostState → HostState → Written → WriteFault → Type 0
FailsWrite old new w Failed = FailsToWrite old new w
FailsWrite old new w Memory = new ≡ old

-- the writes before one were made, and that one was not
pub record StopsWriting (old : HostState) (writes : List Written) (new : HostState) (fault : WriteFault) : Type 0 where
  pub before : List Written
  pub after : List Written
  pub w : Written
  pub cut : writes ≡ before ++ w ∷ after
  pub stops : FailsWrite (after_writes old before) new w fault
