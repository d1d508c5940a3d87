-- What a command comes to: the files that it reads, what it decides on their texts, and what it writes then.
use Rattle.std.specs.Prelude.{◌≡◌, ◌⊎◌, ℕ, List}
use Rattle.tx_host.specs.Told.{HostState}
use Rattle.tx_host.specs.declared.faults.WriteFault.TheVariants.{Failed, Memory}
use Rattle.command_io.specs.Reads.{Wanted, ReadsWithin, PassesLimit, FailsToRead, ReadsSome}
use Rattle.command_io.specs.Writes.{Written, StopsWriting, after_writes}

-- `Decides texts a writes`: on these texts the command answers `a` and writes this.
-- `Limits w a writes`: where the text of `w` passes its limit, it answers `a` and writes this.
module _ {A : Type 0} (wants : List Wanted) (Decides : List (List ℕ) → A → List Written → Type 0) (Limits : Wanted → A → List Written → Type 0) where
  -- all files were read, and this was decided
  pub record DecidesOn (old : HostState) (a : A) (writes : List Written) (new : HostState) : Type 0 where
    pub texts : List (List ℕ)
    pub reads : ReadsWithin old wants texts new
    pub decides : Decides texts a writes

  -- a file passed its limit, and this was decided
  pub record LimitsOn (old : HostState) (a : A) (writes : List Written) (new : HostState) : Type 0 where
    pub index : ℕ
    pub w : Wanted
    pub passes : PassesLimit old wants index w new
    pub limits : Limits w a writes

  -- what was decided, before anything is written
  abbrev pub Comes : HostState → A → List Written → HostState → Type 0
  Comes old a writes new = DecidesOn old a writes new ⊎ LimitsOn old a writes new

  -- the command answers: all is written
  pub record Answered (old : HostState) (a : A) (new : HostState) : Type 0 where
    pub writes : List Written
    pub between : HostState
    pub comes : Comes old a writes between
    pub written : new ≡ after_writes between writes

  -- a write failed
  pub record FailsLater (old new : HostState) : Type 0 where
    pub a : A
    pub writes : List Written
    pub between : HostState
    pub comes : Comes old a writes between
    pub stops : StopsWriting between writes new Failed

  -- memory ran out where a file had passed its limit, and nothing was written
  pub record EndsAtLimit (old new : HostState) : Type 0 where
    pub index : ℕ
    pub w : Wanted
    pub passes : PassesLimit old wants index w new

  -- memory ran out at a write
  pub record EndsLater (old new : HostState) : Type 0 where
    pub a : A
    pub writes : List Written
    pub between : HostState
    pub comes : Comes old a writes between
    pub stops : StopsWriting between writes new Memory

  -- a call of the host failed, and none came after it
  abbrev pub HostFails : HostState → HostState → Type 0
  HostFails old new = FailsToRead old wants new ⊎ FailsLater old new

  -- memory ran out: before anything was written, or at a write
  abbrev pub RunsOut : HostState → HostState → Type 0
  RunsOut old new = ReadsSome old wants new ⊎ (EndsAtLimit old new ⊎ EndsLater old new)
