-- What a host in memory shows, and which of its calls fail.
use Rattle.std.specs.Prelude.{◌≡◌, ℕ, ◌+◌, ◌/◌, List, ◌++◌, Option, Some, None, Contains, length, map, take}
use Rattle.tx_host.specs.Told.{Seen, Files, HostState, with_read, set_file, one_more}
use Rattle.tx_host.specs.Kept.{seen_of, files_of}
use Rattle.tx_host.specs.declared.mem.MemHost.{MemHost}

-- the files, the reads that answered, the output, the error output, the count of faults, the number of the next call,
-- and the numbers of the calls that fail
pub record Shown : Type 0 where
  pub files : Files
  pub seen : List Seen
  pub out : List ℕ
  pub err : List ℕ
  pub faults : ℕ
  pub calls : ℕ
  pub fails : List ℕ

-- what it tells of that
abbrev pub told : Shown → HostState
told host = record { files = Some host.files; seen = host.seen; out = Some host.out; err = Some host.err; faults = host.faults }

-- what a host in memory shows
abbrev pub shown : MemHost → Shown
shown host = record {
  files = files_of host.files.items;
  seen = map seen_of host.reads.items;
  out = host.out.items;
  err = host.err.items;
  faults = host.faults.value;
  calls = host.calls.value;
  fails = host.fails.items;
}

-- the next call is one of those that fail
abbrev pub IsToFail : Shown → Type 0
IsToFail host = Contains host.fails host.calls

-- the host after one more call
abbrev pub counted : Shown → Shown
counted host = record host { calls = one_more host.calls }

-- the host after one more fault
abbrev pub faulted : Shown → Shown
faulted host = record host { faults = one_more host.faults }

-- the host after a read that answered
abbrev pub with_seen : Shown → List ℕ → ℕ → List ℕ → Shown
with_seen host name limit bytes = record host { seen = with_read host.seen name limit bytes }

-- the host with exactly these bytes in the file of that name
abbrev pub with_written : Shown → List ℕ → List ℕ → Shown
with_written host name bytes = record host { files = set_file host.files name bytes }

-- the host with these bytes at the end of its output
abbrev pub with_out : Shown → List ℕ → Shown
with_out host bytes = record host { out = host.out ++ bytes }

-- the host with these bytes at the end of its error output
abbrev pub with_err : Shown → List ℕ → Shown
with_err host bytes = record host { err = host.err ++ bytes }

-- the bytes are the front of a file that is there
abbrev pub IsHeldFront : Option (List ℕ) → ℕ → List ℕ → Type 0
IsHeldFront None limit bytes = ⊥
IsHeldFront (Some whole) limit bytes = bytes ≡ take (limit + 1) whole

-- the first half, rounded down
abbrev pub half : List ℕ → List ℕ
half bytes = take (length bytes / 2) bytes
