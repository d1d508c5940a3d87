-- What a host in memory that never fails shows.
use Rattle.std.specs.Prelude.{ℕ, List, ◌++◌, map}
use Rattle.tx_host.specs.Told.{Seen, Files, with_read, set_file}
use Rattle.tx_host.specs.Kept.{seen_of, files_of}
use Rattle.tx_host.specs.declared.steady.SteadyHost.{SteadyHost}

-- the files, the reads that answered, the output and the error output
pub record Shown : Type 0 where
  pub files : Files
  pub seen : List Seen
  pub out : List ℕ
  pub err : List ℕ

-- what a steady host shows
abbrev pub shown : SteadyHost → Shown
shown host = record { files = files_of host.files.items; seen = map seen_of host.reads.items; out = host.out.items; err = host.err.items }

-- the host after a read that answered
abbrev pub with_seen : Shown → List ℕ → ℕ → List ℕ → Shown
with_seen host name limit bytes = record host { seen = with_read host.seen name limit bytes }

-- the host with exactly these bytes in the file of that name
abbrev pub with_written : Shown → List ℕ → List ℕ → Shown
with_written host name bytes = record host { files = set_file host.files name bytes }

-- the host with these bytes at the end of its output
abbrev pub with_out : Shown → List ℕ → Shown
with_out host bytes = record host { out = host.out ++ bytes }

-- the host with these bytes at the end of its error output
abbrev pub with_err : Shown → List ℕ → Shown
with_err host bytes = record host { err = host.err ++ bytes }
