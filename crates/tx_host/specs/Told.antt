-- What a host tells of what went in and out.
use Rattle.std.specs.Prelude.{◌≡◌, ℕ, ◌<◌, ◌≤◌, ◌+◌, ◌-◌, ◌^◌, List, [], ◌∷◌, ◌++◌, ◌⊎◌, Option, Some, None, unwrap_or, take, min, if◌then◌else◌}
use Rattle.std.specs.Str.{bytes_eq}

-- a read that answered: the name, the limit and the bytes
pub record Seen : Type 0 where
  pub name : List ℕ
  pub limit : ℕ
  pub bytes : List ℕ

-- the bytes of the file of each name, none where there is no such file
abbrev pub Files : Type 0
Files = List ℕ → Option (List ℕ)

-- the list of reads with one more
abbrev pub with_read : List Seen → List ℕ → ℕ → List ℕ → List Seen
with_read old name limit bytes = old ++ (record { name = name; limit = limit; bytes = bytes }) ∷ []

-- what is told with these bytes at its end, where it is told
abbrev pub with_more : Option (List ℕ) → List ℕ → Option (List ℕ)
with_more None bytes = None
with_more (Some old) bytes = Some (old ++ bytes)

-- the files with exactly these bytes at the name, and each other name as it was
abbrev pub set_file : Files → List ℕ → List ℕ → Files
set_file files name bytes = λ other. if bytes_eq other name then Some bytes else files other

-- the told files with exactly these bytes at the name, where they are told
abbrev pub with_file : Option Files → List ℕ → List ℕ → Option Files
with_file None name bytes = None
with_file (Some files) name bytes = Some (set_file files name bytes)

-- the bytes are the file of that name, or the first `limit + 1` of them where it has more, as far as files are told;
-- where a host reads a name that has no file, it reads an empty one
abbrev pub IsFront : Option Files → List ℕ → ℕ → List ℕ → Type 0
IsFront None name limit bytes = Unit {0}
IsFront (Some files) name limit bytes = bytes ≡ take (limit + 1) (unwrap_or (files name) [])

-- the first is at the front of the second
abbrev pub IsPrefix : List ℕ → List ℕ → Type 0
IsPrefix part whole = (rest : List ℕ) × (whole ≡ part ++ rest)

-- a prefix of the bytes was written at the end, where it is told
pub record GainsPart (old new : Option (List ℕ)) (bytes : List ℕ) : Type 0 where
  pub part : List ℕ
  pub front : IsPrefix part bytes
  pub gained : new ≡ with_more old part

-- the file of that name has become a prefix of the bytes, where files are told
pub record SetsPart (old new : Option Files) (name bytes : List ℕ) : Type 0 where
  pub part : List ℕ
  pub front : IsPrefix part bytes
  pub changed : new ≡ with_file old name part

-- a fault was counted, or the count stood at its last value
abbrev pub HasRisen : ℕ → ℕ → Type 0
HasRisen old new = (old < new) ⊎ (old ≡ 2 ^ 64 - 1)

-- what a host tells at one moment: what each file holds, where it tells it, the reads that answered, the bytes written to the output
-- and to the error output, where it tells them, and how many calls failed
pub record HostState : Type 0 where
  pub files : Option Files
  pub seen : List Seen
  pub out : Option (List ℕ)
  pub err : Option (List ℕ)
  pub faults : ℕ

-- the host after a read that answered, and after a write of the output, of the error output, of a file
abbrev pub after_read : HostState → List ℕ → ℕ → List ℕ → HostState
after_read host name limit bytes = record host { seen = with_read host.seen name limit bytes }

abbrev pub after_out : HostState → List ℕ → HostState
after_out host bytes = record host { out = with_more host.out bytes }

abbrev pub after_err : HostState → List ℕ → HostState
after_err host bytes = record host { err = with_more host.err bytes }

abbrev pub after_file : HostState → List ℕ → List ℕ → HostState
after_file host name bytes = record host { files = with_file host.files name bytes }

-- a call failed, and a fault was counted; the count never falls
pub record CountsFault (old new : ℕ) : Type 0 where
  pub risen : HasRisen old new
  pub kept : old ≤ new

-- a read failed: nothing else changed
pub record FailsRead (old new : HostState) : Type 0 where
  pub fault : CountsFault old.faults new.faults
  pub rest : new ≡ record old { faults = new.faults }

-- a write failed: a prefix of the bytes was written, and nothing else changed
pub record FailsOut (old new : HostState) (bytes : List ℕ) : Type 0 where
  pub fault : CountsFault old.faults new.faults
  pub part : GainsPart old.out new.out bytes
  pub rest : new ≡ record old { out = new.out; faults = new.faults }

pub record FailsErr (old new : HostState) (bytes : List ℕ) : Type 0 where
  pub fault : CountsFault old.faults new.faults
  pub part : GainsPart old.err new.err bytes
  pub rest : new ≡ record old { err = new.err; faults = new.faults }

pub record FailsFile (old new : HostState) (name bytes : List ℕ) : Type 0 where
  pub fault : CountsFault old.faults new.faults
  pub part : SetsPart old.files new.files name bytes
  pub rest : new ≡ record old { files = new.files; faults = new.faults }

-- one more, where a count stands still at its last value
abbrev pub one_more : ℕ → ℕ
one_more n = min (n + 1) (2 ^ 64 - 1)
