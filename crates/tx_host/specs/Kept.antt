-- What a host in memory keeps, as a host tells it.
use Rattle.std.specs.Prelude.{ℕ, List, find, Vec, string_bytes}
use Rattle.std.specs.Option.{option_map}
use Rattle.std.specs.Str.{bytes_eq}
use Rattle.std.specs.declared.string.String.{String}
use Rattle.tx_host.specs.Told.{Seen, Files}
use Rattle.tx_host.specs.declared.kept.Read.{Read}

-- a kept read
abbrev pub seen_of : Read → Seen
seen_of r = record { name = string_bytes r.name; limit = r.limit; bytes = r.bytes.items }

-- the files of a list of names with their bytes; where a name stands twice, the first counts
abbrev pub files_of : {Y Z : Type 0} → List (String Y × Vec ℕ Z) → Files
files_of files name = option_map (λ file. file.1.items) (find (λ file. bytes_eq (string_bytes file.0) name) files)
