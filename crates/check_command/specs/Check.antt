-- What `check` comes to.
use Rattle.std.specs.Prelude.{◌≡◌, ◌≤◌, ◌<◌, ℕ, Bool, false, List, [], ◌∷◌, length, map, codes, string_bytes}
use Rattle.cpp_tree.specs.declared.program.Program.{Program}
use Rattle.command_io.specs.Reads.{Wanted, wanted_each}
use Rattle.command_io.specs.declared.files.FileKind.TheVariants.{Source}
use Rattle.command_io.specs.Writes.{Written, to_out}
use Rattle.source_verdict.specs.Verdict.{Accepts, RefusesTexts}
use Rattle.tx_answers.specs.Ends.{Ends, Refuses, bare}
use Rattle.tx_answers.specs.declared.answer.Answer.{Answer}
use Rattle.tx_answers.specs.declared.answer.Status.TheVariants.{Done, Limit}
use Rattle.tx_host.specs.Told.{HostState}
use Rattle.tx_words.specs.declared.command.Check.{Check as CheckWords}

abbrev pub source_files : CheckWords → List (List ℕ)
source_files c = map string_bytes c.sources.items

abbrev pub wants_of : CheckWords → List Wanted
wants_of c = wanted_each Source (source_files c)

-- `ok` is written, or with `--dump` the typed program
pub record Accepted (dumps : Bool) (a : Answer) (writes : List Written) : Type 0 where
  pub text : List ℕ
  pub ok : dumps ≡ false → text ≡ codes "ok\n"
  pub answer : a ≡ bare Done
  pub writes_are : writes ≡ to_out text ∷ []

-- on the texts of the files
pub data DecidesTexts (c : CheckWords) (texts : List (List ℕ)) (a : Answer) (writes : List Written) : Type 0 where
  refuses : RefusesTexts (source_files c) texts a writes → DecidesTexts c texts a writes
  accepts : (p : Program) → Accepts texts p → Accepted c.dump a writes → DecidesTexts c texts a writes

abbrev pub TooMany : List (List ℕ) → Answer → List Written → Type 0
TooMany texts a writes = Refuses 7 (codes "Limit Sources") Limit a writes

abbrev pub no_files : List Wanted
no_files = []

-- more than 16 sources are refused before any file is read
pub data Checks (c : CheckWords) (old new : HostState) (a : Answer) : Type 0 where
  too_many : 16 < length (source_files c) → Ends no_files TooMany old new a → Checks c old new a
  checks : length (source_files c) ≤ 16 → Ends (wants_of c) (DecidesTexts c) old new a → Checks c old new a
