-- What `run`, `selftest` and `build` come to.
use Rattle.std.specs.Prelude.{◌≡◌, ◌≤◌, ◌<◌, ℕ, Bool, false, List, [], ◌∷◌, ◌++◌, take, length, Option, None, codes, map, string_bytes}
use Rattle.std.specs.Option.{option_map}
use Rattle.command_io.specs.Reads.{Wanted, wanted, limit_of, wanted_each, wanted_given, bytes_of}
use Rattle.command_io.specs.Writes.{Written, to_file}
use Rattle.command_io.specs.declared.files.FileKind.TheVariants.{Source, Input, Schedule, Object}
use Rattle.cpp_tree.specs.declared.program.Program.{Program}
use Rattle.cpp_tree.specs.Units.{program_of}
use Rattle.exec_command.specs.Exec.{schedule_name, bad_schedule_line}
use Rattle.exec_command.specs.Files.{schedule_file}
use Rattle.object_bytes.specs.Spelling.{object_bytes}
use Rattle.prog_gen.specs.Program.{program as program_text}
use Rattle.run_command.specs.Runs.{Compiled, DecidesTexts}
use Rattle.schedules.specs.Text.{Spells as Says, IsFirstBad, most_entries}
use Rattle.source_verdict.specs.Verdict.{Accepts, RefusesTexts}
use Rattle.tx_answers.specs.Ends.{Ends, Refuses, IsLimited, bare}
use Rattle.tx_answers.specs.declared.answer.Answer.{Answer}
use Rattle.tx_answers.specs.declared.answer.Status.TheVariants.{Done, Limit, BadSchedule}
use Rattle.tx_code.specs.Objects.{ObjectView}
use Rattle.tx_code.specs.WellFormed.{IsObject}
use Rattle.tx_host.specs.Told.{HostState}
use Rattle.tx_words.specs.declared.command.Run.{Run}
use Rattle.tx_words.specs.declared.command.RunOptions.{RunOptions}
use Rattle.tx_words.specs.declared.command.PickerName.TheVariants.{Round}
use Rattle.tx_words.specs.declared.command.PolicyName.TheVariants.{Older}
use Rattle.unit_objects.specs.Units.{IsUnitObject}

-- ---- run

abbrev pub source_files : Run → List (List ℕ)
source_files r = map string_bytes r.sources.items

abbrev pub input_file : Run → Option (List ℕ)
input_file r = option_map string_bytes r.options.input_file

-- the sources in order, then the input, then the schedule
abbrev pub wants_of : Run → List Wanted
wants_of r = wanted_each Source (source_files r) ++ (wanted_given Input (input_file r) ++ wanted_given Schedule (schedule_file r.options.picker))

-- These are the texts of the files. A file that is not named has none, and stands for an empty text.
pub record AreTexts (r : Run) (texts sources : List (List ℕ)) (input schedule : List ℕ) : Type 0 where
  pub texts_are : texts ≡ sources ++ (bytes_of (input_file r) input ++ bytes_of (schedule_file r.options.picker) schedule)
  pub many : length sources ≡ length (source_files r)
  pub no_input : input_file r ≡ None → input ≡ []
  pub no_schedule : schedule_file r.options.picker ≡ None → schedule ≡ []

-- the schedule is read: a run looks at its first entries alone
pub data Decides (r : Run) (sources : List (List ℕ)) (input schedule : List ℕ) (a : Answer) (writes : List Written) : Type 0 where
  bad_schedule : (line : ℕ) → IsFirstBad schedule line → Refuses 10 (bad_schedule_line (schedule_name r.options.picker) line) BadSchedule a writes
      → Decides r sources input schedule a writes
  scheduled : (entries : List ℕ) → Says schedule entries → DecidesTexts r.options r.fold (source_files r) sources input (take most_entries entries) a writes
      → Decides r sources input schedule a writes

pub record DecidesOn (r : Run) (texts : List (List ℕ)) (a : Answer) (writes : List Written) : Type 0 where
  pub sources : List (List ℕ)
  pub input : List ℕ
  pub schedule : List ℕ
  pub texts_are : AreTexts r texts sources input schedule
  pub decides : Decides r sources input schedule a writes

abbrev pub TooMany : List (List ℕ) → Answer → List Written → Type 0
TooMany texts a writes = Refuses 7 (codes "Limit Sources") Limit a writes

abbrev pub no_files : List Wanted
no_files = []

-- more than 16 sources are refused before any file is read
pub data Runs (r : Run) (old new : HostState) (a : Answer) : Type 0 where
  too_many : 16 < length (source_files r) → Ends no_files TooMany old new a → Runs r old new a
  runs : length (source_files r) ≤ 16 → Ends (wants_of r) (DecidesOn r) old new a → Runs r old new a

-- ---- build

-- the bytes of an object are written to the file, unless they are more than an object has that is read
pub data Puts (to : List ℕ) (object : ObjectView) (a : Answer) (writes : List Written) : Type 0 where
  puts : length (object_bytes object) ≤ limit_of Object → a ≡ bare Done → writes ≡ to_file to (object_bytes object) ∷ [] → Puts to object a writes
  too_large : limit_of Object < length (object_bytes object) → IsLimited (wanted Object to) a writes → Puts to object a writes

-- it is the object of the first unit, and has exactly its entries; what code its bodies have is not told
pub record PutsUnit (p : Program) (name to : List ℕ) (a : Answer) (writes : List Written) : Type 0 where
  pub object : ObjectView
  pub is_object : IsObject object
  pub of : IsUnitObject (program_of p) name 0 object
  pub puts : Puts to object a writes

-- a safe program is compiled
pub record CompilesAndPuts (fold : Bool) (p : Program) (name to : List ℕ) (a : Answer) (writes : List Written) : Type 0 where
  pub program : Program
  pub compiled : Compiled fold p program
  pub puts : PutsUnit program name to a writes

-- the first refusal of the text; or it is a safe program, which is compiled
pub data DecidesBuild (fold : Bool) (name to text : List ℕ) (a : Answer) (writes : List Written) : Type 0 where
  refuses : RefusesTexts (name ∷ []) (text ∷ []) a writes → DecidesBuild fold name to text a writes
  builds : (p : Program) → Accepts (text ∷ []) p → CompilesAndPuts fold p name to a writes → DecidesBuild fold name to text a writes

-- ---- selftest

-- the options that a run has where none is given
pub record AreDefaults (o : RunOptions) : Type 0 where
  pub steps : o.steps ≡ 4000000
  pub input : o.input_file ≡ None
  pub picker : o.picker ≡ Round 1
  pub policy : o.policy ≡ Older
  pub order : o.order_file ≡ None
  pub recorded : o.record_file ≡ None

-- the generated program is run, with the empty input
pub record DecidesSelftest (n : ℕ) (texts : List (List ℕ)) (a : Answer) (writes : List Written) : Type 0 where
  pub options : RunOptions
  pub are_defaults : AreDefaults options
  pub decides : DecidesTexts options false (codes "selftest" ∷ []) (program_text n ∷ []) [] [] a writes
