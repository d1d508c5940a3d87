-- The files of `exec`: the objects in order, then the input, then the schedule.
use Rattle.std.specs.Prelude.{◌≡◌, ℕ, List, [], ◌++◌, map, length, Option, Some, None, string_bytes}
use Rattle.std.specs.Option.{option_map}
use Rattle.command_io.specs.Reads.{Wanted, wanted_each, wanted_given, bytes_of}
use Rattle.command_io.specs.declared.files.FileKind.TheVariants.{Object, Input, Schedule}
use Rattle.tx_words.specs.declared.command.Exec.{Exec}
use Rattle.tx_words.specs.declared.command.PickerName.{PickerName}
use Rattle.tx_words.specs.declared.command.PickerName.TheVariants.{Round, Clash, File}

abbrev pub object_files : Exec → List (List ℕ)
object_files e = map string_bytes e.objects.items

abbrev pub input_file : Exec → Option (List ℕ)
input_file e = option_map string_bytes e.options.input_file

-- the file of the schedule, where the picker has one
abbrev pub schedule_file : PickerName → Option (List ℕ)
schedule_file (Round slot) = None
schedule_file Clash = None
schedule_file (File name) = Some (string_bytes name)

abbrev pub wants_of : Exec → List Wanted
wants_of e = wanted_each Object (object_files e) ++ (wanted_given Input (input_file e) ++ wanted_given Schedule (schedule_file e.options.picker))

-- These are the texts of the files. A file that is not named has none, and stands for an empty text.
pub record AreTexts (e : Exec) (texts objects : List (List ℕ)) (input schedule : List ℕ) : Type 0 where
  pub texts_are : texts ≡ objects ++ (bytes_of (input_file e) input ++ bytes_of (schedule_file e.options.picker) schedule)
  pub many : length objects ≡ length (object_files e)
  pub no_input : input_file e ≡ None → input ≡ []
  pub no_schedule : schedule_file e.options.picker ≡ None → schedule ≡ []
