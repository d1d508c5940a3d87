-- What `replay` comes to: the steps of the command, each with the refusal that ends it there.
use Rattle.std.specs.Prelude.{◌≡◌, ◌≤◌, ◌<◌, ℕ, List, [], ◌∷◌, ◌++◌, length, Option, Some, None, codes, map, string_bytes, Ok, Err}
use Rattle.std.specs.Option.{option_map}
use Rattle.std.specs.Fmt.{decimal}
use Rattle.command_io.specs.Reads.{Wanted, wanted, wanted_each, wanted_given, bytes_of}
use Rattle.command_io.specs.Writes.{Written, to_out, to_err}
use Rattle.command_io.specs.declared.files.FileKind.TheVariants.{Source, Input, Schedule as ScheduleFile}
use Rattle.cpp_tree.specs.declared.program.Program.{Program}
use Rattle.exec_command.specs.Exec.{bad_schedule_line, RefusesLink}
use Rattle.link_faults.specs.Answers.{Faulty}
use Rattle.link_faults.specs.declared.fault.LinkFault.{LinkFault}
use Rattle.schedules.specs.Text.{Spells as Says, IsFirstBad, Keeps, most_entries}
use Rattle.schedules.specs.declared.Schedule.{Schedule}
use Rattle.source_verdict.specs.Verdict.{Accepts, RefusesTexts}
use Rattle.cpp_tree.specs.Units.{program_of}
use Rattle.src_bind.specs.Tables.{Given}
use Rattle.src_bind.specs.declared.choices.Choices.{Choices}
use Rattle.src_link.specs.Slots.{AreChoices}
use Rattle.src_replay.specs.Orders.{Answers as AnswersOrder}
use Rattle.src_replay.specs.declared.replaying.Replayed.{Replayed}
use Rattle.src_replay.specs.declared.replaying.ReplayFault.TheVariants.{NotARun, Spent}
use Rattle.tx_answers.specs.Ends.{Ends, Refuses, bare}
use Rattle.tx_answers.specs.Report as report
use Rattle.tx_answers.specs.declared.answer.Answer.{Answer}
use Rattle.tx_answers.specs.declared.answer.Status.{Status}
use Rattle.tx_answers.specs.declared.answer.Status.TheVariants.{Refused, StepsOut, Limit, BadSchedule, CostOut}
use Rattle.tx_code.specs.Images.{ImageView}
use Rattle.tx_code.specs.Linked.{ImageOf}
use Rattle.tx_code.specs.Objects.{ObjectView}
use Rattle.cpp_tree.specs.tx_events.declared.End.{End}
use Rattle.tx_host.specs.Told.{HostState}
use Rattle.tx_words.specs.declared.command.Replay.{Replay}
use Rattle.unit_objects.specs.Units.{AreUnitObjects}

-- ---- the files

abbrev pub source_files : Replay → List (List ℕ)
source_files r = map string_bytes r.sources.items

abbrev pub input_file : Replay → Option (List ℕ)
input_file r = option_map string_bytes r.input_file

abbrev pub order_file : Replay → List ℕ
order_file r = string_bytes r.order_file

-- the sources in order, then the input, then the order
abbrev pub wants_of : Replay → List Wanted
wants_of r = wanted_each Source (source_files r) ++ (wanted_given Input (input_file r) ++ wanted ScheduleFile (order_file r) ∷ [])

-- These are the texts of the files. An input that is not named stands for an empty text.
pub record AreTexts (r : Replay) (texts sources : List (List ℕ)) (input order : List ℕ) : Type 0 where
  pub texts_are : texts ≡ sources ++ (bytes_of (input_file r) input ++ order ∷ [])
  pub many : length sources ≡ length (source_files r)
  pub no_input : input_file r ≡ None → input ≡ []

-- ---- answers and refusals

-- the line of the end, and of none; and the status
abbrev pub end_line : Option End → List ℕ
end_line (Some end) = report.end_line end
end_line None = codes "open\n"

abbrev pub status_of : Option End → Status
status_of (Some end) = report.status_of end
status_of None = StepsOut

-- the output is written, and then the line of the end
pub record Answers (o : Replayed) (a : Answer) (writes : List Written) : Type 0 where
  pub answer : a ≡ bare (status_of o.end)
  pub writes_are : writes ≡ to_out o.out.items ∷ to_err (end_line o.end) ∷ []

abbrev pub limit_line : (name : List ℕ) → List ℕ
limit_line name = name ++ codes ": Limit Order"

abbrev pub not_a_run_line : (name : List ℕ) → (index : ℕ) → List ℕ
not_a_run_line name index = name ++ (codes ": NotARun " ++ decimal index)

abbrev pub spent_line : (index : ℕ) → List ℕ
spent_line index = codes "cost out " ++ decimal index

-- ---- the steps

-- The order is replayed on the program that is bound, with this input: it is a run of it with that output and end, or an entry is not enabled, or it costs too
-- much.
pub data DecidesOrder (r : Replay) (g : Given) (input order : List ℕ) (a : Answer) (writes : List Written) : Type 0 where
  replayed : (o : Replayed) → AnswersOrder g input order r.cost (Ok o) → Answers o a writes → DecidesOrder r g input order a writes
  not_a_run : (index : ℕ) → AnswersOrder g input order r.cost (Err (NotARun index)) → Refuses 13 (not_a_run_line (order_file r) index) Refused a writes
      → DecidesOrder r g input order a writes
  spent : (index : ℕ) → AnswersOrder g input order r.cost (Err (Spent index)) → Refuses 15 (spent_line index) CostOut a writes
      → DecidesOrder r g input order a writes

-- the program is bound: functions have safe bodies where they are safe, slots name the final overriders, and thread 0 starts in `main`
pub record DecidesBound (r : Replay) (p : Program) (input order : List ℕ) (a : Answer) (writes : List Written) : Type 0 where
  pub choices : Choices
  pub are_choices : AreChoices (program_of p) choices
  pub decides : DecidesOrder r (record { program = p; choices = choices }) input order a writes

-- the objects of the units are linked
pub data DecidesObjects (r : Replay) (p : Program) (objects : List ObjectView) (input order : List ℕ) (a : Answer) (writes : List Written) : Type 0 where
  faulty : (fault : LinkFault) → Faulty objects fault → RefusesLink fault a writes → DecidesObjects r p objects input order a writes
  linked : (image : ImageView) → ImageOf objects image → DecidesBound r p input order a writes → DecidesObjects r p objects input order a writes

-- The objects of the program's units, with exactly their entries, are linked, so that what can't be linked is refused.
pub record DecidesUnits (r : Replay) (p : Program) (input order : List ℕ) (a : Answer) (writes : List Written) : Type 0 where
  pub objects : List ObjectView
  pub are_objects : AreUnitObjects (program_of p) (source_files r) objects
  pub decides : DecidesObjects r p objects input order a writes

-- the first refusal of the texts; or they are a safe program
pub data DecidesTexts (r : Replay) (texts : List (List ℕ)) (input order : List ℕ) (a : Answer) (writes : List Written) : Type 0 where
  refuses : RefusesTexts (source_files r) texts a writes → DecidesTexts r texts input order a writes
  accepts : (p : Program) → Accepts texts p → DecidesUnits r p input order a writes → DecidesTexts r texts input order a writes

-- an order of more entries is refused
pub data OnEntries (r : Replay) (texts : List (List ℕ)) (input entries : List ℕ) (a : Answer) (writes : List Written) : Type 0 where
  too_long : most_entries < length entries → Refuses 7 (limit_line (order_file r)) Limit a writes → OnEntries r texts input entries a writes
  ordered : length entries ≤ most_entries → DecidesTexts r texts input entries a writes → OnEntries r texts input entries a writes

-- what is decided where so many of the entries are kept
abbrev pub OnKept : Replay → List (List ℕ) → List ℕ → Schedule → Answer → List Written → Type 0
OnKept r texts input order a writes = (entries : List ℕ) → Keeps most_entries entries order → OnEntries r texts input entries a writes

-- the order is read, on the texts of the sources
pub data Decides (r : Replay) (texts : List (List ℕ)) (input order : List ℕ) (a : Answer) (writes : List Written) : Type 0 where
  bad_schedule : (line : ℕ) → IsFirstBad order line → Refuses 10 (bad_schedule_line (order_file r) line) BadSchedule a writes
      → Decides r texts input order a writes
  says : (entries : List ℕ) → Says order entries → OnEntries r texts input entries a writes → Decides r texts input order a writes

-- ---- the command

-- on the texts of its files
pub record DecidesOn (r : Replay) (texts : List (List ℕ)) (a : Answer) (writes : List Written) : Type 0 where
  pub sources : List (List ℕ)
  pub input : List ℕ
  pub order : List ℕ
  pub texts_are : AreTexts r texts sources input order
  pub decides : Decides r sources input order a writes

abbrev pub TooMany : List (List ℕ) → Answer → List Written → Type 0
TooMany texts a writes = Refuses 7 (codes "Limit Sources") Limit a writes

abbrev pub no_files : List Wanted
no_files = []

-- more than 16 sources are refused before any file is read
pub data Replays (r : Replay) (old new : HostState) (a : Answer) : Type 0 where
  too_many : 16 < length (source_files r) → Ends no_files TooMany old new a → Replays r old new a
  replays : length (source_files r) ≤ 16 → Ends (wants_of r) (DecidesOn r) old new a → Replays r old new a
