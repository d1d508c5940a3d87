-- What `exec` comes to: the steps of the command, each with the refusal that ends it there.
use Rattle.std.specs.Prelude.{◌≡◌, ◌≤◌, ◌<◌, ℕ, List, [], ◌∷◌, ◌++◌, take, length, Option, Some, None, codes, string_bytes, slice_get}
use Rattle.std.specs.Fmt.{decimal}
use Rattle.std.specs.Option.{option_map}
use Rattle.code_verify.specs.Refused.{Refuses as Breaks}
use Rattle.code_verify.specs.declared.verified.BadCode.{BadCode}
use Rattle.code_verify.specs.declared.verified.BadCode.TheVariants as code
use Rattle.command_io.specs.Reads.{Wanted}
use Rattle.command_io.specs.Writes.{Written}
use Rattle.link_faults.specs.Answers.{Faulty}
use Rattle.link_faults.specs.declared.fault.LinkFault.{LinkFault}
use Rattle.link_faults.specs.declared.fault.LinkFault.TheVariants as link
use Rattle.named_runs.specs.NamedRuns.{IsNamedRun, picker_of, policy_of}
use Rattle.run_report.specs.RunWrites.{run_writes}
use Rattle.schedules.specs.Text.{Spells as Says, IsFirstBad, most_entries}
use Rattle.tx_answers.specs.Ends.{Ends, Refuses, bad_object_line}
use Rattle.tx_answers.specs.Report.{status_of}
use Rattle.tx_answers.specs.declared.answer.Answer.{Answer}
use Rattle.tx_answers.specs.declared.answer.Status.TheVariants.{Refused, Limit, BadSchedule}
use Rattle.tx_code.specs.Images.{ImageView}
use Rattle.tx_code.specs.Linked.{ImageOf}
use Rattle.tx_code.specs.Objects.{ObjectView}
use Rattle.tx_code.specs.Sound.{Sound}
use Rattle.tx_host.specs.Told.{HostState}
use Rattle.tx_machine.specs.declared.run.Ran.{Ran}
use Rattle.tx_words.specs.declared.command.Exec.{Exec}
use Rattle.tx_words.specs.declared.command.PickerName.{PickerName}
use Rattle.tx_words.specs.declared.command.PickerName.TheVariants.{Round, Clash, File}
use Rattle.tx_words.specs.declared.command.RunOptions.{RunOptions}
use Rattle.vm_thread.specs.declared.thread.Here.{Here}
use Rattle.exec_command.specs.Files.{object_files, wants_of, AreTexts}
use Rattle.exec_command.specs.Objects.{SpellAll, FirstWrong}

-- ---- the refusals

-- the name of the schedule's file, where the picker has one
abbrev pub schedule_name : PickerName → List ℕ
schedule_name (Round slot) = []
schedule_name Clash = []
schedule_name (File name) = string_bytes name

abbrev pub bad_schedule_line : (name : List ℕ) → (line : ℕ) → List ℕ
bad_schedule_line name line = name ++ (codes ":" ++ (decimal line ++ codes ": BadSchedule"))

abbrev pub bad_code_line : (func index rule : ℕ) → List ℕ
bad_code_line func index rule = codes "BadCode " ++ (decimal func ++ (codes " " ++ (decimal index ++ (codes " " ++ decimal rule))))

abbrev pub RefusesLink : LinkFault → Answer → List Written → Type 0
RefusesLink (link.Twice symbol) a writes = Refuses 8 (codes "Link Twice " ++ symbol.items) Refused a writes
RefusesLink (link.OdrDiffers symbol) a writes = Refuses 8 (codes "Link OdrDiffers " ++ symbol.items) Refused a writes
RefusesLink (link.Undefined symbol) a writes = Refuses 8 (codes "Link Undefined " ++ symbol.items) Refused a writes
RefusesLink (link.UnsafeSymbol symbol) a writes = Refuses 8 (codes "Link UnsafeSymbol " ++ symbol.items) Refused a writes
RefusesLink link.NoMain a writes = Refuses 8 (codes "Link NoMain main()") Refused a writes
RefusesLink (link.Globals size) a writes = Refuses 7 (codes "Limit Globals") Limit a writes
RefusesLink link.Memory a writes = ⊥

abbrev pub RefusesCode : BadCode → Answer → List Written → Type 0
RefusesCode (code.Rule func index rule) a writes = Refuses 9 (bad_code_line func index rule) Refused a writes
RefusesCode code.Memory a writes = ⊥

-- ---- the steps

-- what is run: the answer has the run, and its output, its lines and the files that are named are written
pub record Runs (o : RunOptions) (image : ImageView) (input entries : List ℕ) (ran : Ran Here) (a : Answer) (writes : List Written) : Type 0 where
  pub sound : Sound image
  pub run : IsNamedRun image (picker_of o.picker entries) (policy_of o.policy) o.steps input ran
  pub answer : a ≡ record { status = status_of ran.end; ran = Some ran; refusal = None }
  pub writes_are : writes ≡ run_writes image ran (option_map string_bytes o.order_file) (option_map string_bytes o.record_file)

-- the image is run
pub record RunsImage (o : RunOptions) (image : ImageView) (input entries : List ℕ) (a : Answer) (writes : List Written) : Type 0 where
  pub ran : Ran Here
  pub is : Runs o image input entries ran a writes

-- the image is verified, and run
pub data DecidesImage (o : RunOptions) (image : ImageView) (input entries : List ℕ) (a : Answer) (writes : List Written) : Type 0 where
  bad_code : (bad : BadCode) → Breaks image bad → RefusesCode bad a writes → DecidesImage o image input entries a writes
  runs : RunsImage o image input entries a writes → DecidesImage o image input entries a writes

-- the objects are linked
pub data DecidesObjects (o : RunOptions) (objects : List ObjectView) (input entries : List ℕ) (a : Answer) (writes : List Written) : Type 0 where
  faulty : (fault : LinkFault) → Faulty objects fault → RefusesLink fault a writes → DecidesObjects o objects input entries a writes
  linked : (image : ImageView) → ImageOf objects image → DecidesImage o image input entries a writes → DecidesObjects o objects input entries a writes

-- Objects that sources were compiled to are linked, and their image is run. That code is not sound is no refusal of sources.
pub data RunsObjects (o : RunOptions) (objects : List ObjectView) (input entries : List ℕ) (a : Answer) (writes : List Written) : Type 0 where
  cannot_link : (fault : LinkFault) → Faulty objects fault → RefusesLink fault a writes → RunsObjects o objects input entries a writes
  links : (image : ImageView) → ImageOf objects image → RunsImage o image input entries a writes → RunsObjects o objects input entries a writes

-- the objects are read
pub data DecidesTexts (e : Exec) (texts : List (List ℕ)) (input entries : List ℕ) (a : Answer) (writes : List Written) : Type 0 where
  bad_object : (index at : ℕ) (name : List ℕ) → FirstWrong texts index at → slice_get (object_files e) index ≡ Some name
      → Refuses 11 (bad_object_line name at) Refused a writes → DecidesTexts e texts input entries a writes
  are_objects : (objects : List ObjectView) → SpellAll texts objects → DecidesObjects e.options objects input entries a writes
      → DecidesTexts e texts input entries a writes

-- the schedule is read: a run looks at its first entries alone
pub data Decides (e : Exec) (texts : List (List ℕ)) (input schedule : List ℕ) (a : Answer) (writes : List Written) : Type 0 where
  bad_schedule : (line : ℕ) → IsFirstBad schedule line → Refuses 10 (bad_schedule_line (schedule_name e.options.picker) line) BadSchedule a writes
      → Decides e texts input schedule a writes
  scheduled : (entries : List ℕ) → Says schedule entries → DecidesTexts e texts input (take most_entries entries) a writes
      → Decides e texts input schedule a writes

-- ---- the command

-- on the texts of its files
pub record DecidesOn (e : Exec) (texts : List (List ℕ)) (a : Answer) (writes : List Written) : Type 0 where
  pub objects : List (List ℕ)
  pub input : List ℕ
  pub schedule : List ℕ
  pub texts_are : AreTexts e texts objects input schedule
  pub decides : Decides e objects input schedule a writes

abbrev pub TooMany : List (List ℕ) → Answer → List Written → Type 0
TooMany texts a writes = Refuses 7 (codes "Limit Sources") Limit a writes

abbrev pub no_files : List Wanted
no_files = []

-- more than 16 objects are refused before any file is read
pub data Executes (e : Exec) (old new : HostState) (a : Answer) : Type 0 where
  too_many : 16 < length (object_files e) → Ends no_files TooMany old new a → Executes e old new a
  executes : length (object_files e) ≤ 16 → Ends (wants_of e) (DecidesOn e) old new a → Executes e old new a

abbrev pub HasSlot : PickerName → Type 0
HasSlot (Round slot) = 0 < slot
HasSlot Clash = Unit {0}
HasSlot (File name) = Unit {0}

-- the options are such as the words can say
pub record CanRun (o : RunOptions) : Type 0 where
  pub steps : o.steps ≤ 4000000
  pub slot : HasSlot o.picker
