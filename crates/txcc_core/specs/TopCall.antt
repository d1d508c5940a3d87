-- What an answer of the program says.
use Rattle.std.specs.Prelude.{◌≡◌, ◌≤◌, ℕ, List, [], ◌∷◌, codes, string_bytes}
use Rattle.run_command.specs.tx_host.Told.{HostState}
use Rattle.run_command.specs.command_io.Reads.{Wanted, wanted}
use Rattle.run_command.specs.command_io.declared.files.FileKind.TheVariants as kind
use Rattle.run_command.specs.command_io.Writes.{Written, to_err}
use Rattle.run_command.specs.tx_words.Reads.{Says}
use Rattle.run_command.specs.tx_words.declared.command.Build.{Build}
use Rattle.races_command.specs.Commands.{Reports}
use Rattle.replay_command.specs.Replays.{Replays}
use Rattle.run_command.specs.Commands.{Runs, DecidesBuild, DecidesSelftest}
use Rattle.run_command.specs.tx_words.declared.command.Command.{Command}
use Rattle.run_command.specs.tx_words.declared.command.Command.TheVariants as command
use Rattle.run_command.specs.tx_answers.declared.answer.Answer.{Answer}
use Rattle.run_command.specs.tx_answers.declared.answer.Status.TheVariants.{Usage, Memory}
use Rattle.run_command.specs.tx_answers.Ends.{Ends, bare, on_one}
use Rattle.text_commands.specs.TextCommands.{Disassembles, Assembles}
use Rattle.run_command.specs.exec_command.Exec.{CanRun, Executes}
use Rattle.check_command.specs.Check.{Checks}
use Rattle.explain_command.specs.Explain.{DecidesExplanation}

-- the words say no command
abbrev pub SaysNothing : List (List ℕ) → Type 0
SaysNothing words = (c : Command) → Says words c → ⊥

-- no file is read, and the error output gains `usage`
pub record DecidesUsage (texts : List (List ℕ)) (a : Answer) (writes : List Written) : Type 0 where
  pub answer : a ≡ bare Usage
  pub writes_are : writes ≡ to_err (codes "usage\n") ∷ []

abbrev pub no_files : List Wanted
no_files = []

abbrev pub Builds : Build → HostState → HostState → Answer → Type 0
Builds b old new a = Ends (wanted kind.Source (string_bytes b.source) ∷ [])
    (on_one (DecidesBuild b.fold (string_bytes b.source) (string_bytes b.object_file))) old new a

-- what each command comes to
abbrev pub Does : Command → HostState → HostState → Answer → Type 0
Does (command.Run r) old new a = Runs r old new a
Does (command.Check c) old new a = Checks c old new a
Does (command.Selftest n) old new a = Ends no_files (DecidesSelftest n) old new a
Does (command.Build b) old new a = Builds b old new a
Does (command.Exec e) old new a = Executes e old new a
Does (command.Replay r) old new a = Replays r old new a
Does (command.Dis object) old new a = Ends (wanted kind.Object (string_bytes object) ∷ []) (on_one (Disassembles (string_bytes object))) old new a
Does (command.Asm m) old new a = Ends (wanted kind.Text (string_bytes m.text) ∷ [])
    (on_one (Assembles (string_bytes m.text) (string_bytes m.object_file))) old new a
Does (command.Races r) old new a = Reports r old new a
Does (command.Explain rule) old new a = Ends no_files (DecidesExplanation (string_bytes rule)) old new a

-- a command whose options are such as the words can say
abbrev pub CanDo : Command → Type 0
CanDo (command.Run r) = CanRun r.options
CanDo (command.Check c) = Unit {0}
CanDo (command.Selftest n) = (1 ≤ n) × (n ≤ 400)
CanDo (command.Build b) = Unit {0}
CanDo (command.Exec e) = CanRun e.options
CanDo (command.Replay r) = Unit {0}
CanDo (command.Dis object) = Unit {0}
CanDo (command.Asm m) = Unit {0}
CanDo (command.Races r) = CanRun r.run.options
CanDo (command.Explain rule) = Unit {0}

pub data Answers (words : List (List ℕ)) (old new : HostState) (a : Answer) : Type 0 where
  -- the words say this command
  says : (c : Command) → Says words c → Does c old new a → Answers words old new a
  -- the words say no command
  usage : SaysNothing words → Ends no_files DecidesUsage old new a → Answers words old new a
  -- memory ran out before the words were read
  no_words : a ≡ bare Memory → new ≡ old → Answers words old new a
