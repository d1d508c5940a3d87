-- The command line: what clap is told of it, as one table of the commands with their arguments.
use Rattle.std.specs.Prelude.{◌++◌, ℕ, List, [], ◌∷◌, Some, true, codes, fold, map}
use Rattle.clap.specs.Words.{App, Rule, Text, new_app, new_rule, with_rule, with_subcommand}
use Rattle.clap.specs.Lexer.{usize_max}
use Rattle.clap.specs.declared.builder.action.ArgAction.TheVariants.{Set, SetTrue, Append}
use Rattle.clap.specs.declared.builder.value_parser.ValueParser.TheVariants as vp

-- `--NAME VALUE`
abbrev pub option_rule : Text → Rule
option_rule name = record (new_rule name) { long = Some name; action = Some Set }

-- `--NAME VALUE`, which may not be left out
abbrev pub required_rule : Text → Rule
required_rule name = record (option_rule name) { required = true }

-- `--NAME N`, a number in a range
abbrev pub number_rule : Text → ℕ → Rule
number_rule name most = record (option_rule name) { parser = Some (vp.Unsigned 0 most) }

-- `--NAME`
abbrev pub flag_rule : Text → Rule
flag_rule name = record (new_rule name) { long = Some name; action = Some SetTrue }

-- one word
abbrev pub word_rule : Text → Rule
word_rule name = record (new_rule name) { required = true; action = Some Set }

-- one word or more
abbrev pub words_rule : Text → Rule
words_rule name = record (new_rule name) { required = true; action = Some Append; range = Some (record { start_inclusive = 1; end_inclusive = usize_max }) }

-- the word N of `selftest`
abbrev pub size_rule : Rule
size_rule = record (word_rule (codes "n")) { parser = Some (vp.Unsigned 1 400) }

-- what `run`, `exec` and `races` share
abbrev pub run_options : List Rule
run_options =
    number_rule (codes "steps") 4000000
    ∷ option_rule (codes "input")
    ∷ option_rule (codes "pick")
    ∷ option_rule (codes "policy")
    ∷ option_rule (codes "order")
    ∷ option_rule (codes "record")
    ∷ []

abbrev pub fold_rule : Rule
fold_rule = flag_rule (codes "fold")

abbrev pub with_rules : App → List Rule → App
with_rules = fold with_rule

abbrev pub command_app : Text → List Rule → App
command_app name = with_rules (new_app name)

abbrev pub run_app : App
run_app = command_app (codes "run") (run_options ++ fold_rule ∷ words_rule (codes "sources") ∷ [])

abbrev pub check_app : App
check_app = command_app (codes "check") (flag_rule (codes "dump") ∷ words_rule (codes "sources") ∷ [])

abbrev pub selftest_app : App
selftest_app = command_app (codes "selftest") (size_rule ∷ [])

abbrev pub build_app : App
build_app = command_app (codes "build") (fold_rule ∷ required_rule (codes "to") ∷ word_rule (codes "source") ∷ [])

abbrev pub exec_app : App
exec_app = command_app (codes "exec") (run_options ++ words_rule (codes "objects") ∷ [])

abbrev pub replay_app : App
replay_app =
    command_app (codes "replay") (
    option_rule (codes "input")
    ∷ number_rule (codes "cost") 100000000
    ∷ required_rule (codes "order")
    ∷ words_rule (codes "sources")
    ∷ [])

abbrev pub dis_app : App
dis_app = command_app (codes "dis") (word_rule (codes "object") ∷ [])

abbrev pub asm_app : App
asm_app = command_app (codes "asm") (required_rule (codes "to") ∷ word_rule (codes "text") ∷ [])

abbrev pub races_app : App
races_app = command_app (codes "races") (run_options ++ fold_rule ∷ required_rule (codes "report") ∷ words_rule (codes "sources") ∷ [])

abbrev pub explain_app : App
explain_app = command_app (codes "explain") (word_rule (codes "rule") ∷ [])

abbrev pub commands : List App
commands = run_app ∷ check_app ∷ selftest_app ∷ build_app ∷ exec_app ∷ replay_app ∷ dis_app ∷ asm_app ∷ races_app ∷ explain_app ∷ []

-- the words begin with the command's name, there is no command `help`, and a command has to be given
abbrev pub bare_app : App
bare_app = record (new_app (codes "txcc")) {
  top = record (new_app (codes "txcc")).top {
    no_binary_name = true;
    disable_help_subcommand = true;
    subcommand_required = true;
  };
}

unfoldable pub txcc_app : App
txcc_app = fold with_subcommand bare_app (map (λ a. a.top) commands)
