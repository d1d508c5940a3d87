-- What the words say: the command of the matches that clap gives of them.
use Rattle.std.specs.Prelude.{◌≡◌, ◌≤◌, ◌⊎◌, IfSome, ℕ, Bool, List, [], Option, Some, true, false, codes, map, unwrap_or, option_map, is_some}
use Rattle.std.specs.Option.{option_map_or}
use Rattle.std.specs.Str.{bytes_eq}
use Rattle.std.specs.String.{string_bytes}
use Rattle.std.specs.Str.Parse.{digits_value, without_leading_plus}
use Rattle.clap.specs.Words.{IsUnsignedIn, Row, Text, all_of, first_of, one_of, fault_of, subcommand_of}
use Rattle.tx_words.specs.Line.{txcc_app}
use Rattle.tx_words.specs.Names.{IsPicker, policy_word}
use Rattle.tx_words.specs.declared.command.PolicyName.{PolicyName}
use Rattle.tx_words.specs.declared.command.PickerName.{PickerName}
use Rattle.tx_words.specs.declared.command.RunOptions.{RunOptions}
use Rattle.tx_words.specs.declared.command.Run.{Run}
use Rattle.tx_words.specs.declared.command.Check.{Check}
use Rattle.tx_words.specs.declared.command.Build.{Build}
use Rattle.tx_words.specs.declared.command.Exec.{Exec}
use Rattle.tx_words.specs.declared.command.Replay.{Replay}
use Rattle.tx_words.specs.declared.command.Asm.{Asm}
use Rattle.tx_words.specs.declared.command.Races.{Races}
use Rattle.tx_words.specs.declared.command.Command.{Command}
use Rattle.tx_words.specs.declared.command.Command.TheVariants as command

abbrev pub Rows : Type 0
Rows = List Row

-- ---- the values of a subcommand's matches

-- the number of a text that clap takes for one
abbrev pub number : Text → ℕ
number t = digits_value 10 (without_leading_plus t)

-- the number of an option, where it is given
abbrev pub number_of : Text → Rows → Option ℕ
number_of id rows = option_map number (one_of id rows)

-- the flag is given
abbrev pub flag_of : Text → Rows → Bool
flag_of id rows = option_map_or (λ t. bytes_eq t (codes "true")) (one_of id rows) false

abbrev pub IsText : Text → Rows → List ℕ → Type 0
IsText id rows text = first_of id rows ≡ Some text

abbrev pub AreTexts : Text → Rows → List Text → Type 0
AreTexts id rows texts = all_of id rows ≡ Some texts

-- the words of the picker and the policy, given or by default
abbrev pub pick_word : Rows → Text
pick_word rows = unwrap_or (first_of (codes "pick") rows) (codes "round:1")

abbrev pub clash_word : Rows → Text
clash_word rows = unwrap_or (first_of (codes "policy") rows) (codes "older")

-- ---- the commands

pub record AreOptions (rows : Rows) (o : RunOptions) : Type 0 where
  pub steps : o.steps ≡ unwrap_or (number_of (codes "steps") rows) 4000000
  pub bound : o.steps ≤ 4000000
  pub input : option_map string_bytes o.input_file ≡ first_of (codes "input") rows
  pub picker : IsPicker (pick_word rows) o.picker
  pub policy : clash_word rows ≡ policy_word o.policy
  pub order : option_map string_bytes o.order_file ≡ first_of (codes "order") rows
  pub recorded : option_map string_bytes o.record_file ≡ first_of (codes "record") rows

pub record IsRun (rows : Rows) (r : Run) : Type 0 where
  pub options : AreOptions rows r.options
  pub folds : r.fold ≡ flag_of (codes "fold") rows
  pub sources : AreTexts (codes "sources") rows (map string_bytes r.sources.items)

pub record IsCheck (rows : Rows) (c : Check) : Type 0 where
  pub dumps : c.dump ≡ flag_of (codes "dump") rows
  pub sources : AreTexts (codes "sources") rows (map string_bytes c.sources.items)

pub record IsSelftest (rows : Rows) (n : ℕ) : Type 0 where
  pub number : number_of (codes "n") rows ≡ Some n
  pub least : 1 ≤ n
  pub most : n ≤ 400

pub record IsBuild (rows : Rows) (b : Build) : Type 0 where
  pub folds : b.fold ≡ flag_of (codes "fold") rows
  pub to : IsText (codes "to") rows (string_bytes b.object_file)
  pub source : IsText (codes "source") rows (string_bytes b.source)

pub record IsExec (rows : Rows) (e : Exec) : Type 0 where
  pub options : AreOptions rows e.options
  pub objects : AreTexts (codes "objects") rows (map string_bytes e.objects.items)

pub record IsReplay (rows : Rows) (r : Replay) : Type 0 where
  pub input : option_map string_bytes r.input_file ≡ first_of (codes "input") rows
  pub cost : r.cost ≡ unwrap_or (number_of (codes "cost") rows) 100000000
  pub bound : r.cost ≤ 100000000
  pub order : IsText (codes "order") rows (string_bytes r.order_file)
  pub sources : AreTexts (codes "sources") rows (map string_bytes r.sources.items)

pub record IsAsm (rows : Rows) (a : Asm) : Type 0 where
  pub to : IsText (codes "to") rows (string_bytes a.object_file)
  pub text : IsText (codes "text") rows (string_bytes a.text)

pub record IsRaces (rows : Rows) (r : Races) : Type 0 where
  pub run : IsRun rows r.run
  pub report : IsText (codes "report") rows (string_bytes r.report_file)

-- the command of a subcommand's name and rows
abbrev pub IsCommand : Text → Rows → Command → Type 0
IsCommand name rows (command.Run r) = (name ≡ codes "run") × IsRun rows r
IsCommand name rows (command.Check c) = (name ≡ codes "check") × IsCheck rows c
IsCommand name rows (command.Selftest n) = (name ≡ codes "selftest") × IsSelftest rows n
IsCommand name rows (command.Build b) = (name ≡ codes "build") × IsBuild rows b
IsCommand name rows (command.Exec e) = (name ≡ codes "exec") × IsExec rows e
IsCommand name rows (command.Replay r) = (name ≡ codes "replay") × IsReplay rows r
IsCommand name rows (command.Dis object) = (name ≡ codes "dis") × IsText (codes "object") rows (string_bytes object)
IsCommand name rows (command.Asm a) = (name ≡ codes "asm") × IsAsm rows a
IsCommand name rows (command.Races r) = (name ≡ codes "races") × IsRaces rows r
IsCommand name rows (command.Explain rule) = (name ≡ codes "explain") × IsText (codes "rule") rows (string_bytes rule)

-- clap takes the words, and their matches are those of the command
pub record Says (words : List Text) (c : Command) : Type 0 where
  pub taken : fault_of txcc_app words ≡ []
  pub name : Text
  pub rows : Rows
  pub matched : subcommand_of txcc_app words ≡ Some (name, rows)
  pub says : IsCommand name rows c

-- ---- words that clap takes and that are no command

-- a picker or a policy is asked for that has no such name
abbrev pub HasNoSuchName : Rows → Type 0
HasNoSuchName rows = ((p : PickerName) → IsPicker (pick_word rows) p → ⊥) ⊎ ((p : PolicyName) → clash_word rows ≡ policy_word p → ⊥)

abbrev pub TakesOptions : Text → Type 0
TakesOptions name = (name ≡ codes "run") ⊎ ((name ≡ codes "exec") ⊎ (name ≡ codes "races"))

pub record HasUnknown (words : List Text) : Type 0 where
  pub name : Text
  pub rows : Rows
  pub matched : subcommand_of txcc_app words ≡ Some (name, rows)
  pub options : TakesOptions name
  pub unknown : HasNoSuchName rows

-- ---- what clap has seen to in the matches of each subcommand

-- an option's number is in its range, where it is given
abbrev pub IsWithin : Text → ℕ → ℕ → Rows → Type 0
IsWithin id low high rows = IfSome (one_of id rows) (IsUnsignedIn low high)

-- a flag is on or off
abbrev pub IsFlag : Text → Rows → Type 0
IsFlag id rows = IfSome (one_of id rows) (λ t. (t ≡ codes "true") ⊎ (t ≡ codes "false"))

abbrev pub HasText : Text → Rows → Type 0
HasText id rows = is_some (first_of id rows) ≡ true

abbrev pub HasTexts : Text → Rows → Type 0
HasTexts id rows = is_some (all_of id rows) ≡ true

pub record FitsRun (rows : Rows) : Type 0 where
  pub steps : IsWithin (codes "steps") 0 4000000 rows
  pub folds : IsFlag (codes "fold") rows
  pub sources : HasTexts (codes "sources") rows

pub record FitsCheck (rows : Rows) : Type 0 where
  pub dumps : IsFlag (codes "dump") rows
  pub sources : HasTexts (codes "sources") rows

pub record FitsSelftest (rows : Rows) : Type 0 where
  pub size : IsWithin (codes "n") 1 400 rows
  pub given : is_some (one_of (codes "n") rows) ≡ true

pub record FitsBuild (rows : Rows) : Type 0 where
  pub folds : IsFlag (codes "fold") rows
  pub to : HasText (codes "to") rows
  pub source : HasText (codes "source") rows

pub record FitsExec (rows : Rows) : Type 0 where
  pub steps : IsWithin (codes "steps") 0 4000000 rows
  pub objects : HasTexts (codes "objects") rows

pub record FitsReplay (rows : Rows) : Type 0 where
  pub cost : IsWithin (codes "cost") 0 100000000 rows
  pub order : HasText (codes "order") rows
  pub sources : HasTexts (codes "sources") rows

pub record FitsAsm (rows : Rows) : Type 0 where
  pub to : HasText (codes "to") rows
  pub text : HasText (codes "text") rows

pub record FitsRaces (rows : Rows) : Type 0 where
  pub run : FitsRun rows
  pub report : HasText (codes "report") rows

-- the first type where the name is this word, else the second
abbrev pub where_true : Bool → Type 0 → Type 0 → Type 0
where_true true here rest = here
where_true false here rest = rest

abbrev pub Fits : Text → Rows → Type 0
Fits name rows = where_true (bytes_eq name (codes "run")) (FitsRun rows)
    (where_true (bytes_eq name (codes "check")) (FitsCheck rows)
    (where_true (bytes_eq name (codes "selftest")) (FitsSelftest rows)
    (where_true (bytes_eq name (codes "build")) (FitsBuild rows)
    (where_true (bytes_eq name (codes "exec")) (FitsExec rows)
    (where_true (bytes_eq name (codes "replay")) (FitsReplay rows)
    (where_true (bytes_eq name (codes "dis")) (HasText (codes "object") rows)
    (where_true (bytes_eq name (codes "asm")) (FitsAsm rows)
    (where_true (bytes_eq name (codes "races")) (FitsRaces rows)
    (where_true (bytes_eq name (codes "explain")) (HasText (codes "rule") rows) ⊥)))))))))
