-- The words that name a policy or a picker.
use Rattle.std.specs.Prelude.{◌≡◌, ◌≤◌, ◌++◌, ℕ, codes}
use Rattle.std.specs.Fmt.{decimal}
use Rattle.std.specs.String.{string_bytes}
use Rattle.clap.specs.Words.{Text}
use Rattle.tx_words.specs.declared.command.PolicyName.{PolicyName}
use Rattle.tx_words.specs.declared.command.PolicyName.TheVariants.{Older, Yield, Polite}
use Rattle.tx_words.specs.declared.command.PickerName.{PickerName}
use Rattle.tx_words.specs.declared.command.PickerName.TheVariants as picker

-- the word of a policy
abbrev pub policy_word : PolicyName → Text
policy_word Older = codes "older"
policy_word Yield = codes "yield"
policy_word Polite = codes "polite"

-- the word of a picker: a number in it is decimal, without leading zeros
abbrev pub picker_word : PickerName → Text
picker_word (picker.Round slot) = codes "round:" ++ decimal slot
picker_word picker.Clash = codes "clash"
picker_word (picker.File name) = codes "file:" ++ string_bytes name

abbrev pub IsSlot : ℕ → Type 0
IsSlot slot = (1 ≤ slot) × (slot ≤ 1000000)

-- a picker has a slot in its range
abbrev pub IsInBounds : PickerName → Type 0
IsInBounds (picker.Round slot) = IsSlot slot
IsInBounds _ = Unit

-- the word names the picker
pub record IsPicker (word : Text) (p : PickerName) : Type 0 where
  pub written : word ≡ picker_word p
  pub bounds : IsInBounds p
