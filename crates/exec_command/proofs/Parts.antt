-- The steps of the command, from what each part answers.
use Rattle.std.proofs.Common.{◌≡◌, ◌<◌, ℕ, List, map, ap, ◌∙◌, Some, None, String, Global, string_bytes, true}
use Rattle.std.specs.Prelude.{nat_lt, slice_get}
use Rattle.std.specs.List.{list_all}
use Rattle.std.specs.Option.{option_map}
use Rattle.std.proofs.lemmas.Option.{slice_get-map}
use Rattle.named_runs.specs.NamedRuns.{CanPick}
use Rattle.tx_answers.specs.declared.answer.Answer.{Answer}
use Rattle.tx_answers.specs.declared.answer.Status.{Status}
use Rattle.tx_machine.specs.declared.run.Ran.{Ran}
use Rattle.tx_words.specs.declared.command.PickerName.{PickerName}
use Rattle.tx_words.specs.declared.command.PickerName.TheVariants.{Round, Clash, File}
use Rattle.vm_thread.specs.declared.thread.Here.{Here}
use Rattle.exec_command.specs.Exec.{HasSlot}

pub can_pick : (p : PickerName) (entries : List ℕ) → HasSlot p → list_all (λ t. nat_lt t 64) entries ≡ true → CanPick p entries
can_pick (Round slot) entries h below = h
can_pick Clash entries h below = tt
can_pick (File name) entries h below = below

pub name_at : (names : List (String Global)) (i : ℕ) (name : String Global) → slice_get names i ≡ Some name
    → slice_get (map string_bytes names) i ≡ Some (string_bytes name)
name_at names i name e = slice_get-map string_bytes names i ∙ ap (option_map string_bytes) e

abbrev answered : Status → Ran Here → Answer
answered s ran = record { status = s; ran = Some ran; refusal = None }

pub same_answer : (s t : Status) (ran : Ran Here) → s ≡ t → answered s ran ≡ answered t ran
same_answer s t ran e = ap (λ z. answered z ran) e
