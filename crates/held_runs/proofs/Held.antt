-- What was run of objects.
use Rattle.std.proofs.Common.{ℕ, List, ◌≡◌, ap, Some, None, subst, sym, ◌∙◌, Option}
use Rattle.bounded_runs.specs.BoundedRuns.{IsRunOf, IsOfLinked, OfLinked}
use Rattle.choosers.specs.Answers as policies
use Rattle.choosers.specs.Picks as pickers
use Rattle.command_io.specs.Writes.{Written}
use Rattle.exec_command.specs.Exec.{RunsImage, RefusesLink}
use Rattle.link_faults.specs.declared.fault.LinkFault.{LinkFault}
use Rattle.link_faults.specs.declared.fault.LinkFault.TheVariants as link
use Rattle.image_checks.specs.Shown.{IsShown}
use Rattle.named_runs.specs.NamedRuns.{IsNamedRun, picker_of, policy_of}
use Rattle.src_bind.specs.Tables.{Given}
use Rattle.tx_answers.specs.Ends.{Refuses}
use Rattle.tx_answers.specs.declared.answer.Answer.{Answer}
use Rattle.tx_answers.specs.declared.answer.Status.{Status}
use Rattle.tx_code.specs.Images.{ImageView, IsImage}
use Rattle.tx_code.specs.Linked.{ImageOf}
use Rattle.tx_code.specs.Objects.{ObjectView}
use Rattle.tx_code.specs.Sound.{Sound}
use Rattle.tx_machine.specs.declared.run.Ran.{Ran}
use Rattle.tx_words.specs.declared.command.RunOptions.{RunOptions}
use Rattle.vm_thread.specs.declared.thread.Here.{Here}
use Rattle.held_runs.specs.HeldRuns.{IsOfObjects, of_nothing, of_image, LinkToCode}

-- what was run of an image that the objects link to
pub of_run : (o : RunOptions) (objects : List ObjectView) (i : ImageView) (input entries : List ℕ) (a : Answer) (writes : List Written) → ImageOf objects i
    → RunsImage o i input entries a writes → IsOfObjects objects input a
of_run o objects i input entries a writes links runs =
    of_image i links (picker_of o.picker entries) (policy_of o.policy) o.steps runs.ran runs.is.run (ap (λ (x : Answer). x.ran) runs.is.answer)

-- the runs of a sound image that is shown to be the code of a program
abbrev RunsOfShown : Type 0
RunsOfShown = (g : Given) (i : ImageView) → IsShown g i → IsImage i → Sound i → (picker : pickers.PickerName) (policy : policies.PolicyName) (bound : ℕ)
    (input : List ℕ) (ran : Ran Here) → IsNamedRun i picker policy bound input ran → IsRunOf g input ran

-- what was run is a run of the source, where the objects link to its code
pub of_code : (g : Given) (objects : List ObjectView) (input : List ℕ) (a : Answer)
    → ((os : List ObjectView) (i j : ImageView) → ImageOf os i → ImageOf os j → i ≡ j) → RunsOfShown
    → LinkToCode g objects → IsOfObjects objects input a → IsOfLinked g input a
of_code g objects input a one runs code (of_nothing e) = subst (λ (ran : Option (Ran Here)). OfLinked g input ran) (sym e) tt
of_code g objects input a one runs code (of_image i links picker policy bound ran run e) =
    let same : code.image ≡ i = one objects code.image i code.links links in
    let all : IsRunOf g input ran = runs g i (subst (λ z. IsShown g z) same code.code) (subst IsImage same code.whole)
    (subst Sound same code.sound) picker policy bound input ran run in
    subst (λ (z : Option (Ran Here)). OfLinked g input z) (sym e) all

-- nothing was run where objects can't be linked
module _ (a : Answer) (writes : List Written) where
  none_ran : {number : ℕ} {line : List ℕ} {status : Status} → Refuses number line status a writes → a.ran ≡ None
  none_ran r = ap (λ (x : Answer). x.ran) r.answer

  pub nothing_ran : (fault : LinkFault) → RefusesLink fault a writes → a.ran ≡ None
  nothing_ran (link.Twice symbol) r = none_ran r
  nothing_ran (link.OdrDiffers symbol) r = none_ran r
  nothing_ran (link.Undefined symbol) r = none_ran r
  nothing_ran (link.UnsafeSymbol symbol) r = none_ran r
  nothing_ran link.NoMain r = none_ran r
  nothing_ran (link.Globals size) r = none_ran r
  nothing_ran link.Memory r = elim r [ ]

  pub of_unlinked : (g : Given) (input : List ℕ) (fault : LinkFault) → RefusesLink fault a writes → IsOfLinked g input a
  of_unlinked g input fault r = subst (λ (ran : Option (Ran Here)). OfLinked g input ran) (sym (nothing_ran fault r)) tt
