-- What an assembler answers, from what the loop over the lines gives.
use Rattle.std.proofs.Common.{◌≡◌, ℕ, true, List, None, Result, Ok, Err, ap, ◌∙◌}
use Rattle.std.specs.Prelude.{IfOk}
use Rattle.tx_code.specs.declared.object.Object.{Object}
use Rattle.tx_code.specs.Objects.{ObjectView, object_view}
use Rattle.tx_code.specs.WellFormed.{IsObject}
use Rattle.object_bytes.specs.Spelling.{is_wide}
use Rattle.code_asm.specs.declared.fault.AsmFault.{AsmFault}
use Rattle.code_asm.specs.declared.fault.AsmFault.TheVariants.{BadAsm, Memory}
use Rattle.code_asm.specs.declared.fault.Stop.{Stop}
use Rattle.code_asm.specs.declared.fault.Stop.TheVariants as stop
use Rattle.assembly_text.specs.Lines.{Line, text_of}
use Rattle.code_asm.specs.Steps.{State, step, is_nil}
use Rattle.code_asm.specs.Views.{Stops}
use Rattle.code_asm.specs.Answers.{NoLine, IsWritten, IsFirstWrong, IsFault, IsThat}
use Rattle.assembly_text.specs.Front.{LineHere}
use Rattle.code_asm.specs.Runs.{TookLine, IsRun}
use Rattle.assembly_text.proofs.LineLaws.{same_lines}
use Rattle.code_asm.proofs.StateLaws.{is_written}
use Rattle.code_asm.proofs.OneOutcome.{one_object, never_both}
use Rattle.code_asm.proofs.Complete.{leads_to_end}

not_taken : (text : List ℕ) (s : State) (l : Line) (rest : List ℕ) → LineHere text l rest → step s l (is_nil rest) ≡ None → NoLine s text
not_taken text s l rest h e m tail k =
    let same = same_lines text m l tail rest k h in
    ap (λ (z : Line). step s z (is_nil tail)) same.same ∙ ap (λ (z : List ℕ). step s l (is_nil z)) same.rests ∙ e

pub took_stop : (s : State) (text : List ℕ) (l : Line) (rest : List ℕ) (e : Stop) → LineHere text l rest → Stops e (step s l (is_nil rest))
    → TookLine s text (Err e)
took_stop s text l rest stop.Memory h k = tt
took_stop s text l rest stop.Wrong h k = not_taken text s l rest h k

pub written : (text : List ℕ) (r : Result Object AsmFault) → IsRun text r → IfOk r (λ object. IsWritten (object_view object) text)
written text (Ok object) h = is_written text h.number (object_view object) h.reached
written text (Err e) h = tt

pub fault : (text : List ℕ) (r : Result Object AsmFault) → IsRun text r → IsFault r text
fault text (Ok object) h = tt
fault text (Err (BadAsm line)) h = h
fault text (Err Memory) h = tt

pub one_written : (o p : ObjectView) (text : List ℕ) → IsWritten o text → IsWritten p text → o ≡ p
one_written o p text w v = let a = leads_to_end o text w in let b = leads_to_end p text v in one_object text a.number b.number o p a.reached b.reached

pub not_wrong : (o : ObjectView) (text : List ℕ) (line : ℕ) → IsWritten o text → IsFirstWrong text line → ⊥
not_wrong o text line w f = let a = leads_to_end o text w in never_both text a.number line o a.reached f

pub that : (text : List ℕ) (r : Result Object AsmFault) (o : ObjectView) → IsRun text r → IsWritten o text → IsThat r o
that text (Ok object) o h w = let a = leads_to_end o text w in one_object text h.number a.number (object_view object) o h.reached a.reached
that text (Err (BadAsm line)) o h w = not_wrong o text line w h
that text (Err Memory) o h w = tt

-- the text of an object is assembled to that object
pub same_again : (o : ObjectView) (text : List ℕ) (r : Result Object AsmFault) → text ≡ text_of o → IsObject o → is_wide o ≡ true
    → ((p : ObjectView) → IsWritten p text → IsThat r p) → IsThat r o
same_again o text r e k w h = h o (record { writes = record { text_is = e }; object = k; wide = w })
