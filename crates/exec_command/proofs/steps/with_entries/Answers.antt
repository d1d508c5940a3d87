use Rattle.std.proofs.Common.{◌≡◌, Some, map, string_bytes, subst, sym, ap, ◌∙◌}
use Rattle.std.specs.Prelude.{slice_get}
use Rattle.std.specs.List.{All}
use Rattle.std.proofs.lemmas.Option.{slice_get-get_or}
use Rattle.std.proofs.lemmas.Result.{IfOk-weaker}
use Rattle.command_io.specs.Writes.{written_of}
use Rattle.tx_answers.specs.Ends.{Refuses, bad_object_line}
use Rattle.tx_answers.specs.declared.answer.Status.TheVariants as status
use Rattle.tx_code.specs.Objects.{object_view}
use Rattle.tx_code.specs.WellFormed.{IsObject}
use Rattle.exec_command.specs.Exec.{DecidesObjects, are_objects, bad_object}
use Rattle.exec_command.proofs.Texts.{all_objects}
use Rattle.exec_command.proofs.Parts.{name_at}
use Rattle.exec_command.proofs.steps.with_entries.Goals as goal

pub with_objects-requires-clause-objects : goal.with_objects-requires-clause-objects
with_objects-requires-clause-objects c = subst (All (λ o. IsObject (object_view o))) (sym c.as_slice.ensures.value)
    (all_objects _ c.in-Ok.objects.items c.in-Ok.ensures.objects)

pub returns-in-Ok : goal.returns-in-Ok
returns-in-Ok c =
    IfOk-weaker c.with_objects.result _ _ (λ d h.
    are_objects (map object_view c.in-Ok.objects.items) c.in-Ok.ensures.objects
    (subst (λ l. DecidesObjects c.args.exec.now.options (map object_view l) c.args.input.items c.args.entries.now d.answer
    (map written_of d.writes.items)) c.as_slice.ensures.value h))
    c.with_objects.ensures

pub returns-in-Err-Wrong : goal.returns-in-Err-Wrong
returns-in-Err-Wrong c =
    let found = c.in-Some.ensures.lookup in
    let at : slice_get c.args.exec.now.objects.items c.in-Err-Wrong.index ≡ Some c.in-Some.name.now =
    subst (λ l. slice_get l c.in-Err-Wrong.index ≡ Some c.in-Some.name.now) c.deref.ensures.value
    (slice_get-get_or c.deref.result.now c.in-Err-Wrong.index c.in-Some.name.now found.3.0 ∙ ap Some (sym found.1)) in
    IfOk-weaker c.bad_object.result _ _ (λ d h.
    bad_object c.in-Err-Wrong.index c.in-Err-Wrong.at (string_bytes c.in-Some.name.now) (rw c.in-Err-Wrong.field-0-is at c.in-Err-Wrong.ensures.wrong)
    (name_at c.args.exec.now.objects.items c.in-Err-Wrong.index c.in-Some.name.now at)
    (subst (λ n. Refuses 11 (bad_object_line n c.in-Err-Wrong.at) status.Refused d.answer (map written_of d.writes.items)) c.as_str.ensures.value h))
    c.bad_object.ensures
