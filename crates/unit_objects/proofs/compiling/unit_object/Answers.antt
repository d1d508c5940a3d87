use Rattle.std.proofs.Common.{◌≡◌, ◌∙◌, Bool, List, Some, length, slice_get, subst, sym}
use Rattle.std.proofs.lemmas.Result.{IfOk-weaker}
use Rattle.clone_gen.specs.Generated.{IsObjectOf}
use Rattle.cpp_tree.specs.Units.{program_of}
use Rattle.cpp_tree.specs.declared.program.Program.{Program}
use Rattle.tx_code.specs.Objects.{object_view}
use Rattle.tx_safety.specs.Answers.{checked_in}
use Rattle.unit_objects.specs.Units.{safe_first}
use Rattle.unit_objects.proofs.compiling.unit_object.Goals as goal

pub returns-clause-unit : goal.returns-clause-unit
returns-clause-unit c =
    let same : c.program.result.now ≡ checked_in c.args.safe.now = c.program.ensures.program in
    IfOk-weaker c.generate.result _ _ (λ o h u at.
    let marks : c.as_slice.result.now ≡ safe_first (program_of (checked_in c.args.safe.now)) c.args.unit (length u.funcs) = c.as_slice.ensures.value
    ∙ c.in_ok-marks.ensures u at in
    subst (λ (ms : List Bool). IsObjectOf (program_of (checked_in c.args.safe.now)) u ms c.args.name.now (object_view o)) marks
    (subst (λ (q : Program). IsObjectOf (program_of q) u c.as_slice.result.now c.args.name.now (object_view o)) same
    (h u (subst (λ (q : Program). slice_get (program_of q).units c.args.unit ≡ Some u) (sym same) at))))
    c.generate.ensures.unit
