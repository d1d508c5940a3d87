use Rattle.std.proofs.Common.{ℕ, List, subst}
use Rattle.std.proofs.lemmas.Result.{IfOk-weaker}
use Rattle.cpp_tree.specs.Units.{program_of}
use Rattle.tx_code.specs.Objects.{object_view}
use Rattle.tx_safety.specs.Answers.{checked_in}
use Rattle.unit_objects.specs.Units.{IsUnitObject}
use Rattle.run_command.proofs.building.put_program.Goals as goal

pub returns : goal.returns
returns c = IfOk-weaker c.put.result _ _ (λ d h. record {
  object = object_view c.in_ok-object.object;
  is_object = c.in_ok-object.ensures.object;
  of = subst (λ (name : List ℕ). IsUnitObject (program_of (checked_in c.args.safe.now)) name 0
      (object_view c.in_ok-object.object)) c.as_bytes.ensures.value c.in_ok-object.ensures.unit;
  puts = h;
}) c.put.ensures
