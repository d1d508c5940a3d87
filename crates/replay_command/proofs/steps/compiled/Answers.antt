use Rattle.std.proofs.Common.{◌≡◌, List, ℕ, ap, map, string_bytes, subst, sym}
use Rattle.std.specs.List.{All}
use Rattle.std.proofs.lemmas.Result.{IfOk-weaker}
use Rattle.command_io.specs.Writes.{written_of}
use Rattle.cpp_tree.specs.Units.{program_of}
use Rattle.tx_code.specs.Objects.{ObjectView, object_view}
use Rattle.tx_code.specs.WellFormed.{IsObject}
use Rattle.tx_safety.specs.Answers.{checked_in}
use Rattle.unit_objects.specs.Units.{AreUnitObjects}
use Rattle.replay_command.specs.Replays.{DecidesObjects, source_files}
use Rattle.replay_command.proofs.steps.compiled.Goals as goal

pub with_objects-requires : goal.with_objects-requires
with_objects-requires c = subst (All (λ o. IsObject (object_view o))) (sym c.as_slice-2.ensures.value) c.in_ok-objects.ensures.objects

pub returns : goal.returns
returns c =
    let p = checked_in c.args.safe.now in
    let objects = map object_view c.in_ok-objects.objects.items in
    let views : map object_view c.as_slice-2.result.now ≡ objects = ap (λ os. map object_view os) c.as_slice-2.ensures.value in
    let names : map string_bytes c.as_slice.result.now ≡ source_files c.args.words.now = ap (λ l. map string_bytes l) c.as_slice.ensures.value in
    IfOk-weaker c.with_objects.result _ _ (λ d h. record {
      objects = objects;
      are_objects = subst (λ (ns : List (List ℕ)). AreUnitObjects (program_of p) ns objects) names c.in_ok-objects.ensures.units;
      decides = subst (λ (os : List ObjectView). DecidesObjects c.args.words.now p os c.args.input.now c.args.order.now d.answer
          (map written_of d.writes.items)) views h;
    }) c.with_objects.ensures
