use Rattle.std.proofs.Common.{◌≡◌, ◌∙◌, List, [], ap, subst, refl}
use Rattle.std.specs.Prelude.{reverse}
use Rattle.cpp_tree.specs.cpp_types.declared.classes.At.{At}
use Rattle.low_code.specs.Nodes.{Node}
use Rattle.low_code.specs.Writer.{Body, body_of}
use Rattle.unwind_lower.specs.declared.items.Item.{Item}
use Rattle.unwind_lower.specs.States.{State, state_of}
use Rattle.unwind_lower.specs.Settings.{Setting, setting_of, node_in}
use Rattle.unwind_lower.specs.Functions.{begun, WrittenTo}
use Rattle.unwind_lower.proofs.functions.lower_function.Goals as goal

pub returns : goal.returns
unfolding state_of setting_of node_in
returns c =
    let g : Setting = record {
      program = c.args.program.now;
      unit = c.args.unit.now;
      func = c.args.func.now;
      places = c.args.places.items;
      temporaries = c.args.temporaries.now;
    } in
    let root = c.args.body in
    let whole : State = state_of c.write_body.new.w in
    let at : At = c.in_ok-at.field-0.now.at in
    let place : at ≡ (node_in g root).at = ap (λ (n : Node). n.at) c.in_ok-at.ensures.shown in
    let none : c.new-2.result.items ≡ [] = c.new-2.ensures.items in
    let first : State = record { names = c.args.names; body = body_of c.in_ok-new.field-0; work = reverse c.new-2.result.items } in
    let starts : first ≡ begun g c.args.names at =
    ap (λ (b : Body). record first { body = b }) c.in_ok-new.ensures
    ∙ ap (λ (items : List Item). record (begun g c.args.names at) { work = reverse items }) none in
    let done = rw c.names.view_is at c.in_ok-write_body.ensures in
    record {
      whole = whole;
      all_written = subst (λ (a : At). WrittenTo g root a (begun g c.args.names a) whole) place
          (subst (λ (s : State). WrittenTo g root at s whole) starts done);
      code_is = refl;
      scopes_is = refl;
      rows_is = c.in_ok-rows.ensures;
      names_is = refl;
    }
