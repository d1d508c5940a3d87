use Rattle.std.proofs.Common.{◌∙◌, map, ap, refl}
use Rattle.cpp_tree.specs.Units.{unit_of, program_of}
use Rattle.tx_code.specs.Objects.{bytes_of, class_view, global_view, func_view}
use Rattle.link_faults.specs.Faults.{class_record}
use Rattle.unit_entries.specs.Records.{naming, func_record, global_record}
use Rattle.unit_entries.specs.Uses.{Marks, marks_of}
use Rattle.unit_entries.specs.Entries.{funcs_from, globals_from, unit_classes}
use Rattle.clone_gen.proofs.Orders.{in_order, named_so}
use Rattle.clone_gen.proofs.generating.unit_object.Goals as goal

pub returns : goal.returns
returns c =
    let p = program_of c.args.program.now in
    let u = unit_of c.args.unit.now in
    let o = naming (map bytes_of c.args.named.names.items) in
    let names = c.deref.ensures.value in
    record {
      version = refl;
      source = c.in_ok-source.ensures;
      classes = in_order class_view (class_record o) c.in_ok-class_entries.field-0.items c.in_ok-classes.classes.items (unit_classes p u)
          (named_so (λ ns. map (class_record (naming (map bytes_of ns)))
          (map class_view c.in_ok-class_entries.field-0.items)) names c.in_ok-class_entries.ensures) c.in_ok-classes.ensures;
      globals = in_order global_view (global_record o) c.in_ok-global_entries.field-0.items c.in_ok-globals.globals.items
          (globals_from p.classes (marks_of p u c.args.safe.now) 0 u.globals)
          (named_so (λ ns. map (global_record (naming (map bytes_of ns)))
          (map global_view c.in_ok-global_entries.field-0.items)) names c.in_ok-global_entries.ensures
          ∙ ap (λ (m : Marks). globals_from p.classes m 0 u.globals) c.requires) c.in_ok-globals.ensures;
      funcs = in_order func_view (func_record o) c.with_bodies.new.funcs.items c.in_ok-funcs-2.funcs.items
          (funcs_from p.classes u.classes (marks_of p u c.args.safe.now) c.args.safe.now 0 u.funcs)
          (c.in_ok-with_bodies.ensures o ∙ named_so (λ ns. map (func_record (naming (map bytes_of ns)))
          (map func_view c.in_ok-funcs.funcs.items)) names c.in_ok-funcs.ensures
          ∙ ap (λ (m : Marks). funcs_from p.classes u.classes m c.args.safe.now 0 u.funcs) c.requires) c.in_ok-funcs-2.ensures;
    }
