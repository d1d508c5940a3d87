use Rattle.std.proofs.Common.{◌∙◌, ap, refl}
use Rattle.cpp_tree.specs.Units.{program_of}
use Rattle.src_bind.specs.Defs.{defs_of}
use Rattle.src_bind.proofs.Stay.{sizes_there}
use Rattle.src_bind.proofs.Made.{bodies_in, room_for, tables_are}
use Rattle.src_bind.proofs.binding.bind.Goals as goal

pub offsets-requires-clause-sized : goal.offsets-requires-clause-sized
offsets-requires-clause-sized c = sizes_there (program_of c.args.program.now) c.requires (defs_of c.as_slice-globals.result.now)
    (ap defs_of c.as_slice-globals.ensures.value ∙ c.in_ok-global_defs.ensures)

pub offsets-requires-clause-total : goal.offsets-requires-clause-total
offsets-requires-clause-total c = room_for (program_of c.args.program.now) (defs_of c.as_slice-globals.result.now) c.requires
    (ap defs_of c.as_slice-globals.ensures.value ∙ c.in_ok-global_defs.ensures)

pub infos_of-requires-clause-there : goal.infos_of-requires-clause-there
infos_of-requires-clause-there c = bodies_in (program_of c.args.program.now) (defs_of c.as_slice-funcs.result.now)
    (ap defs_of c.as_slice-funcs.ensures.value ∙ c.in_ok-func_defs.ensures)

pub invariant_of-result : goal.invariant_of-result
invariant_of-result c = record {
  tables = tables_are (record { program = c.args.program.now; choices = c.args.choices.now })
      (record {
        infos = c.in_ok-infos.infos.items;
        numbers = c.in_ok-numbers.numbers.items;
        globals = c.in_ok-addresses.addresses.items;
        tables =
            c.in_ok-class_numbers.class_numbers.items;
        nameless = c.in_ok-nameless.nameless;
        places = c.in_ok-places.places.items;
        slots =
            c.in_ok-slots.slots.items;
        main = c.in_ok-main.main;
      })
      (defs_of c.as_slice-funcs.result.now) (defs_of c.as_slice-globals.result.now) (defs_of c.as_slice-classes.result.now)
      (ap defs_of c.as_slice-funcs.ensures.value ∙ c.in_ok-func_defs.ensures) (ap defs_of c.as_slice-globals.ensures.value ∙ c.in_ok-global_defs.ensures)
      (ap defs_of c.as_slice-classes.ensures.value ∙ c.in_ok-class_defs.ensures)
      c.deref.result.now c.deref-2.result.now _ c.deref-3.result.now c.deref-4.result.now
      (record {
        few = c.in_ok-infos.ensures.few;
        infos = c.in_ok-infos.ensures.infos;
        bodies = c.in_ok-infos.ensures.bodies;
        types = λ sig. c.in_ok-infos.ensures.types sig;
        numbers = c.in_ok-numbers.ensures;
        lie = c.deref.ensures.value ∙ c.in_ok-offsets.ensures;
        addresses = c.in_ok-addresses.ensures;
        records_are = c.deref-2.ensures.value;
        tables = c.in_ok-class_numbers.ensures;
        empty_is = refl;
        nameless = c.in_ok-nameless.ensures;
        places = c.in_ok-places.ensures;
        symbols_are = c.deref-3.ensures.value;
        slots = c.in_ok-slots.ensures;
        name_is = c.deref-4.ensures.value;
        main = c.in_ok-main.ensures;
      });
}
