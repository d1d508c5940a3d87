use Rattle.std.proofs.Common.{◌∙◌, [], map, sym, ap, arith}
use Rattle.std.specs.List.{flat_map}
use Rattle.std.proofs.lemmas.List.{length-map}
use Rattle.tx_code.specs.Objects.{bytes_of, object_view}
use Rattle.link_faults.specs.Ranks.{rank_of}
use Rattle.link_tables.specs.Homes.{names_at}
use Rattle.link_tables.specs.Found.{classes_in, funcs_in, globals_in, kept_class_rows, kept_rows}
use Rattle.link_tables.proofs.NamePlaces.{names_flat}
use Rattle.tx_linker.proofs.KeptRows.{all_from, all_objects_known, found_classes_fit, found_funcs_fit, homes_are}
use Rattle.tx_linker.proofs.kept.kept_of.Goals as goal

pub ranks_of-requires : goal.ranks_of-requires
ranks_of-requires c =
    let os = map object_view c.args.objects.now in
    let all = map bytes_of c.in_ok-names.names.items in
    let known = all_objects_known all c.args.objects.now c.in_ok-names.ensures c.requires.names c.requires.objects in
    rw (c.deref.ensures.value, c.deref-2.ensures.value)
    (homes_are all 0 0 os c.in_ok-homes.homes.items known (omega (arith, c.requires.names)) c.in_ok-homes.ensures)

pub found_funcs-requires : goal.found_funcs-requires
found_funcs-requires c =
    let os = map object_view c.args.objects.now in
    let all = map bytes_of c.in_ok-names.names.items in
    let known = all_objects_known all c.args.objects.now c.in_ok-names.ensures c.requires.names c.requires.objects in
    rw (c.deref-3.ensures.value, c.deref-4.ensures.value)
    (homes_are all 0 0 os c.in_ok-homes.homes.items known (omega (arith, c.requires.names)) c.in_ok-homes.ensures)

pub kept_funcs-requires : goal.kept_funcs-requires
kept_funcs-requires c =
    let os = map object_view c.args.objects.now in
    let all = map bytes_of c.in_ok-names.names.items in
    let known = all_objects_known all c.args.objects.now c.in_ok-names.ensures c.requires.names c.requires.objects in
    rw c.deref-5.ensures.value (found_funcs_fit all os c.in_ok-all_funcs.all_funcs.items c.len.result known
    (c.len.ensures ∙ c.in_ok-names.names.ok.0 ∙ sym (length-map c.in_ok-names.names.items bytes_of))
    ((rw c.deref-4.ensures.value at (rw c.deref-3.ensures.value at c.in_ok-all_funcs.ensures)) ∙ ap (flat_map (funcs_in all)) c.in_ok-homes.ensures))

pub found_globals-requires : goal.found_globals-requires
found_globals-requires c =
    let os = map object_view c.args.objects.now in
    let all = map bytes_of c.in_ok-names.names.items in
    let known = all_objects_known all c.args.objects.now c.in_ok-names.ensures c.requires.names c.requires.objects in
    rw (c.deref-6.ensures.value, c.deref-7.ensures.value)
    (homes_are all 0 0 os c.in_ok-homes.homes.items known (omega (arith, c.requires.names)) c.in_ok-homes.ensures)

pub found_classes-requires : goal.found_classes-requires
found_classes-requires c =
    let os = map object_view c.args.objects.now in
    let all = map bytes_of c.in_ok-names.names.items in
    let known = all_objects_known all c.args.objects.now c.in_ok-names.ensures c.requires.names c.requires.objects in
    rw (c.deref-8.ensures.value, c.deref-9.ensures.value)
    (homes_are all 0 0 os c.in_ok-homes.homes.items known (omega (arith, c.requires.names)) c.in_ok-homes.ensures)

pub kept_classes-requires : goal.kept_classes-requires
kept_classes-requires c =
    let os = map object_view c.args.objects.now in
    let all = map bytes_of c.in_ok-names.names.items in
    let known = all_objects_known all c.args.objects.now c.in_ok-names.ensures c.requires.names c.requires.objects in
    rw c.deref-10.ensures.value (found_classes_fit all os c.in_ok-all_classes.all_classes.items c.len-2.result known
    (c.len-2.ensures ∙ c.in_ok-names.names.ok.0 ∙ sym (length-map c.in_ok-names.names.items bytes_of))
    ((rw c.deref-9.ensures.value at (rw c.deref-8.ensures.value at c.in_ok-all_classes.ensures)) ∙ ap (flat_map (classes_in all)) c.in_ok-homes.ensures))

pub returns-clause-kept : goal.returns-clause-kept
returns-clause-kept c =
    let os = map object_view c.args.objects.now in
    let all = map bytes_of c.in_ok-names.names.items in
    let known = all_objects_known all c.args.objects.now c.in_ok-names.ensures c.requires.names c.requires.objects in
    record {
      names = c.in_ok-names.ensures;
      objects = c.requires.objects;
      few = c.requires.names;
      known = all_from all os known;
      placed = c.in_ok-homes.ensures;
      ranks = (rw c.deref-2.ensures.value at (rw c.deref.ensures.value at c.in_ok-ranks.ensures))
          ∙ ap (λ hs. map (rank_of all) (flat_map names_at hs)) c.in_ok-homes.ensures ∙ ap (map (rank_of all)) (names_flat 0 0 os);
      funcs = (rw c.deref-5.ensures.value at c.in_ok-funcs.ensures)
          ∙ ap (kept_rows []) ((rw c.deref-4.ensures.value at (rw c.deref-3.ensures.value at c.in_ok-all_funcs.ensures)) ∙ ap
          (flat_map (funcs_in all)) c.in_ok-homes.ensures);
      globals = (rw c.deref-7.ensures.value at (rw c.deref-6.ensures.value at c.in_ok-globals.ensures)) ∙ ap (flat_map (globals_in all)) c.in_ok-homes.ensures;
      classes = (rw c.deref-10.ensures.value at c.in_ok-classes.ensures)
          ∙ ap (kept_class_rows []) ((rw c.deref-9.ensures.value at (rw c.deref-8.ensures.value at c.in_ok-all_classes.ensures)) ∙ ap
          (flat_map (classes_in all)) c.in_ok-homes.ensures);
    }
