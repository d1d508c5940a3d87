use Rattle.std.proofs.Common.{◌≡◌, ◌<◌, length, map, arith, true}
use Rattle.std.proofs.lemmas.List.{length-map}
use Rattle.std.specs.List.{list_all, All}
use Rattle.tx_code.specs.declared.object.Object.{Object}
use Rattle.tx_code.specs.Objects.{bytes_of, object_view}
use Rattle.link_faults.specs.Faults.{func_entries, global_entries, class_records}
use Rattle.link_faults.specs.Ranks.{Known}
use Rattle.link_faults.specs.Tests.{is_listed_entry, is_listed_class}
use Rattle.link_faults.proofs.ListedEntries.{each_known, all_known, all_within_names, func_entries_listed, global_entries_listed}
use Rattle.link_faults.proofs.ClassTests.{class_records_listed, classes_within}
use Rattle.link_faults.proofs.tables.tables_of.Goals as goal

pub ranked_funcs-requires : goal.ranked_funcs-requires
ranked_funcs-requires c =
    let named = c.in_ok-names.ensures in
    let few : length (map bytes_of c.in_ok-names.names.items) < 4294967295 = omega (arith, named.count, c.requires.names) in
    rw c.deref.ensures.value (record {
      known = each_known
          (map bytes_of c.in_ok-names.names.items) c.args.objects.now named.ascend few c.requires.objects named.listed;
    })

pub ranked_globals-requires : goal.ranked_globals-requires
ranked_globals-requires c =
    let named = c.in_ok-names.ensures in
    let few : length (map bytes_of c.in_ok-names.names.items) < 4294967295 = omega (arith, named.count, c.requires.names) in
    rw c.deref-2.ensures.value (record {
      known = each_known
          (map bytes_of c.in_ok-names.names.items) c.args.objects.now named.ascend few c.requires.objects named.listed;
    })

pub ranked_classes-requires : goal.ranked_classes-requires
ranked_classes-requires c =
    let named = c.in_ok-names.ensures in
    let few : length (map bytes_of c.in_ok-names.names.items) < 4294967295 = omega (arith, named.count, c.requires.names) in
    rw c.deref-3.ensures.value (record {
      known = each_known
          (map bytes_of c.in_ok-names.names.items) c.args.objects.now named.ascend few c.requires.objects named.listed;
    })

pub returns-clause-told : goal.returns-clause-told
returns-clause-told c =
    let named = c.in_ok-names.ensures in
    let all = map bytes_of c.in_ok-names.names.items in
    let few : length all < 4294967295 = omega (arith, named.count, c.requires.names) in
    let known : All (λ (o : Object). Known all (object_view o)) c.args.objects.now =
    each_known all c.args.objects.now named.ascend few c.requires.objects named.listed in
    let every = all_known all c.args.objects.now known in
    let funcs : list_all (is_listed_entry all) (func_entries (map object_view c.args.objects.now)) ≡ true =
    func_entries_listed all (map object_view c.args.objects.now) every in
    let globals : list_all (is_listed_entry all) (global_entries (map object_view c.args.objects.now)) ≡ true =
    global_entries_listed all (map object_view c.args.objects.now) every in
    let told-funcs = rw c.deref.ensures.value at c.in_ok-funcs.ensures in
    let told-globals = rw c.deref-2.ensures.value at c.in_ok-globals.ensures in
    let told-classes = rw c.deref-3.ensures.value at c.in_ok-classes.ensures in
    let classes : list_all (is_listed_class all) (class_records (map object_view c.args.objects.now)) ≡ true =
    class_records_listed all (map object_view c.args.objects.now) every in
    record {
      names = named;
      few = omega (arith, length-map c.in_ok-names.names.items bytes_of);
      known = known;
      funcs = told-funcs;
      globals = told-globals;
      funcs_within = rw told-funcs (all_within_names c.in_ok-names.names.items (func_entries (map object_view c.args.objects.now)) named.ascend funcs);
      globals_within = rw told-globals (all_within_names c.in_ok-names.names.items (global_entries (map object_view c.args.objects.now)) named.ascend globals);
      classes = told-classes;
      classes_within = classes_within c.in_ok-names.names.items c.in_ok-classes.classes.items
          (class_records (map object_view c.args.objects.now)) named.ascend told-classes classes;
      classes_listed = classes;
      funcs_listed = funcs;
      globals_listed = globals;
    }
