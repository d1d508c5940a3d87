use Rattle.std.proofs.Common.{◌≡◌, ◌∙◌, ◌+◌, List, Some, None, length, ap, sym, refl, ◌==◌}
use Rattle.std.specs.Prelude.{slice_get}
use Rattle.std.proofs.lemmas.Bool.{ltb-true, ltb-false}
use Rattle.std.proofs.lemmas.Option.{slice_get_read, slice_get_past}
use Rattle.tx_code.specs.Program.{global_address}
use Rattle.cpp_tree.specs.declared.program.Program.{Program}
use Rattle.cpp_tree.specs.declared.program.UnitTree.{UnitTree}
use Rattle.image_links.specs.Books.{first_place}
use Rattle.note_landing.specs.Shown.{linked_by, given_by, func_by}
use Rattle.body_notes.proofs.Tables.{global_found, global_nowhere}
use Rattle.body_notes.proofs.named.global_of.Goals as goal

pub returns-in_ok-found-in-Some : goal.returns-in_ok-found-in-Some
returns-in_ok-found-in-Some c =
    let body = c.args.body.now in
    let units = c.deref.result.now in
    let here = slice_get_read units (length units) c.unit_of-unit.result c.in-Some.tree.now refl (ltb-true c.unit_of-unit.result (length units) (sym c.in-Some.ensures.lookup.0)) c.in-Some.ensures.lookup.1 in
    let there : slice_get (given_by body).program.units.items c.unit_of-unit.result ≡ Some c.in-Some.tree.now =
    sym (ap (λ (z : List UnitTree). slice_get z c.unit_of-unit.result) (c.deref.ensures.value ∙ ap (λ (p : Program). p.units.items) c.program.ensures)) ∙ here in
    let found = c.in_ok-found-in-Some.ensures
    ∙ ap (λ a. first_place (λ n. (linked_by body).global c.unit_of-unit.result n == (65536 + a)) 0 c.deref-in-Some.result.now) c.from-address.ensures
    ∙ ap (λ z. first_place (λ n. (linked_by body).global c.unit_of-unit.result n == global_address c.args.offset) 0 z) c.deref-in-Some.ensures.value in
    global_found (given_by body).program c.unit_of-unit.result (func_by body).unit c.unit_of-unit.ensures c.in-Some.tree.now (λ u n. (linked_by body).global u n == global_address c.args.offset) _ there found

pub returns-in-None : goal.returns-in-None
returns-in-None c =
    let body = c.args.body.now in
    let units = c.deref.result.now in
    let here = slice_get_past units c.unit_of-unit.result (ltb-false c.unit_of-unit.result (length units) (sym c.in-None.ensures.lookup.0)) in
    let there : slice_get (given_by body).program.units.items c.unit_of-unit.result ≡ None =
    sym (ap (λ (z : List UnitTree). slice_get z c.unit_of-unit.result) (c.deref.ensures.value ∙ ap (λ (p : Program). p.units.items) c.program.ensures)) ∙ here in
    global_nowhere (given_by body).program c.unit_of-unit.result (func_by body).unit c.unit_of-unit.ensures (λ u n. (linked_by body).global u n == global_address c.args.offset) there
