use Rattle.std.proofs.Common.{◌≡◌, ◌∙◌, ℕ, List, Option, Some, None, length, ap, sym, refl, arith, ◌==◌, ◌<◌, cond, nat_lt}
use Rattle.std.specs.Prelude.{slice_get}
use Rattle.std.proofs.lemmas.Bool.{ltb-true, ltb-false, lt-ltb}
use Rattle.std.proofs.lemmas.List.{length-map}
use Rattle.std.proofs.lemmas.Option.{slice_get_read, slice_get_past}
use Rattle.tx_code.specs.Images.{image_func_view}
use Rattle.cpp_tree.specs.declared.program.Program.{Program}
use Rattle.cpp_tree.specs.declared.program.UnitTree.{UnitTree}
use Rattle.image_links.specs.Books.{first_place}
use Rattle.note_landing.specs.Shown.{linked_by, given_by, image_by, func_by}
use Rattle.body_notes.proofs.Tables.{function_found, function_nowhere}
use Rattle.body_notes.proofs.named.function_of.Goals as goal

-- a number below the length of a table, and what is found there
in_image : {A : Type 0} (n : ℕ) (xs : List A) (o r : Option ℕ) → n < length xs → o ≡ r → o ≡ cond (nat_lt n (length xs)) r None
in_image n xs o r h e = e ∙ sym (ap (λ z. cond z r None) (lt-ltb n (length xs) h))

pub returns-in_ok-found-in-Some : goal.returns-in_ok-found-in-Some
returns-in_ok-found-in-Some c =
    let body = c.args.body.now in
    let units = c.deref.result.now in
    let here = slice_get_read units (length units) c.unit_of-unit.result c.in-Some.tree.now refl (ltb-true c.unit_of-unit.result (length units) (sym c.in-Some.ensures.lookup.0)) c.in-Some.ensures.lookup.1 in
    let there : slice_get (given_by body).program.units.items c.unit_of-unit.result ≡ Some c.in-Some.tree.now =
    sym (ap (λ (z : List UnitTree). slice_get z c.unit_of-unit.result) (c.deref.ensures.value ∙ ap (λ (p : Program). p.units.items) c.program.ensures)) ∙ here in
    let found = c.in_ok-found-in-Some.ensures ∙ ap (λ z. first_place (λ n. (linked_by body).number c.unit_of-unit.result n == c.args.number) 0 z) c.deref-in-Some.ensures.value in
    in_image c.args.number (image_by body).funcs _ _ (omega (arith, c.if-len-number.false, c.len.ensures, length-map body.image.now.funcs.items image_func_view))
    (function_found (given_by body).program c.unit_of-unit.result (func_by body).unit c.unit_of-unit.ensures c.in-Some.tree.now (λ u n. (linked_by body).number u n == c.args.number) _ there found)

pub returns-in-None : goal.returns-in-None
returns-in-None c =
    let body = c.args.body.now in
    let units = c.deref.result.now in
    let here = slice_get_past units c.unit_of-unit.result (ltb-false c.unit_of-unit.result (length units) (sym c.in-None.ensures.lookup.0)) in
    let there : slice_get (given_by body).program.units.items c.unit_of-unit.result ≡ None =
    sym (ap (λ (z : List UnitTree). slice_get z c.unit_of-unit.result) (c.deref.ensures.value ∙ ap (λ (p : Program). p.units.items) c.program.ensures)) ∙ here in
    in_image c.args.number (image_by body).funcs _ _ (omega (arith, c.if-len-number.false, c.len.ensures, length-map body.image.now.funcs.items image_func_view))
    (function_nowhere (given_by body).program c.unit_of-unit.result (func_by body).unit c.unit_of-unit.ensures (λ u n. (linked_by body).number u n == c.args.number) there)
