use Rattle.std.proofs.Common.{◌∙◌, ◌∷◌, suc, length, drop, drop-cons, ap, sym, refl, ◌==◌}
use Rattle.std.proofs.lemmas.Bool.{eq-eqb}
use Rattle.std.proofs.lemmas.Option.{slice_get_read}
use Rattle.cpp_tree.specs.cpp_types.Typ.{Typ}
use Rattle.note_landing.specs.Shown.{numbers_by}
use Rattle.body_notes.proofs.Tables.{type_here}
use Rattle.body_notes.proofs.named.type_of.Goals as goal

pub returns-in-Ok : goal.returns-in-Ok
returns-in-Ok c =
    let types = c.args.body.now.source.types.now in
    let n = c.loop-n.n in
    let ty = c.ty-item.result in
    type_here types n ty (drop (suc n) types) (λ (t : Typ). numbers_by c.args.body.now t == c.args.number) _ c.in-Ok.typ c.in-Ok.ensures.1
    (slice_get_read types (length types) n ty refl c.loop-n-test.true c.ty-item.is)
    (drop-cons types n ty c.loop-n-test.true ∙ ap (λ z. z ∷ drop (suc n) types) (sym c.ty-item.is))
    (eq-eqb _ _ (sym c.in_ok-number_of.ensures ∙ c.if-branch-number.true))
    c.loop-n.invariant
