use Rattle.std.proofs.Common.{◌≡◌, ◌∙◌, Err, refl, sym, rules}
use Rattle.elab_scopes.specs.cpp_types.Typ.{typ_of}
use Rattle.elab_locals.proofs.Placed.{variables_fail}
use Rattle.std.proofs.Common.{option_map}
use Rattle.elab_locals.proofs.Placed.{auto_found, auto_fails}
use Rattle.elab_locals.proofs.autos.auto_from.Goals as goal

pub returns-in_err-made : goal.returns-in_err-made
returns-in_err-made c =
    let is_error : c.from_residual-in_err-made.result ≡ Err c.in_err-made.field-0.0 = search rules in
    variables_fail _ _ _ _ _ _ is_error (auto_fails c.args.st.now
    (record c.args.st.now { work = record c.args.st.now.work { nodes = c.deduced_type.new.nodes } }) c.args.o c.in_ok-found.found c.args.index
    (typ_of c.args.pattern.now) c.args.at (option_map typ_of c.args.auto.now) _ c.requires.operand c.in_ok-found.ensures refl
    (sym c.same_deduction.ensures ∙ c.if-not-same_deduction.false) c.in_err-made.ensures)

pub returns : goal.returns
returns c = auto_found c.args.st.now _ _ c.args.o c.in_ok-found.found _ c.args.index (typ_of c.args.pattern.now) c.args.at
    (option_map typ_of c.args.auto.now) _ c.requires.operand c.in_ok-found.ensures refl
    (sym c.same_deduction.ensures ∙ c.if-not-same_deduction.false) c.in_ok-made.ensures refl
