use Rattle.std.proofs.Common.{◌≡◌, ◌∙◌, ℕ, List, Result, Ok, Err, None, sym, ap, subst, rules}
use Rattle.elab_entry.specs.cpp_lex.Tokens.{lexemes_of}
use Rattle.elab_entry.specs.cpp_types.Typ.{typ_of}
use Rattle.elab_entry.specs.cpp_tree.declared.program.FuncKind.TheVariants.{Plain}
use Rattle.elab_entry.specs.cpp_tree.declared.faults.ElabFault.{ElabFault}
use Rattle.elab_entry.specs.cpp_tree.Typing.{form_in}
use Rattle.elab_entry.specs.elab_ctx.Says.{Faults}
use Rattle.elab_entry.specs.elab_ctx.Steps.{and_then}
use Rattle.elab_entry.specs.elab_rules.Functions.{Header}
use Rattle.elab_entry.specs.elab_rules.Classes.{header_in}
use Rattle.elab_entry.specs.elab_types.Shown.{declared_of}
use Rattle.class_members.specs.Shown.{header_of, storage_of}
use Rattle.elab_decls.proofs.Steps.{says_refused, faults_same, faults_then}
use Rattle.elab_units.proofs.Declarings.{header_plain}
use Rattle.elab_units.proofs.declarations.header_of.Goals as goal

pub returns-in_err-header : goal.returns-in_err-header
returns-in_err-header c =
    let is_error : c.from_residual.result ≡ Err c.in_err-header.field-0.0 = search rules in
    let plain : Header → Result Header ElabFault = λ (h : Header). Ok (record h { class = None }) in
    says_refused header_of c.from_residual.result c.in_err-header.field-0.0 _ is_error
    (faults_same c.in_err-header.field-0.0 _ _ (header_plain (lexemes_of c.args.tokens.now) c.args.at (storage_of c.args.storage) (declared_of c.args.declared)
    (form_in (typ_of c.args.declared.ty)))
    (faults_then c.in_err-header.field-0.0 _ plain (subst
    (λ (z : List ℕ). Faults c.in_err-header.field-0.0
    (header_in 0 (storage_of c.args.storage) Plain c.args.at z (declared_of c.args.declared)
    (form_in (typ_of c.args.declared.ty)))) c.name_of-name.ensures c.in_err-header.ensures)))

pub returns : goal.returns
returns c =
    let plain : Header → Result Header ElabFault = λ (h : Header). Ok (record h { class = None }) in
    header_plain (lexemes_of c.args.tokens.now) c.args.at (storage_of c.args.storage) (declared_of c.args.declared) (form_in (typ_of c.args.declared.ty))
    ∙ ap (λ (z : List ℕ). and_then (header_in 0 (storage_of c.args.storage) Plain c.args.at z (declared_of c.args.declared)
    (form_in (typ_of c.args.declared.ty))) plain) (sym c.name_of-name.ensures)
    ∙ ap (λ (z : Result Header ElabFault). and_then z plain) c.in_ok-header.ensures
