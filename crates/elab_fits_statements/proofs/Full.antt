-- Expressions as statements, conditions and the values of `switch`.
use Rattle.std.proofs.Common.{◌≡◌, refl, subst, true, false, List, Result, Ok, Err}
use Rattle.elab_rules.specs.cpp_lex.Tokens.{Lexeme}
use Rattle.elab_rules.specs.cpp_ast.Trees as syntax
use Rattle.elab_rules.specs.cpp_types.Typ.{Typ, Form, int, enum}
use Rattle.elab_rules.specs.cpp_types.declared.classes.At.{At}
use Rattle.elab_rules.specs.cpp_tree.declared.faults.ElabFault.{ElabFault}
use Rattle.elab_rules.specs.cpp_tree.declared.roles.Role.TheVariants.{Value, Statement}
use Rattle.elab_rules.specs.cpp_tree.Trees.{Tree, typ_in}
use Rattle.elab_rules.specs.cpp_tree.Notation.{plain}
use Rattle.elab_rules.specs.cpp_tree.Typing.{form_in}
use Rattle.elab_rules.specs.elab_ctx.Steps.{and_then}
use Rattle.elab_rules.specs.Operators.{value, value_form, truth, dropped}
use Rattle.elab_rules.specs.Statements.{State, Done, Lambdas, Full, Switched, with_work, full, full_operand, full_made, expression_statement}
use Rattle.elab_rules.specs.Statements.{condition, the_tree}
use Rattle.elab_rules.specs.Statements.{switched, switched_type}
use Rattle.elab_fits.specs.Standing.{On}
use Rattle.elab_fits.proofs.Numbers.{promoted_kind}
use Rattle.elab_fits.proofs.Unary.{truth_gives}
use Rattle.elab_fits.proofs.Arithmetic.{IsTruth}
use Rattle.elab_fits.proofs.Steps.{told}
use Rattle.elab_fits_statements.specs.Anywhere.{FitsAnywhere, AllServe}
use Rattle.elab_fits_statements.specs.Forms.{IsCondition}
use Rattle.elab_fits_statements.specs.Variables.{Switches}
use Rattle.elab_fits_statements.specs.Items.{IsLabelType}
use Rattle.elab_fits_statements.specs.Discipline.{Words, Goes, HasRead, Discipline}
use Rattle.elab_fits_statements.proofs.Wholes.{whole_value}
use Rattle.elab_fits_statements.proofs.Forms.{value_serves}
use Rattle.elab_fits_statements.proofs.Variables.{condition_fits}
use Rattle.elab_fits_statements.proofs.Switches.{switched_law}
use Rattle.elab_fits_statements.proofs.States.{goes_then, condition_still}

-- an expression as a statement, and as a step of a loop
pub record IsWhole (w : Words) (st : State) (d : Done) : Type 0 where
  pub goes : Goes w st d.state
  pub fits : (p : At) → FitsAnywhere (w.at d.state) Value (the_tree p d.trees)
  pub serve : AllServe (w.at d.state) false false Statement d.trees

pub record IsTest (w : Words) (st : State) (d : Done) : Type 0 where
  pub goes : Goes w st d.state
  pub test : (p : At) → IsCondition (w.at d.state) (the_tree p d.trees)

pub record IsSwitch (w : Words) (st : State) (v : Switched) : Type 0 where
  pub goes : Goes w st v.state
  pub switches : Switches (w.at v.state) v.typ v.value
  pub labels : IsLabelType v.typ

type_told : (t u : Typ) → ◌≡◌ {A = Result Typ ElabFault} (Ok t) (Ok u) → t ≡ u
type_told t u h = cc

-- the type of labels
label_type : (at : At) (f : Form) (t : Typ) → switched_type at f ≡ Ok t → IsLabelType t
label_type at (int j) t h = subst IsLabelType (type_told (plain (int _)) t h) (record { form = int _; typed = refl; scalar = refl; promoted = promoted_kind j })
label_type at (enum n true) t h = subst IsLabelType (type_told (plain (enum n true)) t h) (record
    { form = enum n true; typed = refl; scalar = refl; promoted = refl })
label_type at (enum n false) t h = subst IsLabelType (type_told (plain (int _)) t h) (record { form = int _; typed = refl; scalar = refl; promoted = refl })
label_type at f t h = absurd cc

module _ (w : Words) (lams : Lambdas) (s : List Lexeme) (d : Discipline w lams s) where
  pub expression_fits : (st : State) (e : syntax.Tree) → w.Good st → w.Text e → On (IsWhole w st) (expression_statement lams s st e)
  expression_fits st e g t = told (IsWhole w st) (full_operand lams s st e) _ (λ f h.
      let r = d.reads st e f g t h in
      let q = d.drops f.state f.operand r.goes.good r.operand in
      let m = dropped f.state.ctx f.state.work f.operand in
      let x = whole_value (w.at (with_work f.state m.work)) f.operand.at m.tree q.fits in record {
        goes = goes_then w lams s d st f.state (with_work f.state m.work) r.goes q.goes;
        fits = λ p. x;
        serve = ((value_serves (w.at (with_work f.state m.work)) false false (full f.operand.at m.tree) x).0, tt);
      })

  -- a state behind a full-expression
  settled : (a : State) → w.Good a → Goes w a (with_work a a.work)
  settled a g = record {
    good = d.settles a g;
    leads = d.settles_leads a;
    stands = record {
      label = refl;
      breaks = refl;
      continues = refl;
      typ = refl;
      past =
          λ x. x;
    };
  }

  pub test_fits : (st : State) (e : syntax.Tree) → w.Good st → w.Text e → On (IsTest w st) (condition lams s st e)
  test_fits st e g t = told (IsTest w st) (full_operand lams s st e) _ (λ f h. by_truth f (d.reads st e f g t h))
    where
      by_truth : (f : Full) → HasRead w st f → On (IsTest w st)
          (full_made f (and_then (truth f.state.ctx f.state.work f.operand) (λ (t : Tree). Ok (record { tree = t; work = f.state.work }))))
      by_truth f r = by_answer (truth f.state.ctx f.state.work f.operand)
          (truth_gives (w.at f.state) f.state.ctx f.state.work f.operand (d.operand f.state f.operand r.operand))
        where
          by_answer : (x : Result Tree ElabFault) → On (IsTruth (w.at f.state)) x → On (IsTest w st)
              (full_made f (and_then x (λ (t : Tree). Ok (record { tree = t; work = f.state.work }))))
          by_answer (Err fault) k = tt
          by_answer (Ok tree) k =
              let z = settled f.state r.goes.good in
              let c = condition_fits (w.at f.state) f.operand.at tree k in record {
                goes = goes_then w lams s d st f.state (with_work f.state f.state.work) r.goes z;
                test = λ p. condition_still w lams s d f.state (with_work f.state f.state.work)
                    (full f.operand.at tree) r.goes.good z.leads c;
              }

  pub switch_fits : (st : State) (e : syntax.Tree) → w.Good st → w.Text e → On (IsSwitch w st) (switched lams s st e)
  switch_fits st e g t = told (IsSwitch w st) (full_operand lams s st e) _ (λ f h.
      let r = d.reads st e f g t h in
      told (IsSwitch w st) (switched_type f.operand.at (form_in (typ_in (value f.operand)))) _ (λ u k. record {
        goes = r.goes;
        switches = switched_law (w.at f.state) f.operand.at f.operand u (d.operand f.state f.operand r.operand) k;
        labels = label_type f.operand.at (value_form f.operand) u k;
      }))
