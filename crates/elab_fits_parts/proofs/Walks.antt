-- What implicit functions are, from the start of a unit on.
use Rattle.std.proofs.Common.{◌≡◌, refl, sym, ap, ◌∙◌, subst, ℕ, zero, suc, Bool, true, false, List, [], Some, Result, Ok, Err, nat_le, slice_get, is_some}
use Rattle.std.specs.Prelude.{if◌then◌else◌}
use Rattle.elab_rules.specs.cpp_types.Class.{Class}
use Rattle.elab_rules.specs.cpp_types.declared.classes.At.{At}
use Rattle.elab_rules.specs.cpp_tree.declared.faults.ElabFault.{ElabFault}
use Rattle.elab_rules.specs.cpp_tree.Typing.{form_in}
use Rattle.elab_rules.specs.cpp_layout.Layout.{class_extent}
use Rattle.elab_rules.specs.cpp_layout.declared.extents.TheConstants.{GREATEST_SIZE}
use Rattle.elab_rules.specs.elab_ctx.Ctx.{Ctx, Func}
use Rattle.elab_rules.specs.elab_ctx.Steps.{and_then}
use Rattle.elab_rules.specs.Classes.{begun, members_of, completed, closed_class}
use Rattle.elab_rules.specs.Globals.{enum_declared}
use Rattle.elab_rules.specs.Implicit.{implied}
use Rattle.elab_rules.specs.Lambdas.{lambdas_of}
use Rattle.elab_rules.specs.Members.{base_named, members_among, declared_only, default_made, late_method, outside_body}
use Rattle.elab_rules.specs.Statements.{State, Done, Full, full_operand, statements_of}
use Rattle.elab_rules.specs.Units.{builtins, file_declaration, alias_of, defined_with, declarations_of, unit_from}
use Rattle.elab_fits.specs.Standing.{On}
use Rattle.elab_fits.proofs.Steps.{weaken}
use Rattle.elab_contexts.specs.Steps.{view, Steps, IsOpen}
use Rattle.elab_contexts.specs.Texts.{is_no_name}
use Rattle.elab_contexts.specs.Walks.{Walks}
use Rattle.elab_contexts.proofs.Walking.{Leaves, Ends, joined}
use Rattle.elab_contexts.proofs.Going.{From}
use Rattle.elab_contexts.proofs.Statements.{statements_kept, full_kept}
use Rattle.elab_contexts.proofs.Bodies.{lambdas_lawful}
use Rattle.elab_contexts.proofs.Members.{default_kept, late_method_kept}
use Rattle.elab_contexts.proofs.Outside.{body_kept}
use Rattle.elab_contexts.proofs.Classes.{IsBegun, IsWholeBase, Read, begun_from, declared_from, base_whole, members_read, brace_leaves}
use Rattle.elab_contexts.proofs.Declared.{declaration_kept, aliases_from, enum_kept}
use Rattle.elab_contexts.proofs.Implied.{implied_one}
use Rattle.elab_contexts.proofs.Makers.{closing}
use Rattle.elab_contexts.proofs.Units.{declarations_go, units_go, with_kept}
use Rattle.elab_fits_parts.specs.Implicit.{IsImplicit, Implicits, StartsImplicit, LaterStartsImplicit, DeclarationsImplicit, UnitsImplicit}
use Rattle.elab_fits_parts.specs.Implicit.{LambdasImplicit, OperandsImplicit, StatementsImplicit, VariablesImplicit, AliasesImplicit, EnumsImplicit, NamesImplicit}
use Rattle.elab_fits_parts.specs.Implicit.{FunctionsImplicit, OutsideImplicit, ClassesImplicit, MemberDefaultsImplicit, MethodsImplicit, BodiesImplicit}
use Rattle.elab_fits_parts.proofs.Homes.{IsNamed, home_is, named_here}
use Rattle.elab_fits_parts.proofs.Implicit.{not_implicit, steps_law}

-- The start

builtins_written : (cs : List Class) (k : ℕ) (f : Func) → slice_get builtins k ≡ Some f → f.implicit ≡ true → IsImplicit cs f
builtins_written cs k f e = not_implicit cs f (by k f e)
  where
    none_of : (g f : Func) → g.implicit ≡ false → Some g ≡ Some f → f.implicit ≡ false
    none_of g f h e = let q : g ≡ f = cc in subst (λ (x : Func). x.implicit ≡ false) q h

    by : (k : ℕ) (f : Func) → slice_get builtins k ≡ Some f → f.implicit ≡ false
    by zero f e = none_of _ f refl e
    by (suc zero) f e = none_of _ f refl e
    by (suc (suc zero)) f e = none_of _ f refl e
    by (suc (suc (suc zero))) f e = none_of _ f refl e
    by (suc (suc (suc (suc k)))) f e = absurd cc

pub starts_law : StartsImplicit
starts_law source k f e = builtins_written [] k f e

pub later_law : LaterStartsImplicit
later_law source p x st k f e = builtins_written st.ctx.classes k f e

-- Steps of a unit

behind : (a b : State) → Walks a b → Implicits a → Implicits b
behind a b g h = steps_law a.ctx b.ctx g h

from_keeps : (st : State) (r : Result State ElabFault) → Implicits st → On (From st) r → On Implicits r
from_keeps st r h = weaken (From st) Implicits r (λ y g. behind st y g.walk h)

leaves_keeps : (st : State) (r : Result State ElabFault) → Implicits st → On (Leaves st) r → On Implicits r
leaves_keeps st r h = weaken (Leaves st) Implicits r (λ y g. behind st y g.walk h)

pub declarations_law : DeclarationsImplicit
declarations_law s x st ts u n h = from_keeps st (declarations_of s x st ts) h (declarations_go s x st ts n u.types)

pub units_law : UnitsImplicit
units_law s st decls u n h = from_keeps st (unit_from s st decls) h (units_go s st decls n u.types)

pub lambdas_law : LambdasImplicit
lambdas_law s st e h = leaves_keeps st (lambdas_of s st e) h (lambdas_lawful.each s st e)

pub operands_law : OperandsImplicit
operands_law s st e h = weaken (λ (f : Full). Leaves st f.state) (λ (f : Full). Implicits f.state) (full_operand lambdas_of s st e)
    (λ f g. behind st f.state g.walk h) (full_kept lambdas_of lambdas_lawful s st e)

pub statements_law : StatementsImplicit
statements_law s st ts h = weaken (Ends st) (λ (d : Done). Implicits d.state) (statements_of lambdas_of s st ts)
    (λ d g. behind st d.state g.walk h) (statements_kept lambdas_of lambdas_lawful s st ts)

pub variables_law : VariablesImplicit
variables_law s st x at ts h = leaves_keeps st (file_declaration s st x at ts) h (declaration_kept s st x at ts)

pub aliases_law : AliasesImplicit
aliases_law s st at name ts u h = from_keeps st (alias_of s st at name ts) h (aliases_from s st at name ts u.types)

pub enums_law : EnumsImplicit
enums_law s st at name ts h = from_keeps st (enum_declared s st at name ts) h (enum_kept s st at name ts)

pub names_law : NamesImplicit
names_law st at name n h = from_keeps st (declared_only st at name) h (declared_from st at name n)

pub functions_law : FunctionsImplicit
functions_law s st x at first r body h = leaves_keeps st (defined_with s st x at first r body (form_in r.typ)) h
    (with_kept s st x at first r body (form_in r.typ))

pub outside_law : OutsideImplicit
outside_law s st n kind first m body h = leaves_keeps st (outside_body lambdas_of s st n kind first m body) h
    (body_kept lambdas_of lambdas_lawful s st n kind first m body)

pub defaults_law : MemberDefaultsImplicit
defaults_law s st n i t e h = leaves_keeps st (default_made lambdas_of s st n i t e) h (default_kept lambdas_of lambdas_lawful s st n i t e)

pub methods_law : MethodsImplicit
methods_law s st n kind m body h = leaves_keeps st (late_method lambdas_of s st n kind m body) h
    (late_method_kept lambdas_of lambdas_lawful s st n kind m body)

pub bodies_law : BodiesImplicit
bodies_law st k h = leaves_keeps st (implied st k) h (implied_one st k)

-- A class up to its brace

on_ok : {A : Type 0} (P : A → Type 0) (r : Result A ElabFault) (a : A) → r ≡ Ok a → On P r → P a
on_ok {A = A} P r a e h = subst (λ (x : Result A ElabFault). On P x) e h

of_limit : (b : Bool) (c d : Ctx) (e : ElabFault) (r : Result Ctx ElabFault) → (if b then Ok c else Err e) ≡ r → r ≡ Ok d → c ≡ d
of_limit true c d e r g h = let q : Ok c ≡ Ok d = g ∙ h in cc
of_limit false c d e r g h = let q : Err e ≡ Ok d = g ∙ h in absurd cc

of_test : (t : Result Bool ElabFault) (b : Bool) (c d : Ctx) (e : ElabFault) → and_then t (λ z. if b then Ok c else Err e) ≡ Ok d → c ≡ d
of_test (Ok z) b c d e h = of_limit b c d e _ refl h
of_test (Err f) b c d e h = absurd cc

closed_is : (at : At) (n : ℕ) (c d : Ctx) → closed_class at n c ≡ Ok d → c ≡ d
closed_is at n c d e = of_test _ (nat_le (class_extent c.classes n).size GREATEST_SIZE) c d _ e

pub classes_law : ClassesImplicit
classes_law s st at kids home b r d u n e f g i j h =
    let x = on_ok (IsBegun st true) (begun st.ctx at home.name true) b e (begun_from st at home.name true n) in
    let y : State = record st { ctx = b.ctx } in
    let w = on_ok (IsWholeBase b.ctx.classes) (base_named s b.ctx kids) home.base f (base_whole s b.ctx kids (x.from.types u.types)) in
    let o : IsOpen b.ctx.classes home.number = subst (λ (k : ℕ). IsOpen b.ctx.classes k) (sym g) (x.unclosed u.types refl) in
    let z = on_ok (Read home.number y) (members_of s home (record { state = y; members = []; initialised = [] }) (members_among kids)) r i
    (members_read s y home (members_among kids) o (x.from.types u.types)) in
    let l = on_ok (λ (c : Ctx). From y (record r.state { ctx = c })) (closed_class at home.number (completed r.state.ctx home at r.members r.initialised)) d j
    (brace_leaves y home at r z n w.0 w.1) in
    let v : Ctx = completed r.state.ctx home at r.members r.initialised in
    let q = closing r.state.ctx home at r.members r.initialised in
    let walk : Steps (view st.ctx) (view d) = joined x.from.walk l.walk in record {
      walk = walk;
      implicits = steps_law st.ctx d walk h;
      home = home_is d.classes home.number (subst (λ (k : Ctx). IsNamed k.classes home.number) (closed_is at home.number v d j)
          (subst (λ (cs : List Class). IsNamed cs home.number) (sym q.classes)
          (named_here r.state.ctx.classes home.number q.class z.unclosed.class (ap is_some q.closed.complete) (ap is_no_name q.closed.name ∙ n) z.unclosed.at)));
    }
