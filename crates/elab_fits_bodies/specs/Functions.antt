-- Bodies of functions and of lambdas: items, and behind them the end.
use Rattle.std.specs.Prelude.{◌≡◌, true, false, ◌||◌, is_some}
use Rattle.elab_rules.specs.cpp_types.Typ.{Typ, ptr}
use Rattle.elab_rules.specs.cpp_types.declared.classes.At.{At}
use Rattle.elab_rules.specs.cpp_tree.declared.kinds.TKind.TheVariants as forms
use Rattle.elab_rules.specs.cpp_tree.declared.roles.Role.TheVariants.{Statement, BlockItem}
use Rattle.elab_rules.specs.cpp_tree.Trees.{Tree, Trees, kind_of}
use Rattle.elab_rules.specs.cpp_tree.Notation.{plain}
use Rattle.elab_rules.specs.cpp_tree.Typing.{form_in, is_void, is_class_typ, is_reference}
use Rattle.elab_rules.specs.cpp_tree.Parts.{size_in}
use Rattle.elab_rules.specs.cpp_tree.Rows.{Setting, is_constructor, result_of}
use Rattle.elab_rules.specs.cpp_tree.WellFormed.{fits, outermost, is_body_of, ends_well}
use Rattle.elab_rules.specs.elab_ctx.Ctx.{Ctx}
use Rattle.elab_rules.specs.Objects.{followed_by}
use Rattle.elab_rules.specs.Functions.{end_of}
use Rattle.elab_rules.specs.Statements.{statement}
use Rattle.elab_fits.specs.Standing.{IsSetting}
use Rattle.elab_fits.specs.Scalars.{is_scalar}
use Rattle.elab_fits.specs.Objects.{is_ready}
use Rattle.elab_fits_statements.specs.Anywhere.{AllServe}
use Rattle.elab_fits_statements.specs.Variables.{HasItem}

-- the tree of a body: its nodes fit, it is the block that its function asks for, and ends as that does
pub record IsBody (s : Setting) (body : Tree) : Type 0 where
  pub nodes : fits s outermost Statement body ≡ true
  pub block : is_body_of s.function.kind (kind_of body) ≡ true
  pub end : ends_well (result_of s.function) body ≡ true

-- the result of the function: nothing, a scalar, a reference, or an object of a class, which has a size and its address in the first item of the frame
pub record IsResult (s : Setting) (c : Ctx) (t : Typ) : Type 0 where
  pub typed : result_of s.function ≡ t
  pub formed : (is_void t || (is_class_typ t || (is_reference t || is_scalar (form_in t)))) ≡ true
  pub sized : is_class_typ t ≡ true → is_some (size_in c.classes t) ≡ true
  pub ready : is_class_typ t ≡ true → is_ready c.classes true t ≡ true
  pub place : is_class_typ t ≡ true → HasItem s 0 (plain (ptr t))

-- where a body ends, its result is zero
abbrev pub EndsServe : Type 0
EndsServe = (s : Setting) (c : Ctx) (t : Typ) (at : At) → IsSetting s c → IsResult s c t → AllServe s false false BlockItem (end_of c t at)

-- the body of a function that is no constructor and no destructor, and that of a lambda's call
abbrev pub FunctionsFit : Type 0
FunctionsFit = (s : Setting) (c : Ctx) (t : Typ) (at : At) (ts : Trees) → IsSetting s c → IsResult s c t → is_constructor s.function.kind ≡ false
    → AllServe s false false BlockItem ts → IsBody s (statement (forms.Block false) at (followed_by ts (end_of c t at)))
