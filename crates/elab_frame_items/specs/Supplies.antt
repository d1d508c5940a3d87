-- What others say of the expressions of a context and of a state: their operands are whole.
use Rattle.std.specs.Prelude.{◌≡◌, ℕ, Bool, List, Option}
use Rattle.elab_rules.specs.cpp_types.Typ.{Typ, typ, ptr, func, Signature}
use Rattle.elab_rules.specs.cpp_types.Class.{Class}
use Rattle.elab_rules.specs.cpp_lex.Tokens.{Lexeme}
use Rattle.elab_rules.specs.cpp_ast.declared.arena.At.{At as SyntaxAt}
use Rattle.elab_rules.specs.cpp_ast.declared.kinds.NodeKind.{NodeKind}
use Rattle.elab_rules.specs.cpp_ast.Trees as syntax
use Rattle.elab_rules.specs.cpp_tree.Trees.{Tree, typ_in}
use Rattle.elab_rules.specs.cpp_tree.Typing.{form_in}
use Rattle.elab_rules.specs.elab_ctx.Ctx.{Ctx, Work, Capture}
use Rattle.elab_rules.specs.elab_ctx.Steps.{and_then, Operand, Made, Typed, TypedAll}
use Rattle.elab_rules.specs.Values
use Rattle.elab_rules.specs.Initialising.{signature_parameters}
use Rattle.elab_rules.specs.Expressions
use Rattle.elab_rules.specs.Braces
use Rattle.elab_rules.specs.Statements.{State}
use Rattle.elab_fits.specs.Standing.{On}
use Rattle.elab_frame_items.specs.Items.{IsWhole, AllWhole, AreParameters, FunctionsWhole}

-- what is called: the parameters of a function to which it points are whole
pub record IsCallee (classes : List Class) (o : Operand) : Type 0 where
  pub whole : IsWhole classes o.tree
  pub pointer : (sig : Signature) (d v : Bool) → form_in (typ_in (Values.valued o.at o.tree)) ≡ ptr (typ (func sig) d v)
      → AreParameters classes (signature_parameters sig)

-- What others say of the expressions of a context, where something holds of the work that they keep, and of the text that they stand in (`T`, and `Ts` of
-- several): their operands are whole
pub record Supplies (P : Work → Type 0) (T : syntax.Tree → Type 0) (Ts : syntax.Trees → Type 0) (s : List Lexeme) (c : Ctx) : Type 0 where
  -- the text
  pub kids : (kind : NodeKind) (p : SyntaxAt) (token : Option ℕ) (ts : syntax.Trees) → T (syntax.node kind p token ts) → Ts ts
  pub first : (t : syntax.Tree) (ts : syntax.Trees) → Ts (syntax.more t ts) → T t
  pub rest : (t : syntax.Tree) (ts : syntax.Trees) → Ts (syntax.more t ts) → Ts ts
  -- expressions
  pub callee : (w : Work) (e : syntax.Tree) → P w → T e
      → On (λ (x : Typed). IsCallee c.classes x.operand × P x.work) (Expressions.expression_with s c c.closures w e)
  pub operand : (w : Work) (e : syntax.Tree) → P w → T e
      → On (λ (x : Typed). IsWhole c.classes x.operand.tree × P x.work) (and_then (Expressions.expression_with s c c.closures w e) (Expressions.chosen_operand c))
  pub operands : (w : Work) (es : syntax.Trees) → P w → Ts es
      → On (λ (x : TypedAll). AllWhole c.classes x.operands × P x.work) (Expressions.operands_with s c c.closures w es)
  -- what a lambda captures
  pub captured : (w : Work) (x : Capture) → On (IsWhole c.classes) (Expressions.capture_source c w x x.variable)

-- What others say of what items leave, beside what they say of expressions
pub record SuppliesItems (P : Work → Type 0) (T : syntax.Tree → Type 0) (s : List Lexeme) (c : Ctx) : Type 0 where
  pub item : (w : Work) (object : Tree) (t : Typ) (x : syntax.Tree) → P w → T x → On (λ (m : Made). P m.work) (Braces.item_of s c w object t x)

-- What others say of a state in which an expression is read; `P` holds of its work, and goes on with expressions
pub record Reads (P : State → Work → Type 0) (T : syntax.Tree → Type 0) (Ts : syntax.Trees → Type 0) (s : List Lexeme) (x : State) : Type 0 where
  pub here : P x x.work
  pub supplies : Supplies (P x) T Ts s x.ctx
  pub functions : FunctionsWhole x.ctx.classes x.ctx.funcs
