-- Members as steps of which the last changes the class.
use Rattle.std.proofs.Common.{◌≡◌, ◌∙◌, ℕ, Bool, not, List, [], ◌∷◌, drop, Option, None, Result, Ok, Err, refl, sym, ap, subst}
use Rattle.elab_expr.specs.cpp_lex.Tokens.{Lexeme}
use Rattle.elab_expr.specs.cpp_ast.Trees.{Tree, node, Trees, more, none}
use Rattle.elab_expr.specs.cpp_ast.declared.arena.At.{At as SyntaxAt}
use Rattle.elab_expr.specs.cpp_ast.declared.kinds.NodeKind.{NodeKind}
use Rattle.elab_expr.specs.cpp_types.Typ.{Typ, Form}
use Rattle.elab_expr.specs.cpp_types.declared.classes.At.{At}
use Rattle.elab_expr.specs.cpp_tree.declared.program.FuncKind.{FuncKind}
use Rattle.elab_expr.specs.cpp_tree.declared.program.FuncKind.TheVariants.{Plain}
use Rattle.elab_expr.specs.cpp_tree.declared.faults.ElabFault.{ElabFault}
use Rattle.elab_expr.specs.cpp_tree.declared.faults.IllRule.TheVariants.{BadDeclaration}
use Rattle.elab_expr.specs.cpp_tree.Typing.{form_in}
use Rattle.elab_expr.specs.elab_ctx.Says.{Faults}
use Rattle.elab_expr.specs.elab_ctx.Steps.{and_then, check, each_of, at_of}
use Rattle.elab_expr.specs.elab_rules.Types.{Declared}
use Rattle.elab_expr.specs.elab_rules.Expressions.{type_of_specifiers, declared_by}
use Rattle.elab_expr.specs.elab_rules.Statements.{name_of, is_own_name}
use Rattle.elab_expr.specs.elab_rules.Functions.{Storage, Header}
use Rattle.elab_expr.specs.elab_rules.Classes.{Home, Members, Method, Definition, Started, within_bounds, declarator_among, member_named, method_of}
use Rattle.elab_expr.specs.elab_rules.Classes.{member_function, marks_from, no_marks, declared_method, header_in, has_equal, member_declarator}
use Rattle.elab_expr.specs.elab_rules.Classes.{member_declarators}
use Rattle.class_table.specs.Written.{function_declared, member_declared}
use Rattle.class_table.proofs.Walking.{faults_then}

-- A function with a body, or a constructor or a destructor

module _ (s : List Lexeme) (home : Home) (r : Members) (kind : FuncKind) (at : At) (d : Option Definition) (kids : Trees) where
  pub method_bound : (e : ElabFault) → Faults e (within_bounds (declarator_among s home.number r kids)) → Faults e (declared_method s home r kind at d kids)
  method_bound e f = faults_then e (within_bounds (declarator_among s home.number r kids)) _ f

  method_then : (b : Bool) → within_bounds (declarator_among s home.number r kids) ≡ Ok b
      → declared_method s home r kind at d kids ≡ and_then (method_of s r.state home.number home.name at kind kids)
      (λ (m : Method). member_function home r m.header (marks_from s no_marks m.rest) d)
  method_then b f = ap (λ z. and_then z (λ y. and_then (method_of s r.state home.number home.name at kind kids)
      (λ (m : Method). member_function home r m.header (marks_from s no_marks m.rest) d))) f

  pub method_fails : (b : Bool) (e : ElabFault) → within_bounds (declarator_among s home.number r kids) ≡ Ok b
      → Faults e (method_of s r.state home.number home.name at kind kids) → Faults e (declared_method s home r kind at d kids)
  method_fails b e f g = subst (Faults e) (sym (method_then b f)) (faults_then e (method_of s r.state home.number home.name at kind kids) _ g)

  pub method_is : (b : Bool) (m : Method) → within_bounds (declarator_among s home.number r kids) ≡ Ok b
      → method_of s r.state home.number home.name at kind kids ≡ Ok m
      → declared_method s home r kind at d kids ≡ member_function home r m.header (marks_from s no_marks m.rest) d
  method_is b m f g = method_then b f ∙ ap (λ z. and_then z (λ (y : Method). member_function home r y.header (marks_from s no_marks y.rest) d)) g

-- A member function without a body

module _ (s : List Lexeme) (home : Home) (r : Members) (at : At) (x : Storage) (rest : Trees) (d : Declared) (f : Form) where
  function_then : (b : Bool) → check at BadDeclaration (not (has_equal rest)) ≡ Ok b
      → function_declared s home r at x rest d f ≡ and_then (header_in home.number x Plain at (name_of s d.name) d f)
      (λ (h : Header). member_function home r h (marks_from s no_marks rest) None)
  function_then b e = ap (λ z. and_then z (λ y. and_then (header_in home.number x Plain at (name_of s d.name) d f)
      (λ (h : Header). member_function home r h (marks_from s no_marks rest) None))) e

  pub function_fails : (b : Bool) (e : ElabFault) → check at BadDeclaration (not (has_equal rest)) ≡ Ok b
      → Faults e (header_in home.number x Plain at (name_of s d.name) d f) → Faults e (function_declared s home r at x rest d f)
  function_fails b e p g = subst (Faults e) (sym (function_then b p)) (faults_then e (header_in home.number x Plain at (name_of s d.name) d f) _ g)

  pub function_is : (b : Bool) (h : Header) → check at BadDeclaration (not (has_equal rest)) ≡ Ok b
      → header_in home.number x Plain at (name_of s d.name) d f ≡ Ok h
      → function_declared s home r at x rest d f ≡ member_function home r h (marks_from s no_marks rest) None
  function_is b h p g = function_then b p ∙ ap (λ z. and_then z (λ (y : Header). member_function home r y (marks_from s no_marks rest) None)) g

-- A declarator

module _ (s : List Lexeme) (home : Home) (x : Storage) (t : Typ) (r : Members) (kind : NodeKind) (p : SyntaxAt) (token : Option ℕ) (d : Tree)
    (rest : Trees) where
  pub declarator_bound : (e : ElabFault) → Faults e (within_bounds (member_named s home.number r d))
      → Faults e (member_declarator s home x t r (node kind p token (more d rest)))
  declarator_bound e f = faults_then e (within_bounds (member_named s home.number r d)) _ f

  declarator_then : (b : Bool) → within_bounds (member_named s home.number r d) ≡ Ok b
      → member_declarator s home x t r (node kind p token (more d rest))
      ≡ and_then (declared_by s r.state.ctx r.state.work (at_of p) t d)
      (λ (y : Declared). and_then (check (at_of p) BadDeclaration (is_own_name y)) (λ z. member_declared s home r (at_of p) x rest y))
  declarator_then b f = ap (λ z. and_then z (λ q. and_then (declared_by s r.state.ctx r.state.work (at_of p) t d)
      (λ (y : Declared). and_then (check (at_of p) BadDeclaration (is_own_name y)) (λ z. member_declared s home r (at_of p) x rest y)))) f

  pub declarator_fails : (b : Bool) (e : ElabFault) → within_bounds (member_named s home.number r d) ≡ Ok b
      → Faults e (declared_by s r.state.ctx r.state.work (at_of p) t d) → Faults e (member_declarator s home x t r (node kind p token (more d rest)))
  declarator_fails b e f g = subst (Faults e) (sym (declarator_then b f)) (faults_then e (declared_by s r.state.ctx r.state.work (at_of p) t d) _ g)

  pub declarator_is : (b : Bool) (y : Declared) → within_bounds (member_named s home.number r d) ≡ Ok b
      → declared_by s r.state.ctx r.state.work (at_of p) t d ≡ Ok y
      → member_declarator s home x t r (node kind p token (more d rest))
      ≡ and_then (check (at_of p) BadDeclaration (is_own_name y)) (λ z. member_declared s home r (at_of p) x rest y)
  declarator_is b y f g = declarator_then b f ∙ ap (λ z. and_then z
      (λ (u : Declared). and_then (check (at_of p) BadDeclaration (is_own_name u)) (λ z. member_declared s home r (at_of p) x rest u))) g

-- One member more

pub each_more : {R : Type 0} (step : R → Tree → Result R ElabFault) (r next : R) (t : Tree) (ts : Trees) (all : Result R ElabFault) → step r t ≡ Ok next
    → all ≡ each_of step r (more t ts) → all ≡ each_of step next ts
each_more step r next t ts all f g = g ∙ ap (λ z. and_then z (λ y. each_of step y ts)) f

pub each_fails : {R : Type 0} (step : R → Tree → Result R ElabFault) (r : R) (t : Tree) (ts : Trees) (all : Result R ElabFault) (e : ElabFault)
    → Faults e (step r t) → all ≡ each_of step r (more t ts) → Faults e all
each_fails step r t ts all e f g = subst (Faults e) (sym g) (faults_then e (step r t) _ f)
