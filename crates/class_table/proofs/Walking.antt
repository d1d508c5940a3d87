-- Members, one behind the other, and the faults of steps.
use Rattle.std.proofs.Common.{◌≡◌, ◌∙◌, ℕ, Bool, true, false, List, [], ◌∷◌, Option, Some, None, Result, Ok, Err, refl, sym, ap, subst}
use Rattle.elab_expr.specs.cpp_lex.Tokens.{Lexeme}
use Rattle.elab_expr.specs.cpp_ast.Trees.{Tree, node, Trees, more, none}
use Rattle.elab_expr.specs.cpp_ast.declared.arena.At.{At as SyntaxAt}
use Rattle.elab_expr.specs.cpp_ast.declared.arena.NodeId.{NodeId}
use Rattle.elab_expr.specs.cpp_ast.declared.kinds.NodeKind.{NodeKind}
use Rattle.elab_expr.specs.cpp_ast.declared.kinds.NodeKind.TheVariants as k
use Rattle.elab_expr.specs.cpp_types.Typ.{Form, void, int, enum, null, ptr, ref, array, func, class, closure, tx_ex, Signature}
use Rattle.elab_expr.specs.cpp_types.declared.classes.At.{At}
use Rattle.elab_expr.specs.cpp_tree.declared.program.FuncKind.TheVariants.{Plain, Constructor, Destructor}
use Rattle.elab_expr.specs.cpp_tree.declared.faults.ElabFault.{ElabFault}
use Rattle.elab_expr.specs.cpp_tree.declared.faults.ElabFault.TheVariants.{Ill, Override, JumpIntoBlock, Limit, Memory}
use Rattle.elab_expr.specs.cpp_tree.Typing.{form_in}
use Rattle.elab_expr.specs.elab_ctx.Says.{Faults}
use Rattle.elab_expr.specs.elab_ctx.Steps.{and_then, each_of, at_of}
use Rattle.elab_expr.specs.elab_rules.Types.{Declared}
use Rattle.elab_expr.specs.elab_rules.Statements.{name_of}
use Rattle.elab_expr.specs.elab_rules.Functions.{Storage, no_storage}
use Rattle.elab_expr.specs.elab_rules.Classes.{Home, Members, declared_member, marks_from, no_marks, member_of, member_declaration, started_from}
use Rattle.elab_expr.specs.elab_rules.Classes.{declared_method}
use Rattle.elab_expr.specs.elab_types.Syntax.{trees_at}
use Rattle.class_members.specs.Shown.{Answers}
use Rattle.class_table.specs.Written.{is_function_form, function_declared, data_declared, member_declared, defined_method}

-- A fault of a step is that of the whole

pub faults_then : {A B : Type 0} (e : ElabFault) (x : Result A ElabFault) (f : A → Result B ElabFault) → Faults e x → Faults e (and_then x f)
faults_then (Ill at rule) x f h = ap (λ z. and_then z f) h
faults_then (Override at rule) x f h = ap (λ z. and_then z f) h
faults_then (JumpIntoBlock at) x f h = ap (λ z. and_then z f) h
faults_then (Limit at which) x f h = ap (λ z. and_then z f) h
faults_then Memory x f h = tt

-- an answer that is a fault
pub refused : {A B : Type 0} (b : B) (r : Result A ElabFault) (e : ElabFault) (x y : Result B ElabFault) → r ≡ Err e → y ≡ x → Faults e x → Answers b r y
refused b r e x y h q f = subst (λ z. Answers b z y) (sym h) (subst (Faults e) (sym q) f)

-- an answer of what is the same
pub answers_same : {A B : Type 0} (b : B) (r : Result A ElabFault) (x y : Result B ElabFault) → y ≡ x → Answers b r x → Answers b r y
answers_same b r x y q h = subst (Answers b r) (sym q) h

-- Members that are functions, and others

pub function_chosen : (s : List Lexeme) (home : Home) (r : Members) (at : At) (x : Storage) (rest : Trees) (d : Declared) (f : Form) → is_function_form f ≡ true
    → declared_member home r at x (marks_from s no_marks rest) rest (name_of s d.name) d f ≡ function_declared s home r at x rest d f
function_chosen s home r at x rest d (func sig) h = refl
function_chosen s home r at x rest d void h = absurd cc
function_chosen s home r at x rest d (int i) h = absurd cc
function_chosen s home r at x rest d (enum a b) h = absurd cc
function_chosen s home r at x rest d null h = absurd cc
function_chosen s home r at x rest d (ptr t) h = absurd cc
function_chosen s home r at x rest d (ref t) h = absurd cc
function_chosen s home r at x rest d (array t i) h = absurd cc
function_chosen s home r at x rest d (class i) h = absurd cc
function_chosen s home r at x rest d (closure i) h = absurd cc
function_chosen s home r at x rest d (tx_ex t) h = absurd cc

pub data_chosen : (s : List Lexeme) (home : Home) (r : Members) (at : At) (x : Storage) (rest : Trees) (d : Declared) (f : Form) → is_function_form f ≡ false
    → declared_member home r at x (marks_from s no_marks rest) rest (name_of s d.name) d f ≡ data_declared s home r at x rest d
data_chosen s home r at x rest d (func sig) h = absurd cc
data_chosen s home r at x rest d void h = refl
data_chosen s home r at x rest d (int i) h = refl
data_chosen s home r at x rest d (enum a b) h = refl
data_chosen s home r at x rest d null h = refl
data_chosen s home r at x rest d (ptr t) h = refl
data_chosen s home r at x rest d (ref t) h = refl
data_chosen s home r at x rest d (array t i) h = refl
data_chosen s home r at x rest d (class i) h = refl
data_chosen s home r at x rest d (closure i) h = refl
data_chosen s home r at x rest d (tx_ex t) h = refl

function_by : (s : List Lexeme) (home : Home) (r : Members) (p : SyntaxAt) (o : Option ℕ) (kids : Trees)
    → member_of s home r (node k.FunctionDefinition p o kids) ≡ defined_method s home r Plain (at_of p) o kids
function_by s home r p (Some n) kids = refl
function_by s home r p None kids = refl

constructor_by : (s : List Lexeme) (home : Home) (r : Members) (p : SyntaxAt) (o : Option ℕ) (kids : Trees)
    → member_of s home r (node k.ConstructorDefinition p o kids) ≡ defined_method s home r Constructor (at_of p) o kids
constructor_by s home r p (Some n) kids = refl
constructor_by s home r p None kids = refl

destructor_by : (s : List Lexeme) (home : Home) (r : Members) (p : SyntaxAt) (o : Option ℕ) (kids : Trees)
    → member_of s home r (node k.DestructorDefinition p o kids) ≡ defined_method s home r Destructor (at_of p) o kids
destructor_by s home r p (Some n) kids = refl
destructor_by s home r p None kids = refl

-- Members by the kinds of their nodes, as the code has their parts

module _ (s : List Lexeme) (home : Home) (r : Members) (t : Tree) (trees : List Tree) (kind : NodeKind) (p : SyntaxAt) (token : Option ℕ)
    (items ids : List NodeId) (at : At) (e : t ≡ node kind p token (trees_at trees items)) (q : at ≡ at_of p) (i : ids ≡ items) where
  known : (x : NodeKind) → kind ≡ x → t ≡ node x p token (trees_at trees ids)
  known x h = e ∙ ap (λ z. node z p token (trees_at trees items)) h ∙ ap (λ (z : List NodeId). node x p token (trees_at trees z)) (sym i)

  pub declaration_member : kind ≡ k.MemberDeclaration → member_of s home r t ≡ member_declaration s home r at (started_from s no_storage (trees_at trees ids))
  declaration_member h = ap (member_of s home r) (known k.MemberDeclaration h)
      ∙ ap (λ z. member_declaration s home r z (started_from s no_storage (trees_at trees ids))) (sym q)

  pub constructor_member : kind ≡ k.ConstructorDeclaration → member_of s home r t ≡ declared_method s home r Constructor at None (trees_at trees ids)
  constructor_member h = ap (member_of s home r) (known k.ConstructorDeclaration h)
      ∙ ap (λ z. declared_method s home r Constructor z None (trees_at trees ids)) (sym q)

  pub destructor_member : kind ≡ k.DestructorDeclaration → member_of s home r t ≡ declared_method s home r Destructor at None (trees_at trees ids)
  destructor_member h = ap (member_of s home r) (known k.DestructorDeclaration h)
      ∙ ap (λ z. declared_method s home r Destructor z None (trees_at trees ids)) (sym q)

  pub function_defined : kind ≡ k.FunctionDefinition → member_of s home r t ≡ defined_method s home r Plain at token (trees_at trees ids)
  function_defined h = ap (member_of s home r) (known k.FunctionDefinition h) ∙ function_by s home r p token (trees_at trees ids)
      ∙ ap (λ z. defined_method s home r Plain z token (trees_at trees ids)) (sym q)

  pub constructor_defined : kind ≡ k.ConstructorDefinition → member_of s home r t ≡ defined_method s home r Constructor at token (trees_at trees ids)
  constructor_defined h = ap (member_of s home r) (known k.ConstructorDefinition h) ∙ constructor_by s home r p token (trees_at trees ids)
      ∙ ap (λ z. defined_method s home r Constructor z token (trees_at trees ids)) (sym q)

  pub destructor_defined : kind ≡ k.DestructorDefinition → member_of s home r t ≡ defined_method s home r Destructor at token (trees_at trees ids)
  destructor_defined h = ap (member_of s home r) (known k.DestructorDefinition h) ∙ destructor_by s home r p token (trees_at trees ids)
      ∙ ap (λ z. defined_method s home r Destructor z token (trees_at trees ids)) (sym q)
