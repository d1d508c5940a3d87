-- Headers of members: their kind, and the text behind them.
use Rattle.std.proofs.Common.{◌≡◌, refl, ℕ, not, ◌&&◌, List, Some}
use Rattle.std.specs.Str.{bytes_eq}
use Rattle.elab_rules.specs.cpp_types.Typ.{Form, void, int, enum, null, ptr, ref, array, func, class, closure, tx_ex}
use Rattle.elab_rules.specs.cpp_types.declared.classes.At.{At}
use Rattle.elab_rules.specs.cpp_lex.Tokens.{Lexeme}
use Rattle.elab_rules.specs.cpp_ast.declared.kinds.NodeKind.TheVariants as k
use Rattle.elab_rules.specs.cpp_ast.Trees as syntax
use Rattle.elab_rules.specs.cpp_tree.Notation.{plain}
use Rattle.elab_rules.specs.cpp_tree.Typing.{form_in}
use Rattle.elab_rules.specs.cpp_tree.declared.faults.IllRule.TheVariants.{BadDeclaration}
use Rattle.elab_rules.specs.cpp_tree.declared.program.FuncKind.{FuncKind}
use Rattle.elab_rules.specs.cpp_tree.declared.program.FuncKind.TheVariants.{Plain, Constructor, Destructor, ClosureCall}
use Rattle.elab_rules.specs.elab_ctx.Steps.{and_then, check, spelling}
use Rattle.elab_rules.specs.Types.{Declared}
use Rattle.elab_rules.specs.Expressions.{type_of_specifiers, declared_by}
use Rattle.elab_rules.specs.Statements.{State, name_of}
use Rattle.elab_rules.specs.Functions.{Storage, Header, no_storage, with_specifier}
use Rattle.elab_rules.specs.Classes.{Method, Started, started_from, header_in, plain_method, special_name, is_special, special_header, special_method, method_started, method_of}
use Rattle.elab_rules.specs.Members.{owner_named, outside_plain, outside_special, outside_method, name_of_class}
use Rattle.elab_fits.specs.Standing.{On}
use Rattle.elab_fits.proofs.Steps.{skip, bind}
use Rattle.std.specs.Prelude.{slice_get}

abbrev pub OfKind : FuncKind → Header → Type 0
OfKind kind h = h.kind ≡ kind

header_kind : (n : ℕ) (x : Storage) (kind : FuncKind) (at : At) (name : List ℕ) (r : Declared) (f : Form) → On (OfKind kind) (header_in n x kind at name r f)
header_kind n x kind at name r (func sig) = refl
header_kind n x kind at name r void = tt
header_kind n x kind at name r (int k) = tt
header_kind n x kind at name r (enum e s) = tt
header_kind n x kind at name r null = tt
header_kind n x kind at name r (ptr t) = tt
header_kind n x kind at name r (ref t) = tt
header_kind n x kind at name r (array t b) = tt
header_kind n x kind at name r (class m) = tt
header_kind n x kind at name r (closure m) = tt
header_kind n x kind at name r (tx_ex t) = tt

special_kind : (n : ℕ) (class_name : List ℕ) (at : At) (x : Storage) (kind : FuncKind) (r : Declared) (name : List ℕ)
    → On (OfKind kind) (special_header n class_name at x kind r name)
special_kind n class_name at x kind r name = skip (OfKind kind) (check at BadDeclaration (bytes_eq name class_name && not r.qualifiers.is_const)) _
    (λ y. bind (OfKind kind) (OfKind kind) (header_in n x kind at (special_name kind class_name) r (form_in r.typ)) _
    (header_kind n x kind at (special_name kind class_name) r (form_in r.typ))
    (λ h i. skip (OfKind kind) (check at BadDeclaration (is_special kind n h.signature)) _ (λ z. i)))

module _ (Texts : syntax.Trees → Type 0) (rest : (t : syntax.Tree) (ts : syntax.Trees) → Texts (syntax.more t ts) → Texts ts) (s : List Lexeme) where
  -- a member of this kind, with a text behind its declarator
  pub record IsMethod (kind : FuncKind) (m : Method) : Type 0 where
    pub kind_is : m.header.kind ≡ kind
    pub behind : Texts m.rest

  plain_is : (st : State) (n : ℕ) (at : At) (x : Storage) (ts : syntax.Trees) → Texts ts → On (IsMethod Plain) (plain_method s st n at x ts)
  plain_is st n at x syntax.none q = tt
  plain_is st n at x (syntax.more base syntax.none) q = tt
  plain_is st n at x (syntax.more base (syntax.more d ts)) q = skip (IsMethod Plain) (type_of_specifiers s st.ctx st.work base) _
      (λ t. skip (IsMethod Plain) (declared_by s st.ctx st.work at t d) _
      (λ r. bind (OfKind Plain) (IsMethod Plain) (header_in n x Plain at (name_of s r.name) r (form_in r.typ)) _
      (header_kind n x Plain at (name_of s r.name) r (form_in r.typ)) (λ h i. record { kind_is = i; behind = rest d ts (rest base _ q) })))

  special_is : (st : State) (n : ℕ) (class_name : List ℕ) (at : At) (x : Storage) (kind : FuncKind) (ts : syntax.Trees) → Texts ts
      → On (IsMethod kind) (special_method s st n class_name at x kind ts)
  special_is st n class_name at x kind syntax.none q = tt
  special_is st n class_name at x kind (syntax.more d ts) q = skip (IsMethod kind) (declared_by s st.ctx st.work at (plain void) d) _
      (λ r. bind (OfKind kind) (IsMethod kind) (special_header n class_name at x kind r (name_of s r.name)) _
      (special_kind n class_name at x kind r (name_of s r.name)) (λ h i. record { kind_is = i; behind = rest d ts q }))

  started_is : (st : State) (n : ℕ) (class_name : List ℕ) (at : At) (kind : FuncKind) (x : Started) → Texts x.rest
      → On (IsMethod kind) (method_started s st n class_name at kind x)
  started_is st n class_name at Plain x q = plain_is st n at x.storage x.rest q
  started_is st n class_name at Constructor x q = special_is st n class_name at x.storage Constructor x.rest q
  started_is st n class_name at Destructor x q = special_is st n class_name at x.storage Destructor x.rest q
  started_is st n class_name at ClosureCall x q = special_is st n class_name at x.storage ClosureCall x.rest q

  started_texts : (x : Storage) (ts : syntax.Trees) → Texts ts → Texts (started_from s x ts).rest
  started_texts x (syntax.more (syntax.node k.Attribute p token kids) ts) h = started_texts x ts (rest _ ts h)
  started_texts x (syntax.more (syntax.node k.DeclSpecifier p (Some t) kids) ts) h = started_texts (with_specifier x (spelling s t)) ts (rest _ ts h)
  started_texts x ts h = h

  pub method_is : (st : State) (n : ℕ) (class_name : List ℕ) (at : At) (kind : FuncKind) (ts : syntax.Trees) → Texts ts
      → On (IsMethod kind) (method_of s st n class_name at kind ts)
  method_is st n class_name at kind ts q = started_is st n class_name at kind (started_from s no_storage ts) (started_texts no_storage ts q)

  -- outside of the class

  outer_special : (st : State) (at : At) (x : Storage) (kind : FuncKind) (ts : syntax.Trees) (r : Declared) → Texts ts
      → On (IsMethod kind) (outside_special s st at x kind ts r)
  outer_special st at x kind ts r q = skip (IsMethod kind) (owner_named s st.ctx at r.owner) _
      (λ n. bind (OfKind kind) (IsMethod kind) (special_header n (name_of_class (slice_get st.ctx.classes n)) at x kind r (name_of s r.name)) _
      (special_kind n (name_of_class (slice_get st.ctx.classes n)) at x kind r (name_of s r.name)) (λ h i. record { kind_is = i; behind = q }))

  outer_plain : (st : State) (at : At) (x : Storage) (ts : syntax.Trees) (r : Declared) → Texts ts → On (IsMethod Plain) (outside_plain s st at x ts r)
  outer_plain st at x ts r q = skip (IsMethod Plain) (owner_named s st.ctx at r.owner) _
      (λ n. bind (OfKind Plain) (IsMethod Plain) (header_in n x Plain at (name_of s r.name) r (form_in r.typ)) _
      (header_kind n x Plain at (name_of s r.name) r (form_in r.typ)) (λ h i. record { kind_is = i; behind = q }))

  outer_by : (st : State) (at : At) (x : Storage) (kind : FuncKind) (d : syntax.Tree) (ts : syntax.Trees) → Texts (syntax.more d ts)
      → On (IsMethod kind) (and_then (declared_by s st.ctx st.work at (plain void) d) (λ (r : Declared). outside_special s st at x kind ts r))
  outer_by st at x kind d ts q = skip (IsMethod kind) (declared_by s st.ctx st.work at (plain void) d) _ (λ r. outer_special st at x kind ts r (rest d ts q))

  pub outside_is : (st : State) (at : At) (x : Storage) (kind : FuncKind) (ts : syntax.Trees) → Texts ts → On (IsMethod kind) (outside_method s st at x kind ts)
  outside_is st at x Plain syntax.none q = tt
  outside_is st at x Plain (syntax.more base syntax.none) q = tt
  outside_is st at x Plain (syntax.more base (syntax.more d ts)) q = skip (IsMethod Plain) (type_of_specifiers s st.ctx st.work base) _
      (λ t. skip (IsMethod Plain) (declared_by s st.ctx st.work at t d) _ (λ r. outer_plain st at x ts r (rest d ts (rest base _ q))))
  outside_is st at x Constructor syntax.none q = tt
  outside_is st at x Destructor syntax.none q = tt
  outside_is st at x ClosureCall syntax.none q = tt
  outside_is st at x Constructor (syntax.more d ts) q = outer_by st at x Constructor d ts q
  outside_is st at x Destructor (syntax.more d ts) q = outer_by st at x Destructor d ts q
  outside_is st at x ClosureCall (syntax.more d ts) q = outer_by st at x ClosureCall d ts q
