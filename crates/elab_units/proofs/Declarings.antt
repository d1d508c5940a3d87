-- Declarations as steps, and what is answered of them.
use Rattle.std.proofs.Common.{◌≡◌, ◌∙◌, ◌<◌, ◌≤◌, ◌+◌, ℕ, Bool, true, false, List, length, drop, get_or, Option, Some, None, Result, Ok, Err, OnOk, IfErr, refl}
use Rattle.std.proofs.Common.{sym, ap, subst}
use Rattle.elab_entry.specs.cpp_types.Typ.{Typ, Form, void, int, enum, null, ptr, ref, array, func, class, closure, tx_ex}
use Rattle.elab_entry.specs.cpp_types.declared.classes.At.{At}
use Rattle.elab_entry.specs.cpp_lex.Tokens.{Lexeme}
use Rattle.elab_entry.specs.cpp_ast.declared.arena.NodeId.{NodeId}
use Rattle.elab_entry.specs.cpp_ast.declared.arena.At.{At as SyntaxAt}
use Rattle.elab_entry.specs.cpp_ast.declared.kinds.NodeKind.{NodeKind}
use Rattle.elab_entry.specs.cpp_ast.declared.kinds.NodeKind.TheVariants as k
use Rattle.elab_entry.specs.cpp_ast.Trees.{Tree, node, Trees, more, none}
use Rattle.elab_entry.specs.cpp_tree.declared.program.FuncKind.TheVariants.{Plain}
use Rattle.elab_entry.specs.cpp_tree.declared.faults.ElabFault.{ElabFault}
use Rattle.elab_entry.specs.cpp_tree.declared.faults.ElabFault.TheVariants.{Ill}
use Rattle.elab_entry.specs.cpp_tree.declared.faults.IllRule.TheVariants.{BadDeclaration, OutOfProfile}
use Rattle.elab_entry.specs.elab_ctx.Says.{Faults}
use Rattle.elab_entry.specs.elab_ctx.Steps.{and_then, each_of, at_of, spelling}
use Rattle.elab_entry.specs.elab_ctx.Ctx.{Work, ctx_of, work_of}
use Rattle.elab_entry.specs.elab_ctx.declared.env.Work.{Work as WorkRec}
use Rattle.elab_entry.specs.elab_rules.Types.{Declared}
use Rattle.elab_entry.specs.elab_rules.Expressions.{type_of_specifiers, declared_by}
use Rattle.elab_entry.specs.elab_rules.Statements.{State, name_of, bound_by_initialiser}
use Rattle.elab_entry.specs.elab_rules.Functions.{Storage, Header, with_specifier, text_sized}
use Rattle.elab_entry.specs.elab_rules.Classes.{header_in, started_from}
use Rattle.elab_entry.specs.elab_rules.Globals.{global_declared}
use Rattle.elab_entry.specs.elab_rules.Units.{header_of, definition_text, declared_of_type, file_declarator, file_declarators, file_declaration, is_qualified}
use Rattle.elab_entry.specs.elab_scopes.elab_expr.Unmoved.{Unmoved}
use Rattle.elab_entry.specs.elab_scopes.declared.state.State.{State as StateRec}
use Rattle.elab_entry.specs.elab_scopes.States.{state_of}
use Rattle.elab_entry.specs.elab_scopes.Says.{Changes}
use Rattle.elab_entry.proofs.elab_scopes.elab_expr.Unmoved.{unmoved_trans}
use Rattle.elab_entry.proofs.elab_scopes.Labelling.{unmoved_state}
use Rattle.elab_entry.specs.elab_types.Syntax.{trees_at, tree_at}
use Rattle.class_members.specs.Shown.{Answers}
use Rattle.elab_decls.proofs.Steps.{faults_then, faults_same}
use Rattle.elab_units.proofs.KidSteps.{trees_step, trees_past}
use Rattle.elab_members.specs.Whole.{Stands}
use Rattle.elab_leaving.specs.Declaring.{is_function_form, file_header, has_trees, only_declared, declarator_by, file_typed, file_started, defined_with}
use Rattle.elab_leaving.specs.Declaring.{defined_header, defined_steps, defined_by, defined_typed, are_three, declaration_of, declarations_of}

-- Trees, one behind the other

pub each_more : {R : Type 0} (step : R → Tree → Result R ElabFault) (r next : R) (t : Tree) (ts : Trees) (all : Result R ElabFault) → step r t ≡ Ok next
    → all ≡ each_of step r (more t ts) → all ≡ each_of step next ts
each_more step r next t ts all f g = g ∙ ap (λ z. and_then z (λ y. each_of step y ts)) f

pub each_fails : {R : Type 0} (step : R → Tree → Result R ElabFault) (r : R) (t : Tree) (ts : Trees) (all : Result R ElabFault) (e : ElabFault)
    → Faults e (step r t) → all ≡ each_of step r (more t ts) → Faults e all
each_fails step r t ts all e f g = subst (Faults e) (sym g) (faults_then e (step r t) _ f)

-- What is answered

pub fault_by : {A : Type 0} (e d : ElabFault) (x : Result A ElabFault) → e ≡ d → Faults d x → Faults e x
fault_by {A} e d x h f = subst (λ (z : ElabFault). Faults z x) (sym h) f

pub changes_answers : (a b : StateRec) (r : Result (Unit {0}) ElabFault) (x : Result State ElabFault) → Changes a b r x → Answers (state_of b) r x
changes_answers a b (Ok u) x h = h.is
changes_answers a b (Err e) x h = h

pub stands_answers : (a b : StateRec) (r : Result (Unit {0}) ElabFault) (x : Result State ElabFault) → Stands a b r x → Answers (state_of b) r x
stands_answers a b (Ok u) x h = h.is
stands_answers a b (Err e) x h = h

pub answers_so : {B : Type 0} (b : B) (r : Result (Unit {0}) ElabFault) (x y : Result B ElabFault) → y ≡ x → Answers b r x → Answers b r y
answers_so {B} b r x y e h = subst (λ (z : Result B ElabFault). Answers b r z) (sym e) h

err_answers : (b : State) (r : Result (Unit {0}) ElabFault) (e : ElabFault) (x : Result State ElabFault) → r ≡ Err e → Faults e x → Answers b r x
err_answers b r e x g h = subst (λ (z : Result (Unit {0}) ElabFault). Answers b z x) (sym g) h

pub linkage_fails : (c : State) (r : Result (Unit {0}) ElabFault) (e : ElabFault) (d : Result Bool ElabFault) (rest : Bool → Result State ElabFault) → r ≡ Err e
    → Faults e d → Answers c r (and_then d rest)
linkage_fails c r e d rest g h = err_answers c r e (and_then d rest) g (faults_then e d rest h)

pub linkage_goes : (c : State) (r : Result (Unit {0}) ElabFault) (b : Bool) (d : Result Bool ElabFault) (rest : Bool → Result State ElabFault) → d ≡ Ok b
    → Answers c r (rest b) → Answers c r (and_then d rest)
linkage_goes c r b d rest g h = subst (λ (z : Result Bool ElabFault). Answers c r (and_then z rest)) (sym g) h

-- Functions and variables

pub header_plain : (s : List Lexeme) (at : At) (x : Storage) (d : Declared) (f : Form)
    → file_header s at x d f ≡ and_then (header_in 0 x Plain at (name_of s d.name) d f) (λ (h : Header). Ok (record h { class = None }))
header_plain s at x d (func g) = refl
header_plain s at x d void = refl
header_plain s at x d (int i) = refl
header_plain s at x d (enum a b) = refl
header_plain s at x d null = refl
header_plain s at x d (ptr t) = refl
header_plain s at x d (ref t) = refl
header_plain s at x d (array t i) = refl
header_plain s at x d (class i) = refl
header_plain s at x d (closure i) = refl
header_plain s at x d (tx_ex t) = refl

variable_inner : (s : List Lexeme) (st : State) (x : Storage) (at : At) (d : Declared) (init : Trees) (f : Form) → is_function_form f ≡ false
    → declared_of_type s st x at d init f ≡ global_declared s st x at (name_of s d.name) (bound_by_initialiser s d.typ init) init
variable_inner s st x at d none (func g) h = absurd cc
variable_inner s st x at d none void h = refl
variable_inner s st x at d none (int i) h = refl
variable_inner s st x at d none (enum a b) h = refl
variable_inner s st x at d none null h = refl
variable_inner s st x at d none (ptr t) h = refl
variable_inner s st x at d none (ref t) h = refl
variable_inner s st x at d none (array t i) h = refl
variable_inner s st x at d none (class i) h = refl
variable_inner s st x at d none (closure i) h = refl
variable_inner s st x at d none (tx_ex t) h = refl
variable_inner s st x at d (more a as_more) (func g) h = absurd cc
variable_inner s st x at d (more a as_more) void h = refl
variable_inner s st x at d (more a as_more) (int i) h = refl
variable_inner s st x at d (more a as_more) (enum b c) h = refl
variable_inner s st x at d (more a as_more) null h = refl
variable_inner s st x at d (more a as_more) (ptr t) h = refl
variable_inner s st x at d (more a as_more) (ref t) h = refl
variable_inner s st x at d (more a as_more) (array t i) h = refl
variable_inner s st x at d (more a as_more) (class i) h = refl
variable_inner s st x at d (more a as_more) (closure i) h = refl
variable_inner s st x at d (more a as_more) (tx_ex t) h = refl

pub variable_chosen : (s : List Lexeme) (st : State) (x : Storage) (at : At) (d : Declared) (init : Trees) (f : Form) → is_function_form f ≡ false
    → declared_of_type s st x at d init f ≡ global_declared s st x at (name_of s d.name) (bound_by_initialiser s d.typ init) init
variable_chosen s st x at d init f h = variable_inner s st x at d init f h

pub function_initialised : (s : List Lexeme) (st : State) (x : Storage) (at : At) (d : Declared) (init : Trees) (f : Form) → is_function_form f ≡ true
    → has_trees init ≡ true → declared_of_type s st x at d init f ≡ Err (Ill at BadDeclaration)
function_initialised s st x at d none f h g = absurd cc
function_initialised s st x at d (more a as_more) (func g) h q = refl
function_initialised s st x at d (more a as_more) void h g = absurd cc
function_initialised s st x at d (more a as_more) (int i) h g = absurd cc
function_initialised s st x at d (more a as_more) (enum b c) h g = absurd cc
function_initialised s st x at d (more a as_more) null h g = absurd cc
function_initialised s st x at d (more a as_more) (ptr t) h g = absurd cc
function_initialised s st x at d (more a as_more) (ref t) h g = absurd cc
function_initialised s st x at d (more a as_more) (array t i) h g = absurd cc
function_initialised s st x at d (more a as_more) (class i) h g = absurd cc
function_initialised s st x at d (more a as_more) (closure i) h g = absurd cc
function_initialised s st x at d (more a as_more) (tx_ex t) h g = absurd cc

pub function_only : (s : List Lexeme) (st : State) (x : Storage) (at : At) (d : Declared) (init : Trees) (f : Form) → is_function_form f ≡ true
    → has_trees init ≡ false → declared_of_type s st x at d init f ≡ and_then (file_header s at x d f) (only_declared st)
function_only s st x at d (more a as_more) f h g = absurd cc
function_only s st x at d none (func g) h q = refl
function_only s st x at d none void h g = absurd cc
function_only s st x at d none (int i) h g = absurd cc
function_only s st x at d none (enum b c) h g = absurd cc
function_only s st x at d none null h g = absurd cc
function_only s st x at d none (ptr t) h g = absurd cc
function_only s st x at d none (ref t) h g = absurd cc
function_only s st x at d none (array t i) h g = absurd cc
function_only s st x at d none (class i) h g = absurd cc
function_only s st x at d none (closure i) h g = absurd cc
function_only s st x at d none (tx_ex t) h g = absurd cc

-- Declarators

declarator_inner : (s : List Lexeme) (x : Storage) (t : Typ) (st : State) (p : SyntaxAt) (token : Option ℕ) (kids : Trees)
    → file_declarator s x t st (node k.InitDeclarator p token kids) ≡ declarator_by s x t st (at_of p) kids
declarator_inner s x t st p token none = refl
declarator_inner s x t st p token (more d init) = refl

pub declarator_is : (s : List Lexeme) (x : Storage) (t : Typ) (st : State) (tree : Tree) (kind : NodeKind) (p : SyntaxAt) (token : Option ℕ)
    (kids those : Trees) (at : At) → tree ≡ node kind p token kids → kind ≡ k.InitDeclarator → at ≡ at_of p → those ≡ kids
    → file_declarator s x t st tree ≡ declarator_by s x t st at those
declarator_is s x t st tree kind p token kids those at e h q w = ap (file_declarator s x t st) e
    ∙ ap (λ (z : NodeKind). file_declarator s x t st (node z p token kids)) h ∙ declarator_inner s x t st p token kids
    ∙ ap (λ (z : At). declarator_by s x t st z kids) (sym q) ∙ ap (declarator_by s x t st at) (sym w)

pub started_is : (s : List Lexeme) (st : State) (at : At) (ts : Trees) (x : Storage)
    → file_declaration s st x at ts ≡ file_started s st at (started_from s x ts)
started_is s st at none x = refl
started_is s st at (more (node k.Attribute p token kids) ts) x = started_is s st at ts x
started_is s st at (more (node k.DeclSpecifier p (Some t) kids) ts) x = started_is s st at ts (with_specifier x (spelling s t))
started_is s st at (more (node k.DeclSpecifier p None kids) ts) x = refl
started_is s st at (more (node k.TypeSpecifierSeq p token kids) ts) x = refl
started_is s st at (more (node kind p token kids) ts) x = refl

typed_is : (s : List Lexeme) (st : State) (x : Storage) (at : At) (tree : Tree) (kind : NodeKind) (p : SyntaxAt) (token : Option ℕ) (kids rest : Trees)
    → tree ≡ node kind p token kids → kind ≡ k.TypeSpecifierSeq
    → file_typed s st x at (more tree rest) ≡ and_then (type_of_specifiers s st.ctx st.work tree) (λ (t : Typ). file_declarators s x t st rest)
typed_is s st x at tree kind p token kids rest e h =
    subst (λ (z : Tree). file_typed s st x at (more z rest) ≡ and_then (type_of_specifiers s st.ctx st.work z) (λ (t : Typ). file_declarators s x t st rest))
    (sym (e ∙ ap (λ (z : NodeKind). node z p token kids) h)) refl

-- nothing that was made for the type is kept
pub typed_then : (s : List Lexeme) (a b : StateRec) (w : WorkRec) (x : Storage) (at : At) (tree : Tree) (kind : NodeKind) (p : SyntaxAt) (token : Option ℕ)
    (kids rest : Trees) (t : Typ) (r : Result (Unit {0}) ElabFault) → tree ≡ node kind p token kids → kind ≡ k.TypeSpecifierSeq
    → type_of_specifiers s (ctx_of a.env) (work_of a.work) tree ≡ Ok t → Unmoved a.work w
    → Answers (state_of b) r (file_declarators s x t (state_of (record a { work = w })) rest)
    → Answers (state_of b) r (file_typed s (state_of a) x at (more tree rest))
typed_then s a b w x at tree kind p token kids rest t r e h g u m =
    answers_so (state_of b) r (file_declarators s x t (state_of (record a { work = w })) rest) (file_typed s (state_of a) x at (more tree rest))
    (typed_is s (state_of a) x at tree kind p token kids rest e h
    ∙ ap (λ (z : Result Typ ElabFault). and_then z (λ (y : Typ). file_declarators s x y (state_of a) rest)) g
    ∙ ap (λ (z : State). file_declarators s x t z rest) (sym (unmoved_state a w u))) m

-- Definitions

module _ (s : List Lexeme) (a : StateRec) (v : WorkRec) (known x : Storage) (whole ts : Trees) (at : At) (first : ℕ) (base d body : Tree) (t : Typ)
    (three : ts ≡ more base (more d (more body none))) (typed : type_of_specifiers s (ctx_of a.env) (work_of a.work) base ≡ Ok t) (same : Unmoved a.work v) where
  -- up to its declarator
  behind_type : defined_typed s (state_of a) known whole x at first ts ≡ and_then (declared_by s (ctx_of a.env) (work_of v) at t d)
      (λ (r : Declared). defined_by s (state_of a) known whole x at first r body (is_qualified r))
  behind_type = ap (defined_typed s (state_of a) known whole x at first) three
      ∙ ap (λ (z : Result Typ ElabFault). and_then z (λ (y : Typ). and_then (declared_by s (ctx_of a.env) (work_of a.work) at y d)
      (λ (r : Declared). defined_by s (state_of a) known whole x at first r body (is_qualified r)))) typed
      ∙ ap (λ (z : Work). and_then (declared_by s (ctx_of a.env) z at t d)
      (λ (r : Declared). defined_by s (state_of a) known whole x at first r body (is_qualified r))) (sym same.work)

  -- nothing that was made for its type and its declarator is kept
  pub defined_then : (b : StateRec) (w : WorkRec) (r : Declared) (q : Bool) (u : Result (Unit {0}) ElabFault)
      → declared_by s (ctx_of a.env) (work_of v) at t d ≡ Ok r → Unmoved v w → is_qualified r ≡ q
      → Answers (state_of b) u (defined_by s (state_of (record a { work = w })) known whole x at first r body q)
      → Answers (state_of b) u (defined_typed s (state_of a) known whole x at first ts)
  defined_then b w r q u e n h m =
      answers_so (state_of b) u (defined_by s (state_of (record a { work = w })) known whole x at first r body q)
      (defined_typed s (state_of a) known whole x at first ts)
      (behind_type ∙ ap (λ (z : Result Declared ElabFault). and_then z
      (λ (y : Declared). defined_by s (state_of a) known whole x at first y body (is_qualified y))) e
      ∙ ap (λ (z : Bool). defined_by s (state_of a) known whole x at first r body z) h
      ∙ ap (λ (z : State). defined_by s z known whole x at first r body q) (sym (unmoved_state a w (unmoved_trans a.work v w same n)))) m

  pub defined_fails : (f : ElabFault) → Faults f (declared_by s (ctx_of a.env) (work_of v) at t d)
      → Faults f (defined_typed s (state_of a) known whole x at first ts)
  defined_fails f m = faults_same f _ _ behind_type (faults_then f (declared_by s (ctx_of a.env) (work_of v) at t d)
      (λ (r : Declared). defined_by s (state_of a) known whole x at first r body (is_qualified r)) m)

pub definition_steps : (s : List Lexeme) (st : State) (x : Storage) (at : At) (first : ℕ) (d : Declared) (body : Tree) (f : Form) → is_function_form f ≡ true
    → defined_with s st x at first d body f ≡ defined_steps s st x at first d body f
definition_steps s st x at first d body (func g) h = refl
definition_steps s st x at first d body void h = absurd cc
definition_steps s st x at first d body (int i) h = absurd cc
definition_steps s st x at first d body (enum a b) h = absurd cc
definition_steps s st x at first d body null h = absurd cc
definition_steps s st x at first d body (ptr t) h = absurd cc
definition_steps s st x at first d body (ref t) h = absurd cc
definition_steps s st x at first d body (array t i) h = absurd cc
definition_steps s st x at first d body (class i) h = absurd cc
definition_steps s st x at first d body (closure i) h = absurd cc
definition_steps s st x at first d body (tx_ex t) h = absurd cc

pub definition_refused : (s : List Lexeme) (st : State) (x : Storage) (at : At) (first : ℕ) (d : Declared) (body : Tree) (f : Form) → is_function_form f ≡ false
    → defined_with s st x at first d body f ≡ Err (Ill at BadDeclaration)
definition_refused s st x at first d body (func g) h = absurd cc
definition_refused s st x at first d body void h = refl
definition_refused s st x at first d body (int i) h = refl
definition_refused s st x at first d body (enum a b) h = refl
definition_refused s st x at first d body null h = refl
definition_refused s st x at first d body (ptr t) h = refl
definition_refused s st x at first d body (ref t) h = refl
definition_refused s st x at first d body (array t i) h = refl
definition_refused s st x at first d body (class i) h = refl
definition_refused s st x at first d body (closure i) h = refl
definition_refused s st x at first d body (tx_ex t) h = refl

header_storage_of : (s : List Lexeme) (at : At) (x : Storage) (d : Declared) (f : Form) (h : Header) → file_header s at x d f ≡ Ok h → h.storage ≡ x
header_storage_of s at x d (func g) h e = let is : header_of s at x d g ≡ h = cc in ap (λ (z : Header). z.storage) (sym is)
header_storage_of s at x d void h e = absurd cc
header_storage_of s at x d (int i) h e = absurd cc
header_storage_of s at x d (enum a b) h e = absurd cc
header_storage_of s at x d null h e = absurd cc
header_storage_of s at x d (ptr t) h e = absurd cc
header_storage_of s at x d (ref t) h e = absurd cc
header_storage_of s at x d (array t i) h e = absurd cc
header_storage_of s at x d (class i) h e = absurd cc
header_storage_of s at x d (closure i) h e = absurd cc
header_storage_of s at x d (tx_ex t) h e = absurd cc

pub header_storage : (s : List Lexeme) (at : At) (x : Storage) (d : Declared) (f : Form) (h : Header) → file_header s at x d f ≡ Ok h → h.storage ≡ x
header_storage s at x d f h e = header_storage_of s at x d f h e

pub definition_is : (s : List Lexeme) (st : State) (x : Storage) (at : At) (first : ℕ) (d : Declared) (body : Tree) (f : Form) (b : Bool) (h : Header)
    → is_function_form f ≡ true → text_sized at (definition_text s x first body) ≡ Ok b → file_header s at x d f ≡ Ok h
    → defined_with s st x at first d body f ≡ defined_header s st first body h
definition_is s st x at first d body f b h k e g = definition_steps s st x at first d body f k
    ∙ ap (λ (z : Result Bool ElabFault). and_then z (λ y. and_then (file_header s at x d f) (defined_header s st first body))) e
    ∙ ap (λ (z : Result Header ElabFault). and_then z (defined_header s st first body)) g

pub alias_answers : {A B : Type 0} (b : B) (r : Result A ElabFault) (x : Result B ElabFault) → OnOk r (x ≡ Ok b) → IfErr r (λ e. Faults e x) → Answers b r x
alias_answers b (Ok a) x h g = h
alias_answers b (Err e) x h g = g

pub parts_refused : (s : List Lexeme) (st : State) (known : Storage) (whole : Trees) (x : Storage) (at : At) (first : ℕ) (ts : Trees) → are_three ts ≡ false
    → defined_typed s st known whole x at first ts ≡ Err (Ill at OutOfProfile)
parts_refused s st known whole x at first none h = refl
parts_refused s st known whole x at first (more a none) h = refl
parts_refused s st known whole x at first (more a (more b none)) h = refl
parts_refused s st known whole x at first (more a (more b (more c none))) h = absurd cc
parts_refused s st known whole x at first (more a (more b (more c (more d ts)))) h = refl

-- Declarations, one behind the other

-- so far declarations have led from a state to another, and the rest is left
pub record DeclaredTo (s : List Lexeme) (x : Storage) (first st : State) (ts rest : Trees) : Type 0 where
  pub is : declarations_of s x first ts ≡ declarations_of s x st rest

pub declared_none : (s : List Lexeme) (x : Storage) (st : State) (ts : Trees) → DeclaredTo s x st st ts ts
declared_none s x st ts = record { is = refl }

module _ (s : List Lexeme) (x : Storage) (first st : State) (trees : List Tree) (ids : List NodeId) (i : ℕ)
    (all : DeclaredTo s x first st (trees_at trees ids) (trees_at trees (drop i ids))) where
  pub declared_more : (d : NodeId) (next : State) → i < length ids → declaration_of s x st (tree_at trees (get_or ids i d)) ≡ Ok next
      → DeclaredTo s x first next (trees_at trees ids) (trees_at trees (drop (i + 1) ids))
  declared_more d next l m =
      let rest = trees_at trees (drop (i + 1) ids) in
      record {
        is = all.is ∙ ap (declarations_of s x st) (trees_step trees ids i d l)
            ∙ ap (λ (z : Result State ElabFault). and_then z (λ (y : State). declarations_of s x y rest)) m;
      }

  pub declared_fails : (d : NodeId) (c : State) (r : Result (Unit {0}) ElabFault) (e : ElabFault) → i < length ids → r ≡ Err e
      → Faults e (declaration_of s x st (tree_at trees (get_or ids i d))) → Answers c r (declarations_of s x first (trees_at trees ids))
  declared_fails d c r e l g m =
      let rest = trees_at trees (drop (i + 1) ids) in
      err_answers c r e (declarations_of s x first (trees_at trees ids)) g
      (subst (Faults e) (sym (all.is ∙ ap (declarations_of s x st) (trees_step trees ids i d l)))
      (faults_then e (declaration_of s x st (tree_at trees (get_or ids i d))) (λ (y : State). declarations_of s x y rest) m))

  pub declared_last : (u : Unit {0}) → length ids ≤ i → Answers st (Ok u) (declarations_of s x first (trees_at trees ids))
  declared_last u l = all.is ∙ ap (declarations_of s x st) (trees_past trees ids i l)
