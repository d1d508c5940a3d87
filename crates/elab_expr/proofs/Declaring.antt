-- Specifiers, declarators and parameters, one behind the other.
use Rattle.std.proofs.Common.{◌≡◌, ◌≢◌, ℕ, Bool, true, false, List, [], ◌∷◌, ◌++◌, Option, Some, None, Result, Ok, Err, refl, sym, ap, ◌∙◌, subst, append_assoc}
use Rattle.std.proofs.Common.{append-nil}
use Rattle.elab_rows.specs.cpp_lex.Tokens.{Lexeme}
use Rattle.elab_rows.specs.cpp_types.Typ.{Typ}
use Rattle.elab_rows.specs.cpp_types.declared.classes.At.{At}
use Rattle.elab_rows.specs.cpp_ast.declared.kinds.NodeKind.{NodeKind}
use Rattle.elab_rows.specs.cpp_ast.declared.kinds.NodeKind.TheVariants as k
use Rattle.elab_rows.specs.cpp_ast.declared.arena.At.{At as SyntaxAt}
use Rattle.elab_rows.specs.cpp_ast.declared.arena.NodeId.{NodeId}
use Rattle.elab_rows.specs.cpp_ast.Trees.{Tree, node, Trees, none, more, kind_of}
use Rattle.elab_rows.specs.cpp_tree.declared.faults.ElabFault.{ElabFault}
use Rattle.elab_rows.specs.cpp_tree.declared.faults.ElabFault.TheVariants.{Ill}
use Rattle.elab_rows.specs.cpp_tree.declared.faults.IllRule.TheVariants.{OutOfProfile}
use Rattle.elab_rows.specs.elab_ctx.Ctx.{Ctx, Work, Closure}
use Rattle.elab_rows.specs.elab_ctx.Steps.{and_then, at_of, spelling}
use Rattle.elab_rows.specs.elab_ctx.Says.{Faults}
use Rattle.elab_rows.proofs.elab_ctx.Making.{faults_same}
use Rattle.elab_rows.specs.elab_rules.Types.{Parameter, Declared, Specifiers, Qualifiers, declared_name, owner_token, no_specifiers, specified_type, pointer_to}
use Rattle.elab_rows.specs.elab_rules.Types.{reference_to, open_array, function_of, with_function, is_declared_safe, qualifiers_of, is_name}
use Rattle.elab_rows.specs.elab_rules.Expressions.{specified_with, all_specified_with, specifiers_with, type_id_with, declared_with, pointed_with}
use Rattle.elab_rows.specs.elab_rules.Expressions.{parameter_with, parameters_with, parameters_in_with, bounded, expression_with, chosen_operand}
use Rattle.elab_rows.specs.elab_ctx.Steps.{Typed}
use Rattle.elab_rows.specs.elab_types.Specified.{with_exception, parameter_declared, pointer_qualified}
use Rattle.elab_rows.specs.elab_types.Syntax.{trees_at, tree_at}
use Rattle.elab_rows.specs.elab_types.Shown.{Says}
use Rattle.elab_rows.specs.cpp_tree.Trees.{Tree as TypedTree}
use Rattle.elab_rows.specs.elab_ctx.Operands.{operand_in}
use Rattle.elab_rows.specs.elab_ctx.declared.operand.Operand.{Operand as OperandRec}
use Rattle.elab_rows.specs.Typed.{TypedAt}
use Rattle.elab_expr.specs.Forms.{is_exception, are_qualifiers, all_qualified}
use Rattle.elab_expr.proofs.FormRows.{kind_is}
use Rattle.elab_expr.proofs.Stages.{first_fault, later_fault}

-- Answers

pub says_same : {A B : Type 0} (show : A → B) (r : Result A ElabFault) (x y : Result B ElabFault) → y ≡ x → Says show r x → Says show r y
says_same show r x y e m = subst (λ (z : Result _ ElabFault). Says show r z) (sym e) m

pub refused_says : {A B : Type 0} (show : A → B) (r : Result A ElabFault) (e : ElabFault) (x y : Result B ElabFault) → r ≡ Err e → y ≡ x → Faults e x
    → Says show r y
refused_says show r e x y h g f = subst (λ (z : Result _ ElabFault). Says show z y) (sym h) (faults_same e x y g f)

pub then_known : {A B : Type 0} (x : Result A ElabFault) (a : A) (f : A → Result B ElabFault) → x ≡ Ok a → and_then x f ≡ f a
then_known x a f h = ap (λ (z : Result _ ElabFault). and_then z f) h

-- Specifiers

pub simple_none : (s : List Lexeme) (c : Ctx) (l : List Closure) (w : Work) (d : Specifiers) (kind : NodeKind) (p : SyntaxAt) (kids : Trees)
    → is_exception kind ≡ false → specified_with s c l w d (node kind p None kids) ≡ Err (Ill (at_of p) OutOfProfile)
simple_none s c l w d k.TxException p kids h = absurd cc
simple_none s c l w d kind p kids h = refl

pub simple_other : (s : List Lexeme) (c : Ctx) (l : List Closure) (w : Work) (d : Specifiers) (kind : NodeKind) (p : SyntaxAt) (n : ℕ) (kids : Trees)
    → is_exception kind ≡ false → kind ≢ k.CvQualifier → kind ≢ k.SimpleTypeSpecifier → kind ≢ k.TypeName
    → specified_with s c l w d (node kind p (Some n) kids) ≡ Err (Ill (at_of p) OutOfProfile)
simple_other s c l w d k.CvQualifier p n kids h a b e = absurd (a refl)
simple_other s c l w d k.SimpleTypeSpecifier p n kids h a b e = absurd (b refl)
simple_other s c l w d k.TypeName p n kids h a b e = absurd (e refl)
simple_other s c l w d k.TxException p n kids h a b e = absurd cc
simple_other s c l w d kind p n kids h a b e = refl

abbrev pub exception_by : List Lexeme → Ctx → List Closure → Work → At → Specifiers → Tree → Result Specifiers ElabFault
exception_by s c l w at d t = and_then (type_id_with s c l w t) (λ (u : Typ). with_exception c at u d)

exception_at : (s : List Lexeme) (c : Ctx) (l : List Closure) (w : Work) (d : Specifiers) (t : Tree) (kind : NodeKind) (p : SyntaxAt) (token : Option ℕ)
    → is_exception kind ≡ true → specified_with s c l w d (node kind p token (more t none)) ≡ exception_by s c l w (at_of p) d t
exception_at s c l w d t k.TxException p token h = refl
exception_at s c l w d t kind p token h = absurd cc

pub exception_is : (s : List Lexeme) (c : Ctx) (l : List Closure) (w : Work) (d : Specifiers) (tree t : Tree) (kind : NodeKind) (p : SyntaxAt)
    (token : Option ℕ) (kids : Trees) → tree ≡ node kind p token kids → is_exception (kind_of tree) ≡ true → kids ≡ more t none
    → specified_with s c l w d tree ≡ exception_by s c l w (at_of p) d t
exception_is s c l w d tree t kind p token kids n h g = rw (n, g) (exception_at s c l w d t kind p token (sym (ap (λ z. is_exception (kind_of z)) n) ∙ h))

pub exception_says : {A : Type 0} (show : A → Specifiers) (r : Result A ElabFault) (s : List Lexeme) (c : Ctx) (l : List Closure) (w : Work) (at : At)
    (d : Specifiers) (t : Tree) (u : Typ) → type_id_with s c l w t ≡ Ok u → Says show r (with_exception c at u d) → Says show r (exception_by s c l w at d t)
exception_says show r s c l w at d t u h m = says_same show r (with_exception c at u d) (exception_by s c l w at d t)
    (then_known (type_id_with s c l w t) u (λ (z : Typ). with_exception c at z d) h) m

pub exception_fault : (s : List Lexeme) (c : Ctx) (l : List Closure) (w : Work) (at : At) (d : Specifiers) (t : Tree) (e : ElabFault)
    → Faults e (type_id_with s c l w t) → Faults e (exception_by s c l w at d t)
exception_fault s c l w at d t e h = first_fault e (type_id_with s c l w t) (λ (z : Typ). with_exception c at z d) h

-- the type that several specifiers give
pub specifiers_are : (s : List Lexeme) (c : Ctx) (l : List Closure) (w : Work) (t : Tree) (kind : NodeKind) (p : SyntaxAt) (token : Option ℕ) (kids : Trees)
    → t ≡ node kind p token kids → specifiers_with s c l w t
    ≡ and_then (all_specified_with s c l w no_specifiers kids) (λ (d : Specifiers). specified_type (at_of p) d)
specifiers_are s c l w t kind p token kids n = ap (specifiers_with s c l w) n

pub next_specified : (s : List Lexeme) (c : Ctx) (l : List Closure) (w v : Work) (d e : Specifiers) (t : Tree) (left ts : Trees)
    (total : Result Specifiers ElabFault) → v ≡ w → total ≡ all_specified_with s c l w d left → left ≡ more t ts → specified_with s c l v d t ≡ Ok e
    → total ≡ all_specified_with s c l w e ts
next_specified s c l w v d e t left ts total m h g q = h ∙ ap (all_specified_with s c l w d) g
    ∙ then_known (specified_with s c l w d t) e (λ (x : Specifiers). all_specified_with s c l w x ts)
    (subst (λ (z : Work). specified_with s c l z d t ≡ Ok e) m q)

pub specified_fault : (s : List Lexeme) (c : Ctx) (l : List Closure) (w v : Work) (at : At) (d : Specifiers) (t : Tree) (left ts all : Trees) (f : ElabFault)
    → v ≡ w → all_specified_with s c l w no_specifiers all ≡ all_specified_with s c l w d left → left ≡ more t ts → Faults f (specified_with s c l v d t)
    → Faults f (and_then (all_specified_with s c l w no_specifiers all) (λ (x : Specifiers). specified_type at x))
specified_fault s c l w v at d t left ts all f m h g q =
    first_fault f (all_specified_with s c l w no_specifiers all) (λ (x : Specifiers). specified_type at x)
    (faults_same f (all_specified_with s c l w d (more t ts)) (all_specified_with s c l w no_specifiers all) (h ∙ ap (all_specified_with s c l w d) g)
    (first_fault f (specified_with s c l w d t) (λ (x : Specifiers). all_specified_with s c l w x ts)
    (subst (λ (z : Work). Faults f (specified_with s c l z d t)) m q)))

pub specifiers_done : (s : List Lexeme) (c : Ctx) (l : List Closure) (w : Work) (at : At) (d : Specifiers) (left all : Trees)
    → all_specified_with s c l w no_specifiers all ≡ all_specified_with s c l w d left → left ≡ none
    → and_then (all_specified_with s c l w no_specifiers all) (λ (x : Specifiers). specified_type at x) ≡ specified_type at d
specifiers_done s c l w at d left all h g = then_known (all_specified_with s c l w no_specifiers all) d (λ (x : Specifiers). specified_type at x)
    (h ∙ ap (all_specified_with s c l w d) g)

-- Type-ids and parameters

abbrev pub type_by : List Lexeme → Ctx → List Closure → Work → At → Tree → Tree → Result Typ ElabFault
type_by s c l w at base d = and_then (specifiers_with s c l w base) (λ (t : Typ). and_then (declared_with s c l w at t d) (λ (r : Declared). Ok r.typ))

pub type_id_is : (s : List Lexeme) (c : Ctx) (l : List Closure) (w : Work) (t base d : Tree) (kind : NodeKind) (p : SyntaxAt) (token : Option ℕ) (kids : Trees)
    → t ≡ node kind p token kids → kids ≡ more base (more d none) → type_id_with s c l w t ≡ type_by s c l w (at_of p) base d
type_id_is s c l w t base d kind p token kids n g = rw (n, g) refl

pub type_made : (s : List Lexeme) (c : Ctx) (l : List Closure) (w v : Work) (at : At) (base d : Tree) (t : Typ) (r : Declared)
    → v ≡ w → specifiers_with s c l w base ≡ Ok t → declared_with s c l v at t d ≡ Ok r → type_by s c l w at base d ≡ Ok r.typ
type_made s c l w v at base d t r e h g = then_known (specifiers_with s c l w base) t
    (λ (u : Typ). and_then (declared_with s c l w at u d) (λ (x : Declared). Ok x.typ)) h
    ∙ then_known (declared_with s c l w at t d) r (λ (x : Declared). Ok x.typ) (subst (λ (z : Work). declared_with s c l z at t d ≡ Ok r) e g)

pub type_base_fault : (s : List Lexeme) (c : Ctx) (l : List Closure) (w : Work) (at : At) (base d : Tree) (e : ElabFault)
    → Faults e (specifiers_with s c l w base) → Faults e (type_by s c l w at base d)
type_base_fault s c l w at base d e h = first_fault e (specifiers_with s c l w base)
    (λ (u : Typ). and_then (declared_with s c l w at u d) (λ (x : Declared). Ok x.typ)) h

pub type_declared_fault : (s : List Lexeme) (c : Ctx) (l : List Closure) (w v : Work) (at : At) (base d : Tree) (t : Typ) (e : ElabFault)
    → v ≡ w → specifiers_with s c l w base ≡ Ok t → Faults e (declared_with s c l v at t d) → Faults e (type_by s c l w at base d)
type_declared_fault s c l w v at base d t e m h g = later_fault e (specifiers_with s c l w base) t
    (λ (u : Typ). and_then (declared_with s c l w at u d) (λ (x : Declared). Ok x.typ)) h
    (first_fault e (declared_with s c l w at t d) (λ (x : Declared). Ok x.typ) (subst (λ (z : Work). Faults e (declared_with s c l z at t d)) m g))

abbrev pub parameter_by : List Lexeme → Ctx → List Closure → Work → At → Tree → Tree → Result Parameter ElabFault
parameter_by s c l w at base d = and_then (specifiers_with s c l w base) (λ (t : Typ). and_then (declared_with s c l w at t d) (parameter_declared c at))

pub parameter_is : (s : List Lexeme) (c : Ctx) (l : List Closure) (w : Work) (t base d : Tree) (kind : NodeKind) (p : SyntaxAt) (token : Option ℕ)
    (kids : Trees) → t ≡ node kind p token kids → kids ≡ more base (more d none) → parameter_with s c l w t ≡ parameter_by s c l w (at_of p) base d
parameter_is s c l w t base d kind p token kids n g = rw (n, g) refl

pub parameter_says : {A : Type 0} (show : A → Parameter) (q : Result A ElabFault) (s : List Lexeme) (c : Ctx) (l : List Closure) (w v : Work) (at : At)
    (base d : Tree) (t : Typ) (r : Declared) → v ≡ w → specifiers_with s c l w base ≡ Ok t → declared_with s c l v at t d ≡ Ok r
    → Says show q (parameter_declared c at r) → Says show q (parameter_by s c l w at base d)
parameter_says show q s c l w v at base d t r e h g m = says_same show q (parameter_declared c at r) (parameter_by s c l w at base d)
    (then_known (specifiers_with s c l w base) t (λ (u : Typ). and_then (declared_with s c l w at u d) (parameter_declared c at)) h
    ∙ then_known (declared_with s c l w at t d) r (parameter_declared c at) (subst (λ (z : Work). declared_with s c l z at t d ≡ Ok r) e g)) m

pub parameter_base_fault : (s : List Lexeme) (c : Ctx) (l : List Closure) (w : Work) (at : At) (base d : Tree) (e : ElabFault)
    → Faults e (specifiers_with s c l w base) → Faults e (parameter_by s c l w at base d)
parameter_base_fault s c l w at base d e h = first_fault e (specifiers_with s c l w base)
    (λ (u : Typ). and_then (declared_with s c l w at u d) (parameter_declared c at)) h

pub parameter_declared_fault : (s : List Lexeme) (c : Ctx) (l : List Closure) (w v : Work) (at : At) (base d : Tree) (t : Typ) (e : ElabFault)
    → v ≡ w → specifiers_with s c l w base ≡ Ok t → Faults e (declared_with s c l v at t d) → Faults e (parameter_by s c l w at base d)
parameter_declared_fault s c l w v at base d t e m h g = later_fault e (specifiers_with s c l w base) t
    (λ (u : Typ). and_then (declared_with s c l w at u d) (parameter_declared c at)) h
    (first_fault e (declared_with s c l w at t d) (parameter_declared c at) (subst (λ (z : Work). Faults e (declared_with s c l z at t d)) m g))

-- Declarators

pub declared_other : (s : List Lexeme) (c : Ctx) (l : List Closure) (w : Work) (at : At) (t : Typ) (kind : NodeKind) (p : SyntaxAt) (token : Option ℕ)
    (kids : Trees) → kind ≢ k.DeclaratorId → kind ≢ k.DestructorId → kind ≢ k.QualifiedDeclaratorId → kind ≢ k.QualifiedDestructorId → kind ≢ k.OmittedId
    → kind ≢ k.ParenthesizedDeclarator → kind ≢ k.PointerDeclarator → kind ≢ k.ReferenceDeclarator → kind ≢ k.ArrayDeclarator → kind ≢ k.FunctionDeclarator
    → declared_with s c l w at t (node kind p token kids) ≡ Err (Ill at OutOfProfile)
declared_other s c l w at t k.DeclaratorId p token kids a b d e f g h i j m = absurd (a refl)
declared_other s c l w at t k.DestructorId p token kids a b d e f g h i j m = absurd (b refl)
declared_other s c l w at t k.QualifiedDeclaratorId p token kids a b d e f g h i j m = absurd (d refl)
declared_other s c l w at t k.QualifiedDestructorId p token kids a b d e f g h i j m = absurd (e refl)
declared_other s c l w at t k.OmittedId p token kids a b d e f g h i j m = absurd (f refl)
declared_other s c l w at t k.ParenthesizedDeclarator p token kids a b d e f g h i j m = absurd (g refl)
declared_other s c l w at t k.PointerDeclarator p token kids a b d e f g h i j m = absurd (h refl)
declared_other s c l w at t k.ReferenceDeclarator p token kids a b d e f g h i j m = absurd (i refl)
declared_other s c l w at t k.ArrayDeclarator p token kids a b d e f g h i j m = absurd (j refl)
declared_other s c l w at t k.FunctionDeclarator p token kids a b d e f g h i j m = absurd (m refl)
declared_other s c l w at t kind p token kids a b d e f g h i j m = refl

-- what a name alone declares
pub name_is : (s : List Lexeme) (c : Ctx) (l : List Closure) (w : Work) (at : At) (t : Typ) (tree : Tree) (kind : NodeKind) (p : SyntaxAt) (token : Option ℕ)
    (kids : Trees) → tree ≡ node kind p token kids → kind ≡ k.DeclaratorId → declared_with s c l w at t tree ≡ Ok (declared_name token None false t)
name_is s c l w at t tree kind p token kids n h = rw (n, h) refl

pub destructor_is : (s : List Lexeme) (c : Ctx) (l : List Closure) (w : Work) (at : At) (t : Typ) (tree : Tree) (kind : NodeKind) (p : SyntaxAt)
    (token : Option ℕ) (kids : Trees) → tree ≡ node kind p token kids → kind ≡ k.DestructorId
    → declared_with s c l w at t tree ≡ Ok (declared_name token None true t)
destructor_is s c l w at t tree kind p token kids n h = rw (n, h) refl

pub owned_is : (s : List Lexeme) (c : Ctx) (l : List Closure) (w : Work) (at : At) (t : Typ) (tree : Tree) (kind : NodeKind) (p : SyntaxAt) (token : Option ℕ)
    (kids : Trees) → tree ≡ node kind p token kids → kind ≡ k.QualifiedDeclaratorId
    → declared_with s c l w at t tree ≡ Ok (declared_name token (owner_token kids) false t)
owned_is s c l w at t tree kind p token kids n h = rw (n, h) refl

pub owned_destructor_is : (s : List Lexeme) (c : Ctx) (l : List Closure) (w : Work) (at : At) (t : Typ) (tree : Tree) (kind : NodeKind) (p : SyntaxAt)
    (token : Option ℕ) (kids : Trees) → tree ≡ node kind p token kids → kind ≡ k.QualifiedDestructorId
    → declared_with s c l w at t tree ≡ Ok (declared_name token (owner_token kids) true t)
owned_destructor_is s c l w at t tree kind p token kids n h = rw (n, h) refl

pub omitted_is : (s : List Lexeme) (c : Ctx) (l : List Closure) (w : Work) (at : At) (t : Typ) (tree : Tree) (kind : NodeKind) (p : SyntaxAt) (token : Option ℕ)
    (kids : Trees) → tree ≡ node kind p token kids → kind ≡ k.OmittedId → declared_with s c l w at t tree ≡ Ok (declared_name None None false t)
omitted_is s c l w at t tree kind p token kids n h = rw (n, h) refl

pub enclosed_is : (s : List Lexeme) (c : Ctx) (l : List Closure) (w : Work) (at : At) (t : Typ) (tree d : Tree) (kind : NodeKind) (p : SyntaxAt)
    (token : Option ℕ) (kids : Trees) → tree ≡ node kind p token kids → kind_of tree ≡ k.ParenthesizedDeclarator → kids ≡ more d none
    → declared_with s c l w at t tree ≡ declared_with s c l w at t d
enclosed_is s c l w at t tree d kind p token kids n h g = rw (n, kind_is tree kind _ p token kids n h, g) refl

abbrev pub reference_by : List Lexeme → Ctx → List Closure → Work → At → Typ → Tree → Result Declared ElabFault
reference_by s c l w at t d = and_then (reference_to at t) (λ (u : Typ). declared_with s c l w at u d)

pub reference_is : (s : List Lexeme) (c : Ctx) (l : List Closure) (w : Work) (at : At) (t : Typ) (tree d : Tree) (kind : NodeKind) (p : SyntaxAt)
    (token : Option ℕ) (kids : Trees) → tree ≡ node kind p token kids → kind_of tree ≡ k.ReferenceDeclarator → kids ≡ more d none
    → declared_with s c l w at t tree ≡ reference_by s c l w at t d
reference_is s c l w at t tree d kind p token kids n h g = rw (n, kind_is tree kind _ p token kids n h, g) refl

pub reference_made : (s : List Lexeme) (c : Ctx) (l : List Closure) (w : Work) (at : At) (t u : Typ) (d : Tree) → reference_to at t ≡ Ok u
    → reference_by s c l w at t d ≡ declared_with s c l w at u d
reference_made s c l w at t u d h = then_known (reference_to at t) u (λ (z : Typ). declared_with s c l w at z d) h

pub reference_fault : (s : List Lexeme) (c : Ctx) (l : List Closure) (w : Work) (at : At) (t : Typ) (d : Tree) (e : ElabFault) → Faults e (reference_to at t)
    → Faults e (reference_by s c l w at t d)
reference_fault s c l w at t d e h = first_fault e (reference_to at t) (λ (z : Typ). declared_with s c l w at z d) h

abbrev pub open_by : List Lexeme → Ctx → List Closure → Work → At → Typ → Tree → Result Declared ElabFault
open_by s c l w at t d = and_then (open_array at t) (λ (u : Typ). declared_with s c l w at u d)

pub open_is : (s : List Lexeme) (c : Ctx) (l : List Closure) (w : Work) (at : At) (t : Typ) (tree d : Tree) (kind : NodeKind) (p : SyntaxAt) (token : Option ℕ)
    (kids : Trees) → tree ≡ node kind p token kids → kind_of tree ≡ k.ArrayDeclarator → kids ≡ more d none
    → declared_with s c l w at t tree ≡ open_by s c l w at t d
open_is s c l w at t tree d kind p token kids n h g = rw (n, kind_is tree kind _ p token kids n h, g) refl

pub open_made : (s : List Lexeme) (c : Ctx) (l : List Closure) (w : Work) (at : At) (t u : Typ) (d : Tree) → open_array at t ≡ Ok u
    → open_by s c l w at t d ≡ declared_with s c l w at u d
open_made s c l w at t u d h = then_known (open_array at t) u (λ (z : Typ). declared_with s c l w at z d) h

pub open_fault : (s : List Lexeme) (c : Ctx) (l : List Closure) (w : Work) (at : At) (t : Typ) (d : Tree) (e : ElabFault) → Faults e (open_array at t)
    → Faults e (open_by s c l w at t d)
open_fault s c l w at t d e h = first_fault e (open_array at t) (λ (z : Typ). declared_with s c l w at z d) h

-- with a bound
abbrev pub bound_of : List Lexeme → Ctx → List Closure → Work → At → Typ → Tree → Result Typ ElabFault
bound_of s c l w at t e = and_then (and_then (expression_with s c l w e) (chosen_operand c)) (λ (x : Typed). bounded c w at t x.operand)

abbrev pub array_by : List Lexeme → Ctx → List Closure → Work → At → Typ → Tree → Tree → Result Declared ElabFault
array_by s c l w at t d e = and_then (and_then (expression_with s c l w e) (chosen_operand c))
    (λ (x : Typed). and_then (bounded c w at t x.operand) (λ (u : Typ). declared_with s c l w at u d))

pub array_is : (s : List Lexeme) (c : Ctx) (l : List Closure) (w : Work) (at : At) (t : Typ) (tree d e : Tree) (kind : NodeKind) (p : SyntaxAt)
    (token : Option ℕ) (kids : Trees) → tree ≡ node kind p token kids → kind_of tree ≡ k.ArrayDeclarator → kids ≡ more d (more e none)
    → declared_with s c l w at t tree ≡ array_by s c l w at t d e
array_is s c l w at t tree d e kind p token kids n h g = rw (n, kind_is tree kind _ p token kids n h, g) refl

-- what is made for the bound is cut off again, so that `v` and `n2` are what stood there
pub bound_says : {A : Type 0} (show : A → Typ) (r : Result A ElabFault) (s : List Lexeme) (c : Ctx) (l : List Closure) (w v w1 : Work) (at : At) (t : Typ)
    (e : Tree) (n0 n1 n2 : List TypedTree) (o : OperandRec) → v ≡ w → n2 ≡ n1 → TypedAt n0 n1 w1 o (and_then (expression_with s c l w e) (chosen_operand c))
    → Says show r (bounded c v at t (operand_in n2 o)) → Says show r (bound_of s c l w at t e)
bound_says show r s c l w v w1 at t e n0 n1 n2 o h g m q =
    says_same show r (bounded c w at t (operand_in n1 o)) (bound_of s c l w at t e)
    (then_known (and_then (expression_with s c l w e) (chosen_operand c)) (record { operand = operand_in n1 o; work = w1 })
    (λ (x : Typed). bounded c w at t x.operand) m.is)
    (subst (λ (z : List TypedTree). Says show r (bounded c w at t (operand_in z o))) g
    (subst (λ (z : Work). Says show r (bounded c z at t (operand_in n2 o))) h q))

pub bound_fault : (s : List Lexeme) (c : Ctx) (l : List Closure) (w : Work) (at : At) (t : Typ) (e : Tree) (f : ElabFault)
    → Faults f (and_then (expression_with s c l w e) (chosen_operand c)) → Faults f (bound_of s c l w at t e)
bound_fault s c l w at t e f h = first_fault f (and_then (expression_with s c l w e) (chosen_operand c)) (λ (x : Typed). bounded c w at t x.operand) h

then_again : {A B C : Type 0} (x : Result A ElabFault) (f : A → Result B ElabFault) (g : B → Result C ElabFault)
    → and_then x (λ a. and_then (f a) g) ≡ and_then (and_then x f) g
then_again (Ok a) f g = refl
then_again (Err e) f g = refl

array_then : (s : List Lexeme) (c : Ctx) (l : List Closure) (w : Work) (at : At) (t : Typ) (d e : Tree)
    → array_by s c l w at t d e ≡ and_then (bound_of s c l w at t e) (λ (u : Typ). declared_with s c l w at u d)
array_then s c l w at t d e = then_again (and_then (expression_with s c l w e) (chosen_operand c)) (λ (x : Typed). bounded c w at t x.operand)
    (λ (u : Typ). declared_with s c l w at u d)

pub array_made : (s : List Lexeme) (c : Ctx) (l : List Closure) (w v : Work) (at : At) (t u : Typ) (d e : Tree) → v ≡ w → bound_of s c l w at t e ≡ Ok u
    → array_by s c l w at t d e ≡ declared_with s c l v at u d
array_made s c l w v at t u d e m h = array_then s c l w at t d e ∙ then_known (bound_of s c l w at t e) u (λ (z : Typ). declared_with s c l w at z d) h
    ∙ ap (λ (z : Work). declared_with s c l z at u d) (sym m)

pub array_fault : (s : List Lexeme) (c : Ctx) (l : List Closure) (w : Work) (at : At) (t : Typ) (d e : Tree) (f : ElabFault)
    → Faults f (bound_of s c l w at t e) → Faults f (array_by s c l w at t d e)
array_fault s c l w at t d e f h = faults_same f _ (array_by s c l w at t d e) (array_then s c l w at t d e)
    (first_fault f (bound_of s c l w at t e) (λ (z : Typ). declared_with s c l w at z d) h)

-- A pointer's qualifiers

abbrev pub followed : Trees → Tree → Trees
followed none d = more d none
followed (more t ts) d = more t (followed ts d)

trees_last : (trees : List Tree) (ids : List NodeId) (id : NodeId) → trees_at trees (ids ++ id ∷ []) ≡ followed (trees_at trees ids) (tree_at trees id)
trees_last trees [] id = refl
trees_last trees (x ∷ ids) id = ap (more (tree_at trees x)) (trees_last trees ids id)

pointed_last : (s : List Lexeme) (c : Ctx) (l : List Closure) (w : Work) (at : At) (t : Typ) (d : Tree)
    → pointed_with s c l w at t (more d none) ≡ declared_with s c l w at t d
pointed_last s c l w at t (node k.CvQualifier p (Some n) kids) = refl
pointed_last s c l w at t (node k.CvQualifier p None kids) = refl
pointed_last s c l w at t (node kind p token kids) = refl

pointed_all : (s : List Lexeme) (c : Ctx) (l : List Closure) (w : Work) (at : At) (t : Typ) (ts : Trees) (d : Tree) → are_qualifiers ts ≡ true
    → pointed_with s c l w at t (followed ts d) ≡ declared_with s c l w at (all_qualified s t ts) d
pointed_all s c l w at t none d h = pointed_last s c l w at t d
pointed_all s c l w at t (more (node k.CvQualifier p (Some n) kids) ts) d h = pointed_all s c l w at (pointer_qualified (spelling s n) t) ts d h
pointed_all s c l w at t (more (node k.CvQualifier p None kids) ts) d h = absurd cc
pointed_all s c l w at t (more (node kind p token kids) ts) d h = absurd cc

abbrev pub pointer_by : List Lexeme → Ctx → List Closure → Work → At → Typ → Trees → Result Declared ElabFault
pointer_by s c l w at t ts = and_then (pointer_to at t) (λ (u : Typ). pointed_with s c l w at u ts)

pub pointer_is : (s : List Lexeme) (c : Ctx) (l : List Closure) (w : Work) (at : At) (t : Typ) (tree : Tree) (kind : NodeKind) (p : SyntaxAt) (token : Option ℕ)
    (kids : Trees) → tree ≡ node kind p token kids → kind_of tree ≡ k.PointerDeclarator → declared_with s c l w at t tree ≡ pointer_by s c l w at t kids
pointer_is s c l w at t tree kind p token kids n h = rw (n, kind_is tree kind _ p token kids n h) refl

pub pointer_made : (s : List Lexeme) (c : Ctx) (l : List Closure) (w : Work) (at : At) (t u v : Typ) (trees : List Tree) (ids front : List NodeId) (id : NodeId)
    → ids ≡ front ++ id ∷ [] → pointer_to at t ≡ Ok u → are_qualifiers (trees_at trees front) ≡ true → v ≡ all_qualified s u (trees_at trees front)
    → pointer_by s c l w at t (trees_at trees ids) ≡ declared_with s c l w at v (tree_at trees id)
pointer_made s c l w at t u v trees ids front id e h a g =
    then_known (pointer_to at t) u (λ (z : Typ). pointed_with s c l w at z (trees_at trees ids)) h
    ∙ ap (λ (z : List NodeId). pointed_with s c l w at u (trees_at trees z)) e
    ∙ ap (pointed_with s c l w at u) (trees_last trees front id)
    ∙ pointed_all s c l w at u (trees_at trees front) (tree_at trees id) a
    ∙ ap (λ (z : Typ). declared_with s c l w at z (tree_at trees id)) (sym g)

pub pointer_fault : (s : List Lexeme) (c : Ctx) (l : List Closure) (w : Work) (at : At) (t : Typ) (ts : Trees) (e : ElabFault) → Faults e (pointer_to at t)
    → Faults e (pointer_by s c l w at t ts)
pointer_fault s c l w at t ts e h = first_fault e (pointer_to at t) (λ (z : Typ). pointed_with s c l w at z ts) h

-- Functions

abbrev pub function_then : List Lexeme → Ctx → List Closure → Work → At → Typ → Tree → Qualifiers → List Parameter → Result Declared ElabFault
function_then s c l w at t d q xs = and_then (function_of c at t xs (is_declared_safe q))
    (λ (u : Typ). and_then (declared_with s c l w at u d) (λ (r : Declared). with_function at (is_name d) xs q r))

abbrev pub function_by : List Lexeme → Ctx → List Closure → Work → At → Typ → Tree → Tree → Tree → Result Declared ElabFault
function_by s c l w at t d ps q = and_then (parameters_in_with s c l w ps) (function_then s c l w at t d (qualifiers_of s q))

pub function_is : (s : List Lexeme) (c : Ctx) (l : List Closure) (w : Work) (at : At) (t : Typ) (tree d ps q : Tree) (kind : NodeKind) (p : SyntaxAt)
    (token : Option ℕ) (kids : Trees) → tree ≡ node kind p token kids → kind_of tree ≡ k.FunctionDeclarator → kids ≡ more d (more ps (more q none))
    → declared_with s c l w at t tree ≡ function_by s c l w at t d ps q
function_is s c l w at t tree d ps q kind p token kids n h g = rw (n, kind_is tree kind _ p token kids n h, g) refl

pub function_made : (s : List Lexeme) (c : Ctx) (l : List Closure) (w v : Work) (at : At) (t u : Typ) (d ps q : Tree) (xs : List Parameter) (qs : Qualifiers)
    (r : Declared) → v ≡ w → qs ≡ qualifiers_of s q → parameters_in_with s c l w ps ≡ Ok xs → function_of c at t xs (is_declared_safe qs) ≡ Ok u
    → declared_with s c l v at u d ≡ Ok r → function_by s c l w at t d ps q ≡ with_function at (is_name d) xs qs r
function_made s c l w v at t u d ps q xs qs r i e h g m =
    ap (λ (z : Qualifiers). and_then (parameters_in_with s c l w ps) (function_then s c l w at t d z)) (sym e)
    ∙ then_known (parameters_in_with s c l w ps) xs (function_then s c l w at t d qs) h
    ∙ then_known (function_of c at t xs (is_declared_safe qs)) u
    (λ (z : Typ). and_then (declared_with s c l w at z d) (λ (y : Declared). with_function at (is_name d) xs qs y)) g
    ∙ then_known (declared_with s c l w at u d) r (λ (y : Declared). with_function at (is_name d) xs qs y)
    (subst (λ (z : Work). declared_with s c l z at u d ≡ Ok r) i m)

-- the same parameters and safety by other names
pub function_safe : (c : Ctx) (at : At) (t u : Typ) (xs ys : List Parameter) (safe : Bool) (qs : Qualifiers) → ys ≡ xs → safe ≡ is_declared_safe qs
    → function_of c at t ys safe ≡ Ok u → function_of c at t xs (is_declared_safe qs) ≡ Ok u
function_safe c at t u xs ys safe qs a b h = sym (ap (λ z. function_of c at t z safe) a ∙ ap (function_of c at t xs) b) ∙ h

pub function_safe_fault : (c : Ctx) (at : At) (t : Typ) (xs ys : List Parameter) (safe : Bool) (qs : Qualifiers) (e : ElabFault) → ys ≡ xs
    → safe ≡ is_declared_safe qs → Faults e (function_of c at t ys safe) → Faults e (function_of c at t xs (is_declared_safe qs))
function_safe_fault c at t xs ys safe qs e a b h = faults_same e (function_of c at t ys safe) (function_of c at t xs (is_declared_safe qs))
    (sym (ap (λ z. function_of c at t z safe) a ∙ ap (function_of c at t xs) b)) h

pub clause_fault : (s : List Lexeme) (c : Ctx) (l : List Closure) (w : Work) (at : At) (t : Typ) (d ps q : Tree) (e : ElabFault)
    → Faults e (parameters_in_with s c l w ps) → Faults e (function_by s c l w at t d ps q)
clause_fault s c l w at t d ps q e h = first_fault e (parameters_in_with s c l w ps) (function_then s c l w at t d (qualifiers_of s q)) h

pub function_fault : (s : List Lexeme) (c : Ctx) (l : List Closure) (w : Work) (at : At) (t : Typ) (d ps q : Tree) (xs : List Parameter) (qs : Qualifiers)
    (e : ElabFault) → qs ≡ qualifiers_of s q → parameters_in_with s c l w ps ≡ Ok xs → Faults e (function_of c at t xs (is_declared_safe qs))
    → Faults e (function_by s c l w at t d ps q)
function_fault s c l w at t d ps q xs qs e g h m =
    later_fault e (parameters_in_with s c l w ps) xs (function_then s c l w at t d (qualifiers_of s q)) h
    (subst (λ (z : Qualifiers). Faults e (function_then s c l w at t d z xs)) g
    (first_fault e (function_of c at t xs (is_declared_safe qs))
    (λ (z : Typ). and_then (declared_with s c l w at z d) (λ (y : Declared). with_function at (is_name d) xs qs y)) m))

pub inner_fault : (s : List Lexeme) (c : Ctx) (l : List Closure) (w v : Work) (at : At) (t u : Typ) (d ps q : Tree) (xs : List Parameter) (qs : Qualifiers)
    (e : ElabFault) → v ≡ w → qs ≡ qualifiers_of s q → parameters_in_with s c l w ps ≡ Ok xs → function_of c at t xs (is_declared_safe qs) ≡ Ok u
    → Faults e (declared_with s c l v at u d) → Faults e (function_by s c l w at t d ps q)
inner_fault s c l w v at t u d ps q xs qs e i g h n m =
    later_fault e (parameters_in_with s c l w ps) xs (function_then s c l w at t d (qualifiers_of s q)) h
    (subst (λ (z : Qualifiers). Faults e (function_then s c l w at t d z xs)) g
    (later_fault e (function_of c at t xs (is_declared_safe qs)) u
    (λ (z : Typ). and_then (declared_with s c l w at z d) (λ (y : Declared). with_function at (is_name d) xs qs y)) n
    (first_fault e (declared_with s c l w at u d) (λ (y : Declared). with_function at (is_name d) xs qs y)
    (subst (λ (z : Work). Faults e (declared_with s c l z at u d)) i m))))

-- Parameters

pub parameters_are : (s : List Lexeme) (c : Ctx) (l : List Closure) (w : Work) (t : Tree) (kind : NodeKind) (p : SyntaxAt) (token : Option ℕ) (kids : Trees)
    → t ≡ node kind p token kids → parameters_in_with s c l w t ≡ parameters_with s c l w kids
parameters_are s c l w t kind p token kids n = ap (parameters_in_with s c l w) n

abbrev pub after : List Parameter → Result (List Parameter) ElabFault → Result (List Parameter) ElabFault
after head y = and_then y (λ (xs : List Parameter). Ok (head ++ xs))

pub after_none : (y : Result (List Parameter) ElabFault) → y ≡ after [] y
after_none (Ok xs) = refl
after_none (Err e) = refl

pub after_start : (head : List Parameter) (y : Result (List Parameter) ElabFault) → head ≡ [] → y ≡ after head y
after_start head y h = after_none y ∙ ap (λ (z : List Parameter). after z y) (sym h)

after_one : (head : List Parameter) (x : Parameter) (y : Result (List Parameter) ElabFault)
    → after head (and_then y (λ (xs : List Parameter). Ok (x ∷ xs))) ≡ after (head ++ x ∷ []) y
after_one head x (Ok xs) = ap (λ (z : List Parameter). Ok z) (sym (append_assoc head (x ∷ []) xs))
after_one head x (Err e) = refl

pub next_parameter : (s : List Lexeme) (c : Ctx) (l : List Closure) (w v : Work) (head next : List Parameter) (x : Parameter) (t : Tree) (left ts : Trees)
    (total : Result (List Parameter) ElabFault) → v ≡ w → total ≡ after head (parameters_with s c l w left) → left ≡ more t ts
    → parameter_with s c l v t ≡ Ok x → next ≡ head ++ x ∷ [] → total ≡ after next (parameters_with s c l w ts)
next_parameter s c l w v head next x t left ts total m h g q e =
    h ∙ ap (λ (z : Trees). after head (parameters_with s c l w z)) g
    ∙ ap (after head) (then_known (parameter_with s c l w t) x
    (λ (y : Parameter). and_then (parameters_with s c l w ts) (λ (xs : List Parameter). Ok (y ∷ xs)))
    (subst (λ (z : Work). parameter_with s c l z t ≡ Ok x) m q))
    ∙ after_one head x (parameters_with s c l w ts)
    ∙ ap (λ (z : List Parameter). after z (parameters_with s c l w ts)) (sym e)

pub parameter_fault : (s : List Lexeme) (c : Ctx) (l : List Closure) (w v : Work) (head : List Parameter) (t : Tree) (left ts : Trees)
    (total : Result (List Parameter) ElabFault) (f : ElabFault) → v ≡ w → total ≡ after head (parameters_with s c l w left) → left ≡ more t ts
    → Faults f (parameter_with s c l v t) → Faults f total
parameter_fault s c l w v head t left ts total f m h g q =
    faults_same f (after head (parameters_with s c l w (more t ts))) total (h ∙ ap (λ (z : Trees). after head (parameters_with s c l w z)) g)
    (first_fault f (parameters_with s c l w (more t ts)) (λ (xs : List Parameter). Ok (head ++ xs))
    (first_fault f (parameter_with s c l w t) (λ (y : Parameter). and_then (parameters_with s c l w ts) (λ (xs : List Parameter). Ok (y ∷ xs)))
    (subst (λ (z : Work). Faults f (parameter_with s c l z t)) m q)))

pub parameters_done : (s : List Lexeme) (c : Ctx) (l : List Closure) (w : Work) (head : List Parameter) (left : Trees)
    (total : Result (List Parameter) ElabFault) → total ≡ after head (parameters_with s c l w left) → left ≡ none → total ≡ Ok head
parameters_done s c l w head left total h g = h ∙ ap (λ (z : Trees). after head (parameters_with s c l w z)) g
    ∙ ap (λ (z : List Parameter). Ok z) (append-nil head)
