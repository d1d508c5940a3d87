-- What expressions are, by the forms that the code tells apart.
use Rattle.std.proofs.Common.{◌≡◌, ◌≢◌, ℕ, true, List, [], ◌∷◌, Option, Some, None, Result, Ok, Err, refl, sym, ap, ◌∙◌}
use Rattle.elab_rows.specs.cpp_lex.Tokens.{Lexeme}
use Rattle.elab_rows.specs.cpp_types.Typ.{Typ}
use Rattle.elab_rows.specs.cpp_types.declared.classes.At.{At}
use Rattle.elab_rows.specs.cpp_ast.declared.arena.At.{At as SyntaxAt}
use Rattle.elab_rows.specs.cpp_ast.declared.arena.NodeId.{NodeId}
use Rattle.elab_rows.specs.cpp_ast.declared.kinds.NodeKind.{NodeKind}
use Rattle.elab_rows.specs.cpp_ast.declared.kinds.NodeKind.TheVariants as k
use Rattle.elab_rows.specs.cpp_ast.Trees.{Tree, node, Trees, none, more, kind_of}
use Rattle.elab_rows.specs.cpp_tree.declared.faults.ElabFault.{ElabFault}
use Rattle.elab_rows.specs.cpp_tree.declared.faults.ElabFault.TheVariants.{Ill}
use Rattle.elab_rows.specs.cpp_tree.declared.faults.IllRule.TheVariants.{OutOfProfile}
use Rattle.elab_rows.specs.cpp_tree.Trees.{typ_in}
use Rattle.elab_rows.specs.elab_ctx.Ctx.{Ctx, Work, Closure}
use Rattle.elab_rows.specs.elab_ctx.Steps.{and_then, at_of, spelling, Typed, TypedAll}
use Rattle.elab_rows.specs.elab_rules.Calls.{call}
use Rattle.elab_rows.specs.elab_rules.Casts.{cast, functional, size_literal}
use Rattle.elab_rows.specs.elab_rules.Types.{Specifiers, no_specifiers, specified_type}
use Rattle.elab_rows.specs.elab_rules.Expressions.{expression_with, operands_with, specified_with, type_id_with, chosen_operand, an_operand, a_tree}
use Rattle.elab_rows.specs.elab_rules.Expressions.{written_type}
use Rattle.elab_rows.specs.elab_rules.Expressions.{leaf_or_row, row_of, closure_object, qualified_name}
use Rattle.elab_rows.specs.elab_types.Syntax.{trees_at}
use Rattle.elab_expr.specs.Forms.{is_over_operands, is_cast}

-- the kind of a tree is that of its node
pub kind_is : (t : Tree) (kind c : NodeKind) (p : SyntaxAt) (token : Option ℕ) (kids : Trees) → t ≡ node kind p token kids → kind_of t ≡ c → kind ≡ c
kind_is t kind c p token kids n h = sym (ap kind_of n) ∙ h

-- Leaves, and forms whose kids are all operands

over_none : (s : List Lexeme) (c : Ctx) (l : List Closure) (w : Work) (kind : NodeKind) (p : SyntaxAt) (kids : Trees) → is_over_operands kind ≡ true
    → expression_with s c l w (node kind p None kids) ≡ Err (Ill (at_of p) OutOfProfile)
over_none s c l w k.ParenthesizedExpression p kids h = absurd cc
over_none s c l w k.FunctionCall p kids h = absurd cc
over_none s c l w k.FunctionalCast p kids h = absurd cc
over_none s c l w k.StaticCast p kids h = absurd cc
over_none s c l w k.CastExpression p kids h = absurd cc
over_none s c l w k.SizeofExpression p kids h = absurd cc
over_none s c l w k.SizeofType p kids h = absurd cc
over_none s c l w k.Lambda p kids h = absurd cc
over_none s c l w k.QualifiedId p kids h = absurd cc
over_none s c l w kind p kids h = refl

over_leaf : (s : List Lexeme) (c : Ctx) (l : List Closure) (w : Work) (kind : NodeKind) (p : SyntaxAt) (t : ℕ) → is_over_operands kind ≡ true
    → expression_with s c l w (node kind p (Some t) none) ≡ leaf_or_row s c w kind (at_of p) t
over_leaf s c l w k.ParenthesizedExpression p t h = absurd cc
over_leaf s c l w k.FunctionCall p t h = absurd cc
over_leaf s c l w k.FunctionalCast p t h = absurd cc
over_leaf s c l w k.StaticCast p t h = absurd cc
over_leaf s c l w k.CastExpression p t h = absurd cc
over_leaf s c l w k.SizeofExpression p t h = absurd cc
over_leaf s c l w k.SizeofType p t h = absurd cc
over_leaf s c l w k.Lambda p t h = absurd cc
over_leaf s c l w k.QualifiedId p t h = absurd cc
over_leaf s c l w kind p t h = refl

-- a row over operands
abbrev pub over_row : List Lexeme → Ctx → List Closure → Work → NodeKind → At → ℕ → Trees → Result Typed ElabFault
over_row s c l w kind at t es = and_then (operands_with s c l w es) (λ (xs : TypedAll). row_of s c xs.work kind at t xs.operands)

over_many : (s : List Lexeme) (c : Ctx) (l : List Closure) (w : Work) (kind : NodeKind) (p : SyntaxAt) (t : ℕ) (a : Tree) (rest : Trees)
    → is_over_operands kind ≡ true → expression_with s c l w (node kind p (Some t) (more a rest)) ≡ over_row s c l w kind (at_of p) t (more a rest)
over_many s c l w k.ParenthesizedExpression p t a rest h = absurd cc
over_many s c l w k.FunctionCall p t a rest h = absurd cc
over_many s c l w k.FunctionalCast p t a rest h = absurd cc
over_many s c l w k.StaticCast p t a rest h = absurd cc
over_many s c l w k.CastExpression p t a rest h = absurd cc
over_many s c l w k.SizeofExpression p t a rest h = absurd cc
over_many s c l w k.SizeofType p t a rest h = absurd cc
over_many s c l w k.Lambda p t a rest h = absurd cc
over_many s c l w k.QualifiedId p t a rest h = absurd cc
over_many s c l w kind p t a rest h = refl

pub no_token : (s : List Lexeme) (c : Ctx) (l : List Closure) (w : Work) (t : Tree) (kind : NodeKind) (p : SyntaxAt) (token : Option ℕ) (kids : Trees)
    → t ≡ node kind p token kids → is_over_operands (kind_of t) ≡ true → token ≡ None → expression_with s c l w t ≡ Err (Ill (at_of p) OutOfProfile)
no_token s c l w t kind p token kids n h e = rw (n, e) (over_none s c l w kind p kids (sym (ap (λ z. is_over_operands (kind_of z)) n) ∙ h))

pub leaf_is : (s : List Lexeme) (c : Ctx) (l : List Closure) (w : Work) (t : Tree) (kind : NodeKind) (p : SyntaxAt) (token : Option ℕ) (kids : Trees) (n : ℕ)
    → t ≡ node kind p token kids → is_over_operands (kind_of t) ≡ true → token ≡ Some n → kids ≡ none
    → expression_with s c l w t ≡ leaf_or_row s c w kind (at_of p) n
leaf_is s c l w t kind p token kids n e h g q = rw (e, g, q) (over_leaf s c l w kind p n (sym (ap (λ z. is_over_operands (kind_of z)) e) ∙ h))

many : (s : List Lexeme) (c : Ctx) (l : List Closure) (w : Work) (kind : NodeKind) (p : SyntaxAt) (n : ℕ) (trees : List Tree) (ids : List NodeId)
    → is_over_operands kind ≡ true → ids ≢ [] → expression_with s c l w (node kind p (Some n) (trees_at trees ids))
    ≡ over_row s c l w kind (at_of p) n (trees_at trees ids)
many s c l w kind p n trees [] h e = absurd (e refl)
many s c l w kind p n trees (id ∷ ids) h e = over_many s c l w kind p n _ _ h

pub many_is : (s : List Lexeme) (c : Ctx) (l : List Closure) (w : Work) (t : Tree) (kind : NodeKind) (p : SyntaxAt) (token : Option ℕ) (trees : List Tree)
    (ids : List NodeId) (n : ℕ) → t ≡ node kind p token (trees_at trees ids) → is_over_operands (kind_of t) ≡ true → token ≡ Some n → ids ≢ []
    → expression_with s c l w t ≡ over_row s c l w kind (at_of p) n (trees_at trees ids)
many_is s c l w t kind p token trees ids n e h g q = rw (e, g) (many s c l w kind p n trees ids (sym (ap (λ z. is_over_operands (kind_of z)) e) ∙ h) q)

-- Other forms

-- `(e)`
abbrev pub wrapped : At → Result Typed ElabFault → Result Typed ElabFault
wrapped at x = and_then x (λ (y : Typed). Ok (record y { operand = record { tree = y.operand.tree; at = at; zero = y.operand.zero } }))

pub wrapped_is : (s : List Lexeme) (c : Ctx) (l : List Closure) (w : Work) (t e : Tree) (kind : NodeKind) (p : SyntaxAt) (token : Option ℕ) (kids : Trees)
    → t ≡ node kind p token kids → kind_of t ≡ k.ParenthesizedExpression → kids ≡ more e none
    → expression_with s c l w t ≡ wrapped (at_of p) (expression_with s c l w e)
wrapped_is s c l w t e kind p token kids n h g = rw (n, kind_is t kind _ p token kids n h, g) refl

-- `f(e, ..)`
abbrev pub call_row_of : List Lexeme → Ctx → List Closure → Work → At → Tree → Trees → Result Typed ElabFault
call_row_of s c l w at f es = and_then (expression_with s c l w f)
    (λ (x : Typed). and_then (operands_with s c l x.work es) (λ (xs : TypedAll). an_operand at (call c xs.work at x.operand xs.operands)))

pub call_is : (s : List Lexeme) (c : Ctx) (l : List Closure) (w : Work) (t f : Tree) (es : Trees) (kind : NodeKind) (p : SyntaxAt) (token : Option ℕ)
    (kids : Trees) → t ≡ node kind p token kids → kind_of t ≡ k.FunctionCall → kids ≡ more f es → expression_with s c l w t ≡ call_row_of s c l w (at_of p) f es
call_is s c l w t f es kind p token kids n h g = rw (n, kind_is t kind _ p token kids n h, g) refl

-- `T(e, ..)`
abbrev pub values_row : List Lexeme → Ctx → List Closure → Work → At → Typ → Trees → Result Typed ElabFault
values_row s c l w at t es = and_then (operands_with s c l w es) (λ (xs : TypedAll). an_operand at (functional c xs.work at t xs.operands))

abbrev pub functional_row_of : List Lexeme → Ctx → List Closure → Work → At → Tree → Trees → Result Typed ElabFault
functional_row_of s c l w at base es = and_then (specified_with s c l w no_specifiers base)
    (λ (d : Specifiers). and_then (and_then (specified_type at d) (written_type at)) (λ (t : Typ). values_row s c l w at t es))

pub functional_is : (s : List Lexeme) (c : Ctx) (l : List Closure) (w : Work) (t base : Tree) (es : Trees) (kind : NodeKind) (p : SyntaxAt) (token : Option ℕ)
    (kids : Trees) → t ≡ node kind p token kids → kind_of t ≡ k.FunctionalCast → kids ≡ more base es
    → expression_with s c l w t ≡ functional_row_of s c l w (at_of p) base es
functional_is s c l w t base es kind p token kids n h g = rw (n, kind_is t kind _ p token kids n h, g) refl

-- `static_cast<T>(e)` and `(T)e`
abbrev pub value_row : List Lexeme → Ctx → List Closure → Work → At → Typ → Tree → Result Typed ElabFault
value_row s c l w at u e = and_then (and_then (expression_with s c l w e) (chosen_operand c)) (λ (x : Typed). an_operand at (cast c x.work at u x.operand))

abbrev pub cast_row_of : List Lexeme → Ctx → List Closure → Work → At → Tree → Tree → Result Typed ElabFault
cast_row_of s c l w at t e = and_then (and_then (type_id_with s c l w t) (written_type at)) (λ (u : Typ). value_row s c l w at u e)

cast_by : (s : List Lexeme) (c : Ctx) (l : List Closure) (w : Work) (kind : NodeKind) (p : SyntaxAt) (token : Option ℕ) (t e : Tree) → is_cast kind ≡ true
    → expression_with s c l w (node kind p token (more t (more e none))) ≡ cast_row_of s c l w (at_of p) t e
cast_by s c l w k.StaticCast p token t e h = refl
cast_by s c l w k.CastExpression p token t e h = refl
cast_by s c l w kind p token t e h = absurd cc

pub cast_is : (s : List Lexeme) (c : Ctx) (l : List Closure) (w : Work) (tree t e : Tree) (kind : NodeKind) (p : SyntaxAt) (token : Option ℕ) (kids : Trees)
    → tree ≡ node kind p token kids → is_cast (kind_of tree) ≡ true → kids ≡ more t (more e none)
    → expression_with s c l w tree ≡ cast_row_of s c l w (at_of p) t e
cast_is s c l w tree t e kind p token kids n h g = rw (n, g) (cast_by s c l w kind p token t e (sym (ap (λ z. is_cast (kind_of z)) n) ∙ h))

-- `sizeof e`
abbrev pub size_row : List Lexeme → Ctx → Work → At → Tree → Result Typed ElabFault
size_row s c w at e = and_then (and_then (expression_with s c [] w e) (chosen_operand c))
    (λ (x : Typed). a_tree at w (size_literal c at x.operand.at (typ_in x.operand.tree)))

pub size_is : (s : List Lexeme) (c : Ctx) (l : List Closure) (w : Work) (t e : Tree) (kind : NodeKind) (p : SyntaxAt) (token : Option ℕ) (kids : Trees)
    → t ≡ node kind p token kids → kind_of t ≡ k.SizeofExpression → kids ≡ more e none → expression_with s c l w t ≡ size_row s c w (at_of p) e
size_is s c l w t e kind p token kids n h g = rw (n, kind_is t kind _ p token kids n h, g) refl

-- `sizeof(T)`
abbrev pub type_row : List Lexeme → Ctx → Work → At → Tree → Result Typed ElabFault
type_row s c w at t = and_then (and_then (type_id_with s c [] w t) (written_type at)) (λ (u : Typ). a_tree at w (size_literal c at at u))

pub type_is : (s : List Lexeme) (c : Ctx) (l : List Closure) (w : Work) (t e : Tree) (kind : NodeKind) (p : SyntaxAt) (token : Option ℕ) (kids : Trees)
    → t ≡ node kind p token kids → kind_of t ≡ k.SizeofType → kids ≡ more e none → expression_with s c l w t ≡ type_row s c w (at_of p) e
type_is s c l w t e kind p token kids n h g = rw (n, kind_is t kind _ p token kids n h, g) refl

-- a lambda
pub lambda_is : (s : List Lexeme) (c : Ctx) (l : List Closure) (w : Work) (t : Tree) (kind : NodeKind) (p : SyntaxAt) (token : Option ℕ) (kids : Trees)
    → t ≡ node kind p token kids → kind_of t ≡ k.Lambda → expression_with s c l w t ≡ an_operand (at_of p) (closure_object c l w (at_of p))
lambda_is s c l w t kind p token kids n h = rw (n, kind_is t kind _ p token kids n h) refl

-- `E::N`
pub qualified_is : (s : List Lexeme) (c : Ctx) (l : List Closure) (w : Work) (t e : Tree) (kind inner : NodeKind) (p q : SyntaxAt) (token owner : Option ℕ)
    (kids others : Trees) (n m : ℕ) → t ≡ node kind p token kids → kind_of t ≡ k.QualifiedId → token ≡ Some n → kids ≡ more e none
    → e ≡ node inner q owner others → owner ≡ Some m → expression_with s c l w t
    ≡ a_tree (at_of p) w (qualified_name c w (at_of p) (spelling s m) (spelling s n))
qualified_is s c l w t e kind inner p q token owner kids others n m a h b g d f = rw (a, kind_is t kind _ p token kids a h, b, g) (rw (d, f) refl)
