-- The typed form of an expression, a type-id and a declarator: what stands in it first, from left to right, then the form itself.
use Rattle.std.specs.Prelude.{ℕ, ◌==◌, true, false, not, List, [], ◌∷◌, ◌++◌, Option, Some, None, Result, Ok, Err}
use Rattle.std.specs.Prelude.{if◌then◌else◌, codes}
use Rattle.std.specs.Str.{bytes_eq}
use Rattle.elab_ctx.specs.tx_ints.declared.kinds.IntKind.{IntKind}
use Rattle.elab_ctx.specs.tx_ints.declared.kinds.IntKind.TheVariants.{Char, Bool as BoolKind}
use Rattle.elab_ctx.specs.tx_ints.declared.kinds.BinOp.{BinOp}
use Rattle.elab_ctx.specs.tx_ints.declared.kinds.BinOp.TheVariants.{Add, Sub}
use Rattle.elab_ctx.specs.cpp_types.Typ.{Typ, typ, void, int, enum, null, ref, array, class, closure, tx_ex}
use Rattle.elab_ctx.specs.cpp_types.declared.classes.At.{At}
use Rattle.elab_ctx.specs.cpp_types.declared.ranks.Cat.TheVariants.{Lvalue, Prvalue}
use Rattle.elab_ctx.specs.cpp_lex.Tokens.{Lexeme}
use Rattle.elab_ctx.specs.cpp_lex.Ints.{int_type_of}
use Rattle.elab_ctx.specs.cpp_ast.declared.kinds.NodeKind.{NodeKind}
use Rattle.elab_ctx.specs.cpp_ast.declared.kinds.NodeKind.TheVariants as k
use Rattle.elab_ctx.specs.cpp_ast.Trees as syntax
use Rattle.elab_ctx.specs.cpp_names.Names.{found_in}
use Rattle.elab_ctx.specs.cpp_names.declared.entity.Entity.{Entity}
use Rattle.elab_ctx.specs.cpp_tree.declared.kinds.TKind.TheVariants.{Literal, Builtin as BuiltinNode, Pieces, Piece, CopyFrom}
use Rattle.elab_ctx.specs.cpp_tree.declared.kinds.Builtin.TheVariants.{Abort}
use Rattle.elab_ctx.specs.cpp_tree.declared.faults.ElabFault.{ElabFault}
use Rattle.elab_ctx.specs.cpp_tree.declared.faults.ElabFault.TheVariants.{Ill}
use Rattle.elab_ctx.specs.cpp_tree.declared.faults.IllRule.TheVariants.{UnknownName, BadOperand, NotConstant, NotTriviallyCopyable, NoMember}
use Rattle.elab_ctx.specs.cpp_tree.declared.faults.IllRule.TheVariants.{OutOfProfile}
use Rattle.elab_ctx.specs.cpp_tree.Trees.{Tree, node, none, more, typ_in, two}
use Rattle.elab_ctx.specs.cpp_tree.Notation.{plain}
use Rattle.elab_ctx.specs.cpp_tree.Typing.{form_in}
use Rattle.elab_ctx.specs.Ctx.{Ctx, Work, Capture, Closure}
use Rattle.elab_ctx.specs.Steps.{and_then, expect, check, Operand, Made, MadeAll, Typed, TypedAll, at_of, spelling, value_at, token_place}
use Rattle.elab_rules.specs.Values.{same_at, valued, stored}
use Rattle.elab_rules.specs.Objects.{Part, parts_of, destroys}
use Rattle.elab_rules.specs.Initialising.{class_from, closure_part}
use Rattle.elab_rules.specs.Constants.{word_in, constant}
use Rattle.elab_rules.specs.Operators.{value, arithmetic, binary_operator, compound_operator, binary, logical, negation, minus, complement, plus, indirection}
use Rattle.elab_rules.specs.Operators.{address_of, subscript, assignment, compound, step, comma, conditional, same_work}
use Rattle.elab_rules.specs.Names.{named, this_tree, resolved, member_access, variable_in, of_entity}
use Rattle.elab_rules.specs.Calls.{call}
use Rattle.elab_rules.specs.Casts.{cast, functional, size_literal, throw, string_made}
use Rattle.elab_rules.specs.Strings.{string_bytes}
use Rattle.elab_rules.specs.Types.{Specifiers, no_specifiers, has_auto, type_named, specified_type, may_be_thrown, Parameter, Declared, declared_name}
use Rattle.elab_rules.specs.Types.{pointer_to, reference_to, array_of, open_array, parameter_type, function_of, is_name, qualifiers_of, is_declared_safe}
use Rattle.elab_rules.specs.Types.{with_function, with_qualifiers, owner_token}

-- Answers

abbrev pub operand_at : At → Made → Typed
operand_at at m = record { operand = record { tree = m.tree; at = at; zero = false }; work = m.work }

abbrev pub an_operand : At → Result Made ElabFault → Result Typed ElabFault
an_operand at r = and_then r (λ (m : Made). Ok (operand_at at m))

abbrev pub a_tree : At → Work → Result Tree ElabFault → Result Typed ElabFault
a_tree at w r = and_then r (λ (t : Tree). Ok (operand_at at (record { tree = t; work = w })))

-- an operand whose functions, if it names any, are one function
abbrev pub chosen_operand : Ctx → Typed → Result Typed ElabFault
chosen_operand c x = and_then (resolved c x.operand.tree)
    (λ (t : Tree). Ok (record x { operand = record { tree = t; at = x.operand.at; zero = x.operand.zero } }))

-- Literals and names

abbrev pub integer_literal : At → List ℕ → ℕ → Work → Result Typed ElabFault
integer_literal at bytes n w = and_then (expect at OutOfProfile (int_type_of bytes n))
    (λ (kind : IntKind). Ok (record { operand = record { tree = node (Literal n) (plain (int kind)) Prvalue at none; at = at; zero = n == 0 }; work = w }))

abbrev pub literal_of : At → IntKind → ℕ → Work → Result Typed ElabFault
literal_of at kind n w = Ok (operand_at at (record { tree = node (Literal (word_in kind n)) (plain (int kind)) Prvalue at none; work = w }))

abbrev pub truth_word : List ℕ → ℕ
truth_word name = if bytes_eq name (codes "true") then 1 else 0

abbrev pub leaf_of : List Lexeme → Ctx → Work → NodeKind → At → ℕ → Result Typed ElabFault
leaf_of s c w k.IntegerLiteral at t = integer_literal at (spelling s t) (value_at s t) w
leaf_of s c w k.CharacterLiteral at t = literal_of at Char (value_at s t) w
leaf_of s c w k.BooleanLiteral at t = literal_of at BoolKind (truth_word (spelling s t)) w
leaf_of s c w k.PointerLiteral at t = Ok (operand_at at (record { tree = node (Literal 0) (plain null) Prvalue at none; work = w }))
leaf_of s c w k.StringLiteral at t = Ok (operand_at at (string_made w at (string_bytes (spelling s t))))
leaf_of s c w k.This at t = a_tree at w (this_tree c at)
leaf_of s c w k.UnqualifiedId at t = a_tree at w (named c w at (spelling s t))
leaf_of s c w k.StdAbort at t = Ok (operand_at at (record { tree = node (BuiltinNode Abort) (plain void) Lvalue at none; work = w }))
leaf_of s c w kind at t = Err (Ill at OutOfProfile)

-- Forms over operands

abbrev pub operator_of : Ctx → Work → At → List ℕ → Operand → Operand → Result Tree ElabFault
operator_of c w at name a b = if bytes_eq name (codes "&&") then logical c w true at a b else (if bytes_eq name (codes "||") then logical c w false at a b
    else and_then (expect at OutOfProfile (binary_operator name)) (λ (op : BinOp). binary c op at a b))

abbrev pub unary_of : Ctx → Work → At → List ℕ → Operand → Result Tree ElabFault
unary_of c w at name a = if bytes_eq name (codes "++") then step c Add false at a else (if bytes_eq name (codes "--") then step c Sub false at a else (
    if bytes_eq name (codes "+") then plus at a else (if bytes_eq name (codes "-") then minus at a else
    (if bytes_eq name (codes "!") then negation c w at a else (
    if bytes_eq name (codes "~") then complement at a else (if bytes_eq name (codes "*") then indirection at a else address_of at a))))))

abbrev pub assignment_of : Ctx → Work → At → List ℕ → Operand → Operand → Result Made ElabFault
assignment_of c w at name a b = if bytes_eq name (codes "=") then assignment c w at a b else same_work w
    (and_then (expect at OutOfProfile (compound_operator name)) (λ (op : BinOp). compound c op at a b))

abbrev pub postfix_operator : List ℕ → BinOp
postfix_operator name = if bytes_eq name (codes "++") then Add else Sub

-- `p->name` is `(*p).name`
abbrev pub pointed_operand : At → Operand → Result Operand ElabFault
pointed_operand at o = and_then (indirection at o) (λ (t : Tree). Ok (record { tree = t; at = at; zero = false }))

-- a form of a kind, at a place, with a token, from its operands
abbrev pub row_of : List Lexeme → Ctx → Work → NodeKind → At → ℕ → List Operand → Result Typed ElabFault
row_of s c w k.Subscript at t (a ∷ b ∷ []) = a_tree at w (subscript c at a b)
row_of s c w k.PostfixIncrement at t (a ∷ []) = a_tree at w (step c (postfix_operator (spelling s t)) true at a)
row_of s c w k.UnaryExpression at t (a ∷ []) = a_tree at w (unary_of c w at (spelling s t) a)
row_of s c w k.BinaryExpression at t (a ∷ b ∷ []) = a_tree at w (operator_of c w at (spelling s t) a b)
row_of s c w k.ConditionalExpression at t (a ∷ b ∷ d ∷ []) = an_operand at (conditional c w at a b d)
row_of s c w k.AssignmentExpression at t (a ∷ b ∷ []) = an_operand at (assignment_of c w at (spelling s t) a b)
row_of s c w k.CommaExpression at t (a ∷ b ∷ []) = Ok (operand_at at (comma c w at a b))
row_of s c w k.ThrowExpression at t os = an_operand at (throw c w at os)
row_of s c w k.MemberAccess at t (a ∷ []) = an_operand at (member_access c w at (token_place s at.source t) (spelling s t) a)
row_of s c w k.PointerMemberAccess at t (a ∷ []) = and_then (pointed_operand at a)
    (λ (o : Operand). an_operand at (member_access c w at (token_place s at.source t) (spelling s t) o))
row_of s c w kind at t os = Err (Ill at OutOfProfile)

-- Enumerators by the name of their enum

-- `E::N` (C++14 5.1.1 p11): the scope of a file has each enumerator also by this name
abbrev pub scope_name : List ℕ → List ℕ → List ℕ
scope_name e name = e ++ (codes "::" ++ name)

abbrev pub enumerator_named : Ctx → Work → At → Option Entity → Result Tree ElabFault
enumerator_named c w at (Some e) = of_entity c w at e.kind e.id
enumerator_named c w at None = Err (Ill at NoMember)

abbrev pub name_in : Ctx → Work → At → List ℕ → Typ → Result Tree ElabFault
name_in c w at name (typ (enum e scoped) d v) = enumerator_named c w at (found_in c.scopes (scope_name e name))
name_in c w at name t = Err (Ill at OutOfProfile)

abbrev pub qualified_name : Ctx → Work → At → List ℕ → List ℕ → Result Tree ElabFault
qualified_name c w at owner name = and_then (expect at UnknownName (type_named owner c.types)) (λ (t : Typ). name_in c w at name t)

-- a form without operands
abbrev pub leaf_or_row : List Lexeme → Ctx → Work → NodeKind → At → ℕ → Result Typed ElabFault
leaf_or_row s c w k.ThrowExpression at t = row_of s c w k.ThrowExpression at t []
leaf_or_row s c w kind at t = leaf_of s c w kind at t

-- Lambdas: each was made before the full-expression, and is found by its place

abbrev pub closure_at : At → List Closure → Option Closure
closure_at at [] = None
closure_at at (x ∷ xs) = if same_at at x.at then Some x else closure_at at xs

abbrev pub captured_value : Ctx → Work → Capture → Typ → Operand → Result Made ElabFault
captured_value c w x (typ (ref u) d v) o = Ok (record { tree = stored x.at (typ (ref u) d v) o.tree; work = w })
captured_value c w x (typ (class n) d v) o = class_from c w (typ (class n) d v) x.at o
captured_value c w x (typ (closure n) d v) o = class_from c w (typ (closure n) d v) x.at o
captured_value c w x (typ (array e n) d v) o = Ok (record {
  tree = node CopyFrom (typ (array e n) d v) Prvalue x.at
      (two o.tree (closure_part c x.at (record { offset = 0; typ = typ (array e n) d v })));
  work = w;
})
captured_value c w x (typ (tx_ex e) d v) o = class_from c w (typ (tx_ex e) d v) x.at o
captured_value c w x t o = Ok (record { tree = stored x.at t (valued x.at o.tree); work = w })

abbrev pub capture_source : Ctx → Work → Capture → Option ℕ → Result Tree ElabFault
capture_source c w x (Some i) = variable_in c w x.at i None
capture_source c w x None = this_tree c x.at

abbrev pub captured : Ctx → Work → Capture → Result Made ElabFault
captured c w x = and_then (capture_source c w x x.variable) (λ (e : Tree). captured_value c w x x.typ (record { tree = e; at = x.at; zero = false }))

abbrev pub captured_pieces : Ctx → Work → List Part → List Capture → Result MadeAll ElabFault
captured_pieces c w (p ∷ ps) (x ∷ xs) = and_then (captured c w x) (λ (m : Made). and_then (captured_pieces c m.work ps xs) (λ (r : MadeAll).
    Ok (record { trees = more (node (Piece p.offset) p.typ Prvalue x.at (more m.tree (destroys c x.at p.typ))) r.trees; work = r.work })))
captured_pieces c w ps xs = Ok (record { trees = none; work = w })

abbrev pub closure_object : Ctx → List Closure → Work → At → Result Made ElabFault
closure_object c l w at = and_then (expect at OutOfProfile (closure_at at l))
    (λ (x : Closure). and_then (captured_pieces c w (parts_of c.classes x.class) x.captures) (λ (m : MadeAll).
    Ok (record { tree = node Pieces (plain (closure x.class)) Prvalue at m.trees; work = m.work })))

-- Array bounds

abbrev pub bound_kind : At → Option IntKind → Result IntKind ElabFault
bound_kind at x = expect at BadOperand x

abbrev pub bounded : Ctx → Work → At → Typ → Operand → Result Typ ElabFault
bounded c w at t o = and_then (bound_kind o.at (arithmetic (form_in (typ_in (value o)))))
    (λ (kind : IntKind). and_then (expect o.at NotConstant (constant w.globals (value o))) (λ n. array_of c at o.at t kind n))

-- Everything that holds expressions. The lambdas that may stand in a form are given beside the context: there are none in an operand that is not evaluated
-- (C++14 5.1.2 p2).

-- a type that an expression names; `auto` stands for none there (7.1.6.4 p5)
abbrev pub written_type : At → Typ → Result Typ ElabFault
written_type at t = and_then (check at OutOfProfile (not (has_auto t))) (λ y. Ok t)

abbrev mutual
  pub expression_with : List Lexeme → Ctx → List Closure → Work → syntax.Tree → Result Typed ElabFault
  expression_with s c l w (syntax.node k.ParenthesizedExpression p token (syntax.more e syntax.none)) =
      and_then (expression_with s c l w e) (λ (x : Typed). Ok (record x { operand = record { tree = x.operand.tree; at = at_of p; zero = x.operand.zero } }))
  expression_with s c l w (syntax.node k.FunctionCall p token (syntax.more f es)) =
      and_then (expression_with s c l w f) (λ (x : Typed). and_then (operands_with s c l x.work es)
      (λ (xs : TypedAll). an_operand (at_of p) (call c xs.work (at_of p) x.operand xs.operands)))
  expression_with s c l w (syntax.node k.FunctionalCast p token (syntax.more base es)) =
      and_then (specified_with s c l w no_specifiers base)
      (λ (d : Specifiers). and_then (and_then (specified_type (at_of p) d) (written_type (at_of p)))
      (λ (t : Typ). and_then (operands_with s c l w es) (λ (xs : TypedAll). an_operand (at_of p) (functional c xs.work (at_of p) t xs.operands))))
  expression_with s c l w (syntax.node k.StaticCast p token (syntax.more t (syntax.more e syntax.none))) =
      and_then (and_then (type_id_with s c l w t) (written_type (at_of p))) (λ (u : Typ). and_then (and_then (expression_with s c l w e) (chosen_operand c))
      (λ (x : Typed). an_operand (at_of p) (cast c x.work (at_of p) u x.operand)))
  expression_with s c l w (syntax.node k.CastExpression p token (syntax.more t (syntax.more e syntax.none))) =
      and_then (and_then (type_id_with s c l w t) (written_type (at_of p))) (λ (u : Typ). and_then (and_then (expression_with s c l w e) (chosen_operand c))
      (λ (x : Typed). an_operand (at_of p) (cast c x.work (at_of p) u x.operand)))
  expression_with s c l w (syntax.node k.SizeofExpression p token (syntax.more e syntax.none)) =
      and_then (and_then (expression_with s c [] w e) (chosen_operand c))
      (λ (x : Typed). a_tree (at_of p) w (size_literal c (at_of p) x.operand.at (typ_in x.operand.tree)))
  expression_with s c l w (syntax.node k.SizeofType p token (syntax.more t syntax.none)) =
      and_then (and_then (type_id_with s c [] w t) (written_type (at_of p))) (λ (u : Typ). a_tree (at_of p) w (size_literal c (at_of p) (at_of p) u))
  expression_with s c l w (syntax.node k.Lambda p token kids) = an_operand (at_of p) (closure_object c l w (at_of p))
  expression_with s c l w (syntax.node k.QualifiedId p (Some n) (syntax.more (syntax.node kind q (Some t) kids) syntax.none)) =
      a_tree (at_of p) w (qualified_name c w (at_of p) (spelling s t) (spelling s n))
  expression_with s c l w (syntax.node kind p (Some t) syntax.none) = leaf_or_row s c w kind (at_of p) t
  expression_with s c l w (syntax.node kind p (Some t) kids) =
      and_then (operands_with s c l w kids) (λ (xs : TypedAll). row_of s c xs.work kind (at_of p) t xs.operands)
  expression_with s c l w (syntax.node kind p None kids) = Err (Ill (at_of p) OutOfProfile)

  pub operands_with : List Lexeme → Ctx → List Closure → Work → syntax.Trees → Result TypedAll ElabFault
  operands_with s c l w syntax.none = Ok (record { operands = []; work = w })
  operands_with s c l w (syntax.more t ts) = and_then (and_then (expression_with s c l w t) (chosen_operand c))
      (λ (x : Typed). and_then (operands_with s c l x.work ts) (λ (xs : TypedAll). Ok (record { operands = x.operand ∷ xs.operands; work = xs.work })))

  -- one specifier of a type
  pub specified_with : List Lexeme → Ctx → List Closure → Work → Specifiers → syntax.Tree → Result Specifiers ElabFault
  specified_with s c l w d (syntax.node k.CvQualifier p (Some t) kids) =
      Ok (if bytes_eq (spelling s t) (codes "const") then record d { is_const = true } else record d { is_volatile = true })
  specified_with s c l w d (syntax.node k.SimpleTypeSpecifier p (Some t) kids) = Ok (record d { words = d.words ++ spelling s t ∷ [] })
  specified_with s c l w d (syntax.node k.TypeName p (Some t) kids) =
      and_then (expect (at_of p) UnknownName (type_named (spelling s t) c.types)) (λ (u : Typ). Ok (record d { named = Some u }))
  specified_with s c l w d (syntax.node k.TxException p token (syntax.more t syntax.none)) =
      and_then (type_id_with s c l w t) (λ (u : Typ). and_then (check (at_of p) NotTriviallyCopyable (may_be_thrown c u))
      (λ y. Ok (record d { named = Some (plain (tx_ex u)) })))
  specified_with s c l w d (syntax.node kind p token kids) = Err (Ill (at_of p) OutOfProfile)

  pub all_specified_with : List Lexeme → Ctx → List Closure → Work → Specifiers → syntax.Trees → Result Specifiers ElabFault
  all_specified_with s c l w d syntax.none = Ok d
  all_specified_with s c l w d (syntax.more t ts) = and_then (specified_with s c l w d t) (λ (x : Specifiers). all_specified_with s c l w x ts)

  -- the type that a list of specifiers gives
  pub specifiers_with : List Lexeme → Ctx → List Closure → Work → syntax.Tree → Result Typ ElabFault
  specifiers_with s c l w (syntax.node kind p token kids) =
      and_then (all_specified_with s c l w no_specifiers kids) (λ (d : Specifiers). specified_type (at_of p) d)

  pub type_id_with : List Lexeme → Ctx → List Closure → Work → syntax.Tree → Result Typ ElabFault
  type_id_with s c l w (syntax.node kind p token (syntax.more base (syntax.more d syntax.none))) =
      and_then (specifiers_with s c l w base) (λ (t : Typ). and_then (declared_with s c l w (at_of p) t d) (λ (r : Declared). Ok r.typ))
  type_id_with s c l w (syntax.node kind p token kids) = Err (Ill (at_of p) OutOfProfile)

  -- what a declarator declares of a type; the place is that of the declared name
  pub declared_with : List Lexeme → Ctx → List Closure → Work → At → Typ → syntax.Tree → Result Declared ElabFault
  declared_with s c l w at t (syntax.node k.DeclaratorId p token kids) = Ok (declared_name token None false t)
  declared_with s c l w at t (syntax.node k.DestructorId p token kids) = Ok (declared_name token None true t)
  declared_with s c l w at t (syntax.node k.QualifiedDeclaratorId p token kids) = Ok (declared_name token (owner_token kids) false t)
  declared_with s c l w at t (syntax.node k.QualifiedDestructorId p token kids) = Ok (declared_name token (owner_token kids) true t)
  declared_with s c l w at t (syntax.node k.OmittedId p token kids) = Ok (declared_name None None false t)
  declared_with s c l w at t (syntax.node k.ParenthesizedDeclarator p token (syntax.more d syntax.none)) = declared_with s c l w at t d
  declared_with s c l w at t (syntax.node k.PointerDeclarator p token kids) = and_then (pointer_to at t) (λ (u : Typ). pointed_with s c l w at u kids)
  declared_with s c l w at t (syntax.node k.ReferenceDeclarator p token (syntax.more d syntax.none)) =
      and_then (reference_to at t) (λ (u : Typ). declared_with s c l w at u d)
  declared_with s c l w at t (syntax.node k.ArrayDeclarator p token (syntax.more d syntax.none)) =
      and_then (open_array at t) (λ (u : Typ). declared_with s c l w at u d)
  declared_with s c l w at t (syntax.node k.ArrayDeclarator p token (syntax.more d (syntax.more e syntax.none))) =
      and_then (and_then (expression_with s c l w e) (chosen_operand c))
      (λ (x : Typed). and_then (bounded c w at t x.operand) (λ (u : Typ). declared_with s c l w at u d))
  declared_with s c l w at t (syntax.node k.FunctionDeclarator p token (syntax.more d (syntax.more ps (syntax.more q syntax.none)))) =
      and_then (parameters_in_with s c l w ps) (λ (xs : List Parameter). and_then (function_of c at t xs (is_declared_safe (qualifiers_of s q))) (λ (u : Typ).
      and_then (declared_with s c l w at u d) (λ (r : Declared). with_function at (is_name d) xs (qualifiers_of s q) r)))
  declared_with s c l w at t (syntax.node kind p token kids) = Err (Ill at OutOfProfile)

  -- behind a star: the qualifiers of the pointer, then what is declared of it
  pub pointed_with : List Lexeme → Ctx → List Closure → Work → At → Typ → syntax.Trees → Result Declared ElabFault
  pointed_with s c l w at t (syntax.more (syntax.node k.CvQualifier p (Some n) kids) ts) =
      pointed_with s c l w at (if bytes_eq (spelling s n) (codes "const") then with_qualifiers true false t else with_qualifiers false true t) ts
  pointed_with s c l w at t (syntax.more d syntax.none) = declared_with s c l w at t d
  pointed_with s c l w at t ts = Err (Ill at OutOfProfile)

  pub parameters_in_with : List Lexeme → Ctx → List Closure → Work → syntax.Tree → Result (List Parameter) ElabFault
  parameters_in_with s c l w (syntax.node kind p token kids) = parameters_with s c l w kids

  pub parameters_with : List Lexeme → Ctx → List Closure → Work → syntax.Trees → Result (List Parameter) ElabFault
  parameters_with s c l w syntax.none = Ok []
  parameters_with s c l w (syntax.more t ts) = and_then (parameter_with s c l w t)
      (λ (x : Parameter). and_then (parameters_with s c l w ts) (λ (xs : List Parameter). Ok (x ∷ xs)))

  pub parameter_with : List Lexeme → Ctx → List Closure → Work → syntax.Tree → Result Parameter ElabFault
  parameter_with s c l w (syntax.node kind p token (syntax.more base (syntax.more d syntax.none))) =
      and_then (specifiers_with s c l w base) (λ (t : Typ). and_then (declared_with s c l w (at_of p) t d)
      (λ (r : Declared). and_then (parameter_type c (at_of p) r.typ) (λ (u : Typ).
      Ok (record { name = r.name; at = at_of p; typ = u }))))
  parameter_with s c l w (syntax.node kind p token kids) = Err (Ill (at_of p) OutOfProfile)

-- The same with the lambdas of the full-expression at hand

abbrev pub expression_of : List Lexeme → Ctx → Work → syntax.Tree → Result Typed ElabFault
expression_of s c w t = expression_with s c c.closures w t

abbrev pub operands_of : List Lexeme → Ctx → Work → syntax.Trees → Result TypedAll ElabFault
operands_of s c w ts = operands_with s c c.closures w ts

abbrev pub type_of_specifiers : List Lexeme → Ctx → Work → syntax.Tree → Result Typ ElabFault
type_of_specifiers s c w t = specifiers_with s c c.closures w t

abbrev pub type_id_of : List Lexeme → Ctx → Work → syntax.Tree → Result Typ ElabFault
type_id_of s c w t = type_id_with s c c.closures w t

abbrev pub declared_by : List Lexeme → Ctx → Work → At → Typ → syntax.Tree → Result Declared ElabFault
declared_by s c w at t d = declared_with s c c.closures w at t d

abbrev pub parameters_in : List Lexeme → Ctx → Work → syntax.Tree → Result (List Parameter) ElabFault
parameters_in s c w t = parameters_in_with s c c.closures w t

abbrev pub parameter_of : List Lexeme → Ctx → Work → syntax.Tree → Result Parameter ElabFault
parameter_of s c w t = parameter_with s c c.closures w t
