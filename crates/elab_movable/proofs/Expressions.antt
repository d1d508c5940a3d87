-- Each form of an expression owns what was added for it.
use Rattle.std.proofs.Common.{refl, ℕ, ◌+◌, ◌≤◌, true, false, not, ◌&&◌, List, [], ◌∷◌, Option, Some, None, Result, Ok, Err, arith, codes}
use Rattle.std.specs.Str.{bytes_eq}
use Rattle.elab_rules.specs.tx_ints.declared.kinds.IntKind.{IntKind}
use Rattle.elab_rules.specs.tx_ints.declared.kinds.BinOp.{BinOp}
use Rattle.elab_rules.specs.tx_ints.declared.kinds.BinOp.TheVariants.{Add, Sub}
use Rattle.elab_rules.specs.cpp_lex.Tokens.{Lexeme}
use Rattle.elab_rules.specs.cpp_lex.Ints.{int_type_of}
use Rattle.elab_rules.specs.cpp_types.Typ.{Typ, typ, ref, array, class, closure, tx_ex, enum}
use Rattle.elab_rules.specs.cpp_types.declared.classes.At.{At}
use Rattle.elab_rules.specs.cpp_names.Names.{found_in}
use Rattle.elab_rules.specs.cpp_names.declared.entity.Entity.{Entity}
use Rattle.elab_rules.specs.cpp_ast.declared.kinds.NodeKind.{NodeKind}
use Rattle.elab_rules.specs.cpp_ast.declared.kinds.NodeKind.TheVariants as k
use Rattle.elab_rules.specs.cpp_ast.Trees as syntax
use Rattle.elab_rules.specs.cpp_tree.declared.faults.ElabFault.{ElabFault}
use Rattle.elab_rules.specs.cpp_tree.declared.faults.IllRule.TheVariants.{OutOfProfile, UnknownName, BadOperand, Incomplete}
use Rattle.elab_rules.specs.cpp_tree.Trees.{Tree, typ_in}
use Rattle.elab_rules.specs.elab_ctx.Ctx.{Ctx, Work, Capture, Closure}
use Rattle.elab_rules.specs.elab_ctx.Steps.{and_then, expect, check, at_of, spelling, value_at, token_place, Operand, Made, Typed, TypedAll}
use Rattle.elab_rules.specs.Objects.{Part, parts_of}
use Rattle.elab_rules.specs.Types.{no_specifiers, specified_type, type_named, is_bounded}
use Rattle.elab_rules.specs.cpp_types.Conversion.{referred}
use Rattle.elab_rules.specs.cpp_tree.Typing.{is_void}
use Rattle.elab_rules.specs.Operators
use Rattle.elab_rules.specs.Names
use Rattle.elab_rules.specs.Calls
use Rattle.elab_rules.specs.Casts
use Rattle.elab_rules.specs.Values
use Rattle.elab_rules.specs.Expressions
use Rattle.elab_fits.specs.Standing.{On}
use Rattle.elab_fits.proofs.Steps.{bind, skip, either_way as either}
use Rattle.elab_movable.specs.Movable.{Sought, held, OnlyThis}
use Rattle.elab_movable.proofs.Counting.{operands_held, used, Gives, GiveAll, HoldsAtMost, same}
use Rattle.elab_movable.proofs.Parts as parts
use Rattle.elab_movable.proofs.Values as values
use Rattle.elab_movable.proofs.Initials as initials
use Rattle.elab_movable.proofs.Operators as operators
use Rattle.elab_movable.proofs.Choices as choices
use Rattle.elab_movable.proofs.Names as names
use Rattle.elab_movable.proofs.Calls as calls

module _ (g : Sought) where
  abbrev pub GivesTyped : ℕ → Work → Typed → Type 0
  GivesTyped b w x = held g x.operand.tree + used g w ≤ b + used g x.work

  abbrev pub GivesOperands : ℕ → Work → TypedAll → Type 0
  GivesOperands b w xs = operands_held g xs.operands + used g w ≤ b + used g xs.work

  -- Answers

  an_operand : (b d : ℕ) (at : At) (w x : Work) (r : Result Made ElabFault) → b + used g w ≤ d + used g x → On (Gives g b x) r
      → On (GivesTyped d w) (Expressions.an_operand at r)
  an_operand b d at w x (Ok m) h i = omega arith
  an_operand b d at w x (Err e) h i = tt

  a_tree : (b d : ℕ) (at : At) (w : Work) (r : Result Tree ElabFault) → b ≤ d → On (HoldsAtMost g b) r → On (GivesTyped d w) (Expressions.a_tree at w r)
  a_tree b d at w (Ok e) h i = omega arith
  a_tree b d at w (Err e) h i = tt

  a_bare : (at : At) (w : Work) (r : Result Tree ElabFault) → On (names.Bare g) r → On (GivesTyped 0 w) (Expressions.a_tree at w r)
  a_bare at w (Ok e) h = omega arith
  a_bare at w (Err e) h = tt

  typed_later : (b d : ℕ) (w x : Work) (r : Result Typed ElabFault) → b + used g w ≤ d + used g x → On (GivesTyped b x) r → On (GivesTyped d w) r
  typed_later b d w x (Ok m) h i = omega arith
  typed_later b d w x (Err e) h i = tt

  chosen_tree : (b : ℕ) (c : Ctx) (w : Work) (x : Typed) → GivesTyped b w x → On (GivesTyped b w) (Expressions.chosen_operand c x)
  chosen_tree b c w x h = bind (HoldsAtMost g (held g x.operand.tree)) (GivesTyped b w) (Names.resolved c x.operand.tree) _ (names.resolved g c x.operand.tree)
      (λ t i. omega arith)

  pub chosen : (b : ℕ) (c : Ctx) (w : Work) (r : Result Typed ElabFault) → On (GivesTyped b w) r
      → On (GivesTyped b w) (and_then r (Expressions.chosen_operand c))
  chosen b c w r h = bind (GivesTyped b w) (GivesTyped b w) r (Expressions.chosen_operand c) h (λ x i. chosen_tree b c w x i)

  -- Leaves

  integer_literal : (at : At) (bytes : List ℕ) (n : ℕ) (w : Work) → On (GivesTyped 0 w) (Expressions.integer_literal at bytes n w)
  integer_literal at bytes n w = skip (GivesTyped 0 w) (expect at OutOfProfile (int_type_of bytes n)) _ (λ (kind : IntKind). omega arith)

  leaf_of : (s : List Lexeme) (c : Ctx) (w : Work) (kind : NodeKind) (at : At) (t : ℕ) → OnlyThis g c
      → On (GivesTyped 0 w) (Expressions.leaf_of s c w kind at t)
  leaf_of s c w k.IntegerLiteral at t z = integer_literal at (spelling s t) (value_at s t) w
  leaf_of s c w k.CharacterLiteral at t z = omega arith
  leaf_of s c w k.BooleanLiteral at t z = omega arith
  leaf_of s c w k.PointerLiteral at t z = omega arith
  leaf_of s c w k.StringLiteral at t z = omega arith
  leaf_of s c w k.This at t z = a_bare at w (Names.this_tree c at) (names.this_tree g c at z)
  leaf_of s c w k.UnqualifiedId at t z = a_bare at w (Names.named c w at (spelling s t)) (names.named g c w at (spelling s t) z)
  leaf_of s c w k.StdAbort at t z = omega arith
  leaf_of s c w kind at t z = tt

  -- Forms over operands

  operator_of : (c : Ctx) (w : Work) (at : At) (name : List ℕ) (a b : Operand) → On (operators.Both g a b) (Expressions.operator_of c w at name a b)
  operator_of c w at name a b = either (operators.Both g a b) (bytes_eq name (codes "&&")) _ _ (operators.logical g c w true at a b)
      (either (operators.Both g a b) (bytes_eq name (codes "||")) _ _ (operators.logical g c w false at a b)
      (skip (operators.Both g a b) (expect at OutOfProfile (Operators.binary_operator name)) _ (λ (op : BinOp). operators.binary g c op at a b)))

  unary_of : (c : Ctx) (w : Work) (at : At) (name : List ℕ) (a : Operand) → On (HoldsAtMost g (held g a.tree)) (Expressions.unary_of c w at name a)
  unary_of c w at name a = either P (bytes_eq name (codes "++")) _ _ (operators.step g c Add false at a)
      (either P (bytes_eq name (codes "--")) _ _ (operators.step g c Sub false at a)
      (either P (bytes_eq name (codes "+")) _ _ (operators.plus g at a)
      (either P (bytes_eq name (codes "-")) _ _ (operators.minus g at a)
      (either P (bytes_eq name (codes "!")) _ _ (operators.negation g c w at a)
      (either P (bytes_eq name (codes "~")) _ _ (operators.complement g at a)
      (either P (bytes_eq name (codes "*")) _ _ (operators.indirection g at a) (operators.address g at a)))))))
    where
      P : Tree → Type 0
      P = HoldsAtMost g (held g a.tree)

  assignment_of : (c : Ctx) (w : Work) (at : At) (name : List ℕ) (a b : Operand)
      → On (operators.GivesBoth g w a b) (Expressions.assignment_of c w at name a b)
  assignment_of c w at name a b = either (operators.GivesBoth g w a b) (bytes_eq name (codes "=")) _ _ (operators.assignment g c w at a b)
      (choices.same_work g (held g a.tree + held g b.tree) w
      (and_then (expect at OutOfProfile (Operators.compound_operator name)) (λ (op : BinOp). Operators.compound c op at a b))
      (skip (operators.Both g a b) (expect at OutOfProfile (Operators.compound_operator name)) _ (λ (op : BinOp). operators.compound g c op at a b)))

  pointed_operand : (at : At) (a : Operand) → On (λ (o : Operand). held g o.tree ≤ held g a.tree) (Expressions.pointed_operand at a)
  pointed_operand at a = bind (HoldsAtMost g (held g a.tree)) (λ (o : Operand). held g o.tree ≤ held g a.tree) (Operators.indirection at a) _
      (operators.indirection g at a) (λ t h. h)

  row_of : (s : List Lexeme) (c : Ctx) (w : Work) (kind : NodeKind) (at : At) (t : ℕ) (os : List Operand)
      → On (GivesTyped (operands_held g os) w) (Expressions.row_of s c w kind at t os)
  row_of s c w k.Subscript at t (a ∷ b ∷ []) = a_tree (held g a.tree + held g b.tree) (operands_held g (a ∷ b ∷ [])) at w (Operators.subscript c at a b)
      (omega arith) (operators.subscript g c at a b)
  row_of s c w k.PostfixIncrement at t (a ∷ []) = a_tree (held g a.tree) (operands_held g (a ∷ [])) at w
      (Operators.step c (Expressions.postfix_operator (spelling s t)) true at a) (omega arith)
      (operators.step g c (Expressions.postfix_operator (spelling s t)) true at a)
  row_of s c w k.UnaryExpression at t (a ∷ []) = a_tree (held g a.tree) (operands_held g (a ∷ [])) at w (Expressions.unary_of c w at (spelling s t) a)
      (omega arith) (unary_of c w at (spelling s t) a)
  row_of s c w k.BinaryExpression at t (a ∷ b ∷ []) = a_tree (held g a.tree + held g b.tree) (operands_held g (a ∷ b ∷ [])) at w
      (Expressions.operator_of c w at (spelling s t) a b) (omega arith) (operator_of c w at (spelling s t) a b)
  row_of s c w k.ConditionalExpression at t (a ∷ b ∷ d ∷ []) =
      an_operand (held g a.tree + (held g b.tree + held g d.tree)) (operands_held g (a ∷ b ∷ d ∷ [])) at w w (Operators.conditional c w at a b d) (omega arith)
      (choices.conditional g c w at a b d)
  row_of s c w k.AssignmentExpression at t (a ∷ b ∷ []) = an_operand (held g a.tree + held g b.tree) (operands_held g (a ∷ b ∷ [])) at w w
      (Expressions.assignment_of c w at (spelling s t) a b) (omega arith) (assignment_of c w at (spelling s t) a b)
  row_of s c w k.CommaExpression at t (a ∷ b ∷ []) = omega (arith, choices.comma g c w at a b)
  row_of s c w k.ThrowExpression at t os =
      an_operand (operands_held g os) (operands_held g os) at w w (Casts.throw c w at os) (omega arith) (calls.throw g c w at os)
  row_of s c w k.MemberAccess at t (a ∷ []) = an_operand (held g a.tree) (operands_held g (a ∷ [])) at w w
      (Names.member_access c w at (token_place s at.source t) (spelling s t) a) (omega arith)
      (names.member_access g c w at (token_place s at.source t) (spelling s t) a)
  row_of s c w k.PointerMemberAccess at t (a ∷ []) =
      bind (λ (o : Operand). held g o.tree ≤ held g a.tree) (GivesTyped (operands_held g (a ∷ [])) w) (Expressions.pointed_operand at a) _ (pointed_operand at a)
      (λ o h. an_operand (held g o.tree) (operands_held g (a ∷ [])) at w w (Names.member_access c w at (token_place s at.source t) (spelling s t) o)
      (omega arith) (names.member_access g c w at (token_place s at.source t) (spelling s t) o))
  row_of s c w kind at t os = tt

  leaf_or_row : (s : List Lexeme) (c : Ctx) (w : Work) (kind : NodeKind) (at : At) (t : ℕ) → OnlyThis g c
      → On (GivesTyped 0 w) (Expressions.leaf_or_row s c w kind at t)
  leaf_or_row s c w k.ThrowExpression at t z = an_operand 0 0 at w w (Casts.throw c w at []) (omega arith) (calls.throw g c w at [])
  leaf_or_row s c w kind at t z = leaf_of s c w kind at t z

  -- Enumerators by the name of their enum

  enumerator_named : (c : Ctx) (w : Work) (at : At) (o : Option Entity) → OnlyThis g c → On (names.Bare g) (Expressions.enumerator_named c w at o)
  enumerator_named c w at (Some e) z = names.of_entity g c w at e.kind e.id z
  enumerator_named c w at None z = tt

  name_in : (c : Ctx) (w : Work) (at : At) (name : List ℕ) (t : Typ) → OnlyThis g c → On (names.Bare g) (Expressions.name_in c w at name t)
  name_in c w at name (typ (enum e scoped) d v) z = enumerator_named c w at (found_in c.scopes (Expressions.scope_name e name)) z
  name_in c w at name t z = tt

  qualified_name : (c : Ctx) (w : Work) (at : At) (owner name : List ℕ) → OnlyThis g c → On (names.Bare g) (Expressions.qualified_name c w at owner name)
  qualified_name c w at owner name z = skip (names.Bare g) (expect at UnknownName (type_named owner c.types)) _ (λ (t : Typ). name_in c w at name t z)

  -- Lambdas

  captured_value : (c : Ctx) (w : Work) (x : Capture) (t : Typ) (o : Operand) → On (Gives g (held g o.tree) w) (Expressions.captured_value c w x t o)
  captured_value c w x (typ (ref u) d v) o = omega (arith, parts.stored g x.at (typ (ref u) d v) o.tree)
  captured_value c w x (typ (class n) d v) o = initials.class_from g c w (typ (class n) d v) x.at o
  captured_value c w x (typ (closure n) d v) o = initials.class_from g c w (typ (closure n) d v) x.at o
  captured_value c w x (typ (array e n) d v) o = omega (arith, parts.closure_part g c x.at (record { offset = 0; typ = typ (array e n) d v }))
  captured_value c w x (typ (tx_ex e) d v) o = initials.class_from g c w (typ (tx_ex e) d v) x.at o
  captured_value c w x t o = omega (arith, parts.stored g x.at t (Values.valued x.at o.tree), values.valued g x.at o.tree)

  capture_source : (c : Ctx) (w : Work) (x : Capture) (o : Option ℕ) → OnlyThis g c → On (names.Bare g) (Expressions.capture_source c w x o)
  capture_source c w x (Some i) z = names.none_known g c w x.at i z
  capture_source c w x None z = names.this_tree g c x.at z

  captured : (c : Ctx) (w : Work) (x : Capture) → OnlyThis g c → On (Gives g 0 w) (Expressions.captured c w x)
  captured c w x z = bind (names.Bare g) (Gives g 0 w) (Expressions.capture_source c w x x.variable) _ (capture_source c w x x.variable z)
      (λ e h. initials.wider g (held g e) 0 w (Expressions.captured_value c w x x.typ (record { tree = e; at = x.at; zero = false })) (omega arith)
      (captured_value c w x x.typ (record { tree = e; at = x.at; zero = false })))

  captured_pieces : (c : Ctx) (w : Work) (ps : List Part) (xs : List Capture) → OnlyThis g c → On (GiveAll g 0 w) (Expressions.captured_pieces c w ps xs)
  captured_pieces c w (p ∷ ps) (x ∷ xs) z = bind (Gives g 0 w) (GiveAll g 0 w) (Expressions.captured c w x) _ (captured c w x z)
      (λ m h. bind (GiveAll g 0 m.work) (GiveAll g 0 w) (Expressions.captured_pieces c m.work ps xs) _ (captured_pieces c m.work ps xs z)
      (λ r i. omega (arith, parts.destroys g c x.at p.typ)))
  captured_pieces c w (p ∷ ps) [] z = same (0 + used g w)
  captured_pieces c w [] xs z = omega arith

  closure_object : (c : Ctx) (l : List Closure) (w : Work) (at : At) → OnlyThis g c → On (Gives g 0 w) (Expressions.closure_object c l w at)
  closure_object c l w at z = skip (Gives g 0 w) (expect at OutOfProfile (Expressions.closure_at at l)) _ (λ x.
      bind (GiveAll g 0 w) (Gives g 0 w) (Expressions.captured_pieces c w (parts_of c.classes x.class) x.captures) _
      (captured_pieces c w (parts_of c.classes x.class) x.captures z) (λ m h. omega arith))

  -- Expressions

  module _ (s : List Lexeme) (c : Ctx) (z : OnlyThis g c) where
    cast_after : (w x : Work) (at : At) (u : Typ) (o : Operand) → held g o.tree + used g w ≤ 0 + used g x
        → On (GivesTyped 0 w) (Expressions.an_operand at (Casts.cast c x at u o))
    cast_after w x at u o h = an_operand (held g o.tree + 0) 0 at w x (Casts.cast c x at u o) (omega arith) (calls.cast g c x at u o)

    call_after : (w x : Work) (at : At) (f : Operand) (os : List Operand) → held g f.tree + operands_held g os + used g w ≤ used g x
        → On (GivesTyped 0 w) (Expressions.an_operand at (Calls.call c x at f os))
    call_after w x at f os h =
        an_operand (held g f.tree + operands_held g os) 0 at w x (Calls.call c x at f os) (omega arith) (calls.call g c x at f os)

    row_after : (w x : Work) (kind : NodeKind) (at : At) (t : ℕ) (os : List Operand) → operands_held g os + used g w ≤ 0 + used g x
        → On (GivesTyped 0 w) (Expressions.row_of s c x kind at t os)
    row_after w x kind at t os h = typed_later (operands_held g os) 0 w x (Expressions.row_of s c x kind at t os) (omega arith) (row_of s c x kind at t os)

    size_bare : (at p : At) (t : Typ) → On (names.Bare g) (Casts.size_literal c at p t)
    size_bare at p t = skip (names.Bare g) (check at BadOperand (not (Operators.is_function (referred t)) && not (is_void (referred t)))) _
        (λ y. skip (names.Bare g) (check at Incomplete (is_bounded (referred t))) _ (λ x. skip (names.Bare g) (Operators.measurable c at (referred t)) _ (λ z. refl)))

    size_after : (w : Work) (at p : At) (t : Typ) → On (GivesTyped 0 w) (Expressions.a_tree at w (Casts.size_literal c at p t))
    size_after w at p t = a_bare at w (Casts.size_literal c at p t) (size_bare at p t)

    mutual
      pub expression : (l : List Closure) (w : Work) (e : syntax.Tree) → On (GivesTyped 0 w) (Expressions.expression_with s c l w e)
      expression l w (syntax.node k.ParenthesizedExpression p token (syntax.more e syntax.none)) =
          bind (GivesTyped 0 w) (GivesTyped 0 w) (Expressions.expression_with s c l w e) _ (expression l w e) (λ x h. h)
      expression l w (syntax.node k.FunctionCall p token (syntax.more f es)) =
          bind (GivesTyped 0 w) (GivesTyped 0 w) (Expressions.expression_with s c l w f) _ (expression l w f) (λ x h.
          bind (GivesOperands 0 x.work) (GivesTyped 0 w) (Expressions.operands_with s c l x.work es) _ (operands l x.work es) (λ xs i.
          call_after w xs.work (at_of p) x.operand xs.operands (omega arith)))
      expression l w (syntax.node k.FunctionalCast p token (syntax.more base es)) =
          skip (GivesTyped 0 w) (Expressions.specified_with s c l w no_specifiers base) _ (λ d.
          skip (GivesTyped 0 w) (and_then (specified_type (at_of p) d) (Expressions.written_type (at_of p))) _ (λ t.
          bind (GivesOperands 0 w) (GivesTyped 0 w) (Expressions.operands_with s c l w es) _ (operands l w es)
          (λ xs h. an_operand (operands_held g xs.operands) 0 (at_of p) w xs.work (Casts.functional c xs.work (at_of p) t xs.operands) (omega arith)
          (calls.functional g c xs.work (at_of p) t xs.operands))))
      expression l w (syntax.node k.StaticCast p token (syntax.more t (syntax.more e syntax.none))) =
          skip (GivesTyped 0 w) (and_then (Expressions.type_id_with s c l w t) (Expressions.written_type (at_of p))) _ (λ u.
          bind (GivesTyped 0 w) (GivesTyped 0 w) (and_then (Expressions.expression_with s c l w e) (Expressions.chosen_operand c)) _
          (chosen 0 c w (Expressions.expression_with s c l w e) (expression l w e)) (λ x h. cast_after w x.work (at_of p) u x.operand h))
      expression l w (syntax.node k.CastExpression p token (syntax.more t (syntax.more e syntax.none))) =
          skip (GivesTyped 0 w) (and_then (Expressions.type_id_with s c l w t) (Expressions.written_type (at_of p))) _ (λ u.
          bind (GivesTyped 0 w) (GivesTyped 0 w) (and_then (Expressions.expression_with s c l w e) (Expressions.chosen_operand c)) _
          (chosen 0 c w (Expressions.expression_with s c l w e) (expression l w e)) (λ x h. cast_after w x.work (at_of p) u x.operand h))
      expression l w (syntax.node k.SizeofExpression p token (syntax.more e syntax.none)) =
          skip (GivesTyped 0 w) (and_then (Expressions.expression_with s c [] w e) (Expressions.chosen_operand c)) _
          (λ (x : Typed). size_after w (at_of p) x.operand.at (typ_in x.operand.tree))
      expression l w (syntax.node k.SizeofType p token (syntax.more t syntax.none)) =
          skip (GivesTyped 0 w) (and_then (Expressions.type_id_with s c [] w t) (Expressions.written_type (at_of p))) _
          (λ (u : Typ). size_after w (at_of p) (at_of p) u)
      expression l w (syntax.node k.Lambda p token kids) =
          an_operand 0 0 (at_of p) w w (Expressions.closure_object c l w (at_of p)) (omega arith) (closure_object c l w (at_of p) z)
      expression l w (syntax.node k.QualifiedId p (Some n) (syntax.more (syntax.node kind q (Some t) kids) syntax.none)) =
          a_bare (at_of p) w (Expressions.qualified_name c w (at_of p) (spelling s t) (spelling s n)) (qualified_name c w (at_of p) (spelling s t) (spelling s n) z)
      expression l w (syntax.node kind p (Some t) syntax.none) = leaf_or_row s c w kind (at_of p) t z
      expression l w (syntax.node kind p (Some t) kids) =
          bind (GivesOperands 0 w) (GivesTyped 0 w) (Expressions.operands_with s c l w kids) _ (operands l w kids)
          (λ xs h. row_after w xs.work kind (at_of p) t xs.operands h)
      expression l w (syntax.node kind p None kids) = tt

      pub operands : (l : List Closure) (w : Work) (es : syntax.Trees) → On (GivesOperands 0 w) (Expressions.operands_with s c l w es)
      operands l w syntax.none = same (0 + used g w)
      operands l w (syntax.more t ts) = bind (GivesTyped 0 w) (GivesOperands 0 w)
          (and_then (Expressions.expression_with s c l w t) (Expressions.chosen_operand c)) _
          (chosen 0 c w (Expressions.expression_with s c l w t) (expression l w t)) (λ x h.
          bind (GivesOperands 0 x.work) (GivesOperands 0 w) (Expressions.operands_with s c l x.work ts) _ (operands l x.work ts) (λ xs i. omega arith))
