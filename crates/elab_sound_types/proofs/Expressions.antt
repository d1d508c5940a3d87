-- Each form of an expression has the type of an expression, or is looked up and not yet chosen.
use Rattle.std.proofs.Common.{◌≡◌, refl, ℕ, true, false, not, List, [], ◌∷◌, Option, Some, None, Result, Ok, Err, codes}
use Rattle.std.specs.List.{list_all}
use Rattle.std.specs.Str.{bytes_eq}
use Rattle.std.proofs.lemmas.Bool.{and_parts}
use Rattle.elab_rules.specs.tx_ints.declared.kinds.BinOp.{BinOp}
use Rattle.elab_rules.specs.tx_ints.declared.kinds.BinOp.TheVariants.{Add, Sub}
use Rattle.elab_rules.specs.cpp_types.Typ.{Typ, typ, enum, closure}
use Rattle.elab_rules.specs.cpp_types.Class.{Class}
use Rattle.elab_rules.specs.cpp_types.declared.classes.At.{At}
use Rattle.elab_rules.specs.cpp_types.declared.ranks.Cat.TheVariants.{Prvalue}
use Rattle.elab_rules.specs.cpp_lex.Tokens.{Lexeme}
use Rattle.elab_rules.specs.cpp_lex.Ints.{int_type_of}
use Rattle.elab_rules.specs.cpp_ast.declared.arena.At.{At as SyntaxAt}
use Rattle.elab_rules.specs.cpp_ast.declared.kinds.NodeKind.{NodeKind}
use Rattle.elab_rules.specs.cpp_ast.declared.kinds.NodeKind.TheVariants as k
use Rattle.elab_rules.specs.cpp_ast.Trees as syntax
use Rattle.elab_rules.specs.cpp_names.Names.{found_in}
use Rattle.elab_rules.specs.cpp_names.declared.entity.Entity.{Entity}
use Rattle.elab_rules.specs.cpp_tree.declared.faults.ElabFault.{ElabFault}
use Rattle.elab_rules.specs.cpp_tree.declared.faults.IllRule.TheVariants.{UnknownName, OutOfProfile}
use Rattle.elab_rules.specs.cpp_tree.Trees.{Tree, typ_in}
use Rattle.elab_rules.specs.elab_ctx.Ctx.{Ctx, Work, Closure}
use Rattle.elab_rules.specs.elab_ctx.Steps.{and_then, expect, check, at_of, spelling, token_place, value_at, Operand, Made, Typed}
use Rattle.elab_rules.specs.Objects.{parts_of}
use Rattle.elab_rules.specs.Values.{same_at}
use Rattle.elab_rules.specs.Types.{no_specifiers, has_auto, is_nothing, type_named}
use Rattle.elab_rules.specs.Types as types
use Rattle.elab_rules.specs.Operators as operators
use Rattle.elab_rules.specs.Names as names
use Rattle.elab_rules.specs.Calls as calls
use Rattle.elab_rules.specs.Casts as casts
use Rattle.elab_rules.specs.Expressions as expressions
use Rattle.elab_fits.specs.Standing.{On}
use Rattle.elab_fits.proofs.Steps.{bind, skip, expected, either_way as either}
use Rattle.elab_sound_types.specs.Types.{is_lambda, is_head, IsExpression, IsSoundTree, AreExpressions, abort, expression, looked_up}
use Rattle.elab_sound_types.specs.Contexts.{HasSoundTypes, is_sound_closure, are_sound_closures, is_spelled, are_spelled}
use Rattle.elab_sound_types.specs.Laws.{IsSoundTyped, AreSoundTyped, ExpressionsAreSound, OperandsAreSound, TypesAreSound, SpecifiersAreSound, DeclaratorsAreSound}
use Rattle.elab_sound_types.specs.Laws.{ParametersAreSound, IsSoundDeclared}
use Rattle.elab_sound_types.proofs.Globals as globals
use Rattle.elab_sound_types.proofs.Globals.{Behind}
use Rattle.elab_sound_types.proofs.Sound.{both}
use Rattle.elab_sound_types.proofs.Initial.{made}
use Rattle.elab_sound_types.proofs.Objects.{not_true}
use Rattle.elab_sound_types.proofs.Operators as by_operator
use Rattle.elab_sound_types.proofs.Names as by_name
use Rattle.elab_sound_types.proofs.Names.{SoundMade, IfThere, if_there, there_if}
use Rattle.elab_sound_types.proofs.Calls as by_call
use Rattle.elab_sound_types.proofs.Casts as by_cast
use Rattle.elab_sound_types.proofs.Written as written
use Rattle.elab_sound_types.proofs.Written.{IsDenoted, AreSpecifiers, IsParameterOf}
use Rattle.elab_sound_types.proofs.Zeros.{on_ok}

-- What was made with it keeps the types of the context sound

pub moved : (c : Ctx) (w x : Work) → HasSoundTypes c w → Behind w x → HasSoundTypes c x
moved c w x h b = record {
  types = h.types;
  members = h.members;
  functions = h.functions;
  enumerators = h.enumerators;
  variables = h.variables;
  this = h.this;
  captures = h.captures;
  globals = b.kept c.classes h.globals;
  many = h.many;
  copied = h.copied;
}

-- Spellings

pub kids_spelled : (s : List Lexeme) (kind : NodeKind) (p : SyntaxAt) (token : Option ℕ) (kids : syntax.Trees) → is_spelled s (syntax.node kind p token kids) ≡ true
    → are_spelled s kids ≡ true
kids_spelled s kind p (Some t) kids h = (and_parts (not (is_nothing (spelling s t))) (are_spelled s kids) h).1
kids_spelled s kind p None kids h = h

token_spelled : (s : List Lexeme) (kind : NodeKind) (p : SyntaxAt) (t : ℕ) (kids : syntax.Trees) → is_spelled s (syntax.node kind p (Some t) kids) ≡ true
    → is_nothing (spelling s t) ≡ false
token_spelled s kind p t kids h = not_true (is_nothing (spelling s t)) (and_parts (not (is_nothing (spelling s t))) (are_spelled s kids) h).0

pub first_spelled : (s : List Lexeme) (t : syntax.Tree) (ts : syntax.Trees) → are_spelled s (syntax.more t ts) ≡ true → is_spelled s t ≡ true
first_spelled s t ts h = (and_parts (is_spelled s t) (are_spelled s ts) h).0

pub rest_spelled : (s : List Lexeme) (t : syntax.Tree) (ts : syntax.Trees) → are_spelled s (syntax.more t ts) ≡ true → are_spelled s ts ≡ true
rest_spelled s t ts h = (and_parts (is_spelled s t) (are_spelled s ts) h).1

-- Lambdas

closure_found : (cs : List Class) (at : At) (l : List Closure) → are_sound_closures cs l ≡ true
    → IfThere (λ (x : Closure). is_lambda cs x.class ≡ true) (expressions.closure_at at l)
closure_found cs at [] h = tt
closure_found cs at (x ∷ xs) h = let p = and_parts (is_sound_closure cs x) (list_all (is_sound_closure cs) xs) h in
    there_if (λ (y : Closure). is_lambda cs y.class ≡ true) (same_at at x.at) _ _ (λ e. p.0) (closure_found cs at xs p.1)

closure_head : (cs : List Class) (m : ℕ) → is_lambda cs m ≡ true → is_head cs (typ (closure m) false false) Prvalue ≡ true
closure_head cs m h = both h refl

closure_object : (cs : List Class) (c : Ctx) (l : List Closure) (w : Work) (at : At) → are_sound_closures cs l ≡ true → On (made cs) (expressions.closure_object c l w at)
closure_object cs c l w at h = expected (made cs) at OutOfProfile (expressions.closure_at at l) _
    (λ x e. skip (made cs) (expressions.captured_pieces c w (parts_of c.classes x.class) x.captures) _ (λ m. record {
      head = closure_head cs x.class (if_there (λ (y : Closure). is_lambda cs y.class ≡ true) (expressions.closure_at at l) x (closure_found cs at l h) e);
      chosen = refl;
      written = refl;
    }))

-- Answers

module _ (s : List Lexeme) (c : Ctx) where
  abbrev cs : List Class
  cs = c.classes

  abbrev tree_sound : Typed → Type 0
  tree_sound x = IsSoundTree cs x.operand.tree

  abbrev is_chosen : Typed → Type 0
  is_chosen x = IsExpression cs x.operand.tree × HasSoundTypes c x.work

  an_operand : (at : At) (r : Result Made ElabFault) → On (made cs) r → On tree_sound (expressions.an_operand at r)
  an_operand at r h = bind (made cs) tree_sound r _ h (λ m i. expression i)

  found_operand : (at : At) (r : Result Made ElabFault) → On (SoundMade cs) r → On tree_sound (expressions.an_operand at r)
  found_operand at r h = bind (SoundMade cs) tree_sound r _ h (λ m i. i)

  a_tree : (at : At) (w : Work) (r : Result Tree ElabFault) → On (IsExpression cs) r → On tree_sound (expressions.a_tree at w r)
  a_tree at w r h = bind (IsExpression cs) tree_sound r _ h (λ t i. expression i)

  found_tree : (at : At) (w : Work) (r : Result Tree ElabFault) → On (IsSoundTree cs) r → On tree_sound (expressions.a_tree at w r)
  found_tree at w r h = bind (IsSoundTree cs) tree_sound r _ h (λ t i. i)

  -- with what was made
  with_work : (w : Work) (r : Result Typed ElabFault) → HasSoundTypes c w → On (globals.typed w) r → On tree_sound r → On (IsSoundTyped c) r
  with_work w (Ok x) h b g = record { tree = g; work = moved c w x.work h b }
  with_work w (Err e) h b g = tt

  chosen : (r : Result Typed ElabFault) → On (IsSoundTyped c) r → On is_chosen (and_then r (expressions.chosen_operand c))
  chosen r h = bind (IsSoundTyped c) is_chosen r _ h (λ x i. bind (IsExpression cs) is_chosen (names.resolved c x.operand.tree) _
      (by_name.resolved c x.work i.work x.operand.tree i.tree) (λ t j. (j, i.work)))

  -- a type that an expression names
  named_type : (at : At) (r : Result Typ ElabFault) → On (IsDenoted cs) r → On (IsDenoted cs) (and_then r (expressions.written_type at))
  named_type at r h = bind (IsDenoted cs) (IsDenoted cs) r _ h (λ t i. skip (IsDenoted cs) (check at OutOfProfile (not (has_auto t))) _ (λ y. i))

  -- Forms without operands

  leaf_of : (w : Work) (kind : NodeKind) (at : At) (t : ℕ) → HasSoundTypes c w → is_nothing (spelling s t) ≡ false
      → On tree_sound (expressions.leaf_of s c w kind at t)
  leaf_of w k.IntegerLiteral at t h e = skip tree_sound (expect at OutOfProfile (int_type_of (spelling s t) (value_at s t))) _
      (λ kind. expression (record { head = refl; chosen = refl; written = refl }))
  leaf_of w k.CharacterLiteral at t h e = expression (record { head = refl; chosen = refl; written = refl })
  leaf_of w k.BooleanLiteral at t h e = expression (record { head = refl; chosen = refl; written = refl })
  leaf_of w k.PointerLiteral at t h e = expression (record { head = refl; chosen = refl; written = refl })
  leaf_of w k.StringLiteral at t h e = expression (record { head = refl; chosen = refl; written = refl })
  leaf_of w k.This at t h e = a_tree at w (names.this_tree c at) (by_name.this_tree c w h at)
  leaf_of w k.UnqualifiedId at t h e = found_tree at w (names.named c w at (spelling s t)) (by_name.named c w h at (spelling s t) e)
  leaf_of w k.StdAbort at t h e = looked_up (abort at)
  leaf_of w kind at t h e = tt

  leaf_or_row : (w : Work) (kind : NodeKind) (at : At) (t : ℕ) → HasSoundTypes c w → is_nothing (spelling s t) ≡ false
      → On tree_sound (expressions.leaf_or_row s c w kind at t)
  leaf_or_row w k.ThrowExpression at t h e = an_operand at (casts.throw c w at []) (by_cast.throw cs c w at [])
  leaf_or_row w kind at t h e = leaf_of w kind at t h e

  -- Forms over operands

  operator_of : (w : Work) (at : At) (name : List ℕ) (a b : Operand) → IsExpression cs a.tree → IsExpression cs b.tree
      → On (IsExpression cs) (expressions.operator_of c w at name a b)
  operator_of w at name a b g i = either (IsExpression cs) (bytes_eq name (codes "&&")) _ _ (by_operator.logical cs c w true at a b)
      (either (IsExpression cs) (bytes_eq name (codes "||")) _ _ (by_operator.logical cs c w false at a b)
      (skip (IsExpression cs) (expect at OutOfProfile (operators.binary_operator name)) _ (λ (op : BinOp). by_operator.binary cs c op at a b g i)))

  unary_of : (w : Work) (at : At) (name : List ℕ) (a : Operand) → IsExpression cs a.tree → On (IsExpression cs) (expressions.unary_of c w at name a)
  unary_of w at name a g = either (IsExpression cs) (bytes_eq name (codes "++")) _ _ (by_operator.step cs c Add false at a g)
      (either (IsExpression cs) (bytes_eq name (codes "--")) _ _ (by_operator.step cs c Sub false at a g)
      (either (IsExpression cs) (bytes_eq name (codes "+")) _ _ (by_operator.plus cs at a g)
      (either (IsExpression cs) (bytes_eq name (codes "-")) _ _ (by_operator.minus cs at a)
      (either (IsExpression cs) (bytes_eq name (codes "!")) _ _ (by_operator.negation cs c w at a)
      (either (IsExpression cs) (bytes_eq name (codes "~")) _ _ (by_operator.complement cs at a)
      (either (IsExpression cs) (bytes_eq name (codes "*")) _ _ (by_operator.indirection cs at a g) (by_operator.address_of cs at a g)))))))

  assignment_of : (w : Work) (at : At) (name : List ℕ) (a b : Operand) → IsExpression cs a.tree → On (made cs) (expressions.assignment_of c w at name a b)
  assignment_of w at name a b g = either (made cs) (bytes_eq name (codes "=")) _ _ (by_operator.assignment cs c w at a b g)
      (bind (IsExpression cs) (made cs) (and_then (expect at OutOfProfile (operators.compound_operator name)) (λ (op : BinOp). operators.compound c op at a b)) _
      (skip (IsExpression cs) (expect at OutOfProfile (operators.compound_operator name)) _ (λ op. by_operator.compound cs c op at a b g)) (λ t i. i))

  abbrev is_operand : Operand → Type 0
  is_operand o = IsExpression cs o.tree

  pointed_operand : (at : At) (a : Operand) → IsExpression cs a.tree → On is_operand (expressions.pointed_operand at a)
  pointed_operand at a g = bind (IsExpression cs) is_operand (operators.indirection at a) _ (by_operator.indirection cs at a g) (λ t i. i)

  row_of : (w : Work) (kind : NodeKind) (at : At) (t : ℕ) (os : List Operand) → HasSoundTypes c w → is_nothing (spelling s t) ≡ false → AreExpressions cs os
      → On tree_sound (expressions.row_of s c w kind at t os)
  row_of w k.Subscript at t (a ∷ b ∷ []) h e g = a_tree at w (operators.subscript c at a b) (by_operator.subscript cs c at a b g.0 g.1.0)
  row_of w k.PostfixIncrement at t (a ∷ []) h e g = a_tree at w (operators.step c (expressions.postfix_operator (spelling s t)) true at a)
      (by_operator.step cs c (expressions.postfix_operator (spelling s t)) true at a g.0)
  row_of w k.UnaryExpression at t (a ∷ []) h e g = a_tree at w (expressions.unary_of c w at (spelling s t) a) (unary_of w at (spelling s t) a g.0)
  row_of w k.BinaryExpression at t (a ∷ b ∷ []) h e g =
      a_tree at w (expressions.operator_of c w at (spelling s t) a b) (operator_of w at (spelling s t) a b g.0 g.1.0)
  row_of w k.ConditionalExpression at t (a ∷ b ∷ d ∷ []) h e g =
      an_operand at (operators.conditional c w at a b d) (by_operator.conditional cs c w at a b d g.1.0 g.1.1.0)
  row_of w k.AssignmentExpression at t (a ∷ b ∷ []) h e g =
      an_operand at (expressions.assignment_of c w at (spelling s t) a b) (assignment_of w at (spelling s t) a b g.0)
  row_of w k.CommaExpression at t (a ∷ b ∷ []) h e g = expression (by_operator.comma cs c w at a b g.1.0)
  row_of w k.ThrowExpression at t os h e g = an_operand at (casts.throw c w at os) (by_cast.throw cs c w at os)
  row_of w k.MemberAccess at t (a ∷ []) h e g = found_operand at (names.member_access c w at (token_place s at.source t) (spelling s t) a)
      (by_name.member_access c w h w at (token_place s at.source t) (spelling s t) a e g.0)
  row_of w k.PointerMemberAccess at t (a ∷ []) h e g = bind is_operand tree_sound (expressions.pointed_operand at a) _ (pointed_operand at a g.0)
      (λ o i. found_operand at (names.member_access c w at (token_place s at.source t) (spelling s t) o)
      (by_name.member_access c w h w at (token_place s at.source t) (spelling s t) o e i))
  row_of w kind at t os h e g = tt

  -- Enumerators by the name of their enum

  enumerator_named : (w : Work) (at : At) (o : Option Entity) → HasSoundTypes c w → On (IsSoundTree cs) (expressions.enumerator_named c w at o)
  enumerator_named w at (Some e) h = by_name.of_entity c w h at e.kind e.id
  enumerator_named w at None h = tt

  name_in : (w : Work) (at : At) (name : List ℕ) (t : Typ) → HasSoundTypes c w → On (IsSoundTree cs) (expressions.name_in c w at name t)
  name_in w at name (typ (enum e scoped) d v) h = enumerator_named w at (found_in c.scopes (expressions.scope_name e name)) h
  name_in w at name t h = tt

  qualified_name : (w : Work) (at : At) (owner name : List ℕ) → HasSoundTypes c w → On (IsSoundTree cs) (expressions.qualified_name c w at owner name)
  qualified_name w at owner name h = skip (IsSoundTree cs) (expect at UnknownName (type_named owner c.types)) _ (λ t. name_in w at name t h)

  -- Expressions

  mutual
    pub of_expression : (l : List Closure) (w : Work) (e : syntax.Tree) → HasSoundTypes c w → are_sound_closures cs l ≡ true → is_spelled s e ≡ true
        → On tree_sound (expressions.expression_with s c l w e)
    of_expression l w (syntax.node k.ParenthesizedExpression p token (syntax.more e syntax.none)) h g i =
        bind tree_sound tree_sound (expressions.expression_with s c l w e) _
        (of_expression l w e h g (first_spelled s e syntax.none (kids_spelled s k.ParenthesizedExpression p token _ i))) (λ x j. j)
    of_expression l w (syntax.node k.FunctionCall p token (syntax.more f es)) h g i =
        bind (IsSoundTyped c) tree_sound (expressions.expression_with s c l w f) _
        (with_work w (expressions.expression_with s c l w f) h (globals.expression s c l w f)
        (of_expression l w f h g (first_spelled s f es (kids_spelled s k.FunctionCall p token _ i))))
        (λ x j. bind (AreSoundTyped c) tree_sound (expressions.operands_with s c l x.work es) _
        (of_operands l x.work es j.work g (rest_spelled s f es (kids_spelled s k.FunctionCall p token _ i)))
        (λ xs m. an_operand (at_of p) (calls.call c xs.work (at_of p) x.operand xs.operands)
        (by_call.call c xs.work m.work xs.work (at_of p) x.operand xs.operands j.tree)))
    of_expression l w (syntax.node k.FunctionalCast p token (syntax.more base es)) h g i =
        bind (AreSpecifiers cs) tree_sound (expressions.specified_with s c l w no_specifiers base) _ (written.specified s c w h l w no_specifiers base tt)
        (λ d j. bind (IsDenoted cs) tree_sound (and_then (types.specified_type (at_of p) d) (expressions.written_type (at_of p))) _
        (named_type (at_of p) (types.specified_type (at_of p) d) (written.specified_type cs (at_of p) d j))
        (λ t m. bind (AreSoundTyped c) tree_sound (expressions.operands_with s c l w es) _
        (of_operands l w es h g (rest_spelled s base es (kids_spelled s k.FunctionalCast p token _ i)))
        (λ xs o. an_operand (at_of p) (casts.functional c xs.work (at_of p) t xs.operands)
        (by_cast.functional cs c xs.work (at_of p) t xs.operands m o.trees))))
    of_expression l w (syntax.node k.StaticCast p token (syntax.more t (syntax.more e syntax.none))) h g i =
        bind (IsDenoted cs) tree_sound (and_then (expressions.type_id_with s c l w t) (expressions.written_type (at_of p))) _
        (named_type (at_of p) (expressions.type_id_with s c l w t) (written.type_id s c w h l w t))
        (λ u j. bind is_chosen tree_sound (and_then (expressions.expression_with s c l w e) (expressions.chosen_operand c)) _
        (chosen (expressions.expression_with s c l w e) (with_work w (expressions.expression_with s c l w e) h (globals.expression s c l w e)
        (of_expression l w e h g (first_spelled s e syntax.none (rest_spelled s t (syntax.more e syntax.none) (kids_spelled s k.StaticCast p token _ i))))))
        (λ x m. an_operand (at_of p) (casts.cast c x.work (at_of p) u x.operand) (by_cast.cast_in cs c x.work (at_of p) u x.operand j m.0)))
    of_expression l w (syntax.node k.CastExpression p token (syntax.more t (syntax.more e syntax.none))) h g i =
        bind (IsDenoted cs) tree_sound (and_then (expressions.type_id_with s c l w t) (expressions.written_type (at_of p))) _
        (named_type (at_of p) (expressions.type_id_with s c l w t) (written.type_id s c w h l w t))
        (λ u j. bind is_chosen tree_sound (and_then (expressions.expression_with s c l w e) (expressions.chosen_operand c)) _
        (chosen (expressions.expression_with s c l w e) (with_work w (expressions.expression_with s c l w e) h (globals.expression s c l w e)
        (of_expression l w e h g (first_spelled s e syntax.none (rest_spelled s t (syntax.more e syntax.none) (kids_spelled s k.CastExpression p token _ i))))))
        (λ x m. an_operand (at_of p) (casts.cast c x.work (at_of p) u x.operand) (by_cast.cast_in cs c x.work (at_of p) u x.operand j m.0)))
    of_expression l w (syntax.node k.SizeofExpression p token (syntax.more e syntax.none)) h g i =
        skip tree_sound (and_then (expressions.expression_with s c [] w e) (expressions.chosen_operand c)) _
        (λ x. a_tree (at_of p) w (casts.size_literal c (at_of p) x.operand.at (typ_in x.operand.tree))
        (by_cast.size_literal cs c (at_of p) x.operand.at (typ_in x.operand.tree)))
    of_expression l w (syntax.node k.SizeofType p token (syntax.more t syntax.none)) h g i =
        skip tree_sound (and_then (expressions.type_id_with s c [] w t) (expressions.written_type (at_of p))) _
        (λ u. a_tree (at_of p) w (casts.size_literal c (at_of p) (at_of p) u) (by_cast.size_literal cs c (at_of p) (at_of p) u))
    of_expression l w (syntax.node k.Lambda p token kids) h g i =
        an_operand (at_of p) (expressions.closure_object c l w (at_of p)) (closure_object cs c l w (at_of p) g)
    of_expression l w (syntax.node k.QualifiedId p (Some m) (syntax.more (syntax.node kind q (Some t) kids) syntax.none)) h g i =
        found_tree (at_of p) w (expressions.qualified_name c w (at_of p) (spelling s t) (spelling s m)) (qualified_name w (at_of p) (spelling s t) (spelling s m) h)
    of_expression l w (syntax.node kind p (Some t) syntax.none) h g i = leaf_or_row w kind (at_of p) t h (token_spelled s kind p t syntax.none i)
    of_expression l w (syntax.node kind p (Some t) kids) h g i = bind (AreSoundTyped c) tree_sound (expressions.operands_with s c l w kids) _
        (of_operands l w kids h g (kids_spelled s kind p (Some t) kids i))
        (λ xs j. row_of xs.work kind (at_of p) t xs.operands j.work (token_spelled s kind p t kids i) j.trees)
    of_expression l w (syntax.node kind p None kids) h g i = tt

    pub of_operands : (l : List Closure) (w : Work) (es : syntax.Trees) → HasSoundTypes c w → are_sound_closures cs l ≡ true → are_spelled s es ≡ true
        → On (AreSoundTyped c) (expressions.operands_with s c l w es)
    of_operands l w syntax.none h g i = record { trees = tt; work = h }
    of_operands l w (syntax.more t ts) h g i =
        bind is_chosen (AreSoundTyped c) (and_then (expressions.expression_with s c l w t) (expressions.chosen_operand c)) _
        (chosen (expressions.expression_with s c l w t) (with_work w (expressions.expression_with s c l w t) h (globals.expression s c l w t)
        (of_expression l w t h g (first_spelled s t ts i))))
        (λ x j. bind (AreSoundTyped c) (AreSoundTyped c) (expressions.operands_with s c l x.work ts) _
        (of_operands l x.work ts j.1 g (rest_spelled s t ts i)) (λ xs m. record { trees = (j.0, m.trees); work = m.work }))

-- Operands, of which each names one function at most

abbrev pub Chosen : Ctx → Typed → Type 0
Chosen c x = IsExpression c.classes x.operand.tree × HasSoundTypes c x.work

pub operand_sound : (s : List Lexeme) (c : Ctx) (l : List Closure) (w : Work) (e : syntax.Tree) → HasSoundTypes c w → are_sound_closures c.classes l ≡ true
    → is_spelled s e ≡ true → On (Chosen c) (and_then (expressions.expression_with s c l w e) (expressions.chosen_operand c))
operand_sound s c l w e h g i = chosen s c (expressions.expression_with s c l w e)
    (with_work s c w (expressions.expression_with s c l w e) h (globals.expression s c l w e) (of_expression s c l w e h g i))

-- The laws

pub expressions_law : ExpressionsAreSound
expressions_law s c l w e x h g i j = on_ok (IsSoundTyped c) (expressions.expression_with s c l w e) x
    (with_work s c w (expressions.expression_with s c l w e) h (globals.expression s c l w e) (of_expression s c l w e h g i)) j

pub operands_law : OperandsAreSound
operands_law s c l w es x h g i j = on_ok (AreSoundTyped c) (expressions.operands_with s c l w es) x (of_operands s c l w es h g i) j

pub types_law : TypesAreSound
types_law s c l w e t h j = on_ok (IsDenoted c.classes) (expressions.type_id_with s c l w e) t (written.type_id s c w h l w e) j

pub specifiers_law : SpecifiersAreSound
specifiers_law s c l w e t h j = on_ok (IsDenoted c.classes) (expressions.specifiers_with s c l w e) t (written.specifiers s c w h l w e) j

pub declarators_law : DeclaratorsAreSound
declarators_law s c l w at t d r h g j = on_ok (IsSoundDeclared c.classes) (expressions.declared_with s c l w at t d) r
    (written.declared_of s c w h l w at t d g) j

pub parameters_law : ParametersAreSound
parameters_law s c l w e p h j = on_ok (IsParameterOf c.classes) (expressions.parameter_with s c l w e) p (written.parameter_of s c w h l w e) j
