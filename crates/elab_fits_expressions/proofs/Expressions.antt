-- All expressions, by their form.
use Rattle.std.proofs.Common.{◌≡◌, refl, sym, ap, ◌∙◌, subst, ℕ, true, false, not, List, [], Option, Some, None, Result, Ok, Err}
use Rattle.std.proofs.lemmas.Bool.{and_parts}
use Rattle.elab_rules.specs.cpp_types.Typ.{Typ, typ, enum}
use Rattle.elab_rules.specs.cpp_types.declared.classes.At.{At}
use Rattle.elab_rules.specs.cpp_lex.Tokens.{Lexeme}
use Rattle.elab_rules.specs.cpp_names.Names.{found_in}
use Rattle.elab_rules.specs.cpp_names.declared.entity.Entity.{Entity}
use Rattle.elab_rules.specs.cpp_ast.declared.kinds.NodeKind.{NodeKind}
use Rattle.elab_rules.specs.cpp_ast.declared.kinds.NodeKind.TheVariants as k
use Rattle.elab_rules.specs.cpp_ast.Trees as syntax
use Rattle.elab_rules.specs.cpp_tree.declared.faults.ElabFault.{ElabFault}
use Rattle.elab_rules.specs.cpp_tree.declared.faults.IllRule.TheVariants.{UnknownName, OutOfProfile}
use Rattle.elab_rules.specs.cpp_tree.Trees.{Tree, typ_in}
use Rattle.elab_rules.specs.cpp_tree.Typing.{form_in}
use Rattle.elab_rules.specs.cpp_tree.Rows.{Setting}
use Rattle.elab_rules.specs.elab_ctx.Ctx.{Ctx, Work, Closure}
use Rattle.elab_rules.specs.elab_ctx.Steps.{and_then, expect, check, at_of, spelling, Operand, Made, Typed, TypedAll}
use Rattle.elab_rules.specs.Names.{resolved}
use Rattle.elab_rules.specs.Calls.{call}
use Rattle.elab_rules.specs.Casts.{cast, functional, size_literal}
use Rattle.elab_rules.specs.Types.{no_specifiers, specified_type, has_auto, type_named}
use Rattle.elab_rules.specs.Values.{number}
use Rattle.elab_rules.specs.Expressions as rules
use Rattle.elab_fits.specs.Standing.{Reaches, On}
use Rattle.elab_fits.specs.Scalars.{IsZero}
use Rattle.elab_fits.proofs.Steps.{bind, skip}
use Rattle.elab_fits_forms.specs.Types.{is_empty}
use Rattle.elab_fits_forms.specs.Meaning.{Proper, Means, ProperOperand, MeansOperand}
use Rattle.elab_fits_forms.specs.Context.{Holds}
use Rattle.elab_fits_forms.specs.Names.{TypedMeans}
use Rattle.elab_fits_forms.specs.Forms.{MadeStands, ProperOperands}
use Rattle.elab_fits_forms.specs.Expressions.{is_spelled_token, is_spelled, are_spelled, ClosuresHold}
use Rattle.elab_fits_forms.proofs.CallForms.{calls_stand}
use Rattle.elab_fits_forms.proofs.Casts.{sizes_stand}
use Rattle.elab_fits_forms.proofs.ClassCasts.{casts_stand, functionals_stand}
use Rattle.elab_fits_forms.proofs.Forms.{made_typed, tree_typed}
use Rattle.elab_fits_forms.proofs.Leaves.{tree_means, leaves_mean}
use Rattle.elab_fits_forms.proofs.Names.{entities_mean, resolved_stand}
use Rattle.elab_fits_expressions.specs.Expressions.{TypedStands}
use Rattle.elab_fits_expressions.specs.Growing.{Behind}
use Rattle.elab_fits_expressions.specs.Written.{IsSound}
use Rattle.elab_fits_expressions.proofs.Behind.{after}
use Rattle.elab_fits_expressions.proofs.Closures.{closures_stand}
use Rattle.elab_fits_expressions.proofs.Growing as growing
use Rattle.elab_fits_expressions.proofs.Holding.{held, reached}
use Rattle.elab_fits_expressions.proofs.Rows.{all_rows}
use Rattle.elab_fits_expressions.proofs.Written as written
use Rattle.elab_fits_expressions.proofs.Written.{not_true, AreSpecifiers}

-- An answer with what was made for it

record IsTyped (s : Setting) (c : Ctx) (w : Work) (x : Typed) : Type 0 where
  behind : Behind w x.work
  means : Reaches s x.work → MeansOperand s c x.operand

record IsChosen (s : Setting) (c : Ctx) (w : Work) (x : Typed) : Type 0 where
  behind : Behind w x.work
  proper : Reaches s x.work → ProperOperand s c x.operand

record AreTyped (s : Setting) (c : Ctx) (w : Work) (x : TypedAll) : Type 0 where
  behind : Behind w x.work
  proper : Reaches s x.work → ProperOperands s c x.operands

typed_is : (s : Setting) (c : Ctx) (w : Work) (r : Result Typed ElabFault) → On (λ (x : Typed). Behind w x.work) r → On (TypedMeans s c) r
    → On (IsTyped s c w) r
typed_is s c w (Ok x) b m = record { behind = b; means = m }
typed_is s c w (Err e) b m = tt

all_typed : (s : Setting) (c : Ctx) (w : Work) (r : Result TypedAll ElabFault) → On (λ (x : TypedAll). Behind w x.work) r
    → On (λ (x : TypedAll). Reaches s x.work → ProperOperands s c x.operands) r → On (AreTyped s c w) r
all_typed s c w (Ok x) b m = record { behind = b; proper = m }
all_typed s c w (Err e) b m = tt

chosen_stands : (s : Setting) (c : Ctx) (w : Work) (r : Result Typed ElabFault) → On (IsChosen s c w) r → On (TypedStands s c) r
chosen_stands s c w (Ok x) h = h.proper
chosen_stands s c w (Err e) h = tt

-- what is made behind something may use that that has its place
made_behind : (s : Setting) (c : Ctx) (w : Work) (r : Result Made ElabFault) → On (λ (m : Made). Behind w m.work) r
    → (Reaches s w → On (MadeStands s c) r) → On (MadeStands s c) r
made_behind s c w (Ok m) b f = λ r. f (reached s w m.work b r) r
made_behind s c w (Err e) b f = tt

typed_behind : (s : Setting) (c : Ctx) (w : Work) (r : Result Typed ElabFault) → On (λ (x : Typed). Behind w x.work) r
    → (Reaches s w → On (TypedMeans s c) r) → On (TypedMeans s c) r
typed_behind s c w (Ok x) b f = λ r. f (reached s w x.work b r) r
typed_behind s c w (Err e) b f = tt

-- One function for those that are named

abbrev tree_or : Tree → Result Tree ElabFault → Tree
tree_or d (Ok t) = t
tree_or d (Err e) = d

ok_same : (a b : Tree) (r : Result Tree ElabFault) → r ≡ Ok a → r ≡ Ok b → a ≡ b
ok_same a b r h g = ap (tree_or a) (sym h ∙ g)

zero_resolved : (c : Ctx) (e t : Tree) → resolved c e ≡ Ok t → IsZero e → IsZero t
zero_resolved c e t h z = record {
  kind = z.kind;
  place = z.place;
  is = ok_same t (number z.kind 0 z.place) (resolved c e) h (ap (λ (y : Tree). resolved c y) z.is);
}

resolved_proper : (s : Setting) (c : Ctx) (w : Work) (x : Typed) → Holds s c w → Behind w x.work → (Reaches s x.work → MeansOperand s c x.operand)
    → On (IsChosen s c w) (rules.chosen_operand c x)
resolved_proper s c w x h b m = by (resolved c x.operand.tree) refl
  where
    proper : (t : Tree) → resolved c x.operand.tree ≡ Ok t → Reaches s x.work → Proper s c t
    proper t e r = on_ok (resolved c x.operand.tree) e (resolved_stand s c w x.operand.tree h (m r).means)
      where
        on_ok : (y : Result Tree ElabFault) → y ≡ Ok t → On (Proper s c) y → Proper s c t
        on_ok y d g = subst (λ (z : Result Tree ElabFault). On (Proper s c) z) d g

    by : (y : Result Tree ElabFault) → resolved c x.operand.tree ≡ y → On (IsChosen s c w) (and_then y
        (λ (t : Tree). Ok (record x { operand = record { tree = t; at = x.operand.at; zero = x.operand.zero } })))
    by (Ok t) e = record {
      behind = b;
      proper = λ r. record { proper = proper t e r; zero = λ z. zero_resolved c x.operand.tree t e ((m r).zero z) };
    }
    by (Err f) e = tt

chosen : (s : Setting) (c : Ctx) (w : Work) (r : Result Typed ElabFault) → Holds s c w → On (IsTyped s c w) r
    → On (IsChosen s c w) (and_then r (rules.chosen_operand c))
chosen s c w r h m = bind (IsTyped s c w) (IsChosen s c w) r _ m (λ x i. resolved_proper s c w x h i.behind i.means)

-- Enumerators by the name of their enum

enumerator_means : (s : Setting) (c : Ctx) (w : Work) (at : At) (o : Option Entity) → Holds s c w → Reaches s w
    → On (Means s c) (rules.enumerator_named c w at o)
enumerator_means s c w at (Some e) h r = entities_mean s c w at e.kind e.id h r
enumerator_means s c w at None h r = tt

name_means : (s : Setting) (c : Ctx) (w : Work) (at : At) (name : List ℕ) (t : Typ) → Holds s c w → Reaches s w
    → On (Means s c) (rules.name_in c w at name t)
name_means s c w at name (typ (enum e scoped) d v) h r = enumerator_means s c w at (found_in c.scopes (rules.scope_name e name)) h r
name_means s c w at name t h r = tt

qualified_means : (s : Setting) (c : Ctx) (w : Work) (at : At) (owner name : List ℕ) → Holds s c w → Reaches s w
    → On (Means s c) (rules.qualified_name c w at owner name)
qualified_means s c w at owner name h r = skip (Means s c) (expect at UnknownName (type_named owner c.types)) _ (λ t. name_means s c w at name t h r)

-- a type that an expression names
named_type : (c : Ctx) (at : At) (r : Result Typ ElabFault) → On (IsSound c.classes) r → On (IsSound c.classes) (and_then r (rules.written_type at))
named_type c at r h = bind (IsSound c.classes) (IsSound c.classes) r _ h
    (λ t i. skip (IsSound c.classes) (check at OutOfProfile (not (has_auto t))) _ (λ y. i))

module _ (lexemes : List Lexeme) (s : Setting) (c : Ctx) where
  leaf_or_row : (w : Work) (kind : NodeKind) (at : At) (t : ℕ) → Holds s c w → is_empty (spelling lexemes t) ≡ false
      → On (TypedMeans s c) (rules.leaf_or_row lexemes c w kind at t)
  leaf_or_row w k.ThrowExpression at t h n = all_rows lexemes s c w k.ThrowExpression at t [] h n ProperOperands.none
  leaf_or_row w kind at t h n = leaves_mean lexemes s c w kind at t h n

  -- forms behind their operands
  call_means : (w : Work) (at : At) (callee : Operand) (xs : TypedAll) → Holds s c xs.work → (Reaches s xs.work → MeansOperand s c callee)
      → (Reaches s xs.work → ProperOperands s c xs.operands) → On (TypedMeans s c) (rules.an_operand at (call c xs.work at callee xs.operands))
  call_means w at callee xs h m p = made_typed s c at (call c xs.work at callee xs.operands) (made_behind s c xs.work (call c xs.work at callee xs.operands)
      (growing.call_form c xs.work at callee callee.tree xs.operands) (λ r. calls_stand s c xs.work at callee xs.operands h (m r) (p r)))

  cast_means : (at : At) (t : Typ) (x : Typed) → Holds s c x.work → IsSound c.classes t → (Reaches s x.work → ProperOperand s c x.operand)
      → On (TypedMeans s c) (rules.an_operand at (cast c x.work at t x.operand))
  cast_means at t x h i p = made_typed s c at (cast c x.work at t x.operand) (made_behind s c x.work (cast c x.work at t x.operand)
      (growing.cast_in c x.work at t (form_in t) x.operand) (λ r. casts_stand s c x.work at t x.operand h i (p r)))

  functional_means : (at : At) (t : Typ) (xs : TypedAll) → Holds s c xs.work → IsSound c.classes t → (Reaches s xs.work → ProperOperands s c xs.operands)
      → On (TypedMeans s c) (rules.an_operand at (functional c xs.work at t xs.operands))
  functional_means at t xs h i p = made_typed s c at (functional c xs.work at t xs.operands) (made_behind s c xs.work (functional c xs.work at t xs.operands)
      (growing.functional c xs.work at t xs.operands) (λ r. functionals_stand s c xs.work at t xs.operands h i (p r)))

  row_means : (kind : NodeKind) (at : At) (t : ℕ) (xs : TypedAll) → Holds s c xs.work → is_empty (spelling lexemes t) ≡ false
      → (Reaches s xs.work → ProperOperands s c xs.operands) → On (TypedMeans s c) (rules.row_of lexemes c xs.work kind at t xs.operands)
  row_means kind at t xs h n p = typed_behind s c xs.work (rules.row_of lexemes c xs.work kind at t xs.operands)
      (growing.row_of lexemes c xs.work kind at t xs.operands) (λ r. all_rows lexemes s c xs.work kind at t xs.operands h n (p r))

  mutual
    pub of_expression : (l : List Closure) (w : Work) (e : syntax.Tree) → Holds s c w → ClosuresHold c l → is_spelled lexemes e ≡ true
        → On (TypedMeans s c) (rules.expression_with lexemes c l w e)
    of_expression l w (syntax.node k.ParenthesizedExpression p token (syntax.more e syntax.none)) h g i =
        bind (TypedMeans s c) (TypedMeans s c) (rules.expression_with lexemes c l w e) _
        (of_expression l w e h g (and_parts (is_spelled lexemes e) true (and_parts (is_spelled_token lexemes token) _ i).1).0)
        (λ x m. (λ r. record { means = (m r).means; zero = (m r).zero }))
    of_expression l w (syntax.node k.FunctionCall p token (syntax.more f es)) h g i =
        let j = and_parts (is_spelled lexemes f) (are_spelled lexemes es) (and_parts (is_spelled_token lexemes token) _ i).1 in
        bind (IsTyped s c w) (TypedMeans s c) (rules.expression_with lexemes c l w f) _
        (typed_is s c w (rules.expression_with lexemes c l w f) (growing.expression lexemes c l w f) (of_expression l w f h g j.0))
        (λ x y. bind (AreTyped s c x.work) (TypedMeans s c) (rules.operands_with lexemes c l x.work es) _
        (all_typed s c x.work (rules.operands_with lexemes c l x.work es) (growing.operands lexemes c l x.work es)
        (of_operands l x.work es (held s c w x.work y.behind h) g j.1))
        (λ xs z. call_means w (at_of p) x.operand xs (held s c w xs.work (after y.behind z.behind) h)
        (λ r. y.means (reached s x.work xs.work z.behind r)) z.proper))
    of_expression l w (syntax.node k.FunctionalCast p token (syntax.more base es)) h g i =
        let j = and_parts (is_spelled lexemes base) (are_spelled lexemes es) (and_parts (is_spelled_token lexemes token) _ i).1 in
        bind (AreSpecifiers c.classes) (TypedMeans s c) (rules.specified_with lexemes c l w no_specifiers base) _
        (written.specified lexemes s c w h l w no_specifiers base tt)
        (λ d y. bind (IsSound c.classes) (TypedMeans s c) (and_then (specified_type (at_of p) d) (rules.written_type (at_of p))) _
        (named_type c (at_of p) (specified_type (at_of p) d) (written.specified_type c.classes (at_of p) d y))
        (λ t z. bind (AreTyped s c w) (TypedMeans s c) (rules.operands_with lexemes c l w es) _
        (all_typed s c w (rules.operands_with lexemes c l w es) (growing.operands lexemes c l w es) (of_operands l w es h g j.1))
        (λ xs m. functional_means (at_of p) t xs (held s c w xs.work m.behind h) z m.proper)))
    of_expression l w (syntax.node k.StaticCast p token (syntax.more t (syntax.more e syntax.none))) h g i =
        let j = and_parts (is_spelled lexemes t) _ (and_parts (is_spelled_token lexemes token) _ i).1 in
        bind (IsSound c.classes) (TypedMeans s c) (and_then (rules.type_id_with lexemes c l w t) (rules.written_type (at_of p))) _
        (named_type c (at_of p) (rules.type_id_with lexemes c l w t) (written.type_id lexemes s c w h l w t))
        (λ u y. bind (IsChosen s c w) (TypedMeans s c) (and_then (rules.expression_with lexemes c l w e) (rules.chosen_operand c)) _
        (chosen s c w (rules.expression_with lexemes c l w e) h (typed_is s c w (rules.expression_with lexemes c l w e) (growing.expression lexemes c l w e)
        (of_expression l w e h g (and_parts (is_spelled lexemes e) true j.1).0)))
        (λ x z. cast_means (at_of p) u x (held s c w x.work z.behind h) y z.proper))
    of_expression l w (syntax.node k.CastExpression p token (syntax.more t (syntax.more e syntax.none))) h g i =
        let j = and_parts (is_spelled lexemes t) _ (and_parts (is_spelled_token lexemes token) _ i).1 in
        bind (IsSound c.classes) (TypedMeans s c) (and_then (rules.type_id_with lexemes c l w t) (rules.written_type (at_of p))) _
        (named_type c (at_of p) (rules.type_id_with lexemes c l w t) (written.type_id lexemes s c w h l w t))
        (λ u y. bind (IsChosen s c w) (TypedMeans s c) (and_then (rules.expression_with lexemes c l w e) (rules.chosen_operand c)) _
        (chosen s c w (rules.expression_with lexemes c l w e) h (typed_is s c w (rules.expression_with lexemes c l w e) (growing.expression lexemes c l w e)
        (of_expression l w e h g (and_parts (is_spelled lexemes e) true j.1).0)))
        (λ x z. cast_means (at_of p) u x (held s c w x.work z.behind h) y z.proper))
    of_expression l w (syntax.node k.SizeofExpression p token (syntax.more e syntax.none)) h g i =
        skip (TypedMeans s c) (and_then (rules.expression_with lexemes c [] w e) (rules.chosen_operand c)) _
        (λ x. tree_typed s c (at_of p) w (size_literal c (at_of p) x.operand.at (typ_in x.operand.tree))
        (sizes_stand s c (at_of p) x.operand.at (typ_in x.operand.tree)))
    of_expression l w (syntax.node k.SizeofType p token (syntax.more t syntax.none)) h g i =
        skip (TypedMeans s c) (and_then (rules.type_id_with lexemes c [] w t) (rules.written_type (at_of p))) _
        (λ u. tree_typed s c (at_of p) w (size_literal c (at_of p) (at_of p) u) (sizes_stand s c (at_of p) (at_of p) u))
    of_expression l w (syntax.node k.Lambda p token kids) h g i = made_typed s c (at_of p) (rules.closure_object c l w (at_of p)) (closures_stand s c l w (at_of p) h g)
    of_expression l w (syntax.node k.QualifiedId p (Some m) (syntax.more (syntax.node kind q (Some t) kids) syntax.none)) h g i =
        tree_means s c (at_of p) w (rules.qualified_name c w (at_of p) (spelling lexemes t) (spelling lexemes m))
        (λ r. qualified_means s c w (at_of p) (spelling lexemes t) (spelling lexemes m) h r)
    of_expression l w (syntax.node kind p (Some t) syntax.none) h g i =
        leaf_or_row w kind (at_of p) t h (not_true (is_empty (spelling lexemes t)) (and_parts (not (is_empty (spelling lexemes t))) true i).0)
    of_expression l w (syntax.node kind p (Some t) kids) h g i =
        let j = and_parts (not (is_empty (spelling lexemes t))) (are_spelled lexemes kids) i in
        bind (AreTyped s c w) (TypedMeans s c) (rules.operands_with lexemes c l w kids) _
        (all_typed s c w (rules.operands_with lexemes c l w kids) (growing.operands lexemes c l w kids) (of_operands l w kids h g j.1))
        (λ xs m. row_means kind (at_of p) t xs (held s c w xs.work m.behind h) (not_true (is_empty (spelling lexemes t)) j.0) m.proper)
    of_expression l w (syntax.node kind p None kids) h g i = tt

    pub of_operands : (l : List Closure) (w : Work) (es : syntax.Trees) → Holds s c w → ClosuresHold c l → are_spelled lexemes es ≡ true
        → On (λ (x : TypedAll). Reaches s x.work → ProperOperands s c x.operands) (rules.operands_with lexemes c l w es)
    of_operands l w syntax.none h g i = λ r. ProperOperands.none
    of_operands l w (syntax.more t ts) h g i =
        let j = and_parts (is_spelled lexemes t) (are_spelled lexemes ts) i in
        bind (IsChosen s c w) (λ (x : TypedAll). Reaches s x.work → ProperOperands s c x.operands)
        (and_then (rules.expression_with lexemes c l w t) (rules.chosen_operand c)) _
        (chosen s c w (rules.expression_with lexemes c l w t) h
        (typed_is s c w (rules.expression_with lexemes c l w t) (growing.expression lexemes c l w t) (of_expression l w t h g j.0)))
        (λ x y. bind (AreTyped s c x.work) (λ (x : TypedAll). Reaches s x.work → ProperOperands s c x.operands) (rules.operands_with lexemes c l x.work ts) _
        (all_typed s c x.work (rules.operands_with lexemes c l x.work ts) (growing.operands lexemes c l x.work ts)
        (of_operands l x.work ts (held s c w x.work y.behind h) g j.1))
        (λ xs z. (λ r. ProperOperands.more (y.proper (reached s x.work xs.work z.behind r)) (z.proper r))))

pub chosen_law : (lexemes : List Lexeme) (s : Setting) (c : Ctx) (l : List Closure) (w : Work) (e : syntax.Tree) → Holds s c w → ClosuresHold c l
    → is_spelled lexemes e ≡ true → On (TypedStands s c) (and_then (rules.expression_with lexemes c l w e) (rules.chosen_operand c))
chosen_law lexemes s c l w e h g i = chosen_stands s c w (and_then (rules.expression_with lexemes c l w e) (rules.chosen_operand c))
    (chosen s c w (rules.expression_with lexemes c l w e) h (typed_is s c w (rules.expression_with lexemes c l w e) (growing.expression lexemes c l w e)
    (of_expression lexemes s c l w e h g i)))
