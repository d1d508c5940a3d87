-- Enumerators, as steps.
use Rattle.std.proofs.Common.{◌≡◌, ◌∙◌, ℕ, ℤ, pos, Bool, List, length, Option, Some, None, is_none, Result, Ok, Err, refl, sym, ap}
use Rattle.elab_expr.specs.cpp_lex.Tokens.{Lexeme}
use Rattle.elab_expr.specs.cpp_ast.Trees as syntax
use Rattle.elab_expr.specs.cpp_ast.declared.arena.At.{At as SyntaxAt}
use Rattle.elab_expr.specs.cpp_ast.declared.kinds.NodeKind.{NodeKind}
use Rattle.cpp_types.specs.Typ.{Typ, enum}
use Rattle.cpp_types.specs.declared.classes.At.{At}
use Rattle.elab_expr.specs.cpp_tree.declared.faults.ElabFault.{ElabFault}
use Rattle.elab_expr.specs.cpp_tree.declared.faults.IllRule.TheVariants.{Redeclared}
use Rattle.elab_expr.specs.cpp_tree.Notation.{plain}
use Rattle.elab_expr.specs.elab_ctx.Ctx.{Ctx, Work}
use Rattle.elab_expr.specs.elab_ctx.Says.{Faults}
use Rattle.elab_expr.specs.elab_ctx.Steps.{and_then, check, Typed, at_of, spelling}
use Rattle.elab_expr.specs.elab_rules.Expressions.{expression_of, chosen_operand}
use Rattle.elab_expr.specs.elab_rules.Statements.{State}
use Rattle.elab_expr.specs.elab_rules.Types.{type_named}
use Rattle.elab_expr.specs.elab_rules.Globals.{Enumerating, enumerator_value, enumerator_made, enumerator_declared, enumerators_declared, with_type, enum_with}
use Rattle.elab_expr.specs.elab_rules.Globals.{closed_enum}
use Rattle.elab_decls.specs.Enums.{Valued, written_value, found_value}
use Rattle.elab_decls.proofs.Steps.{faults_then, faults_after, faults_same}

-- The value that is written

abbrev pub found : ℤ → At → Result Valued ElabFault
found n at = Ok (record { value = n; at = at })

module _ (s : List Lexeme) (c : Ctx) (w : Work) (at : At) (t : syntax.Tree) (o : Typed) (h : and_then (expression_of s c w t) (chosen_operand c) ≡ Ok o) where
  pub value_fails : (e : ElabFault) → Faults e (enumerator_value at w o.operand) → Faults e (written_value s c w at t)
  value_fails e f = faults_after e (and_then (expression_of s c w t) (chosen_operand c)) o
      (λ (x : Typed). and_then (enumerator_value at w x.operand) (λ (n : ℤ). Ok (record { value = n; at = x.operand.at }))) h
      (faults_then e (enumerator_value at w o.operand) (λ (n : ℤ). Ok (record { value = n; at = o.operand.at })) f)

  pub value_is : (n : ℤ) → enumerator_value at w o.operand ≡ Ok n → written_value s c w at t ≡ Ok (record { value = n; at = o.operand.at })
  value_is n f = ap (λ (z : Result Typed ElabFault). and_then z
      (λ (x : Typed). and_then (enumerator_value at w x.operand) (λ (m : ℤ). Ok (record { value = m; at = x.operand.at })))) h
      ∙ ap (λ (z : Result ℤ ElabFault). and_then z (λ (m : ℤ). Ok (record { value = m; at = o.operand.at }))) f

-- An enumerator by its value

one_more : {B C : Type 0} (x : Result B ElabFault) (f : B → C) (g : C → Result Enumerating ElabFault)
    → and_then x (λ (n : B). g (f n)) ≡ and_then (and_then x (λ (n : B). Ok (f n))) g
one_more (Err e) f g = refl
one_more (Ok n) f g = refl

two : {A B C : Type 0} (x : Result A ElabFault) (y : A → Result B ElabFault) (f : A → B → C) (g : C → Result Enumerating ElabFault)
    → and_then x (λ (o : A). and_then (y o) (λ (n : B). g (f o n))) ≡ and_then (and_then x (λ (o : A). and_then (y o) (λ (n : B). Ok (f o n)))) g
two (Err e) y f g = refl
two (Ok o) y f g = one_more (y o) (f o) g

abbrev made_of : List Lexeme → Bool → List ℕ → State → At → ℕ → Valued → Result Enumerating ElabFault
made_of s scoped e st at n v = enumerator_made scoped e st at v.at (spelling s n) v.value

pub by_value : (s : List Lexeme) (scoped : Bool) (e : List ℕ) (x : Enumerating) (kind : NodeKind) (p : SyntaxAt) (n : ℕ) (kids : syntax.Trees)
    → enumerator_declared s scoped e x (syntax.node kind p (Some n) kids)
    ≡ and_then (found_value s x.state.ctx x.state.work (at_of p) x.next kids)
    (λ (v : Valued). enumerator_made scoped e x.state (at_of p) v.at (spelling s n) v.value)
by_value s scoped e x kind p n syntax.none = refl
by_value s scoped e x kind p n (syntax.more t ts) = two (and_then (expression_of s x.state.ctx x.state.work t) (chosen_operand x.state.ctx))
    (λ (o : Typed). enumerator_value (at_of p) x.state.work o.operand) (λ (o : Typed) (m : ℤ). record { value = m; at = o.operand.at })
    (made_of s scoped e x.state (at_of p) n)

module _ (s : List Lexeme) (scoped : Bool) (e : List ℕ) (x : Enumerating) (kind : NodeKind) (p : SyntaxAt) (o : Option ℕ) (n : ℕ) (kids : syntax.Trees)
    (t : syntax.Tree) (at : At) (h : t ≡ syntax.node kind p o kids) (g : o ≡ Some n) (k : at ≡ at_of p) where
  as_found : enumerator_declared s scoped e x t ≡ and_then (found_value s x.state.ctx x.state.work at x.next kids) (made_of s scoped e x.state at n)
  as_found = ap (enumerator_declared s scoped e x) h ∙ ap (λ (z : Option ℕ). enumerator_declared s scoped e x (syntax.node kind p z kids)) g
      ∙ by_value s scoped e x kind p n kids
      ∙ ap (λ (z : At). and_then (found_value s x.state.ctx x.state.work z x.next kids) (made_of s scoped e x.state z n)) (sym k)

  pub found_fails : (f : ElabFault) → Faults f (found_value s x.state.ctx x.state.work at x.next kids) → Faults f (enumerator_declared s scoped e x t)
  found_fails f r = faults_same f (and_then (found_value s x.state.ctx x.state.work at x.next kids) (made_of s scoped e x.state at n))
      (enumerator_declared s scoped e x t) as_found (faults_then f (found_value s x.state.ctx x.state.work at x.next kids) (made_of s scoped e x.state at n) r)

  pub found_is : (v : Valued) (name : List ℕ) → found_value s x.state.ctx x.state.work at x.next kids ≡ Ok v → name ≡ spelling s n
      → enumerator_declared s scoped e x t ≡ enumerator_made scoped e x.state at v.at name v.value
  found_is v name r q = as_found ∙ ap (λ (z : Result Valued ElabFault). and_then z (made_of s scoped e x.state at n)) r
      ∙ ap (λ (z : List ℕ). enumerator_made scoped e x.state at v.at z v.value) (sym q)

-- Enumerators, one behind the other

module _ (s : List Lexeme) (scoped : Bool) (e : List ℕ) (x : Enumerating) (t : syntax.Tree) (ts left : syntax.Trees) (all : Result Enumerating ElabFault)
    (h : all ≡ enumerators_declared s scoped e x left) (g : left ≡ syntax.more t ts) where
  pub next_is : (y : Enumerating) → enumerator_declared s scoped e x t ≡ Ok y → all ≡ enumerators_declared s scoped e y ts
  next_is y f = h ∙ ap (enumerators_declared s scoped e x) g
      ∙ ap (λ (z : Result Enumerating ElabFault). and_then z (λ (y : Enumerating). enumerators_declared s scoped e y ts)) f

  pub next_fails : (f : ElabFault) → Faults f (enumerator_declared s scoped e x t) → Faults f all
  next_fails f r = faults_same f (enumerators_declared s scoped e x (syntax.more t ts)) all (h ∙ ap (enumerators_declared s scoped e x) g)
      (faults_then f (enumerator_declared s scoped e x t) (λ (y : Enumerating). enumerators_declared s scoped e y ts) r)

-- An enum

pub enum_is : (s : List Lexeme) (st : State) (at : At) (name : List ℕ) (scoped : Bool) (ts : syntax.Trees) (c : Ctx) (n : ℕ) (u : Typ) (x : Enumerating)
    → type_named name st.ctx.types ≡ None → c ≡ with_type st.ctx name (plain (enum name scoped)) → n ≡ length c.enumerators → u ≡ plain (enum name scoped) →
    enumerators_declared s scoped name (record { state = record st { ctx = c }; next = pos 0 }) ts ≡ Ok x
    → enum_with s st at name scoped ts ≡ Ok (closed_enum n u x.state)
enum_is s st at name scoped ts c n u x f g k l r =
    let count : n ≡ length st.ctx.enumerators = k ∙ ap (λ (z : Ctx). length z.enumerators) g in
    ap (λ (z : Option Typ). and_then (check at Redeclared (is_none z))
    (λ y. and_then (enumerators_declared s scoped name
    (record { state = record st { ctx = with_type st.ctx name (plain (enum name scoped)) }; next = pos 0 }) ts)
    (λ (y : Enumerating). Ok (closed_enum (length st.ctx.enumerators) (plain (enum name scoped)) y.state)))) f
    ∙ ap (λ (z : Ctx). and_then (enumerators_declared s scoped name (record { state = record st { ctx = z }; next = pos 0 }) ts)
    (λ (y : Enumerating). Ok (closed_enum (length st.ctx.enumerators) (plain (enum name scoped)) y.state))) (sym g)
    ∙ ap (λ (z : Result Enumerating ElabFault). and_then z
    (λ (y : Enumerating). Ok (closed_enum (length st.ctx.enumerators) (plain (enum name scoped)) y.state))) r
    ∙ ap (λ (z : ℕ). Ok (closed_enum z (plain (enum name scoped)) x.state)) (sym count)
    ∙ ap (λ (z : Typ). Ok (closed_enum n z x.state)) (sym l)
