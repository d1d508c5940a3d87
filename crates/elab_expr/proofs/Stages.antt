-- Steps of expressions, one behind the other.
use Rattle.std.proofs.Common.{◌≡◌, ◌<◌, ℕ, true, nat_lt, lt-ltb, List, [], ◌∷◌, length, take, vec_len, Result, Ok, Err, refl, sym, ap, ◌∙◌, subst}
use Rattle.std.proofs.lemmas.Bool.{and_parts, ltb-true}
use Rattle.std.specs.Prelude.{Vec}
use Rattle.std.specs.declared.alloc.Global.{Global}
use Rattle.elab_rows.specs.cpp_lex.Tokens.{Lexeme}
use Rattle.elab_rows.specs.cpp_types.Typ.{Typ, typ_of}
use Rattle.elab_rows.specs.cpp_types.declared.classes.At.{At}
use Rattle.elab_rows.specs.cpp_ast.declared.kinds.NodeKind.{NodeKind}
use Rattle.elab_rows.specs.cpp_ast.Trees as syntax
use Rattle.elab_rows.specs.cpp_tree.declared.faults.ElabFault.{ElabFault}
use Rattle.elab_rows.specs.cpp_tree.Trees.{Tree, typ_in}
use Rattle.elab_rows.specs.cpp_tree.Units.{global_of}
use Rattle.elab_rows.specs.cpp_tree.Arena.{tree_at, Grows}
use Rattle.elab_rows.specs.elab_ctx.Ctx.{Ctx, Work, Closure, work_of}
use Rattle.elab_rows.specs.elab_ctx.declared.env.Work.{Work as WorkRec}
use Rattle.elab_rows.specs.elab_ctx.Steps.{and_then, Operand, Typed, TypedAll}
use Rattle.elab_rows.specs.elab_ctx.Operands.{operand_in, operands_in, are_in}
use Rattle.elab_rows.specs.elab_ctx.Says.{Faults}
use Rattle.elab_rows.specs.elab_ctx.declared.operand.Operand.{Operand as OperandRec}
use Rattle.elab_rows.proofs.elab_ctx.Looks.{grows_trans, at_grown, within_grown}
use Rattle.elab_rows.proofs.elab_ctx.Making.{faults_in, faults_same}
use Rattle.elab_rows.specs.elab_rules.Calls.{call}
use Rattle.elab_rows.specs.elab_rules.Casts.{cast, functional, size_literal}
use Rattle.elab_rows.specs.elab_rules.Types.{Specifiers, no_specifiers, specified_type}
use Rattle.elab_rows.specs.elab_rules.Expressions.{expression_with, operands_with, specified_with, type_id_with, chosen_operand, an_operand, a_tree, row_of}
use Rattle.elab_rows.specs.elab_rules.Expressions.{written_type}
use Rattle.elab_rows.specs.Typed.{TypedAt, Types, AllTyped, TypesAll}
use Rattle.elab_growth.proofs.Kept.{chosen_follows, cut_again, shown_length}
use Rattle.elab_expr.proofs.FormRows.{over_row, wrapped, call_row_of, values_row, functional_row_of, value_row, cast_row_of, size_row, type_row}

-- Answers

pub types_same : (a b : List Tree) (w : Work) (r : Result OperandRec ElabFault) (x y : Result Typed ElabFault) → y ≡ x → Types a b w r x → Types a b w r y
types_same a b w r x y e m = subst (λ (z : Result Typed ElabFault). Types a b w r z) (sym e) m

pub refused_typed : (a b : List Tree) (w : Work) (r : Result OperandRec ElabFault) (e : ElabFault) (x y : Result Typed ElabFault) → r ≡ Err e → y ≡ x
    → Faults e x → Types a b w r y
refused_typed a b w r e x y h g f = subst (λ (z : Result OperandRec ElabFault). Types a b w z y) (sym h) (faults_same e x y g f)

pub refused_all_typed : (a b : List Tree) (w : Work) (r : Result (Vec OperandRec Global) ElabFault) (e : ElabFault) (x : Result TypedAll ElabFault) → r ≡ Err e
    → Faults e x → TypesAll a b w r x
refused_all_typed a b w r e x h f = subst (λ (z : Result (Vec OperandRec Global) ElabFault). TypesAll a b w z x) (sym h) f

-- what follows an expression
pub typed_after : (a b d : List Tree) (w1 w2 : Work) (o : OperandRec) (r : Result OperandRec ElabFault) (x : Result Typed ElabFault)
    (f : Typed → Result Typed ElabFault) → TypedAt a b w1 o x → Types b d w2 r (f (record { operand = operand_in b o; work = w1 }))
    → Types a d w2 r (and_then x f)
typed_after a b d w1 w2 o (Ok q) x f m n = record {
  grows = grows_trans m.grows n.grows;
  within = n.within;
  is = ap
      (λ (z : Result Typed ElabFault). and_then z f) m.is ∙ n.is;
}
typed_after a b d w1 w2 o (Err e) x f m n = faults_same e (f (record { operand = operand_in b o; work = w1 })) (and_then x f)
    (ap (λ (z : Result Typed ElabFault). and_then z f) m.is) n

-- what follows several of them
pub all_after : (a b d : List Tree) (w1 w2 : Work) (os : List OperandRec) (r : Result OperandRec ElabFault) (x : Result TypedAll ElabFault)
    (f : TypedAll → Result Typed ElabFault) → AllTyped a b w1 os x → Types b d w2 r (f (record { operands = operands_in b os; work = w1 }))
    → Types a d w2 r (and_then x f)
all_after a b d w1 w2 os (Ok q) x f m n = record {
  grows = grows_trans m.grows n.grows;
  within = n.within;
  is = ap
      (λ (z : Result TypedAll ElabFault). and_then z f) m.is ∙ n.is;
}
all_after a b d w1 w2 os (Err e) x f m n = faults_same e (f (record { operands = operands_in b os; work = w1 })) (and_then x f)
    (ap (λ (z : Result TypedAll ElabFault). and_then z f) m.is) n

-- a fault of an earlier step
pub first_fault : {A B : Type 0} (e : ElabFault) (x : Result A ElabFault) (f : A → Result B ElabFault) → Faults e x → Faults e (and_then x f)
first_fault e x f h = faults_in (λ (z : Result _ ElabFault). and_then z f) e x (λ d. refl) h

-- a fault of a later one
pub later_fault : {A B : Type 0} (e : ElabFault) (x : Result A ElabFault) (a : A) (f : A → Result B ElabFault) → x ≡ Ok a → Faults e (f a)
    → Faults e (and_then x f)
later_fault e x a f g h = faults_same e (f a) (and_then x f) (ap (λ (z : Result _ ElabFault). and_then z f) g) h

-- Operands stay what they are when the list of nodes grows

pub operand_kept : (old new : List Tree) (o : OperandRec) → Grows old new → o.id.0 < length old → operand_in new o ≡ operand_in old o
operand_kept old new o g h = ap (λ (z : Tree). record { tree = z; at = o.at; zero = o.zero }) (at_grown old new o.id g h)

pub operands_kept : (old new : List Tree) (os : List OperandRec) → Grows old new → are_in (length old) os ≡ true → operands_in new os ≡ operands_in old os
operands_kept old new [] g h = refl
operands_kept old new (o ∷ os) g h =
    let p = and_parts (nat_lt o.id.0 (length old)) (are_in (length old) os) h in
    let first : operand_in new o ≡ operand_in old o = operand_kept old new o g (ltb-true o.id.0 (length old) p.0) in
    let others : operands_in new os ≡ operands_in old os = operands_kept old new os g p.1 in
    rw (first, others) refl

pub are_in_grown : (old new : List Tree) (os : List OperandRec) → Grows old new → are_in (length old) os ≡ true → are_in (length new) os ≡ true
are_in_grown old new [] g h = refl
are_in_grown old new (o ∷ os) g h =
    let p = and_parts (nat_lt o.id.0 (length old)) (are_in (length old) os) h in
    let first : nat_lt o.id.0 (length new) ≡ true = lt-ltb o.id.0 (length new) (within_grown old new o.id g (ltb-true o.id.0 (length old) p.0)) in
    let others : are_in (length new) os ≡ true = are_in_grown old new os g p.1 in
    rw (first, others) refl

-- Forms

-- `(e)`
pub wrapped_typed : (a b : List Tree) (w : Work) (o : OperandRec) (at here : At) (x : Result Typed ElabFault) → TypedAt a b w o x → here ≡ at
    → TypedAt a b w (record { id = o.id; at = here; zero = o.zero }) (wrapped at x)
wrapped_typed a b w o at here x m e = record {
  grows = m.grows;
  within = m.within;
  is = ap (wrapped at) m.is ∙ ap
      (λ (z : At). Ok (record { operand = record { tree = tree_at b o.id; at = z; zero = o.zero }; work = w })) (sym e);
}

-- a row over operands
pub over_typed : (s : List Lexeme) (c : Ctx) (l : List Closure) (w w1 w2 : Work) (kind : NodeKind) (at : At) (n : ℕ) (es : syntax.Trees) (a b d : List Tree)
    (os : List OperandRec) (r : Result OperandRec ElabFault) → AllTyped a b w1 os (operands_with s c l w es)
    → Types b d w2 r (row_of s c w1 kind at n (operands_in b os)) → Types a d w2 r (over_row s c l w kind at n es)
over_typed s c l w w1 w2 kind at n es a b d os r m t =
    all_after a b d w1 w2 os r (operands_with s c l w es) (λ (xs : TypedAll). row_of s c xs.work kind at n xs.operands) m t

pub over_fault : (s : List Lexeme) (c : Ctx) (l : List Closure) (w : Work) (kind : NodeKind) (at : At) (n : ℕ) (es : syntax.Trees) (e : ElabFault)
    → Faults e (operands_with s c l w es) → Faults e (over_row s c l w kind at n es)
over_fault s c l w kind at n es e h = first_fault e (operands_with s c l w es) (λ (xs : TypedAll). row_of s c xs.work kind at n xs.operands) h

-- a call
pub call_typed : (s : List Lexeme) (c : Ctx) (l : List Closure) (w w1 w2 w3 : Work) (at : At) (f : syntax.Tree) (es : syntax.Trees) (n0 n1 n2 n3 : List Tree)
    (o : OperandRec) (os : List OperandRec) (r : Result OperandRec ElabFault) → TypedAt n0 n1 w1 o (expression_with s c l w f)
    → AllTyped n1 n2 w2 os (operands_with s c l w1 es) → Types n2 n3 w3 r (an_operand at (call c w2 at (operand_in n2 o) (operands_in n2 os)))
    → Types n0 n3 w3 r (call_row_of s c l w at f es)
call_typed s c l w w1 w2 w3 at f es n0 n1 n2 n3 o os r m a t =
    let same : operand_in n2 o ≡ operand_in n1 o = operand_kept n1 n2 o a.grows m.within in
    let last : Types n2 n3 w3 r (an_operand at (call c w2 at (operand_in n1 o) (operands_in n2 os))) =
    subst (λ (z : Operand). Types n2 n3 w3 r (an_operand at (call c w2 at z (operands_in n2 os)))) same t in
    typed_after n0 n1 n3 w1 w3 o r (expression_with s c l w f)
    (λ (x : Typed). and_then (operands_with s c l x.work es) (λ (xs : TypedAll). an_operand at (call c xs.work at x.operand xs.operands))) m
    (all_after n1 n2 n3 w2 w3 os r (operands_with s c l w1 es) (λ (xs : TypedAll). an_operand at (call c xs.work at (operand_in n1 o) xs.operands)) a last)

pub callee_fault : (s : List Lexeme) (c : Ctx) (l : List Closure) (w : Work) (at : At) (f : syntax.Tree) (es : syntax.Trees) (e : ElabFault)
    → Faults e (expression_with s c l w f) → Faults e (call_row_of s c l w at f es)
callee_fault s c l w at f es e h = first_fault e (expression_with s c l w f)
    (λ (x : Typed). and_then (operands_with s c l x.work es) (λ (xs : TypedAll). an_operand at (call c xs.work at x.operand xs.operands))) h

pub argument_fault : (s : List Lexeme) (c : Ctx) (l : List Closure) (w w1 : Work) (at : At) (f : syntax.Tree) (es : syntax.Trees) (n0 n1 : List Tree)
    (o : OperandRec) (e : ElabFault) → TypedAt n0 n1 w1 o (expression_with s c l w f) → Faults e (operands_with s c l w1 es)
    → Faults e (call_row_of s c l w at f es)
argument_fault s c l w w1 at f es n0 n1 o e m h =
    later_fault e (expression_with s c l w f) (record { operand = operand_in n1 o; work = w1 })
    (λ (x : Typed). and_then (operands_with s c l x.work es) (λ (xs : TypedAll). an_operand at (call c xs.work at x.operand xs.operands))) m.is
    (first_fault e (operands_with s c l w1 es) (λ (xs : TypedAll). an_operand at (call c xs.work at (operand_in n1 o) xs.operands)) h)

-- a type and values in parentheses
functional_by : (s : List Lexeme) (c : Ctx) (l : List Closure) (w : Work) (at : At) (base : syntax.Tree) (es : syntax.Trees) (d : Specifiers) (t : Typ)
    → specified_with s c l w no_specifiers base ≡ Ok d → and_then (specified_type at d) (written_type at) ≡ Ok t
    → functional_row_of s c l w at base es ≡ values_row s c l w at t es
functional_by s c l w at base es d t h g = ap (λ (z : Result Specifiers ElabFault). and_then z
    (λ (y : Specifiers). and_then (and_then (specified_type at y) (written_type at)) (λ (u : Typ). values_row s c l w at u es))) h
    ∙ ap (λ (z : Result Typ ElabFault). and_then z (λ (u : Typ). values_row s c l w at u es)) g

pub functional_typed : (s : List Lexeme) (c : Ctx) (l : List Closure) (w v w1 w2 : Work) (at : At) (base : syntax.Tree) (es : syntax.Trees) (d : Specifiers)
    (t : Typ) (n0 n n1 n2 : List Tree) (os : List OperandRec) (r : Result OperandRec ElabFault) → v ≡ w → n ≡ n0
    → specified_with s c l w no_specifiers base ≡ Ok d → and_then (specified_type at d) (written_type at) ≡ Ok t
    → AllTyped n n1 w1 os (operands_with s c l v es) → Types n1 n2 w2 r (an_operand at (functional c w1 at t (operands_in n1 os)))
    → Types n0 n2 w2 r (functional_row_of s c l w at base es)
functional_typed s c l w v w1 w2 at base es d t n0 n n1 n2 os r k a h g m q =
    types_same n0 n2 w2 r (values_row s c l w at t es) (functional_row_of s c l w at base es) (functional_by s c l w at base es d t h g)
    (all_after n0 n1 n2 w1 w2 os r (operands_with s c l w es) (λ (xs : TypedAll). an_operand at (functional c xs.work at t xs.operands))
    (subst (λ (z : Work). AllTyped n0 n1 w1 os (operands_with s c l z es)) k
    (subst (λ (z : List Tree). AllTyped z n1 w1 os (operands_with s c l v es)) a m)) q)

pub base_fault : (s : List Lexeme) (c : Ctx) (l : List Closure) (w : Work) (at : At) (base : syntax.Tree) (es : syntax.Trees) (e : ElabFault)
    → Faults e (specified_with s c l w no_specifiers base) → Faults e (functional_row_of s c l w at base es)
base_fault s c l w at base es e h = first_fault e (specified_with s c l w no_specifiers base)
    (λ (y : Specifiers). and_then (and_then (specified_type at y) (written_type at)) (λ (u : Typ). values_row s c l w at u es)) h

pub made_type_fault : (s : List Lexeme) (c : Ctx) (l : List Closure) (w : Work) (at : At) (base : syntax.Tree) (es : syntax.Trees) (d : Specifiers)
    (e : ElabFault) → specified_with s c l w no_specifiers base ≡ Ok d → Faults e (and_then (specified_type at d) (written_type at))
    → Faults e (functional_row_of s c l w at base es)
made_type_fault s c l w at base es d e h g =
    later_fault e (specified_with s c l w no_specifiers base) d
    (λ (y : Specifiers). and_then (and_then (specified_type at y) (written_type at)) (λ (u : Typ). values_row s c l w at u es)) h
    (first_fault e (and_then (specified_type at d) (written_type at)) (λ (u : Typ). values_row s c l w at u es) g)

pub value_fault : (s : List Lexeme) (c : Ctx) (l : List Closure) (w v : Work) (at : At) (base : syntax.Tree) (es : syntax.Trees) (d : Specifiers) (t : Typ)
    (e : ElabFault) → v ≡ w → specified_with s c l w no_specifiers base ≡ Ok d → and_then (specified_type at d) (written_type at) ≡ Ok t
    → Faults e (operands_with s c l v es) → Faults e (functional_row_of s c l w at base es)
value_fault s c l w v at base es d t e k h g q =
    faults_same e (values_row s c l w at t es) (functional_row_of s c l w at base es) (functional_by s c l w at base es d t h g)
    (first_fault e (operands_with s c l w es) (λ (xs : TypedAll). an_operand at (functional c xs.work at t xs.operands))
    (subst (λ (z : Work). Faults e (operands_with s c l z es)) k q))

-- casts
pub cast_typed : (s : List Lexeme) (c : Ctx) (l : List Closure) (w v w1 w2 : Work) (at : At) (t e : syntax.Tree) (u : Typ) (n0 n n1 n2 : List Tree)
    (o : OperandRec) (r : Result OperandRec ElabFault) → v ≡ w → n ≡ n0 → and_then (type_id_with s c l w t) (written_type at) ≡ Ok u
    → TypedAt n n1 w1 o (and_then (expression_with s c l v e) (chosen_operand c))
    → Types n1 n2 w2 r (an_operand at (cast c w1 at u (operand_in n1 o))) → Types n0 n2 w2 r (cast_row_of s c l w at t e)
cast_typed s c l w v w1 w2 at t e u n0 n n1 n2 o r k a h m q =
    types_same n0 n2 w2 r (value_row s c l w at u e) (cast_row_of s c l w at t e)
    (ap (λ (z : Result Typ ElabFault). and_then z (λ (y : Typ). value_row s c l w at y e)) h)
    (typed_after n0 n1 n2 w1 w2 o r (and_then (expression_with s c l w e) (chosen_operand c)) (λ (x : Typed). an_operand at (cast c x.work at u x.operand))
    (subst (λ (z : Work). TypedAt n0 n1 w1 o (and_then (expression_with s c l z e) (chosen_operand c))) k
    (subst (λ (z : List Tree). TypedAt z n1 w1 o (and_then (expression_with s c l v e) (chosen_operand c))) a m)) q)

pub cast_type_fault : (s : List Lexeme) (c : Ctx) (l : List Closure) (w : Work) (at : At) (t e : syntax.Tree) (f : ElabFault)
    → Faults f (and_then (type_id_with s c l w t) (written_type at)) → Faults f (cast_row_of s c l w at t e)
cast_type_fault s c l w at t e f h = first_fault f (and_then (type_id_with s c l w t) (written_type at)) (λ (y : Typ). value_row s c l w at y e) h

pub cast_value_fault : (s : List Lexeme) (c : Ctx) (l : List Closure) (w v : Work) (at : At) (t e : syntax.Tree) (u : Typ) (f : ElabFault)
    → v ≡ w → and_then (type_id_with s c l w t) (written_type at) ≡ Ok u → Faults f (and_then (expression_with s c l v e) (chosen_operand c))
    → Faults f (cast_row_of s c l w at t e)
cast_value_fault s c l w v at t e u f k g h =
    later_fault f (and_then (type_id_with s c l w t) (written_type at)) u (λ (y : Typ). value_row s c l w at y e) g
    (first_fault f (and_then (expression_with s c l w e) (chosen_operand c)) (λ (x : Typed). an_operand at (cast c x.work at u x.operand))
    (subst (λ (z : Work). Faults f (and_then (expression_with s c l z e) (chosen_operand c))) k h))

-- what is made for an operand is cut off again
pub chosen_cut : (s : List Lexeme) (c : Ctx) (l : List Closure) (before made cut : WorkRec) (e : syntax.Tree) (n0 n1 : List Tree) (o : OperandRec) (n k : ℕ)
    → TypedAt n0 n1 (work_of made) o (and_then (expression_with s c l (work_of before) e) (chosen_operand c)) → n ≡ vec_len before.frame
    → k ≡ vec_len before.globals → work_of cut ≡ record { frame = take n (work_of made).frame; globals = take k (work_of made).globals }
    → work_of cut ≡ work_of before
chosen_cut s c l before made cut e n0 n1 o n k m p q h = cut_again (work_of before) (work_of made) (work_of cut) n k
    (chosen_follows s c l (work_of before) e _ m.is) (shown_length typ_of before.frame n p) (shown_length global_of before.globals k q) h

-- sizes
pub size_typed : (s : List Lexeme) (c : Ctx) (w v w1 w2 : Work) (at : At) (e : syntax.Tree) (u : Typ) (n0 n1 a d b : List Tree) (o : OperandRec)
    (r : Result OperandRec ElabFault) → v ≡ w → d ≡ a → TypedAt n0 n1 w1 o (and_then (expression_with s c [] w e) (chosen_operand c))
    → typ_in (tree_at n1 o.id) ≡ u → Types d b w2 r (a_tree at v (size_literal c at o.at u)) → Types a b w2 r (size_row s c w at e)
size_typed s c w v w1 w2 at e u n0 n1 a d b o r h g m q t =
    types_same a b w2 r (a_tree at w (size_literal c at o.at u)) (size_row s c w at e)
    (ap (λ (z : Result Typed ElabFault). and_then z (λ (x : Typed). a_tree at w (size_literal c at x.operand.at (typ_in x.operand.tree)))) m.is
    ∙ ap (λ (z : Typ). a_tree at w (size_literal c at o.at z)) q)
    (subst (λ (z : Work). Types a b w2 r (a_tree at z (size_literal c at o.at u))) h
    (subst (λ (z : List Tree). Types z b w2 r (a_tree at v (size_literal c at o.at u))) g t))

pub size_fault : (s : List Lexeme) (c : Ctx) (w : Work) (at : At) (e : syntax.Tree) (f : ElabFault)
    → Faults f (and_then (expression_with s c [] w e) (chosen_operand c)) → Faults f (size_row s c w at e)
size_fault s c w at e f h = first_fault f (and_then (expression_with s c [] w e) (chosen_operand c))
    (λ (x : Typed). a_tree at w (size_literal c at x.operand.at (typ_in x.operand.tree))) h

pub type_typed : (s : List Lexeme) (c : Ctx) (w v w2 : Work) (at : At) (t : syntax.Tree) (u : Typ) (a d b : List Tree) (r : Result OperandRec ElabFault)
    → v ≡ w → d ≡ a → and_then (type_id_with s c [] w t) (written_type at) ≡ Ok u → Types d b w2 r (a_tree at v (size_literal c at at u))
    → Types a b w2 r (type_row s c w at t)
type_typed s c w v w2 at t u a d b r k n h m = types_same a b w2 r (a_tree at w (size_literal c at at u)) (type_row s c w at t)
    (ap (λ (z : Result Typ ElabFault). and_then z (λ (y : Typ). a_tree at w (size_literal c at at y))) h)
    (subst (λ (z : Work). Types a b w2 r (a_tree at z (size_literal c at at u))) k
    (subst (λ (z : List Tree). Types z b w2 r (a_tree at v (size_literal c at at u))) n m))

pub type_fault : (s : List Lexeme) (c : Ctx) (w : Work) (at : At) (t : syntax.Tree) (f : ElabFault)
    → Faults f (and_then (type_id_with s c [] w t) (written_type at)) → Faults f (type_row s c w at t)
type_fault s c w at t f h = first_fault f (and_then (type_id_with s c [] w t) (written_type at)) (λ (y : Typ). a_tree at w (size_literal c at at y)) h
