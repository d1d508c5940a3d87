-- Several operands, one behind the other.
use Rattle.std.proofs.Common.{◌-◌, subst, Vec, Global, vec_len, rules, true≢false, ◌≡◌, ◌≢◌, ◌==◌, ◌<◌, ◌+◌, ◌≤◌, ℕ, zero, suc, arith, true, false, nat_lt}
use Rattle.std.proofs.Common.{lt-ltb, List, [], ◌∷◌, ◌++◌, length, drop, take, get_or, Result, Ok, Err, refl, sym, ap, ◌∙◌, append_assoc, append-nil}
use Rattle.std.proofs.lemmas.Bool.{and_parts, ltb-true, eqb-true}
use Rattle.elab_rows.specs.cpp_ast.Orders.{are_below}
use Rattle.elab_rows.specs.cpp_lex.Tokens.{Lexeme}
use Rattle.elab_rows.specs.cpp_ast.Trees as syntax
use Rattle.elab_rows.specs.cpp_ast.declared.arena.NodeId.{NodeId}
use Rattle.elab_rows.specs.cpp_tree.declared.faults.ElabFault.{ElabFault}
use Rattle.elab_rows.specs.cpp_tree.Trees.{Tree}
use Rattle.elab_rows.specs.cpp_tree.Arena.{Grows}
use Rattle.elab_rows.specs.elab_ctx.Ctx.{Ctx, Work, Closure}
use Rattle.elab_rows.specs.elab_ctx.Steps.{and_then, Operand, Typed, TypedAll}
use Rattle.elab_rows.specs.elab_ctx.Operands.{operand_in, operands_in, are_in}
use Rattle.elab_rows.specs.elab_ctx.Says.{Faults}
use Rattle.elab_rows.specs.elab_ctx.declared.operand.Operand.{Operand as OperandRec}
use Rattle.elab_rows.proofs.elab_ctx.Looks.{grows_refl, grows_trans}
use Rattle.elab_rows.proofs.elab_ctx.Making.{faults_in, faults_same}
use Rattle.elab_rows.proofs.elab_init.Listing.{drop_step, drop_past}
use Rattle.elab_rows.specs.elab_rules.Expressions.{expression_with, operands_with, chosen_operand}
use Rattle.elab_rows.specs.elab_types.Syntax.{trees_at, tree_at as syntax_at}
use Rattle.elab_rows.specs.Typed.{TypedAt, AllTyped}
use Rattle.elab_expr.proofs.Stages.{operands_kept, are_in_grown}

-- behind these operands
abbrev pub behind : List Operand → Result TypedAll ElabFault → Result TypedAll ElabFault
behind head y = and_then y (λ (r : TypedAll). Ok (record { operands = head ++ r.operands; work = r.work }))

behind_none : (y : Result TypedAll ElabFault) → y ≡ behind [] y
behind_none (Ok r) = refl
behind_none (Err e) = refl

behind_one : (head : List Operand) (o : Operand) (y : Result TypedAll ElabFault)
    → behind head (and_then y (λ (xs : TypedAll). Ok (record { operands = o ∷ xs.operands; work = xs.work }))) ≡ behind (head ++ o ∷ []) y
behind_one head o (Ok r) = ap (λ (z : List Operand). Ok (record { operands = z; work = r.work })) (sym (append_assoc head (o ∷ []) r.operands))
behind_one head o (Err e) = refl

in_append : (n : ℕ) (os : List OperandRec) (o : OperandRec) → are_in n os ≡ true → o.id.0 < n → are_in n (os ++ o ∷ []) ≡ true
in_append n [] o h l = rw (lt-ltb o.id.0 n l) refl
in_append n (x ∷ os) o h l =
    let p = and_parts (nat_lt x.id.0 n) (are_in n os) h in
    rw (p.0, in_append n os o p.1 l) refl

shown_append : (ts : List Tree) (os : List OperandRec) (o : OperandRec) → operands_in ts (os ++ o ∷ []) ≡ operands_in ts os ++ operand_in ts o ∷ []
shown_append ts [] o = refl
shown_append ts (x ∷ os) o = ap (λ (z : List Operand). operand_in ts x ∷ z) (shown_append ts os o)

-- those that were read, where `rest` are still to be read of what gives `x`
pub record SoFar (s : List Lexeme) (c : Ctx) (l : List Closure) (a b : List Tree) (w : Work) (os : List OperandRec) (rest : syntax.Trees)
    (x : Result TypedAll ElabFault) : Type 0 where
  pub grows : Grows a b
  pub within : are_in (length b) os ≡ true
  pub is : x ≡ behind (operands_in b os) (operands_with s c l w rest)

pub so_far_none : (s : List Lexeme) (c : Ctx) (l : List Closure) (a : List Tree) (w : Work) (os : List OperandRec) (rest : syntax.Trees) → os ≡ []
    → SoFar s c l a a w os rest (operands_with s c l w rest)
so_far_none s c l a w os rest e = record {
  grows = grows_refl a;
  within = rw e refl;
  is = behind_none (operands_with s c l w rest) ∙ ap
      (λ (z : List OperandRec). behind (operands_in a z) (operands_with s c l w rest)) (sym e);
}

pub so_far_one : (s : List Lexeme) (c : Ctx) (l : List Closure) (a b d : List Tree) (w w2 : Work) (os os2 : List OperandRec) (o : OperandRec) (t : syntax.Tree)
    (rest left : syntax.Trees) (x : Result TypedAll ElabFault) → SoFar s c l a b w os left x → left ≡ syntax.more t rest
    → TypedAt b d w2 o (and_then (expression_with s c l w t) (chosen_operand c)) → os2 ≡ os ++ o ∷ [] → SoFar s c l a d w2 os2 rest x
so_far_one s c l a b d w w2 os os2 o t rest left x m e n p =
    let kept : operands_in d os ≡ operands_in b os = operands_kept b d os n.grows m.within in
    let shown : operands_in d os2 ≡ operands_in b os ++ operand_in d o ∷ [] = ap (operands_in d) p ∙ shown_append d os o
    ∙ ap (λ (z : List Operand). z ++ operand_in d o ∷ []) kept in
    record {
      grows = grows_trans m.grows n.grows;
      within = rw p (in_append (length d) os o (are_in_grown b d os n.grows m.within) n.within);
      is = m.is ∙ ap (λ (z : syntax.Trees). behind (operands_in b os) (operands_with s c l w z)) e
          ∙ ap (λ (z : Result Typed ElabFault). behind (operands_in b os)
          (and_then z (λ (y : Typed). and_then (operands_with s c l y.work rest)
          (λ (xs : TypedAll). Ok (record { operands = y.operand ∷ xs.operands; work = xs.work }))))) n.is
          ∙ behind_one (operands_in b os) (operand_in d o) (operands_with s c l w2 rest)
          ∙ ap (λ (z : List Operand). behind z (operands_with s c l w2 rest)) (sym shown);
    }

pub so_far_fault : (s : List Lexeme) (c : Ctx) (l : List Closure) (a b : List Tree) (w : Work) (os : List OperandRec) (t : syntax.Tree)
    (rest left : syntax.Trees) (x : Result TypedAll ElabFault) (f : ElabFault) → SoFar s c l a b w os left x → left ≡ syntax.more t rest
    → Faults f (and_then (expression_with s c l w t) (chosen_operand c)) → Faults f x
so_far_fault s c l a b w os t rest left x f m e n =
    faults_same f _ x (m.is ∙ ap (λ (z : syntax.Trees). behind (operands_in b os) (operands_with s c l w z)) e)
    (faults_in (λ (z : Result Typed ElabFault). behind (operands_in b os)
    (and_then z (λ (y : Typed). and_then (operands_with s c l y.work rest)
    (λ (xs : TypedAll). Ok (record { operands = y.operand ∷ xs.operands; work = xs.work }))))) f (and_then (expression_with s c l w t) (chosen_operand c))
    (λ d. refl) n)

pub so_far_done : (s : List Lexeme) (c : Ctx) (l : List Closure) (a b : List Tree) (w : Work) (os : List OperandRec) (rest : syntax.Trees)
    (x : Result TypedAll ElabFault) → SoFar s c l a b w os rest x → rest ≡ syntax.none → AllTyped a b w os x
so_far_done s c l a b w os rest x m e = record {
  grows = m.grows;
  within = m.within;
  is = m.is ∙ ap (λ (z : syntax.Trees). behind (operands_in b os) (operands_with s c l w z)) e
      ∙ ap (λ (z : List Operand). Ok (record { operands = z; work = w })) (append-nil (operands_in b os));
}

-- Lists of syntax nodes

pub trees_step : (ts : List syntax.Tree) (ids : List NodeId) (i : ℕ) (d : NodeId) → i < length ids
    → trees_at ts (drop i ids) ≡ syntax.more (syntax_at ts (get_or ids i d)) (trees_at ts (drop (i + 1) ids))
trees_step ts ids i d h = ap (trees_at ts) (drop_step ids i d h)

pub trees_past : (ts : List syntax.Tree) (ids : List NodeId) (i : ℕ) → length ids ≤ i → trees_at ts (drop i ids) ≡ syntax.none
trees_past ts ids i h = ap (trees_at ts) (drop_past ids i h)

-- those of a node that is one of them
pub below_at : (n : ℕ) (ids : List NodeId) (i : ℕ) (d : NodeId) → are_below n ids ≡ true → i < length ids → (get_or ids i d).0 < n
below_at n [] i d w h = absurd (omega arith)
below_at n (id ∷ ids) zero d w h = ltb-true id.0 n (and_parts (nat_lt id.0 n) (are_below n ids) w).0
below_at n (id ∷ ids) (suc i) d w h = below_at n ids i d (and_parts (nat_lt id.0 n) (are_below n ids) w).1 (omega arith)

pub vec_len_is : (v : Vec NodeId Global) → vec_len v ≡ length v.items
vec_len_is v = search rules

none_of : (ids : List NodeId) → length ids ≡ 0 → ids ≡ []
none_of [] h = refl
none_of (id ∷ ids) h = absurd (omega (arith, h))

pub some_kids : (v : Vec NodeId Global) → (vec_len v == 0) ≡ false → v.items ≢ []
some_kids v h g = true≢false (sym (ap (λ (n : ℕ). n == 0) (vec_len_is v ∙ ap length g)) ∙ h)

pub no_kids : (ts : List syntax.Tree) (v : Vec NodeId Global) → (vec_len v == 0) ≡ true → trees_at ts v.items ≡ syntax.none
no_kids ts v h = ap (trees_at ts) (none_of v.items (sym (vec_len_is v) ∙ eqb-true (vec_len v) 0 h))

pub below_take : (n k : ℕ) (ids : List NodeId) → are_below n ids ≡ true → are_below n (take k ids) ≡ true
below_take n zero ids h = refl
below_take n (suc k) [] h = refl
below_take n (suc k) (id ∷ ids) h =
    let p = and_parts (nat_lt id.0 n) (are_below n ids) h in
    let others : are_below n (take k ids) ≡ true = below_take n k ids p.1 in
    rw (p.0, others) refl

pub below_rest : (n : ℕ) (ids : List NodeId) → are_below n ids ≡ true → are_below n (drop 1 ids) ≡ true
below_rest n [] h = refl
below_rest n (id ∷ ids) h = (and_parts (nat_lt id.0 n) (are_below n ids) h).1

pub last_is : (all a b : List NodeId) (n : ℕ) (id : NodeId) → a ≡ all → b ≡ all → n ≡ length all → a ≡ take (length a - 1) a ++ id ∷ []
    → all ≡ take (n - 1) b ++ id ∷ []
last_is all a b n id p q r h = rw (q, r) (subst (λ (z : List NodeId). z ≡ take (length z - 1) z ++ id ∷ []) p h)

take_all : (n : ℕ) (ids : List NodeId) → n ≡ length ids → take n ids ≡ ids
take_all zero [] h = refl
take_all zero (id ∷ ids) h = absurd (omega (arith, h))
take_all (suc n) [] h = refl
take_all (suc n) (id ∷ ids) h = ap (λ (z : List NodeId). id ∷ z) (take_all n ids (omega (arith, h)))

pub rest_is : (ids : List NodeId) → take (length ids - 1) (drop 1 ids) ≡ drop 1 ids
rest_is [] = refl
rest_is (id ∷ ids) = take_all (length (id ∷ ids) - 1) ids (omega arith)

pub rest_from : (a b all : List NodeId) → a ≡ all → b ≡ all → drop 1 a ≡ take (length b - 1) (drop 1 b)
rest_from a b all p q = ap (drop 1) (p ∙ sym q) ∙ sym (rest_is b)

pub rest_shorter : (ids : List NodeId) → (length ids == 0) ≡ false → length (take (length ids - 1) (drop 1 ids)) < length ids
rest_shorter [] h = absurd cc
rest_shorter (id ∷ ids) h = rw (rest_is (id ∷ ids)) (omega arith)
