-- Initialisers of members can be moved.
use Rattle.std.proofs.Common.{◌≡◌, refl, sym, ap, ◌∙◌, ℕ, zero, suc, ◌+◌, ◌≤◌, ◌-◌, List, [], ◌∷◌, length, nat_lt, Some}
use Rattle.std.proofs.Common.{slice_get, Result, Ok, Err, arith}
use Rattle.std.specs.Prelude.{if◌then◌else◌}
use Rattle.elab_rules.specs.cpp_types.Typ.{Typ, typ, void, int, enum, null, ptr, ref, array, func, class, closure, tx_ex}
use Rattle.elab_rules.specs.cpp_types.declared.classes.At.{At}
use Rattle.elab_rules.specs.cpp_types.declared.ranks.Cat.TheVariants.{Prvalue}
use Rattle.elab_rules.specs.cpp_lex.Tokens.{Lexeme}
use Rattle.elab_rules.specs.cpp_ast.Trees as syntax
use Rattle.elab_rules.specs.cpp_tree.declared.faults.ElabFault.{ElabFault}
use Rattle.elab_rules.specs.cpp_tree.declared.faults.IllRule.TheVariants.{BadInit, OutOfProfile}
use Rattle.elab_rules.specs.cpp_tree.declared.kinds.TKind.TheVariants.{Literal}
use Rattle.elab_rules.specs.cpp_tree.Notation.{plain}
use Rattle.elab_rules.specs.cpp_tree.Trees.{node, Trees, none, more}
use Rattle.elab_rules.specs.cpp_tree.Typing.{form_in, kind_in, unqualified, is_class_typ}
use Rattle.elab_rules.specs.elab_ctx.Ctx.{Ctx, Work, This, Variable}
use Rattle.elab_rules.specs.elab_ctx.Steps.{and_then, check, Operand, Typed}
use Rattle.elab_rules.specs.Braces
use Rattle.elab_rules.specs.Expressions.{expression_with, expression_of, chosen_operand}
use Rattle.elab_rules.specs.Initialising
use Rattle.elab_rules.specs.Members.{in_object}
use Rattle.elab_rules.specs.Statements
use Rattle.elab_rules.specs.Statements.{State, Full, Lambdas, with_work}
use Rattle.elab_fits.specs.Standing.{On}
use Rattle.elab_fits.proofs.Steps.{bind, skip, either_way as either, answered as held_by}
use Rattle.elab_movable.specs.Movable.{Sought, held, all_held, OnlyThis, LeavesThis, KeepsThis, ExpressionsMove, CopiesMove, StringsMove}
use Rattle.elab_movable.proofs.Counting.{Gives, none_held, some_left}
use Rattle.elab_movable.proofs.Parts as parts
use Rattle.elab_movable.proofs.Initials as initials
use Rattle.elab_movable.proofs.Names as names
use Rattle.elab_movable.proofs.Expressions as expressions

pub expressions_move : ExpressionsMove
expressions_move g s c l w e x z n h =
    let a = held_by (expressions.GivesTyped g 0 w) (expression_with s c l w e) x (expressions.expression g s c z l w e) h in
    none_held g w (length x.work.frame) (held g x.operand.tree) n a

module _ (g : Sought) where
  -- Strings

  byte_pieces : (t : Typ) (at : At) (i : ℕ) (bs : List ℕ) → all_held g (Braces.byte_pieces t at i bs) ≡ 0
  byte_pieces t at i [] = refl
  byte_pieces t at i (b ∷ bs) = omega (
    arith,
    byte_pieces t at (suc i) bs,
    parts.stored g at t (node (Literal (Braces.byte_word (kind_in (form_in t)) b)) (unqualified t) Prvalue at none),
  )

  zero_rest : (c : Ctx) (t : Typ) (at : At) (i n : ℕ) → all_held g (Braces.zero_rest c t at i n) ≡ 0
  zero_rest c t at i zero = refl
  zero_rest c t at i (suc n) = omega (arith, parts.zeros g c.classes at (plain (array t (suc n))))

  followed : (ts us : Trees) → all_held g (Braces.followed ts us) ≡ all_held g ts + all_held g us
  followed none us = omega arith
  followed (more t ts) us = omega (arith, followed ts us)

  string_object : (c : Ctx) (t : Typ) (at : At) (bytes : List ℕ) → On (names.Bare g) (Braces.string_object c t at bytes)
  string_object c (typ (array e n) d v) at bytes = skip (names.Bare g) (check at BadInit (nat_lt (length bytes) n)) _
      (λ y. omega (
        arith,
        followed (Braces.byte_pieces e at 0 bytes) (Braces.zero_rest c e at (length bytes) (n - length bytes)),
        byte_pieces e at 0 bytes,
        zero_rest c e at (length bytes) (n - length bytes),
      ))
  string_object c t at bytes = tt

  -- `= e`

  copied_by : (c : Ctx) (w : Work) (t : Typ) (o : Operand)
      → On (Gives g (held g o.tree) w) (if is_class_typ t then Initialising.class_from c w t o.at o else Initialising.scalar_from c w t o)
  copied_by c w t o = either (Gives g (held g o.tree) w) (is_class_typ t) _ _ (initials.class_from g c w t o.at o) (initials.scalar_from g c w t o)

  copied : (c : Ctx) (w : Work) (t : Typ) (o : Operand) → On (Gives g (held g o.tree) w) (Statements.copy_initialised c w t o)
  copied c w (typ (ref u) d v) o = skip (Gives g (held g o.tree) w) (check o.at OutOfProfile _) _ (λ y. initials.scalar_from g c w (typ (ref u) d v) o)
  copied c w (typ (array e n) d v) o = tt
  copied c w (typ void d v) o = copied_by c w (typ void d v) o
  copied c w (typ (int k) d v) o = copied_by c w (typ (int k) d v) o
  copied c w (typ (enum n x) d v) o = copied_by c w (typ (enum n x) d v) o
  copied c w (typ null d v) o = copied_by c w (typ null d v) o
  copied c w (typ (ptr u) d v) o = copied_by c w (typ (ptr u) d v) o
  copied c w (typ (func f) d v) o = copied_by c w (typ (func f) d v) o
  copied c w (typ (class n) d v) o = copied_by c w (typ (class n) d v) o
  copied c w (typ (closure n) d v) o = copied_by c w (typ (closure n) d v) o
  copied c w (typ (tx_ex u) d v) o = copied_by c w (typ (tx_ex u) d v) o

-- The state in which an initialiser is made

abbrev this_typ : ℕ → Typ
this_typ n = plain (ptr (plain (class n)))

some_is : (t u : This) → Some t ≡ Some u → t ≡ u
some_is t u h = cc

this_first : (st x : State) (n : ℕ) → LeavesThis (in_object st n) x → OnlyThis (this_typ n) x.ctx
this_first st x n k = record {
  variables = λ i. ap (λ (vs : List Variable). slice_get vs i) k.variables;
  outside = k.lambda;
  this = λ t e. let a = some_is t _ (sym e ∙ k.this) in record {
    place = ap (λ (z : This). z.place) a;
    typ = ap (λ (z : This). plain (ptr z.typ)) a;
  };
}

frame_first : (st x : State) (n : ℕ) → LeavesThis (in_object st n) x → 1 ≤ length x.work.frame
frame_first st x n k = let a = ap length k.frame in omega arith

-- an operand that was read
record IsFree (n : ℕ) (f : Full) : Type 0 where
  bare : held (this_typ n) f.operand.tree ≡ 0
  frame : 1 ≤ length f.state.work.frame

module _ (lams : Lambdas) (keeps : KeepsThis lams) (s : List Lexeme) (st : State) (n : ℕ) where
  read_free : (x : State) (o : Typed) → LeavesThis (in_object st n) x → expressions.GivesTyped (this_typ n) 0 x.work o
      → IsFree n (record { operand = o.operand; state = with_work x o.work })
  read_free x o k h = record {
    bare = none_held (this_typ n) x.work (length o.work.frame) (held (this_typ n) o.operand.tree) (frame_first st x n k) h;
    frame = some_left (this_typ n) x.work (length o.work.frame) (held (this_typ n) o.operand.tree) (frame_first st x n k) h;
  }

  full_free : (e : syntax.Tree) → On (IsFree n) (Statements.full_operand lams s (in_object st n) e)
  full_free e = by (lams s (in_object st n) e) refl
    where
      by : (r : Result State ElabFault) → lams s (in_object st n) e ≡ r
          → On (IsFree n) (and_then r (λ (x : State). and_then (and_then (expression_of s x.ctx x.work e) (chosen_operand x.ctx))
          (λ (o : Typed). Ok (record { operand = o.operand; state = with_work x o.work }))))
      by (Ok x) h =
          let k = keeps s (in_object st n) e x h in
          bind (expressions.GivesTyped (this_typ n) 0 x.work) (IsFree n) (and_then (expression_of s x.ctx x.work e) (chosen_operand x.ctx)) _
          (expressions.chosen (this_typ n) 0 x.ctx x.work (expression_of s x.ctx x.work e)
          (expressions.expression (this_typ n) s x.ctx (this_first st x n k) x.ctx.closures x.work e))
          (λ o i. read_free x o k i)
      by (Err f) h = tt

pub copies_move : CopiesMove
copies_move lams keeps s st n t e f m h i =
    let k = held_by (IsFree n) (Statements.full_operand lams s (in_object st n) e) f (full_free lams keeps s st n e) h in
    let j = held_by (Gives (this_typ n) (held (this_typ n) f.operand.tree) f.state.work) (Statements.copy_initialised f.state.ctx f.state.work t f.operand) m
    (copied (this_typ n) f.state.ctx f.state.work t f.operand) i in
    let a = k.bare in
    none_held (this_typ n) f.state.work (length m.work.frame) (held (this_typ n) m.tree) k.frame (omega arith)

pub strings_move : StringsMove
strings_move g c t at bytes x h = held_by (names.Bare g) (Braces.string_object c t at bytes) x (string_object g c t at bytes) h
