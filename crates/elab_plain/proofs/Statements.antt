-- Each form of a statement declares plainly.
use Rattle.std.proofs.Common.{◌≡◌, refl, ℕ, ◌≤◌, Bool, true, false, not, List, Option, Some, None, Result, arith}
use Rattle.std.specs.Prelude.{if◌then◌else◌, ◌==◌}
use Rattle.std.specs.List.{list_any}
use Rattle.elab_rules.specs.cpp_types.Typ.{Typ, typ, void, int, ref}
use Rattle.elab_rules.specs.cpp_types.declared.classes.At.{At}
use Rattle.elab_rules.specs.cpp_lex.Tokens.{Lexeme}
use Rattle.elab_rules.specs.cpp_ast.declared.kinds.NodeKind.TheVariants as k
use Rattle.elab_rules.specs.cpp_ast.Trees as syntax
use Rattle.elab_rules.specs.cpp_tree.declared.kinds.TKind.{TKind}
use Rattle.elab_rules.specs.cpp_tree.declared.kinds.TKind.TheVariants as forms
use Rattle.elab_rules.specs.cpp_tree.declared.faults.ElabFault.{ElabFault}
use Rattle.elab_rules.specs.cpp_tree.declared.faults.IllRule.TheVariants.{NotConstant, Narrowing, BadReturn, BadBreak, BadCase}
use Rattle.elab_rules.specs.cpp_tree.Trees.{Tree, Trees, none, more, one, two, three, typ_in}
use Rattle.elab_rules.specs.cpp_tree.Notation.{plain}
use Rattle.elab_rules.specs.cpp_tree.Typing.{form_in, unqualified, is_class_typ, is_void, kind_in}
use Rattle.elab_rules.specs.elab_ctx.Ctx.{Returns, known, deduced}
use Rattle.elab_rules.specs.elab_ctx.Steps.{and_then, expect, check, at_of, Operand, Made}
use Rattle.elab_rules.specs.Objects.{followed_by, fields}
use Rattle.elab_rules.specs.Constants.{constant}
use Rattle.elab_rules.specs.Casts.{within_exception}
use Rattle.elab_rules.specs.Initialising
use Rattle.elab_rules.specs.Operators
use Rattle.elab_rules.specs.Operators.{value}
use Rattle.elab_rules.specs.Expressions.{expression_of, chosen_operand, type_of_specifiers, declared_by}
use Rattle.elab_rules.specs.Statements
use Rattle.elab_rules.specs.Statements.{State, Done, Full, Lambdas, Caught, Switched, done, statement, inner, outer, in_loop, in_switch, in_block, with_work}
use Rattle.elab_rules.specs.Statements.{statement_of, statements_of, handlers_of, condition, for_first, for_test, for_step, a_part, the_tree, block}
use Rattle.elab_places.proofs.Counting.{declaring, held, Gives, HoldsAtMost, same}
use Rattle.elab_places.proofs.Steps.{On, bind, skip, either, choose}
use Rattle.elab_places.proofs.Parts as parts
use Rattle.elab_places.proofs.Values as values
use Rattle.elab_places.proofs.Initials as initials
use Rattle.elab_places.proofs.Operators as operators
use Rattle.elab_places.proofs.Choices as choices
use Rattle.elab_plain.proofs.Counting.{own_choosing, choosing, all_choosing, of_none, all_of_none, made, followed}
use Rattle.elab_plain.proofs.Declaring as variables
use Rattle.elab_plain.proofs.Declaring.{StatePlain, KeepsPlain, Ends, FullEnds, full_plain}

-- `return`

result_of : (t : Typ) (at : At) (e : Tree) → held declaring (Statements.result_of t at e) ≤ held declaring e
result_of (typ (ref u) d v) at e = choose (HoldsAtMost declaring (held declaring e)) (Statements.holds_temporary e) _ _
    (values.seen_as declaring at u e) (same (held declaring e))
result_of (typ f d v) at e = same (held declaring e)

-- the object that a call gives is told by its address
class_returned : (at : At) (t : Typ) (f : Full) (m : Made) → held declaring m.tree ≡ 0 → choosing (Statements.class_returned at t f m) ≡ 0
class_returned at t f m h = let i = full_plain f.operand.at m.tree h in omega arith

nothing_returned : (at : At) (f : Full) → FullEnds f
    → On Ends (and_then (check at BadReturn (is_void (typ_in f.operand.tree)))
    (λ y. done (one (statement (forms.Block false) at
    (two (Statements.full f.operand.at (Operators.bare_throw f.operand.tree)) (Statements.return_node at none)))) f.state))
nothing_returned at f h = skip Ends (check at BadReturn (is_void (typ_in f.operand.tree))) _ (λ y. record {
  counted = let a = h.none in let d = choices.bare_throw declaring f.operand.tree in
      let b = full_plain f.operand.at (Operators.bare_throw f.operand.tree) (omega arith) in omega arith;
  own = h.own;
})

object_returned : (at : At) (t : Typ) (f : Full) → FullEnds f
    → On Ends (if is_class_typ t then and_then (Initialising.class_from f.state.ctx f.state.work t f.operand.at f.operand)
    (λ (m : Made). done (one (Statements.class_returned at t f m)) (with_work f.state m.work))
    else and_then (Initialising.initial f.state.ctx f.state.work t f.operand)
    (λ (m : Made). done (one (Statements.return_node at (one (Statements.full f.operand.at (Statements.result_of t f.operand.at m.tree)))))
    (with_work f.state m.work)))
object_returned at t f h = either Ends (is_class_typ t) _ _
    (bind (Gives declaring (held declaring f.operand.tree) f.state.work) Ends
    (Initialising.class_from f.state.ctx f.state.work t f.operand.at f.operand) _
    (initials.class_from declaring f.state.ctx f.state.work t f.operand.at f.operand)
    (λ m i. record {
      counted = let b = class_returned at t f m (made (held declaring f.operand.tree) f.state.work m h.none i) in omega arith;
      own = h.own;
    }))
    (bind (Gives declaring (held declaring f.operand.tree) f.state.work) Ends (Initialising.initial f.state.ctx f.state.work t f.operand) _
    (initials.initial declaring f.state.ctx f.state.work t f.operand)
    (λ m i. record {
      counted = let a = made (held declaring f.operand.tree) f.state.work m h.none i in let d = result_of t f.operand.at m.tree in
          let b = full_plain f.operand.at (Statements.result_of t f.operand.at m.tree) (omega arith) in omega arith;
      own = h.own;
    }))

return_value : (at : At) (t : Typ) (f : Full) → FullEnds f → On Ends (Statements.return_value at t f)
return_value at (typ void d v) f h = nothing_returned at f h
return_value at t f h = object_returned at t f h

return_by : (at : At) (r : Returns) (f : Full) → FullEnds f → On Ends (Statements.return_by at r f)
return_by at (known t) f h = return_value at t f h
return_by at (deduced t) f h = skip Ends (check at BadReturn (Statements.same_deduction t (unqualified (typ_in (value f.operand))))) _
    (λ y. record { counted = let a = of_none f.operand.tree h.none in omega arith; own = h.own })

-- a statement that adds nothing
nothing : (st : State) (e : Tree) → StatePlain st → choosing e ≡ 0 → Ends (record { trees = one e; state = st })
nothing st e own h = record { counted = omega arith; own = own }

no_trees : (st : State) → StatePlain st → Ends (record { trees = none; state = st })
no_trees st own = record { counted = omega arith; own = own }

return_nothing : (st : State) (at : At) (r : Returns) → StatePlain st → On Ends (Statements.return_nothing st at r)
return_nothing st at (known t) own =
    skip Ends (check at BadReturn (is_void t)) _ (λ y. nothing st (Statements.return_node at none) own refl)
return_nothing st at (deduced t) own = skip Ends (check at BadReturn (Statements.same_deduction t (plain void))) _
    (λ y. record { counted = omega arith; own = own })

-- Labels

case_checked : (st : State) (at : At) (o : Operand) (v : Tree) (w word : ℕ) → StatePlain st
    → On Ends (Statements.case_checked st at o v w word)
case_checked st at o v w word own =
    skip Ends (check o.at Narrowing (Statements.case_fits (kind_in (form_in (typ_in (value o)))) (kind_in (form_in st.ctx.labels.typ)) w)) _
    (λ x. skip Ends (check at BadCase (not (list_any (λ (n : ℕ). n == word) st.ctx.labels.words))) _
    (λ y. record { counted = omega arith; own = own }))

case_label : (s : List Lexeme) (st : State) (at : At) (e : syntax.Tree) → StatePlain st → On Ends (Statements.case_label s st at e)
case_label s st at e own = skip Ends (Statements.label_here st at) _
    (λ y. skip Ends (and_then (expression_of s st.ctx st.work e) (chosen_operand st.ctx)) _
    (λ o. skip Ends (Initialising.initial st.ctx st.work st.ctx.labels.typ o.operand) _
    (λ m. skip Ends (expect o.operand.at NotConstant (constant st.work.globals (value o.operand))) _
    (λ w. skip Ends (expect o.operand.at NotConstant (constant st.work.globals m.tree)) _ (λ word. case_checked st at o.operand m.tree w word own)))))

default_label : (st : State) (at : At) → StatePlain st → On Ends (Statements.default_label st at)
default_label st at own = skip Ends (Statements.label_here st at) _ (λ y. skip Ends (check at BadCase (not st.ctx.labels.has_default)) _
    (λ z. record { counted = omega arith; own = own }))

-- Handlers

record Catches (h : Caught) : Type 0 where
  counted : all_choosing h.fields ≡ 0
  own : StatePlain h.state

named_handler : (s : List Lexeme) (st : State) (at q : At) (t u : Typ) (o : Option ℕ) → StatePlain st
    → On Catches (Statements.named_handler s st at q t u o)
named_handler s st at q t u (Some n) own = skip Catches (within_exception st.ctx q u) _ (λ y. record {
  counted = let f = all_of_none (fields st.ctx.classes at u) (parts.fields declaring st.ctx.classes at u) in omega arith;
  own = own;
})
named_handler s st at q t u None own = record { counted = omega arith; own = own }

handler_type : (s : List Lexeme) (st : State) (at : At) (t : syntax.Tree) → StatePlain st → On Catches (Statements.handler_type s st at t)
handler_type s st at (syntax.node k.ParameterDeclaration q token (syntax.more base (syntax.more d syntax.none))) own =
    skip Catches (type_of_specifiers s st.ctx st.work base) _
    (λ (t : Typ). skip Catches (declared_by s st.ctx st.work (at_of q) t d) _
    (λ r. skip Catches (Statements.caught_type st.ctx (at_of q) r.typ) _ (λ (u : Typ). named_handler s st at (at_of q) r.typ u r.name own)))
handler_type s st at t own = record { counted = omega arith; own = own }

-- Parts of statements

the_tree_count : (at : At) (ts : Trees) → choosing (the_tree at ts) ≤ all_choosing ts
the_tree_count at none = omega arith
the_tree_count at (more t none) = omega arith
the_tree_count at (more t (more u us)) = omega arith

jump : (allowed : Bool) (kind : TKind) (st : State) (at : At) → StatePlain st → choosing (statement kind at none) ≡ 0
    → On Ends (Statements.jump allowed kind st at)
jump allowed kind st at own h = skip Ends (check at BadBreak allowed) _ (λ y. nothing st (statement kind at none) own h)

in_block_count : (b : Bool) (at : At) (ts : Trees) → all_choosing (Statements.in_block_if b at ts) ≤ all_choosing ts
in_block_count true at ts = omega arith
in_block_count false at ts = same (all_choosing ts)

part : (s : List Lexeme) (t : syntax.Tree) (r : Result Done ElabFault) → On Ends r → On Ends (and_then r (a_part s t))
part s t r h = bind Ends Ends r (a_part s t) h (λ d i. record {
  counted = let a = i.counted in let b = in_block_count (Statements.is_declaration t) (Statements.beginning s t) d.trees in omega arith;
  own = i.own;
})

switch_value : (t : Typ) (e : Tree) (o : Operand) → held declaring (Statements.switch_value t e o) ≤ held declaring e
switch_value (typ (int j) d v) e o = choose (HoldsAtMost declaring (held declaring e)) (Statements.is_enum (form_in (typ_in e))) _ _
    (same (held declaring e)) (values.converted declaring o.at (plain (int j)) e)
switch_value (typ f d v) e o = same (held declaring e)

record Switches (v : Switched) : Type 0 where
  counted : choosing v.value ≡ 0
  own : StatePlain v.state

module _ (lams : Lambdas) (keeps : KeepsPlain lams) (s : List Lexeme) where
  returned : (st : State) (at : At) (ts : syntax.Trees) → StatePlain st → On Ends (Statements.returned lams s st at ts)
  returned st at syntax.none own = return_nothing st at st.ctx.returns own
  returned st at (syntax.more e ts) own = bind FullEnds Ends (Statements.full_operand lams s st e) _
      (variables.full_operand lams keeps s st e own) (λ f h. return_by at f.state.ctx.returns f h)

  switched : (st : State) (e : syntax.Tree) → StatePlain st → On Switches (Statements.switched lams s st e)
  switched st e own = bind FullEnds Switches (Statements.full_operand lams s st e) _ (variables.full_operand lams keeps s st e own)
      (λ f h. skip Switches (Statements.switched_type f.operand.at (form_in (typ_in (value f.operand)))) _ (λ (t : Typ). record {
        counted = let a = h.none in let d = switch_value t (value f.operand) f.operand in let i = operators.value declaring f.operand in
            full_plain f.operand.at (Statements.switch_value t (value f.operand) f.operand) (omega arith);
        own = h.own;
      }))

  first : (st : State) (t : syntax.Tree) → StatePlain st → On Ends (for_first lams s st t)
  first st (syntax.node k.Absent q token kids) own = no_trees st own
  first st (syntax.node k.SimpleDeclaration q token kids) own = variables.declaration lams keeps s st (at_of q) kids own
  first st t own = variables.expression_statement lams keeps s st t own

  test : (st : State) (at : At) (t : syntax.Tree) → StatePlain st → On Ends (for_test lams s st at t)
  test st at (syntax.node k.Absent q token kids) own = nothing st (Operators.true_at at) own refl
  test st at t own = variables.condition lams keeps s st t own

  step : (st : State) (at : At) (t : syntax.Tree) → StatePlain st → On Ends (for_step lams s st at t)
  step st at (syntax.node k.Absent q token kids) own = nothing st (block at none) own refl
  step st at t own = variables.expression_statement lams keeps s st t own

  -- one behind the other
  joins : (x y : Done) → Ends x → Ends y → Ends (Statements.joined x y)
  joins x y h i =
      record { counted = let a = h.counted in let b = i.counted in let d = followed x.trees y.trees in omega arith; own = i.own }

  -- a test and a statement behind it
  two_kids : (kind : TKind) (at : At) (x y : Done) → ((ts : Trees) → own_choosing kind ts ≡ 0) → Ends x → Ends y
      → Ends (record {
        trees = one (statement kind at (three (the_tree at x.trees) (the_tree at y.trees) (block at none)));
        state = outer x.state y.state;
      })
  two_kids kind at x y k h i = record {
    counted = let a = h.counted in let b = i.counted in let c = the_tree_count at x.trees in let d = the_tree_count at y.trees in
        let e = k (three (the_tree at x.trees) (the_tree at y.trees) (block at none)) in omega arith;
    own = i.own;
  }

  three_kids : (at : At) (x y z : Done) → Ends x → Ends y → Ends z
      → Ends (record {
        trees = one (statement forms.Conditional at (three (the_tree at x.trees) (the_tree at y.trees) (the_tree at z.trees)));
        state = outer x.state z.state;
      })
  three_kids at x y z h i j = record {
    counted = let a = h.counted in let b = i.counted in let g = j.counted in
        let c = the_tree_count at x.trees in let d = the_tree_count at y.trees in let e = the_tree_count at z.trees in omega arith;
    own = j.own;
  }

  -- a `for` with its parts
  looped : (at : At) (f x z y : Done) (body : Tree) → Ends f → Ends x → Ends z → Ends y
      → choosing body ≤ all_choosing y.trees
      → all_choosing (one (block at (followed_by f.trees
      (one (statement (forms.Loop true) at (three (the_tree at x.trees) body (the_tree at z.trees))))))) ≡ 0
  looped at f x z y body a b c d e = let a1 = a.counted in let b1 = b.counted in let c1 = c.counted in let d1 = d.counted in
      let u = the_tree_count at x.trees in let v = the_tree_count at z.trees in
      let w = followed f.trees (one (statement (forms.Loop true) at (three (the_tree at x.trees) body (the_tree at z.trees)))) in omega arith

  mutual
    pub one_statement : (st : State) (t : syntax.Tree) → StatePlain st → On Ends (statement_of lams s st t)
    one_statement st (syntax.node k.CompoundStatement q token kids) own =
        bind Ends Ends (statements_of lams s (inner st) kids) _ (statements (inner st) kids own)
        (λ d h. record { counted = let a = h.counted in omega arith; own = h.own })
    one_statement st (syntax.node k.NullStatement q token kids) own = nothing st (block (at_of q) none) own refl
    one_statement st (syntax.node k.ExpressionStatement q token (syntax.more e syntax.none)) own =
        variables.expression_statement lams keeps s st e own
    one_statement st (syntax.node k.SimpleDeclaration q token kids) own = variables.declaration lams keeps s st (at_of q) kids own
    one_statement st (syntax.node k.IfStatement q token (syntax.more e (syntax.more a syntax.none))) own =
        bind Ends Ends (condition lams s st e) _ (variables.condition lams keeps s st e own)
        (λ x h. bind Ends Ends (and_then (statement_of lams s (inner x.state) a) (a_part s a)) _
        (part s a (statement_of lams s (inner x.state) a) (one_statement (inner x.state) a h.own))
        (λ y i. two_kids forms.Conditional (at_of q) x y (λ ts. refl) h i))
    one_statement st (syntax.node k.IfStatement q token (syntax.more e (syntax.more a (syntax.more b syntax.none)))) own =
        bind Ends Ends (condition lams s st e) _ (variables.condition lams keeps s st e own)
        (λ x h. bind Ends Ends (and_then (statement_of lams s (inner x.state) a) (a_part s a)) _
        (part s a (statement_of lams s (inner x.state) a) (one_statement (inner x.state) a h.own))
        (λ y i. bind Ends Ends
        (and_then (statement_of lams s (inner (outer x.state y.state)) b) (a_part s b)) _
        (part s b (statement_of lams s (inner (outer x.state y.state)) b)
        (one_statement (inner (outer x.state y.state)) b i.own))
        (λ z j. three_kids (at_of q) x y z h i j)))
    one_statement st (syntax.node k.WhileStatement q token (syntax.more e (syntax.more a syntax.none))) own =
        bind Ends Ends (condition lams s st e) _ (variables.condition lams keeps s st e own)
        (λ x h. bind Ends Ends (and_then (statement_of lams s (in_loop x.state) a) (a_part s a)) _
        (part s a (statement_of lams s (in_loop x.state) a) (one_statement (in_loop x.state) a h.own))
        (λ y i. two_kids (forms.Loop true) (at_of q) x y (λ ts. refl) h i))
    one_statement st (syntax.node k.DoStatement q token (syntax.more a (syntax.more e syntax.none))) own =
        bind Ends Ends (and_then (statement_of lams s (in_loop st) a) (a_part s a)) _
        (part s a (statement_of lams s (in_loop st) a) (one_statement (in_loop st) a own))
        (λ y i. bind Ends Ends (condition lams s (outer st y.state) e) _
        (variables.condition lams keeps s (outer st y.state) e i.own)
        (λ x j. record {
          counted = let a = i.counted in let b = j.counted in
              let c = the_tree_count (at_of q) x.trees in let d = the_tree_count (at_of q) y.trees in omega arith;
          own = j.own;
        }))
    one_statement st (syntax.node k.ForStatement q token
        (syntax.more i (syntax.more e (syntax.more n (syntax.more (syntax.node k.CompoundStatement r brace kids) syntax.none))))) own =
        bind Ends Ends (for_first lams s (in_loop st) i) _ (first (in_loop st) i own)
        (λ f a1. bind Ends Ends (for_test lams s f.state (at_of q) e) _ (test f.state (at_of q) e a1.own)
        (λ x a2. bind Ends Ends (for_step lams s x.state (at_of q) n) _ (step x.state (at_of q) n a2.own)
        (λ z a3. bind Ends Ends (statements_of lams s z.state kids) _ (statements z.state kids a3.own)
        (λ y a4. record {
          counted = looped (at_of q) f x z y (block (at_of r) y.trees) a1 a2 a3 a4 (omega arith);
          own = a4.own;
        }))))
    one_statement st (syntax.node k.ForStatement q token (syntax.more i (syntax.more e (syntax.more n (syntax.more a syntax.none))))) own =
        bind Ends Ends (for_first lams s (in_loop st) i) _ (first (in_loop st) i own)
        (λ f a1. bind Ends Ends (for_test lams s f.state (at_of q) e) _ (test f.state (at_of q) e a1.own)
        (λ x a2. bind Ends Ends (for_step lams s x.state (at_of q) n) _ (step x.state (at_of q) n a2.own)
        (λ z a3. bind Ends Ends (and_then (statement_of lams s z.state a) (a_part s a))
        (λ (y : Done). done (one (block (at_of q) (followed_by f.trees
        (one (statement (forms.Loop true) (at_of q) (three (the_tree (at_of q) x.trees) (the_tree (at_of q) y.trees) (the_tree (at_of q) z.trees)))))))
        (outer st y.state)) (part s a (statement_of lams s z.state a) (one_statement z.state a a3.own))
        (λ y a4. record {
          counted = looped (at_of q) f x z y (the_tree (at_of q) y.trees) a1 a2 a3 a4 (the_tree_count (at_of q) y.trees);
          own = a4.own;
        }))))
    one_statement st (syntax.node k.SwitchStatement q token (syntax.more e (syntax.more (syntax.node kind r brace kids) syntax.none))) own =
        bind Switches Ends (Statements.switched lams s st e) _ (switched st e own)
        (λ v h. bind Ends Ends (statements_of lams s (in_switch v.state v.typ) kids) _
        (statements (in_switch v.state v.typ) kids h.own)
        (λ d i. record { counted = let a = h.counted in let b = i.counted in omega arith; own = i.own }))
    one_statement st (syntax.node k.CaseStatement q token (syntax.more e (syntax.more a syntax.none))) own =
        bind Ends Ends (Statements.case_label s st (at_of q) e) _ (case_label s st (at_of q) e own)
        (λ x h. bind Ends Ends (statement_of lams s x.state a) _ (one_statement x.state a h.own) (λ y i. joins x y h i))
    one_statement st (syntax.node k.DefaultStatement q token (syntax.more a syntax.none)) own =
        bind Ends Ends (Statements.default_label st (at_of q)) _ (default_label st (at_of q) own)
        (λ x h. bind Ends Ends (statement_of lams s x.state a) _ (one_statement x.state a h.own) (λ y i. joins x y h i))
    one_statement st (syntax.node k.BreakStatement q token kids) own = jump st.ctx.breaks forms.Break st (at_of q) own refl
    one_statement st (syntax.node k.ContinueStatement q token kids) own = jump st.ctx.continues forms.Continue st (at_of q) own refl
    one_statement st (syntax.node k.ReturnStatement q token kids) own = returned st (at_of q) kids own
    one_statement st (syntax.node k.TryBlock q token (syntax.more (syntax.node kind r brace kids) hs)) own =
        bind Ends Ends (statements_of lams s (inner st) kids) _ (statements (inner st) kids own)
        (λ d h. bind Ends Ends (handlers_of lams s (outer st d.state) hs) _ (handlers (outer st d.state) hs h.own)
        (λ y i. record { counted = let a = h.counted in let b = i.counted in omega arith; own = i.own }))
    one_statement st (syntax.node k.SynchronizedStatement q token (syntax.more (syntax.node kind r brace kids) syntax.none)) own =
        bind Ends Ends (statements_of lams s (in_block st) kids) _ (statements (in_block st) kids own)
        (λ d h. record { counted = let a = h.counted in omega arith; own = h.own })
    one_statement st (syntax.node k.AtomicStatement q (Some t) (syntax.more (syntax.node kind r brace kids) syntax.none)) own =
        bind Ends Ends (statements_of lams s (in_block st) kids) _ (statements (in_block st) kids own)
        (λ d h. record { counted = let a = h.counted in omega arith; own = h.own })
    one_statement st t own = tt

    pub statements : (st : State) (ts : syntax.Trees) → StatePlain st → On Ends (statements_of lams s st ts)
    statements st syntax.none own = no_trees st own
    statements st (syntax.more t ts) own = bind Ends Ends (statement_of lams s st t) _ (one_statement st t own)
        (λ x h. bind Ends Ends (statements_of lams s x.state ts) _ (statements x.state ts h.own) (λ y i. joins x y h i))

    pub handlers : (st : State) (hs : syntax.Trees) → StatePlain st → On Ends (handlers_of lams s st hs)
    handlers st syntax.none own = no_trees st own
    handlers st (syntax.more (syntax.node kind q token (syntax.more x (syntax.more (syntax.node b r brace kids) syntax.none))) hs) own =
        skip Ends (Statements.in_order (at_of q) x hs) _
        (λ y. bind Catches Ends (Statements.handler_type s (inner st) (at_of q) x) _ (handler_type s (inner st) (at_of q) x own)
        (λ h i. bind Ends Ends (statements_of lams s h.state kids) _ (statements h.state kids i.own)
        (λ d j. bind Ends Ends (handlers_of lams s (outer st d.state) hs) _ (handlers (outer st d.state) hs j.own)
        (λ z l. record { counted = let a = i.counted in let u = j.counted in let v = l.counted in omega arith; own = l.own }))))
    handlers st hs own = tt
