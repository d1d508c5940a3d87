-- The class as a whole, and bodies behind its brace.
use Rattle.std.proofs.Common.{◌≡◌, ◌∙◌, ℕ, false, List, Option, Some, None, Result, Ok, Err, slice_get, refl, sym, ap, subst}
use Rattle.elab_entry.specs.cpp_types.declared.classes.At.{At}
use Rattle.elab_entry.specs.cpp_lex.Tokens.{Lexeme}
use Rattle.elab_entry.specs.cpp_ast.Trees as syntax
use Rattle.elab_entry.specs.cpp_ast.declared.arena.At.{At as SyntaxAt}
use Rattle.elab_entry.specs.cpp_ast.declared.kinds.NodeKind.{NodeKind}
use Rattle.elab_entry.specs.cpp_ast.declared.kinds.NodeKind.TheVariants as k
use Rattle.elab_entry.specs.cpp_tree.declared.program.FuncKind.{FuncKind}
use Rattle.elab_entry.specs.cpp_tree.declared.faults.ElabFault.{ElabFault}
use Rattle.elab_entry.specs.elab_ctx.Ctx.{Ctx, Work}
use Rattle.elab_entry.specs.elab_ctx.Steps.{and_then, at_of}
use Rattle.elab_entry.specs.elab_ctx.Says.{Faults}
use Rattle.elab_entry.proofs.elab_ctx.Looks.{grows_trans}
use Rattle.elab_entry.specs.elab_rules.Lambdas.{kids_of}
use Rattle.elab_entry.specs.elab_rules.Statements.{Body, State, Lambdas}
use Rattle.elab_entry.specs.elab_rules.Classes.{Begun, Home, Method, method_of, begun, body_in, last_token, token_end}
use Rattle.elab_entry.specs.elab_rules.Members.{members_among, declared_only, place_of_header}
use Rattle.elab_entry.specs.elab_scopes.declared.state.State.{State as StateRec}
use Rattle.elab_entry.specs.elab_scopes.States.{state_of, made}
use Rattle.elab_entry.specs.elab_scopes.Says.{Changed, Changes}
use Rattle.elab_entry.proofs.elab_scopes.Standing.{grown_refl, grown_by, changes_after}
use Rattle.class_members.specs.Shown.{home_of}
use Rattle.class_members.specs.declared.records.Home.{Home as HomeRec}
use Rattle.class_table.specs.Written.{ClassRead, at_hand, class_read, class_stood}
use Rattle.elab_members.specs.Bodies.{method_body}
use Rattle.elab_members.specs.Initialisers.{all_defaults}
use Rattle.elab_members.specs.Whole.{late_kept, late_with, late_method, late_function, late_kind, late_of, all_late, behind_brace, class_defined, Stood, Stands}
use Rattle.elab_members.proofs.ObjectBodies.{same_trees, state_fails}
use Rattle.elab_members.proofs.DeclarationSteps.{changed_so, changes_so}

-- A class that is only declared

pub declared_stands : (a : StateRec) (b : StateRec) (at : At) (name : List ℕ) (i : ℕ)
    → begun (state_of a).ctx at name false ≡ Ok (record { ctx = (state_of b).ctx; number = i }) → record (state_of a) { ctx = (state_of b).ctx } ≡ state_of b
    → made b ≡ made a → Stood a b (declared_only (state_of a) at name)
declared_stands a b at name i m e t = record {
  trees = same_trees (made a) (made b) t;
  is = ap (λ (z : Result Begun ElabFault). and_then z (λ (x : Begun). Ok (record (state_of a) { ctx = x.ctx }))) m ∙ ap (λ (z : State). Ok z) e;
}

pub stands_fail : (a c : StateRec) (r : Result (Unit {0}) ElabFault) (e : ElabFault) (x : Result State ElabFault) → r ≡ Err e → Faults e x → Stands a c r x
stands_fail a c r e x h f = subst (λ (z : Result (Unit {0}) ElabFault). Stands a c z x) (sym h) f

pub undeclared_fault : (st : State) (at : At) (name : List ℕ) (e : ElabFault) → Faults e (begun st.ctx at name false) → Faults e (declared_only st at name)
undeclared_fault st at name e f = state_fails e (begun st.ctx at name false) (λ (x : Begun). Ok (record st { ctx = x.ctx })) f

-- A function behind the brace

pub with_place : (lams : Lambdas) (s : List Lexeme) (a b d : StateRec) (n : ℕ) (kind : FuncKind) (m : Method) (closed : ℕ) (body : syntax.Tree) (place : ℕ)
    (rest : syntax.Trees) (r : Result (Unit {0}) ElabFault) → place_of_header (state_of a).ctx m.header ≡ Ok place
    → late_kept (state_of a).ctx place m.header closed ≡ Ok (state_of b).ctx → state_of b ≡ record (state_of a) { ctx = (state_of b).ctx } → made b ≡ made a
    → (state_of b).ctx.labels ≡ (state_of a).ctx.labels → rest ≡ m.rest
    → Changes b d r (method_body lams s (state_of b) n place kind m.header rest body) → Changes a d r (late_with lams s (state_of a) n kind m closed body)
with_place lams s a b d n kind m closed body place rest r p k e t l f h =
    let follow : Ctx → Result State ElabFault = λ (c : Ctx). method_body lams s (record (state_of a) { ctx = c }) n place kind m.header m.rest body in
    let next : Changes b d r (follow (state_of b).ctx) = changes_so b d r _ _
    (ap (λ (z : syntax.Trees). method_body lams s (record (state_of a) { ctx = (state_of b).ctx }) n place kind m.header z body) (sym f) ∙ ap
    (λ (z : State). method_body lams s z n place kind m.header rest body) (sym e)) h in
    changes_so a d r _ _ (ap (λ (z : Result ℕ ElabFault). and_then z (λ (q : ℕ). and_then (late_kept (state_of a).ctx q m.header closed)
    (λ (c : Ctx). method_body lams s (record (state_of a) { ctx = c }) n q kind m.header m.rest body))) p)
    (changes_after a b d (late_kept (state_of a).ctx place m.header closed) (state_of b).ctx follow r (grown_by a b (same_trees (made a) (made b) t) l) k next)

pub late_body : (lams : Lambdas) (s : List Lexeme) (a c : StateRec) (n : ℕ) (name those : List ℕ) (at : At) (kind : FuncKind) (kids : syntax.Trees) (m : Method)
    (closed : ℕ) (body : syntax.Tree) (r : Result (Unit {0}) ElabFault) → those ≡ name → method_of s (state_of a) n those at kind kids ≡ Ok m
    → body_in kids ≡ Some body → closed ≡ token_end (slice_get s (last_token (body_in kids))) → Changes a c r (late_with lams s (state_of a) n kind m closed body) → Changes a c r (late_function lams s (state_of a) n name at kind kids)
late_body lams s a c n name those at kind kids m closed body r q e f l h =
    changes_so a c r _ _ (ap (λ (z : Result Method ElabFault). and_then z (λ (y : Method). late_method lams s (state_of a) n kind y (body_in kids)))
    (ap (λ (z : List ℕ). method_of s (state_of a) n z at kind kids) (sym q) ∙ e) ∙ (ap (late_method lams s (state_of a) n kind m) f
    ∙ ap (λ (z : ℕ). late_with lams s (state_of a) n kind m z body) (sym (l ∙ ap (λ (z : Option syntax.Tree). token_end (slice_get s (last_token z))) f)))) h

pub late_bodiless : (lams : Lambdas) (s : List Lexeme) (a : StateRec) (n : ℕ) (name those : List ℕ) (at : At) (kind : FuncKind) (kids : syntax.Trees)
    (m : Method) → those ≡ name → method_of s (state_of a) n those at kind kids ≡ Ok m → body_in kids ≡ None
    → Changed a a (late_function lams s (state_of a) n name at kind kids)
late_bodiless lams s a n name those at kind kids m q e f =
    record {
      grown = grown_refl a;
      is = ap (λ (z : Result Method ElabFault). and_then z
          (λ (y : Method). late_method lams s (state_of a) n kind y (body_in kids)))
          (ap (λ (z : List ℕ). method_of s (state_of a) n z at kind kids) (sym q) ∙ e)
          ∙ ap (late_method lams s (state_of a) n kind m) f;
    }

pub late_unknown : (lams : Lambdas) (s : List Lexeme) (st : State) (n : ℕ) (name those : List ℕ) (at : At) (kind : FuncKind) (kids : syntax.Trees)
    (e : ElabFault) → those ≡ name → Faults e (method_of s st n those at kind kids) → Faults e (late_function lams s st n name at kind kids)
late_unknown lams s st n name those at kind kids e q f =
    state_fails e (method_of s st n name at kind kids) (λ (y : Method). late_method lams s st n kind y (body_in kids))
    (subst (λ (z : List ℕ). Faults e (method_of s st n z at kind kids)) q f)

abbrev late_by : Lambdas → List Lexeme → ℕ → List ℕ → State → SyntaxAt → syntax.Trees → Option FuncKind → Result State ElabFault
late_by lams s n name st p kids (Some kind) = late_function lams s st n name (at_of p) kind kids
late_by lams s n name st p kids None = Ok st

late_is : (lams : Lambdas) (s : List Lexeme) (n : ℕ) (name : List ℕ) (st : State) (kind : NodeKind) (p : SyntaxAt) (token : Option ℕ) (kids : syntax.Trees)
    → late_of lams s n name st (syntax.node kind p token kids) ≡ late_by lams s n name st p kids (late_kind kind)
late_is lams s n name st k.FunctionDefinition p token kids = refl
late_is lams s n name st k.ConstructorDefinition p token kids = refl
late_is lams s n name st k.DestructorDefinition p token kids = refl
late_is lams s n name st kind p token kids = refl

pub late_some : (lams : Lambdas) (s : List Lexeme) (a c : StateRec) (n : ℕ) (name : List ℕ) (tree : syntax.Tree) (kind : NodeKind) (p : SyntaxAt)
    (token : Option ℕ) (kids those : syntax.Trees) (o : Option FuncKind) (f : FuncKind) (at : At) (r : Result (Unit {0}) ElabFault)
    → tree ≡ syntax.node kind p token kids → o ≡ late_kind kind → o ≡ Some f → at ≡ at_of p → those ≡ kids_of tree
    → Changes a c r (late_function lams s (state_of a) n name at f those) → Changes a c r (late_of lams s n name (state_of a) tree)
late_some lams s a c n name tree kind p token kids those o f at r e g h q t m =
    let same : those ≡ kids = t ∙ ap kids_of e in
    changes_so a c r _ _ (ap (late_of lams s n name (state_of a)) e ∙ late_is lams s n name (state_of a) kind p token kids ∙ ap
    (late_by lams s n name (state_of a) p kids) (sym g ∙ h) ∙ ap (λ (z : At). late_function lams s (state_of a) n name z f kids) (sym q)
    ∙ ap (late_function lams s (state_of a) n name at f) (sym same)) m

pub late_other : (lams : Lambdas) (s : List Lexeme) (a : StateRec) (n : ℕ) (name : List ℕ) (tree : syntax.Tree) (kind : NodeKind) (p : SyntaxAt)
    (token : Option ℕ) (kids : syntax.Trees) (o : Option FuncKind) → tree ≡ syntax.node kind p token kids → o ≡ late_kind kind → o ≡ None
    → Changed a a (late_of lams s n name (state_of a) tree)
late_other lams s a n name tree kind p token kids o e g h =
    changed_so a _ (ap (late_of lams s n name (state_of a)) e ∙ late_is lams s n name (state_of a) kind p token kids ∙ ap
    (late_by lams s n name (state_of a) p kids) (sym g ∙ h))

-- The class

-- what was made for its members is cut off again
pub class_here : (x : Result ClassRead ElabFault) (c : Ctx) (v w : Work) (bodies : List Body) (h : Home) → w ≡ v → x ≡ Ok (class_stood (at_hand c v bodies) h)
    → x ≡ Ok (class_stood (at_hand c w bodies) h)
class_here x c v w bodies h q e = e ∙ ap (λ (z : Work). Ok (class_stood (at_hand c z bodies) h)) (sym q)

module _ (lams : Lambdas) (s : List Lexeme) (a b : StateRec) (at : At) (name : List ℕ) (kids members : syntax.Trees) (h : HomeRec)
    (read : class_read s (state_of a) at name kids ≡ Ok (class_stood (state_of b) (home_of h))) (same : members ≡ members_among kids) where
  defined_is : class_defined lams s (state_of a) at name kids
      ≡ and_then (all_defaults lams s h.number (state_of b) members) (λ (st : State). all_late lams s h.number h.name.items st members)
  defined_is = ap (λ (z : Result ClassRead ElabFault). and_then z (behind_brace lams s (members_among kids))) read
      ∙ ap (λ (z : syntax.Trees). behind_brace lams s z (class_stood (state_of b) (home_of h))) (sym same)

  -- where the initialisers are well, what the bodies say
  bodies_are : (c : StateRec) → Changed b c (all_defaults lams s h.number (state_of b) members)
      → class_defined lams s (state_of a) at name kids ≡ all_late lams s h.number h.name.items (state_of c) members
  bodies_are c m = defined_is ∙ ap (λ (z : Result State ElabFault). and_then z (λ (st : State). all_late lams s h.number h.name.items st members)) m.is

  pub class_done : (c d : StateRec) → made b ≡ made a → Changed b c (all_defaults lams s h.number (state_of b) members)
      → Changed c d (all_late lams s h.number h.name.items (state_of c) members) → Stood a d (class_defined lams s (state_of a) at name kids)
  class_done c d t m n = record {
    trees = grows_trans (same_trees (made a) (made b) t) (grows_trans m.grown.trees n.grown.trees);
    is = bodies_are c m ∙ n.is;
  }

  pub class_unmade : (e : ElabFault) → Faults e (all_defaults lams s h.number (state_of b) members) → Faults e (class_defined lams s (state_of a) at name kids)
  class_unmade e f = subst (Faults e) (sym defined_is)
      (state_fails e (all_defaults lams s h.number (state_of b) members) (λ (st : State). all_late lams s h.number h.name.items st members) f)

  pub class_refused : (c : StateRec) (e : ElabFault) → Changed b c (all_defaults lams s h.number (state_of b) members)
      → Faults e (all_late lams s h.number h.name.items (state_of c) members) → Faults e (class_defined lams s (state_of a) at name kids)
  class_refused c e m f = subst (Faults e) (sym (bodies_are c m)) f

pub class_unread : (lams : Lambdas) (s : List Lexeme) (st : State) (at : At) (name : List ℕ) (kids : syntax.Trees) (e : ElabFault)
    → Faults e (class_read s st at name kids) → Faults e (class_defined lams s st at name kids)
class_unread lams s st at name kids e f = state_fails e (class_read s st at name kids) (behind_brace lams s (members_among kids)) f
