-- A label from its expression, step by step.
use Rattle.std.proofs.Common.{◌≡◌, ℕ, Bool, List, Vec, refl, sym, ap, ◌∙◌, subst, Result, Ok, Err}
use Rattle.std.specs.declared.alloc.Global.{Global as Alloc}
use Rattle.elab_expr.specs.cpp_lex.Tokens.{Lexeme}
use Rattle.elab_expr.specs.cpp_types.declared.classes.At.{At}
use Rattle.elab_expr.specs.cpp_ast.Trees as syntax
use Rattle.elab_expr.specs.cpp_tree.declared.faults.ElabFault.{ElabFault}
use Rattle.elab_expr.specs.cpp_tree.declared.faults.IllRule.TheVariants.{NotConstant, Narrowing}
use Rattle.elab_expr.specs.cpp_tree.declared.arena.TNodeId.{TNodeId}
use Rattle.elab_expr.specs.cpp_tree.Trees.{Tree, typ_in}
use Rattle.elab_expr.specs.cpp_tree.Units.{Global}
use Rattle.elab_expr.specs.cpp_tree.Typing.{form_in, kind_in}
use Rattle.elab_expr.specs.elab_ctx.Ctx.{Ctx, Work}
use Rattle.elab_expr.specs.elab_ctx.Steps.{and_then, expect, check, Operand, Made, Typed}
use Rattle.elab_expr.specs.elab_ctx.Says.{Faults, Given, MadeAt, Tells}
use Rattle.elab_expr.specs.elab_ctx.declared.env.Work.{Work as WorkRec}
use Rattle.elab_expr.specs.elab_ctx.declared.operand.Operand.{Operand as OperandRec}
use Rattle.elab_expr.specs.cpp_tree.declared.arena.TNode.{TNode}
use Rattle.elab_expr.specs.cpp_tree.Arena.{trees_of, Grows}
use Rattle.elab_expr.specs.elab_rows.Typed.{TypedAt}
use Rattle.elab_expr.proofs.elab_ctx.Looks.{grows_refl}
use Rattle.elab_expr.proofs.elab_ctx.Making.{faults_in, faults_same}
use Rattle.elab_expr.specs.elab_rules.Initialising.{initial}
use Rattle.elab_expr.specs.elab_rules.Constants.{constant}
use Rattle.elab_expr.specs.elab_rules.Operators.{value}
use Rattle.elab_expr.specs.elab_rules.Expressions.{expression_of, chosen_operand}
use Rattle.elab_expr.specs.elab_rules.Statements.{State, label_here, case_fits, case_label}
use Rattle.elab_expr.specs.Unmoved.{Unmoved}
use Rattle.elab_scopes.specs.Labelled.{word_of, operand_alone, initial_alone, label_word, case_word, case_of, OperandAt}
use Rattle.elab_scopes.specs.declared.state.State.{State as StateRec}
use Rattle.elab_scopes.specs.States.{state_of, made, Grown}
use Rattle.elab_scopes.specs.Says.{Does}
use Rattle.elab_scopes.proofs.Standing.{does_grown, grown_by}

then_then : {A B C : Type 0} (x : Result A ElabFault) (f : A → Result B ElabFault) (g : B → Result C ElabFault)
    → and_then (and_then x f) g ≡ and_then x (λ (a : A). and_then (f a) g)
then_then (Ok a) f g = refl
then_then (Err e) f g = refl

then_same : {A B : Type 0} (x : Result A ElabFault) (f g : A → Result B ElabFault) → ((a : A) → f a ≡ g a) → and_then x f ≡ and_then x g
then_same (Ok a) f g h = h a
then_same (Err e) f g h = refl

-- the same with what is made beside an operand and an initialiser
abbrev label_was : Ctx → Work → List Global → Operand → Result ℕ ElabFault
label_was c w gs o = and_then (initial c w c.labels.typ o) (λ (m : Made). word_of c gs o.at (value o) m.tree)

abbrev case_was : List Lexeme → Ctx → Work → syntax.Tree → Result ℕ ElabFault
case_was s c w e = and_then (and_then (expression_of s c w e) (chosen_operand c)) (λ (o : Typed). label_was c w w.globals o.operand)

alone : {A B C : Type 0} (x : Result A ElabFault) (g : A → B) (f : B → Result C ElabFault)
    → and_then (and_then x (λ (a : A). Ok (g a))) f ≡ and_then x (λ (a : A). f (g a))
alone (Ok a) g f = refl
alone (Err e) g f = refl

word_was : (s : List Lexeme) (c : Ctx) (w : Work) (e : syntax.Tree) → case_word s c w e ≡ case_was s c w e
word_was s c w e = alone (and_then (expression_of s c w e) (chosen_operand c)) (λ (o : Typed). o.operand) (λ (o : Operand). label_word c w w.globals o)
    ∙ then_same (and_then (expression_of s c w e) (chosen_operand c)) _ _
    (λ (o : Typed). alone (initial c w c.labels.typ o.operand) (λ (m : Made). m.tree) (λ (t : Tree). word_of c w.globals o.operand.at (value o.operand) t))

was_is : (s : List Lexeme) (st : State) (at : At) (e : syntax.Tree)
    → case_label s st at e ≡ and_then (label_here st at) (λ y. and_then (case_was s st.ctx st.work e) (λ (w : ℕ). case_of st at w))
was_is s st at e = then_same (label_here st at) _ _ (λ y. sym (
    then_then (and_then (expression_of s st.ctx st.work e) (chosen_operand st.ctx)) (λ (o : Typed). label_was st.ctx st.work st.work.globals o.operand)
    (λ (w : ℕ). case_of st at w)
    ∙ then_same (and_then (expression_of s st.ctx st.work e) (chosen_operand st.ctx)) _ _
    (λ (o : Typed). then_then (initial st.ctx st.work st.ctx.labels.typ o.operand)
    (λ (m : Made). word_of st.ctx st.work.globals o.operand.at (value o.operand) m.tree) (λ (w : ℕ). case_of st at w)
    ∙ then_same (initial st.ctx st.work st.ctx.labels.typ o.operand) _ _
    (λ (m : Made). then_then (expect o.operand.at NotConstant (constant st.work.globals (value o.operand)))
    (λ n. and_then (expect o.operand.at NotConstant (constant st.work.globals m.tree))
    (λ word. and_then (check o.operand.at Narrowing (case_fits (kind_in (form_in (typ_in (value o.operand)))) (kind_in (form_in st.ctx.labels.typ)) n))
    (λ x. Ok word))) (λ (w : ℕ). case_of st at w)
    ∙ then_same (expect o.operand.at NotConstant (constant st.work.globals (value o.operand))) _ _
    (λ n. then_then (expect o.operand.at NotConstant (constant st.work.globals m.tree))
    (λ word. and_then (check o.operand.at Narrowing (case_fits (kind_in (form_in (typ_in (value o.operand)))) (kind_in (form_in st.ctx.labels.typ)) n))
    (λ x. Ok word)) (λ (w : ℕ). case_of st at w)
    ∙ then_same (expect o.operand.at NotConstant (constant st.work.globals m.tree)) _ _
    (λ word. then_then (check o.operand.at Narrowing (case_fits (kind_in (form_in (typ_in (value o.operand)))) (kind_in (form_in st.ctx.labels.typ)) n))
    (λ x. Ok word) (λ (w : ℕ). case_of st at w)))))))

case_is : (s : List Lexeme) (st : State) (at : At) (e : syntax.Tree)
    → case_label s st at e ≡ and_then (label_here st at) (λ y. and_then (case_word s st.ctx st.work e) (λ (w : ℕ). case_of st at w))
case_is s st at e = was_is s st at e ∙ then_same (label_here st at) _ _
    (λ y. ap (λ (z : Result ℕ ElabFault). and_then z (λ (w : ℕ). case_of st at w)) (sym (word_was s st.ctx st.work e)))

-- nothing that was made for the word of the label is kept
pub case_then : (a m c : StateRec) (r : Result TNodeId ElabFault) (s : List Lexeme) (at : At) (e : syntax.Tree) (b : Bool) (w : ℕ)
    → label_here (state_of a) at ≡ Ok b → case_word s (state_of a).ctx (state_of a).work e ≡ Ok w
    → Grown a m → state_of m ≡ state_of a → Does m c r (case_of (state_of m) at w) → Does a c r (case_label s (state_of a) at e)
case_then a m c r s at e b w h k g q d = does_grown a m c r (case_of (state_of m) at w) (case_label s (state_of a) at e) g
    (case_is s (state_of a) at e ∙ ap (λ (z : Result Bool ElabFault). and_then z
    (λ y. and_then (case_word s (state_of a).ctx (state_of a).work e) (λ (v : ℕ). case_of (state_of a) at v))) h
    ∙ ap (λ (z : Result ℕ ElabFault). and_then z (λ (v : ℕ). case_of (state_of a) at v)) k ∙ ap (λ (z : State). case_of z at w) (sym q)) d

pub case_fails : (a : StateRec) (s : List Lexeme) (at : At) (e : syntax.Tree) (b : Bool) (f : ElabFault) → label_here (state_of a) at ≡ Ok b
    → Faults f (case_word s (state_of a).ctx (state_of a).work e) → Faults f (case_label s (state_of a) at e)
case_fails a s at e b f h k = faults_same f (and_then (case_word s (state_of a).ctx (state_of a).work e) (λ (v : ℕ). case_of (state_of a) at v)) _
    (case_is s (state_of a) at e ∙ ap (λ (z : Result Bool ElabFault). and_then z
    (λ y. and_then (case_word s (state_of a).ctx (state_of a).work e) (λ (v : ℕ). case_of (state_of a) at v))) h)
    (faults_in (λ (z : Result ℕ ElabFault). and_then z (λ (v : ℕ). case_of (state_of a) at v)) f (case_word s (state_of a).ctx (state_of a).work e)
    (λ d. refl) k)

-- What is made beside an operand and an initialiser is not kept

pub given_alone : (old new : List Tree) (w : Work) (r : TNodeId) (x : Result Made ElabFault) → MadeAt old new w r x
    → Given old new r (and_then x (λ (m : Made). Ok m.tree))
given_alone old new w r x h = record { grows = h.grows; within = h.within; is = ap (λ (z : Result Made ElabFault). and_then z (λ (m : Made). Ok m.tree)) h.is }

pub stands_alone : (old new : List Tree) (w : Work) (o : OperandRec) (x : Result Typed ElabFault) → TypedAt old new w o x
    → OperandAt old new o (and_then x (λ (y : Typed). Ok y.operand))
stands_alone old new w o x h = record {
  grows = h.grows;
  within = h.within;
  is = ap
      (λ (z : Result Typed ElabFault). and_then z (λ (y : Typed). Ok y.operand)) h.is;
}

pub unmoved_grown : (a : StateRec) (w : WorkRec) → Unmoved a.work w → Grown a (record a { work = w })
unmoved_grown a w u = grown_by a (record a { work = w })
    (subst (λ (v : Vec TNode Alloc). Grows (made a) (trees_of v.items)) (sym u.nodes) (grows_refl (made a))) refl

pub unmoved_state : (a : StateRec) (w : WorkRec) → Unmoved a.work w → state_of (record a { work = w }) ≡ state_of a
unmoved_state a w u = ap (λ (z : Work). record (state_of a) { work = z }) u.work

-- The word of a label, where the nodes alone have grown on the way

pub label_is : (c : Ctx) (a b : Work) (o p : Operand) (t u v : Tree) → initial_alone c a c.labels.typ o ≡ Ok t → u ≡ t → p ≡ o → v ≡ value p → b ≡ a
    → label_word c a a.globals o ≡ word_of c b.globals o.at v u
label_is c a b o p t u v m e q h k =
    ap (λ (z : Result Tree ElabFault). and_then z (λ (x : Tree). word_of c a.globals o.at (value o) x)) m
    ∙ ap (λ (x : Tree). word_of c a.globals o.at (value o) x) (sym e)
    ∙ ap (λ (z : Tree). word_of c a.globals o.at z u) (ap value (sym q) ∙ sym h)
    ∙ ap (λ (z : Work). word_of c z.globals o.at v u) (sym k)

pub case_word_is : (s : List Lexeme) (c : Ctx) (a b : Work) (e : syntax.Tree) (o : Operand) → operand_alone s c a e ≡ Ok o → b ≡ a
    → case_word s c a e ≡ label_word c b b.globals o
case_word_is s c a b e o h k = ap (λ (z : Result Operand ElabFault). and_then z (λ (x : Operand). label_word c a a.globals x)) h
    ∙ ap (λ (z : Work). label_word c z z.globals o) (sym k)

pub tells_fault : (r : Result ℕ ElabFault) (f : ElabFault) (x y : Result ℕ ElabFault) → r ≡ Err f → y ≡ x → Faults f x → Tells r y
tells_fault r f x y h e g = subst (λ (z : Result ℕ ElabFault). Tells z y) (sym h) (faults_same f x y e g)
