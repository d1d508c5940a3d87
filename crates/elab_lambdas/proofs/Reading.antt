-- Reading a body for its result adds the class of the lambda alone: behind it the classes that were known stand first, as they were.
use Rattle.std.proofs.Common.{◌≡◌, ◌∙◌, ℕ, Bool, true, List, length, take, None, Result, Ok, Err, refl, sym, ap, subst}
use Rattle.std.proofs.lemmas.List.{length-map}
use Rattle.std.proofs.Math.Seq.{take-append_seam}
use Rattle.elab_entry.specs.cpp_types.Typ.{Signature, void}
use Rattle.elab_entry.specs.cpp_types.Class.{Class, class_of, classes_of}
use Rattle.elab_entry.specs.cpp_types.Order.{all_consistent}
use Rattle.elab_entry.specs.cpp_types.declared.types.Ty.{Ty}
use Rattle.elab_entry.specs.cpp_lex.Tokens.{Lexeme}
use Rattle.elab_entry.specs.cpp_tree.declared.faults.ElabFault.{ElabFault}
use Rattle.elab_entry.specs.cpp_tree.Notation.{plain}
use Rattle.elab_entry.specs.elab_ctx.Ctx.{deduced}
use Rattle.elab_entry.specs.elab_rules.Statements.{State}
use Rattle.elab_entry.specs.elab_rules.Lambdas.{Written, body_statements, closure_sized}
use Rattle.elab_entry.specs.elab_scopes.declared.state.State.{State as StateRec}
use Rattle.elab_entry.specs.elab_scopes.States.{state_of}
use Rattle.elab_lambdas.specs.Checkpoints.{checkpoint_in}
use Rattle.elab_lambdas.specs.declared.undoing.Checkpoint.{Checkpoint}
use Rattle.elab_lambdas.specs.Whole.{Deduced, closure_entered, result_read}
use Rattle.elab_lambdas.specs.Outcomes.{DeducedAt}
use Rattle.elab_lambdas.proofs.Unchanged.{Holds, done_of, passes, body_unchanged}

abbrev classes_in : List Class → Deduced → Type 0
classes_in cs d = d.state.ctx.classes ≡ cs

-- the body, with the class of its lambda
abbrev entered : State → Written → Signature → State
entered st x sig = closure_entered st x (deduced None) (plain void) sig

whatever : (x : Result Bool ElabFault) → Holds (λ (b : Bool). Unit {0}) x
whatever (Ok b) = tt
whatever (Err e) = tt

read_classes : (s : List Lexeme) (st : State) (x : Written) (sig : Signature) → Holds (classes_in (entered st x sig).ctx.classes) (result_read s st x sig)
read_classes s st x sig =
    passes (λ (b : Bool). Unit {0}) (classes_in (entered st x sig).ctx.classes) (closure_sized st x sig) _ (whatever (closure_sized st x sig)) (λ b i.
    passes (done_of (entered st x sig).ctx.classes) (classes_in (entered st x sig).ctx.classes) (body_statements s (entered st x sig) x) _
    (body_unchanged (entered st x sig).ctx.classes s (entered st x sig) x refl) (λ d h. h))

held_by : {A : Type 0} (P : A → Type 0) (r : Result A ElabFault) (a : A) → r ≡ Ok a → Holds P r → P a
held_by P r a e h = subst (Holds P) e h

left_classes : (s : List Lexeme) (st : State) (x : Written) (sig : Signature) (d : Deduced) → result_read s st x sig ≡ Ok d
    → take (length st.ctx.classes) d.state.ctx.classes ≡ st.ctx.classes
left_classes s st x sig d e =
    let all : d.state.ctx.classes ≡ (entered st x sig).ctx.classes = held_by (classes_in (entered st x sig).ctx.classes) (result_read s st x sig) d e
    (read_classes s st x sig) in
    ap (take (length st.ctx.classes)) all ∙ take-append_seam st.ctx.classes _

-- what is left when the reading is undone is in order
pub still_in_order : (s : List Lexeme) (a b : StateRec) (x : Written) (sig : Signature) (m : Checkpoint) (t : Ty) → m ≡ checkpoint_in a
    → DeducedAt a b t (result_read s (state_of a) x sig) → all_consistent (classes_of a.env.classes.items) ≡ true
    → all_consistent (take m.classes (state_of b).ctx.classes) ≡ true
still_in_order s a b x sig m t e h o =
    let long : m.classes ≡ length (state_of a).ctx.classes = ap (λ (z : Checkpoint). z.classes) e ∙ sym (length-map a.env.classes.items class_of) in
    ap (λ (n : ℕ). all_consistent (take n (state_of b).ctx.classes)) long ∙ ap all_consistent (left_classes s (state_of a) x sig _ h.is) ∙ o
