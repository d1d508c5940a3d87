-- A lambda is made, step by step.
use Rattle.std.proofs.Common.{◌≡◌, ◌∙◌, ℕ, false, not, List, length, Result, Ok, refl, sym, ap, subst}
use Rattle.std.proofs.lemmas.List.{length-map}
use Rattle.elab_entry.specs.cpp_types.Typ.{Typ, typ, closure, Signature, void, typ_of}
use Rattle.elab_entry.specs.cpp_types.declared.types.Ty.{Ty}
use Rattle.elab_entry.specs.cpp_lex.Tokens.{Lexeme}
use Rattle.elab_entry.specs.cpp_tree.declared.faults.ElabFault.{ElabFault}
use Rattle.elab_entry.specs.cpp_tree.Notation.{plain}
use Rattle.elab_entry.specs.elab_ctx.Ctx.{Returns, Lambda}
use Rattle.elab_entry.specs.elab_ctx.Steps.{and_then}
use Rattle.elab_entry.specs.elab_ctx.Says.{Faults}
use Rattle.elab_entry.proofs.elab_ctx.Making.{faults_in, faults_same}
use Rattle.elab_entry.specs.elab_rules.Statements.{State}
use Rattle.elab_entry.specs.elab_rules.Lambdas.{Written, declared_closure, with_written}
use Rattle.elab_entry.specs.elab_scopes.declared.state.State.{State as StateRec}
use Rattle.elab_entry.specs.elab_scopes.States.{state_of, made}
use Rattle.elab_entry.specs.elab_scopes.Says.{Changed, Changes}
use Rattle.elab_entry.proofs.elab_scopes.Standing.{grown_trans, grown_by}
use Rattle.elab_entry.specs.Round.{Round, round_lambda}
use Rattle.elab_entry.specs.Bodies.{entered_lambda}
use Rattle.elab_lambdas.specs.Checkpoints.{checkpoint_in, undone_to}
use Rattle.elab_lambdas.specs.declared.undoing.Checkpoint.{Checkpoint}
use Rattle.elab_lambdas.specs.Whole.{Deduced, call_signature, closure_entered, lambda_with, lambda_known, undone, result_read, result_deduced, result_of}
use Rattle.elab_lambdas.specs.Whole.{lambda_made}
use Rattle.elab_lambdas.specs.Outcomes.{DeducedAt}
use Rattle.elab_lambdas.proofs.Kept.{same_trees}

-- Into the body

pub entered_is : (st mid out : State) (x : Written) (rs : Returns) (r this : Typ) (sig : Signature) (l : Lambda) (n : ℕ)
    → mid ≡ record st { ctx = declared_closure st x sig } → out ≡ entered_lambda mid r this rs l → this ≡ typ (closure n) (not x.is_mutable) false
    → l ≡ record { class = n; outer = length st.ctx.variables; captures = x.captures } → n ≡ length st.ctx.classes → out ≡ closure_entered st x rs r sig
entered_is st mid out x rs r this sig l n em eo et el en =
    eo
    ∙ ap (λ (z : State). entered_lambda z r this rs l) em
    ∙ ap (λ (z : Typ). entered_lambda (record st { ctx = declared_closure st x sig }) r z rs l) et
    ∙ ap (λ (z : Lambda). entered_lambda (record st { ctx = declared_closure st x sig }) r (typ (closure n) (not x.is_mutable) false) rs z) el
    ∙ ap (λ (z : ℕ). entered_lambda (record st { ctx = declared_closure st x sig }) r (typ (closure z) (not x.is_mutable) false) rs
    (record { class = z; outer = length st.ctx.variables; captures = x.captures })) en

pub round_is : (st mid : State) (x : Written) (sig : Signature) (around : Round) → mid ≡ record st { ctx = declared_closure st x sig }
    → around ≡ round_lambda mid → around ≡ round_lambda st
round_is st mid x sig around em e = e ∙ ap round_lambda em

-- With the type of its call

pub known_is : (s : List Lexeme) (a c : StateRec) (x : Written) (ret : Typ) (sig : Signature) (r : Result (Unit {0}) ElabFault)
    → call_signature (state_of a).ctx x.at ret x.params x.qualifiers ≡ Ok sig → Changes a c r (lambda_with s (state_of a) x ret sig)
    → Changes a c r (lambda_known s (state_of a) x ret)
known_is s a c x ret sig r e m = subst (λ (z : Result State ElabFault). Changes a c r z)
    (sym (ap (λ (z : Result Signature ElabFault). and_then z (λ (y : Signature). lambda_with s (state_of a) x ret y)) e)) m

pub known_refused : (s : List Lexeme) (st : State) (x : Written) (ret : Typ) (e : ElabFault) → Faults e (call_signature st.ctx x.at ret x.params x.qualifiers)
    → Faults e (lambda_known s st x ret)
known_refused s st x ret e m = faults_in (λ (z : Result Signature ElabFault). and_then z (λ (y : Signature). lambda_with s st x ret y)) e
    (call_signature st.ctx x.at ret x.params x.qualifiers) (λ d. refl) m

-- Its result

mark_is : (a : StateRec) (st : State) → undone_to (checkpoint_in a) st ≡ undone (state_of a) st
mark_is a st = simp length-map

pub deduced_done : (s : List Lexeme) (a b c : StateRec) (x : Written) (ret : Typ) (sig : Signature) (m : Checkpoint) (t : Ty) → ret ≡ plain void
    → call_signature (state_of a).ctx x.at ret x.params x.qualifiers ≡ Ok sig → m ≡ checkpoint_in a → DeducedAt a b t (result_read s (state_of a) x sig)
    → state_of c ≡ undone_to m (state_of b) → made c ≡ made b → DeducedAt a c t (result_deduced s (state_of a) x)
deduced_done s a b c x ret sig m t y e em h u n =
    let state : undone (state_of a) (state_of b) ≡ state_of c = sym (u ∙ ap (λ (z : Checkpoint). undone_to z (state_of b)) em ∙ mark_is a (state_of b)) in
    let signed : call_signature (state_of a).ctx x.at (plain void) x.params x.qualifiers ≡ Ok sig =
    ap (λ (z : Typ). call_signature (state_of a).ctx x.at z x.params x.qualifiers) (sym y) ∙ e in
    record {
      grown = grown_trans a b c h.grown (grown_by b c (same_trees (made b) (made c) n) (ap (λ (z : State). z.ctx.labels) (sym state)));
      is =
          ap (λ (z : Result Signature ElabFault). and_then z
          (λ (g : Signature). and_then (result_read s (state_of a) x g)
          (λ (r : Deduced). Ok (record { typ = r.typ; state = undone (state_of a) r.state })))) signed
          ∙ ap (λ (z : Result Deduced ElabFault). and_then z (λ (r : Deduced). Ok (record { typ = r.typ; state = undone (state_of a) r.state }))) h.is
          ∙ ap (λ (z : State). Ok (record { typ = typ_of t; state = z })) state;
    }

pub deduced_unsigned : (s : List Lexeme) (st : State) (x : Written) (ret : Typ) (e : ElabFault) → ret ≡ plain void
    → Faults e (call_signature st.ctx x.at ret x.params x.qualifiers) → Faults e (result_deduced s st x)
deduced_unsigned s st x ret e y m =
    faults_in (λ (z : Result Signature ElabFault). and_then z
    (λ (g : Signature). and_then (result_read s st x g) (λ (r : Deduced). Ok (record { typ = r.typ; state = undone st r.state })))) e
    (call_signature st.ctx x.at (plain void) x.params x.qualifiers) (λ d. refl)
    (subst (λ (z : Typ). Faults e (call_signature st.ctx x.at z x.params x.qualifiers)) y m)

pub deduced_refused : (s : List Lexeme) (st : State) (x : Written) (ret : Typ) (sig : Signature) (e : ElabFault) → ret ≡ plain void
    → call_signature st.ctx x.at ret x.params x.qualifiers ≡ Ok sig → Faults e (result_read s st x sig) → Faults e (result_deduced s st x)
deduced_refused s st x ret sig e y h m =
    let signed : call_signature st.ctx x.at (plain void) x.params x.qualifiers ≡ Ok sig =
    ap (λ (z : Typ). call_signature st.ctx x.at z x.params x.qualifiers) (sym y) ∙ h in
    faults_same e (and_then (result_read s st x sig) (λ (r : Deduced). Ok (record { typ = r.typ; state = undone st r.state }))) (result_deduced s st x)
    (ap (λ (z : Result Signature ElabFault). and_then z
    (λ (g : Signature). and_then (result_read s st x g) (λ (r : Deduced). Ok (record { typ = r.typ; state = undone st r.state })))) signed)
    (faults_in (λ (z : Result Deduced ElabFault). and_then z (λ (r : Deduced). Ok (record { typ = r.typ; state = undone st r.state }))) e
    (result_read s st x sig) (λ d. refl) m)

-- The whole

pub made_is : (s : List Lexeme) (a b c d : StateRec) (x : Written) (t : Ty) (n : ℕ) → DeducedAt a b t (result_of s (state_of a) x x.result)
    → n ≡ length (state_of b).ctx.classes → Changed b c (lambda_known s (state_of b) x (typ_of t)) → state_of d ≡ with_written (state_of c) n x
    → made d ≡ made c → Changed a d (lambda_made s (state_of a) x)
made_is s a b c d x t n h e m w l = record {
  grown = grown_trans a b d h.grown (grown_trans b c d m.grown (grown_by c d (same_trees (made c) (made d) l) (ap (λ (z : State). z.ctx.labels) w)));
  is =
      ap (λ (z : Result Deduced ElabFault). and_then z
      (λ (r : Deduced). and_then (lambda_known s r.state x r.typ) (λ (y : State). Ok (with_written y (length r.state.ctx.classes) x)))) h.is
      ∙ ap (λ (z : Result State ElabFault). and_then z (λ (y : State). Ok (with_written y (length (state_of b).ctx.classes) x))) m.is
      ∙ ap (λ (z : ℕ). Ok (with_written (state_of c) z x)) (sym e)
      ∙ ap (λ (z : State). Ok z) (sym w);
}

pub made_undeduced : (s : List Lexeme) (st : State) (x : Written) (e : ElabFault) → Faults e (result_of s st x x.result) → Faults e (lambda_made s st x)
made_undeduced s st x e m = faults_in (λ (z : Result Deduced ElabFault). and_then z
    (λ (r : Deduced). and_then (lambda_known s r.state x r.typ) (λ (y : State). Ok (with_written y (length r.state.ctx.classes) x)))) e
    (result_of s st x x.result) (λ d. refl) m

pub made_refused : (s : List Lexeme) (a b : StateRec) (x : Written) (t : Ty) (e : ElabFault) → DeducedAt a b t (result_of s (state_of a) x x.result)
    → Faults e (lambda_known s (state_of b) x (typ_of t)) → Faults e (lambda_made s (state_of a) x)
made_refused s a b x t e h m =
    faults_same e (and_then (lambda_known s (state_of b) x (typ_of t)) (λ (y : State). Ok (with_written y (length (state_of b).ctx.classes) x)))
    (lambda_made s (state_of a) x)
    (ap (λ (z : Result Deduced ElabFault). and_then z
    (λ (r : Deduced). and_then (lambda_known s r.state x r.typ) (λ (y : State). Ok (with_written y (length r.state.ctx.classes) x)))) h.is)
    (faults_in (λ (z : Result State ElabFault). and_then z (λ (y : State). Ok (with_written y (length (state_of b).ctx.classes) x))) e
    (lambda_known s (state_of b) x (typ_of t)) (λ d. refl) m)
