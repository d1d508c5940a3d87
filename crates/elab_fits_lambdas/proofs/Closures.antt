-- A lambda is at hand behind itself, and so are those before it.
use Rattle.std.proofs.Common.{◌≡◌, refl, sym, ap, ◌∙◌, subst, ℕ, suc, Bool, true, List, [], ◌∷◌, ◌++◌, map, length, slice_get, Option, Some, None}
use Rattle.std.proofs.Common.{is_some}
use Rattle.elab_rules.specs.cpp_types.Typ.{Typ, Signature, class}
use Rattle.elab_rules.specs.cpp_types.Class.{Class, Member}
use Rattle.elab_rules.specs.cpp_lex.Tokens.{Lexeme}
use Rattle.elab_rules.specs.cpp_ast.Trees as syntax
use Rattle.elab_rules.specs.cpp_tree.Notation.{plain}
use Rattle.elab_rules.specs.cpp_tree.Trees.{Tree}
use Rattle.elab_rules.specs.cpp_tree.Typing.{passes}
use Rattle.elab_rules.specs.elab_ctx.Ctx.{Ctx, Capture, Closure, known}
use Rattle.elab_rules.specs.Objects.{Part, base_part, members_from, parts_in}
use Rattle.elab_rules.specs.Statements.{State}
use Rattle.elab_rules.specs.Functions.{with_parameters}
use Rattle.elab_rules.specs.Lambdas.{Written, no_lambda, body_statements, capture_members, declared_closure, with_written}
use Rattle.elab_rules.specs.Lambdas.{default_in, used_in}
use Rattle.elab_fits.specs.Standing.{On}
use Rattle.elab_fits.proofs.Steps.{answered}
use Rattle.elab_fits_forms.specs.Types.{is_empty, is_lambda}
use Rattle.elab_fits_forms.specs.Expressions.{IsCapture, IsClosure, ClosuresHold}
use Rattle.setting_growth.specs.Growth.{ClassesGrow}
use Rattle.setting_growth.proofs.Settings.{classes_go_on}
use Rattle.state_growth.proofs.Bodies.{classes_added, no_lambda_lawful}
use Rattle.state_growth.proofs.Statements.{statements_kept, parameters_kept}
use Rattle.state_growth.proofs.Steps.{Ends, follow, of_state, of_done}
use Rattle.elab_fits_states.proofs.Lists.{last_item}
use Rattle.elab_fits_lambdas.specs.Captured.{AreCaptures}
use Rattle.elab_fits_lambdas.specs.Made.{lambda_inside, call_signature, lambda_block, lambda_left, IsWritten, IsKnown, AreComplete, OneAtHand}
use Rattle.elab_contexts.proofs.Lists.{one_more}
use Rattle.elab_fits_lambdas.proofs.Captured.{explicit_all, default_all}

-- The types of the parts of a class

abbrev part_types : List Part → List Typ
part_types ps = map (λ (p : Part). p.typ) ps

abbrev member_types : List Member → List Typ
member_types ms = map (λ (m : Member). m.typ) ms

abbrev types_in : Option Class → List Typ
types_in None = []
types_in (Some k) = part_types (base_part k.base) ++ member_types k.members

members_typed : (classes : List Class) (n : ℕ) (k : Class) (i : ℕ) (ms : List Member) → part_types (members_from classes n k i ms) ≡ member_types ms
members_typed classes n k i [] = refl
members_typed classes n k i (m ∷ ms) = ap (λ (ts : List Typ). m.typ ∷ ts) (members_typed classes n k (suc i) ms)

behind_base : (b : Option ℕ) (ps : List Part) (ts : List Typ) → part_types ps ≡ ts → part_types (base_part b ++ ps) ≡ part_types (base_part b) ++ ts
behind_base None ps ts h = h
behind_base (Some b) ps ts h = ap (λ (us : List Typ). plain (class b) ∷ us) h

parts_typed : (classes : List Class) (n : ℕ) (o : Option Class) → part_types (parts_in classes n o) ≡ types_in o
parts_typed classes n None = refl
parts_typed classes n (Some k) = behind_base k.base (members_from classes n k 0 k.members) (member_types k.members)
    (members_typed classes n k 0 k.members)

captures_typed : (xs : List Capture) → member_types (capture_members xs) ≡ map (λ (x : Capture). x.typ) xs
captures_typed [] = refl
captures_typed (x ∷ xs) = ap (λ (ts : List Typ). x.typ ∷ ts) (captures_typed xs)

-- Classes of lambdas

-- the class of a lambda is in the list
record IsNameless (classes : List Class) (n : ℕ) : Type 0 where
  class : Class
  at : slice_get classes n ≡ Some class
  nameless : is_empty class.name ≡ true

nameless_at : (classes : List Class) (n : ℕ) → is_lambda classes n ≡ true → IsNameless classes n
nameless_at classes n h = by (slice_get classes n) refl h
  where
    by : (o : Option Class) → slice_get classes n ≡ o → passes (λ (k : Class). is_empty k.name) o ≡ true → IsNameless classes n
    by (Some k) e q = record { class = k; at = e; nameless = q }
    by None e q = absurd cc

-- a complete class stays as it is
stays_at : (old new : List Class) → ClassesGrow old new → (n : ℕ) (k : Class) → slice_get old n ≡ Some k → is_some k.complete ≡ true
    → slice_get new n ≡ Some k
stays_at old new g n k e h = by k.complete refl h
  where
    by : (o : Option ℕ) → k.complete ≡ o → is_some o ≡ true → slice_get new n ≡ Some k
    by (Some m) f q = g.complete n m k e f
    by None f q = absurd cc

abbrev is_lambda_at : Option Class → Bool
is_lambda_at o = passes (λ (k : Class). is_empty k.name) o

-- What is captured is captured still

capture_still : (c d : Ctx) (x : Capture) → d.variables ≡ c.variables → d.this ≡ c.this → IsCapture c x → IsCapture d x
capture_still c d x e f h = record {
  variable = λ i g. let v = h.variable i g in
      record { variable = v.variable; at = ap (λ (vs : List _). slice_get vs i) e ∙ v.at; typ = v.typ; known = v.known; is = v.is };
  this = λ g. let t = h.this g in record { this = t.this; at = f ∙ t.at; is = t.is };
}

-- a lambda of before, where classes have grown
closure_still : (c d : Ctx) (x : Closure) → ClassesGrow c.classes d.classes → AreComplete c.classes → d.variables ≡ c.variables → d.this ≡ c.this
    → d.lambda ≡ None → IsClosure c x → IsClosure d x
closure_still c d x g complete e f outside h =
    let k = nameless_at c.classes x.class h.lambda in
    let at = stays_at c.classes d.classes g x.class k.class k.at (complete x.class k.class k.at k.nameless) in record {
      outside = outside;
      lambda = ap is_lambda_at at ∙ k.nameless;
      parts = parts_typed d.classes x.class (slice_get d.classes x.class) ∙ ap types_in at ∙ sym (ap types_in k.at)
          ∙ sym (parts_typed c.classes x.class (slice_get c.classes x.class)) ∙ h.parts;
      captures = λ i y q. capture_still c d y e f (h.captures i y q);
    }

-- the lambda itself
closure_new : (c d : Ctx) (x : Closure) (k : Class) → slice_get d.classes x.class ≡ Some k → is_empty k.name ≡ true → k.base ≡ None
    → k.members ≡ capture_members x.captures → d.variables ≡ c.variables → d.this ≡ c.this → d.lambda ≡ None → AreCaptures c x.captures → IsClosure d x
closure_new c d x k at nameless base members e f outside h = record {
  outside = outside;
  lambda = ap is_lambda_at at ∙ nameless;
  parts = parts_typed d.classes x.class (slice_get d.classes x.class) ∙ ap types_in at
      ∙ ap (λ (o : Option ℕ). part_types (base_part o) ++ member_types k.members) base ∙ ap member_types members ∙ captures_typed x.captures;
  captures = λ i y q. capture_still c d y e f (h i y q);
}

-- One lambda

pub body_kept : (s : List Lexeme) (e : State) (x : Written) → On (Ends e) (body_statements s e x)
body_kept s e x = follow of_state of_done e (with_parameters s e x.params) _ (parameters_kept s e x.params)
    (λ y. statements_kept no_lambda no_lambda_lawful s y x.body)

-- with its body behind it
left_at_hand : (st : State) (x : Written) (sig : Signature) (tree : Tree) (y : State)
    → ClassesGrow (declared_closure st x sig).classes y.ctx.classes → AreComplete st.ctx.classes → st.ctx.lambda ≡ None → AreCaptures st.ctx x.captures
    → ClosuresHold st.ctx st.ctx.closures → let z = (with_written (lambda_left st x sig tree y) (length st.ctx.classes) x).ctx in ClosuresHold z z.closures
left_at_hand st x sig tree y g complete outside captured h = record {
  closures = one_more (IsClosure z.ctx) st.ctx.closures (record { at = x.at; class = length st.ctx.classes; captures = x.captures })
      (λ i c e. closure_still st.ctx z.ctx c (classes_go_on st.ctx.classes n y.ctx.classes (classes_added st.ctx.classes _) g) complete refl refl outside
      (h.closures i c e))
      (closure_new st.ctx z.ctx _ _ (stays_at n y.ctx.classes g (length st.ctx.classes) _ (last_item st.ctx.classes _) refl) refl refl refl refl refl outside
      captured);
}
  where
    z : State
    z = with_written (lambda_left st x sig tree y) (length st.ctx.classes) x

    n : List Class
    n = (declared_closure st x sig).classes

abbrev AtHand : State → Type 0
AtHand y = ClosuresHold y.ctx y.ctx.closures

known_at_hand : (s : List Lexeme) (st : State) (x : Written) (r : Typ) (y : State) → IsKnown s st x r y → AreComplete st.ctx.classes → st.ctx.lambda ≡ None
    → AreCaptures st.ctx x.captures → AtHand st → AtHand (with_written y (length st.ctx.classes) x)
known_at_hand s st x r y h complete outside captured held =
    let sig = call_signature x r in
    let e = lambda_inside st x (known r) r sig in
    subst (λ (z : State). AtHand (with_written z (length st.ctx.classes) x)) (sym h.is)
    (left_at_hand st x sig (lambda_block x r h.done) h.done.state (answered (Ends e) (body_statements s e x) h.done (body_kept s e x) h.read).kept.classes complete outside captured
    held)

written_captures : (s : List Lexeme) (st : State) (intro parts : syntax.Trees) (body : syntax.Tree) (x : Written) → IsWritten s st intro parts body x
    → AreCaptures st.ctx x.captures
written_captures s st intro parts body x h = answered (AreCaptures st.ctx) _ x.captures (default_all st.ctx (default_in s intro) h.named
    (used_in s st.ctx x.params body) (answered (AreCaptures st.ctx) _ h.named (explicit_all s st.ctx (default_in s intro) intro) h.explicit)) h.defaults

pub one_at_hand : OneAtHand
one_at_hand s st kids y h complete outside held = subst AtHand (sym h.made.is)
    (known_at_hand s st h.text h.made.result h.made.before h.made.known complete outside
    (written_captures s st h.intro h.parts h.body h.text h.written) held)
