-- What is asked of the function at hand holds from its parameters on.
use Rattle.std.proofs.Common.{arith, lt-ltb, ◌<◌, ◌≡◌, refl, sym, ap, ◌∙◌, subst, ℕ, zero, suc, Bool, true, false, nat_lt, List, [], ◌∷◌, ◌++◌, length, Option, Some, None, is_some, slice_get, option_and_then}
use Rattle.std.proofs.lemmas.Option.{same_Some}
use Rattle.std.specs.Prelude.{if◌then◌else◌, ◌||◌, ◌&&◌, not, count_by}
use Rattle.elab_rules.specs.cpp_types.Typ.{Typ, typ, Signature, void, ptr, class, closure}
use Rattle.elab_rules.specs.cpp_types.Equal.{typ_eq}
use Rattle.elab_rules.specs.cpp_types.Class.{Class, completion_of, held}
use Rattle.elab_rules.specs.cpp_lex.Tokens.{Lexeme}
use Rattle.elab_rules.specs.cpp_tree.Notation.{plain}
use Rattle.elab_rules.specs.cpp_tree.Typing.{is_class_typ}
use Rattle.elab_rules.specs.cpp_tree.declared.faults.IllRule.TheVariants.{Incomplete, Redeclared}
use Rattle.elab_rules.specs.elab_ctx.Ctx.{Variable, This, Lambda}
use Rattle.elab_rules.specs.elab_ctx.Steps.{check, spelling}
use Rattle.elab_rules.specs.Names.{is_outer}
use Rattle.elab_rules.specs.Operators.{is_complete}
use Rattle.elab_rules.specs.Types.{Parameter}
use Rattle.elab_rules.specs.Statements.{State, is_fresh}
use Rattle.elab_rules.specs.Classes.{class_named, is_completed}
use Rattle.elab_rules.specs.Lambdas.{Written, capture_members, call_record}
use Rattle.elab_rules.specs.Functions.{result_items, this_items, this_at, word_item, parameter_named}
use Rattle.elab_fits.specs.Standing.{On}
use Rattle.elab_fits.proofs.Equal.{typ_refl}
use Rattle.elab_fits.proofs.Steps.{bind, skip}
use Rattle.elab_fits_forms.specs.Context.{is_item_of}
use Rattle.setting_growth.specs.Growth.{ClassesGrow}
use Rattle.elab_contexts.proofs.Lists.{one_more_at}
use Rattle.elab_contexts.proofs.Found.{before_it, at_the_end}
use Rattle.elab_holds.specs.Locals.{Locals, locals, HoldIn, HasItemOf, LocalsHold, LocalsStay, FunctionsEntered, ObjectsEntered, ParametersPlaced}
use Rattle.elab_holds.specs.Locals.{LambdasEntered, LocalsGrow, VariablesPlaced, VariablesDeclared}

-- What stays

pub stay_law : LocalsStay
stay_law old new before now s h = record {
  variables = λ i v t o e k. let x = h.variables i v t (ap (is_outer i) (sym s.lambda) ∙ o) (ap (λ (vs : List Variable). slice_get vs i) (sym s.variables) ∙ e) k in
      record { item = x.item; at = s.frame v.place x.item x.at; is = x.is };
  this = λ t e. s.frame t.place (plain (ptr t.typ)) (h.this t (sym s.this ∙ e));
  inside = λ n e. s.complete n (h.inside n (sym s.class ∙ e));
  lambda = λ x e. s.complete x.class (h.lambda x (sym s.lambda ∙ e));
}

done_still : (old new : List Class) → ClassesGrow old new → (n : ℕ) → is_some (completion_of old n) ≡ true → is_some (completion_of new n) ≡ true
done_still old new g n h = by (slice_get old n) refl h
  where
    by : (o : Option Class) → slice_get old n ≡ o → is_some (option_and_then (λ (c : Class). c.complete) o) ≡ true → is_some (completion_of new n) ≡ true
    by None e q = absurd cc
    by (Some c) e q = at c e c.complete refl q
      where
        at : (c : Class) → slice_get old n ≡ Some c → (k : Option ℕ) → c.complete ≡ k → is_some c.complete ≡ true → is_some (completion_of new n) ≡ true
        at c e None z q = absurd cc
        at c e (Some k) z q = ap (λ (o : Option Class). is_some (option_and_then (λ (c : Class). c.complete) o)) (g.complete n k c e z) ∙ q

pub grow_law : LocalsGrow
grow_law a b g v t c l h = stay_law (locals a.ctx) (locals b.ctx) a.work.frame b.work.frame
    (record { complete = done_still a.ctx.classes b.ctx.classes g.unit.classes; frame = g.frame; variables = v; this = t; class = c; lambda = l }) h

-- A further variable

abbrev HasItems : Locals → List Typ → ℕ → Variable → Type 0
HasItems l frame i v = (t : Typ) → is_outer i l.lambda ≡ None → v.typ ≡ Some t → HasItemOf frame v.place t

pub variable_placed : (l : Locals) (frame : List Typ) (t item : Typ) → is_item_of t item ≡ true → HoldIn l frame
    → HoldIn (record l { variables = l.variables ++ record { typ = Some t; place = length frame } ∷ [] }) (frame ++ item ∷ [])
variable_placed l frame t item q h =
    let v : Variable = record { typ = Some t; place = length frame } in
    record {
      variables = λ i w u o e k. one_more_at (HasItems l (frame ++ item ∷ [])) l.variables v
          (λ j y g u p m. let x = h.variables j y u p g m in record { item = x.item; at = before_it frame item y.place x.item x.at; is = x.is })
          (λ u p m. record { item = item; at = at_the_end frame item; is = subst (λ (z : Typ). is_item_of z item ≡ true) (same_Some t u m) q })
          i w e u o k;
      this = λ x e. before_it frame item x.place _ (h.this x e);
      inside = h.inside;
      lambda = h.lambda;
    }

pub placed_law : VariablesPlaced
placed_law st name t h = variable_placed _ st.work.frame t t (by (typ_eq t t) (typ_refl t)) h
  where
    by : (b : Bool) → b ≡ true → (b || (is_class_typ t && typ_eq t (plain (ptr t)))) ≡ true
    by true e = refl
    by false e = absurd cc

pub declared_law : VariablesDeclared
declared_law st name h = record {
  variables = λ i w u o e k. one_more_at (HasItems (locals st.ctx) st.work.frame) st.ctx.variables (record { typ = None; place = length st.work.frame })
      (λ j y g u p m. h.variables j y u p g m) (λ u p m. absurd cc) i w e u o k;
  this = h.this;
  inside = h.inside;
  lambda = h.lambda;
}

-- Parameters

or_true : (b : Bool) → (b || true) ≡ true
or_true true = refl
or_true false = refl

word_is_item : (t : Typ) → is_item_of t (word_item t) ≡ true
word_is_item t = by (is_class_typ t) refl
  where
    by : (b : Bool) → is_class_typ t ≡ b → (typ_eq t (if b then plain (ptr t) else t) || (is_class_typ t && typ_eq (if b then plain (ptr t) else t) (plain (ptr t)))) ≡ true
    by true e = let p = typ_refl (plain (ptr t)) in rw (e, p) (or_true (typ_eq t (plain (ptr t))))
    by false e = let p = typ_refl t in rw p refl

named_placed : (s : List Lexeme) (st : State) (p : Parameter) (o : Option ℕ) → LocalsHold st.ctx st.work
    → On (λ (y : State). LocalsHold y.ctx y.work) (parameter_named s st p o)
named_placed s st p (Some n) h = skip (λ (y : State). LocalsHold y.ctx y.work) (check p.at Redeclared (is_fresh st.ctx (spelling s n))) _
    (λ y. variable_placed _ st.work.frame p.typ (word_item p.typ) (word_is_item p.typ) h)
named_placed s st p None h = variable_placed _ st.work.frame p.typ (word_item p.typ) (word_is_item p.typ) h

pub parameters_law : ParametersPlaced
parameters_law s st [] h = h
parameters_law s st (p ∷ ps) h = skip (λ (y : State). LocalsHold y.ctx y.work) (check p.at Incomplete (is_complete st.ctx (held p.typ))) _
    (λ y. bind (λ (x : State). LocalsHold x.ctx x.work) (λ (x : State). LocalsHold x.ctx x.work) (parameter_named s st p p.name) _
    (named_placed s st p p.name h) (λ x i. parameters_law s x ps i))

-- Into a function

this_placed : (before : List Typ) (o : Option Typ) (t : This) → this_at before o ≡ Some t
    → slice_get (before ++ this_items o) t.place ≡ Some (plain (ptr t.typ))
this_placed before None t e = absurd cc
this_placed before (Some u) t e = subst (λ (x : This). slice_get (before ++ plain (ptr u) ∷ []) x.place ≡ Some (plain (ptr x.typ))) (same_Some _ t e)
    (at_the_end before (plain (ptr u)))

pub entered_law : FunctionsEntered
entered_law st r this home h = record {
  variables = λ i v t o e k. absurd cc;
  this = λ t e. this_placed (result_items r) this t e;
  inside = h;
  lambda = λ x e. absurd cc;
}

pub objects_law : ObjectsEntered
objects_law st n h = entered_law st (plain void) (Some (plain (class n))) (Some n) (λ m e. subst (λ k. is_some (completion_of st.ctx.classes k) ≡ true) (same_Some n m e) h)

-- Into a lambda

still_complete : (cs : List Class) (c : Class) (n : ℕ) → is_some (completion_of cs n) ≡ true → is_some (completion_of (cs ++ c ∷ []) n) ≡ true
still_complete [] c n h = absurd cc
still_complete (d ∷ cs) c zero h = h
still_complete (d ∷ cs) c (suc n) h = still_complete cs c n h

end_complete : (cs : List Class) (c : Class) → is_some c.complete ≡ true → is_some (completion_of (cs ++ c ∷ []) (length cs)) ≡ true
end_complete [] c h = h
end_complete (d ∷ cs) c h = end_complete cs c h

-- all variables around it are outer ones
place_within : {A : Type 0} (xs : List A) (i : ℕ) (x : A) → slice_get xs i ≡ Some x → i < length xs
place_within [] i x h = absurd cc
place_within (y ∷ xs) zero x h = omega arith
place_within (y ∷ xs) (suc i) x h = let l = place_within xs i x h in omega (arith, l)

within_list : {A : Type 0} (xs : List A) (i : ℕ) (x : A) → slice_get xs i ≡ Some x → nat_lt i (length xs) ≡ true
within_list xs i x h = lt-ltb i (length xs) (place_within xs i x h)

outer_by : (b : Bool) (l : Lambda) (A : Type 0) → b ≡ true → (if b then Some l else None) ≡ None → A
outer_by true l A h e = absurd cc
outer_by false l A h e = absurd cc

abbrev closure_class : State → Written → Signature → Class
closure_class st x sig = class_named [] None false (capture_members x.captures) (call_record x.at sig x.qualifiers x.is_mutable ∷ [])
    (Some (count_by is_completed st.ctx.classes))

pub lambdas_law : LambdasEntered
lambdas_law st before x rs r sig h =
    let own : Typ = typ (closure (length st.ctx.classes)) (not x.is_mutable) false in
    let l : Lambda = record { class = length st.ctx.classes; outer = length st.ctx.variables; captures = x.captures } in
    let cs : List Class = st.ctx.classes ++ closure_class st x sig ∷ [] in
    record {
      variables = λ i v t o e k. outer_by (nat_lt i (length st.ctx.variables)) l _ (within_list st.ctx.variables i v e) o;
      this = λ t e. subst (λ (y : This). slice_get (result_items r ++ plain (ptr own) ∷ []) y.place ≡ Some (plain (ptr y.typ)))
          (same_Some (record { typ = own; place = length (result_items r) }) t e) (at_the_end (result_items r) (plain (ptr own)));
      inside = λ n e. still_complete st.ctx.classes (closure_class st x sig) n (h.inside n e);
      lambda = λ y e. subst (λ (z : Lambda). is_some (completion_of cs z.class) ≡ true) (same_Some l y e)
          (end_complete st.ctx.classes (closure_class st x sig) refl);
    }
