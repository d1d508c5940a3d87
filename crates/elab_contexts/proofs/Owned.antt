-- Functions of classes, and the functions in the records of classes.
use Rattle.std.proofs.Common.{◌≡◌, refl, sym, ap, ◌∙◌, subst, ℕ, zero, suc, ◌≤◌, true, false, Bool, List, [], ◌∷◌, ◌++◌, length, slice_get, Option, Some, None, is_some, arith}
use Rattle.std.specs.Prelude.{slice_set}
use Rattle.std.proofs.lemmas.List.{length-append, length-set}
use Rattle.std.proofs.lemmas.Option.{same_Some}
use Rattle.elab_rules.specs.cpp_types.Class.{Class, Member, Function}
use Rattle.elab_rules.specs.cpp_tree.declared.program.FuncKind.{FuncKind}
use Rattle.elab_rules.specs.cpp_tree.declared.program.FuncKind.TheVariants.{ClosureCall}
use Rattle.elab_rules.specs.elab_ctx.Ctx.{Func}
use Rattle.elab_contexts.specs.Overriders.{is_overrider_by, HasOverridersBy}
use Rattle.elab_contexts.specs.Texts.{is_no_name}
use Rattle.elab_contexts.specs.Steps.{SameFunction, IsOpen, has_name, is_written}
use Rattle.elab_contexts.proofs.Going.{KeepNames, name_added, name_set, written_still}
use Rattle.elab_contexts.specs.Holding.{IsOfClass, IsRecorded, of_unit, of_another}
use Rattle.elab_contexts.proofs.Lists.{one_more, one_set, one_more_at, one_set_at}
use Rattle.elab_contexts.proofs.Found.{Stay, before_it}
use Rattle.elab_contexts.proofs.Makers.{IsOldOr, is_old, is_own, IsMethodOf}
use Rattle.elab_contexts.proofs.Below.{signature_more}

-- Classes: one that has a base is complete, and one without a name, which is a lambda's

pub record IsTidy (k : Class) : Type 0 where
  pub based : (b : ℕ) → k.base ≡ Some b → is_some k.complete ≡ true
  pub nameless : is_no_name k.name ≡ true → is_some k.complete ≡ true

abbrev pub AllTidy : List Class → Type 0
AllTidy cs = (n : ℕ) (k : Class) → slice_get cs n ≡ Some k → IsTidy k

pub complete_tidy : (k : Class) → is_some k.complete ≡ true → IsTidy k
complete_tidy k h = record { based = λ b e. h; nameless = λ e. h }

-- The base of a class has a name, and members of a class that has a name have types that can be written

pub record IsPlain (cs : List Class) (k : Class) : Type 0 where
  pub base : (b : ℕ) → k.base ≡ Some b → has_name cs b ≡ true
  pub members : is_no_name k.name ≡ false → (i : ℕ) (m : Member) → slice_get k.members i ≡ Some m → is_written cs m.typ ≡ true

abbrev pub AllPlain : List Class → Type 0
AllPlain cs = (n : ℕ) (k : Class) → slice_get cs n ≡ Some k → IsPlain cs k

plain_still : (old new : List Class) (k : Class) → KeepNames old new → IsPlain old k → IsPlain new k
plain_still old new k l h = record {
  base = λ b e. l b (h.base b e);
  members = λ q i m e. written_still old new m.typ l (h.members q i m e);
}

pub plain_added : (cs : List Class) (c : Class) → IsPlain (cs ++ c ∷ []) c → AllPlain cs → AllPlain (cs ++ c ∷ [])
plain_added cs c x h = one_more (IsPlain (cs ++ c ∷ [])) cs c (λ i y e. plain_still cs (cs ++ c ∷ []) y (name_added cs c) (h i y e)) x

pub plain_set : (cs : List Class) (n : ℕ) (c : Class) → is_no_name c.name ≡ false → IsPlain cs c → AllPlain cs → AllPlain (slice_set cs n c)
plain_set cs n c q x h = one_set (IsPlain (slice_set cs n c)) cs n c
    (λ i y e. plain_still cs (slice_set cs n c) y (name_set cs n c q) (h i y e)) (λ y e. plain_still cs (slice_set cs n c) c (name_set cs n c q) x)

-- Functions of classes

abbrev pub OwnedBy : List Class → Func → Type 0
OwnedBy cs f = (n : ℕ) → f.class ≡ Some n → IsOfClass cs n f

abbrev pub AllOwned : List Class → List Func → Type 0
AllOwned cs fs = (k : ℕ) (f : Func) → slice_get fs k ≡ Some f → OwnedBy cs f

pub no_name_false : (b : Bool) (A : Type 0) → b ≡ false → b ≡ true → A
no_name_false false A h e = absurd cc
no_name_false true A h e = absurd cc

not_complete : (k : Class) (A : Type 0) → k.complete ≡ None → is_some k.complete ≡ true → A
not_complete k A h e = by k.complete h e
  where
    by : (o : Option ℕ) → o ≡ None → is_some o ≡ true → A
    by None h e = absurd cc
    by (Some n) h e = absurd cc

-- of a class that is open, which has a name
pub open_owned : (cs : List Class) (n : ℕ) (f : Func) → AllTidy cs → IsOpen cs n → IsOfClass cs n f
open_owned cs n f t o = record {
  class = o.class;
  at = o.at;
  call = λ e. not_complete o.class (f.kind ≡ ClosureCall) o.incomplete ((t n o.class o.at).nameless e);
}

pub owned_same : (cs : List Class) (f g : Func) → SameFunction f g → OwnedBy cs f → OwnedBy cs g
owned_same cs f g s h n e = let x = h n (sym s.class ∙ e) in record { class = x.class; at = x.at; call = λ q. s.kind ∙ x.call q }

pub owned_added : (cs : List Class) (c : Class) (fs : List Func) → AllOwned cs fs → AllOwned (cs ++ c ∷ []) fs
owned_added cs c fs h k f e n q = let x = h k f e n q in record { class = x.class; at = before_it cs c n x.class x.at; call = x.call }

-- a class that is set and has a name
pub set_here : (cs : List Class) (n : ℕ) (x c : Class) → slice_get cs n ≡ Some c → slice_get (slice_set cs n x) n ≡ Some x
set_here [] n x c h = absurd cc
set_here (d ∷ cs) zero x c h = refl
set_here (d ∷ cs) (suc n) x c h = set_here cs n x c h

owned_set_by : (cs : List Class) (n : ℕ) (x : Class) (f : Func) → is_no_name x.name ≡ false → (m : ℕ) → IsOfClass cs m f → IsOfClass (slice_set cs n x) m f
owned_set_by [] n x f q m h = h
owned_set_by (d ∷ cs) zero x f q zero h = record { class = x; at = refl; call = λ e. no_name_false (is_no_name x.name) (f.kind ≡ ClosureCall) q e }
owned_set_by (d ∷ cs) zero x f q (suc m) h = record { class = h.class; at = h.at; call = h.call }
owned_set_by (d ∷ cs) (suc n) x f q zero h = record { class = h.class; at = h.at; call = h.call }
owned_set_by (d ∷ cs) (suc n) x f q (suc m) h =
    let y = owned_set_by cs n x f q m (record { class = h.class; at = h.at; call = h.call }) in record { class = y.class; at = y.at; call = y.call }

pub owned_set : (cs : List Class) (n : ℕ) (x : Class) (old new : List Func) → is_no_name x.name ≡ false → IsOpen cs n
    → ((k : ℕ) (f : Func) → slice_get new k ≡ Some f → IsOldOr old n k f) → AllOwned cs old → AllOwned (slice_set cs n x) new
owned_set cs n x old new q o a h k f e m g = by (a k f e)
  where
    by : IsOldOr old n k f → IsOfClass (slice_set cs n x) m f
    by (is_old z) = owned_set_by cs n x f q m (h k f z m g)
    by (is_own z y v) = record {
      class = x;
      at = subst (λ (i : ℕ). slice_get (slice_set cs n x) i ≡ Some x) (same_Some n m (sym z ∙ g)) (set_here cs n x o.class o.at);
      call = λ i. no_name_false (is_no_name x.name) (f.kind ≡ ClosureCall) q i;
    }

-- Records of classes

abbrev pub Recorded : List Class → List Func → ℕ → Class → Type 0
Recorded cs fs n k = (i : ℕ) (g : Function) → slice_get k.functions i ≡ Some g → IsRecorded cs fs n g

abbrev pub AllRecorded : List Class → List Func → Type 0
AllRecorded cs fs = (n : ℕ) (k : Class) → slice_get cs n ≡ Some k → Recorded cs fs n k

pub recorded_still : (cs ds : List Class) (fs gs : List Func) (n : ℕ) (g : Function) → length cs ≤ length ds → Stay fs gs → IsRecorded cs fs n g
    → IsRecorded ds gs n g
recorded_still cs ds fs gs n g l s (of_unit k f e c d) =
    let x = s.kept k f e in of_unit k x.func x.at (x.is.class ∙ c) (x.is.declared ∙ d)
recorded_still cs ds fs gs n g l s (of_another h) = of_another (signature_more (length cs) (length ds) g.signature l h)

pub all_recorded_still : (cs : List Class) (fs gs : List Func) → Stay fs gs → AllRecorded cs fs → AllRecorded cs gs
all_recorded_still cs fs gs s h n k e i g q = recorded_still cs cs fs gs n g (omega arith) s (h n k e i g q)

pub recorded_added : (cs : List Class) (c : Class) (fs gs : List Func) → Stay fs gs → Recorded (cs ++ c ∷ []) gs (length cs) c → AllRecorded cs fs
    → AllRecorded (cs ++ c ∷ []) gs
recorded_added cs c fs gs s r h n k e = one_more_at (Recorded (cs ++ c ∷ []) gs) cs c
    (λ m y z i g q. recorded_still cs (cs ++ c ∷ []) fs gs m g (let l = length-append cs (c ∷ []) in omega arith) s (h m y z i g q)) r n k e

pub recorded_set : (cs : List Class) (n : ℕ) (x : Class) (fs gs : List Func) → Stay fs gs
    → ((i : ℕ) (g : Function) → slice_get x.functions i ≡ Some g → IsMethodOf n g gs) → AllRecorded cs fs → AllRecorded (slice_set cs n x) gs
recorded_set cs n x fs gs s a h m k e = one_set_at (Recorded (slice_set cs n x) gs) cs n x
    (λ j y z i g q. recorded_still cs (slice_set cs n x) fs gs j g (let l = length-set cs n x in omega arith) s (h j y z i g q))
    (λ i g q. let y = a i g q in of_unit y.place y.func y.at y.class y.is) m k e

-- Which functions override

pub overrides_same : (w : List ℕ → Bool) (f g : Func) → SameFunction f g → is_overrider_by w f ≡ true → is_overrider_by w g ≡ true
overrides_same w f g s h = ap (λ (x : Function). is_overrider_by w (record g { declared = x })) s.declared
    ∙ ap (λ (k : FuncKind). is_overrider_by w (record f { kind = k })) s.kind ∙ h

pub overriders_added : (w : List ℕ → Bool) (fs : List Func) (x : Func) → HasOverridersBy w fs → ((n : ℕ) → x.class ≡ Some n → is_overrider_by w x ≡ true) → HasOverridersBy w (fs ++ x ∷ [])
overriders_added w fs x h o k n f e c = one_more (λ (y : Func). (m : ℕ) → y.class ≡ Some m → is_overrider_by w y ≡ true) fs x (λ i y q m d. h i m y q d) o k f e n c

pub overriders_defined : (w : List ℕ → Bool) (fs : List Func) (p : ℕ) (x : Func) → ((f : Func) → slice_get fs p ≡ Some f → SameFunction f x) → HasOverridersBy w fs
    → HasOverridersBy w (slice_set fs p x)
overriders_defined w fs p x s h k n f e c = one_set (λ (y : Func). (m : ℕ) → y.class ≡ Some m → is_overrider_by w y ≡ true) fs p x (λ i y q m d. h i m y q d)
    (λ y q m d. overrides_same w y x (s y q) (h p m y q (sym (s y q).class ∙ d))) k f e n c

pub overriders_closed : (w : List ℕ → Bool) (old new : List Func) (n : ℕ) → ((k : ℕ) (f : Func) → slice_get new k ≡ Some f → IsOldOr old n k f) → HasOverridersBy w old → HasOverridersBy w new
overriders_closed w old new n a h k m f e c = by (a k f e)
  where
    by : IsOldOr old n k f → is_overrider_by w f ≡ true
    by (is_old z) = h k m f z c
    by (is_own z y v) = v w
