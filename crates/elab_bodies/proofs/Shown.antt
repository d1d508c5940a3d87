-- What the unit shows of a function with its body.
use Rattle.std.proofs.Common.{◌≡◌, refl, sym, ap, ◌∙◌, subst, ℕ, zero, suc, ◌+◌, Bool, true, false, List, [], ◌∷◌, ◌++◌, map, length, drop, slice_get}
use Rattle.std.proofs.Common.{Option, Some, None, eqb-true, eq-eqb, arith, length-append}
use Rattle.std.specs.Prelude.{◌≤◌, is_some, cond, if◌then◌else◌}
use Rattle.std.proofs.lemmas.Bool.{and_from}
use Rattle.std.proofs.lemmas.Option.{same_Some}
use Rattle.elab_rules.specs.cpp_types.Typ.{Typ, typ, ptr, Signature, signature, Typs, none as no_typs, more as and_typ}
use Rattle.elab_rules.specs.cpp_types.Class.{Class}
use Rattle.elab_rules.specs.cpp_types.Equal.{typ_eq}
use Rattle.elab_rules.specs.cpp_tree.Trees.{Tree}
use Rattle.elab_rules.specs.cpp_tree.Units.{Param, Func as UnitFunc}
use Rattle.elab_rules.specs.cpp_tree.Notation.{plain}
use Rattle.elab_rules.specs.cpp_tree.Typing.{is_class, is_class_typ, form_in}
use Rattle.elab_rules.specs.cpp_tree.Rows.{object_words, param_words, signature_words}
use Rattle.elab_rules.specs.cpp_tree.WellFormed.{begin_with, object_and_params, is_object_item, param_item, words_begin}
use Rattle.elab_rules.specs.cpp_tree.WellFormed.{result_items as shown_items}
use Rattle.elab_rules.specs.elab_ctx.Ctx.{Func}
use Rattle.elab_rules.specs.Initialising.{signature_parameters, signature_result}
use Rattle.elab_rules.specs.Functions.{word_item, result_items, this_items}
use Rattle.elab_rules.specs.Statements.{State, Body}
use Rattle.elab_rules.specs.Programs.{typed_func, typed_funcs, body_of, is_body_of, tree_in, one_if}
use Rattle.elab_fits.proofs.Equal.{typ_refl}
use Rattle.state_growth.proofs.Lists.{added}
use Rattle.elab_bodies.specs.Bodies.{result_of, number_of, WellSigned, is_object_of, param_items, Begin, BeginsWithCall, IsBodyOf}
use Rattle.elab_bodies.specs.Bodies.{times_made, BodiesFit, FitsFunction, ShownFit, UnitsFit}

-- The first items

is_typ : (s t : Typ) → Some t ≡ Some s → typ_eq s t ≡ true
is_typ s t h = subst (λ (z : Typ). typ_eq s z ≡ true) (sym (same_Some t s h)) (typ_refl s)

begun : (xs frame : List Typ) → Begin xs frame → begin_with xs frame ≡ true
begun [] frame h = refl
begun (x ∷ xs) [] h = let e = h 0 x refl in absurd cc
begun (x ∷ xs) (y ∷ ys) h = and_from (typ_eq x y) (begin_with xs ys) (is_typ x y (h 0 x refl)) (begun xs ys (λ i t e. h (suc i) t e))

front : (xs ys frame : List Typ) → Begin (xs ++ ys) frame → Begin xs frame
front xs ys frame h i t e = h i t (added xs ys i t e)

behind : (xs ys frame : List Typ) → Begin (xs ++ ys) frame → Begin ys (drop (length xs) frame)
behind [] ys frame h = h
behind (x ∷ xs) ys [] h = let e = h 0 x refl in absurd cc
behind (x ∷ xs) ys (f ∷ fs) h = behind xs ys fs (λ i t e. h (suc i) t e)

-- The same items by two definitions

result_same : (t : Typ) → result_items t ≡ shown_items t
result_same t = by (is_class_typ t)
  where
    by : (b : Bool) → (if b then plain (ptr t) ∷ [] else []) ≡ cond b (typ (ptr t) false false ∷ []) []
    by true = refl
    by false = refl

item_same : (p : Param) → word_item p.typ ≡ param_item p
item_same p = by (is_class_typ p.typ)
  where
    by : (b : Bool) → (if b then plain (ptr p.typ) else p.typ) ≡ cond b (typ (ptr p.typ) false false) p.typ
    by true = refl
    by false = refl

params_same : (ps : List Param) → param_items ps ≡ map param_item ps
params_same [] = refl
params_same (p ∷ ps) = ap (λ (x : Typ). x ∷ param_items ps) (item_same p) ∙ ap (λ (xs : List Typ). param_item p ∷ xs) (params_same ps)

-- The object and the parameters

object_first : (n : ℕ) (t : Typ) (items frame : List Typ) → is_class n (form_in t) ≡ true → Begin (plain (ptr t) ∷ items) frame
    → object_and_params (Some n) items frame ≡ true
object_first n t items [] o h = let e = h 0 (plain (ptr t)) refl in absurd cc
object_first n t items (f ∷ fs) o h = and_from _ (begin_with items fs)
    (subst (λ (z : Typ). is_object_item n z ≡ true) (sym (same_Some f (plain (ptr t)) (h 0 (plain (ptr t)) refl))) o)
    (begun items fs (λ i u e. h (suc i) u e))

object_by : (class : Option ℕ) (this : Option Typ) (items frame : List Typ) → is_object_of class this ≡ true → Begin (this_items this ++ items) frame
    → object_and_params class items frame ≡ true
object_by None None items frame o h = begun items frame h
object_by (Some n) (Some t) items frame o h = object_first n t items frame o h
object_by None (Some t) items frame o h = absurd cc
object_by (Some n) None items frame o h = absurd cc

words_first : (classes : List Class) (f : Func) (b : Body) → BeginsWithCall f b.frame → words_begin (typed_func classes f (Some b)) ≡ true
words_first classes f b w = and_from (begin_with rs b.frame) (object_and_params f.class (map param_item f.params) (drop (length rs) b.frame))
    (begun rs b.frame (front rs os b.frame h))
    (subst (λ (xs : List Typ). object_and_params f.class xs (drop (length rs) b.frame) ≡ true) (params_same f.params)
    (object_by f.class w.this (param_items f.params) (drop (length rs) b.frame) w.object (behind rs os b.frame h)))
  where
    rs : List Typ
    rs = shown_items (result_of f)

    os : List Typ
    os = this_items w.this ++ param_items f.params

    h : Begin (rs ++ os) b.frame
    h = subst (λ (xs : List Typ). Begin (xs ++ os) b.frame) (result_same (result_of f)) w.words

-- How many words there are

params_many : (ts : Typs) → length (param_words ts) ≡ number_of ts
params_many no_typs = refl
params_many (and_typ t ts) = ap suc (params_many ts)

words_many : (class : Option ℕ) (g : Signature) → length (signature_words class g) ≡ length (object_words class) + number_of (signature_parameters g)
words_many class (signature ps r safe) = length-append (object_words class) (param_words ps)
    ∙ ap (λ (n : ℕ). length (object_words class) + n) (params_many ps)

one_object : (class : Option ℕ) → one_if (is_some class) ≡ length (object_words class)
one_object None = refl
one_object (Some n) = refl

one_result : (t : Typ) → one_if (is_class_typ t) ≡ length (shown_items t)
one_result t = by (is_class_typ t)
  where
    by : (b : Bool) → one_if b ≡ length (cond b (typ (ptr t) false false ∷ []) [])
    by true = refl
    by false = refl

pub shown_law : ShownFit
shown_law classes f b h k = record {
  block = k.block;
  end = k.end;
  words = and_from _ _ (and_from _ _ (eq-eqb _ _ all) (eq-eqb _ _ each)) (words_first classes f b k.words);
}
  where
    rs : ℕ
    rs = length (shown_items (result_of f))

    os : ℕ
    os = length (object_words f.class)

    each : rs + length (signature_words f.class f.declared.signature) ≡ rs + os + length f.params
    each = let a = words_many f.class f.declared.signature in let c = h.params in omega arith

    all : one_if (is_class_typ (signature_result f.declared.signature)) + (one_if (is_some f.class) + length f.params)
        ≡ rs + length (signature_words f.class f.declared.signature)
    all = let e = each in let a = ap one_if h.result ∙ one_result (result_of f) in let c = one_object f.class in omega arith

-- The functions of a unit

pub record ShownAt (st : State) (fs : List Func) (k j : ℕ) (f : UnitFunc) : Type 0 where
  pub func : Func
  pub at : slice_get fs k ≡ Some func
  pub is : typed_func st.ctx.classes func (body_of j st.bodies) ≡ f

pub shown_at : (st : State) (i : ℕ) (fs : List Func) (k : ℕ) (f : UnitFunc) (j : ℕ) → j ≡ i + k → slice_get (typed_funcs st i fs) k ≡ Some f → ShownAt st fs k j f
shown_at st i [] k f j e h = absurd cc
shown_at st i (g ∷ fs) zero f j e h = record {
  func = g;
  at = refl;
  is = ap (λ (n : ℕ). typed_func st.ctx.classes g (body_of n st.bodies)) (omega arith) ∙ same_Some (typed_func st.ctx.classes g (body_of i st.bodies)) f h;
}
shown_at st i (g ∷ fs) (suc k) f j e h = let r = shown_at st (suc i) fs k f j (omega arith) h in record { func = r.func; at = r.at; is = r.is }

pub record FoundAt (k : ℕ) (bs : List Body) (b : Body) : Type 0 where
  pub place : ℕ
  pub at : slice_get bs place ≡ Some b
  pub func : b.func ≡ k

found_by : (k : ℕ) (c : Body) (bs : List Body) (b : Body) (t : Bool) → is_body_of k c ≡ t → (body_of k bs ≡ Some b → FoundAt k bs b)
    → cond t (Some c) (body_of k bs) ≡ Some b → FoundAt k (c ∷ bs) b
found_by k c bs b true e f h = record { place = 0; at = h; func = subst (λ (z : Body). z.func ≡ k) (same_Some c b h) (eqb-true c.func k e) }
found_by k c bs b false e f h = let r = f h in record { place = suc r.place; at = r.at; func = r.func }

pub found : (k : ℕ) (bs : List Body) (b : Body) → body_of k bs ≡ Some b → FoundAt k bs b
found k [] b h = absurd cc
found k (c ∷ bs) b h = found_by k c bs b (is_body_of k c) refl (found k bs b) h

of_body : (classes : List Class) (f g : Func) (b : Body) (tree : Tree) → Some g ≡ Some f → b.tree ≡ tree → WellSigned g → IsBodyOf g b
    → FitsFunction (typed_func classes f (Some b)) tree
of_body classes f g b tree e i h k = subst (λ (z : Tree). FitsFunction (typed_func classes f (Some b)) z) i
    (subst (λ (z : Func). FitsFunction (typed_func classes z (Some b)) b.tree) (same_Some g f e) (shown_law classes g b h k))

with_body : (st : State) → BodiesFit st → (k : ℕ) (f : Func) → slice_get st.ctx.funcs k ≡ Some f → times_made k st.bodies ≤ 1 → (o : Option Body) → body_of k st.bodies ≡ o
    → (tree : Tree) → tree_in o ≡ Some tree → FitsFunction (typed_func st.ctx.classes f o) tree
with_body st h k f e l None i tree g = absurd cc
with_body st h k f e l (Some b) i tree g = let r = found k st.bodies b i in
    let x = h.each r.place b r.at (let q = ap (λ (n : ℕ). times_made n st.bodies) r.func in omega arith) in
    of_body st.ctx.classes f x.func b tree (sym x.at ∙ ap (λ (n : ℕ). slice_get st.ctx.funcs n) r.func ∙ e) (same_Some b.tree tree g) x.signed x.fits

pub units_law : UnitsFit
units_law s decls st h k f tree l e g = let x = shown_at st 0 st.ctx.funcs k f k (omega arith) e in
    subst (λ (z : UnitFunc). z.body ≡ Some tree → FitsFunction z tree) x.is (with_body st h k x.func x.at l (body_of k st.bodies) refl tree) g
