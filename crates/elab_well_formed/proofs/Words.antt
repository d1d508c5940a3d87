-- The words of calls, in the frames of the functions of a program.
use Rattle.std.proofs.Common.{◌≡◌, refl, sym, ap, ◌∙◌, subst, ℕ, suc, Bool, true, false, List, [], ◌∷◌, ◌++◌, map, take, length, slice_get}
use Rattle.std.proofs.Common.{Option, Some, None, arith, length-append}
use Rattle.std.specs.Prelude.{◌≤◌, is_some, if◌then◌else◌}
use Rattle.std.proofs.lemmas.List.{length-map}
use Rattle.std.proofs.lemmas.Option.{same_Some}
use Rattle.elab_rules.specs.cpp_types.Typ.{Typ, ptr}
use Rattle.elab_rules.specs.cpp_types.Class.{Class}
use Rattle.elab_rules.specs.cpp_lex.Tokens.{Lexeme}
use Rattle.elab_rules.specs.cpp_ast.Trees as syntax
use Rattle.elab_rules.specs.cpp_tree.Units.{Param, Func as UnitFunc, Unit}
use Rattle.elab_rules.specs.cpp_tree.Notation.{plain}
use Rattle.elab_rules.specs.cpp_tree.Typing.{is_class_typ}
use Rattle.elab_rules.specs.elab_ctx.Ctx.{Func}
use Rattle.elab_rules.specs.Functions.{word_item, result_items, this_items}
use Rattle.elab_rules.specs.Statements.{State, Body}
use Rattle.elab_rules.specs.Programs.{typed_func, body_of, one_if, words_of, unit_shown}
use Rattle.elab_bodies.specs.Bodies.{result_of, is_object_of, param_items, call_items, Begin, WellSigned, IsBodyOf, BodiesFit, times_made}
use Rattle.elab_bodies.proofs.Shown.{shown_at, found}
use Rattle.elab_program_bodies.specs.Units.{IsUnit}
use Rattle.elab_program_bodies.proofs.Programs.{come_law}
use Rattle.elab_program_bodies.proofs.Shown.{hold_law, once_law}
use Rattle.elab_well_formed.specs.Programs.{HasCallWords, ProgramsHaveCallWords}

-- Items that a list begins with are its first

same_head : (x y : Typ) (xs ys : List Typ) → Some y ≡ Some x → ys ≡ xs → y ∷ ys ≡ x ∷ xs
same_head x y xs ys e f = ap (λ (z : Typ). z ∷ ys) (same_Some y x e) ∙ ap (λ (zs : List Typ). x ∷ zs) f

taken : (xs frame : List Typ) → Begin xs frame → take (length xs) frame ≡ xs
taken [] [] h = refl
taken [] (y ∷ ys) h = refl
taken (x ∷ xs) [] h = let e = h 0 x refl in absurd cc
taken (x ∷ xs) (y ∷ ys) h = same_head x y xs (take (length xs) ys) (h 0 x refl) (taken xs ys (λ i t e. h (suc i) t e))

-- How many words there are

result_many : (t : Typ) → one_if (is_class_typ t) ≡ length (result_items t)
result_many t = by (is_class_typ t)
  where
    by : (b : Bool) → one_if b ≡ length (if b then plain (ptr t) ∷ [] else [])
    by true = refl
    by false = refl

object_many : (class : Option ℕ) (object : Option Typ) → is_object_of class object ≡ true → one_if (is_some class) ≡ length (this_items object)
object_many None None h = refl
object_many (Some n) (Some t) h = refl
object_many None (Some t) h = absurd cc
object_many (Some n) None h = absurd cc

words_many : (f : Func) (object : Option Typ) → WellSigned f → is_object_of f.class object ≡ true
    → words_of f ≡ length (call_items (result_of f) object (param_items f.params))
words_many f object s o =
    let r = ap one_if s.result ∙ result_many (result_of f) in
    let c = object_many f.class object o in
    let m = length-map f.params (λ (p : Param). word_item p.typ) in
    let a = length-append (result_items (result_of f)) (this_items object ++ param_items f.params) in
    let b = length-append (this_items object) (param_items f.params) in omega arith

-- One function with its body

with_call : (classes : List Class) (f : Func) (b : Body) → WellSigned f → IsBodyOf f b → HasCallWords (typed_func classes f (Some b))
with_call classes f b s k = let w = k.words in record {
  bare = λ e. absurd cc;
  begins = λ tree e. record {
    object = w.this;
    is_object = w.object;
    words = ap (λ (n : ℕ). take n b.frame) (words_many f w.this s w.object)
        ∙ taken (call_items (result_of f) w.this (param_items f.params)) b.frame w.words;
  };
}

-- Each function of a unit

with_body : (st : State) → BodiesFit st → (k : ℕ) (f : Func) → slice_get st.ctx.funcs k ≡ Some f → times_made k st.bodies ≤ 1 → (o : Option Body)
    → body_of k st.bodies ≡ o → HasCallWords (typed_func st.ctx.classes f o)
with_body st h k f e l None i = record { bare = λ q. refl; begins = λ tree q. absurd cc }
with_body st h k f e l (Some b) i = let r = found k st.bodies b i in
    let x = h.each r.place b r.at (let q = ap (λ (n : ℕ). times_made n st.bodies) r.func in omega arith) in
    subst (λ (z : Func). HasCallWords (typed_func st.ctx.classes z (Some b)))
    (same_Some x.func f (sym x.at ∙ ap (λ (n : ℕ). slice_get st.ctx.funcs n) r.func ∙ e)) (with_call st.ctx.classes x.func b x.signed x.fits)

in_unit : (s : List Lexeme) (decls : syntax.Trees) (st : State) → IsUnit s decls st → (k : ℕ) (f : UnitFunc)
    → slice_get (unit_shown s decls st).funcs k ≡ Some f → HasCallWords f
in_unit s decls st u k f e = let x = shown_at st 0 st.ctx.funcs k f k (omega arith) e in
    subst HasCallWords x.is (with_body st (hold_law s decls st u).stand.fit k x.func x.at (once_law s decls st u k) (body_of k st.bodies) refl)

pub programs_have_call_words : ProgramsHaveCallWords
programs_have_call_words xs p e i k u f g q = let c = come_law xs p e i u g in
    in_unit c.source.tokens c.source.decls c.state c.is k f (ap (λ (z : Unit). slice_get z.funcs k) (sym c.shown) ∙ q)
