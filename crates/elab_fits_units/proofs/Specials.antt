-- Constructors and destructors.
use Rattle.std.proofs.Common.{◌≡◌, refl, sym, ap, ◌∙◌, subst, ℕ, true, List, [], ◌∷◌, length, slice_get, Option, Some, None, is_some, zero, suc, arith}
use Rattle.std.specs.Prelude.{nat_lt, not, option_and_then}
use Rattle.std.proofs.lemmas.Option.{same_Some}
use Rattle.elab_fits.proofs.Nodes.{both, clash}
use Rattle.elab_fits.proofs.Equal.{typ_refl}
use Rattle.elab_rules.specs.cpp_types.Equal.{typ_eq}
use Rattle.elab_rules.specs.cpp_tree.Typing.{passes}
use Rattle.elab_rules.specs.Types.{is_nothing}
use Rattle.setting_growth.specs.Growth.{ClassesGrow}
use Rattle.std.proofs.lemmas.Bool.{and_parts, lt-ltb, ltb-true}
use Rattle.elab_rules.specs.cpp_types.Typ.{Typ, class, void, ptr}
use Rattle.elab_rules.specs.cpp_types.Class.{Class, completion_of}
use Rattle.elab_rules.specs.cpp_lex.Tokens.{Lexeme}
use Rattle.elab_rules.specs.cpp_ast.Trees as syntax
use Rattle.elab_rules.specs.cpp_tree.declared.program.FuncKind.TheVariants.{Destructor, ClosureCall}
use Rattle.elab_rules.specs.cpp_tree.Notation.{plain}
use Rattle.elab_rules.specs.cpp_tree.Units.{Func as UnitFunc}
use Rattle.elab_rules.specs.cpp_tree.Rows.{is_destructor, is_special, at_place}
use Rattle.elab_rules.specs.elab_ctx.Steps.{at_of}
use Rattle.elab_rules.specs.Statements.{State, statements_of}
use Rattle.elab_rules.specs.Functions.{Header}
use Rattle.elab_rules.specs.Lambdas.{lambdas_of}
use Rattle.elab_rules.specs.Members.{in_object, destructor_tree, destructor_body}
use Rattle.elab_fits.specs.Standing.{On}
use Rattle.elab_fits.proofs.Steps.{bind}
use Rattle.elab_fits_bodies.specs.Parts.{HasParts}
use Rattle.elab_fits_forms.specs.Context.{Holds}
use Rattle.elab_sound_types.specs.Types.{is_class, is_lambda}
use Rattle.state_growth.specs.Settings.{shown}
use Rattle.elab_fits_states.specs.States.{setting, IsText, IsGood}
use Rattle.elab_fits_states.specs.Bodies.{BodyFits}
use Rattle.elab_fits_parts.specs.Parts.{IsHome, ArePartsOf}
use Rattle.elab_fits_units.specs.Below.{Below}
use Rattle.elab_fits_units.specs.Definitions.{IsDefinition}
use Rattle.elab_fits_units.specs.Good.{UnitGood}
use Rattle.elab_fits_units.proofs.Bodies.{Left, made_left, came}
use Rattle.elab_fits_units.proofs.Entering.{Begins, begins}
use Rattle.elab_fits_units.proofs.Growing.{Over, over_then}
use Rattle.elab_fits_units.proofs.Results.{holds, any_holds, no_result, complete_over}
use Rattle.elab_fits_units.proofs.Texts.{kids_texts}

-- a class has its name where the unit has grown
pub within : {A : Type 0} (xs : List A) (n : ℕ) (x : A) → slice_get xs n ≡ Some x → nat_lt n (length xs) ≡ true
within [] n x h = absurd cc
within (y ∷ ys) zero x h = lt-ltb 0 (suc (length ys)) (omega arith)
within (y ∷ ys) (suc n) x h = let lt = ltb-true n (length ys) (within ys n x h) in lt-ltb (suc n) (suc (length ys)) (omega arith)

-- a class that is complete is the same where the unit has grown
pub class_kept : (cs ds : List Class) (n : ℕ) → ClassesGrow cs ds → IsHome cs n → slice_get ds n ≡ slice_get cs n
class_kept cs ds n g h = by (slice_get cs n) refl
  where
    by_class : (x : Class) → slice_get cs n ≡ Some x → (o : Option ℕ) → x.complete ≡ o → slice_get ds n ≡ slice_get cs n
    by_class x e (Some k) f = g.complete n k x e f ∙ sym e
    by_class x e None f = clash (slice_get ds n ≡ slice_get cs n) (is_some (completion_of cs n))
        (ap (λ (o : Option Class). is_some (option_and_then (λ (y : Class). y.complete) o)) e ∙ ap is_some f) h.complete

    by : (o : Option Class) → slice_get cs n ≡ o → slice_get ds n ≡ slice_get cs n
    by (Some x) e = by_class x e x.complete refl
    by None e = clash (slice_get ds n ≡ slice_get cs n) (is_some (completion_of cs n))
        (ap (λ (o : Option Class). is_some (option_and_then (λ (y : Class). y.complete) o)) e) h.complete

home_still : (cs ds : List Class) (n : ℕ) → ClassesGrow cs ds → IsHome cs n → is_class ds n ≡ true
home_still cs ds n g h = by (slice_get cs n) refl
  where
    by_class : (x : Class) → slice_get cs n ≡ Some x → (o : Option ℕ) → x.complete ≡ o → is_class ds n ≡ true
    by_class x e (Some k) f = let q = g.complete n k x e f in
        both (within ds n x q) (ap (λ (o : Option Class). not (passes (λ (c : Class). is_nothing c.name) o)) (q ∙ sym e)
        ∙ (and_parts (nat_lt n (length cs)) (not (is_lambda cs n)) h.named).1)
    by_class x e None f = clash (is_class ds n ≡ true) (is_some (completion_of cs n))
        (ap (λ (o : Option Class). is_some (option_and_then (λ (y : Class). y.complete) o)) e ∙ ap is_some f) h.complete

    by : (o : Option Class) → slice_get cs n ≡ o → is_class ds n ≡ true
    by (Some x) e = by_class x e x.complete refl
    by None e = clash (is_class ds n ≡ true) (is_some (completion_of cs n))
        (ap (λ (o : Option Class). is_some (option_and_then (λ (y : Class). y.complete) o)) e) h.complete

pub home_over : (a b : State) (n : ℕ) → Over a b → IsHome a.ctx.classes n → IsHome b.ctx.classes n
home_over a b n k h = record { complete = complete_over a b n k h.complete; named = home_still a.ctx.classes b.ctx.classes n k.kept.classes h }

pub item_at : (frame : List Typ) (t : Typ) → slice_get frame 0 ≡ Some t → at_place frame 0 t ≡ true
item_at frame t h = ap (passes (typ_eq t)) h ∙ typ_refl t

no_call : Destructor ≡ ClosureCall → ⊥
no_call e = absurd cc

-- the object at hand and its parts
pub has_parts : (s : List Lexeme) (b : Below s) (f : UnitFunc) (st : State) (n : ℕ) → IsGood f st → IsHome st.ctx.classes n
    → at_place st.work.frame 0 (plain (ptr (plain (class n)))) ≡ true → HasParts (setting f st) st.ctx n
has_parts s b f st n g h t = let x : ArePartsOf st.ctx n = b.parts st.ctx st.work n g.unit g.sound.context (λ k. any_holds s b k st g) h in record {
  this = t;
  number = (and_parts (nat_lt n (length st.ctx.classes)) (not (is_lambda st.ctx.classes n)) h.named).0;
  pointer = x.pointer;
  offsets = ((holds s b f st g).complete n h.complete).offsets;
  base = x.base;
  members = λ i m e. (x.members i m e).element;
}

module _ (s : List Lexeme) (b : Below s) (st : State) (h : Header) (n place : ℕ) (def : IsDefinition st.ctx h place) (g : UnitGood st)
    (home : IsHome st.ctx.classes n) where
  abbrev f : UnitFunc
  f = shown st.ctx.classes def.func

  abbrev start : State
  start = in_object st n

  -- where its body begins
  object_begins : is_special h.kind ≡ true → Begins f st start
  object_begins k = begins s b st f (plain void) (Some (plain (class n))) (Some n) [] g
      (no_result def.func.kind def.func.declared.signature (ap is_special def.kind ∙ k)) refl home.named
      (λ m e. subst (λ (i : ℕ). is_some (completion_of st.ctx.classes i) ≡ true) (same_Some n m e) home.complete) refl start refl

  pub destructor_left : h.kind ≡ Destructor → (body : syntax.Tree) → IsText s body → On (Left st) (destructor_body lambdas_of s st h n place body)
  destructor_left k (syntax.node kind p token kids) t = let i : Begins f st start = object_begins (ap is_special k) in
      bind (BodyFits f start) (Left st) (statements_of lambdas_of s start kids) _
      (b.bodies f start kids (λ e. no_call (sym (def.kind ∙ k) ∙ e)) i.settled i.alone (kids_texts s kind p token kids t))
      (λ d x. let o : Over st d.state = over_then st start d.state i.over (came start d.state x.leads.goes) in
      let y : Holds (setting f d.state) d.state.ctx d.state.work = holds s b f d.state x.settled.good in
      made_left st d.state def.func place (destructor_tree d.state.ctx h.at (at_of p) n d.trees) def.at x.settled.good o
      (b.destructors (setting f d.state) d.state.ctx h.at (at_of p) n d.trees y.setting y.makers.specials
      (has_parts s b f d.state n x.settled.good (home_over st d.state n o home)
      (item_at d.state.work.frame (plain (ptr (plain (class n)))) (x.leads.goes.grows.frame 0 (plain (ptr (plain (class n)))) refl)))
      (ap is_destructor (def.kind ∙ k)) x.serve).nodes h.at)
