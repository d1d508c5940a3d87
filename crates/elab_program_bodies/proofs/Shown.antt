-- What a unit shows behind its last declaration.
use Rattle.std.proofs.Common.{◌≡◌, refl, ap, ◌∙◌, subst, ℕ, zero, suc, false, List, [], ◌∷◌, length, slice_get, Option, Some, None, arith}
use Rattle.std.proofs.lemmas.Option.{same_Some}
use Rattle.elab_rules.specs.cpp_types.Typ.{Typ, Typs}
use Rattle.elab_rules.specs.cpp_types.Class.{Class}
use Rattle.elab_rules.specs.cpp_tree.Trees.{Tree}
use Rattle.elab_rules.specs.cpp_tree.Units.{TypedProgram}
use Rattle.elab_rules.specs.cpp_tree.Units.{Func as UnitFunc}
use Rattle.elab_rules.specs.cpp_tree.WellFormed.{places_of}
use Rattle.elab_rules.specs.cpp_tree.declared.kinds.Builtin.{Builtin}
use Rattle.elab_rules.specs.elab_ctx.Ctx.{Func, Traits}
use Rattle.elab_rules.specs.Initialising.{func_at}
use Rattle.elab_rules.specs.Statements.{State, Body}
use Rattle.elab_rules.specs.Units.{builtin, builtins, unit_from}
use Rattle.elab_rules.specs.Programs.{start_behind, typed_func, body_of, tree_in, words_of}
use Rattle.elab_bodies.specs.Keeping.{StandsImplicit, HasSource}
use Rattle.elab_bodies.proofs.Shown as shown
use Rattle.elab_bodies.proofs.Shown.{shown_at, found}
use Rattle.elab_places.specs.Places.{Owned}
use Rattle.elab_places.specs.Round.{BodyOwns, BodiesOwn}
use Rattle.elab_places.proofs.Steps.{held_by}
use Rattle.elab_places.proofs.Words.{free_law}
use Rattle.elab_program_bodies.specs.Known.{IsKnown, Holds, none_waits, HoldsWhole}
use Rattle.elab_program_bodies.specs.Units.{UnitsHold, UnitsHaveOneBody, HasPlaces, PlacesShown, FunctionsShown}
use Rattle.elab_program_bodies.proofs.Lists.{not_both, at_func}
use Rattle.elab_program_bodies.proofs.Once.{once}
use Rattle.elab_program_bodies.proofs.Walk.{unit_holds}

-- Where a unit begins

each_builtin : (P : Func → Type 0) → ((b : Builtin) (name : List ℕ) (ps : Typs) (r : Typ) → P (builtin b name ps r)) → (i : ℕ) (f : Func)
    → slice_get builtins i ≡ Some f → P f
each_builtin P h zero f e = subst P (same_Some _ f e) (h _ _ _ _)
each_builtin P h (suc zero) f e = subst P (same_Some _ f e) (h _ _ _ _)
each_builtin P h (suc (suc zero)) f e = subst P (same_Some _ f e) (h _ _ _ _)
each_builtin P h (suc (suc (suc zero))) f e = subst P (same_Some _ f e) (h _ _ _ _)
each_builtin P h (suc (suc (suc (suc i)))) f e = absurd cc

builtin_known : (b : Builtin) (name : List ℕ) (ps : Typs) (r : Typ) → IsKnown (builtin b name ps r)
builtin_known b name ps r = record { inside = λ e. refl; result = λ t. absurd cc; params = λ e. absurd cc; source = λ t e. absurd cc }

written : (i : ℕ) (f : Func) → slice_get builtins i ≡ Some f → f.implicit ≡ false
written = each_builtin (λ f. f.implicit ≡ false) (λ b name ps r. refl)

begins : (source : ℕ) (p : TypedProgram) (traits : List Traits) → Holds (start_behind source p traits)
begins source p traits = record {
  stand = record {
    fit = record { each = λ i b e l. absurd cc };
    implicits = record {
      each = λ i f e t. not_both (StandsImplicit f) f.implicit (written i f e) t;
      source = λ i f e t z. not_both (HasSource f) f.implicit (written i f e) t;
    };
    known = record { each = each_builtin IsKnown builtin_known };
    counts = record { each = λ i b e. absurd cc };
    once = record { each = λ k. omega arith };
  };
  owned = record { defaults = tt; bodies = tt };
}

pub hold_law : UnitsHold
hold_law s decls st u = held_by HoldsWhole (unit_from s (start_behind u.source u.before u.traits) decls) st
    (unit_holds s (start_behind u.source u.before u.traits) decls (begins u.source u.before u.traits)) u.made

pub once_law : UnitsHaveOneBody
once_law s decls st u k = once none_waits st.ctx.funcs st.bodies (hold_law s decls st u).stand.once k

-- Places

one_owns : (fs : List Func) (bs : List Body) → BodiesOwn fs bs → (i : ℕ) (b : Body) → slice_get bs i ≡ Some b → BodyOwns fs b
one_owns fs [] h i b e = absurd cc
one_owns fs (c ∷ bs) h zero b e = subst (BodyOwns fs) (same_Some c b e) h.0
one_owns fs (c ∷ bs) h (suc i) b e = one_owns fs bs h.1 i b e

has_places : (classes : List Class) (f : Func) (b : Body) → Owned (words_of f) (length b.frame) (places_of b.tree)
    → HasPlaces (typed_func classes f (Some b)) b.tree
has_places classes f b h = record { within = free_law (typed_func classes f (Some b)) (places_of b.tree) h; once = h.once }

with_places : (st : State) → BodiesOwn st.ctx.funcs st.bodies → (k : ℕ) (f : Func) → slice_get st.ctx.funcs k ≡ Some f → (o : Option Body)
    → body_of k st.bodies ≡ o → (tree : Tree) → tree_in o ≡ Some tree → HasPlaces (typed_func st.ctx.classes f o) tree
with_places st h k f e None i tree g = absurd cc
with_places st h k f e (Some b) i tree g = let r = found k st.bodies b i in let x = one_owns st.ctx.funcs st.bodies h r.place b r.at in
    subst (HasPlaces (typed_func st.ctx.classes f (Some b))) (same_Some b.tree tree g) (has_places st.ctx.classes f b
    (subst (λ (z : Func). Owned (words_of z) (length b.frame) (places_of b.tree)) (ap (func_at st.ctx.funcs) r.func ∙ at_func st.ctx.funcs k f e) x.owns))

pub places_law : PlacesShown
places_law s decls st u k f tree e g = let h = hold_law s decls st u in let x = shown_at st 0 st.ctx.funcs k f k (omega arith) e in
    subst (λ (z : UnitFunc). z.body ≡ Some tree → HasPlaces z tree) x.is
    (with_places st h.owned.bodies k x.func x.at (body_of k st.bodies) refl tree) g

pub functions_law : FunctionsShown
functions_law s decls st u k f tree e g = shown.units_law s decls st (hold_law s decls st u).stand.fit k f tree (once_law s decls st u k) e g
