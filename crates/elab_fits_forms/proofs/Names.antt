-- What names mean.
use Rattle.std.proofs.Common.{◌≡◌, refl, sym, ap, ◌∙◌, subst, ℕ, Bool, true, false, not, ◌&&◌, List, [], ◌∷◌, slice_get, Option, Some, None}
use Rattle.std.proofs.Common.{is_some, Result, Ok, Err}
use Rattle.std.proofs.lemmas.Bool.{and_parts}
use Rattle.elab_rules.specs.cpp_types.Typ.{Typ, typ, Form, void, int, enum, func}
use Rattle.elab_rules.specs.cpp_types.Class.{Class, Function}
use Rattle.elab_rules.specs.tx_ints.declared.kinds.IntKind.{IntKind}
use Rattle.elab_rules.specs.cpp_types.Equal.{flag_eq, typ_eq}
use Rattle.elab_rules.specs.cpp_types.declared.classes.At.{At}
use Rattle.elab_rules.specs.cpp_types.declared.ranks.Cat.TheVariants.{Lvalue, Prvalue}
use Rattle.elab_rules.specs.cpp_names.Names.{found_in}
use Rattle.elab_rules.specs.cpp_names.declared.entity.Entity.{Entity}
use Rattle.elab_rules.specs.cpp_names.declared.entity.EntityKind.{EntityKind}
use Rattle.elab_rules.specs.cpp_names.declared.entity.EntityKind.TheVariants as entities
use Rattle.elab_rules.specs.cpp_tree.declared.faults.ElabFault.{ElabFault}
use Rattle.elab_rules.specs.cpp_tree.declared.faults.IllRule.TheVariants.{UnknownName, OutOfProfile}
use Rattle.elab_rules.specs.cpp_tree.declared.kinds.TKind.TheVariants.{Literal, Global as GlobalNode, Function as FunctionNode, Default, Builtin}
use Rattle.elab_rules.specs.cpp_tree.declared.roles.Position.{Position}
use Rattle.elab_rules.specs.cpp_tree.declared.roles.Role.TheVariants.{Value}
use Rattle.elab_rules.specs.cpp_tree.Trees.{Tree, node, Trees, none, more}
use Rattle.elab_rules.specs.cpp_tree.Units.{Func as UnitFunc, Global}
use Rattle.elab_rules.specs.cpp_tree.Notation.{plain}
use Rattle.elab_rules.specs.cpp_tree.Typing.{passes, kind_in, is_word_of}
use Rattle.elab_rules.specs.cpp_tree.Roles.{only}
use Rattle.elab_rules.specs.cpp_tree.Rows.{Setting}
use Rattle.elab_rules.specs.cpp_tree.WellFormed.{fits}
use Rattle.elab_rules.specs.elab_ctx.Ctx.{Ctx, Work, Func, This, Enumerator}
use Rattle.elab_rules.specs.Initialising.{func_at, places_from}
use Rattle.elab_rules.specs.Names.{Found, variable_in, enumerator_tree, global_tree, of_entity, is_outer, is_local_entity, file_name, class_name, member_here, named, is_free}
use Rattle.elab_rules.specs.Names.{only_function, resolved_function, resolved}
use Rattle.elab_rules.specs.Casts.{is_numeric}
use Rattle.elab_fits.specs.Standing.{FitsAs, Reaches, On}
use Rattle.elab_fits.specs.Scalars.{is_scalar, Gives}
use Rattle.elab_fits.proofs.Equal.{typ_refl}
use Rattle.elab_fits.proofs.Nodes.{both, clash, Simple, no_kids}
use Rattle.elab_fits.proofs.Steps.{checked, expected, either}
use Rattle.elab_fits.proofs.Values.{no_class, scalar_value, literals}
use Rattle.elab_fits_forms.specs.Types.{is_empty, is_sound_form, is_target}
use Rattle.elab_fits_forms.specs.Meaning.{Proper, Means}
use Rattle.elab_fits_forms.specs.Context.{IsEnumerator, Holds}
use Rattle.elab_fits_forms.proofs.Rows.{fits_row}
use Rattle.elab_fits_forms.proofs.Places.{place_is, func_is}
use Rattle.elab_fits_forms.proofs.Proper.{lvalue_node, proper_value}
use Rattle.elab_fits_forms.proofs.Variables.{variable_stands}
use Rattle.elab_fits_forms.proofs.Members.{OnSome, IsFound, found_is, implicit_means}

globals : (g : ℕ) → Simple (GlobalNode g) (only [])
globals g = record { is_value = refl; anywhere = λ f p n. refl; unbranched = λ t hs. refl; asks = λ a b. refl; no_switch = refl }

functions : (k : ℕ) → Simple (FunctionNode k) (only [])
functions k = record { is_value = refl; anywhere = λ f p n. refl; unbranched = λ t hs. refl; asks = λ a b. refl; no_switch = refl }

-- Literals

-- a word of a scalar's type
pub word_gives : (s : Setting) (f : Form) (w : ℕ) (at : At) → is_scalar f ≡ true → passes (λ (k : IntKind). is_word_of k w) (kind_in f) ≡ true
    → Gives s f (node (Literal w) (plain f) Prvalue at none)
word_gives s f w at h g = record {
  scalar = h;
  fits = no_kids s (Literal w) (plain f) Prvalue at (literals w) (ap not (no_class f false false h)) (both (scalar_value f h) g);
  typed = refl;
  category = refl;
}

number_scalar : (f : Form) → is_numeric f ≡ true → is_scalar f ≡ true
number_scalar (int k) h = refl
number_scalar (enum n s) h = refl
number_scalar f h = absurd cc

number_sound : (classes : List Class) (f : Form) → is_numeric f ≡ true → is_sound_form classes f ≡ true
number_sound classes (int k) h = refl
number_sound classes (enum n s) h = refl
number_sound classes f h = absurd cc

enumerator_proper : (s : Setting) (c : Ctx) (at : At) (e : Enumerator) → IsEnumerator e → Proper s c (node (Literal e.word) e.typ Prvalue at none)
enumerator_proper s c at e x = subst (λ (t : Typ). Proper s c (node (Literal e.word) t Prvalue at none)) (sym x.typed)
    (proper_value s c x.form (node (Literal e.word) (plain x.form) Prvalue at none)
    (word_gives s x.form e.word at (number_scalar x.form x.number) x.word) (number_sound c.classes x.form x.number))

pub enumerator_means : (s : Setting) (c : Ctx) (w : Work) (at : At) (i : ℕ) → Holds s c w → On (Proper s c) (enumerator_tree c at i)
enumerator_means s c w at i h = expected (Proper s c) at UnknownName (slice_get c.enumerators i) _
    (λ e f. enumerator_proper s c at e (h.enumerators i e f))

-- Globals

global_row : (s : Setting) (w : Work) (g : ℕ) (x : Global) → Reaches s w → slice_get w.globals g ≡ Some x
    → passes (λ (found : Global). typ_eq x.typ found.typ) (slice_get s.globals g) ≡ true
global_row s w g x r e = let h = r.globals g x e in ap (λ (o : Option Global). passes (λ (found : Global). typ_eq x.typ found.typ) o) h.at
    ∙ ap (λ (t : Typ). typ_eq x.typ t) h.is ∙ typ_refl x.typ

pub global_proper : (s : Setting) (c : Ctx) (w : Work) (at : At) (g : ℕ) (x : Global) → Reaches s w → slice_get w.globals g ≡ Some x
    → is_target c.classes x.typ ≡ true → Proper s c (node (GlobalNode g) x.typ Lvalue at none)
global_proper s c w at g x r e i = lvalue_node s c (GlobalNode g) x.typ at none
    (no_kids s (GlobalNode g) x.typ Lvalue at (globals g) refl (global_row s w g x r e)) i

global_means : (s : Setting) (c : Ctx) (w : Work) (at : At) (g : ℕ) → Holds s c w → Reaches s w → On (Proper s c) (global_tree w at g)
global_means s c w at g h r = expected (Proper s c) at UnknownName (slice_get w.globals g) _ (λ x e. global_proper s c w at g x r e (h.globals g x e))

-- Entities

standing_of : (s : Setting) (c : Ctx) (r : Result Tree ElabFault) → On (Proper s c) r → On (Means s c) r
standing_of s c (Ok e) h = Means.standing h
standing_of s c (Err e) h = tt

pub entities_mean : (s : Setting) (c : Ctx) (w : Work) (at : At) (kind : EntityKind) (i : ℕ) → Holds s c w → Reaches s w
    → On (Means s c) (of_entity c w at kind i)
entities_mean s c w at entities.Local i h r = standing_of s c (variable_in c w at i (is_outer i c.lambda)) (variable_stands s c w at i h r)
entities_mean s c w at entities.Global i h r = standing_of s c (global_tree w at i) (global_means s c w at i h r)
entities_mean s c w at entities.Funcs i h r = Means.free_functions i at
entities_mean s c w at entities.Enumerator i h r = standing_of s c (enumerator_tree c at i) (enumerator_means s c w at i h)
entities_mean s c w at kind i h r = tt

-- Names

file_means : (s : Setting) (c : Ctx) (w : Work) (at : At) (e : Option Entity) → Holds s c w → Reaches s w → On (Means s c) (file_name c w at e)
file_means s c w at (Some e) h r = entities_mean s c w at e.kind e.id h r
file_means s c w at None h r = tt

-- what is found in the class around, where an object is at hand
found_here : (s : Setting) (c : Ctx) (w : Work) (name : List ℕ) (t : This) → Holds s c w → is_empty name ≡ false → c.this ≡ Some t
    → OnSome (IsFound c) (member_here c name c.class)
found_here s c w name t h n e = by c.class refl
  where
    by : (o : Option ℕ) → c.class ≡ o → OnSome (IsFound c) (member_here c name o)
    by (Some k) f = found_is s c w name k h n (h.inside t k e f)
    by None f = tt

class_means : (s : Setting) (c : Ctx) (w : Work) (at : At) (name : List ℕ) (e : Option Entity) (f : Option Found) → Holds s c w → Reaches s w
    → ((t : This) → c.this ≡ Some t → OnSome (IsFound c) f) → On (Means s c) (class_name c w at name e f)
class_means s c w at name e (Some f) h r g = implicit_means s c w at f h r g
class_means s c w at name e None h r g = file_means s c w at e h r

pub names_mean : (s : Setting) (c : Ctx) (w : Work) (at : At) (name : List ℕ) → Holds s c w → Reaches s w → is_empty name ≡ false
    → On (Means s c) (named c w at name)
names_mean s c w at name h r n = either (Means s c) (is_local_entity (found_in c.scopes name)) _ _
    (λ k. file_means s c w at (found_in c.scopes name) h r)
    (λ k. class_means s c w at name (found_in c.scopes name) (member_here c name c.class) h r (λ t e. found_here s c w name t h n e))

-- One function for those that are named

function_row : (s : Setting) (c : Ctx) (w : Work) (i : ℕ) (f : Func) → Holds s c w → slice_get c.funcs i ≡ Some f
    → passes (λ (g : UnitFunc). typ_eq (plain (func f.declared.signature)) (typ (func g.declared.signature) false false)) (slice_get s.funcs i) ≡ true
function_row s c w i f h e = let x = h.setting.funcs i f e in
    ap (λ (o : Option UnitFunc). passes (λ (g : UnitFunc). typ_eq (plain (func f.declared.signature)) (typ (func g.declared.signature) false false)) o) x.at
    ∙ ap (λ (d : Function). typ_eq (plain (func f.declared.signature)) (typ (func d.signature) false false)) x.is.declared
    ∙ typ_refl (plain (func f.declared.signature))

function_proper : (s : Setting) (c : Ctx) (w : Work) (at : At) (i : ℕ) (f : Func) → Holds s c w → slice_get c.funcs i ≡ Some f
    → Proper s c (node (FunctionNode i) (plain (func f.declared.signature)) Lvalue at none)
function_proper s c w at i f h e = lvalue_node s c (FunctionNode i) (plain (func f.declared.signature)) at none
    (no_kids s (FunctionNode i) (plain (func f.declared.signature)) Lvalue at (functions i) refl (function_row s c w i f h e)) (h.functions i f e).sound

only_proper : (s : Setting) (c : Ctx) (w : Work) (at : At) (k : ℕ) (test : Func → Bool) (is : List ℕ) → Holds s c w
    → places_from test 0 c.funcs ≡ is → On (Proper s c) (only_function c at k is)
only_proper s c w at k test (i ∷ []) h e = checked (Proper s c) at OutOfProfile (not (is_some (func_at c.funcs i).builtin)) _
    (λ n. place_is (Proper s c (node (FunctionNode i) (plain (func (func_at c.funcs i).declared.signature)) Lvalue at none)) test c.funcs 0 i
    (ap (λ (l : List ℕ). slice_get l 0) e)
    (λ f d t. subst (λ (x : Func). Proper s c (node (FunctionNode i) (plain (func x.declared.signature)) Lvalue at none)) (sym (func_is c.funcs i f d))
    (function_proper s c w at i f h d)))
only_proper s c w at k test [] h e = tt
only_proper s c w at k test (i ∷ j ∷ is) h e = tt

looked_up : (s : Setting) (c : Ctx) (w : Work) (at : At) (k : ℕ) (kids : Trees) → Holds s c w → On (Proper s c) (resolved_function c at k kids)
looked_up s c w at k none h = only_proper s c w at k (is_free (func_at c.funcs k).declared.name)
    (places_from (is_free (func_at c.funcs k).declared.name) 0 c.funcs) h refl
looked_up s c w at k (more t ts) h = tt

-- an expression that stands is no form that is looked up
abbrev anywhere : Position
anywhere = record { full = true; breaks = false; continues = false }

no_func : (d v : Bool) (f : UnitFunc) → typ_eq (typ void d v) (typ (func f.declared.signature) false false) ≡ true → ⊥
no_func d v f h = let e : false ≡ true = (and_parts (flag_eq d false && flag_eq v false) false h).1 in clash ⊥ false refl e

pub no_function_void : (s : Setting) (k : ℕ) (d v : Bool) (at : At) (kids : Trees) → FitsAs s Value (node (FunctionNode k) (typ void d v) Lvalue at kids) → ⊥
no_function_void s k d v at kids h = by (slice_get s.funcs k) refl (h anywhere refl)
  where
    by : (o : Option UnitFunc) → slice_get s.funcs k ≡ o → fits s anywhere Value (node (FunctionNode k) (typ void d v) Lvalue at kids) ≡ true → ⊥
    by (Some f) e g = let a = fits_row s anywhere Value (FunctionNode k) (typ void d v) Lvalue at kids g in
        no_func d v f (sym (ap (λ (o : Option UnitFunc). passes (λ (x : UnitFunc). typ_eq (typ void d v) (typ (func x.declared.signature) false false)) o) e) ∙ a)
    by None e g = let a = fits_row s anywhere Value (FunctionNode k) (typ void d v) Lvalue at kids g in
        clash ⊥ false refl (sym (ap (λ (o : Option UnitFunc). passes (λ (x : UnitFunc). typ_eq (typ void d v) (typ (func x.declared.signature) false false)) o) e) ∙ a)

resolved_by : (s : Setting) (c : Ctx) (e : Tree) → Proper s c e → On (Proper s c) (resolved c e)
resolved_by s c (node (FunctionNode k) (typ void d v) Lvalue at kids) h = absurd (no_function_void s k d v at kids (h.stands.value refl))
resolved_by s c (node Default t cat at kids) h = tt
resolved_by s c (node (Builtin b) (typ void d v) Lvalue at kids) h = tt
resolved_by s c (node kind t cat at kids) h = h

pub resolved_stand : (s : Setting) (c : Ctx) (w : Work) (e : Tree) → Holds s c w → Means s c e → On (Proper s c) (resolved c e)
resolved_stand s c w e h (Means.standing p) = resolved_by s c e p
resolved_stand s c w e h (Means.free_functions k at) = looked_up s c w at k none h
resolved_stand s c w e h (Means.methods k at object m o) = tt
resolved_stand s c w e h (Means.getter at t q v object o x) = tt
resolved_stand s c w e h (Means.aborting at) = tt
