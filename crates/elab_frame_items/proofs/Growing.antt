-- Items stay whole where classes grow: behind lambdas, in bodies that are made, and in what the unit shows.
use Rattle.std.proofs.Common.{◌≡◌, refl, sym, subst, ℕ, zero, suc, Bool, true, false, List, [], ◌∷◌, slice_get, Option, Some, Result, Ok}
use Rattle.std.specs.Prelude.{cond}
use Rattle.std.specs.List.{list_all}
use Rattle.std.proofs.lemmas.Bool.{and_parts, and_from}
use Rattle.std.proofs.lemmas.Option.{same_Some}
use Rattle.elab_rules.specs.cpp_types.Typ.{Typ}
use Rattle.elab_rules.specs.cpp_types.Class.{Class}
use Rattle.elab_rules.specs.cpp_lex.Tokens.{Lexeme}
use Rattle.elab_rules.specs.cpp_ast.Trees as syntax
use Rattle.elab_rules.specs.cpp_tree.Units.{Func as UnitFunc}
use Rattle.elab_rules.specs.cpp_tree.WellFormed.{is_item}
use Rattle.elab_rules.specs.cpp_tree.declared.faults.ElabFault.{ElabFault}
use Rattle.elab_rules.specs.elab_ctx.Ctx.{Func, Default}
use Rattle.elab_rules.specs.Statements.{State, Body}
use Rattle.elab_rules.specs.Lambdas.{lambdas_of}
use Rattle.elab_rules.specs.Programs.{typed_func, typed_funcs, body_of, is_body_of, frame_in}
use Rattle.elab_fits.specs.Standing.{On}
use Rattle.setting_growth.specs.Growth.{ClassesGrow}
use Rattle.setting_growth.proofs.Trees.{items_law}
use Rattle.state_growth.proofs.Steps.{Leaves}
use Rattle.state_growth.proofs.Bodies.{lambdas_lawful}
use Rattle.elab_places.proofs.Lambdas as places
use Rattle.elab_frame_items.specs.Frames.{LambdasWhole, DefaultsGrow, FramesWhole, FramesGrow, FramesShown}
use Rattle.elab_frame_items.specs.Items.{DefaultsWhole}

pub all_stay : (old new : List Class) → ClassesGrow old new → (ts : List Typ) → list_all (is_item old) ts ≡ true → list_all (is_item new) ts ≡ true
all_stay old new g [] h = refl
all_stay old new g (t ∷ ts) h = let p = and_parts (is_item old t) (list_all (is_item old) ts) h in
    and_from (is_item new t) (list_all (is_item new) ts) (items_law old new g t p.0) (all_stay old new g ts p.1)

pub defaults_grow : DefaultsGrow
defaults_grow old new [] g h = tt
defaults_grow old new (d ∷ ds) g h = (all_stay old new g d.frame h.0, defaults_grow old new ds g h.1)

-- Lambdas

held : {A : Type 0} (P : A → Type 0) (r : Result A ElabFault) (x : A) → On P r → r ≡ Ok x → P x
held {A} P r x h e = subst (λ (z : Result A ElabFault). On P z) e h

pub lambdas_law : LambdasWhole
lambdas_law s st t x h e = all_stay st.ctx.classes x.ctx.classes (held (Leaves st) (lambdas_of s st t) x (lambdas_lawful.each s st t) e).kept.classes x.work.frame
    (subst (λ (ts : List Typ). list_all (is_item st.ctx.classes) ts ≡ true) (sym (places.lambdas_law.each s st t x e).frame) h)

-- the initialisers that are kept are the same
pub lambdas_defaults : (s : List Lexeme) (st : State) (t : syntax.Tree) (x : State) → DefaultsWhole st.ctx.classes st.ctx.defaults → lambdas_of s st t ≡ Ok x
    → DefaultsWhole x.ctx.classes x.ctx.defaults
lambdas_defaults s st t x h e = defaults_grow st.ctx.classes x.ctx.classes x.ctx.defaults
    (held (Leaves st) (lambdas_of s st t) x (lambdas_lawful.each s st t) e).kept.classes
    (subst (λ (ds : List Default). DefaultsWhole st.ctx.classes ds) (sym (places.lambdas_law.each s st t x e).defaults) h)

-- Bodies

pub grow_law : FramesGrow
grow_law old new bodies g h = record { each = λ i b e. all_stay old new g b.frame (h.each i b e) }

-- The unit

frame_by : (classes : List Class) (t : Bool) (b : Body) (o : Option Body) → list_all (is_item classes) b.frame ≡ true
    → list_all (is_item classes) (frame_in o) ≡ true → list_all (is_item classes) (frame_in (cond t (Some b) o)) ≡ true
frame_by classes true b o h i = h
frame_by classes false b o h i = i

frame_of : (classes : List Class) (k : ℕ) (bs : List Body) → ((i : ℕ) (b : Body) → slice_get bs i ≡ Some b → list_all (is_item classes) b.frame ≡ true)
    → list_all (is_item classes) (frame_in (body_of k bs)) ≡ true
frame_of classes k [] h = refl
frame_of classes k (b ∷ bs) h = frame_by classes (is_body_of k b) b (body_of k bs) (h 0 b refl) (frame_of classes k bs (λ i c e. h (suc i) c e))

shown_frame : (classes : List Class) (st : State) (i : ℕ) (fs : List Func) → FramesWhole classes st.bodies → (k : ℕ) (f : UnitFunc)
    → slice_get (typed_funcs st i fs) k ≡ Some f → list_all (is_item classes) f.frame ≡ true
shown_frame classes st i [] h k f e = absurd cc
shown_frame classes st i (g ∷ fs) h zero f e = subst (λ (z : UnitFunc). list_all (is_item classes) z.frame ≡ true)
    (same_Some (typed_func st.ctx.classes g (body_of i st.bodies)) f e) (frame_of classes i st.bodies h.each)
shown_frame classes st i (g ∷ fs) h (suc k) f e = shown_frame classes st (suc i) fs h k f e

pub shown_law : FramesShown
shown_law s decls st classes g h k f e = shown_frame classes st 0 st.ctx.funcs (grow_law st.ctx.classes classes st.bodies g h) k f e
