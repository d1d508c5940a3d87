-- What was tested of a program is what binding needs.
use Rattle.std.proofs.Common.{◌≡◌, ◌≤◌, ◌∙◌, ℕ, zero, suc, true, List, [], ◌∷◌, refl, sym, ap, subst, Option, Some, None, slice_get, is_some, option_and_then}
use Rattle.cpp_types.specs.Class.{Class, InOrder}
use Rattle.cpp_tree.specs.Typing.{passes}
use Rattle.cpp_tree.specs.Units.{Func as UnitFunc, Global, Unit as TypedUnit, TypedProgram}
use Rattle.src_mean.specs.Links.{Def, func_at, global_at, globals_size}
use Rattle.src_bind.specs.Infos.{has_body, HasFrame}
use Rattle.src_bind.specs.Globals.{has_definition, HasSize}
use Rattle.src_bind.specs.Tables.{CanBind}
use Rattle.src_link.specs.Fits.{FrameFits, GlobalFits, FramesFit, GlobalsFit, UnitsFit}

module _ (classes : List Class) where
  frame_in : (fs : List UnitFunc) (n : ℕ) (f : UnitFunc) → FramesFit classes fs → slice_get fs n ≡ Some f → is_some f.body ≡ true → FrameFits classes f.frame
  frame_in [] n f h e b = absurd cc
  frame_in (g ∷ gs) zero f h e b = let k : g ≡ f = cc in (subst (λ (z : UnitFunc). is_some z.body ≡ true → FrameFits classes z.frame) k h.0) b
  frame_in (g ∷ gs) (suc n) f h e b = frame_in gs n f h.1 e b

  global_in : (gs : List Global) (n : ℕ) (g : Global) → GlobalsFit classes gs → slice_get gs n ≡ Some g → g.defined ≡ true → GlobalFits classes g
  global_in [] n g h e b = absurd cc
  global_in (x ∷ xs) zero g h e b = let k : x ≡ g = cc in (subst (λ (z : Global). z.defined ≡ true → GlobalFits classes z) k h.0) b
  global_in (x ∷ xs) (suc n) g h e b = global_in xs n g h.1 e b

  frame_there : (xs : List TypedUnit) (u n : ℕ) (f : UnitFunc) → UnitsFit classes xs
      → option_and_then (λ (x : TypedUnit). slice_get x.funcs n) (slice_get xs u) ≡ Some f → is_some f.body ≡ true → FrameFits classes f.frame
  frame_there [] u n f h e b = absurd cc
  frame_there (x ∷ xs) zero n f h e b = frame_in x.funcs n f h.0 e b
  frame_there (x ∷ xs) (suc u) n f h e b = frame_there xs u n f h.2 e b

  global_there : (xs : List TypedUnit) (u n : ℕ) (g : Global) → UnitsFit classes xs
      → option_and_then (λ (x : TypedUnit). slice_get x.globals n) (slice_get xs u) ≡ Some g → g.defined ≡ true → GlobalFits classes g
  global_there [] u n g h e b = absurd cc
  global_there (x ∷ xs) zero n g h e b = global_in x.globals n g h.1 e b
  global_there (x ∷ xs) (suc u) n g h e b = global_there xs u n g h.2 e b

module _ (t : TypedProgram) (h : UnitsFit t.classes t.units) where
  frame_at : (d : Def) (f : UnitFunc) → has_body t d ≡ true → func_at t d.unit d.place ≡ Some f → FrameFits t.classes f.frame
  frame_at d f b e = frame_there t.classes t.units d.unit d.place f h e (sym (ap (passes (λ (f : UnitFunc). is_some f.body)) e) ∙ b)

  global_found : (d : Def) (g : Global) → has_definition t d ≡ true → global_at t d.unit d.place ≡ Some g → GlobalFits t.classes g
  global_found d g b e = global_there t.classes t.units d.unit d.place g h e (sym (ap (passes (λ (g : Global). g.defined)) e) ∙ b)

  pub binds : InOrder t.classes → globals_size t ≤ 1048576 → CanBind t
  binds order room = record {
    classes = order;
    frames = λ d b. record { complete = λ f e. (frame_at d f b e).complete; within = λ f e. (frame_at d f b e).within };
    globals = λ d b. record { complete = λ g e. (global_found d g b e).complete; within = λ g e. (global_found d g b e).within };
    room = room;
  }
