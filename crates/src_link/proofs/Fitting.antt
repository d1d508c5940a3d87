-- One more that fits.
use Rattle.std.proofs.Common.{◌≡◌, ◌+◌, ◌<◌, ℕ, true, List, [], ◌∷◌, map, length, drop, get_or, sym, ap, ◌∙◌, subst, is_some}
use Rattle.std.proofs.lemmas.List.{drop_more}
use Rattle.cpp_types.specs.Class.{Class}
use Rattle.cpp_tree.specs.declared.program.TFunc.{TFunc}
use Rattle.cpp_tree.specs.declared.program.TGlobal.{TGlobal}
use Rattle.cpp_tree.specs.declared.program.UnitTree.{UnitTree}
use Rattle.cpp_tree.specs.Trees.{Tree}
use Rattle.cpp_tree.specs.Units.{func_of, global_of, unit_of}
use Rattle.src_link.specs.Fits.{FrameFits, GlobalFits, FramesFit, GlobalsFit, UnitsFit}

module _ (classes : List Class) where
  pub frames_more : (trees : List Tree) (fs : List TFunc) (i : ℕ) (f : TFunc) → i < length fs → f ≡ get_or fs i f
      → (is_some (func_of trees f).body ≡ true → FrameFits classes (func_of trees f).frame)
      → FramesFit classes (map (func_of trees) (drop (i + 1) fs)) → FramesFit classes (map (func_of trees) (drop i fs))
  frames_more trees fs i f h e one rest =
      subst (λ (z : List TFunc). FramesFit classes (map (func_of trees) z)) (sym (drop_more fs i f h ∙ ap (λ (z : TFunc). z ∷ drop (i + 1) fs) (sym e)))
      (one, rest)

  pub globals_more : (gs : List TGlobal) (i : ℕ) (g : TGlobal) → i < length gs → g ≡ get_or gs i g
      → ((global_of g).defined ≡ true → GlobalFits classes (global_of g))
      → GlobalsFit classes (map global_of (drop (i + 1) gs)) → GlobalsFit classes (map global_of (drop i gs))
  globals_more gs i g h e one rest =
      subst (λ (z : List TGlobal). GlobalsFit classes (map global_of z)) (sym (drop_more gs i g h ∙ ap (λ (z : TGlobal). z ∷ drop (i + 1) gs) (sym e)))
      (one, rest)

  pub units_more : (xs : List UnitTree) (i : ℕ) (x : UnitTree) → i < length xs → x ≡ get_or xs i x → FramesFit classes (unit_of x).funcs
      → GlobalsFit classes (unit_of x).globals
      → UnitsFit classes (map unit_of (drop (i + 1) xs)) → UnitsFit classes (map unit_of (drop i xs))
  units_more xs i x h e frames globals rest =
      subst (λ (z : List UnitTree). UnitsFit classes (map unit_of z)) (sym (drop_more xs i x h ∙ ap (λ (z : UnitTree). z ∷ drop (i + 1) xs) (sym e)))
      (frames, globals, rest)
