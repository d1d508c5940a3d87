-- Folded programs are well formed.
use Rattle.std.proofs.Common.{◌≡◌, refl, ap, sym, subst, ◌∙◌, arith, ℕ, zero, suc, Bool, true, List, [], ◌∷◌, map, slice_get, Option, Some, None}
use Rattle.std.specs.Prelude.{option_map}
use Rattle.cpp_types.specs.Class.{Class, InOrder}
use Rattle.cpp_tree.specs.declared.arena.TNodeId.{TNodeId}
use Rattle.cpp_tree.specs.declared.program.TFunc.{TFunc}
use Rattle.cpp_tree.specs.declared.program.UnitTree.{UnitTree}
use Rattle.cpp_tree.specs.declared.program.Program.{Program}
use Rattle.cpp_tree.specs.Trees.{Tree}
use Rattle.cpp_tree.specs.Arena.{trees_of, tree_at}
use Rattle.cpp_tree.specs.Units.{Func, Global, SlotFunc, Unit as TypedUnit, TypedProgram, func_of, unit_of, program_of}
use Rattle.cpp_tree.specs.Rows.{Setting}
use Rattle.cpp_tree.specs.WellFormed.{setting_of, WellFormedBody, WellFormed}
use Rattle.tx_unsafe.specs.Volatile.{has_volatile_part}
use Rattle.setting_growth.specs.Growth.{Grows, SameBody}
use Rattle.setting_growth.proofs.Bodies.{body_law}
use Rattle.setting_growth.proofs.Trees.{order_law}
use Rattle.tree_fold.specs.Declaring.{DeclaresPlainly, declares_plainly}
use Rattle.tree_fold.specs.Folding.{folded}
use Rattle.tree_fold.specs.Programs.{folded_func, folded_unit, folded_program}
use Rattle.tree_forests.specs.Forests.{HaveForests}
use Rattle.fold_fits.specs.Laws.{BodiesFit, ProgramsFit}
use Rattle.fold_fits.specs.Settings.{folded_setting}
use Rattle.fold_fits.proofs.Bodies.{body_folds}

pub bodies_fit : BodiesFit
bodies_fit = λ v s body w e. body_folds v s body w e

-- Settings

get_map : {A B : Type 0} (f : A → B) (xs : List A) (i : ℕ) (x : A) → slice_get xs i ≡ Some x → slice_get (map f xs) i ≡ Some (f x)
get_map f [] i x e = absurd cc
get_map f (y ∷ xs) zero x e = let s : y ≡ x = cc in ap (λ z. Some (f z)) s
get_map f (y ∷ xs) (suc i) x e = get_map f xs i x e

mapped : {A B : Type 0} (f : A → B) (xs : List A) (i : ℕ) (y : B) → slice_get (map f xs) i ≡ Some y → (x : A) × (slice_get xs i ≡ Some x) × (f x ≡ y)
mapped f [] i y e = absurd cc
mapped f (x ∷ xs) zero y e = (x, refl, cc)
mapped f (x ∷ xs) (suc i) y e = mapped f xs i y e

setting_grows : (v : ℕ → Bool) (s : Setting) → Grows s (folded_setting v s)
setting_grows v s = record {
  classes = record { complete = λ n k c e h. e; many = omega arith };
  slots = record { kept = λ n i x e. e };
  funcs = record {
    kept = λ i f e. record {
      func = folded_func v f;
      at = get_map (folded_func v) s.funcs i f e;
      same = record { kind = refl; class = refl; name = refl; signature = refl; is_virtual = refl };
    };
  };
  globals = record { kept = λ i g e. record { global = g; at = e; typ = refl } };
  function = record { kind = refl; signature = refl; frame = λ i t e. e };
}

same_body : (v : ℕ → Bool) (f : Func) → SameBody f (folded_func v f)
same_body v f = record { kind = refl; class = refl; signature = refl; words = refl; params = refl; frame = refl }

body_in : (v : ℕ → Bool) (s : Setting) (body : Tree) → InOrder s.classes → WellFormedBody s body → declares_plainly body ≡ true
    → WellFormedBody (folded_setting v s) (folded v body)
body_in v s body o w e = body_law s (folded_setting v s) (folded v body) (order_law s.classes o) (setting_grows v s) (same_body v s.function)
    (body_folds v s body w e)

setting_is : (s z : Setting) → s.classes ≡ z.classes → s.slots ≡ z.slots → s.funcs ≡ z.funcs → s.globals ≡ z.globals → s.function ≡ z.function → s ≡ z
setting_is s z a b c d e =
    ap (λ (x : List Class). record s { classes = x }) a ∙ ap (λ (x : List (List SlotFunc)). record s { classes = z.classes; slots = x }) b
    ∙ ap (λ (x : List Func). record s { classes = z.classes; slots = z.slots; funcs = x }) c
    ∙ ap (λ (x : List Global). record s { classes = z.classes; slots = z.slots; funcs = z.funcs; globals = x }) d
    ∙ ap (λ (x : Func). record s { classes = z.classes; slots = z.slots; funcs = z.funcs; globals = z.globals; function = x }) e

-- Bodies

body_known : (v : ℕ → Bool) (trees others : List Tree) (o : Option TNodeId) (root : TNodeId)
    → option_map (folded v) (option_map (tree_at trees) o) ≡ Some (tree_at others root)
    → (id : TNodeId) × (o ≡ Some id) × (folded v (tree_at trees id) ≡ tree_at others root)
body_known v trees others None root e = absurd cc
body_known v trees others (Some id) root e = (id, refl, cc)

module _ (p q : Program) (well : WellFormed p) (plain : DeclaresPlainly (program_of p)) (same : program_of q ≡ folded_program (program_of p))
    (own : HaveForests q.units.items) where
  abbrev marks : ℕ → Bool
  marks = has_volatile_part (program_of p).classes

  unit_known : (i : ℕ) (u : UnitTree) → slice_get q.units.items i ≡ Some u
      → (x : UnitTree) × (slice_get p.units.items i ≡ Some x) × (folded_unit marks (unit_of x) ≡ unit_of u)
  unit_known i u e =
      let m = mapped (folded_unit marks) (program_of p).units i (unit_of u)
      (sym (ap (λ (z : TypedProgram). slice_get z.units i) same) ∙ get_map unit_of q.units.items i u e) in
      let n = mapped unit_of p.units.items i m.0 m.1 in
      (n.0, n.1, ap (folded_unit marks) n.2 ∙ m.2)

  func_known : (x u : UnitTree) → folded_unit marks (unit_of x) ≡ unit_of u → (j : ℕ) (f : TFunc) → slice_get u.funcs.items j ≡ Some f
      → (g : TFunc) × (slice_get x.funcs.items j ≡ Some g) × (folded_func marks (func_of (trees_of x.nodes.items) g) ≡ func_of (trees_of u.nodes.items) f)
  func_known x u e j f s =
      let m = mapped (folded_func marks) (unit_of x).funcs j (func_of (trees_of u.nodes.items) f)
      (ap (λ (z : TypedUnit). slice_get z.funcs j) e ∙ get_map (func_of (trees_of u.nodes.items)) u.funcs.items j f s) in
      let n = mapped (func_of (trees_of x.nodes.items)) x.funcs.items j m.0 m.1 in
      (n.0, n.1, ap (folded_func marks) n.2 ∙ m.2)

  setting_known : (x u : UnitTree) (g f : TFunc) → folded_unit marks (unit_of x) ≡ unit_of u
      → folded_func marks (func_of (trees_of x.nodes.items) g) ≡ func_of (trees_of u.nodes.items) f
      → folded_setting marks (setting_of p x g) ≡ setting_of q u f
  setting_known x u g f e h = setting_is (folded_setting marks (setting_of p x g)) (setting_of q u f)
      (sym (ap (λ (z : TypedProgram). z.classes) same)) (sym (ap (λ (z : TypedProgram). z.slots) same))
      (ap (λ (z : TypedUnit). z.funcs) e) (ap (λ (z : TypedUnit). z.globals) e) h

  body_fits : (i : ℕ) (u : UnitTree) (j : ℕ) (f : TFunc) (root : TNodeId) → slice_get q.units.items i ≡ Some u → slice_get u.funcs.items j ≡ Some f
      → f.body ≡ Some root → WellFormedBody (setting_of q u f) (tree_at (trees_of u.nodes.items) root)
  body_fits i u j f root e s b =
      let x = unit_known i u e in
      let g = func_known x.0 u x.2 j f s in
      let trees = trees_of x.0.nodes.items in
      let k = body_known marks trees (trees_of u.nodes.items) g.0.body root
      (ap (λ (z : Func). z.body) g.2 ∙ ap (option_map (tree_at (trees_of u.nodes.items))) b) in
      let old = (well.units i x.0 x.1).bodies j g.0 k.0 g.1 k.1 in
      let free = plain.bodies i j (unit_of x.0) (func_of trees g.0) (tree_at trees k.0) (get_map unit_of p.units.items i x.0 x.1)
      (get_map (func_of trees) x.0.funcs.items j g.0 g.1) (ap (option_map (tree_at trees)) k.1) in
      let here = body_in marks (setting_of p x.0 g.0) (tree_at trees k.0) well.classes old.well_formed free in
      subst (λ (z : Tree). WellFormedBody (setting_of q u f) z) k.2
      (subst (λ (z : Setting). WellFormedBody z (folded marks (tree_at trees k.0))) (setting_known x.0 u g.0 f x.2 g.2) here)

  program_fits : WellFormed q
  program_fits = record {
    classes = subst InOrder (sym (ap (λ (z : TypedProgram). z.classes) same)) well.classes;
    units = λ i u e. let o = own.each i u e in record {
      ordered = o.ordered;
      forest = o.forest;
      roots = o.roots;
      bodies = λ j f root s b. record { within = o.within j f root s b; well_formed = body_fits i u j f root e s b };
    };
  }

pub programs_fit : ProgramsFit
programs_fit = λ p q well plain same own. program_fits p q well plain same own
