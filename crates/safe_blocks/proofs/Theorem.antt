-- The blocks of a safe program are hidden.
use Rattle.std.proofs.Common.{◌≡◌, ◌∙◌, ℕ, zero, suc, Bool, true, false, not, List, [], ◌∷◌, is_some, map, Option, Some, None, slice_get, option_map, ap}
use Rattle.std.proofs.Common.{subst, refl}
use Rattle.std.specs.Prelude.{option_and_then, unwrap_or}
use Rattle.std.proofs.lemmas.Bool.{false≢true}
use Rattle.cpp_tree.specs.declared.kinds.TKind.{TKind}
use Rattle.cpp_tree.specs.declared.kinds.TKind.TheVariants.{Block}
use Rattle.cpp_tree.specs.declared.arena.TNodeId.{TNodeId}
use Rattle.cpp_tree.specs.declared.program.FuncKind.{FuncKind}
use Rattle.cpp_tree.specs.declared.program.TFunc.{TFunc}
use Rattle.cpp_tree.specs.declared.program.UnitTree.{UnitTree}
use Rattle.cpp_tree.specs.declared.program.Program.{Program as TypedUnits}
use Rattle.cpp_tree.specs.declared.roles.Role.TheVariants.{Statement}
use Rattle.cpp_tree.specs.Trees.{Tree, kind_of}
use Rattle.cpp_tree.specs.Arena.{trees_of, tree_at}
use Rattle.cpp_tree.specs.Units.{Func, Unit as TypedUnit, func_of, unit_of, program_of}
use Rattle.cpp_tree.specs.Rows.{Setting}
use Rattle.cpp_tree.specs.WellFormed.{outermost, fits, is_body_of, setting_of, WellFormed}
use Rattle.cpp_types.specs.Class.{classes_of}
use Rattle.tx_unsafe.specs.Volatile.{has_volatile_part}
use Rattle.tx_unsafe.specs.Unsafe.{own_in}
use Rattle.seen_marks.specs.Marks.{is_unmarked}
use Rattle.seen_marks.proofs.Trees.{bodies_law}
use Rattle.src_mean.specs.Links.{func_at}
use Rattle.tx_safety.specs.Safe.{is_safe}
use Rattle.block_marks.specs.Marks.{scope_for, is_free, is_marked}
use Rattle.block_marks.proofs.Steps.{stays_marked, main_marked, thread_marked}
use Rattle.safe_blocks.specs.UnsafeFree.{safely_linked, UnsafeFree}
use Rattle.safe_blocks.proofs.Kept.{tested, blocks_hidden}
use Rattle.safe_blocks.proofs.Entered.{marked_same}
use Rattle.safe_blocks.proofs.Placed.{is_scoped, fits_scoped}
use Rattle.safe_blocks.proofs.Linking.{IsScopedFunc, program_tame}

block_free : (k : FuncKind) (kind : TKind) → is_body_of k kind ≡ true → scope_for kind ≡ None
block_free k (Block subobjects) h = refl
block_free k kind h = absurd (false≢true h)

mapped : {A B : Type 0} (f : A → B) (xs : List A) (i : ℕ) (y : B) → slice_get (map f xs) i ≡ Some y → (x : A) × (slice_get xs i ≡ Some x) × (f x ≡ y)
mapped f [] i y h = absurd cc
mapped f (x ∷ xs) zero y h = let s : f x ≡ y = cc in (x, refl, s)
mapped f (x ∷ xs) (suc i) y h = mapped f xs i y h

abbrev volatile_in : TypedUnits → ℕ → Bool
volatile_in p n = has_volatile_part (classes_of p.classes.items) n

record IsScopedBody (v : ℕ → Bool) (body : Tree) : Type 0 where
  scoped : is_scoped body ≡ true
  free : is_free body ≡ true
  unmarked : (w : Bool) → own_in v w body ≡ [] → is_unmarked (not w) body ≡ true

-- whether all of it counts, or its atomic blocks
unmarked_by : (s : Setting) (body : Tree) → fits s outermost Statement body ≡ true → (w : Bool) → own_in (has_volatile_part s.classes) w body ≡ []
    → is_unmarked (not w) body ≡ true
unmarked_by s body h true o = bodies_law s false body h o
unmarked_by s body h false o = bodies_law s true body h o

body_scoped : (p : TypedUnits) → WellFormed p → (unit n : ℕ) (u : UnitTree) (g : TFunc) → slice_get p.units.items unit ≡ Some u
    → slice_get u.funcs.items n ≡ Some g → (o : Option TNodeId) → g.body ≡ o
    → (body : Tree) → option_map (tree_at (trees_of u.nodes.items)) o ≡ Some body → IsScopedBody (volatile_in p) body
body_scoped p w unit n u g a b None c body d = absurd cc
body_scoped p w unit n u g a b (Some root) c body d =
    let tree = tree_at (trees_of u.nodes.items) root in
    let same : tree ≡ body = ap (λ (o : Option Tree). unwrap_or o body) d in
    let is = ((w.units unit u a).bodies n g root b c).well_formed in
    subst (IsScopedBody (volatile_in p)) same (record {
      scoped = fits_scoped (setting_of p u g) outermost Statement tree is.nodes;
      free = ap (λ z. not (is_some z)) (block_free g.kind (kind_of tree) is.block);
      unmarked = unmarked_by (setting_of p u g) tree is.nodes;
    })

shown_func : (p : TypedUnits) → WellFormed p → (unit n : ℕ) (u : UnitTree) (f : Func) → slice_get p.units.items unit ≡ Some u
    → slice_get (map (func_of (trees_of u.nodes.items)) u.funcs.items) n ≡ Some f → IsScopedFunc (volatile_in p) f
shown_func p w unit n u f a h =
    let g = mapped (func_of (trees_of u.nodes.items)) u.funcs.items n f h in
    let both = body_scoped p w unit n u g.0 a g.1 (g.0).body refl in
    let at = ap (λ (z : Func). z.body) g.2 in
    record {
      scoped = λ body b. (both body (at ∙ b)).scoped;
      free = λ body b. (both body (at ∙ b)).free;
      unmarked = λ body b. (both body (at ∙ b)).unmarked;
    }

shown_unit : (p : TypedUnits) → WellFormed p → (unit n : ℕ) (f : Func) (o : Option TypedUnit) → slice_get (map unit_of p.units.items) unit ≡ o
    → option_and_then (λ (x : TypedUnit). slice_get x.funcs n) o ≡ Some f → IsScopedFunc (volatile_in p) f
shown_unit p w unit n f None a h = absurd cc
shown_unit p w unit n f (Some x) a h =
    let u = mapped unit_of p.units.items unit x a in
    shown_func p w unit n u.0 f u.1 (ap (λ (z : TypedUnit). slice_get z.funcs n) u.2 ∙ h)

scoped_func : (p : TypedUnits) → WellFormed p → (unit n : ℕ) (f : Func) → func_at (program_of p) unit n ≡ Some f → IsScopedFunc (volatile_in p) f
scoped_func p w unit n f e = shown_unit p w unit n f (slice_get (map unit_of p.units.items) unit) refl e

pub unsafe_free : (p : TypedUnits) → UnsafeFree p
unsafe_free p = record {
  free = λ symbol entry w s l u.
      (let t = program_of p in
      let q = safely_linked symbol entry t in
      let m = program_tame symbol entry t s l u (record { each = scoped_func p w }) in
      blocks_hidden q (is_marked q (is_safe t)) (stays_marked q (is_safe t) m) (main_marked q (is_safe t) m) (thread_marked q (is_safe t) m));
  enters = λ symbol entry w s l u.
      (let t = program_of p in
      let q = safely_linked symbol entry t in
      let m = program_tame symbol entry t s l u (record { each = scoped_func p w }) in
      let test = is_marked q (is_safe t) in
      record {
        same = λ x reply c. marked_same q (is_safe t) m x reply
            (tested q test (stays_marked q (is_safe t) m) (main_marked q (is_safe t) m) (thread_marked q (is_safe t) m) x c);
      });
}
