-- Functions by what tables have of them.
use Rattle.std.proofs.Common.{◌≡◌, ◌∙◌, ℕ, Bool, List, [], ◌∷◌, map, refl, sym, ap, Option, Some, None, slice_get, option_map, option_and_then, unwrap_or}
use Rattle.std.proofs.lemmas.Option.{slice_get-map}
use Rattle.cpp_tree.specs.cpp_types.Class.{Class}
use Rattle.cpp_tree.specs.declared.program.TFunc.{TFunc}
use Rattle.cpp_tree.specs.declared.program.UnitTree.{UnitTree}
use Rattle.cpp_tree.specs.declared.program.Program.{Program}
use Rattle.cpp_tree.specs.Trees.{literal}
use Rattle.cpp_tree.specs.Arena.{tree_at, trees_of}
use Rattle.cpp_tree.specs.Units.{Unit as TypedUnit, func_of, unit_of, program_of}
use Rattle.src_mean.specs.Linked.{Func}
use Rattle.src_mean.specs.Links.{Def, func_at, linked_func}
use Rattle.src_bind.specs.declared.infos.FuncInfo.{FuncInfo}
use Rattle.src_bind.specs.Infos.{trees_found, trees_in, info_of, own_func, body_found, says}
use Rattle.src_bind.specs.Tables.{Given, typed, Key, key_of, key_in, key_found, func_found}
use Rattle.src_bind.proofs.Entries.{shown_by}

abbrev from_key : Program → Key → Func
from_key p k = record {
  unit = k.unit;
  size = k.size;
  places = k.places;
  words = k.words;
  stops = k.stops;
  safe = k.safe;
  body = unwrap_or
      (option_map (tree_at (trees_in p k.unit)) k.body) (literal 0);
}

func_by : (n : ℕ) (o : Option UnitTree) → option_and_then (λ (x : TypedUnit). slice_get x.funcs n) (option_map unit_of o)
    ≡ option_map (func_of (trees_found o)) (option_and_then (λ (x : UnitTree). slice_get x.funcs.items n) o)
func_by n None = refl
func_by n (Some x) = slice_get-map (func_of (trees_of x.nodes.items)) x.funcs.items n

func_shown : (p : Program) (u n : ℕ) → func_at (program_of p) u n ≡ option_map (func_of (trees_in p u)) (own_func p u n)
func_shown p u n = ap (option_and_then (λ (x : TypedUnit). slice_get x.funcs n)) (slice_get-map unit_of p.units.items u) ∙ func_by n (slice_get p.units.items u)

-- with the tree of its body for the node, it is the function
key_by : (p : Program) (safe : ℕ → ℕ → Bool) (classes : List Class) (d : Def) (r : Option TFunc)
    → option_map (from_key p) (option_map (key_in (option_and_then (λ (f : TFunc). f.body) r))
    (option_map (linked_func safe classes d) (option_map (func_of (trees_in p d.unit)) r)))
    ≡ option_map (linked_func safe classes d) (option_map (func_of (trees_in p d.unit)) r)
key_by p safe classes d None = refl
key_by p safe classes d (Some f) = refl

key_is : (g : Given) (d : Def) → option_map (from_key g.program) (key_found g d) ≡ func_found g d
key_is g d =
    ap (λ z. option_map (from_key g.program) (option_map (key_in (body_found g.program d))
    (option_map (linked_func (says g.choices.safe.items) (typed g).classes d) z))) (func_shown g.program d.unit d.place)
    ∙ key_by g.program (says g.choices.safe.items) (typed g).classes d (own_func g.program d.unit d.place)
    ∙ sym (ap (option_map (linked_func (says g.choices.safe.items) (typed g).classes d)) (func_shown g.program d.unit d.place))

by_info : (p : Program) (o : Option FuncInfo) → option_map (info_of p) o ≡ option_map (from_key p) (option_map key_of o)
by_info p None = refl
by_info p (Some i) = refl

by_def : (g : Given) (o : Option Def) → option_map (from_key g.program) (option_and_then (key_found g) o) ≡ option_and_then (func_found g) o
by_def g None = refl
by_def g (Some d) = key_is g d

-- a record of a function shows the function
pub shown_is : (g : Given) (is : List FuncInfo) (ds : List Def) (n : ℕ) → map (λ (i : FuncInfo). Some (key_of i)) is ≡ map (key_found g) ds
    → option_map (info_of g.program) (slice_get is n) ≡ option_and_then (func_found g) (slice_get ds n)
shown_is g is ds n e = by_info g.program (slice_get is n) ∙ ap (option_map (from_key g.program)) (shown_by key_of (key_found g) is ds n e)
    ∙ by_def g (slice_get ds n)

key_one : (g : Given) (i : FuncInfo) (d : Def) → Some (info_of g.program i) ≡ func_found g d → Some i.body ≡ body_found g.program d
    → Some (key_of i) ≡ key_found g d
key_one g i d e f = ap (λ z. Some (key_in z (info_of g.program i))) f ∙ ap (option_map (key_in (body_found g.program d))) e

pub keys_are : (g : Given) (is : List FuncInfo) (ds : List Def) → map (λ (i : FuncInfo). Some (info_of g.program i)) is ≡ map (func_found g) ds
    → map (λ (i : FuncInfo). Some i.body) is ≡ map (body_found g.program) ds → map (λ (i : FuncInfo). Some (key_of i)) is ≡ map (key_found g) ds
keys_are g [] [] e f = refl
keys_are g [] (d ∷ ds) e f = absurd cc
keys_are g (i ∷ is) [] e f = absurd cc
keys_are g (i ∷ is) (d ∷ ds) e f =
    let a : Some (info_of g.program i) ≡ func_found g d = cc in
    let b : map (λ (i : FuncInfo). Some (info_of g.program i)) is ≡ map (func_found g) ds = cc in
    let m : Some i.body ≡ body_found g.program d = cc in
    let n : map (λ (i : FuncInfo). Some i.body) is ≡ map (body_found g.program) ds = cc in
    ap (λ z. z ∷ map (λ (i : FuncInfo). Some (key_of i)) is) (key_one g i d a m) ∙ ap (λ z. key_found g d ∷ z) (keys_are g is ds b n)
