-- What a function's frame needs.
use Rattle.std.proofs.Common.{◌≡◌, ◌∙◌, ◌+◌, ◌++◌, ◌∷◌, [], ℕ, Bool, List, drop, map, Option, Some, option_map, ap, sym, subst}
use Rattle.std.specs.Global.{Vec}
use Rattle.cpp_tree.specs.cpp_types.Typ.{Typ}
use Rattle.cpp_tree.specs.cpp_types.Class.{Class}
use Rattle.cpp_tree.specs.cpp_layout.Frames.{AllComplete}
use Rattle.cpp_tree.specs.Units.{Func as UnitFunc, TypedProgram}
use Rattle.src_mean.specs.Linked.{Func}
use Rattle.src_mean.specs.Links.{Def, func_at, linked_func}
use Rattle.src_bind.specs.Infos.{says, info_of, HasFrame}
use Rattle.src_bind.specs.declared.infos.FuncInfo.{FuncInfo}
use Rattle.src_bind.specs.declared.defs.Found.{Found}
use Rattle.src_bind.specs.Defs.{def_of, defs_of}
use Rattle.src_bind.specs.Tables.{Given, typed, func_found}
use Rattle.src_bind.proofs.Stay.{image_more}

pub complete_by : (t : TypedProgram) (d : Def) (f : UnitFunc) (classes : List Class) (items : List Typ) → HasFrame t d → func_at t d.unit d.place ≡ Some f
    → classes ≡ t.classes → items ≡ f.frame → AllComplete classes items
complete_by t d f classes items h e p q = subst (λ z. AllComplete z items) (sym p) (subst (λ z. AllComplete t.classes z) (sym q) (h.complete f e))

pub safe_lent : (lent safe : List (Vec Bool)) (classes : List Class) (d : Def) (o : Option UnitFunc) (r : Option Func) → lent ≡ safe
    → r ≡ option_map (linked_func (says lent) classes d) o → r ≡ option_map (linked_func (says safe) classes d) o
safe_lent lent safe classes d o r e h = h ∙ ap (λ z. option_map (linked_func (says z) classes d) o) e

-- one more record of a function, made by a table that was lent
pub infos_more : (g : Given) (lent : List (Vec Bool)) (xs new : List FuncInfo) (x : FuncInfo) (kept : List Found) (i : ℕ) (d : Found) (all : List (Option Func))
    → drop i kept ≡ d ∷ drop (i + 1) kept → lent ≡ g.choices.safe.items
    → Some (info_of g.program x) ≡ option_map (linked_func (says lent) (typed g).classes (def_of d)) (func_at (typed g) d.unit d.place) → new ≡ xs ++ x ∷ []
    → map (λ (i : FuncInfo). Some (info_of g.program i)) xs ++ map (func_found g) (defs_of (drop i kept)) ≡ all
    → map (λ (i : FuncInfo). Some (info_of g.program i)) new ++ map (func_found g) (defs_of (drop (i + 1) kept)) ≡ all
infos_more g lent xs new x kept i d all m l e f h = image_more (λ (i : FuncInfo). Some (info_of g.program i)) (func_found g) xs new x kept i d all m
    (safe_lent lent g.choices.safe.items (typed g).classes (def_of d) (func_at (typed g) d.unit d.place) (Some (info_of g.program x)) l e) f h
