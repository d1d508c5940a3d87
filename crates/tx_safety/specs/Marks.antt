-- What holds of the marks that rounds over the functions of a unit set.
use Rattle.std.specs.Prelude.{◌≡◌, ℕ, ◌<◌, ◌≤◌, ◌==◌, nat_le, max, Bool, true, false, not, ◌&&◌, ◌||◌, List, length, get_or, slice_get, slice_set, fold}
use Rattle.std.specs.Prelude.{count_by, Option, Some, None, is_some, option_map, option_and_then, cond}
use Rattle.std.specs.List.{list_all}
use Rattle.std.specs.Global.{Vec}
use Rattle.cpp_tree.specs.declared.arena.TNode.{TNode}
use Rattle.cpp_tree.specs.declared.arena.TNodeId.{TNodeId}
use Rattle.cpp_tree.specs.declared.program.TFunc.{TFunc}
use Rattle.cpp_tree.specs.Typing.{passes}
use Rattle.cpp_tree.specs.declared.program.UnitTree.{UnitTree}
use Rattle.cpp_tree.specs.Trees.{Tree}
use Rattle.cpp_tree.specs.Arena.{IsOrdered}
use Rattle.cpp_tree.specs.Units.{Func, func_of, unit_of}
use Rattle.tx_unsafe.specs.declared.finding.CallSite.{CallSite}
use Rattle.tx_unsafe.specs.declared.walk.Contents.{Contents}
use Rattle.tx_unsafe.specs.Unsafe.{own_findings, calls_of}
use Rattle.tx_safety.specs.Safe.{is_promised, is_empty, safe_within, safe}
use Rattle.tx_unsafe.specs.First.{sooner}
use Rattle.tx_unsafe.specs.Roots.{HasRoot}

-- Functions: a mark is the place from which on a function is safe

abbrev pub mark_at : List (Option ℕ) → ℕ → Option ℕ
mark_at marks n = get_or marks n None

abbrev pub may_from : List (Option ℕ) → (place n : ℕ) → Bool
may_from marks place n = passes (λ (from : ℕ). nat_le from place) (mark_at marks n)

-- a call that is allowed where it stands
abbrev pub is_marked_call : List (Option ℕ) → ℕ → CallSite → Bool
is_marked_call marks n site = (site.func == n) || may_from marks site.at.offset site.func

-- the place from which on all of some calls are allowed: the latest mark
abbrev pub later : List (Option ℕ) → ℕ → Option ℕ → CallSite → Option ℕ
later marks n None site = None
later marks n (Some from) site = cond (site.func == n) (Some from) (option_map (max from) (mark_at marks site.func))

abbrev pub latest : List (Option ℕ) → ℕ → List CallSite → Option ℕ
latest marks n calls = fold (later marks n) (Some 0) calls

-- the mark of a function, from whether it is promised, has a safe definition but for its calls, is implicit or virtual, has calls that are all allowed
-- where they stand, the latest mark of these, and where it is closed
abbrev pub mark_by : (promised clean implicit virtual allowed : Bool) → Option ℕ → ℕ → Option ℕ
mark_by promised clean implicit virtual allowed all closed =
    cond promised (Some 0) (cond clean (cond implicit all (cond (not virtual && allowed) (Some closed) None)) None)

-- where `clean` tells that nothing in the definition is unsafe by itself
abbrev pub mark_of : List (Option ℕ) → ℕ → Func → (clean : Bool) → List CallSite → Option ℕ
mark_of marks n f clean calls = mark_by (is_promised f) (is_some f.body && clean) f.implicit f.declared.is_virtual (list_all (is_marked_call marks n) calls)
    (latest marks n calls) f.closed_at

-- the mark that a function without one gets
abbrev pub new_mark_of : (volatile : ℕ → Bool) → List (Option ℕ) → ℕ → Func → Option ℕ
new_mark_of volatile marks n f = cond (is_some (mark_at marks n)) None (mark_of marks n f (is_empty (own_findings volatile true f)) (calls_of true f))

abbrev pub new_mark : (volatile : ℕ → Bool) → List Func → List (Option ℕ) → ℕ → Option ℕ
new_mark volatile funcs marks n = option_and_then (new_mark_of volatile marks n) (slice_get funcs n)

abbrev pub with_mark : List (Option ℕ) → ℕ → Option ℕ → List (Option ℕ)
with_mark marks n None = marks
with_mark marks n (Some from) = slice_set marks n (Some from)

abbrev pub count_marks : List (Option ℕ) → ℕ
count_marks marks = count_by is_some marks

-- a marked function is safe from that place on, by definitions that call each other no deeper than there are marks
pub record SoundMarks (volatile : ℕ → Bool) (funcs : List Func) (marks : List (Option ℕ)) : Type 0 where
  pub within : (n from depth place : ℕ) → mark_at marks n ≡ Some from → count_marks marks ≤ depth → safe_within depth volatile funcs place n ≡ nat_le from place

-- the functions below an index get no further mark
pub record ClosedMarks (volatile : ℕ → Bool) (funcs : List Func) (marks : List (Option ℕ)) (limit : ℕ) : Type 0 where
  pub closed : (n : ℕ) → n < limit → new_mark volatile funcs marks n ≡ None

-- what stands in all of a function's definition
pub record IsContents (volatile : ℕ → Bool) (f : Func) (contents : Contents) : Type 0 where
  pub first : contents.first ≡ fold sooner None (own_findings volatile true f)
  pub calls : contents.calls.items ≡ calls_of true f

-- of each of the first functions
pub record AreContents (volatile : ℕ → Bool) (trees : List Tree) (funcs : List TFunc) (all : List Contents) : Type 0 where
  pub each : (n : ℕ) (f : TFunc) (contents : Contents) → slice_get funcs n ≡ Some f → slice_get all n ≡ Some contents
      → IsContents volatile (func_of trees f) contents

-- the bodies of all functions stand in the list
pub record HaveRoots (nodes : List TNode) (funcs : List TFunc) : Type 0 where
  pub each : (n : ℕ) (f : TFunc) → slice_get funcs n ≡ Some f → HasRoot nodes f

-- Units

pub record AreReadable (units : List UnitTree) : Type 0 where
  pub ordered : (i : ℕ) (u : UnitTree) → slice_get units i ≡ Some u → IsOrdered u.nodes.items
  pub roots : (i : ℕ) (u : UnitTree) → slice_get units i ≡ Some u → HaveRoots u.nodes.items u.funcs.items

-- the marks of each of the first units tell which functions are safe there
pub record AreUnitMarks (volatile : ℕ → Bool) (units : List UnitTree) (all : List (Vec (Option ℕ))) : Type 0 where
  pub each : (i : ℕ) (u : UnitTree) (marks : Vec (Option ℕ)) → slice_get units i ≡ Some u → slice_get all i ≡ Some marks
      → (place n : ℕ) → may_from marks.items place n ≡ safe volatile (unit_of u).funcs place n
