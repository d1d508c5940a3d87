-- Which functions are safe at which places of their unit, and the first unsafe node of a program (the TS, [dcl.fct.def.tx], [class.virtual]).
use Rattle.std.specs.Prelude.{◌≡◌, ℕ, zero, suc, ◌+◌, ◌==◌, nat_lt, nat_le, Bool, true, false, not, ◌&&◌, ◌||◌, List, [], ◌∷◌, ◌++◌, fold, length, slice_get}
use Rattle.std.specs.Prelude.{Option, Some, None, is_some, cond}
use Rattle.std.specs.List.{list_all, flat_map}
use Rattle.cpp_tree.specs.cpp_types.Class.{Class}
use Rattle.cpp_tree.specs.cpp_types.declared.classes.At.{At}
use Rattle.cpp_tree.specs.cpp_types.declared.classes.Safety.{Safety}
use Rattle.cpp_tree.specs.cpp_types.declared.classes.Safety.TheVariants.{None as Undeclared}
use Rattle.cpp_tree.specs.declared.faults.UnsafeReason.{UnsafeReason}
use Rattle.cpp_tree.specs.declared.faults.UnsafeReason.TheVariants.{CallsUnsafe}
use Rattle.cpp_tree.specs.Typing.{passes}
use Rattle.cpp_tree.specs.Units.{Func, Unit as TypedUnit, TypedProgram}
use Rattle.tx_unsafe.specs.declared.finding.Finding.{Finding}
use Rattle.tx_unsafe.specs.declared.finding.CallSite.{CallSite}
use Rattle.tx_unsafe.specs.Volatile.{has_volatile_part}
use Rattle.tx_unsafe.specs.First.{sooner}
use Rattle.tx_unsafe.specs.Unsafe.{where_so, own_findings, calls_of}

-- Safe functions: four ways to be one

-- 1 and 2: declared with `transaction_safe` or `transaction_safe_dynamic`, or it overrides what makes it count as safe
abbrev pub is_declared : Safety → Bool
is_declared Undeclared = false
is_declared _ = true

abbrev pub is_promised : Func → Bool
is_promised f = is_declared f.declared.safety || f.declared.considered

-- 3: not virtual, and the end of its definition was passed. 4: an implicit special member
abbrev pub is_passed : (place : ℕ) → Func → Bool
is_passed place f = f.implicit || (not f.declared.is_virtual && nat_le f.closed_at place)

-- the place at which a call in a definition is judged: that of the call, and of an implicit member that where it is called itself
abbrev pub judged_at : (place : ℕ) → Func → CallSite → ℕ
judged_at place f site = cond f.implicit place site.at.offset

-- calls of a function in its own definition count as safe; `may` tells which others may be called
abbrev pub may_call : (may : ℕ → ℕ → Bool) → (place n : ℕ) → Func → CallSite → Bool
may_call may place n f site = (site.func == n) || may (judged_at place f site) site.func

abbrev pub is_empty : {A : Type 0} → List A → Bool
is_empty [] = true
is_empty (x ∷ xs) = false

abbrev pub has_safe_definition : (volatile : ℕ → Bool) → (may : ℕ → ℕ → Bool) → (place n : ℕ) → Func → Bool
has_safe_definition volatile may place n f = is_some f.body && is_empty (own_findings volatile true f)
    && list_all (may_call may place n f) (calls_of true f)

abbrev pub is_safe_by : (volatile : ℕ → Bool) → (may : ℕ → ℕ → Bool) → (place n : ℕ) → Func → Bool
is_safe_by volatile may place n f = is_promised f || (is_passed place f && has_safe_definition volatile may place n f)

-- a function is safe at a place, by definitions that call each other at most so deep
abbrev pub safe_within : ℕ → (volatile : ℕ → Bool) → List Func → (place n : ℕ) → Bool
safe_within zero volatile funcs place n = false
safe_within (suc depth) volatile funcs place n = passes (is_safe_by volatile (safe_within depth volatile funcs) place n) (slice_get funcs n)

-- no call lies deeper than there are functions
abbrev pub safe : (volatile : ℕ → Bool) → List Func → (place n : ℕ) → Bool
safe volatile funcs place n = safe_within (length funcs) volatile funcs place n

-- no offset lies behind this one
abbrev pub unit_end : ℕ
unit_end = 4294967295

-- Unsafe parts of a program: of functions that have to be safe all of the definition, of others the atomic blocks

-- a call is judged at its place, that of the function itself as its definition is
abbrev pub is_allowed : (may : ℕ → ℕ → Bool) → (n : ℕ) → CallSite → Bool
is_allowed may n site = may (cond (site.func == n) unit_end site.at.offset) site.func

abbrev pub call_finding : (may : ℕ → ℕ → Bool) → (n : ℕ) → CallSite → List Finding
call_finding may n site = where_so (not (is_allowed may n site)) site.at CallsUnsafe

abbrev pub call_findings : (may : ℕ → ℕ → Bool) → (n : ℕ) → List CallSite → List Finding
call_findings may n calls = flat_map (call_finding may n) calls

abbrev pub func_findings : (volatile : ℕ → Bool) → (may : ℕ → ℕ → Bool) → (n : ℕ) → Func → List Finding
func_findings volatile may n f = own_findings volatile (is_promised f) f ++ call_findings may n (calls_of (is_promised f) f)

-- those of the functions from an index on
abbrev pub funcs_findings : (volatile : ℕ → Bool) → (may : ℕ → ℕ → Bool) → (n : ℕ) → List Func → List Finding
funcs_findings volatile may n [] = []
funcs_findings volatile may n (f ∷ fs) = func_findings volatile may n f ++ funcs_findings volatile may (n + 1) fs

abbrev pub unit_findings : (volatile : ℕ → Bool) → TypedUnit → List Finding
unit_findings volatile u = funcs_findings volatile (safe volatile u.funcs) 0 u.funcs

abbrev pub program_findings : TypedProgram → List Finding
program_findings p = flat_map (unit_findings (has_volatile_part p.classes)) p.units

-- a program without unsafe parts
abbrev pub IsSafe : TypedProgram → Type 0
IsSafe p = program_findings p ≡ []

-- the one with the least place in the text
unfoldable pub first_unsafe : TypedProgram → Option Finding
first_unsafe p = fold sooner None (program_findings p)

-- whether a function is safe in its unit
unfoldable pub is_safe : TypedProgram → (unit n : ℕ) → Bool
is_safe p unit n = passes (λ (u : TypedUnit). safe (has_volatile_part p.classes) u.funcs unit_end n) (slice_get p.units unit)

-- what the check answers, apart from want of memory
abbrev pub FirstUnsafe : TypedProgram → At → UnsafeReason → Type 0
FirstUnsafe p at reason = first_unsafe p ≡ Some (record { at = at; reason = reason })
