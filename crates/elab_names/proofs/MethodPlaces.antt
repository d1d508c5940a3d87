-- The functions of a name and of a class, found by the tables of the unit's functions.
use Rattle.std.proofs.Common.{◌≡◌, ◌∙◌, ◌&&◌, ℕ, Bool, true, List, map, Result, Ok, Err, IfOk, Vec, Global}
use Rattle.std.specs.Str.{bytes_eq}
use Rattle.std.specs.declared.alloc.AllocError.{AllocError}
use Rattle.elab_conv.specs.elab_ctx.Ctx.{Func, func_of}
use Rattle.elab_conv.specs.elab_ctx.declared.env.FuncDecl.{FuncDecl}
use Rattle.elab_conv.specs.elab_ctx.Places.{places_where, kept_among, is_member_of, is_free_of}
use Rattle.elab_conv.specs.elab_rules.Initialising.{places_from, same_number}
use Rattle.elab_conv.specs.elab_rules.Names.{is_method, is_free, is_plain_kind}
use Rattle.elab_conv.specs.elab_rules.Calls.{is_closure_call}
use Rattle.elab_conv.proofs.elab_rules.Found.{class_all, class_kept, name_all, asks_first, asks_second}

method_asks : (n : ℕ) (name : List ℕ) (f : Func) → is_method n name f ≡ true → same_number n f.class ≡ true
method_asks n name f h = asks_second (bytes_eq f.declared.name name) (same_number n f.class)
    (asks_first (bytes_eq f.declared.name name && same_number n f.class) (is_plain_kind f.kind) h)

pub methods_kept : (n : ℕ) (name : List ℕ) (fs : List FuncDecl) (places : List ℕ) → places ≡ places_where (is_member_of n) 0 fs
    → kept_among (λ (f : FuncDecl). is_method n name (func_of f)) fs places ≡ places_from (is_method n name) 0 (map func_of fs)
methods_kept n name fs places e = class_kept n (is_method n name) (method_asks n name) fs places e

pub free_copied : (name : List ℕ) (fs : List FuncDecl) (places : List ℕ) (r : Result (Vec ℕ Global) AllocError) → places ≡ places_where (is_free_of name) 0 fs
    → IfOk r (λ v. v.items ≡ places) → IfOk r (λ v. v.items ≡ places_from (is_free name) 0 (map func_of fs))
free_copied name fs places (Ok v) e h = h ∙ name_all name fs places e
free_copied name fs places (Err x) e h = tt

pub calls_copied : (n : ℕ) (fs : List FuncDecl) (places : List ℕ) (r : Result (Vec ℕ Global) AllocError) → places ≡ places_where (is_member_of n) 0 fs
    → IfOk r (λ v. v.items ≡ places) → IfOk r (λ v. v.items ≡ places_from (is_closure_call n) 0 (map func_of fs))
calls_copied n fs places (Ok v) e h = h ∙ class_all n fs places e
calls_copied n fs places (Err x) e h = tt
