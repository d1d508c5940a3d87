-- The function that is declared again is among those of its class, or among those of its name at file scope.
use Rattle.std.proofs.Common.{◌≡◌, ◌∙◌, ◌&&◌, ◌==◌, not, ℕ, Bool, true, false, List, map, Option, Some, None, is_some, refl, sym, ap, subst, true≢false}
use Rattle.std.proofs.lemmas.Bool.{and_from}
use Rattle.std.specs.Str.{bytes_eq}
use Rattle.elab_init.specs.elab_ctx.Ctx.{Func, func_of}
use Rattle.elab_init.specs.elab_ctx.declared.env.FuncDecl.{FuncDecl}
use Rattle.elab_init.specs.elab_ctx.Places.{places_where, first_among, any_among, is_member_of, is_free_of}
use Rattle.elab_init.specs.elab_rules.Initialising.{same_number, signature_parameters}
use Rattle.elab_init.specs.elab_rules.Names.{is_free, same_variable}
use Rattle.elab_init.specs.elab_rules.Functions.{Header, first_from, is_same_function}
use Rattle.elab_init.specs.elab_rules.Classes.{has_function}
use Rattle.elab_init.proofs.elab_rules.Found.{class_first, class_any, name_first, asks_first, asks_second}
use Rattle.class_members.specs.Parts.{is_named}

pub named_any : (n : ℕ) (name : List ℕ) (fs : List FuncDecl) (places : List ℕ) → places ≡ places_where (is_member_of n) 0 fs
    → any_among (λ (f : FuncDecl). is_named n name (func_of f)) fs places ≡ has_function n name (map func_of fs)
named_any n name fs places e = class_any n (is_named n name) (λ f h. asks_first (same_number n f.class) (bytes_eq f.declared.name name) h) fs places e

-- the name and the class of the function that is declared
same_name_class : (h : Header) (f : Func) → is_same_function h f ≡ true → (bytes_eq f.declared.name h.name && same_variable f.class h.class) ≡ true
same_name_class h f e = asks_first _ _ (asks_first _ _ (asks_first _ _ e))

own_class : (o : Option ℕ) (n : ℕ) → same_variable o (Some n) ≡ true → same_number n o ≡ true
own_class None n e = absurd (true≢false (sym e))
own_class (Some m) n e = e

no_class : (o : Option ℕ) → same_variable o None ≡ true → not (is_some o) ≡ true
no_class None e = refl
no_class (Some m) e = absurd (true≢false (sym e))

asks_class : (h : Header) (n : ℕ) → h.class ≡ Some n → (f : Func) → is_same_function h f ≡ true → same_number n f.class ≡ true
asks_class h n is f e = own_class f.class n (ap (same_variable f.class) (sym is) ∙ asks_second (bytes_eq f.declared.name h.name) (same_variable f.class h.class)
    (same_name_class h f e))

asks_name : (h : Header) → h.class ≡ None → (f : Func) → is_same_function h f ≡ true → is_free h.name f ≡ true
asks_name h is f e =
    let both = same_name_class h f e in
    and_from (bytes_eq f.declared.name h.name) (not (is_some f.class)) (asks_first (bytes_eq f.declared.name h.name) (same_variable f.class h.class) both)
    (no_class f.class (ap (same_variable f.class) (sym is) ∙ asks_second (bytes_eq f.declared.name h.name) (same_variable f.class h.class) both))

pub member_like : (h : Header) (n : ℕ) → h.class ≡ Some n → (fs : List FuncDecl) (places : List ℕ) → places ≡ places_where (is_member_of n) 0 fs
    → first_among (λ (f : FuncDecl). is_same_function h (func_of f)) fs places ≡ first_from (is_same_function h) 0 (map func_of fs)
member_like h n is fs places e = class_first n (is_same_function h) (asks_class h n is) fs places e

pub free_like : (h : Header) → h.class ≡ None → (fs : List FuncDecl) (places : List ℕ) → places ≡ places_where (is_free_of h.name) 0 fs
    → first_among (λ (f : FuncDecl). is_same_function h (func_of f)) fs places ≡ first_from (is_same_function h) 0 (map func_of fs)
free_like h is fs places e = name_first h.name (is_same_function h) (asks_name h is) fs places e
