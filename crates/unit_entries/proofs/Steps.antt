-- Steps along chains of bases, and entries part by part.
use Rattle.std.proofs.Common.{◌≡◌, ◌∙◌, ◌&&◌, ◌++◌, ℕ, zero, suc, ◌<◌, Bool, true, false, List, [], ◌∷◌, map, Option, Some, None, is_some, refl, ap, sym, cond}
use Rattle.std.proofs.Common.{arith, option_map}
use Rattle.std.specs.Option.{option_map_or}
use Rattle.cpp_tree.specs.cpp_types.Class.{Class}
use Rattle.cpp_tree.specs.cpp_layout.Layout.{has_class_pointer}
use Rattle.cpp_tree.specs.declared.program.TFunc.{TFunc}
use Rattle.cpp_tree.specs.declared.arena.TNodeId.{TNodeId}
use Rattle.cpp_tree.specs.Trees.{Tree}
use Rattle.cpp_tree.specs.Arena.{tree_at}
use Rattle.cpp_tree.specs.Units.{Definition, func_of}
use Rattle.link_faults.specs.Faults.{MemberRecord}
use Rattle.unit_entries.specs.Entries.{class_at, no_pointer, end_of_base, pointer_from, is_inline, definition_text, inline_text}

pub pointer_has : (most : ℕ) (classes : List Class) (n : ℕ) (base : Option ℕ) → 0 < most → true ≡ has_class_pointer classes n → (class_at classes n).base ≡ base
    → end_of_base classes base ≡ pointer_from most classes n
pointer_has zero classes n base l h b = absurd (omega arith)
pointer_has (suc most) classes n base l h b = ap (end_of_base classes) (sym b)
    ∙ ap (λ (z : Bool). cond z (end_of_base classes (class_at classes n).base)
    (option_map_or (λ (i : ℕ). pointer_from most classes i) (class_at classes n).base no_pointer)) h

pub pointer_below : (k most : ℕ) (classes : List Class) (n b : ℕ) → most ≡ suc k → false ≡ has_class_pointer classes n → (class_at classes n).base ≡ Some b
    → pointer_from k classes b ≡ pointer_from most classes n
pointer_below k most classes n b l h e = ap (λ (z : Option ℕ). option_map_or (λ (i : ℕ). pointer_from k classes i) z no_pointer) (sym e)
    ∙ ap (λ (z : Bool). cond z (end_of_base classes (class_at classes n).base)
    (option_map_or (λ (i : ℕ). pointer_from k classes i) (class_at classes n).base no_pointer)) h
    ∙ ap (λ (z : ℕ). pointer_from z classes n) (sym l)

abbrev pub member : List ℕ → ℕ → List ℕ → MemberRecord
member n o t = record { name = n; offset = o; ty = t }

pub member_is : (n m t u : List ℕ) (o p : ℕ) → n ≡ m → o ≡ p → t ≡ u → member n o t ≡ member m p u
member_is n m t u o p e f g = rw (e, f, g) refl

one_last : {A B C : Type 0} (f : A → B) (g : B → C) (xs : List A) (x : A) → map g (map f (xs ++ x ∷ [])) ≡ map g (map f xs) ++ g (f x) ∷ []
one_last f g [] x = refl
one_last f g (z ∷ zs) x = ap (λ ws. g (f z) ∷ ws) (one_last f g zs x)

-- an entry is added that a test asks for
pub one_more : {A B C : Type 0} (f : A → B) (g : B → C) (xs ys : List A) (x : A) (r : C) (b : Bool) → ys ≡ xs ++ x ∷ [] → g (f x) ≡ r → true ≡ b
    → map g (map f ys) ≡ map g (map f xs) ++ cond b (r ∷ []) []
one_more f g xs ys x r b e h t = ap (λ zs. map g (map f zs)) e ∙ one_last f g xs x ∙ ap (λ z. map g (map f xs) ++ z ∷ []) h
    ∙ ap (λ z. map g (map f xs) ++ cond z (r ∷ []) []) t

pub inline_is : (defs : List Definition) (trees : List Tree) (f : TFunc) (root : TNodeId) (text : List ℕ) → f.body ≡ Some root → true ≡ is_inline f.linkage
    → text ≡ definition_text defs (func_of trees f) → inline_text defs (func_of trees f) ≡ Some text
inline_is defs trees f root text b i t = ap (λ z. cond (is_some (option_map (tree_at trees) z) && is_inline f.linkage)
    (Some (definition_text defs (func_of trees f))) None) b ∙ ap (λ z. cond z (Some (definition_text defs (func_of trees f))) None) (sym i) ∙ ap Some (sym t)
