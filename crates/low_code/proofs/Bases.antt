-- A walk up the bases of a class.
use Rattle.std.proofs.Common.{◌≡◌, ◌∙◌, true, false, ◌||◌, ℕ, zero, suc, List, ap, refl}
use Rattle.std.specs.Prelude.{Option, Some, None}
use Rattle.cpp_tree.specs.cpp_types.Equal.{name_eq}
use Rattle.cpp_tree.specs.cpp_types.Class.{Class}
use Rattle.low_code.specs.Caught.{class_at, has_name}

-- no class has no name
pub has_none : (k : ℕ) (classes : List Class) (name : List ℕ) → has_name k classes name None ≡ false
has_none zero classes name = refl
has_none (suc k) classes name = has_none k classes name

pub has_here : (k : ℕ) (classes : List Class) (name : List ℕ) (c : Class) → name_eq c.name name ≡ true → has_name k classes name (Some c) ≡ true
has_here zero classes name c h = h
has_here (suc k) classes name c h = ap (λ v. v || has_name k classes name (class_at classes c.base)) h

pub has_next : (k : ℕ) (classes : List Class) (name : List ℕ) (c : Class) (base : Option Class) → name_eq c.name name ≡ false → class_at classes c.base ≡ base
    → has_name (suc k) classes name (Some c) ≡ has_name k classes name base
has_next k classes name c base h e =
    ap (λ v. v || has_name k classes name (class_at classes c.base)) h ∙ ap (has_name k classes name) e
