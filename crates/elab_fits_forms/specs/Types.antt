-- Types that expressions and declarations have.
use Rattle.std.specs.Prelude.{◌≡◌, ℕ, Bool, true, false, not, ◌&&◌, List, [], ◌∷◌, is_some, slice_get}
use Rattle.elab_rules.specs.cpp_types.Typ.{Typ, typ, Form, void, int, enum, ptr, ref, array, func, class, closure, tx_ex, Signature, signature, Typs, none, more}
use Rattle.elab_rules.specs.cpp_types.Class.{Class, completion_of}
use Rattle.elab_rules.specs.cpp_tree.Typing.{passes, form_in}
use Rattle.elab_rules.specs.cpp_tree.Parts.{size_in}
use Rattle.elab_fits.specs.Objects.{is_ready, is_closure}

abbrev pub is_empty : List ℕ → Bool
is_empty [] = true
is_empty (b ∷ bs) = false

-- the class of a lambda has no name
abbrev pub is_lambda : List Class → ℕ → Bool
is_lambda classes n = passes (λ (k : Class). is_empty k.name) (slice_get classes n)

-- the value in a `std::tx_exception`: an integer, an enum or an object of a complete class, without qualifiers
abbrev pub is_exception_value : List Class → Typ → Bool
is_exception_value classes (typ (int k) false false) = true
is_exception_value classes (typ (enum n s) false false) = true
is_exception_value classes (typ (class n) false false) = is_some (completion_of classes n) && not (is_lambda classes n)
is_exception_value classes t = false

-- Behind a pointer or a reference and in an array stand neither references nor `void` (profile); functions give no arrays and no functions; and a type
-- says which classes are lambdas'
abbrev mutual
  pub is_sound : List Class → Typ → Bool
  is_sound classes (typ f c v) = is_sound_form classes f

  pub is_sound_form : List Class → Form → Bool
  is_sound_form classes (ptr t) = is_target classes t
  is_sound_form classes (ref t) = is_target classes t
  is_sound_form classes (array t n) = is_target classes t
  is_sound_form classes (func s) = is_sound_signature classes s
  is_sound_form classes (class n) = not (is_lambda classes n)
  is_sound_form classes (closure n) = is_lambda classes n
  is_sound_form classes (tx_ex t) = is_exception_value classes t
  is_sound_form classes f = true

  pub is_target : List Class → Typ → Bool
  is_target classes (typ void c v) = false
  is_target classes (typ (ref t) c v) = false
  is_target classes (typ f c v) = is_sound_form classes f

  pub is_sound_signature : List Class → Signature → Bool
  is_sound_signature classes (signature ps r safe) = are_parameters classes ps && is_result classes r

  pub is_result : List Class → Typ → Bool
  is_result classes (typ (array t n) c v) = false
  is_result classes (typ (func s) c v) = false
  is_result classes (typ f c v) = is_sound_form classes f

  -- a parameter has no array, no function and no `void`
  pub are_parameters : List Class → Typs → Bool
  are_parameters classes none = true
  are_parameters classes (more t ts) = is_parameter classes t && are_parameters classes ts

  pub is_parameter : List Class → Typ → Bool
  is_parameter classes (typ void c v) = false
  is_parameter classes (typ (array t n) c v) = false
  is_parameter classes (typ (func s) c v) = false
  is_parameter classes (typ f c v) = is_sound_form classes f

-- what is declared with a type is an object, or a reference to what an expression can name
abbrev pub is_declared : List Class → Typ → Bool
is_declared classes (typ void c v) = false
is_declared classes (typ f c v) = is_sound_form classes f

-- objects of the type can be made: it has a size, its arrays have elements, and only what a lambda captured is a reference
pub record IsWhole (classes : List Class) (t : Typ) : Type 0 where
  pub sized : is_some (size_in classes t) ≡ true
  pub ready : is_ready classes (is_closure (form_in t)) t ≡ true
