-- How long types, symbols and texts are, counted without writing them: none is longer than the greatest object (profile).
use Rattle.std.specs.Prelude.{ℕ, ◌+◌, nat_lt, nat_le, Bool, true, false, List, [], ◌∷◌, length, Option, Some, None, Result, Ok, Err, if◌then◌else◌}
use Rattle.std.specs.Prelude.{slice_get}
use Rattle.elab_ctx.specs.cpp_types.Typ.{Typ, typ, Form, void, int, enum, null, ptr, ref, array, func, class, closure, tx_ex, Signature, signature, Typs, none}
use Rattle.elab_ctx.specs.cpp_types.Typ.{more}
use Rattle.elab_ctx.specs.cpp_types.Class.{Class, Function}
use Rattle.elab_ctx.specs.cpp_types.Spelling.{kind_spelling, name_of}
use Rattle.elab_ctx.specs.cpp_types.declared.classes.At.{At}
use Rattle.elab_ctx.specs.cpp_tree.declared.faults.ElabFault.{ElabFault}
use Rattle.elab_ctx.specs.cpp_tree.declared.faults.ElabFault.TheVariants.{Limit}
use Rattle.elab_ctx.specs.cpp_tree.declared.faults.LimitKind.TheVariants.{Size}
use Rattle.elab_ctx.specs.cpp_layout.declared.extents.TheConstants.{GREATEST_SIZE}

-- the decimal digits of a number below 10,000,000, as offsets and bounds are
abbrev pub digit_count : ℕ → ℕ
digit_count n = if nat_lt n 10 then 1 else (if nat_lt n 100 then 2 else
    (if nat_lt n 1000 then 3 else (if nat_lt n 10000 then 4 else (if nat_lt n 100000 then 5 else (if nat_lt n 1000000 then 6 else 7)))))

abbrev pub if_set : Bool → ℕ → ℕ
if_set true n = n
if_set false n = 0

-- `const ` and `volatile `
abbrev pub marks_length : Bool → Bool → ℕ
marks_length c v = if_set c 6 + if_set v 9

-- `lambda:SOURCE:OFFSET`
abbrev pub place_length : List Function → ℕ
place_length [] = 0
place_length (f ∷ fs) = 8 + digit_count f.at.source + digit_count f.at.offset

abbrev pub closure_length : Option Class → ℕ
closure_length (Some c) = place_length c.functions
closure_length None = 0

-- the bytes of the spelling of a type
abbrev mutual
  pub typ_length : List Class → Typ → ℕ
  typ_length classes (typ f c v) = marks_length c v + form_length classes f

  pub form_length : List Class → Form → ℕ
  form_length classes void = 4
  form_length classes (int k) = length (kind_spelling k)
  form_length classes (enum n s) = 5 + length n
  form_length classes null = 14
  form_length classes (ptr t) = pointer_length classes t
  form_length classes (ref t) = 1 + typ_length classes t
  form_length classes (array t n) = typ_length classes t + 2 + digit_count n
  form_length classes (func s) = signature_length classes s
  form_length classes (class n) = length (name_of (slice_get classes n))
  form_length classes (closure n) = closure_length (slice_get classes n)
  form_length classes (tx_ex t) = 19 + typ_length classes t

  -- a pointer to a function has the star in parentheses
  pub pointer_length : List Class → Typ → ℕ
  pointer_length classes (typ (func s) c v) = 3 + signature_length classes s
  pointer_length classes (typ f c v) = 1 + marks_length c v + form_length classes f

  pub signature_length : List Class → Signature → ℕ
  signature_length classes (signature ps r safe) = typ_length classes r + 2 + typs_length classes ps + if_set safe 17

  -- with a comma before each but the first
  pub typs_length : List Class → Typs → ℕ
  typs_length classes none = 0
  typs_length classes (more t none) = typ_length classes t
  typs_length classes (more t (more u us)) = typ_length classes t + 1 + typs_length classes (more u us)

abbrev pub sized : At → ℕ → Result Bool ElabFault
sized at n = if nat_le n GREATEST_SIZE then Ok true else Err (Limit at Size)

-- the type of a declaration
abbrev pub typ_sized : List Class → At → Typ → Result Bool ElabFault
typ_sized classes at t = sized at (typ_length classes t)

abbrev pub owner_length : List Class → Option ℕ → ℕ
owner_length classes (Some n) = length (name_of (slice_get classes n)) + 2
owner_length classes None = 0

-- the bytes of the symbol of a function
abbrev pub parameters_length : List Class → Signature → ℕ
parameters_length classes (signature ps r safe) = 2 + typs_length classes ps

abbrev pub symbol_length : List Class → Option ℕ → List ℕ → Signature → Bool → ℕ
symbol_length classes owner name sig is_const = owner_length classes owner + length name + parameters_length classes sig + if_set is_const 5
