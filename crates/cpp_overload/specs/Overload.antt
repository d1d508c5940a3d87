-- The candidate that a call means (C++14 13.3).
use Rattle.std.specs.Prelude.{◌≡◌, ◌<◌, Bool, true, false, ℕ, zero, suc, List, length, slice_get, Option, Some, None, is_some, option_map, Result, Ok, Err}
use Rattle.cpp_types.specs.Typ.{Typ, Typs, none, more, Signature, signature, typ_of, signature_of}
use Rattle.cpp_types.specs.Class.{Class}
use Rattle.cpp_types.specs.Conversion.{conversion_of, better_conversion}
use Rattle.cpp_types.specs.declared.ranks.Cat.{Cat}
use Rattle.cpp_types.specs.declared.ranks.Cat.TheVariants.{Lvalue}
use Rattle.cpp_types.specs.declared.ranks.Conversion.{Conversion}
use Rattle.cpp_overload.specs.declared.calls.Cand.{Cand}
use Rattle.cpp_overload.specs.declared.calls.Arg.{Arg}
use Rattle.cpp_overload.specs.declared.calls.NoBest.{NoBest}
use Rattle.cpp_overload.specs.declared.calls.NoBest.TheVariants.{NoViable, Ambiguous}

-- Trees

pub record Candidate : Type 0 where
  pub signature : Signature
  pub this : Option Typ

pub record Argument : Type 0 where
  pub typ : Typ
  pub cat : Cat
  pub literal : Bool

abbrev pub candidate_of : Cand → Candidate
candidate_of c = record { signature = signature_of c.ty; this = option_map typ_of c.this }

abbrev pub argument_of : Arg → Argument
argument_of a = record { typ = typ_of a.ty; cat = a.cat; literal = a.null_constant }

-- Parameters

abbrev pub typ_at : Typs → ℕ → Option Typ
typ_at none i = None
typ_at (more t ts) zero = Some t
typ_at (more t ts) (suc i) = typ_at ts i

abbrev pub count_of : Typs → ℕ
count_of none = 0
count_of (more t ts) = suc (count_of ts)

abbrev pub parameters : Signature → Typs
parameters (signature ps r safe) = ps

-- the object's parameter first, where there is one
abbrev pub with_object : Option Typ → Typs → Typs
with_object None ts = ts
with_object (Some t) ts = more t ts

abbrev pub parameters_of : Candidate → Typs
parameters_of c = with_object c.this (parameters c.signature)

-- Conversions

abbrev pub object_category : Option Typ → Cat → Cat
object_category None cat = cat
object_category (Some t) cat = Lvalue

-- an object that is a prvalue may be bound too (C++14 13.3.1)
abbrev pub category_at : Option Typ → ℕ → Cat → Cat
category_at this zero cat = object_category this cat
category_at this (suc i) cat = cat

abbrev pub converted : List Class → Option Typ → ℕ → Option Argument → Option Typ → Option Conversion
converted classes this i (Some a) (Some t) = conversion_of classes a.typ (category_at this i a.cat) a.literal t
converted classes this i (Some a) None = None
converted classes this i None t = None

-- the conversion of an argument to the parameter at its index
abbrev pub conversion_at : List Class → List Argument → Candidate → ℕ → Option Conversion
conversion_at classes args c i = converted classes c.this i (slice_get args i) (typ_at (parameters_of c) i)

abbrev pub better_of : Option Conversion → Option Typ → Option Conversion → Option Typ → Bool
better_of (Some x) (Some s) (Some y) (Some t) = better_conversion x s y t
better_of x s y t = false

-- the argument's conversion for the first candidate is better than for the second
abbrev pub better_at : List Class → List Argument → Candidate → Candidate → ℕ → Bool
better_at classes args p q i = better_of (conversion_at classes args p i) (typ_at (parameters_of p) i) (conversion_at classes args q i)
    (typ_at (parameters_of q) i)

-- as many parameters as arguments, and a conversion for each
pub record IsViable (classes : List Class) (args : List Argument) (p : Candidate) : Type 0 where
  pub count : count_of (parameters_of p) ≡ length args
  pub each : (i : ℕ) → i < length args → is_some (conversion_at classes args p i) ≡ true

-- no argument's conversion is worse, and one is better
pub record IsBetter (classes : List Class) (args : List Argument) (p q : Candidate) : Type 0 where
  pub no_worse : (i : ℕ) → i < length args → better_at classes args q p i ≡ false
  pub index : ℕ
  pub within : index < length args
  pub some_better : better_at classes args p q index ≡ true

-- The answers of a call

pub record IsViableAt (classes : List Class) (cands : List Candidate) (args : List Argument) (i : ℕ) (p : Candidate) : Type 0 where
  pub there : slice_get cands i ≡ Some p
  pub viable : IsViable classes args p

-- `p`, the candidate `i`, is better than all other viable candidates
pub record BeatsAll (classes : List Class) (cands : List Candidate) (args : List Argument) (i : ℕ) (p : Candidate) : Type 0 where
  pub each : (j : ℕ) (q : Candidate) → (j ≡ i → ⊥) → IsViableAt classes cands args j q → IsBetter classes args p q

pub record IsBest (classes : List Class) (cands : List Candidate) (args : List Argument) (i : ℕ) : Type 0 where
  pub candidate : Candidate
  pub here : IsViableAt classes cands args i candidate
  pub beats : BeatsAll classes cands args i candidate

pub record NoneViable (classes : List Class) (cands : List Candidate) (args : List Argument) : Type 0 where
  pub each : (j : ℕ) (q : Candidate) → IsViableAt classes cands args j q → ⊥

-- the lowest viable candidate
pub record IsFirst (classes : List Class) (cands : List Candidate) (args : List Argument) (i : ℕ) (p : Candidate) : Type 0 where
  pub here : IsViableAt classes cands args i p
  pub lowest : (j : ℕ) (q : Candidate) → j < i → IsViableAt classes cands args j q → ⊥

-- the lowest other viable candidate that `p`, the candidate `i`, is not better than
pub record IsUnbeaten (classes : List Class) (cands : List Candidate) (args : List Argument) (i : ℕ) (p : Candidate) (j : ℕ) : Type 0 where
  pub candidate : Candidate
  pub here : IsViableAt classes cands args j candidate
  pub other : j ≡ i → ⊥
  pub unbeaten : IsBetter classes args p candidate → ⊥
  pub lowest : (k : ℕ) (q : Candidate) → k < j → (k ≡ i → ⊥) → IsViableAt classes cands args k q → IsBetter classes args p q

-- the lowest viable candidate has this index
pub record HasFirst (classes : List Class) (cands : List Candidate) (args : List Argument) (i : ℕ) : Type 0 where
  pub candidate : Candidate
  pub first : IsFirst classes cands args i candidate

-- of the candidates below `end`, only the viable one of index `i` may be the best
pub record IsOnlyHope (classes : List Class) (cands : List Candidate) (args : List Argument) (end i : ℕ) : Type 0 where
  pub candidate : Candidate
  pub here : IsViableAt classes cands args i candidate
  pub others : (j : ℕ) → j < end → (j ≡ i → ⊥) → IsBest classes cands args j → ⊥

-- two candidates that show that none is best
pub record IsAmbiguous (classes : List Class) (cands : List Candidate) (args : List Argument) (first second : ℕ) : Type 0 where
  pub none_best : (i : ℕ) → IsBest classes cands args i → ⊥
  pub candidate : Candidate
  pub lowest : IsFirst classes cands args first candidate
  pub unbeaten : IsUnbeaten classes cands args first candidate second

-- what a call means
abbrev pub IsChosen : List Class → List Candidate → List Argument → Result ℕ NoBest → Type 0
IsChosen classes cands args (Ok i) = IsBest classes cands args i
IsChosen classes cands args (Err NoViable) = NoneViable classes cands args
IsChosen classes cands args (Err (Ambiguous first second)) = IsAmbiguous classes cands args first second
