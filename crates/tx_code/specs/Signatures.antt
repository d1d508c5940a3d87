-- How many words a function takes and hands back, which the spelling of its type tells: `R(A,B)`, `R(this,A)` of a member
-- function, of a constructor or destructor with `void` for R, and ` transaction_safe` behind it where it is safe.
use Rattle.std.specs.Prelude.{Bool, true, false, ℕ, zero, suc, List, [], ◌∷◌, drop, length, Option, Some, None, not, ◌&&◌, ◌||◌, nat_eq, nat_le, codes}
use Rattle.std.specs.Prelude.{if◌then◌else◌}
use Rattle.std.specs.List.{list_all, list_any, starts_with}
use Rattle.std.specs.Option.{option_map_or}
use Rattle.std.specs.Str.{bytes_eq}

-- ---- a group in parentheses at the end of a spelling

-- what stands before the group and what stands in it
pub record Parts : Type 0 where
  pub before : List ℕ
  pub inside : List ℕ

-- what is known of a spelling's end: it is not in a group, it is in the group and so many parentheses within are open, or the group is whole
pub data Ending : Type 0 where
  Bare : Ending
  Open : (depth : ℕ) → (inside : List ℕ) → Ending
  Whole : (before inside : List ℕ) → Ending

-- with one more byte in front; 40 is `(` and 41 is `)`
abbrev pub deeper : ℕ → ℕ → List ℕ → Ending
deeper c zero inside = if nat_eq c 40 then Whole [] inside else Open (if nat_eq c 41 then 1 else 0) (c ∷ inside)
deeper c (suc depth) inside = Open (if nat_eq c 40 then depth else (if nat_eq c 41 then suc (suc depth) else suc depth)) (c ∷ inside)

abbrev pub longer : ℕ → Ending → Bool → Ending
longer c Bare true = if nat_eq c 41 then Open 0 [] else Bare
longer c Bare false = Bare
longer c (Open depth inside) last = deeper c depth inside
longer c (Whole before inside) last = Whole (c ∷ before) inside

abbrev pub is_empty : List ℕ → Bool
is_empty [] = true
is_empty (c ∷ cs) = false

abbrev pub ending : List ℕ → Ending
ending [] = Bare
ending (c ∷ cs) = longer c (ending cs) (is_empty cs)

-- the group of a pointer to a function, `(*)`; 42 is `*`
abbrev pub is_star : List ℕ → Bool
is_star [] = false
is_star (c ∷ cs) = nat_eq c 42

abbrev pub star_at : Ending → Bool
star_at (Whole before inside) = is_star inside
star_at Bare = false
star_at (Open depth inside) = false

-- what a result may end in: no group, or that of a pointer to a function, `R(*)(A,B)`
abbrev pub may_end : Ending → Bool
may_end Bare = true
may_end (Open depth inside) = false
may_end (Whole before inside) = not (is_star inside) && star_at (ending before)

abbrev pub is_result : List ℕ → Bool
is_result name = not (is_empty name) && may_end (ending name)

abbrev pub without_suffix : (suffix name : List ℕ) → List ℕ
without_suffix suffix [] = []
without_suffix suffix (c ∷ cs) = if bytes_eq suffix (c ∷ cs) then [] else c ∷ without_suffix suffix cs

abbrev pub function_ending : Ending → Option Parts
function_ending Bare = None
function_ending (Open depth inside) = None
function_ending (Whole before inside) = if is_result before then Some (record { before = before; inside = inside }) else None

-- a type's spelling, safety aside
abbrev pub without_safety : List ℕ → List ℕ
without_safety name = without_suffix (codes " transaction_safe") name

-- a function type's result and parameters, and none of another name
abbrev pub function_parts : List ℕ → Option Parts
function_parts name = function_ending (ending (without_safety name))

-- ---- results

abbrev pub without_prefix : (prefix name : List ℕ) → List ℕ
without_prefix prefix name = if starts_with nat_eq name prefix then drop (length prefix) name else name

abbrev pub without_cv : List ℕ → List ℕ
without_cv name = without_prefix (codes "volatile ") (without_prefix (codes "const ") name)

abbrev pub is_between : ℕ → ℕ → ℕ → Bool
is_between from to c = nat_le from c && nat_le c to

-- a letter, a digit or `_`
abbrev pub is_name_byte : ℕ → Bool
is_name_byte c = is_between 48 57 c || is_between 65 90 c || is_between 97 122 c || nat_eq c 95

abbrev pub scalar_names : List (List ℕ)
scalar_names = codes "void" ∷ codes "bool" ∷ codes "char" ∷ codes "short" ∷ codes "int" ∷ codes "long" ∷ []

abbrev pub is_class_name : List ℕ → Bool
is_class_name name = list_all is_name_byte name && not (list_any (bytes_eq name) scalar_names)

-- `lambda:SOURCE:OFFSET`; 58 is `:`
abbrev pub is_closure_name : List ℕ → Bool
is_closure_name name = starts_with nat_eq name (codes "lambda:") && list_all (λ c. is_name_byte c || nat_eq c 58) name

abbrev pub ends_in : ℕ → List ℕ → Bool
ends_in byte [] = false
ends_in byte (c ∷ []) = nat_eq c byte
ends_in byte (c ∷ d ∷ cs) = ends_in byte (d ∷ cs)

-- `std::tx_exception<T>`; 62 is `>`
abbrev pub is_tx_exception : List ℕ → Bool
is_tx_exception name = starts_with nat_eq name (codes "std::tx_exception<") && ends_in 62 name

abbrev pub is_class : List ℕ → Bool
is_class name = is_class_name name || is_closure_name name || is_tx_exception name

-- ---- words

-- commas outside of inner parentheses; 44 is `,`
abbrev pub commas : (depth : ℕ) → List ℕ → ℕ
commas depth [] = 0
commas zero (c ∷ cs) = if nat_eq c 44 then suc (commas zero cs) else (if nat_eq c 40 then commas 1 cs else commas zero cs)
commas (suc depth) (c ∷ cs) = if nat_eq c 40 then commas (suc (suc depth)) cs else (if nat_eq c 41 then commas depth cs else commas (suc depth) cs)

abbrev pub parameters : List ℕ → ℕ
parameters [] = 0
parameters (c ∷ cs) = suc (commas zero (c ∷ cs))

abbrev pub returns_class : Parts → Bool
returns_class p = is_class (without_cv p.before)

abbrev pub returns_void : Parts → Bool
returns_void p = bytes_eq (without_cv p.before) (codes "void")

-- one for the address of a class result, one for `this` and one for each parameter
abbrev pub words_taken : Parts → ℕ
words_taken p = if returns_class p then suc (parameters p.inside) else parameters p.inside

-- none where the result is `void` or a class
abbrev pub words_returned : Parts → ℕ
words_returned p = if returns_void p || returns_class p then 0 else 1

unfoldable pub takes_of : (ty : List ℕ) → ℕ
takes_of ty = option_map_or words_taken (function_parts ty) 0

unfoldable pub gives_of : (ty : List ℕ) → ℕ
gives_of ty = option_map_or words_returned (function_parts ty) 0
