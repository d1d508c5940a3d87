-- Which bytes spell which object, and the first wrong field of bytes that spell none.
use Rattle.std.specs.Prelude.{Bool, true, false, ℕ, zero, suc, ◌+◌, ◌-◌, List, [], ◌∷◌, length, Option, Some, None, Result, Ok, Err, not, ◌&&◌, ◌||◌, nat_eq}
use Rattle.std.specs.Prelude.{is_some, slice_get, if◌then◌else◌}
use Rattle.std.specs.List.{list_any, list_all, flat_map}
use Rattle.std.specs.Option.{option_map_or}
use Rattle.std.specs.Str.{bytes_eq}
use Rattle.tx_code.specs.Objects.{ClassView, GlobalView, FuncView, ObjectView}
use Rattle.tx_code.specs.WellFormed.{is_source, named_in, all_used, class_named, bases_fit}
use Rattle.object_bytes.specs.Spelling.{magic, name_bytes, class_bytes, source_bytes}
use Rattle.object_bytes.specs.Decoder.{Decoder, done, ◌>>=◌, such_that, u32, raw, list}
use Rattle.object_bytes.specs.Fields.{name_or_none, name_item, class, global, func}

-- ---- the fields of an object

abbrev pub source_of : List (List ℕ) → ℕ → Option (List ℕ)
source_of names zero = None
source_of names (suc i) = slice_get names i

unfoldable pub source_field : (version : ℕ) → List (List ℕ) → Decoder (Option (List ℕ))
source_field version names = if nat_eq version 2 then (name_or_none (length names) >>= λ i. done (source_of names i)) else done None

unfoldable pub entries : (version : ℕ) → List (List ℕ) → Option (List ℕ) → Decoder ObjectView
entries version names source = do
  classes ← list (λ (c : ClassView). c.name) (class (length names))
  globals ← list (λ (g : GlobalView). g.symbol) (global (length names))
  funcs ← list (λ (f : FuncView). f.symbol) (func version (length names))
  done (record { version = version; names = names; source = source; classes = classes; globals = globals; funcs = funcs })

unfoldable pub object : Decoder ObjectView
object = do
  head ← such_that (raw 4) (λ bytes. bytes_eq bytes magic)
  version ← such_that u32 (λ v. nat_eq v 1 || nat_eq v 2)
  names ← list (λ name. name) name_item
  source ← source_field version names
  entries version names source

-- ---- what is wrong only where all else is right

-- where the first name stands that is not used: the names from number i on, the first of which stands at `at`
abbrev pub unused_from : (source : Option (List ℕ)) → (used : List ℕ) → (i at : ℕ) → List (List ℕ) → Option ℕ
unused_from source used i at [] = None
unused_from source used i at (name ∷ names) = if list_any (nat_eq i) used
    || is_source source name then unused_from source used (i + 1) (at + length (name_bytes name)) names else Some at

-- a base that is no class of the list
abbrev pub is_unknown : List ClassView → (base : ℕ) → Bool
is_unknown cs zero = false
is_unknown cs (suc name) = not (is_some (class_named cs name))

-- the chain of bases goes on after so many steps
abbrev pub goes_on : List ClassView → (steps base : ℕ) → Bool
goes_on cs steps zero = false
goes_on cs zero (suc name) = true
goes_on cs (suc steps) (suc name) = option_map_or (λ c. goes_on cs steps c.base) (class_named cs name) false

-- no class of the list, or a chain that is a circle: it goes on for more steps than there are classes
abbrev pub base_is_wrong : List ClassView → ℕ → Bool
base_is_wrong cs base = is_unknown cs base || goes_on cs (length cs) base

-- where the first such base stands: the fourth field of a class, of which the first stands at `at`
abbrev pub wrong_base_from : List ClassView → (at : ℕ) → List ClassView → Option ℕ
wrong_base_from cs at [] = None
wrong_base_from cs at (c ∷ rest) = if base_is_wrong cs c.base then Some (at + 12) else wrong_base_from cs (at + length (class_bytes c)) rest

abbrev pub or_else : Option ℕ → Option ℕ → Option ℕ
or_else (Some at) other = Some at
or_else None other = other

-- the names stand behind the head, the version and their count
abbrev pub first_name : ℕ
first_name = 12

-- the classes stand behind the names, the source and their own count
unfoldable pub first_class : ObjectView → ℕ
first_class o = first_name + length (flat_map name_bytes o.names) + length (source_bytes o.version o.names o.source) + 4

-- where the first of those fields stands
unfoldable pub wrong_as_a_whole : ObjectView → Option ℕ
wrong_as_a_whole o = or_else (unused_from o.source (named_in o) 0 first_name o.names) (wrong_base_from o.classes (first_class o) o.classes)

-- nothing is wrong as a whole
abbrev pub is_whole : ObjectView → Bool
is_whole o = all_used o.source (named_in o) 0 o.names && list_all (bases_fit o.classes) o.classes

abbrev pub unless_wrong : ObjectView → Option ℕ → Result ObjectView ℕ
unless_wrong o None = Ok o
unless_wrong o (Some at) = Err at

-- nothing follows
abbrev pub to_the_end : (size : ℕ) → Result (ObjectView × List ℕ) ℕ → Result ObjectView ℕ
to_the_end size (Err left) = Err (size - left)
to_the_end size (Ok x) = if nat_eq (length x.1) 0 then unless_wrong x.0 (wrong_as_a_whole x.0) else Err (size - length x.1)

-- The object that the bytes spell, or where the first byte of the first wrong field stands: at their end where they end too
-- early.
unfoldable pub decoded : List ℕ → Result ObjectView ℕ
decoded bytes = to_the_end (length bytes) (object bytes)
