-- Places in a list: of those that pass a test, and tables of such places.
use Rattle.std.specs.Prelude.{ℕ, zero, suc, Bool, not, ◌&&◌, ◌||◌, ◌==◌, ◌++◌, ◌-◌, List, [], ◌∷◌, length, take, Option, Some, None, is_some, if◌then◌else◌}
use Rattle.std.specs.Prelude.{slice_get, Vec, false}
use Rattle.std.specs.Global.{Global}
use Rattle.std.specs.Map.{lookup}
use Rattle.std.specs.Str.{bytes_eq}
use Rattle.elab_ctx.specs.declared.env.FuncDecl.{FuncDecl}
use Rattle.elab_ctx.specs.declared.places.ClassPlaces.{ClassPlaces}
use Rattle.elab_ctx.specs.declared.places.NamePlaces.{NamePlaces}

-- the places from `i` on of those that pass a test
abbrev pub places_where : {A : Type 0} → (A → Bool) → ℕ → List A → List ℕ
places_where test i [] = []
places_where test i (x ∷ xs) = if test x then i ∷ places_where test (suc i) xs else places_where test (suc i) xs

-- the first place from `i` on of one that passes a test
abbrev pub first_where : {A : Type 0} → (A → Bool) → ℕ → List A → Option ℕ
first_where test i [] = None
first_where test i (x ∷ xs) = if test x then Some i else first_where test (suc i) xs

-- what stands at a place passes a test
abbrev pub passes : {A : Type 0} → (A → Bool) → Option A → Bool
passes test None = false
passes test (Some x) = test x

-- the first of some places at which a test passes
abbrev pub first_among : {A : Type 0} → (A → Bool) → List A → List ℕ → Option ℕ
first_among test xs [] = None
first_among test xs (k ∷ ks) = if passes test (slice_get xs k) then Some k else first_among test xs ks

-- those of some places at which a test passes
abbrev pub kept_among : {A : Type 0} → (A → Bool) → List A → List ℕ → List ℕ
kept_among test xs [] = []
kept_among test xs (k ∷ ks) = if passes test (slice_get xs k) then k ∷ kept_among test xs ks else kept_among test xs ks

-- a test passes at one of some places
abbrev pub any_among : {A : Type 0} → (A → Bool) → List A → List ℕ → Bool
any_among test xs [] = false
any_among test xs (k ∷ ks) = passes test (slice_get xs k) || any_among test xs ks

-- a list in which one is changed
abbrev pub changed_at : {A : Type 0} → (A → A) → ℕ → List A → List A
changed_at g i [] = []
changed_at g zero (x ∷ xs) = g x ∷ xs
changed_at g (suc i) (x ∷ xs) = x ∷ changed_at g i xs

abbrev pub is_number : ℕ → Option ℕ → Bool
is_number n (Some m) = m == n
is_number n None = false

-- a function of a class
abbrev pub is_member_of : ℕ → FuncDecl → Bool
is_member_of n f = is_number n f.class

-- a function of no class that has a name
abbrev pub is_free_of : List ℕ → FuncDecl → Bool
is_free_of name f = bytes_eq name f.rec.name.items && not (is_some f.class)

-- Tables of places

abbrev pub listed : Option (Vec ℕ Global) → List ℕ
listed None = []
listed (Some v) = v.items

-- the places of a class
abbrev pub places_in : ClassPlaces → ℕ → List ℕ
places_in t n = listed (slice_get t.lists.items n)

-- the places of a name
abbrev pub places_called : NamePlaces → List ℕ → List ℕ
places_called t name = listed (lookup (λ key. bytes_eq name key.items) t.lists.entries)

-- a name is in the table
abbrev pub is_listed : NamePlaces → List ℕ → Bool
is_listed t name = is_some (lookup (λ key. bytes_eq name key.items) t.lists.entries)

abbrev pub one_more : Bool → List ℕ → ℕ → List ℕ
one_more b is i = if b then is ++ i ∷ [] else is

abbrev pub one_less : Bool → List ℕ → List ℕ
one_less b is = if b then take (length is - 1) is else is
