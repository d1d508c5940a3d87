-- Where names and classes stand.
use Rattle.std.proofs.Common.{◌≡◌, ℕ, ◌+◌, ◌*◌, ◌<◌, ◌≤◌, arith, Bool, true, false, cond, nat_eq, List, [], ◌∷◌, ◌++◌, length, map, get_or, drop, Option, Some}
use Rattle.std.proofs.Common.{None, refl, sym, ap, ◌∙◌, ◌||◌}
use Rattle.std.specs.List.{flat_map, list_all, list_any}
use Rattle.std.proofs.lemmas.List.{drop_more, drop_all, length-append}
use Rattle.tx_code.specs.declared.object.ObjMember.{ObjMember}
use Rattle.tx_code.specs.Objects.{ClassView, ObjectView}
use Rattle.tx_code.specs.WellFormed.{is_source, all_used}
use Rattle.object_bytes.specs.Spelling.{u32_bytes, list_bytes, name_bytes, member_bytes, class_bytes, global_bytes, func_bytes, source_bytes, source_number}
use Rattle.object_bytes.specs.Spelling.{object_bytes}
use Rattle.object_bytes.specs.Objects.{unused_from, base_is_wrong, wrong_base_from, first_name, first_class}

pub dropped : {A B : Type 0} (f : A → B) (xs : List A) (i : ℕ) (x : A) → i < length xs → x ≡ get_or xs i x → map f (drop i xs) ≡ f x ∷ map f (drop (i + 1) xs)
dropped {A = A} f xs i x lt e = ap (map f) (drop_more xs i x lt ∙ ap (λ (y : A). y ∷ drop (i + 1) xs) (sym e))

pub all_dropped : {A B : Type 0} (f : A → B) (xs : List A) (i : ℕ) → length xs ≤ i → map f (drop i xs) ≡ []
all_dropped f xs i le = ap (map f) (drop_all i xs le)

length_u32 : (n : ℕ) → length (u32_bytes n) ≡ 4
unfolding u32_bytes
length_u32 n = refl

pub length_name : (name : List ℕ) → length (name_bytes name) ≡ 4 + length name
length_name name = length-append (u32_bytes (length name)) name ∙ ap (λ (n : ℕ). n + length name) (length_u32 (length name))

length_members : (ms : List ObjMember) → length (flat_map member_bytes ms) ≡ 12 * length ms
length_members [] = refl
length_members (m ∷ ms) = omega (
  arith,
  length-append (member_bytes m) (flat_map member_bytes ms),
  length-append (u32_bytes m.name)
      (u32_bytes m.offset ++ u32_bytes m.ty),
  length-append (u32_bytes m.offset) (u32_bytes m.ty),
  length_u32 m.name,
  length_u32 m.offset,
  length_u32 m.ty,
  length_members ms,
)

length_slots : (ss : List ℕ) → length (flat_map u32_bytes ss) ≡ 4 * length ss
length_slots [] = refl
length_slots (s ∷ ss) = omega (arith, length-append (u32_bytes s) (flat_map u32_bytes ss), length_u32 s, length_slots ss)

length_list : {A : Type 0} (item : A → List ℕ) (xs : List A) → length (list_bytes item xs) ≡ 4 + length (flat_map item xs)
length_list item xs = length-append (u32_bytes (length xs)) (flat_map item xs) ∙ ap (λ (n : ℕ). n + length (flat_map item xs)) (length_u32 (length xs))

behind_u32 : (n : ℕ) (rest : List ℕ) → length (u32_bytes n ++ rest) ≡ 4 + length rest
behind_u32 n rest = length-append (u32_bytes n) rest ∙ ap (λ (k : ℕ). k + length rest) (length_u32 n)

pub length_class : (c : ClassView) → length (class_bytes c) ≡ 32 + 12 * length c.members + 4 * length c.slots
length_class c =
    let slots = length_list u32_bytes c.slots in
    let members = length-append (list_bytes member_bytes c.members) (list_bytes u32_bytes c.slots) in
    let m = length_list member_bytes c.members in
    let rest : List ℕ = list_bytes member_bytes c.members ++ list_bytes u32_bytes c.slots in
    let e6 = behind_u32 c.text rest in
    let e5 = behind_u32 c.pointer (u32_bytes c.text ++ rest) in
    let e4 = behind_u32 c.base (u32_bytes c.pointer ++ (u32_bytes c.text ++ rest)) in
    let e3 = behind_u32 c.align (u32_bytes c.base ++ (u32_bytes c.pointer ++ (u32_bytes c.text ++ rest))) in
    let e2 = behind_u32 c.size (u32_bytes c.align ++ (u32_bytes c.base ++ (u32_bytes c.pointer ++ (u32_bytes c.text ++ rest)))) in
    let e1 = behind_u32 c.name (u32_bytes c.size ++ (u32_bytes c.align ++ (u32_bytes c.base ++ (u32_bytes c.pointer ++ (u32_bytes c.text ++ rest))))) in
    omega (arith, length_members c.members, length_slots c.slots)

-- the first item of those that are left
pub size_more : {A : Type 0} (item : A → List ℕ) (xs left : List A) (x : A) (size total : ℕ) → xs ≡ x ∷ left → size + length (flat_map item xs) ≡ total
    → size + length (item x) + length (flat_map item left) ≡ total
size_more item xs left x size total e h =
    let a : length (flat_map item xs) ≡ length (item x) + length (flat_map item left) = ap (λ z. length (flat_map item z)) e
    ∙ length-append (item x) (flat_map item left) in
    omega arith

pub size_fits : {A : Type 0} (item : A → List ℕ) (xs left : List A) (x : A) (size total : ℕ) → xs ≡ x ∷ left → size + length (flat_map item xs) ≡ total
    → size + length (item x) ≤ total
size_fits item xs left x size total e h = omega (arith, size_more item xs left x size total e h)

pub size_all : {A : Type 0} (item : A → List ℕ) (xs : List A) (size total : ℕ) → xs ≡ [] → size + length (flat_map item xs) ≡ total → size ≡ total
size_all item xs size total e h =
    let a : length (flat_map item xs) ≡ 0 = ap (λ z. length (flat_map item z)) e in
    omega arith

-- ---- an object

pub record Parts (o : ObjectView) : Type 0 where
  pub names : first_name + length (flat_map name_bytes o.names) ≤ length (object_bytes o)
  pub classes : first_class o + length (flat_map class_bytes o.classes) ≤ length (object_bytes o)

pub parts_of : (o : ObjectView) → Parts o
unfolding object_bytes first_class
parts_of o =
    let names = list_bytes name_bytes o.names in
    let source = source_bytes o.version o.names o.source in
    let classes = list_bytes class_bytes o.classes in
    let others : List ℕ = list_bytes global_bytes o.globals ++ list_bytes (func_bytes o.version) o.funcs in
    let e1 = behind_u32 o.version (names ++ (source ++ (classes ++ others))) in
    let e2 = length-append names (source ++ (classes ++ others)) in
    let e3 = length-append source (classes ++ others) in
    let e4 = length-append classes others in
    record {
      names = omega (arith, length_list name_bytes o.names);
      classes = omega (arith, length_list name_bytes o.names, length_list class_bytes o.classes);
    }

by_test : (b : Bool) (n : ℕ) → length (cond b (u32_bytes n) []) ≡ cond b 4 0
by_test true n = length_u32 n
by_test false n = refl

pub source_size : (version : ℕ) (names : List (List ℕ)) (source : Option (List ℕ)) → length (source_bytes version names source) ≡ cond (nat_eq version 2) 4 0
source_size version names source = by_test (nat_eq version 2) (source_number names source)

-- ---- one more name, one more base

pub unused_more : (source : Option (List ℕ)) (used : List ℕ) (i at : ℕ) (names left : List (List ℕ)) (name : List ℕ) (total : Option ℕ) → names ≡ name ∷ left
    → (list_any (nat_eq i) used || is_source source name) ≡ true
    → unused_from source used i at names ≡ total → unused_from source used (i + 1) (at + length (name_bytes name)) left ≡ total
unused_more source used i at names left name total e h so_far =
    let one : unused_from source used i at names ≡ unused_from source used (i + 1) (at + length (name_bytes name)) left = ap (unused_from source used i at) e
    ∙ rw h refl in
    sym one ∙ so_far

pub unused_here : (source : Option (List ℕ)) (used : List ℕ) (i at : ℕ) (names left : List (List ℕ)) (name : List ℕ) (total : Option ℕ) → names ≡ name ∷ left
    → (list_any (nat_eq i) used || is_source source name) ≡ false
    → unused_from source used i at names ≡ total → Some at ≡ total
unused_here source used i at names left name total e h so_far =
    let one : unused_from source used i at names ≡ Some at = ap (unused_from source used i at) e ∙ rw h refl in
    sym one ∙ so_far

pub unused_none : (source : Option (List ℕ)) (used : List ℕ) (i at : ℕ) (names : List (List ℕ)) (total : Option ℕ) → names ≡ []
    → unused_from source used i at names ≡ total → None ≡ total
unused_none source used i at names total e so_far = sym (ap (unused_from source used i at) e) ∙ so_far

pub base_more : (cs : List ClassView) (at : ℕ) (rest left : List ClassView) (c : ClassView) (total : Option ℕ) → rest ≡ c ∷ left
    → base_is_wrong cs c.base ≡ false → wrong_base_from cs at rest ≡ total → wrong_base_from cs (at + length (class_bytes c)) left ≡ total
base_more cs at rest left c total e h so_far =
    let one : wrong_base_from cs at rest ≡ wrong_base_from cs (at + length (class_bytes c)) left = ap (wrong_base_from cs at) e ∙ rw h refl in
    sym one ∙ so_far

pub base_here : (cs : List ClassView) (at : ℕ) (rest left : List ClassView) (c : ClassView) (total : Option ℕ) → rest ≡ c ∷ left
    → base_is_wrong cs c.base ≡ true → wrong_base_from cs at rest ≡ total → Some (at + 12) ≡ total
base_here cs at rest left c total e h so_far =
    let one : wrong_base_from cs at rest ≡ Some (at + 12) = ap (wrong_base_from cs at) e ∙ rw h refl in
    sym one ∙ so_far

pub base_none : (cs : List ClassView) (at : ℕ) (rest : List ClassView) (total : Option ℕ) → rest ≡ [] → wrong_base_from cs at rest ≡ total → None ≡ total
base_none cs at rest total e so_far = sym (ap (wrong_base_from cs at) e) ∙ so_far

pub used_more : (source : Option (List ℕ)) (used : List ℕ) (i : ℕ) (names left : List (List ℕ)) (name : List ℕ) (total : Bool) → names ≡ name ∷ left
    → (list_any (nat_eq i) used || is_source source name) ≡ true
    → all_used source used i names ≡ total → all_used source used (i + 1) left ≡ total
used_more source used i names left name total e h so_far =
    let one : all_used source used i names ≡ all_used source used (i + 1) left = ap (all_used source used i) e ∙ rw h refl in
    sym one ∙ so_far

pub used_here : (source : Option (List ℕ)) (used : List ℕ) (i : ℕ) (names left : List (List ℕ)) (name : List ℕ) (total : Bool) → names ≡ name ∷ left
    → (list_any (nat_eq i) used || is_source source name) ≡ false
    → all_used source used i names ≡ total → false ≡ total
used_here source used i names left name total e h so_far =
    let one : all_used source used i names ≡ false = ap (all_used source used i) e ∙ rw h refl in
    sym one ∙ so_far

pub used_all : (source : Option (List ℕ)) (used : List ℕ) (i : ℕ) (names : List (List ℕ)) (total : Bool) → names ≡ [] → all_used source used i names ≡ total
    → true ≡ total
used_all source used i names total e so_far = sym (ap (all_used source used i) e) ∙ so_far

pub all_more : {A : Type 0} (p : A → Bool) (xs left : List A) (x : A) (total : Bool) → xs ≡ x ∷ left → p x ≡ true → list_all p xs ≡ total
    → list_all p left ≡ total
all_more p xs left x total e h so_far =
    let one : list_all p xs ≡ list_all p left = ap (list_all p) e ∙ rw h refl in
    sym one ∙ so_far

pub all_not : {A : Type 0} (p : A → Bool) (xs left : List A) (x : A) (total : Bool) → xs ≡ x ∷ left → p x ≡ false → list_all p xs ≡ total → false ≡ total
all_not p xs left x total e h so_far =
    let one : list_all p xs ≡ false = ap (list_all p) e ∙ rw h refl in
    sym one ∙ so_far

pub all_of_none : {A : Type 0} (p : A → Bool) (xs : List A) (total : Bool) → xs ≡ [] → list_all p xs ≡ total → true ≡ total
all_of_none p xs total e so_far = sym (ap (list_all p) e) ∙ so_far
