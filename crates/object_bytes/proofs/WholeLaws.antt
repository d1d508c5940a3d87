-- What is wrong only where all else is right: unused names, and bases.
use Rattle.std.proofs.Common.{◌≡◌, ℕ, zero, suc, ◌+◌, ◌-◌, nat_eq, Bool, true, false, cond, not, List, [], ◌∷◌, ◌++◌, length, Option, Some, None, Result, Ok}
use Rattle.std.proofs.Common.{Err, refl, sym, ap, subst, ◌∙◌, ◌&&◌, ◌||◌}
use Rattle.std.specs.List.{list_all, list_any}
use Rattle.std.specs.Option.{is_some, is_none, option_map_or}
use Rattle.std.proofs.lemmas.Bool.{and_parts, and_from, or_parts, or_from, not-true, not_from_false, eqb-true, false≢true}
use Rattle.std.proofs.lemmas.List.{append-nil, nil_from_length}
use Rattle.tx_code.specs.Objects.{ClassView, ObjectView}
use Rattle.tx_code.specs.WellFormed.{is_source, named_in, all_used, class_named, chain_ends, bases_fit, IsObject}
use Rattle.object_bytes.specs.Spelling.{name_bytes, class_bytes, object_bytes, is_wide, Spells}
use Rattle.object_bytes.specs.Objects.{unused_from, is_unknown, goes_on, base_is_wrong, wrong_base_from, or_else, first_name, first_class, wrong_as_a_whole}
use Rattle.object_bytes.specs.Objects.{unless_wrong, to_the_end, object, decoded}
use Rattle.object_bytes.proofs.Codec.{IsBytes}
use Rattle.object_bytes.proofs.ObjectLaws.{FieldsFit, object_reads, object_again}

-- ---- names

one_more_used : (b : Bool) (rest : Bool) (found : Option ℕ) (at : ℕ) → rest ≡ is_none found → (b && rest) ≡ is_none (cond b found (Some at))
one_more_used true rest found at h = h
one_more_used false rest found at h = refl

used_is : (source : Option (List ℕ)) (used : List ℕ) (i at : ℕ) (names : List (List ℕ))
    → all_used source used i names ≡ is_none (unused_from source used i at names)
used_is source used i at [] = refl
used_is source used i at (name ∷ names) = one_more_used (list_any (nat_eq i) used || is_source source name) (all_used source used (i + 1) names)
    (unused_from source used (i + 1) (at + length (name_bytes name)) names) at (used_is source used (i + 1) (at + length (name_bytes name)) names)

-- ---- bases

one_more_base : (b : Bool) (rest : Bool) (found : Option ℕ) (at : ℕ) → rest ≡ is_none found → (not b && rest) ≡ is_none (cond b (Some at) found)
one_more_base true rest found at h = refl
one_more_base false rest found at h = h

abbrev pub base_is_right : List ClassView → ClassView → Bool
base_is_right cs c = not (base_is_wrong cs c.base)

right_is : (cs : List ClassView) (at : ℕ) (rest : List ClassView) → list_all (base_is_right cs) rest ≡ is_none (wrong_base_from cs at rest)
right_is cs at [] = refl
right_is cs at (c ∷ rest) = one_more_base (base_is_wrong cs c.base) (list_all (base_is_right cs) rest) (wrong_base_from cs (at + length (class_bytes c)) rest)
    (at + 12) (right_is cs (at + length (class_bytes c)) rest)

pick : (p : ClassView → Bool) (b : Bool) (d : ClassView) (cs : List ClassView) (name : ℕ) (c : ClassView) → list_all p (d ∷ cs) ≡ true
    → cond b (Some d) (class_named cs name) ≡ Some c → ((e : class_named cs name ≡ Some c) → list_all p cs ≡ true → p c ≡ true) → p c ≡ true
pick p true d cs name c h e more =
    let same : d ≡ c = cc in
    subst (λ x. p x ≡ true) same (and_parts (p d) (list_all p cs) h).0
pick p false d cs name c h e more = more e (and_parts (p d) (list_all p cs) h).1

named_is : (p : ClassView → Bool) (cs : List ClassView) (name : ℕ) (c : ClassView) → list_all p cs ≡ true → class_named cs name ≡ Some c → p c ≡ true
named_is p [] name c h e = absurd cc
named_is p (d ∷ cs) name c h e = pick p (nat_eq d.name name) d cs name c h e (λ e more. named_is p cs name c more e)

all_to_all : (p q : ClassView → Bool) (cs : List ClassView) → ((c : ClassView) → p c ≡ true → q c ≡ true) → list_all p cs ≡ true → list_all q cs ≡ true
all_to_all p q [] f h = refl
all_to_all p q (c ∷ cs) f h =
    let a = and_parts (p c) (list_all p cs) h in
    and_from _ _ (f c a.0) (all_to_all p q cs f a.1)

ends_at : (cs : List ClassView) → list_all (base_is_right cs) cs ≡ true → (most : ℕ) (found : Option ClassView)
    → ((c : ClassView) → found ≡ Some c → base_is_right cs c ≡ true)
    → ((base : ℕ) → is_unknown cs base ≡ false → goes_on cs most base ≡ false → chain_ends cs most base ≡ true)
    → not (is_some found) ≡ false → option_map_or (λ (c : ClassView). goes_on cs most c.base) found false ≡ false
    → option_map_or (λ (c : ClassView). chain_ends cs most c.base) found false ≡ true
ends_at cs right most None named more known stops = absurd (false≢true (sym known))
ends_at cs right most (Some c) named more known stops =
    more c.base (or_parts (is_unknown cs c.base) (goes_on cs (length cs) c.base) (not-true _ (named c refl))).0 stops

-- a known base, of classes whose bases are known, whose chain does not go on
ends : (cs : List ClassView) → list_all (base_is_right cs) cs ≡ true → (most base : ℕ) → is_unknown cs base ≡ false → goes_on cs most base ≡ false
    → chain_ends cs most base ≡ true
ends cs right most zero known stops = refl
ends cs right zero (suc name) known stops = absurd (false≢true (sym stops))
ends cs right (suc most) (suc name) known stops = ends_at cs right most (class_named cs name) (λ c e. named_is (base_is_right cs) cs name c right e)
    (λ base k s. ends cs right most base k s) known stops

right_fits : (cs : List ClassView) → list_all (base_is_right cs) cs ≡ true → list_all (bases_fit cs) cs ≡ true
right_fits cs right = all_to_all (base_is_right cs) (bases_fit cs) cs (λ c h.
    let w = or_parts (is_unknown cs c.base) (goes_on cs (length cs) c.base) (not-true _ h) in
    ends cs right (length cs) c.base w.0 w.1) right

found_at : (cs : List ClassView) (most : ℕ) (found : Option ClassView)
    → ((base : ℕ) → chain_ends cs most base ≡ true → (is_unknown cs base ≡ false) × (goes_on cs most base ≡ false))
    → option_map_or (λ (c : ClassView). chain_ends cs most c.base) found false ≡ true
    → (not (is_some found) ≡ false) × (option_map_or (λ (c : ClassView). goes_on cs most c.base) found false ≡ false)
found_at cs most None more h = absurd (false≢true h)
found_at cs most (Some c) more h = (refl, (more c.base h).1)

-- a chain that ends
stops : (cs : List ClassView) (most base : ℕ) → chain_ends cs most base ≡ true → (is_unknown cs base ≡ false) × (goes_on cs most base ≡ false)
stops cs most zero h = (refl, refl)
stops cs zero (suc name) h = absurd (false≢true h)
stops cs (suc most) (suc name) h = found_at cs most (class_named cs name) (λ base e. stops cs most base e) h

fits_right : (cs : List ClassView) → list_all (bases_fit cs) cs ≡ true → list_all (base_is_right cs) cs ≡ true
fits_right cs fit = all_to_all (bases_fit cs) (base_is_right cs) cs (λ c h.
    let s = stops cs (length cs) c.base h in
    not_from_false _ (or_from _ _ s.0 s.1)) fit

as_true : (a b : Bool) → (a ≡ true → b ≡ true) → (b ≡ true → a ≡ true) → a ≡ b
as_true true b f g = sym (f refl)
as_true false true f g = g refl
as_true false false f g = refl

pub rights_fit : (cs : List ClassView) → list_all (base_is_right cs) cs ≡ list_all (bases_fit cs) cs
rights_fit cs = as_true (list_all (base_is_right cs) cs) (list_all (bases_fit cs) cs) (right_fits cs) (fits_right cs)

-- ---- objects

none_of_both : (a b : Option ℕ) → is_none a ≡ true → is_none b ≡ true → or_else a b ≡ None
none_of_both None None h k = refl
none_of_both None (Some y) h k = absurd (false≢true k)
none_of_both (Some x) b h k = absurd (false≢true h)

both_none : (a b : Option ℕ) → or_else a b ≡ None → (is_none a ≡ true) × (is_none b ≡ true)
both_none None None h = (refl, refl)
both_none None (Some y) h = absurd cc
both_none (Some x) b h = absurd cc

whole_fits : (o : ObjectView) → FieldsFit o → wrong_as_a_whole o ≡ None → IsObject o
unfolding wrong_as_a_whole
whole_fits o f h =
    let n = both_none (unused_from o.source (named_in o) 0 first_name o.names) (wrong_base_from o.classes (first_class o) o.classes) h in
    record {
      version = f.version;
      name_count = f.name_count;
      names = f.names;
      names_ascend = f.names_ascend;
      source = f.source;
      class_count = f.class_count;
      classes = f.classes;
      classes_ascend = f.classes_ascend;
      global_count = f.global_count;
      globals = f.globals;
      globals_ascend = f.globals_ascend;
      func_count = f.func_count;
      funcs = f.funcs;
      funcs_ascend = f.funcs_ascend;
      names_used = used_is o.source (named_in o) 0 first_name o.names ∙ n.0;
      bases = right_fits o.classes (right_is o.classes (first_class o) o.classes ∙ n.1);
    }

fields_fit : (o : ObjectView) → IsObject o → is_wide o ≡ true → FieldsFit o
fields_fit o f wide = record {
  version = f.version;
  name_count = f.name_count;
  names = f.names;
  names_ascend = f.names_ascend;
  source = f.source;
  class_count = f.class_count;
  classes = f.classes;
  classes_ascend = f.classes_ascend;
  global_count = f.global_count;
  globals = f.globals;
  globals_ascend = f.globals_ascend;
  func_count = f.func_count;
  funcs = f.funcs;
  funcs_ascend = f.funcs_ascend;
  wide = wide;
}

nothing_wrong : (o : ObjectView) → IsObject o → wrong_as_a_whole o ≡ None
unfolding wrong_as_a_whole
nothing_wrong o f =
    none_of_both (unused_from o.source (named_in o) 0 first_name o.names) (wrong_base_from o.classes (first_class o) o.classes)
    (sym (used_is o.source (named_in o) 0 first_name o.names) ∙ f.names_used)
    (sym (right_is o.classes (first_class o) o.classes) ∙ fits_right o.classes f.bases)

ok_is : (x y : ObjectView) → Path (Result ObjectView ℕ) (Ok x) (Ok y) → x ≡ y
ok_is x y e = cc

was_none : (o x : ObjectView) (found : Option ℕ) → unless_wrong o found ≡ Ok x → (found ≡ None) × (o ≡ x)
was_none o x None e = (refl, ok_is o x e)
was_none o x (Some at) e = absurd cc

at_the_end : (b : Bool) (o x : ObjectView) (at : ℕ) → cond b (unless_wrong o (wrong_as_a_whole o)) (Err at) ≡ Ok x → (b ≡ true) × (wrong_as_a_whole o ≡ None)
    × (o ≡ x)
at_the_end true o x at e = let w = was_none o x (wrong_as_a_whole o) e in (refl, w.0, w.1)
at_the_end false o x at e = absurd cc

record ReadTo (bytes : List ℕ) (o : ObjectView) : Type 0 where
  rest : List ℕ
  read : object bytes ≡ Ok (o, rest)
  none : rest ≡ []
  right : wrong_as_a_whole o ≡ None

read_to : (bytes : List ℕ) (size : ℕ) (read : Result (ObjectView × List ℕ) ℕ) (o : ObjectView) → object bytes ≡ read → to_the_end size read ≡ Ok o
    → ReadTo bytes o
read_to bytes size (Err left) o was e = absurd cc
read_to bytes size (Ok x) o was e =
    let w = at_the_end (nat_eq (length x.1) 0) x.0 o (size - length x.1) e in
    let none : x.1 ≡ [] = nil_from_length x.1 (eqb-true _ _ w.0) in
    subst (λ (y : ObjectView). ReadTo bytes y) w.2 (record { rest = x.1; read = was; none = none; right = w.1 })

-- What is read is spelled so.
pub decoded_spells : (bytes : List ℕ) (o : ObjectView) → IsBytes bytes → decoded bytes ≡ Ok o → Spells o bytes
unfolding decoded
decoded_spells bytes o fits e =
    let r = read_to bytes (length bytes) (object bytes) o refl e in
    let t = object_reads.took bytes o r.rest fits r.read in
    record {
      object = whole_fits o t.holds.fits r.right;
      wide = t.holds.fits.wide;
      bytes_are = t.parts ∙ ap (λ (z : List ℕ). t.part ++ z) r.none
          ∙ append-nil t.part ∙ t.holds.spelled;
    }

read_again : (o : ObjectView) → IsObject o → is_wide o ≡ true → (more : List ℕ) → object (object_bytes o ++ more) ≡ Ok (o, more)
read_again o f wide more = (object_again o (fields_fit o f wide)).again more

-- What is spelled so is read.
pub decoded_again : (bytes : List ℕ) (o : ObjectView) → Spells o bytes → decoded bytes ≡ Ok o
unfolding decoded
decoded_again bytes o s =
    let e : object bytes ≡ Ok (o, []) = ap object (s.bytes_are ∙ sym (append-nil (object_bytes o))) ∙ read_again o s.object s.wide [] in
    rw (e, nothing_wrong o s.object) refl

-- One object for bytes.
pub one_object : (bytes : List ℕ) (o p : ObjectView) → Spells o bytes → Spells p bytes → o ≡ p
one_object bytes o p s t = ok_is o p (sym (decoded_again bytes o s) ∙ decoded_again bytes p t)

pair_rest : (x y : ObjectView × List ℕ) → Path (Result (ObjectView × List ℕ) ℕ) (Ok x) (Ok y) → x.1 ≡ y.1
pair_rest x y e = let same : x ≡ y = cc in ap (λ (z : ObjectView × List ℕ). z.1) same

-- No spelling begins another.
pub none_begins : (a more : List ℕ) (o p : ObjectView) → Spells o a → Spells p (a ++ more) → more ≡ []
none_begins a more o p s t =
    let first : object (a ++ more) ≡ Ok (o, more) = ap (λ (z : List ℕ). object (z ++ more)) s.bytes_are ∙ read_again o s.object s.wide more in
    let second : object (a ++ more) ≡ Ok (p, []) = ap object (t.bytes_are ∙ sym (append-nil (object_bytes p))) ∙ read_again p t.object t.wide [] in
    let both : Path (Result (ObjectView × List ℕ) ℕ) (Ok (o, more)) (Ok (p, [])) = sym first ∙ second in
    pair_rest (o, more) (p, []) both
