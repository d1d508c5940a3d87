-- The parts of a class.
use Rattle.std.proofs.Common.{◌≡◌, ◌∙◌, ℕ, ◌<◌, Bool, true, false, not, ◌&&◌, length, get_or, List, [], ◌∷◌, Option, Some, None, slice_get, map, is_some}
use Rattle.std.proofs.Common.{unwrap_or, cond, refl, sym, ap, arith, subst}
use Rattle.std.proofs.lemmas.List.{length-map}
use Rattle.std.proofs.lemmas.Bool.{and_parts}
use Rattle.std.specs.List.{list_any}
use Rattle.std.specs.Option.{option_and_then, option_map}
use Rattle.std.proofs.lemmas.Option.{slice_get-map, slice_get-get_or, slice_get_within}
use Rattle.cpp_types.specs.declared.classes.MemberRec.{MemberRec}
use Rattle.cpp_types.specs.declared.types.Ty.{Ty}
use Rattle.cpp_types.specs.Typ.{typs_of, typ_of}
use Rattle.cpp_types.specs.Class.{Class, Member, InOrder, CompleteBelow, base_of, completion_of, held, member_of}
use Rattle.cpp_types.specs.Conversion.{volatile_of}
use Rattle.cpp_types.specs.Trivial.{refers_to, only_refers, hinders, is_plain, member_at, Part, itself, of_base, of_member, IsTrivialClass}

pub one_long : (n : ℕ) (xs : List Ty) (x : Ty) → length xs ≡ 1 → x ≡ get_or xs 0 x → refers_to n (typ_of x) ≡ only_refers n (typs_of xs)
one_long n [] x h e = absurd cc
one_long n (y ∷ []) x h e = ap (λ (z : Ty). refers_to n (typ_of z)) e
one_long n (y ∷ z ∷ zs) x h e = absurd (omega arith)

pub other_long : (n : ℕ) (xs : List Ty) → (length xs ≡ 1 → ⊥) → false ≡ only_refers n (typs_of xs)
other_long n [] h = refl
other_long n (y ∷ []) h = absurd (h refl)
other_long n (y ∷ z ∷ zs) h = refl

is_known : (o : Option ℕ) → is_some o ≡ true → (k : ℕ) × (o ≡ Some k)
is_known None h = absurd cc
is_known (Some k) h = (k, refl)

module _ (classes : List Class) (n : ℕ) where
  pub missing : slice_get classes n ≡ None → IsTrivialClass classes n → ⊥
  missing e t = let h : is_plain n (slice_get classes n) ≡ true = t.parts n itself in let k : is_plain n (slice_get classes n) ≡ false = ap (is_plain n) e in
      absurd cc

  pub hindered : (c : Class) → slice_get classes n ≡ Some c → is_plain n (Some c) ≡ false → IsTrivialClass classes n → ⊥
  hindered c e f t = let h : is_plain n (slice_get classes n) ≡ true = t.parts n itself in let k : is_plain n (slice_get classes n) ≡ false = ap (is_plain n) e
      ∙ f in absurd cc

  member_there : (c : Class) (i : ℕ) (m : Member) → slice_get classes n ≡ Some c → slice_get c.members i ≡ Some m → member_at (slice_get classes n) i ≡ Some m
  member_there c i m e f = ap (λ (o : Option Class). member_at o i) e ∙ f

  pub member_not : (c : Class) (i : ℕ) (m : Member) (p : ℕ) → slice_get classes n ≡ Some c → slice_get c.members i ≡ Some m → held m.typ ≡ Some p
      → (IsTrivialClass classes p → ⊥) → IsTrivialClass classes n → ⊥
  member_not c i m p e f h never t = never (record { parts = λ k q. t.parts k (of_member i m (member_there c i m e f) h q) })

  known_base : (c : Class) (b : ℕ) → slice_get classes n ≡ Some c → is_plain n (Some c) ≡ true → c.base ≡ Some b → base_of classes n ≡ Some b
  known_base c b e p f = let h = (and_parts (is_some c.complete)
      (not (list_any (hinders n c.name) c.functions) && not (list_any (λ (m : Member). volatile_of m.typ) c.members)) p).0 in
      ap (option_and_then (λ (x : Class). cond (is_some x.complete) x.base None)) e ∙ ap (λ (b : Bool). cond b c.base None) h ∙ f

  pub base_of_whole : (c : Class) (b : ℕ) → slice_get classes n ≡ Some c → is_plain n (Some c) ≡ true → c.base ≡ Some b → IsTrivialClass classes n
      → IsTrivialClass classes b
  base_of_whole c b e p f t = record { parts = λ k q. t.parts k (of_base (known_base c b e p f) q) }

  plain_complete : (c : Class) → is_plain n (Some c) ≡ true → (k : ℕ) × (c.complete ≡ Some k)
  plain_complete c p = is_known c.complete (and_parts (is_some c.complete)
      (not (list_any (hinders n c.name) c.functions) && not (list_any (λ (m : Member). volatile_of m.typ) c.members)) p).0

  number_of : (c : Class) (k : ℕ) → slice_get classes n ≡ Some c → c.complete ≡ Some k → completion_of classes n ≡ Some k
  number_of c k e f = ap (option_and_then (λ (x : Class). x.complete)) e ∙ f

  lower : (c : Class) (k p : ℕ) → slice_get classes n ≡ Some c → c.complete ≡ Some k → CompleteBelow classes k p
      → unwrap_or (completion_of classes p) 0 < unwrap_or (completion_of classes n) 0
  lower c k p e f b = let h : unwrap_or (completion_of classes p) 0 ≡ b.number = ap (λ (o : Option ℕ). unwrap_or o 0) b.complete in
      let i : unwrap_or (completion_of classes n) 0 ≡ k = ap (λ (o : Option ℕ). unwrap_or o 0) (number_of c k e f) in let j = b.below in omega arith

  pub lower_base : (c : Class) (b : ℕ) → InOrder classes → slice_get classes n ≡ Some c → is_plain n (Some c) ≡ true → c.base ≡ Some b
      → unwrap_or (completion_of classes b) 0 < unwrap_or (completion_of classes n) 0
  lower_base c b o e p f = let q = plain_complete c p in lower c q.0 b e q.1 ((o.earlier n c q.0 e q.1).base b f)

  pub lower_member : (c : Class) (i : ℕ) (m : Member) (p : ℕ) → InOrder classes → slice_get classes n ≡ Some c → is_plain n (Some c) ≡ true
      → slice_get c.members i ≡ Some m → held m.typ ≡ Some p → unwrap_or (completion_of classes p) 0 < unwrap_or (completion_of classes n) 0
  lower_member c i m p o e q f h = let r = plain_complete c q in lower c r.0 p e r.1 ((o.earlier n c r.0 e r.1).members i m f p h)

  plain_part : (c : Class) → slice_get classes n ≡ Some c → is_plain n (Some c) ≡ true → is_plain n (slice_get classes n) ≡ true
  plain_part c e p = ap (is_plain n) e ∙ p

  base_is : (c : Class) → slice_get classes n ≡ Some c → is_plain n (Some c) ≡ true → base_of classes n ≡ c.base
  base_is c e p = let h = (and_parts (is_some c.complete)
      (not (list_any (hinders n c.name) c.functions) && not (list_any (λ (m : Member). volatile_of m.typ) c.members)) p).0 in
      ap (option_and_then (λ (x : Class). cond (is_some x.complete) x.base None)) e ∙ ap (λ (b : Bool). cond b c.base None) h

  member_is : (c : Class) (i : ℕ) (m : Member) → slice_get classes n ≡ Some c → member_at (slice_get classes n) i ≡ Some m → slice_get c.members i ≡ Some m
  member_is c i m e f = ap (λ (o : Option Class). member_at o i) (sym e) ∙ f

whole : (classes : List Class) (n k : ℕ) (c : Class) → slice_get classes n ≡ Some c → is_plain n (Some c) ≡ true
    → ((b : ℕ) → c.base ≡ Some b → IsTrivialClass classes b)
    → ((i : ℕ) (m : Member) (p : ℕ) → slice_get c.members i ≡ Some m → held m.typ ≡ Some p → IsTrivialClass classes p) → Part classes n k
    → is_plain k (slice_get classes k) ≡ true
whole classes n k c e p bs ms itself = plain_part classes n c e p
whole classes n k c e p bs ms (of_base f q) = (bs _ (sym (base_is classes n c e p) ∙ f)).parts k q
whole classes n k c e p bs ms (of_member i m f h q) = (ms i m _ (member_is classes n c i m e f) h).parts k q

pub trivial_whole : (classes : List Class) (n : ℕ) (c : Class) → slice_get classes n ≡ Some c → is_plain n (Some c) ≡ true
    → ((b : ℕ) → c.base ≡ Some b → IsTrivialClass classes b)
    → ((i : ℕ) (m : Member) (p : ℕ) → slice_get c.members i ≡ Some m → held m.typ ≡ Some p → IsTrivialClass classes p) → IsTrivialClass classes n
trivial_whole classes n c e p bs ms = record { parts = λ k q. whole classes n k c e p bs ms q }

pub member_found : (xs ys : List MemberRec) (i : ℕ) (m : MemberRec) → xs ≡ ys → i < length xs → m ≡ get_or xs i m
    → slice_get (map member_of ys) i ≡ Some (member_of m)
member_found xs ys i m e h f = ap (λ (z : List MemberRec). slice_get (map member_of z) i) (sym e) ∙ slice_get-map member_of xs i
    ∙ ap (option_map member_of) (slice_get-get_or xs i m h ∙ ap Some (sym f))

pub same_member : (o : Option Member) (m k : Member) → o ≡ Some m → o ≡ Some k → m ≡ k
same_member o m k e f = cc

pub member_within : (xs ys : List MemberRec) (i : ℕ) (m : Member) → xs ≡ ys → slice_get (map member_of ys) i ≡ Some m → i < length xs
member_within xs ys i m e f = let h : i < length (map member_of ys) = slice_get_within (map member_of ys) i m f in let k : length xs ≡ length ys =
    ap length e in let l : length (map member_of ys) ≡ length ys = simp length-map in omega arith

pub same_held : (classes : List Class) (o : Option ℕ) (p e : ℕ) → o ≡ Some p → o ≡ Some e → IsTrivialClass classes p → IsTrivialClass classes e
same_held classes o p e f g t = let h : p ≡ e = cc in subst (λ (z : ℕ). IsTrivialClass classes z) h t

pub same_index : (xs : List MemberRec) (i j : ℕ) (m k : Member) → slice_get (map member_of xs) i ≡ Some m → slice_get (map member_of xs) j ≡ Some k → j ≡ i
    → m ≡ k
same_index xs i j m k e f h = let g : slice_get (map member_of xs) i ≡ Some k = ap (slice_get (map member_of xs)) (sym h) ∙ f in cc
