-- Where a class has no references in it, neither have the types of its parts.
use Rattle.std.proofs.Common.{◌≡◌, refl, sym, ap, ◌∙◌, subst, ℕ, zero, suc, ◌<◌, Bool, true, false, not, ◌&&◌, ◌||◌, nat_lt, List, [], ◌∷◌, ◌++◌, length, slice_get}
use Rattle.std.proofs.Common.{Option, Some, None, is_some, cond, option_map, option_and_then, arith}
use Rattle.std.proofs.lemmas.Bool.{and_parts, and_from}
use Rattle.std.specs.List.{list_all}
use Rattle.elab_rules.specs.cpp_types.Typ.{Typ, typ, Form, void, int, enum, null, ptr, ref, array, func, class, closure, tx_ex}
use Rattle.elab_rules.specs.cpp_types.Class.{Class, Member, InOrder, CompleteBelow, completion_of, held, held_form}
use Rattle.elab_rules.specs.cpp_types.Order.{each_passes}
use Rattle.elab_rules.specs.cpp_layout.Measured.{member_offset}
use Rattle.elab_rules.specs.cpp_tree.Typing.{form_in}
use Rattle.elab_rules.specs.cpp_tree.Parts as told
use Rattle.elab_rules.specs.cpp_tree.Parts.{part_of, part_in, part_behind, member_part, sized_class, size_in}
use Rattle.elab_rules.specs.Objects.{parts_of, parts_in, base_part, members_from}
use Rattle.elab_fits.specs.Objects.{is_single, typ_ready, form_ready, part_ready, class_ready, is_ready}
use Rattle.elab_fits.proofs.Nodes.{both}
use Rattle.elab_fits.proofs.Objects.{rank, rank_below, rank_within, sized_from}

-- Types that are ready by one account of the classes that they hold are so by another

module _ (p q : ℕ → Bool) (r : Bool) where
  form_held : (own : Bool) (f : Form) → form_ready p r own f ≡ true → ((e : ℕ) → held_form f ≡ Some e → p e ≡ true → q e ≡ true)
      → form_ready q r own f ≡ true
  form_held own void h g = absurd cc
  form_held own (int k) h g = refl
  form_held own (enum n s) h g = refl
  form_held own null h g = refl
  form_held own (ptr t) h g = refl
  form_held own (ref t) h g = h
  form_held own (array (typ f c v) n) h g =
      let a = and_parts (not own) (nat_lt 0 n && form_ready p r (c || v) f) h in
      let b = and_parts (nat_lt 0 n) (form_ready p r (c || v) f) a.1 in
      and_from (not own) (nat_lt 0 n && form_ready q r (c || v) f) a.0 (and_from (nat_lt 0 n) (form_ready q r (c || v) f) b.0 (form_held (c || v) f b.1 g))
  form_held own (func s) h g = absurd cc
  form_held own (class n) h g = g n refl h
  form_held own (closure n) h g = g n refl h
  form_held own (tx_ex (typ f c v)) h g = let a = and_parts (is_single f) (form_ready p r false f) h in
      and_from (is_single f) (form_ready q r false f) a.0 (form_held false f a.1 g)

  pub typ_held : (t : Typ) → typ_ready p r t ≡ true → ((e : ℕ) → held t ≡ Some e → p e ≡ true → q e ≡ true) → typ_ready q r t ≡ true
  typ_held (typ f c v) h g = form_held (c || v) f h g

  members_held : (classes : List Class) (n : ℕ) (c : Class) (i : ℕ) (ms : List Member)
      → ((j : ℕ) (m : Member) → slice_get ms j ≡ Some m → (e : ℕ) → held m.typ ≡ Some e → p e ≡ true → q e ≡ true)
      → list_all (part_ready p r) (members_from classes n c i ms) ≡ true → list_all (part_ready q r) (members_from classes n c i ms) ≡ true
  members_held classes n c i [] g h = refl
  members_held classes n c i (m ∷ ms) g h =
      let a = and_parts (typ_ready p r m.typ) (list_all (part_ready p r) (members_from classes n c (suc i) ms)) h in
      both (typ_held m.typ a.0 (g 0 m refl)) (members_held classes n c (suc i) ms (λ j x e. g (suc j) x e) a.1)

  base_held : (classes : List Class) (n : ℕ) (c : Class) (b : Option ℕ) → ((e : ℕ) → b ≡ Some e → p e ≡ true → q e ≡ true)
      → ((j : ℕ) (m : Member) → slice_get c.members j ≡ Some m → (e : ℕ) → held m.typ ≡ Some e → p e ≡ true → q e ≡ true)
      → list_all (part_ready p r) (base_part b ++ members_from classes n c 0 c.members) ≡ true
      → list_all (part_ready q r) (base_part b ++ members_from classes n c 0 c.members) ≡ true
  base_held classes n c None f g h = members_held classes n c 0 c.members g h
  base_held classes n c (Some b) f g h =
      let a = and_parts (p b) (list_all (part_ready p r) (members_from classes n c 0 c.members)) h in
      both (f b refl a.0) (members_held classes n c 0 c.members g a.1)

-- Classes, which nest no deeper than others were completed before

record IsComplete (classes : List Class) (n k : ℕ) : Type 0 where
  owner : Class
  found : slice_get classes n ≡ Some owner
  complete : owner.complete ≡ Some k

complete_is : (classes : List Class) (n k : ℕ) → completion_of classes n ≡ Some k → IsComplete classes n k
complete_is classes n k h = by (slice_get classes n) refl h
  where
    by : (o : Option Class) → slice_get classes n ≡ o → option_and_then (λ (c : Class). c.complete) o ≡ Some k → IsComplete classes n k
    by (Some c) e g = record { owner = c; found = e; complete = g }
    by None e g = absurd cc

-- from one account of classes that a complete one holds to another
owner_held : (classes : List Class) (o : InOrder classes) (r : Bool) (p q : ℕ → Bool) (n k : ℕ) → IsComplete classes n k
    → ((e : ℕ) → CompleteBelow classes k e → p e ≡ true → q e ≡ true) → list_all (part_ready p r) (parts_of classes n) ≡ true
    → list_all (part_ready q r) (parts_of classes n) ≡ true
owner_held classes o r p q n k c g h =
    let e = o.earlier n c.owner k c.found c.complete in
    let a : list_all (part_ready p r) (parts_in classes n (Some c.owner)) ≡ true = ap (λ (x : Option Class). list_all (part_ready p r) (parts_in classes n x)) (sym c.found) ∙ h in
    ap (λ (x : Option Class). list_all (part_ready q r) (parts_in classes n x)) c.found
    ∙ base_held p q r classes n c.owner c.owner.base (λ b y. g b (e.base b y)) (λ j m y x z. g x (e.members j m y x z)) a

deeper : (classes : List Class) (o : InOrder classes) (r : Bool) (d n k : ℕ) → completion_of classes n ≡ Some k → rank k classes < d
    → class_ready d classes r n ≡ true → class_ready (suc d) classes r n ≡ true
deeper classes o r zero n k c l h = absurd (omega arith)
deeper classes o r (suc d) n k c l h = owner_held classes o r (class_ready d classes r) (class_ready (suc d) classes r) n k (complete_is classes n k c)
    (λ e b g. let x = complete_is classes e b.number b.complete in let y = rank_below classes e b.number k x.owner x.found x.complete b.below in
    deeper classes o r d e b.number b.complete (omega arith) g) h

-- Parts

-- the classes of which it is said have parts of which it can be said
pub record ArePlain (classes : List Class) (plain : ℕ → Bool) : Type 0 where
  pub parts : (n i : ℕ) (p : told.Part) → plain n ≡ true → part_of classes n i ≡ Some p → typ_ready plain false p.typ ≡ true

member_ready : (classes : List Class) (n : ℕ) (c : Class) (plain : ℕ → Bool) (i : ℕ) (ms : List Member) (k : ℕ) (m : Member) → slice_get ms k ≡ Some m
    → list_all (part_ready plain false) (members_from classes n c i ms) ≡ true → typ_ready plain false m.typ ≡ true
member_ready classes n c plain i [] k m e h = absurd cc
member_ready classes n c plain i (x ∷ ms) zero m e h = let q : x ≡ m = cc in
    ap (λ (z : Member). typ_ready plain false z.typ) (sym q) ∙ (and_parts (typ_ready plain false x.typ) (list_all (part_ready plain false) (members_from classes n c (suc i) ms)) h).0
member_ready classes n c plain i (x ∷ ms) (suc k) m e h = member_ready classes n c plain (suc i) ms k m e
    (and_parts (typ_ready plain false x.typ) (list_all (part_ready plain false) (members_from classes n c (suc i) ms)) h).1

told_member : (classes : List Class) (n : ℕ) (c : Class) (plain : ℕ → Bool) (i : ℕ) (p : told.Part)
    → list_all (part_ready plain false) (members_from classes n c 0 c.members) ≡ true → member_part classes n c i ≡ Some p → typ_ready plain false p.typ ≡ true
told_member classes n c plain i p h e = by (nat_lt i 4294967296) (slice_get c.members i) refl e
  where
    by : (b : Bool) (o : Option Member) → slice_get c.members i ≡ o
        → cond b (option_map (λ (m : Member). let x : told.Part = record { offset = member_offset classes n c i m; typ = m.typ } in x) o) None ≡ Some p
        → typ_ready plain false p.typ ≡ true
    by true (Some m) g f = let x : m.typ ≡ p.typ = cc in
        ap (λ (z : Typ). typ_ready plain false z) (sym x) ∙ member_ready classes n c plain 0 c.members i m g h
    by true None g f = absurd cc
    by false o g f = absurd cc

told_behind : (classes : List Class) (n : ℕ) (c : Class) (plain : ℕ → Bool) (b : Option ℕ) (i : ℕ) (p : told.Part)
    → list_all (part_ready plain false) (base_part b ++ members_from classes n c 0 c.members) ≡ true → part_behind classes n c b i ≡ Some p
    → typ_ready plain false p.typ ≡ true
told_behind classes n c plain None i p h e = told_member classes n c plain i p h e
told_behind classes n c plain (Some b) zero p h e = let x : p.typ ≡ typ (class b) false false = cc in
    ap (λ (z : Typ). typ_ready plain false z) x ∙ (and_parts (plain b) (list_all (part_ready plain false) (members_from classes n c 0 c.members)) h).0
told_behind classes n c plain (Some b) (suc i) p h e = told_member classes n c plain i p
    (and_parts (plain b) (list_all (part_ready plain false) (members_from classes n c 0 c.members)) h).1 e

-- Types without references: the classes in them are complete and have none

abbrev pub is_plain : List Class → ℕ → Bool
is_plain classes n = is_some (completion_of classes n) && class_ready (length classes) classes false n

sized_owner : (b : Bool) (o : Option Class) (c : Class) → cond b o None ≡ Some c → o ≡ Some c
sized_owner true o c h = h
sized_owner false o c h = absurd cc

module _ (classes : List Class) (o : InOrder classes) where
  pub parts_plain : (d n k : ℕ) → d ≡ length classes → completion_of classes n ≡ Some k → class_ready d classes false n ≡ true
      → list_all (part_ready (is_plain classes) false) (parts_of classes n) ≡ true
  parts_plain zero n k l c h = let x = complete_is classes n k c in let y = rank_within classes n k x.owner x.found x.complete in absurd (omega arith)
  parts_plain (suc d) n k l c h = let x = complete_is classes n k c in
      owner_held classes o false (class_ready d classes false) (is_plain classes) n k x (λ e b g.
      let y = complete_is classes e b.number b.complete in
      let z = rank_below classes e b.number k y.owner y.found y.complete b.below in
      let w = rank_within classes n k x.owner x.found x.complete in
      both (ap is_some b.complete) (subst (λ (m : ℕ). class_ready m classes false e ≡ true) l (deeper classes o false d e b.number b.complete (omega arith) g))) h

  told_plain : (n i : ℕ) (p : told.Part) (q : Option ℕ) → completion_of classes n ≡ q → is_some q ≡ true → class_ready (length classes) classes false n ≡ true
      → part_of classes n i ≡ Some p → typ_ready (is_plain classes) false p.typ ≡ true
  told_plain n i p None c s h e = absurd cc
  told_plain n i p (Some k) c s h e = by (sized_class classes n) refl e
    where
      by : (x : Option Class) → sized_class classes n ≡ x → option_and_then (part_in classes n i) x ≡ Some p → typ_ready (is_plain classes) false p.typ ≡ true
      by (Some z) g f =
          let a : slice_get classes n ≡ Some z = sized_owner (is_some (size_in classes (typ (class n) false false))) (slice_get classes n) z g in
          let b = parts_plain (length classes) n k refl c h in
          told_behind classes n z (is_plain classes) z.base i p
          (ap (λ (y : Option Class). list_all (part_ready (is_plain classes) false) (parts_in classes n y)) (sym a) ∙ b) f
      by None g f = absurd cc

  pub all_plain : ArePlain classes (is_plain classes)
  all_plain = record {
    parts = λ n i p h e. let a = and_parts (is_some (completion_of classes n)) (class_ready (length classes) classes false n) h in
        told_plain n i p (completion_of classes n) refl a.0 a.1 e;
  }

  held_complete : (t : Typ) (e : ℕ) → each_passes (λ (n : ℕ). is_some (completion_of classes n)) (held_form (form_in t)) ≡ true → held t ≡ Some e
      → is_some (completion_of classes e) ≡ true
  held_complete (typ f c v) e h g = ap (each_passes (λ (n : ℕ). is_some (completion_of classes n))) (sym g) ∙ h

  pub ready_plain : (t : Typ) → is_some (size_in classes t) ≡ true → is_ready classes false t ≡ true → typ_ready (is_plain classes) false t ≡ true
  ready_plain t z r = typ_held (class_ready (length classes) classes false) (is_plain classes) false t r
      (λ e g h. both (held_complete t e (sized_from classes t z).complete g) h)
