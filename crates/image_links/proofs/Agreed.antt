-- What follows where an image and a linked program agree.
use Rattle.std.proofs.Common.{ℕ, zero, suc, ◌≡◌, ◌+◌, ◌^◌, ◌<◌, ◌≤◌, ◌==◌, nat_lt, Bool, true, false, refl, ap, sym, ◌∙◌, subst, List, [], ◌∷◌, length, Option}
use Rattle.std.proofs.Common.{Some, None, arith}
use Rattle.std.specs.Prelude.{slice_get, ◌&&◌, nat_le, unwrap_or}
use Rattle.std.specs.Option.{option_map_or}
use Rattle.std.proofs.lemmas.Bool.{and_parts, eqb-true, leb-true}
use Rattle.std.proofs.lemmas.Option.{slice_get_within, slice_get_past}
use Rattle.tx_code.specs.Images.{ImageFuncView, ImageClassView, ImageView}
use Rattle.tx_code.specs.Signatures.{gives_of}
use Rattle.tx_code.specs.Program.{names_of, func_address, class_address}
use Rattle.cpp_tree.specs.cpp_types.Typ.{Typ}
use Rattle.cpp_tree.specs.Units.{Unit as TypedUnit, TypedProgram}
use Rattle.src_mean.specs.Linked.{Func, Program}
use Rattle.src_mean.specs.Links.{kept_funcs, kept_classes}
use Rattle.src_mean.specs.Source.{thread_signature, empty_stack}
use Rattle.src_bind.specs.Tables.{Given, typed, linked_of}
use Rattle.body_check.specs.Notes.{Note}
use Rattle.body_check.specs.Calls.{Begins}
use Rattle.image_links.specs.Books.{all_places, same_number, first_class, func_of, func_takes, func_gives, pointed_pass, class_of, no_func}
use Rattle.image_links.specs.Agreeing.{same_func, same_funcs, symbols_of, same_slot, same_slots, same_classes, class_agrees, definitions_agree, units_agree}
use Rattle.image_links.specs.Agreeing.{threads_agree, main_agrees, counts_agree, agrees, most_frame, linked_book, AreLinked}
use Rattle.image_links.proofs.Found.{number_same, where_there, is_there, number_of, class_is, class_holds, all_there}
use Rattle.image_links.proofs.Looked.{slot_found, func_past, pointed_found, linked_slot_found}
use Rattle.image_links.proofs.Linking.{same_by, Told, all_first, links_are, plain_is, pointed_whole}

none_past : {A : Type 0} (xs : List A) (n : ℕ) → slice_get xs n ≡ None → length xs ≤ n
none_past [] n e = omega arith
none_past (x ∷ xs) zero e = absurd cc
none_past (x ∷ xs) (suc n) e = more (length xs) n (none_past xs n e)
  where
    more : (m n : ℕ) → m ≤ n → suc m ≤ suc n
    more m n h = omega (arith, h)

next : (k n : ℕ) → suc k + n ≡ k + suc n
next k n = omega arith

own : (n : ℕ) → n ≡ n + 0
own n = omega arith

first : (n : ℕ) → 0 + n ≡ n
first n = omega arith

func_at_place : (p : Program) (k : ℕ) (fs : List ImageFuncView) (n : ℕ) (f : ImageFuncView) → same_funcs p k fs ≡ true → slice_get fs n ≡ Some f
    → same_func f (p.func (k + n)) ≡ true
func_at_place p k [] n f h e = absurd cc
func_at_place p k (x ∷ xs) zero f h e =
    let same : x ≡ f = cc in
    subst (λ z. same_func f (p.func z) ≡ true) (own k)
    (subst (λ z. same_func z (p.func k) ≡ true) same (and_parts (same_func x (p.func k)) (same_funcs p (suc k) xs) h).0)
func_at_place p k (x ∷ xs) (suc n) f h e = subst (λ z. same_func f (p.func z) ≡ true) (next k n)
    (func_at_place p (suc k) xs n f (and_parts (same_func x (p.func k)) (same_funcs p (suc k) xs) h).1 e)

class_at_place : (i : ImageView) (g : Given) (s c k : ℕ) (ks : List ImageClassView) (n : ℕ) (class : ImageClassView) → same_classes i g s c k ks ≡ true
    → slice_get ks n ≡ Some class → same_slots i g s c (k + n) class ≡ true
class_at_place i g s c k [] n class h e = absurd cc
class_at_place i g s c k (x ∷ xs) zero class h e =
    let same : x ≡ class = cc in
    subst (λ z. same_slots i g s c z class ≡ true) (own k)
    (subst (λ z. same_slots i g s c k z ≡ true) same (and_parts (same_slots i g s c k x) (same_classes i g s c (suc k) xs) h).0)
class_at_place i g s c k (x ∷ xs) (suc n) class h e =
    subst (λ z. same_slots i g s c z class ≡ true) (next k n)
    (class_at_place i g s c (suc k) xs n class (and_parts (same_slots i g s c k x) (same_classes i g s c (suc k) xs) h).1 e)

module _ (i : ImageView) (g : Given) (h : agrees i g ≡ true) where
  abbrev p : Program
  p = linked_of g

  abbrev t : TypedProgram
  t = typed g

  counts : counts_agree i g ≡ true
  counts = (and_parts (counts_agree i g) (same_funcs p 0 i.funcs && (units_agree i g t.units && (threads_agree i g && main_agrees i g))) h).0

  behind_counts : (same_funcs p 0 i.funcs && (units_agree i g t.units && (threads_agree i g && main_agrees i g))) ≡ true
  behind_counts = (and_parts (counts_agree i g) (same_funcs p 0 i.funcs && (units_agree i g t.units && (threads_agree i g && main_agrees i g))) h).1

  funcs : same_funcs p 0 i.funcs ≡ true
  funcs = (and_parts (same_funcs p 0 i.funcs) (units_agree i g t.units && (threads_agree i g && main_agrees i g)) behind_counts).0

  behind_funcs : (units_agree i g t.units && (threads_agree i g && main_agrees i g)) ≡ true
  behind_funcs = (and_parts (same_funcs p 0 i.funcs) (units_agree i g t.units && (threads_agree i g && main_agrees i g)) behind_counts).1

  units : units_agree i g t.units ≡ true
  units = (and_parts (units_agree i g t.units) (threads_agree i g && main_agrees i g) behind_funcs).0

  behind_units : (threads_agree i g && main_agrees i g) ≡ true
  behind_units = (and_parts (units_agree i g t.units) (threads_agree i g && main_agrees i g) behind_funcs).1

  threads : threads_agree i g ≡ true
  threads = (and_parts (threads_agree i g) (main_agrees i g) behind_units).0

  main_right : main_agrees i g ≡ true
  main_right = (and_parts (threads_agree i g) (main_agrees i g) behind_units).1

  -- ---- numbers

  count_parts : ((length i.funcs == length (kept_funcs t)) && nat_le (length i.funcs) 4294967295 ≡ true)
      × ((length i.classes == length (kept_classes t)) && nat_le (length i.classes) 4294967295 ≡ true)
  count_parts = and_parts ((length i.funcs == length (kept_funcs t)) && nat_le (length i.funcs) 4294967295)
      ((length i.classes == length (kept_classes t)) && nat_le (length i.classes) 4294967295) counts

  pub funcs_counted : length i.funcs ≡ length (kept_funcs t)
  funcs_counted = eqb-true (length i.funcs) (length (kept_funcs t))
      (and_parts (length i.funcs == length (kept_funcs t)) (nat_le (length i.funcs) 4294967295) count_parts.0).0

  pub funcs_few : length i.funcs ≤ 4294967295
  funcs_few = leb-true (length i.funcs) 4294967295 (and_parts (length i.funcs == length (kept_funcs t)) (nat_le (length i.funcs) 4294967295) count_parts.0).1

  pub classes_counted : length i.classes ≡ length (kept_classes t)
  classes_counted = eqb-true (length i.classes) (length (kept_classes t))
      (and_parts (length i.classes == length (kept_classes t)) (nat_le (length i.classes) 4294967295) count_parts.1).0

  pub classes_few : length i.classes ≤ 4294967295
  classes_few = leb-true (length i.classes) 4294967295
      (and_parts (length i.classes == length (kept_classes t)) (nat_le (length i.classes) 4294967295) count_parts.1).1

  -- ---- slots

  slot_right : (s c d slot : ℕ) (class : ImageClassView) → same_classes i g s c 0 i.classes ≡ true → slice_get i.classes d ≡ Some class
      → (slot < length class.slots → same_slot i g s c d slot ≡ true) × (slot < length (symbols_of g d) → same_slot i g s c d slot ≡ true)
  slot_right s c d slot class same there =
      let at : same_slots i g s c d class ≡ true = subst (λ z. same_slots i g s c z class ≡ true) (first d)
      (class_at_place i g s c 0 i.classes d class same there) in
      let both = and_parts (all_places (same_slot i g s c d) 0 class.slots) (all_places (same_slot i g s c d) 0 (symbols_of g d)) at in
      (λ l. all_first (same_slot i g s c d) class.slots slot both.0 l, λ l. all_first (same_slot i g s c d) (symbols_of g d) slot both.1 l)

  slots_right : (s c : ℕ) → same_classes i g s c 0 i.classes ≡ true → (a slot : ℕ) → (names_of i).slot_of s a slot ≡ p.slot a c slot
  slots_right s c same a slot = where_there ((names_of i).slot_of s a slot) (p.slot a c slot) by_image by_program
    where
      moved : (d : ℕ) → a ≡ class_address d → same_slot i g s c d slot ≡ true → (names_of i).slot_of s a slot ≡ p.slot a c slot
      moved d place e = subst (λ z. (names_of i).slot_of s z slot ≡ p.slot z c slot) (sym place)
          (number_same ((names_of i).slot_of s (class_address d) slot) (p.slot (class_address d) c slot) e)

      by_image : (n : ℕ) → (names_of i).slot_of s a slot ≡ Some n → (names_of i).slot_of s a slot ≡ p.slot a c slot
      by_image n e =
          let hit = slot_found i s a slot n e in
          moved hit.at hit.address ((slot_right s c hit.at slot hit.class same hit.there).0 hit.within)

      by_program : (n : ℕ) → p.slot a c slot ≡ Some n → (names_of i).slot_of s a slot ≡ p.slot a c slot
      by_program n e =
          let hit = linked_slot_found g a c slot n e in
          let class = is_there i.classes hit.at (subst (λ z. hit.at < z) (sym classes_counted) hit.within) in
          moved hit.at hit.address ((slot_right s c hit.at slot class.0 same class.1).1 hit.symbols)

  class_right : (c s : ℕ) → class_agrees i g c ≡ true → p.table c ≡ class_address s → same_classes i g s c 0 i.classes ≡ true
  class_right c s agree place = ap (λ o. option_map_or (λ s. same_classes i g s c 0 i.classes) o true) (sym (number_of (2 ^ 41) (p.table c) s place)) ∙ agree

  class_of_unit : (u s c : ℕ) → class_of i p t u s ≡ Some c → (class_agrees i g c ≡ true) × (p.table c ≡ class_address s)
  class_of_unit u s c e = by_unit (slice_get t.units u) refl e
    where
      by_unit : (o : Option TypedUnit) → slice_get t.units u ≡ o
          → first_class (λ c. p.table c == class_address s) (option_map_or (λ (x : TypedUnit). x.classes) o []) ≡ Some c → (class_agrees i g c ≡ true)
          × (p.table c ≡ class_address s)
      by_unit None is e = absurd cc
      by_unit (Some x) is e = (
        class_holds (λ c. p.table c == class_address s) (class_agrees i g) x.classes c
            (all_there (λ (x : TypedUnit). definitions_agree i g x.classes) t.units u x units is) e,
        eqb-true (p.table c) (class_address s) (class_is (λ c. p.table c == class_address s) x.classes c e),
      )

  -- ---- what is told

  pub told : Told i p t
  told = record {
    there = λ n f e. same_by f (p.func n) (subst (λ z. same_func f (p.func z) ≡ true) (first n) (func_at_place p 0 i.funcs n f funcs e));
    past = λ n e. func_past g n (slice_get_past (kept_funcs t) n (subst (λ z. z ≤ n) funcs_counted (none_past i.funcs n e)));
    pointed = λ a n sig e. let f = pointed_found g a n sig e in (f.0, subst (λ z. n < z) (sym funcs_counted) f.1);
    slotted = λ a c slot n e. let f = linked_slot_found g a c slot n e in (f.at, f.address, subst (λ z. f.at < z) (sym classes_counted) f.within);
    slots = λ u s c e a slot. let f = class_of_unit u s c e in slots_right s c (class_right c s f.0 f.1) a slot;
    threads = λ n l. all_first (λ n. same_number ((names_of i).spawned (func_address n)) (p.pointed (func_address n) thread_signature)) i.funcs n
        (and_parts (all_places (λ n. same_number ((names_of i).spawned (func_address n)) (p.pointed (func_address n) thread_signature)) 0 i.funcs)
        (pointed_pass i p t thread_signature 1 false) threads).0 l;
  }

  -- ---- where threads begin

  has_room : (id size : ℕ) → size ≤ most_frame → nat_lt (empty_stack id).limit ((empty_stack id).end + size) ≡ false
  has_room id size l = grind (arith, l)

  frame_within : (n : ℕ) → n < length i.funcs → (func_of p n).size ≤ most_frame
  frame_within n l =
      let f = is_there i.funcs n l in
      let s = told.there n f.0 f.1 in
      subst (λ (z : Option Func). (unwrap_or z no_func).size ≤ most_frame) (sym s.is) s.within

  gives_there : (n : ℕ) → func_gives i n ≡ true → (f : ImageFuncView) × (slice_get i.funcs n ≡ Some f)
  gives_there n e = by_func (slice_get i.funcs n) refl e
    where
      by_func : (o : Option ImageFuncView) → slice_get i.funcs n ≡ o → option_map_or (λ (f : ImageFuncView). gives_of f.ty == 1) o false ≡ true
          → (f : ImageFuncView) × (slice_get i.funcs n ≡ Some f)
      by_func None is e = absurd cc
      by_func (Some f) is e = (f, is)

  module _ (notes : ℕ → Bool → List Note) (typs : ℕ → Bool → List Typ) where
    main_begins : Begins p (names_of i) (linked_book i g notes typs) 0 p.main []
    main_begins =
        let a = and_parts (i.main == p.main) ((func_takes p i.main == 0) && func_gives i i.main) main_right in
        let c = and_parts (func_takes p i.main == 0) (func_gives i i.main) a.1 in
        let same : i.main ≡ p.main = eqb-true i.main p.main a.0 in
        subst (λ z. Begins p (names_of i) (linked_book i g notes typs) 0 z []) same (begins (gives_there i.main c.1) (eqb-true (func_takes p i.main) 0 c.0) c.1)
      where
        begins : (f : ImageFuncView) × (slice_get i.funcs i.main ≡ Some f) → func_takes p i.main ≡ 0 → func_gives i i.main ≡ true
            → Begins p (names_of i) (linked_book i g notes typs) 0 i.main []
        begins f takes gives =
            let l = slice_get_within i.funcs i.main f.0 f.1 in
            let body = plain_is i p t told notes typs i.main l in
            record {
              body = body.0;
              there = body.1;
              gives = gives;
              takes = takes;
              starts = refl;
              ends = refl;
              room =
                  has_room 0 (func_of p i.main).size (frame_within i.main l);
            }

    thread_begins : (id a n word : ℕ) → (id == 0) ≡ false → p.pointed a thread_signature ≡ Some n
        → Begins p (names_of i) (linked_book i g notes typs) id n (word ∷ [])
    thread_begins id a n word other e =
        let passing = (and_parts (all_places (λ n. same_number ((names_of i).spawned (func_address n)) (p.pointed (func_address n) thread_signature)) 0 i.funcs)
        (pointed_pass i p t thread_signature 1 false) threads).1 in
        let w = pointed_whole i p t told notes typs a n thread_signature 1 false passing e in
        let l = (told.pointed a n thread_signature e).1 in
        record {
          body = w.body;
          there = w.there;
          gives = w.gives_so ∙ sym other;
          takes = w.takes;
          starts = refl;
          ends = refl;
          room =
              has_room id (func_of p n).size (frame_within n l);
        }

pub linked_where_agreed : (i : ImageView) (g : Given) → agrees i g ≡ true → AreLinked i g
linked_where_agreed i g h b notes typs checked = record {
  links = links_are i (linked_of g) (typed g) (told i g h) notes typs b checked;
  main = main_begins i g h notes typs;
  threads = λ id a n word other e. thread_begins i g h notes typs id a n word other e;
}
