-- Where an image and a linked program agree, and the bodies are checked, they are linked.
use Rattle.std.proofs.Common.{ℕ, suc, ◌≡◌, ◌+◌, ◌<◌, ◌≤◌, ◌==◌, nat_lt, Bool, true, false, cond, refl, ap, sym, ◌∙◌, subst, List, [], ◌∷◌, length, Option, Some}
use Rattle.std.proofs.Common.{None, arith}
use Rattle.std.specs.Prelude.{slice_get, ◌&&◌, nat_le, nat_eq, option_and_then, unwrap_or, is_some}
use Rattle.std.specs.List.{starts_with}
use Rattle.std.specs.Option.{option_map_or}
use Rattle.std.proofs.lemmas.Bool.{and_parts, eqb-true, leb-true, ltb-true}
use Rattle.tx_code.specs.Objects.{BodyView}
use Rattle.tx_code.specs.Images.{ImageFuncView, ImageView}
use Rattle.tx_code.specs.Program.{names_of, body_in, func_address, class_address, global_address, cancelling}
use Rattle.tx_code.proofs.LawfulThreads.{rows_itself}
use Rattle.cpp_tree.specs.cpp_types.Typ.{Typ, typ, void, Signature}
use Rattle.cpp_tree.specs.cpp_types.Equal.{name_eq, flag_eq}
use Rattle.cpp_tree.specs.Units.{TypedProgram}
use Rattle.src_mean.specs.Linked.{Func, Program}
use Rattle.src_mean.specs.Links.{globals_in, funcs_in}
use Rattle.src_mean.specs.Source.{thread_signature, is_safe}
use Rattle.symbolic_code.specs.Following.{AreNames}
use Rattle.body_check.specs.Notes.{Note, Bounds}
use Rattle.body_check.specs.Cases.{spelled}
use Rattle.body_check.specs.Calls.{Book, Whole, Links}
use Rattle.image_links.specs.Books.{all_places, same_number, first_place, spelling_place, no_func, no_body, classes_in, type_number, cancels_alike, thrown_types, is_told_apart, func_of}
use Rattle.image_links.specs.Books.{func_takes, func_gives, passes_as, pointed_pass, slotted_pass, function_of, class_of, is_signature, is_of_type, is_slot}
use Rattle.image_links.specs.Books.{table_of, body_of, book_of}
use Rattle.image_links.specs.Agreeing.{same_func, most_frame, AllChecked}
use Rattle.image_links.proofs.Found.{all_at, first_is, class_is, typ_is, number_same, flag_same, name_same, where_there, is_there}
use Rattle.image_links.proofs.Looked.{called_found, spawned_found, body_found}

pub all_first : {A : Type 0} (test : ℕ → Bool) (xs : List A) (n : ℕ) → all_places test 0 xs ≡ true → n < length xs → test n ≡ true
all_first test xs n h l = ap test (own n) ∙ all_at test 0 xs n h l
  where
    own : (n : ℕ) → n ≡ 0 + n
    own n = omega arith

-- a spelling that does not begin so is no cancelling type at its place
none_cancels : (s : List ℕ) (ts : List (List ℕ)) → starts_with nat_eq s cancelling ≡ false
    → option_map_or (λ z. starts_with nat_eq z cancelling) (slice_get ts (spelling_place s ts)) false ≡ false
none_cancels s [] h = refl
none_cancels s (t ∷ ts) h = by_test (name_eq s t) refl (none_cancels s ts h)
  where
    by_test : (b : Bool) → name_eq s t ≡ b → option_map_or (λ z. starts_with nat_eq z cancelling) (slice_get ts (spelling_place s ts)) false ≡ false
        → option_map_or (λ z. starts_with nat_eq z cancelling) (slice_get (t ∷ ts) (cond b 0 (suc (spelling_place s ts)))) false ≡ false
    by_test true is more = ap (λ z. starts_with nat_eq z cancelling) (sym (name_same s t is)) ∙ h
    by_test false is more = more

-- what is equal of a function of the image and one of the program
pub record Same (f : ImageFuncView) (o : Option Func) : Type 0 where
  pub func : Func
  pub is : o ≡ Some func
  pub frame : f.frame ≡ func.size
  pub stops : f.no_except ≡ func.stops
  pub safe : is_some f.safe ≡ func.safe
  pub within : func.size ≤ most_frame

pub same_by : (f : ImageFuncView) (o : Option Func) → same_func f o ≡ true → Same f o
same_by f None e = absurd cc
same_by f (Some h) e =
    let a = and_parts (f.frame == h.size) (flag_eq f.no_except h.stops && (flag_eq (is_some f.safe) h.safe && nat_le h.size most_frame)) e in
    let b = and_parts (flag_eq f.no_except h.stops) (flag_eq (is_some f.safe) h.safe && nat_le h.size most_frame) a.1 in
    let c = and_parts (flag_eq (is_some f.safe) h.safe) (nat_le h.size most_frame) b.1 in
    record {
      func = h;
      is = refl;
      frame = eqb-true f.frame h.size a.0;
      stops = flag_same f.no_except h.stops b.0;
      safe = flag_same (is_some f.safe) h.safe c.0;
      within = leb-true h.size most_frame c.1;
    }

-- what the tests tell
pub record Told (i : ImageView) (p : Program) (t : TypedProgram) : Type 0 where
  pub there : (n : ℕ) (f : ImageFuncView) → slice_get i.funcs n ≡ Some f → Same f (p.func n)
  pub past : (n : ℕ) → slice_get i.funcs n ≡ None → p.func n ≡ None
  pub pointed : (a n : ℕ) (sig : Signature) → p.pointed a sig ≡ Some n → (a ≡ func_address n) × (n < length i.funcs)
  pub slotted : (a c slot n : ℕ) → p.slot a c slot ≡ Some n → (d : ℕ) × (a ≡ class_address d) × (d < length i.classes)
  pub slots : (u s c : ℕ) → class_of i p t u s ≡ Some c → (a slot : ℕ) → (names_of i).slot_of s a slot ≡ p.slot a c slot
  pub threads : (n : ℕ) → n < length i.funcs → same_number ((names_of i).spawned (func_address n)) (p.pointed (func_address n) thread_signature) ≡ true

module _ (i : ImageView) (p : Program) (t : TypedProgram) (told : Told i p t) (notes : ℕ → Bool → List Note) (typs : ℕ → Bool → List Typ) where
  abbrev book : Book
  book = book_of i p t notes typs

  frame_same : (n : ℕ) → (names_of i).frame n ≡ (func_of p n).size
  frame_same n = by_func (slice_get i.funcs n) refl
    where
      by_func : (o : Option ImageFuncView) → slice_get i.funcs n ≡ o → option_map_or (λ (f : ImageFuncView). f.frame) o 0 ≡ (unwrap_or (p.func n) no_func).size
      by_func None is = ap (λ (z : Option Func). (unwrap_or z no_func).size) (sym (told.past n is))
      by_func (Some f) is = let s = told.there n f is in s.frame ∙ ap (λ (z : Option Func). (unwrap_or z no_func).size) (sym s.is)

  stops_same : (n : ℕ) → (names_of i).no_except n ≡ (func_of p n).stops
  stops_same n = by_func (slice_get i.funcs n) refl
    where
      by_func : (o : Option ImageFuncView) → slice_get i.funcs n ≡ o
          → option_map_or (λ (f : ImageFuncView). f.no_except) o false ≡ (unwrap_or (p.func n) no_func).stops
      by_func None is = ap (λ (z : Option Func). (unwrap_or z no_func).stops) (sym (told.past n is))
      by_func (Some f) is = let s = told.there n f is in s.stops ∙ ap (λ (z : Option Func). (unwrap_or z no_func).stops) (sym s.is)

  safe_same : (n : ℕ) → is_safe (p.func n) ≡ is_some ((names_of i).body n true)
  safe_same n = by_func (slice_get i.funcs n) refl
    where
      by_func : (o : Option ImageFuncView) → slice_get i.funcs n ≡ o → is_safe (p.func n) ≡ is_some (option_and_then (λ (f : ImageFuncView). body_in f true) o)
      by_func None is = ap is_safe (told.past n is)
      by_func (Some f) is = let s = told.there n f is in ap is_safe s.is ∙ sym s.safe

  func_is : (n : ℕ) (safe : Bool) (body : BodyView) → (names_of i).body n safe ≡ Some body → p.func n ≡ Some (func_of p n)
  func_is n safe body e =
      let f = body_found i n safe body e in
      let s = told.there n f.0 f.1 in
      s.is ∙ ap (λ (z : Option Func). Some (unwrap_or z no_func)) (sym s.is)

  pub plain_is : (n : ℕ) → n < length i.funcs → (body : BodyView) × ((names_of i).body n false ≡ Some body)
  plain_is n l =
      let f = is_there i.funcs n l in
      (f.0.plain, ap (λ (o : Option ImageFuncView). option_and_then (λ (g : ImageFuncView). body_in g false) o) f.1)

  -- ---- names

  function_is : (u s n : ℕ) → function_of i p t u s ≡ Some n → (s < length i.funcs) × (p.number u n ≡ s)
  function_is u s n e = by_test (nat_lt s (length i.funcs)) refl e
    where
      by_test : (b : Bool) → nat_lt s (length i.funcs) ≡ b → cond b (first_place (λ n. p.number u n == s) 0 (funcs_in t u)) None ≡ Some n → (s < length i.funcs)
          × (p.number u n ≡ s)
      by_test true is e = (ltb-true s (length i.funcs) is, eqb-true (p.number u n) s (first_is (λ n. p.number u n == s) 0 (funcs_in t u) n e))
      by_test false is e = absurd cc

  spawned_same : (a : ℕ) → (names_of i).spawned a ≡ p.pointed a thread_signature
  spawned_same a = where_there ((names_of i).spawned a) (p.pointed a thread_signature) (λ n e. let at = spawned_found i a n e in same n at.0 at.1)
      (λ n e. let at = told.pointed a n thread_signature e in same n at.0 at.1)
    where
      same : (n : ℕ) → a ≡ func_address n → n < length i.funcs → (names_of i).spawned a ≡ p.pointed a thread_signature
      same n place l = subst (λ z. (names_of i).spawned z ≡ p.pointed z thread_signature) (sym place)
          (number_same ((names_of i).spawned (func_address n)) (p.pointed (func_address n) thread_signature) (told.threads n l))

  signature_same : (s : ℕ) (sig : Signature) → is_signature i p t s sig ≡ true → (a : ℕ) → (names_of i).called s a ≡ p.pointed a sig
  signature_same s sig h a = where_there ((names_of i).called s a) (p.pointed a sig) (λ n e. let at = called_found i s a n e in same n at.0 at.1)
      (λ n e. let at = told.pointed a n sig e in same n at.0 at.1)
    where
      same : (n : ℕ) → a ≡ func_address n → n < length i.funcs → (names_of i).called s a ≡ p.pointed a sig
      same n place l = subst (λ z. (names_of i).called s z ≡ p.pointed z sig) (sym place)
          (number_same ((names_of i).called s (func_address n)) (p.pointed (func_address n) sig)
          (all_first (λ n. same_number ((names_of i).called s (func_address n)) (p.pointed (func_address n) sig)) i.funcs n h l))

  method_is : (s class slot a n : ℕ) → is_slot i p t s class slot ≡ true → p.slot a class slot ≡ Some n → (names_of i).called s (func_address n) ≡ Some n
  method_is s class slot a n h e =
      let at = told.slotted a class slot n e in
      let found : p.slot (class_address at.0) class slot ≡ Some n = ap (λ z. p.slot z class slot) (sym at.1) ∙ e in
      number_same ((names_of i).called s (func_address n)) (Some n)
      (ap (λ o. is_of_type i s o) (sym found) ∙ all_first (λ d. is_of_type i s (p.slot (class_address d) class slot)) i.classes at.0 h at.2)

  names_are : (n : ℕ) (safe : Bool) → AreNames p (func_of p n) (type_number i p t) (names_of i) ((names_of i).numbering n)
      (table_of i p t (func_of p n).unit (typs n safe))
  names_are n safe = record {
    globals = λ s m e. sym (eqb-true (p.global (func_of p n).unit m) (global_address s)
        (first_is (λ m. p.global (func_of p n).unit m == global_address s) 0 (globals_in t (func_of p n).unit) m e));
    functions = λ s m e. ap func_address (sym (function_is (func_of p n).unit s m e).1);
    classes = λ s c e. sym (eqb-true (p.table c) (class_address s) (class_is (λ c. p.table c == class_address s) (classes_in t (func_of p n).unit) c e));
    types = λ s typ e. sym (eqb-true (type_number i p t typ) s (typ_is (λ typ. type_number i p t typ == s) (typs n safe) typ e));
    addresses = λ m. refl;
    slots = λ s c e a slot. told.slots (func_of p n).unit s c e a slot;
    spawned = λ a. spawned_same a;
    signatures = λ s sig e a. signature_same s sig e a;
    methods = λ s class slot a m e f. method_is s class slot a m e f;
  }

  -- ---- functions that are found

  whole_by : (n count : ℕ) (gives : Bool) → passes_as i p t count gives (Some n) ≡ true → Whole (names_of i) book n count gives
  whole_by n count gives e =
      let a = and_parts (nat_lt n (length i.funcs)) ((func_takes p n == count) && flag_eq (func_gives i n) gives) e in
      let c = and_parts (func_takes p n == count) (flag_eq (func_gives i n) gives) a.1 in
      let body = plain_is n (ltb-true n (length i.funcs) a.0) in
      record { body = body.0; there = body.1; takes = eqb-true (func_takes p n) count c.0; gives_so = flag_same (func_gives i n) gives c.1 }

  pub pointed_whole : (a n : ℕ) (sig : Signature) (count : ℕ) (gives : Bool) → pointed_pass i p t sig count gives ≡ true → p.pointed a sig ≡ Some n
      → Whole (names_of i) book n count gives
  pointed_whole a n sig count gives h e =
      let at = told.pointed a n sig e in
      let found : p.pointed (func_address n) sig ≡ Some n = ap (λ z. p.pointed z sig) (sym at.0) ∙ e in
      whole_by n count gives (ap (λ o. passes_as i p t count gives o) (sym found) ∙ all_first
      (λ n. passes_as i p t count gives (p.pointed (func_address n) sig)) i.funcs n h at.1)

  slotted_whole : (a class slot n count : ℕ) (gives : Bool) → slotted_pass i p t class slot count gives ≡ true → p.slot a class slot ≡ Some n
      → Whole (names_of i) book n count gives
  slotted_whole a class slot n count gives h e =
      let at = told.slotted a class slot n e in
      let found : p.slot (class_address at.0) class slot ≡ Some n = ap (λ z. p.slot z class slot) (sym at.1) ∙ e in
      whole_by n count gives (ap (λ o. passes_as i p t count gives o) (sym found) ∙ all_first
      (λ d. passes_as i p t count gives (p.slot (class_address d) class slot)) i.classes at.0 h at.2)

  -- ---- the links

  body_is : (n : ℕ) (safe : Bool) (body : BodyView) → (names_of i).body n safe ≡ Some body → body_of i p t n safe ≡ body
  body_is n safe body e = ap (λ (o : Option BodyView). unwrap_or o no_body) e

  void_thrown : thrown_types i p t (typ void false false) ≡ true
  void_thrown = ap (λ b. flag_eq b false && is_told_apart p.classes (typ void false false)) (none_cancels (spelled p.classes void) i.types refl)

  alike_of : (ty : Typ) → thrown_types i p t ty ≡ true → cancels_alike i p t ty ≡ true
  alike_of ty e = (and_parts (cancels_alike i p t ty) (is_told_apart p.classes ty) e).0

  pub links_are : (b : Bounds) → AllChecked i p b book → Links p (names_of i) b book
  links_are b checked = record {
    bodies = λ n safe body e. body_is n safe body e;
    funcs = λ n safe body e. func_is n safe body e;
    numbers = λ n safe. refl;
    safes = λ n safe. refl;
    frames = λ n safe. frame_same n;
    rows = λ n safe body e. rows_itself body.rows ∙ ap (λ (z : BodyView). z.rows) (sym (body_is n safe body e));
    stops = λ n safe. stops_same n;
    stops_so = λ n safe. refl;
    cancels = λ ty e. flag_same _ _ (alike_of ty e);
    one_type = (typ void false false, void_thrown);
    checked = λ n safe body e. checked n safe body e;
    names = λ n safe. names_are n safe;
    called = λ n safe name callee e. sym (function_is (func_of p n).unit name callee e).1;
    plain_there = λ n safe name callee e. let f = function_is (func_of p n).unit name callee e in
        subst (λ z. (body : BodyView) × ((names_of i).body z false ≡ Some body)) (sym f.1) (plain_is name f.0);
    pointed = λ a n sig count gives h e. pointed_whole a n sig count gives h e;
    slotted = λ a class slot n count gives h e. slotted_whole a class slot n count gives h e;
    safe_bodies = λ n. safe_same n;
  }
