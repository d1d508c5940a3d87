-- Rows of nodes ask of a setting what it has still where it has grown.
use Rattle.std.proofs.Common.{◌≡◌, refl, sym, ap, ◌∙◌, ℕ, ◌==◌, ◌<◌, Bool, true, false, not, ◌&&◌, nat_lt, List, [], ◌∷◌, length, drop, slice_get}
use Rattle.std.proofs.Common.{Option, Some, None, option_and_then, arith, lt-ltb, ltb-true}
use Rattle.std.specs.List.{list_all}
use Rattle.cpp_types.specs.Typ.{Typ, typ, int, func, Signature}
use Rattle.cpp_types.specs.Conversion.{is_lvalue}
use Rattle.cpp_types.specs.Equal.{name_eq, form_eq, typ_eq}
use Rattle.cpp_types.specs.Trivial.{takes_itself}
use Rattle.cpp_types.specs.declared.ranks.Cat.{Cat}
use Rattle.cpp_tree.specs.tx_ints.declared.kinds.IntKind.TheVariants.{ULong}
use Rattle.cpp_tree.specs.declared.kinds.TKind.{TKind}
use Rattle.cpp_tree.specs.declared.kinds.TKind.TheVariants.{Local, Global, Function as FunctionAddress, ClassTable, Load, Materialize, Call, VirtualCall, Throw}
use Rattle.cpp_tree.specs.declared.kinds.TKind.TheVariants.{Construct, CopyConstruct, Pieces, Piece, Elements, Init, Defer, Return, Handler, Destroy}
use Rattle.cpp_tree.specs.declared.program.FuncKind.{FuncKind}
use Rattle.cpp_tree.specs.Units.{Func, Global as GlobalRecord, SlotFunc}
use Rattle.cpp_tree.specs.Typing.{Head, passes, form_in, is_void, is_class, unqualified, is_prvalue, is_statement_typ, builds, is_result, are_words}
use Rattle.cpp_tree.specs.Parts.{are_destroyed, Objects}
use Rattle.cpp_tree.specs.Rows.{Setting, is_constructor, is_destructor, is_special, result_in, result_of, words_of, signature_words, is_member_of, is_slot_of}
use Rattle.cpp_tree.specs.Rows.{is_virtual_call, at_place, is_load, is_destruction, offsets_fall, are_destructions, is_constructor_of, is_thrown, is_loaded}
use Rattle.cpp_tree.specs.Rows.{referred, is_handler_of, is_return, kid, two_kids, row_fits}
use Rattle.setting_growth.specs.Growth.{HeldEarlier, Grows, SameFunc, slot_at, SlotsGrow}
use Rattle.setting_growth.proofs.Still.{Still, same, equal, both, one_of, each, kept}
use Rattle.setting_growth.proofs.Pieces.{are_pieces_still, are_elements_still, has_pointer_still, are_destroyed_still}
use Rattle.setting_growth.proofs.Scalars.{are_scalars_still}

-- what is read of a function is the same
module _ (f h : Func) (e : SameFunc f h) where
  pub result_same : result_of h ≡ result_of f
  result_same = ap (λ (k : FuncKind). result_in k h.declared.signature) e.kind ∙ ap (result_in f.kind) e.signature

  pub words_same : words_of h ≡ words_of f
  words_same = ap (λ (n : Option ℕ). signature_words n h.declared.signature) e.class ∙ ap (signature_words f.class) e.signature

  slot_of_same : (n : ℕ) (x : SlotFunc) → is_slot_of n h.declared x ≡ is_slot_of n f.declared x
  slot_of_same n x = ap (λ (s : List ℕ). x.class == n && name_eq x.name s && form_eq (func x.signature) (func h.declared.signature)) e.name
      ∙ ap (λ (s : Signature). x.class == n && name_eq x.name f.declared.name && form_eq (func x.signature) (func s)) e.signature

  pub called_still : (t : Typ) (cat : Cat) → Still (is_result (result_of f) t cat) (is_result (result_of h) t cat)
  called_still t cat = equal (ap (λ (r : Typ). is_result r t cat) result_same)

  pub passed_still : (hs : List Head) → Still (are_words (words_of f) hs) (are_words (words_of h) hs)
  passed_still hs = equal (ap (λ ws. are_words ws hs) words_same)

-- heads of kids
kid_still : (i : ℕ) (p q : Head → Bool) (hs : List Head) → ((h : Head) → Still (p h) (q h)) → Still (kid i p hs) (kid i q hs)
kid_still i p q hs s = each (slice_get hs i) p q s

two_still : (p q : Head → Head → Bool) (hs : List Head) → ((a b : Head) → Still (p a b) (q a b)) → Still (two_kids p hs) (two_kids q hs)
two_still p q hs s = kid_still 0 (λ a. kid 1 (λ b. p a b) hs) (λ a. kid 1 (λ b. q a b) hs) hs
    (λ a. kid_still 1 (λ b. p a b) (λ b. q a b) hs (λ b. s a b))

all_still : {A : Type 0} (p q : A → Bool) (xs : List A) → ((x : A) → Still (p x) (q x)) → Still (list_all p xs) (list_all q xs)
all_still p q [] s = same true
all_still p q (x ∷ xs) s = both (s x) (all_still p q xs s)

-- slots
passes_slot : (p : SlotFunc → Bool) (slots : List (List SlotFunc)) (n i : ℕ)
    → passes (λ (xs : List SlotFunc). passes p (slice_get xs i)) (slice_get slots n) ≡ passes p (slot_at slots n i)
passes_slot p slots n i = by (slice_get slots n)
  where
    by : (o : Option (List SlotFunc)) → passes (λ (xs : List SlotFunc). passes p (slice_get xs i)) o ≡ passes p
        (option_and_then (λ (xs : List SlotFunc). slice_get xs i) o)
    by None = refl
    by (Some xs) = refl

slots_still : (old new : List (List SlotFunc)) → SlotsGrow old new → (p q : SlotFunc → Bool) → ((x : SlotFunc) → Still (p x) (q x)) → (n i : ℕ)
    → Still (passes (λ (xs : List SlotFunc). passes p (slice_get xs i)) (slice_get old n))
    (passes (λ (xs : List SlotFunc). passes q (slice_get xs i)) (slice_get new n))
slots_still old new g p q s n i = record {
  up = λ h. passes_slot q new n i ∙ (kept (slot_at old n i) (slot_at new n i) p q (g.kept n i) (λ x e. s x)).up (sym (passes_slot p old n i) ∙ h);
}

module _ (old new : Setting) (o : HeldEarlier old.classes) (g : Grows old new) where
  -- Functions

  funcs_by : (p q : Func → Bool) → ((f h : Func) → SameFunc f h → Still (p f) (q h)) → (i : ℕ) (x : Option Func) → slice_get old.funcs i ≡ x
      → passes p x ≡ true → passes q (slice_get new.funcs i) ≡ true
  funcs_by p q s i None e h = absurd cc
  funcs_by p q s i (Some f) e h = let k = g.funcs.kept i f e in ap (passes q) k.at ∙ (s f k.func k.same).up h

  funcs_still : (p q : Func → Bool) → ((f h : Func) → SameFunc f h → Still (p f) (q h)) → (i : ℕ)
      → Still (passes p (slice_get old.funcs i)) (passes q (slice_get new.funcs i))
  funcs_still p q s i = record { up = funcs_by p q s i (slice_get old.funcs i) refl }

  globals_by : (p : Typ → Bool) (i : ℕ) (x : Option GlobalRecord) → slice_get old.globals i ≡ x → passes (λ (v : GlobalRecord). p v.typ) x ≡ true
      → passes (λ (v : GlobalRecord). p v.typ) (slice_get new.globals i) ≡ true
  globals_by p i None e h = absurd cc
  globals_by p i (Some v) e h = let k = g.globals.kept i v e in ap (passes (λ (x : GlobalRecord). p x.typ)) k.at ∙ ap p k.typ ∙ h

  globals_still : (p : Typ → Bool) (i : ℕ)
      → Still (passes (λ (v : GlobalRecord). p v.typ) (slice_get old.globals i)) (passes (λ (v : GlobalRecord). p v.typ) (slice_get new.globals i))
  globals_still p i = record { up = globals_by p i (slice_get old.globals i) refl }

  -- The function at hand

  pub hand_result : result_of new.function ≡ result_of old.function
  hand_result = ap (λ (k : FuncKind). result_in k new.function.declared.signature) g.function.kind ∙ ap (result_in old.function.kind) g.function.signature

  place_still : (place : ℕ) (t : Typ) → Still (at_place old.function.frame place t) (at_place new.function.frame place t)
  place_still place t = kept (slice_get old.function.frame place) (slice_get new.function.frame place) (typ_eq t) (typ_eq t) (g.function.frame place)
      (λ u e. same (typ_eq t u))

  index_still : (n : ℕ) → Still (nat_lt n (length old.classes)) (nat_lt n (length new.classes))
  index_still n = record {
    up = λ h. let l : n < length old.classes = ltb-true n (length old.classes) h in
        let m = g.classes.many in lt-ltb n (length new.classes) (omega arith);
  }

  -- Destructions

  destroys_still : (x : ℕ → Objects) (offset : ℕ) (t : Typ) (f h : Func) → SameFunc f h
      → Still (is_destructor f.kind && passes (λ (n : ℕ). are_destroyed old.classes (x n) offset t) f.class)
      (is_destructor h.kind && passes (λ (n : ℕ). are_destroyed new.classes (x n) offset t) h.class)
  destroys_still x offset t f h e = both (equal (ap is_destructor e.kind)) (record {
    up = λ k. ap (passes (λ (n : ℕ). are_destroyed new.classes (x n) offset t)) e.class ∙ (each f.class (λ (n : ℕ). are_destroyed old.classes (x n) offset t)
        (λ (n : ℕ). are_destroyed new.classes (x n) offset t) (λ n. are_destroyed_still old.classes new.classes g.classes o (x n) offset t)).up k;
  })

  destruction_still : (t : Typ) (kind : TKind) → Still (is_destruction old t kind) (is_destruction new t kind)
  destruction_still t (Destroy f offset count stride) = funcs_still _ _
      (destroys_still (λ n. record { class = n; count = count; stride = stride }) offset t) f
  destruction_still t kind = same false

  pub are_destructions_still : (t : Typ) (hs : List Head) → Still (are_destructions old t hs) (are_destructions new t hs)
  are_destructions_still t hs = both (all_still (λ (h : Head). is_destruction old t h.kind) (λ (h : Head). is_destruction new t h.kind) hs
      (λ h. destruction_still t h.kind)) (same (offsets_fall hs))

  -- Calls

  called : (t : Typ) (cat : Cat) (hs : List Head) (f h : Func) → SameFunc f h
      → Still (not (is_special f.kind) && is_result (result_of f) t cat && are_words (words_of f) hs)
      (not (is_special h.kind) && is_result (result_of h) t cat && are_words (words_of h) hs)
  called t cat hs f h e = both (both (equal (ap (λ (k : FuncKind). not (is_special k)) e.kind)) (called_still f h e t cat)) (passed_still f h e hs)

  virtual_called : (n slot : ℕ) (t : Typ) (cat : Cat) (hs : List Head) (f h : Func) → SameFunc f h
      → Still (is_virtual_call old n slot t cat f && are_words (words_of f) hs) (is_virtual_call new n slot t cat h && are_words (words_of h) hs)
  virtual_called n slot t cat hs f h e = both (both (both (both (equal (ap (is_member_of n) e.class)) (equal e.is_virtual))
      (slots_still old.slots new.slots g.slots (is_slot_of n f.declared) (is_slot_of n h.declared) (λ x. equal (slot_of_same f h e n x)) n slot))
      (called_still f h e t cat)) (passed_still f h e hs)

  constructed : (t : Typ) (hs : List Head) (f h : Func) → SameFunc f h
      → Still (is_constructor_of t f.kind f.class && are_words (signature_words None f.declared.signature) hs)
      (is_constructor_of t h.kind h.class && are_words (signature_words None h.declared.signature) hs)
  constructed t hs f h e = both
      (equal (ap (λ (k : FuncKind). is_constructor_of t k h.class) e.kind ∙ ap (is_constructor_of t f.kind) e.class))
      (equal (ap (λ (x : Signature). are_words (signature_words None x) hs) e.signature))

  copied : (t : Typ) (f h : Func) → SameFunc f h
      → Still (is_constructor f.kind && passes (λ (n : ℕ). is_class n (form_in t) && takes_itself n f.declared.signature) f.class)
      (is_constructor h.kind && passes (λ (n : ℕ). is_class n (form_in t) && takes_itself n h.declared.signature) h.class)
  copied t f h e = both (equal (ap is_constructor e.kind)) (equal
      (ap (passes (λ (n : ℕ). is_class n (form_in t) && takes_itself n h.declared.signature)) e.class
      ∙ ap (λ (x : Signature). passes (λ (n : ℕ). is_class n (form_in t) && takes_itself n x) f.class) e.signature))

  addressed : (t : Typ) (f h : Func) → SameFunc f h
      → Still (typ_eq t (typ (func f.declared.signature) false false)) (typ_eq t (typ (func h.declared.signature) false false))
  addressed t f h e = equal (ap (λ (x : Signature). typ_eq t (typ (func x) false false)) e.signature)

  handler_still : (place : Option ℕ) (t : Typ) (hs : List Head)
      → Still (is_handler_of old.classes old.function.frame place t hs) (is_handler_of new.classes new.function.frame place t hs)
  handler_still None t hs = same (length hs == 0)
  handler_still (Some place) t hs = both (place_still place (referred t)) (are_scalars_still old.classes new.classes g.classes o (referred t) hs)

  -- Rows

  pub row_still : (kind : TKind) (t : Typ) (cat : Cat) (hs : List Head) → Still (row_fits old kind t cat hs) (row_fits new kind t cat hs)
  row_still (Local place) t cat hs = both (same (is_lvalue cat)) (place_still place t)
  row_still (Global i) t cat hs = both (same (is_lvalue cat)) (globals_still (typ_eq t) i)
  row_still (FunctionAddress f) t cat hs = both (same (is_lvalue cat)) (funcs_still _ _ (addressed t) f)
  row_still (ClassTable n) t cat hs = both (same (is_prvalue cat && typ_eq t (typ (int ULong) false false))) (index_still n)
  row_still (Load k volatile) t cat hs = equal (ap (λ (r : Typ). kid 0 (is_load r k volatile t cat) hs) hand_result)
  row_still (Materialize place argument) t cat hs = both (both (both (same (is_lvalue cat)) (place_still place t)) (same (kid 0 (builds t) hs)))
      (are_destructions_still t (drop 1 hs))
  row_still (Call f) t cat hs = funcs_still _ _ (called t cat hs) f
  row_still (VirtualCall f n slot pointer) t cat hs = both (funcs_still _ _ (virtual_called n slot t cat hs) f)
      (has_pointer_still old.classes new.classes g.classes o pointer n)
  row_still Throw t cat hs = both (same (is_prvalue cat && typ_eq t (unqualified t) && kid 0 (is_thrown t) hs))
      (are_scalars_still old.classes new.classes g.classes o t (drop 1 hs))
  row_still (Construct f) t cat hs = both (same (is_prvalue cat)) (funcs_still _ _ (constructed t hs) f)
  row_still (CopyConstruct f) t cat hs = both (same (is_prvalue cat)) (funcs_still _ _ (copied t) f)
  row_still Pieces t cat hs = both (same (is_prvalue cat)) (are_pieces_still old.classes new.classes g.classes o t hs)
  row_still (Piece offset) t cat hs = both (same (is_prvalue cat && kid 0 (builds t) hs)) (are_destructions_still t (drop 1 hs))
  row_still (Elements count stride) t cat hs = both (same (is_prvalue cat && nat_lt 0 count)) (kid_still 0 _ _ hs
      (λ h. both (are_elements_still old.classes new.classes g.classes o count stride 1 t h) (are_destructions_still h.typ (drop 1 hs))))
  row_still Init t cat hs = both (same (is_statement_typ t cat)) (two_still _ _ hs
      (λ a b. one_of (both (same (is_lvalue a.cat && builds a.typ b)) (are_destructions_still a.typ (drop 2 hs)))
      (same (is_prvalue a.cat && is_void a.typ && is_loaded a.kind && length hs == 2))))
  row_still Defer t cat hs = both (same (is_statement_typ t cat)) (kid_still 0 _ _ hs
      (λ h. both (same (is_lvalue h.cat)) (are_destructions_still h.typ (drop 1 hs))))
  row_still Return t cat hs = both (same (is_statement_typ t cat)) (equal (ap (λ (r : Typ). is_return r hs) hand_result))
  row_still (Handler place) t cat hs = both (same (is_prvalue cat)) (handler_still place t (drop 1 hs))
  row_still kind t cat hs = same _
