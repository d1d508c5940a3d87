-- What tables say, as the linked program does.
use Rattle.std.proofs.Common.{◌≡◌, ◌∙◌, ◌<◌, ◌+◌, ◌*◌, ◌^◌, ℕ, Bool, cond, ◌&&◌, List, [], map, length, refl, sym, ap, arith, Option, Some, None, slice_get}
use Rattle.std.proofs.Common.{option_map, option_and_then, unwrap_or}
use Rattle.std.specs.Global.{Vec}
use Rattle.std.proofs.lemmas.Option.{slice_get-map, slice_get_within}
use Rattle.std.proofs.Math.Path.{fun_ext}
use Rattle.cpp_tree.specs.cpp_types.Typ.{Signature}
use Rattle.cpp_tree.specs.cpp_types.Equal.{name_eq}
use Rattle.cpp_tree.specs.cpp_types.Spelling.{function_spelling}
use Rattle.cpp_tree.specs.cpp_types.Class.{Class}
use Rattle.cpp_tree.specs.cpp_layout.Layout.{table_address}
use Rattle.cpp_tree.specs.Units.{Func as UnitFunc, Global, SlotFunc}
use Rattle.src_mean.specs.Links.{Def, func_at, global_at, has_type, kept_funcs, kept_globals, kept_classes, global_size, global_offsets, number_in, number_if}
use Rattle.src_mean.specs.Links.{number_of_symbol, numbered, def_of_func, def_of_global, class_name, is_or_has_base, linked, unsafe}
use Rattle.src_bind.specs.declared.infos.FuncInfo.{FuncInfo}
use Rattle.src_bind.specs.Defs.{named}
use Rattle.src_bind.specs.Infos.{info_of, is_of_type, type_found, says}
use Rattle.src_bind.specs.Numbers.{rows, entry, slot_numbers}
use Rattle.src_bind.specs.Globals.{address_in}
use Rattle.src_bind.specs.Tables.{Given, Tables, AreTables, typed, linked_of, name_in, slot_in, place_in}
use Rattle.src_bind.proofs.Keys.{shown_is}
use Rattle.src_bind.proofs.Entries.{table_entry, entry_rows, tested_by, number_if_passes, numbered_hit, numbered_miss}

module _ (g : Given) (s : Tables) (a : AreTables g s) where
  pub number_is : (lent : List (Vec ℕ)) (u n : ℕ) → lent ≡ s.numbers → unwrap_or (entry lent u n) 0 ≡ (linked_of g).number u n
  number_is lent u n e = ap (λ z. unwrap_or (entry z u n) 0) e
      ∙ ap (λ z. unwrap_or z 0) (table_entry (λ u n f. number_in (def_of_func u n f) (kept_funcs (typed g))) (λ x. x.funcs)
      (typed g).units s.numbers u n a.numbers)

  by_global : (offsets : List ℕ) (n : Global → ℕ) (o : Option Global)
      → unwrap_or (option_map (λ (x : Global). address_in offsets (n x)) o) 65536
      ≡ 65536 + unwrap_or (option_and_then (λ (x : Global). slice_get offsets (n x)) o) 0
  by_global offsets n None = refl
  by_global offsets n (Some x) = refl

  pub global_is : (lent : List (Vec ℕ)) (u n : ℕ) → lent ≡ s.globals → unwrap_or (entry lent u n) 65536 ≡ (linked_of g).global u n
  global_is lent u n e =
      let offsets : List ℕ = global_offsets 0 (map (global_size (typed g)) (kept_globals (typed g))) in
      ap (λ z. unwrap_or (entry z u n) 65536) e ∙ ap (λ z. unwrap_or z 65536)
      (table_entry (λ u n x. address_in offsets (number_in (def_of_global u n x) (kept_globals (typed g)))) (λ x. x.globals)
      (typed g).units s.globals u n a.globals)
      ∙ by_global offsets (λ x. number_in (def_of_global u n x) (kept_globals (typed g))) (global_at (typed g) u n)

  pub info_is : (lent : List FuncInfo) (n : ℕ) → lent ≡ s.infos → option_map (info_of g.program) (slice_get lent n) ≡ (linked_of g).func n
  info_is lent n e = ap (λ z. option_map (info_of g.program) (slice_get z n)) e ∙ shown_is g s.infos (kept_funcs (typed g)) n a.keys

  by_class : (kept : List Def) (o : Option Class) → unwrap_or (option_map (λ (c : Class). number_in (named c.name) kept) o) (number_in (named []) kept)
      ≡ number_in (named (unwrap_or (option_map (λ (c : Class). c.name) o) [])) kept
  by_class kept None = refl
  by_class kept (Some c) = refl

  pub table_is : (c : ℕ) → unwrap_or (slice_get s.tables c) s.nameless ≡ number_in (named (class_name (typed g).classes c)) (kept_classes (typed g))
  table_is c = ap (λ z. unwrap_or (slice_get z c) s.nameless) a.tables
      ∙ ap (λ z. unwrap_or z s.nameless) (slice_get-map (λ (x : Class). number_in (named x.name) (kept_classes (typed g))) (typed g).classes c)
      ∙ ap (λ z. unwrap_or (option_map (λ (x : Class). number_in (named x.name) (kept_classes (typed g))) (slice_get (typed g).classes c)) z) a.nameless
      ∙ by_class (kept_classes (typed g)) (slice_get (typed g).classes c)

  by_def : (sig : Signature) (k : ℕ) (o : Option Def)
      → option_and_then (λ (d : Def). number_if (type_found (typed g) sig d) k) o
      ≡ option_and_then (λ (found : Def × ℕ). option_and_then (λ (f : UnitFunc). number_if (has_type (typed g).classes sig f) found.1)
      (func_at (typed g) (found.0).unit (found.0).place)) (option_map (λ d. (d, k)) o)
  by_def sig k None = refl
  by_def sig k (Some d) = number_if_passes (has_type (typed g).classes sig) (func_at (typed g) d.unit d.place) k

  pub pointed_is : (lent : List FuncInfo) (address k : ℕ) (sig : Signature) → lent ≡ s.infos → address ≡ 2 ^ 40 + 16 * k
      → option_and_then (λ (i : FuncInfo). number_if (is_of_type (typed g).classes sig i) k) (slice_get lent k) ≡ (linked_of g).pointed address sig
  pointed_is lent address k sig l e =
      let m : 0 + k ≡ k = omega arith in
      let f : address ≡ 2 ^ 40 + 16 * (0 + k) = e ∙ ap (λ z. 2 ^ 40 + 16 * z) (sym m) in
      ap (λ z. option_and_then (λ (i : FuncInfo). number_if (is_of_type (typed g).classes sig i) k) (slice_get z k)) l
      ∙ tested_by (is_of_type (typed g).classes sig) (type_found (typed g) sig) s.infos (kept_funcs (typed g)) k k (a.types sig)
      ∙ by_def sig k (slice_get (kept_funcs (typed g)) k)
      ∙ sym (ap (option_and_then (λ (found : Def × ℕ). option_and_then (λ (f : UnitFunc). number_if (has_type (typed g).classes sig f) found.1)
      (func_at (typed g) (found.0).unit (found.0).place)))
      (numbered_hit (2 ^ 40) 0 k address (kept_funcs (typed g)) f ∙ ap (λ z. option_map (λ d. (d, z)) (slice_get (kept_funcs (typed g)) k)) m))

  pub pointed_nowhere : (address : ℕ) (sig : Signature) → ((i : ℕ) → address ≡ 2 ^ 40 + 16 * i → ⊥) → None ≡ (linked_of g).pointed address sig
  pointed_nowhere address sig h = sym (ap (option_and_then
      (λ (found : Def × ℕ). option_and_then (λ (f : UnitFunc). number_if (has_type (typed g).classes sig f) found.1)
      (func_at (typed g) (found.0).unit (found.0).place))) (numbered_miss (2 ^ 40) 0 address (kept_funcs (typed g)) h))

  pub pointed_by : (lent : List FuncInfo) (address k : ℕ) (sig : Signature) (i : FuncInfo) (ty : List ℕ) (b : Bool) → lent ≡ s.infos → address ≡ 2 ^ 40 + 16 * k
      → Some i ≡ slice_get lent k → ty ≡ function_spelling (typed g).classes (unsafe sig) [] → b ≡ (i.free && name_eq ty i.ty.items)
      → number_if b k ≡ (linked_of g).pointed address sig
  pointed_by lent address k sig i ty b l e f t h = ap (λ z. number_if z k) (h ∙ ap (λ z. i.free && name_eq z i.ty.items) t)
      ∙ ap (option_and_then (λ (i : FuncInfo). number_if (is_of_type (typed g).classes sig i) k)) f ∙ pointed_is lent address k sig l e

  pub pointed_past : (lent : List FuncInfo) (address k : ℕ) (sig : Signature) → lent ≡ s.infos → address ≡ 2 ^ 40 + 16 * k → None ≡ slice_get lent k
      → None ≡ (linked_of g).pointed address sig
  pointed_past lent address k sig l e f = ap (option_and_then (λ (i : FuncInfo). number_if (is_of_type (typed g).classes sig i) k)) f
      ∙ pointed_is lent address k sig l e

  pub few_numbers : (lent : List FuncInfo) (k : ℕ) (i : FuncInfo) → lent ≡ s.infos → Some i ≡ slice_get lent k → k < 4294967296
  few_numbers lent k i l f = let w = slice_get_within lent k i (sym f) in let m : length lent ≡ length s.infos = ap length l in omega (arith, w, m, a.few)

  by_name : (o : Option (Option (Vec ℕ))) → option_and_then (λ (x : Option ℕ). x) (option_map (slot_numbers (kept_funcs (typed g))) o)
      ≡ option_and_then (λ (name : List ℕ). number_of_symbol name (kept_funcs (typed g)))
      (option_and_then (λ (x : Option (Vec ℕ)). option_map (λ (name : Vec ℕ). name.items) x) o)
  by_name None = refl
  by_name (Some None) = refl
  by_name (Some (Some name)) = refl

  by_row : {A B : Type 0} (f : A → B) (n : ℕ) (o : Option (List A))
      → option_and_then (λ row. slice_get row n) (option_map (map f) o) ≡ option_map f (option_and_then (λ row. slice_get row n) o)
  by_row f n None = refl
  by_row f n (Some row) = slice_get-map f row n

  -- the number of the function in a slot of a class
  slot_found : (place slot : ℕ) → option_and_then (λ (x : Option ℕ). x) (entry s.slots place slot)
      ≡ option_and_then (λ (name : List ℕ). number_of_symbol name (kept_funcs (typed g))) (name_in g.choices.symbols.items place slot)
  slot_found place slot =
      ap (option_and_then (λ (x : Option ℕ). x)) (entry_rows s.slots place slot ∙ ap
      (λ z. option_and_then (λ row. slice_get row slot) (slice_get z place)) a.slots
      ∙ ap (option_and_then (λ row. slice_get row slot)) (slice_get-map (map (slot_numbers (kept_funcs (typed g)))) (rows g.choices.symbols.items) place)
      ∙ by_row (slot_numbers (kept_funcs (typed g))) slot (slice_get (rows g.choices.symbols.items) place)
      ∙ ap (option_map (slot_numbers (kept_funcs (typed g)))) (sym (entry_rows g.choices.symbols.items place slot)))
      ∙ by_name (entry g.choices.symbols.items place slot)

  -- what a class's number leads to
  abbrev led : (c slot place : ℕ) → Option ℕ
  led c slot place = cond (is_or_has_base (typed g).classes place (class_name (typed g).classes c))
      (option_and_then (λ (name : List ℕ). number_of_symbol name (kept_funcs (typed g))) (name_in g.choices.symbols.items place slot)) None

  by_place : (c slot k : ℕ) (o : Option Def) → option_and_then (led c slot) (option_map place_in o)
      ≡ option_and_then (λ (found : Def × ℕ). led c slot (found.0).place) (option_map (λ d. (d, k)) o)
  by_place c slot k None = refl
  by_place c slot k (Some d) = refl

  led_slot : (c slot address k : ℕ) → address ≡ 2 ^ 41 + 16 * k → option_and_then (led c slot) (slice_get s.places k) ≡ (linked_of g).slot address c slot
  led_slot c slot address k e =
      let m : 0 + k ≡ k = omega arith in
      let f : address ≡ 2 ^ 41 + 16 * (0 + k) = e ∙ ap (λ z. 2 ^ 41 + 16 * z) (sym m) in
      ap (λ z. option_and_then (led c slot) (slice_get z k)) a.places ∙ ap (option_and_then (led c slot)) (slice_get-map place_in (kept_classes (typed g)) k)
      ∙ by_place c slot (0 + k) (slice_get (kept_classes (typed g)) k)
      ∙ sym (ap (option_and_then (λ (found : Def × ℕ). led c slot (found.0).place)) (numbered_hit (2 ^ 41) 0 k address (kept_classes (typed g)) f))

  pub slot_is : (c slot address k place : ℕ) (b : Bool) (r : Option ℕ) → address ≡ 2 ^ 41 + 16 * k → slice_get s.places k ≡ Some place
      → b ≡ is_or_has_base (typed g).classes place (class_name (typed g).classes c)
      → r ≡ cond b (option_and_then (λ (x : Option ℕ). x) (entry s.slots place slot)) None → r ≡ (linked_of g).slot address c slot
  slot_is c slot address k place b r e p q h = h ∙ ap (λ z. cond z (option_and_then (λ (x : Option ℕ). x) (entry s.slots place slot)) None) q
      ∙ ap (λ z. cond (is_or_has_base (typed g).classes place (class_name (typed g).classes c)) z None) (slot_found place slot)
      ∙ sym (ap (option_and_then (led c slot)) p) ∙ led_slot c slot address k e

  pub slot_past : (c slot address k : ℕ) → address ≡ 2 ^ 41 + 16 * k → slice_get s.places k ≡ None → None ≡ (linked_of g).slot address c slot
  slot_past c slot address k e p = sym (ap (option_and_then (led c slot)) p) ∙ led_slot c slot address k e

  pub slot_nowhere : (c slot address : ℕ) → ((i : ℕ) → address ≡ 2 ^ 41 + 16 * i → ⊥) → None ≡ (linked_of g).slot address c slot
  slot_nowhere c slot address h = sym (ap (option_and_then (λ (found : Def × ℕ). led c slot (found.0).place))
      (numbered_miss (2 ^ 41) 0 address (kept_classes (typed g)) h))

flat : {A B : Type 0} (j : A → Option B) (o : Option A) → option_and_then (λ (x : Option B). x) (option_map j o) ≡ option_and_then j o
flat j None = refl
flat j (Some x) = refl

row_of : {A B : Type 0} (f : A → B) (n : ℕ) (o : Option (List A))
    → option_and_then (λ row. slice_get row n) (option_map (map f) o) ≡ option_map f (option_and_then (λ row. slice_get row n) o)
row_of f n None = refl
row_of f n (Some row) = slice_get-map f row n

-- an element of a table of images
imaged : {A B : Type 0} (f : A → Option B) (table : List (List A)) (c n : ℕ)
    → option_and_then (λ (x : Option B). x) (option_and_then (λ row. slice_get row n) (slice_get (map (map f) table) c))
    ≡ option_and_then f (option_and_then (λ row. slice_get row n) (slice_get table c))
imaged f table c n = ap (λ z. option_and_then (λ x. x) (option_and_then (λ row. slice_get row n) z)) (slice_get-map (map f) table c)
    ∙ ap (option_and_then (λ x. x)) (row_of f n (slice_get table c)) ∙ flat f (option_and_then (λ row. slice_get row n) (slice_get table c))

two_steps : {A B C : Type 0} (h : B → Option C) (f : A → Option B) (o : Option A)
    → option_and_then h (option_and_then f o) ≡ option_and_then (λ x. option_and_then h (f x)) o
two_steps h f None = refl
two_steps h f (Some x) = refl

module _ (g : Given) (symbol : SlotFunc → Option (List ℕ))
    (e : map (map symbol) (typed g).slots ≡ map (map (option_map (λ (name : Vec ℕ). name.items))) (rows g.choices.symbols.items)) where
  name_is : (c s : ℕ) → name_in g.choices.symbols.items c s
      ≡ option_and_then symbol (option_and_then (λ (fs : List SlotFunc). slice_get fs s) (slice_get (typed g).slots c))
  name_is c s = ap (option_and_then (λ (x : Option (Vec ℕ)). option_map (λ (name : Vec ℕ). name.items) x)) (entry_rows g.choices.symbols.items c s)
      ∙ sym (imaged (λ (x : Option (Vec ℕ)). option_map (λ (name : Vec ℕ). name.items) x) (rows g.choices.symbols.items) c s)
      ∙ sym (ap (λ z. option_and_then (λ (x : Option (List ℕ)). x) (option_and_then (λ row. slice_get row s) (slice_get z c))) e)
      ∙ imaged symbol (typed g).slots c s

  slot_same : (a c s : ℕ) → slot_in (name_in g.choices.symbols.items) (typed g) a c s
      ≡ (linked (says g.choices.safe.items) symbol g.choices.main.items (typed g)).slot a c s
  slot_same a c s = ap (λ h. option_and_then h (numbered 0 table_address a (kept_classes (typed g))))
      (fun_ext (λ (found : Def × ℕ). ap (λ z. cond (is_or_has_base (typed g).classes (found.0).place (class_name (typed g).classes c)) z None)
      (ap (option_and_then (λ (name : List ℕ). number_of_symbol name (kept_funcs (typed g)))) (name_is (found.0).place s)
      ∙ two_steps (λ (name : List ℕ). number_of_symbol name (kept_funcs (typed g))) symbol
      (option_and_then (λ (fs : List SlotFunc). slice_get fs s) (slice_get (typed g).slots (found.0).place)))))

  pub linked_same : linked_of g ≡ linked (says g.choices.safe.items) symbol g.choices.main.items (typed g)
  linked_same = ap (λ (z : ℕ → ℕ → ℕ → Option ℕ). record (linked_of g) { slot = z }) (fun_ext (λ a. fun_ext (λ c. fun_ext (λ s. slot_same a c s))))
