-- The tables that are made of kept definitions.
use Rattle.std.proofs.Common.{◌≡◌, ◌∙◌, ◌<◌, ◌≤◌, ℕ, true, List, [], map, length, ap, sym, subst, Option, Some}
use Rattle.std.specs.Global.{Vec}
use Rattle.std.specs.List.{list_all}
use Rattle.cpp_tree.specs.cpp_types.Typ.{Signature}
use Rattle.cpp_tree.specs.cpp_types.Class.{classes_of}
use Rattle.cpp_tree.specs.cpp_types.declared.classes.ClassRec.{ClassRec}
use Rattle.cpp_tree.specs.Units.{TypedProgram}
use Rattle.src_mean.specs.Links.{Def, kept_funcs, kept_globals, kept_classes, global_size, global_offsets, globals_end, number_in}
use Rattle.src_bind.specs.declared.infos.FuncInfo.{FuncInfo}
use Rattle.src_bind.specs.Defs.{named}
use Rattle.src_bind.specs.Infos.{info_of, body_found, is_of_type, type_found, has_body}
use Rattle.src_bind.specs.Numbers.{rows, unit_numbers, class_numbers, slot_numbers}
use Rattle.src_bind.specs.Globals.{unit_addresses}
use Rattle.src_bind.specs.Tables.{Given, Tables, AreTables, CanBind, typed, func_found, place_in}
use Rattle.src_bind.proofs.Keys.{keys_are}
use Rattle.src_bind.proofs.Stay.{bodies_there}

pub bodies_in : (t : TypedProgram) (ds : List Def) → ds ≡ kept_funcs t → list_all (has_body t) ds ≡ true
bodies_in t ds e = ap (list_all (has_body t)) e ∙ bodies_there t

pub room_for : (t : TypedProgram) (ds : List Def) → CanBind t → ds ≡ kept_globals t → globals_end 0 (map (global_size t) ds) ≤ 1048576
room_for t ds can e = subst (λ z. globals_end 0 (map (global_size t) z) ≤ 1048576) (sym e) can.room

module _ (g : Given) (s : Tables) (funcs globals classes : List Def) (f : funcs ≡ kept_funcs (typed g)) (l : globals ≡ kept_globals (typed g))
    (k : classes ≡ kept_classes (typed g)) where
  -- what each table was made of
  pub record MadeOf (offsets : List ℕ) (records : List ClassRec) (empty : List ℕ) (symbols : List (Vec (Option (Vec ℕ)))) (name : List ℕ) : Type 0 where
    pub few : length s.infos < 4294967296
    pub infos : map (λ (i : FuncInfo). Some (info_of g.program i)) s.infos ≡ map (func_found g) funcs
    pub bodies : map (λ (i : FuncInfo). Some i.body) s.infos ≡ map (body_found g.program) funcs
    pub types : (sig : Signature) → map (is_of_type (typed g).classes sig) s.infos ≡ map (type_found (typed g) sig) funcs
    pub numbers : rows s.numbers ≡ unit_numbers funcs 0 (typed g).units
    pub lie : offsets ≡ global_offsets 0 (map (global_size (typed g)) globals)
    pub addresses : rows s.globals ≡ unit_addresses globals offsets 0 (typed g).units
    pub records_are : records ≡ g.program.classes.items
    pub tables : s.tables ≡ class_numbers classes (classes_of records)
    pub empty_is : empty ≡ []
    pub nameless : s.nameless ≡ number_in (named empty) classes
    pub places : s.places ≡ map place_in classes
    pub symbols_are : symbols ≡ g.choices.symbols.items
    pub slots : rows s.slots ≡ map (map (slot_numbers funcs)) (rows symbols)
    pub name_is : name ≡ g.choices.main.items
    pub main : s.main ≡ number_in (named name) funcs

  pub tables_are : (offsets : List ℕ) (records : List ClassRec) (empty : List ℕ) (symbols : List (Vec (Option (Vec ℕ)))) (name : List ℕ)
      → MadeOf offsets records empty symbols name → AreTables g s
  tables_are offsets records empty symbols name m = record {
    few = m.few;
    keys = keys_are g s.infos (kept_funcs (typed g)) (m.infos ∙ ap (map (func_found g)) f) (m.bodies ∙ ap (map (body_found g.program)) f);
    types = λ sig. m.types sig ∙ ap (map (type_found (typed g) sig)) f;
    numbers = m.numbers ∙ ap (λ z. unit_numbers z 0 (typed g).units) f;
    globals = m.addresses ∙ ap (λ z. unit_addresses globals z 0 (typed g).units) m.lie
        ∙ ap (λ z. unit_addresses z (global_offsets 0 (map (global_size (typed g)) z)) 0 (typed g).units) l;
    tables = m.tables ∙ ap (λ z. class_numbers classes (classes_of z)) m.records_are ∙ ap (λ z. class_numbers z (typed g).classes) k;
    nameless = m.nameless ∙ ap (λ z. number_in (named z) classes) m.empty_is ∙ ap (number_in (named [])) k;
    places = m.places ∙ ap (map place_in) k;
    slots = m.slots ∙ ap (λ z. map (map (slot_numbers funcs)) (rows z)) m.symbols_are ∙ ap (λ z. map (map (slot_numbers z)) (rows g.choices.symbols.items)) f;
    main = m.main ∙ ap (λ z. number_in (named z) funcs) m.name_is ∙ ap (number_in (named g.choices.main.items)) f;
  }
