-- The linked program that tables show.
use Rattle.std.specs.Prelude.{◌≡◌, ◌<◌, ◌≤◌, ℕ, Bool, true, cond, List, [], map, length, Option, Some, None, option_map, option_and_then}
use Rattle.std.specs.Global.{Vec}
use Rattle.cpp_tree.specs.cpp_types.Typ.{Signature}
use Rattle.cpp_tree.specs.cpp_types.Class.{InOrder}
use Rattle.cpp_tree.specs.cpp_layout.Layout.{table_address}
use Rattle.cpp_tree.specs.declared.arena.TNodeId.{TNodeId}
use Rattle.cpp_tree.specs.declared.program.Program.{Program as Units}
use Rattle.cpp_tree.specs.Units.{SlotFunc, TypedProgram, program_of}
use Rattle.cpp_tree.specs.tx_events.declared.TheConstants.{GLOBALS_LIMIT}
use Rattle.src_mean.specs.Linked.{WordPlace, Func, Program}
use Rattle.src_mean.specs.Links.{Def, func_at, linked, linked_func, kept_funcs, kept_globals, kept_classes, global_size, global_offsets, globals_size}
use Rattle.src_mean.specs.Links.{number_in, number_of_symbol, numbered, class_name, is_or_has_base}
use Rattle.src_bind.specs.declared.choices.Choices.{Choices}
use Rattle.src_bind.specs.declared.infos.FuncInfo.{FuncInfo}
use Rattle.src_bind.specs.Defs.{named}
use Rattle.src_bind.specs.Infos.{word_of, body_found, is_of_type, type_found, says, has_body, HasFrame}
use Rattle.src_bind.specs.Numbers.{rows, entry, unit_numbers, class_numbers, slot_numbers}
use Rattle.src_bind.specs.Globals.{has_definition, HasSize, unit_addresses}

-- the units of a program, and what is chosen beside them
pub record Given : Type 0 where
  pub program : Units
  pub choices : Choices

abbrev pub typed : Given → TypedProgram
typed g = program_of g.program

-- the symbol in a table of slots
abbrev pub name_in : List (Vec (Option (Vec ℕ))) → ℕ → ℕ → Option (List ℕ)
name_in table c s = option_and_then (λ (o : Option (Vec ℕ)). option_map (λ (name : Vec ℕ). name.items) o) (entry table c s)

-- no slot names a function
abbrev pub no_name : SlotFunc → Option (List ℕ)
no_name f = None

-- the number of the function in a slot, where the symbols that slots name stand in a table
abbrev pub slot_in : (ℕ → ℕ → Option (List ℕ)) → TypedProgram → ℕ → ℕ → ℕ → Option ℕ
slot_in names t a c s = option_and_then (λ (found : Def × ℕ). cond (is_or_has_base t.classes (found.0).place (class_name t.classes c))
    (option_and_then (λ (name : List ℕ). number_of_symbol name (kept_funcs t)) (names (found.0).place s)) None) (numbered 0 table_address a (kept_classes t))

-- the linked program of what is given
abbrev pub linked_of : Given → Program
linked_of g = record (linked (says g.choices.safe.items) no_name g.choices.main.items (typed g)) { slot = slot_in (name_in g.choices.symbols.items) (typed g) }

-- Tables

-- what tables show, each list by numbers or by indexes
pub record Tables : Type 0 where
  pub infos : List FuncInfo
  pub numbers : List (Vec ℕ)
  pub globals : List (Vec ℕ)
  pub tables : List ℕ
  pub nameless : ℕ
  pub places : List ℕ
  pub slots : List (Vec (Option ℕ))
  pub main : ℕ

abbrev pub func_found : Given → Def → Option Func
func_found g d = option_map (linked_func (says g.choices.safe.items) (typed g).classes d) (func_at (typed g) d.unit d.place)

-- what a record shows of a function, but for its body, of which it has the node
pub record Key : Type 0 where
  pub unit : ℕ
  pub size : ℕ
  pub places : List ℕ
  pub words : List WordPlace
  pub stops : Bool
  pub safe : Bool
  pub body : Option TNodeId

abbrev pub key_of : FuncInfo → Key
key_of i = record {
  unit = i.unit;
  size = i.size;
  places = i.places.items;
  words = map word_of i.words.items;
  stops = i.stops;
  safe = i.safe;
  body =
      Some i.body;
}

abbrev pub key_in : Option TNodeId → Func → Key
key_in body f = record { unit = f.unit; size = f.size; places = f.places; words = f.words; stops = f.stops; safe = f.safe; body = body }

abbrev pub key_found : Given → Def → Option Key
key_found g d = option_map (key_in (body_found g.program d)) (func_found g d)

abbrev pub place_in : Def → ℕ
place_in d = d.place

-- they are those of what is given
pub record AreTables (g : Given) (s : Tables) : Type 0 where
  pub few : length s.infos < 4294967296
  pub keys : map (λ (i : FuncInfo). Some (key_of i)) s.infos ≡ map (key_found g) (kept_funcs (typed g))
  pub types : (sig : Signature) → map (is_of_type (typed g).classes sig) s.infos ≡ map (type_found (typed g) sig) (kept_funcs (typed g))
  pub numbers : rows s.numbers ≡ unit_numbers (kept_funcs (typed g)) 0 (typed g).units
  pub globals : rows s.globals ≡ unit_addresses (kept_globals (typed g)) (global_offsets 0 (map (global_size (typed g)) (kept_globals (typed g)))) 0
      (typed g).units
  pub tables : s.tables ≡ class_numbers (kept_classes (typed g)) (typed g).classes
  pub nameless : s.nameless ≡ number_in (named []) (kept_classes (typed g))
  pub places : s.places ≡ map place_in (kept_classes (typed g))
  pub slots : rows s.slots ≡ map (map (slot_numbers (kept_funcs (typed g)))) (rows g.choices.symbols.items)
  pub main : s.main ≡ number_in (named g.choices.main.items) (kept_funcs (typed g))

-- What binding needs: classes in order, frames that are not too large, and globals with sizes that have room
pub record CanBind (t : TypedProgram) : Type 0 where
  pub classes : InOrder t.classes
  pub frames : (d : Def) → has_body t d ≡ true → HasFrame t d
  pub globals : (d : Def) → has_definition t d ≡ true → HasSize t d
  pub room : globals_size t ≤ GLOBALS_LIMIT
