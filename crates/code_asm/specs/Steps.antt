-- What each line adds to the object that the lines before it have written so far.
use Rattle.std.specs.Prelude.{◌≡◌, Bool, true, false, ℕ, ◌+◌, ◌-◌, ◌^◌, List, [], ◌∷◌, ◌++◌, length, Option, Some, None, is_some, is_none, slice_get, not, ◌&&◌}
use Rattle.std.specs.Prelude.{◌||◌, nat_lt, nat_eq, if◌then◌else◌}
use Rattle.std.specs.List.{list_all}
use Rattle.std.specs.Option.{option_map}
use Rattle.tx_code.specs.declared.instr.Instr.TheVariants as instrs
use Rattle.tx_code.specs.Objects.{BodyView, ClassView, GlobalView, FuncView, ObjectView}
use Rattle.tx_code.specs.WellFormed.{bytes_lt, is_name, is_name_or_none, is_length, named_by, named_by_row, line_after, member_fits, cell_fits, cell_after, bit}
use Rattle.tx_code.specs.WellFormed.{same, flags_fit, text_fits, ascends_by}
use Rattle.object_bytes.specs.Fields.{above}
use Rattle.object_bytes.specs.Objects.{source_of, is_whole}
use Rattle.assembly_text.specs.declared.line.ClassHead.{ClassHead}
use Rattle.assembly_text.specs.declared.line.GlobalHead.{GlobalHead}
use Rattle.assembly_text.specs.declared.line.FuncHead.{FuncHead}
use Rattle.assembly_text.specs.declared.line.Record.{Record}
use Rattle.assembly_text.specs.declared.line.Record.TheVariants as kind
use Rattle.assembly_text.specs.Options.{given, and_then}
use Rattle.assembly_text.specs.Lines.{Line, Name, Of}

-- ---- states

-- where the next line stands: at the start, among the names, behind the source or in an entry, or behind the end
pub data Place : Type 0 where
  Start : Place
  Names : Place
  Between : Place
  InClass : ClassView → Place
  InGlobal : GlobalView → Place
  InFunc : FuncView → Place
  Ended : Place

-- the object so far, without the entry that is not ended
pub record State : Type 0 where
  pub object : ObjectView
  pub place : Place

abbrev pub empty_object : (version : ℕ) → ObjectView
empty_object version = record { version = version; names = []; source = None; classes = []; globals = []; funcs = [] }

abbrev pub start : State
start = record { object = empty_object 0; place = Start }

-- ---- lists

-- one item more can be counted
abbrev pub has_room : {A : Type 0} → List A → Bool
has_room xs = nat_lt (length xs + 1) (2 ^ 32)

abbrev pub is_nil : {A : Type 0} → List A → Bool
is_nil xs = nat_eq (length xs) 0

abbrev pub last_of : {A : Type 0} → List A → Option A
last_of xs = slice_get xs (length xs - 1)

-- ---- bodies

abbrev pub body_step : (version n : ℕ) → BodyView → Record → Option BodyView
body_step version n b (kind.Code i) = given (is_nil b.rows && is_nil b.lines && has_room b.code && list_all (is_name n) (named_by i))
    (record { code = b.code ++ i ∷ []; rows = b.rows; lines = b.lines })
body_step version n b (kind.Row r) = given (is_nil b.lines && has_room b.rows && list_all (is_name n) (named_by_row r))
    (record { code = b.code; rows = b.rows ++ r ∷ []; lines = b.lines })
body_step version n b (kind.Line l) = given (nat_eq version 2 && has_room b.lines && nat_lt l.from (length b.code) && above line_after (last_of b.lines) l)
    (record { code = b.code; rows = b.rows; lines = b.lines ++ l ∷ [] })
body_step version n b r = None

abbrev pub no_body : BodyView
no_body = record { code = []; rows = []; lines = [] }

-- ---- entries

-- members, and then slots
abbrev pub class_step : (n : ℕ) → ClassView → Record → Option ClassView
class_step n c (kind.Member m) = given (is_nil c.slots && has_room c.members && member_fits n m)
    (record {
      name = c.name;
      size = c.size;
      align = c.align;
      base = c.base;
      pointer = c.pointer;
      text = c.text;
      members = c.members ++ m ∷ [];
      slots =
          c.slots;
    })
class_step n c (kind.Slot s) = given (has_room c.slots && is_name_or_none n s)
    (record {
      name = c.name;
      size = c.size;
      align = c.align;
      base = c.base;
      pointer = c.pointer;
      text = c.text;
      members = c.members;
      slots =
          c.slots ++ s ∷ [];
    })
class_step n c r = None

abbrev pub global_step : (n : ℕ) → GlobalView → Record → Option GlobalView
global_step n g (kind.Cell c) = given (not (nat_eq g.defined 0) && has_room g.cells && cell_fits n g.size c && above cell_after (last_of g.cells) c)
    (record { symbol = g.symbol; ty = g.ty; linkage = g.linkage; defined = g.defined; size = g.size; cells = g.cells ++ c ∷ [] })
global_step n g r = None

abbrev pub with_bodies : FuncView → (plain safe : Option BodyView) → FuncView
with_bodies f plain safe = record {
  symbol = f.symbol;
  ty = f.ty;
  linkage = f.linkage;
  flags = f.flags;
  text = f.text;
  frame = f.frame;
  plain = plain;
  safe =
      safe;
}

-- what stands in a body stands in the one that began last
abbrev pub in_body : (version n : ℕ) → FuncView → (plain safe : Option BodyView) → Record → Option FuncView
in_body version n f plain (Some b) r = option_map (λ x. with_bodies f plain (Some x)) (body_step version n b r)
in_body version n f (Some b) None r = option_map (λ x. with_bodies f (Some x) None) (body_step version n b r)
in_body version n f None None r = None

abbrev pub func_step : (version n : ℕ) → FuncView → Record → Option FuncView
func_step version n f kind.Plain = given (bit 0 f.flags && is_none f.plain) (with_bodies f (Some no_body) f.safe)
func_step version n f kind.Safe = given (bit 1 f.flags && is_some f.plain && is_none f.safe) (with_bodies f f.plain (Some no_body))
func_step version n f r = in_body version n f f.plain f.safe r

-- each body has begun that the flags say is there
abbrev pub has_bodies : FuncView → Bool
has_bodies f = same (bit 0 f.flags) (is_some f.plain) && same (bit 1 f.flags) (is_some f.safe)

-- an instruction may be the next line of a body
abbrev pub takes_code : BodyView → Bool
takes_code b = is_nil b.rows && is_nil b.lines

abbrev pub func_takes_code : (plain safe : Option BodyView) → Bool
func_takes_code plain (Some b) = takes_code b
func_takes_code (Some b) None = takes_code b
func_takes_code None None = false

-- ---- the object

abbrev pub with_class : ObjectView → ClassView → ObjectView
with_class o c = record { version = o.version; names = o.names; source = o.source; classes = o.classes ++ c ∷ []; globals = o.globals; funcs = o.funcs }

abbrev pub with_global : ObjectView → GlobalView → ObjectView
with_global o g = record { version = o.version; names = o.names; source = o.source; classes = o.classes; globals = o.globals ++ g ∷ []; funcs = o.funcs }

abbrev pub with_func : ObjectView → FuncView → ObjectView
with_func o f = record { version = o.version; names = o.names; source = o.source; classes = o.classes; globals = o.globals; funcs = o.funcs ++ f ∷ [] }

-- the object with its last entry, where that can end here
abbrev pub closed : ObjectView → Place → Option ObjectView
closed o Start = None
closed o Names = given (nat_eq o.version 1) o
closed o Between = Some o
closed o (InClass c) = Some (with_class o c)
closed o (InGlobal g) = Some (with_global o g)
closed o (InFunc f) = given (has_bodies f) (with_func o f)
closed o Ended = None

abbrev pub begun : ObjectView → Place → (version : ℕ) → Option State
begun o Start version = given (nat_eq version 1 || nat_eq version 2) (record { object = empty_object version; place = Names })
begun o place version = None

abbrev pub named : ObjectView → Place → List ℕ → Option State
named o Names name = given (is_length name && has_room o.names && above bytes_lt (last_of o.names) name)
    (record {
      object = record {
        version = o.version;
        names = o.names ++ name ∷ [];
        source = o.source;
        classes = o.classes;
        globals = o.globals;
        funcs =
            o.funcs;
      };
      place = Names;
    })
named o place name = None

abbrev pub sourced : ObjectView → Place → ℕ → Option State
sourced o Names i = given (nat_eq o.version 2 && is_name_or_none (length o.names) i)
    (record {
      object = record { version = o.version; names = o.names; source = source_of o.names i; classes = o.classes; globals = o.globals; funcs = o.funcs };
      place = Between;
    })
sourced o place i = None

-- classes, and then globals, and then functions
abbrev pub class_begins : ObjectView → ClassHead → Bool
class_begins o h =
    is_nil o.globals && is_nil o.funcs && has_room o.classes && is_name (length o.names) h.name
    && above nat_lt (option_map (λ (c : ClassView). c.name) (last_of o.classes)) h.name
    && is_name_or_none (length o.names) h.base && is_name (length o.names) h.text

abbrev pub begin_class : ClassHead → ObjectView → Option State
begin_class h o = given (class_begins o h) (record {
  object = o;
  place = InClass
      (record { name = h.name; size = h.size; align = h.align; base = h.base; pointer = h.pointer; text = h.text; members = []; slots = [] });
})

abbrev pub global_begins : ObjectView → GlobalHead → Bool
global_begins o h =
    is_nil o.funcs && has_room o.globals && is_name (length o.names) h.symbol
    && above nat_lt (option_map (λ (g : GlobalView). g.symbol) (last_of o.globals)) h.symbol && is_name (length o.names) h.ty && nat_lt h.linkage 2
    && nat_lt h.defined 2 && same (nat_eq h.defined 0) (nat_eq h.size 0)

abbrev pub begin_global : GlobalHead → ObjectView → Option State
begin_global h o = given (global_begins o h) (record {
  object = o;
  place = InGlobal
      (record { symbol = h.symbol; ty = h.ty; linkage = h.linkage; defined = h.defined; size = h.size; cells = [] });
})

abbrev pub func_of : FuncHead → FuncView
func_of h = record { symbol = h.symbol; ty = h.ty; linkage = h.linkage; flags = h.flags; text = h.text; frame = h.frame; plain = None; safe = None }

abbrev pub func_begins : ObjectView → FuncHead → Bool
func_begins o h =
    has_room o.funcs && is_name (length o.names) h.symbol && above nat_lt (option_map (λ (f : FuncView). f.symbol) (last_of o.funcs)) h.symbol
    && is_name (length o.names) h.ty && nat_lt h.linkage 3 && flags_fit h.flags
    && text_fits (length o.names) (func_of h) && (bit 0 h.flags || nat_eq h.frame 0)

abbrev pub begin_func : FuncHead → ObjectView → Option State
begin_func h o = given (func_begins o h) (record { object = o; place = InFunc (func_of h) })

-- what stands in an entry
abbrev pub inner : ObjectView → Place → Record → Option State
inner o (InClass c) r = option_map (λ x. record { object = o; place = InClass x }) (class_step (length o.names) c r)
inner o (InGlobal g) r = option_map (λ x. record { object = o; place = InGlobal x }) (global_step (length o.names) g r)
inner o (InFunc f) r = option_map (λ x. record { object = o; place = InFunc x }) (func_step o.version (length o.names) f r)
inner o place r = None

-- The object ends, and all that it names, and each base, is looked at.
abbrev pub ended : ObjectView → Option State
ended o = given (is_whole o) (record { object = o; place = Ended })

abbrev pub place_takes_code : Place → Bool
place_takes_code (InFunc f) = func_takes_code f.plain f.safe
place_takes_code place = false

-- the classes are in order where the object ends here
abbrev pub IsSorted : ObjectView → Place → Type 0
IsSorted o place = (c : ObjectView) → closed o place ≡ Some c → ascends_by (λ (x : ClassView). x.name) c.classes ≡ true

-- `end` in a body is an instruction, unless it is the last line
abbrev pub end_step : ObjectView → Place → (is_last : Bool) → Option State
end_step o place is_last = if not is_last && place_takes_code place then inner o place (kind.Code instrs.End) else and_then (closed o place) ended

-- The state behind a line: None where the line has not its place, or breaks a condition with the lines before it.
unfoldable pub record_step : State → Record → (is_last : Bool) → Option State
record_step s (kind.Txob version) is_last = begun s.object s.place version
record_step s (kind.Source number) is_last = sourced s.object s.place number
record_step s (kind.Class h) is_last = and_then (closed s.object s.place) (begin_class h)
record_step s (kind.Global h) is_last = and_then (closed s.object s.place) (begin_global h)
record_step s (kind.Func h) is_last = and_then (closed s.object s.place) (begin_func h)
record_step s kind.End is_last = end_step s.object s.place is_last
record_step s r is_last = inner s.object s.place r

abbrev pub step : State → Line → (is_last : Bool) → Option State
step s (Name name) is_last = named s.object s.place name
step s (Of r) is_last = record_step s r is_last
