-- Objects made by hand.
use Rattle.std.specs.Prelude.{ℕ, List, [], ◌∷◌, Some, None, codes}
use Rattle.tx_code.specs.Objects.{FuncView, ObjectView}
use Rattle.tx_code.specs.Linked.{no_body}

abbrev pub func : (symbol ty linkage flags text : ℕ) → FuncView
func symbol ty linkage flags text = record {
  symbol = symbol;
  ty = ty;
  linkage = linkage;
  flags = flags;
  text = text;
  frame = 16;
  plain = Some no_body;
  safe =
      None;
}

abbrev pub of_funcs : List (List ℕ) → List FuncView → ObjectView
of_funcs names funcs = record { version = 1; names = names; source = None; classes = []; globals = []; funcs = funcs }

-- calls `void g() transaction_safe` from an external `main`
abbrev pub caller : ObjectView
caller = of_funcs (codes "g()" ∷ codes "int()" ∷ codes "main()" ∷ codes "void()" ∷ []) (func 0 3 0 4 0 ∷ func 2 1 0 1 0 ∷ [])

-- defines `void g()` without a safe body
abbrev pub definer : ObjectView
definer = of_funcs (codes "g()" ∷ codes "void()" ∷ []) (func 0 1 0 1 0 ∷ [])

-- defines it as an inline function with a safe body
abbrev pub inline_definer : ObjectView
inline_definer = of_funcs (codes "g()" ∷ codes "inline void g(){}" ∷ codes "void()" ∷ []) (func 0 2 2 3 2 ∷ [])

abbrev pub other_inline_definer : ObjectView
other_inline_definer = of_funcs (codes "g()" ∷ codes "inline void g(){return;}" ∷ codes "void()" ∷ []) (func 0 2 2 3 2 ∷ [])

abbrev pub class_s : (names : List (List ℕ)) (size : ℕ) (slots : List ℕ) → ObjectView
class_s names size slots = record {
  version = 1;
  names = names;
  source = None;
  classes =
      record {
        name = 0;
        size = size;
        align = size;
        base = 0;
        pointer = 4294967295;
        text = 3;
        members = record { name = 1; offset = 0; ty = 2 } ∷ [];
        slots =
            slots;
      } ∷ [];
  globals = [];
  funcs = [];
}

-- `struct S { int a; }`
abbrev pub int_class : ObjectView
int_class = class_s (codes "S" ∷ codes "a" ∷ codes "int" ∷ codes "struct S{int a;}" ∷ []) 4 []

abbrev pub long_class : ObjectView
long_class = class_s (codes "S" ∷ codes "a" ∷ codes "long" ∷ codes "struct S{long a;}" ∷ []) 8 []

-- its slot names `g()`, of which it has no entry
abbrev pub slot_user : ObjectView
slot_user = class_s (codes "S" ∷ codes "a" ∷ codes "int" ∷ codes "struct S{int a;}" ∷ codes "g()" ∷ []) 4 (5 ∷ 0 ∷ [])

abbrev pub global_x : (ty : List ℕ) (linkage defined size : ℕ) → ObjectView
global_x ty linkage defined size = record {
  version = 1;
  names = codes "x" ∷ ty ∷ [];
  source = None;
  classes = [];
  globals =
      record { symbol = 0; ty = 1; linkage = linkage; defined = defined; size = size; cells = [] } ∷ [];
  funcs = [];
}

-- `char x[9];`
abbrev pub global_definer : ObjectView
global_definer = global_x (codes "char[9]") 0 1 9

-- `extern int x;`
abbrev pub other_global : ObjectView
other_global = global_x (codes "int") 0 0 0
