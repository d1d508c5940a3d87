-- What is asked of a body beside that it is well formed.
use Rattle.std.specs.Prelude.{Bool, true, false, not, ◌&&◌, ℕ, ◌+◌, nat_le}
use Rattle.cpp_tree.specs.declared.kinds.TKind.{TKind}
use Rattle.cpp_tree.specs.declared.kinds.TKind.TheVariants.{Conditional, Switch, Call, VirtualCall, PointerCall, Construct}
use Rattle.cpp_tree.specs.Trees.{Tree, node, Trees, none, more, kind_of, rest}
use Rattle.cpp_tree.specs.Typing.{is_void}
use Rattle.unwind_lower.specs.Blocks.{is_default}
use Rattle.lowered_states.specs.Claims.{one_if}

-- a conditional of no type, whose branches may be statements
abbrev pub is_choice : TKind → (void_type : Bool) → Bool
is_choice Conditional void_type = void_type
is_choice kind void_type = false

abbrev pub is_chosen : Tree → Bool
is_chosen (node kind t cat at kids) = is_choice kind (is_void t)

abbrev pub none_chosen : Trees → Bool
none_chosen none = true
none_chosen (more t ts) = not (is_chosen t) && none_chosen ts

abbrev pub defaults_in : Trees → ℕ
defaults_in none = 0
defaults_in (more t ts) = one_if (is_default (kind_of t)) + defaults_in ts

-- no word of a call is such a conditional, and a `switch` has one `default` at most
abbrev pub kids_suit : TKind → Trees → Bool
kids_suit (Call func) kids = none_chosen kids
kids_suit (VirtualCall func class slot pointer) kids = none_chosen kids
kids_suit PointerCall kids = none_chosen kids
kids_suit (Construct func) kids = none_chosen kids
kids_suit Switch kids = nat_le (defaults_in (rest kids)) 1
kids_suit kind kids = true

abbrev mutual
  pub suits : Tree → Bool
  suits (node kind t cat at kids) = kids_suit kind kids && all_suit kids

  pub all_suit : Trees → Bool
  all_suit none = true
  all_suit (more t ts) = suits t && all_suit ts
