-- Leaves: literals, and the addresses of variables, globals, functions and classes.
use Rattle.std.proofs.Common.{ℕ, ◌≡◌, ◌+◌, ◌≤◌, inr, refl, ap, sym, ◌∙◌, subst, Bool, true, cond, List, ◌∷◌, Option, Some}
use Rattle.std.specs.Prelude.{nat_lt, slice_get, unwrap_or, ◌^◌}
use Rattle.tx_code.specs.declared.instr.Instr.{Instr}
use Rattle.tx_code.specs.declared.instr.Instr.TheVariants.{Push, FrameAddr, GlobalAddr, FuncAddr, ClassAddr}
use Rattle.cpp_tree.specs.cpp_types.Typ.{Typ}
use Rattle.cpp_tree.specs.cpp_types.declared.classes.At.{At}
use Rattle.cpp_tree.specs.cpp_types.declared.ranks.Cat.{Cat}
use Rattle.cpp_tree.specs.declared.arena.TNodeId.{TNodeId}
use Rattle.cpp_tree.specs.declared.kinds.TKind.TheVariants.{Literal, Local, Global, Function, ClassTable}
use Rattle.cpp_tree.specs.Trees.{Trees, node}
use Rattle.low_code.specs.declared.scopes.ScopeKind.{ScopeKind}
use Rattle.src_mean.specs.Linked.{Program}
use Rattle.symbolic_source.specs.Terms.{Term, number, local, global, function, table, Exception}
use Rattle.symbolic_source.specs.Outcomes.{stuck}
use Rattle.symbolic_code.specs.Facts.{Fact}
use Rattle.symbolic_code.specs.Places.{with_operands}
use Rattle.symbolic_code.specs.Following.{Next, refused, pushes, if_found}
use Rattle.body_check.specs.Notes.{Bounds}
use Rattle.body_check.specs.Calls.{Book}
use Rattle.body_check.specs.Linked.{Held}
use Rattle.unwind_lower.specs.declared.items.Item.{Item}
use Rattle.unwind_lower.specs.declared.items.Way.TheVariants.{Value}
use Rattle.unwind_lower.specs.Settings.{Setting, node_in, place_in}
use Rattle.lowered_frames.specs.Modes.{top, After, tree_in}
use Rattle.lowered_frames.specs.Expressions.{run}
use Rattle.lowered_frames.specs.Left.{Left, below}
use Rattle.lowered_steps.specs.Ahead.{standing, comes_of, Fitting, Ahead, Filled}
use Rattle.lowered_steps.proofs.Landings.{quiet_landing}
use Rattle.lowered_steps.proofs.Events.{Goes}
use Rattle.lowered_expressions.specs.Heads.{led}
use Rattle.lowered_expressions.proofs.Nodes.{tree_comes}

module _ (p : Program) (b : Bounds) (book : Book) (h : Held) (g : Setting) (chain : List ScopeKind) {items : List Item} (d : Left g top items) (id : TNodeId)
    (a : After (node_in g id) Value top) (t : Typ) (cat : Cat) (place : At) (kids : Trees) (v : Term) (es : List Exception) (ts : List Term) (known : List Fact)
    (lead rank index after : ℕ) (short : lead + 0 ≤ b.longest) (falls : after + 1 ≤ rank) (f : Filled p b book h g (led (run id Value a) d) chain v es ts known)
    (ahead : Ahead p b book h g d chain (index + 1) after) where
  abbrev Written : Instr → Type 0
  Written instr = Fitting p b book h g (led (run id Value a) d) chain v es ts known lead rank index instr

  -- the node gives a term, and the code pushes it
  abbrev pushed : Term → Next
  pushed w = pushes index (standing p b book h g (led (run id Value a) d) chain v es ts) (comes_of p b book h g (led (run id Value a) d) chain v es ts) w (below g d chain ts)

  push_goes : (w : Term) → comes_of p b book h g (led (run id Value a) d) chain v es ts ≡ comes_of p b book h g d chain w es ts → Goes p b book h g known lead rank (pushed w)
  push_goes w comes = quiet_landing p b book h g d chain w es ts known (record { all = f.all; so = f.so; types = f.types; knows = f.knows; comes = tt })
      lead 0 rank (index + 1) after ahead short (inr falls)
      (with_operands (standing p b book h g (led (run id Value a) d) chain v es ts) (w ∷ below g d chain ts)) (comes_of p b book h g (led (run id Value a) d) chain v es ts)
      refl comes

  pub literal_fits : (w : ℕ) → tree_in g id ≡ node (Literal w) t cat place kids → nat_lt w (2 ^ 64) ≡ true → Written (Push w)
  literal_fits w is small = subst (λ (z : Bool). Goes p b book h g known lead rank (cond z (pushed (number w)) refused)) (sym small)
      (push_goes (number w) (tree_comes p b book h g chain d id Value a t cat place v es ts (Literal w) kids is
      ∙ ap (λ (z : Bool). cond z (comes_of p b book h g d chain (number w) es ts) stuck) small))

  -- a variable's place is at the same offset in both
  pub local_fits : (n : ℕ) → tree_in g id ≡ node (Local n) t cat place kids → unwrap_or (slice_get h.func.places n) 0 ≡ place_in g n → Written (FrameAddr (place_in g n))
  local_fits n is same = push_goes (local (place_in g n)) (tree_comes p b book h g chain d id Value a t cat place v es ts (Local n) kids is
      ∙ ap (λ (z : ℕ). comes_of p b book h g d chain (local z) es ts) same)

  pub global_fits : (n name : ℕ) → tree_in g id ≡ node (Global n) t cat place kids → h.table.global_of name ≡ Some n → Written (GlobalAddr name)
  global_fits n name is named = subst (λ (z : Option ℕ). Goes p b book h g known lead rank (if_found z (λ k. pushed (global k)))) (sym named)
      (push_goes (global n) (tree_comes p b book h g chain d id Value a t cat place v es ts (Global n) kids is))

  pub function_fits : (n name : ℕ) → tree_in g id ≡ node (Function n) t cat place kids → h.table.function_of name ≡ Some n → Written (FuncAddr name)
  function_fits n name is named = subst (λ (z : Option ℕ). Goes p b book h g known lead rank (if_found z (λ k. pushed (function k)))) (sym named)
      (push_goes (function n) (tree_comes p b book h g chain d id Value a t cat place v es ts (Function n) kids is))

  pub class_fits : (n name : ℕ) → tree_in g id ≡ node (ClassTable n) t cat place kids → h.table.class_of name ≡ Some n → Written (ClassAddr name)
  class_fits n name is named = subst (λ (z : Option ℕ). Goes p b book h g known lead rank (if_found z (λ k. pushed (table k)))) (sym named)
      (push_goes (table n) (tree_comes p b book h g chain d id Value a t cat place v es ts (ClassTable n) kids is))
