-- Expressions at which nothing is written: the source takes a silent step or none, and what is left to write is read otherwise.
use Rattle.std.proofs.Common.{◌≡◌, refl, ap, sym, Bool, false, cond, List, ◌∷◌, Option}
use Rattle.tx_ints.specs.declared.kinds.IntKind.{IntKind}
use Rattle.tx_ints.specs.declared.kinds.BinOp.{BinOp}
use Rattle.cpp_tree.specs.cpp_types.declared.classes.At.{At}
use Rattle.cpp_tree.specs.declared.arena.TNodeId.{TNodeId}
use Rattle.low_code.specs.declared.scopes.ScopeKind.{ScopeKind}
use Rattle.low_code.specs.declared.writer.Jump.{Jump}
use Rattle.low_code.specs.Types.{is_void}
use Rattle.src_mean.specs.Frames.{Change}
use Rattle.src_mean.specs.Linked.{Program}
use Rattle.symbolic_source.specs.Terms.{number}
use Rattle.symbolic_source.specs.Outcomes.{Outcome}
use Rattle.symbolic_source.specs.Steps.{step_of, first_word}
use Rattle.symbolic_code.specs.Places.{with_operands}
use Rattle.body_check.specs.Notes.{Bounds, no_answers}
use Rattle.body_check.specs.Calls.{Book}
use Rattle.body_check.specs.Linked.{Held}
use Rattle.unwind_lower.specs.declared.items.Item.{Item}
use Rattle.unwind_lower.specs.declared.items.Way.{Way}
use Rattle.unwind_lower.specs.declared.items.Way.TheVariants.{Value, Dropped, Copying}
use Rattle.unwind_lower.specs.Settings.{Setting, node_in}
use Rattle.lowered_frames.specs.Lists.{others}
use Rattle.lowered_frames.specs.Modes.{Mode, top, gone, After, valued, dropped, copied}
use Rattle.lowered_frames.specs.Expressions.{run, next, drop, gives, right, apply, update_read, update_by, copy_to, copy_by, from, bind}
use Rattle.lowered_frames.specs.Left.{Left, below, count}
use Rattle.lowered_notes.proofs.Terms.{others_so}
use Rattle.lowered_steps.specs.Ahead.{standing, AlwaysRereads}
use Rattle.lowered_steps.proofs.Words.{first_told, others_told}
use Rattle.lowered_expressions.specs.Heads.{led}

module _ (p : Program) (b : Bounds) (book : Book) (h : Held) (g : Setting) (chain : List ScopeKind) where
  -- read otherwise behind a silent step, or at once
  abbrev pub Later : {m n : Mode} {items others : List Item} → Left g m items → Left g n others → Type 0
  Later d e = AlwaysRereads p b book h g d chain e chain (step_of p h.func no_answers)

  abbrev pub AtOnce : {m n : Mode} {items others : List Item} → Left g m items → Left g n others → Type 0
  AtOnce d e = AlwaysRereads p b book h g d chain e chain (λ (z : Outcome). z)

  -- ---- at once

  -- what is run for what it does is run for its value, which is dropped
  pub dropped_reads : {items : List Item} (d : Left g gone items) (id : TNodeId) (a : After (node_in g id) Value top) (at : At)
      → AtOnce (led (run id Dropped dropped) d) (led (run id Value a) (led (drop at) d))
  dropped_reads d id a at v es ts known f = record {
    value = v;
    exceptions = es;
    terms = ts;
    filled = record { all = f.all; so = f.so; types = f.types; knows = f.knows; comes = tt };
    told = λ t u. (t, u);
    place_is = refl;
    outcome_is = refl;
  }

  -- where there is none
  pub void_reads : {items : List Item} (d : Left g gone items) (id : TNodeId) (a : After (node_in g id) Value gone)
      → AtOnce (led (run id Dropped dropped) d) (led (run id Value a) d)
  void_reads d id a v es ts known f = record {
    value = v;
    exceptions = es;
    terms = ts;
    filled = record { all = f.all; so = f.so; types = f.types; knows = f.knows; comes = tt };
    told = λ t u. (t, u);
    place_is = refl;
    outcome_is = refl;
  }

  -- a word that lies on top is the value
  pub gives_reads : {items : List Item} (d : Left g top items) → AtOnce (led gives d) d
  gives_reads d v es ts known f = record {
    value = first_word ts;
    exceptions = es;
    terms = others ts;
    filled = record { all = f.all; so = others_so (count g d chain) ts f.so; types = f.types; knows = f.knows; comes = tt };
    told = λ t u. (first_told ts u, others_told ts u);
    place_is = refl;
    outcome_is = refl;
  }

  -- a jump that is bound writes nothing
  pub bind_reads : {m : Mode} {items : List Item} (d : Left g m items) (jump : Option Jump) → AtOnce (led (bind jump) d) d
  bind_reads d jump v es ts known f = record {
    value = v;
    exceptions = es;
    terms = ts;
    filled = record { all = f.all; so = f.so; types = f.types; knows = f.knows; comes = f.comes };
    told = λ t u. (t, u);
    place_is = refl;
    outcome_is = refl;
  }

  -- ---- behind a silent step

  pub next_reads : {m : Mode} {items : List Item} (d : Left g m items) (id : TNodeId) (way : Way) (a : After (node_in g id) way m)
      → Later (led (next id way a) d) (led (run id way a) d)
  next_reads d id way a v es ts known f = record {
    value = number 0;
    exceptions = es;
    terms = ts;
    filled = record { all = f.all; so = f.so; types = f.types; knows = f.knows; comes = tt };
    told = λ t u. (refl, u);
    place_is = refl;
    outcome_is = refl;
  }

  -- the right operand, where the left one lies on top
  pub right_reads : {items : List Item} (d : Left g top items) (op : BinOp) (kind : IntKind) (id : TNodeId) (at : At) (e : is_void (node_in g id).typ ≡ false)
      → Later (led (right op kind id at e) d) (led (run id Value (valued e)) (led (apply op kind at) d))
  right_reads d op kind id at e v es ts known f = record {
    value = number 0;
    exceptions = es;
    terms = v ∷ ts;
    filled = record { all = f.all; so = f.so; types = f.types; knows = f.knows; comes = tt };
    told = λ t u. (refl, (t, u));
    place_is = refl;
    outcome_is = refl;
  }

  -- the right operand of an update, where the old value lies on two addresses
  pub update_read_reads : {items : List Item} (d : Left g top items) (c : Change) (id : TNodeId) (at : At) (o : c.old ≡ false) (e : is_void (node_in g id).typ ≡ false)
      → Later (led (update_read c id at o e) d) (led (run id Value (valued e)) (led (update_by c at) d))
  update_read_reads d c id at o e v es ts known f = record {
    value = number 0;
    exceptions = es;
    terms = v ∷ ts;
    filled = record { all = f.all; so = f.so; types = f.types; knows = f.knows; comes = tt };
    told = λ t u. (refl, (t, u));
    place_is = ap (λ (z : Bool). with_operands (standing p b book h g (led (update_read c id at o e) d) chain v es ts)
        (v ∷ first_word ts ∷ cond z v (first_word ts) ∷ below g d chain (others ts))) (sym o);
    outcome_is = refl;
  }

  -- what is copied, where the target lies on top
  pub copy_to_reads : {items : List Item} (d : Left g top items) (source init : TNodeId) (at : At) (e : is_void (node_in g source).typ ≡ false)
      → Later (led (copy_to source init at e) d) (led (run source Value (valued e)) (led (copy_by init at) d))
  copy_to_reads d source init at e v es ts known f = record {
    value = number 0;
    exceptions = es;
    terms = v ∷ ts;
    filled = record { all = f.all; so = f.so; types = f.types; knows = f.knows; comes = tt };
    told = λ t u. (refl, (t, u));
    place_is = refl;
    outcome_is = refl;
  }

  -- a copy into the object whose address lies below
  pub from_reads : {items : List Item} (d : Left g gone items) (init : TNodeId) → Later (led (from init) d) (led (run init Copying copied) d)
  from_reads d init v es ts known f = record {
    value = number 0;
    exceptions = es;
    terms = first_word ts ∷ v ∷ others ts;
    filled = record { all = f.all; so = others_so (count g d chain) ts f.so; types = f.types; knows = f.knows; comes = tt };
    told = λ t u. (refl, (first_told ts u, (t, others_told ts u)));
    place_is = refl;
    outcome_is = refl;
  }
