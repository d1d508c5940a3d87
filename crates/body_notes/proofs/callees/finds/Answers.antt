use Rattle.std.proofs.Common.{◌≡◌, ℕ, Bool, List, ap, sym, subst}
use Rattle.cpp_tree.specs.Trees.{typ_in}
use Rattle.src_mean.specs.Source.{called_signature}
use Rattle.src_frames.specs.declared.trees.TreeAt.{TreeAt}
use Rattle.src_frames.specs.Trees.{tree_shown}
use Rattle.symbolic_source.specs.Terms.{Term}
use Rattle.symbolic_source.specs.Frames.{Callee, pointer, virtual}
use Rattle.symbolic_code.specs.Facts.{Fact}
use Rattle.symbolic_terms.specs.Meanings.{Meaning}
use Rattle.symbolic_terms.specs.Shown.{callee_of}
use Rattle.symbolic_leaving.specs.Source.{units_of}
use Rattle.body_check.specs.Calls.{Found, by_pointer, by_slot}
use Rattle.note_landing.specs.declared.notes.Notes.{Notes}
use Rattle.note_landing.specs.declared.compiled.Compiled.{Compiled}
use Rattle.note_landing.specs.Books.{bounds}
use Rattle.note_landing.specs.Shown.{linked_by, types_by, book_by, held_by}
use Rattle.body_notes.specs.Callees.{FoundBy, PointsTo, IsInSlot, IsSlotFunction}
use Rattle.body_notes.proofs.callees.finds.Goals as goal

module _ (b : Compiled) (m : Meaning) (ns : Notes) (known : List Fact) (name count : ℕ) (gives : Bool) (operand : Term) where
  found_pointer : (callee : Callee) (address : Term) (at : TreeAt) → callee ≡ pointer address (called_signature (typ_in (tree_shown (units_of b.source) at))) → operand ≡ address → PointsTo b name count at gives → FoundBy b m ns known name operand callee count gives
  found_pointer callee address at is same w all types =
      subst (λ z. Found (linked_by b) bounds (book_by b all types) (held_by b m ns) known name operand z count gives) (sym is)
      (subst (λ z. Found (linked_by b) bounds (book_by b all types) (held_by b m ns) known name z (pointer address (called_signature (typ_in (tree_shown (units_of b.source) at)))) count gives) (sym same)
      (by_pointer address (called_signature (typ_in (tree_shown (units_of b.source) at))) w.signature w.takes))

  found_slot : (callee : Callee) (class slot : ℕ) (address : Term) → callee ≡ virtual class slot address → IsSlotFunction known operand class slot address → IsInSlot b name count class slot gives → FoundBy b m ns known name operand callee count gives
  found_slot callee class slot address is f w all types =
      subst (λ z. Found (linked_by b) bounds (book_by b all types) (held_by b m ns) known name operand z count gives) (sym is)
      (subst (λ z. Found (linked_by b) bounds (book_by b all types) (held_by b m ns) known name z (virtual class slot address) count gives) (sym f.is)
      (by_slot class slot address w.named w.takes f.has))

pub returns-in_ok-points-in-Pointer-clause-is : goal.returns-in_ok-points-in-Pointer-clause-is
returns-in_ok-points-in-Pointer-clause-is c told m a ns =
    found_pointer c.args.body.now m ns _ _ _ _ _ _ _ _ (ap (λ z. callee_of (types_by c.args.body.now) m (units_of c.args.body.now.source) z) c.in-Pointer.is) (c.equal_words.ensures.shows c.if-not-equal_words.false (types_by c.args.body.now) m a) (c.in_ok-points-in-Pointer.ensures told)

pub returns-in_ok-is_there-in-Virtual-clause-is : goal.returns-in_ok-is_there-in-Virtual-clause-is
returns-in_ok-is_there-in-Virtual-clause-is c told m a ns =
    found_slot c.args.body.now m ns _ _ _ _ _ _ _ _ _ (ap (λ z. callee_of (types_by c.args.body.now) m (units_of c.args.body.now.source) z) c.in-Virtual.is) (c.in_ok-is_slot_function-in-Virtual.ensures.is c.if-not-branch.false (types_by c.args.body.now) m a) (c.in_ok-is_there-in-Virtual.ensures told)
