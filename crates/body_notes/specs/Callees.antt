-- What is called, with its words.
use Rattle.std.specs.Prelude.{ℕ, Bool, true, ◌≡◌, List}
use Rattle.cpp_tree.specs.cpp_types.Typ.{Typ}
use Rattle.cpp_tree.specs.Trees.{typ_in}
use Rattle.src_mean.specs.Source.{called_signature}
use Rattle.src_frames.specs.declared.trees.TreeAt.{TreeAt}
use Rattle.src_frames.specs.Trees.{tree_shown}
use Rattle.src_bind.specs.Tables.{typed}
use Rattle.symbolic_source.specs.Terms.{Term, slot_function}
use Rattle.symbolic_source.specs.Frames.{Callee}
use Rattle.symbolic_source.specs.Outcomes.{Outcome}
use Rattle.symbolic_code.specs.Facts.{Fact, has_function, Among}
use Rattle.symbolic_code.specs.Places.{Place}
use Rattle.symbolic_leaving.specs.Source.{units_of}
use Rattle.body_check.specs.Notes.{Note}
use Rattle.body_check.specs.Calls.{Calling, Found, CallingFound}
use Rattle.image_links.specs.Books.{pointed_pass, slotted_pass, is_signature, is_slot}
use Rattle.symbolic_terms.specs.Meanings.{Meaning}
use Rattle.note_landing.specs.declared.notes.Notes.{Notes}
use Rattle.note_landing.specs.declared.compiled.Compiled.{Compiled}
use Rattle.note_landing.specs.Books.{bounds}
use Rattle.note_landing.specs.Shown.{linked_by, given_by, image_by, book_by, held_by}

-- a call by a name, whoever holds the other bodies
module _ (b : Compiled) (m : Meaning) (ns : Notes) where
  pub record CallsBy (known : List Fact) (index : ℕ) (q : Place) (o : Outcome) (name count callee : ℕ) (all : ℕ → Bool → List Note) (types : ℕ → Bool → List Typ) : Type 0 where
    pub calling : Calling (linked_by b) bounds (book_by b all types) (held_by b m ns) known index q o name count
    pub callee_is : calling.callee ≡ callee

  abbrev pub CallsFoundBy : (known : List Fact) (index : ℕ) (q : Place) (o : Outcome) (name count : ℕ) (all : ℕ → Bool → List Note) (types : ℕ → Bool → List Typ) → Type 0
  CallsFoundBy known index q o name count all types = CallingFound (linked_by b) bounds (book_by b all types) (held_by b m ns) known index q o name count

-- the functions of a pointer's type take so many words, and hand back one or none
pub record PointsTo (b : Compiled) (name count : ℕ) (pointer : TreeAt) (gives : Bool) : Type 0 where
  pub signature : is_signature (image_by b) (linked_by b) (typed (given_by b)) name (called_signature (typ_in (tree_shown (units_of b.source) pointer))) ≡ true
  pub takes : pointed_pass (image_by b) (linked_by b) (typed (given_by b)) (called_signature (typ_in (tree_shown (units_of b.source) pointer))) count gives ≡ true

-- so do the functions in a slot
pub record IsInSlot (b : Compiled) (name count class slot : ℕ) (gives : Bool) : Type 0 where
  pub named : is_slot (image_by b) (linked_by b) (typed (given_by b)) name class slot ≡ true
  pub takes : slotted_pass (image_by b) (linked_by b) (typed (given_by b)) class slot count gives ≡ true

pub record IsSlotFunction (known : List Fact) (operand : Term) (class slot : ℕ) (address : Term) : Type 0 where
  pub is : operand ≡ slot_function class slot address
  pub has : Among (has_function class slot address) known

-- what an operand finds, whoever holds the other bodies
abbrev pub FoundBy : (b : Compiled) (m : Meaning) (ns : Notes) (known : List Fact) (name : ℕ) (operand : Term) (callee : Callee) (count : ℕ) (gives : Bool) → Type 0
FoundBy b m ns known name operand callee count gives = (all : ℕ → Bool → List Note) (types : ℕ → Bool → List Typ) → Found (linked_by b) bounds (book_by b all types) (held_by b m ns) known name operand callee count gives
