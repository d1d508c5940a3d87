-- The words of a call, and free places.
use Rattle.std.proofs.Common.{◌≡◌, refl, ap, Bool, true, false, [], ◌∷◌, length, Option, Some, None, is_some, arith}
use Rattle.std.specs.Prelude.{if◌then◌else◌}
use Rattle.elab_rules.specs.cpp_types.Typ.{Typ, ptr}
use Rattle.elab_rules.specs.cpp_tree.Notation.{plain}
use Rattle.elab_rules.specs.cpp_tree.Typing.{is_class_typ}
use Rattle.elab_rules.specs.Initialising.{signature_result}
use Rattle.elab_rules.specs.Programs.{one_if}
use Rattle.elab_rules.specs.Functions.{this_items}
use Rattle.elab_places.specs.Functions.{PlacesFree, WordsCounted}

pub result_words : (t : Typ) (b : Bool) → one_if b ≡ length (if b then plain (ptr t) ∷ [] else [])
result_words t true = refl
result_words t false = refl

pub this_words : (o : Option Typ) → one_if (is_some o) ≡ length (this_items o)
this_words (Some t) = refl
this_words None = refl

pub words_law : WordsCounted
words_law f this e = let r = result_words (signature_result f.declared.signature) (is_class_typ (signature_result f.declared.signature)) in
    let t = this_words this in let c : one_if (is_some this) ≡ one_if (is_some f.class) = ap one_if e in omega arith

pub free_law : PlacesFree
free_law f places h = h.within
