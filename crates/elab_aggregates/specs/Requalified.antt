-- An initialiser in an object with qualifiers, by its kind and its kids.
use Rattle.std.specs.Prelude.{ℕ, suc, ◌==◌, ◌||◌, Bool, true, false, not}
use Rattle.elab_make.specs.cpp_tree.declared.kinds.TKind.{TKind}
use Rattle.elab_make.specs.cpp_tree.declared.kinds.TKind.TheVariants.{Store, CopyScalar, Construct, CopyConstruct, CopyFrom, Pieces, Piece, Elements}
use Rattle.elab_make.specs.cpp_tree.Trees.{Tree, Trees, none, more}
use Rattle.elab_make.specs.elab_rules.Braces.{requalified}

-- it has the qualifiers of the object that it initialises
abbrev pub has_qualifiers : TKind → (has_kids : Bool) → Bool
has_qualifiers (Store kind marked) has_kids = true
has_qualifiers (CopyScalar kind marked) has_kids = true
has_qualifiers (Construct func) has_kids = true
has_qualifiers (CopyConstruct func) has_kids = true
has_qualifiers Pieces has_kids = true
has_qualifiers CopyFrom has_kids = has_kids
has_qualifiers (Piece offset) has_kids = has_kids
has_qualifiers (Elements count stride) has_kids = has_kids
has_qualifiers kind has_kids = false

abbrev pub marked_kind : (is_volatile : Bool) → TKind → TKind
marked_kind v (Store kind marked) = Store kind (marked || v)
marked_kind v (CopyScalar kind marked) = CopyScalar kind (marked || v)
marked_kind v kind = kind

-- its kid with this index initialises the same object, or a part of it
abbrev pub is_part : TKind → ℕ → Bool
is_part Pieces i = true
is_part CopyFrom i = not (i == 0)
is_part (Piece offset) i = i == 0
is_part (Elements count stride) i = i == 0
is_part kind i = false

abbrev pub kid_requalified : Bool → Bool → (is_part : Bool) → Tree → Tree
kid_requalified q v true t = requalified q v t
kid_requalified q v false t = t

-- its kids from an index on
abbrev pub kids_requalified : Bool → Bool → TKind → ℕ → Trees → Trees
kids_requalified q v kind i none = none
kids_requalified q v kind i (more t ts) = more (kid_requalified q v (is_part kind i) t) (kids_requalified q v kind (suc i) ts)
