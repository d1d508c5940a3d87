-- Folding that keeps of each tree what a run asks of it in its place: its type, whether it is a label, a destruction or a field, and handlers as they
-- are. It is so for every tree; on well-formed ones it is folding.
use Rattle.std.proofs.Common.{◌≡◌, ℕ, Bool, true, false, ◌&&◌, refl, sym, ap, ◌∙◌, Option, Some, None, cond}
use Rattle.std.specs.Prelude.{unwrap_or}
use Rattle.std.proofs.lemmas.Bool.{and_parts}
use Rattle.cpp_tree.specs.cpp_types.Typ.{Typ}
use Rattle.cpp_tree.specs.cpp_types.Equal.{typ_eq}
use Rattle.cpp_tree.specs.cpp_types.declared.classes.At.{At}
use Rattle.cpp_tree.specs.cpp_types.declared.ranks.Cat.{Cat}
use Rattle.cpp_tree.specs.declared.kinds.TKind.{TKind}
use Rattle.cpp_tree.specs.declared.kinds.TKind.TheVariants.{Literal, Convert, Binary, Conditional, Comma, Case, Default, Try, Destroy, Field}
use Rattle.cpp_tree.specs.Trees.{Tree, node, Trees, none, more, kind_of, typ_in, first, rest, second, third}
use Rattle.src_mean.specs.Source.{is_case, is_default}
use Rattle.tree_fold.specs.Constants.{constant}
use Rattle.tree_fold.specs.Folding.{taken, literal_or}
use Rattle.tree_fold.proofs.Types.{typ_same}

-- neither a label, nor a destruction, nor a field
abbrev pub is_unmarked : TKind → Bool
is_unmarked (Case w) = false
is_unmarked Default = false
is_unmarked (Destroy f o c s) = false
is_unmarked (Field o k) = false
is_unmarked kind = true

-- what a run asks of a kind
abbrev pub mark : TKind → TKind
mark (Case w) = Case w
mark Default = Default
mark (Destroy f o c s) = Destroy f o c s
mark (Field o k) = Field o k
mark kind = Literal 0

abbrev pub is_try : TKind → Bool
is_try Try = true
is_try kind = false

abbrev pub may_replace : Typ → Tree → Bool
may_replace t u = typ_eq t (typ_in u) && is_unmarked (kind_of u)

abbrev pub replacing : Typ → Option Tree → Option Tree
replacing t None = None
replacing t (Some u) = cond (may_replace t u) (Some u) None

abbrev pub steady_node : (volatile : ℕ → Bool) → TKind → Typ → Cat → At → Trees → Tree
steady_node volatile kind t cat at kids = literal_or (constant kind t cat kids) t at
    (unwrap_or (replacing t (taken volatile kind t cat kids)) (node kind t cat at kids))

abbrev mutual
  pub steady : (volatile : ℕ → Bool) → Tree → Tree
  steady volatile (node kind t cat at kids) = steady_node volatile kind t cat at (cond (is_try kind) (steady_try volatile kids) (all_steady volatile kids))

  pub steady_try : (volatile : ℕ → Bool) → Trees → Trees
  steady_try volatile none = none
  steady_try volatile (more t ts) = more (steady volatile t) (steady_catches volatile ts)

  pub all_steady : (volatile : ℕ → Bool) → Trees → Trees
  all_steady volatile none = none
  all_steady volatile (more t ts) = more (steady volatile t) (all_steady volatile ts)

  pub steady_catches : (volatile : ℕ → Bool) → Trees → Trees
  steady_catches volatile none = none
  steady_catches volatile (more (node kind t cat at kids) ts) = more (node kind t cat at (all_steady volatile kids)) (steady_catches volatile ts)

abbrev pub steady_catch : (volatile : ℕ → Bool) → Tree → Tree
steady_catch volatile (node kind t cat at kids) = node kind t cat at (all_steady volatile kids)

-- Kinds and types

module _ (v : ℕ → Bool) where
  literal_marked : (o : Option ℕ) (t : Typ) (at : At) (tree : Tree) → mark (kind_of tree) ≡ Literal 0 → mark (kind_of (literal_or o t at tree)) ≡ Literal 0
  literal_marked None t at tree e = e
  literal_marked (Some w) t at tree e = refl

  unmarked_is : (kind : TKind) → is_unmarked kind ≡ true → mark kind ≡ Literal 0
  unmarked_is (Case w) e = absurd cc
  unmarked_is Default e = absurd cc
  unmarked_is (Destroy f o c s) e = absurd cc
  unmarked_is (Field o k) e = absurd cc
  unmarked_is kind e = refl

  replaced_marked : (o : Option Tree) (t : Typ) (own : Tree) → mark (kind_of own) ≡ Literal 0 → mark (kind_of (unwrap_or (replacing t o) own)) ≡ Literal 0
  replaced_marked None t own e = e
  replaced_marked (Some u) t own e = if_so (may_replace t u) refl
    where
      if_so : (b : Bool) → may_replace t u ≡ b → mark (kind_of (unwrap_or (cond b (Some u) None) own)) ≡ Literal 0
      if_so true g = unmarked_is (kind_of u) ((and_parts (typ_eq t (typ_in u)) (is_unmarked (kind_of u)) g).1)
      if_so false g = e

  pub mark_kept : (t : Tree) → mark (kind_of (steady v t)) ≡ mark (kind_of t)
  mark_kept (node (Convert to) t cat at kids) = literal_marked (constant (Convert to) t cat (all_steady v kids)) t at _ refl
  mark_kept (node (Binary op kind) t cat at kids) = literal_marked (constant (Binary op kind) t cat (all_steady v kids)) t at _ refl
  mark_kept (node Comma t cat at kids) = literal_marked (constant Comma t cat (all_steady v kids)) t at _ refl
  mark_kept (node Conditional t cat at kids) = replaced_marked (taken v Conditional t cat (all_steady v kids)) t
      (node Conditional t cat at (all_steady v kids)) refl
  mark_kept (node kind t cat at kids) = refl

  literal_typed : (o : Option ℕ) (t : Typ) (at : At) (tree : Tree) → typ_in tree ≡ t → typ_in (literal_or o t at tree) ≡ t
  literal_typed None t at tree e = e
  literal_typed (Some w) t at tree e = refl

  replaced_typed : (o : Option Tree) (t : Typ) (own : Tree) → typ_in own ≡ t → typ_in (unwrap_or (replacing t o) own) ≡ t
  replaced_typed None t own e = e
  replaced_typed (Some u) t own e = if_so (may_replace t u) refl
    where
      if_so : (b : Bool) → may_replace t u ≡ b → typ_in (unwrap_or (cond b (Some u) None) own) ≡ t
      if_so true g = sym (typ_same t (typ_in u) ((and_parts (typ_eq t (typ_in u)) (is_unmarked (kind_of u)) g).0))
      if_so false g = e

  node_typed : (kind : TKind) (t : Typ) (cat : Cat) (at : At) (kids : Trees) → typ_in (steady_node v kind t cat at kids) ≡ t
  node_typed kind t cat at kids =
      literal_typed (constant kind t cat kids) t at (unwrap_or (replacing t (taken v kind t cat kids)) (node kind t cat at kids))
      (replaced_typed (taken v kind t cat kids) t (node kind t cat at kids) refl)

  pub typ_kept : (t : Tree) → typ_in (steady v t) ≡ typ_in t
  typ_kept (node kind t cat at kids) = node_typed kind t cat at (cond (is_try kind) (steady_try v kids) (all_steady v kids))

  pub is_case_kept : (t : Tree) → is_case (kind_of (steady v t)) ≡ is_case (kind_of t)
  is_case_kept t = sym (case_of_mark (kind_of (steady v t))) ∙ ap is_case (mark_kept t) ∙ case_of_mark (kind_of t)
    where
      case_of_mark : (kind : TKind) → is_case (mark kind) ≡ is_case kind
      case_of_mark (Case w) = refl
      case_of_mark Default = refl
      case_of_mark (Destroy f o c s) = refl
      case_of_mark (Field o k) = refl
      case_of_mark kind = refl

  pub is_default_kept : (t : Tree) → is_default (kind_of (steady v t)) ≡ is_default (kind_of t)
  is_default_kept t = sym (default_of_mark (kind_of (steady v t))) ∙ ap is_default (mark_kept t) ∙ default_of_mark (kind_of t)
    where
      default_of_mark : (kind : TKind) → is_default (mark kind) ≡ is_default kind
      default_of_mark (Case w) = refl
      default_of_mark Default = refl
      default_of_mark (Destroy f o c s) = refl
      default_of_mark (Field o k) = refl
      default_of_mark kind = refl

  pub case_kept : (t : Tree) → is_case (kind_of t) ≡ true → kind_of (steady v t) ≡ kind_of t
  case_kept (node (Case w) t cat at kids) e = refl
  case_kept (node kind t cat at kids) e = absurd cc

  -- Kids

  pub first_kept : (ts : Trees) → first (all_steady v ts) ≡ steady v (first ts)
  first_kept none = refl
  first_kept (more t ts) = refl

  pub rest_kept : (ts : Trees) → rest (all_steady v ts) ≡ all_steady v (rest ts)
  rest_kept none = refl
  rest_kept (more t ts) = refl

  pub second_kept : (ts : Trees) → second (all_steady v ts) ≡ steady v (second ts)
  second_kept ts = ap first (rest_kept ts) ∙ first_kept (rest ts)

  pub third_kept : (ts : Trees) → third (all_steady v ts) ≡ steady v (third ts)
  third_kept ts = ap (λ z. first (rest z)) (rest_kept ts) ∙ second_kept (rest ts)

  pub first_tried : (ts : Trees) → first (steady_try v ts) ≡ steady v (first ts)
  first_tried none = refl
  first_tried (more t ts) = refl

  pub rest_tried : (ts : Trees) → rest (steady_try v ts) ≡ steady_catches v (rest ts)
  rest_tried none = refl
  rest_tried (more t ts) = refl
