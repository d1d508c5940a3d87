-- What has no temporary with a destructor fits outside of a full-expression.
use Rattle.std.proofs.Common.{◌≡◌, refl, ℕ, suc, Bool, true, false, not, ◌&&◌, ◌||◌, length}
use Rattle.std.specs.Prelude.{cond, unwrap_or, is_some}
use Rattle.std.proofs.lemmas.Bool.{and_parts}
use Rattle.elab_rules.specs.cpp_types.Typ.{Typ}
use Rattle.elab_rules.specs.cpp_types.declared.ranks.Cat.{Cat}
use Rattle.elab_rules.specs.cpp_tree.declared.kinds.TKind.{TKind}
use Rattle.elab_rules.specs.cpp_tree.declared.kinds.TKind.TheVariants.{Materialize, FullExpression, Loop, Switch}
use Rattle.elab_rules.specs.cpp_tree.declared.program.FuncKind.{FuncKind}
use Rattle.elab_rules.specs.cpp_tree.declared.roles.Position.{Position}
use Rattle.elab_rules.specs.cpp_tree.declared.roles.Role.{Role}
use Rattle.elab_rules.specs.cpp_tree.declared.roles.Role.TheVariants.{Value}
use Rattle.elab_rules.specs.cpp_tree.Trees.{Tree, node, Trees, none, more, kind_of}
use Rattle.elab_rules.specs.cpp_tree.Roles.{Kids, role_at, serves, way_fits}
use Rattle.elab_rules.specs.cpp_tree.Rows.{Setting, row_fits, result_of}
use Rattle.elab_rules.specs.cpp_tree.WellFormed.{fits, kids_fit, enough, kids_in, heads_of, inside, is_kid, is_switch, labels_fit, may_stand, stands}
use Rattle.elab_rules.specs.cpp_tree.WellFormed.{branches_fit, is_zero_role, zeroes}
use Rattle.elab_rules.specs.Statements.{holds_temporary, hold_temporary, is_temporary_with}
use Rattle.elab_fits.specs.Standing.{FitsAs}
use Rattle.elab_fits.proofs.Nodes.{both}
use Rattle.elab_fits_statements.specs.Anywhere.{FitsAnywhere}

pub neither : (a b : Bool) → (a || b) ≡ false → (a ≡ false) × (b ≡ false)
neither true b h = absurd cc
neither false b h = (refl, h)

-- the same position in a full-expression
abbrev pub fully : Position → Position
fully p = record p { full = true }

-- the parts of what fits
pub record Fitting (s : Setting) (p : Position) (role : Role) (kind : TKind) (t : Typ) (cat : Cat) (kids : Trees) : Type 0 where
  pub serves : serves role kind ≡ true
  pub way : way_fits role kind t cat ≡ true
  pub standing : may_stand s.function.kind p kind (length (heads_of kids)) ≡ true
  pub branches : branches_fit role kind t (heads_of kids) ≡ true
  pub row : row_fits s kind t cat (heads_of kids) ≡ true
  pub enough : enough (kids_in role kind t (heads_of kids)) (length (heads_of kids)) ≡ true
  pub labels : (not (is_switch kind) || labels_fit false kids) ≡ true
  pub within : kids_fit s (inside kind p) (kids_in role kind t (heads_of kids)) 0 kids ≡ true

module _ (s : Setting) (p : Position) (role : Role) (kind : TKind) (t : Typ) (cat : Cat) (kids : Trees) where
  abbrev is_standing : Bool
  is_standing = stands s p role kind t cat (heads_of kids)

  abbrev has_enough : Bool
  has_enough = enough (kids_in role kind t (heads_of kids)) (length (heads_of kids))

  abbrev has_labels : Bool
  has_labels = not (is_switch kind) || labels_fit false kids

  abbrev has_kids : Bool
  has_kids = kids_fit s (inside kind p) (kids_in role kind t (heads_of kids)) 0 kids

  abbrev shape : Bool
  shape = serves role kind && way_fits role kind t cat

  abbrev placed : Bool
  placed = may_stand s.function.kind p kind (length (heads_of kids))

  pub fitting : (((is_standing && has_enough) && has_labels) && has_kids) ≡ true → Fitting s p role kind t cat kids
  fitting h =
      let a = and_parts ((is_standing && has_enough) && has_labels) has_kids h in
      let b = and_parts (is_standing && has_enough) has_labels a.0 in
      let d = and_parts is_standing has_enough b.0 in
      let e = and_parts ((shape && placed) && branches_fit role kind t (heads_of kids)) (row_fits s kind t cat (heads_of kids)) d.0 in
      let f = and_parts (shape && placed) (branches_fit role kind t (heads_of kids)) e.0 in
      let g = and_parts shape placed f.0 in
      let i = and_parts (serves role kind) (way_fits role kind t cat) g.0 in
      record { serves = i.0; way = i.1; standing = g.1; branches = f.1; row = e.1; enough = d.1; labels = b.1; within = a.1 }

  pub from_fitting : Fitting s p role kind t cat kids → (((is_standing && has_enough) && has_labels) && has_kids) ≡ true
  from_fitting f = both (both (both (both (both (both (both f.serves f.way) f.standing) f.branches) f.row) f.enough) f.labels) f.within

standing_out : (f : FuncKind) (p : Position) (role : Role) (kind : TKind) (t : Typ) (kids : Trees) → is_temporary_with kind kids ≡ false
    → enough (kids_in role kind t (heads_of kids)) (length (heads_of kids)) ≡ true → may_stand f (fully p) kind (length (heads_of kids)) ≡ true
    → may_stand f p kind (length (heads_of kids)) ≡ true
standing_out f p role (Materialize place true) t kids n e h = refl
standing_out f p role (Materialize place false) t none n e h = absurd cc
standing_out f p role (Materialize place false) t (more init none) n e h = refl
standing_out f p role (Materialize place false) t (more init (more d ds)) n e h = absurd cc
standing_out f p role kind t kids n e h = h

-- inside of a node at the same position
inside_out : (s : Setting) (kind : TKind) (p : Position) (ks : Kids) (kids : Trees)
    → (kids_fit s (fully (inside kind p)) ks 0 kids ≡ true → kids_fit s (inside kind p) ks 0 kids ≡ true)
    → kids_fit s (inside kind (fully p)) ks 0 kids ≡ true → kids_fit s (inside kind p) ks 0 kids ≡ true
inside_out s FullExpression p ks kids g h = h
inside_out s (Loop first) p ks kids g h = g h
inside_out s Switch p ks kids g h = g h
inside_out s kind p ks kids g h = g h

pub in_either : (b z x y : Bool) → (x ≡ true → y ≡ true) → cond b z x ≡ true → cond b z y ≡ true
in_either true z x y g h = h
in_either false z x y g h = g h

mutual
  tree_out : (s : Setting) (p : Position) (role : Role) (e : Tree) → holds_temporary e ≡ false → fits s (fully p) role e ≡ true → fits s p role e ≡ true
  tree_out s p role (node kind t cat at kids) n h =
      let m = neither (is_temporary_with kind kids) (hold_temporary kids) n in
      let f = fitting s (fully p) role kind t cat kids h in
      from_fitting s p role kind t cat kids (record {
        serves = f.serves;
        way = f.way;
        standing = standing_out s.function.kind p role kind t kids m.0 f.enough f.standing;
        branches = f.branches;
        row = f.row;
        enough = f.enough;
        labels = f.labels;
        within = inside_out s kind p (kids_in role kind t (heads_of kids)) kids
            (kids_out s (inside kind p) (kids_in role kind t (heads_of kids)) 0 kids m.1) f.within;
      })

  kids_out : (s : Setting) (p : Position) (ks : Kids) (i : ℕ) (ts : Trees) → hold_temporary ts ≡ false → kids_fit s (fully p) ks i ts ≡ true
      → kids_fit s p ks i ts ≡ true
  kids_out s p ks i none n h = refl
  kids_out s p ks i (more t ts) n h =
      let m = neither (holds_temporary t) (hold_temporary ts) n in
      let a = and_parts ((is_some (role_at ks i) && is_kid (kind_of t)) && cond (is_zero_role (unwrap_or (role_at ks i) Value))
      (zeroes s.classes false (result_of s.function) t) (fits s (fully p) (unwrap_or (role_at ks i) Value) t)) (kids_fit s (fully p) ks (suc i) ts) h in
      let b = and_parts (is_some (role_at ks i) && is_kid (kind_of t)) (cond (is_zero_role (unwrap_or (role_at ks i) Value))
      (zeroes s.classes false (result_of s.function) t) (fits s (fully p) (unwrap_or (role_at ks i) Value) t)) a.0 in
      both (both b.0 (in_either (is_zero_role (unwrap_or (role_at ks i) Value)) _ _ _ (tree_out s p (unwrap_or (role_at ks i) Value) t m.0) b.1))
      (kids_out s p ks (suc i) ts m.1 a.1)

pub anywhere : (s : Setting) (role : Role) (e : Tree) → FitsAs s role e → holds_temporary e ≡ false → FitsAnywhere s role e
anywhere s role e h n = λ p. tree_out s p role e n (h (fully p) refl)
