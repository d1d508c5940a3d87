-- Trees fit where they are moved to.
use Rattle.std.proofs.Common.{◌≡◌, refl, sym, ap, ◌∙◌, ℕ, zero, suc, ◌<◌, Bool, true, false, not, ◌&&◌, ◌||◌, List, [], ◌∷◌, length, Option, Some, None, slice_get}
use Rattle.std.proofs.Common.{is_some, unwrap_or, cond, arith}
use Rattle.std.proofs.lemmas.Bool.{and_parts}
use Rattle.elab_rules.specs.cpp_types.Typ.{Typ, typ, void}
use Rattle.elab_rules.specs.cpp_types.Equal.{typ_eq, kind_eq}
use Rattle.elab_rules.specs.cpp_types.Conversion.{is_lvalue}
use Rattle.elab_rules.specs.cpp_types.declared.classes.At.{At}
use Rattle.elab_rules.specs.cpp_types.declared.ranks.Cat.{Cat}
use Rattle.elab_rules.specs.cpp_types.declared.ranks.Cat.TheVariants.{Lvalue, Prvalue}
use Rattle.elab_rules.specs.tx_ints.declared.kinds.IntKind.{IntKind}
use Rattle.elab_rules.specs.tx_ints.declared.kinds.IntKind.TheVariants.{ULong}
use Rattle.elab_rules.specs.cpp_tree.declared.kinds.TKind.{TKind}
use Rattle.elab_rules.specs.cpp_tree.declared.kinds.TKind.TheVariants.{Local, Load, Materialize, Init, Defer, Switch, Return, Handler}
use Rattle.elab_rules.specs.cpp_tree.declared.roles.Position.{Position}
use Rattle.elab_rules.specs.cpp_tree.declared.roles.Role.{Role}
use Rattle.elab_rules.specs.cpp_tree.declared.roles.Role.TheVariants.{Value}
use Rattle.elab_rules.specs.cpp_tree.Trees.{Tree, node, Trees, none, more, kind_of}
use Rattle.elab_rules.specs.cpp_tree.Typing.{Head, head_of, passes, is_class_typ, is_void, is_scalar_value, builds}
use Rattle.elab_rules.specs.cpp_tree.Units.{Func}
use Rattle.elab_rules.specs.cpp_tree.Roles.{Kids, kids_for, serves, way_fits, role_at}
use Rattle.elab_rules.specs.cpp_tree.Rows.{Setting, row_fits, result_of, at_place, is_read as is_scalar_read, is_result_address, is_first_place, are_destructions}
use Rattle.elab_rules.specs.cpp_tree.WellFormed.{fits, kids_fit, enough, kids_in, heads_of, inside, is_kid, is_switch, labels_fit, may_stand, stands}
use Rattle.elab_rules.specs.cpp_tree.WellFormed.{branches_fit, no_object, is_zero_role, zeroes}
use Rattle.elab_rules.specs.Braces.{ThisAt, moved_place, relocated, all_relocated}
use Rattle.elab_fits.proofs.Nodes.{both, or_left, inside_full, head_kind}
use Rattle.elab_fits.proofs.Equal.{typ_same}
use Rattle.elab_fits_braces.specs.Moving.{is_free, is_movable, are_movable, IsThis, IsMoved, MovedFit}
use Rattle.elab_fits_braces.proofs.Plain.{plain_heads, plain_head, plain_kind}
use Rattle.elab_fits_braces.proofs.PlainRows.{row_plain}
use Rattle.elab_fits_braces.proofs.MovedKinds.{moved_kind, has_no_zero, kids_no_zero, no_zero_at, length_plain, object_plain, branches_plain, same_of, serves_moved}
use Rattle.elab_fits_braces.proofs.MovedKinds.{way_moved, may_moved, branches_moved, kids_in_moved, no_switch, inside_moved, read_head, read_fits, or_first, and_none}

kid_plain : (k : TKind) → is_kid (plain_kind k) ≡ is_kid k
kid_plain (Load kind volatile) = refl
kid_plain (Materialize place argument) = refl
kid_plain k = refl

module _ (s : Setting) (f : Func) (by : ℕ) (t : Typ) (this : ThisAt) (n : is_class_typ (result_of s.function) ≡ false)
    (m : IsMoved by s.function.frame f.frame) (d : IsThis (record s { function = f }) t this) where
  abbrev r : Setting
  r = record s { function = f }

  -- Heads

  pub head_moved : (e : Tree) → is_movable t e ≡ true → plain_head (head_of (relocated by this e)) ≡ plain_head (head_of e)
  head_moved (node (Load k false) u Prvalue at (more (node (Local zero) x cat p kids) none)) h =
      read_head (this at) u (d.read at) (d.typed at ∙ typ_same t u h) (d.category at)
  head_moved (node (Materialize place a) u cat at kids) h = refl
  head_moved (node kind u cat at kids) h = refl

  heads_moved : (ts : Trees) → are_movable t ts ≡ true → plain_heads (heads_of (all_relocated by this ts)) ≡ plain_heads (heads_of ts)
  heads_moved none h = refl
  heads_moved (more e ts) h =
      let a = and_parts (is_movable t e) (are_movable t ts) h in
      let b = head_moved e a.0 in
      let c = heads_moved ts a.1 in
      rw (b, c) refl

  kid_moved : (e : Tree) → is_movable t e ≡ true → is_kid (kind_of e) ≡ true → is_kid (kind_of (relocated by this e)) ≡ true
  kid_moved e h g = ap is_kid (sym (head_kind (relocated by this e))) ∙ sym (kid_plain (head_of (relocated by this e)).kind)
      ∙ ap (λ (x : Head). is_kid x.kind) (head_moved e h) ∙ kid_plain (head_of e).kind ∙ ap is_kid (head_kind e) ∙ g

  -- Rows

  place_by : (place : ℕ) (u : Typ) (o : Option Typ) → 0 < place → slice_get s.function.frame place ≡ o → passes (typ_eq u) o ≡ true
      → at_place f.frame (moved_place by place) u ≡ true
  place_by place u None l e h = absurd cc
  place_by place u (Some x) l e h = ap (passes (typ_eq u)) (m place x l e) ∙ h

  row_moved : (kind : TKind) (u : Typ) (cat : Cat) (hs : List Head) → is_free kind ≡ true → row_fits s kind u cat hs ≡ true
      → row_fits r (moved_kind by kind) u cat hs ≡ true
  row_moved (Load k v) u cat [] g h = absurd cc
  row_moved (Load k v) u Lvalue (x ∷ hs) g h = h
  row_moved (Load k v) u Prvalue (x ∷ hs) g h = or_left _ (or_first (is_scalar_value u && is_scalar_read k v u x) (kind_eq k ULong && not v
      && typ_eq u (typ void false false) && is_result_address (result_of s.function) x)
      (and_none (kind_eq k ULong && not v && typ_eq u (typ void false false)) (is_result_address (result_of s.function) x)
      (ap (λ (b : Bool). b && is_first_place x.kind) n)) h)
  row_moved (Local place) u cat hs g h = absurd cc
  row_moved (Materialize zero a) u cat hs g h = absurd cc
  row_moved (Materialize (suc place) a) u cat [] g h =
      let a = and_parts (is_lvalue cat && at_place s.function.frame (suc place) u && false) true h in
      let b = and_parts (is_lvalue cat && at_place s.function.frame (suc place) u) false a.0 in
      let c = b.1 in
      absurd cc
  row_moved (Materialize (suc place) a) u cat (x ∷ hs) g h =
      let a = and_parts (is_lvalue cat && at_place s.function.frame (suc place) u && builds u x) (are_destructions s u hs) h in
      let b = and_parts (is_lvalue cat && at_place s.function.frame (suc place) u) (builds u x) a.0 in
      let c = and_parts (is_lvalue cat) (at_place s.function.frame (suc place) u) b.0 in
      both (both (both c.0 (place_by (suc place) u (slice_get s.function.frame (suc place)) (omega arith) refl c.1)) b.1) a.1
  row_moved Init u cat hs g h = absurd cc
  row_moved Defer u cat hs g h = absurd cc
  row_moved Switch u cat hs g h = absurd cc
  row_moved Return u cat hs g h = absurd cc
  row_moved (Handler place) u cat hs g h = absurd cc
  row_moved kind u cat hs g h = h

  -- Nodes

  node_moved : (p : Position) (role : Role) (kind : TKind) (u : Typ) (cat : Cat) (at : At) (ks ls : Trees) → is_free kind ≡ true
      → plain_heads (heads_of ls) ≡ plain_heads (heads_of ks) → fits s p role (node kind u cat at ks) ≡ true
      → kids_fit r (inside kind p) (kids_in role kind u (heads_of ks)) 0 ls ≡ true → fits r p role (node (moved_kind by kind) u cat at ls) ≡ true
  node_moved p role kind u cat at ks ls g e h k =
      let hs = heads_of ks in
      let a = and_parts (stands s p role kind u cat (heads_of ks) && enough (kids_in role kind u (heads_of ks)) (length (heads_of ks))
      && (not (is_switch kind) || labels_fit false ks)) (kids_fit s (inside kind p) (kids_in role kind u (heads_of ks)) 0 ks) h in
      let b = and_parts (stands s p role kind u cat (heads_of ks) && enough (kids_in role kind u (heads_of ks)) (length (heads_of ks)))
      (not (is_switch kind) || labels_fit false ks) a.0 in
      let c = and_parts (stands s p role kind u cat (heads_of ks)) (enough (kids_in role kind u (heads_of ks)) (length (heads_of ks))) b.0 in
      let d1 = and_parts (serves role kind && way_fits role kind u cat && may_stand s.function.kind p kind (length (heads_of ks))
      && branches_fit role kind u (heads_of ks)) (row_fits s kind u cat (heads_of ks)) c.0 in
      let d2 = and_parts (serves role kind && way_fits role kind u cat && may_stand s.function.kind p kind (length (heads_of ks)))
      (branches_fit role kind u (heads_of ks)) d1.0 in
      let d3 = and_parts (serves role kind && way_fits role kind u cat) (may_stand s.function.kind p kind (length (heads_of ks))) d2.0 in
      let d4 = and_parts (serves role kind) (way_fits role kind u cat) d3.0 in
      let many : length (heads_of ls) ≡ length (heads_of ks) = same_of length length_plain (heads_of ls) (heads_of ks) e in
      let object : no_object (heads_of ls) ≡ no_object (heads_of ks) = same_of no_object object_plain (heads_of ls) (heads_of ks) e in
      let asked : kids_in role (moved_kind by kind) u (heads_of ls) ≡ kids_in role kind u (heads_of ks) =
      kids_in_moved by role kind (is_void u) (no_object (heads_of ls)) ∙ ap (λ (b : Bool). kids_for role kind (is_void u) b) object in
      let row : row_fits s kind u cat (heads_of ls) ≡ true =
      same_of (row_fits s kind u cat) (λ xs. row_plain s kind u cat xs g) (heads_of ls) (heads_of ks) e ∙ d1.1 in
      let branches : branches_fit role (moved_kind by kind) u (heads_of ls) ≡ true = branches_moved by role kind u (heads_of ls)
      ∙ same_of (branches_fit role kind u) (branches_plain role kind u) (heads_of ls) (heads_of ks) e ∙ d2.1 in
      let may : may_stand f.kind p (moved_kind by kind) (length (heads_of ls)) ≡ true =
      ap (may_stand f.kind p (moved_kind by kind)) many ∙ may_moved by s.function.kind f.kind p kind (length (heads_of ks)) g d3.1 in
      let full : enough (kids_in role (moved_kind by kind) u (heads_of ls)) (length (heads_of ls)) ≡ true =
      ap (λ (x : Kids). enough x (length (heads_of ls))) asked ∙ ap (enough (kids_in role kind u (heads_of ks))) many ∙ c.1 in
      let labels : (not (is_switch (moved_kind by kind)) || labels_fit false ls) ≡ true = ap (λ (b : Bool). not b || labels_fit false ls) (no_switch by kind g) in
      let kids : kids_fit r (inside (moved_kind by kind) p) (kids_in role (moved_kind by kind) u (heads_of ls)) 0 ls ≡ true =
      ap (λ (q : Position). kids_fit r q (kids_in role (moved_kind by kind) u (heads_of ls)) 0 ls) (inside_moved by kind p)
      ∙ ap (λ (x : Kids). kids_fit r (inside kind p) x 0 ls) asked ∙ k in
      both (both (both (both (both (both (both (serves_moved by role kind d4.0) (way_moved by role kind u cat d4.1)) may) branches)
      (row_moved kind u cat (heads_of ls) g row)) full) labels) kids

  this_serves : (p : Position) (role : Role) (k : IntKind) (u : Typ) (cat : Cat) (at : At) (ks : Trees) → fits s p role (node (Load k false) u cat at ks) ≡ true
      → serves role (Load k false) ≡ true
  this_serves p role k u cat at ks h =
      let kind : TKind = Load k false in
      let a = and_parts (stands s p role (Load k false) u cat (heads_of ks) && enough (kids_in role (Load k false) u (heads_of ks)) (length (heads_of ks))
      && (not (is_switch (Load k false)) || labels_fit false ks)) (kids_fit s (inside (Load k false) p) (kids_in role (Load k false) u (heads_of ks)) 0 ks) h in
      let b = and_parts (stands s p role (Load k false) u cat (heads_of ks) && enough (kids_in role (Load k false) u (heads_of ks)) (length (heads_of ks)))
      (not (is_switch (Load k false)) || labels_fit false ks) a.0 in
      let c = and_parts (stands s p role (Load k false) u cat (heads_of ks)) (enough (kids_in role (Load k false) u (heads_of ks)) (length (heads_of ks))) b.0 in
      let d1 = and_parts (serves role (Load k false) && way_fits role (Load k false) u cat && may_stand s.function.kind p (Load k false) (length (heads_of ks))
      && branches_fit role (Load k false) u (heads_of ks)) (row_fits s (Load k false) u cat (heads_of ks)) c.0 in
      let d2 = and_parts (serves role (Load k false) && way_fits role (Load k false) u cat && may_stand s.function.kind p (Load k false) (length (heads_of ks)))
      (branches_fit role (Load k false) u (heads_of ks)) d1.0 in
      let d3 = and_parts (serves role (Load k false) && way_fits role (Load k false) u cat) (may_stand s.function.kind p (Load k false) (length (heads_of ks))) d2.0 in
      (and_parts (serves role (Load k false)) (way_fits role (Load k false) u cat) d3.0).0

  kids_of_node : (p : Position) (role : Role) (kind : TKind) (u : Typ) (cat : Cat) (at : At) (kids : Trees) → fits s p role (node kind u cat at kids) ≡ true
      → kids_fit s (inside kind p) (kids_in role kind u (heads_of kids)) 0 kids ≡ true
  kids_of_node p role kind u cat at kids h =
      (and_parts (stands s p role kind u cat (heads_of kids) && enough (kids_in role kind u (heads_of kids)) (length (heads_of kids))
      && (not (is_switch kind) || labels_fit false kids)) (kids_fit s (inside kind p) (kids_in role kind u (heads_of kids)) 0 kids) h).1

  mutual
    pub tree_moved : (p : Position) (role : Role) (e : Tree) → p.full ≡ true → is_movable t e ≡ true → fits s p role e ≡ true
        → fits r p role (relocated by this e) ≡ true
    tree_moved p role (node (Load k false) u Prvalue at (more (node (Local zero) x cat q kids) none)) full g h =
        read_fits r p role (this at) k (d.read at) (this_serves p role k u Prvalue at (more (node (Local zero) x cat q kids) none) h) (d.fits at p full)
    tree_moved p role (node (Materialize place a) u cat at kids) full g h =
        let b = and_parts (is_free (Materialize place a)) (are_movable t kids) g in
        node_moved p role (Materialize place a) u cat at kids (all_relocated by this kids) b.0 (heads_moved kids b.1) h
        (kids_moved p (kids_in role (Materialize place a) u (heads_of kids)) 0 kids full
        (kids_no_zero role (Materialize place a) (is_void u) (no_object (heads_of kids)) b.0) b.1 (kids_of_node p role (Materialize place a) u cat at kids h))
    tree_moved p role (node kind u cat at kids) full g h =
        let b = and_parts (is_free kind) (are_movable t kids) g in
        node_moved p role kind u cat at kids (all_relocated by this kids) b.0 (heads_moved kids b.1) h
        (kids_moved (inside kind p) (kids_in role kind u (heads_of kids)) 0 kids (inside_full kind p full)
        (kids_no_zero role kind (is_void u) (no_object (heads_of kids)) b.0) b.1 (kids_of_node p role kind u cat at kids h))

    kids_moved : (p : Position) (asked : Kids) (i : ℕ) (ts : Trees) → p.full ≡ true → has_no_zero asked ≡ true → are_movable t ts ≡ true
        → kids_fit s p asked i ts ≡ true → kids_fit r p asked i (all_relocated by this ts) ≡ true
    kids_moved p asked i none full z g h = refl
    kids_moved p asked i (more e ts) full z g h =
        let b = and_parts (is_movable t e) (are_movable t ts) g in
        let role : Role = unwrap_or (role_at asked i) Value in
        let y : is_zero_role (unwrap_or (role_at asked i) Value) ≡ false = no_zero_at asked i z in
        let a1 = and_parts (is_some (role_at asked i) && is_kid (kind_of e) && cond (is_zero_role (unwrap_or (role_at asked i) Value))
        (zeroes s.classes false (result_of s.function) e) (fits s p (unwrap_or (role_at asked i) Value) e)) (kids_fit s p asked (suc i) ts) h in
        let a2 = and_parts (is_some (role_at asked i) && is_kid (kind_of e)) (cond (is_zero_role (unwrap_or (role_at asked i) Value))
        (zeroes s.classes false (result_of s.function) e) (fits s p (unwrap_or (role_at asked i) Value) e)) a1.0 in
        let a3 = and_parts (is_some (role_at asked i)) (is_kid (kind_of e)) a2.0 in
        let c : fits s p (unwrap_or (role_at asked i) Value) e ≡ true = sym (ap (λ (x : Bool). cond x (zeroes s.classes false (result_of s.function) e)
        (fits s p (unwrap_or (role_at asked i) Value) e)) y) ∙ a2.1 in
        both (both (both a3.0 (kid_moved e b.0 a3.1)) (ap (λ (x : Bool). cond x (zeroes s.classes false (result_of f) (relocated by this e))
        (fits r p (unwrap_or (role_at asked i) Value) (relocated by this e))) y ∙ tree_moved p (unwrap_or (role_at asked i) Value) e full b.0 c))
        (kids_moved p asked (suc i) ts full z b.1 a1.1)

pub moved_fit : MovedFit
moved_fit s f by t this role e n m d g h = λ p full. tree_moved s f by t this n m d p role e full g (h p full)
