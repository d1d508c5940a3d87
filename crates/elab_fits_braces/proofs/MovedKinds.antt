-- Kinds of nodes and roles of kids, where a tree is moved.
use Rattle.std.proofs.Common.{◌≡◌, refl, sym, ap, ◌∙◌, ℕ, zero, suc, Bool, true, false, not, ◌&&◌, ◌||◌, List, [], ◌∷◌, length}
use Rattle.std.proofs.Common.{Option, slice_get, unwrap_or}
use Rattle.std.proofs.lemmas.Bool.{and_parts}
use Rattle.elab_rules.specs.cpp_types.Typ.{Typ}
use Rattle.elab_rules.specs.cpp_types.declared.ranks.Cat.{Cat}
use Rattle.elab_rules.specs.cpp_types.declared.ranks.Cat.TheVariants.{Prvalue}
use Rattle.elab_rules.specs.tx_ints.declared.kinds.IntKind.{IntKind}
use Rattle.elab_rules.specs.cpp_tree.declared.kinds.TKind.{TKind}
use Rattle.elab_rules.specs.cpp_tree.declared.kinds.TKind.TheVariants.{Load, Retype, Materialize, Conditional, Init, Defer, Switch, Break}
use Rattle.elab_rules.specs.cpp_tree.declared.kinds.TKind.TheVariants.{Continue}
use Rattle.elab_rules.specs.cpp_tree.declared.program.FuncKind.{FuncKind}
use Rattle.elab_rules.specs.cpp_tree.declared.roles.Position.{Position}
use Rattle.elab_rules.specs.cpp_tree.declared.roles.Role.{Role}
use Rattle.elab_rules.specs.cpp_tree.declared.roles.Role.TheVariants.{Value, Word, Initialiser, CopyInit, Zero, Statement, BlockItem, SwitchItem, Step, Part}
use Rattle.elab_rules.specs.cpp_tree.declared.roles.Role.TheVariants.{CopiedPart, Catch, Destruction, Scalar}
use Rattle.elab_rules.specs.cpp_tree.Trees.{Tree, node, kind_of, typ_in, cat_of}
use Rattle.elab_rules.specs.cpp_tree.Typing.{Head, head_of}
use Rattle.elab_rules.specs.cpp_tree.Roles.{Kids, kids_for, serves, way_fits, role_at, branch_role, result_role, part_role, object_role}
use Rattle.std.specs.Option.{option_or}
use Rattle.std.specs.List.{list_all}
use Rattle.elab_rules.specs.cpp_tree.declared.kinds.TKind.TheVariants.{Comma, FullExpression, Pieces, Piece, Elements}
use Rattle.elab_rules.specs.cpp_tree.Rows.{Setting}
use Rattle.elab_rules.specs.cpp_tree.WellFormed.{fits, inside, is_switch, may_stand}
use Rattle.elab_rules.specs.cpp_tree.WellFormed.{branches_fit, has_no_typ, no_object, is_zero_role}
use Rattle.elab_rules.specs.Braces.{moved_place}
use Rattle.elab_fits_braces.specs.Moving.{is_free, is_read}
use Rattle.elab_fits_braces.proofs.Plain.{plain_heads, plain_head, throw_plain}

abbrev pub moved_kind : ℕ → TKind → TKind
moved_kind by (Materialize place argument) = Materialize (moved_place by place) argument
moved_kind by kind = kind

-- Roles of kids

abbrev pub has_no_zero : Kids → Bool
has_no_zero k = list_all (λ (r : Role). not (is_zero_role r)) k.fixed && not (is_zero_role (unwrap_or k.others Value))

branch_no_zero : (role : Role) (v : Bool) → not (is_zero_role (branch_role role v)) ≡ true
branch_no_zero Initialiser v = refl
branch_no_zero Value v = refl
branch_no_zero Step v = refl
branch_no_zero role true = refl
branch_no_zero role false = refl

result_no_zero : (role : Role) → not (is_zero_role (result_role role)) ≡ true
result_no_zero Initialiser = refl
result_no_zero role = refl

part_no_zero : (role : Role) → not (is_zero_role (part_role role)) ≡ true
part_no_zero CopyInit = refl
part_no_zero role = refl

object_no_zero : (role : Role) → not (is_zero_role (object_role role)) ≡ true
object_no_zero CopiedPart = refl
object_no_zero CopyInit = refl
object_no_zero role = refl

pub kids_no_zero : (role : Role) (kind : TKind) (v o : Bool) → is_free kind ≡ true → has_no_zero (kids_for role kind v o) ≡ true
kids_no_zero role Conditional v o f = let e = branch_no_zero role v in rw e refl
kids_no_zero role Comma v o f = let e = result_no_zero role in rw e refl
kids_no_zero role FullExpression v o f = let e = result_no_zero role in rw e refl
kids_no_zero role Pieces v o f = let e = part_no_zero role in rw e refl
kids_no_zero role (Piece n) v o f = let e = object_no_zero role in rw e refl
kids_no_zero role (Elements n stride) v o f = let e = object_no_zero role in rw e refl
kids_no_zero role Init v o f = absurd cc
kids_no_zero role kind v o f = refl

pub not_true : (b : Bool) → not b ≡ true → b ≡ false
not_true false h = refl
not_true true h = absurd cc

role_no_zero : (rs : List Role) (o : Option Role) (i : ℕ) → list_all (λ (r : Role). not (is_zero_role r)) rs ≡ true
    → not (is_zero_role (unwrap_or o Value)) ≡ true → is_zero_role (unwrap_or (option_or (slice_get rs i) o) Value) ≡ false
role_no_zero [] o i h g = not_true (is_zero_role (unwrap_or o Value)) g
role_no_zero (r ∷ rs) o zero h g = not_true (is_zero_role r) (and_parts (not (is_zero_role r)) (list_all (λ (x : Role). not (is_zero_role x)) rs) h).0
role_no_zero (r ∷ rs) o (suc i) h g =
    role_no_zero rs o i (and_parts (not (is_zero_role r)) (list_all (λ (x : Role). not (is_zero_role x)) rs) h).1 g

pub no_zero_at : (k : Kids) (i : ℕ) → has_no_zero k ≡ true → is_zero_role (unwrap_or (role_at k i) Value) ≡ false
no_zero_at k i h =
    let a = and_parts (list_all (λ (r : Role). not (is_zero_role r)) k.fixed) (not (is_zero_role (unwrap_or k.others Value))) h in
    role_no_zero k.fixed k.others i a.0 a.1

-- What a node says of its kids' heads

pub length_plain : (hs : List Head) → length (plain_heads hs) ≡ length hs
length_plain [] = refl
length_plain (h ∷ hs) = ap suc (length_plain hs)

pub object_plain : (hs : List Head) → no_object (plain_heads hs) ≡ no_object hs
object_plain [] = refl
object_plain (h ∷ hs) = refl

untyped_plain : (hs : List Head) → list_all has_no_typ (plain_heads hs) ≡ list_all has_no_typ hs
untyped_plain [] = refl
untyped_plain (h ∷ hs) = let e = throw_plain h.kind in let g = untyped_plain hs in rw (e, g) refl

pub branches_plain : (role : Role) (kind : TKind) (t : Typ) (hs : List Head) → branches_fit role kind t (plain_heads hs) ≡ branches_fit role kind t hs
branches_plain role Conditional t [] = refl
branches_plain role Conditional t (h ∷ hs) = let e = untyped_plain hs in rw e refl
branches_plain role kind t hs = refl

-- heads that are alike but for plain kinds
pub same_of : {A : Type 0} (T : List Head → A) → ((hs : List Head) → T (plain_heads hs) ≡ T hs) → (hs gs : List Head) → plain_heads hs ≡ plain_heads gs → T hs ≡ T gs
same_of {A} T h hs gs e = sym (h hs) ∙ ap T e ∙ h gs

-- Kinds of nodes that are moved

pub serves_moved : (by : ℕ) (role : Role) (kind : TKind) → serves role kind ≡ true → serves role (moved_kind by kind) ≡ true
serves_moved by Value (Materialize place a) h = h
serves_moved by Word (Materialize place a) h = h
serves_moved by Initialiser (Materialize place a) h = h
serves_moved by CopyInit (Materialize place a) h = h
serves_moved by Zero (Materialize place a) h = h
serves_moved by Statement (Materialize place a) h = h
serves_moved by BlockItem (Materialize place a) h = h
serves_moved by SwitchItem (Materialize place a) h = h
serves_moved by Step (Materialize place a) h = h
serves_moved by Part (Materialize place a) h = h
serves_moved by CopiedPart (Materialize place a) h = h
serves_moved by Catch (Materialize place a) h = h
serves_moved by Destruction (Materialize place a) h = h
serves_moved by Scalar (Materialize place a) h = h
serves_moved by role kind h = h

pub way_moved : (by : ℕ) (role : Role) (kind : TKind) (t : Typ) (cat : Cat) → way_fits role kind t cat ≡ true → way_fits role (moved_kind by kind) t cat ≡ true
way_moved by Value (Materialize place a) t cat h = h
way_moved by Word (Materialize place a) t cat h = h
way_moved by Initialiser (Materialize place a) t cat h = h
way_moved by CopyInit (Materialize place a) t cat h = h
way_moved by Zero (Materialize place a) t cat h = h
way_moved by Statement (Materialize place a) t cat h = h
way_moved by BlockItem (Materialize place a) t cat h = h
way_moved by SwitchItem (Materialize place a) t cat h = h
way_moved by Step (Materialize place a) t cat h = h
way_moved by Part (Materialize place a) t cat h = h
way_moved by CopiedPart (Materialize place a) t cat h = h
way_moved by Catch (Materialize place a) t cat h = h
way_moved by Destruction (Materialize place a) t cat h = h
way_moved by Scalar (Materialize place a) t cat h = h
way_moved by role kind t cat h = h

pub may_moved : (by : ℕ) (j k : FuncKind) (p : Position) (kind : TKind) (many : ℕ) → is_free kind ≡ true → may_stand j p kind many ≡ true
    → may_stand k p (moved_kind by kind) many ≡ true
may_moved by j k p (Materialize place a) many f h = h
may_moved by j k p Defer many f h = absurd cc
may_moved by j k p Break many f h = h
may_moved by j k p Continue many f h = h
may_moved by j k p kind many f h = h

pub branches_moved : (by : ℕ) (role : Role) (kind : TKind) (t : Typ) (hs : List Head) → branches_fit role (moved_kind by kind) t hs ≡ branches_fit role kind t hs
branches_moved by role (Materialize place a) t hs = refl
branches_moved by role Conditional t hs = refl
branches_moved by role kind t hs = refl

pub kids_in_moved : (by : ℕ) (role : Role) (kind : TKind) (v o : Bool) → kids_for role (moved_kind by kind) v o ≡ kids_for role kind v o
kids_in_moved by role (Materialize place a) v o = refl
kids_in_moved by role kind v o = refl

pub no_switch : (by : ℕ) (kind : TKind) → is_free kind ≡ true → is_switch (moved_kind by kind) ≡ false
no_switch by (Materialize place a) f = refl
no_switch by Switch f = absurd cc
no_switch by kind f = refl

pub inside_moved : (by : ℕ) (kind : TKind) (p : Position) → inside (moved_kind by kind) p ≡ inside kind p
inside_moved by (Materialize place a) p = refl
inside_moved by kind p = refl

-- The pointer `this`

pub read_head : (e : Tree) (t : Typ) → is_read (kind_of e) ≡ true → typ_in e ≡ t → cat_of e ≡ Prvalue
    → plain_head (head_of e) ≡ record { kind = Retype; typ = t; cat = Prvalue }
read_head (node (Load k v) u cat at kids) t h g c = cc
read_head (node Retype u cat at kids) t h g c = cc
read_head (node kind u cat at kids) t h g c = absurd cc

-- it stands where another address did
pub read_fits : (s : Setting) (p : Position) (role : Role) (e : Tree) (k : IntKind) → is_read (kind_of e) ≡ true → serves role (Load k false) ≡ true
    → fits s p Value e ≡ true → fits s p role e ≡ true
read_fits s p Value (node (Load j v) u cat at kids) k h g f = f
read_fits s p Word (node (Load j v) u cat at kids) k h g f = f
read_fits s p Statement (node (Load j v) u cat at kids) k h g f = f
read_fits s p BlockItem (node (Load j v) u cat at kids) k h g f = f
read_fits s p SwitchItem (node (Load j v) u cat at kids) k h g f = f
read_fits s p Step (node (Load j v) u cat at kids) k h g f = f
read_fits s p Value (node Retype u cat at kids) k h g f = f
read_fits s p Word (node Retype u cat at kids) k h g f = f
read_fits s p Statement (node Retype u cat at kids) k h g f = f
read_fits s p BlockItem (node Retype u cat at kids) k h g f = f
read_fits s p SwitchItem (node Retype u cat at kids) k h g f = f
read_fits s p Step (node Retype u cat at kids) k h g f = f
read_fits s p role e k h g f = absurd cc

-- Rows

pub or_first : (a b : Bool) → b ≡ false → (a || b) ≡ true → a ≡ true
or_first true b h g = refl
or_first false b h g = absurd cc

pub and_none : (a b : Bool) → b ≡ false → (a && b) ≡ false
and_none true b h = h
and_none false b h = refl
