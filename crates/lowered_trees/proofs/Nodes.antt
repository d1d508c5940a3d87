-- A node of a well-formed body that fits where it stands is run the way that its place asks.
use Rattle.std.proofs.Common.{◌≡◌, ℕ, suc, Bool, true, false, ◌&&◌, cond, List, [], ◌∷◌, Option, Some, None, refl, sym, ap, ◌∙◌, subst}
use Rattle.std.proofs.lemmas.Bool.{and_parts}
use Rattle.std.specs.Prelude.{slice_get, is_some, unwrap_or}
use Rattle.cpp_tree.specs.cpp_types.Typ.{Typ}
use Rattle.cpp_tree.specs.cpp_types.declared.ranks.Cat.{Cat}
use Rattle.cpp_tree.specs.declared.arena.TNode.{TNode}
use Rattle.cpp_tree.specs.declared.arena.TNodeId.{TNodeId}
use Rattle.cpp_tree.specs.declared.kinds.TKind.{TKind}
use Rattle.cpp_tree.specs.declared.kinds.TKind.TheVariants.{Literal, Local, Global, Function, ClassTable, Load, Convert, Retype, Binary, Conditional, Comma, Assign, Update}
use Rattle.cpp_tree.specs.declared.kinds.TKind.TheVariants.{CopyAssign, Materialize, FullExpression, Call, VirtualCall, PointerCall, Builtin, Throw, Rethrow}
use Rattle.cpp_tree.specs.declared.kinds.TKind.TheVariants.{Store, CopyScalar, Construct, CopyConstruct, CopyFrom, Pieces, Piece, Elements}
use Rattle.cpp_tree.specs.declared.kinds.TKind.TheVariants.{Block, Init, Defer, Loop, Switch, Case, Default, Break, Continue, Return, Try, Handler, Atomic, Synchronized}
use Rattle.cpp_tree.specs.declared.kinds.TKind.TheVariants.{Destroy, Field}
use Rattle.cpp_tree.specs.declared.roles.Position.{Position}
use Rattle.cpp_tree.specs.declared.roles.Role.{Role}
use Rattle.cpp_tree.specs.declared.roles.Role.TheVariants.{Value, Zero}
use Rattle.cpp_tree.specs.Trees.{Tree, node, Trees, none, more, kind_of}
use Rattle.cpp_tree.specs.Arena.{Shows, ShowsAll}
use Rattle.cpp_tree.specs.Typing.{Head, head_of}
use Rattle.cpp_tree.specs.Roles.{Kids, kids_for, role_at, serves}
use Rattle.cpp_tree.specs.Rows.{result_of}
use Rattle.cpp_tree.specs.WellFormed.{heads_of, kids_in, is_kid, is_zero_role, inside, fits, kids_fit, zeroes, setting_of}
use Rattle.low_code.specs.Nodes.{Node, node_of, node_or}
use Rattle.unwind_lower.specs.declared.items.Way.{Way}
use Rattle.unwind_lower.specs.declared.items.Way.TheVariants.{Into}
use Rattle.unwind_lower.specs.Settings.{Setting, node_in, makes_temporaries}
use Rattle.lowered_trees.specs.Suiting.{told, counts, kids_suit, is_init, suits, all_suit}
use Rattle.lowered_trees.specs.Running.{Runs}
use Rattle.lowered_trees.proofs.Known.{known, Serves, Kid, KidAt, AreKids, Holds, Comes, is_leaf, for_value, of_result, word, builds, copies, statement, block_item}
use Rattle.lowered_trees.proofs.Known.{switch_item, step, part, copied_part, caught, dropped as drops}
use Rattle.lowered_trees.proofs.Kids.{none_kid}
use Rattle.lowered_trees.proofs.Expressions.{literal_runs, local_runs, global_runs, function_runs, class_table_runs, load_runs, convert_runs, retype_runs, binary_runs}
use Rattle.lowered_trees.proofs.Expressions.{assign_runs, update_runs, copy_assign_runs}
use Rattle.lowered_trees.proofs.Statements.{block_runs, loop_runs, switch_runs, default_runs, break_runs, continue_runs, try_runs, atomic_runs, synchronized_runs}
use Rattle.lowered_trees.proofs.Objects.{temporary_runs, argument_runs, store_runs, copy_scalar_runs, copy_from_runs, pieces_runs, piece_runs, elements_runs}
use Rattle.lowered_trees.proofs.Calls.{call_runs, virtual_call_runs, pointer_call_runs, built_in_runs, construct_runs, copy_construct_runs}
use Rattle.lowered_trees.proofs.Choices.{conditional_runs, comma_runs, full_runs, throw_runs, rethrow_runs}
use Rattle.lowered_trees.proofs.Making.{init_runs, defer_runs, return_runs, case_runs, is_handler_there}
use Rattle.lowered_trees.proofs.Ways.{as_run}
use Rattle.lowered_trees.proofs.Words.{tells_from}
use Rattle.lowered_trees.proofs.Rows.{words_from}

abbrev pub is_row : TKind → Bool
is_row (Destroy f o c s) = true
is_row (Field o k) = true
is_row kind = false

-- no node that serves in a role that is run is one of these
not_run : {A : Type 0} {a : Bool} {role : Role} {way : Way} → Serves a role way → (kind : TKind) → is_row kind ≡ true → serves role kind ≡ true → A
not_run for_value (Destroy f o c s) r e = absurd cc
not_run for_value (Field o k) r e = absurd cc
not_run for_value kind r e = absurd cc
not_run drops (Destroy f o c s) r e = absurd cc
not_run drops (Field o k) r e = absurd cc
not_run drops kind r e = absurd cc
not_run of_result (Destroy f o c s) r e = absurd cc
not_run of_result (Field o k) r e = absurd cc
not_run of_result kind r e = absurd cc
not_run word (Destroy f o c s) r e = absurd cc
not_run word (Field o k) r e = absurd cc
not_run word kind r e = absurd cc
not_run builds (Destroy f o c s) r e = absurd cc
not_run builds (Field o k) r e = absurd cc
not_run builds kind r e = absurd cc
not_run copies (Destroy f o c s) r e = absurd cc
not_run copies (Field o k) r e = absurd cc
not_run copies kind r e = absurd cc
not_run statement (Destroy f o c s) r e = absurd cc
not_run statement (Field o k) r e = absurd cc
not_run statement kind r e = absurd cc
not_run block_item (Destroy f o c s) r e = absurd cc
not_run block_item (Field o k) r e = absurd cc
not_run block_item kind r e = absurd cc
not_run switch_item (Destroy f o c s) r e = absurd cc
not_run switch_item (Field o k) r e = absurd cc
not_run switch_item kind r e = absurd cc
not_run step (Destroy f o c s) r e = absurd cc
not_run step (Field o k) r e = absurd cc
not_run step kind r e = absurd cc
not_run part (Destroy f o c s) r e = absurd cc
not_run part (Field o k) r e = absurd cc
not_run part kind r e = absurd cc
not_run copied_part (Destroy f o c s) r e = absurd cc
not_run copied_part (Field o k) r e = absurd cc
not_run copied_part kind r e = absurd cc
not_run caught (Destroy f o c s) r e = absurd cc
not_run caught (Field o k) r e = absurd cc
not_run caught kind r e = absurd cc

-- a handler comes where handlers serve alone
handled : (g : Setting) (p : Position) {a : Bool} {role : Role} {way : Way} (id : TNodeId) (place : Option ℕ) (t : Typ) (cat : Cat) (ids : List TNodeId)
    → (hs : List Head) → Serves a role way → serves role (Handler place) ≡ true → Holds g p role a id (Handler place) t cat ids hs → Comes g role p id way
handled g p id place t cat ids hs caught e h = is_handler_there g place h
handled g p id place t cat ids hs for_value e h = absurd cc
handled g p id place t cat ids hs drops e h = absurd cc
handled g p id place t cat ids hs of_result e h = absurd cc
handled g p id place t cat ids hs word e h = absurd cc
handled g p id place t cat ids hs builds e h = absurd cc
handled g p id place t cat ids hs copies e h = absurd cc
handled g p id place t cat ids hs statement e h = absurd cc
handled g p id place t cat ids hs block_item e h = absurd cc
handled g p id place t cat ids hs switch_item e h = absurd cc
handled g p id place t cat ids hs step e h = absurd cc
handled g p id place t cat ids hs part e h = absurd cc
handled g p id place t cat ids hs copied_part e h = absurd cc

module _ (g : Setting) {p : Position} {role : Role} {a : Bool} {way : Way} (id : TNodeId) (t : Typ) (cat : Cat) (ids : List TNodeId) (hs : List Head) where
  -- a node of a kind
  pub comes_of : (kind : TKind) → Serves a role way → Holds g p role a id kind t cat ids hs → Comes g role p id way
  comes_of (Literal u) w h = as_run g p id w (Literal u) h.fit.serves refl (literal_runs g u w h)
  comes_of (Local u) w h = as_run g p id w (Local u) h.fit.serves refl (local_runs g u w h)
  comes_of (Global u) w h = as_run g p id w (Global u) h.fit.serves refl (global_runs g u w h)
  comes_of (Function u) w h = as_run g p id w (Function u) h.fit.serves refl (function_runs g u w h)
  comes_of (ClassTable u) w h = as_run g p id w (ClassTable u) h.fit.serves refl (class_table_runs g u w h)
  comes_of (Load k v) w h = as_run g p id w (Load k v) h.fit.serves refl (load_runs g k v w h)
  comes_of (Convert k) w h = as_run g p id w (Convert k) h.fit.serves refl (convert_runs g k w h)
  comes_of Retype w h = as_run g p id w Retype h.fit.serves refl (retype_runs g w h)
  comes_of (Binary op k) w h = as_run g p id w (Binary op k) h.fit.serves refl (binary_runs g op k w h)
  comes_of Conditional w h = as_run g p id w Conditional h.fit.serves refl (conditional_runs g w h)
  comes_of Comma w h = as_run g p id w Comma h.fit.serves refl (comma_runs g w h)
  comes_of (Assign k v) w h = as_run g p id w (Assign k v) h.fit.serves refl (assign_runs g k v w h)
  comes_of (Update op j k v old) w h = as_run g p id w (Update op j k v old) h.fit.serves refl (update_runs g op j k v old w h)
  comes_of CopyAssign w h = as_run g p id w CopyAssign h.fit.serves refl (copy_assign_runs g w h)
  comes_of (Materialize u false) w h = as_run g p id w (Materialize u false) h.fit.serves refl (temporary_runs g u w h)
  comes_of (Materialize u true) w h = as_run g p id w (Materialize u true) h.fit.serves refl (argument_runs g u w h)
  comes_of FullExpression w h = as_run g p id w FullExpression h.fit.serves refl (full_runs g w h)
  comes_of (Call f) w h = as_run g p id w (Call f) h.fit.serves refl (call_runs g f w h)
  comes_of (VirtualCall f n slot pointer) w h = as_run g p id w (VirtualCall f n slot pointer) h.fit.serves refl (virtual_call_runs g f n slot pointer w h)
  comes_of PointerCall w h = as_run g p id w PointerCall h.fit.serves refl (pointer_call_runs g w h)
  comes_of (Builtin b) w h = as_run g p id w (Builtin b) h.fit.serves refl (built_in_runs g b w h)
  comes_of Throw w h = as_run g p id w Throw h.fit.serves refl (throw_runs g w h)
  comes_of Rethrow w h = as_run g p id w Rethrow h.fit.serves refl (rethrow_runs g w h)
  comes_of (Store k v) w h = as_run g p id w (Store k v) h.fit.serves refl (store_runs g k v w h)
  comes_of (CopyScalar k v) w h = as_run g p id w (CopyScalar k v) h.fit.serves refl (copy_scalar_runs g k v w h)
  comes_of (Construct f) w h = as_run g p id w (Construct f) h.fit.serves refl (construct_runs g f w h)
  comes_of (CopyConstruct f) w h = as_run g p id w (CopyConstruct f) h.fit.serves refl (copy_construct_runs g f w h)
  comes_of CopyFrom w h = as_run g p id w CopyFrom h.fit.serves refl (copy_from_runs g w h)
  comes_of Pieces w h = as_run g p id w Pieces h.fit.serves refl (pieces_runs g w h)
  comes_of (Piece offset) w h = as_run g p id w (Piece offset) h.fit.serves refl (piece_runs g offset w h)
  comes_of (Elements count stride) w h = as_run g p id w (Elements count stride) h.fit.serves refl (elements_runs g count stride w h)
  comes_of (Block b) w h = as_run g p id w (Block b) h.fit.serves refl (block_runs g b w h)
  comes_of Init w h = as_run g p id w Init h.fit.serves refl (init_runs g w h)
  comes_of Defer w h = as_run g p id w Defer h.fit.serves refl (defer_runs g w h)
  comes_of (Loop b) w h = as_run g p id w (Loop b) h.fit.serves refl (loop_runs g b w h)
  comes_of Switch w h = as_run g p id w Switch h.fit.serves refl (switch_runs g w h)
  comes_of (Case u) w h = as_run g p id w (Case u) h.fit.serves refl (case_runs g u w h)
  comes_of Default w h = as_run g p id w Default h.fit.serves refl (default_runs g w h)
  comes_of Break w h = as_run g p id w Break h.fit.serves refl (break_runs g w h)
  comes_of Continue w h = as_run g p id w Continue h.fit.serves refl (continue_runs g w h)
  comes_of Return w h = as_run g p id w Return h.fit.serves refl (return_runs g w h)
  comes_of Try w h = as_run g p id w Try h.fit.serves refl (try_runs g w h)
  comes_of (Atomic b) w h = as_run g p id w (Atomic b) h.fit.serves refl (atomic_runs g b w h)
  comes_of Synchronized w h = as_run g p id w Synchronized h.fit.serves refl (synchronized_runs g w h)
  comes_of (Handler place) w h = handled g p id place t cat ids hs w h.fit.serves h
  comes_of (Destroy f o c s) w h = not_run w (Destroy f o c s) refl h.fit.serves
  comes_of (Field o k) w h = not_run w (Field o k) refl h.fit.serves

-- ---- trees

module _ (g : Setting) where
  abbrev Nodes : List TNode
  Nodes = g.unit.nodes.items

  node_is : (id : TNodeId) (n : TNode) → slice_get Nodes id.0 ≡ Some n → node_in g id ≡ node_of n
  unfolding node_in
  node_is id n e = ap node_or e

  -- what is known of a tree wherever it fits
  abbrev Follows : Tree → Type 0
  Follows t = (p : Position) (role : Role) (address : Bool) (id : TNodeId) → Shows Nodes id.0 t → fits (setting_of g.program g.unit g.func) p role t ≡ true
      → suits address t ≡ true → Kid g p role address id (head_of t)

  abbrev AllFollow : Trees → Type 0
  AllFollow none = Unit {0}
  AllFollow (more t ts) = Follows t × AllFollow ts

  -- temporaries that wait have a full-expression around them
  abbrev Covers : Type 0
  Covers = (p : Position) (role : Role) (id : TNodeId) (t : Tree) → Shows Nodes id.0 t → fits (setting_of g.program g.unit g.func) p role t ≡ true
      → makes_temporaries g id ≡ true → p.full ≡ true

  -- zeros are built
  abbrev Zeros : Type 0
  Zeros = (p : Position) (id : TNodeId) (t : Tree) → Shows Nodes id.0 t → zeroes (setting_of g.program g.unit g.func).classes false
      (result_of (setting_of g.program g.unit g.func).function) t ≡ true → suits false t ≡ true → Runs g p id Into

  kid_there : (p : Position) (role : Role) (address : Bool) (id : TNodeId) (t : Tree) → Follows t → Zeros → Shows Nodes id.0 t
      → (◌≡◌ {A = Option Role} (Some role) (Some Zero) → address ≡ false)
      → cond (is_zero_role role) (zeroes (setting_of g.program g.unit g.func).classes false (result_of (setting_of g.program g.unit g.func).function) t)
      (fits (setting_of g.program g.unit g.func) p role t) ≡ true → suits address t ≡ true → KidAt g p (Some role) address id (head_of t)
  kid_there p Zero address id t f z s n e u = z p id t s e (subst (λ b. suits b t ≡ true) (n refl) u)
  kid_there p role address id t f z s n e u = f p role address id s e u

  at_role : (p : Position) (o : Option Role) (address : Bool) (id : TNodeId) (t : Tree) → Follows t → Zeros → Shows Nodes id.0 t
      → (o ≡ Some Zero → address ≡ false) → is_some o ≡ true
      → cond (is_zero_role (unwrap_or o Value)) (zeroes (setting_of g.program g.unit g.func).classes false (result_of (setting_of g.program g.unit g.func).function) t)
      (fits (setting_of g.program g.unit g.func) p (unwrap_or o Value) t) ≡ true → suits address t ≡ true → KidAt g p o address id (head_of t)
  at_role p None address id t f z s n i e u = absurd cc
  at_role p (Some role) address id t f z s n i e u = kid_there p role address id t f z s n e u

  kids_are : (p : Position) (ks : Kids) (i : ℕ) (address : Bool) (ids : List TNodeId) (ts : Trees) → ShowsAll Nodes ids ts
      → kids_fit (setting_of g.program g.unit g.func) p ks i ts ≡ true → all_suit address ts ≡ true → AllFollow ts → Zeros
      → (role_at ks i ≡ Some Zero → address ≡ false) → AreKids g p ks i address ids (heads_of ts)
  kids_are p ks i address ids none s e u f z n = subst (λ js. AreKids g p ks i address js []) (sym s) tt
  kids_are p ks i address ids (more t ts) s e u f z n =
      let st = setting_of g.program g.unit g.func in
      let a = is_some (role_at ks i) in
      let b = is_kid (kind_of t) in
      let c = cond (is_zero_role (unwrap_or (role_at ks i) Value)) (zeroes st.classes false (result_of st.function) t)
      (fits st p (unwrap_or (role_at ks i) Value) t) in
      let all = and_parts (a && b && c) (kids_fit st p ks (suc i) ts) e in
      let mine = and_parts (a && b) c all.0 in
      let first = and_parts a b mine.0 in
      let v = and_parts (suits address t) (all_suit false ts) u in
      subst (λ js. AreKids g p ks i address js (head_of t ∷ heads_of ts)) (sym s.2)
      (at_role p (role_at ks i) address s.0 t f.0 z s.3 n first.0 mine.1 v.0, kids_are p ks (suc i) false s.1 ts s.4 all.1 v.1 f.1 z (λ x. refl))

  first_role : (role : Role) (kind : TKind) (v n : Bool) → role_at (kids_for role kind v n) 0 ≡ Some Zero → is_init kind ≡ false
  first_role role Init v n e = absurd cc
  first_role role kind v n e = refl

  leaf_kids : (p : Position) (role : Role) (kind : TKind) (t : Typ) (ids : List TNodeId) (hs : List Head) → is_leaf kind ≡ true
      → AreKids g (inside kind p) (kids_in role kind t hs) 0 (is_init kind) ids hs → ids ≡ []
  leaf_kids p role (Local u) t ids hs e k = (none_kid g p false ids hs k).0
  leaf_kids p role (Destroy f o c s) t ids hs e k = (none_kid g p false ids hs k).0
  leaf_kids p role (Field o j) t ids hs e k = (none_kid g p false ids hs k).0
  leaf_kids p role kind t ids hs e k = absurd cc

  mutual
    pub follows : Covers → Zeros → (t : Tree) → Follows t
    follows c z (node kind t cat at kids) p role address id s e u =
        let st = setting_of g.program g.unit g.func in
        let k = known st p role kind t cat at kids e in
        let n = (s.0).found in
        let same = node_is id n (s.0).stands in
        let v = and_parts (told address kind t cat && counts kind && kids_suit kind (heads_of kids)) (all_suit (is_init kind) kids) u in
        let x = and_parts (told address kind t cat && counts kind) (kids_suit kind (heads_of kids)) v.0 in
        let y = and_parts (told address kind t cat) (counts kind) x.0 in
        let tells = tells_from st address kind t cat (heads_of kids) k.fit.row y.0 in
        let below = kids_are (inside kind p) (kids_in role kind t (heads_of kids)) 0 (is_init kind) n.kids.items kids s.1 k.below v.1 (all_follow c z kids) z
        (first_role role kind _ _) in
        let holds : Holds g p role address id kind t cat n.kids.items (heads_of kids) = record {
          fit = k.fit;
          kind_is = ap (λ (m : Node). m.kind) same ∙ (s.0).kind_is;
          typ_is = ap (λ (m : Node). m.typ) same ∙ (s.0).typ_is;
          kids_are = ap (λ (m : Node). m.kids) same;
          tells = tells;
          counts = y.1;
          suit = x.1;
          words = words_from g p role address t cat n.kids.items (heads_of kids) kind k.fit.row y.0 x.1 k.fit.many below;
          kids = below;
        } in
        record {
          kind_is = holds.kind_is;
          typ_is = holds.typ_is;
          serves = k.fit.serves;
          tells = tells;
          counts = y.1;
          leaf = λ l. holds.kids_are ∙ leaf_kids p role kind t n.kids.items (heads_of kids) l below;
          covered = λ m. c p role id (node kind t cat at kids) s e m;
          comes = λ r. comes_of g id t cat n.kids.items (heads_of kids) kind r holds;
        }

    all_follow : Covers → Zeros → (ts : Trees) → AllFollow ts
    all_follow c z none = tt
    all_follow c z (more t ts) = (follows c z t, all_follow c z ts)
