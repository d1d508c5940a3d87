-- What is known of a node that fits, of its kids, and of the node that shows it.
use Rattle.std.proofs.Common.{◌≡◌, ℕ, suc, Bool, true, false, not, ◌&&◌, ◌||◌, List, [], ◌∷◌, length, Option, Some, None}
use Rattle.std.proofs.lemmas.Bool.{and_parts}
use Rattle.cpp_tree.specs.cpp_types.Typ.{Typ}
use Rattle.cpp_tree.specs.cpp_types.declared.classes.At.{At}
use Rattle.cpp_tree.specs.cpp_types.declared.ranks.Cat.{Cat}
use Rattle.cpp_tree.specs.declared.arena.TNodeId.{TNodeId}
use Rattle.cpp_tree.specs.declared.kinds.TKind.{TKind}
use Rattle.cpp_tree.specs.declared.kinds.TKind.TheVariants.{Local, Destroy, Field, Handler}
use Rattle.cpp_tree.specs.declared.roles.Position.{Position}
use Rattle.cpp_tree.specs.declared.roles.Role.{Role}
use Rattle.cpp_tree.specs.declared.roles.Role.TheVariants.{Value, Word, Initialiser, CopyInit, Zero, Statement, BlockItem, SwitchItem, Step, Part, CopiedPart, Catch}
use Rattle.cpp_tree.specs.Trees.{node, Trees}
use Rattle.cpp_tree.specs.Typing.{Head}
use Rattle.cpp_tree.specs.Roles.{Kids, role_at, serves, way_fits}
use Rattle.cpp_tree.specs.Rows.{row_fits, result_of}
use Rattle.cpp_tree.specs.Rows as rows
use Rattle.cpp_tree.specs.WellFormed.{heads_of, kids_in, enough, is_switch, labels_fit, inside, fits, kids_fit, may_stand}
use Rattle.cpp_tree.specs.WellFormed.{branches_fit, setting_of}
use Rattle.unwind_lower.specs.declared.items.Way.{Way}
use Rattle.unwind_lower.specs.declared.items.Way.TheVariants.{Value as ForValue, Dropped, Into, Copying}
use Rattle.unwind_lower.specs.Settings.{Setting, node_in, makes_temporaries}
use Rattle.lowered_trees.specs.Shapes.{Stands, Fields}
use Rattle.lowered_trees.specs.Suiting.{counts, kids_suit, is_init}
use Rattle.lowered_trees.specs.Words.{tells}
use Rattle.lowered_trees.specs.Words.{words_suit}
use Rattle.lowered_trees.specs.Running.{Runs}

-- ---- a node that fits

pub record Fits (s : rows.Setting) (p : Position) (role : Role) (kind : TKind) (t : Typ) (cat : Cat) (hs : List Head) : Type 0 where
  pub serves : serves role kind ≡ true
  pub way : way_fits role kind t cat ≡ true
  pub place : may_stand s.function.kind p kind (length hs) ≡ true
  pub branches : branches_fit role kind t hs ≡ true
  pub row : row_fits s kind t cat hs ≡ true
  pub many : enough (kids_in role kind t hs) (length hs) ≡ true

pub record Known (s : rows.Setting) (p : Position) (role : Role) (kind : TKind) (t : Typ) (cat : Cat) (kids : Trees) : Type 0 where
  pub fit : Fits s p role kind t cat (heads_of kids)
  pub below : kids_fit s (inside kind p) (kids_in role kind t (heads_of kids)) 0 kids ≡ true

pub known : (s : rows.Setting) (p : Position) (role : Role) (kind : TKind) (t : Typ) (cat : Cat) (at : At) (kids : Trees)
    → fits s p role (node kind t cat at kids) ≡ true → Known s p role kind t cat kids
known s p role kind t cat at kids e =
    let hs = heads_of kids in
    let a = serves role kind in
    let b = way_fits role kind t cat in
    let c = may_stand s.function.kind p kind (length hs) in
    let d = branches_fit role kind t hs in
    let r = row_fits s kind t cat hs in
    let n = enough (kids_in role kind t hs) (length hs) in
    let l = not (is_switch kind) || labels_fit false kids in
    let k = kids_fit s (inside kind p) (kids_in role kind t hs) 0 kids in
    let all = and_parts (a && b && c && d && r && n && l) k e in
    let labels = and_parts (a && b && c && d && r && n) l all.0 in
    let many = and_parts (a && b && c && d && r) n labels.0 in
    let row = and_parts (a && b && c && d) r many.0 in
    let branches = and_parts (a && b && c) d row.0 in
    let place = and_parts (a && b) c branches.0 in
    let way = and_parts a b place.0 in
    record { fit = record { serves = way.0; way = way.1; place = place.1; branches = branches.1; row = row.1; many = many.1 }; below = all.1 }

-- ---- how a node in a role is run

pub data Serves : (address : Bool) → Role → Way → Type 0 where
  for_value : Serves false Value ForValue
  dropped : Serves false Value Dropped
  of_result : Serves true Value ForValue
  word : Serves false Word ForValue
  builds : Serves false Initialiser Into
  copies : Serves false CopyInit Copying
  statement : Serves false Statement Dropped
  block_item : Serves false BlockItem Dropped
  switch_item : Serves false SwitchItem Dropped
  step : Serves false Step Dropped
  part : Serves false Part Into
  copied_part : Serves false CopiedPart Copying
  caught : Serves false Catch Dropped

-- kinds of nodes without kids that are looked at by their kinds
abbrev pub is_leaf : TKind → Bool
is_leaf (Local place) = true
is_leaf (Destroy func offset count stride) = true
is_leaf (Field offset kind) = true
is_leaf kind = false

module _ (g : Setting) where
  pub record IsHandler (p : Position) (id : TNodeId) : Type 0 where
    pub place : Option ℕ
    pub body : TNodeId
    pub fields : List TNodeId
    pub stands : Stands g id (Handler place) (body ∷ fields)
    pub runs : Runs g p body Dropped
    pub are_fields : Fields g fields
    pub unnamed : place ≡ None → fields ≡ []

  abbrev pub Comes : Role → Position → TNodeId → Way → Type 0
  Comes Catch p id way = IsHandler p id
  Comes role p id way = Runs g p id way

  -- what is known of a kid in a role
  pub record Kid (p : Position) (role : Role) (address : Bool) (id : TNodeId) (h : Head) : Type 0 where
    pub kind_is : (node_in g id).kind ≡ h.kind
    pub typ_is : (node_in g id).typ ≡ h.typ
    pub serves : serves role h.kind ≡ true
    pub tells : tells address h.kind h.typ h.cat ≡ true
    pub counts : counts h.kind ≡ true
    pub leaf : is_leaf h.kind ≡ true → (node_in g id).kids ≡ []
    pub covered : makes_temporaries g id ≡ true → p.full ≡ true
    pub comes : {way : Way} → Serves address role way → Comes role p id way

  abbrev pub KidAt : Position → Option Role → Bool → TNodeId → Head → Type 0
  KidAt p None address id h = ⊥
  KidAt p (Some Zero) address id h = Runs g p id Into
  KidAt p (Some role) address id h = Kid p role address id h

  abbrev pub AreKids : Position → Kids → ℕ → Bool → List TNodeId → List Head → Type 0
  AreKids p ks i address [] [] = Unit {0}
  AreKids p ks i address (id ∷ ids) (h ∷ hs) = KidAt p (role_at ks i) address id h × AreKids p ks (suc i) false ids hs
  AreKids p ks i address ids hs = ⊥

  -- a node, with what is known of its kids
  pub record Holds (p : Position) (role : Role) (address : Bool) (id : TNodeId) (kind : TKind) (t : Typ) (cat : Cat) (ids : List TNodeId) (hs : List Head)
      : Type 0 where
    pub fit : Fits (setting_of g.program g.unit g.func) p role kind t cat hs
    pub kind_is : (node_in g id).kind ≡ kind
    pub typ_is : (node_in g id).typ ≡ t
    pub kids_are : (node_in g id).kids ≡ ids
    pub tells : tells address kind t cat ≡ true
    pub counts : counts kind ≡ true
    pub suit : kids_suit kind hs ≡ true
    pub words : words_suit kind t hs ≡ true
    pub kids : AreKids (inside kind p) (kids_in role kind t hs) 0 (is_init kind) ids hs

  pub stands : {p : Position} {role : Role} {address : Bool} {id : TNodeId} {kind : TKind} {t : Typ} {cat : Cat} {ids : List TNodeId} {hs : List Head}
      → Holds p role address id kind t cat ids hs → Stands g id kind ids
  stands h = record { kind_is = h.kind_is; kids_are = h.kids_are }
