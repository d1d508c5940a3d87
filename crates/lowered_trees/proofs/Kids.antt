-- Kids of nodes, by the shapes of their lists.
use Rattle.std.proofs.Common.{◌≡◌, ℕ, suc, Bool, true, false, not, ◌||◌, List, [], ◌∷◌, length, Some, refl, ap, ◌∙◌}
use Rattle.std.proofs.lemmas.Bool.{and_parts}
use Rattle.cpp_tree.specs.declared.arena.TNodeId.{TNodeId}
use Rattle.cpp_tree.specs.declared.kinds.TKind.{TKind}
use Rattle.cpp_tree.specs.declared.kinds.TKind.TheVariants.{Field, Piece}
use Rattle.cpp_tree.specs.declared.roles.Position.{Position}
use Rattle.cpp_tree.specs.declared.roles.Role.{Role}
use Rattle.cpp_tree.specs.declared.roles.Role.TheVariants.{Part, CopiedPart}
use Rattle.cpp_tree.specs.declared.roles.Role.TheVariants.{Scalar}
use Rattle.cpp_tree.specs.Typing.{Head}
use Rattle.cpp_tree.specs.Roles.{only, and_any, is_field, is_piece}
use Rattle.cpp_tree.specs.WellFormed.{enough}
use Rattle.low_code.specs.Types.{is_void}
use Rattle.unwind_lower.specs.declared.items.Way.{Way}
use Rattle.unwind_lower.specs.Settings.{Setting, node_in}
use Rattle.lowered_trees.specs.Shapes.{is_load, HasWord, HaveWords, Fields, Parts, no_fields, no_parts, field, part}
use Rattle.lowered_trees.specs.Suiting.{has_word, have_words}
use Rattle.lowered_trees.specs.Running.{Runs, AllRun, none_run, then}
use Rattle.lowered_trees.proofs.Known.{Kid, KidAt, AreKids, is_leaf}

module _ (g : Setting) where
  -- ---- fixed lists

  pub none_kid : (p : Position) (a : Bool) (ids : List TNodeId) (hs : List Head) → AreKids g p (only []) 0 a ids hs → (ids ≡ []) × (hs ≡ [])
  none_kid p a [] [] k = (refl, refl)
  none_kid p a [] (h ∷ hs) k = absurd k
  none_kid p a (id ∷ ids) [] k = absurd k
  none_kid p a (id ∷ ids) (h ∷ hs) k = absurd k.0

  pub record One (p : Position) (r : Role) (a : Bool) (ids : List TNodeId) (hs : List Head) : Type 0 where
    pub id : TNodeId
    pub head : Head
    pub ids_are : ids ≡ id ∷ []
    pub hs_are : hs ≡ head ∷ []
    pub kid : KidAt g p (Some r) a id head

  pub one_kid : (p : Position) (r : Role) (a : Bool) (ids : List TNodeId) (hs : List Head) → AreKids g p (only (r ∷ [])) 0 a ids hs
      → enough (only (r ∷ [])) (length hs) ≡ true → One p r a ids hs
  one_kid p r a [] [] k e = absurd cc
  one_kid p r a [] (h ∷ hs) k e = absurd k
  one_kid p r a (id ∷ ids) [] k e = absurd k
  one_kid p r a (id ∷ []) (h ∷ []) k e = record { id = id; head = h; ids_are = refl; hs_are = refl; kid = k.0 }
  one_kid p r a (id ∷ []) (h ∷ i ∷ hs) k e = absurd k.1
  one_kid p r a (id ∷ j ∷ ids) (h ∷ []) k e = absurd k.1
  one_kid p r a (id ∷ j ∷ ids) (h ∷ i ∷ hs) k e = absurd k.1.0

  pub record Two (p : Position) (r q : Role) (a : Bool) (ids : List TNodeId) (hs : List Head) : Type 0 where
    pub id : TNodeId
    pub other : TNodeId
    pub head : Head
    pub other_head : Head
    pub ids_are : ids ≡ id ∷ other ∷ []
    pub hs_are : hs ≡ head ∷ other_head ∷ []
    pub kid : KidAt g p (Some r) a id head
    pub other_kid : KidAt g p (Some q) false other other_head

  pub two_kids : (p : Position) (r q : Role) (a : Bool) (ids : List TNodeId) (hs : List Head) → AreKids g p (only (r ∷ q ∷ [])) 0 a ids hs
      → enough (only (r ∷ q ∷ [])) (length hs) ≡ true → Two p r q a ids hs
  two_kids p r q a [] [] k e = absurd cc
  two_kids p r q a [] (h ∷ hs) k e = absurd k
  two_kids p r q a (id ∷ ids) [] k e = absurd k
  two_kids p r q a (id ∷ []) (h ∷ []) k e = absurd cc
  two_kids p r q a (id ∷ []) (h ∷ i ∷ hs) k e = absurd k.1
  two_kids p r q a (id ∷ j ∷ ids) (h ∷ []) k e = absurd k.1
  two_kids p r q a (id ∷ j ∷ []) (h ∷ i ∷ []) k e =
      record { id = id; other = j; head = h; other_head = i; ids_are = refl; hs_are = refl; kid = k.0; other_kid = k.1.0 }
  two_kids p r q a (id ∷ j ∷ []) (h ∷ i ∷ x ∷ hs) k e = absurd k.1.1
  two_kids p r q a (id ∷ j ∷ y ∷ ids) (h ∷ i ∷ []) k e = absurd k.1.1
  two_kids p r q a (id ∷ j ∷ y ∷ ids) (h ∷ i ∷ x ∷ hs) k e = absurd k.1.1.0

  pub record Three (p : Position) (r q s : Role) (a : Bool) (ids : List TNodeId) (hs : List Head) : Type 0 where
    pub id : TNodeId
    pub other : TNodeId
    pub last : TNodeId
    pub head : Head
    pub other_head : Head
    pub last_head : Head
    pub ids_are : ids ≡ id ∷ other ∷ last ∷ []
    pub hs_are : hs ≡ head ∷ other_head ∷ last_head ∷ []
    pub kid : KidAt g p (Some r) a id head
    pub other_kid : KidAt g p (Some q) false other other_head
    pub last_kid : KidAt g p (Some s) false last last_head

  pub three_kids : (p : Position) (r q s : Role) (a : Bool) (ids : List TNodeId) (hs : List Head) → AreKids g p (only (r ∷ q ∷ s ∷ [])) 0 a ids hs
      → enough (only (r ∷ q ∷ s ∷ [])) (length hs) ≡ true → Three p r q s a ids hs
  three_kids p r q s a [] [] k e = absurd cc
  three_kids p r q s a [] (h ∷ hs) k e = absurd k
  three_kids p r q s a (id ∷ ids) [] k e = absurd k
  three_kids p r q s a (id ∷ []) (h ∷ []) k e = absurd cc
  three_kids p r q s a (id ∷ []) (h ∷ i ∷ hs) k e = absurd k.1
  three_kids p r q s a (id ∷ j ∷ ids) (h ∷ []) k e = absurd k.1
  three_kids p r q s a (id ∷ j ∷ []) (h ∷ i ∷ []) k e = absurd cc
  three_kids p r q s a (id ∷ j ∷ []) (h ∷ i ∷ x ∷ hs) k e = absurd k.1.1
  three_kids p r q s a (id ∷ j ∷ y ∷ ids) (h ∷ i ∷ []) k e = absurd k.1.1
  three_kids p r q s a (id ∷ j ∷ y ∷ []) (h ∷ i ∷ x ∷ []) k e = record {
    id = id;
    other = j;
    last = y;
    head = h;
    other_head = i;
    last_head = x;
    ids_are = refl;
    hs_are = refl;
    kid = k.0;
    other_kid = k.1.0;
    last_kid = k.1.1.0;
  }
  three_kids p r q s a (id ∷ j ∷ y ∷ []) (h ∷ i ∷ x ∷ w ∷ hs) k e = absurd k.1.1.1
  three_kids p r q s a (id ∷ j ∷ y ∷ z ∷ ids) (h ∷ i ∷ x ∷ []) k e = absurd k.1.1.1
  three_kids p r q s a (id ∷ j ∷ y ∷ z ∷ ids) (h ∷ i ∷ x ∷ w ∷ hs) k e = absurd k.1.1.1.0

  -- ---- any number of kids in one role

  abbrev pub AllKids : Position → Role → List TNodeId → List Head → Type 0
  AllKids p r [] [] = Unit {0}
  AllKids p r (id ∷ ids) (h ∷ hs) = KidAt g p (Some r) false id h × AllKids p r ids hs
  AllKids p r ids hs = ⊥

  pub any_kids : (p : Position) (r : Role) (i : ℕ) (ids : List TNodeId) (hs : List Head) → AreKids g p (and_any [] r) i false ids hs → AllKids p r ids hs
  any_kids p r i [] [] k = k
  any_kids p r i [] (h ∷ hs) k = absurd k
  any_kids p r i (id ∷ ids) [] k = absurd k
  any_kids p r i (id ∷ ids) (h ∷ hs) k = (k.0, any_kids p r (suc i) ids hs k.1)

  behind_one : (p : Position) (q r : Role) (i : ℕ) (ids : List TNodeId) (hs : List Head) → AreKids g p (and_any (q ∷ []) r) (suc i) false ids hs → AllKids p r ids hs
  behind_one p q r i [] [] k = k
  behind_one p q r i [] (h ∷ hs) k = absurd k
  behind_one p q r i (id ∷ ids) [] k = absurd k
  behind_one p q r i (id ∷ ids) (h ∷ hs) k = (k.0, behind_one p q r (suc i) ids hs k.1)

  behind_two : (p : Position) (q s r : Role) (i : ℕ) (ids : List TNodeId) (hs : List Head) → AreKids g p (and_any (q ∷ s ∷ []) r) (suc (suc i)) false ids hs
      → AllKids p r ids hs
  behind_two p q s r i [] [] k = k
  behind_two p q s r i [] (h ∷ hs) k = absurd k
  behind_two p q s r i (id ∷ ids) [] k = absurd k
  behind_two p q s r i (id ∷ ids) (h ∷ hs) k = (k.0, behind_two p q s r (suc i) ids hs k.1)

  pub record OneAndAny (p : Position) (q r : Role) (a : Bool) (ids : List TNodeId) (hs : List Head) : Type 0 where
    pub id : TNodeId
    pub others : List TNodeId
    pub head : Head
    pub other_heads : List Head
    pub ids_are : ids ≡ id ∷ others
    pub hs_are : hs ≡ head ∷ other_heads
    pub kid : KidAt g p (Some q) a id head
    pub other_kids : AllKids p r others other_heads

  pub one_and_any : (p : Position) (q r : Role) (a : Bool) (ids : List TNodeId) (hs : List Head) → AreKids g p (and_any (q ∷ []) r) 0 a ids hs
      → enough (and_any (q ∷ []) r) (length hs) ≡ true → OneAndAny p q r a ids hs
  one_and_any p q r a [] [] k e = absurd cc
  one_and_any p q r a [] (h ∷ hs) k e = absurd k
  one_and_any p q r a (id ∷ ids) [] k e = absurd k
  one_and_any p q r a (id ∷ ids) (h ∷ hs) k e =
      record { id = id; others = ids; head = h; other_heads = hs; ids_are = refl; hs_are = refl; kid = k.0; other_kids = behind_one p q r 0 ids hs k.1 }

  pub record TwoAndAny (p : Position) (q s r : Role) (a : Bool) (ids : List TNodeId) (hs : List Head) : Type 0 where
    pub id : TNodeId
    pub other : TNodeId
    pub others : List TNodeId
    pub head : Head
    pub other_head : Head
    pub other_heads : List Head
    pub ids_are : ids ≡ id ∷ other ∷ others
    pub hs_are : hs ≡ head ∷ other_head ∷ other_heads
    pub kid : KidAt g p (Some q) a id head
    pub other_kid : KidAt g p (Some s) false other other_head
    pub other_kids : AllKids p r others other_heads

  pub two_and_any : (p : Position) (q s r : Role) (a : Bool) (ids : List TNodeId) (hs : List Head) → AreKids g p (and_any (q ∷ s ∷ []) r) 0 a ids hs
      → enough (and_any (q ∷ s ∷ []) r) (length hs) ≡ true → TwoAndAny p q s r a ids hs
  two_and_any p q s r a [] [] k e = absurd cc
  two_and_any p q s r a [] (h ∷ hs) k e = absurd k
  two_and_any p q s r a (id ∷ ids) [] k e = absurd k
  two_and_any p q s r a (id ∷ []) (h ∷ []) k e = absurd cc
  two_and_any p q s r a (id ∷ []) (h ∷ i ∷ hs) k e = absurd k.1
  two_and_any p q s r a (id ∷ j ∷ ids) (h ∷ []) k e = absurd k.1
  two_and_any p q s r a (id ∷ j ∷ ids) (h ∷ i ∷ hs) k e = record {
    id = id;
    other = j;
    others = ids;
    head = h;
    other_head = i;
    other_heads = hs;
    ids_are = refl;
    hs_are = refl;
    kid = k.0;
    other_kid = k.1.0;
    other_kids = behind_two p q s r 0 ids hs k.1.1;
  }

  -- ---- what lists of kids are

  pub all_run : (p : Position) (r : Role) (way : Way) → ((id : TNodeId) (h : Head) → KidAt g p (Some r) false id h → Runs g p id way) → (ids : List TNodeId)
      → (hs : List Head) → AllKids p r ids hs → AllRun g p ids way
  all_run p r way f [] [] k = none_run
  all_run p r way f [] (h ∷ hs) k = absurd k
  all_run p r way f (id ∷ ids) [] k = absurd k
  all_run p r way f (id ∷ ids) (h ∷ hs) k = then (f id h k.0) (all_run p r way f ids hs k.1)

  field_of : (id : TNodeId) (kind : TKind) → (node_in g id).kind ≡ kind → (node_in g id).kids ≡ [] → is_field kind ≡ true
      → (ids : List TNodeId) → Fields g ids → Fields g (id ∷ ids)
  field_of id (Field offset k) e n f ids fs = field offset k (record { kind_is = e; kids_are = n }) fs
  field_of id kind e n f ids fs = absurd cc

  field_leaf : (kind : TKind) → is_field kind ≡ true → is_leaf kind ≡ true
  field_leaf (Field offset k) e = refl
  field_leaf kind e = absurd cc

  pub fields : (p : Position) (ids : List TNodeId) (hs : List Head) → AllKids p Scalar ids hs → Fields g ids
  fields p [] [] k = no_fields
  fields p [] (h ∷ hs) k = absurd k
  fields p (id ∷ ids) [] k = absurd k
  fields p (id ∷ ids) (h ∷ hs) k =
      field_of id h.kind k.0.kind_is (k.0.leaf (field_leaf h.kind k.0.serves)) k.0.serves ids (fields p ids hs k.1)

  part_of : (id : TNodeId) (kind : TKind) → (node_in g id).kind ≡ kind → is_piece kind ≡ true → (ids : List TNodeId)
      → Parts g ids → Parts g (id ∷ ids)
  part_of id (Piece offset) e f ids ps = part offset e ps
  part_of id kind e f ids ps = absurd cc

  pub parts : (p : Position) (ids : List TNodeId) (hs : List Head) → AllKids p Part ids hs → Parts g ids
  parts p [] [] k = no_parts
  parts p [] (h ∷ hs) k = absurd k
  parts p (id ∷ ids) [] k = absurd k
  parts p (id ∷ ids) (h ∷ hs) k = part_of id h.kind k.0.kind_is k.0.serves ids (parts p ids hs k.1)

  pub copied_parts : (p : Position) (ids : List TNodeId) (hs : List Head) → AllKids p CopiedPart ids hs → Parts g ids
  copied_parts p [] [] k = no_parts
  copied_parts p [] (h ∷ hs) k = absurd k
  copied_parts p (id ∷ ids) [] k = absurd k
  copied_parts p (id ∷ ids) (h ∷ hs) k = part_of id h.kind k.0.kind_is k.0.serves ids (copied_parts p ids hs k.1)

  -- a kid with the head has a word
  pub word_of : {p : Position} {r : Role} {a : Bool} {id : TNodeId} {h : Head} → Kid g p r a id h → has_word h ≡ true → HasWord g id
  word_of {id = id} {h = h} k e = ap (λ kind. is_load kind || not (is_void (node_in g id).typ)) k.kind_is
      ∙ ap (λ t. is_load h.kind || not (is_void t)) k.typ_is ∙ e

  pub words : (p : Position) (r : Role) → ((id : TNodeId) (h : Head) → KidAt g p (Some r) false id h → Kid g p r false id h) → (ids : List TNodeId)
      → (hs : List Head) → AllKids p r ids hs → have_words hs ≡ true → HaveWords g ids
  words p r f [] [] k e = tt
  words p r f [] (h ∷ hs) k e = absurd k
  words p r f (id ∷ ids) [] k e = absurd k
  words p r f (id ∷ ids) (h ∷ hs) k e =
      let w = and_parts (has_word h) (have_words hs) e in
      (word_of (f id h k.0) w.0, words p r f ids hs k.1 w.1)
