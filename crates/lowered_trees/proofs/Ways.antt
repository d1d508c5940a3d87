-- How nodes of a kind are run, by the roles in which they serve.
use Rattle.std.proofs.Common.{◌≡◌, ℕ, Bool, true, false, refl, sym, ◌∙◌}
use Rattle.std.proofs.lemmas.Bool.{true≢false}
use Rattle.cpp_tree.specs.declared.arena.TNodeId.{TNodeId}
use Rattle.cpp_tree.specs.declared.kinds.TKind.{TKind}
use Rattle.cpp_tree.specs.declared.kinds.TKind.TheVariants.{Materialize, CopyScalar, CopyConstruct}
use Rattle.cpp_tree.specs.declared.roles.Position.{Position}
use Rattle.cpp_tree.specs.declared.roles.Role.{Role}
use Rattle.cpp_tree.specs.Typing.{is_argument}
use Rattle.cpp_tree.specs.Roles.{serves, is_expression, is_initialiser, is_copy, is_statement, is_block_item, is_label, is_block, is_piece, is_handler}
use Rattle.unwind_lower.specs.declared.items.Way.{Way}
use Rattle.unwind_lower.specs.declared.items.Way.TheVariants.{Value, Dropped, Into, Copying}
use Rattle.unwind_lower.specs.Settings.{Setting}
use Rattle.lowered_trees.specs.Shapes.{Gives, valued, dropped}
use Rattle.lowered_trees.specs.Running.{Runs}
use Rattle.lowered_trees.proofs.Known.{Serves, for_value, of_result, word, builds, copies, statement, block_item, switch_item, step, part, copied_part, caught, Comes}
use Rattle.lowered_trees.proofs.Known.{dropped as drops}

no : {A : Type 0} (b : Bool) → b ≡ true → b ≡ false → A
no b t f = absurd (true≢false (sym t ∙ f))

-- expressions give words
pub gives : {a : Bool} {role : Role} {way : Way} → Serves a role way → (kind : TKind) → serves role kind ≡ true → is_initialiser kind ≡ false
    → is_copy kind ≡ false → is_piece kind ≡ false → is_handler kind ≡ false → Gives way
gives for_value kind s i c p h = valued
gives drops kind s i c p h = dropped
gives of_result kind s i c p h = valued
gives word kind s i c p h = valued
gives builds kind s i c p h = no (is_initialiser kind) s i
gives copies kind s i c p h = no (is_copy kind) s c
gives statement kind s i c p h = dropped
gives block_item kind s i c p h = dropped
gives switch_item kind s i c p h = dropped
gives step kind s i c p h = dropped
gives part kind s i c p h = no (is_piece kind) s p
gives copied_part kind s i c p h = no (is_piece kind) s p
gives caught kind s i c p h = no (is_handler kind) s h

-- statements are dropped
pub drops_it : {a : Bool} {role : Role} {way : Way} → Serves a role way → (kind : TKind) → serves role kind ≡ true → is_expression kind ≡ false
    → is_argument kind ≡ false → is_initialiser kind ≡ false → is_copy kind ≡ false → is_piece kind ≡ false → is_handler kind ≡ false → way ≡ Dropped
drops_it for_value kind s e a i c p h = no (is_expression kind) s e
drops_it drops kind s e a i c p h = refl
drops_it of_result kind s e a i c p h = no (is_expression kind) s e
drops_it word kind s e a i c p h = absurd cc
drops_it builds kind s e a i c p h = no (is_initialiser kind) s i
drops_it copies kind s e a i c p h = no (is_copy kind) s c
drops_it statement kind s e a i c p h = refl
drops_it block_item kind s e a i c p h = refl
drops_it switch_item kind s e a i c p h = refl
drops_it step kind s e a i c p h = refl
drops_it part kind s e a i c p h = no (is_piece kind) s p
drops_it copied_part kind s e a i c p h = no (is_piece kind) s p
drops_it caught kind s e a i c p h = no (is_handler kind) s h

-- initialisers build in place
pub builds_it : {a : Bool} {role : Role} {way : Way} → Serves a role way → (kind : TKind) → serves role kind ≡ true → is_expression kind ≡ false
    → is_argument kind ≡ false → is_block_item kind ≡ false → is_label kind ≡ false → is_block kind ≡ false → is_copy kind ≡ false
    → is_piece kind ≡ false → is_handler kind ≡ false → (is_statement kind ≡ false) → way ≡ Into
builds_it for_value kind s e a i l b c p h m = no (is_expression kind) s e
builds_it drops kind s e a i l b c p h m = no (is_expression kind) s e
builds_it of_result kind s e a i l b c p h m = no (is_expression kind) s e
builds_it word kind s e a i l b c p h m = absurd cc
builds_it builds kind s e a i l b c p h m = refl
builds_it copies kind s e a i l b c p h m = no (is_copy kind) s c
builds_it statement kind s e a i l b c p h m = no (is_statement kind) s m
builds_it block_item kind s e a i l b c p h m = no (is_block_item kind) s i
builds_it switch_item kind s e a i l b c p h m = absurd cc
builds_it step kind s e a i l b c p h m = absurd cc
builds_it part kind s e a i l b c p h m = no (is_piece kind) s p
builds_it copied_part kind s e a i l b c p h m = no (is_piece kind) s p
builds_it caught kind s e a i l b c p h m = no (is_handler kind) s h

-- kinds that copy alone
abbrev pub is_plain_copy : TKind → Bool
is_plain_copy (CopyScalar k v) = true
is_plain_copy (CopyConstruct f) = true
is_plain_copy kind = false

-- copies are made into objects
pub copies_it : {a : Bool} {role : Role} {way : Way} → Serves a role way → (kind : TKind) → is_plain_copy kind ≡ true → serves role kind ≡ true → way ≡ Copying
copies_it for_value (CopyScalar k v) c s = absurd cc
copies_it for_value (CopyConstruct f) c s = absurd cc
copies_it for_value kind c s = absurd cc
copies_it drops (CopyScalar k v) c s = absurd cc
copies_it drops (CopyConstruct f) c s = absurd cc
copies_it drops kind c s = absurd cc
copies_it of_result (CopyScalar k v) c s = absurd cc
copies_it of_result (CopyConstruct f) c s = absurd cc
copies_it of_result kind c s = absurd cc
copies_it word (CopyScalar k v) c s = absurd cc
copies_it word (CopyConstruct f) c s = absurd cc
copies_it word kind c s = absurd cc
copies_it builds (CopyScalar k v) c s = absurd cc
copies_it builds (CopyConstruct f) c s = absurd cc
copies_it builds kind c s = absurd cc
copies_it copies kind c s = refl
copies_it statement (CopyScalar k v) c s = absurd cc
copies_it statement (CopyConstruct f) c s = absurd cc
copies_it statement kind c s = absurd cc
copies_it block_item (CopyScalar k v) c s = absurd cc
copies_it block_item (CopyConstruct f) c s = absurd cc
copies_it block_item kind c s = absurd cc
copies_it switch_item (CopyScalar k v) c s = absurd cc
copies_it switch_item (CopyConstruct f) c s = absurd cc
copies_it switch_item kind c s = absurd cc
copies_it step (CopyScalar k v) c s = absurd cc
copies_it step (CopyConstruct f) c s = absurd cc
copies_it step kind c s = absurd cc
copies_it part (CopyScalar k v) c s = absurd cc
copies_it part (CopyConstruct f) c s = absurd cc
copies_it part kind c s = absurd cc
copies_it copied_part (CopyScalar k v) c s = absurd cc
copies_it copied_part (CopyConstruct f) c s = absurd cc
copies_it copied_part kind c s = absurd cc
copies_it caught (CopyScalar k v) c s = absurd cc
copies_it caught (CopyConstruct f) c s = absurd cc
copies_it caught kind c s = absurd cc

-- an argument object is run for its address
pub argument_way : {a : Bool} {role : Role} {way : Way} → Serves a role way → (u : ℕ) → serves role (Materialize u true) ≡ true → way ≡ Value
argument_way word u s = refl
argument_way for_value u s = absurd cc
argument_way drops u s = absurd cc
argument_way of_result u s = absurd cc
argument_way builds u s = absurd cc
argument_way copies u s = absurd cc
argument_way statement u s = absurd cc
argument_way block_item u s = absurd cc
argument_way switch_item u s = absurd cc
argument_way step u s = absurd cc
argument_way part u s = absurd cc
argument_way copied_part u s = absurd cc
argument_way caught u s = absurd cc

module _ (g : Setting) where
  -- what comes of a node that is no handler
  pub as_run : {a : Bool} {role : Role} {way : Way} (p : Position) (id : TNodeId) → Serves a role way → (kind : TKind) → serves role kind ≡ true
      → is_handler kind ≡ false → Runs g p id way → Comes g role p id way
  as_run p id for_value kind s h r = r
  as_run p id drops kind s h r = r
  as_run p id of_result kind s h r = r
  as_run p id word kind s h r = r
  as_run p id builds kind s h r = r
  as_run p id copies kind s h r = r
  as_run p id statement kind s h r = r
  as_run p id block_item kind s h r = r
  as_run p id switch_item kind s h r = r
  as_run p id step kind s h r = r
  as_run p id part kind s h r = r
  as_run p id copied_part kind s h r = r
  as_run p id caught kind s h r = no (is_handler kind) s h
