-- The parts of an array that a string initialises.
use Rattle.std.proofs.Common.{◌≡◌, ◌≢◌, ℕ, zero, suc, ◌+◌, ◌-◌, ◌<◌, ◌≤◌, List, [], ◌∷◌, ◌++◌, length, drop, get_or, Result, Ok, Err, IfOk, Vec, Global, refl}
use Rattle.std.proofs.Common.{ap, sym, ◌∙◌, subst, add-one}
use Rattle.std.specs.declared.alloc.AllocError.{AllocError}
use Rattle.elab_make.specs.cpp_types.Typ.{Typ, typ, array}
use Rattle.elab_make.specs.cpp_types.declared.classes.At.{At}
use Rattle.elab_make.specs.cpp_types.declared.ranks.Cat.TheVariants.{Prvalue}
use Rattle.elab_make.specs.cpp_tree.declared.kinds.TKind.TheVariants.{Literal, Piece, Pieces}
use Rattle.elab_make.specs.cpp_tree.declared.faults.ElabFault.{ElabFault}
use Rattle.elab_make.specs.cpp_tree.declared.arena.TNodeId.{TNodeId}
use Rattle.elab_make.specs.cpp_tree.Notation.{plain}
use Rattle.elab_make.specs.cpp_tree.Trees.{Tree, node, Trees, none, more, one}
use Rattle.elab_make.specs.cpp_tree.Arena.{trees_at, Adds}
use Rattle.elab_make.specs.cpp_tree.Typing.{form_in, unqualified, kind_in}
use Rattle.elab_make.specs.elab_ctx.Ctx.{Ctx}
use Rattle.elab_make.specs.elab_ctx.Says.{AddsAll, Gives}
use Rattle.elab_make.specs.elab_rules.Objects.{followed_by, zeros}
use Rattle.elab_make.specs.elab_rules.Values.{stored}
use Rattle.elab_make.specs.elab_rules.Braces.{followed, byte_word, byte_pieces, zero_rest, string_object}
use Rattle.elab_make.proofs.elab_ctx.Making.{last_adds, gives_same}
use Rattle.elab_aggregates.specs.StringForms.{string_in}
use Rattle.elab_make.proofs.elab_init.Listing.{Adding, adding_one, adding_done, adds_one, adds_more, drop_step, drop_past}

followed_is : (ts us : Trees) → followed ts us ≡ followed_by ts us
followed_is none us = refl
followed_is (more t ts) us = ap (more t) (followed_is ts us)

pub both_parts : (old mid new : List Tree) (ids others next : List TNodeId) (ts us : Trees) → AddsAll old mid ids ts → AddsAll mid new others us
    → next ≡ ids ++ others → AddsAll old new next (followed ts us)
both_parts old mid new ids others next ts us a b n = subst (λ (z : Trees). AddsAll old new next z) (sym (followed_is ts us))
    (adds_more old mid new ids others next ts us a b n)

-- a character that is stored in an element
abbrev pub byte_part : Typ → At → ℕ → ℕ → Tree
byte_part t at i b = node (Piece i) t Prvalue at (one (stored at t (node (Literal (byte_word (kind_in (form_in t)) b)) (unqualified t) Prvalue at none)))

byte_next : (t : Typ) (at : At) (bytes : List ℕ) (i b d : ℕ) → i < length bytes → b ≡ get_or bytes i d
    → byte_pieces t at i (drop i bytes) ≡ more (byte_part t at i b) (byte_pieces t at (i + 1) (drop (i + 1) bytes))
byte_next t at bytes i b d h e = rw (drop_step bytes i d h, add-one i) (rw e refl)

pub byte_added : (t : Typ) (at : At) (bytes : List ℕ) (i b d : ℕ) (old now new : List Tree) (ids next : List TNodeId) (r : TNodeId)
    → Adding old now ids (byte_pieces t at i (drop i bytes)) (byte_pieces t at 0 bytes) → i < length bytes → b ≡ get_or bytes i d
    → Adds now new r (byte_part t at i b) → next ≡ ids ++ r ∷ []
    → Adding old new next (byte_pieces t at (i + 1) (drop (i + 1) bytes)) (byte_pieces t at 0 bytes)
byte_added t at bytes i b d old now new ids next r a h e q n = adding_one old now new ids next r _ _ _ _ a (byte_next t at bytes i b d h e) q n

pub bytes_done : (t : Typ) (at : At) (bytes : List ℕ) (i : ℕ) (old now : List Tree) (ids : List TNodeId)
    → Adding old now ids (byte_pieces t at i (drop i bytes)) (byte_pieces t at 0 bytes) → length bytes ≤ i → AddsAll old now ids (byte_pieces t at 0 bytes)
bytes_done t at bytes i old now ids a h = adding_done old now ids _ _ a (rw (drop_past bytes i h) refl)

pub zero_is : (c : Ctx) (t : Typ) (at : At) (i count : ℕ) → count ≢ 0
    → zero_rest c t at i count ≡ one (node (Piece i) (plain (array t count)) Prvalue at (one (zeros c.classes at (plain (array t count)))))
zero_is c t at i zero n = absurd (n refl)
zero_is c t at i (suc count) n = refl

pub list_adds : (old new : List Tree) (r : Result (Vec TNodeId Global) AllocError) (id : TNodeId) (t : Tree) (ts : Trees) → Adds old new id t → ts ≡ one t
    → IfOk r (λ (v : Vec TNodeId Global). v.items ≡ id ∷ []) → IfOk r (λ (v : Vec TNodeId Global). AddsAll old new v.items ts)
list_adds old new (Ok v) id t ts a e h = rw (h, e) (adds_one old new id t a)
list_adds old new (Err x) id t ts a e h = tt

pub string_adds : (a b d : List Tree) (ids : List TNodeId) (c : Ctx) (t e : Typ) (at : At) (bytes : List ℕ) (offset left n : ℕ) (r : Result TNodeId AllocError)
    → AddsAll a b ids (followed (byte_pieces e at 0 bytes) (zero_rest c e at offset left)) → offset ≡ length bytes → left ≡ n - length bytes
    → IfOk r (λ (id : TNodeId). Adds b d id (node Pieces t Prvalue at (trees_at b ids)))
    → IfOk r (λ (id : TNodeId). Adds a d id (node Pieces t Prvalue at
    (followed (byte_pieces e at 0 bytes) (zero_rest c e at (length bytes) (n - length bytes)))))
string_adds a b d ids c t e at bytes offset left n r m o l h =
    last_adds a b d r _ _ m.grows (ap (λ (z : Trees). node Pieces t Prvalue at z) m.are ∙ rw (o, l) refl) h

string_is : (c : Ctx) (t : Typ) (at : At) (bytes : List ℕ) → string_object c t at bytes ≡ string_in c t (form_in t) at bytes
string_is c (typ (array e n) d v) at bytes = refl
string_is c (typ f d v) at bytes = refl

pub string_gives : (c : Ctx) (t : Typ) (at : At) (bytes : List ℕ) (old new : List Tree) (r : Result TNodeId ElabFault)
    → Gives old new r (string_in c t (form_in t) at bytes) → Gives old new r (string_object c t at bytes)
string_gives c t at bytes old new r g = gives_same old new r _ _ (string_is c t at bytes) g
