-- Parts of objects that have no item.
use Rattle.std.proofs.Common.{◌≡◌, ◌≢◌, ◌<◌, ◌≤◌, ℕ, zero, suc, ◌+◌, ◌*◌, Bool, Ok, Err, Result, IfOk, Option, Some, None, refl, List, [], ◌∷◌, ◌++◌, length, drop}
use Rattle.std.proofs.Common.{map, get_or, ap, sym, ◌∙◌, subst, is_some, if◌then◌else◌, Vec, Global, append_assoc, append-nil, add-one}
use Rattle.std.proofs.lemmas.List.{drop-map}
use Rattle.std.specs.declared.alloc.AllocError.{AllocError}
use Rattle.elab_make.specs.cpp_types.declared.types.Ty.{Ty}
use Rattle.elab_make.specs.cpp_types.declared.classes.MemberRec.{MemberRec}
use Rattle.elab_make.specs.cpp_types.Typ.{Typ, typ_of, array}
use Rattle.elab_make.specs.cpp_types.Class.{Member, member_of}
use Rattle.elab_make.specs.cpp_types.declared.classes.At.{At}
use Rattle.elab_make.specs.cpp_tree.declared.faults.ElabFault.{ElabFault}
use Rattle.elab_make.specs.cpp_tree.declared.arena.TNodeId.{TNodeId}
use Rattle.elab_make.specs.cpp_tree.Notation.{plain}
use Rattle.elab_make.specs.cpp_tree.Trees.{Tree, node}
use Rattle.elab_make.specs.cpp_tree.Arena.{tree_at, Adds}
use Rattle.elab_make.specs.cpp_tree.Typing.{qualified}
use Rattle.elab_make.specs.elab_ctx.Ctx.{Ctx, Work, Default, with_item}
use Rattle.elab_make.specs.elab_ctx.Steps.{and_then, Made, MadeAll}
use Rattle.elab_make.specs.elab_ctx.Says.{Faults, Puts, MadeAt, Makes, MakesAll, AllMade, place_in}
use Rattle.elab_make.proofs.elab_ctx.Looks.{at_grown}
use Rattle.elab_make.specs.elab_rules.Initialising.{with_tree}
use Rattle.elab_make.specs.elab_rules.Objects.{size_of}
use Rattle.elab_make.specs.elab_rules.Names.{offset_at, is_const_typ, is_volatile_object}
use Rattle.elab_make.specs.elab_rules.Braces.{ThisAt, this_of, relocated, as_part, default_at, default_whole, default_made, requalified, default_member, piece}
use Rattle.elab_make.specs.elab_rules.Braces.{tree_place, rest_members, rest_piece, with_piece}
use Rattle.elab_make.proofs.elab_init.Listing.{drop_step, drop_past}
use Rattle.elab_aggregates.specs.MemberPieces.{with_items, default_piece, member_piece, piece_from_nothing}
use Rattle.elab_aggregates.proofs.Making.{Making, then_rest, making_step, making_fails, making_done}

-- Default initialisers

item_added : (w : Work) (ts : List Ty) (t u : Ty) → typ_of u ≡ typ_of t → with_items (with_item w (typ_of u)) ts ≡ with_items w (t ∷ ts)
item_added w ts t u e = ap (λ (z : Typ). with_items (with_item w z) ts) e
    ∙ ap (λ (z : List Typ). record w { frame = z }) (append_assoc w.frame (typ_of t ∷ []) (map typ_of ts))

pub items_added : (w v total : Work) (ts : List Ty) (i : ℕ) (t d u : Ty) → with_items w (drop i ts) ≡ total → i < length ts → t ≡ get_or ts i d
    → typ_of u ≡ typ_of t → v ≡ with_item w (typ_of u) → with_items v (drop (i + 1) ts) ≡ total
items_added w v total ts i t d u e h g k n = ap (λ (z : Work). with_items z (drop (i + 1) ts)) n ∙ item_added w (drop (i + 1) ts) t u k
    ∙ ap (λ (z : Ty). with_items w (z ∷ drop (i + 1) ts)) g ∙ ap (with_items w) (sym (drop_step ts i d h)) ∙ e

pub items_done : (w total : Work) (ts : List Ty) (i : ℕ) → with_items w (drop i ts) ≡ total → length ts ≤ i → w ≡ total
items_done w total ts i e h = ap (λ (z : List Typ). record w { frame = z }) (sym (append-nil w.frame)) ∙ ap (with_items w) (sym (drop_past ts i h)) ∙ e

pub whole_put : (old mid new : List Tree) (w v : Work) (by : ℕ) (this : ThisAt) (d : Default) (ts : List Ty) (r : TNodeId) → by ≡ length w.frame
    → Adds old mid r (relocated by this d.init) → new ≡ mid → v ≡ with_items w ts → map typ_of ts ≡ d.frame → Puts old new v r (default_whole w this d)
whole_put old mid new w v by this d ts r b a n e f = subst (λ (z : List Tree). Puts old z v r (default_whole w this d)) (sym n)
    (record {
      grows = a.grows;
      within = a.within;
      is = a.is ∙ ap (λ (z : ℕ). relocated z this d.init) b;
      work_is = e
          ∙ ap (λ (z : List Typ). record w { frame = w.frame ++ z }) f;
    })

pub part_put : (old new : List Tree) (w v : Work) (this : ThisAt) (d : Default) (whole : TNodeId) (r : Result TNodeId AllocError)
    → Puts old new v whole (default_whole w this d) → IfOk r (λ (id : TNodeId). tree_at new id ≡ as_part (tree_at new whole))
    → IfOk r (λ (id : TNodeId). id.0 < length new) → IfOk r (λ (id : TNodeId). Puts old new v id (default_made w this d))
part_put old new w v this d whole (Ok id) p q h = record { grows = p.grows; within = h; is = q ∙ ap as_part p.is; work_is = p.work_is }
part_put old new w v this d whole (Err x) p q h = tt

puts_made : (old new : List Tree) (w : Work) (r : TNodeId) (m : Made) → Puts old new w r m → MadeAt old new w r (Ok m)
puts_made old new w r m p = record {
  grows = p.grows;
  within = p.within;
  is = ap (λ (z : Tree). Ok (record { tree = z; work = m.work })) (sym p.is) ∙ ap
      (λ (z : Work). Ok (record { tree = tree_at new r; work = z })) (sym p.work_is);
}

-- Members

default_there : (c : Ctx) (w : Work) (q u : Bool) (this : ThisAt) (t : Typ) (at : At) (x : Option Default) (d : Default) → x ≡ Some d
    → default_member c w q u this t at x ≡ Ok (with_tree (requalified q u) (default_made w this d))
default_there c w q u this t at x d e = rw e refl

pub default_makes : (c : Ctx) (w v : Work) (q u : Bool) (this : ThisAt) (t : Typ) (at : At) (x : Option Default) (d : Default) (old new : List Tree)
    (r : TNodeId) → x ≡ Some d → Puts old new v r (with_tree (requalified q u) (default_made w this d))
    → MadeAt old new v r (default_member c w q u this t at x)
default_makes c w v q u this t at x d old new r e p =
    subst (λ (z : Result Made ElabFault). MadeAt old new v r z) (sym (default_there c w q u this t at x d e))
    (puts_made old new v r (with_tree (requalified q u) (default_made w this d)) p)

pub place_is : (t : Tree) → tree_place t ≡ place_in t
place_is (node kind t cat at kids) = refl

pub place_there : (x : Option Default) (d : Default) (t : Tree) (at p : At) → x ≡ Some d → place_in t ≡ p → p ≡ (if is_some x then tree_place t else at)
place_there x d t at p e h = rw e (sym (place_is t ∙ h))

pub no_place : (x : Option Default) (t : Tree) (at : At) → x ≡ None → at ≡ (if is_some x then tree_place t else at)
no_place x t at e = rw e refl

pub member_qualified : (c : Ctx) (w v : Work) (at : At) (object : Tree) (t : Typ) (n i : ℕ) (u x : Typ) (old new : List Tree) (r : Result TNodeId ElabFault)
    → x ≡ qualified (is_const_typ t) (is_volatile_object t) u → Makes old new v r (default_piece c w at object t n i x)
    → Makes old new v r (member_piece c w at object t n i u)
member_qualified c w v at object t n i u x old new r e m = subst (λ (z : Typ). Makes old new v r (default_piece c w at object t n i z)) e m

piece_then : (c : Ctx) (offset : ℕ) (t : Typ) (f : Made → At) (x : Result Made ElabFault) (g : Work → Result MadeAll ElabFault)
    → and_then x (λ (m : Made). with_piece c offset t (f m) m (g m.work))
    ≡ and_then (and_then x (λ (m : Made). Ok (record { tree = piece c offset t (f m) m.tree; work = m.work }))) (λ (p : Made). then_rest p.tree (g p.work))
piece_then c offset t f (Ok m) g = refl
piece_then c offset t f (Err e) g = refl

-- the first of them, then the rest
member_then : (c : Ctx) (w : Work) (at : At) (object : Tree) (t : Typ) (n i : ℕ) (m : Member) (ms : List Member)
    → rest_members c w at object t n i (m ∷ ms) ≡ and_then (member_piece c w at object t n i m.typ)
    (λ (p : Made). then_rest p.tree (rest_members c p.work at object t n (i + 1) ms))
member_then c w at object t n i m ms = rw (add-one i)
    (piece_then c (offset_at c.classes n i) (qualified (is_const_typ t) (is_volatile_object t) m.typ)
    (λ (x : Made). if is_some (default_at n i c.defaults) then tree_place x.tree else at)
    (default_member c w (is_const_typ t) (is_volatile_object t) (this_of t object) (qualified (is_const_typ t) (is_volatile_object t) m.typ) at
    (default_at n i c.defaults))
    (λ (v : Work). rest_members c v at object t n (suc i) ms))

next_member : (c : Ctx) (w : Work) (at : At) (object : Tree) (t : Typ) (n i : ℕ) (ms : List MemberRec) (m d : MemberRec) → i < length ms → m ≡ get_or ms i d
    → rest_members c w at object t n i (map member_of (drop i ms))
    ≡ and_then (member_piece c w at object t n i (typ_of m.ty))
    (λ (p : Made). then_rest p.tree (rest_members c p.work at object t n (i + 1) (map member_of (drop (i + 1) ms))))
next_member c w at object t n i ms m d h e = ap (λ (z : List MemberRec). rest_members c w at object t n i (map member_of z))
    (drop_step ms i d h ∙ ap (λ (z : MemberRec). z ∷ drop (i + 1) ms) (sym e)) ∙ member_then c w at object t n i (member_of m) (map member_of (drop (i + 1) ms))

pub member_made : (c : Ctx) (w v : Work) (at : At) (id : TNodeId) (t : Typ) (n i : ℕ) (ms : List MemberRec) (m d : MemberRec) (old now new : List Tree)
    (ids next : List TNodeId) (r : TNodeId) (total : Result MadeAll ElabFault)
    → Making old now ids (rest_members c w at (tree_at old id) t n i (map member_of (drop i ms))) total → id.0 < length old → i < length ms → m ≡ get_or ms i d
    → MadeAt now new v r (member_piece c w at (tree_at now id) t n i (typ_of m.ty)) → next ≡ ids ++ r ∷ []
    → Making old new next (rest_members c v at (tree_at old id) t n (i + 1) (map member_of (drop (i + 1) ms))) total
member_made c w v at id t n i ms m d old now new ids next r total a b h e k j =
    making_step old now new v ids next r (member_piece c w at (tree_at old id) t n i (typ_of m.ty))
    (λ (z : Work). rest_members c z at (tree_at old id) t n (i + 1) (map member_of (drop (i + 1) ms))) _ total a
    (next_member c w at (tree_at old id) t n i ms m d h e)
    (subst (λ (z : Tree). MadeAt now new v r (member_piece c w at z t n i (typ_of m.ty))) (at_grown old now id a.grows b) k) j

pub member_fails : (c : Ctx) (w : Work) (at : At) (id : TNodeId) (t : Typ) (n i : ℕ) (ms : List MemberRec) (m d : MemberRec) (old now : List Tree)
    (ids : List TNodeId) (f : ElabFault) (total : Result MadeAll ElabFault)
    → Making old now ids (rest_members c w at (tree_at old id) t n i (map member_of (drop i ms))) total → id.0 < length old → i < length ms → m ≡ get_or ms i d
    → Faults f (member_piece c w at (tree_at now id) t n i (typ_of m.ty)) → Faults f total
member_fails c w at id t n i ms m d old now ids f total a b h e k =
    making_fails old now ids f (member_piece c w at (tree_at old id) t n i (typ_of m.ty))
    (λ (p : Made). then_rest p.tree (rest_members c p.work at (tree_at old id) t n (i + 1) (map member_of (drop (i + 1) ms)))) _ total a
    (next_member c w at (tree_at old id) t n i ms m d h e)
    (subst (λ (z : Tree). Faults f (member_piece c w at z t n i (typ_of m.ty))) (at_grown old now id a.grows b) k)

pub members_done : (c : Ctx) (w : Work) (at : At) (object : Tree) (t : Typ) (n i : ℕ) (ms : List MemberRec) (old now : List Tree) (ids : List TNodeId)
    (total : Result MadeAll ElabFault) → Making old now ids (rest_members c w at object t n i (map member_of (drop i ms))) total → length ms ≤ i
    → AllMade old now w ids total
members_done c w at object t n i ms old now ids total a h =
    making_done old now w ids _ total a (ap (λ (z : List MemberRec). rest_members c w at object t n i (map member_of z)) (drop_past ms i h))

pub members_same : (c : Ctx) (w v : Work) (at : At) (object : Tree) (t : Typ) (n i : ℕ) (ms : List MemberRec) (ks : List Member) (old new : List Tree)
    (r : Result (Vec TNodeId Global) ElabFault) → map member_of ms ≡ ks → MakesAll old new v r (rest_members c w at object t n i (map member_of (drop i ms)))
    → MakesAll old new v r (rest_members c w at object t n i (drop i ks))
members_same c w v at object t n i ms ks old new r e m =
    subst (λ (z : List Member). MakesAll old new v r (rest_members c w at object t n i z)) (sym (drop-map member_of i ms) ∙ ap (drop i) e) m

-- Elements

rest_is : (c : Ctx) (w : Work) (e : Typ) (i count : ℕ) (at : At) → count ≢ 0
    → rest_piece c w e i count at ≡ piece_from_nothing c w (i * size_of c.classes e) (plain (array e count)) at
rest_is c w e i zero at n = absurd (n refl)
rest_is c w e i (suc count) at n = refl

pub rest_made : (c : Ctx) (w v : Work) (e : Typ) (i count : ℕ) (at : At) (old new : List Tree) (r : Result (Vec TNodeId Global) ElabFault) → count ≢ 0
    → MakesAll old new v r (piece_from_nothing c w (i * size_of c.classes e) (plain (array e count)) at) → MakesAll old new v r (rest_piece c w e i count at)
rest_made c w v e i count at old new r n m = subst (λ (z : Result MadeAll ElabFault). MakesAll old new v r z) (sym (rest_is c w e i count at n)) m

pub nothing_same : (c : Ctx) (w v : Work) (offset o : ℕ) (t u : Typ) (at : At) (old new : List Tree) (r : Result (Vec TNodeId Global) ElabFault) → offset ≡ o
    → t ≡ u → MakesAll old new v r (piece_from_nothing c w offset t at) → MakesAll old new v r (piece_from_nothing c w o u at)
nothing_same c w v offset o t u at old new r e f m = subst (λ (z : Typ). MakesAll old new v r (piece_from_nothing c w o z at)) f
    (subst (λ (z : ℕ). MakesAll old new v r (piece_from_nothing c w z t at)) e m)

pub rest_same : (c : Ctx) (w v : Work) (e f : Typ) (i count n : ℕ) (at : At) (old new : List Tree) (r : Result (Vec TNodeId Global) ElabFault) → e ≡ f
    → count ≡ n → MakesAll old new v r (rest_piece c w e i count at) → MakesAll old new v r (rest_piece c w f i n at)
rest_same c w v e f i count n at old new r h g m = subst (λ (z : ℕ). MakesAll old new v r (rest_piece c w f i z at)) g
    (subst (λ (z : Typ). MakesAll old new v r (rest_piece c w z i count at)) h m)
