-- Bodies of constructors and destructors.
use Rattle.std.proofs.Common.{◌≡◌, refl, ap, ◌∙◌, Bool, true, false, [], ◌∷◌, ℕ, suc, List, Option, Some, None, slice_get}
use Rattle.std.specs.Prelude.{cond}
use Rattle.elab_rules.specs.cpp_types.Typ.{Typ, typ, Signature, signature, void, class}
use Rattle.elab_rules.specs.cpp_types.Class.{Member}
use Rattle.elab_rules.specs.cpp_types.Conversion.{is_lvalue}
use Rattle.elab_rules.specs.cpp_types.Equal.{flag_eq}
use Rattle.elab_rules.specs.cpp_types.declared.classes.At.{At}
use Rattle.elab_rules.specs.cpp_types.declared.ranks.Cat.TheVariants.{Prvalue}
use Rattle.elab_rules.specs.cpp_tree.declared.kinds.TKind.TheVariants as forms
use Rattle.elab_rules.specs.cpp_tree.declared.program.FuncKind.{FuncKind}
use Rattle.elab_rules.specs.cpp_tree.declared.program.FuncKind.TheVariants.{Constructor, Destructor}
use Rattle.elab_rules.specs.cpp_tree.declared.roles.Role.TheVariants.{Value, Statement, BlockItem, Destruction}
use Rattle.elab_rules.specs.cpp_tree.Trees.{Tree, Trees, none, more, one}
use Rattle.elab_rules.specs.cpp_tree.Notation.{plain}
use Rattle.elab_rules.specs.cpp_tree.Typing.{is_void}
use Rattle.elab_rules.specs.cpp_tree.Roles.{and_any}
use Rattle.elab_rules.specs.cpp_tree.Rows.{Setting, is_constructor, is_destructor, is_special, result_of, result_in, are_destructions}
use Rattle.elab_rules.specs.cpp_tree.WellFormed.{heads_of, outermost, ends_well}
use Rattle.elab_rules.specs.elab_ctx.Ctx.{Ctx}
use Rattle.elab_rules.specs.Calls.{pointer_offset, base_of_class}
use Rattle.elab_rules.specs.Names.{members_in, offset_at}
use Rattle.elab_rules.specs.Objects.{destroys, followed_by}
use Rattle.elab_rules.specs.Members.{own_part, own_base, pointer_stored, deferred_if, base_deferred, members_deferred, constructor_tree, destructor_tree}
use Rattle.elab_rules.specs.Statements.{block}
use Rattle.elab_fits.specs.Standing.{IsSetting}
use Rattle.elab_fits.specs.Objects.{DestroysOne, IsElementType, HasSpecials}
use Rattle.elab_fits.proofs.Destructions.{destructions_law}
use Rattle.elab_fits.proofs.Nodes.{both, or_left, head_typ, head_cat, node_fits}
use Rattle.elab_fits_statements.specs.Anywhere.{Allows, AllServe}
use Rattle.elab_fits_statements.proofs.Forms.{value_kid, as_item, all_kids, from_none, from_one, any_enough, one_enough, block_serves}
use Rattle.elab_fits_statements.proofs.Items.{all_followed}
use Rattle.elab_fits_statements.proofs.Variables.{destructions_serve}
use Rattle.elab_fits_bodies.specs.Functions.{IsBody}
use Rattle.elab_fits_bodies.specs.Parts.{IsObjectOf, HasParts}
use Rattle.elab_fits_bodies.proofs.Parts.{part_stands, base_stands, pointer_serves}

-- no jump is open round a body
nothing_open : Allows false false outermost
nothing_open = record { breaks = λ x. absurd cc; continues = λ x. absurd cc }

-- constructors and destructors have no result
no_result : (k : FuncKind) (g : Signature) → is_special k ≡ true → is_void (result_in k g) ≡ true
no_result k (signature ps r safe) h = ap (λ (b : Bool). is_void (cond b (typ void false false) r)) h

special_right : (k : FuncKind) → is_destructor k ≡ true → is_special k ≡ true
special_right Constructor h = refl
special_right k h = h

-- what ends a body without a result
no_end : (s : Setting) (body : Tree) → is_special s.function.kind ≡ true → ends_well (result_of s.function) body ≡ true
no_end s body h = or_left _ (no_result s.function.kind s.function.declared.signature h)

own_block : (s : Setting) (at : At) (ts : Trees) → AllServe s false false BlockItem ts → AllServe s false false BlockItem (one (block at ts))
own_block s at ts h = (as_item s false false (block at ts) (block_serves s false false at ts h).0, tt)

-- Constructors

pub constructor_fits : (s : Setting) (at : At) (parts stmts : Trees) → is_constructor s.function.kind ≡ true → AllServe s false false BlockItem parts
    → AllServe s false false BlockItem stmts → IsBody s (constructor_tree at parts stmts)
constructor_fits s at parts stmts k h g = record {
  nodes = node_fits s outermost Statement (forms.Block true) (plain void) Prvalue at items (and_any [] BlockItem) refl refl refl refl refl refl (any_enough items) refl
      (all_kids s false false outermost (and_any [] BlockItem) BlockItem 0 items nothing_open (from_none BlockItem) refl
      (all_followed s false false BlockItem parts (one (block at stmts)) h (own_block s at stmts g)));
  block = ap (λ (b : Bool). flag_eq true b) k;
  end = no_end s (constructor_tree at parts stmts) (or_left (is_destructor s.function.kind) k);
}
  where
    items : Trees
    items = followed_by parts (one (block at stmts))

-- Destructors

deferred : (s : Setting) (at : At) (t : Typ) (object : Tree) (ds : Trees) → is_destructor s.function.kind ≡ true → IsObjectOf s t object → DestroysOne s t ds
    → AllServe s false false BlockItem (deferred_if at object ds)
deferred s at t object none k o d = tt
deferred s at t object (more x xs) k o d = (
  record {
    fits = λ p a. node_fits s p BlockItem forms.Defer (plain void) Prvalue at (more object (more x xs)) (and_any (Value ∷ []) Destruction) refl refl k refl
        (both (ap is_lvalue (head_cat object ∙ o.category))
        (ap (λ (u : Typ). are_destructions s u (heads_of (more x xs))) (head_typ object ∙ o.typed) ∙ d.right)) refl (one_enough (more x xs)) refl
        (both (both (value_kid s p object (o.fits p)) (o.fits p))
        (all_kids s false false p (and_any (Value ∷ []) Destruction) Destruction 1 (more x xs) a (from_one Value Destruction) refl
        (destructions_serve s false false (more x xs) d.fit)));
    kid = refl;
  },
  tt,
)

module _ (s : Setting) (c : Ctx) (at : At) (n : ℕ) (i : IsSetting s c) (h : HasSpecials c) (parts : HasParts s c n) (k : is_destructor s.function.kind ≡ true) where
  destroyed : (t : Typ) → IsElementType c.classes true t → DestroysOne s t (destroys c at t)
  destroyed t e = destructions_law s c at t i h e.sized e.ready e.single

  base_by : (o : Option ℕ) → base_of_class (slice_get c.classes n) ≡ o → AllServe s false false BlockItem (base_deferred c at n o)
  base_by None e = tt
  base_by (Some b) e = deferred s at (plain (class b)) (own_base n at b) (destroys c at (plain (class b))) k (base_stands s n at b parts.this)
      (destroyed (plain (class b)) (parts.base b e))

  pub base_put_off : AllServe s false false BlockItem (base_deferred c at n (base_of_class (slice_get c.classes n)))
  base_put_off = base_by (base_of_class (slice_get c.classes n)) refl

  members_by : (j : ℕ) (ms : List Member) → ((l : ℕ) (m : Member) → slice_get ms l ≡ Some m → IsElementType c.classes true m.typ)
      → AllServe s false false BlockItem (members_deferred c at n j ms)
  members_by j [] f = tt
  members_by j (m ∷ ms) f = all_followed s false false BlockItem
      (deferred_if at (own_part c.classes n at (offset_at c.classes n j) m.typ) (destroys c at m.typ)) (members_deferred c at n (suc j) ms)
      (deferred s at m.typ (own_part c.classes n at (offset_at c.classes n j) m.typ) (destroys c at m.typ) k
      (part_stands s c.classes n at (offset_at c.classes n j) m.typ parts.this (parts.offsets j)) (destroyed m.typ (f 0 m refl)))
      (members_by (suc j) ms (λ l x e. f (suc l) x e))

  pub members_put_off : AllServe s false false BlockItem (members_deferred c at n 0 (members_in (slice_get c.classes n)))
  members_put_off = members_by 0 (members_in (slice_get c.classes n)) parts.members

pub pointer_kept : (s : Setting) (c : Ctx) (at : At) (n : ℕ) → HasParts s c n → AllServe s false false BlockItem (pointer_stored at n (pointer_offset c.classes n))
pointer_kept s c at n parts = pointer_serves s at n (pointer_offset c.classes n) parts.this parts.number parts.pointer

plain_block : (k : FuncKind) → is_destructor k ≡ true → flag_eq false (is_constructor k) ≡ true
plain_block Destructor h = refl
plain_block Constructor h = absurd cc
plain_block k h = refl

pub destructor_fits : (s : Setting) (c : Ctx) (at p : At) (n : ℕ) (stmts : Trees) → IsSetting s c → HasSpecials c → HasParts s c n
    → is_destructor s.function.kind ≡ true → AllServe s false false BlockItem stmts → IsBody s (destructor_tree c at p n stmts)
destructor_fits s c at p n stmts i h parts k g = record {
  nodes = (block_serves s false false p items all).0.fits outermost nothing_open;
  block = plain_block s.function.kind k;
  end = no_end s (destructor_tree c at p n stmts) (special_right s.function.kind k);
}
  where
    pointer : Trees
    pointer = pointer_stored at n (pointer_offset c.classes n)

    base : Trees
    base = base_deferred c at n (base_of_class (slice_get c.classes n))

    members : Trees
    members = members_deferred c at n 0 (members_in (slice_get c.classes n))

    items : Trees
    items = followed_by pointer (followed_by base (followed_by members (one (block p stmts))))

    all : AllServe s false false BlockItem items
    all = all_followed s false false BlockItem pointer (followed_by base (followed_by members (one (block p stmts)))) (pointer_kept s c at n parts)
        (all_followed s false false BlockItem base (followed_by members (one (block p stmts))) (base_put_off s c at n i h parts k)
        (all_followed s false false BlockItem members (one (block p stmts)) (members_put_off s c at n i h parts k) (own_block s p stmts g)))
