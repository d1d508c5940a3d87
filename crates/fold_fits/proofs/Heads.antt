-- Heads of nodes and of what they are folded to: the same, or another kind of the same type and category.
use Rattle.std.proofs.Common.{◌≡◌, ◌⊎◌, inl, inr, refl, ap, sym, subst, ◌∙◌, suc, Bool, true, false, ◌||◌, List, [], ◌∷◌, length, drop}
use Rattle.std.specs.List.{list_all}
use Rattle.cpp_tree.specs.cpp_types.Typ.{Typ}
use Rattle.cpp_tree.specs.cpp_types.declared.ranks.Cat.{Cat}
use Rattle.cpp_tree.specs.tx_ints.declared.kinds.IntKind.{IntKind}
use Rattle.cpp_tree.specs.tx_ints.declared.kinds.BinOp.{BinOp}
use Rattle.cpp_tree.specs.declared.kinds.TKind.{TKind}
use Rattle.cpp_tree.specs.declared.kinds.TKind.TheVariants.{Convert, Binary, Conditional, Comma}
use Rattle.cpp_tree.specs.Typing.{Head, is_class_prvalue, goes_both_ways}
use Rattle.cpp_tree.specs.Roles.{is_expression, is_initialiser}
use Rattle.cpp_tree.specs.Rows.{kid, two_kids}
use Rattle.setting_growth.proofs.Still.{Still, same, both}

-- kinds that are folded
abbrev pub is_folded_kind : TKind → Bool
is_folded_kind (Convert to) = true
is_folded_kind (Binary op k) = true
is_folded_kind Conditional = true
is_folded_kind Comma = true
is_folded_kind kind = false

pub by_kinds : (P : TKind → Type 0) → ((to : IntKind) → P (Convert to)) → ((op : BinOp) (k : IntKind) → P (Binary op k)) → P Conditional → P Comma
    → (kind : TKind) → is_folded_kind kind ≡ true → P kind
by_kinds P a b c d (Convert to) e = a to
by_kinds P a b c d (Binary op k) e = b op k
by_kinds P a b c d Conditional e = c
by_kinds P a b c d Comma e = d
by_kinds P a b c d kind e = absurd cc

abbrev pub head : TKind → Typ → Cat → Head
head kind t cat = record { kind = kind; typ = t; cat = cat }

-- what may stand for a node of one of these kinds
pub record Stands (kind : TKind) (t : Typ) (cat : Cat) : Type 0 where
  pub serves : (is_expression kind || is_initialiser kind) ≡ true
  pub goes : is_class_prvalue t cat ≡ true → goes_both_ways kind ≡ true

pub record Changed (h g : Head) : Type 0 where
  pub was : is_folded_kind h.kind ≡ true
  pub typ : g.typ ≡ h.typ
  pub cat : g.cat ≡ h.cat
  pub stands : Stands g.kind h.typ h.cat

abbrev pub Alike : Head → Head → Type 0
Alike h g = (h ≡ g) ⊎ Changed h g

abbrev pub AllAlike : List Head → List Head → Type 0
AllAlike [] [] = Unit {0}
AllAlike [] (g ∷ gs) = ⊥
AllAlike (h ∷ hs) [] = ⊥
AllAlike (h ∷ hs) (g ∷ gs) = Alike h g × AllAlike hs gs

-- a test of heads that says yes still
abbrev pub Keeps : (Head → Bool) → Type 0
Keeps test = (kind other : TKind) (t : Typ) (cat : Cat) → is_folded_kind kind ≡ true → Stands other t cat
    → Still (test (head kind t cat)) (test (head other t cat))

-- one that does not read the kind
pub unread : (test : Typ → Cat → Bool) → Keeps (λ (h : Head). test h.typ h.cat)
unread test = λ kind other t cat w s. same (test t cat)

changed : (test : Head → Bool) → Keeps test → (h g : Head) → Changed h g → Still (test h) (test g)
changed test k h g c =
    let to : head g.kind g.typ g.cat ≡ head g.kind h.typ h.cat = ap (λ (t : Typ). head g.kind t g.cat) c.typ ∙ ap (head g.kind h.typ) c.cat in
    subst (λ (z : Head). Still (test h) (test z)) (sym to) (k h.kind g.kind h.typ h.cat c.was c.stands)

pub kept : (test : Head → Bool) → Keeps test → (h g : Head) → Alike h g → Still (test h) (test g)
kept test k h g (inl e) = subst (λ (z : Head). Still (test h) (test z)) e (same (test h))
kept test k h g (inr c) = changed test k h g c

-- Kids

pub first_kept : (test : Head → Bool) → Keeps test → (hs gs : List Head) → AllAlike hs gs → Still (kid 0 test hs) (kid 0 test gs)
first_kept test k [] [] a = same false
first_kept test k [] (g ∷ gs) a = absurd a
first_kept test k (h ∷ hs) [] a = absurd a
first_kept test k (h ∷ hs) (g ∷ gs) a = kept test k h g a.0

pub second_kept : (test : Head → Bool) → Keeps test → (hs gs : List Head) → AllAlike hs gs → Still (kid 1 test hs) (kid 1 test gs)
second_kept test k [] [] a = same false
second_kept test k [] (g ∷ gs) a = absurd a
second_kept test k (h ∷ hs) [] a = absurd a
second_kept test k (h ∷ hs) (g ∷ gs) a = first_kept test k hs gs a.1

pub third_kept : (test : Head → Bool) → Keeps test → (hs gs : List Head) → AllAlike hs gs → Still (kid 2 test hs) (kid 2 test gs)
third_kept test k [] [] a = same false
third_kept test k [] (g ∷ gs) a = absurd a
third_kept test k (h ∷ hs) [] a = absurd a
third_kept test k (h ∷ hs) (g ∷ gs) a = second_kept test k hs gs a.1

pub two_kept : (test : Head → Head → Bool) → ((h g i j : Head) → Alike h g → Alike i j → Still (test h i) (test g j)) → (hs gs : List Head)
    → AllAlike hs gs → Still (two_kids test hs) (two_kids test gs)
two_kept test k [] [] a = same false
two_kept test k [] (g ∷ gs) a = absurd a
two_kept test k (h ∷ hs) [] a = absurd a
two_kept test k (h ∷ []) (g ∷ []) a = same false
two_kept test k (h ∷ []) (g ∷ j ∷ gs) a = absurd a.1
two_kept test k (h ∷ i ∷ hs) (g ∷ []) a = absurd a.1
two_kept test k (h ∷ i ∷ hs) (g ∷ j ∷ gs) a = k h g i j a.0 a.1.0

pub all_kept : (test : Head → Bool) → Keeps test → (hs gs : List Head) → AllAlike hs gs → Still (list_all test hs) (list_all test gs)
all_kept test k [] [] a = same true
all_kept test k [] (g ∷ gs) a = absurd a
all_kept test k (h ∷ hs) [] a = absurd a
all_kept test k (h ∷ hs) (g ∷ gs) a = both (kept test k h g a.0) (all_kept test k hs gs a.1)

pub many_kept : (hs gs : List Head) → AllAlike hs gs → length gs ≡ length hs
many_kept [] [] a = refl
many_kept [] (g ∷ gs) a = absurd a
many_kept (h ∷ hs) [] a = absurd a
many_kept (h ∷ hs) (g ∷ gs) a = ap suc (many_kept hs gs a.1)

pub rest_alike : (hs gs : List Head) → AllAlike hs gs → AllAlike (drop 1 hs) (drop 1 gs)
rest_alike [] [] a = a
rest_alike [] (g ∷ gs) a = absurd a
rest_alike (h ∷ hs) [] a = absurd a
rest_alike (h ∷ hs) (g ∷ gs) a = a.1

pub typ_alike : (h g : Head) → Alike h g → g.typ ≡ h.typ
typ_alike h g (inl e) = ap (λ (z : Head). z.typ) (sym e)
typ_alike h g (inr c) = c.typ

pub cat_alike : (h g : Head) → Alike h g → g.cat ≡ h.cat
cat_alike h g (inl e) = ap (λ (z : Head). z.cat) (sym e)
cat_alike h g (inr c) = c.cat
