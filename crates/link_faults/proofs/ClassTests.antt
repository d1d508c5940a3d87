-- Tests of classes by ranks.
use Rattle.std.proofs.Common.{Bool, true, false, ◌≡◌, ◌<◌, ℕ, List, [], ◌∷◌, map, length, refl, ap, ◌∙◌, arith, Option, Some, None, ◌&&◌, ◌||◌, not, nat_eq}
use Rattle.std.proofs.Common.{nat_lt, inl, inr}
use Rattle.std.specs.Prelude.{◌⊎◌}
use Rattle.std.specs.List.{list_any, list_all, All}
use Rattle.std.specs.Global.{Vec}
use Rattle.std.proofs.lemmas.List.{length-map}
use Rattle.std.proofs.lemmas.List.Elements.{All-cons}
use Rattle.link_faults.specs.declared.classes.RankedClass.{RankedClass}
use Rattle.std.specs.Option.{option_map, option_eq}
use Rattle.std.specs.Cmp.{IsPartialEquivalence, partial_equiv_from_equiv, nat_eq_equiv, and_per, on_per}
use Rattle.std.specs.Cmp.Lexicographic.{pointwise, lists_per, options_equiv}
use Rattle.tx_code.specs.declared.object.ObjMember.{ObjMember}
use Rattle.tx_code.specs.Objects.{bytes_of, ObjectView, ClassView}
use Rattle.tx_code.specs.WellFormed.{ascends, bytes_lt, class_fits, member_fits, is_name_or_none, is_count}
use Rattle.link_faults.specs.declared.classes.RankedMember.{RankedMember}
use Rattle.link_faults.specs.Faults.{ClassRecord, MemberRecord, any_two, classes_differ, same_class, same_member, same_or_none, class_record, member_record}
use Rattle.link_faults.specs.Faults.{classes_of, class_records, text_in}
use Rattle.link_faults.specs.Ranks.{is_listed, rank_of}
use Rattle.link_faults.specs.RankedClasses.{RankedView, view_of, ranked_class, ranked_member, is_same_class, is_same_member, are_different, is_disputed_class}
use Rattle.link_faults.specs.Tests.{IsByRank, is_listed_class, is_listed_member, is_listed_option}
use Rattle.link_faults.proofs.Ascending.{and_left, and_right}
use Rattle.link_faults.proofs.ByRank.{equal_ranks, listed_too, by_listed}
use Rattle.link_faults.proofs.ListedEntries.{rank_within, and_both, all_of_append, name_listed, text_listed, AllKnown, some}
use Rattle.link_faults.proofs.FirstOnes.{Spreads}

-- ---- sameness is an equivalence

nats : IsPartialEquivalence nat_eq
nats = partial_equiv_from_equiv nat_eq_equiv

members_per : IsPartialEquivalence is_same_member
members_per = and_per (and_per (on_per (λ (m : RankedMember). m.name) nats) (on_per (λ (m : RankedMember). m.offset) nats))
    (on_per (λ (m : RankedMember). m.ty) nats)

options_per : IsPartialEquivalence (option_eq nat_eq)
options_per = partial_equiv_from_equiv (options_equiv nat_eq_equiv)

pub classes_per : IsPartialEquivalence is_same_class
classes_per = and_per (and_per (and_per (and_per (and_per (and_per
    (on_per (λ (v : RankedView). v.size) nats)
    (on_per (λ (v : RankedView). v.align) nats))
    (on_per (λ (v : RankedView). v.base) options_per))
    (on_per (λ (v : RankedView). v.pointer) nats))
    (on_per (λ (v : RankedView). v.text) nats))
    (on_per (λ (v : RankedView). v.members) (lists_per members_per)))
    (on_per (λ (v : RankedView). v.slots) (lists_per options_per))

pub classes_spread : Spreads (λ a b. not (is_same_class a b))
classes_spread = record { spreads = λ x f c h. by x f c h (is_same_class x f) refl (is_same_class x c) refl }
  where
    by : (x f c : RankedView) → not (is_same_class f c) ≡ true → (s : Bool) → is_same_class x f ≡ s → (t : Bool) → is_same_class x c ≡ t
        → (not (is_same_class x f) ≡ true) ⊎ (not (is_same_class x c) ≡ true)
    by x f c h false e t g = inl (ap not e)
    by x f c h true e false g = inr (ap not g)
    by x f c h true e true g =
        let same : is_same_class f c ≡ true = classes_per.trans f x c (classes_per.symm f x ∙ e) g in
        let n : not (is_same_class f c) ≡ false = ap not same in
        cc

-- ---- ranks tell whether classes are the same

same_options : (all : List (List ℕ)) → ascends bytes_lt all ≡ true → (a b : Option (List ℕ)) → is_listed_option all a ≡ true → is_listed_option all b ≡ true
    → option_eq nat_eq (option_map (rank_of all) a) (option_map (rank_of all) b) ≡ same_or_none a b
same_options all h None None la lb = refl
same_options all h None (Some b) la lb = refl
same_options all h (Some a) None la lb = refl
same_options all h (Some a) (Some b) la lb = equal_ranks all h a b la lb

same_members : (all : List (List ℕ)) → ascends bytes_lt all ≡ true → (a b : MemberRecord) → is_listed_member all a ≡ true → is_listed_member all b ≡ true
    → is_same_member (ranked_member all a) (ranked_member all b) ≡ same_member a b
same_members all h a b la lb = rw (
  equal_ranks all h a.name b.name (and_left _ _ la) (and_left _ _ lb),
  equal_ranks all h a.ty b.ty
      (and_right (is_listed all a.name) _ la) (and_right (is_listed all b.name) _ lb),
) refl

pointwise_map : {A B : Type 0} (f : A → B) (e : B → B → Bool) (g : A → A → Bool) (good : A → Bool)
    → ((x y : A) → good x ≡ true → good y ≡ true → e (f x) (f y) ≡ g x y)
    → (xs ys : List A) → list_all good xs ≡ true → list_all good ys ≡ true → pointwise e (map f xs) (map f ys) ≡ pointwise g xs ys
pointwise_map f e g good h [] [] lx ly = refl
pointwise_map f e g good h [] (y ∷ ys) lx ly = refl
pointwise_map f e g good h (x ∷ xs) [] lx ly = refl
pointwise_map f e g good h (x ∷ xs) (y ∷ ys) lx ly = rw
    (h x y (and_left _ _ lx) (and_left _ _ ly), pointwise_map f e g good h xs ys (and_right (good x) _ lx) (and_right (good y) _ ly)) refl

listed_base : (all : List (List ℕ)) (r : ClassRecord) → is_listed_class all r ≡ true → is_listed_option all r.base ≡ true
listed_base all r l = and_right (is_listed all r.name) _ (and_left _ _ (and_left _ _ (and_left _ _ l)))

listed_text : (all : List (List ℕ)) (r : ClassRecord) → is_listed_class all r ≡ true → is_listed all r.text ≡ true
listed_text all r l = and_right (is_listed all r.name && is_listed_option all r.base) _ (and_left _ _ (and_left _ _ l))

listed_members : (all : List (List ℕ)) (r : ClassRecord) → is_listed_class all r ≡ true → list_all (is_listed_member all) r.members ≡ true
listed_members all r l = and_right (is_listed all r.name && is_listed_option all r.base && is_listed all r.text) _ (and_left _ _ l)

listed_slots : (all : List (List ℕ)) (r : ClassRecord) → is_listed_class all r ≡ true → list_all (is_listed_option all) r.slots ≡ true
listed_slots all r l = and_right (is_listed all r.name && is_listed_option all r.base && is_listed all r.text && list_all (is_listed_member all) r.members) _ l

pub listed_class_name : (all : List (List ℕ)) (r : ClassRecord) → is_listed_class all r ≡ true → is_listed all r.name ≡ true
listed_class_name all r l = and_left _ _ (and_left _ _ (and_left _ _ (and_left _ _ l)))

same_classes : (all : List (List ℕ)) → ascends bytes_lt all ≡ true → (a b : ClassRecord) → is_listed_class all a ≡ true → is_listed_class all b ≡ true
    → is_same_class (ranked_class all a) (ranked_class all b) ≡ same_class a b
same_classes all h a b la lb = rw (
  same_options all h a.base b.base (listed_base all a la) (listed_base all b lb),
  equal_ranks all h a.text b.text (listed_text all a la) (listed_text all b lb),
  pointwise_map (ranked_member all) is_same_member same_member (is_listed_member all) (same_members all h) a.members b.members (listed_members all a la)
      (listed_members all b lb),
  pointwise_map (option_map (rank_of all)) (option_eq nat_eq) same_or_none (is_listed_option all) (same_options all h) a.slots b.slots (listed_slots all a la)
      (listed_slots all b lb),
) refl

two_classes : (all : List (List ℕ)) → ascends bytes_lt all ≡ true → (name : List ℕ) (a b : ClassRecord) → is_listed_class all a ≡ true
    → is_listed_class all b ≡ true
    → classes_differ name a b ≡ (is_listed all name && are_different (rank_of all name) (ranked_class all a) (ranked_class all b))
two_classes all h name a b la lb = by_listed all name _ _
    (λ n. rw (
      equal_ranks all h a.name name (listed_class_name all a la) n,
      equal_ranks all h b.name name (listed_class_name all b lb) n,
      same_classes all h a b la lb,
    ) refl)
    (λ n. rw (listed_too all a.name name (listed_class_name all a la) n) refl)

over_or : (l a b : Bool) → ((l && a) || (l && b)) ≡ (l && (a || b))
over_or true a b = refl
over_or false a b = refl

nothing : (l : Bool) → false ≡ (l && false)
nothing true = refl
nothing false = refl

one_class : (all : List (List ℕ)) → ascends bytes_lt all ≡ true → (name : List ℕ) (a : ClassRecord) → is_listed_class all a ≡ true → (rs : List ClassRecord)
    → list_all (is_listed_class all) rs ≡ true
    → list_any (classes_differ name a) rs ≡ (is_listed all name && list_any (are_different (rank_of all name) (ranked_class all a)) (map (ranked_class all) rs))
one_class all h name a la [] l = nothing (is_listed all name)
one_class all h name a la (r ∷ rs) l = rw (two_classes all h name a r la (and_left _ _ l), one_class all h name a la rs (and_right (is_listed_class all r) _ l))
    (over_or (is_listed all name) _ _)

all_classes : (all : List (List ℕ)) → ascends bytes_lt all ≡ true → (name : List ℕ) (rs : List ClassRecord) → list_all (is_listed_class all) rs ≡ true
    → any_two (classes_differ name) rs ≡ (is_listed all name && is_disputed_class (map (ranked_class all) rs) (rank_of all name))
all_classes all h name [] l = nothing (is_listed all name)
all_classes all h name (r ∷ rs) l = rw (
  one_class all h name r (and_left _ _ l) rs (and_right (is_listed_class all r) _ l),
  all_classes all h name rs
      (and_right (is_listed_class all r) _ l),
) (over_or (is_listed all name) _ _)

pub classes_by_rank : (all : List (List ℕ)) → ascends bytes_lt all ≡ true → (rs : List ClassRecord) → list_all (is_listed_class all) rs ≡ true
    → IsByRank all (λ name. any_two (classes_differ name) rs) (is_disputed_class (map (ranked_class all) rs))
classes_by_rank all h rs l = record { same = λ name. all_classes all h name rs l }

-- ---- the names of classes are listed

members_listed : (all : List (List ℕ)) (o : ObjectView) → list_all (is_listed all) o.names ≡ true → (ms : List ObjMember)
    → list_all (member_fits (length o.names)) ms ≡ true → list_all (is_listed_member all) (map (member_record o) ms) ≡ true
members_listed all o h [] l = refl
members_listed all o h (m ∷ ms) l =
    let fits = and_left (member_fits (length o.names) m) _ l in
    and_both (is_listed_member all (member_record o m)) _
    (and_both _ _ (name_listed all o m.name h (and_left _ _ fits)) (name_listed all o m.ty h (and_right (nat_lt m.name (length o.names)) _ fits)))
    (members_listed all o h ms (and_right (member_fits (length o.names) m) _ l))

slots_listed : (all : List (List ℕ)) (o : ObjectView) → list_all (is_listed all) o.names ≡ true → (ss : List ℕ)
    → list_all (is_name_or_none (length o.names)) ss ≡ true → list_all (is_listed_option all) (map (text_in o) ss) ≡ true
slots_listed all o h [] l = refl
slots_listed all o h (s ∷ ss) l = and_both (is_listed_option all (text_in o s)) _ (text_listed all o s h (and_left (is_name_or_none (length o.names) s) _ l))
    (slots_listed all o h ss (and_right (is_name_or_none (length o.names) s) _ l))

classes_listed : (all : List (List ℕ)) (o : ObjectView) → list_all (is_listed all) o.names ≡ true → (cs : List ClassView)
    → list_all (class_fits (length o.names)) cs ≡ true → list_all (is_listed_class all) (map (class_record o) cs) ≡ true
classes_listed all o h [] l = refl
classes_listed all o h (c ∷ cs) l =
    let n = length o.names in
    let fits : class_fits (length o.names) c ≡ true = and_left (class_fits (length o.names) c) _ l in
    and_both (is_listed_class all (class_record o c)) _
    (and_both _ _ (and_both _ _ (and_both _ _ (and_both _ _
    (name_listed all o c.name h (and_left _ _ (and_left _ _ (and_left _ _ (and_left _ _ (and_left _ _ (and_left _ _ fits)))))))
    (text_listed all o c.base h (and_right (nat_lt c.name (length o.names)) _ (and_left _ _ (and_left _ _ (and_left _ _ (and_left _ _ (and_left _ _ fits))))))))
    (name_listed all o c.text h (and_right (nat_lt c.name (length o.names) && is_name_or_none (length o.names) c.base) _
    (and_left _ _ (and_left _ _ (and_left _ _ (and_left _ _ fits)))))))
    (members_listed all o h c.members (and_right (nat_lt c.name (length o.names) && is_name_or_none (length o.names) c.base && nat_lt c.text (length o.names)
    && is_count c.members) _ (and_left _ _ (and_left _ _ fits)))))
    (slots_listed all o h c.slots (and_right (nat_lt c.name (length o.names) && is_name_or_none (length o.names) c.base && nat_lt c.text (length o.names)
    && is_count c.members && list_all (member_fits (length o.names)) c.members && is_count c.slots) _ fits)))
    (classes_listed all o h cs (and_right (class_fits (length o.names) c) _ l))

pub class_records_listed : (all : List (List ℕ)) (os : List ObjectView) → AllKnown all os → list_all (is_listed_class all) (class_records os) ≡ true
class_records_listed all [] k = refl
class_records_listed all (o ∷ os) (some h k) = all_of_append (is_listed_class all) (classes_of o) (class_records os)
    (classes_listed all o h.listed o.classes h.object.classes) (class_records_listed all os k)

first_same : {A : Type 0} (a b : A) (xs ys : List A) → a ∷ xs ≡ b ∷ ys → a ≡ b
first_same a b xs ys e = cc

rest_same : {A : Type 0} (a b : A) (xs ys : List A) → a ∷ xs ≡ b ∷ ys → xs ≡ ys
rest_same a b xs ys e = cc

pub classes_within : (vs : List (Vec ℕ)) (cs : List RankedClass) (rs : List ClassRecord) → ascends bytes_lt (map bytes_of vs) ≡ true
    → map view_of cs ≡ map (ranked_class (map bytes_of vs)) rs → list_all (is_listed_class (map bytes_of vs)) rs ≡ true
    → All (λ (c : RankedClass). c.name < length vs) cs
classes_within vs [] rs h e l = λ k d m. absurd (omega (arith, m))
classes_within vs (c ∷ cs) [] h e l = cc
classes_within vs (c ∷ cs) (r ∷ rs) h e l =
    let same : c.name ≡ rank_of (map bytes_of vs) r.name = ap (λ (v : RankedView). v.name) (first_same (view_of c) (ranked_class (map bytes_of vs) r) _ _ e) in
    let w = rank_within (map bytes_of vs) r.name h (listed_class_name (map bytes_of vs) r (and_left (is_listed_class (map bytes_of vs) r) _ l)) in
    All-cons (λ (c : RankedClass). c.name < length vs) c cs (omega (arith, w, same, length-map vs bytes_of))
    (classes_within vs cs rs h (rest_same (view_of c) (ranked_class (map bytes_of vs) r) (map view_of cs) (map (ranked_class (map bytes_of vs)) rs) e)
    (and_right (is_listed_class (map bytes_of vs) r) _ l))
