-- Classes with ranks in place of names.
use Rattle.std.specs.Prelude.{Bool, false, ◌≡◌, ℕ, List, [], map, take, Option, Some, None, ◌&&◌, not, nat_eq, slice_get, unwrap_or}
use Rattle.std.specs.Option.{option_map, option_eq}
use Rattle.std.specs.Cmp.Lexicographic.{pointwise}
use Rattle.link_faults.specs.declared.classes.RankedMember.{RankedMember}
use Rattle.link_faults.specs.declared.classes.RankedClass.{RankedClass}
use Rattle.link_faults.specs.Faults.{MemberRecord, ClassRecord, any_two, first_of}
use Rattle.link_faults.specs.Ranks.{rank_of}

abbrev pub ranked_member : List (List ℕ) → MemberRecord → RankedMember
ranked_member all m = record { name = rank_of all m.name; offset = m.offset; ty = rank_of all m.ty }

-- what a class shows
pub record RankedView : Type 0 where
  pub name : ℕ
  pub size : ℕ
  pub align : ℕ
  pub base : Option ℕ
  pub pointer : ℕ
  pub text : ℕ
  pub members : List RankedMember
  pub slots : List (Option ℕ)

abbrev pub view_of : RankedClass → RankedView
view_of c = record {
  name = c.name;
  size = c.size;
  align = c.align;
  base = c.base;
  pointer = c.pointer;
  text = c.text;
  members = c.members.items;
  slots =
      c.slots.items;
}

abbrev pub ranked_class : List (List ℕ) → ClassRecord → RankedView
ranked_class all r = record {
  name = rank_of all r.name;
  size = r.size;
  align = r.align;
  base = option_map (rank_of all) r.base;
  pointer = r.pointer;
  text =
      rank_of all r.text;
  members = map (ranked_member all) r.members;
  slots = map (option_map (rank_of all)) r.slots;
}

abbrev pub IsRankedClass : List (List ℕ) → ClassRecord → RankedClass → Type 0
IsRankedClass all r c = view_of c ≡ ranked_class all r

abbrev pub is_same_member : RankedMember → RankedMember → Bool
is_same_member a b = nat_eq a.name b.name && nat_eq a.offset b.offset && nat_eq a.ty b.ty

-- but for the name
abbrev pub is_same_class : RankedView → RankedView → Bool
is_same_class a b = nat_eq a.size b.size && nat_eq a.align b.align && option_eq nat_eq a.base b.base && nat_eq a.pointer b.pointer && nat_eq a.text b.text
    && pointwise is_same_member a.members b.members && pointwise (option_eq nat_eq) a.slots b.slots

-- two classes of this name that are not the same
abbrev pub are_different : ℕ → RankedView → RankedView → Bool
are_different name a b = nat_eq a.name name && nat_eq b.name name && not (is_same_class a b)

abbrev pub is_disputed_class : List RankedView → ℕ → Bool
is_disputed_class views name = any_two (are_different name) views

abbrev pub has_rank : ℕ → RankedView → Bool
has_rank name v = nat_eq v.name name

abbrev pub no_view : RankedView
no_view = record { name = 0; size = 0; align = 0; base = None; pointer = 0; text = 0; members = []; slots = [] }

abbrev pub view_at : List RankedView → ℕ → RankedView
view_at views i = unwrap_or (slice_get views i) no_view

-- a class differs from the first one of its name
abbrev pub differs : Option RankedView → RankedView → Bool
differs None v = false
differs (Some f) v = not (is_same_class f v)

-- of each name the position of the first class among the first so many
abbrev pub AreFirstClasses : (views : List RankedView) (i : ℕ) → List (Option ℕ) → Type 0
AreFirstClasses views i first = (k : ℕ) (o : Option ℕ) → slice_get first k ≡ Some o → option_map (view_at views) o ≡ first_of (has_rank k) (take i views)
