-- The names of entries are listed.
use Rattle.std.proofs.Common.{Bool, true, ◌≡◌, ◌<◌, ◌≤◌, ℕ, suc, zero, ◌+◌, ◌*◌, ◌^◌, List, [], ◌∷◌, ◌++◌, map, length, refl, arith, ◌&&◌, nat_lt, nat_le}
use Rattle.std.specs.List.{list_all, flat_map, All}
use Rattle.std.specs.Option.{option_map_or}
use borrow.Author.Tests.{ltb-true, leb-true}
use Rattle.tx_code.specs.declared.object.Object.{Object}
use Rattle.tx_code.specs.declared.object.ObjCell.{ObjCell}
use Rattle.link_faults.specs.Unlisted.{is_cell_name}
use Rattle.tx_code.specs.Objects.{bytes_of, ObjectView, ClassView, FuncView, GlobalView, object_view}
use Rattle.tx_code.specs.WellFormed.{func_fits, global_fits, flags_fit, text_fits, class_fits, member_fits, cell_fits, cell_kind_fits, is_cell_size}
use Rattle.tx_code.specs.WellFormed.{is_multiple, is_name_or_none, is_count, IsObject, ascends, bytes_lt}
use Rattle.tx_code.specs.Linked.{name_in}
use Rattle.link_faults.specs.Faults.{Entry, func_entry, global_entry, funcs_of, globals_of, func_entries, global_entries, text_in}
use Rattle.std.proofs.lemmas.List.Elements.{All-cons}
use Rattle.std.proofs.lemmas.List.{length-map}
use Rattle.std.specs.Global.{Vec}
use Rattle.link_faults.specs.declared.entries.RankedEntry.{RankedEntry}
use Rattle.link_faults.specs.Ranked.{ranked}
use Rattle.link_faults.specs.Ranks.{is_listed, rank_of, names_of, Known}
use Rattle.link_faults.specs.Tests.{is_listed_entry}
use Rattle.link_faults.proofs.Ascending.{and_left, and_right, where_listed, rank_at}
use Rattle.link_faults.proofs.NameRanks.{listed_name}

pub and_both : (a b : Bool) → a ≡ true → b ≡ true → (a && b) ≡ true
and_both a b h g = rw (h, g) refl

pub all_of_append : {A : Type 0} (t : A → Bool) (xs ys : List A) → list_all t xs ≡ true → list_all t ys ≡ true → list_all t (xs ++ ys) ≡ true
all_of_append t [] ys h g = g
all_of_append t (x ∷ xs) ys h g = and_both (t x) _ (and_left _ _ h) (all_of_append t xs ys (and_right (t x) _ h) g)

pub name_listed : (all : List (List ℕ)) (o : ObjectView) (i : ℕ) → list_all (is_listed all) o.names ≡ true → nat_lt i (length o.names) ≡ true
    → is_listed all (name_in o i) ≡ true
name_listed all o i h l = listed_name all o.names i h (ltb-true i (length o.names) l)

pub text_listed : (all : List (List ℕ)) (o : ObjectView) (i : ℕ) → list_all (is_listed all) o.names ≡ true → nat_le i (length o.names) ≡ true
    → option_map_or (is_listed all) (text_in o i) true ≡ true
text_listed all o zero h l = refl
text_listed all o (suc i) h l = let m : suc i ≤ length o.names = leb-true (suc i) (length o.names) l in listed_name all o.names i h (omega arith)

-- the parts of what fits
pub func_symbol : (v n : ℕ) (f : FuncView) → func_fits v n f ≡ true → nat_lt f.symbol n ≡ true
func_symbol v n f h = and_left _ _ (and_left _ _ (and_left _ _ (and_left _ _ (and_left _ _ (and_left _ _ (and_left _ _ (and_left _ _ (and_left _ _ h))))))))

pub func_type : (v n : ℕ) (f : FuncView) → func_fits v n f ≡ true → nat_lt f.ty n ≡ true
func_type v n f h = and_right (nat_lt f.symbol n) _ (and_left _ _
    (and_left _ _ (and_left _ _ (and_left _ _ (and_left _ _ (and_left _ _ (and_left _ _ (and_left _ _ h))))))))

pub func_text : (v n : ℕ) (f : FuncView) → func_fits v n f ≡ true → nat_le f.text n ≡ true
func_text v n f h = and_left _ _ (and_right (nat_lt f.symbol n && nat_lt f.ty n && nat_lt f.linkage 3 && flags_fit f.flags) (text_fits n f)
    (and_left _ _ (and_left _ _ (and_left _ _ (and_left _ _ (and_left _ _ h))))))

pub global_symbol : (n : ℕ) (g : GlobalView) → global_fits n g ≡ true → nat_lt g.symbol n ≡ true
global_symbol n g h = and_left _ _ (and_left _ _ (and_left _ _ (and_left _ _ (and_left _ _ (and_left _ _ (and_left _ _ h))))))

pub global_type : (n : ℕ) (g : GlobalView) → global_fits n g ≡ true → nat_lt g.ty n ≡ true
global_type n g h = and_right (nat_lt g.symbol n) _ (and_left _ _ (and_left _ _ (and_left _ _ (and_left _ _ (and_left _ _ (and_left _ _ h))))))

funcs_listed : (all : List (List ℕ)) (o : ObjectView) → list_all (is_listed all) o.names ≡ true → (fs : List FuncView)
    → list_all (func_fits o.version (length o.names)) fs ≡ true → list_all (is_listed_entry all) (map (func_entry o) fs) ≡ true
funcs_listed all o h [] l = refl
funcs_listed all o h (f ∷ fs) l =
    let fits = and_left (func_fits o.version (length o.names) f) _ l in
    and_both (is_listed_entry all (func_entry o f)) _
    (and_both _ _ (and_both _ _ (name_listed all o f.symbol h (func_symbol o.version (length o.names) f fits))
    (name_listed all o f.ty h (func_type o.version (length o.names) f fits))) (text_listed all o f.text h (func_text o.version (length o.names) f fits)))
    (funcs_listed all o h fs (and_right (func_fits o.version (length o.names) f) _ l))

globals_listed : (all : List (List ℕ)) (o : ObjectView) → list_all (is_listed all) o.names ≡ true → (gs : List GlobalView)
    → list_all (global_fits (length o.names)) gs ≡ true → list_all (is_listed_entry all) (map (global_entry o) gs) ≡ true
globals_listed all o h [] l = refl
globals_listed all o h (g ∷ gs) l =
    let fits = and_left (global_fits (length o.names) g) _ l in
    and_both (is_listed_entry all (global_entry o g)) _
    (and_both _ _ (and_both _ _ (name_listed all o g.symbol h (global_symbol (length o.names) g fits))
    (name_listed all o g.ty h (global_type (length o.names) g fits))) refl)
    (globals_listed all o h gs (and_right (global_fits (length o.names) g) _ l))

-- of all objects
pub data AllKnown (all : List (List ℕ)) : List ObjectView → Type 0 where
  none : AllKnown all []
  some : {o : ObjectView} {os : List ObjectView} → Known all o → AllKnown all os → AllKnown all (o ∷ os)

pub func_entries_listed : (all : List (List ℕ)) (os : List ObjectView) → AllKnown all os → list_all (is_listed_entry all) (func_entries os) ≡ true
func_entries_listed all [] k = refl
func_entries_listed all (o ∷ os) (some h k) = all_of_append (is_listed_entry all) (funcs_of o) (func_entries os)
    (funcs_listed all o h.listed o.funcs h.object.funcs) (func_entries_listed all os k)

pub global_entries_listed : (all : List (List ℕ)) (os : List ObjectView) → AllKnown all os → list_all (is_listed_entry all) (global_entries os) ≡ true
global_entries_listed all [] k = refl
global_entries_listed all (o ∷ os) (some h k) = all_of_append (is_listed_entry all) (globals_of o) (global_entries os)
    (globals_listed all o h.listed o.globals h.object.globals) (global_entries_listed all os k)

pub all_known : (all : List (List ℕ)) (os : List Object) → All (λ (o : Object). Known all (object_view o)) os → AllKnown all (map object_view os)
all_known all [] h = none
all_known all (o ∷ os) h = some (h 0 o (omega arith)) (all_known all os (λ k d l. h (suc k) d (omega arith)))

-- ---- ranks within the names

pub rank_within : (all : List (List ℕ)) (name : List ℕ) → ascends bytes_lt all ≡ true → is_listed all name ≡ true → rank_of all name < length all
rank_within all name h l = let w = where_listed all name l in rw (rank_at all w.0 name h w.1.within w.1.is) w.1.within

pub all_within : (all : List (List ℕ)) (es : List Entry) → ascends bytes_lt all ≡ true → list_all (is_listed_entry all) es ≡ true
    → All (λ (e : RankedEntry). e.symbol < length all) (map (ranked all) es)
all_within all [] h l = λ k d m. absurd (omega (arith, m))
all_within all (e ∷ es) h l = All-cons (λ (e : RankedEntry). e.symbol < length all) (ranked all e) (map (ranked all) es)
    (rank_within all e.symbol h (and_left _ _ (and_left _ _ (and_left _ _ l)))) (all_within all es h (and_right (is_listed_entry all e) _ l))

pub all_within_names : (vs : List (Vec ℕ)) (es : List Entry) → ascends bytes_lt (map bytes_of vs) ≡ true
    → list_all (is_listed_entry (map bytes_of vs)) es ≡ true → All (λ (e : RankedEntry). e.symbol < length vs) (map (ranked (map bytes_of vs)) es)
all_within_names vs es h l k d m = let x = all_within (map bytes_of vs) es h l k d m in omega (arith, length-map vs bytes_of, x)

listed_front : (all : List (List ℕ)) (xs ys : List (List ℕ)) → list_all (is_listed all) (xs ++ ys) ≡ true → (list_all (is_listed all) xs ≡ true)
    × (list_all (is_listed all) ys ≡ true)
listed_front all [] ys h = (refl, h)
listed_front all (x ∷ xs) ys h = let r = listed_front all xs ys (and_right (is_listed all x) _ h) in (and_both (is_listed all x) _ (and_left _ _ h) r.0, r.1)

pub each_known : (all : List (List ℕ)) (os : List Object) → ascends bytes_lt all ≡ true → length all < 4294967295
    → All (λ (o : Object). IsObject (object_view o)) os → list_all (is_listed all) (flat_map names_of (map object_view os)) ≡ true
    → All (λ (o : Object). Known all (object_view o)) os
each_known all [] a f o l = λ k d m. absurd (omega (arith, m))
each_known all (x ∷ xs) a f o l =
    let parts = listed_front all (names_of (object_view x)) (flat_map names_of (map object_view xs)) l in
    All-cons (λ (o : Object). Known all (object_view o)) x xs (record { ascend = a; few = f; listed = parts.0; object = o 0 x (omega arith) })
    (each_known all xs a f (λ k d m. o (suc k) d (omega arith)) parts.1)

-- ---- what a class and a global name

pub class_slots : (n : ℕ) (c : ClassView) → class_fits n c ≡ true → list_all (is_name_or_none n) c.slots ≡ true
class_slots n c h = and_right (nat_lt c.name n && is_name_or_none n c.base && nat_lt c.text n && is_count c.members && list_all (member_fits n) c.members
    && is_count c.slots) _ h

cell_symbol : (n size : ℕ) (c : ObjCell) → cell_fits n size c ≡ true → is_cell_name n c ≡ true
cell_symbol n size c h = and_right (is_cell_size c.size && is_multiple c.offset c.size && nat_le (c.offset + c.size) size && cell_kind_fits c && nat_lt c.value
    (2 ^ (8 * c.size))) _ (and_left _ _ h)

cells_named : (n size : ℕ) (cs : List ObjCell) → list_all (cell_fits n size) cs ≡ true → list_all (is_cell_name n) cs ≡ true
cells_named n size [] h = refl
cells_named n size (c ∷ cs) h = and_both (is_cell_name n c) _ (cell_symbol n size c (and_left (cell_fits n size c) _ h))
    (cells_named n size cs (and_right (cell_fits n size c) _ h))

pub global_cells : (n : ℕ) (g : GlobalView) → global_fits n g ≡ true → list_all (is_cell_name n) g.cells ≡ true
global_cells n g h = cells_named n g.size g.cells (and_right
    (nat_lt g.symbol n && nat_lt g.ty n && nat_lt g.linkage 2 && nat_lt g.defined 2 && is_count g.cells) _ (and_left _ _ (and_left _ _ h)))
