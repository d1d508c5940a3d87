-- What is undefined or not safe, by ranks.
use Rattle.std.proofs.Common.{Bool, true, false, ◌≡◌, ◌≤◌, ℕ, suc, zero, List, [], ◌∷◌, map, length, refl, sym, ap, ◌∙◌, arith, Some, ◌&&◌, ◌||◌, not, nat_eq}
use Rattle.std.proofs.Common.{cond, if◌then◌else◌}
use Rattle.std.specs.List.{list_any, list_all}
use Rattle.std.specs.Option.{option_map_or}
use Rattle.std.specs.Str.{bytes_eq}
use borrow.Author.Tests.{leb-true}
use Rattle.tx_code.specs.declared.object.ObjCell.{ObjCell}
use Rattle.tx_code.specs.Objects.{GlobalView, FuncView, ObjectView}
use Rattle.tx_code.specs.WellFormed.{ascends, bytes_lt, class_fits, global_fits, is_name_or_none}
use Rattle.tx_code.specs.Linked.{name_in}
use Rattle.link_faults.specs.declared.entries.RankedEntry.{RankedEntry}
use Rattle.link_faults.specs.Faults.{Entry, defines, is_missing, wants, kept_is_safe, first_of, is_unlisted_func, is_unlisted_global, is_unlisted_cell}
use Rattle.link_faults.specs.Faults.{has_unlisted_slot, has_unlisted_cell, has_unlisted, has_func, has_global, is_main}
use Rattle.link_faults.specs.Ranks.{is_listed, rank_of, Known}
use Rattle.link_faults.specs.Ranked.{ranked}
use Rattle.link_faults.specs.Kept.{defines_rank, misses, wants_safe, is_missing_rank, is_unsafe_rank}
use Rattle.link_faults.specs.Tests.{IsByRank, is_listed_entry}
use Rattle.link_faults.specs.Unlisted.{func_symbols, global_symbols, is_unlisted, rank_below, misses_slot, misses_slots, misses_cell, misses_cells, misses_in}
use Rattle.link_faults.specs.Unlisted.{misses_any, is_cell_name}
use Rattle.link_faults.proofs.Ascending.{and_left, and_right, same_bytes}
use Rattle.link_faults.proofs.NameRanks.{listed_name}
use Rattle.link_faults.proofs.ByRank.{equal_ranks, listed_too, by_listed, symbol_rank, unlisted_entry}
use Rattle.link_faults.proofs.ListedEntries.{AllKnown, some, class_slots, global_cells}
use Rattle.link_faults.proofs.Marks.{any_map}

over_or : (l a b : Bool) → ((l && a) || (l && b)) ≡ (l && (a || b))
over_or true a b = refl
over_or false a b = refl

nothing : (l : Bool) → false ≡ (l && false)
nothing true = refl
nothing false = refl

-- a test of items that is one of what they show
any_by_rank : {A B : Type 0} (l : Bool) (r : A → B) (t : A → Bool) (u : B → Bool) (good : A → Bool) → ((x : A) → good x ≡ true → t x ≡ (l && u (r x)))
    → (xs : List A) → list_all good xs ≡ true → list_any t xs ≡ (l && list_any u (map r xs))
any_by_rank l r t u good h [] g = nothing l
any_by_rank l r t u good h (x ∷ xs) g = rw (h x (and_left _ _ g), any_by_rank l r t u good h xs (and_right (good x) _ g)) (over_or l (u (r x)) _)

any_same : {A B : Type 0} (r : A → B) (t : A → Bool) (u : B → Bool) (good : A → Bool) → ((x : A) → good x ≡ true → t x ≡ u (r x)) → (xs : List A)
    → list_all good xs ≡ true → list_any t xs ≡ list_any u (map r xs)
any_same r t u good h [] g = refl
any_same r t u good h (x ∷ xs) g = rw (h x (and_left _ _ g), any_same r t u good h xs (and_right (good x) _ g)) refl

first_same : (all : List (List ℕ)) → ascends bytes_lt all ≡ true → (name : List ℕ) → is_listed all name ≡ true → (es : List Entry)
    → list_all (is_listed_entry all) es ≡ true
    → option_map_or (λ (d : Entry). d.safe) (first_of (defines name) es) false
    ≡ option_map_or (λ (d : RankedEntry). d.safe) (first_of (defines_rank (rank_of all name)) (map (ranked all) es)) false
first_same all h name n [] g = refl
first_same all h name n (e ∷ es) g = rw (symbol_rank all h name n e (and_left _ _ g))
    (by (e.defined && (not (nat_eq e.linkage 1) && nat_eq (rank_of all e.symbol) (rank_of all name)))
    (first_same all h name n es (and_right (is_listed_entry all e) _ g)))
  where
    by : (b : Bool) → option_map_or (λ (d : Entry). d.safe) (first_of (defines name) es) false
        ≡ option_map_or (λ (d : RankedEntry). d.safe) (first_of (defines_rank (rank_of all name)) (map (ranked all) es)) false
        → option_map_or (λ (d : Entry). d.safe) (cond b (Some e) (first_of (defines name) es)) false
        ≡ option_map_or (λ (d : RankedEntry). d.safe)
        (cond b (Some (ranked all e)) (first_of (defines_rank (rank_of all name)) (map (ranked all) es))) false
    by true f = refl
    by false f = f

definers : (all : List (List ℕ)) → ascends bytes_lt all ≡ true → (name : List ℕ) → is_listed all name ≡ true → (es : List Entry)
    → list_all (is_listed_entry all) es ≡ true → list_any (defines name) es ≡ list_any (defines_rank (rank_of all name)) (map (ranked all) es)
definers all h name n es g = any_same (ranked all) (defines name) (defines_rank (rank_of all name)) (is_listed_entry all)
    (λ e l. rw (symbol_rank all h name n e l) refl) es g

listed_symbol : (all : List (List ℕ)) (e : Entry) → is_listed_entry all e ≡ true → is_listed all e.symbol ≡ true
listed_symbol all e l = and_left _ _ (and_left _ _ l)

one_missing : (all : List (List ℕ)) → ascends bytes_lt all ≡ true → (es : List Entry) → list_all (is_listed_entry all) es ≡ true → (name : List ℕ) (e : Entry)
    → is_listed_entry all e ≡ true
    → is_missing es name e ≡ (is_listed all name && (nat_eq (rank_of all e.symbol) (rank_of all name) && is_missing_rank (map (ranked all) es) (ranked all e)))
one_missing all h es g name e l = by_listed all name _ _
    (λ n. rw (← symbol_rank all h name n e l, ← definers all h e.symbol (listed_symbol all e l) es g) (by (bytes_eq e.symbol name) refl))
    (λ n. rw (unlisted_entry all name e l n) refl)
  where
    by : (b : Bool) → bytes_eq e.symbol name ≡ b → (b && not e.defined && (nat_eq e.linkage 1 || not (list_any (defines name) es)))
        ≡ (true && (b && (not e.defined && (nat_eq e.linkage 1 || not (list_any (defines e.symbol) es)))))
    by true q = let same : e.symbol ≡ name = same_bytes e.symbol name q in
        ap (λ s. not e.defined && (nat_eq e.linkage 1 || not (list_any (defines s) es))) (sym same)
    by false q = refl

one_wanted : (all : List (List ℕ)) → ascends bytes_lt all ≡ true → (es : List Entry) → list_all (is_listed_entry all) es ≡ true → (name : List ℕ) (e : Entry)
    → is_listed_entry all e ≡ true
    → wants es name e ≡ (is_listed all name && (nat_eq (rank_of all e.symbol) (rank_of all name) && is_unsafe_rank (map (ranked all) es) (ranked all e)))
one_wanted all h es g name e l = by_listed all name _ _
    (λ n. rw (← symbol_rank all h name n e l, ← first_same all h e.symbol (listed_symbol all e l) es g) (by (bytes_eq e.symbol name)))
    (λ n. rw (unlisted_entry all name e l n) refl)
  where
    by : (b : Bool) → (b && e.wanted_safe && not (kept_is_safe es e)) ≡ (true && (b && (e.wanted_safe && not (kept_is_safe es e))))
    by true = refl
    by false = refl

pub missing_by_rank : (all : List (List ℕ)) → ascends bytes_lt all ≡ true → (es : List Entry) → list_all (is_listed_entry all) es ≡ true
    → IsByRank all (λ name. list_any (is_missing es name) es) (misses (map (ranked all) es))
missing_by_rank all h es g = record {
  same = λ name. any_by_rank (is_listed all name) (ranked all) (is_missing es name)
      (λ e. nat_eq e.symbol (rank_of all name) && is_missing_rank (map (ranked all) es) e) (is_listed_entry all) (one_missing all h es g name) es g;
}

pub wanted_by_rank : (all : List (List ℕ)) → ascends bytes_lt all ≡ true → (es : List Entry) → list_all (is_listed_entry all) es ≡ true
    → IsByRank all (λ name. list_any (wants es name) es) (wants_safe (map (ranked all) es))
wanted_by_rank all h es g = record {
  same = λ name. any_by_rank (is_listed all name) (ranked all) (wants es name)
      (λ e. nat_eq e.symbol (rank_of all name) && is_unsafe_rank (map (ranked all) es) e) (is_listed_entry all) (one_wanted all h es g name) es g;
}

-- ---- slots and cells

any_where : {A : Type 0} (l : Bool) (t u : A → Bool) (good : A → Bool) → ((x : A) → good x ≡ true → t x ≡ (l && u x)) → (xs : List A) → list_all good xs ≡ true
    → list_any t xs ≡ (l && list_any u xs)
any_where l t u good h [] g = nothing l
any_where l t u good h (x ∷ xs) g = rw (h x (and_left _ _ g), any_where l t u good h xs (and_right (good x) _ g)) (over_or l (u x) _)

no_name : (l b : Bool) → false ≡ (l && (b && false))
no_name true true = refl
no_name true false = refl
no_name false b = refl

named : (all : List (List ℕ)) (o : ObjectView) → Known all o → (name : List ℕ) (n : ℕ) (b : Bool) → suc n ≤ length o.names
    → (bytes_eq (name_in o n) name && b) ≡ (is_listed all name && (nat_eq (rank_of all (name_in o n)) (rank_of all name) && b))
named all o h name n b l = by_listed all name _ _
    (λ q. rw (equal_ranks all h.ascend (name_in o n) name (listed_name all o.names n h.listed (omega arith)) q) refl)
    (λ q. rw (listed_too all (name_in o n) name (listed_name all o.names n h.listed (omega arith)) q) refl)

one_func : (all : List (List ℕ)) (o : ObjectView) → Known all o → (name : List ℕ) (n : ℕ) → n ≤ length o.names
    → is_unlisted_func o name n ≡ (is_listed all name && (nat_eq (rank_below all o n) (rank_of all name) && is_unlisted (func_symbols o) n))
one_func all o h name zero l = no_name (is_listed all name) (nat_eq 0 (rank_of all name))
one_func all o h name (suc n) l = named all o h name n (not (has_func o n)) l
    ∙ ap (λ b. is_listed all name && (nat_eq (rank_of all (name_in o n)) (rank_of all name) && not b))
    (sym (any_map (λ (f : FuncView). f.symbol) (λ s. nat_eq s n) o.funcs))

one_global : (all : List (List ℕ)) (o : ObjectView) → Known all o → (name : List ℕ) (n : ℕ) → n ≤ length o.names
    → is_unlisted_global o name n ≡ (is_listed all name && (nat_eq (rank_below all o n) (rank_of all name) && is_unlisted (global_symbols o) n))
one_global all o h name zero l = no_name (is_listed all name) (nat_eq 0 (rank_of all name))
one_global all o h name (suc n) l = named all o h name n (not (has_global o n)) l
    ∙ ap (λ b. is_listed all name && (nat_eq (rank_of all (name_in o n)) (rank_of all name) && not b))
    (sym (any_map (λ (g : GlobalView). g.symbol) (λ s. nat_eq s n) o.globals))

one_slot : (all : List (List ℕ)) (o : ObjectView) → Known all o → (name : List ℕ) (n : ℕ) → is_name_or_none (length o.names) n ≡ true
    → is_unlisted_func o name n ≡ (is_listed all name && misses_slot all o (rank_of all name) n)
one_slot all o h name n l = one_func all o h name n (leb-true n (length o.names) l)

one_cell : (all : List (List ℕ)) (o : ObjectView) → Known all o → (name : List ℕ) (c : ObjCell) → is_cell_name (length o.names) c ≡ true
    → is_unlisted_cell o name c ≡ (is_listed all name && misses_cell all o (rank_of all name) c)
one_cell all o h name c l = by (nat_eq c.what 2)
  where
    by : (b : Bool) → (if b then is_unlisted_func o name c.symbol else is_unlisted_global o name c.symbol)
        ≡ (is_listed all name && (nat_eq (rank_below all o c.symbol) (rank_of all name) &&
        (if b then is_unlisted (func_symbols o) c.symbol else is_unlisted (global_symbols o) c.symbol)))
    by true = one_func all o h name c.symbol (leb-true c.symbol (length o.names) l)
    by false = one_global all o h name c.symbol (leb-true c.symbol (length o.names) l)

one_object : (all : List (List ℕ)) (o : ObjectView) → Known all o → (name : List ℕ)
    → has_unlisted name o ≡ (is_listed all name && misses_in all (rank_of all name) o)
one_object all o h name =
    rw (
      any_where (is_listed all name) (has_unlisted_slot o name) (misses_slots all o (rank_of all name)) (class_fits (length o.names))
          (λ c g. any_where (is_listed all name) (is_unlisted_func o name) (misses_slot all o (rank_of all name)) (is_name_or_none (length o.names))
          (one_slot all o h name) c.slots (class_slots (length o.names) c g)) o.classes h.object.classes,
      any_where (is_listed all name) (has_unlisted_cell o name) (misses_cells all o (rank_of all name)) (global_fits (length o.names))
          (λ c g. any_where (is_listed all name) (is_unlisted_cell o name) (misses_cell all o (rank_of all name)) (is_cell_name (length o.names))
          (one_cell all o h name) c.cells (global_cells (length o.names) c g)) o.globals h.object.globals,
    )
    (over_or (is_listed all name) _ _)

all_objects : (all : List (List ℕ)) (os : List ObjectView) → AllKnown all os → (name : List ℕ)
    → list_any (has_unlisted name) os ≡ (is_listed all name && misses_any all os (rank_of all name))
all_objects all [] k name = nothing (is_listed all name)
all_objects all (o ∷ os) (some h k) name = rw (one_object all o h name, all_objects all os k name) (over_or (is_listed all name) _ _)

pub unlisted_by_rank : (all : List (List ℕ)) (os : List ObjectView) → AllKnown all os
    → IsByRank all (λ name. list_any (has_unlisted name) os) (misses_any all os)
unlisted_by_rank all os k = record { same = all_objects all os k }

pub main_by_rank : (all : List (List ℕ)) (es : List Entry) → list_any (λ (e : RankedEntry). e.main) (map (ranked all) es) ≡ list_any is_main es
main_by_rank all es = any_map (ranked all) (λ (e : RankedEntry). e.main) es
