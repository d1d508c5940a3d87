-- Classes, globals and functions: what is read of them is spelled so, and what is spelled so is read.
use Rattle.std.proofs.Common.{◌≡◌, ℕ, zero, suc, ◌+◌, ◌*◌, ◌^◌, ◌<◌, nat_eq, nat_lt, nat_le, arith, Bool, true, false, cond, not, List, [], ◌∷◌, length, Option}
use Rattle.std.proofs.Common.{Some, None, refl, ◌&&◌, ◌||◌}
use Rattle.std.specs.List.{list_all}
use Rattle.std.specs.Option.{is_some}
use Rattle.std.proofs.lemmas.Bool.{and_parts, and_from, eqb-false, lt-ltb, ltb-true, leb-true, not-true, not_from_false, false≢true, ne_eqb}
use Rattle.tx_code.specs.declared.object.ObjMember.{ObjMember}
use Rattle.tx_code.specs.declared.object.ObjCell.{ObjCell}
use Rattle.tx_code.specs.Objects.{ClassView, GlobalView, FuncView}
use Rattle.tx_code.specs.WellFormed.{is_name, is_name_or_none, is_count, ascends, ascends_from, ascends_by, member_fits, class_fits, is_cell_size, is_multiple}
use Rattle.tx_code.specs.WellFormed.{cell_kind_fits, cell_fits, cell_after, global_fits, bit, same, flags_fit, some_fits, text_fits, func_fits}
use Rattle.object_bytes.specs.Spelling.{u8_bytes, u32_bytes, u64_bytes, list_bytes, member_bytes, class_bytes, cell_bytes, global_bytes, some_bytes, func_bytes}
use Rattle.object_bytes.specs.Spelling.{is_u8, is_u32, is_u64, member_is_wide, class_is_wide, cell_is_wide, global_is_wide, some_is_wide, func_is_wide}
use Rattle.object_bytes.specs.Fields.{above, name_or_none, next_name, member, class, is_clear, cell, global, func}
use Rattle.object_bytes.proofs.Codec.{Reads, Is, Again, reads_weaken, reads_field, reads_last, reads_test, again_bind, again_last, again_test, u8_reads}
use Rattle.object_bytes.proofs.Codec.{u8_again, u32_reads, u32_again, u64_reads, u64_again}
use Rattle.object_bytes.proofs.Parts.{parts3, parts5, parts6, parts7, parts8, parts10}
use Rattle.object_bytes.proofs.Lists.{ItemFits, OneFits, ordered, ordered_ascends, items_read, items_again, each_reads, each_again}
use Rattle.object_bytes.proofs.InstrLaws.{name_reads, name_again}
use Rattle.object_bytes.proofs.BodyLaws.{some_reads, some_again}

-- ---- names

pub name_or_none_reads : (n : ℕ) → Reads (name_or_none n) (Is u32_bytes (OneFits (is_name_or_none n) is_u32))
name_or_none_reads n = reads_weaken (λ p x h. record { spelled = h.spelled; fits = record { test = h.fits.1; wide = h.fits.0 } })
    (reads_test (is_name_or_none n) u32_reads)

pub name_or_none_again : (n x : ℕ) → OneFits (is_name_or_none n) is_u32 x → Again (name_or_none n) (u32_bytes x) x
name_or_none_again n x fits = again_test _ (u32_again x fits.wide) fits.test

next_name_reads : (n : ℕ) (before : Option ℕ) → Reads (next_name n before)
    (Is u32_bytes (λ x. ((is_u32 x ≡ true) × (is_name n x ≡ true)) × (above nat_lt before x ≡ true)))
next_name_reads n before = reads_test _ (name_reads n)

next_name_again : (n : ℕ) (before : Option ℕ) (x : ℕ) → is_u32 x ≡ true → is_name n x ≡ true → above nat_lt before x ≡ true
    → Again (next_name n before) (u32_bytes x) x
next_name_again n before x wide fits order = again_test _ (name_again n x wide fits) order

-- ---- classes

member_reads : (n : ℕ) → Reads (member n) (Is member_bytes (OneFits (member_fits n) member_is_wide))
unfolding member
member_reads n = reads_field (name_reads n) (λ a h1. reads_field u32_reads (λ offset h2. reads_last _ (name_reads n) (λ ty h3.
    record { spelled = refl; fits = record { test = and_from _ _ h1.1 h3.1; wide = and_from _ _ (and_from _ _ h1.0 h2) h3.0 } })))

member_again : (n : ℕ) (m : ObjMember) → OneFits (member_fits n) member_is_wide m → Again (member n) (member_bytes m) m
unfolding member
member_again n m fits =
    let t = and_parts (is_name n m.name) (is_name n m.ty) fits.test in
    let w = parts3 (is_u32 m.name) (is_u32 m.offset) (is_u32 m.ty) fits.wide in
    again_bind _ (u32_bytes m.name) _ (name_again n m.name w.0 t.0)
    (again_bind _ (u32_bytes m.offset) _ (u32_again m.offset w.1) (again_last _ (name_again n m.ty w.2 t.1)))

abbrev pub class_order : Option ℕ → ClassView → Bool
class_order before c = above nat_lt before c.name

pub class_reads : (n : ℕ) (before : Option ℕ) → Reads (class n before) (Is class_bytes (ItemFits (class_fits n) class_is_wide class_order before))
unfolding class
class_reads n before = reads_field (next_name_reads n before)
    (λ a h1. reads_field u32_reads (λ size h2. reads_field u32_reads
    (λ align h3. reads_field (name_or_none_reads n) (λ base h4. reads_field u32_reads
    (λ pointer h5. reads_field (name_reads n) (λ definition h6. reads_field (each_reads (member_reads n))
    (λ members h7. reads_last _ (each_reads (name_or_none_reads n)) (λ slots h8.
    record {
      spelled = refl;
      fits = record {
        test = and_from _ _ (and_from _ _ (and_from _ _ (and_from _ _ (and_from _ _ (and_from _ _ h1.0.1 h4.test) h6.1) h7.0) h7.1.tests) h8.0) h8.1.tests;
        wide = and_from _ _ (and_from _ _ (and_from _ _
            (and_from _ _ (and_from _ _ (and_from _ _ (and_from _ _ h1.0.0 h2) h3) h4.wide) h5) h6.0) h7.1.wides) h8.1.wides;
        order = h1.1;
      };
    }))))))))

pub class_again : (n : ℕ) (before : Option ℕ) (c : ClassView) → ItemFits (class_fits n) class_is_wide class_order before c
    → Again (class n before) (class_bytes c) c
unfolding class
class_again n before c fits =
    let t = parts7 (is_name n c.name) (is_name_or_none n c.base) (is_name n c.text) (is_count c.members) (list_all (member_fits n) c.members) (is_count c.slots)
    (list_all (is_name_or_none n) c.slots) fits.test in
    let w = parts8 (is_u32 c.name) (is_u32 c.size) (is_u32 c.align) (is_u32 c.base) (is_u32 c.pointer) (is_u32 c.text) (list_all member_is_wide c.members)
    (list_all is_u32 c.slots) fits.wide in
    again_bind _ (u32_bytes c.name) _ (next_name_again n before c.name w.0 t.0 fits.order)
    (again_bind _ (u32_bytes c.size) _ (u32_again c.size w.1) (again_bind _ (u32_bytes c.align) _ (u32_again c.align w.2)
    (again_bind _ (u32_bytes c.base) _ (name_or_none_again n c.base (record { test = t.1; wide = w.3 }))
    (again_bind _ (u32_bytes c.pointer) _ (u32_again c.pointer w.4) (again_bind _ (u32_bytes c.text) _ (name_again n c.text w.5 t.2)
    (again_bind _ (list_bytes member_bytes c.members) _ (each_again (member_again n) c.members t.3 (record { tests = t.4; wides = w.6 }))
    (again_last _ (each_again (name_or_none_again n) c.slots t.5 (record { tests = t.6; wides = w.7 })))))))))

pub classes_ascend : (cs : List ClassView) → ordered (λ (c : ClassView). c.name) class_order None cs ≡ ascends_by (λ (c : ClassView). c.name) cs
classes_ascend cs = ordered_ascends (λ (c : ClassView). c.name) class_order (λ c. refl) cs

-- ---- cells

-- "0 exactly there" and "0 there, else not 0"
zero_where : (b : Bool) (s : ℕ) → same b (nat_eq s 0) ≡ true → cond b (nat_eq s 0) (nat_lt 0 s) ≡ true
zero_where true s h = h
zero_where false s h = lt-ltb 0 s (omega (arith, eqb-false s 0 (not-true (nat_eq s 0) h)))

where_zero : (b : Bool) (s : ℕ) → cond b (nat_eq s 0) (nat_lt 0 s) ≡ true → same b (nat_eq s 0) ≡ true
where_zero true s h = h
where_zero false s h =
    let lt : 0 < s = ltb-true 0 s h in
    not_from_false (nat_eq s 0) (ne_eqb s 0 (λ e. absurd (omega arith)))

abbrev pub cell_order : Option ObjCell → ObjCell → Bool
cell_order before c = is_clear before c.offset

cell_reads : (n size : ℕ) (before : Option ObjCell) → Reads (cell n size before) (Is cell_bytes (ItemFits (cell_fits n size) cell_is_wide cell_order before))
unfolding cell
cell_reads n size before = reads_field (reads_test _ u32_reads)
    (λ offset h1. reads_field (reads_test _ u8_reads)
    (λ cell_size h2. reads_field (reads_test _ u8_reads)
    (λ what h3. reads_field (reads_test _ u64_reads) (λ value h4. reads_last _ (reads_test _ (name_or_none_reads n)) (λ symbol h5.
    record {
      spelled = refl;
      fits = record {
        test = and_from _ _ (and_from _ _ (and_from _ _ (and_from _ _ h2.1 h3.1) h4.1) h5.0.test) (zero_where (nat_eq what 0) symbol h5.1);
        wide = and_from _ _ (and_from _ _ (and_from _ _ (and_from _ _ h1.0 h2.0) h3.0) h4.0) h5.0.wide;
        order = h1.1;
      };
    })))))

cell_again : (n size : ℕ) (before : Option ObjCell) (c : ObjCell) → ItemFits (cell_fits n size) cell_is_wide cell_order before c
    → Again (cell n size before) (cell_bytes c) c
unfolding cell
cell_again n size before c fits =
    let t = parts7 (is_cell_size c.size) (is_multiple c.offset c.size) (nat_le (c.offset + c.size) size) (cell_kind_fits c) (nat_lt c.value (2 ^ (8 * c.size)))
    (is_name_or_none n c.symbol) (cond (nat_eq c.what 0) (nat_eq c.symbol 0) (nat_lt 0 c.symbol)) fits.test in
    let w = parts5 (is_u32 c.offset) (is_u8 c.size) (is_u8 c.what) (is_u64 c.value) (is_u32 c.symbol) fits.wide in
    again_bind _ (u32_bytes c.offset) _ (again_test _ (u32_again c.offset w.0) fits.order)
    (again_bind _ (u8_bytes c.size) _ (again_test _ (u8_again c.size) (and_from _ _ (and_from _ _ t.0 t.1) t.2))
    (again_bind _ (u8_bytes c.what) _ (again_test _ (u8_again c.what) t.3) (again_bind _ (u64_bytes c.value) _ (again_test _ (u64_again c.value w.3) t.4)
    (again_last _ (again_test _ (name_or_none_again n c.symbol (record { test = t.5; wide = w.4 })) (where_zero (nat_eq c.what 0) c.symbol t.6))))))

some_size : (s : ℕ) → is_cell_size s ≡ true → 0 < s
some_size zero h = absurd (false≢true h)
some_size (suc s) h = omega arith

clear_after : (n size : ℕ) (a : ObjCell) (cs : List ObjCell) → cell_fits n size a ≡ true → list_all (cell_fits n size) cs ≡ true
    → ordered (λ c. c) cell_order (Some a) cs ≡ true → ascends_from cell_after a cs ≡ true
clear_after n size a [] fits tests order = refl
clear_after n size a (c ∷ cs) fits tests order =
    let t = parts7 (is_cell_size a.size) (is_multiple a.offset a.size) (nat_le (a.offset + a.size) size) (cell_kind_fits a) (nat_lt a.value (2 ^ (8 * a.size)))
    (is_name_or_none n a.symbol) (cond (nat_eq a.what 0) (nat_eq a.symbol 0) (nat_lt 0 a.symbol)) fits in
    let o = and_parts (nat_le (a.offset + a.size) c.offset) (ordered (λ c. c) cell_order (Some c) cs) order in
    let u = and_parts (cell_fits n size c) (list_all (cell_fits n size) cs) tests in
    let below : a.offset < c.offset = omega (arith, some_size a.size t.0, leb-true _ _ o.0) in
    and_from _ _ (and_from _ _ (lt-ltb _ _ below) o.0) (clear_after n size c cs u.0 u.1 o.1)

cells_ascend : (n size : ℕ) (cs : List ObjCell) → list_all (cell_fits n size) cs ≡ true → ordered (λ c. c) cell_order None cs ≡ true
    → ascends cell_after cs ≡ true
cells_ascend n size [] tests order = refl
cells_ascend n size (c ∷ cs) tests order =
    let u = and_parts (cell_fits n size c) (list_all (cell_fits n size) cs) tests in
    clear_after n size c cs u.0 u.1 order

after_clear : (a : ObjCell) (cs : List ObjCell) → ascends_from cell_after a cs ≡ true → ordered (λ c. c) cell_order (Some a) cs ≡ true
after_clear a [] h = refl
after_clear a (c ∷ cs) h =
    let p = and_parts (cell_after a c) (ascends_from cell_after c cs) h in
    let q = and_parts (nat_lt a.offset c.offset) (nat_le (a.offset + a.size) c.offset) p.0 in
    and_from _ _ q.1 (after_clear c cs p.1)

cells_ordered : (cs : List ObjCell) → ascends cell_after cs ≡ true → ordered (λ c. c) cell_order None cs ≡ true
cells_ordered [] h = refl
cells_ordered (c ∷ cs) h = after_clear c cs h

-- ---- globals

abbrev pub global_order : Option ℕ → GlobalView → Bool
global_order before g = above nat_lt before g.symbol

-- an undefined global has size 0 and no cells
none_undefined : (b : Bool) (size cells : ℕ) → same b (nat_eq size 0) ≡ true → (not b || nat_eq cells 0) ≡ true
    → cond b (nat_eq size 0 && nat_eq cells 0) (nat_lt 0 size) ≡ true
none_undefined true size cells h k = and_from _ _ h k
none_undefined false size cells h k = zero_where false size h

undefined_none : (b : Bool) (size cells : ℕ) → cond b (nat_eq size 0 && nat_eq cells 0) (nat_lt 0 size) ≡ true → (same b (nat_eq size 0) ≡ true)
    × ((not b || nat_eq cells 0) ≡ true)
undefined_none true size cells h = let p = and_parts (nat_eq size 0) (nat_eq cells 0) h in (p.0, p.1)
undefined_none false size cells h = (where_zero false size h, refl)

pub global_reads : (n : ℕ) (before : Option ℕ) → Reads (global n before) (Is global_bytes (ItemFits (global_fits n) global_is_wide global_order before))
unfolding global
global_reads n before = reads_field (next_name_reads n before)
    (λ symbol h1. reads_field (name_reads n) (λ ty h2. reads_field (reads_test _ u8_reads)
    (λ linkage h3. reads_field (reads_test _ u8_reads)
    (λ defined h4. reads_field (reads_test _ u32_reads) (λ size h5. reads_field (reads_test _ u32_reads) (λ count h6.
    reads_weaken (λ p g h. h) (reads_last _ (items_read (λ c. c) (cell_fits n size) cell_is_wide cell_order cell_bytes (cell n size)
    (cell_reads n size) count None) (λ cells h7.
    let counted : is_count cells ≡ true = rw h7.0 h6.0 in
    let none : (not (nat_eq defined 0) || nat_eq (length cells) 0) ≡ true = rw h7.0 h6.1 in
    record {
      spelled = rw h7.0 refl;
      fits = record {
        test = and_from _ _ (and_from _ _ (and_from _ _ (and_from _ _ (and_from _ _ (and_from _ _ (and_from _ _ h1.0.1 h2.1) h3.1) h4.1) counted) h7.1.tests)
            (cells_ascend n size cells h7.1.tests h7.1.orders)) (none_undefined (nat_eq defined 0) size (length cells) h5.1 none);
        wide = and_from _ _ (and_from _ _ (and_from _ _ (and_from _ _ (and_from _ _ h1.0.0 h2.0) h3.0) h4.0) h5.0) h7.1.wides;
        order = h1.1;
      };
    }))))))))

pub global_again : (n : ℕ) (before : Option ℕ) (g : GlobalView) → ItemFits (global_fits n) global_is_wide global_order before g
    → Again (global n before) (global_bytes g) g
unfolding global
global_again n before g fits =
    let t = parts8 (is_name n g.symbol) (is_name n g.ty) (nat_lt g.linkage 2) (nat_lt g.defined 2) (is_count g.cells) (list_all (cell_fits n g.size) g.cells)
    (ascends cell_after g.cells) (cond (nat_eq g.defined 0) (nat_eq g.size 0 && nat_eq (length g.cells) 0) (nat_lt 0 g.size)) fits.test in
    let w = parts6 (is_u32 g.symbol) (is_u32 g.ty) (is_u8 g.linkage) (is_u8 g.defined) (is_u32 g.size) (list_all cell_is_wide g.cells) fits.wide in
    let u = undefined_none (nat_eq g.defined 0) g.size (length g.cells) t.7 in
    again_bind _ (u32_bytes g.symbol) _ (next_name_again n before g.symbol w.0 t.0 fits.order) (again_bind _ (u32_bytes g.ty) _ (name_again n g.ty w.1 t.1)
    (again_bind _ (u8_bytes g.linkage) _ (again_test _ (u8_again g.linkage) t.2) (again_bind _ (u8_bytes g.defined) _ (again_test _ (u8_again g.defined) t.3)
    (again_bind _ (u32_bytes g.size) _ (again_test _ (u32_again g.size w.4) u.0)
    (again_bind _ (u32_bytes (length g.cells)) _ (again_test _ (u32_again (length g.cells) t.4) u.1)
    (again_last _ (items_again (λ c. c) (cell_fits n g.size) cell_is_wide cell_order cell_bytes (cell n g.size) (cell_again n g.size) g.cells None
    (record { tests = t.5; wides = w.5; orders = cells_ordered g.cells t.6 }))))))))

pub globals_ascend : (gs : List GlobalView) → ordered (λ (g : GlobalView). g.symbol) global_order None gs ≡ ascends_by (λ (g : GlobalView). g.symbol) gs
globals_ascend gs = ordered_ascends (λ (g : GlobalView). g.symbol) global_order (λ g. refl) gs

-- ---- functions

abbrev pub func_order : Option ℕ → FuncView → Bool
func_order before f = above nat_lt before f.symbol

pub func_reads : (version n : ℕ) (before : Option ℕ) → Reads (func version n before)
    (Is (func_bytes version) (ItemFits (func_fits version n) func_is_wide func_order before))
unfolding func
func_reads version n before = reads_field (next_name_reads n before)
    (λ symbol h1. reads_field (name_reads n) (λ ty h2. reads_field (reads_test _ u8_reads)
    (λ linkage h3. reads_field (reads_test _ u8_reads)
    (λ flags h4. reads_field (reads_test _ (name_or_none_reads n))
    (λ definition h5. reads_field (reads_test _ u32_reads)
    (λ frame h6. reads_field (some_reads version n (bit 0 flags)) (λ plain h7. reads_last _ (some_reads version n (bit 1 flags)) (λ safe h8.
    record {
      spelled = refl;
      fits = record {
        test = and_from _ _ (and_from _ _ (and_from _ _
            (and_from _ _ (and_from _ _ (and_from _ _ (and_from _ _ (and_from _ _ (and_from _ _ h1.0.1 h2.1) h3.1) h4.1)
            (and_from _ _ h5.0.test h5.1)) h6.1) h7.there) h7.test) h8.there) h8.test;
        wide = and_from _ _ (and_from _ _ (and_from _ _
            (and_from _ _ (and_from _ _ (and_from _ _ (and_from _ _ h1.0.0 h2.0) h3.0) h4.0) h5.0.wide) h6.0) h7.wide) h8.wide;
        order = h1.1;
      };
    }))))))))

pub func_again : (version n : ℕ) (before : Option ℕ) (f : FuncView) → ItemFits (func_fits version n) func_is_wide func_order before f
    → Again (func version n before) (func_bytes version f) f
unfolding func
func_again version n before f fits =
    let t = parts10 (is_name n f.symbol) (is_name n f.ty) (nat_lt f.linkage 3) (flags_fit f.flags) (text_fits n f) (bit 0 f.flags || nat_eq f.frame 0)
    (same (bit 0 f.flags) (is_some f.plain)) (some_fits version n f.plain) (same (bit 1 f.flags) (is_some f.safe)) (some_fits version n f.safe) fits.test in
    let x = and_parts (is_name_or_none n f.text) (same (nat_eq f.linkage 2 && bit 0 f.flags) (nat_lt 0 f.text)) t.4 in
    let w = parts8 (is_u32 f.symbol) (is_u32 f.ty) (is_u8 f.linkage) (is_u8 f.flags) (is_u32 f.text) (is_u32 f.frame) (some_is_wide f.plain)
    (some_is_wide f.safe) fits.wide in
    again_bind _ (u32_bytes f.symbol) _ (next_name_again n before f.symbol w.0 t.0 fits.order) (again_bind _ (u32_bytes f.ty) _ (name_again n f.ty w.1 t.1)
    (again_bind _ (u8_bytes f.linkage) _ (again_test _ (u8_again f.linkage) t.2) (again_bind _ (u8_bytes f.flags) _ (again_test _ (u8_again f.flags) t.3)
    (again_bind _ (u32_bytes f.text) _ (again_test _ (name_or_none_again n f.text (record { test = x.0; wide = w.4 })) x.1)
    (again_bind _ (u32_bytes f.frame) _ (again_test _ (u32_again f.frame w.5) t.5)
    (again_bind _ (some_bytes version f.plain) _ (some_again version n (bit 0 f.flags) f.plain (record { there = t.6; test = t.7; wide = w.6 }))
    (again_last _ (some_again version n (bit 1 f.flags) f.safe (record { there = t.8; test = t.9; wide = w.7 })))))))))

pub funcs_ascend : (fs : List FuncView) → ordered (λ (f : FuncView). f.symbol) func_order None fs ≡ ascends_by (λ (f : FuncView). f.symbol) fs
funcs_ascend fs = ordered_ascends (λ (f : FuncView). f.symbol) func_order (λ f. refl) fs
