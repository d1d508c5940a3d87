-- Bodies: what is read of them is spelled so, and what is spelled so is read.
use Rattle.std.proofs.Common.{◌≡◌, ℕ, suc, nat_eq, nat_lt, arith, Bool, true, false, cond, not, List, [], ◌∷◌, ◌++◌, length, Option, Some, None, refl, sym, ap}
use Rattle.std.proofs.Common.{◌∙◌, ◌&&◌, ◌||◌}
use Rattle.std.specs.List.{list_all, flat_map}
use Rattle.std.specs.Option.{is_some, option_map_or}
use Rattle.std.proofs.lemmas.Bool.{and_parts, and_from, eqb-true, false≢true}
use Rattle.std.proofs.Math.Bool.{and_assoc}
use Rattle.tx_code.specs.declared.body.Row.{Row}
use Rattle.tx_code.specs.declared.body.LineRow.{LineRow}
use Rattle.tx_code.specs.Objects.{BodyView}
use Rattle.tx_code.specs.WellFormed.{is_name, is_count, named_by, named_by_row, named_by_body, is_line, line_after, ascends, lines_fit, body_fits, some_fits}
use Rattle.tx_code.specs.WellFormed.{same}
use Rattle.object_bytes.specs.Spelling.{u32_bytes, list_bytes, instr_bytes, row_bytes, line_bytes, lines_bytes, body_bytes, some_bytes, is_u8, is_u32}
use Rattle.object_bytes.specs.Spelling.{instr_is_wide, row_is_wide, line_is_wide, body_is_wide, some_is_wide}
use Rattle.object_bytes.specs.Decoder.{done, when, list}
use Rattle.object_bytes.specs.Fields.{row, from_above, line_differs, line_row, line_rows, body}
use Rattle.object_bytes.proofs.Codec.{Reads, Is, Again, reads_weaken, reads_done, reads_field, reads_last, reads_test, again_done, again_bind, again_last}
use Rattle.object_bytes.proofs.Codec.{again_test, u8_reads, u8_again, u32_reads, u32_again}
use Rattle.object_bytes.proofs.Parts.{parts3, parts4, parts6}
use Rattle.object_bytes.proofs.Lists.{ItemFits, OneFits, ordered, ordered_ascends, list_reads, list_again, each_reads, each_again}
use Rattle.object_bytes.proofs.InstrLaws.{names_in, instr_reads, instr_again}

-- ---- names in lists

pub all-append : {A : Type 0} (p : A → Bool) (xs ys : List A) → list_all p (xs ++ ys) ≡ (list_all p xs && list_all p ys)
all-append p [] ys = refl
all-append p (x ∷ xs) ys = ap (λ b. p x && b) (all-append p xs ys) ∙ sym (and_assoc (p x) (list_all p xs) (list_all p ys))

pub all-flat_map : {A B : Type 0} (p : B → Bool) (f : A → List B) (xs : List A) → list_all p (flat_map f xs) ≡ list_all (λ x. list_all p (f x)) xs
all-flat_map p f [] = refl
all-flat_map p f (x ∷ xs) = all-append p (f x) (flat_map f xs) ∙ ap (λ b. list_all p (f x) && b) (all-flat_map p f xs)

-- ---- unwind rows

abbrev pub row_names : (n : ℕ) → Row → Bool
row_names n r = list_all (is_name n) (named_by_row r)

and_true : (b : Bool) → (b && true) ≡ b
and_true true = refl
and_true false = refl

row_name_is : (b : Bool) (n ty : ℕ) → list_all (is_name n) (cond b (ty ∷ []) []) ≡ (not b || is_name n ty)
row_name_is true n ty = and_true (is_name n ty)
row_name_is false n ty = refl

pub row_reads : (n : ℕ) → Reads (row n) (Is row_bytes (OneFits (row_names n) row_is_wide))
unfolding row
row_reads n = reads_field u32_reads (λ from h1. reads_field u32_reads
    (λ to h2. reads_field u32_reads (λ target h3. reads_field u8_reads
    (λ what h4. reads_field (reads_test _ u32_reads) (λ ty h5. reads_last _ u32_reads (λ depth h6.
    record {
      spelled = refl;
      fits = record {
        test = row_name_is (nat_eq what 1) n ty ∙ h5.1;
        wide = and_from _ _
            (and_from _ _ (and_from _ _ (and_from _ _ (and_from _ _ h1 h2) h3) h4) h5.0) h6;
      };
    }))))))

pub row_again : (n : ℕ) (r : Row) → OneFits (row_names n) row_is_wide r → Again (row n) (row_bytes r) r
unfolding row
row_again n r fits =
    let w = parts6 (is_u32 r.from) (is_u32 r.to) (is_u32 r.target) (is_u8 r.what) (is_u32 r.ty) (is_u32 r.depth) fits.wide in
    again_bind _ (u32_bytes r.from) _ (u32_again r.from w.0)
    (again_bind _ (u32_bytes r.to) _ (u32_again r.to w.1)
    (again_bind _ (u32_bytes r.target) _ (u32_again r.target w.2)
    (again_bind _ (r.what ∷ []) _ (u8_again r.what)
    (again_bind _ (u32_bytes r.ty) (u32_bytes r.depth) (again_test _ (u32_again r.ty w.4) (sym (row_name_is (nat_eq r.what 1) n r.ty) ∙ fits.test))
    (again_last _ (u32_again r.depth w.5))))))

-- ---- lines

abbrev pub line_order : Option LineRow → LineRow → Bool
line_order before l = option_map_or (λ b. line_after b l) before true

line_order_is : (before : Option LineRow) (from line : ℕ)
    → line_order before (record { from = from; line = line }) ≡ (from_above before from && line_differs before line)
line_order_is None from line = refl
line_order_is (Some b) from line = refl

pub line_reads : (instrs : ℕ) (before : Option LineRow)
    → Reads (line_row instrs before) (Is line_bytes (ItemFits (is_line instrs) line_is_wide line_order before))
unfolding line_row
line_reads instrs before = reads_field (reads_test _ u32_reads) (λ from h1. reads_last _ (reads_test _ u32_reads) (λ line h2.
    let p = and_parts (nat_lt from instrs) (from_above before from) h1.1 in
    record { spelled = refl; fits = record { test = p.0; wide = and_from _ _ h1.0 h2.0; order = line_order_is before from line ∙ and_from _ _ p.1 h2.1 } }))

pub line_again : (instrs : ℕ) (before : Option LineRow) (l : LineRow) → ItemFits (is_line instrs) line_is_wide line_order before l
    → Again (line_row instrs before) (line_bytes l) l
unfolding line_row
line_again instrs before l fits =
    let w = and_parts (is_u32 l.from) (is_u32 l.line) fits.wide in
    let o = and_parts (from_above before l.from) (line_differs before l.line) (sym (line_order_is before l.from l.line) ∙ fits.order) in
    again_bind _ (u32_bytes l.from) (u32_bytes l.line) (again_test _ (u32_again l.from w.0) (and_from _ _ fits.test o.0))
    (again_last _ (again_test _ (u32_again l.line w.1) o.1))

lines_ascend : (lines : List LineRow) → ordered (λ l. l) line_order None lines ≡ ascends line_after lines
lines_ascend lines = ordered_ascends (λ l. l) line_order (λ l. refl) lines

lines_fit_by : (b : Bool) (instrs : ℕ) → List LineRow → Bool
lines_fit_by b instrs lines = is_count lines && list_all (is_line instrs) lines && ascends line_after lines && (b || nat_eq (length lines) 0)

lines_read : (b : Bool) (instrs : ℕ) → Reads (cond b (list (λ (l : LineRow). l) (line_row instrs)) (done []))
    (Is (λ lines. cond b (list_bytes line_bytes lines) []) (OneFits (lines_fit_by b instrs) (list_all line_is_wide)))
unfolding lines_fit_by
lines_read true instrs = reads_weaken (λ p lines h. record {
  spelled = h.spelled;
  fits =
      record {
        test = and_from _ _ (and_from _ _ (and_from _ _ h.fits.0 h.fits.1.tests) (sym (lines_ascend lines) ∙ h.fits.1.orders)) refl;
        wide =
            h.fits.1.wides;
      };
}) (list_reads (line_reads instrs))
lines_read false instrs = reads_done _ (record { spelled = refl; fits = record { test = refl; wide = refl } })

lines_again : (b : Bool) (instrs : ℕ) (lines : List LineRow) → OneFits (lines_fit_by b instrs) (list_all line_is_wide) lines
    → Again (cond b (list (λ (l : LineRow). l) (line_row instrs)) (done [])) (cond b (list_bytes line_bytes lines) []) lines
unfolding lines_fit_by
lines_again true instrs lines fits =
    let t = parts4 (is_count lines) (list_all (is_line instrs) lines) (ascends line_after lines) true fits.test in
    list_again (line_again instrs) lines t.0 (record { tests = t.1; wides = fits.wide; orders = lines_ascend lines ∙ t.2 })
lines_again false instrs [] fits = again_done _
lines_again false instrs (l ∷ lines) fits =
    let t = parts4 (is_count (l ∷ lines)) (list_all (is_line instrs) (l ∷ lines)) (ascends line_after (l ∷ lines)) (nat_eq (suc (length lines)) 0) fits.test in
    absurd (omega (arith, eqb-true (suc (length lines)) 0 t.3))

-- ---- bodies

body_names : (n : ℕ) (b : BodyView) → list_all (is_name n) (named_by_body b) ≡ (list_all (names_in n) b.code && list_all (row_names n) b.rows)
body_names n b = all-append (is_name n) (flat_map named_by b.code) (flat_map named_by_row b.rows)
    ∙ ap (λ x. x && list_all (is_name n) (flat_map named_by_row b.rows)) (all-flat_map (is_name n) named_by b.code)
    ∙ ap (λ x. list_all (names_in n) b.code && x) (all-flat_map (is_name n) named_by_row b.rows)

pub body_reads : (version n : ℕ) → Reads (body version n) (Is (body_bytes version) (OneFits (body_fits version n) body_is_wide))
unfolding body line_rows lines_fit_by
body_reads version n = reads_field (each_reads (instr_reads n))
    (λ code h1. reads_field (each_reads (row_reads n)) (λ rows h2. reads_last _ (lines_read (nat_eq version 2) (length code)) (λ lines h3.
    let named = body_names n (record { code = code; rows = rows; lines = lines }) ∙ and_from _ _ h1.1.tests h2.1.tests in
    record {
      spelled = refl;
      fits = record {
        test = and_from _ _ (and_from _ _ (and_from _ _ h1.0 h2.0) named) h3.test;
        wide = and_from _ _
            (and_from _ _ h1.1.wides h2.1.wides) h3.wide;
      };
    })))

pub body_again : (version n : ℕ) (b : BodyView) → OneFits (body_fits version n) body_is_wide b → Again (body version n) (body_bytes version b) b
unfolding body line_rows lines_fit_by
body_again version n b fits =
    let t = parts4 (is_count b.code) (is_count b.rows) (list_all (is_name n) (named_by_body b)) (lines_fit version (length b.code) b.lines) fits.test in
    let w = parts3 (list_all instr_is_wide b.code) (list_all row_is_wide b.rows) (list_all line_is_wide b.lines) fits.wide in
    let named = and_parts (list_all (names_in n) b.code) (list_all (row_names n) b.rows) (sym (body_names n b) ∙ t.2) in
    again_bind _ (list_bytes instr_bytes b.code) _ (each_again (instr_again n) b.code t.0 (record { tests = named.0; wides = w.0 }))
    (again_bind _ (list_bytes row_bytes b.rows) (lines_bytes version b.lines) (each_again (row_again n) b.rows t.1 (record { tests = named.1; wides = w.1 }))
    (again_last _ (lines_again (nat_eq version 2) (length b.code) b.lines (record { test = t.3; wide = w.2 }))))

-- ---- a body that may be there

pub record SomeFits (version n : ℕ) (is_there : Bool) (b : Option BodyView) : Type 0 where
  pub there : same is_there (is_some b) ≡ true
  pub test : some_fits version n b ≡ true
  pub wide : some_is_wide b ≡ true

pub some_reads : (version n : ℕ) (is_there : Bool) → Reads (when is_there (body version n)) (Is (some_bytes version) (SomeFits version n is_there))
unfolding when
some_reads version n true = reads_last _ (body_reads version n) (λ b h. record { spelled = refl; fits = record { there = refl; test = h.test; wide = h.wide } })
some_reads version n false = reads_done _ (record { spelled = refl; fits = record { there = refl; test = refl; wide = refl } })

pub some_again : (version n : ℕ) (is_there : Bool) (b : Option BodyView) → SomeFits version n is_there b
    → Again (when is_there (body version n)) (some_bytes version b) b
unfolding when
some_again version n true None fits = absurd (false≢true fits.there)
some_again version n true (Some b) fits = again_last _ (body_again version n b (record { test = fits.test; wide = fits.wide }))
some_again version n false None fits = again_done _
some_again version n false (Some b) fits = absurd (false≢true fits.there)
