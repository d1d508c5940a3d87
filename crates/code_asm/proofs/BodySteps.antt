-- Lines of bodies: what is added fits, and has the line as its text.
use Rattle.std.proofs.Common.{◌≡◌, ℕ, Bool, true, false, List, [], ◌∷◌, ◌++◌, length, map, Some, refl, sym, ap, subst, ◌∙◌, ◌&&◌, ◌||◌, append_assoc}
use Rattle.std.proofs.Common.{append-nil}
use Rattle.std.specs.Prelude.{nat_eq, nat_lt}
use Rattle.std.specs.List.{list_all, flat_map}
use Rattle.std.proofs.lemmas.Bool.{and_from, false≢true}
use Rattle.std.proofs.lemmas.List.Folds.{list_all-append}
use Rattle.tx_code.specs.declared.instr.Instr.{Instr}
use Rattle.tx_code.specs.declared.body.Row.{Row}
use Rattle.tx_code.specs.declared.body.LineRow.{LineRow}
use Rattle.tx_code.specs.Objects.{BodyView}
use Rattle.tx_code.specs.WellFormed.{is_name, is_count, named_by, named_by_row, is_line, line_after, ascends, body_fits}
use Rattle.object_bytes.specs.Spelling.{instr_is_wide, row_is_wide, line_is_wide, body_is_wide}
use Rattle.object_bytes.specs.Fields.{above}
use Rattle.object_bytes.proofs.Parts.{parts3, parts4}
use Rattle.assembly_text.specs.declared.line.Record.{Record}
use Rattle.assembly_text.specs.declared.line.Record.TheVariants as kind
use Rattle.assembly_text.specs.Lines.{Line, Of, code_line, row_line, number_line, body_lines, record_is_wide}
use Rattle.code_asm.specs.Steps.{is_nil, has_room, last_of, no_body, body_step}
use Rattle.assembly_text.specs.Options.{given}
use Rattle.assembly_text.proofs.RecordLaws.{was_given}
use Rattle.code_asm.proofs.Appended.{nil_is, all_more, all_flat_more, map_more, count_more, ascends_more}

-- the line of a record: that of the instruction `end` is the record of that name
abbrev pub line_of : Record → Line
line_of (kind.Code i) = code_line i
line_of r = Of r

abbrev pub has_width : Record → Bool
has_width (kind.Code i) = instr_is_wide i
has_width r = record_is_wide r

pub record BodyParts (version n : ℕ) (b : BodyView) : Type 0 where
  pub code_count : is_count b.code ≡ true
  pub code_names : list_all (is_name n) (flat_map named_by b.code) ≡ true
  pub code_wide : list_all instr_is_wide b.code ≡ true
  pub row_count : is_count b.rows ≡ true
  pub row_names : list_all (is_name n) (flat_map named_by_row b.rows) ≡ true
  pub row_wide : list_all row_is_wide b.rows ≡ true
  pub line_count : is_count b.lines ≡ true
  pub line_from : list_all (is_line (length b.code)) b.lines ≡ true
  pub line_order : ascends line_after b.lines ≡ true
  pub line_version : (nat_eq version 2 || nat_eq (length b.lines) 0) ≡ true
  pub line_wide : list_all line_is_wide b.lines ≡ true

pub body_fits_by : (version n : ℕ) (b : BodyView) → BodyParts version n b → body_fits version n b ≡ true
body_fits_by version n b p =
    and_from _ _ (and_from _ _ (and_from _ _ p.code_count p.row_count)
    (list_all-append (is_name n) (flat_map named_by b.code) (flat_map named_by_row b.rows) ∙ and_from _ _ p.code_names p.row_names))
    (and_from _ _ (and_from _ _ (and_from _ _ p.line_count p.line_from) p.line_order) p.line_version)

pub body_wide_by : (version n : ℕ) (b : BodyView) → BodyParts version n b → body_is_wide b ≡ true
body_wide_by version n b p = and_from _ _ (and_from _ _ p.code_wide p.row_wide) p.line_wide

or_right : (a b : Bool) → b ≡ true → (a || b) ≡ true
or_right true b h = refl
or_right false b h = h

pub or_left : (a b : Bool) → a ≡ true → (a || b) ≡ true
or_left true b h = refl
or_left false b h = absurd (false≢true h)

pub no_body_parts : (version n : ℕ) → BodyParts version n no_body
no_body_parts version n = record {
  code_count = refl;
  code_names = refl;
  code_wide = refl;
  row_count = refl;
  row_names = refl;
  row_wide = refl;
  line_count = refl;
  line_from = refl;
  line_order = refl;
  line_version = or_right (nat_eq version 2) true refl;
  line_wide = refl;
}

-- ---- the text

code_more : (code : List Instr) (rows : List Row) (lines : List LineRow) (i : Instr) → rows ≡ [] → lines ≡ []
    → body_lines (record { code = code ++ i ∷ []; rows = rows; lines = lines }) ≡ body_lines (record { code = code; rows = rows; lines = lines }) ++ code_line i
    ∷ []
code_more code rows lines i e h =
    rw (e, h) (append-nil (map code_line (code ++ i ∷ [])) ∙ map_more code_line code i ∙ ap (λ z. z ++ code_line i ∷ [])
    (sym (append-nil (map code_line code))))

row_more : (code : List Instr) (rows : List Row) (lines : List LineRow) (r : Row) → lines ≡ []
    → body_lines (record { code = code; rows = rows ++ r ∷ []; lines = lines }) ≡ body_lines (record { code = code; rows = rows; lines = lines }) ++ row_line r
    ∷ []
row_more code rows lines r h =
    rw h (ap (λ z. map code_line code ++ z) (append-nil (map row_line (rows ++ r ∷ [])) ∙ map_more row_line rows r)
    ∙ sym (append_assoc (map code_line code) (map row_line rows) (row_line r ∷ []))
    ∙ ap (λ z. (map code_line code ++ z) ++ row_line r ∷ []) (sym (append-nil (map row_line rows))))

line_more : (code : List Instr) (rows : List Row) (lines : List LineRow) (l : LineRow)
    → body_lines (record { code = code; rows = rows; lines = lines ++ l ∷ [] }) ≡ body_lines (record { code = code; rows = rows; lines = lines })
    ++ number_line l ∷ []
line_more code rows lines l =
    ap (λ z. map code_line code ++ (map row_line rows ++ z)) (map_more number_line lines l)
    ∙ ap (λ z. map code_line code ++ z) (sym (append_assoc (map row_line rows) (map number_line lines) (number_line l ∷ [])))
    ∙ sym (append_assoc (map code_line code) (map row_line rows ++ map number_line lines) (number_line l ∷ []))

-- ---- steps

pub record BodyMore (version n : ℕ) (b c : BodyView) (r : Record) : Type 0 where
  pub parts : BodyParts version n c
  pub lines : body_lines c ≡ body_lines b ++ line_of r ∷ []

body_code : (version n : ℕ) (b : BodyView) (i : Instr) → BodyParts version n b → instr_is_wide i ≡ true
    → (is_nil b.rows && is_nil b.lines && has_room b.code && list_all (is_name n) (named_by i)) ≡ true
    → BodyMore version n b (record { code = b.code ++ i ∷ []; rows = b.rows; lines = b.lines }) (kind.Code i)
body_code version n b i p wide test =
    let t = parts4 (is_nil b.rows) (is_nil b.lines) (has_room b.code) (list_all (is_name n) (named_by i)) test in
    let none = nil_is b.lines t.1 in
    record {
      parts = record {
        code_count = count_more b.code i t.2;
        code_names = all_flat_more (is_name n) named_by b.code i p.code_names t.3;
        code_wide = all_more instr_is_wide b.code i p.code_wide wide;
        row_count = p.row_count;
        row_names = p.row_names;
        row_wide = p.row_wide;
        line_count = p.line_count;
        line_from = subst (λ (ls : List LineRow). list_all (is_line (length (b.code ++ i ∷ []))) ls ≡ true) (sym none) refl;
        line_order = p.line_order;
        line_version = p.line_version;
        line_wide = p.line_wide;
      };
      lines = code_more b.code b.rows b.lines i (nil_is b.rows t.0) none;
    }

body_row : (version n : ℕ) (b : BodyView) (r : Row) → BodyParts version n b → row_is_wide r ≡ true
    → (is_nil b.lines && has_room b.rows && list_all (is_name n) (named_by_row r)) ≡ true
    → BodyMore version n b (record { code = b.code; rows = b.rows ++ r ∷ []; lines = b.lines }) (kind.Row r)
body_row version n b r p wide test =
    let t = parts3 (is_nil b.lines) (has_room b.rows) (list_all (is_name n) (named_by_row r)) test in
    record {
      parts = record {
        code_count = p.code_count;
        code_names = p.code_names;
        code_wide = p.code_wide;
        row_count = count_more b.rows r t.1;
        row_names = all_flat_more (is_name n) named_by_row b.rows r p.row_names t.2;
        row_wide = all_more row_is_wide b.rows r p.row_wide wide;
        line_count = p.line_count;
        line_from = p.line_from;
        line_order = p.line_order;
        line_version = p.line_version;
        line_wide = p.line_wide;
      };
      lines = row_more b.code b.rows b.lines r (nil_is b.lines t.0);
    }

body_line : (version n : ℕ) (b : BodyView) (l : LineRow) → BodyParts version n b → line_is_wide l ≡ true
    → (nat_eq version 2 && has_room b.lines && nat_lt l.from (length b.code) && above line_after (last_of b.lines) l) ≡ true
    → BodyMore version n b (record { code = b.code; rows = b.rows; lines = b.lines ++ l ∷ [] }) (kind.Line l)
body_line version n b l p wide test =
    let t = parts4 (nat_eq version 2) (has_room b.lines) (nat_lt l.from (length b.code)) (above line_after (last_of b.lines) l) test in
    record {
      parts = record {
        code_count = p.code_count;
        code_names = p.code_names;
        code_wide = p.code_wide;
        row_count = p.row_count;
        row_names = p.row_names;
        row_wide = p.row_wide;
        line_count = count_more b.lines l t.1;
        line_from = all_more (is_line (length b.code)) b.lines l p.line_from t.2;
        line_order = ascends_more line_after b.lines l p.line_order t.3;
        line_version = or_left (nat_eq version 2) _ t.0;
        line_wide = all_more line_is_wide b.lines l p.line_wide wide;
      };
      lines = line_more b.code b.rows b.lines l;
    }

more_is : (version n : ℕ) (b x c : BodyView) (r : Record) (t : Bool) → given t x ≡ Some c → (t ≡ true → BodyMore version n b x r) → BodyMore version n b c r
more_is version n b x c r t e f = let g = was_given t x c e in subst (λ (z : BodyView). BodyMore version n b z r) g.1 (f g.0)

pub body_steps : (version n : ℕ) (b c : BodyView) (r : Record) → BodyParts version n b → has_width r ≡ true → body_step version n b r ≡ Some c
    → BodyMore version n b c r
body_steps version n b c (kind.Code i) p wide e = more_is version n b _ c (kind.Code i) _ e (body_code version n b i p wide)
body_steps version n b c (kind.Row r) p wide e = more_is version n b _ c (kind.Row r) _ e (body_row version n b r p wide)
body_steps version n b c (kind.Line l) p wide e = more_is version n b _ c (kind.Line l) _ e (body_line version n b l p wide)
body_steps version n b c (kind.Txob x) p wide e = absurd cc
body_steps version n b c (kind.Source x) p wide e = absurd cc
body_steps version n b c (kind.Class x) p wide e = absurd cc
body_steps version n b c (kind.Member x) p wide e = absurd cc
body_steps version n b c (kind.Slot x) p wide e = absurd cc
body_steps version n b c (kind.Global x) p wide e = absurd cc
body_steps version n b c (kind.Cell x) p wide e = absurd cc
body_steps version n b c (kind.Func x) p wide e = absurd cc
body_steps version n b c kind.Plain p wide e = absurd cc
body_steps version n b c kind.Safe p wide e = absurd cc
body_steps version n b c kind.End p wide e = absurd cc
