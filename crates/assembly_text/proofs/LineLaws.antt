-- The line at the front of a text: there is one way to read it.
use Rattle.std.proofs.Common.{◌≡◌, ◌≢◌, ℕ, ◌<◌, true, List, [], ◌∷◌, ◌++◌, length, Some, refl, sym, ap, ◌∙◌, append_assoc, arith, length-append}
use Rattle.std.specs.Prelude.{codes}
use Rattle.std.specs.Char.{is_ascii_lowercase}
use Rattle.std.specs.List.{list_all, flat_map, prefix_len}
use Rattle.std.proofs.lemmas.List.{take-append-drop}
use Rattle.assembly_text.specs.declared.line.Record.{Record}
use Rattle.assembly_text.specs.Words.{number_text, numbers_text, keys, key_of}
use Rattle.assembly_text.specs.Lines.{Line, Name, Of, line_text, quoted_text, words_of}
use Rattle.assembly_text.specs.Front.{front_word, behind_word, RecordBehind, NoRecord, NameBehind, NoName}
use Rattle.assembly_text.specs.Reading.{record_by}
use Rattle.assembly_text.specs.Front.{LineHere, NoLineHere}
use Rattle.assembly_text.proofs.RecordsAgain.{spelled}
use Rattle.assembly_text.proofs.NameLaws.{same_names}
use Rattle.assembly_text.proofs.FieldLaws.{IsCut, is_cut, same_records}

abbrev pub name_word : List ℕ
name_word = codes "name"

split : (text : List ℕ) → text ≡ front_word text ++ behind_word text
split text = sym (take-append-drop (prefix_len is_ascii_lowercase text) text)

-- ---- a line that is there

pub name_line : (text word behind name rest : List ℕ) → word ≡ front_word text → behind ≡ behind_word text → word ≡ name_word → NameBehind behind name rest
    → LineHere text (Name name) rest
name_line text word behind name rest w b e n = record {
  wide = n.wide;
  written = split text ∙ ap (λ (z : List ℕ). z ++ behind_word text) (sym w ∙ e) ∙ ap (λ (z : List ℕ). name_word ++ z) (sym b ∙ n.written)
      ∙ sym (append_assoc name_word (quoted_text name) rest);
}

pub record_line : (text word behind : List ℕ) (r : Record) (rest : List ℕ) → word ≡ front_word text → behind ≡ behind_word text
    → RecordBehind word behind r rest → LineHere text (Of r) rest
record_line text word behind r rest w b n = record {
  wide = n.wide;
  written = split text ∙ ap (λ (z : List ℕ). z ++ behind_word text) (sym w ∙ sym n.word_is) ∙ ap (λ (z : List ℕ). (words_of r).word ++ z) (sym b ∙ n.written)
      ∙ sym (append_assoc (words_of r).word (numbers_text (words_of r).numbers) rest);
}

-- ---- no line

cut_name : (text name rest : List ℕ) → LineHere text (Name name) rest → IsCut text name_word (quoted_text name ++ rest)
cut_name text name rest l = is_cut text name_word 32 _ (l.written ∙ append_assoc name_word (quoted_text name) rest) refl refl

by_numbers : (text w ns rest : List ℕ) → text ≡ w ++ (numbers_text ns ++ rest) → list_all is_ascii_lowercase w ≡ true → IsCut text w (numbers_text ns ++ rest)
by_numbers text w [] rest e letters = is_cut text w 10 rest e letters refl
by_numbers text w (n ∷ ns) rest e letters = is_cut text w 32 _ e letters refl

cut_record : (text : List ℕ) (r : Record) (rest : List ℕ) → LineHere text (Of r) rest → IsCut text (words_of r).word (numbers_text (words_of r).numbers ++ rest)
cut_record text r rest l = by_numbers text (words_of r).word (words_of r).numbers rest
    (l.written ∙ append_assoc (words_of r).word (numbers_text (words_of r).numbers) rest) (spelled r l.wide).letters

not_name : (ns : List ℕ) (r : Record) → record_by name_word ns ≡ Some r → ⊥
unfolding record_by key_of keys
not_name ns r e = absurd cc

record_not_name : (r : Record) (rest text : List ℕ) → LineHere text (Of r) rest → (words_of r).word ≡ name_word → ⊥
record_not_name r rest text l e = not_name (words_of r).numbers r (ap (λ (z : List ℕ). record_by z (words_of r).numbers) (sym e) ∙ (spelled r l.wide).again)

pub no_name_line : (text word behind : List ℕ) → word ≡ front_word text → behind ≡ behind_word text → word ≡ name_word → NoName behind → NoLineHere text
no_name_line text word behind w b e none (Name name) rest l = none name rest (record { wide = l.wide; written = b ∙ (cut_name text name rest l).behind })
no_name_line text word behind w b e none (Of r) rest l = record_not_name r rest text l (sym (cut_record text r rest l).front ∙ sym w ∙ e)

pub no_record_line : (text word behind : List ℕ) → word ≡ front_word text → behind ≡ behind_word text → word ≢ name_word → NoRecord word behind
    → NoLineHere text
no_record_line text word behind w b e none (Name name) rest l = e (w ∙ (cut_name text name rest l).front)
no_record_line text word behind w b e none (Of r) rest l =
    none r rest (record { wide = l.wide; word_is = sym (cut_record text r rest l).front ∙ sym w; written = b ∙ (cut_record text r rest l).behind })

-- ---- one line

pub record SameLines (l m : Line) (rest tail : List ℕ) : Type 0 where
  pub same : l ≡ m
  pub rests : rest ≡ tail

name_behind : (text name rest : List ℕ) → LineHere text (Name name) rest → NameBehind (behind_word text) name rest
name_behind text name rest l = record { wide = l.wide; written = (cut_name text name rest l).behind }

record_behind : (text : List ℕ) (r : Record) (rest : List ℕ) → LineHere text (Of r) rest → RecordBehind (front_word text) (behind_word text) r rest
record_behind text r rest l = record { wide = l.wide; word_is = sym (cut_record text r rest l).front; written = (cut_record text r rest l).behind }

pub same_lines : (text : List ℕ) (l m : Line) (rest tail : List ℕ) → LineHere text l rest → LineHere text m tail → SameLines l m rest tail
same_lines text (Name n) (Name m) rest tail a b =
    let same = same_names (behind_word text) n m rest tail (name_behind text n rest a) (name_behind text m tail b) in
    record { same = ap Name same.same; rests = same.rests }
same_lines text (Of r) (Of s) rest tail a b =
    let same = same_records (front_word text) (behind_word text) r s rest tail (record_behind text r rest a) (record_behind text s tail b) in
    record { same = ap Of same.same; rests = same.rests }
same_lines text (Name n) (Of s) rest tail a b = absurd (record_not_name s tail text b (sym (cut_record text s tail b).front ∙ (cut_name text n rest a).front))
same_lines text (Of r) (Name m) rest tail a b = absurd (record_not_name r rest text a (sym (cut_record text r rest a).front ∙ (cut_name text m tail b).front))

some_bytes : (l : Line) → 0 < length (line_text l)
some_bytes (Name n) = omega (arith, length-append name_word (quoted_text n))
some_bytes (Of r) = omega (
  arith,
  length-append (words_of r).word (numbers_text (words_of r).numbers),
  length-append (flat_map number_text (words_of r).numbers)
      (10 ∷ []),
)

pub shorter : {text rest : List ℕ} {l : Line} → LineHere text l rest → length rest < length text
shorter {text = text} {rest = rest} {l = l} h = omega (arith, ap length h.written, length-append (line_text l) rest, some_bytes l)
