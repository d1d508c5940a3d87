-- The cases of an exception's type.
use Rattle.std.specs.Prelude.{ℕ, ◌≡◌, ◌<◌, ◌||◌, ◌&&◌, not, nat_eq, Bool, true, false, List, [], ◌∷◌, length, Option, Some, None, slice_get, unwrap_or, if◌then◌else◌}
use Rattle.std.specs.Global.{Vec}
use Rattle.tx_code.specs.declared.body.Row.{Row}
use Rattle.tx_code.specs.Images.{ImageView}
use Rattle.tx_code.specs.Meaning.{covers}
use Rattle.cpp_tree.specs.cpp_types.Typ.{class}
use Rattle.cpp_tree.specs.cpp_types.Class.{Class}
use Rattle.cpp_tree.specs.cpp_types.Equal.{name_eq}
use Rattle.symbolic_source.specs.Terms.{unknown}
use Rattle.symbolic_source.specs.Outcomes.{Outcome}
use Rattle.symbolic_code.specs.Places.{Place}
use Rattle.symbolic_terms.specs.Meanings.{Meaning}
use Rattle.symbolic_leaving.specs.Answers.{texts_of}
use Rattle.body_check.specs.Cases.{Case, of_class, of_spelling, of_others, spelled, is_known, answers_in, find_in, class_cases, Each}
use Rattle.image_links.specs.Books.{spelling_place, names_class}
use Rattle.note_landing.specs.declared.cases.Unknown.{Unknown}
use Rattle.note_landing.specs.declared.notes.Notes.{Notes}
use Rattle.note_landing.specs.declared.compiled.Compiled.{Compiled}
use Rattle.note_landing.specs.Shown.{linked_by, image_by, rows_by, facts_by, FoundFitsBy}

-- the spelling of the type with this number
abbrev pub text_at : ImageView → ℕ → List ℕ
text_at i n = unwrap_or (slice_get i.types n) []

-- the number is that of its spelling, which is known
pub record IsSpelledBy (i : ImageView) (known : List (List ℕ)) (n : ℕ) : Type 0 where
  pub known_so : is_known known (text_at i n) ≡ true
  pub place : spelling_place (text_at i n) i.types ≡ n
  pub there : n < length i.types

abbrev pub SpelledBy : ImageView → (known : List (List ℕ)) → List Row → Type 0
SpelledBy i known [] = Unit {0}
SpelledBy i known (r ∷ rs) = (nat_eq r.what 1 ≡ true → IsSpelledBy i known r.ty) × SpelledBy i known rs

-- the spelling of the type of a case, where it has one
abbrev pub IsTextOf : List Class → Case → Option (Vec ℕ) → Type 0
IsTextOf classes (of_class n) None = ⊥
IsTextOf classes (of_class n) (Some t) = t.items ≡ spelled classes (class n)
IsTextOf classes (of_spelling s) None = ⊥
IsTextOf classes (of_spelling s) (Some t) = t.items ≡ s
IsTextOf classes of_others None = Unit {0}
IsTextOf classes of_others (Some t) = ⊥

abbrev pub is_that_text : Option (Vec ℕ) → List ℕ → Bool
is_that_text None s = false
is_that_text (Some t) s = name_eq s t.items

-- the first row that covers the index and takes the types with this spelling
abbrev pub row_in : ImageView → Option (Vec ℕ) → List Row → ℕ → Option Row
row_in image text [] i = None
row_in image text (r ∷ rs) i = if covers r i && (not (nat_eq r.what 1) || is_that_text text (text_at image r.ty)) then Some r else row_in image text rs i

-- the spellings that its cases tell apart
abbrev pub spellings_by : Compiled → List (List ℕ)
spellings_by b = texts_of b.spellings.now

-- the cases of the first spellings, so many
abbrev pub EachFirst : (count : ℕ) → (Case → Type 0) → List (List ℕ) → Type 0
EachFirst count P ss = (n : ℕ) (s : List ℕ) → n < count → slice_get ss n ≡ Some s → P (of_spelling s)

-- What is asked for of a case: nothing of the spelling of a class, since a type that is thrown is a class where it is spelled as one.
abbrev pub Needed : List Class → (Case → Type 0) → Case → Type 0
Needed classes P (of_class n) = P (of_class n)
Needed classes P (of_spelling s) = names_class classes s ≡ false → P (of_spelling s)
Needed classes P of_others = P of_others

-- each case of a spelling
abbrev pub EachSpelling : (Case → Type 0) → List (List ℕ) → Type 0
EachSpelling P ss = (n : ℕ) (s : List ℕ) → slice_get ss n ≡ Some s → P (of_spelling s)

module _ (b : Compiled) (m : Meaning) (ns : Notes) (u : Unknown) (q : Place) (o : Outcome) where
  abbrev pub CaseBy : Case → Type 0
  CaseBy c = FoundFitsBy b m ns (facts_by b m u.known) (answers_in (linked_by b).classes (spellings_by b) u.number c) u.rank
      (find_in (linked_by b).classes (spellings_by b) (text_at (image_by b)) c (rows_by b) u.index) q (unknown u.number) o

  abbrev pub NeededBy : Case → Type 0
  NeededBy c = Needed (linked_by b).classes CaseBy c

  pub record CasesBy : Type 0 where
    pub spelled_rows : SpelledBy (image_by b) (spellings_by b) (rows_by b)
    pub classes : Each CaseBy (class_cases (linked_by b).classes (spellings_by b) (length (linked_by b).classes))
    pub spellings : EachSpelling NeededBy (spellings_by b)
    pub others : CaseBy of_others
