-- What a compiled body and its notes show.
use Rattle.std.specs.Prelude.{ℕ, Bool, ◌≡◌, List, Option, map}
use Rattle.tx_code.specs.declared.body.Row.{Row}
use Rattle.tx_code.specs.Objects.{body_view}
use Rattle.tx_code.specs.Images.{ImageView}
use Rattle.tx_code.specs.Views.{image_view}
use Rattle.cpp_tree.specs.cpp_types.Typ.{Typ, typ_of}
use Rattle.src_mean.specs.Linked.{Func, Program}
use Rattle.src_bind.specs.Tables.{Given, typed}
use Rattle.src_bind.specs.Bounds.{given}
use Rattle.symbolic_source.specs.Outcomes as outcomes
use Rattle.symbolic_source.specs.Steps.{Answers}
use Rattle.symbolic_source.specs.Terms as words
use Rattle.symbolic_code.specs.Facts as facts
use Rattle.symbolic_code.specs.Places as places
use Rattle.symbolic_code.specs.Following.{Table}
use Rattle.symbolic_terms.specs.declared.terms.Exception.{Exception}
use Rattle.symbolic_terms.specs.declared.outcomes.Outcome.{Outcome}
use Rattle.symbolic_terms.specs.declared.places.Place.{Place}
use Rattle.symbolic_terms.specs.declared.places.Facts.{Facts}
use Rattle.symbolic_terms.specs.Words.{exception_of}
use Rattle.symbolic_terms.specs.Meanings.{Meaning}
use Rattle.symbolic_terms.specs.Shown.{place_of, facts_of}
use Rattle.symbolic_leaving.specs.declared.source.Source.{Source}
use Rattle.symbolic_leaving.specs.Source.{types_at, linked_to, func_of}
use Rattle.symbolic_leaving.specs.Shown.{outcome_at}
use Rattle.body_check.specs.Notes as checked
use Rattle.body_check.specs.Notes.{Lands, LandsOn, Reaches, Edges, Outward, RowFits, FoundFits}
use Rattle.body_check.specs.Linked.{Held}
use Rattle.body_check.specs.Calls.{Book}
use Rattle.image_links.specs.Books.{type_number, thrown_types, table_of, book_of}
use Rattle.note_landing.specs.declared.notes.Note.{Note}
use Rattle.note_landing.specs.declared.notes.Notes.{Notes}
use Rattle.note_landing.specs.declared.compiled.Compiled.{Compiled}
use Rattle.note_landing.specs.Books.{bounds}
use Rattle.note_landing.specs.Landings.{Found, Agrees, LandsIn, FliesBelow}

-- at what numbers of words and of exceptions mean
abbrev pub note_at : Source → Meaning → Note → checked.Note
note_at s m n = record { index = n.index; place = place_of (types_at s) m n.place; facts = facts_of (types_at s) m n.facts; outcome = outcome_at s m n.outcome; lead = n.lead; rank = n.rank }

-- ---- the parts of a compiled body

abbrev pub linked_by : Compiled → Program
linked_by b = linked_to b.source

abbrev pub func_by : Compiled → Func
func_by b = func_of b.source

abbrev pub given_by : Compiled → Given
given_by b = given b.source.bound.now

abbrev pub image_by : Compiled → ImageView
image_by b = image_view b.image.now

abbrev pub rows_by : Compiled → List Row
rows_by b = b.body.now.rows.items

-- what numbers of types of exceptions mean
abbrev pub types_by : Compiled → ℕ → Typ
types_by b = types_at b.source

-- what the names of exceptions' types stand for
abbrev pub typs_by : Compiled → List Typ
typs_by b = map typ_of b.source.types.now

abbrev pub table_by : Compiled → Table
table_by b = table_of (image_by b) (linked_by b) (typed (given_by b)) (func_by b).unit (typs_by b)

abbrev pub thrown_by : Compiled → Typ → Bool
thrown_by b = thrown_types (image_by b) (linked_by b) (typed (given_by b))

abbrev pub numbers_by : Compiled → Typ → ℕ
numbers_by b = type_number (image_by b) (linked_by b) (typed (given_by b))

abbrev pub outcome_by : Compiled → Meaning → Outcome → outcomes.Outcome
outcome_by b m o = outcome_at b.source m o

abbrev pub place_by : Compiled → Meaning → Place → places.Place
place_by b m q = place_of (types_by b) m q

abbrev pub facts_by : Compiled → Meaning → Facts → List facts.Fact
facts_by b m ks = facts_of (types_by b) m ks

abbrev pub exception_by : Compiled → Exception → words.Exception
exception_by b e = exception_of (types_by b) e

-- ---- with its notes

abbrev pub notes_by : Compiled → Meaning → Notes → List checked.Note
notes_by b m ns = map (note_at b.source m) ns.list.items

abbrev pub held_by : Compiled → Meaning → Notes → Held
held_by b m ns = record { number = b.number; safe = b.safe; func = func_by b; body = body_view b.body.now; rows = rows_by b; notes = notes_by b m ns; table = table_by b }

-- the book, whoever holds the other bodies
abbrev pub book_by : Compiled → (all : ℕ → Bool → List checked.Note) → (types : ℕ → Bool → List Typ) → Book
book_by b all types = book_of (image_by b) (linked_by b) (typed (given_by b)) all types

module _ (b : Compiled) (m : Meaning) (ns : Notes) where
  abbrev pub FoundBy : List facts.Fact → (index : ℕ) → places.Place → outcomes.Outcome → (rank : ℕ) → Type 0
  FoundBy known index q o rank = Found (linked_by b) (func_by b) (notes_by b m ns) (thrown_by b) known index q o rank

  abbrev pub AgreesBy : List facts.Fact → (index : ℕ) → places.Place → outcomes.Outcome → (rank : ℕ) → Type 0
  AgreesBy known index q o rank = Agrees (linked_by b) (func_by b) (notes_by b m ns) (thrown_by b) known index q o rank

  abbrev pub LandsBy : List facts.Fact → Answers → (index : ℕ) → places.Place → outcomes.Outcome → (lag rank : ℕ) → Type 0
  LandsBy known answers index q o lag rank = LandsIn (linked_by b) (func_by b) (notes_by b m ns) (thrown_by b) known answers index q o lag rank

  abbrev pub LandsOnBy : List facts.Fact → (lead rank : ℕ) → (index : ℕ) → places.Place → outcomes.Outcome → Type 0
  LandsOnBy known lead rank index q o = LandsOn (linked_by b) (func_by b) bounds (notes_by b m ns) (thrown_by b) known lead rank index q o

  -- the source lands at once
  abbrev pub LandsAtOnce : List facts.Fact → (index : ℕ) → places.Place → outcomes.Outcome → Type 0
  LandsAtOnce known index q o = (l : Lands (linked_by b) (func_by b) bounds (notes_by b m ns) (thrown_by b) known checked.no_answers index q o) × (l.lag ≡ 0)

  -- ---- exceptions in flight

  abbrev pub ReachesBy : List facts.Fact → Answers → (rank : ℕ) → (index : ℕ) → places.Place → outcomes.Outcome → Type 0
  ReachesBy known answers rank index q o = Reaches (linked_by b) (func_by b) bounds (notes_by b m ns) (thrown_by b) known answers rank index q o

  abbrev pub RowFitsBy : List facts.Fact → Answers → (rank : ℕ) → (what target : ℕ) → places.Place → words.Exception → outcomes.Outcome → Type 0
  RowFitsBy known answers rank what target q e o = RowFits (linked_by b) (func_by b) bounds (notes_by b m ns) (thrown_by b) known answers rank what target q e o

  abbrev pub FoundFitsBy : List facts.Fact → Answers → (rank : ℕ) → Option Row → places.Place → words.Exception → outcomes.Outcome → Type 0
  FoundFitsBy known answers rank row q e o = FoundFits (linked_by b) (func_by b) bounds (notes_by b m ns) (thrown_by b) known answers rank row q e o

  abbrev pub FliesBy : List facts.Fact → (index : ℕ) → places.Place → words.Exception → outcomes.Outcome → (rank : ℕ) → Type 0
  FliesBy known index q e o rank = FliesBelow (linked_by b) (func_by b) (notes_by b m ns) (thrown_by b) (numbers_by b) (rows_by b) known index q e o rank
