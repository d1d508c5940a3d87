-- The note that stands where this is left to write: each word is a variable, the value first, and each exception an unknown one.
use Rattle.std.specs.Prelude.{ℕ, zero, suc, ◌≡◌, ◌≤◌, Bool, false, List, [], ◌∷◌, ◌++◌, Some, slice_get}
use Rattle.cpp_tree.specs.cpp_types.Typ.{Typ}
use Rattle.low_code.specs.declared.scopes.ScopeKind.{ScopeKind}
use Rattle.src_mean.specs.Linked.{Func, Program}
use Rattle.symbolic_source.specs.Terms.{Term, number, variable, Exception, unknown, untouched, Values}
use Rattle.symbolic_source.specs.Steps.{Answers, given, first_word}
use Rattle.symbolic_source.specs.Outcomes.{Outcome}
use Rattle.symbolic_source.specs.Small.{AreWords, is_stuck}
use Rattle.symbolic_source.specs.Replacing.{Replacing}
use Rattle.symbolic_code.specs.Facts.{Fact, has_function, AllHold}
use Rattle.symbolic_code.specs.Places.{Place, Hold, nothing, making, flying}
use Rattle.body_check.specs.Notes.{Note, Bounds, IsThrown, no_answers, variables}
use Rattle.unwind_lower.specs.declared.items.Item.{Item}
use Rattle.unwind_lower.specs.Settings.{Setting, node_in}
use Rattle.lowered_frames.specs.Lists.{others, behind, more_by, first_exception, exceptions_behind}
use Rattle.lowered_frames.specs.Modes.{Mode, top, doubled, tripled, second, gone, nought}
use Rattle.lowered_frames.specs.Calls.{Called, by_name, by_slot, by_pointer, built_in, Calling, words}
use Rattle.lowered_frames.specs.Statements.{exit_count}
use Rattle.lowered_frames.specs.Throws.{Throwing, thrown_in, put_as, puts_with, fills, filled, fills_scalar, scalar_filled, flies, flies_cleaning, flies_parts, flies_elements}
use Rattle.lowered_frames.specs.Left.{Head, calling, throwing, head_count, head_exceptions, head_scopes, scopes_out}
use Rattle.lowered_frames.specs.Left.{Left, body_ends, before, other_again, leave, frames, operands, temporaries, count, exception_count, caught, opened}

-- ---- the value

abbrev pub value_of : Mode → Term
value_of nought = number 0
value_of top = variable 0
value_of doubled = variable 0
value_of tripled = variable 0
value_of second = variable 0
value_of gone = variable 0

-- a value that can come
abbrev pub Comes : Mode → Term → Type 0
Comes nought v = v ≡ number 0
Comes m v = Unit {0}

-- ---- terms and exceptions in the place of a note's

-- the term with a place
abbrev pub term_at : List Term → ℕ → Term
term_at [] n = number 0
term_at (t ∷ ts) zero = t
term_at (t ∷ ts) (suc n) = term_at ts n

abbrev pub exception_at : List Exception → ℕ → Exception
exception_at [] n = unknown 0
exception_at (e ∷ es) zero = e
exception_at (e ∷ es) (suc n) = exception_at es n

-- the unknown exceptions from a number on, so many
abbrev pub unknowns : ℕ → ℕ → List Exception
unknowns n zero = []
unknowns n (suc m) = unknown n ∷ unknowns (suc n) m

abbrev pub placing : Term → List Exception → List Term → Replacing
placing v es ts = record { word = term_at (v ∷ ts); exception = exception_at es }

-- they are of types that are thrown
abbrev pub AreThrown : (Typ → Bool) → List Exception → Type 0
AreThrown thrown [] = Unit {0}
AreThrown thrown (e ∷ es) = IsThrown thrown e × AreThrown thrown es

-- ---- what is known, and the frame's exception

module _ (g : Setting) where
  abbrev pub found_by : Called → List Term → List Fact
  found_by (by_slot class slot) ts = has_function class slot (first_word ts) ∷ []
  found_by (by_name func) ts = []
  found_by (by_pointer sig) ts = []
  found_by (built_in which) ts = []

  abbrev pub call_facts : {m n : Mode} {from to : List Item} → Calling g m from n to → List Term → List Fact
  call_facts (words c n ids id way) ts = found_by c (behind n ts)
  call_facts h ts = []

  abbrev pub head_facts : {m n : Mode} {from to : List Item} → Head g m from n to → List Term → List Fact
  head_facts (calling h) ts = call_facts h ts
  head_facts h ts = []

  -- the slots of virtual calls whose words are being made have functions
  abbrev pub facts : {m : Mode} {items : List Item} → Left g m items → List ScopeKind → List Term → List Fact
  facts (body_ends at) chain ts = []
  facts (before h d) chain ts = head_facts h ts ++ facts d (head_scopes g h chain) (behind (head_count g h chain) ts)
  facts (other_again o a e d) chain ts = facts d chain ts
  facts (leave x cleans origin junk at d o) chain ts = facts o (scopes_out cleans chain) (behind (more_by (exit_count x) junk) ts)

  abbrev pub throwing_hold : {m n : Mode} {from to : List Item} → Throwing g m from n to → List Exception → List Term → Hold → Hold
  throwing_hold (fills id done ids o) es ts further = making (thrown_in g id) (puts_with g done (others ts))
  throwing_hold (filled id field done ids offset kind o is) es ts further = making (thrown_in g id) (puts_with g done (others ts))
  throwing_hold (fills_scalar id o) es ts further = making (thrown_in g id) untouched
  throwing_hold (scalar_filled id field ids o) es ts further = making (thrown_in g id) (put_as (node_in g field).kind (first_word ts) untouched)
  throwing_hold (flies at next) es ts further = flying (first_exception es)
  throwing_hold (flies_cleaning owner at next) es ts further = flying (first_exception es)
  throwing_hold (flies_parts at next) es ts further = flying (first_exception es)
  throwing_hold (flies_elements id stride built at next) es ts further = flying (first_exception es)
  throwing_hold h es ts further = further

  abbrev pub head_hold : {m n : Mode} {from to : List Item} → Head g m from n to → List Exception → List Term → Hold → Hold
  head_hold (throwing h) es ts further = throwing_hold h es ts further
  head_hold h es ts further = further

  -- an exception that is being made, or one on its way out
  abbrev pub hold : {m : Mode} {items : List Item} → Left g m items → List ScopeKind → List Exception → List Term → Hold
  hold (body_ends at) chain es ts = nothing
  hold (before h d) chain es ts =
      head_hold h es ts (hold d (head_scopes g h chain) (exceptions_behind (head_exceptions g h) es) (behind (head_count g h chain) ts))
  hold (other_again o a e d) chain es ts = hold d chain es ts
  hold (leave x cleans origin junk at d o) chain es ts = hold o (scopes_out cleans chain) es (behind (more_by (exit_count x) junk) ts)

-- ---- notes

-- the facts hold of these terms where it is known what is known
abbrev pub Known : (p : Program) (f : Func) (g : Setting) {m : Mode} {items : List Item} → Left g m items → List ScopeKind → List Term → List Fact → Type 0
Known p f g d chain ts known = (x : Values) → AreWords x → AllHold p f x known → AllHold p f x (facts g d chain ts)

module _ (p : Program) (f : Func) (g : Setting) where
  abbrev pub numbers_of : ℕ → ℕ
  numbers_of n = p.number f.unit n

  module _ {m : Mode} {items : List Item} (d : Left g m items) (chain : List ScopeKind) where
    -- where the code stands with these terms and exceptions
    abbrev pub place_with : Term → List Exception → List Term → Place
    place_with v es ts = record { operands = operands g d chain v ts; opens = opened g d; caught = caught g d es; hold = hold g d chain es ts }

    -- what comes of the source as the value is given
    abbrev pub coming : Answers → Term → List Exception → List Term → Outcome
    coming answers v es ts = given p f answers (temporaries g d chain ts) v (frames g numbers_of d chain es ts)

    abbrev pub words_of_note : List Term
    words_of_note = variables 1 (count g d chain)

    abbrev pub exceptions_of_note : List Exception
    exceptions_of_note = unknowns 0 (exception_count g d)

    abbrev pub canonical : (index lead rank : ℕ) → Note
    canonical index lead rank = record {
      index = index;
      place = place_with (variable 0) exceptions_of_note words_of_note;
      facts = facts g d chain words_of_note;
      outcome = coming no_answers (value_of m) exceptions_of_note words_of_note;
      lead = lead;
      rank = rank;
    }

    -- the source goes on, whatever the terms are
    abbrev pub IsForeseen : Type 0
    IsForeseen = (answers : Answers) (v : Term) (es : List Exception) (ts : List Term) → Comes m v → is_stuck (coming answers v es ts) ≡ false

    -- the note is one of these
    pub record There (b : Bounds) (notes : List Note) (index rank : ℕ) : Type 0 where
      pub at : ℕ
      pub lead : ℕ
      pub is : slice_get notes at ≡ Some (canonical index lead rank)
      pub low : rank ≤ b.most
