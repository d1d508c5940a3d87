-- The word on top comes below two others: the three are put into an exception that is thrown and caught at once, and taken from it.
use Rattle.std.proofs.Common.{ℕ, ◌≡◌, ◌+◌, ◌-◌, ◌≤◌, ◌⊎◌, inl, inr, refl, ap, sym, ◌∙◌, subst, Bool, true, List, ◌∷◌, Option, Some, None, arith, length, drop}
use Rattle.tx_ints.specs.declared.kinds.IntKind.TheVariants.{ULong}
use Rattle.cpp_tree.specs.cpp_types.Typ.{Typ}
use Rattle.tx_code.specs.declared.instr.Instr.TheVariants.{NewException, PutException, Throw, GetException, EndHandler}
use Rattle.tx_code.specs.declared.body.Row.{Row}
use Rattle.tx_code.specs.Meaning.{find}
use Rattle.low_code.specs.declared.numbers.TheConstants.{ADDRESS}
use Rattle.src_mean.specs.Linked.{Program}
use Rattle.symbolic_source.specs.Terms.{Term, Exception, made, Puts, untouched, put}
use Rattle.symbolic_source.specs.Outcomes.{Outcome}
use Rattle.symbolic_code.specs.Facts.{Fact}
use Rattle.symbolic_code.specs.Places.{Place, nothing, making, with_operands, holding}
use Rattle.symbolic_code.specs.Following.{Next, quietly, if_found, taken_word, put_in}
use Rattle.body_check.specs.Notes.{Bounds, LandsOn, Fits, Reaches, RowFits, FoundFits, TypeFits, catching, cut_to, no_answers}
use Rattle.body_check.specs.Calls.{Book, StepFits}
use Rattle.body_check.specs.Linked.{Held}

no_answer : {A : Type 0} (answer : Bool) → None ≡ Some answer → A
no_answer answer e = absurd cc

all_kept : (n : ℕ) → n - n ≡ 0
all_kept n = omega arith

one_lags : (lag : ℕ) (A : Type 0) → (1 ≤ 0 + lag) ⊎ A → (1 ≤ lag) ⊎ A
one_lags lag A (inl l) = inl (omega (arith, l))
one_lags lag A (inr a) = inr a

all_short : (lag n : ℕ) → 0 + lag ≤ n → lag ≤ n
all_short lag n l = omega (arith, l)

module _ (p : Program) (b : Bounds) (book : Book) (h : Held) (known : List Fact) (o : Outcome) where
  abbrev ComesTo : (lead rank index : ℕ) → Place → Type 0
  ComesTo lead rank index q = LandsOn p h.func b h.notes book.thrown known lead rank index q o

  abbrev NextFits : (lead rank : ℕ) → Next → Type 0
  NextFits lead rank next = Fits p h.func b h.notes book.thrown book.numbers h.rows known lead rank next

  module _ (q : Place) (lead rank index : ℕ) where
    -- the exception is begun
    pub begun_fits : (ty : ℕ) (t : Typ) → h.table.type_of ty ≡ Some t → ComesTo lead rank (index + 1) (holding q (making t untouched))
        → StepFits p b book h known lead rank index (NewException ty) q o
    begun_fits ty t named l = subst (λ (z : Option Typ). NextFits lead rank (if_found z (λ u. quietly (index + 1) (holding q (making u untouched)) o)))
        (sym named) l

    -- a word is put into it
    pub kept_fits : (n : ℕ) (t : Typ) (puts : Puts) (w : Term) (ws : List Term)
        → ComesTo lead rank (index + 1) (holding (with_operands q ws) (making t (put n 8 w puts)))
        → StepFits p b book h known lead rank index (PutException n ADDRESS) (holding (with_operands q (w ∷ ws)) (making t puts)) o
    kept_fits n t puts w ws l = l

    -- it is thrown, and taken at the next index, with what lay below
    pub caught_fits : (t : Typ) (puts : Puts) (row : Row) (after : ℕ) → after ≤ b.most → book.thrown t ≡ true → find h.rows index (book.numbers t) ≡ Some row
        → row.what ≡ 2 → row.target ≡ index + 1 → row.depth ≡ length q.operands → (1 ≤ lead) ⊎ (after + 1 ≤ rank)
        → ComesTo 0 after (index + 1) (catching q (made t puts))
        → StepFits p b book h known lead rank index Throw (holding q (making t puts)) o
    caught_fits t puts row after low thrown found what target depth on l = (record { rank = after; low = low; fits = λ u is thrown_too. fits u is }, thrown, on)
      where
        e : Exception
        e = made t puts

        cut_is : (d : ℕ) → d ≡ length q.operands → cut_to d (holding q nothing) ≡ holding q nothing
        cut_is d is = ap (λ (n : ℕ). with_operands (holding q nothing) (drop (length q.operands - n) q.operands)) is
            ∙ ap (λ (n : ℕ). with_operands (holding q nothing) (drop n q.operands)) (all_kept (length q.operands))

        comes : Reaches p h.func b h.notes book.thrown known no_answers after (index + 1) (catching (holding q nothing) e) o
        comes = record { lands = l.lands; some = one_lags l.lands.lag _ l.goes_on; short = all_short l.lands.lag b.longest l.short }

        row_fits : FoundFits p h.func b h.notes book.thrown known no_answers after (Some row) (holding q nothing) e o
        row_fits = subst (λ (n : ℕ). RowFits p h.func b h.notes book.thrown known no_answers after n row.target (cut_to row.depth (holding q nothing)) e o)
            (sym what)
            (subst (λ (n : ℕ). Reaches p h.func b h.notes book.thrown known no_answers after n (catching (cut_to row.depth (holding q nothing)) e) o)
            (sym target)
            (subst (λ (z : Place). Reaches p h.func b h.notes book.thrown known no_answers after (index + 1) (catching z e) o) (sym (cut_is row.depth depth))
            comes))

        fits : (u : Typ) → t ≡ u → TypeFits p h.func b h.notes book.thrown book.numbers h.rows known after index (holding q nothing) e o u
        fits u is = record {
          answers = no_answers;
          right = λ n handler answer given. no_answer answer given;
          found = subst (λ (z : Option Row). FoundFits p h.func b h.notes book.thrown known no_answers after z (holding q nothing) e o)
              (sym (ap (λ (z : Typ). find h.rows index (book.numbers z)) (sym is) ∙ found)) row_fits;
        }

    -- a word is taken from it
    pub taken_fits : (n : ℕ) (e : Exception) (w : Term) → put_in n 8 e ≡ Some w → ComesTo lead rank (index + 1) (with_operands (catching q e) (w ∷ q.operands))
        → StepFits p b book h known lead rank index (GetException n ADDRESS) (catching q e) o
    taken_fits n e w is l = subst (λ (z : Option Term). ComesTo lead rank (index + 1) (with_operands (catching q e) (taken_word ULong n e z ∷ q.operands)))
        (sym is) l

    -- the handler ends
    pub ended_fits : (e : Exception) → ComesTo lead rank (index + 1) (holding q nothing) → StepFits p b book h known lead rank index EndHandler (catching q e) o
    ended_fits e l = l

-- what is taken are the words that were put
module _ (t : Typ) (top middle low : Term) where
  abbrev pub three : Exception
  three = made t (put 0 8 low (put 8 8 middle (put 16 8 top untouched)))

  pub top_taken : put_in 16 8 three ≡ Some top
  top_taken = refl

  pub middle_taken : put_in 8 8 three ≡ Some middle
  middle_taken = refl

  pub low_taken : put_in 0 8 three ≡ Some low
  low_taken = refl
