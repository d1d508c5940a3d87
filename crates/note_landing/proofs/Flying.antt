-- Exceptions in flight: of a known type, or of any.
use Rattle.std.proofs.Common.{ℕ, ◌≤◌, refl, subst, List}
use Rattle.tx_code.specs.declared.body.Row.{Row}
use Rattle.tx_code.specs.Meaning.{find}
use Rattle.cpp_tree.specs.cpp_types.Typ.{Typ}
use Rattle.std.specs.Prelude.{Bool}
use Rattle.src_mean.specs.Linked.{Func, Program}
use Rattle.symbolic_source.specs.Terms.{Exception, Puts, made}
use Rattle.symbolic_source.specs.Outcomes.{Outcome}
use Rattle.symbolic_code.specs.Facts.{Fact}
use Rattle.symbolic_code.specs.Places.{Place}
use Rattle.body_check.specs.Notes.{Note, no_answers, FoundFits}
use Rattle.note_landing.specs.Books.{bounds}
use Rattle.note_landing.specs.Landings.{FliesBelow}

module _ (p : Program) (f : Func) (notes : List Note) (thrown : Typ → Bool) (numbers : Typ → ℕ) (rows : List Row) (known : List Fact) (index : ℕ) (q : Place) (o : Outcome) (rank : ℕ) (low : rank ≤ 63) where
  pub known_flies : (u : Typ) (puts : Puts) → FoundFits p f bounds notes thrown known no_answers rank (find rows index (numbers u)) q (made u puts) o → FliesBelow p f notes thrown numbers rows known index q (made u puts) o rank
  known_flies u puts found = record {
    flies = record {
      rank = rank;
      low = low;
      fits = λ t is told. record {
        answers = no_answers;
        right = λ n handler answer e. absurd cc;
        found = subst (λ z. FoundFits p f bounds notes thrown known no_answers rank (find rows index (numbers z)) q (made u puts) o) is found;
      };
    };
    rank_is = refl;
  }

  pub any_flies : (e : Exception) → ((n : ℕ) → FoundFits p f bounds notes thrown known no_answers rank (find rows index n) q e o) → FliesBelow p f notes thrown numbers rows known index q e o rank
  any_flies e found = record {
    flies = record {
      rank = rank;
      low = low;
      fits = λ t is told. record {
        answers = no_answers;
        right = λ n handler answer i. absurd cc;
        found = found (numbers t);
      };
    };
    rank_is = refl;
  }
