-- The terms that steps make, from those that can stand in the place of others.
use Rattle.std.proofs.Common.{ℕ, ◌≡◌, ◌-◌, ◌*◌, ◌%◌, ◌^◌, ◌==◌, Bool, true, false, cond, refl, ap, ap₂, sym, ◌∙◌, List, [], ◌∷◌, ◌++◌}
use Rattle.cpp_tree.specs.tx_ints.declared.kinds.IntKind.{IntKind}
use Rattle.cpp_tree.specs.tx_ints.declared.kinds.BinOp.{BinOp}
use Rattle.src_mean.specs.Exceptions.{bytes_of, with_bytes, read_bytes}
use Rattle.src_mean.specs.Exceptions as exceptions
use Rattle.src_mean.specs.Source.{plus, converted, applied}
use Rattle.symbolic_source.specs.Terms.{Term, number, local, sum, low_byte, converted_to}
use Rattle.symbolic_source.specs.Terms.{result, field, Exception, untouched, put, Puts, word_or_zero, plus_number, one_less}
use Rattle.symbolic_source.specs.Steps.{element_at}
use Rattle.symbolic_source.specs.Small.{AreWords}
use Rattle.symbolic_source.proofs.TermLemmas.{term_below, plus_number_is, one_less_is, element_is}
use Rattle.symbolic_instances.proofs.Forms.{Sides, seen, word, seen_word, InTerm, InPuts, InException, InTerms, exception_in, exception_same, terms_in}

-- What is a number

apart_low : (a t : Term) (n : ℕ) → low_byte a ≡ number n → t ≡ number n
apart_low a t n e = absurd cc

apart_converted : (kind : IntKind) (a t : Term) (n : ℕ) → converted_to kind a ≡ number n → t ≡ number n
apart_converted kind a t n e = absurd cc

apart_result : (op : BinOp) (kind : IntKind) (a b t : Term) (n : ℕ) → result op kind a b ≡ number n → t ≡ number n
apart_result op kind a b t n e = absurd cc

offset_fixed : (b : Bool) (t : Term) (n m : ℕ) → cond b t (sum t (number n)) ≡ number m → t ≡ number m
offset_fixed true t n m e = e
offset_fixed false t n m e = absurd cc

plus_fixed : (t u : Term) → ((n : ℕ) → t ≡ number n → u ≡ number n) → (n m : ℕ) → plus_number t n ≡ number m → plus_number u n ≡ number m
plus_fixed (number i) u h n m e = ap (λ w. plus_number w n) (h i refl) ∙ e
plus_fixed (local offset) u h n m e = absurd cc
plus_fixed (sum a (number i)) u h n m e = absurd cc
plus_fixed t u h n m e =
    let same : t ≡ number m = offset_fixed (n == 0) t n m e in
    absurd cc

less_fixed : (t u : Term) → ((n : ℕ) → t ≡ number n → u ≡ number n) → (m : ℕ) → one_less t ≡ number m → one_less u ≡ number m
less_fixed (number i) u h m e = ap one_less (h i refl) ∙ e
less_fixed t u h m e = absurd cc

module _ (z : Sides) where
  abbrev pub leaf : (t : Term) → word z t ≡ seen_word z t → InTerm z t
  leaf t e = record { term = t; same = e; fixed = λ n i. i }

  abbrev pub num : (n : ℕ) → InTerm z (number n)
  num n = leaf (number n) refl

  abbrev pub place : (offset : ℕ) → InTerm z (local offset)
  place offset = leaf (local offset) refl

  pub low_same : (a : Term) (d : InTerm z a) → word z (low_byte d.term) ≡ seen_word z (low_byte a)
  low_same a d = ap (λ (i : ℕ). i % 256) d.same

  pub low_fixed : (a : Term) (d : InTerm z a) (n : ℕ) → low_byte a ≡ number n → low_byte d.term ≡ number n
  low_fixed a d n e = apart_low a _ n e

  abbrev pub low_in : (a : Term) → InTerm z a → InTerm z (low_byte a)
  low_in a d = record { term = low_byte d.term; same = low_same a d; fixed = low_fixed a d }

  pub converted_same : (kind : IntKind) (a : Term) (d : InTerm z a) → word z (converted_to kind d.term) ≡ seen_word z (converted_to kind a)
  converted_same kind a d = ap (λ i. converted kind i) d.same

  pub converted_fixed : (kind : IntKind) (a : Term) (d : InTerm z a) (n : ℕ) → converted_to kind a ≡ number n → converted_to kind d.term ≡ number n
  converted_fixed kind a d n e = apart_converted kind a _ n e

  abbrev pub converted_in : (kind : IntKind) (a : Term) → InTerm z a → InTerm z (converted_to kind a)
  converted_in kind a d = record { term = converted_to kind d.term; same = converted_same kind a d; fixed = converted_fixed kind a d }

  pub result_same : (op : BinOp) (kind : IntKind) (a b : Term) (d : InTerm z a) (e : InTerm z b)
      → word z (result op kind d.term e.term) ≡ seen_word z (result op kind a b)
  result_same op kind a b d e = ap₂ (λ u v. word_or_zero (applied op kind u v)) d.same e.same

  pub result_fixed : (op : BinOp) (kind : IntKind) (a b : Term) (d : InTerm z a) (e : InTerm z b) (n : ℕ)
      → result op kind a b ≡ number n → result op kind d.term e.term ≡ number n
  result_fixed op kind a b d e n i = apart_result op kind a b _ n i

  abbrev pub result_in : (op : BinOp) (kind : IntKind) (a b : Term) → InTerm z a → InTerm z b → InTerm z (result op kind a b)
  result_in op kind a b d e = record { term = result op kind d.term e.term; same = result_same op kind a b d e; fixed = result_fixed op kind a b d e }

  seen_bounded : AreWords (seen z)
  seen_bounded n = term_below z.program z.func z.values z.bounded (z.replacing.word n)

  pub plus_same : (t : Term) (d : InTerm z t) (n : ℕ) → word z (plus_number d.term n) ≡ seen_word z (plus_number t n)
  plus_same t d n = plus_number_is z.program z.func z.values z.bounded d.term n
      ∙ (ap (λ i. plus i n) d.same ∙ sym (plus_number_is z.program z.func (seen z) seen_bounded t n))

  pub plus_kept : (t : Term) (d : InTerm z t) (n m : ℕ) → plus_number t n ≡ number m → plus_number d.term n ≡ number m
  plus_kept t d n m e = plus_fixed t d.term d.fixed n m e

  abbrev pub plus_in : (t : Term) → InTerm z t → (n : ℕ) → InTerm z (plus_number t n)
  plus_in t d n = record { term = plus_number d.term n; same = plus_same t d n; fixed = plus_kept t d n }

  pub less_same : (t : Term) (d : InTerm z t) → word z (one_less d.term) ≡ seen_word z (one_less t)
  less_same t d = one_less_is z.program z.func z.values d.term ∙ (ap (λ (i : ℕ). i - 1) d.same ∙ sym (one_less_is z.program z.func (seen z) t))

  pub less_kept : (t : Term) (d : InTerm z t) (m : ℕ) → one_less t ≡ number m → one_less d.term ≡ number m
  less_kept t d m e = less_fixed t d.term d.fixed m e

  abbrev pub less_in : (t : Term) → InTerm z t → InTerm z (one_less t)
  less_in t d = record { term = one_less d.term; same = less_same t d; fixed = less_kept t d }

  pub element_same : (address count : Term) (d : InTerm z address) (e : InTerm z count) (stride : ℕ)
      → word z (element_at d.term e.term stride) ≡ seen_word z (element_at address count stride)
  element_same address count d e stride = element_is z.program z.func z.values z.bounded d.term e.term stride
      ∙ (ap₂ (λ i j. plus i (j * stride)) d.same e.same ∙ sym (element_is z.program z.func (seen z) seen_bounded address count stride))

  -- Bytes of exceptions

  pub field_same : (e : Exception) (d : InException z e) (offset size : ℕ)
      → word z (field (exception_in z e d) offset size) ≡ seen_word z (field e offset size)
  field_same e d offset size = ap (λ (i : exceptions.Exception). read_bytes i.bytes offset size % 2 ^ 64) (exception_same z e d)

  abbrev pub untouched_in : InPuts z untouched
  untouched_in = record { bytes = untouched; same = refl }

  abbrev pub put_in : (offset size : ℕ) (w : Term) (puts : Puts) → InTerm z w → InPuts z puts → InPuts z (put offset size w puts)
  put_in offset size w puts d e = record {
    bytes = put offset size d.term e.bytes;
    same = ap₂ (λ u v. with_bytes offset (bytes_of size u) v) d.same e.same;
  }

  -- Lists of words

  abbrev pub terms_on : (ws : List Term) (v : Term) → InTerms z ws → InTerm z v → InTerms z (ws ++ v ∷ [])
  terms_on [] v d e = (e, tt)
  terms_on (w ∷ ws) v d e = (d.0, terms_on ws v d.1 e)

  pub terms_joined : (ws : List Term) (v : Term) (d : InTerms z ws) (e : InTerm z v)
      → terms_in z (ws ++ v ∷ []) (terms_on ws v d e) ≡ terms_in z ws d ++ e.term ∷ []
  terms_joined [] v d e = refl
  terms_joined (w ∷ ws) v d e = ap (λ (i : List Term). d.0.term ∷ i) (terms_joined ws v d.1 e)
