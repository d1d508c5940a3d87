-- Instructions on terms that the check tells from others, over plain variables.
use Rattle.std.proofs.Common.{ℕ, ◌≡◌, ◌+◌, refl, ap, ◌∙◌, Bool, true, cond, List, [], ◌∷◌, ◌==◌, ◌&&◌}
use Rattle.std.specs.Prelude.{slice_get}
use Rattle.tx_ints.specs.declared.kinds.IntKind.{IntKind}
use Rattle.tx_ints.specs.declared.kinds.IntKind.TheVariants.{Bool as BoolKind, Char, SChar, UChar, Short, UShort, Int, UInt, Long, ULong, LLong, ULLong}
use Rattle.tx_ints.specs.declared.kinds.BinOp.{BinOp}
use Rattle.tx_code.specs.Meaning.{kinds, operators, size_of}
use Rattle.cpp_tree.specs.cpp_layout.Layout.{kind_size}
use Rattle.symbolic_source.specs.Terms.{Term, number, variable, local, global, function, table, slot_function, sum, product, before, low_byte, converted_to, result, field}
use Rattle.symbolic_source.specs.Frames.{Frame, Waiting}
use Rattle.symbolic_source.specs.Outcomes.{Outcome, reads, writes, goes, results}
use Rattle.symbolic_source.specs.Steps.{first_word}
use Rattle.symbolic_source.specs.Replacing.{in_terms}
use Rattle.symbolic_code.specs.Facts.{Fact}
use Rattle.symbolic_code.specs.Same.{same_term, same_number, same_operator}
use Rattle.symbolic_code.specs.Places.{Place, later, place_later}
use Rattle.symbolic_code.specs.Following.{refused, loudly, unless_trap, if_found, loads, stores, operates, pushes, addresses, same_flag, stored_term, kept}
use Rattle.low_code.specs.Numbers.{kind_number, operator_number, bytes_kind}
use Rattle.lowered_frames.specs.Lists.{others}
use Rattle.lowered_notes.proofs.KindNumbers.{kind_found, operator_found, same_sizes, one_number, one_operator, one_flag, both, same_itself}
use Rattle.lowered_steps.specs.Ahead.{IsTold, AreTold}

-- ---- told terms

pub first_told : (ts : List Term) → AreTold ts → IsTold (first_word ts)
first_told [] are = refl
first_told (t ∷ ts) are = are.0

pub others_told : (ts : List Term) → AreTold ts → AreTold (others ts)
others_told [] are = tt
others_told (t ∷ ts) are = are.1

pub told_variable : (n : ℕ) → IsTold (variable n)
told_variable n = same_itself n

-- the check tells it
pub told_same : (t : Term) → IsTold t → same_term t t ≡ true
told_same (converted_to k w) told = absurd told
told_same (number m) told = told
told_same (variable m) told = told
told_same (local m) told = told
told_same (global m) told = told
told_same (function m) told = told
told_same (table m) told = told
told_same (slot_function c s a) told = told
told_same (sum a b) told = told
told_same (product a b) told = told
told_same (before a) told = told
told_same (low_byte a) told = told
told_same (result o j a b) told = told
told_same (field e m j) told = told

-- ---- reads and writes

pub loads_so : (i : ℕ) (q : Place) (kind : IntKind) (volatile : Bool) (v : Term) (under : List Term) (ws : List Waiting) (rest : List Frame) → IsTold v
    → if_found (slice_get kinds (kind_number kind)) (λ k. loads i q k volatile v under (goes (reads v (kind_size kind) volatile) ws rest))
    ≡ loudly (reads v (kind_size kind) volatile) ws rest (i + 1) (place_later q (converted_to kind (variable 0) ∷ in_terms later under))
loads_so i q kind volatile v under ws rest told =
    ap (λ z. if_found z (λ k. loads i q k volatile v under (goes (reads v (kind_size kind) volatile) ws rest))) (kind_found kind)
    ∙ ap (λ (z : Bool). cond z (loudly (reads v (kind_size kind) volatile) ws rest (i + 1) (place_later q (converted_to kind (variable 0) ∷ in_terms later under))) refused)
    (both (same_term v v && (kind_size kind == size_of kind)) (same_flag volatile volatile)
    (both (same_term v v) (kind_size kind == size_of kind) (told_same v told) (same_sizes kind)) (one_flag volatile))

-- a store as a kind whose bytes are those that the source writes
pub stores_so : (i : ℕ) (q : Place) (k j : IntKind) (volatile : Bool) (a w u : Term) (under : List Term) (ws : List Waiting) (rest : List Frame) → IsTold a
    → (kind_size k == kind_size j) ≡ true → same_term (kept (kind_size k) (stored_term k w)) (kept (kind_size k) u) ≡ true
    → if_found (slice_get kinds (kind_number k)) (λ z. stores i q z volatile a w under (goes (writes a j u volatile) ws rest))
    ≡ loudly (writes a j u volatile) ws rest (i + 1) (place_later q (in_terms later under))
stores_so i q k j volatile a w u under ws rest told sizes words =
    ap (λ z. if_found z (λ y. stores i q y volatile a w under (goes (writes a j u volatile) ws rest))) (kind_found k)
    ∙ ap (λ (z : Bool). cond z (loudly (writes a j u volatile) ws rest (i + 1) (place_later q (in_terms later under))) refused)
    (both (same_term a a && (kind_size k == kind_size j)) (same_term (kept (kind_size k) (stored_term k w)) (kept (kind_size k) u) && same_flag volatile volatile)
    (both (same_term a a) (kind_size k == kind_size j) (told_same a told) sizes)
    (both (same_term (kept (kind_size k) (stored_term k w)) (kept (kind_size k) u)) (same_flag volatile volatile) words (one_flag volatile)))

-- all is kept of a told term
kept_told : (n : ℕ) (w : Term) → IsTold w → kept n w ≡ w
kept_told n (converted_to k w) told = absurd told
kept_told n (number m) told = refl
kept_told n (variable m) told = refl
kept_told n (local m) told = refl
kept_told n (global m) told = refl
kept_told n (function m) told = refl
kept_told n (table m) told = refl
kept_told n (slot_function c s a) told = refl
kept_told n (sum a b) told = refl
kept_told n (product a b) told = refl
kept_told n (before a) told = refl
kept_told n (low_byte a) told = refl
kept_told n (result o j a b) told = refl
kept_told n (field e m j) told = refl

-- as bytes a word is stored as it is
bytes_as_they_are : (k : IntKind) (w : Term) → stored_term (bytes_kind k) w ≡ w
bytes_as_they_are BoolKind w = refl
bytes_as_they_are Char w = refl
bytes_as_they_are SChar w = refl
bytes_as_they_are UChar w = refl
bytes_as_they_are Short w = refl
bytes_as_they_are UShort w = refl
bytes_as_they_are Int w = refl
bytes_as_they_are UInt w = refl
bytes_as_they_are Long w = refl
bytes_as_they_are ULong w = refl
bytes_as_they_are LLong w = refl
bytes_as_they_are ULLong w = refl

pub bytes_same : (k : IntKind) (w : Term) → IsTold w
    → same_term (kept (kind_size (bytes_kind k)) (stored_term (bytes_kind k) w)) (kept (kind_size (bytes_kind k)) w) ≡ true
bytes_same k w told = ap (λ (z : Term). same_term (kept (kind_size (bytes_kind k)) z) (kept (kind_size (bytes_kind k)) w)) (bytes_as_they_are k w)
    ∙ ap (λ (z : Term). same_term z z) (kept_told (kind_size (bytes_kind k)) w told) ∙ told_same w told

kept_same : (n : ℕ) (w : Term) → IsTold w → same_term (kept n w) w ≡ true
kept_same n w told = ap (λ (z : Term). same_term z w) (kept_told n w told) ∙ told_same w told

-- a store that converts
pub converted_same : (k : IntKind) (w : Term) → IsTold w
    → same_term (kept (kind_size k) (stored_term k w)) (kept (kind_size k) (converted_to k w)) ≡ true
converted_same BoolKind w told = told_same w told
converted_same Char w told = kept_same (kind_size Char) w told
converted_same SChar w told = kept_same (kind_size SChar) w told
converted_same UChar w told = kept_same (kind_size UChar) w told
converted_same Short w told = kept_same (kind_size Short) w told
converted_same UShort w told = kept_same (kind_size UShort) w told
converted_same Int w told = kept_same (kind_size Int) w told
converted_same UInt w told = kept_same (kind_size UInt) w told
converted_same Long w told = kept_same (kind_size Long) w told
converted_same ULong w told = kept_same (kind_size ULong) w told
converted_same LLong w told = kept_same (kind_size LLong) w told
converted_same ULLong w told = kept_same (kind_size ULLong) w told

-- ---- operators

pub operates_so : (ks : List Fact) (i : ℕ) (q : Place) (op : BinOp) (kind : IntKind) (a b : Term) (under : List Term) (o : Outcome) → IsTold a → IsTold b
    → if_found (slice_get operators (operator_number op)) (λ y. if_found (slice_get kinds (kind_number kind)) (λ z. operates ks i q y z a b under (results op kind a b o)))
    ≡ unless_trap op kind a b (pushes i q o (result op kind a b) under)
operates_so ks i q op kind a b under o told_a told_b =
    ap (λ y. if_found y (λ x. if_found (slice_get kinds (kind_number kind)) (λ z. operates ks i q x z a b under (results op kind a b o)))) (operator_found op)
    ∙ ap (λ z. if_found z (λ x. operates ks i q op x a b under (results op kind a b o))) (kind_found kind)
    ∙ ap (λ (z : Bool). cond z (unless_trap op kind a b (pushes i q o (result op kind a b) under))
    (if_found (addresses ks op kind a b) (λ w. pushes i q (results op kind a b o) w under)))
    (both (same_operator op op && same_number kind kind) (same_term a a && same_term b b)
    (both (same_operator op op) (same_number kind kind) (one_operator op) (one_number kind)) (both (same_term a a) (same_term b b) (told_same a told_a) (told_same b told_b)))
