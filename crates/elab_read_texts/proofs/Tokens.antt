-- What the tokens of a source are to the grammar, by their places.
use Rattle.std.proofs.Common.{◌≡◌, ℕ, zero, suc, ◌+◌, ◌<◌, ◌≤◌, inl, inr, Bool, true, false, not, ◌&&◌, refl, sym as back, ◌∙◌, ap, subst, arith}
use Rattle.std.proofs.Common.{List, [], ◌∷◌, ◌++◌, length, get_or, slice_get, codes, Option, Some, None, is_some, true≢false}
use Rattle.std.proofs.Common.{length-append}
use Rattle.std.specs.Str.{bytes_eq}
use Rattle.std.proofs.lemmas.Bool.{cases_lt, and_from}
use Rattle.std.proofs.lemmas.Slice.Eq.{bytes_eq-Decides}
use Rattle.cpp_types.specs.Trivial.{is_destructor_name}
use Rattle.cpp_lex.specs.Tokens.{Lexeme}
use Rattle.cpp_lex.specs.declared.TokKind.{TokKind}
use Rattle.cpp_lex.specs.declared.TokKind.TheVariants as token
use Rattle.cpp_syntax.specs.declared.terminal.Terminal.{Terminal}
use Rattle.cpp_syntax.specs.declared.terminal.Terminal.TheVariants as terminal
use Rattle.cpp_syntax.specs.Source.{terminal_at}
use Rattle.cpp_syntax.specs.Terminals.{is_name}
use Rattle.cpp_syntax.specs.Classes.{each_below, class_at, class_by, terminals_of, source_of, is_introducer, is_introduced, names_type, or_here}
use Rattle.cpp_syntax.specs.Classes.{type_index}
use Rattle.cpp_syntax.proofs.WithinTokens.{token_inside}
use Rattle.elab_rules.specs.elab_ctx.Steps.{spelling}
use Rattle.elab_fits_forms.specs.Types.{is_empty}
use Rattle.elab_read_texts.specs.Names.{is_type_name, is_plain_name, is_class_name}
use Rattle.elab_read_texts.proofs.Terminals.{is_other_word, calm_by, introduced_by, other_word, name_kind, no_index}

pub each_long : {A : Type 0} (f : ℕ → A) (n : ℕ) → length (each_below f n) ≡ n
each_long f zero = refl
each_long f (suc n) = let rest = each_long f n in let more = length-append (each_below f n) (f n ∷ []) in omega (arith, rest, more)

pub terminals_long : (tokens : List Lexeme) → length (terminals_of tokens) ≡ length tokens
terminals_long tokens = each_long (class_at tokens) (length tokens)

in_front : {A : Type 0} (xs : List A) (y d : A) (k : ℕ) → k < length xs → get_or (xs ++ y ∷ []) k d ≡ get_or xs k d
in_front [] y d k h = absurd (omega (arith, h))
in_front (x ∷ xs) y d zero h = refl
in_front (x ∷ xs) y d (suc k) h = in_front xs y d k (omega (arith, h))

at_last : {A : Type 0} (xs : List A) (y d : A) (k : ℕ) → k ≡ length xs → get_or (xs ++ y ∷ []) k d ≡ y
at_last [] y d zero h = refl
at_last [] y d (suc k) h = absurd (omega (arith, h))
at_last (x ∷ xs) y d zero h = absurd (omega (arith, h))
at_last (x ∷ xs) y d (suc k) h = at_last xs y d k (omega (arith, h))

each_at : {A : Type 0} (f : ℕ → A) (n k : ℕ) (d : A) → k < n → get_or (each_below f n) k d ≡ f k
each_at f zero k d h = absurd (omega (arith, h))
each_at f (suc n) k d h =
    let long = each_long f n in
    elim (cases_lt k n) [
      | inl l ↦ in_front (each_below f n) (f n) d k (omega (arith, l, long)) ∙ each_at f n k d l
      | inr l ↦ let same : k ≡ n = omega (arith, l, h) in at_last (each_below f n) (f n) d k (omega (arith, same, long)) ∙ ap f (back same)
    ]

there : (tokens : List Lexeme) (k : ℕ) → k < length tokens → (t : Lexeme) × slice_get tokens k ≡ Some t
there [] k h = absurd (omega (arith, h))
there (t ∷ ts) zero h = (t, refl)
there (t ∷ ts) (suc k) h = there ts k (omega (arith, h))

-- A token of a source: it is there, and what it is to the grammar goes by its kind and spelling.
pub record IsToken (number : ℕ) (tokens : List Lexeme) (k : ℕ) : Type 0 where
  pub token : Lexeme
  pub at : slice_get tokens k ≡ Some token
  pub inside : k < length tokens
  pub is : terminal_at (source_of number tokens) k ≡ class_by tokens k token.kind token.bytes
  pub spelled : spelling tokens k ≡ token.bytes

pub token_there : (number : ℕ) (tokens : List Lexeme) (k : ℕ) → k < length tokens → IsToken number tokens k
token_there number tokens k h = let t = there tokens k h in record {
  token = t.0;
  at = t.1;
  inside = h;
  is = each_at (class_at tokens) (length tokens) k terminal.End h ∙ rw t.1 refl;
  spelled = rw t.1 refl;
}

-- one that passes a test which the end does not pass
pub token_of : (number : ℕ) (tokens : List Lexeme) (k : ℕ) (test : Terminal → Bool) → not (test terminal.End) ≡ true
    → test (terminal_at (source_of number tokens) k) ≡ true → IsToken number tokens k
token_of number tokens k test e h =
    let l = token_inside (source_of number tokens) k test e h in
    let long = terminals_long tokens in token_there number tokens k (omega (arith, l, long))

past : (tokens : List Lexeme) (k : ℕ) → length tokens ≤ k → slice_get tokens k ≡ None
past [] zero h = refl
past [] (suc k) h = refl
past (t ∷ ts) zero h = absurd (omega (arith, h))
past (t ∷ ts) (suc k) h = past ts k (omega (arith, h))

-- behind a token that introduces no type, nothing is introduced
pub calm : (number : ℕ) (tokens : List Lexeme) (k : ℕ) → is_introducer (terminal_at (source_of number tokens) k) ≡ false
    → is_introduced tokens (k + 1) ≡ false
calm number tokens k h =
    let next : suc k ≡ k + 1 = omega arith in
    subst (λ (z : ℕ). is_introduced tokens z ≡ false) next (elim (cases_lt k (length tokens)) [
      | inl l ↦
          let x = token_there number tokens k l in
          rw x.at (calm_by tokens k x.token.kind x.token.bytes (ap is_introducer (back x.is) ∙ h))
      | inr l ↦ rw (past tokens k l) refl
    ])

-- where a word becomes the name of a type before an index, there is such an index
index_some : (o : Option ℕ) (b : Bool) (n : ℕ) → is_some o ≡ true → is_some (or_here o b n) ≡ true
index_some None b n h = absurd (true≢false (back h))
index_some (Some i) b n h = refl

index_here : (o : Option ℕ) (b : Bool) (n : ℕ) → b ≡ true → is_some (or_here o b n) ≡ true
index_here (Some i) b n h = refl
index_here None true n h = refl
index_here None false n h = absurd (true≢false (back h))

index_found : (tokens : List Lexeme) (word : List ℕ) (n k : ℕ) → k < n → names_type tokens word k ≡ true → is_some (type_index tokens word n) ≡ true
index_found tokens word zero k l h = absurd (omega (arith, l))
index_found tokens word (suc n) k l h = elim (cases_lt k n) [
  | inl m ↦ index_some (type_index tokens word n) (names_type tokens word n) n (index_found tokens word n k m h)
  | inr m ↦
      let same : k ≡ n = omega (arith, l, m) in
      index_here (type_index tokens word n) (names_type tokens word n) n (subst (λ (z : ℕ). names_type tokens word z ≡ true) same h)
]

same_bytes : (bytes : List ℕ) → bytes_eq bytes bytes ≡ true
same_bytes bytes = (bytes_eq-Decides bytes bytes).1 refl

-- what a text gives of its tokens: they are spelled, and a name does not begin with `~`
pub record AreWords (tokens : List Lexeme) : Type 0 where
  pub filled : (k : ℕ) → k < length tokens → not (is_empty (spelling tokens k)) ≡ true
  pub word : (k : ℕ) (t : Lexeme) → slice_get tokens k ≡ Some t → t.kind ≡ token.Name → is_destructor_name t.bytes ≡ false

-- a name behind a token that introduces a type is the name of one
pub typed : (number : ℕ) (tokens : List Lexeme) (k : ℕ) → AreWords tokens → is_introducer (terminal_at (source_of number tokens) k) ≡ true
    → is_name (terminal_at (source_of number tokens) (k + 1)) ≡ true → is_class_name tokens (spelling tokens (k + 1)) ≡ true
typed number tokens k w h i =
    let x = token_of number tokens k is_introducer refl h in
    let y = token_of number tokens (k + 1) is_name refl i in
    let kind = name_kind tokens (k + 1) y.token.kind y.token.bytes (ap is_name (back y.is) ∙ i) in
    let introduced = introduced_by tokens k x.token.kind x.token.bytes (ap is_introducer (back x.is) ∙ h) in
    let next : suc k ≡ k + 1 = omega arith in
    let before : is_introduced tokens (k + 1) ≡ true = subst (λ (z : ℕ). is_introduced tokens z ≡ true) next (rw x.at introduced) in
    let filled : not (is_empty y.token.bytes) ≡ true = ap (λ (z : List ℕ). not (is_empty z)) (back y.spelled) ∙ w.filled (k + 1) y.inside in
    rw y.spelled (and_from (not (is_empty y.token.bytes)) (not (is_destructor_name y.token.bytes) && is_type_name tokens y.token.bytes) filled
    (and_from (not (is_destructor_name y.token.bytes)) (is_type_name tokens y.token.bytes) (ap not (w.word (k + 1) y.token y.at kind))
    (index_found tokens y.token.bytes (length tokens) (k + 1) y.inside
    (and_from (is_introduced tokens (k + 1)) _ before (rw y.at (rw kind (same_bytes y.token.bytes)))))))

-- a name that is not introduced where it stands is that of no type
not_typed : (tokens : List Lexeme) (k : ℕ) (kind : TokKind) (word : List ℕ) → kind ≡ token.Name → is_name (class_by tokens k kind word) ≡ true
    → is_introduced tokens k ≡ false → is_type_name tokens word ≡ false
not_typed tokens k token.Name word e h i = no_index (is_introduced tokens k) (type_index tokens word (length tokens)) k _ h i
not_typed tokens k token.Key word e h i = absurd cc
not_typed tokens k token.Punct word e h i = absurd cc
not_typed tokens k token.Int word e h i = absurd cc
not_typed tokens k token.Char word e h i = absurd cc
not_typed tokens k token.Str word e h i = absurd cc

pub plain : (number : ℕ) (tokens : List Lexeme) (k : ℕ) → AreWords tokens → is_name (terminal_at (source_of number tokens) k) ≡ true
    → is_introduced tokens k ≡ false → is_plain_name tokens (spelling tokens k) ≡ true
plain number tokens k w h i =
    let x = token_of number tokens k is_name refl h in
    let is = ap is_name (back x.is) ∙ h in
    let kind = name_kind tokens k x.token.kind x.token.bytes is in
    rw x.spelled (and_from (not (is_destructor_name x.token.bytes)) (not (is_type_name tokens x.token.bytes)) (ap not (w.word k x.token x.at kind))
    (ap not (not_typed tokens k x.token.kind x.token.bytes kind is i)))

-- neither `explicit` nor `inline` is spelled `virtual`
either_bool : (b : Bool) → (b ≡ true → ⊥) → not b ≡ true
either_bool true h = absurd (h refl)
either_bool false h = refl

pub not_virtual : (number : ℕ) (tokens : List Lexeme) (k : ℕ) → is_other_word (terminal_at (source_of number tokens) k) ≡ true
    → not (bytes_eq (spelling tokens k) (codes "virtual")) ≡ true
not_virtual number tokens k h =
    let x = token_of number tokens k is_other_word refl h in
    rw x.spelled (either_bool (bytes_eq x.token.bytes (codes "virtual"))
    (other_word tokens k x.token.kind x.token.bytes (ap is_other_word (back x.is) ∙ h)))
