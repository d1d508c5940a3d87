-- Tokens and what they are to the grammar.
use Rattle.std.proofs.Common.{◌≡◌, ℕ, zero, suc, ◌+◌, ◌-◌, ◌<◌, ◌≤◌, Bool, true, false, if◌then◌else◌, nat_lt, ◌&&◌, List, [], ◌∷◌, ◌++◌, length, map, get_or}
use Rattle.std.proofs.Common.{slice_get, Option, Some, None, refl, sym, ◌∙◌, ap, subst, arith, cond, length-append}
use Rattle.std.specs.Str.{bytes_eq}
use Rattle.std.proofs.lemmas.Slice.Eq.{bytes_eq-Decides}
use Rattle.std.proofs.lemmas.Option.{none-some}
use Rattle.cpp_lex.specs.Tokens.{Lexeme, lexeme_of}
use Rattle.cpp_lex.specs.declared.Token.{Token}
use Rattle.cpp_lex.specs.declared.TokKind.{TokKind}
use Rattle.cpp_lex.specs.declared.TokKind.TheVariants as token
use Rattle.cpp_syntax.specs.declared.terminal.Terminal.{Terminal}
use Rattle.cpp_syntax.specs.declared.terminal.Terminal.TheVariants as terminal
use Rattle.cpp_syntax.specs.Classes.{introduces, is_introduced, qualifies, class_at, class_by, name_class, name_terminal, type_index, names_type, or_here}
use Rattle.cpp_syntax.specs.Classes.{end_of, each_below, terminals_of}
use Rattle.cpp_syntax.specs.Balance.{IsPartner, IsTable, partner_in}
use Rattle.std.proofs.lemmas.List.{length-map}

pub got : (tokens : List Token) (i : ℕ) (d : Token) → i < length tokens → slice_get (map lexeme_of tokens) i ≡ Some (lexeme_of (get_or tokens i d))
got [] i d h = absurd (omega (arith, h))
got (t ∷ tokens) zero d h = refl
got (t ∷ tokens) (suc i) d h = got tokens i d (omega (arith, h))

pub got_past : (tokens : List Token) (i : ℕ) → length tokens ≤ i → slice_get (map lexeme_of tokens) i ≡ None
got_past [] zero h = refl
got_past [] (suc i) h = refl
got_past (t ∷ tokens) zero h = absurd (omega (arith, h))
got_past (t ∷ tokens) (suc i) h = got_past tokens i (omega (arith, h))

pub introduced_by : (tokens : List Token) (at before : ℕ) (d : Token) → 0 < at → before ≡ at - 1 → at ≤ length tokens
    → introduces (Some (lexeme_of (get_or tokens before d))) ≡ is_introduced (map lexeme_of tokens) at
introduced_by tokens zero before d some is inside = absurd (omega (arith, some))
introduced_by tokens (suc k) before d some is inside =
    let here : before ≡ k = omega (arith, is) in
    sym (ap introduces (ap (slice_get (map lexeme_of tokens)) (sym here) ∙ got tokens before d (omega (arith, here, inside))))

pub introduced_none : (tokens : List Token) (at : ℕ) → at ≡ 0 → false ≡ is_introduced (map lexeme_of tokens) at
introduced_none tokens zero h = refl
introduced_none tokens (suc k) h = absurd (omega (arith, h))

pub end_last : (tokens : List Token) (last : Token) → slice_get tokens (length tokens - 1) ≡ Some last → last.to ≡ end_of (map lexeme_of tokens)
end_last [] last e = absurd (none-some last e)
end_last (t ∷ []) last e = let f : slice_get (t ∷ []) 0 ≡ Some last = e in let same : t ≡ last = cc in ap (λ (t' : Token). t'.to) (sym same)
end_last (t ∷ s ∷ tokens) last e =
    let long : length (t ∷ s ∷ tokens) - 1 ≡ suc (length tokens) = omega arith in
    let shorter : length tokens ≡ length (s ∷ tokens) - 1 = omega arith in
    end_last (s ∷ tokens) last (sym (ap (λ (i : ℕ). slice_get (s ∷ tokens) i) shorter) ∙ sym (ap (λ (i : ℕ). slice_get (t ∷ s ∷ tokens) i) long) ∙ e)

noted_by : (had : Option ℕ) (same : Bool) (at : ℕ) → (same ≡ true → had ≡ None) → cond same (Some at) had ≡ or_here had same at
noted_by None true at h = refl
noted_by None false at h = refl
noted_by (Some index) true at h = absurd (none-some index (sym (h refl)))
noted_by (Some index) false at h = refl

-- what is noted of a name that had nothing
pub noted : (before : List ℕ → Option ℕ) (name word : List ℕ) (at : ℕ) → before name ≡ None
    → cond (bytes_eq name word) (Some at) (before word) ≡ or_here (before word) (bytes_eq name word) at
noted before name word at none = noted_by (before word) (bytes_eq name word) at (λ same. sym (ap before ((bytes_eq-Decides name word).0 same)) ∙ none)

pub type_index_more : (tokens : List Lexeme) (word : List ℕ) (k : ℕ)
    → or_here (type_index tokens word k) (names_type tokens word k) k ≡ type_index tokens word (k + 1)
type_index_more tokens word k = let next : suc k ≡ k + 1 = omega arith in ap (type_index tokens word) next

pub each_more : {A : Type 0} (f : ℕ → A) (n : ℕ) (x : A) (xs now : List A) → xs ≡ each_below f n → x ≡ f n → now ≡ xs ++ x ∷ [] → now ≡ each_below f (n + 1)
each_more {A} f n x xs now before value e =
    let next : suc n ≡ n + 1 = omega arith in
    e ∙ ap (λ (ys : List A). ys ++ x ∷ []) before ∙ ap (λ (y : A). each_below f n ++ y ∷ []) value ∙ ap (each_below f) next

each_long : {A : Type 0} (f : ℕ → A) (n : ℕ) → length (each_below f n) ≡ n
each_long f zero = refl
each_long f (suc n) = let rest = each_long f n in let more = length-append (each_below f n) (f n ∷ []) in omega (arith, rest, more)

pub terminals_long : (tokens : List Token) (terminals : List Terminal) → terminals ≡ terminals_of (map lexeme_of tokens) → length terminals ≡ length tokens
terminals_long tokens terminals e =
    ap (λ (xs : List Terminal). length xs) e ∙ each_long (class_at (map lexeme_of tokens)) (length (map lexeme_of tokens)) ∙ length-map tokens
    lexeme_of

pub begins_long : (tokens : List Token) (begins : List ℕ) → begins ≡ map (λ (t : Lexeme). t.from) (map lexeme_of tokens) → length begins ≡ length tokens
begins_long tokens begins e = ap (λ (xs : List ℕ). length xs) e ∙ length-map (map lexeme_of tokens) (λ (t : Lexeme). t.from) ∙ length-map tokens lexeme_of

pub table_of : (tokens : List Token) (terminals : List Terminal) (begins partners : List ℕ) → terminals ≡ terminals_of (map lexeme_of tokens)
    → begins ≡ map (λ (t : Lexeme). t.from) (map lexeme_of tokens) → length tokens ≤ 1048576
    → ((a : ℕ) → IsPartner terminals a (partner_in partners a)) → IsTable terminals begins partners
table_of tokens terminals begins partners e f few each = record {
  few = let long = terminals_long tokens terminals e in omega (arith, long, few);
  begin = begins_long tokens begins f ∙ sym (terminals_long tokens terminals e);
  each = each;
}
