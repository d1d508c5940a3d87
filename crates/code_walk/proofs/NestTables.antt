-- One more link of a table of nests.
use Rattle.std.proofs.Common.{◌≡◌, ◌<◌, ◌≤◌, ◌⊎◌, inl, inr, ℕ, zero, suc, ◌+◌, List, [], ◌∷◌, ◌++◌, length, Some, refl, sym, ap, ◌∙◌, subst, arith}
use Rattle.std.proofs.Common.{length-append}
use Rattle.std.specs.Prelude.{not, slice_get}
use Rattle.std.proofs.Math.ListN.{get_or-append}
use Rattle.std.proofs.Math.Seq.{get_or-append_seam}
use Rattle.std.proofs.lemmas.Option.{none-some, same_Some, slice_get_within}
use Rattle.tx_events.specs.Thread.{Open, no_atomic}
use Rattle.code_walk.specs.declared.nests.Link.{Link}
use Rattle.code_walk.specs.Nests.{open_of, nest, linked, table_with, table_of_links, AreLinks}

pushed : (table : List (List Open)) (links : List Link) (l : Link)
    → table_with table (links ++ l ∷ []) ≡ table_with table links ++ linked (table_with table links) l ∷ []
pushed table [] l = refl
pushed table (k ∷ ks) l = pushed (table ++ linked table k ∷ []) ks l

got : (ls : List Link) (l m : Link) (n : ℕ) → slice_get (ls ++ l ∷ []) n ≡ Some m → (slice_get ls n ≡ Some m) ⊎ ((n ≡ length ls) × (l ≡ m))
got [] l m zero h = inr (refl, same_Some l m h)
got [] l m (suc n) h = absurd (none-some m h)
got (k ∷ ks) l m zero h = inl h
got (k ∷ ks) l m (suc n) h = elim (got ks l m n h) [ inl e ↦ inl e | inr p ↦ inr (ap suc p.0, p.1) ]

pub more_nest : (table : List (List Open)) (x : List Open) (n : ℕ) → n < length table → nest (table ++ x ∷ []) n ≡ nest table n
more_nest table x n h = get_or-append table (x ∷ []) [] n h

last_nest : (table : List (List Open)) (x : List Open) (n : ℕ) → n ≡ length table → nest (table ++ x ∷ []) n ≡ x
last_nest table x n e = ap (nest (table ++ x ∷ [])) e ∙ get_or-append_seam table x [] []

more_linked : (table : List (List Open)) (x : List Open) (l : Link) → l.outer < length table → linked (table ++ x ∷ []) l ≡ linked table l
more_linked table x l h = ap (λ z. open_of l.block ∷ z) (more_nest table x l.outer h)

pub one_more : (links : List Link) (l : Link) → AreLinks links → l.outer < length (table_of_links links)
    → l.atomic ≡ not (no_atomic (linked (table_of_links links) l)) → AreLinks (links ++ l ∷ [])
one_more links l old h a =
    let T : List (List Open) = table_of_links links in
    let x : List Open = linked T l in
    let n : length T ≡ length links + 1 = old.count in
    let p : table_of_links (links ++ l ∷ []) ≡ T ++ x ∷ [] = pushed ([] ∷ []) links l in
    let is_last : (k : ℕ) (m : Link) → (k ≡ length links) → l ≡ m → nest (T ++ x ∷ []) (k + 1) ≡ linked T m =
    λ k m e f. last_nest T x (k + 1) (omega (arith, n, e)) ∙ ap (linked T) f in
    let is_link : (k : ℕ) (m : Link) → slice_get (links ++ l ∷ []) k ≡ Some m → nest (T ++ x ∷ []) (k + 1) ≡ linked T m = λ k m g. elim (got links l m k g) [
      | inl e ↦ let b : k < length links = slice_get_within links k m e in more_nest T x (k + 1) (omega (arith, n, b)) ∙ old.link k m e
      | inr q ↦ is_last k m q.0 q.1
    ] in
    let is_earlier : (k : ℕ) (m : Link) → slice_get (links ++ l ∷ []) k ≡ Some m → m.outer ≤ k = λ k m g. elim (got links l m k g) [
      | inl e ↦ old.earlier k m e
      | inr q ↦ let f : l.outer ≤ k = omega (arith, n, h, q.0) in subst (λ (z : Link). z.outer ≤ k) q.1 f
    ] in
    let lies : (k : ℕ) (m : Link) → slice_get (links ++ l ∷ []) k ≡ Some m → m.outer < length T = λ k m g. let b : k < length (links ++ l ∷ []) =
    slice_get_within (links ++ l ∷ []) k m g in let f : m.outer ≤ k = is_earlier k m g in omega (arith, n, b, f, length-append links (l ∷ [])) in
    record {
      count = ap length p ∙ length-append T (x ∷ []) ∙ (omega (arith, n, length-append links (l ∷ [])));
      first = ap (λ t. nest t 0) p ∙ more_nest T x 0 (omega (arith, n)) ∙ old.first;
      earlier = is_earlier;
      link = λ k m g. ap (λ t. nest t (k + 1)) p ∙ is_link k m g ∙ sym (ap (λ t. linked t m) p ∙ more_linked T x m (lies k m g));
      atomic = λ k m g. elim (got links l m k g) [
        | inl e ↦ let b : k < length links = slice_get_within links k m e in old.atomic k m e
            ∙ ap (λ z. not (no_atomic z)) (sym (ap (λ t. nest t (k + 1)) p ∙ more_nest T x (k + 1) (omega (arith, n, b))))
        | inr q ↦ sym (ap (λ (z : Link). z.atomic) q.1) ∙ a
            ∙ ap (λ z. not (no_atomic z)) (sym (ap (λ t. nest t (k + 1)) p ∙ last_nest T x (k + 1) (omega (arith, n, q.0))))
      ];
    }

pub table_more : (links : List Link) (l : Link) → table_of_links (links ++ l ∷ []) ≡ table_of_links links ++ linked (table_of_links links) l ∷ []
table_more links l = pushed ([] ∷ []) links l
