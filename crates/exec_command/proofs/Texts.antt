-- Texts that spell objects, and the entries of a schedule.
use Rattle.std.proofs.Common.{◌≡◌, ◌<◌, ℕ, ◌+◌, Bool, true, false, true≢false, List, [], ◌∷◌, ◌++◌, length, map, take, drop, get_or, refl, sym, ap, subst, ◌∙◌}
use Rattle.std.proofs.Common.{Vec, Global, replicate, zero, suc, Err, arith}
use Rattle.std.specs.Prelude.{◌&&◌, nat_lt}
use Rattle.std.specs.List.{All, list_all}
use Rattle.std.proofs.lemmas.List.{length-map, map-append, length-take-le, take_more, drop_more, take-append-drop}
use Rattle.std.proofs.lemmas.List.Elements.{All-nil, All-cons}
use Rattle.std.proofs.lemmas.List.Folds.{list_all-append}
use Rattle.object_bytes.specs.Objects.{decoded}
use Rattle.object_bytes.specs.Spelling.{Spells}
use Rattle.schedules.specs.Text.{Spells as Says, is_line, entries_of}
use Rattle.schedules.specs.declared.Run.{Run}
use Rattle.tx_code.specs.Objects.{ObjectView, object_view}
use Rattle.tx_code.specs.WellFormed.{IsObject}
use Rattle.tx_code.specs.declared.object.Object.{Object}
use Rattle.exec_command.specs.Objects.{SpellAll, FirstWrong}

abbrev Bytes : Type 0
Bytes = Vec ℕ Global

abbrev pub texts_of : List Bytes → List (List ℕ)
texts_of texts = map (λ text. text.items) texts

-- one more text spells one more object
spelled_more : (texts : List (List ℕ)) (os : List ObjectView) (text : List ℕ) (o : ObjectView) → SpellAll texts os → Spells o text
    → SpellAll (texts ++ text ∷ []) (os ++ o ∷ [])
spelled_more [] [] text o h s = (s, tt)
spelled_more [] (p ∷ os) text o h s = elim h [ ]
spelled_more (t ∷ texts) [] text o h s = elim h [ ]
spelled_more (t ∷ texts) (p ∷ os) text o (first, rest) s = (first, spelled_more texts os text o rest s)

-- the next text of a list spells an object
pub spelled_next : (texts : List Bytes) (i : ℕ) (d : Bytes) (text : List ℕ) (before after : List Object) (o : Object) → i < length texts
    → text ≡ (get_or texts i d).items → after ≡ before ++ o ∷ []
    → SpellAll (texts_of (take i texts)) (map object_view before) → Spells (object_view o) text
    → SpellAll (texts_of (take (i + 1) texts)) (map object_view after)
spelled_next texts i d text before after o h e pushed so s =
    let more : texts_of (take (i + 1) texts) ≡ texts_of (take i texts) ++ text ∷ [] =
    ap texts_of (take_more texts i d h) ∙ map-append (λ (t : Bytes). t.items) (take i texts) (get_or texts i d ∷ [])
    ∙ ap (λ t. texts_of (take i texts) ++ t ∷ []) (sym e) in
    let views : map object_view after ≡ map object_view before ++ object_view o ∷ [] = ap (map object_view) pushed ∙ map-append object_view before (o ∷ []) in
    subst (λ l. SpellAll l (map object_view after)) (sym more)
    (subst (SpellAll (texts_of (take i texts) ++ text ∷ [])) (sym views)
    (spelled_more (texts_of (take i texts)) (map object_view before) text (object_view o) so s))

-- the next text of a list spells none
pub first_wrong : (texts : List Bytes) (i at : ℕ) (d : Bytes) (text : List ℕ) (objects : List ObjectView) → i < length texts → text ≡ (get_or texts i d).items
    → SpellAll (texts_of (take i texts)) objects
    → decoded text ≡ Err at → ((o : ObjectView) → Spells o text → ⊥) → FirstWrong (texts_of texts) i at
first_wrong texts i at d text objects h e so first none = record {
  before = texts_of (take i texts);
  text = text;
  after = texts_of (drop (i + 1) texts);
  objects = objects;
  cut =
      ap texts_of (sym (take-append-drop i texts) ∙ ap (λ l. take i texts ++ l) (drop_more texts i d h))
      ∙ map-append (λ (t : Bytes). t.items) (take i texts) (get_or texts i d ∷ drop (i + 1) texts)
      ∙ ap (λ t. texts_of (take i texts) ++ t ∷ texts_of (drop (i + 1) texts)) (sym e);
  index_is = sym (length-map (take i texts) (λ (t : Bytes). t.items) ∙ length-take-le i texts (omega (arith, h)));
  spelled = so;
  none = none;
  first = first;
}

-- what is spelled is an object
pub all_objects : (texts : List (List ℕ)) (os : List Object) → SpellAll texts (map object_view os) → All (λ o. IsObject (object_view o)) os
all_objects [] [] h = All-nil (λ o. IsObject (object_view o))
all_objects [] (o ∷ os) h = elim h [ ]
all_objects (t ∷ texts) [] h = elim h [ ]
all_objects (t ∷ texts) (o ∷ os) (first, rest) = All-cons (λ o. IsObject (object_view o)) o os first.object (all_objects texts os rest)

-- ---- the threads of a schedule are below the limit

both : (a b : Bool) → (a && b) ≡ true → (a ≡ true) × (b ≡ true)
both true b e = (refl, e)
both false b e = absurd (true≢false (sym e))

both_true : (a b : Bool) → a ≡ true → b ≡ true → (a && b) ≡ true
both_true true true e f = refl
both_true true false e f = f
both_true false b e f = e

copies_below : (n t : ℕ) → nat_lt t 64 ≡ true → list_all (λ u. nat_lt u 64) (replicate n t) ≡ true
copies_below zero t h = refl
copies_below (suc n) t h = both_true (nat_lt t 64) (list_all (λ u. nat_lt u 64) (replicate n t)) h (copies_below n t h)

lines_below : (lines : List Run) → list_all is_line lines ≡ true → list_all (λ u. nat_lt u 64) (entries_of lines) ≡ true
lines_below [] h = refl
lines_below (r ∷ rs) h =
    let here = both (is_line r) (list_all is_line rs) h in
    list_all-append (λ u. nat_lt u 64) (replicate r.count r.thread) (entries_of rs)
    ∙ both_true (list_all (λ u. nat_lt u 64) (replicate r.count r.thread)) (list_all (λ u. nat_lt u 64) (entries_of rs))
    (copies_below r.count r.thread (both (nat_lt r.thread 64) _ here.0).0) (lines_below rs here.1)

front_below : (n : ℕ) (ts : List ℕ) → list_all (λ u. nat_lt u 64) ts ≡ true → list_all (λ u. nat_lt u 64) (take n ts) ≡ true
front_below zero ts h = refl
front_below (suc n) [] h = refl
front_below (suc n) (t ∷ ts) h =
    let here = both (nat_lt t 64) (list_all (λ u. nat_lt u 64) ts) h in
    both_true (nat_lt t 64) (list_all (λ u. nat_lt u 64) (take n ts)) here.0 (front_below n ts here.1)

pub kept_below : (text entries kept : List ℕ) (most : ℕ) → Says text entries → kept ≡ take most entries → list_all (λ u. nat_lt u 64) kept ≡ true
kept_below text entries kept most says e =
    subst (λ l. list_all (λ u. nat_lt u 64) l ≡ true) (sym e)
    (front_below most entries (subst (λ l. list_all (λ u. nat_lt u 64) l ≡ true) (sym says.entries_are) (lines_below says.lines says.in_grammar)))
