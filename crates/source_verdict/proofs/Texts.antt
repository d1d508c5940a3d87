-- Texts that are units, one after the other.
use Rattle.std.proofs.Common.{◌≡◌, ◌<◌, ℕ, ◌+◌, suc, List, [], ◌∷◌, ◌++◌, length, map, take, drop, get_or, sym, ap, subst, ◌∙◌, Vec, Global, arith}
use Rattle.std.proofs.lemmas.List.{length-map, map-append, length-take-le, take_more, drop_more, take-append-drop}
use Rattle.cpp_ast.specs.declared.units.Unit.{Unit as UnitRecord}
use Rattle.source_verdict.specs.declared.front.FrontFault.{FrontFault}
use Rattle.source_verdict.specs.Front.{IsRead, IsNotRead, AreRead, IsFirstUnread}

abbrev Bytes : Type 0
Bytes = Vec ℕ Global

abbrev pub texts_of : List Bytes → List (List ℕ)
texts_of texts = map (λ text. text.items) texts

-- one more text is a unit
read_more : (n : ℕ) (texts : List (List ℕ)) (us : List UnitRecord) (text : List ℕ) (u : UnitRecord) → AreRead n texts us → IsRead (n + length texts) text u
    → AreRead n (texts ++ text ∷ []) (us ++ u ∷ [])
read_more n [] [] text u h s = let e : n + 0 ≡ n = omega arith in (subst (λ m. IsRead m text u) e s, tt)
read_more n [] (p ∷ us) text u h s = elim h [ ]
read_more n (t ∷ texts) [] text u h s = elim h [ ]
read_more n (t ∷ texts) (p ∷ us) text u (first, rest) s =
    let e : n + suc (length texts) ≡ suc n + length texts = omega arith in
    (first, read_more (suc n) texts us text u rest (subst (λ m. IsRead m text u) e s))

-- the next text of a list is a unit
pub read_next : (texts : List Bytes) (i number : ℕ) (d : Bytes) (text : List ℕ) (before after : List UnitRecord) (u : UnitRecord) → i < length texts
    → number ≡ i → text ≡ (get_or texts i d).items → after ≡ before ++ u ∷ []
    → AreRead 0 (texts_of (take i texts)) before → IsRead number text u → AreRead 0 (texts_of (take (i + 1) texts)) after
read_next texts i number d text before after u h same e pushed read one =
    let more : texts_of (take (i + 1) texts) ≡ texts_of (take i texts) ++ text ∷ [] =
    ap texts_of (take_more texts i d h) ∙ map-append (λ (t : Bytes). t.items) (take i texts) (get_or texts i d ∷ [])
    ∙ ap (λ t. texts_of (take i texts) ++ t ∷ []) (sym e) in
    let long : length (texts_of (take i texts)) ≡ i = length-map (take i texts) (λ (t : Bytes). t.items) ∙ length-take-le i texts (omega (arith, h)) in
    subst (λ l. AreRead 0 l after) (sym more) (subst (AreRead 0 (texts_of (take i texts) ++ text ∷ [])) (sym pushed)
    (let e : number ≡ 0 + length (texts_of (take i texts)) = omega (arith, same, long) in
    read_more 0 (texts_of (take i texts)) before text u read (subst (λ m. IsRead m text u) e one)))

-- the next text of a list is none
pub first_unread : (texts : List Bytes) (i : ℕ) (d : Bytes) (text : List ℕ) (units : List UnitRecord) (fault : FrontFault) → i < length texts
    → text ≡ (get_or texts i d).items → AreRead 0 (texts_of (take i texts)) units
    → IsNotRead i text fault → IsFirstUnread (texts_of texts) (record { index = i; fault = fault })
first_unread texts i d text units fault h e read unread = record {
  before = texts_of (take i texts);
  text = text;
  after = texts_of (drop (i + 1) texts);
  units = units;
  cut =
      ap texts_of (sym (take-append-drop i texts) ∙ ap (λ l. take i texts ++ l) (drop_more texts i d h))
      ∙ map-append (λ (t : Bytes). t.items) (take i texts) (get_or texts i d ∷ drop (i + 1) texts)
      ∙ ap (λ t. texts_of (take i texts) ++ t ∷ texts_of (drop (i + 1) texts)) (sym e);
  index_is = sym (length-map (take i texts) (λ (t : Bytes). t.items) ∙ length-take-le i texts (omega (arith, h)));
  read = read;
  unread = unread;
}
