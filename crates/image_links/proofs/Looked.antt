-- What addresses find, in an image and in a linked program.
use Rattle.std.proofs.Common.{ℕ, ◌≡◌, ◌+◌, ◌*◌, ◌^◌, ◌<◌, Bool, true, false, cond, refl, ap, sym, ◌∙◌, subst, List, [], length, Option, Some, None}
use Rattle.std.specs.Prelude.{slice_get, if◌then◌else◌, option_and_then, option_map, unwrap_or}
use Rattle.std.specs.Global.{Vec}
use Rattle.std.proofs.lemmas.Option.{slice_get_within}
use Rattle.std.specs.Str.{bytes_eq}
use Rattle.tx_code.specs.Objects.{BodyView}
use Rattle.tx_code.specs.Images.{ImageFuncView, ImageClassView, ImageView}
use Rattle.tx_code.specs.Signatures.{without_safety}
use Rattle.tx_code.specs.Program.{names_of, number_at, func_at as func_at_address, if_typed, slot_or_none, derives, func_address, class_address, body_in}
use Rattle.tx_code.specs.Program.{spawn_type}
use Rattle.cpp_tree.specs.cpp_types.Typ.{Signature}
use Rattle.cpp_tree.specs.Units.{Func as UnitFunc}
use Rattle.src_mean.specs.Links.{Def, func_at, has_type, kept_funcs, kept_classes, number_if, number_of_symbol, class_name, is_or_has_base, linked_func}
use Rattle.src_bind.specs.Infos.{says}
use Rattle.src_bind.specs.Tables.{Given, typed, linked_of, name_in}
use Rattle.image_links.specs.Agreeing.{symbols_of}
use Rattle.image_links.proofs.Found.{numbered_found, number_is}

-- ---- in an image

record FuncHit (funcs : List ImageFuncView) (a n : ℕ) : Type 0 where
  pub address : a ≡ func_address n
  pub within : n < length funcs

func_found : (funcs : List ImageFuncView) (ty : List ℕ) (a n : ℕ) → func_at_address funcs ty a ≡ Some n → FuncHit funcs a n
func_found funcs ty a n e = by_number (number_at (2 ^ 40) a) refl e
  where
    by_type : (k : ℕ) → a ≡ 2 ^ 40 + 16 * k → (f : ImageFuncView) → slice_get funcs k ≡ Some f → (b : Bool) → (if b then Some k else None) ≡ Some n
        → FuncHit funcs a n
    by_type k place f there true e =
        let same : k ≡ n = cc in
        record { address = place ∙ ap (λ z. 2 ^ 40 + 16 * z) same; within = subst (λ z. z < length funcs) same (slice_get_within funcs k f there) }
    by_type k place f there false e = absurd cc

    by_func : (k : ℕ) → a ≡ 2 ^ 40 + 16 * k → (o : Option ImageFuncView) → slice_get funcs k ≡ o
        → option_and_then (λ (f : ImageFuncView). if_typed f ty k) o ≡ Some n → FuncHit funcs a n
    by_func k place None there e = absurd cc
    by_func k place (Some f) there e = by_type k place f there (bytes_eq (without_safety f.ty) (without_safety ty)) e

    by_number : (o : Option ℕ) → number_at (2 ^ 40) a ≡ o
        → option_and_then (λ k. option_and_then (λ (f : ImageFuncView). if_typed f ty k) (slice_get funcs k)) o ≡ Some n → FuncHit funcs a n
    by_number None is e = absurd cc
    by_number (Some k) is e = by_func k (number_is (2 ^ 40) a k is) (slice_get funcs k) refl e

pub called_found : (i : ImageView) (ty a n : ℕ) → (names_of i).called ty a ≡ Some n → (a ≡ func_address n) × (n < length i.funcs)
called_found i ty a n e = by_spelling (slice_get i.types ty) e
  where
    by_spelling : (o : Option (List ℕ)) → option_and_then (λ spelling. func_at_address i.funcs spelling a) o ≡ Some n → (a ≡ func_address n)
        × (n < length i.funcs)
    by_spelling None e = absurd cc
    by_spelling (Some s) e = let h = func_found i.funcs s a n e in (h.address, h.within)

pub spawned_found : (i : ImageView) (a n : ℕ) → (names_of i).spawned a ≡ Some n → (a ≡ func_address n) × (n < length i.funcs)
spawned_found i a n e = let h = func_found i.funcs spawn_type a n e in (h.address, h.within)

-- a slot of a class of an image
pub record SlotHit (classes : List ImageClassView) (a slot : ℕ) : Type 0 where
  pub at : ℕ
  pub class : ImageClassView
  pub address : a ≡ class_address at
  pub there : slice_get classes at ≡ Some class
  pub within : slot < length class.slots

abbrev looked : (slot : ℕ) → Option ImageClassView → Option ℕ
looked slot o = option_and_then (λ (k : ImageClassView). slot_or_none (slice_get k.slots slot)) o

pub slot_found : (i : ImageView) (c a slot n : ℕ) → (names_of i).slot_of c a slot ≡ Some n → SlotHit i.classes a slot
slot_found i c a slot n e = by_number (number_at (2 ^ 41) a) refl e
  where
    by_slot : (d : ℕ) → a ≡ 2 ^ 41 + 16 * d → (k : ImageClassView) → slice_get i.classes d ≡ Some k → (o : Option (Option ℕ)) → slice_get k.slots slot ≡ o
        → slot_or_none o ≡ Some n → SlotHit i.classes a slot
    by_slot d place k there None is e = absurd cc
    by_slot d place k there (Some x) is e = record { at = d; class = k; address = place; there = there; within = slice_get_within k.slots slot x is }

    by_class : (d : ℕ) → a ≡ 2 ^ 41 + 16 * d → (o : Option ImageClassView) → slice_get i.classes d ≡ o → looked slot o ≡ Some n → SlotHit i.classes a slot
    by_class d place None there e = absurd cc
    by_class d place (Some k) there e = by_slot d place k there (slice_get k.slots slot) refl e

    by_bases : (d : ℕ) → a ≡ 2 ^ 41 + 16 * d → (b : Bool) → (if b then looked slot (slice_get i.classes d) else None) ≡ Some n → SlotHit i.classes a slot
    by_bases d place true e = by_class d place (slice_get i.classes d) refl e
    by_bases d place false e = absurd cc

    by_number : (o : Option ℕ) → number_at (2 ^ 41) a ≡ o
        → option_and_then (λ d. if derives i.classes (length i.classes) d c then looked slot (slice_get i.classes d) else None) o ≡ Some n
        → SlotHit i.classes a slot
    by_number None is e = absurd cc
    by_number (Some d) is e = by_bases d (number_is (2 ^ 41) a d is) (derives i.classes (length i.classes) d c) e

pub body_found : (i : ImageView) (n : ℕ) (safe : Bool) (body : BodyView) → (names_of i).body n safe ≡ Some body → (f : ImageFuncView)
    × (slice_get i.funcs n ≡ Some f)
body_found i n safe body e = by_func (slice_get i.funcs n) refl e
  where
    by_func : (o : Option ImageFuncView) → slice_get i.funcs n ≡ o → option_and_then (λ (f : ImageFuncView). body_in f safe) o ≡ Some body → (f : ImageFuncView)
        × (slice_get i.funcs n ≡ Some f)
    by_func None is e = absurd cc
    by_func (Some f) is e = (f, is)

-- ---- in a linked program

module _ (g : Given) where
  pub func_past : (n : ℕ) → slice_get (kept_funcs (typed g)) n ≡ None → (linked_of g).func n ≡ None
  func_past n e = ap (option_and_then (λ (d : Def). option_map (linked_func (says g.choices.safe.items) (typed g).classes d)
      (func_at (typed g) d.unit d.place))) e

  number_tested : (b : Bool) (k n : ℕ) → number_if b k ≡ Some n → k ≡ n
  number_tested true k n e = cc
  number_tested false k n e = absurd cc

  pub pointed_found : (a n : ℕ) (sig : Signature) → (linked_of g).pointed a sig ≡ Some n → (a ≡ func_address n) × (n < length (kept_funcs (typed g)))
  pointed_found a n sig e =
      let h = numbered_found (2 ^ 40) a n (kept_funcs (typed g))
      (λ (found : Def × ℕ). option_and_then (λ (f : UnitFunc). number_if (has_type (typed g).classes sig f) found.1)
      (func_at (typed g) (found.0).unit (found.0).place)) e in
      let same = by_func h.at (func_at (typed g) h.def.unit h.def.place) h.found in (
        h.address ∙ ap (λ z. 2 ^ 40 + 16 * z) same,
        subst (λ z. z < length (kept_funcs (typed g))) same
            (slice_get_within (kept_funcs (typed g)) h.at h.def h.there),
      )
    where
      by_func : (k : ℕ) (o : Option UnitFunc) → option_and_then (λ (f : UnitFunc). number_if (has_type (typed g).classes sig f) k) o ≡ Some n → k ≡ n
      by_func k None e = absurd cc
      by_func k (Some f) e = number_tested (has_type (typed g).classes sig f) k n e

  -- a slot of a kept class
  pub record ClassHit (a slot n : ℕ) : Type 0 where
    pub at : ℕ
    pub address : a ≡ class_address at
    pub within : at < length (kept_classes (typed g))
    pub symbols : slot < length (symbols_of g at)
    pub symbol : List ℕ
    pub number : number_of_symbol symbol (kept_funcs (typed g)) ≡ Some n

  abbrev rows_at : ℕ → Option (List (Option (Vec ℕ)))
  rows_at place = option_map (λ (row : Vec (Option (Vec ℕ))). row.items) (slice_get g.choices.symbols.items place)

  abbrev numbered_by : Option (List ℕ) → Option ℕ
  numbered_by o = option_and_then (λ (name : List ℕ). number_of_symbol name (kept_funcs (typed g))) o

  abbrev symbol_in : Option (Option (Vec ℕ)) → Option (List ℕ)
  symbol_in o = option_and_then (λ (o : Option (Vec ℕ)). option_map (λ (name : Vec ℕ). name.items) o) o

  abbrev led : (c slot place : ℕ) → Option ℕ
  led c slot place = cond (is_or_has_base (typed g).classes place (class_name (typed g).classes c))
      (numbered_by (name_in g.choices.symbols.items place slot)) None

  pub linked_slot_found : (a c slot n : ℕ) → (linked_of g).slot a c slot ≡ Some n → ClassHit a slot n
  linked_slot_found a c slot n e =
      let h = numbered_found (2 ^ 41) a n (kept_classes (typed g)) (λ (found : Def × ℕ). led c slot (found.0).place) e in
      by_bases h.at h.def h.address h.there (is_or_has_base (typed g).classes h.def.place (class_name (typed g).classes c)) h.found
    where
      by_slot : (k : ℕ) (d : Def) → a ≡ 2 ^ 41 + 16 * k → slice_get (kept_classes (typed g)) k ≡ Some d → (row : Vec (Option (Vec ℕ)))
          → slice_get g.choices.symbols.items d.place ≡ Some row → (o : Option (Option (Vec ℕ))) → slice_get row.items slot ≡ o
          → numbered_by (symbol_in o) ≡ Some n → ClassHit a slot n
      by_slot k d place there row is None at e = absurd cc
      by_slot k d place there row is (Some None) at e = absurd cc
      by_slot k d place there row is (Some (Some name)) at e = record {
        at = k;
        address = place;
        within = slice_get_within (kept_classes (typed g)) k d there;
        symbols = subst (λ (z : List (Option (Vec ℕ))). slot < length z)
            (sym (ap (λ (o : Option Def). unwrap_or (option_and_then (λ (c : Def). rows_at c.place) o) []) there
            ∙ ap (λ (o : Option (Vec (Option (Vec ℕ)))). unwrap_or (option_map (λ (row : Vec (Option (Vec ℕ))). row.items) o) []) is))
            (slice_get_within row.items slot (Some name) at);
        symbol = name.items;
        number = e;
      }

      by_row : (k : ℕ) (d : Def) → a ≡ 2 ^ 41 + 16 * k → slice_get (kept_classes (typed g)) k ≡ Some d → (o : Option (Vec (Option (Vec ℕ))))
          → slice_get g.choices.symbols.items d.place ≡ o
          → numbered_by (symbol_in (option_and_then (λ (row : Vec (Option (Vec ℕ))). slice_get row.items slot) o)) ≡ Some n → ClassHit a slot n
      by_row k d place there None is e = absurd cc
      by_row k d place there (Some row) is e = by_slot k d place there row is (slice_get row.items slot) refl e

      by_bases : (k : ℕ) (d : Def) → a ≡ 2 ^ 41 + 16 * k → slice_get (kept_classes (typed g)) k ≡ Some d → (b : Bool)
          → cond b (numbered_by (name_in g.choices.symbols.items d.place slot)) None ≡ Some n → ClassHit a slot n
      by_bases k d place there true e = by_row k d place there (slice_get g.choices.symbols.items d.place) refl e
      by_bases k d place there false e = absurd cc
