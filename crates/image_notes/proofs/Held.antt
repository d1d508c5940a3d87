-- What a body is held against, where the function and the body are there.
use Rattle.std.proofs.Common.{ℕ, zero, suc, ◌≡◌, ◌∙◌, ◌+◌, ◌<◌, ◌≤◌, inl, inr, refl, ap, sym, subst, Bool, true, false, List, [], ◌∷◌, length, Option, Some, None, arith}
use Rattle.std.proofs.lemmas.Bool.{cases_lt}
use Rattle.std.specs.Prelude.{unwrap_or, option_map, option_and_then, slice_get}
use Rattle.tx_code.specs.declared.body.Body.{Body}
use Rattle.tx_code.specs.declared.linked.ImageFunc.{ImageFunc}
use Rattle.tx_code.specs.declared.image.Image.{Image}
use Rattle.tx_code.specs.Views.{image_view}
use Rattle.tx_code.specs.Images.{ImageView, ImageFuncView, image_func_view}
use Rattle.tx_code.specs.Objects.{BodyView, body_view}
use Rattle.tx_code.specs.Program.{body_in, names_of}
use Rattle.cpp_tree.specs.cpp_types.Typ.{Typ}
use Rattle.src_mean.specs.Linked.{Func}
use Rattle.src_bind.specs.Infos.{info_of}
use Rattle.src_bind.specs.Tables.{Given, linked_of, typed}
use Rattle.body_check.specs.Notes.{Note}
use Rattle.body_check.specs.Linked.{Held}
use Rattle.body_check.specs.Calls.{Checked}
use Rattle.image_links.specs.Books.{no_func, no_body, table_of, func_of, body_of}
use Rattle.image_links.specs.Agreeing.{linked_book}
use Rattle.note_landing.specs.declared.compiled.Compiled.{Compiled}
use Rattle.note_landing.specs.Books.{bounds, HasNotes}
use Rattle.note_landing.specs.Shown.{linked_by, func_by, given_by, image_by, typs_by, notes_by}
use Rattle.symbolic_leaving.specs.declared.source.Source.{Source}
use Rattle.symbolic_leaving.specs.Source.{units_of, func_of as func_at}
use Rattle.symbolic_leaving.proofs.Plain.{func_is}
use Rattle.note_landing.proofs.Shows.{shown_at, none_shown}
use Rattle.body_notes.specs.Checked.{HasNotesBy}
use Rattle.image_notes.specs.Noted.{BothHaveNotes, AllHaveNotes}

module _ (b : Compiled) where
  abbrev held_as : List Note → Func → BodyView → Held
  held_as notes f y = record { number = b.number; safe = b.safe; func = f; body = y; rows = y.rows; notes = notes; table = table_of (image_by b) (linked_by b) (typed (given_by b)) f.unit (typs_by b) }

  pub noted : (linked_by b).func b.number ≡ Some (func_by b) → (names_of (image_by b)).body b.number b.safe ≡ Some (body_view b.body.now) → HasNotesBy b → HasNotes (image_by b) (given_by b) b.number b.safe
  noted f y h = record {
    typs = typs_by b;
    notes = notes_by b h.meaning h.notes;
    checked = λ all types.
        subst (λ z. Checked (linked_by b) bounds (linked_book (image_by b) (given_by b) all types) (held_as (notes_by b h.meaning h.notes) (func_of (linked_by b) b.number) z)) (sym (ap (λ z. unwrap_or z no_body) y))
        (subst (λ z. Checked (linked_by b) bounds (linked_book (image_by b) (given_by b) all types) (held_as (notes_by b h.meaning h.notes) z (body_view b.body.now))) (sym (ap (λ z. unwrap_or z no_func) f))
        (h.checked all types));
  }

-- the function is there
pub func_there : (s : Source) (o : Option Func) → Some (info_of (units_of s) s.info.now) ≡ o → o ≡ Some (func_at s)
func_there s o e = sym e ∙ ap (λ (z : Func). Some z) (sym (func_is s))

-- both bodies of a function
module _ (i : ImageView) (g : Given) (n : ℕ) (f : ImageFunc) where
  pub both_have : ((names_of i).body n false ≡ Some (body_view f.plain) → HasNotes i g n false) → (own : Option Body) → f.safe ≡ own
      → ((b : Body) → own ≡ Some b → (names_of i).body n true ≡ Some (body_view b) → HasNotes i g n true) → BothHaveNotes i g n f
  both_have plain own is safe false body e there = plain (there ∙ sym e)
  both_have plain None is safe true body e there = absurd (none (ap (option_map body_view) (sym is) ∙ e))
    where
      none : None ≡ Some body → ⊥
      none e = cc
  both_have plain (Some b) is safe true body e there = safe b refl (there ∙ sym (ap (option_map body_view) (sym is) ∙ e))

-- where the safe one is there, and where it is not
module _ (i : ImageView) (g : Given) (n : ℕ) (f : ImageFunc) where
  pub both_there : ((names_of i).body n false ≡ Some (body_view f.plain) → HasNotes i g n false) → (b : Body) → f.safe ≡ Some b → ((names_of i).body n true ≡ Some (body_view b) → HasNotes i g n true) → BothHaveNotes i g n f
  both_there plain b is safe = both_have i g n f plain (Some b) is (λ own e there. safe (there ∙ ap (option_map body_view) (sym e)))

  pub plain_alone : ((names_of i).body n false ≡ Some (body_view f.plain) → HasNotes i g n false) → f.safe ≡ None → BothHaveNotes i g n f
  plain_alone plain is = both_have i g n f plain None is (λ own e there. absurd cc)

-- what stands in a list stands before its end
within : {A : Type 0} (xs : List A) (m : ℕ) (x : A) → slice_get xs m ≡ Some x → m < length xs
within [] m x e = absurd cc
within (y ∷ ys) zero x e = omega arith
within (y ∷ ys) (suc m) x e = let h = within ys m x e in omega (arith, h)

-- function by function
module _ (image : Image) (g : Given) where
  abbrev Noted : ℕ → Type 0
  Noted m = (safe : Bool) (body : BodyView) → (names_of (image_view image)).body m safe ≡ Some body → HasNotes (image_view image) g m safe

  more_noted : (n : ℕ) (f : ImageFunc) → slice_get image.funcs.items n ≡ Some f → BothHaveNotes (image_view image) g n f → ((m : ℕ) (safe : Bool) (body : BodyView) → m < n → (names_of (image_view image)).body m safe ≡ Some body → HasNotes (image_view image) g m safe)
      → (m : ℕ) (safe : Bool) (body : BodyView) → m < n + 1 → (names_of (image_view image)).body m safe ≡ Some body → HasNotes (image_view image) g m safe
  more_noted n f here both before m safe body h there = elim (cases_lt m n) [
    | inl a ↦ before m safe body a there
    | inr a ↦
        let e : n ≡ m = omega (arith, h, a) in
        subst Noted e (λ s y own. both s y (sym (ap (λ (z : Option ImageFuncView). option_and_then (λ (w : ImageFuncView). body_in w s) z) (shown_at image_func_view image.funcs.items n f here)) ∙ own) own) safe body there
  ]

  pub more_noted_at : (number n : ℕ) (f : ImageFunc) → BothHaveNotes (image_view image) g number f → number ≡ n → slice_get image.funcs.items n ≡ Some f → ((m : ℕ) (safe : Bool) (body : BodyView) → m < n → (names_of (image_view image)).body m safe ≡ Some body → HasNotes (image_view image) g m safe)
      → (m : ℕ) (safe : Bool) (body : BodyView) → m < n + 1 → (names_of (image_view image)).body m safe ≡ Some body → HasNotes (image_view image) g m safe
  more_noted_at number n f both i here = more_noted n f here (subst (λ z. BothHaveNotes (image_view image) g z f) i both)

  pub all_noted : (n : ℕ) → length image.funcs.items ≤ n → ((m : ℕ) (safe : Bool) (body : BodyView) → m < n → (names_of (image_view image)).body m safe ≡ Some body → HasNotes (image_view image) g m safe) → AllHaveNotes (image_view image) g
  all_noted n long before m safe body there = by_case (slice_get image.funcs.items m) refl
    where
      by_case : (o : Option ImageFunc) → slice_get image.funcs.items m ≡ o → HasNotes (image_view image) g m safe
      by_case None e = absurd (none (sym (ap (λ (z : Option ImageFuncView). option_and_then (λ (w : ImageFuncView). body_in w safe) z) (none_shown image_func_view image.funcs.items m e)) ∙ there))
        where
          none : None ≡ Some body → ⊥
          none e = cc
      by_case (Some f) e =
          let h = within image.funcs.items m f e in
          before m safe body (omega (arith, h, long)) there
