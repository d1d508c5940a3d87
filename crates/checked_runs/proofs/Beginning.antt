-- Threads begin where their functions can be the first of one.
use Rattle.std.proofs.Common.{ℕ, ◌≡◌, ◌==◌, ◌+◌, ◌*◌, ◌≤◌, Bool, true, false, refl, sym, ◌∙◌, subst, List, [], ◌∷◌, arith}
use Rattle.std.specs.Prelude.{nat_lt, length}
use Rattle.std.proofs.lemmas.Bool.{ltb-true}
use Rattle.tx_events.specs.Memory.{stacks_start, stack_stride, stack_size}
use Rattle.tx_code.specs.Meaning.{Names}
use Rattle.src_mean.specs.Linked.{Program}
use Rattle.body_check.specs.Notes.{Bounds}
use Rattle.body_check.specs.Calls.{Book, Links, Begins}
use Rattle.checked_runs.specs.Beginnings.{AllBegin, CanBegin, CanStart}

not_below : (a b : ℕ) → b ≤ a → (z : Bool) → nat_lt a b ≡ z → nat_lt a b ≡ false
not_below a b h true e = let l = ltb-true a b e in let no : ⊥ = omega (arith, l, h) in absurd no
not_below a b h false e = e

fits_stack : (start size : ℕ) → size ≤ 65536 → nat_lt (start + 65536) (start + size) ≡ false
fits_stack start size h = not_below (start + 65536) (start + size) (omega (arith, h)) (nat_lt (start + 65536) (start + size)) refl

module _ (p : Program) (names : Names) (b : Bounds) (book : Book) (links : Links p names b book) (can : CanStart p names book) where
  begins : (id n : ℕ) (words : List ℕ) (gives : Bool) → gives ≡ (id == 0) → CanBegin names book n gives (length words) → Begins p names book id n words
  begins id n words gives e c = record {
    body = c.body;
    there = c.there;
    gives = c.gives_so ∙ e;
    takes = c.takes_so;
    starts = can.stacks.starts id;
    ends = can.stacks.ends id;
    room = fits_stack (stacks_start + stack_stride * id) (book.held n false).func.size (subst (λ z. z ≤ stack_size) (links.frames n false) c.room);
  }

  pub all_begin : AllBegin p names book
  all_begin = record {
    main = begins 0 p.main [] true refl can.main;
    started = λ address n found id word other. begins id n (word ∷ []) false (sym other) (can.started address n found);
  }
