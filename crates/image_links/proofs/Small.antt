-- The addresses of a program that agrees with an image are numbers of 64 bits.
use Rattle.std.proofs.Common.{ℕ, zero, suc, ◌≡◌, ◌+◌, ◌*◌, ◌^◌, ◌<◌, ◌≤◌, Bool, true, false, cond, refl, subst, List, [], ◌∷◌, length, Option, Some, None}
use Rattle.std.proofs.Common.{arith, map}
use Rattle.std.specs.Prelude.{slice_get, unwrap_or, option_map, option_and_then}
use Rattle.tx_code.specs.Images.{ImageView}
use Rattle.cpp_tree.specs.Units.{Func as UnitFunc, Global}
use Rattle.cpp_layout.specs.Layout.{next_multiple}
use Rattle.src_mean.specs.Links.{Def, kept_funcs, kept_classes, kept_globals, number_in, number_if, number_of_symbol, same_def, def_of_func, def_of_global}
use Rattle.src_mean.specs.Links.{func_at, global_at, global_size, global_offsets, globals_end, class_name}
use Rattle.src_bind.specs.Tables.{Given, CanBind, typed, linked_of}
use Rattle.src_bind.proofs.Stay.{end_within}
use Rattle.symbolic_source.specs.Small.{IsSmall}
use Rattle.image_links.specs.Agreeing.{agrees}
use Rattle.image_links.proofs.Looked.{linked_slot_found}
use Rattle.image_links.proofs.Agreed.{funcs_counted, funcs_few, classes_counted, classes_few}

number_within : (d : Def) (ds : List Def) → number_in d ds ≤ length ds
number_within d [] = omega arith
number_within d (e ∷ es) = by_test (same_def d e) (number_within d es)
  where
    by_test : (b : Bool) → number_in d es ≤ length es → cond b 0 (suc (number_in d es)) ≤ suc (length es)
    by_test true h = omega arith
    by_test false h = omega (arith, h)

offset_within : (from : ℕ) (ss : List ℕ) (k o : ℕ) → slice_get (global_offsets from ss) k ≡ Some o → o ≤ globals_end from ss
offset_within from [] k o e = absurd cc
offset_within from (s ∷ ss) zero o e =
    let same : next_multiple from 8 ≡ o = cc in
    let h = end_within (next_multiple from 8 + s) ss in
    omega (arith, same, h)
offset_within from (s ∷ ss) (suc k) o e = offset_within (next_multiple from 8 + s) ss k o e

module _ (i : ImageView) (g : Given) (h : agrees i g ≡ true) (can : CanBind (typed g)) where
  func_number_within : (u n : ℕ) → (linked_of g).number u n ≤ 4294967295
  func_number_within u n = by_func (func_at (typed g) u n)
    where
      few : (m : ℕ) → m ≤ length (kept_funcs (typed g)) → m ≤ 4294967295
      few m l = let c = funcs_counted i g h in let f = funcs_few i g h in omega (arith, l, c, f)

      by_func : (o : Option UnitFunc) → unwrap_or (option_map (λ (f : UnitFunc). number_in (def_of_func u n f) (kept_funcs (typed g))) o) 0 ≤ 4294967295
      by_func None = omega arith
      by_func (Some f) = few (number_in (def_of_func u n f) (kept_funcs (typed g))) (number_within (def_of_func u n f) (kept_funcs (typed g)))

  global_within : (u n : ℕ) → (linked_of g).global u n ≤ 1114112
  global_within u n = by_global (global_at (typed g) u n)
    where
      by_offset : (o : Option ℕ) (k : ℕ) → slice_get (global_offsets 0 (map (global_size (typed g)) (kept_globals (typed g)))) k ≡ o
          → 65536 + unwrap_or o 0 ≤ 1114112
      by_offset None k e = omega arith
      by_offset (Some o) k e =
          let w = offset_within 0 (map (global_size (typed g)) (kept_globals (typed g))) k o e in
          let r = can.room in
          most o (globals_end 0 (map (global_size (typed g)) (kept_globals (typed g)))) w r
        where
          most : (o end : ℕ) → o ≤ end → end ≤ 1048576 → 65536 + o ≤ 1114112
          most o end w r = omega (arith, w, r)

      by_global : (o : Option Global) → 65536 + unwrap_or
          (option_and_then (λ (x : Global). slice_get (global_offsets 0 (map (global_size (typed g)) (kept_globals (typed g))))
          (number_in (def_of_global u n x) (kept_globals (typed g)))) o) 0 ≤ 1114112
      by_global None = omega arith
      by_global (Some x) = by_offset (slice_get (global_offsets 0 (map (global_size (typed g)) (kept_globals (typed g))))
          (number_in (def_of_global u n x) (kept_globals (typed g)))) (number_in (def_of_global u n x) (kept_globals (typed g))) refl

  table_within : (c : ℕ) → (linked_of g).table c ≤ 2 ^ 41 + 16 * 4294967295
  table_within c =
      let w = number_within (record { unit = 0; place = 0; symbol = class_name (typed g).classes c; internal = false }) (kept_classes (typed g)) in
      most (number_in (record { unit = 0; place = 0; symbol = class_name (typed g).classes c; internal = false }) (kept_classes (typed g)))
      (length (kept_classes (typed g))) (length i.classes) w (classes_counted i g h) (classes_few i g h)
    where
      most : (n m l : ℕ) → n ≤ m → l ≡ m → l ≤ 4294967295 → 2 ^ 41 + 16 * n ≤ 2 ^ 41 + 16 * 4294967295
      most n m l w c f = omega (arith, w, c, f)

  symbol_within : (symbol : List ℕ) (n : ℕ) → number_of_symbol symbol (kept_funcs (typed g)) ≡ Some n → n ≤ 4294967295
  symbol_within symbol n e = by_test _ e
    where
      few : (m : ℕ) → m ≤ length (kept_funcs (typed g)) → m ≤ 4294967295
      few m l = let c = funcs_counted i g h in let f = funcs_few i g h in omega (arith, l, c, f)

      by_test : (b : Bool) → number_if b (number_in (record { unit = 0; place = 0; symbol = symbol; internal = false }) (kept_funcs (typed g))) ≡ Some n
          → n ≤ 4294967295
      by_test true e =
          let same : number_in (record { unit = 0; place = 0; symbol = symbol; internal = false }) (kept_funcs (typed g)) ≡ n = cc in
          subst (λ z. z ≤ 4294967295) same (few _ (number_within (record { unit = 0; place = 0; symbol = symbol; internal = false }) (kept_funcs (typed g))))
      by_test false e = absurd cc

  address_small : (n : ℕ) → n ≤ 4294967295 → 2 ^ 40 + 16 * n < 2 ^ 64
  address_small n l = omega (arith, l)

  pub small_where_agreed : IsSmall (linked_of g)
  small_where_agreed = record {
    globals = λ u n. low ((linked_of g).global u n) (global_within u n);
    functions = λ u n. address_small ((linked_of g).number u n) (func_number_within u n);
    tables = λ c. table_low ((linked_of g).table c) (table_within c);
    slots = λ a c s n e. address_small n (let hit = linked_slot_found g a c s n e in symbol_within hit.symbol n hit.number);
  }
    where
      low : (n : ℕ) → n ≤ 1114112 → n < 2 ^ 64
      low n l = omega (arith, l)

      table_low : (n : ℕ) → n ≤ 2 ^ 41 + 16 * 4294967295 → n < 2 ^ 64
      table_low n l = omega (arith, l)
