-- A thread of a sound image is lawful and never lost.
use Rattle.std.proofs.Common.{Bool, true, false, ◌≡◌, ◌<◌, ℕ, zero, suc, ℤ, List, [], ◌∷◌, map, length, Option, Some, None, refl, sym, ap, ◌∙◌, subst, arith}
use Rattle.std.specs.Prelude.{slice_get, nat_lt, nat_le, ◌||◌}
use Rattle.std.specs.Option.{option_map, option_map_or, option_and_then}
use Rattle.std.specs.Str.{bytes_eq}
use Rattle.std.specs.Cmp.Lexicographic.{same_text}
use Rattle.std.proofs.lemmas.Bool.{true≢false, ltb-true}
use Rattle.tx_events.specs.declared.BlockKind.{BlockKind}
use Rattle.tx_events.specs.declared.BlockKind.TheVariants.{NoExcept, Commit, Cancel}
use Rattle.tx_events.specs.declared.Event.TheVariants.{Raise, EndSync as EndSyncOf, Spawn as SpawnOf}
use Rattle.tx_events.specs.declared.Reply.{Reply}
use Rattle.tx_events.specs.Thread.{Open, Answers, Lawful, in_kind, is_empty, may_come, blocks_after}
use Rattle.tx_events.specs.Same.{Descends, at_first, went_on, started}
use Rattle.tx_code.specs.declared.body.Row.{Row}
use Rattle.tx_code.specs.Images.{ImageFuncView, ImageView, IsImage, main_type}
use Rattle.tx_code.specs.Signatures.{takes_of, gives_of}
use Rattle.tx_code.specs.Renaming.{itself, renamed, renamed_row}
use Rattle.tx_code.specs.Meaning.{Names, Flying, Exception, Home, Nest, Frame, State, Runs, Unwinds, Act, Does, Ends, Lost, at, nested, holding, closing}
use Rattle.tx_code.specs.Meaning.{catching, blocks_in, blocks_of, first_frame, covers, find, cut, act, row_act, leave_act, unwind_act, code_of, rows_of, fetch}
use Rattle.tx_code.specs.Meaning.{rows_in, step_act, starts, event_of, state_after, thread}
use Rattle.tx_code.specs.Program.{body_in, names_of, first_state}
use Rattle.tx_code.specs.Shapes.{Empty, Shape, shape, Table, landed, Reaches, enters}
use Rattle.tx_code.specs.Sound.{signature, table_of, edge_right, has_edge, Sound}
use Rattle.tx_code.specs.InShape.{shape_of, Spot, ReachesAt, Ready, Lands, Unwindable, Below, InShape, IsLost}
use Rattle.tx_code.proofs.ReachedIndexes.{instr_at}
use Rattle.tx_code.proofs.OwnBodies.{same_instr, same_row}
use Rattle.tx_code.proofs.SaneSteps.{kind_front, sync_front, rest_kind, rest_sync, none_open, cut_length, find_some, find_none, Startable, Sane, quiet, event}
use Rattle.tx_code.proofs.SaneSteps.{there_sane, if_sane, spot_sound, no_start}
use Rattle.tx_code.proofs.SaneInstructions.{act_sane}

pub rows_itself : (rs : List Row) → map (renamed_row itself) rs ≡ rs
rows_itself [] = refl
rows_itself (r ∷ rs) = ap (λ z. z ∷ map (renamed_row itself) rs) (same_row r) ∙ ap (λ z. r ∷ z) (rows_itself rs)

-- the type of `main` takes no words
takes_main : takes_of main_type ≡ 0
unfolding takes_of
takes_main = refl

module _ (i : ImageView) (sound : Sound i) where
  abbrev x : Names
  x = names_of i

  abbrev t : Table
  t = table_of i

  pub body_here : (h : Home) (spot : Spot i h) → x.body h.func h.safe ≡ Some spot.body
  body_here h spot = ap (λ o. option_and_then (λ (g : ImageFuncView). body_in g h.safe) o) spot.is ∙ spot.has

  -- ---- unwinding

  module _ (e : Exception) (f : Frame) (rest : List Frame) (under : Below i (t.gives f.home.func) f.home.safe rest) where
    abbrev bs : List Open
    bs = blocks_in (f ∷ rest)

    lands_in : (spot : Spot i f.home) (n : Nest) (target d : ℕ) → nat_le d (length f.words) ≡ true
        → ReachesAt i f.home spot target (shape_of (nested f n target (cut d f.words))) → InShape i (Runs (nested f n target (cut d f.words)) rest)
    lands_in spot n target d depth reached = (record { spot = spot; reached = reached }, under)

    with_cut : (spot : Spot i f.home) (n : Nest) (target d : ℕ) → nat_le d (length f.words) ≡ true
        → ((m : ℕ) → m ≡ d → ReachesAt i f.home spot target
        (record { depth = m; opens = n.opens; handlers = length n.caught; hand = Rattle.tx_code.specs.InShape.hand_of n.held }))
        → InShape i (Runs (nested f n target (cut d f.words)) rest)
    with_cut spot n target d depth reached = lands_in spot n target d depth (reached (length (cut d f.words)) (cut_length d f.words depth))

    at_depth : (spot : Spot i f.home) (target d m : ℕ) (s : ℕ → Shape) → m ≡ d → ReachesAt i f.home spot target (s d) → ReachesAt i f.home spot target (s m)
    at_depth spot target d m s h r = subst (λ z. ReachesAt i f.home spot target (s z)) (sym h) r

    edge_sane : (k : BlockKind) (c : Bool) (spot : Spot i f.home) (target d : ℕ) → nat_le d (length f.words) ≡ true → in_kind k f.nest.opens ≡ true
        → ReachesAt i f.home spot target (landed 3 d f.nest.opens (length f.nest.caught))
        → Sane i sound bs (Rattle.tx_code.specs.Meaning.edge_act (Raise k c) target (cut d f.words) e f rest)
    edge_sane k c spot target d depth edge reached = event i sound bs (Raise k c) _ (kind_front k f.nest.opens (blocks_in rest) edge) refl
        (with_cut spot (holding (closing f.nest) (Flying e)) target d depth
        (λ m h. at_depth spot target d m (λ z. landed 3 z f.nest.opens (length f.nest.caught)) h reached)) (rest_kind k f.nest.opens (blocks_in rest) edge)

    row_sane : (w : ℕ) (spot : Spot i f.home) (target d : ℕ) → nat_le d (length f.words) ≡ true → edge_right w f.nest.opens ≡ true → nat_lt w 7 ≡ true
        → ReachesAt i f.home spot target (landed w d f.nest.opens (length f.nest.caught)) → Sane i sound bs (row_act x w target (cut d f.words) e f rest)
    row_sane zero spot target d depth edge known reached =
        quiet i sound bs _ (with_cut spot (holding f.nest (Flying e)) target d depth
        (λ m h. at_depth spot target d m (λ z. landed 0 z f.nest.opens (length f.nest.caught)) h reached)) refl
    row_sane (suc zero) spot target d depth edge known reached =
        quiet i sound bs _ (with_cut spot (catching f.nest e) target d depth
        (λ m h. at_depth spot target d m (λ z. landed 1 z f.nest.opens (length f.nest.caught)) h reached)) refl
    row_sane (suc (suc zero)) spot target d depth edge known reached =
        quiet i sound bs _ (with_cut spot (catching f.nest e) target d depth
        (λ m h. at_depth spot target d m (λ z. landed 1 z f.nest.opens (length f.nest.caught)) h reached)) refl
    row_sane (suc (suc (suc zero))) spot target d depth edge known reached = edge_sane NoExcept (x.cancels e.ty) spot target d depth edge reached
    row_sane (suc (suc (suc (suc zero)))) spot target d depth edge known reached = edge_sane Commit (x.cancels e.ty) spot target d depth edge reached
    row_sane (suc (suc (suc (suc (suc zero))))) spot target d depth edge known reached = edge_sane Cancel (x.cancels e.ty) spot target d depth edge reached
    row_sane (suc (suc (suc (suc (suc (suc zero)))))) spot target d depth edge known reached =
        event i sound bs EndSyncOf _ (sync_front f.nest.opens (blocks_in rest) edge) refl
        (with_cut spot (holding (closing f.nest) (Flying e)) target d depth
        (λ m h. at_depth spot target d m (λ z. landed 3 z f.nest.opens (length f.nest.caught)) h reached)) (rest_sync f.nest.opens (blocks_in rest) edge)
    row_sane (suc (suc (suc (suc (suc (suc (suc n))))))) spot target d depth edge known reached = let l : suc (suc (suc (suc (suc (suc (suc n)))))) < 7 =
        ltb-true (suc (suc (suc (suc (suc (suc (suc n))))))) 7 known in let no : ⊥ = omega arith in absurd no

    leave_sane : (gs : List Frame) → Below i (t.gives f.home.func) f.home.safe gs → is_empty f.nest.opens ≡ true
        → Sane i sound (blocks_in (f ∷ gs)) (leave_act x e f gs)
    leave_sane [] b h = record { comes = refl; blocks = refl; no_spawn = refl }
    leave_sane (g ∷ gs) b h = if_sane i sound (blocks_in (f ∷ g ∷ gs)) (x.no_except f.home.func) _ _ (record { comes = refl; blocks = refl; no_spawn = refl })
        (quiet i sound (blocks_in (f ∷ g ∷ gs)) _ (b.0.unwinds, b.2) (none_open f.nest.opens (blocks_in (g ∷ gs)) h))

    unwind_sane : (u : Unwindable i f) (o : Option Row) → find u.spot.body.rows f.index e.ty ≡ o → Sane i sound bs (unwind_act x o e f rest)
    unwind_sane u None h = leave_sane rest under (shut (is_empty f.nest.opens) (has_edge u.spot.body.rows f.index)
        (find_none u.spot.body.rows f.index e.ty h) u.edge) where
          shut : (b c : Bool) → c ≡ false → (b || c) ≡ true → b ≡ true
          shut true c e h = refl
          shut false c e h = absurd (true≢false (sym h ∙ e))
    unwind_sane u (Some r) h =
        let m = find_some u.spot.body.rows f.index e.ty r h in
        let l = u.rows r m.0 m.1 in
        row_sane r.what u.spot r.target r.depth l.depth l.edge l.known l.reached

  -- ---- each step

  step_sane : (s : State) → InShape i s → Sane i sound (blocks_of s) (step_act x s)
  step_sane (Runs f rest) h =
      let a = instr_at t (signature h.0.spot.func.ty) f.home.safe h.0.spot.body (spot_sound i sound f.home h.0.spot) h.0.reached in
      there_sane i sound (blocks_in (f ∷ rest)) (fetch x f.home f.index) Lost _ a.0
      (ap (λ o. option_map (renamed itself) (slice_get (code_of o) f.index)) (body_here f.home h.0.spot) ∙ ap (option_map (renamed itself)) a.1
      ∙ ap Some (same_instr a.0)) (act_sane i sound f rest h.0 h.1 a.0 a.1)
  step_sane (Unwinds e f rest) h = unwind_sane e f rest h.1 h.0 _
      (sym (ap (λ rs. find rs f.index e.ty) (ap (λ o. map (renamed_row itself) (rows_of o)) (body_here f.home h.0.spot) ∙ rows_itself h.0.spot.body.rows)))

  goes_well : (bs : List Open) (s : State) (a : Act) (r : Reply) → Sane i sound bs a → InShape i s → Answers (event_of a) r → InShape i (state_after s a r)
  goes_well blocks s (Does e on) r h k c = h.goes_on r c
  goes_well blocks s (Ends e) r h k c = k
  goes_well blocks s Lost r h k c = absurd h

  comes_well : (bs : List Open) (a : Act) → Sane i sound bs a → may_come (event_of a) bs ≡ true
  comes_well blocks (Does e on) h = h.comes
  comes_well blocks (Ends e) h = h.comes
  comes_well blocks Lost h = absurd h

  blocks_well : (s : State) (a : Act) (r : Reply) → Sane i sound (blocks_of s) a → Answers (event_of a) r
      → blocks_of (state_after s a r) ≡ blocks_after (event_of a) (blocks_of s)
  blocks_well s (Does e on) r h c = h.blocks r c
  blocks_well s (Ends e) r h c = h.blocks
  blocks_well s Lost r h c = absurd h

  starts_well : (bs : List Open) (a : Act) (func : ℕ) (arg : ℤ) → Sane i sound bs a → event_of a ≡ SpawnOf func arg → Startable i sound func
  starts_well blocks (Does e on) func arg h s = h.starts func arg s
  starts_well blocks (Ends e) func arg h s = no_start i sound e h.no_spawn func arg s
  starts_well blocks Lost func arg h s = absurd h

  -- a thread at the start of a function that takes these words
  start_in : (number func : ℕ) (ws : List ℕ) (g : ImageFuncView) → slice_get i.funcs func ≡ Some g → takes_of g.ty ≡ length ws
      → InShape i (starts x number func ws)
  start_in number func ws g is e = (
    record {
      spot = record { func = g; is = is; body = g.plain; has = refl };
      reached = subst (λ n. Reaches t (gives_of g.ty) g.plain (shape (takes_of g.ty) [] 0 Empty) 0 (shape n [] 0 Empty)) e enters;
    },
    tt,
  )

  pub lawful : Lawful State (InShape i) (thread x)
  lawful = record {
    goes_on = λ s r h c. goes_well (blocks_of s) s (step_act x s) r (step_sane s h) h c;
    starts = λ s number func arg h e. let g = starts_well (blocks_of s) (step_act x s) func arg (step_sane s h) e in
        start_in number func _ g.view g.is g.takes_one;
    starts_free = λ s number func arg h e. refl;
    comes = λ s h. comes_well (blocks_of s) (step_act x s) (step_sane s h);
    blocks = λ s r h c. blocks_well s (step_act x s) r (step_sane s h) c;
  }

  main_is : (o : Option ImageFuncView) → slice_get i.funcs i.main ≡ o → option_map_or (λ (g : ImageFuncView). bytes_eq g.ty main_type) o false ≡ true
      → InShape i (first_state i)
  main_is None e h = absurd (true≢false (sym h))
  main_is (Some g) e h = start_in 0 i.main [] g e (ap takes_of (same_text g.ty main_type (sym h)) ∙ takes_main)

  pub first_in : IsImage i → InShape i (first_state i)
  first_in image = main_is (slice_get i.funcs i.main) refl image.starts

  never_lost : (bs : List Open) (a : Act) → Sane i sound bs a → a ≡ Lost → ⊥
  never_lost bs a h e = subst (Sane i sound bs) e h

  pub not_lost : (s : State) → InShape i s → IsLost i s → ⊥
  not_lost s h e = never_lost (blocks_of s) (step_act x s) (step_sane s h) e

  pub in_shape : IsImage i → {s : State} → Descends (thread x) (first_state i) s → InShape i s
  in_shape image at_first = first_in image
  in_shape image (went_on {s} r d c) = lawful.goes_on s r (in_shape image d) c
  in_shape image (started {s} number func arg d e) = lawful.starts s number func arg (in_shape image d) e
