-- The worlds worked out by hand.
use Rattle.std.proofs.Common.{ℕ, pos, negsuc, ◌≡◌, refl, subst, true, List, [], ◌∷◌, Some, None}
use Rattle.std.proofs.lemmas.Bool.{false≢true}
use Rattle.tx_events.specs.declared.End.TheVariants.{Exit, Abort, Trapped}
use Rattle.tx_events.specs.declared.Trap.TheVariants.{BadAddress, TooManyThreads, BadJoin}
use Rattle.tx_events.specs.declared.Event.{Event}
use Rattle.tx_events.specs.declared.Event.TheVariants.{Load, Join, Spawn}
use Rattle.tx_events.specs.Memory.{with_cells, no_bytes, can_access, is_mapped, is_aligned, word_of, read_at, merge, byte_at}
use Rattle.tx_events.specs.Alone.{at_start, goes_on}
use Rattle.tx_events.specs.World.{World, Step, Replays, none, one_more}
use Rattle.tx_events.specs.Script.{Cursor, script}
use Rattle.tx_events.specs.Examples.{LeadsTo, Waits, layout, start, no_change, committing, cancelling, aborting, failing, sharing, locking, talking, Hears}
use Rattle.tx_events.specs.Examples.{asking, asking_inside, cells, first_bytes}
use Rattle.tx_events.specs.declared.Reply.TheVariants.{Nothing, Loaded, Byte, Id}
use Rattle.tx_events.proofs.OneReplay.{same_replays, refused, ended_thread}

pub talks : LeadsTo talking (7 ∷ 9 ∷ []) (0 ∷ 0 ∷ 0 ∷ 0 ∷ 0 ∷ 0 ∷ []) no_change (72 ∷ 73 ∷ 74 ∷ []) [] None
unfolding byte_at word_of
talks = record {
  world = _;
  replays = (
    _,
    record { going = refl; from = _; before = _; is = refl; silents = none; does = refl },
    (
      _,
      record { going = refl; from = _; before = _; is = refl; silents = none; does = refl },
      (
        _,
        record { going = refl; from = _; before = _; is = refl; silents = none; does = refl },
        (
          _,
          record { going = refl; from = _; before = _; is = refl; silents = none; does = refl },
          (
            _,
            record { going = refl; from = _; before = _; is = refl; silents = none; does = refl },
            (
              _,
              record { going = refl; from = _; before = _; is = refl; silents = none; does = refl },
              refl,
            ),
          ),
        ),
      ),
    ),
  );
  bytes_are = refl;
  out_is = refl;
  left_is = refl;
  end_is = refl;
}

pub commits : LeadsTo committing [] (0 ∷ 0 ∷ 0 ∷ []) (2 ∷ 1 ∷ 0 ∷ 0 ∷ 6 ∷ 5 ∷ 4 ∷ 3 ∷ []) (65 ∷ []) [] (Some (Exit (pos 3)))
unfolding byte_at word_of can_access is_mapped is_aligned merge read_at
commits = record {
  world = _;
  replays = (
    _,
    record {
      going = refl;
      from = _;
      before = _;
      is = refl;
      silents = one_more none refl;
      does =
          (refl, record { last = _; run = goes_on (goes_on (goes_on (goes_on (goes_on at_start refl) refl) refl) refl) refl; over = refl }, refl);
    },
    (
      _,
      record { going = refl; from = _; before = _; is = refl; silents = none; does = refl },
      (
        _,
        record { going = refl; from = _; before = _; is = refl; silents = none; does = refl },
        refl,
      ),
    ),
  );
  bytes_are = refl;
  out_is = refl;
  left_is = refl;
  end_is = refl;
}

pub cancels : LeadsTo cancelling [] (0 ∷ 0 ∷ []) (1 ∷ 0 ∷ 4 ∷ 5 ∷ 0 ∷ 0 ∷ 0 ∷ 0 ∷ []) [] [] None
unfolding byte_at word_of can_access is_mapped is_aligned merge read_at
cancels = record {
  world = _;
  replays = (
    _,
    record {
      going = refl;
      from = _;
      before = _;
      is = refl;
      silents = none;
      does = (
        refl,
        record { last = _; run = goes_on (goes_on (goes_on (goes_on (goes_on (goes_on at_start refl) refl) refl) refl) refl) refl; over = refl },
        refl,
      );
    },
    (
      _,
      record { going = refl; from = _; before = _; is = refl; silents = none; does = refl },
      refl,
    ),
  );
  bytes_are = refl;
  out_is = refl;
  left_is = refl;
  end_is = refl;
}

pub aborts : LeadsTo aborting [] (0 ∷ []) no_change [] [] (Some Abort)
unfolding byte_at word_of can_access is_mapped is_aligned merge read_at
aborts = record {
  world = _;
  replays = (
    _,
    record { going = refl; from = _; before = _; is = refl; silents = none; does = (refl, record { last = _; run = at_start; over = refl }, refl) },
    refl,
  );
  bytes_are = refl;
  out_is = refl;
  left_is = refl;
  end_is = refl;
}

pub fails : LeadsTo failing [] (0 ∷ []) no_change [] [] (Some Abort)
unfolding byte_at word_of can_access is_mapped is_aligned merge read_at
fails = record {
  world = _;
  replays = (
    _,
    record {
      going = refl;
      from = _;
      before = _;
      is = refl;
      silents = none;
      does =
          (refl, record { last = _; run = goes_on at_start refl; over = refl }, refl);
    },
    refl,
  );
  bytes_are = refl;
  out_is = refl;
  left_is = refl;
  end_is = refl;
}

pub shares : LeadsTo sharing [] (0 ∷ 0 ∷ 0 ∷ 0 ∷ 1 ∷ 1 ∷ 1 ∷ 1 ∷ 0 ∷ 0 ∷ []) (1 ∷ 2 ∷ 3 ∷ 4 ∷ 5 ∷ 6 ∷ 0 ∷ 0 ∷ []) [] [] (Some (Exit (pos 0)))
unfolding byte_at word_of can_access is_mapped is_aligned merge read_at
shares = record {
  world = _;
  replays = (
    _,
    record { going = refl; from = _; before = _; is = refl; silents = none; does = refl },
    (
      _,
      record { going = refl; from = _; before = _; is = refl; silents = none; does = (refl, refl) },
      (
        _,
        record { going = refl; from = _; before = _; is = refl; silents = none; does = refl },
        (
          _,
          record { going = refl; from = _; before = _; is = refl; silents = none; does = refl },
          (
            _,
            record {
              going = refl;
              from = _;
              before = _;
              is = refl;
              silents = none;
              does =
                  (refl, record { last = _; run = goes_on at_start refl; over = refl }, refl);
            },
            (
              _,
              record { going = refl; from = _; before = _; is = refl; silents = none; does = (refl, refl) },
              (
                _,
                record { going = refl; from = _; before = _; is = refl; silents = none; does = refl },
                (
                  _,
                  record { going = refl; from = _; before = _; is = refl; silents = none; does = refl },
                  (
                    _,
                    record { going = refl; from = _; before = _; is = refl; silents = none; does = (refl, refl) },
                    (
                      _,
                      record { going = refl; from = _; before = _; is = refl; silents = none; does = refl },
                      refl,
                    ),
                  ),
                ),
              ),
            ),
          ),
        ),
      ),
    ),
  );
  bytes_are = refl;
  out_is = refl;
  left_is = refl;
  end_is = refl;
}

pub joins_first : LeadsTo (Join (pos 0) ∷ []) [] (0 ∷ []) no_change [] [] (Some (Trapped BadJoin))
unfolding byte_at word_of can_access is_mapped is_aligned merge read_at
joins_first = record {
  world = _;
  replays = (
    _,
    record { going = refl; from = _; before = _; is = refl; silents = none; does = refl },
    refl,
  );
  bytes_are = refl;
  out_is = refl;
  left_is = refl;
  end_is = refl;
}

pub joins_negative : LeadsTo (Join (negsuc 0) ∷ []) [] (0 ∷ []) no_change [] [] (Some (Trapped BadJoin))
unfolding byte_at word_of can_access is_mapped is_aligned merge read_at
joins_negative = record {
  world = _;
  replays = (
    _,
    record { going = refl; from = _; before = _; is = refl; silents = none; does = refl },
    refl,
  );
  bytes_are = refl;
  out_is = refl;
  left_is = refl;
  end_is = refl;
}

pub joins_unstarted : LeadsTo (Join (pos 1) ∷ []) [] (0 ∷ []) no_change [] [] (Some (Trapped BadJoin))
unfolding byte_at word_of can_access is_mapped is_aligned merge read_at
joins_unstarted = record {
  world = _;
  replays = (
    _,
    record { going = refl; from = _; before = _; is = refl; silents = none; does = refl },
    refl,
  );
  bytes_are = refl;
  out_is = refl;
  left_is = refl;
  end_is = refl;
}

pub joins_own : LeadsTo (Spawn 1 (pos 0) ∷ Join (pos 1) ∷ []) [] (0 ∷ 1 ∷ []) no_change [] [] (Some (Trapped BadJoin))
unfolding byte_at word_of can_access is_mapped is_aligned merge read_at
joins_own = record {
  world = _;
  replays = (
    _,
    record { going = refl; from = _; before = _; is = refl; silents = none; does = refl },
    (
      _,
      record { going = refl; from = _; before = _; is = refl; silents = none; does = refl },
      refl,
    ),
  );
  bytes_are = refl;
  out_is = refl;
  left_is = refl;
  end_is = refl;
}

pub traps_below : LeadsTo (Load 65535 1 true ∷ []) [] (0 ∷ []) no_change [] [] (Some (Trapped BadAddress))
unfolding byte_at word_of can_access is_mapped is_aligned merge read_at
traps_below = record {
  world = _;
  replays = (
    _,
    record { going = refl; from = _; before = _; is = refl; silents = none; does = refl },
    refl,
  );
  bytes_are = refl;
  out_is = refl;
  left_is = refl;
  end_is = refl;
}

pub traps_above : LeadsTo (Load 65552 1 true ∷ []) [] (0 ∷ []) no_change [] [] (Some (Trapped BadAddress))
unfolding byte_at word_of can_access is_mapped is_aligned merge read_at
traps_above = record {
  world = _;
  replays = (
    _,
    record { going = refl; from = _; before = _; is = refl; silents = none; does = refl },
    refl,
  );
  bytes_are = refl;
  out_is = refl;
  left_is = refl;
  end_is = refl;
}

pub traps_misaligned : LeadsTo (Load 65540 8 true ∷ []) [] (0 ∷ []) no_change [] [] (Some (Trapped BadAddress))
unfolding byte_at word_of can_access is_mapped is_aligned merge read_at
traps_misaligned = record {
  world = _;
  replays = (
    _,
    record { going = refl; from = _; before = _; is = refl; silents = none; does = refl },
    refl,
  );
  bytes_are = refl;
  out_is = refl;
  left_is = refl;
  end_is = refl;
}

pub traps_between : LeadsTo (Load 16842752 1 true ∷ []) [] (0 ∷ []) no_change [] [] (Some (Trapped BadAddress))
unfolding byte_at word_of can_access is_mapped is_aligned merge read_at
traps_between = record {
  world = _;
  replays = (
    _,
    record { going = refl; from = _; before = _; is = refl; silents = none; does = refl },
    refl,
  );
  bytes_are = refl;
  out_is = refl;
  left_is = refl;
  end_is = refl;
}

pub traps_beyond : LeadsTo (Load 17039360 1 true ∷ []) [] (0 ∷ []) no_change [] [] (Some (Trapped BadAddress))
unfolding byte_at word_of can_access is_mapped is_aligned merge read_at
traps_beyond = record {
  world = _;
  replays = (
    _,
    record { going = refl; from = _; before = _; is = refl; silents = none; does = refl },
    refl,
  );
  bytes_are = refl;
  out_is = refl;
  left_is = refl;
  end_is = refl;
}

pub reads_stack : LeadsTo (Load 16973816 8 true ∷ []) [] (0 ∷ []) no_change [] [] None
unfolding byte_at word_of can_access is_mapped is_aligned merge read_at
reads_stack = record {
  world = _;
  replays = (
    _,
    record { going = refl; from = _; before = _; is = refl; silents = none; does = refl },
    refl,
  );
  bytes_are = refl;
  out_is = refl;
  left_is = refl;
  end_is = refl;
}

pub traps_many : LeadsTo (Spawn 0 (pos 0) ∷ []) [] (0 ∷ 1 ∷ []) no_change [] [] (Some (Trapped TooManyThreads))
unfolding byte_at word_of can_access is_mapped is_aligned merge read_at
traps_many = record {
  world = _;
  replays = (
    _,
    record { going = refl; from = _; before = _; is = refl; silents = none; does = refl },
    (
      _,
      record { going = refl; from = _; before = _; is = refl; silents = none; does = refl },
      refl,
    ),
  );
  bytes_are = refl;
  out_is = refl;
  left_is = refl;
  end_is = refl;
}

-- where the thread's event is not enabled in that world
held_up : (events : List Event) (order : List ℕ) (t : ℕ) (x : World Cursor) → Replays script layout (start events []) order x
    → ((v : World Cursor) → Step script layout t x v → ⊥) → Waits events order t
held_up events order t x there never = λ w v here d. never v
    (subst (λ z. Step script layout t z v) (same_replays script layout order (start events []) w x here there) d)

pub waits_block : Waits sharing (0 ∷ 0 ∷ []) 1
unfolding byte_at word_of can_access is_mapped is_aligned merge read_at
waits_block = held_up sharing (0 ∷ 0 ∷ []) 1 _ (
  _,
  record { going = refl; from = _; before = _; is = refl; silents = none; does = refl },
  (
    _,
    record { going = refl; from = _; before = _; is = refl; silents = none; does = (refl, refl) },
    refl,
  ),
) (λ v. refused script layout 1 _ v _ refl refl (λ d. false≢true d.0))

pub waits_lock : Waits locking (0 ∷ 0 ∷ []) 1
unfolding byte_at word_of can_access is_mapped is_aligned merge read_at
waits_lock = held_up locking (0 ∷ 0 ∷ []) 1 _ (
  _,
  record { going = refl; from = _; before = _; is = refl; silents = none; does = refl },
  (
    _,
    record { going = refl; from = _; before = _; is = refl; silents = none; does = (refl, refl) },
    refl,
  ),
) (λ v. refused script layout 1 _ v _ refl refl (λ d. false≢true d.0))

pub waits_join : Waits sharing (0 ∷ 0 ∷ 0 ∷ 0 ∷ 1 ∷ []) 0
unfolding byte_at word_of can_access is_mapped is_aligned merge read_at
waits_join = held_up sharing (0 ∷ 0 ∷ 0 ∷ 0 ∷ 1 ∷ []) 0 _ (
  _,
  record { going = refl; from = _; before = _; is = refl; silents = none; does = refl },
  (
    _,
    record { going = refl; from = _; before = _; is = refl; silents = none; does = (refl, refl) },
    (
      _,
      record { going = refl; from = _; before = _; is = refl; silents = none; does = refl },
      (
        _,
        record { going = refl; from = _; before = _; is = refl; silents = none; does = refl },
        (
          _,
          record {
            going = refl;
            from = _;
            before = _;
            is = refl;
            silents = none;
            does =
                (refl, record { last = _; run = goes_on at_start refl; over = refl }, refl);
          },
          refl,
        ),
      ),
    ),
  ),
) (λ v. refused script layout 0 _ v _ refl refl (λ d. false≢true d.0))

pub waits_ended : Waits sharing (0 ∷ 0 ∷ 0 ∷ 0 ∷ 1 ∷ 1 ∷ 1 ∷ 1 ∷ []) 1
unfolding byte_at word_of can_access is_mapped is_aligned merge read_at
waits_ended = held_up sharing (0 ∷ 0 ∷ 0 ∷ 0 ∷ 1 ∷ 1 ∷ 1 ∷ 1 ∷ []) 1 _ (
  _,
  record { going = refl; from = _; before = _; is = refl; silents = none; does = refl },
  (
    _,
    record { going = refl; from = _; before = _; is = refl; silents = none; does = (refl, refl) },
    (
      _,
      record { going = refl; from = _; before = _; is = refl; silents = none; does = refl },
      (
        _,
        record { going = refl; from = _; before = _; is = refl; silents = none; does = refl },
        (
          _,
          record {
            going = refl;
            from = _;
            before = _;
            is = refl;
            silents = none;
            does =
                (refl, record { last = _; run = goes_on at_start refl; over = refl }, refl);
          },
          (
            _,
            record { going = refl; from = _; before = _; is = refl; silents = none; does = (refl, refl) },
            (
              _,
              record { going = refl; from = _; before = _; is = refl; silents = none; does = refl },
              (
                _,
                record { going = refl; from = _; before = _; is = refl; silents = none; does = refl },
                refl,
              ),
            ),
          ),
        ),
      ),
    ),
  ),
) (λ v. ended_thread script layout 1 _ v _ refl refl)

pub waits_nested : Waits locking (0 ∷ 0 ∷ 0 ∷ 0 ∷ []) 1
unfolding byte_at word_of can_access is_mapped is_aligned merge read_at
waits_nested = held_up locking (0 ∷ 0 ∷ 0 ∷ 0 ∷ []) 1 _ (
  _,
  record { going = refl; from = _; before = _; is = refl; silents = none; does = refl },
  (
    _,
    record { going = refl; from = _; before = _; is = refl; silents = none; does = (refl, refl) },
    (
      _,
      record { going = refl; from = _; before = _; is = refl; silents = none; does = (refl, refl) },
      (
        _,
        record { going = refl; from = _; before = _; is = refl; silents = none; does = refl },
        refl,
      ),
    ),
  ),
) (λ v. refused script layout 1 _ v _ refl refl (λ d. false≢true d.0))

pub hears_outside : Hears asking (7 ∷ []) (0 ∷ 0 ∷ 0 ∷ 0 ∷ 0 ∷ 0 ∷ 0 ∷ [])
    (Nothing ∷ Loaded 3 ∷ Loaded 772 ∷ Loaded 16909060 ∷ Byte (pos 7) ∷ Byte (negsuc 0) ∷ Id (pos 1) ∷ [])
unfolding byte_at word_of can_access is_mapped is_aligned merge read_at
hears_outside = record {
  world = _;
  replays = (
    _,
    record { going = refl; from = _; before = _; is = refl; silents = none; does = refl },
    (
      _,
      record { going = refl; from = _; before = _; is = refl; silents = none; does = refl },
      (
        _,
        record { going = refl; from = _; before = _; is = refl; silents = none; does = refl },
        (
          _,
          record { going = refl; from = _; before = _; is = refl; silents = none; does = refl },
          (
            _,
            record { going = refl; from = _; before = _; is = refl; silents = none; does = refl },
            (
              _,
              record { going = refl; from = _; before = _; is = refl; silents = none; does = refl },
              (
                _,
                record { going = refl; from = _; before = _; is = refl; silents = none; does = refl },
                refl,
              ),
            ),
          ),
        ),
      ),
    ),
  );
  heard_is = refl;
}

pub hears_inside : Hears asking_inside [] (0 ∷ []) (Nothing ∷ Nothing ∷ Loaded 72623859706101760 ∷ Nothing ∷ Nothing ∷ Nothing ∷ Loaded 16909060 ∷ Nothing ∷ [])
unfolding byte_at word_of can_access is_mapped is_aligned merge read_at
hears_inside = record {
  world = _;
  replays = (
    _,
    record {
      going = refl;
      from = _;
      before = _;
      is = refl;
      silents = none;
      does = (
        refl,
        record { last = _; run = goes_on (goes_on (goes_on (goes_on (goes_on (goes_on at_start refl) refl) refl) refl) refl) refl; over = refl },
        refl,
      );
    },
    refl,
  );
  heard_is = refl;
}

pub globals : first_bytes (with_cells no_bytes cells) ≡ 2 ∷ 1 ∷ 0 ∷ 0 ∷ 6 ∷ 5 ∷ 4 ∷ 3 ∷ []
unfolding byte_at word_of merge
globals = refl
