-- The writer's records, laid command by command.
use Prim.Native.Nat.{ℕ, suc, ◌+◌, ◌-◌, ◌*◌, ◌≤◌, ◌<◌}
use mathlib.Core.Path.{◌≡◌, refl, sym, ap, ◌∙◌}
use mathlib.Core.List.{List, [], ◌∷◌, append-nil}
use native.Mathlib.Nat.{zero-add}
use native.Mathlib.Omega.{arith}
use lib.ListN.{length, length-take}
use Rattle.lists.specs.Joined.{joined}
use Rattle.lists.specs.Bytes.{part}
use Rattle.lists.specs.Over.{overwrite, length_over, over_then}
use Rattle.model.specs.Stored.{record_size, data_room}
use Rattle.model.specs.Order.{cut_of, stored, stored_all, records_for}
use Rattle.order_cuts.specs.declared.Place.{Place}
use Rattle.order_cuts.specs.Cuts.{Fitting, units_from, commands_from, Command}
use Rattle.order_cuts.proofs.Commands.{at_start, first_cut, next_cut, none_left}
use Rattle.model.proofs.Laws.{length_stored}

-- a record, and those behind it
laid_then : (a : List ℕ) (to p1 : ℕ) (d : List ℕ) (rs : List (List ℕ)) → length d ≤ data_room
    → overwrite a to (joined (stored p1 d ∷ rs))
    ≡ overwrite (overwrite a to (stored p1 d)) (to + record_size) (joined rs)
unfolding joined
laid_then a to p1 d rs h =
    over_then (stored p1 d) (joined rs) a to (to + record_size) (ap (λ (n : ℕ). to + n) (length_stored p1 d h))

module _ (order room₀ : List ℕ) (from : ℕ) where
  -- the bytes of the command that comes next
  abbrev command_at : ℕ → Place → List ℕ
  command_at start end = part order start (end.at - start)

  length_command : (start : ℕ) (end : Place) → end.at ≤ start + data_room → length (command_at start end) ≤ data_room
  length_command start end h = rw length-take (omega arith)

  -- the records of the commands before one are laid; that one goes from `start` to `end`, and its record to `to`
  pub record Laid (room : List ℕ) (start : ℕ) (end : Place) (to : ℕ) : Type 0 where
    pub forth : start ≤ end.at
    pub within : end.at ≤ length order
    pub size : end.at ≤ start + data_room
    pub keeps : length room ≡ length room₀
    pub fits : to + (1 + length (commands_from order end)) * record_size ≤ length room₀
    pub lays : overwrite room₀ from (joined (stored_all (cut_of order)))
        ≡ overwrite room to (joined (stored_all (command_at start end ∷ commands_from order end)))
    pub fitting : Fitting (units_from order end)

  pub start_within : {room : List ℕ} {start : ℕ} {end : Place} {to : ℕ} → Laid room start end to
      → start ≤ length order
  start_within x = omega (arith, x.forth, x.within)

  pub laid_none : (end : Place) → Command order at_start end → from + length (cut_of order) * record_size ≤ length room₀
      → Laid room₀ 0 end from
  laid_none end c h =
      let k : length (cut_of order) ≡ 1 + length (commands_from order end) = rw (first_cut order end c) (omega arith) in
      record {
        forth = c.forth;
        within = c.within;
        size = c.room;
        keeps = refl;
        fits = omega arith;
        lays = rw (first_cut order end c);
        fitting = c.fitting;
      }

  pub laid_more : (room next-room : List ℕ) (start : ℕ) (end next : Place) (to : ℕ) → Laid room start end to
      → end.at < length order
      → next-room ≡ overwrite room to (stored 0x00 (command_at start end)) → Command order end next
      → Laid next-room end.at next (to + record_size)
  unfolding stored_all
  laid_more room next-room start end next to x l e c =
      let n : commands_from order end ≡ part order end.at (next.at - end.at) ∷ commands_from order next =
      next_cut order end next c l in
      let m : length (commands_from order end) ≡ suc (length (commands_from order next)) = ap length n in
      let f : to + (1 + length (commands_from order end)) * record_size ≤ length room₀ = x.fits in
      record {
        forth = c.forth;
        within = c.within;
        size = c.room;
        keeps = rw (e, length_over) x.keeps;
        fits = omega arith;
        lays =
            x.lays ∙ rw n
            (laid_then room to 0x00 (command_at start end)
            (stored_all (command_at end.at next ∷ commands_from order next)) (length_command start end x.size)
            ∙ rw (← e));
        fitting = c.fitting;
      }

  pub laid_last : (room last-room : List ℕ) (start : ℕ) (end : Place) (to : ℕ) → Laid room start end to
      → length order ≤ end.at
      → last-room ≡ overwrite room to (stored 0x80 (part order start (length order - start)))
      → last-room ≡ overwrite room₀ from (joined (stored_all (cut_of order)))
  unfolding stored_all joined
  laid_last room last-room start end to x l e =
      let w : end.at ≤ length order = x.within in
      let q : end.at ≡ length order = omega arith in
      sym (x.lays ∙ rw (none_left order end l, append-nil, q) (sym e))

-- the first record, and those of the commands
pub laid_all_lem : (order a b c : List ℕ) → b ≡ overwrite a 0 (stored 0x01 (0x94 ∷ 0x84 ∷ 0x00 ∷ []))
    → c ≡ overwrite b record_size (joined (stored_all (cut_of order))) → c ≡ overwrite a 0 (joined (records_for order))
unfolding records_for
laid_all_lem order a b c e f =
    f ∙ rw e (sym
    (rw zero-add at (laid_then a 0 0x01 (0x94 ∷ 0x84 ∷ 0x00 ∷ []) (stored_all (cut_of order)) (omega arith))))

-- a record a command, and one before them
