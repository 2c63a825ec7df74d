-- The commands of the cut, one after another.
use Prim.Native.Nat.{ℕ, suc, ◌+◌, ◌-◌, ◌≤◌, ◌<◌}
use mathlib.Core.Path.{◌≡◌, ap}
use mathlib.Core.List.{List, [], ◌∷◌}
use native.Mathlib.Omega.{arith}
use lib.ListN.{length}
use borrow.Author.Tests.{lt-ltb, le-ltb}
use Rattle.lists.specs.Bytes.{part}
use Rattle.model.specs.Order.{single, cut_of}
use Rattle.order_cuts.specs.declared.Place.{Place}
use Rattle.order_cuts.specs.Cuts.{Fitting, cuttable, units_from, commands_from, Command}

abbrev pub at_start : Place
at_start = record { at = 0; inside = 0 }

pub fitting_start : (order : List ℕ) → cuttable order → Fitting (units_from order at_start)
unfolding cuttable units_from single
fitting_start order f = f

module _ (order : List ℕ) where
  -- the first command, of an empty order too
  pub first_cut : (end : Place) → Command order at_start end
      → cut_of order ≡ part order 0 (end.at - 0) ∷ commands_from order end
  unfolding cut_of units_from single
  first_cut end c = c.cut

  pub next_cut : (start end : Place) → Command order start end → start.at < length order
      → commands_from order start ≡ part order start.at (end.at - start.at) ∷ commands_from order end
  unfolding commands_from
  next_cut start end c l = rw (lt-ltb start.at (length order) l) c.cut

  pub none_left : (p : Place) → length order ≤ p.at → commands_from order p ≡ []
  unfolding commands_from
  none_left p l = rw (le-ltb p.at (length order) l)

  -- a count of the commands up to a place
  pub record Counted (end : Place) (count : ℕ) : Type 0 where
    pub within : end.at ≤ length order
    pub behind : end.at < length order → count ≤ end.at
    pub counts : length (cut_of order) ≡ count + length (commands_from order end)
    pub fitting : Fitting (units_from order end)

  pub count_one : (end : Place) → Command order at_start end → Counted end 1
  count_one end c =
      let m : 0 < length order → 0 < end.at = c.moves in
      record {
        within = c.within;
        behind = λ l. m (omega arith);
        counts = rw (first_cut end c) (omega arith);
        fitting = c.fitting;
      }

  pub count_more : (start end : Place) (count : ℕ) → Counted start count → start.at < length order
      → Command order start end → Counted end (count + 1)
  count_more start end count k l c =
      let m : start.at < end.at = c.moves l in
      let b : count ≤ start.at = k.behind l in
      let e : length (cut_of order) ≡ count + length (commands_from order start) = k.counts in
      let f : length (commands_from order start) ≡ suc (length (commands_from order end)) =
      ap length (next_cut start end c l) in
      record { within = c.within; behind = λ q. omega arith; counts = omega arith; fitting = c.fitting }

  pub count_all : (end : Place) (count : ℕ) → Counted end count → length order ≤ end.at
      → count ≡ length (cut_of order)
  count_all end count k l =
      let e : length (cut_of order) ≡ count + length (commands_from order end) = k.counts in
      let f : length (commands_from order end) ≡ 0 = ap length (none_left end l) in
      omega arith
