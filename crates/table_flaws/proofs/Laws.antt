-- The loops over a table, descriptor by descriptor.
use Prim.Native.Nat.{ℕ, ◌+◌, ◌≤◌, ◌<◌}
use mathlib.Core.Path.{◌≡◌}
use mathlib.Core.Bool.{false, cond, ◌||◌}
use mathlib.Core.List.{List}
use lib.Dec.{eqb}
use lib.ListN.{length, get_or, take, drop}
use Rattle.lists.specs.Rest.{rest_cons, rest_none}
use Rattle.model.specs.declared.Descriptor.{Descriptor}
use Rattle.model.specs.Table.{clash}
use Rattle.table_fields.proofs.Laws.{past_end}
use Rattle.table_flaws.specs.declared.Flaw.{Flaw}
use Rattle.table_flaws.specs.declared.Flaw.TheVariants.{LidUsed, SfiUsed}
use Rattle.table_flaws.specs.Flaws.{clash_flaw, listed}

-- What is left of the first n of a list from i on: its first descriptor, and the others.
module _ (l : List Descriptor) (n : ℕ) (fits : n ≤ length l) (i : ℕ) where
  pub flaw_step : (d : Descriptor) (k : ℕ) (later : Flaw) → i < n
      → clash_flaw d (drop i (take n l)) k later
      ≡ cond (eqb d.lid (get_or l i past_end).lid) (LidUsed k)
      (cond (clash d (get_or l i past_end)) (SfiUsed k) (clash_flaw d (drop (i + 1) (take n l)) (k + 1) later))
  unfolding clash_flaw
  flaw_step d k later h = rw (rest_cons l n fits i past_end h)

  pub flaw_end : (d : Descriptor) (k : ℕ) (later : Flaw) → n ≤ i → clash_flaw d (drop i (take n l)) k later ≡ later
  unfolding clash_flaw
  flaw_end d k later h = rw (rest_none l n fits i h)

  pub listed_step : (sfi : ℕ) → i < n → listed sfi (drop i (take n l))
      ≡ (eqb (get_or l i past_end).sfi sfi || listed sfi (drop (i + 1) (take n l)))
  unfolding listed
  listed_step sfi h = rw (rest_cons l n fits i past_end h)

  pub listed_end : (sfi : ℕ) → n ≤ i → listed sfi (drop i (take n l)) ≡ false
  unfolding listed
  listed_end sfi h = rw (rest_none l n fits i h)
