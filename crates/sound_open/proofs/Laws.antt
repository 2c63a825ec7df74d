-- Laws of the clauses of sound: secret by secret, a sum that may be too large, and the order in which the clauses are
-- asked.
use Prim.Native.Nat.{ℕ, ◌+◌, ◌-◌, ◌*◌, ◌%◌, ◌≤◌, ◌<◌}
use mathlib.Core.Path.{◌≡◌, refl, sym, ◌∙◌}
use mathlib.Core.Bool.{Bool, true, false, ◌&&◌}
use mathlib.Core.List.{List, []}
use native.Mathlib.Numerals.{add-one}
use native.Mathlib.Omega.{arith}
use borrow.Author.Tests.{le-leb, lt-leb, lt-ltb, le-ltb, leb-true, leb-false}
use lib.Dec.{eqb, leb}
use lib.ListN.{length, get_or, drop, drop_of_length-le}
use lib.Seq.{drop-cons}
use Rattle.model.specs.declared.Life.{Life}
use Rattle.model.specs.declared.Loading.{Loading}
use Rattle.model.specs.declared.Secret.{Secret}
use Rattle.model.specs.Sound.{secrets_ok, table_fits, descriptors_ok, sound_with}
use Rattle.sound_open.specs.Parts.{life_part, load_part, open_part}
use Rattle.lists.specs.Truth.{and_false, and_true}

-- what the language reads past an array's end (never read)
abbrev pub past_end : Secret
past_end = record { bytes = []; len = 0 }

-- What a loop over secrets has left from i on.
module _ (s : List Secret) (i : ℕ) where
  pub secrets_step : i < length s → (get_or s i past_end).len ≤ 64 → secrets_ok (drop i s) ≡ secrets_ok (drop (i + 1) s)
  unfolding secrets_ok
  secrets_step h e = rw (add-one, drop-cons s i past_end h, le-leb _ _ e)

  pub secrets_stop : i < length s → 64 < (get_or s i past_end).len → secrets_ok (drop i s) ≡ false
  unfolding secrets_ok
  secrets_stop h e = rw (drop-cons s i past_end h, lt-leb _ _ e)

  pub secrets_end : length s ≤ i → secrets_ok (drop i s) ≡ true
  unfolding secrets_ok
  secrets_end h = rw (drop_of_length-le s h)

-- A table that does not fit, whichever of its numbers is too large; and one that does where its sum is a multiple.
module _ (count held missing : ℕ) where
  pub held_over : 18 ≤ held → table_fits count held missing ≡ false
  held_over h = rw (le-ltb held 18 h, and_false)

  pub sum_over : 558 < count * 18 + held + missing → table_fits count held missing ≡ false
  sum_over h = rw (lt-leb _ _ h)

  pub sum_fits : held < 18 → count * 18 + held + missing ≤ 558
      → table_fits count held missing ≡ eqb ((count * 18 + held + missing) % 18) 0
  sum_fits h s = rw (le-leb _ _ s, lt-ltb held 18 h, and_true)

-- a sum within a bound, asked without the sum
pub fits_behind : (written missing size : ℕ) → written ≤ size
    → leb missing (size - written) ≡ leb (written + missing) size
fits_behind written missing size h = go (leb missing (size - written)) refl
  where
    go : (b : Bool) → leb missing (size - written) ≡ b → leb missing (size - written) ≡ leb (written + missing) size
    go true e = e ∙ sym (le-leb (written + missing) size (omega (arith, leb-true missing (size - written) e)))
    go false e = e ∙ sym (lt-leb (written + missing) size (omega (arith, leb-false missing (size - written) e)))

-- a clause moved behind the others, which are in two groups
moved : (p e f g h i j k : Bool) → (p && e && f && g && h && i && j && k) ≡ (p && (f && g && h) && (i && j && k) && e)
moved false e f g h i j k = refl
moved true false f g h i j k = rw and_false
moved true true false g h i j k = refl
moved true true true false h i j k = refl
moved true true true true false i j k = refl
moved true true true true true i j k = rw and_true

-- The clauses in the order in which they are asked: the count, those on life, on what is loaded, on an open value,
-- and the table's.
module _ (f : Life) (l : Loading) where
  parts : sound_with f l ≡ (life_part f l.running.internal && load_part l f.gp && open_part l
      f.gp && descriptors_ok l)
  unfolding sound_with
  parts = moved (life_part f l.running.internal) (descriptors_ok l) _ _ _ _ _ _

  pub count_over : 31 < l.count → sound_with f l ≡ false
  count_over h = rw (parts, lt-leb l.count 31 h, and_false)

  pub life_fails : life_part f l.running.internal ≡ false → sound_with f l ≡ false
  life_fails e = rw (parts, e)

  module _ (life : life_part f l.running.internal ≡ true) where
    pub load_fails : load_part l f.gp ≡ false → sound_with f l ≡ false
    load_fails e = rw (parts, life, e)

    module _ (load : load_part l f.gp ≡ true) where
      pub open_fails : open_part l f.gp ≡ false → sound_with f l ≡ false
      open_fails e = rw (parts, life, load, e)

      pub table_left : open_part l f.gp ≡ true → sound_with f l ≡ descriptors_ok l
      table_left e = rw (parts, life, load, e)
