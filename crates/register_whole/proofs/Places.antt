-- Characters that are compared with those at a place, one after the other.
use Prim.Native.Nat.{ℕ, ◌+◌, ◌*◌, ◌≤◌, ◌<◌}
use mathlib.Core.Path.{◌≡◌, sym, ◌∙◌}
use mathlib.Core.Bool.{true, false}
use mathlib.Core.List.{List}
use native.Mathlib.Omega.{arith}
use lib.ListN.{length, get_or, drop, length-take, length-drop}
use lib.Seq.{get_or-take, get_or-drop}
use Rattle.lists.specs.Bytes.{zeros, part, same, same_step, same_stop, same_end}
use Rattle.lists.specs.Over.{overwrite, over_zero}
use Rattle.model.specs.Lines.{end_of}
use Rattle.register_whole.specs.Whole.{line_size, end_size, ends_as}

module _ (s t : List ℕ) (at : ℕ) (fits : at + length t ≤ length s) where
  part_length : length (part s at (length t)) ≡ length t
  part_length = simp (length-take, length-drop) (omega arith)

  part_at : (i : ℕ) → i < length t → get_or (part s at (length t)) i 0 ≡ get_or s (at + i) 0
  part_at i h = rw (get_or-take, get_or-drop)

  pub read_step : (i : ℕ) → i < length t → get_or s (at + i) 0 ≡ get_or t i 0
      → same (drop i (part s at (length t))) (drop i t) ≡ same (drop (i + 1) (part s at (length t))) (drop (i + 1) t)
  read_step i h e = same_step (part s at (length t)) t i (rw part_length h) h (part_at i h ∙ e)

  pub read_stop : (i : ℕ) → i < length t → (get_or s (at + i) 0 ≡ get_or t i 0 → ⊥)
      → same (drop i (part s at (length t))) (drop i t) ≡ false
  read_stop i h n = same_stop (part s at (length t)) t i (rw part_length h) h (λ e. n (sym (part_at i h) ∙ e))

  pub read_end : (i : ℕ) → length t ≤ i → same (drop i (part s at (length t))) (drop i t) ≡ true
  read_end i h = same_end (part s at (length t)) t i part_length (rw part_length h)

-- END and its number, laid over ten characters, are all of them
end_laid : (n : ℕ) → overwrite (zeros end_size) 0 (end_of n) ≡ end_of n
unfolding end_of
end_laid n = over_zero (end_of n) (zeros end_size) (omega arith)

pub end_read : (s e : List ℕ) (n : ℕ) → e ≡ overwrite (zeros end_size) 0 (end_of n)
    → same (part s (n * line_size) (length e)) e ≡ ends_as n s
unfolding ends_as end_of
end_read s e n q = rw (q, end_laid n)
