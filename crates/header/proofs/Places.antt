-- A header by its place in the whole slice.
use Prim.Native.Nat.{ℕ, ◌+◌, ◌-◌, ◌≤◌, ◌<◌}
use mathlib.Core.Path.{◌≡◌, ◌∙◌}
use mathlib.Core.List.{List}
use native.Mathlib.Nat.{add-zero, add_assoc}
use native.Mathlib.Omega.{arith}
use lib.ListN.{length, drop, length-drop}
use lib.Seq.{get_or-drop}
use borrow.Author.Tests.{lt-ltb, le-ltb, eq-eqb, ne_eqb}
use Rattle.lists.specs.Bytes.{byte_at, word_at}
use Rattle.model.specs.declared.Header.TheVariants.{Torn}
use Rattle.model.specs.Header.{headed, long_form, header_of}

word_drop : (s : List ℕ) (at i : ℕ) → word_at (drop at s) i ≡ word_at s (at + i)
word_drop s at i = rw (get_or-drop at s i 0, get_or-drop at s (i + 1) 0, add_assoc at i 1)

word_front : (s : List ℕ) (at : ℕ) → word_at (drop at s) 0 ≡ word_at s at
word_front s at = word_drop s at 0 ∙ rw add-zero

module _ (s : List ℕ) (at : ℕ) where
  pub torn_short : length s - at < 3 → header_of (drop at s) ≡ Torn
  unfolding header_of
  torn_short h = rw (length-drop, lt-ltb (length s - at) 3 h)

  pub short_form : 3 ≤ length s - at → (byte_at s (at + 2) ≡ 0xFF → ⊥)
      → header_of (drop at s) ≡ headed (word_at s at) 3 (byte_at s (at + 2))
  unfolding header_of
  short_form h n = rw (
    length-drop,
    le-ltb (length s - at) 3 h,
    get_or-drop at s 2 0,
    ne_eqb (byte_at s (at + 2)) 0xFF n,
    word_front s at,
  )

  pub torn_long : 3 ≤ length s - at → byte_at s (at + 2) ≡ 0xFF → length s - at < 5 → header_of (drop at s) ≡ Torn
  unfolding header_of long_form
  torn_long h e g =
      rw (
        length-drop,
        le-ltb (length s - at) 3 h,
        get_or-drop at s 2 0,
        eq-eqb (byte_at s (at + 2)) 0xFF e,
        lt-ltb (length s - at) 5 g,
      )

  pub long_ffff : 5 ≤ length s - at → byte_at s (at + 2) ≡ 0xFF → word_at s (at + 3) ≡ 0xFFFF
      → header_of (drop at s) ≡ Torn
  unfolding header_of long_form
  long_ffff g e f =
      rw (
        length-drop,
        le-ltb (length s - at) 3 (omega arith),
        get_or-drop at s 2 0,
        eq-eqb (byte_at s (at + 2)) 0xFF e,
        le-ltb (length s - at) 5 g,
        word_drop s at 3,
        eq-eqb (word_at s (at + 3)) 0xFFFF f,
      )

  pub long_form_lem : 5 ≤ length s - at → byte_at s (at + 2) ≡ 0xFF → (word_at s (at + 3) ≡ 0xFFFF → ⊥)
      → header_of (drop at s) ≡ headed (word_at s at) 5 (word_at s (at + 3))
  unfolding header_of long_form
  long_form_lem g e n =
      rw (
        length-drop,
        le-ltb (length s - at) 3 (omega arith),
        get_or-drop at s 2 0,
        eq-eqb (byte_at s (at + 2)) 0xFF e,
        le-ltb (length s - at) 5 g,
        word_drop s at 3,
        ne_eqb (word_at s (at + 3)) 0xFFFF n,
        word_front s at,
      )
