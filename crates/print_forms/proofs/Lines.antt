-- What a line holds once a run is laid behind its text.
use Rattle.std.proofs.Common.{◌≡◌, ℕ, ◌+◌, ◌*◌, ◌-◌, ◌/◌, ◌≤◌, List, ◌++◌, length, take, drop, min, sym, ap, ◌∙◌, arith, append_assoc, length-append, length-drop, length-take-le, take_at}
use Rattle.std.proofs.lemmas.List.{take_min}
use Rattle.lists.specs.Over.{overwrite, over_part, over_zero}
use Rattle.print_numbers.specs.Trace.{hex_of, decimal_of, width_of}
use Rattle.print_numbers.proofs.Digits.{length_hex}
use Rattle.print_numbers.proofs.Sizes.{length_decimal}

-- the text, and the run
pub run_behind : (a xs : List ℕ) (n k : ℕ) → n + k ≤ length a → length xs ≡ k
    → take (n + k) (overwrite a n xs) ≡ take n a ++ xs
run_behind a xs n k h e =
    let d = length-drop n a in
    let t : length (take n a ++ xs) ≡ n + k =
    length-append (take n a) xs ∙ omega (arith, length-take-le n a (omega arith)) in
    rw (over_part a xs n, over_zero xs (drop n a) (omega arith), ← append_assoc)
    (take_at (take n a ++ xs) (drop (length xs) (drop n a)) (n + k) t)

module _ (a now : List ℕ) (f N : ℕ) (view : take f a ≡ now) (within : f ≤ N) (long : length a ≡ N) where
  -- as many as there is room for
  cut : (m : ℕ) (text : List ℕ) (n : ℕ) → n ≡ min (length text) m → take n text ≡ take m text
  cut m text n e = let c : n ≡ min m (length text) = omega arith in rw c (take_min m text)

  pub now_long : length now ≡ f
  now_long = sym (ap length view) ∙ length-take-le f a (omega arith)

  module _ (room : ℕ) (rest : room + length now ≡ N) where
    pub text_behind : (text : List ℕ) (n : ℕ) → n ≡ min (length text) room
        → take (f + n) (overwrite a f (take n text)) ≡ now ++ take (N - length now) text
    text_behind text n e =
        let r : N - length now ≡ room = omega arith in
        rw (
          ← view,
          run_behind a (take n text) f n (omega (arith, now_long)) (length-take-le n text (omega arith)),
          cut room text n e,
          view,
          r,
        )

    pub hex_behind : (bytes : List ℕ) (n : ℕ) → n ≡ min (length bytes) (room / 2)
        → take (f + 2 * n) (overwrite a f (hex_of (take n bytes))) ≡ now ++ hex_of (take ((N - length now) / 2) bytes)
    hex_behind bytes n e =
        let r : N - length now ≡ room = omega arith in
        rw (
          ← view,
          run_behind a (hex_of (take n bytes)) f (2 * n) (omega (arith, now_long))
              (length_hex (take n bytes) ∙ ap (λ k. 2 * k) (length-take-le n bytes (omega arith))),
          cut (room / 2) bytes n e,
          view,
          r,
        )

    pub number_behind : (n : ℕ) → 20 ≤ room → width_of n ≤ 20
        → take (f + width_of n) (overwrite a f (decimal_of n)) ≡ now ++ decimal_of n
    number_behind n h w =
        rw (← view) (run_behind a (decimal_of n) f (width_of n) (omega (arith, now_long)) (length_decimal n))
