-- Laws of reading: characters and then more characters.
use Prim.Native.Nat.{ℕ, ◌+◌, ◌≤◌, min}
use mathlib.Core.Path.{◌≡◌, refl, sym, ap, ◌∙◌}
use mathlib.Core.List.{List, [], ◌∷◌, ◌++◌, append_assoc, append-nil}
use native.Mathlib.Omega.{arith}
use lib.ListN.{length, length-append}
use Rattle.lists.specs.Over.{overwrite, over_none, length_over}
use Rattle.std.specs.Prelude.{Option, None, Some}
use Rattle.job_text.specs.declared.Place.{Place}
use Rattle.job_text.specs.declared.Mode.TheVariants.{Between}
use Rattle.job_text.specs.Places.{place, more, step, byte_of, bytes_in, lines_in}
use Rattle.job_text.specs.Pairs.{Pair}
use Rattle.job_text.specs.Text.{place_from, bytes_from, lines_from}
use Rattle.job_text.proofs.Laying.{over_room}

pub place_append : (xs ys : List ℕ) (p : Place) → place_from p (xs ++ ys) ≡ place_from (place_from p xs) ys
unfolding place_from
place_append [] ys p = refl
place_append (x ∷ xs) ys p = place_append xs ys (step p x)

pub bytes_append : (xs ys : List ℕ) (p : Place) → bytes_from p (xs ++ ys)
    ≡ bytes_from p xs ++ bytes_from (place_from p xs) ys
unfolding place_from bytes_from
bytes_append [] ys p = refl
bytes_append (x ∷ xs) ys p = rw (append_assoc, bytes_append xs ys (step p x))

pub lines_append : (xs ys : List ℕ) (p : Place) → lines_from p (xs ++ ys)
    ≡ lines_from p xs ++ lines_from (place_from p xs) ys
unfolding place_from lines_from
lines_append [] ys p = refl
lines_append (x ∷ xs) ys p = rw (append_assoc, lines_append xs ys (step p x))

-- each byte has its line
one_line : (g : Option ℕ) (line : ℕ) → length (lines_in g line) ≡ length (bytes_in g)
one_line None line = refl
one_line (Some b) line = refl

pub lines_length : (xs : List ℕ) (p : Place) → length (lines_from p xs) ≡ length (bytes_from p xs)
unfolding bytes_from lines_from
lines_length [] p = refl
lines_length (x ∷ xs) p =
    simp length-append (omega (arith, one_line (byte_of p.mode x) p.line, lines_length xs (step p x)))

-- What characters leave of a place, a count of bytes, and lent memory.
pub record Laid (p₀ : Place) (n₀ : ℕ) (out₀ lines₀ xs : List ℕ) (p : Place) (n : ℕ)
    (out lines : List ℕ) : Type 0 where
  pub place : p ≡ place_from p₀ xs
  pub count : n ≡ min (n₀ + length (bytes_from p₀ xs)) (length out₀)
  pub bytes : out ≡ overwrite out₀ n₀ (bytes_from p₀ xs)
  pub starts : lines ≡ overwrite lines₀ n₀ (lines_from p₀ xs)

module _ (p₀ : Place) (n₀ : ℕ) (out₀ lines₀ : List ℕ) where
  pub laid_none : n₀ ≤ length out₀ → Laid p₀ n₀ out₀ lines₀ [] p₀ n₀ out₀ lines₀
  unfolding place_from bytes_from lines_from
  laid_none h =
      record {
        place = refl;
        count = omega arith;
        bytes = sym (over_none out₀ n₀);
        starts = sym
            (over_none lines₀ n₀);
      }

  module _ (same : length lines₀ ≡ length out₀) {xs : List ℕ} {p : Place} {n : ℕ} {out lines : List ℕ}
      (h : Laid p₀ n₀ out₀ lines₀ xs p n out lines) where
    pub laid_then : {ys : List ℕ} {p' : Place} {n' : ℕ} {out' lines' : List ℕ}
        → Laid p n out lines ys p' n' out' lines'
        → Laid p₀ n₀ out₀ lines₀ (xs ++ ys) p' n' out' lines'
    laid_then {ys} k =
        let q = place_from p₀ xs in
        let bs = bytes_from p₀ xs in
        let ls = lines_from p₀ xs in
        record {
          place = k.place ∙ rw (h.place, place_append xs ys p₀);
          count =
              k.count
              ∙ rw (h.count, h.bytes, h.place, length_over, bytes_append xs ys p₀, length-append) (omega arith);
          bytes =
              k.bytes
              ∙ rw (h.count, h.bytes, h.place, bytes_append xs ys p₀) (over_room bs (bytes_from q ys) out₀ n₀);
          starts =
              k.starts
              ∙ rw (h.count, h.starts, h.place, lines_append xs ys p₀, ← lines_length xs p₀, ← same)
              (over_room ls (lines_from q ys) lines₀ n₀);
        }

-- What is left of characters, and what those before it leave.
pub record Before (p₀ : Place) (n₀ : ℕ) (out₀ lines₀ chars rest : List ℕ) (p : Place) (n : ℕ)
    (out lines : List ℕ) : Type 0 where
  pub done : List ℕ
  pub all : chars ≡ done ++ rest
  pub laid : Laid p₀ n₀ out₀ lines₀ done p n out lines

-- None are before them all.
pub before_all : {p : Place} {n : ℕ} {out lines chars : List ℕ} → n ≤ length out
    → Before p n out lines chars chars p n out lines
before_all {p} {n} {out} {lines} h = record { done = []; all = refl; laid = laid_none p n out lines h }

-- One character, as the code reads it.
module _ {p p' : Place} {n n' x : ℕ} {out lines out' lines' : List ℕ} {g : Option ℕ}
    (given : g ≡ byte_of p.mode x) (stepped : p' ≡ step p x)
    (count : n' ≡ min (n + length (bytes_in g)) (length out))
    (bytes : out' ≡ overwrite out n (bytes_in g)) (starts : lines' ≡ overwrite lines n (lines_in g p.line)) where
  laid_one : Laid p n out lines (x ∷ []) p' n' out' lines'
  unfolding place_from bytes_from lines_from
  laid_one =
      record {
        place = stepped;
        count = rw (append-nil, ← given) count;
        bytes = rw (append-nil, ← given) bytes;
        starts = rw (append-nil, ← given) starts;
      }

  -- A turn of the loop over characters: the first of the rest is read behind those before it.
  pub laid_turn : {p₀ : Place} {n₀ : ℕ} {out₀ lines₀ chars rest behind : List ℕ}
      → length lines₀ ≡ length out₀ → rest ≡ x ∷ behind
      → Before p₀ n₀ out₀ lines₀ chars rest p n out lines
      → Before p₀ n₀ out₀ lines₀ chars behind p' n' out' lines'
  laid_turn {behind = behind} same e b =
      record {
        done = b.done ++ x ∷ [];
        all = b.all ∙ (ap (λ r. b.done ++ r) e ∙ sym (append_assoc b.done (x ∷ []) behind));
        laid = laid_then _ _ _ _ same b.laid laid_one;
      }

-- Two digits between pairs, in one turn.
module _ {p p' : Place} {n n' x y b : ℕ} {out lines out' lines' : List ℕ}
    (h : Pair p.mode x y b) (placed : p' ≡ place Between p.line (more (more p.column)))
    (count : n' ≡ min (n + 1) (length out))
    (bytes : out' ≡ overwrite out n (b ∷ [])) (starts : lines' ≡ overwrite lines n (p.line ∷ [])) where
  laid_pair : Laid p n out lines (x ∷ y ∷ []) p' n' out' lines'
  unfolding place_from bytes_from lines_from
  laid_pair =
      record {
        place = rw (h.between, h.high, h.low) placed;
        count = rw (h.between, h.high, h.low) count;
        bytes = rw (h.between, h.high, h.low, ← h.byte) bytes;
        starts = rw (h.between, h.high, h.low) starts;
      }

  pub laid_two : {p₀ : Place} {n₀ : ℕ} {out₀ lines₀ chars rest behind tail : List ℕ}
      → length lines₀ ≡ length out₀ → rest ≡ x ∷ behind → behind ≡ y ∷ tail
      → Before p₀ n₀ out₀ lines₀ chars rest p n out lines
      → Before p₀ n₀ out₀ lines₀ chars tail p' n' out' lines'
  laid_two {tail = tail} same ex ey b =
      record {
        done = b.done ++ x ∷ y ∷ [];
        all =
            b.all
            ∙ (ap (λ r. b.done ++ r) (ex ∙ ap (λ r. x ∷ r) ey) ∙ sym (append_assoc b.done (x ∷ y ∷ []) tail));
        laid = laid_then _ _ _ _ same b.laid laid_pair;
      }
