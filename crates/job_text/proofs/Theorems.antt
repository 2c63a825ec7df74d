-- Job text read block by block: the blocks are the text, and a text gives all its bytes.
use Prim.Native.Nat.{ℕ, ◌≤◌}
use mathlib.Core.Path.{◌≡◌, refl}
use mathlib.Core.List.{List, [], ◌∷◌, ◌++◌}
use native.Mathlib.Omega.{arith}
use lib.ListN.{length, take, drop}
use lib.Seq.{take-append_seam}
use Rattle.lists.specs.Over.{over_zero}
use Rattle.job_text.specs.declared.Fault.{Fault}
use Rattle.job_text.specs.declared.Mode.TheVariants.{Wrong}
use Rattle.job_text.specs.declared.Reading.{Reading}
use Rattle.job_text.specs.Places.{place}
use Rattle.job_text.specs.Text.{place_from, bytes_from, lines_from, first, begun, reached}
use Rattle.job_text.specs.Text.{laid_bytes, laid_lines, ended, fault_of, text_of}
use Rattle.job_text.proofs.Runs.{Laid, laid_then, lines_length}

-- What a reading asks for again: its bytes are within the room.
pub within_room : (room : ℕ) (r : Reading) (xs : List ℕ) → (reached room r xs).count ≤ room
within_room room r xs = omega arith

-- Two blocks are read as one: the reading, the bytes and their lines.
module _ (r : Reading) (xs ys out lines : List ℕ) (same : length lines ≡ length out) where
  both : Laid r.place r.count out lines (xs ++ ys)
      (place_from (place_from r.place xs) ys)
      (reached (length (laid_bytes r xs out)) (reached (length out) r xs) ys).count
      (laid_bytes (reached (length out) r xs) ys (laid_bytes r xs out))
      (laid_lines (reached (length out) r xs) ys (laid_lines r xs lines))
  both =
      laid_then r.place r.count out lines same
      (record { place = refl; count = refl; bytes = refl; starts = refl })
      (record { place = refl; count = refl; bytes = refl; starts = refl })

  pub blocks_reached : reached (length (laid_bytes r xs out)) (reached (length out) r xs) ys
      ≡ reached (length out) r (xs ++ ys)
  blocks_reached = rw (both.count, both.place)

  pub blocks_bytes : laid_bytes (reached (length out) r xs) ys (laid_bytes r xs out) ≡ laid_bytes r (xs ++ ys) out
  blocks_bytes = both.bytes

  pub blocks_lines : laid_lines (reached (length out) r xs) ys (laid_lines r xs lines) ≡ laid_lines r (xs ++ ys) lines
  blocks_lines = both.starts

-- With room enough, a whole text's bytes and lines stand at the front of the memory, as many as are counted, and the
-- reading tells its fault at the end.
module _ (xs out lines : List ℕ) (same : length lines ≡ length out)
    (room : length (text_of xs).bytes ≤ length out) where
  pub whole_count : (reached (length out) begun xs).count ≡ length (text_of xs).bytes
  whole_count = omega arith

  pub whole_bytes : take (length (text_of xs).bytes) (laid_bytes begun xs out) ≡ (text_of xs).bytes
  whole_bytes =
      let bs = bytes_from first xs in
      rw (over_zero bs out room) (take-append_seam bs (drop (length bs) out))

  pub whole_lines : take (length (text_of xs).bytes) (laid_lines begun xs lines) ≡ (text_of xs).lines
  whole_lines =
      let ls = lines_from first xs in
      let n = lines_length xs first in
      rw (over_zero ls lines (omega arith), ← n) (take-append_seam ls (drop (length ls) lines))

  pub whole_fault : fault_of (ended (reached (length out) begun xs)) ≡ (text_of xs).fault
  whole_fault = refl

-- Behind a fault nothing is looked at.
module _ (kind : Fault) (line column : ℕ) where
  pub fault_stays : (xs : List ℕ) → place_from (place (Wrong kind) line column) xs ≡ place (Wrong kind) line column
  unfolding place_from
  fault_stays [] = refl
  fault_stays (x ∷ xs) = fault_stays xs

  pub fault_gives_none : (xs : List ℕ) → bytes_from (place (Wrong kind) line column) xs ≡ []
  unfolding bytes_from
  fault_gives_none [] = refl
  fault_gives_none (x ∷ xs) = fault_gives_none xs
