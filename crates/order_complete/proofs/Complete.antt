-- Completeness by the card's own walk, over '9484' and the order behind it.
use Prim.Native.Nat.{ℕ, ◌+◌, ◌-◌, ◌≤◌}
use mathlib.Core.Path.{◌≡◌, refl, ap, ◌∙◌}
use mathlib.Core.Bool.{Bool, true, false}
use mathlib.Core.List.{List, [], ◌∷◌, ◌++◌}
use native.Mathlib.Omega.{arith}
use lib.Seq.{take_at}
use lib.ListN.{length, take, drop, length-replicate, length-append, length-drop}
use Rattle.lists.specs.Bytes.{zeros}
use Rattle.lists.specs.Over.{overwrite, over_then, over_zero}
use Rattle.model.specs.declared.Loading.{Loading}
use Rattle.model.specs.Stored.{area_size}
use Rattle.model.specs.Rows.{taken, with_row, mandatory_missing}
use Rattle.model.specs.Table.{table_passes}
use Rattle.model.specs.Rules.{Result}
use Rattle.model.specs.Sound.{secrets_ok, sound_with}
use Rattle.model.specs.Command.{walk, is_shut, ready}
use Rattle.model.specs.Order.{challenged_state, finished, complete, order_limit}
use Rattle.theorem_sound.proofs.Inside.{Steady, steady_of}
use Rattle.walk_step.specs.Paces.{onward}
use Rattle.walk_step.proofs.Paces.{shut_walk}
use Rattle.walk_course.specs.Steps.{state_of, active_life}
use Rattle.theorem_cutting.specs.Packs.{longest_unit, Sized, none, more}
use Rattle.theorem_cutting.proofs.Commands.{units_sized}
use Rattle.order_cuts.specs.Cuts as cuts
use Rattle.order_complete.specs.Writes.{passes_behind}

-- a state where a mandatory row is missing is not ready; where none is, it is ready exactly if nothing is open
pub missing_not : (l : Loading) (a : List ℕ) → mandatory_missing l.running.rows ≡ true
    → false ≡ ready (state_of l a)
unfolding ready
missing_not l a e = rw e

pub ready_so : (l : Loading) (a : List ℕ) (x : Bool) → mandatory_missing l.running.rows ≡ false
    → x ≡ is_shut l.running.pending → x ≡ ready (state_of l a)
unfolding ready
ready_so l a x e f = rw e f

-- the card's walk may begin where the definition's does
sound_start : sound_with active_life challenged_state.load ≡ true
unfolding sound_with secrets_ok table_passes taken with_row
sound_start = refl

pub steady_start : (load : Loading) → load ≡ challenged_state.load → Steady area_size (state_of load (zeros area_size))
steady_start load e =
    rw e (steady_of active_life area_size challenged_state refl
    (record { sound = sound_start; files = refl; area = length-replicate {A = ℕ} area_size 0 }))

-- '9484', empty
abbrev pub front : List ℕ
front = 0x94 ∷ 0x84 ∷ 0x00 ∷ []

-- that and the order behind it, over the front of a buffer
pub order_behind : (buffer order : List ℕ) → 3 + length order ≤ length buffer
    → take (3 + length order) (overwrite (overwrite buffer 0 front) 3 order) ≡ front ++ order
order_behind buffer order h =
    let n : length (front ++ order) ≡ 3 + length order = length-append front order in
    rw (← over_then front order buffer 0 3 refl, over_zero (front ++ order) buffer (omega arith))
    (take_at (front ++ order) (drop (length (front ++ order)) buffer) (3 + length order) n)

-- the same of a buffer of zeros that has just enough room for the longest order
pub laid_behind : (order a b : List ℕ) → length order ≤ order_limit → a ≡ overwrite (zeros (3 + order_limit)) 0 front
    → b ≡ overwrite a 3 order
    → take (3 + length order) b ≡ front ++ order
laid_behind order a b h e f = rw (f, e) (order_behind (zeros (3 + order_limit)) order
    (rw length-replicate (omega arith)))

-- groupings behind it pass exactly where the order is complete
pub complete_behind : (capacity : ℕ) (order : List ℕ)
    → passes_behind capacity (front ++ order) ≡ complete capacity order
unfolding passes_behind complete
complete_behind capacity order = go (length (front ++ order)) (length-append front order)
  where
    ends : ℕ → ℕ → Bool
    ends fuel n = finished (walk fuel capacity n 0x00 order challenged_state)

    go : (n : ℕ) → n ≡ 3 + length order → ends (n - 3) n ≡ ends (length order) (3 + length order)
    go n e = let f : n - 3 ≡ length order = omega arith in rw (f, e)

-- what the card's walk came to, from that start
pub walked_so : (capacity : ℕ) (d : List ℕ) (load : Loading) (r : Result ℕ) → load ≡ challenged_state.load
    → r ≡ (onward capacity (length d) 0x00 3 (drop 3 d) (state_of load (zeros area_size))).result
    → finished r ≡ passes_behind capacity d
unfolding passes_behind
walked_so capacity d load r e f =
    rw (f, e) (ap finished (shut_walk capacity (length d) 0x00 3 (drop 3 d) challenged_state refl
    ∙ ap (λ (n : ℕ). walk n capacity (length d) 0x00 (drop 3 d) challenged_state) (length-drop 3 d)))

-- each unit of a complete order fits in a command
sized_fit : {us : List (List ℕ)} → Sized 1 longest_unit us → cuts.Fitting us
sized_fit none = cuts.none
sized_fit (more {c = u} l h s) = cuts.more {u = u} (omega arith) (sized_fit s)

pub complete_cuttable : (capacity : ℕ) (order : List ℕ) → complete capacity order ≡ true → cuts.cuttable order
unfolding cuts.cuttable
complete_cuttable capacity order e = sized_fit (units_sized capacity order e)
