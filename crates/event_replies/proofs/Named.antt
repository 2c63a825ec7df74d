-- What a sound card has: room for its name, and where it is selected what a command counts on.
use Prim.Native.Nat.{ℕ, ◌≤◌}
use mathlib.Core.Path.{◌≡◌, refl, subst}
use mathlib.Core.Bool.{Bool, true, false, cond, not, ◌&&◌, ◌||◌, false≢true}
use mathlib.Core.List.{List}
use native.Mathlib.Omega.{arith}
use lib.Dec.{eqb, leb}
use borrow.Author.Tests.{eqb-true, leb-true}
use Rattle.model.specs.declared.Card.{Card}
use Rattle.model.specs.Stored.{area_size}
use Rattle.model.specs.Sound.{selected_ok}
use Rattle.theorem_sound.specs.Keeps.{Good}
use Rattle.theorem_sound.proofs.Inside.{Steady, steady_of}
use Rattle.theorem_sound.proofs.Parts.{sound_parts}
use Rattle.lists.specs.Truth.{and_r}

name_most : (b : Bool) (n : ℕ) → cond b (eqb n 0) (leb 5 n && leb n 16) ≡ true → n ≤ 16
name_most true n e = let z : n ≡ 0 = eqb-true n 0 e in omega arith
name_most false n e = leb-true n 16 (and_r (leb 5 n) (leb n 16) e)

pub good_name : (c : Card) (a : List ℕ) → Good area_size c a → c.life.namelen ≤ 16
good_name c a k = name_most (eqb c.life.gp 0x00) c.life.namelen
    (sound_parts c.life c.loading k.sound).name

-- a selected card is at '07'
selected_gp : (b v : Bool) → cond b (true || v) (not true) ≡ true → b ≡ true
selected_gp true v e = refl
selected_gp false v e = absurd (false≢true e)

-- what a command may count on
pub good_steady : (c : Card) (a : List ℕ) → Good area_size c a → c.life.selected ≡ true
    → Steady area_size (record { load = c.loading; area = a })
good_steady c a k e =
    let p = sound_parts c.life c.loading k.sound in
    let s = subst (λ (x : Bool). selected_ok x c.life.gp c.loading.running.internal ≡ true) e p.selected in
    let g : c.life.gp ≡ 0x07 = eqb-true c.life.gp 0x07
    (selected_gp (eqb c.life.gp 0x07) (not (eqb c.loading.running.internal 0x5A)) s) in
    steady_of c.life area_size (record { load = c.loading; area = a }) g
    (record { sound = k.sound; files = k.files; area = k.area })
