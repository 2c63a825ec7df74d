-- A query's bytes, store after store.
use Prim.Native.Nat.{ℕ}
use mathlib.Core.Path.{◌≡◌}
use mathlib.Core.List.{List, [], ◌∷◌, ◌++◌}
use native.Mathlib.Omega.{arith}
use borrow.Author.Tests.{eq-eqb, ne_eqb}
use lib.ListN.{length}
use Rattle.lists.specs.Over.{overwrite, over_then}
use Rattle.model.specs.declared.Card.{Card}
use Rattle.model.specs.Events.{answer_to}

-- the three queries' answers by their tags
pub asks_reference : (c : Card) (tag : ℕ) → tag ≡ 0x9484 → answer_to tag c ≡ c.chip.reference ++ c.chip.challenge
unfolding answer_to
asks_reference c tag e = rw (eq-eqb tag 0x9484 e)

pub asks_traceability : (c : Card) (tag : ℕ) → (tag ≡ 0x9484 → ⊥) → tag ≡ 0x8185
    → answer_to tag c ≡ c.chip.traceability
unfolding answer_to
asks_traceability c tag n e = rw (ne_eqb tag 0x9484 n, eq-eqb tag 0x8185 e)

-- 9F 70 01 GP 9F DC 01 internal
abbrev pub states : ℕ → ℕ → List ℕ
states gp internal = 0x9F ∷ 0x70 ∷ 0x01 ∷ gp ∷ 0x9F ∷ 0xDC ∷ 0x01 ∷ internal ∷ []

pub asks_states : (c : Card) (tag : ℕ) → (tag ≡ 0x9484 → ⊥) → (tag ≡ 0x8185 → ⊥)
    → answer_to tag c ≡ states c.life.gp c.loading.running.internal
unfolding answer_to
asks_states c tag n m = rw (ne_eqb tag 0x9484 n, ne_eqb tag 0x8185 m)

-- reference and challenge, by the equation of each store
pub reference_laid : (a reference challenge : List ℕ) {a1 a2 : List ℕ} → length reference ≡ 4
    → a1 ≡ overwrite a 0 reference → a2 ≡ overwrite a1 4 challenge
    → a2 ≡ overwrite a 0 (reference ++ challenge)
reference_laid a r h e f g = cc (over_then r h a 0 4 (omega arith))
