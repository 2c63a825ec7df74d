-- The FCIs, laid store after store.
use Prim.Native.Nat.{ℕ, ◌+◌, ◌≤◌}
use mathlib.Core.Path.{◌≡◌, refl, ◌∙◌}
use mathlib.Core.List.{List, [], ◌∷◌, ◌++◌, append_assoc}
use native.Mathlib.Omega.{arith}
use lib.ListN.{length, length-append}
use lib.Seq.{length-take-le}
use Rattle.lists.specs.Over.{overwrite, over_then}
use Rattle.model.specs.declared.Card.{Card}
use Rattle.model.specs.Events.{name_fci, full_fci}
use Rattle.answers.specs.Answers.{front}

-- 6F, a length, 84, n and the name, by the equation of each store
pub front_laid : (a name : List ℕ) (l n : ℕ) {a1 a2 : List ℕ} → a1 ≡ overwrite a 0 (0x6F ∷ l ∷ 0x84 ∷ n ∷ [])
    → a2 ≡ overwrite a1 4 name
    → a2 ≡ overwrite a 0 (0x6F ∷ l ∷ 0x84 ∷ n ∷ name)
front_laid a name l n e1 e2 = cc (over_then (0x6F ∷ l ∷ 0x84 ∷ n ∷ []) name a 0 4 refl)

-- the full FCI's fixed tags
abbrev pub serial_tags : List ℕ
serial_tags = 0xA5 ∷ 0x16 ∷ 0xBF ∷ 0x0C ∷ 0x13 ∷ 0xC7 ∷ 0x08 ∷ []

abbrev pub startup_tags : List ℕ
startup_tags = 0x53 ∷ 0x07 ∷ []

-- what follows a front of 4 + n bytes in the full FCI, store after store
module _ (a head serial startup : List ℕ) (n : ℕ) (h : length head ≡ 4 + n) (s : length serial ≡ 8) where
  stores : overwrite a 0 (head ++ (serial_tags ++ (serial ++ (startup_tags ++ startup))))
      ≡ overwrite (overwrite (overwrite (overwrite (overwrite a 0 head) (4 + n) serial_tags) (11 + n) serial)
      (19 + n) startup_tags) (21 + n) startup
  stores =
      over_then head (serial_tags ++ (serial ++ (startup_tags ++ startup))) a 0 (4 + n) (omega arith)
      ∙ over_then serial_tags (serial ++ (startup_tags ++ startup)) _ (4 + n) (11 + n) (omega arith)
      ∙ over_then serial (startup_tags ++ startup) _ (11 + n) (19 + n) (omega arith)
      ∙ over_then startup_tags startup _ (19 + n) (21 + n) (omega arith)

  -- the same by the equation of each store
  pub full_laid : {a1 a2 a3 a4 a5 : List ℕ} → a1 ≡ overwrite a 0 head → a2 ≡ overwrite a1 (4 + n) serial_tags
      → a3 ≡ overwrite a2 (11 + n) serial
      → a4 ≡ overwrite a3 (19 + n) startup_tags → a5 ≡ overwrite a4 (21 + n) startup
      → a5 ≡ overwrite a 0 (head ++ (serial_tags ++ (serial ++ (startup_tags ++ startup))))
  full_laid e1 e2 e3 e4 e5 = cc stores

-- the full FCI, its parts from the right
pub full_parts : (c : Card) → full_fci c ≡ front 26 c.life ++
    (serial_tags ++ (c.loading.serial ++ (startup_tags ++ c.loading.startup)))
unfolding full_fci
full_parts c = simp append_assoc

-- how many bytes they have
module _ (c : Card) (fits : c.life.namelen ≤ length c.life.name) where
  pub front_length : (more : ℕ) → length (front more c.life) ≡ 4 + c.life.namelen
  front_length more = let e = length-take-le c.life.namelen c.life.name fits in omega arith

  pub name_length_lem : length (name_fci c) ≡ c.life.namelen + 4
  unfolding name_fci
  name_length_lem = omega (arith, front_length 2)

  pub full_length : length c.loading.serial ≡ 8 → length c.loading.startup ≡ 7
      → length (full_fci c) ≡ c.life.namelen + 28
  full_length s t = rw full_parts (simp length-append (omega (arith, front_length 26)))
