-- Choices by a test.
use Rattle.std.specs.Prelude.{◌≡◌, refl, Bool, true, false, cond}
use Rattle.std.proofs.Common.{lt-ltb, le-ltb, le-leb, eq-eqb, ne_eqb}
use Rattle.std.proofs.lemmas.Bool.{lt-leb}

-- what each branch has where its test says so, the choice has
pub by_cond : {A : Type 0} (P : A → Type 0) (b : Bool) {x y : A} → (b ≡ true → P x) → (b ≡ false → P y)
    → P (cond b x y)
by_cond P true p q = p refl
by_cond P false p q = q refl

-- the tests that code made on its way, as equations of the Bools by which a definition chooses
pub ruleset cases = (lt-ltb, le-ltb, le-leb, lt-leb, eq-eqb, ne_eqb)
