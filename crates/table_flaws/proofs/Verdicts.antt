-- The flaw and the word agree: a descriptor has a flaw exactly where the table refuses it, by the word of that flaw.
use Prim.Native.Nat.{ℕ, ◌+◌}
use mathlib.Core.Path.{◌≡◌, refl}
use mathlib.Core.Bool.{Bool, true, false, cond, not, ◌&&◌, ◌||◌}
use mathlib.Core.List.{List, [], ◌∷◌}
use lib.Dec.{eqb}
use Rattle.model.specs.declared.Descriptor.{Descriptor}
use Rattle.model.specs.declared.Verdict.{Verdict}
use Rattle.model.specs.declared.Verdict.TheVariants.{Refuses}
use Rattle.model.specs.Table.{clashes, rules_ok, admit_of}
use Rattle.table_flaws.specs.declared.Flaw.{Flaw}
use Rattle.table_flaws.specs.declared.Flaw.TheVariants.{LidUsed, SfiUsed}
use Rattle.table_flaws.specs.Flaws.{clash_flaw, flaw_of, verdict_of}

-- Choices by a test, and by tests joined to one.
verdict_cond : (b : Bool) (x y : Flaw) → verdict_of (cond b x y) ≡ cond b (verdict_of x) (verdict_of y)
verdict_cond true x y = refl
verdict_cond false x y = refl

module _ (x y : Verdict) where
  cond_and : (a b : Bool) → cond (a && b) x y ≡ cond a (cond b x y) y
  cond_and true b = refl
  cond_and false b = refl

  cond_cond : (a b c : Bool) → cond (cond a b c) x y ≡ cond a (cond b x y) (cond c x y)
  cond_cond true b c = refl
  cond_cond false b c = refl

  cond_not : (b : Bool) → cond (not b) x y ≡ cond b y x
  cond_not true = refl
  cond_not false = refl

-- a descriptor of the same LID or SFI, or a clash with one of the others
clash_choice : (lid sfi others : Bool) (k : ℕ) (x : Verdict) (later : Flaw)
    → verdict_of later ≡ cond others (Refuses 0x6A80) x
    → verdict_of (cond lid (LidUsed k) (cond (lid || sfi) (SfiUsed k) later))
    ≡ cond (lid || sfi || others) (Refuses 0x6A80) x
clash_choice true sfi others k x later e = refl
clash_choice false true others k x later e = refl
clash_choice false false others k x later e = e

clash_verdict : (d : Descriptor) (es : List Descriptor) (k : ℕ) (later : Flaw)
    → verdict_of (clash_flaw d es k later) ≡ cond (clashes d es) (Refuses 0x6A80) (verdict_of later)
unfolding clash_flaw clashes
clash_verdict d [] k later = refl
clash_verdict d (e ∷ es) k later =
    let sfi = not (eqb d.sfi 0) && eqb d.sfi e.sfi in
    let rest = clash_flaw d es (k + 1) later in
    clash_choice (eqb d.lid e.lid) sfi (clashes d es) k (verdict_of later) rest
    (clash_verdict d es (k + 1) later)

pub flaw_verdict : (d : Descriptor) (before : List Descriptor) → verdict_of (flaw_of d before) ≡ admit_of d before
unfolding flaw_of admit_of rules_ok
flaw_verdict d before = simp (verdict_cond, clash_verdict, cond_and, cond_cond, cond_not)
