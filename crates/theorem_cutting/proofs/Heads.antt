-- A header, byte by byte: whole, the walk judges it there; torn, the command fails by '6A80'.
use Prim.Native.Nat.{ℕ, suc, ◌≤◌}
use mathlib.Core.Path.{◌≡◌, refl, ap, ◌∙◌}
use mathlib.Core.Bool.{Bool, true, false, cond}
use mathlib.Core.List.{List, [], ◌∷◌}
use native.Mathlib.Omega.{arith}
use lib.Dec.{eqb, lit≤}
use lib.ListN.{length, take, drop, drop_of_length-le}
use lib.Seq.{length-take-le}
use borrow.Author.Tests.{le-ltb}
use Rattle.lists.specs.Bytes.{word}
use Rattle.model.specs.declared.Open.{Open}
use Rattle.model.specs.declared.Open.TheVariants.{Shut}
use Rattle.model.specs.declared.Head.{Head}
use Rattle.model.specs.declared.Header.{Header}
use Rattle.model.specs.declared.Header.TheVariants.{Torn, Whole}
use Rattle.model.specs.Header.{headed, long_form, header_of}
use Rattle.model.specs.Loads.{State}
use Rattle.model.specs.Rules.{went, failed, Rule, thence}
use Rattle.theorem_cutting.specs.Bytewise.{between, head, open_byte, begun, on_head, step, run, at_end}
use Rattle.theorem_cutting.proofs.Splits.{thence_went}

-- the header of three bytes or more, and of five or more where the third is 'FF'
pub header_three : (a b c : ℕ) (r : List ℕ) → header_of (a ∷ b ∷ c ∷ r)
    ≡ cond (eqb c 0xFF) (long_form (a ∷ b ∷ c ∷ r)) (headed (word a b) 3 c)
unfolding header_of
header_three a b c r = rw (le-ltb (suc (suc (suc (length r)))) 3 (omega arith))

pub header_five : (a b c d f : ℕ) (r : List ℕ) → long_form (a ∷ b ∷ c ∷ d ∷ f ∷ r)
    ≡ cond (eqb (word d f) 0xFFFF) Torn (headed (word a b) 5 (word d f))
unfolding long_form
header_five a b c d f r = rw (le-ltb (suc (suc (suc (suc (suc (length r)))))) 5 (omega arith))

-- what the bytes `o` come to, by their header
abbrev Begins : {B : Type 0} → Rule B → ℕ → State → List ℕ → Header → Type 0
Begins k capacity s o Torn = thence (run capacity o between s) (at_end k) ≡ failed 0x6A80 s
Begins k capacity s o (Whole h) = run capacity o between s ≡ thence (begun capacity h s)
    (λ p. run capacity (drop h.size o) p)

module _ {B : Type 0} (k : Rule B) (capacity : ℕ) (s : State) (e : s.load.running.pending ≡ Shut) where
  -- the first two bytes
  one : (a : ℕ) (r : List ℕ) → run capacity (a ∷ r) between s ≡ run capacity r (head (a ∷ [])) s
  unfolding run step
  one a r = ap (λ (o : Open). thence (open_byte o a s) (λ p'. run capacity r p')) e

  two : (a b : ℕ) (r : List ℕ) → run capacity (a ∷ b ∷ r) between s ≡ run capacity r (head (a ∷ b ∷ [])) s
  two a b r = one a (b ∷ r) ∙ unfold run step header_of in refl

  three : (a b c : ℕ) (r : List ℕ) → run capacity (a ∷ b ∷ c ∷ r) between s
      ≡ thence (on_head capacity (cond (eqb c 0xFF) Torn (headed (word a b) 3 c)) (a ∷ b ∷ c ∷ []) s)
      (λ p. run capacity r p)
  three a b c r = two a b (c ∷ r) ∙ unfold run step header_of long_form in refl

  four : (a b c d : ℕ) (r : List ℕ) → eqb c 0xFF ≡ true
      → run capacity (a ∷ b ∷ c ∷ d ∷ r) between s ≡ run capacity r (head (a ∷ b ∷ c ∷ d ∷ [])) s
  four a b c d r q =
      three a b c (d ∷ r)
      ∙ ap (λ (x : Bool). thence (on_head capacity (cond x Torn (headed (word a b) 3 c)) (a ∷ b ∷ c ∷ []) s)
      (λ p. run capacity (d ∷ r) p)) q
      ∙ unfold run step header_of long_form in ap (λ (x : Bool). thence
      (on_head capacity (cond x Torn (headed (word a b) 3 c)) (a ∷ b ∷ c ∷ d ∷ []) s) (λ p. run capacity r p)) q

  five : (a b c d f : ℕ) (r : List ℕ) → eqb c 0xFF ≡ true → run capacity (a ∷ b ∷ c ∷ d ∷ f ∷ r) between s
      ≡ thence (on_head capacity (cond (eqb (word d f) 0xFFFF) Torn (headed (word a b) 5 (word d f)))
      (a ∷ b ∷ c ∷ d ∷ f ∷ []) s) (λ p. run capacity r p)
  five a b c d f r q =
      four a b c d (f ∷ r) q
      ∙ unfold run step header_of long_form in ap (λ (x : Bool). thence
      (on_head capacity (cond x (cond (eqb (word d f) 0xFFFF) Torn (headed (word a b) 5 (word d f)))
      (headed (word a b) 3 c)) (a ∷ b ∷ c ∷ d ∷ f ∷ []) s) (λ p. run capacity r p)) q

  begins_five : (a b c d f : ℕ) (r : List ℕ) (y : Bool) → eqb c 0xFF ≡ true → eqb (word d f) 0xFFFF ≡ y
      → Begins k capacity s (a ∷ b ∷ c ∷ d ∷ f ∷ r) (cond y Torn (headed (word a b) 5 (word d f)))
  begins_five a b c d f r true q g = rw (five a b c d f r q, g)
  begins_five a b c d f r false q g = rw (five a b c d f r q, g)

  begins_long : (a b c : ℕ) (r : List ℕ) → eqb c 0xFF ≡ true
      → Begins k capacity s (a ∷ b ∷ c ∷ r) (long_form (a ∷ b ∷ c ∷ r))
  begins_long a b c [] q = unfold long_form in rw (three a b c [], q) (unfold run in refl)
  begins_long a b c (d ∷ []) q = unfold long_form in rw (four a b c d [] q) (unfold run in refl)
  begins_long a b c (d ∷ f ∷ r) q = rw (header_five a b c d f r)
      (begins_five a b c d f r (eqb (word d f) 0xFFFF) q refl)

  begins_third : (a b c : ℕ) (r : List ℕ) (x : Bool) → eqb c 0xFF ≡ x
      → Begins k capacity s (a ∷ b ∷ c ∷ r) (cond x (long_form (a ∷ b ∷ c ∷ r)) (headed (word a b) 3 c))
  begins_third a b c r true q = begins_long a b c r q
  begins_third a b c r false q = rw (three a b c r, q)

  begins : (a : ℕ) (d : List ℕ) → Begins k capacity s (a ∷ d) (header_of (a ∷ d))
  begins a [] = unfold header_of in rw (one a []) (unfold run in refl)
  begins a (b ∷ []) = unfold header_of in rw (two a b []) (unfold run in refl)
  begins a (b ∷ c ∷ r) = rw (header_three a b c r) (begins_third a b c r (eqb c 0xFF) refl)

-- a torn header, where the command ends or later
pub run_torn : {B : Type 0} (k : Rule B) (capacity a : ℕ) (d : List ℕ) (s : State) → s.load.running.pending ≡ Shut
    → header_of (a ∷ d) ≡ Torn
    → thence (run capacity (a ∷ d) between s) (at_end k) ≡ failed 0x6A80 s
run_torn k capacity a d s e q = rw q at (begins k capacity s e a d)

-- a whole header
pub run_whole : (capacity a : ℕ) (d : List ℕ) (h : Head) (s : State) → s.load.running.pending ≡ Shut
    → header_of (a ∷ d) ≡ Whole h
    → run capacity (a ∷ d) between s ≡ thence (begun capacity h s) (λ p. run capacity (drop h.size (a ∷ d)) p)
run_whole capacity a d h s e q = rw q at (begins (went between) capacity s e a d)

-- how long a header is, and that its own bytes are one
pub record Long (o : List ℕ) (h : Head) : Type 0 where
  pub least : 3 ≤ h.size
  pub most : h.size ≤ 5
  pub there : h.size ≤ length o
  pub alone : header_of (take h.size o) ≡ Whole h

abbrev LongIf : List ℕ → Header → Type 0
LongIf o Torn = Unit {0}
LongIf o (Whole h) = Long o h

long_five : (a b c d f : ℕ) (r : List ℕ) (y : Bool) → eqb c 0xFF ≡ true → eqb (word d f) 0xFFFF ≡ y
    → LongIf (a ∷ b ∷ c ∷ d ∷ f ∷ r) (cond y Torn (headed (word a b) 5 (word d f)))
long_five a b c d f r true q g = tt
long_five a b c d f r false q g =
    record {
      least = lit≤ tt;
      most = lit≤ tt;
      there = omega arith;
      alone = header_three a b c (d ∷ f ∷ []) ∙ rw
          (q, header_five a b c d f [], g);
    }

long_long : (a b c : ℕ) (r : List ℕ) → eqb c 0xFF ≡ true → LongIf (a ∷ b ∷ c ∷ r) (long_form (a ∷ b ∷ c ∷ r))
long_long a b c [] q = unfold long_form in tt
long_long a b c (d ∷ []) q = unfold long_form in tt
long_long a b c (d ∷ f ∷ r) q = rw (header_five a b c d f r) (long_five a b c d f r (eqb (word d f) 0xFFFF) q refl)

long_third : (a b c : ℕ) (r : List ℕ) (x : Bool) → eqb c 0xFF ≡ x
    → LongIf (a ∷ b ∷ c ∷ r) (cond x (long_form (a ∷ b ∷ c ∷ r)) (headed (word a b) 3 c))
long_third a b c r true q = long_long a b c r q
long_third a b c r false q = record {
  least = lit≤ tt;
  most = lit≤ tt;
  there = omega arith;
  alone = header_three a b c
      [] ∙ rw q;
}

long_if : (o : List ℕ) → LongIf o (header_of o)
long_if [] = unfold header_of in tt
long_if (a ∷ []) = unfold header_of in tt
long_if (a ∷ b ∷ []) = unfold header_of in tt
long_if (a ∷ b ∷ c ∷ r) = rw (header_three a b c r) (long_third a b c r (eqb c 0xFF) refl)

pub header_long : (o : List ℕ) (h : Head) → header_of o ≡ Whole h → Long o h
header_long o h q = rw q at (long_if o)

-- the bytes of a header alone
alone_whole : (capacity : ℕ) (u : List ℕ) (h : Head) (s : State) → s.load.running.pending ≡ Shut
    → header_of u ≡ Whole h → length u ≡ h.size
    → run capacity u between s ≡ begun capacity h s
alone_whole capacity [] h s e q n = absurd (let z : ◌≡◌ {A = Header} Torn (Whole h) = unfold header_of in q in
    let y : ◌≡◌ {A = ℕ} 0 1 = cc in omega arith)
alone_whole capacity (a ∷ u) h s e q n =
    run_whole capacity a u h s e q ∙ rw (drop_of_length-le (a ∷ u) {i = h.size} (omega arith))
    (unfold run in thence_went (begun capacity h s))

pub run_head : (capacity : ℕ) (o : List ℕ) (h : Head) (s : State) → s.load.running.pending ≡ Shut
    → header_of o ≡ Whole h
    → run capacity (take h.size o) between s ≡ begun capacity h s
run_head capacity o h s e q =
    let l : Long o h = header_long o h q in
    alone_whole capacity (take h.size o) h s e l.alone (length-take-le h.size o l.there)
