-- Bytes of an open '3100', one by one: after each the card is sound again.
use Prim.Native.Nat.{ℕ, zero, suc, ◌+◌, ◌-◌, ◌≤◌}
use mathlib.Core.Path.{◌≡◌, refl, ap, subst}
use mathlib.Core.Bool.{true, false, ◌||◌}
use mathlib.Core.List.{List, [], ◌∷◌}
use lib.Dec.{eqb}
use lib.ListN.{length, take, set, length-set}
use native.Mathlib.Omega.{arith}
use native.Mathlib.Nat.{suc-sub-suc, sub-zero}
use borrow.Author.Tests.{eqb-true, eqb-false, le-leb}
use Rattle.lists.specs.Choice.{by_cond}
use Rattle.model.specs.declared.Descriptor.{Descriptor}
use Rattle.model.specs.declared.Secret.{Secret}
use Rattle.model.specs.declared.Open.{Open}
use Rattle.model.specs.declared.Open.TheVariants.{Shut, Table, Record}
use Rattle.model.specs.declared.Verdict.{Verdict}
use Rattle.model.specs.declared.Verdict.TheVariants.{Passes, Refuses}
use Rattle.model.specs.Rows.{taken, with_row, descriptor_size}
use Rattle.model.specs.Table.{descriptor_of, admit_of, passed}
use Rattle.model.specs.Loads.{State, file_list, changed, with_file}
use Rattle.model.specs.Rules.{Result, table_done, described, table_byte, in_table, table_bytes}
use Rattle.theorem_sound.specs.Keeps.{Ends}
use Rattle.theorem_sound.specs.Opened.{TableOpen}
use Rattle.lists.specs.Truth.{or_l, or_r}
use Rattle.theorem_sound.proofs.Ends.{then_ends}
use Rattle.theorem_sound.proofs.Within.{table_more}
use Rattle.theorem_sound.proofs.Opened.{table_facts}
use Rattle.theorem_sound.proofs.Inside.{Inside, Steady}
use Rattle.theorem_sound.proofs.Taking.{with_row_bound, with_row_itself}
use Rattle.theorem_sound.proofs.Changes.{open_other, table_fit}

-- a byte that is not a descriptor's last
held_more : {i r : ℕ} {fs : List Descriptor} {n : ℕ} {xs : List Secret} (held m : ℕ) → (held + 1 ≡ descriptor_size → ⊥)
    → Inside i r (Table held (suc m)) fs n xs → Inside i r (Table (held + 1) m) fs n xs × (1 ≤ m)
held_more {r} {n} held m e h =
    let t : TableOpen r n held (suc m) = table_facts r n held (suc m) h.fits in (
      open_other (Table (held + 1) m) h.placed h.opened
          (table_fit r n (held + 1) m t.untaken (omega arith) (omega arith) (omega arith)) h,
      omega arith,
    )

module _ {i r : ℕ} {fs : List Descriptor} {n : ℕ} {xs : List Secret} (held m : ℕ) (d : Descriptor)
    (e : held + 1 ≡ descriptor_size) (p : passed (admit_of d (take n fs)) ≡ true)
    (h : Inside i r (Table held (suc m)) fs n xs) where
  -- a descriptor's last byte, and not the table's
  file_more : (k : ℕ) → m ≡ suc k → Inside i r (Table 0 m) (set fs n d) (n + 1) xs
  file_more k q =
      let t : TableOpen r n held (suc m) = table_facts r n held (suc m) h.fits in
      record {
        stage = h.stage;
        room = rw length-set h.room;
        count = omega arith;
        passes = table_more fs n d h.passes (omega (arith, h.room)) p;
        rows = h.rows;
        placed = or_r (eqb (n + 1) 0 || taken r 5) true refl;
        secrets = h.secrets;
        opened = h.opened;
        fits = table_fit r (n + 1) 0 m t.untaken (omega arith) (omega arith) (omega arith);
      }

  -- the table's last byte
  file_last : Inside i (with_row r 5) Shut (set fs n d) (n + 1) xs
  file_last =
      let t : TableOpen r n held (suc m) = table_facts r n held (suc m) h.fits in
      record {
        stage = h.stage;
        room = rw length-set h.room;
        count = omega arith;
        passes = table_more fs n d h.passes (omega (arith, h.room)) p;
        rows = with_row_bound 5 (omega arith) (omega arith) r h.rows;
        placed = or_l (eqb (n + 1) 0 || taken (with_row r 5) 5) false
            (or_r (eqb (n + 1) 0) (taken (with_row r 5) 5) (with_row_itself r));
        secrets = h.secrets;
        opened = refl;
        fits = refl;
      }

-- how many bytes an open '3100' misses; where it is closed, none
abbrev pub Misses : ℕ → Open → Type 0
Misses m Shut = m ≡ 0
Misses m (Table held missing) = missing ≡ m
Misses m (Record tag written missing) = ⊥

pub record Fed (k m : ℕ) (s : State) : Type 0 where
  pub steady : Steady k s
  pub misses : Misses m s.load.running.pending

-- the open value of a state that is looked at may be named by itself
abbrev pub InsideWith : Open → State → Type 0
InsideWith o s = Inside s.load.running.internal s.load.running.rows o s.load.files s.load.count
    s.load.secrets

module _ (k held : ℕ) (s : State) (y : Steady k s) where
  done_fed : (m : ℕ) (d : Descriptor) → held + 1 ≡ descriptor_size → passed (admit_of d (file_list s.load)) ≡ true
      → InsideWith (Table held (suc m)) s → Fed k m (table_done m (changed (with_file d) s))
  unfolding table_done
  done_fed zero d e p h =
      record { steady = record { inside = file_last held zero d e p h; some = refl; area = y.area }; misses = refl }
  done_fed (suc j) d e p h = record {
    steady = record {
      inside = file_more held (suc j) d e p h j refl;
      some = le-leb 1 (suc j)
          (omega arith);
      area = y.area;
    };
    misses = refl;
  }

  described_fed : (m : ℕ) (d : Descriptor) (v : Verdict) → admit_of d (file_list s.load) ≡ v
      → held + 1 ≡ descriptor_size
      → InsideWith (Table held (suc m)) s → Ends (λ a t. Fed k m t) (Steady k) (described v d m s)
  described_fed m d (Passes w) q e h = done_fed m d e (ap passed q) h
  described_fed m d (Refuses w) q e h = y

  byte_fed : (m b : ℕ) → InsideWith (Table held (suc m)) s → Ends (λ a t. Fed k m t) (Steady k) (table_byte held m b s)
  unfolding table_byte
  byte_fed m b h =
      let bytes = set s.load.held held b in
      let d = descriptor_of bytes in
      by_cond (λ (r : Result ℕ). Ends (λ a t. Fed k m t) (Steady k) r) (eqb (held + 1) descriptor_size)
      (λ e. described_fed m d (admit_of d (file_list s.load)) refl (eqb-true (held + 1) descriptor_size e) h)
      (λ e. let g = held_more held m (eqb-false (held + 1) descriptor_size e) h in
      record { steady = record { inside = g.0; some = le-leb 1 m g.1; area = y.area }; misses = refl })

-- one byte, where it is missed
in_table_fed : (k m b : ℕ) (s : State) (o : Open) → Steady k s → InsideWith o s → Misses (suc m) o
    → Ends (λ a t. Fed k m t) (Steady k) (in_table o b s)
in_table_fed k m b s Shut y h e = absurd (omega arith)
in_table_fed k m b s (Table held missing) y h e =
    let q : missing - 1 ≡ m = omega arith in
    rw q (byte_fed k held s y m b (subst (λ (x : ℕ). InsideWith (Table held x) s) e h))
in_table_fed k m b s (Record tag written missing) y h e = absurd e

pub table_bytes_fed : (v : List ℕ) (k m : ℕ) (s : State) → Fed k m s → length v ≤ m
    → Ends (λ a t. Fed k (m - length v) t) (Steady k) (table_bytes v s)
unfolding table_bytes
table_bytes_fed [] k m s y h = rw sub-zero y
table_bytes_fed (b ∷ bs) k zero s y h = absurd (omega arith)
table_bytes_fed (b ∷ bs) k (suc m) s y h =
    then_ends (λ (a : ℕ) (t : State). Fed k m t) (λ (a : ℕ) (t : State). Fed k (suc m - suc (length bs)) t) (Steady k)
    (in_table s.load.running.pending b s) (λ a. table_bytes bs)
    (in_table_fed k m b s s.load.running.pending y.steady y.steady.inside y.misses)
    (λ a t z. rw suc-sub-suc (table_bytes_fed bs k m t z (omega arith)))
