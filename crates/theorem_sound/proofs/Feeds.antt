-- An open value takes its bytes: sound is kept, and bytes are left over only where nothing is open.
use Prim.Native.Nat.{ℕ, zero, suc, ◌+◌, ◌-◌, ◌≤◌}
use mathlib.Core.Path.{◌≡◌, refl, ap, sym, ◌∙◌, subst}
use mathlib.Core.Bool.{Bool, true}
use mathlib.Core.List.{List}
use lib.Dec.{leb}
use lib.ListN.{length, take, drop, length-take, length-drop}
use native.Mathlib.Omega.{arith}
use borrow.Author.Tests.{leb-true, le-leb}
use Rattle.lists.specs.Over.{length_over}
use Rattle.model.specs.declared.Open.{Open}
use Rattle.model.specs.declared.Open.TheVariants.{Shut, Table, Record}
use Rattle.model.specs.declared.Spot.{Spot}
use Rattle.model.specs.declared.Spot.TheVariants.{Nowhere, At}
use Rattle.model.specs.Loads.{State, file_list}
use Rattle.model.specs.Rules.{Result, went, thence, tag_spot, record_done, laid, record_bytes, table_bytes, feeding, fed}
use Rattle.model.specs.Command.{is_shut}
use Rattle.model.specs.Sound.{some_missing}
use Rattle.theorem_sound.specs.Keeps.{Ends}
use Rattle.theorem_sound.proofs.Ends.{then_ends}
use Rattle.theorem_sound.proofs.Inside.{InsideOf, Steady}
use Rattle.theorem_sound.proofs.Changes.{record_goes_on, record_ended}
use Rattle.theorem_sound.proofs.Feeding.{Misses, Fed, InsideWith, table_bytes_fed}

-- where the walk may go on: bytes are left only where nothing is open
pub record Walks (k : ℕ) (left : List ℕ) (s : State) : Type 0 where
  pub steady : Steady k s
  pub shut : 1 ≤ length left → is_shut s.load.running.pending ≡ true

-- a rule that reads bytes, whichever way it ends
abbrev pub Going : ℕ → Result (List ℕ) → Type 0
Going k r = Ends (λ left t. Walks k left t) (Steady k) r

laid_length : (x : Spot) (written : ℕ) (v area : List ℕ) → length (laid x written v area) ≡ length area
laid_length Nowhere written v area = refl
laid_length (At base size) written v area = length_over v area (base + written)

-- an open 'ssnn' after n bytes of those it misses
module _ (k tag written missing n : ℕ) (s : State) (a : length s.area ≡ k)
    (h : InsideWith (Record tag written missing) s) where
  record_steady : (m : ℕ) → n + m ≡ missing → Steady k (record_done tag (written + n) m s)
  unfolding record_done
  record_steady zero e = record { inside = record_ended tag written missing h; some = refl; area = a }
  record_steady (suc m) e = record {
    inside = record_goes_on tag written missing (written + n) (suc m) (omega arith) h;
    some = le-leb 1 (suc m) (omega arith);
    area = a;
  }

  record_shut : (m : ℕ) → m ≡ 0 → is_shut (record_done tag (written + n) m s).load.running.pending ≡ true
  unfolding record_done
  record_shut zero e = refl
  record_shut (suc m) e = absurd (omega arith)

pub taken_length : (m : ℕ) (bytes : List ℕ) → length (take m bytes) ≤ m
taken_length m bytes = rw length-take (omega arith)

record_walks : (k tag written missing : ℕ) (bytes : List ℕ) (s : State) → length s.area ≡ k
    → InsideWith (Record tag written missing) s
    → Walks k (drop missing bytes) (record_bytes tag written missing (take missing bytes) s)
unfolding record_bytes
record_walks k tag written missing bytes s a h =
    let v = take missing bytes in
    let t : State = record { load = s.load; area = laid (tag_spot (file_list s.load) tag) written v s.area } in
    let b : length t.area ≡ k = laid_length (tag_spot (file_list s.load) tag) written v s.area ∙ a in
    let n : length v ≡ _ = length-take missing bytes in
    let d : length (drop missing bytes) ≡ _ = length-drop missing bytes in
    record {
      steady = record_steady k tag written missing (length v) t b h (missing - length v) (omega arith);
      shut = λ l. record_shut k tag written missing (length v) t b h (missing - length v) (omega arith);
    }

-- a '3100' that misses nothing is closed
misses_none : (m : ℕ) (o : Open) → m ≡ 0 → Misses m o → some_missing o ≡ true → is_shut o ≡ true
misses_none m Shut z e h = refl
misses_none m (Table held missing) z e h = let g : 1 ≤ missing = leb-true 1 missing h in absurd (omega arith)
misses_none m (Record tag written missing) z e h = absurd e

table_walks : (k held missing : ℕ) (bytes : List ℕ) (s : State) → Fed k missing s
    → Going k (thence (table_bytes (take missing bytes) s) (λ n. went (drop missing bytes)))
table_walks k held missing bytes s y =
    let v = take missing bytes in
    let n : length v ≡ _ = length-take missing bytes in
    let d : length (drop missing bytes) ≡ _ = length-drop missing bytes in
    then_ends (λ (a : ℕ) (t : State). Fed k (missing - length v) t) (λ (left : List ℕ) (t : State). Walks k left t)
    (Steady k)
    (table_bytes v s) (λ a. went (drop missing bytes))
    (table_bytes_fed v k missing s y (taken_length missing bytes))
    (λ a t z. record {
      steady = z.steady;
      shut = λ l. misses_none (missing - length v) t.load.running.pending (omega arith) z.misses
          z.steady.some;
    })

-- a '3100' that is open misses something
abbrev pub table_some : Open → Bool
table_some Shut = true
table_some (Table held missing) = leb 1 missing
table_some (Record tag written missing) = true

pub some_table : (o : Open) → some_missing o ≡ true → table_some o ≡ true
some_table Shut e = refl
some_table (Table held missing) e = e
some_table (Record tag written missing) e = refl

-- nothing open misses nothing
pub shut_some : (o : Open) → o ≡ Shut → some_missing o ≡ true
shut_some o e = rw e

feeding_walks : (k : ℕ) (o : Open) (bytes : List ℕ) (s : State) → s.load.running.pending ≡ o → table_some o ≡ true
    → length s.area ≡ k → InsideOf s.load
    → Going k (feeding o bytes s)
feeding_walks k Shut bytes s e b a h = record {
  steady = record { inside = h; some = shut_some _ e; area = a };
  shut =
      λ l. ap is_shut e;
}
feeding_walks k (Table held missing) bytes s e b a h =
    table_walks k held missing bytes s (record {
      steady = record { inside = h; some = subst (λ (o : Open). some_missing o ≡ true) (sym e) b; area = a };
      misses = subst (Misses missing) (sym e) refl;
    })
feeding_walks k (Record tag written missing) bytes s e b a h =
    record_walks k tag written missing bytes s a (subst (λ (o : Open). InsideWith o s) e h)

-- bytes for an open value, which is sound but that an 'ssnn' may miss nothing
pub fed_walks : (k : ℕ) (bytes : List ℕ) (s : State) → table_some s.load.running.pending ≡ true
    → length s.area ≡ k → InsideOf s.load
    → Going k (fed bytes s)
unfolding fed
fed_walks k bytes s b a h = feeding_walks k s.load.running.pending bytes s refl b a h
