-- Inside a command the card is at '07' and selected. What soundness is there, said of the parts of the loading state
-- that it reads, so that a change of any other part changes nothing of it.
use Prim.Native.Nat.{ℕ, ◌≤◌, ◌<◌, ◌^◌}
use mathlib.Core.Path.{◌≡◌, refl, sym, ◌∙◌}
use mathlib.Core.Bool.{Bool, true, false, not, ◌&&◌, ◌||◌}
use mathlib.Core.List.{List}
use lib.Dec.{eqb}
use lib.ListN.{length, take}
use Rattle.model.specs.declared.Descriptor.{Descriptor}
use Rattle.model.specs.declared.Secret.{Secret}
use Rattle.model.specs.declared.Open.{Open}
use Rattle.model.specs.declared.Open.TheVariants.{Shut, Table, Record}
use Rattle.model.specs.declared.Life.{Life}
use Rattle.model.specs.declared.Loading.{Loading}
use Rattle.model.specs.Rows.{taken}
use Rattle.model.specs.Table.{table_limit, table_passes}
use Rattle.model.specs.Loads.{State, file_list}
use Rattle.model.specs.Rules.{Result, tag_spot}
use Rattle.model.specs.Command.{is_shut}
use Rattle.model.specs.Sound.{gp_ok, name_ok, selected_ok, table_open, secrets_ok, table_fits, record_fits, pending_fits}
use Rattle.model.specs.Sound.{some_missing, open_ok}
use Rattle.theorem_sound.specs.Keeps.{Kept, Ends}
use Rattle.lists.specs.Truth.{and_r, and_i, or_l, or_r, or_left}
use Rattle.theorem_sound.proofs.Parts.{sound_parts, sound_of_parts}

-- an open value fits: the rows, the number of descriptors, the descriptors
abbrev pub fits_in : Open → ℕ → ℕ → List Descriptor → Bool
fits_in Shut r n files = true
fits_in (Table held missing) r n files = not (taken r 5) && table_fits n held missing
fits_in (Record tag written missing) r n files = record_fits (tag_spot files tag) written missing

pub fits_same : (o : Open) (l : Loading) → pending_fits o l ≡ fits_in o l.running.rows l.count (file_list l)
fits_same Shut l = refl
fits_same (Table held missing) l = refl
fits_same (Record tag written missing) l = refl

-- the internal state, the rows, the open value, the descriptors and their number, the secrets
pub record Inside (i r : ℕ) (o : Open) (fs : List Descriptor) (n : ℕ) (xs : List Secret) : Type 0 where
  pub stage : (eqb i 0xCC || eqb i 0x5A || eqb i 0xA5) ≡ true
  pub room : length fs ≡ table_limit
  pub count : n ≤ table_limit
  pub passes : table_passes fs n ≡ true
  pub rows : r < 2 ^ 11
  pub placed : (eqb n 0 || taken r 5 || table_open o) ≡ true
  pub secrets : secrets_ok xs ≡ true
  pub opened : (is_shut o || eqb i 0x5A) ≡ true
  pub fits : fits_in o r n (take n fs) ≡ true

-- all of it but that an open value misses something
abbrev pub InsideOf : Loading → Type 0
InsideOf l = Inside l.running.internal l.running.rows l.running.pending l.files l.count l.secrets

pub record Steady (n : ℕ) (s : State) : Type 0 where
  pub inside : InsideOf s.load
  pub some : some_missing s.load.running.pending ≡ true
  pub area : length s.area ≡ n

-- a rule that stays so, whichever way it ends
abbrev pub Staying : {A : Type 0} → ℕ → Result A → Type 0
Staying n r = Ends (λ a t. Steady n t) (Steady n) r

-- what a command leaves as it is of the life of a card that takes it
pub record Personal (f : Life) : Type 0 where
  pub gp : f.gp ≡ 0x07
  pub selected : f.selected ≡ true
  pub name : name_ok f.namelen f.gp ≡ true

stage_of : (a b c d : Bool) → (a || ((b || c) && d)) ≡ true → (a || b || c) ≡ true
stage_of true b c d e = refl
stage_of false true c d e = refl
stage_of false false true d e = refl
stage_of false false false d e = e

not_locked : (v : Bool) (g : ℕ) → g ≡ 0x07 → (v && eqb g 0x87) ≡ false
not_locked true g e = rw e
not_locked false g e = refl

opened_of : (o : Open) (g i : ℕ) → open_ok o g i ≡ true → (is_shut o || eqb i 0x5A) ≡ true
opened_of Shut g i e = refl
opened_of (Table held missing) g i e = and_r (eqb g 0x07) (eqb i 0x5A) e
opened_of (Record tag written missing) g i e = and_r (eqb g 0x07) (eqb i 0x5A) e

pub steady_of : (f : Life) (n : ℕ) (s : State) → f.gp ≡ 0x07 → Kept f n s → Steady n s
steady_of f n s g k =
    let p = sound_parts f s.load k.sound in
    let l = s.load in
    record {
      inside = record {
        stage = stage_of (eqb l.running.internal 0xCC) (eqb l.running.internal 0x5A)
            (eqb l.running.internal 0xA5) (eqb f.gp 0x07 || eqb f.gp 0x87) p.internal;
        room = k.files;
        count = p.count;
        passes = p.passes;
        rows = p.rows;
        placed = or_left _ _ p.placed (not_locked (eqb l.running.internal 0x5A) f.gp g);
        secrets = p.secrets;
        opened = opened_of l.running.pending f.gp l.running.internal p.opened;
        fits = sym (fits_same l.running.pending l) ∙ p.fits;
      };
      some = p.some;
      area = k.area;
    }

gp_ok_lem : (g : ℕ) → g ≡ 0x07 → gp_ok g ≡ true
gp_ok_lem g e = rw e

internal_ok_lem : (a b c : Bool) (g : ℕ) → g ≡ 0x07 → (a || b || c) ≡ true
    → (a || ((b || c) && (eqb g 0x07 || eqb g 0x87))) ≡ true
internal_ok_lem true b c g e h = refl
internal_ok_lem false b c g e h = rw e (and_i (b || c) true h refl)

selected_ok_lem : (x : Bool) (g i : ℕ) → x ≡ true → g ≡ 0x07 → selected_ok x g i ≡ true
selected_ok_lem x g i p e = rw (p, e)

present : (g : ℕ) → g ≡ 0x07 → not (eqb g 0x00) ≡ true
present g e = rw e

open_ok_lem : (o : Open) (g i : ℕ) → g ≡ 0x07 → (is_shut o || eqb i 0x5A) ≡ true → open_ok o g i ≡ true
open_ok_lem Shut g i e h = refl
open_ok_lem (Table held missing) g i e h = rw e h
open_ok_lem (Record tag written missing) g i e h = rw e h

pub kept_of_lem : (f : Life) (n : ℕ) (s : State) → Personal f → Steady n s → Kept f n s
kept_of_lem f n s y k =
    let l = s.load in
    let h = k.inside in
    record {
      sound = sound_of_parts f l (record {
        gp = gp_ok_lem f.gp y.gp;
        internal = internal_ok_lem (eqb l.running.internal 0xCC) (eqb l.running.internal 0x5A)
            (eqb l.running.internal 0xA5) f.gp y.gp h.stage;
        name = y.name;
        selected = selected_ok_lem f.selected f.gp l.running.internal y.selected y.gp;
        count = h.count;
        passes = h.passes;
        rows = h.rows;
        absent = or_r (eqb l.running.rows 0) (not (eqb f.gp 0x00)) (present f.gp y.gp);
        placed = or_l (eqb l.count 0 || taken l.running.rows 5 || table_open l.running.pending)
            (eqb l.running.internal 0x5A && eqb f.gp 0x87) h.placed;
        secrets = h.secrets;
        opened = open_ok_lem l.running.pending f.gp l.running.internal y.gp h.opened;
        fits = fits_same l.running.pending l ∙ h.fits;
        some = k.some;
      });
      files = h.room;
      area = k.area;
    }
