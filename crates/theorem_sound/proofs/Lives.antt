-- What the life cycle's events change of a card keeps it sound.
use Prim.Native.Nat.{ℕ, ◌+◌, ◌-◌}
use mathlib.Core.Path.{◌≡◌, refl, sym, ◌∙◌, subst}
use mathlib.Core.Bool.{Bool, true, false, cond, not, ◌&&◌, ◌||◌, false≢true, true≢false}
use lib.Dec.{eqb, leb}
use borrow.Author.Tests.{eqb-true, not-true}
use Rattle.lists.specs.Choice.{by_cond}
use Rattle.model.specs.declared.Open.{Open}
use Rattle.model.specs.declared.Open.TheVariants.{Shut, Table, Record}
use Rattle.model.specs.declared.Life.{Life}
use Rattle.model.specs.declared.Loading.{Loading}
use Rattle.model.specs.Rows.{taken}
use Rattle.model.specs.Sound.{gp_ok, internal_ok, name_ok, selected_ok, table_open, open_ok, sound_with}
use Rattle.model.specs.Events.{name_length}
use Rattle.lists.specs.Truth.{and_r, or_l, or_r, or_elim}
use Rattle.theorem_sound.proofs.Parts.{sound_parts, sound_of_parts}

-- what sound asks of the life of a card: its GP state, selected, the name's length, beside the internal state and the
-- rows
pub record LifeOk (g : ℕ) (x : Bool) (n i r : ℕ) : Type 0 where
  pub gp : gp_ok g ≡ true
  pub internal : internal_ok i g ≡ true
  pub name : name_ok n g ≡ true
  pub selected : selected_ok x g i ≡ true
  pub absent : (eqb r 0 || not (eqb g 0x00)) ≡ true

abbrev pub LifeOf : Life → Loading → Type 0
LifeOf f l = LifeOk f.gp f.selected f.namelen l.running.internal l.running.rows

pub life_of_lem : (f : Life) (l : Loading) → sound_with f l ≡ true → LifeOf f l
life_of_lem f l e =
    let p = sound_parts f l e in
    record { gp = p.gp; internal = p.internal; name = p.name; selected = p.selected; absent = p.absent }

-- out of '5A' nothing is open
open_other : (o : Open) (g h i : ℕ) → eqb i 0x5A ≡ false → open_ok o g i ≡ true → open_ok o h i ≡ true
open_other Shut g h i z e = refl
open_other (Table held missing) g h i z e = absurd (true≢false (sym (and_r (eqb g 0x07) (eqb i 0x5A) e) ∙ z))
open_other (Record tag written missing) g h i z e = absurd (true≢false (sym (and_r (eqb g 0x07) (eqb i 0x5A) e) ∙ z))

placed_other : (a b : Bool) (g h : ℕ) → b ≡ false → (a || (b && eqb g 0x87)) ≡ true → (a || (b && eqb h 0x87)) ≡ true
placed_other true b g h z e = refl
placed_other false true g h z e = absurd (true≢false z)
placed_other false false g h z e = e

-- another life, out of '5A'
pub relived : (f f' : Life) (l : Loading) → sound_with f l ≡ true → eqb l.running.internal 0x5A ≡ false
    → LifeOf f' l → sound_with f' l ≡ true
relived f f' l e z k =
    let p = sound_parts f l e in
    sound_of_parts f' l (record {
      gp = k.gp;
      internal = k.internal;
      name = k.name;
      selected = k.selected;
      count = p.count;
      passes = p.passes;
      rows = p.rows;
      absent = k.absent;
      placed = placed_other (eqb l.count 0 || taken l.running.rows 5 || table_open l.running.pending)
          (eqb l.running.internal 0x5A) f.gp f'.gp z p.placed;
      secrets = p.secrets;
      opened = open_other l.running.pending f.gp f'.gp l.running.internal z p.opened;
      fits = p.fits;
      some = p.some;
    })

-- the five GP states
at_gp : (P : ℕ → Type 0) (k g : ℕ) → P k → eqb g k ≡ true → P g
at_gp P k g p e = subst P (sym (eqb-true g k e)) p

pub by_gp : (P : ℕ → Type 0) → P 0x00 → P 0x03 → P 0x07 → P 0x83 → P 0x87 → (g : ℕ) → gp_ok g ≡ true → P g
by_gp P a b c d e g h =
    or_elim (eqb g 0x00 || eqb g 0x03 || eqb g 0x07 || eqb g 0x83) (eqb g 0x87) h
    (λ h₁. or_elim (eqb g 0x00 || eqb g 0x03 || eqb g 0x07) (eqb g 0x83) h₁
    (λ h₂. or_elim (eqb g 0x00 || eqb g 0x03) (eqb g 0x07) h₂
    (λ h₃. or_elim (eqb g 0x00) (eqb g 0x03) h₃ (at_gp P 0x00 g a) (at_gp P 0x03 g b))
    (at_gp P 0x07 g c))
    (at_gp P 0x83 g d))
    (at_gp P 0x87 g e)

only_fresh : (a b : Bool) → (a || (b && false)) ≡ true → a ≡ true
only_fresh true b e = refl
only_fresh false true e = e
only_fresh false false e = e

-- the single steps of the life cycle out of '5A'
module _ (x : Bool) (n i r : ℕ) (z : eqb i 0x5A ≡ false) where
  -- away from '07' and '87' a card is in 'CC'
  fresh_internal : (g : ℕ) → (eqb i 0xCC || ((eqb i 0x5A || eqb i 0xA5) && false)) ≡ true → internal_ok i g ≡ true
  fresh_internal g e = or_l (eqb i 0xCC) ((eqb i 0x5A || eqb i 0xA5) && (eqb g 0x07 || eqb g 0x87))
      (only_fresh (eqb i 0xCC) (eqb i 0x5A || eqb i 0xA5) e)

  -- what is not selected at '07' is not in '5A'
  unselected : (y : Bool) → y ≡ false → selected_ok y 0x07 i ≡ true
  unselected y e = rw (e, z)

  pub made_selectable : LifeOk 0x03 x n i r → LifeOk 0x07 x n i r
  made_selectable k = record {
    gp = refl;
    internal = fresh_internal 0x07 k.internal;
    name = k.name;
    selected = unselected x (not-true x k.selected);
    absent = or_r (eqb r 0) true refl;
  }

  pub installed : (m p1 : ℕ) → name_length m ≡ true → LifeOk 0x00 x n i r
      → LifeOk (cond (eqb p1 0x04) 0x03 0x07) x m i r
  installed m p1 h k =
      by_cond (λ (g : ℕ). LifeOk g x m i r) (eqb p1 0x04)
      (λ e. record {
        gp = refl;
        internal = fresh_internal 0x03
            k.internal;
        name = h;
        selected = k.selected;
        absent = or_r (eqb r 0) true refl;
      })
      (λ e. record {
        gp = refl;
        internal = fresh_internal 0x07 k.internal;
        name = h;
        selected = unselected x (not-true x k.selected);
        absent = or_r (eqb r 0) true refl;
      })

  pub chosen : LifeOk 0x07 x n i r → LifeOk 0x07 true n i r
  chosen k = record { gp = refl; internal = k.internal; name = k.name; selected = refl; absent = k.absent }

  pub unchosen : (g : ℕ) → LifeOk g x n i r → LifeOk g false n i r
  unchosen g k = record {
    gp = k.gp;
    internal = k.internal;
    name = k.name;
    selected = by_cond (λ (b : Bool). b ≡ true) (eqb g 0x07) (λ e. rw z) (λ e. refl);
    absent = k.absent;
  }

  -- "else top bit set, not selected"
  abbrev Locks : ℕ → Type 0
  Locks g = eqb g 0x00 ≡ false → leb 0x80 g ≡ false → LifeOk g x n i r → LifeOk (g + 0x80) false n i r

  pub locks : (g : ℕ) → gp_ok g ≡ true → Locks g
  locks =
      by_gp Locks (λ a b k. absurd (true≢false a))
      (λ a b k. record {
        gp = refl;
        internal = fresh_internal 0x83
            k.internal;
        name = k.name;
        selected = refl;
        absent = or_r (eqb r 0) true refl;
      })
      (λ a b k. record {
        gp = refl;
        internal = k.internal;
        name = k.name;
        selected = refl;
        absent = or_r
            (eqb r 0) true refl;
      })
      (λ a b k. absurd (true≢false b))
      (λ a b k. absurd (true≢false b))

  -- "else bit cleared"
  abbrev Unlocks : ℕ → Type 0
  Unlocks g = leb 0x80 g ≡ true → LifeOk g x n i r → LifeOk (g - 0x80) x n i r

  pub unlocks : (g : ℕ) → gp_ok g ≡ true → Unlocks g
  unlocks =
      by_gp Unlocks (λ b k. absurd (false≢true b)) (λ b k. absurd (false≢true b)) (λ b k. absurd (false≢true b))
      (λ b k. record {
        gp = refl;
        internal = fresh_internal 0x03
            k.internal;
        name = k.name;
        selected = k.selected;
        absent = or_r (eqb r 0) true refl;
      })
      (λ b k. record {
        gp = refl;
        internal = k.internal;
        name = k.name;
        selected = unselected x (not-true x k.selected);
        absent = or_r (eqb r 0) true refl;
      })
