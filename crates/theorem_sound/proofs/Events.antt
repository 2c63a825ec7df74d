-- EVERY EVENT KEEPS SOUND: from a sound card and a file area of 4,096 bytes to a sound card and such an area.
use Prim.Native.Nat.{ℕ, ◌+◌, ◌-◌}
use mathlib.Core.Path.{◌≡◌, refl, sym, ◌∙◌, subst}
use mathlib.Core.Bool.{Bool, true, false, cond, not, ◌&&◌, ◌||◌, false≢true, true≢false}
use mathlib.Core.List.{List}
use lib.Dec.{eqb, leb}
use lib.ListN.{length, length-replicate}
use borrow.Author.Tests.{eqb-true, not-true}
use Rattle.lists.specs.Bytes.{zeros}
use Rattle.lists.specs.Choice.{by_cond}
use Rattle.model.specs.declared.Life.{Life}
use Rattle.model.specs.declared.Card.{Card}
use Rattle.model.specs.Stored.{Event, area_size}
use Rattle.model.specs.Rows.{taken}
use Rattle.model.specs.Loads.{State}
use Rattle.model.specs.Rules.{Result, went, asked, failed}
use Rattle.model.specs.Command.{command}
use Rattle.model.specs.Sound.{name_ok, selected_ok, sound}
use Rattle.model.specs.Events.{Reply, Names, with_life, with_gp, with_loading, locked, absent, is_name, names_in}
use Rattle.model.specs.Events.{install_form, selectable_form, installed_as, installing, making_selectable, install}
use Rattle.model.specs.Events.{select, lock, unlock, deselect, foreign, errs, commanded, store_data, stuck}
use Rattle.model.specs.Events.{personalizing, otherwise, event}
use Rattle.theorem_sound.specs.Keeps.{Kept, Keeps, Good}
use Rattle.lists.specs.Truth.{and_l, and_r, and_i, or_r}
use Rattle.theorem_sound.proofs.Parts.{sound_parts, sound_of_parts}
use Rattle.theorem_sound.proofs.Keeps.{command_keeps}
use Rattle.theorem_sound.proofs.Lives.{LifeOk, LifeOf, life_of_lem, relived, made_selectable, installed, chosen}
use Rattle.theorem_sound.proofs.Lives.{unchosen, locks, unlocks}

-- what a reply holds
abbrev pub GoodReply : Reply → Type 0
GoodReply r = Good area_size r.card r.area

-- Locking in '5A'.
locked_internal : (a b c : Bool) → b ≡ true → (a || ((b || c) && true)) ≡ true
locked_internal true b c e = refl
locked_internal false true c e = refl
locked_internal false false c e = absurd (false≢true e)

locked_sound : (c : Card) → sound c ≡ true → c.life.gp ≡ 0x07 → eqb c.loading.running.internal 0x5A ≡ true
    → sound (locked c) ≡ true
locked_sound c e g i =
    let l = c.loading in
    let p = sound_parts c.life l e in
    sound_of_parts (locked c).life (locked c).loading (record {
      gp = refl;
      internal = locked_internal (eqb l.running.internal 0xCC) (eqb l.running.internal 0x5A)
          (eqb l.running.internal 0xA5) i;
      name = subst (λ (x : ℕ). name_ok c.life.namelen x ≡ true) g p.name;
      selected = refl;
      count = p.count;
      passes = p.passes;
      rows = p.rows;
      absent = or_r (eqb l.running.rows 0) true refl;
      placed = or_r (eqb l.count 0 || taken l.running.rows 5 || false)
          (eqb l.running.internal 0x5A && true) (and_i (eqb l.running.internal 0x5A) true i refl);
      secrets = p.secrets;
      opened = refl;
      fits = refl;
      some = refl;
    })

locked_good : (c : Card) (a : List ℕ) → Good area_size c a → c.life.gp ≡ 0x07
    → eqb c.loading.running.internal 0x5A ≡ true → Good area_size (locked c) a
locked_good c a y g i = record { sound = locked_sound c y.sound g i; files = y.files; area = y.area }

-- STORE DATA. An error locks in '5A'.
errs_good : (w : ℕ) (c : Card) (a : List ℕ) → Good area_size c a → c.life.gp ≡ 0x07 → GoodReply (errs w c a)
unfolding errs
errs_good w c a y g = by_cond (λ (d : Card). Good area_size d a) (eqb c.loading.running.internal 0x5A)
    (λ e. locked_good c a y g e) (λ e. y)

kept_good : (c : Card) (s : State) → Kept c.life area_size s → Good area_size (with_loading s.load c) s.area
kept_good c s k = record { sound = k.sound; files = k.files; area = k.area }

commanded_good : (c : Card) (r : Result ℕ) → c.life.gp ≡ 0x07 → Keeps c.life area_size r
    → GoodReply (commanded c r)
commanded_good c (went n s) g k = kept_good c s k
commanded_good c (asked tag s) g k = kept_good c s k
commanded_good c (failed w s) g k = errs_good w (with_loading s.load c) s.area (kept_good c s k) g

-- selected only at '07'
selected_gp : (x : Bool) (g i : ℕ) → selected_ok x g i ≡ true → x ≡ true → g ≡ 0x07
selected_gp x g i h e = go (eqb g 0x07) refl h
  where
    go : (b : Bool) → eqb g 0x07 ≡ b → cond b (x || not (eqb i 0x5A)) (not x) ≡ true → g ≡ 0x07
    go true q k = eqb-true g 0x07 q
    go false q k = absurd (true≢false (sym e ∙ not-true x k))

store_data_good : (p1 : ℕ) (d : List ℕ) (c : Card) (a : List ℕ) → Good area_size c a → GoodReply (store_data p1 d c a)
unfolding store_data
store_data_good p1 d c a y =
    by_cond GoodReply c.life.selected
    (λ x. let g : c.life.gp ≡ 0x07 = selected_gp c.life.selected c.life.gp c.loading.running.internal
    (life_of_lem c.life c.loading y.sound).selected x in
    by_cond GoodReply (eqb (length d) 0) (λ e. errs_good 0x6700 c a y g)
    (λ e. let s : State = record { load = c.loading; area = a } in
    commanded_good c (command c.chip.capacity p1 d s) g
    (command_keeps c.life area_size g x c.chip.capacity p1 d s
    (record { sound = y.sound; files = y.files; area = y.area }))))
    (λ x. y)

-- The life cycle's events, out of '5A'.
module _ (c : Card) (a : List ℕ) (y : Good area_size c a) (z : eqb c.loading.running.internal 0x5A ≡ false) where
  old : LifeOf c.life c.loading
  old = life_of_lem c.life c.loading y.sound

  at : (g : ℕ) → c.life.gp ≡ g → LifeOk g c.life.selected c.life.namelen c.loading.running.internal
      c.loading.running.rows
  at g e = subst (λ (x : ℕ). LifeOk x c.life.selected c.life.namelen c.loading.running.internal
      c.loading.running.rows) e old

  living : (f : Life) (b : List ℕ) → length b ≡ area_size → LifeOf f c.loading → Good area_size (with_life f c) b
  living f b l k = record { sound = relived c.life f c.loading y.sound z k; files = y.files; area = l }

  installing_good : (p1 : ℕ) (n : Names) → GoodReply (installing p1 n c a)
  unfolding installing install_form
  installing_good p1 n =
      by_cond GoodReply (install_form n)
      (λ e. by_cond GoodReply (absent c)
      (λ f. living (installed_as p1 n c).life (zeros area_size) (length-replicate {A = ℕ} area_size 0)
      (installed c.life.selected c.life.namelen c.loading.running.internal c.loading.running.rows z
      n.instance_len p1
      (search (and_l, and_r)) (at 0x00 (eqb-true c.life.gp 0x00 f))))
      (λ f. y))
      (λ e. y)

  making_good : (n : Names) → GoodReply (making_selectable n c a)
  unfolding making_selectable
  making_good n =
      by_cond GoodReply (selectable_form n)
      (λ e. by_cond GoodReply (absent c || not (is_name c n.name)) (λ f. y)
      (λ f. by_cond GoodReply (eqb c.life.gp 0x03)
      (λ g. living (with_gp 0x07 c.life.selected c).life a y.area
      (made_selectable c.life.selected c.life.namelen c.loading.running.internal
      c.loading.running.rows z (at 0x03 (eqb-true c.life.gp 0x03 g))))
      (λ g. y)))
      (λ e. y)

  install_good : (p1 : ℕ) (d : List ℕ) → GoodReply (install p1 d c a)
  unfolding install
  install_good p1 d =
      by_cond GoodReply (eqb p1 0x08) (λ e. making_good (names_in d))
      (λ e. by_cond GoodReply (eqb p1 0x04 || eqb p1 0x0C) (λ f. installing_good p1 (names_in d)) (λ f. y))

  select_good : (d : List ℕ) → GoodReply (select d c a)
  unfolding select
  select_good d =
      by_cond GoodReply (eqb c.life.gp 0x07 && is_name c d)
      (λ e. let k : Good area_size (with_gp 0x07 true c) a = living (with_gp 0x07 true c).life a y.area
      (chosen c.life.selected c.life.namelen c.loading.running.internal c.loading.running.rows z
      (at 0x07 (eqb-true c.life.gp 0x07 (and_l (eqb c.life.gp 0x07) (is_name c d) e)))) in
      by_cond GoodReply (eqb c.loading.running.internal 0xCC) (λ f. k) (λ f. k))
      (λ e. y)

  lock_good : GoodReply (lock c a)
  unfolding lock
  lock_good =
      by_cond GoodReply (absent c) (λ e. y)
      (λ e. by_cond GoodReply (leb 0x80 c.life.gp) (λ f. y)
      (λ f. living (with_gp (c.life.gp + 0x80) false c).life a y.area
      (locks c.life.selected c.life.namelen c.loading.running.internal c.loading.running.rows z
      c.life.gp old.gp e f old)))

  unlock_good : GoodReply (unlock c a)
  unfolding unlock
  unlock_good =
      by_cond GoodReply (absent c) (λ e. y)
      (λ e. by_cond GoodReply (leb 0x80 c.life.gp)
      (λ f. living (with_gp (c.life.gp - 0x80) c.life.selected c).life a y.area
      (unlocks c.life.selected c.life.namelen c.loading.running.internal c.loading.running.rows z
      c.life.gp old.gp f old))
      (λ f. y))

  deselect_good : GoodReply (deselect c a)
  unfolding deselect
  deselect_good =
      living (with_gp c.life.gp false c).life a y.area
      (unchosen c.life.selected c.life.namelen c.loading.running.internal c.loading.running.rows z
      c.life.gp old)

  otherwise_good : (e : Event) → GoodReply (otherwise e c a)
  unfolding otherwise foreign
  otherwise_good e =
      by_cond GoodReply (eqb e.kind 1) (λ h. install_good e.p1 e.bytes)
      (λ h. by_cond GoodReply (eqb e.kind 2) (λ h. store_data_good e.p1 e.bytes c a y)
      (λ h. by_cond GoodReply (eqb e.kind 3) (λ h. select_good e.bytes)
      (λ h. by_cond GoodReply (eqb e.kind 4) (λ h. y)
      (λ h. by_cond GoodReply (eqb e.kind 7) (λ h. lock_good)
      (λ h. by_cond GoodReply (eqb e.kind 8) (λ h. unlock_good)
      (λ h. deselect_good))))))

-- In '5A': a reply alone, after a lock or not.
stuck_good : (e : Event) (c : Card) (a : List ℕ) → Good area_size c a → GoodReply (stuck e c a)
unfolding stuck
stuck_good e c a y =
    by_cond GoodReply (eqb e.kind 3) (λ h. by_cond GoodReply (is_name c e.bytes) (λ k. y) (λ k. y))
    (λ h. by_cond GoodReply (eqb e.kind 5 || eqb e.kind 6) (λ k. y) (λ k. y))

personalizing_good : (e : Event) (c : Card) (a : List ℕ) → Good area_size c a
    → eqb c.loading.running.internal 0x5A ≡ true → GoodReply (personalizing e c a)
unfolding personalizing
personalizing_good e c a y i =
    by_cond GoodReply (eqb c.life.gp 0x07)
    (λ g. by_cond GoodReply (eqb e.kind 2) (λ h. store_data_good e.p1 e.bytes c a y)
    (λ h. stuck_good e (locked c) a (locked_good c a y (eqb-true c.life.gp 0x07 g) i)))
    (λ g. stuck_good e c a y)

pub event_good : (e : Event) (c : Card) (a : List ℕ) → Good area_size c a → GoodReply (event e c a)
unfolding event
event_good e c a y = by_cond GoodReply (eqb c.loading.running.internal 0x5A) (λ i. personalizing_good e c a y i)
    (λ i. otherwise_good c a y i e)
