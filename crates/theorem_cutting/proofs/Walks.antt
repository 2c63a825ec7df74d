-- The published walk by groupings is the byte-wise walk: groupings end to end, and a whole command.
use Prim.Native.Nat.{ℕ, zero, suc, ◌+◌, ◌*◌, ◌%◌, ◌≤◌, ◌<◌}
use mathlib.Core.Path.{◌≡◌, refl, ◌∙◌, subst}
use mathlib.Core.Bool.{Bool, true, false, not, ◌&&◌}
use mathlib.Core.List.{List, [], ◌∷◌}
use native.Mathlib.Omega.{arith}
use native.Mathlib.Nat.{le_refl}
use lib.Dec.{eqb, leb, ltb}
use lib.ListN.{length}
use borrow.Author.Tests.{eqb-true, ltb-true}
use Rattle.model.specs.declared.Open.{Open}
use Rattle.model.specs.declared.Open.TheVariants.{Shut, Table, Record}
use Rattle.model.specs.declared.Head.{Head}
use Rattle.model.specs.declared.Header.{Header}
use Rattle.model.specs.declared.Header.TheVariants.{Torn, Whole}
use Rattle.model.specs.declared.Loading.{Loading}
use Rattle.model.specs.declared.Card.{Card}
use Rattle.model.specs.Header.{header_of}
use Rattle.model.specs.Loads.{State}
use Rattle.model.specs.Rules.{Rule, thence, fed, grouping}
use Rattle.model.specs.Command.{walk, the_end, command}
use Rattle.model.specs.Rows.{taken}
use Rattle.model.specs.Sound.{gp_ok, internal_ok, name_ok, selected_ok, descriptors_ok, rows_ok, table_placed, secrets_ok}
use Rattle.model.specs.Sound.{open_ok, table_fits, pending_fits, some_missing, sound_with, sound}
use Rattle.model.specs.declared.Life.{Life}
use Rattle.theorem_cutting.specs.Bytewise.{between, run, at_end, step, asks, Misses, shut, table, stored}
use Rattle.theorem_cutting.proofs.Splits.{thence_assoc}
use Rattle.theorem_cutting.proofs.Opened.{misses_none, fed_shut, fed_none, fed_step, step_rests, Agrees}
use Rattle.theorem_cutting.proofs.Opened.{fed_then, fed_run}
use Rattle.theorem_cutting.proofs.Values.{Closed}
use Rattle.theorem_cutting.proofs.Bridge.{Plain, plain_behind, plain_other, grouping_run, grouping_torn}
use Rattle.lists.specs.Truth.{never, and_l, and_r}

-- the walk over what is left, and then `k`
abbrev walk_then : {B : Type 0} → ℕ → ℕ → ℕ → ℕ → Rule B → List ℕ → Rule B
walk_then fuel capacity n p1 k left s = thence (walk fuel capacity n p1 left s) (λ a. k)

walk_none : {B : Type 0} (fuel capacity n p1 : ℕ) (k : Rule B) (s : State)
    → thence (walk fuel capacity n p1 [] s) (λ a. k) ≡ k s
unfolding walk
walk_none zero capacity n p1 k s = refl
walk_none (suc fuel) capacity n p1 k s = refl

by_header : {B : Type 0} (fuel capacity n p1 : ℕ) (k : Rule B) (b : ℕ) (bs : List ℕ) (s : State) → Closed s
    → ((h : Head) → header_of (b ∷ bs) ≡ Whole h → Plain n (b ∷ bs) h)
    → (x : Header) → header_of (b ∷ bs) ≡ x → Agrees capacity (length (b ∷ bs)) k (walk_then fuel capacity n p1 k)
    → thence (grouping capacity n p1 (b ∷ bs) s) (walk_then fuel capacity n p1 k)
    ≡ thence (run capacity (b ∷ bs) between s) (at_end k)
by_header fuel capacity n p1 k b bs s o plain Torn q agrees =
    grouping_torn capacity n p1 k (walk_then fuel capacity n p1 k) b bs s q o
by_header fuel capacity n p1 k b bs s o plain (Whole h) q agrees =
    grouping_run capacity n p1 k (walk_then fuel capacity n p1 k) b bs h s agrees q (plain h q) o

-- groupings end to end, of which the first asks nothing
pub walk_run : {B : Type 0} (fuel capacity n p1 : ℕ) (k : Rule B) (bytes : List ℕ) (s : State) → length bytes ≤ fuel
    → length bytes ≤ n → Closed s
    → ((h : Head) → header_of bytes ≡ Whole h → Plain n bytes h)
    → thence (walk fuel capacity n p1 bytes s) (λ a. k) ≡ thence (run capacity bytes between s) (at_end k)
unfolding walk
walk_run zero capacity n p1 k [] s f l o plain = walk_none zero capacity n p1 k s ∙ unfold run in refl
walk_run (suc fuel) capacity n p1 k [] s f l o plain = walk_none (suc fuel) capacity n p1 k s ∙ unfold run in refl
walk_run zero capacity n p1 k (b ∷ bs) s f l o plain = absurd (omega arith)
walk_run (suc fuel) capacity n p1 k (b ∷ bs) s f l o plain =
    thence_assoc (grouping capacity n p1 (b ∷ bs) s) (λ left. walk fuel capacity n p1 left) (λ a. k)
    ∙ by_header fuel capacity n p1 k b bs s o plain (header_of (b ∷ bs)) refl
    (record {
      none = λ s'. walk_none fuel capacity n p1 k s';
      some = λ left s' lt c. walk_run fuel capacity n p1 k left s' (omega arith) (omega arith) c
          (λ h q. plain_behind n left h (omega arith));
    })

-- behind data byte 0 no grouping asks anything
pub walk_behind : {B : Type 0} (capacity n p1 : ℕ) (k : Rule B) (bytes : List ℕ) (s : State) → length bytes < n
    → s.load.running.pending ≡ Shut
    → thence (walk (length bytes) capacity n p1 bytes s) (λ a. k) ≡ thence (run capacity bytes between s) (at_end k)
walk_behind capacity n p1 k bytes s l o = walk_run (length bytes) capacity n p1 k bytes s (le_refl (length bytes))
    (omega arith) o (λ h q. plain_behind n bytes h l)

-- the header of a command that asks nothing
unasked : (o : Open) (bytes : List ℕ) (n : ℕ) → o ≡ Shut → asks o bytes ≡ false → (h : Head)
    → header_of bytes ≡ Whole h → Plain n bytes h
unasked o bytes n e q h g = plain_other n bytes h (rw g at (subst (λ (x : Open). asks x bytes ≡ false) e q))

-- the walk that a command of n bytes makes over what its open value leaves
abbrev command_then : ℕ → ℕ → ℕ → List ℕ → Rule ℕ
command_then capacity n p1 left s = thence (walk (length left) capacity n p1 left s) (λ a. the_end p1)

command_agrees : (capacity n p1 bound : ℕ) → bound ≤ n → Agrees capacity bound (the_end p1) (command_then capacity n p1)
command_agrees capacity n p1 bound l = record {
  none = λ s. walk_none zero capacity n p1 (the_end p1) s;
  some = λ left s lt c. walk_run (length left) capacity n p1 (the_end p1) left s (le_refl (length left))
      (omega arith) c (λ h q. plain_behind n left h (omega arith));
}

command_open : (capacity p1 n b : ℕ) (bs : List ℕ) (s : State) → Misses s.load.running.pending (suc n)
    → Agrees capacity (length (b ∷ bs)) (the_end p1) (command_then capacity (length (b ∷ bs)) p1)
    → thence (thence (step capacity between b s) (λ p. fed bs)) (command_then capacity (length (b ∷ bs)) p1)
    ≡ thence (run capacity (b ∷ bs) between s) (at_end (the_end p1))
unfolding run
command_open capacity p1 n b bs s m agrees =
    fed_then capacity (length (b ∷ bs)) (the_end p1) (command_then capacity (length (b ∷ bs)) p1) agrees n bs
    (λ s' m'. fed_run capacity (length (b ∷ bs)) (the_end p1)
    (command_then capacity (length (b ∷ bs)) p1) agrees bs n s' (le_refl (length (b ∷ bs))) m')
    (step capacity between b s) (step_rests capacity b n s m)

-- THE BRIDGE: a command that asks nothing is the byte-wise walk over its bytes, with its end
pub command_run : (capacity p1 n : ℕ) (bytes : List ℕ) (s : State) → Misses s.load.running.pending n
    → asks s.load.running.pending bytes ≡ false
    → command capacity p1 bytes s ≡ thence (run capacity bytes between s) (at_end (the_end p1))
unfolding command
command_run capacity p1 zero bytes s m q =
    let o : Closed s = misses_none s.load.running.pending m in
    rw (fed_shut bytes s o)
    (walk_run (length bytes) capacity (length bytes) p1 (the_end p1) bytes s (le_refl (length bytes))
    (le_refl (length bytes)) o (unasked s.load.running.pending bytes (length bytes) o q))
command_run capacity p1 (suc n) [] s m q = rw (fed_none n s m)
    (walk_none zero capacity 0 p1 (the_end p1) s ∙ unfold run in refl)
command_run capacity p1 (suc n) (b ∷ bs) s m q =
    rw (fed_step capacity b n bs s m)
    (command_open capacity p1 n b bs s m (command_agrees capacity (length (b ∷ bs)) p1 (length (b ∷ bs))
    (le_refl (length (b ∷ bs)))))

-- a sound card's open value misses some bytes, and ends where a descriptor does
fits_table : (l : Loading) (held missing : ℕ) → pending_fits (Table held missing) l ≡ true → leb 1 missing ≡ true
    → Misses (Table held missing) missing
fits_table l held zero f q = absurd (never q)
fits_table l held (suc n) f q =
    let a : (l.count * 18 + held + suc n) % 18 ≡ 0 =
    eqb-true ((l.count * 18 + held + suc n) % 18) 0
    (and_r (leb (l.count * 18 + held + suc n) 558) _ (and_l _ (ltb held 18) fits)) in
    let c : held < 18 =
    ltb-true held 18
    (and_r (leb (l.count * 18 + held + suc n) 558 && eqb ((l.count * 18 + held + suc n) % 18) 0)
    (ltb held 18) fits) in
    table {held = held} {n = n} (omega arith) (omega arith)
  where
    fits : table_fits l.count held (suc n) ≡ true
    fits = and_r (not (taken l.running.rows 5)) (table_fits l.count held (suc n)) f

fits_misses : (o : Open) (l : Loading) → pending_fits o l ≡ true → some_missing o ≡ true → (n : ℕ) × Misses o n
fits_misses Shut l f q = (0, shut)
fits_misses (Table held missing) l f q = (missing, fits_table l held missing f q)
fits_misses (Record tag written zero) l f q = absurd (never q)
fits_misses (Record tag written (suc n)) l f q = (suc n, stored)

-- what sound says besides
abbrev besides : Life → Loading → Bool
besides f l =
    gp_ok f.gp && internal_ok l.running.internal f.gp && name_ok f.namelen f.gp && selected_ok
    f.selected f.gp l.running.internal
    && descriptors_ok l && rows_ok l.running.rows f.gp && table_placed l f.gp && secrets_ok
    l.secrets && open_ok l.running.pending f.gp l.running.internal

pub sound_misses : (c : Card) → sound c ≡ true → (n : ℕ) × Misses c.loading.running.pending n
unfolding sound_with
sound_misses c h =
    fits_misses c.loading.running.pending c.loading
    (and_r (besides c.life c.loading) (pending_fits c.loading.running.pending c.loading)
    (and_l (besides c.life c.loading && pending_fits c.loading.running.pending c.loading)
    (some_missing c.loading.running.pending) h))
    (and_r (besides c.life c.loading && pending_fits c.loading.running.pending c.loading)
    (some_missing c.loading.running.pending) h)

-- the bridge on a sound card
pub command_sound : (c : Card) (area : List ℕ) (p1 : ℕ) (bytes : List ℕ) → sound c ≡ true
    → asks c.loading.running.pending bytes ≡ false
    → command c.chip.capacity p1 bytes (record { load = c.loading; area = area })
    ≡ thence (run c.chip.capacity bytes between (record { load = c.loading; area = area })) (at_end (the_end p1))
command_sound c area p1 bytes h q =
    let m : (n : ℕ) × Misses c.loading.running.pending n = sound_misses c h in
    command_run c.chip.capacity p1 m.0 bytes (record { load = c.loading; area = area }) m.1 q
