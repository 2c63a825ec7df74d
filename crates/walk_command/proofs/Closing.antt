-- The end of a command, by its word.
use Prim.Native.Nat.{ℕ, ◌≤◌, ◌<◌}
use mathlib.Core.Path.{◌≡◌, refl}
use mathlib.Core.Bool.{Bool, true, false, cond, not, ◌&&◌}
use native.Mathlib.Omega.{arith}
use borrow.Author.Tests.{le-leb, lt-leb}
use Rattle.model.specs.Rows.{mandatory_missing}
use Rattle.model.specs.Loads.{State, with_internal, with_running, running_open, changed}
use mathlib.Core.List.{List}
use lib.Dec.{eqb}
use Rattle.model.specs.declared.Card.{Card}
use Rattle.model.specs.declared.Loading.{Loading}
use Rattle.model.specs.declared.Open.TheVariants.{Shut}
use Rattle.model.specs.declared.Running.{Running}
use Rattle.model.specs.Events.{with_loading, locked, says, errs, commanded}
use Rattle.model.specs.Rules.{Result, went, asked, failed}
use Rattle.walk_course.specs.Steps.{on}
use Rattle.model.specs.Command.{is_shut, ready, the_end}
use Rattle.walk_command.specs.Ends.{end_word, erred_as, Settles}

module _ (p1 : ℕ) (s : State) where
  pub not_asked : p1 < 0x80 → the_end p1 s ≡ went 0 s
  unfolding the_end
  not_asked h = rw (lt-leb 0x80 p1 h)

  module _ (h : 0x80 ≤ p1) where
    abbrev so : Bool
    so = not (mandatory_missing s.load.running.rows) && is_shut s.load.running.pending

    pub passes_end : end_word s.load.running ≡ 0x9000 → the_end p1 s ≡ went 0 (changed (with_internal 0xA5) s)
    unfolding the_end ready
    passes_end e = rw (le-leb 0x80 p1 h) (go so e)
      where
        go : (b : Bool) → ◌≡◌ {A = ℕ} (cond b 0x9000 0x6985) 0x9000
            → cond {A = Result ℕ} b (went 0 (changed (with_internal 0xA5) s)) (failed 0x6985 s)
            ≡ went 0 (changed (with_internal 0xA5) s)
        go true q = refl
        go false q = absurd (omega arith)

    pub fails_end : (end_word s.load.running ≡ 0x9000 → ⊥) → the_end p1 s ≡ failed (end_word s.load.running) s
    unfolding the_end ready
    fails_end e = rw (le-leb 0x80 p1 h) (go so e)
      where
        go : (b : Bool) → (◌≡◌ {A = ℕ} (cond b 0x9000 0x6985) 0x9000 → ⊥)
            → cond {A = Result ℕ} b (went 0 (changed (with_internal 0xA5) s)) (failed 0x6985 s)
            ≡ failed (cond b 0x9000 0x6985) s
        go true q = absurd (q refl)
        go false q = refl

module _ (c : Card) (p : Running) (l : Loading) (a : List ℕ) where
  pub settles_passed : (q : Running)
      → Settles (record { word = 0x9000; running = q; locks = false }) c (with_running p l) a
      (commanded c (went 0 (on q l a)))
  settles_passed q = record { says = refl; leaves = refl; keeps = refl }

  pub settles_asked : (t : ℕ)
      → Settles (record { word = 0x9000; running = p; locks = false }) c (with_running p l) a
      (commanded c (asked t (on p l a)))
  settles_asked t = record { says = refl; leaves = refl; keeps = refl }

  pub settles_erred : (w : ℕ) → Settles (erred_as w p) c (with_running p l) a (commanded c (failed w (on p l a)))
  unfolding errs
  settles_erred w = go (eqb p.internal 0x5A)
    where
      d : Card
      d = with_loading (with_running p l) c

      go : (b : Bool) → Settles (cond b (record { word = w; running = running_open Shut p; locks = true })
          (record { word = w; running = p; locks = false })) c (with_running p l) a
          (says w (cond b (locked d) d) a)
      go true = record { says = refl; leaves = refl; keeps = refl }
      go false = record { says = refl; leaves = refl; keeps = refl }
