-- Two cards that are equal when veiled are alike in all but their secrets' hidden bytes.
use Prim.Native.Nat.{ℕ, zero, suc, ◌+◌}
use mathlib.Core.Path.{◌≡◌, refl, ap, sym, ◌∙◌}
use mathlib.Core.List.{List, [], ◌∷◌}
use native.Mathlib.Nat.{add-zero, add-suc, suc-add, zero-add}
use lib.ListN.{length, get_or}
use Rattle.lists.specs.Bytes.{byte_at}
use Rattle.model.specs.declared.Secret.{Secret}
use Rattle.model.specs.declared.Card.{Card}
use Rattle.model.specs.Stored.{no_secret}
use Rattle.model.specs.Session.{Turn, Run, Session}
use Rattle.theorem_secrecy.specs.View.{Hiding}
use Rattle.theorem_secrecy.specs.Veil.{veil_secret, veil_secrets, veil, veil_turn, veil_run, veil_session}
use Rattle.theorem_secrecy.specs.Alike.{secret_of, AlikeCards, AlikeTurns, AlikeRuns, AlikeCalls}
use Rattle.theorem_secrecy.proofs.Marks.{length_blotted, blotted_zeros, byte_blotted}

module _ (z : Hiding) where
  length_veil : (k : ℕ) (xs : List Secret) → length (veil_secrets z k xs) ≡ length xs
  unfolding veil_secrets
  length_veil k [] = refl
  length_veil k (x ∷ xs) = ap suc (length_veil (suc k) xs)

  veil_get_d : (k i : ℕ) (xs : List Secret) → get_or (veil_secrets z k xs) i no_secret
      ≡ veil_secret (z (k + i)) (get_or xs i no_secret)
  unfolding veil_secrets
  veil_get_d k i [] = rw (blotted_zeros (z (k + i)) 0 64)
  veil_get_d k zero (x ∷ xs) = rw add-zero
  veil_get_d k (suc i) (x ∷ xs) = rw (add-suc, ← suc-add) (veil_get_d (suc k) i xs)

  module _ (c d : Card) (e : veil z c ≡ veil z d) where
    alike_count : length c.loading.secrets ≡ length d.loading.secrets
    alike_count = sym (length_veil 0 c.loading.secrets) ∙ ap
        (λ (x : Card). length x.loading.secrets) e ∙ length_veil 0 d.loading.secrets

    alike_secret : (k : ℕ) → veil_secret (z k) (secret_of c k) ≡ veil_secret (z k) (secret_of d k)
    alike_secret k = rw zero-add at (sym (veil_get_d 0 k c.loading.secrets) ∙ ap
        (λ (x : Card). secret_of x k) e ∙ veil_get_d 0 k d.loading.secrets)

    pub alike_cards : AlikeCards z c d
    alike_cards = record {
      chip = ap (λ (x : Card). x.chip) e;
      life = ap (λ (x : Card). x.life) e;
      internal = ap (λ (x : Card). x.loading.running.internal) e;
      rows = ap (λ (x : Card). x.loading.running.rows) e;
      last = ap (λ (x : Card). x.loading.running.last) e;
      pending = ap (λ (x : Card). x.loading.running.pending) e;
      held = ap (λ (x : Card). x.loading.held) e;
      files = ap (λ (x : Card). x.loading.files) e;
      count = ap (λ (x : Card). x.loading.count) e;
      serial = ap (λ (x : Card). x.loading.serial) e;
      startup = ap (λ (x : Card). x.loading.startup) e;
      counter = ap (λ (x : Card). x.loading.counter) e;
      secrets = alike_count;
      lengths = λ k. ap (λ (x : Secret). x.len) (alike_secret k);
      rooms = λ k.
          sym (length_blotted (z k) 0 (secret_of c k).bytes) ∙ ap (λ (x : Secret). length x.bytes)
          (alike_secret k) ∙ length_blotted (z k) 0 (secret_of d k).bytes;
      bytes = λ k j h.
          sym (byte_blotted (z k) 0 j (secret_of c k).bytes (rw zero-add h)) ∙ ap
          (λ (x : Secret). byte_at x.bytes j) (alike_secret k)
          ∙ byte_blotted (z k) 0 j (secret_of d k).bytes (rw zero-add h);
    }

  pub alike_turns : (t u : Turn) → veil_turn z t ≡ veil_turn z u → AlikeTurns z t u
  alike_turns t u e = record {
    number = ap (λ (x : Turn). x.number) e;
    word = ap (λ (x : Turn). x.word) e;
    answer = ap (λ (x : Turn). x.answer) e;
    area = ap (λ (x : Turn). x.area) e;
    card = alike_cards t.card u.card (ap (λ (x : Turn). x.card) e);
  }

  pub alike_runs : (w u : Run) → veil_run z w ≡ veil_run z u → AlikeRuns z w u
  alike_runs w u e = record {
    words = ap (λ (x : Run). x.words) e;
    area = ap (λ (x : Run). x.area) e;
    card = alike_cards w.card u.card (ap (λ (x : Run). x.card) e);
  }

  pub alike_calls : (s t : Session) → veil_session z s ≡ veil_session z t → AlikeCalls z s t
  alike_calls s t e = record {
    number = ap (λ (x : Session). x.number) e;
    run = alike_runs s.run t.run (ap (λ (x : Session). x.run) e);
  }
