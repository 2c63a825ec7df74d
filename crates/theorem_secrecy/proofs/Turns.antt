-- Hiding commutes with a record that is played.
use Prim.Native.Nat.{ℕ, suc, ◌+◌, ◌<◌}
use mathlib.Core.Path.{◌≡◌, refl, ap, sym, ◌∙◌}
use mathlib.Core.Bool.{Bool, true, false, cond, not, ◌&&◌, true≢false}
use mathlib.Core.List.{List, [], ◌∷◌, ◌++◌}
use lib.Dec.{eqb, ltb, lit<}
use lib.ListN.{length, take, drop}
use Rattle.lists.specs.Bytes.{byte_at, part}
use Rattle.lists.specs.Choice.{by_cond}
use Rattle.model.specs.declared.Open.{Open}
use Rattle.model.specs.declared.Open.TheVariants.{Shut, Table, Record}
use Rattle.model.specs.declared.Loading.{Loading}
use Rattle.model.specs.declared.Secret.{Secret}
use Rattle.model.specs.declared.Card.{Card}
use Rattle.model.specs.Stored.{Event, event_in, padded_zero, area_size, answer_room, record_size}
use Rattle.model.specs.Events.{event}
use Rattle.model.specs.Sound.{sound, sound_with, secrets_ok, pending_fits}
use Rattle.model.specs.Session.{Turn, refused_by, replied, turn_of, play_of}
use Rattle.theorem_secrecy.specs.View.{Mark, seens, marks_command, marks_data, marks_in, walked, state_in, Hiding}
use Rattle.theorem_secrecy.specs.View.{view, view_record, Way, in_session, playable, marks_played, one_by_one}
use Rattle.theorem_secrecy.specs.Veil.{veil, veil_secrets, veil_loading, veil_turn}
use Rattle.theorem_secrecy.proofs.Marks.{length_view, take_seen, drop_seen, take_view, view_within, drop_view}
use Rattle.theorem_secrecy.proofs.Marks.{view_zero}
use Rattle.theorem_secrecy.proofs.Heads.{byte_kept}
use Rattle.theorem_secrecy.proofs.Events.{veil_event, storing, Walks, walks, played, hides_event}

-- a record that is refused before it is looked into
not_reached : (area room sound size : Bool) (x1 x2 x6 x3 t u : Turn) → (area && not room && sound && size) ≡ false
    → cond (not area) x1 (cond room x2 (cond (not sound) x6 (cond (not size) x3 t)))
    ≡ cond (not area) x1 (cond room x2 (cond (not sound) x6 (cond (not size) x3 u)))
not_reached false room sound size x1 x2 x6 x3 t u e = refl
not_reached true true sound size x1 x2 x6 x3 t u e = refl
not_reached true false false size x1 x2 x6 x3 t u e = refl
not_reached true false true false x1 x2 x6 x3 t u e = refl
not_reached true false true true x1 x2 x6 x3 t u e = absurd (true≢false e)

-- hiding commutes with a record that is taken in this way
abbrev pub Commutes : Hiding → Way → Type 0
Commutes z way = (c : Card) (a r : List ℕ)
    → way.turn (veil z c) a (view z (way.marks c a r) r) ≡ veil_turn z (way.turn c a r)

module _ (z : Hiding) where
  veil_turn_if : (b : Bool) (x y : Turn) → cond b (veil_turn z x) (veil_turn z y) ≡ veil_turn z (cond b x y)
  veil_turn_if true x y = refl
  veil_turn_if false x y = refl

  -- a record none of whose bytes is hidden
  turn_seen : (c : Card) (a r : List ℕ) → (padded_zero r && walked (event_in r) c) ≡ false
      → turn_of (veil z c) a r ≡ veil_turn z (turn_of c a r)
  unfolding turn_of
  turn_seen c a r w = on (padded_zero r) refl
    where
      on : (p : Bool) → padded_zero r ≡ p → turn_of (veil z c) a r ≡ veil_turn z (turn_of c a r)
      on true p = rw (veil_event z (event_in r) c a (rw p at w)) (simp (← veil_turn_if))
      on false p = rw p (simp (← veil_turn_if))

  -- the record of a walked STORE DATA: what is read of its view
  module _ (ms : List Mark) (r : List ℕ) where
    abbrev pub v : List ℕ
    v = view z (seens 4 ++ take (byte_at r 3) ms) r

    pub first : (i : ℕ) → i < 4 → byte_at v i ≡ byte_at r i
    first i h = byte_kept 4 i v r (take_seen z 4 (take (byte_at r 3) ms) r) h

    pub data_seen : part v 4 (byte_at v 3) ≡ view z ms (part r 4 (byte_at r 3))
    data_seen =
        let n = byte_at r 3 in
        rw (first 3 (lit< tt)) (rw (drop_seen z 4 (take n ms) r, take_view z n (take n ms) (drop 4 r))
        (view_within z n ms (drop 4 r)))

    pub padded_seen : padded_zero r ≡ true → padded_zero v ≡ true
    unfolding padded_zero
    padded_seen p =
        let n = byte_at r 3 in
        rw (first 3 (lit< tt))
        (rw (
          drop_view z (4 + n) (seens 4 ++ take n ms) r,
          view_zero z (drop (4 + n) (seens 4 ++ take n ms)) (drop (4 + n) r) p,
        ) p)

    event_seen : byte_at r 0 ≡ 2 → event_in v ≡ storing (byte_at r 1) (view z ms (part r 4 (byte_at r 3)))
    event_seen k = rw (first 0 (lit< tt), first 1 (lit< tt), k)
        (ap (λ (d : List ℕ). storing (byte_at r 1) d) data_seen)

  turn_hidden : (c : Card) (a r : List ℕ) → Walks r c
      → turn_of (veil z c) a (view z (seens 4 ++ marks_data c a r) r) ≡ veil_turn z (turn_of c a r)
  turn_hidden c a r w =
      let d = part r 4 (byte_at r 3) in
      let ms = marks_command c.chip.capacity (byte_at r 1) d (state_in c a) in
      played (veil z c) a (v ms r) (first ms r 0 (lit< tt) ∙ w.kind) (padded_seen ms r w.padded)
      ∙ ap (λ (e : Event). replied (event e (veil z c) a)) (event_seen ms r w.kind)
      ∙ ap replied (hides_event z (byte_at r 1) d c a w.at_07)
      ∙ sym (ap (veil_turn z) (played c a r w.kind w.padded ∙ ap
      (λ (k : ℕ). replied (event (record { kind = k; p1 = byte_at r 1; bytes = d }) c a)) w.kind))

  -- THE KEY: the veiled card, given the record as it may be seen, does the same and comes to the same card, veiled
  pub hides_turn : Commutes z in_session
  unfolding marks_in
  hides_turn c a r =
      by_cond (λ (ms : List Mark). turn_of (veil z c) a (view z ms r) ≡ veil_turn z (turn_of c a r))
      (padded_zero r && walked (event_in r) c)
      (λ w. turn_hidden c a r (walks r c w)) (λ w. unfold view in turn_seen c a r w)

  -- sound asks of secrets only their lengths
  veil_secrets_ok : (k : ℕ) (xs : List Secret) → secrets_ok (veil_secrets z k xs) ≡ secrets_ok xs
  unfolding secrets_ok veil_secrets
  veil_secrets_ok k [] = refl
  veil_secrets_ok k (x ∷ xs) = rw (veil_secrets_ok (suc k) xs)

  veil_fits : (o : Open) (l : Loading) → pending_fits o (veil_loading z l) ≡ pending_fits o l
  veil_fits Shut l = refl
  veil_fits (Table held missing) l = refl
  veil_fits (Record tag written missing) l = refl

  pub veil_sound : (c : Card) → sound (veil z c) ≡ sound c
  unfolding sound_with
  veil_sound c = rw (veil_secrets_ok 0 c.loading.secrets, veil_fits c.loading.running.pending c.loading)

  -- one event, with the numbers that it is refused by
  play_hidden : (c : Card) (a : List ℕ) (room : ℕ) (r : List ℕ)
      → play_of (veil z c) a room (view_record z c a r) ≡ veil_turn z (play_of c a room r)
  unfolding play_of
  play_hidden c a room r = rw (length_view z (marks_in c a r) r, veil_sound c, hides_turn c a r)
      (simp (← veil_turn_if))

  play_seen : (c : Card) (a : List ℕ) (room : ℕ) (r : List ℕ) → playable c a room r ≡ false
      → play_of (veil z c) a room r ≡ veil_turn z (play_of c a room r)
  unfolding play_of playable
  play_seen c a room r p =
      rw (veil_sound c)
      (not_reached (eqb (length a) area_size) (ltb room answer_room) (sound c) (eqb (length r) record_size)
      (refused_by 1 (veil z c) a) (refused_by 2 (veil z c) a) (refused_by 6 (veil z c) a) (refused_by 3 (veil z c) a)
      (turn_of (veil z c) a r) (veil_turn z (turn_of c a r)) p
      ∙ simp (← veil_turn_if))

  pub hides_play : (room : ℕ) → Commutes z (one_by_one room)
  unfolding marks_played
  hides_play room c a r =
      by_cond (λ (ms : List Mark). play_of (veil z c) a room (view z ms r) ≡ veil_turn z (play_of c a room r))
      (playable c a room r) (λ _. play_hidden c a room r) (λ p. unfold view in play_seen c a room r p)
