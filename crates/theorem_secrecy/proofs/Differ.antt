-- A session that differs from another only in the bytes that the other's run marks has the same marks: so the two
-- look alike.
use Prim.Native.Nat.{ℕ, zero, suc, ◌+◌, ◌≤◌, ◌<◌}
use mathlib.Core.Path.{◌≡◌, refl, ap, ap₂, sym, ◌∙◌, subst}
use mathlib.Core.Bool.{true, false, ◌&&◌, true≢false}
use mathlib.Core.List.{List, [], ◌∷◌, ◌++◌, append_assoc}
use native.Mathlib.Omega.{arith}
use lib.Dec.{lit<}
use lib.ListN.{length, take, drop, length-take, length-replicate, drop_of_length-le}
use lib.Seq.{drop-append_seam, drop_at}
use Rattle.lists.specs.Bytes.{byte_at, part, all_zero}
use Rattle.lists.specs.Choice.{by_cond}
use Rattle.model.specs.declared.Secret.{Secret}
use Rattle.model.specs.declared.Head.{Head}
use Rattle.model.specs.declared.Header.{Header}
use Rattle.model.specs.declared.Header.TheVariants.{Torn, Whole}
use Rattle.model.specs.declared.Chip.{Chip}
use Rattle.model.specs.declared.Card.{Card}
use Rattle.model.specs.Stored.{fresh_card, event_in, padded_zero}
use Rattle.model.specs.Rows.{row_of}
use Rattle.model.specs.Header.{header_of}
use Rattle.model.specs.Loads.{State}
use Rattle.model.specs.Rules.{Result, went, asked, failed, fed, grouping}
use Rattle.model.specs.Sound.{sound}
use Rattle.model.specs.Session.{Turn}
use Rattle.theorem_secrecy.specs.View.{Mark, seen, seens, secret_marks, is_secret, value_marks, grouping_marks}
use Rattle.theorem_secrecy.specs.View.{missing_in, marks_by, marks_walk, marks_command, marks_data, marks_in, walked}
use Rattle.theorem_secrecy.specs.View.{state_in, Hiding, every, view, Way, in_session, playable, marks_played}
use Rattle.theorem_secrecy.specs.View.{one_by_one, views_from}
use Rattle.theorem_secrecy.specs.Veil.{veil, veil_state, veil_turn}
use Rattle.theorem_secrecy.specs.Alike.{Differs, AlikeSessions}
use Rattle.model.proofs.Laws.{Stops}
use Rattle.theorem_secrecy.proofs.Heads.{head_kept, byte_kept}
use Rattle.theorem_secrecy.proofs.Hiding.{Hides, hides_fed}
use Rattle.theorem_secrecy.proofs.Grouping.{hides_grouping}
use Rattle.theorem_secrecy.proofs.Events.{Walks, walks}
use Rattle.theorem_secrecy.proofs.Turns.{Commutes, hides_turn, veil_sound}
use Rattle.theorem_secrecy.proofs.Sessions.{alike_sessions}
use Rattle.theorem_secrecy.proofs.Keeps.{Keeps, keeps_fed, keeps_grouping}
use Rattle.theorem_secrecy.proofs.Told.{torn_fails}
use Rattle.theorem_secrecy.proofs.Goes.{goes, goes_fed, goes_grouping}
use Rattle.theorem_secrecy.proofs.Agree.{But, but_hidden, hidden_view, but_drop, but_none, but_seen, but_take}
use Rattle.theorem_secrecy.proofs.Agree.{but_view, but_front}

abbrev state_of : Result (List ℕ) → State
state_of (went left s) = s
state_of (asked tag s) = s
state_of (failed w s) = s

-- all that is behind a grouping, hidden
abbrev blind : ℕ → List ℕ → State → List Mark
blind n left s = secret_marks 0 0 n

no_marks : (front : List Mark) (later : List ℕ → State → List Mark) (r : Result (List ℕ)) → Stops r
    → marks_by front later r ≡ []
no_marks front later (went left s) n = absurd n
no_marks front later (asked tag s) n = refl
no_marks front later (failed w s) n = refl

-- A rule on bytes b, and on bytes e that differ from b only in marked bytes. It passes on both or on neither, takes
-- as many, and hiding commutes with it: so it comes to states that look alike, and leaves bytes that differ only in
-- marked bytes.
module _ (front : List Mark) (later later' : List ℕ → State → List Mark) (b e : List ℕ) where
  abbrev Continues : Type 0
  Continues = (left left' : List ℕ) (s t : State) → veil_state every s ≡ veil_state every t
      → But (later left s) left left' → later' left' t ≡ later left s

  agree_rule : (xs ys : List Secret) (rule : List ℕ → Result (List ℕ)) (r q : Result (List ℕ)) → goes q ≡ goes r
      → Hides every (blind (length b)) front b r rule → Hides every (blind (length b)) front e q rule
      → Keeps front b xs r → Keeps front e ys q → Continues → But (marks_by front later r) b e
      → marks_by front later' q ≡ marks_by front later r
  agree_rule xs ys rule (went left s) (went left' t) g p p' k k' c d =
      let views = but_view (front ++ secret_marks 0 0 (length b)) b e (but_front front (later left s) b e d) in
      let states : veil_state every s ≡ veil_state every t = ap state_of (sym p ∙ ap rule views ∙ p') in
      let rest : But (later left s) left left' =
      rw (drop-append_seam front (later left s), ← k.0, ← k'.0) at
      (but_drop (length front) (front ++ later left s) b e d) in
      ap (λ (ms : List Mark). front ++ ms) (c left left' s t states rest)
  agree_rule xs ys rule (went left s) (asked tag t) g p p' k k' c d = absurd (true≢false (sym g))
  agree_rule xs ys rule (went left s) (failed w t) g p p' k k' c d = absurd (true≢false (sym g))
  agree_rule xs ys rule (asked tag s) (went left t) g p p' k k' c d = absurd (true≢false g)
  agree_rule xs ys rule (asked tag s) (asked tag' t) g p p' k k' c d = refl
  agree_rule xs ys rule (asked tag s) (failed w t) g p p' k k' c d = refl
  agree_rule xs ys rule (failed w s) (went left t) g p p' k k' c d = absurd (true≢false g)
  agree_rule xs ys rule (failed w s) (asked tag t) g p p' k k' c d = refl
  agree_rule xs ys rule (failed w s) (failed w' t) g p p' k k' c d = refl

-- a grouping: its header is seen, and its value where it is no secret's
module _ (h : Head) (later : List ℕ → State → List Mark) (b e : List ℕ) where
  same_head : (r : Result (List ℕ)) → But (marks_by (grouping_marks (Whole h)) later r) b e
      → take h.size e ≡ take h.size b
  same_head (went left s) d =
      sym (but_seen h.size (value_marks (row_of h.tag) h.len ++ later left s) b e
      (rw (append_assoc (seens h.size) (value_marks (row_of h.tag) h.len) (later left s)) at d))
  same_head (asked tag s) d = ap (take h.size) (sym (but_none b e d))
  same_head (failed w s) d = ap (take h.size) (sym (but_none b e d))

  same_value : (r : Result (List ℕ)) → But (marks_by (grouping_marks (Whole h)) later r) b e
      → is_secret (row_of h.tag) ≡ false → take h.len (drop h.size e) ≡ take h.len (drop h.size b)
  same_value (went left s) d n =
      let vm = value_marks (row_of h.tag) h.len in
      let L = later left s in
      let d1 = subst (λ (ms : List Mark). But ms b e) (append_assoc (seens h.size) vm L) d in
      let d2 = subst (λ (ms : List Mark). But ms (drop h.size b) (drop h.size e))
      (drop_at (seens h.size) (vm ++ L) h.size (length-replicate h.size seen))
      (but_drop h.size (seens h.size ++ (vm ++ L)) b e d1) in
      sym (but_seen h.len L (drop h.size b) (drop h.size e) (rw n at d2))
  same_value (asked tag s) d n = ap (λ (l : List ℕ). take h.len (drop h.size l)) (sym (but_none b e d))
  same_value (failed w s) d n = ap (λ (l : List ℕ). take h.len (drop h.size l)) (sym (but_none b e d))

module _ (capacity n p1 : ℕ) (later later' : List ℕ → State → List Mark) (b e : List ℕ) (s t : State)
    (states : veil_state every s ≡ veil_state every t)
    (continues : (left left' : List ℕ) (s t : State) → veil_state every s ≡ veil_state every t
    → But (later left s) left left' → later' left' t ≡ later left s) where
  agree_head : (x : Header) → header_of b ≡ x → But (marks_by (grouping_marks x) later (grouping capacity n p1 b s)) b e
      → marks_by (grouping_marks (header_of e)) later' (grouping capacity n p1 e t)
      ≡ marks_by (grouping_marks x) later (grouping capacity n p1 b s)
  agree_head Torn torn d =
      let none = no_marks [] later (grouping capacity n p1 b s) (torn_fails capacity n p1 b s torn) in
      let same = but_none b e (subst (λ (ms : List Mark). But ms b e) none d) in
      no_marks (grouping_marks (header_of e)) later' (grouping capacity n p1 e t)
      (torn_fails capacity n p1 e t (ap header_of (sym same) ∙ torn)) ∙ sym none
  agree_head (Whole h) is d =
      let r = grouping capacity n p1 b s in
      let is' = head_kept h e b (sym d.size) (same_head h later b e r d) is in
      let passes : goes (grouping capacity n p1 e t) ≡ goes r =
      sym (goes_grouping every capacity h e e refl (λ _. refl) n p1 t is' is') ∙ ap
      (λ (u : State). goes (grouping capacity n p1 e u)) (sym states)
      ∙ goes_grouping every capacity h e b (sym d.size) (same_value h later b e r d) n p1 s is is' in
      rw is'
      (agree_rule (grouping_marks (Whole h)) later later' b e s.load.secrets t.load.secrets
      (λ v. grouping capacity n p1 v (veil_state every s)) r (grouping capacity n p1 e t) passes
      (rw is at (hides_grouping every (blind (length b)) capacity n p1 b s))
      (subst (λ (u : State). Hides every (blind (length b)) (grouping_marks (Whole h)) e (grouping capacity n p1 e t)
      (λ v. grouping capacity n p1 v u)) (sym states)
      (rw is' at (hides_grouping every (blind (length b)) capacity n p1 e t)))
      (rw is at (keeps_grouping capacity n p1 b s)) (rw is' at (keeps_grouping capacity n p1 e t)) continues d)

  agree_grouping : But (marks_by (grouping_marks (header_of b)) later (grouping capacity n p1 b s)) b e
      → marks_by (grouping_marks (header_of e)) later' (grouping capacity n p1 e t)
      ≡ marks_by (grouping_marks (header_of b)) later (grouping capacity n p1 b s)
  agree_grouping d = agree_head (header_of b) refl d

-- groupings end to end
agree_walk : (fuel capacity n p1 : ℕ) (b e : List ℕ) (s t : State) → veil_state every s ≡ veil_state every t
    → But (marks_walk fuel capacity n p1 b s) b e
    → marks_walk fuel capacity n p1 e t ≡ marks_walk fuel capacity n p1 b s
unfolding marks_walk
agree_walk zero capacity n p1 b e s t states d = refl
agree_walk (suc fuel) capacity n p1 [] [] s t states d = refl
agree_walk (suc fuel) capacity n p1 [] (y ∷ ys) s t states d = absurd (omega (arith, d.size))
agree_walk (suc fuel) capacity n p1 (x ∷ xs) [] s t states d = absurd (omega (arith, d.size))
agree_walk (suc fuel) capacity n p1 (x ∷ xs) (y ∷ ys) s t states d =
    agree_grouping capacity n p1 (λ left u. marks_walk fuel capacity n p1 left u)
    (λ left u. marks_walk fuel capacity n p1 left u) (x ∷ xs) (y ∷ ys) s t states
    (λ left left' u v same rest. agree_walk fuel capacity n p1 left left' u v same rest) d

-- an open value's bytes are seen
same_open : (n : ℕ) (later : List ℕ → State → List Mark) (b e : List ℕ) (r : Result (List ℕ))
    → But (marks_by (seens n) later r) b e → take n e ≡ take n b
same_open n later b e (went left s) d = sym (but_seen n (later left s) b e d)
same_open n later b e (asked tag s) d = ap (take n) (sym (but_none b e d))
same_open n later b e (failed w s) d = ap (take n) (sym (but_none b e d))

agree_command : (capacity p1 : ℕ) (b e : List ℕ) (s t : State) → veil_state every s ≡ veil_state every t
    → But (marks_command capacity p1 b s) b e
    → marks_command capacity p1 e t ≡ marks_command capacity p1 b s
unfolding marks_command
agree_command capacity p1 b e s t states d =
    let m = missing_in s.load.running.pending in
    let later : List ℕ → State → List Mark = λ left u. marks_walk (length left) capacity (length b) p1 left u in
    let m' : missing_in t.load.running.pending ≡ m =
    ap (λ (u : State). missing_in u.load.running.pending) (sym states) in
    let passes : goes (fed e t) ≡ goes (fed b s) =
    sym (goes_fed every e e t refl) ∙ ap (λ (u : State). goes (fed e u)) (sym states) ∙ goes_fed every e b s
    (same_open m later b e (fed b s) d) in
    rw (m', ← d.size)
    (agree_rule (seens m) later later b e s.load.secrets t.load.secrets (λ v. fed v (veil_state every s))
    (fed b s) (fed e t) passes
    (hides_fed every (blind (length b)) b s)
    (subst (λ (u : State). Hides every (blind (length b)) (seens m) e (fed e t) (λ v. fed v u)) (sym states)
    (rw m' at (hides_fed every (blind (length b)) e t)))
    (keeps_fed b s) (rw m' at (keeps_fed e t))
    (λ left left' u v same rest. rw (← rest.size)
    (agree_walk (length left) capacity (length b) p1 left left' u v same rest)) d)

-- two records that differ only in marked bytes, on cards that look alike, have the same marks
abbrev pub Agrees : Way → Type 0
Agrees way = (c d : Card) (a r q : List ℕ) → veil every c ≡ veil every d → But (way.marks c a r) r q
    → way.marks d a q ≡ way.marks c a r

-- a record: the first four bytes are seen, the data differs only in marked bytes, and what is behind it is the same
module _ (c d : Card) (a r q : List ℕ) (cards : veil every c ≡ veil every d) where
  same_test : (padded_zero r && walked (event_in r) d) ≡ (padded_zero r && walked (event_in r) c)
  same_test = ap (λ (x : Card). padded_zero r && walked (event_in r) x) (sym cards)

  module _ (w : Walks r c) (e : But (seens 4 ++ marks_data c a r) r q) where
    same_first : (i : ℕ) → i < 4 → byte_at q i ≡ byte_at r i
    same_first i h = byte_kept 4 i q r (sym (but_seen 4 (marks_data c a r) r q e)) h

    same_padding : padded_zero q ≡ true
    unfolding padded_zero
    same_padding =
        let n = byte_at r 3 in
        let ms = marks_command c.chip.capacity (byte_at r 1) (part r 4 n) (state_in c a) in
        let all : length (seens 4 ++ take n ms) ≤ 4 + n = omega (arith, length-take n ms) in
        let behind = but_drop (4 + n) (seens 4 ++ take n ms) r q e in
        let same = but_none (drop (4 + n) r) (drop (4 + n) q)
        (subst (λ (l : List Mark). But l (drop (4 + n) r) (drop (4 + n) q))
        (drop_of_length-le (seens 4 ++ take n ms) all) behind) in
        rw (same_first 3 (lit< tt)) (ap all_zero (sym same) ∙ w.padded)

    same_data : marks_data d a q ≡ marks_data c a r
    same_data =
        let n = byte_at r 3 in
        let capacity = c.chip.capacity in
        let ms = marks_command capacity (byte_at r 1) (part r 4 n) (state_in c a) in
        let states : veil_state every (state_in c a) ≡ veil_state every (state_in d a) =
        ap (λ (x : Card). state_in x a) cards in
        let same = agree_command capacity (byte_at r 1) (part r 4 n) (part q 4 n) (state_in c a) (state_in d a) states
        (but_take n ms (drop 4 r) (drop 4 q) (but_drop 4 (seens 4 ++ take n ms) r q e)) in
        rw (same_first 3 (lit< tt), same_first 1 (lit< tt), ap (λ (x : Card). x.chip.capacity) (sym cards))
        (ap (take n) same)

    same_walked : (padded_zero q && walked (event_in q) c) ≡ true
    same_walked = rw (same_padding, same_first 0 (lit< tt), w.kind, w.selected, w.at_07)

  pub agree_record : But (marks_in c a r) r q → marks_in d a q ≡ marks_in c a r
  unfolding marks_in
  agree_record =
      by_cond (λ (ms : List Mark). But ms r q → marks_in d a q ≡ ms) (padded_zero r && walked (event_in r) c)
      (λ t e.
      let w = walks r c t in
      let walked-too = ap (λ (x : Card). padded_zero q && walked (event_in q) x) (sym cards) ∙ same_walked w e in
      rw walked-too (ap (λ (ms : List Mark). seens 4 ++ ms) (same_data w e)))
      (λ t e. rw (← (but_none r q e), same_test, t))

-- a record that is played by itself: both are taken, or both are refused and the same
same_playable : (room : ℕ) (c d : Card) (a r q : List ℕ) → veil every c ≡ veil every d → length r ≡ length q
    → playable d a room q ≡ playable c a room r
unfolding playable
same_playable room c d a r q cards size =
    let same : sound d ≡ sound c = sym (veil_sound every d) ∙ ap sound (sym cards) ∙ veil_sound every c in
    rw (same, size)

pub agree_play : (room : ℕ) → Agrees (one_by_one room)
unfolding marks_played
agree_play room c d a r q cards =
    by_cond (λ (ms : List Mark). But ms r q → marks_played d a room q ≡ ms) (playable c a room r)
    (λ p e. rw (same_playable room c d a r q cards e.size, p) (agree_record c d a r q cards e))
    (λ p e. rw (same_playable room c d a r q cards e.size, p))

-- a session: the two look alike
module _ (z : Hiding) (way : Way) (hides : Commutes every way) (agrees : Agrees way) where
  pub agree_views : (c d : Card) (a : List ℕ) (x y : List (List ℕ)) → veil every c ≡ veil every d
      → Differs z way c a x y → views_from z way c a x ≡ views_from z way d a y
  unfolding Differs views_from
  agree_views c d a [] [] cards e = refl
  agree_views c d a [] (q ∷ qs) cards e = absurd e
  agree_views c d a (r ∷ rs) [] cards e = absurd e
  agree_views c d a (r ∷ rs) (q ∷ qs) cards e =
      let t = way.turn c a r in
      let u = way.turn d a q in
      let ms = way.marks c a r in
      let but = but_hidden z ms r q e.0 in
      let marks : way.marks d a q ≡ ms = agrees c d a r q cards but in
      let views : view every ms r ≡ view every (way.marks d a q) q =
      but_view ms r q but ∙ ap (λ (l : List Mark). view every l q) (sym marks) in
      let turns : veil_turn every t ≡ veil_turn every u =
      sym (hides c a r) ∙ ap₂ (λ (s : Card) (l : List ℕ). way.turn s a l) cards views ∙ hides d a q in
      ap₂ {C = List (List ℕ)} (λ v l. v ∷ l)
      (hidden_view z ms r q e.0 ∙ ap (λ (l : List Mark). view z l q) (sym marks))
      (agree_views t.card u.card t.area rs qs (ap (λ (v : Turn). v.card) turns) e.1
      ∙ ap (λ (l : List ℕ). views_from z way u.card l qs) (ap (λ (v : Turn). v.area) turns))

-- THE THEOREM, said of the bytes: a session, and another that differs from it only in value bytes inside '3800' and
-- '410n' groupings that pass all their checks (or only in some of those bytes), both from fresh cards of one chip and
-- with equal file areas
pub differs_only_in_secrets : (z : Hiding) (chip : Chip) (a : List ℕ) (x y : List (List ℕ))
    → Differs z in_session (fresh_card chip) a x y
    → AlikeSessions z (fresh_card chip) (fresh_card chip) a x y
differs_only_in_secrets z chip a x y e =
    let c = fresh_card chip in
    alike_sessions z c c a x y refl (agree_views z in_session (hides_turn every) agree_record c c a x y refl e)
