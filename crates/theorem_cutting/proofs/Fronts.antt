-- INSTALL and SELECT, played on a fresh card: each name is read back from its place, so that the card is selected by
-- it, over a cleared file area.
use Prim.Native.Nat.{ℕ, suc, ◌+◌, ◌≤◌}
use mathlib.Core.Path.{◌≡◌, refl, sym, ap, ◌∙◌}
use mathlib.Core.Bool.{true, false, cond, ◌||◌}
use mathlib.Core.List.{List, [], ◌∷◌, ◌++◌}
use native.Mathlib.Omega.{arith}
use lib.Dec.{eqb, lit≤}
use lib.ListN.{length, drop, replicate, length-append}
use lib.Seq.{take-append_seam, drop-append_seam, drop-drop, get_or-drop}
use borrow.Author.Tests.{le-leb}
use Rattle.lists.specs.Bytes.{byte_at, zeros, same, eq_same}
use Rattle.model.specs.declared.Chip.{Chip}
use Rattle.model.specs.declared.Card.{Card}
use Rattle.model.specs.Stored.{Event, is_kind, record_of, record_size, data_room, fresh_loading, fresh_card, area_size}
use Rattle.model.specs.Loads.{State}
use Rattle.model.specs.Events.{Reply, says, gives, is_name, name_fci, names_in, name_length, install_form}
use Rattle.model.specs.Events.{selectable_form, installing, making_selectable, install, select, otherwise, event}
use Rattle.model.specs.Session.{replied, Run, turned, after, run_from}
use Rattle.theorem_cutting.specs.Packs.{Sized}
use Rattle.theorem_cutting.specs.Job.{names_data, install_of, selectable_of, select_of, Name, Front, at_once, in_two}
use Rattle.theorem_cutting.specs.Job.{package_name, module_name, instance_name, install_record}
use Rattle.theorem_cutting.specs.Job.{select_record, job_front, life_of, job_card}
use Rattle.theorem_cutting.proofs.Stored.{record_length, turn_stored, sized_one}

-- a length byte and its name, passed over
past_name : (k : ℕ) (n rest : List ℕ) → drop (1 + length n) (k ∷ n ++ rest) ≡ rest
past_name k n rest = let e : 1 + length n ≡ suc (length n) = omega arith in rw e (drop-append_seam n rest)

byte_at_lem : (d xs : List ℕ) (i x : ℕ) → drop i d ≡ x ∷ xs → byte_at d i ≡ x
byte_at_lem d xs i x e =
    let z : i + 0 ≡ i = omega arith in
    rw z at (sym (get_or-drop i d 0 0) ∙ ap (λ (l : List ℕ). byte_at l 0) e)

drop_on : (d x : List ℕ) (i j k : ℕ) → drop i d ≡ x → k ≡ i + j → drop k d ≡ drop j x
drop_on d x i j k e q = rw (q, ← drop-drop j i d, e)

-- the names, read back
names_in_lem : (p m n tail : List ℕ) → names_in (names_data p m n tail)
    ≡ record { package_len = length p; module_len = length m; instance_len = length n; name = n; tail = tail }
unfolding names_in
names_in_lem p m n tail =
    let d = names_data p m n tail in
    let one = past_name (length p) p (length m ∷ m ++ (length n ∷ n ++ tail)) in
    let two : drop (2 + length p + length m) d ≡ length n ∷ n ++ tail =
    drop_on d _ (1 + length p) (1 + length m) (2 + length p + length m) one (omega arith)
    ∙ past_name (length m) m (length n ∷ n ++ tail) in
    let three : drop (3 + length p + length m) d ≡ n ++ tail =
    drop_on d _ (2 + length p + length m) 1 (3 + length p + length m) two (omega arith) in
    rw (
      byte_at_lem d _ (1 + length p) (length m) one,
      byte_at_lem d _ (2 + length p + length m) (length n) two,
      drop_on d _ (3 + length p + length m) (length n) (3 + length p + length m + length n) three refl,
      three,
      take-append_seam n tail,
      drop-append_seam n tail,
    )

named : (n : List ℕ) → Name n → name_length (length n) ≡ true
named n h = rw (le-leb 5 (length n) h.0, le-leb (length n) 16 h.1)

-- the card of a chip in GP g, with that name
abbrev card_in : Chip → ℕ → List ℕ → Card
card_in chip g n = record { chip = chip; life = life_of g false n; loading = fresh_loading }

abbrev pub fresh_state : List ℕ → State
fresh_state a = record { load = fresh_loading; area = a }

-- the name that is kept is the name
is_name_lem : (chip : Chip) (g : ℕ) (n : List ℕ) → is_name (card_in chip g n) n ≡ true
unfolding is_name
is_name_lem chip g n = rw (take-append_seam n) (eq_same n)

module _ (chip : Chip) (a n : List ℕ) where
  -- INSTALL '04' and '0C'
  event_install : (p m : List ℕ) (p1 : ℕ) → eqb p1 0x08 ≡ false → (eqb p1 0x04 || eqb p1 0x0C) ≡ true
      → Name p → Name m → Name n → event (install_of p1 p m n) (fresh_card chip) a
      ≡ says 0x9000 (card_in chip (cond (eqb p1 0x04) 0x03 0x07) n) (zeros area_size)
  unfolding event otherwise install installing install_form same fresh_card
  event_install p m p1 x y hp hm hn = rw (x, y, names_in_lem p m n, named p hp, named m hm, named n hn)

  -- '08'
  event_selectable : Name n → event (selectable_of n) (card_in chip 0x03 n) a ≡ says 0x9000 (card_in chip 0x07 n) a
  unfolding event otherwise install making_selectable selectable_form same
  event_selectable hn = rw (names_in_lem [] [] n, named n hn, is_name_lem chip 0x03 n)

  -- SELECT, whatever its P1
  event_select : (p1 : ℕ) → event (select_of p1 n) (card_in chip 0x07 n) a
      ≡ gives 0x9000 (name_fci (card_in chip 0x07 n)) (job_card chip n (fresh_state a)) a
  unfolding event otherwise select
  event_select p1 = rw (is_name_lem chip 0x07 n)

-- an event, played
pub after_event : (ws a : List ℕ) (c : Card) (e : Event) (r : Reply) → is_kind e.kind ≡ true → event e c a ≡ r
    → after (record { words = ws; card = c; area = a }) (record_of e)
    ≡ record { words = ws ++ (r.word ∷ []); card = r.card; area = r.area }
unfolding after
after_event ws a c e r k q = ap (turned (record { words = ws; card = c; area = a }))
    (turn_stored e c a k ∙ ap replied q)

-- a run that stands at a state of the loading part
abbrev pub run_at : List ℕ → Chip → List ℕ → State → Run
run_at ws chip n s = record { words = ws; card = job_card chip n s; area = s.area }

selected_last : (chip : Chip) (n : List ℕ) (p1 : ℕ) (ws : List ℕ) (rs : List (List ℕ))
    → run_from (after (record { words = ws; card = card_in chip 0x07 n; area = zeros area_size })
    (record_of (select_of p1 n))) rs ≡ run_from (run_at (ws ++ (0x9000 ∷ [])) chip n (fresh_state (zeros area_size))) rs
selected_last chip n p1 ws rs =
    ap (λ (w : Run). run_from w rs)
    (after_event ws (zeros area_size) (card_in chip 0x07 n) (select_of p1 n) _ refl
    (event_select chip (zeros area_size) n p1))

-- a front, played, whatever the file area was
pub front_played : {n : List ℕ} {front : List (List ℕ)} → Front n front → (chip : Chip) (a : List ℕ)
    (rs : List (List ℕ)) → run_from (record { words = []; card = fresh_card chip; area = a }) (front ++ rs)
    ≡ run_from (run_at (replicate (length front) 0x9000) chip n (fresh_state (zeros area_size))) rs
unfolding run_from
front_played {n} (at_once p m p1 hp hm hn) chip a rs =
    ap (λ (w : Run). run_from (after w (record_of (select_of p1 n))) rs)
    (after_event [] a (fresh_card chip) (install_of 0x0C p m n) _ refl
    (event_install chip a n p m 0x0C refl refl hp hm hn))
    ∙ selected_last chip n p1 (replicate 1 0x9000) rs
front_played {n} (in_two p m p1 hp hm hn) chip a rs =
    ap (λ (w : Run). run_from (after (after w (record_of (selectable_of n))) (record_of (select_of p1 n))) rs)
    (after_event [] a (fresh_card chip) (install_of 0x04 p m n) _ refl
    (event_install chip a n p m 0x04 refl refl hp hm hn))
    ∙ ap (λ (w : Run). run_from (after w (record_of (select_of p1 n))) rs)
    (after_event (replicate 1 0x9000) (zeros area_size) (card_in chip 0x03 n) (selectable_of n) _ refl
    (event_selectable chip (zeros area_size) n hn))
    ∙ selected_last chip n p1 (replicate 2 0x9000) rs

-- a front has records of 260 bytes
names_short : (p m n tail : List ℕ) → length p ≤ 16 → length m ≤ 16 → length n ≤ 16 → length tail ≤ 6
    → length (names_data p m n tail) ≤ data_room
names_short p m n tail hp hm hn ht = simp length-append (omega arith)

pub front_sized : {n : List ℕ} {front : List (List ℕ)} → Front n front → (rs : List (List ℕ))
    → Sized record_size record_size rs → Sized record_size record_size (front ++ rs)
front_sized {n} (at_once p m p1 hp hm hn) rs z =
    sized_one _ _ (record_length (install_of 0x0C p m n) (names_short p m n _ hp.1 hm.1 hn.1 (lit≤ tt)))
    (sized_one _ _ (record_length (select_of p1 n) (omega arith)) z)
front_sized {n} (in_two p m p1 hp hm hn) rs z =
    sized_one _ _ (record_length (install_of 0x04 p m n) (names_short p m n _ hp.1 hm.1 hn.1 (lit≤ tt)))
    (sized_one _ _ (record_length (selectable_of n) (names_short [] [] n _ (lit≤ tt) (lit≤ tt) hn.1 (lit≤ tt)))
    (sized_one _ _ (record_length (select_of p1 n) (omega arith)) z))

-- what `cut` writes is one
pub job_front_lem : Front instance_name job_front
unfolding install_record select_record
job_front_lem = at_once package_name module_name 0x04 (lit≤ tt, lit≤ tt) (lit≤ tt, lit≤ tt) (lit≤ tt, lit≤ tt)
