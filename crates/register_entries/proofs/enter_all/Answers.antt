-- `register_entries::enter_all`: after i records, card, file area, count and lines are those of `entered_of i`.
-- A record adds its turn: its walk comes to what `onward` says (`Pacing`), each file is found by `Scanning`.
use Prim.Native.Nat.{ℕ, ◌+◌, ◌*◌, ◌-◌, ◌≤◌, ◌<◌, ◌/◌}
use mathlib.Core.Path.{◌≡◌, refl, ap, sym, ◌∙◌}
use mathlib.Core.Bool.{true}
use mathlib.Core.List.{List}
use native.Mathlib.Nat.{add-sub_cancel_left}
use native.Mathlib.Omega.{arith}
use lib.ListN.{length, take, drop, length-take, length-drop}
use lib.Seq.{length-take-le}
use Rattle.lists.specs.Bytes.{part, byte_at}
use Rattle.lists.specs.Over.{over_mid}
use Rattle.model.specs.declared.Card.{Card}
use Rattle.model.specs.declared.Loading.{Loading}
use Rattle.model.specs.Loads.{file_list}
use Rattle.model.specs.Rules.{tag_spot}
use Rattle.model.specs.Session.{turn_of, Turn as Turned}
use Rattle.model.specs.Stored.{area_size}
use Rattle.theorem_sound.specs.Keeps.{Good}
use Rattle.theorem_sound.proofs.Inside.{Steady}
use Rattle.table_places.proofs.Scans.{scan_begins, scan_more, scan_found, scan_ends}
use Rattle.walk_course.specs.declared.Step.{Step}
use Rattle.walk_course.specs.Lengths.{Sized}
use Rattle.walk_course.specs.Steps.{state_of, on, Judges}
use Rattle.walk_step.specs.Paces.{onward, Paced}
use Rattle.walk_step.specs.Turns.{wanted_tag, step_of}
use Rattle.walk_command.specs.declared.End.{End}
use Rattle.walk_command.specs.declared.End.TheVariants as end
use Rattle.walk_command.specs.Ends.{Walked}
use Rattle.walk_command.proofs.Owner.{Pacing, Going, GoesOn, Turn, turned, goes_now, paces_on, ended_so, reaches}
use Rattle.walk_command.proofs.Owner.{spot_within, spot_fits}
use Rattle.event_replies.specs.Lives.{is_command}
use Rattle.event_replies.proofs.Named.{good_steady}
use Rattle.event_replies.proofs.ByKind.{command_selected, command_data}
use Rattle.register_entries.proofs.Entries.{enters_none, enters_good, enters_more}
use Rattle.register_entries.proofs.Owned.{span_command, span_other, turn_command, turn_lived, turn_refused}
use Rattle.register_entries.proofs.Owned.{settled_so, lived_so}
use Rattle.register_entries.proofs.enter_all.Goals as goal
use Rattle.register_entries.proofs.enter_all.Goals.{After-span-n, After-p-1, After-loop-j, In-Lays, In-Keeps}
use Rattle.register_entries.proofs.enter_all.Goals.{Joined-n-ne0, then-n-ne0, else-n-ne0+then-number-eq0}
use Rattle.register_entries.proofs.enter_all.Goals.{else-n-ne0+else-number-eq0}

-- a record and its data, the card before it, and the walk over the data
abbrev rec : After-span-n → List ℕ
rec s = take (s.loop-i.i * 260 + 260 - s.loop-i.i * 260) (drop (s.loop-i.i * 260) s.args.records.now)

abbrev dat : After-span-n → List ℕ
dat s = take (4 + s.wide-stop.result - 4) (drop 4 (rec s))

abbrev card : After-span-n → Card
card s = record { chip = s.args.c.chip; life = s.loop-i.life; loading = s.loop-i.load }

abbrev whence : After-span-n → Paced
whence s = onward s.args.c.chip.capacity (length (dat s)) (byte_at (rec s) 1) 0 (drop 0 (dat s))
    (state_of s.loop-i.load s.loop-i.area)

good : (s : After-span-n) → Good area_size (card s) s.loop-i.area
good s = enters_good _ _ _ _ _ _ s.requires.0 s.loop-i.invariant.0

abbrev Command : After-span-n → Type 0
Command s =
    (s.span-n.result ≡ length (dat s)) × (s.fault_in-number.result ≡ 0)
    × (is_command (byte_at (rec s) 0) (length (dat s)) (card s).life.gp (card s).loading.running.internal
    (card s).life.selected ≡ true)

command : (s : After-span-n) → 1 ≤ s.span-n.result → Command s
command s h = span_command _ _ _ _ _ (length (dat s)) _ s.span-n.ensures h

-- bytes are left: the walk goes on
abbrev whose : After-p-1 → After-span-n
whose c = (goal.at.wanted-tag-requires c).After-span-n

left : (c : After-p-1) → (
    let s = whose c in
    let g = c.loop-at in
    (1 ≤ s.span-n.result) × (g.at < length (dat s))
    × GoesOn (card s).chip.capacity (byte_at (rec s) 1) (dat s) (whence s) g.at g.load g.area
    )
left c =
    let s = whose c in
    let g = c.loop-at in
    let h : 1 ≤ s.span-n.result = omega (arith, c.loop-at-test.true) in
    let l : g.at < length (dat s) = omega (arith, (command s h).0, c.loop-at-test.true) in (
      h,
      l,
      goes_now (card s).chip.capacity (byte_at (rec s) 1) (dat s) (whence s) g.at g.load g.area
          g.end (g.invariant.0 h) l,
    )

fits : (c : After-p-1) → c.loop-at.load.count ≤ length c.loop-at.load.files
fits c = let y = (left c).2.going.steady.inside in omega (arith, y.count, y.room)

-- the record that is wanted lies where the search ended
abbrev sought : After-loop-j → After-p-1
sought c = (goal.at.step_at-s-requires c).After-p-1

abbrev its : After-loop-j → After-span-n
its c = whose (sought c)

found : (c : After-loop-j) → c.loop-j.spot
    ≡ tag_spot (file_list c.loop-at.load) (wanted_tag c.loop-at.load.running.pending (drop c.loop-at.at (dat (its c))))
found c =
    let g = c.loop-at in
    let r = c.loop-j in
    rw (← c.wanted-tag.ensures)
    (scan_ends g.load.files g.load.count (fits (sought c)) _ _ r.spot r.base r.j r.invariant c.loop-j-test.false)

-- a turn whose step is judged
turn : (c : After-loop-j) (r : Step) → (
    let g = c.loop-at in
    let s = its c in
    ((l : Loading) (a : List ℕ) → Steady area_size (on g.load.running l a)
    → c.loop-j.spot ≡ tag_spot (file_list l) (wanted_tag g.load.running.pending (drop g.at (dat s)))
    → Judges s.args.c.chip.capacity r (dat s) g.at l a
    (step_of s.args.c.chip.capacity (length (dat s)) (byte_at (rec s) 1) (drop g.at (dat s)) (on g.load.running l a)))
    → Turn (card s).chip.capacity (byte_at (rec s) 1) (dat s) (whence s) g.at g.load g.area r
    )
turn c r e =
    let g = c.loop-at in
    let s = its c in
    let l = left (sought c) in
    turned (card s).chip.capacity (byte_at (rec s) 1) (dat s) (whence s) g.at l.2.place g.load g.area
    l.2.going l.1 r (e g.load g.area l.2.going.steady (found c))

-- what the loop keeps of such a turn
abbrev Kept : After-span-n → End → ℕ → Loading → List ℕ → Type 0
Kept s e at l a =
    (1 ≤ s.span-n.result → Pacing e (card s).chip.capacity (byte_at (rec s) 1) (dat s) (whence s) at l a)
    × (s.span-n.result ≡ 0 → (l ≡ s.loop-i.load) × (a ≡ s.loop-i.area))
    × (length a ≡ area_size)

goes : (c : After-loop-j) (to place : ℕ) (l : Loading) (a : List ℕ)
    → Going (card (its c)).chip.capacity (byte_at (rec (its c)) 1) (dat (its c)) (whence (its c)) to place l a
    → Kept (its c) c.loop-at.end to l a
goes c to place l a g =
    let b = c.loop-at in
    let s = its c in
    let h = left (sought c) in (
      λ i. paces_on (card s).chip.capacity (byte_at (rec s) 1) (dat s) (whence s) b.at b.load b.area
          b.end (b.invariant.0 i) h.1 g,
      λ z. absurd (omega (arith, h.0)),
      g.steady.area,
    )

fails : (c : After-loop-j) (w place : ℕ) (l : Loading) (a : List ℕ) → Walked (end.Failed w) place l a (whence (its c))
    → Kept (its c) (end.Failed w) (its c).span-n.result l a
fails c w place l a g = (
  λ i. record { place = place; behind = omega (arith, (command (its c) i).0); walked = g },
  λ z. absurd (omega (arith, (left (sought c)).0)),
  g.steady.area,
)

asks : (c : After-loop-j) (t place : ℕ) (l : Loading) (a : List ℕ) → Walked (end.Asked t) place l a (whence (its c))
    → Kept (its c) (end.Asked t) (its c).span-n.result l a
asks c t place l a g = (
  λ i. record { place = place; behind = omega (arith, (command (its c) i).0); walked = g },
  λ z. absurd (omega (arith, (left (sought c)).0)),
  g.steady.area,
)

-- where the ways meet, the card's parts, the file area, number and word are those of the record's turn
its_data : (s : After-span-n) → dat s ≡ part (rec s) 4 (byte_at (rec s) 3)
its_data s =
    let k : 4 + s.wide-stop.result - 4 ≡ byte_at (rec s) 3 = rw s.wide-stop.ensures.0 (omega arith) in
    ap (λ (n : ℕ). take n (drop 4 (rec s))) k

abbrev met : Joined-n-ne0 → After-span-n
met c = (goal.at.overflow_add-count c).After-span-n

-- a walk that had no byte to take has left what was there
same_turn : (s : After-span-n) (l : Loading) (a : List ℕ) → (l ≡ s.loop-i.load) × (a ≡ s.loop-i.area)
    → turn_of (record { chip = (card s).chip; life = s.loop-i.life; loading = l }) a (rec s)
    ≡ turn_of (card s) s.loop-i.area (rec s)
same_turn s l a f =
    ap (λ (k : Loading). turn_of (record { chip = (card s).chip; life = s.loop-i.life; loading = k }) a (rec s)) f.0
    ∙ ap (λ (b : List ℕ). turn_of (card s) b (rec s)) f.1

played : (c : Joined-n-ne0) → (
    let s = met c in
    let t = turn_of (card s) s.loop-i.area (rec s) in
    (record { chip = (card s).chip; life = c.if-n-ne0.life; loading = c.if-n-ne0.load } ≡ t.card)
    × (c.if-n-ne0.area ≡ t.area) × (s.fault_in-number.result ≡ t.number)
    × (c.if-n-ne0.word ≡ t.word) × (length c.if-n-ne0.answer ≡ 64)
    )
played c =
    let s = met c in
    let g = c.loop-at in
    let n = s.fault_in-number.ensures in
    let k = s.loop-i.invariant.2 in
    let none : s.span-n.result ≡ 0 → (g.load ≡ s.loop-i.load) × (g.area ≡ s.loop-i.area) = g.invariant.1 in
    elim c.if-n-ne0.branch [
      | then-n-ne0 w ↦
          let h : 1 ≤ s.span-n.result = omega (arith, w.if-n-ne0.true) in
          let q = command s h in
          let z = ended_so (card s).chip.capacity (byte_at (rec s) 1) (dat s) (whence s) g.at g.load g.area
          g.end (g.invariant.0 h) (omega (arith, q.0, c.loop-at-test.false)) in
          let x = w.settled-x in
          let u = turn_command (card s) s.loop-i.area (rec s) (dat s) (its_data s) (sym n ∙ q.1) q.2 g.end g.load
          g.area x.result z.0 (x.ensures (card s) g.load g.area) in (
            rw (w.life-is, w.load-is, w.locked_as-life.ensures, w.held_as-held.ensures)
                (settled_so x.result (card s) g.load ∙ u.0),
            w.area-is ∙ u.1,
            q.1 ∙ u.2,
            w.word-is ∙ u.3,
            ap length w.answer-is ∙ k,
          )
      | else-n-ne0+then-number-eq0 w ↦
          let f = none (omega (arith, w.if-n-ne0.false)) in
          let m : Card = record { chip = (card s).chip; life = s.loop-i.life; loading = g.load } in
          let x = w.lived-x in
          let u = turn_lived m g.area (rec s) (dat s) (its_data s) (sym n ∙ w.if-number-eq0.true) x.result _ _ _
          x.ensures in
          let same = same_turn s g.load g.area f in (
            rw (w.life-is, w.load-is, w.shut_as-shut.ensures, w.held_as-held-then-number-eq0.ensures)
                (lived_so x.result m ∙ u.0 ∙ ap (λ (t : Turned). t.card) same),
            w.area-is ∙ u.1 ∙ ap (λ (t : Turned). t.area) same,
            w.if-number-eq0.true ∙ u.2 ∙ ap (λ (t : Turned). t.number) same,
            w.word-is ∙ u.3 ∙ ap (λ (t : Turned). t.word) same,
            ap length w.answer-is ∙ x.auto.answer ∙ k,
          )
      | else-n-ne0+else-number-eq0 w ↦
          let f = none (omega (arith, w.if-n-ne0.false)) in
          let m : Card = record { chip = (card s).chip; life = s.loop-i.life; loading = g.load } in
          let u = turn_refused m g.area (rec s) (dat s) (its_data s) (λ q. w.if-number-eq0.false (n ∙ q)) in
          let same = same_turn s g.load g.area f in (
            rw (w.life-is, w.load-is) (u.0 ∙ ap (λ (t : Turned). t.card) same),
            w.area-is ∙ u.1 ∙ ap (λ (t : Turned). t.area) same,
            n ∙ u.2 ∙ ap (λ (t : Turned). t.number) same,
            w.word-is ∙ u.3 ∙ ap (λ (t : Turned). t.word) same,
            ap length w.answer-is ∙ k,
          )
    ]

pub loop-i-init : goal.loop-i-init
loop-i-init c = (enters_none _ _ _ _ _, refl, refl, omega arith, omega arith)

pub loop-at-init : goal.loop-at-init
loop-at-init c =
    let s = card c in
    let a = c.loop-i.area in (
      λ h. record {
        place = 0;
        going = record {
          within = omega arith;
          steady = good_steady s a (good c) (command_selected (byte_at (rec c) 0) (byte_at (rec c) 1) (dat c) s a
              (command c h).2);
          same = refl;
        };
      },
      λ h. (refl, refl),
      (good c).area,
    )

pub wanted-tag-requires : goal.wanted-tag-requires
wanted-tag-requires c = (left c).1

pub loop-j-init : goal.loop-j-init
loop-j-init c =
    rw c.scan_from-j.ensures (scan_begins c.loop-at.load.files
    c.loop-at.load.count (fits (goal.at.loop-j-init c).After-p-1) _ _)

pub offset_bounds-load-j : goal.offset_bounds-load-j
offset_bounds-load-j c =
    let y = (left (goal.at.offset_bounds-load-j c).After-p-1).2.going.steady.inside in
    omega (arith, y.count)

pub bounds-load-j : goal.bounds-load-j
bounds-load-j c =
    let y = (left (goal.at.bounds-load-j c).After-p-1).2.going.steady.inside in
    omega (arith, y.count, y.room)

pub spot_in-spot-requires : goal.spot_in-spot-requires
spot_in-spot-requires c =
    let y = (left (goal.at.spot_in-spot-requires c).After-p-1).2.going.steady.inside in
    omega (arith, c.loop-j.invariant.below, c.loop-j.invariant.within, y.count)

pub loop-j-smaller-then-f-sfi : goal.loop-j-smaller-then-f-sfi
loop-j-smaller-then-f-sfi c = omega (arith, c.loop-j-test.true)

pub loop-j-preserved-then-f-sfi : goal.loop-j-preserved-then-f-sfi
loop-j-preserved-then-f-sfi c =
    let g = c.loop-at in
    let r = c.loop-j in
    scan_found g.load.files g.load.count (fits (goal.at.loop-j-preserved-then-f-sfi c).After-p-1) _ _ r.spot r.base
    r.j r.invariant c.loop-j-test.true _ c.if-f-sfi.true c.spot_in-spot.ensures

pub overflow_add-base : goal.overflow_add-base
overflow_add-base c =
    let y = (left (goal.at.overflow_add-base c).After-p-1).2.going.steady.inside in
    omega (arith, c.loop-j.invariant.below, c.loop-j.invariant.within, y.count, c.size_of-base.ensures.1)

pub overflow_add-j : goal.overflow_add-j
overflow_add-j c =
    let y = (left (goal.at.overflow_add-j c).After-p-1).2.going.steady.inside in
    omega (arith, y.count, c.loop-j-test.true)

pub loop-j-smaller : goal.loop-j-smaller
loop-j-smaller c = omega (arith, c.loop-j-test.true)

pub loop-j-preserved : goal.loop-j-preserved
loop-j-preserved c =
    let g = c.loop-at in
    let r = c.loop-j in
    scan_more g.load.files g.load.count (fits (goal.at.loop-j-preserved c).After-p-1) _ _ r.spot r.base
    r.j r.invariant c.loop-j-test.true _ c.size_of-base.ensures.0 c.size_of-base.ensures.1 c.if-f-sfi.false

pub step_at-s-requires : goal.step_at-s-requires
step_at-s-requires c =
    let g = c.loop-at in
    let l = left (sought c) in
    let b = drop g.at (dat (its c)) in (
      l.1,
      spot_within g.load g.area l.2.going.steady b _ (found c),
      spot_fits g.load g.area l.2.going.steady b _ (found c),
    )

-- bytes that are laid, kept or fed lie in the data, behind the turn's own place, and a record's part in the area
inside : (c : After-loop-j) → ((its c).span-n.result ≡ length (dat (its c))) × (length c.loop-at.area ≡ area_size)
inside c = ((command (its c) (left (sought c)).0).0, c.loop-at.invariant.2)

laid : (c : In-Lays) → (
    let x = c.in-Lays in
    (c.loop-at.at < x.stop) × (x.start ≤ x.stop) × (x.stop ≤ length (dat (its (goal.at.overflow_sub-stop c).After-loop-j)))
    × (x.to + (x.stop - x.start) ≤ area_size) × (c.span-n.result ≡ length (dat (its (goal.at.overflow_sub-stop c).After-loop-j)))
    × (length c.loop-at.area ≡ area_size)
    )
laid c =
    let k = (goal.at.overflow_sub-stop c).After-loop-j in
    let a = (turn k c.step_at-s.result c.step_at-s.ensures).ahead _ c.in-Lays.is in
    let i = inside k in
    (a.0, a.1, a.2, a.3, i.0, i.1)

kept : (c : In-Keeps) → (
    let x = c.in-Keeps in
    (c.loop-at.at < x.stop) × (x.start ≤ x.stop)
    × (x.stop ≤ length (dat (its (goal.at.slice_bounds-kept_as-count c).After-loop-j))) × Sized x.row (x.stop - x.start)
    × (c.span-n.result ≡ length (dat (its (goal.at.slice_bounds-kept_as-count c).After-loop-j)))
    )
kept c =
    let k = (goal.at.slice_bounds-kept_as-count c).After-loop-j in
    let a = (turn k c.step_at-s.result c.step_at-s.ensures).ahead _ c.in-Keeps.is in
    let i = inside k in
    (a.0, a.1, a.2, a.3, i.0)

pub overflow_sub-stop : goal.overflow_sub-stop
overflow_sub-stop c = omega (arith, laid c)

pub overflow_add-to : goal.overflow_add-to
overflow_add-to c = omega (arith, laid c)

pub slice_bounds-lay-count : goal.slice_bounds-lay-count
slice_bounds-lay-count c = omega (arith, laid c)

pub slice_bounds-lay-start : goal.slice_bounds-lay-start
slice_bounds-lay-start c = omega (arith, laid c)

pub slice_bounds-lay-end : goal.slice_bounds-lay-end
slice_bounds-lay-end c = omega (arith, laid c)

pub slice_bounds-lay-count-in-Lays : goal.slice_bounds-lay-count-in-Lays
slice_bounds-lay-count-in-Lays c = omega (arith, laid (goal.at.slice_bounds-lay-count-in-Lays c).In-Lays)

pub slice_bounds-lay-start-in-Lays : goal.slice_bounds-lay-start-in-Lays
slice_bounds-lay-start-in-Lays c = omega (arith, laid (goal.at.slice_bounds-lay-start-in-Lays c).In-Lays)

pub slice_bounds-lay-end-in-Lays : goal.slice_bounds-lay-end-in-Lays
slice_bounds-lay-end-in-Lays c = omega (arith, laid (goal.at.slice_bounds-lay-end-in-Lays c).In-Lays)

pub lay-requires : goal.lay-requires
lay-requires c =
    let x = c.in-Lays in
    let a = laid (goal.at.lay-requires c).In-Lays in
    rw (
      length-take-le (x.stop - x.start) (drop x.start (dat (goal.at.lay-requires c).After-span-n))
          (rw length-drop (omega (arith, a))),
      length-take-le (x.to + (x.stop - x.start) - x.to) (drop x.to c.loop-at.area)
          (rw length-drop (omega (arith, a))),
    )
    (omega arith)

pub loop-at-smaller-in-Lays : goal.loop-at-smaller-in-Lays
loop-at-smaller-in-Lays c = omega (arith, laid (goal.at.loop-at-smaller-in-Lays c).In-Lays)

pub loop-at-preserved-in-Lays : goal.loop-at-preserved-in-Lays
loop-at-preserved-in-Lays c =
    let x = c.in-Lays in
    let a = laid (goal.at.loop-at-preserved-in-Lays c).In-Lays in
    let k = (goal.at.loop-at-preserved-in-Lays c).After-loop-j in
    let d = drop x.start (dat (its k)) in
    rw (
      c.lay.ensures,
      over_mid c.loop-at.area (take (x.stop - x.start) d) x.to (x.to + (x.stop - x.start) - x.to)
          (omega (arith, a, length-take (x.stop - x.start) d)) (omega (arith, a)),
    )
    (goes k _ _ _ _ ((turn k c.step_at-s.result c.step_at-s.ensures).lays _ _ _ c.in-Lays.is))

pub slice_bounds-kept_as-count : goal.slice_bounds-kept_as-count
slice_bounds-kept_as-count c = omega (arith, kept c)

pub slice_bounds-kept_as-start : goal.slice_bounds-kept_as-start
slice_bounds-kept_as-start c = omega (arith, kept c)

pub slice_bounds-kept_as-end : goal.slice_bounds-kept_as-end
slice_bounds-kept_as-end c = omega (arith, kept c)

pub kept_as-load-requires : goal.kept_as-load-requires
kept_as-load-requires c =
    let a = kept (goal.at.kept_as-load-requires c).In-Keeps in
    let x = c.in-Keeps in
    rw (length-take-le (x.stop - x.start) (drop x.start (dat (goal.at.kept_as-load-requires c).After-span-n))
    (rw length-drop (omega (arith, a)))) a.3

pub loop-at-smaller-in-Keeps : goal.loop-at-smaller-in-Keeps
loop-at-smaller-in-Keeps c = omega (arith, kept (goal.at.loop-at-smaller-in-Keeps c).In-Keeps)

pub loop-at-preserved-in-Keeps : goal.loop-at-preserved-in-Keeps
loop-at-preserved-in-Keeps c =
    let k = (goal.at.loop-at-preserved-in-Keeps c).After-loop-j in
    rw c.kept_as-load.ensures
    (goes k _ _ _ _ ((turn k c.step_at-s.result c.step_at-s.ensures).keeps _ _ _ c.in-Keeps.is))

pub table_fed-t-requires : goal.table_fed-t-requires
table_fed-t-requires c =
    let k = (goal.at.table_fed-t-requires c).After-loop-j in
    let a = (turn k c.step_at-s.result c.step_at-s.ensures).ahead _ c.in-Feeds.is in
    (a.1, a.3)

pub loop-at-smaller-in-Passes : goal.loop-at-smaller-in-Passes
loop-at-smaller-in-Passes c =
    let k = (goal.at.loop-at-smaller-in-Passes c).After-loop-j in
    let a = (turn k c.step_at-s.result c.step_at-s.ensures).ahead _ c.in-Feeds.is in
    omega (arith, a, inside k, reaches _ _ _ c.in-Passes.is c.table_fed-t.ensures.1)

pub loop-at-preserved-in-Passes : goal.loop-at-preserved-in-Passes
loop-at-preserved-in-Passes c =
    let k = (goal.at.loop-at-preserved-in-Passes c).After-loop-j in
    let t = turn k c.step_at-s.result c.step_at-s.ensures in
    let a = t.ahead _ c.in-Feeds.is in
    let f = c.table_fed-t.ensures in
    goes k _ _ _ _
    (t.feeds _ c.in-Feeds.is _ _ f.0 _ c.in-Passes.is (omega (arith, a, reaches _ _ _ c.in-Passes.is f.1)))

pub loop-at-smaller-in-Refuses : goal.loop-at-smaller-in-Refuses
loop-at-smaller-in-Refuses c = omega (arith, c.loop-at-test.true)

pub loop-at-preserved-in-Refuses : goal.loop-at-preserved-in-Refuses
loop-at-preserved-in-Refuses c =
    let k = (goal.at.loop-at-preserved-in-Refuses c).After-loop-j in
    fails k _ _ _ _
    ((turn k c.step_at-s.result c.step_at-s.ensures).refuses _ c.in-Feeds.is _ _ c.table_fed-t.ensures.0 _
    c.in-Refuses.is)

pub loop-at-smaller-in-Asked : goal.loop-at-smaller-in-Asked
loop-at-smaller-in-Asked c = omega (arith, c.loop-at-test.true)

pub loop-at-preserved-in-Asked : goal.loop-at-preserved-in-Asked
loop-at-preserved-in-Asked c =
    let k = (goal.at.loop-at-preserved-in-Asked c).After-loop-j in
    asks k _ _ _ _ ((turn k c.step_at-s.result c.step_at-s.ensures).asks _ c.in-Asked.is)

pub loop-at-smaller : goal.loop-at-smaller
loop-at-smaller c = omega (arith, c.loop-at-test.true)

pub loop-at-preserved : goal.loop-at-preserved
loop-at-preserved c =
    let k = (goal.at.loop-at-preserved c).After-loop-j in
    fails k _ _ _ _ ((turn k c.step_at-s.result c.step_at-s.ensures).fails _ c.in-Failed.is)

pub slice_bounds-lived-end : goal.slice_bounds-lived-end
slice_bounds-lived-end c = sym c.loop-i.invariant.2

pub lived-x-requires : goal.lived-x-requires
lived-x-requires c =
    let s = (goal.at.lived-x-requires c).After-span-n in
    let z : s.span-n.result ≡ 0 = omega (arith, c.if-n-ne0.false) in
    let e = c.loop-at.invariant.1 z in
    let k = card s in
    rw (e.0, e.1) (
      good s,
      omega (arith, c.loop-i.invariant.2),
      span_other _ _ _ _ _ (length (dat s)) _ s.span-n.ensures z
          (λ h m. command_data (byte_at (rec s) 0) (byte_at (rec s) 1) (dat s) k c.loop-i.area h m)
          c.if-number-eq0.true,
    )

pub overflow_add-count : goal.overflow_add-count
overflow_add-count c = omega arith

pub loop-i-preserved : goal.loop-i-preserved
loop-i-preserved c =
    let g = c.loop-i in
    let s = c.args in
    let p = played (goal.at.loop-i-preserved c).Joined-n-ne0 in
    let e = c.put_line in (
      enters_more s.count s.c s.area.now s.records.now s.out.now g.i _ _ _ _ _ _ _ _
          g.invariant.0
          (rw add-sub_cancel_left) p.0 p.1 (e.ensures ∙ rw (← p.2, ← p.3, ← p.0)),
      e.auto.out ∙ g.invariant.1,
      p.4,
      omega arith,
      omega (arith, c.loop-i-test.true),
    )

pub shape_of-area : goal.shape_of-area
shape_of-area c =
    let p = c.requires in
    (enters_good _ _ _ _ _ _ p.0 c.loop-i.invariant.0).area ∙ sym p.0.area

pub returns : goal.returns
returns c =
    let g = c.loop-i in
    let e : g.i ≡ length c.args.records.now / 260 = omega arith in
    (enters_good _ _ _ _ _ _ c.requires.0 g.invariant.0, omega arith, rw (← e) g.invariant.0)
