-- ONE STEP, APPLIED, IS ONE TURN OF THE DEFINITION'S WALK: what the owner of the loading part and of the area cites,
-- whichever it is.
use Prim.Native.Nat.{ℕ, ◌-◌, ◌≤◌, ◌<◌}
use mathlib.Core.Path.{◌≡◌, refl, ap, sym, ◌∙◌, subst}
use mathlib.Core.List.{List, []}
use lib.ListN.{length, drop, drop_of_length-le}
use native.Mathlib.Nat.{le_trans}
use native.Mathlib.Omega.{arith}
use Rattle.lists.specs.Bytes.{part}
use Rattle.lists.specs.Over.{overwrite}
use Rattle.model.specs.declared.Loading.{Loading}
use Rattle.model.specs.declared.Open.{Open}
use Rattle.model.specs.declared.Open.TheVariants.{Shut, Table, Record}
use Rattle.model.specs.declared.Spot.{Spot}
use Rattle.model.specs.declared.Spot.TheVariants.{Nowhere, At}
use Rattle.model.specs.declared.Verdict.{Verdict}
use Rattle.model.specs.declared.Verdict.TheVariants.{Passes, Refuses}
use Rattle.model.specs.Stored.{area_size}
use Rattle.model.specs.Loads.{State, file_list, with_running}
use Rattle.model.specs.Rules.{went, failed, fed, tag_spot}
use Rattle.theorem_sound.proofs.Inside.{Steady, fits_same}
use Rattle.theorem_sound.proofs.Opened.{record_opened}
use Rattle.theorem_sound.proofs.Within.{spot_within as table-within, total_passes}
use Rattle.walk_course.specs.declared.Course.{Course}
use Rattle.walk_course.specs.declared.Course.TheVariants.{Keeps, Lays, Feeds, Asked, Failed}
use Rattle.walk_course.specs.declared.Step.{Step}
use Rattle.walk_course.specs.Steps.{state_of, kept_of, carried, Ahead, Judges, Within}
use Rattle.walk_table.specs.Bytes.{fed_as, Reaches}
use Rattle.walk_step.specs.Turns.{wanted_tag, Fits, step_of}
use Rattle.walk_step.specs.Paces.{Paced, rests, onward}
use Rattle.walk_step.proofs.Paces.{turn_went, turn_asked, turn_failed}
use Rattle.walk_command.specs.declared.End.{End}
use Rattle.walk_command.specs.declared.End.TheVariants as end
use Rattle.walk_command.specs.Ends.{end_of, Walked}

-- how far the walk is: what is left comes to the same
pub record Going (capacity p1 : ℕ) (d : List ℕ) (from : Paced) (i place : ℕ) (load : Loading)
    (area : List ℕ) : Type 0 where
  pub within : i ≤ length d
  pub steady : Steady area_size (state_of load area)
  pub same : from ≡ onward capacity (length d) p1 place (drop i d) (state_of load area)

module _ (capacity p1 : ℕ) (d : List ℕ) (from : Paced) (i place : ℕ) (load : Loading) (area : List ℕ)
    (k : Going capacity p1 d from i place load area) where
  -- nothing is left
  pub rests_so : length d ≤ i → Walked end.Done place load area from
  unfolding onward
  rests_so h =
      let q : drop i d ≡ [] = drop_of_length-le d {i = i} h in
      let e : from ≡ rests place (state_of load area) =
      k.same ∙ ap (λ (x : List ℕ). onward capacity (length d) p1 place x (state_of load area)) q in
      record {
        ends = sym (ap (λ (x : Paced). x.result) e);
        places = sym
            (ap (λ (x : Paced). x.place) e);
        steady = k.steady;
      }

  module _ (h : i < length d) (s : Step) (j : Judges capacity s d i load area
      (step_of capacity (length d) p1 (drop i d) (state_of load area))) where
    abbrev l : Loading
    l = with_running s.running load

    its_ahead : (c : Course) → s.course ≡ c → Ahead d i c l
    its_ahead c e = subst (λ (x : Course). Ahead d i x l) e j.ahead

    comes : (c : Course) → s.course ≡ c → step_of capacity (length d) p1 (drop i d) (state_of load area)
        ≡ carried capacity c d (state_of l area)
    comes c e = subst (λ (x : Course). step_of capacity (length d) p1 (drop i d) (state_of load area)
        ≡ carried capacity x d (state_of l area)) e (sym j.comes)

    goes : (to : ℕ) (t : State) → to ≤ length d → step_of capacity (length d) p1 (drop i d) (state_of load area)
        ≡ went (drop to d) t
        → Going capacity p1 d from to i t.load t.area
    goes to t w e =
        let q = turn_went capacity p1 d i place (state_of load area) h k.steady (drop to d) t e in
        record { within = w; steady = q.0; same = k.same ∙ q.1 }

    keeps_on : (row start to : ℕ) → s.course ≡ Keeps row start to
        → Going capacity p1 d from to i (kept_of capacity row (part d start (to - start)) l) area
    keeps_on row start to e = goes to (state_of (kept_of capacity row (part d start (to - start)) l) area)
        (its_ahead _ e).2 (comes _ e)

    lays_on : (at start to : ℕ) → s.course ≡ Lays at start to
        → Going capacity p1 d from to i l (overwrite area at (part d start (to - start)))
    lays_on at start to e = goes to (state_of l (overwrite area at (part d start (to - start)))) (its_ahead _ e).2
        (comes _ e)

    asks_so : (t : ℕ) → s.course ≡ Asked t → Walked (end.Asked t) i l area from
    asks_so t e =
        let q = turn_asked capacity p1 d i place (state_of load area) h k.steady t (state_of l area) (comes _ e) in
        let f = k.same ∙ q.1 in
        record {
          ends = sym (ap (λ (x : Paced). x.result) f);
          places = sym
              (ap (λ (x : Paced). x.place) f);
          steady = q.0;
        }

    fails : (w : ℕ) (t : Loading) → step_of capacity (length d) p1 (drop i d) (state_of load area)
        ≡ failed w (state_of t area) → Walked (end.Failed w) i t area from
    fails w t e =
        let q = turn_failed capacity p1 d i place (state_of load area) h k.steady w (state_of t area) e in
        let f = k.same ∙ q.1 in
        record {
          ends = sym (ap (λ (x : Paced). x.result) f);
          places = sym
              (ap (λ (x : Paced). x.place) f);
          steady = q.0;
        }

    fails_so : (w : ℕ) → s.course ≡ Failed w → Walked (end.Failed w) i l area from
    fails_so w e = fails w l (comes _ e)

    -- bytes of '3100', which were taken as far as the data goes, or refused
    module _ (at : ℕ) (e : s.course ≡ Feeds at) (v : Verdict) (t : Loading)
        (g : (a : List ℕ) → fed_as v d (state_of t a) ≡ fed (drop at d) (state_of l a)) where
      feeds_on : (to : ℕ) → v ≡ Passes to → to ≤ length d → Going capacity p1 d from to i t area
      feeds_on to f w = goes to (state_of t area) w (comes _ e ∙ sym (g area) ∙ rw f)

      feeds_fail : (w : ℕ) → v ≡ Refuses w → Walked (end.Failed w) i t area from
      feeds_fail w f = fails w t (comes _ e ∙ sym (g area) ∙ rw f)

-- all that an owner asks of a step that was judged, by its course
pub record Turn (capacity p1 : ℕ) (d : List ℕ) (from : Paced) (i : ℕ) (load : Loading) (area : List ℕ)
    (s : Step) : Type 0 where
  pub ahead : (c : Course) → s.course ≡ c → Ahead d i c (with_running s.running load)
  pub keeps : (row start to : ℕ) → s.course ≡ Keeps row start to
      → Going capacity p1 d from to i (kept_of capacity row (part d start (to - start))
      (with_running s.running load)) area
  pub lays : (at start to : ℕ) → s.course ≡ Lays at start to
      → Going capacity p1 d from to i (with_running s.running load) (overwrite area at (part d start (to - start)))
  pub asks : (t : ℕ) → s.course ≡ Asked t → Walked (end.Asked t) i (with_running s.running load) area from
  pub fails : (w : ℕ) → s.course ≡ Failed w → Walked (end.Failed w) i (with_running s.running load) area from
  pub feeds : (at : ℕ) → s.course ≡ Feeds at → (v : Verdict) (t : Loading)
      → ((a : List ℕ) → fed_as v d (state_of t a) ≡ fed (drop at d) (state_of (with_running s.running load) a))
      → (to : ℕ) → v ≡ Passes to → to ≤ length d → Going capacity p1 d from to i t area
  pub refuses : (at : ℕ) → s.course ≡ Feeds at → (v : Verdict) (t : Loading)
      → ((a : List ℕ) → fed_as v d (state_of t a) ≡ fed (drop at d) (state_of (with_running s.running load) a))
      → (w : ℕ) → v ≡ Refuses w → Walked (end.Failed w) i t area from

pub turned : (capacity p1 : ℕ) (d : List ℕ) (from : Paced) (i place : ℕ) (load : Loading) (area : List ℕ)
    → Going capacity p1 d from i place load area
    → i < length d → (s : Step) → Judges capacity s d i load area
    (step_of capacity (length d) p1 (drop i d) (state_of load area))
    → Turn capacity p1 d from i load area s
turned capacity p1 d from i place load area k h s j = record {
  ahead = its_ahead capacity p1 d from i place load area k h s j;
  keeps = keeps_on capacity p1 d from i place load area k h s j;
  lays = lays_on capacity p1 d from i place load area k h s j;
  asks = asks_so capacity p1 d from i place load area k h s j;
  fails = fails_so capacity p1 d from i place load area k h s j;
  feeds = feeds_on capacity p1 d from i place load area k h s j;
  refuses = feeds_fail capacity p1 d from i place load area k h s j;
}

-- a record's place that was found in the table of a sound state lies within the area, and an open record's bytes fit it
module _ (load : Loading) (area : List ℕ) (y : Steady area_size (state_of load area)) (bytes : List ℕ) (spot : Spot)
    (e : spot ≡ tag_spot (file_list load) (wanted_tag load.running.pending bytes)) where
  pub spot_within : Within spot
  spot_within = go spot refl
    where
      go : (x : Spot) → spot ≡ x → Within x
      go Nowhere q = tt
      go (At base size) q =
          le_trans (table-within (file_list load) _ _ base size (sym e ∙ q))
          (total_passes load.files load.count y.inside.passes)

  pub spot_fits : Fits load.running.pending spot
  spot_fits = go load.running.pending refl
    where
      go : (o : Open) → load.running.pending ≡ o → Fits o spot
      go Shut q = tt
      go (Table held m) q = tt
      go (Record tag w m) q =
          let r = record_opened load tag w m q (fits_same load.running.pending load ∙ y.inside.fits)
          y.inside.passes in
          let f : spot ≡ At r.base r.size =
          e ∙ ap (λ (x : Open). tag_spot (file_list load) (wanted_tag x bytes)) q ∙ r.place in
          subst (Fits (Record tag w m)) (sym f) r.fits

pub reaches : (v : Verdict) (to n : ℕ) → v ≡ Passes to → Reaches v n → to ≡ n
reaches v to n e h = subst (λ (x : Verdict). Reaches x n) e h

-- an owner that keeps the end beside the place: the walk goes on, or it stopped and no byte is left to look at
pub record GoesOn (capacity p1 : ℕ) (d : List ℕ) (from : Paced) (at : ℕ) (load : Loading)
    (area : List ℕ) : Type 0 where
  pub place : ℕ
  pub going : Going capacity p1 d from at place load area

pub record Stopped (e : End) (d : List ℕ) (from : Paced) (at : ℕ) (load : Loading) (area : List ℕ) : Type 0 where
  pub place : ℕ
  pub behind : length d ≤ at
  pub walked : Walked e place load area from

abbrev pub Pacing : End → ℕ → ℕ → List ℕ → Paced → ℕ → Loading → List ℕ → Type 0
Pacing end.Done capacity p1 d from at load area = GoesOn capacity p1 d from at load area
Pacing (end.Asked t) capacity p1 d from at load area = Stopped (end.Asked t) d from at load area
Pacing (end.Failed w) capacity p1 d from at load area = Stopped (end.Failed w) d from at load area

module _ (capacity p1 : ℕ) (d : List ℕ) (from : Paced) (at : ℕ) (load : Loading) (area : List ℕ) where
  -- while bytes are left to look at, it goes on
  pub goes_now : (e : End) → Pacing e capacity p1 d from at load area → at < length d
      → GoesOn capacity p1 d from at load area
  goes_now end.Done k h = k
  goes_now (end.Asked t) k h = absurd (omega (arith, k.behind))
  goes_now (end.Failed w) k h = absurd (omega (arith, k.behind))

  -- and where none is left it has ended so
  pub ended_so : (e : End) → Pacing e capacity p1 d from at load area → length d ≤ at
      → (end_of e (state_of load area) ≡ from.result) × Steady area_size (state_of load area)
  ended_so end.Done k h = let w = rests_so capacity p1 d from at k.place load area k.going h in
      (w.ends, w.steady)
  ended_so (end.Asked t) k h = (k.walked.ends, k.walked.steady)
  ended_so (end.Failed w) k h = (k.walked.ends, k.walked.steady)

  pub paces_on : (e : End) → Pacing e capacity p1 d from at load area → at < length d
      → {to place : ℕ} {l : Loading} {a : List ℕ}
      → Going capacity p1 d from to place l a → Pacing e capacity p1 d from to l a
  paces_on end.Done k h g = record { place = _; going = g }
  paces_on (end.Asked t) k h g = absurd (omega (arith, k.behind))
  paces_on (end.Failed w) k h g = absurd (omega (arith, k.behind))
